-- Texts with their forms and names, and texts that are none.
use Rattle.std.specs.Prelude.{◌≡◌, ℕ, pos, negsuc, true, false, List, [], ◌∷◌, ◌++◌, Option, Some, None, codes, replicate}
use Rattle.std.specs.Str.{byte}
use Rattle.ops_text.specs.Names.{Names}
use Rattle.rule_base.specs.declared.value.Value.TheVariants.{Int, Sym}
use Rattle.ops_reader.specs.declared.form.Form.{Form}
use Rattle.ops_reader.specs.declared.form.Form.TheVariants.{Literalize, P, Make, Strategy, Watch}
use Rattle.ops_reader.specs.declared.form.Simple.TheVariants.{Plain}
use Rattle.ops_reader.specs.declared.form.FormArg.TheVariants.{Con, Name}
use Rattle.ops_reader.specs.declared.form.FormAction.TheVariants as an_action
use Rattle.ops_reader.specs.declared.form.At.TheVariants as a_place
use Rattle.ops_reader.specs.declared.form.FormTerm.TheVariants as a_term
use Rattle.ops_reader.specs.declared.form.FormItem.TheVariants.{Put}
use Rattle.ops_reader.specs.declared.part.FormPart.TheVariants as of_form
use Rattle.ops_tokens.specs.Tokens.{tokens_of}
use Rattle.ops_reader.specs.Reading.{Read, start, run}

-- the forms and the names of a text that is read with `nil` alone, or the part of a form that is open at its end, or none
abbrev pub read_of : List ℕ → Option Read
read_of text = run (start (codes "nil" ∷ [])) (tokens_of text)

-- the text has these forms, and these names are new
abbrev pub IsRead : List ℕ → List Form → Names → Type 0
IsRead text forms names = read_of text ≡ Some (record { names = codes "nil" ∷ names; forms = forms; part = of_form.Nothing })

-- no text begins so
abbrev pub BeginsNoText : List ℕ → Type 0
BeginsNoText text = read_of text ≡ None

pub record AreFormRows : Type 0 where
  pub empty : IsRead [] [] []
  pub comment : IsRead (codes "; only words") [] []
  pub class : IsRead (codes "(literalize a x y)") (Literalize 1 (2 ∷ 3 ∷ []) ∷ []) (codes "a" ∷ codes "x" ∷ codes "y" ∷ [])
  pub barred : IsRead (codes "(literalize |a b| a)") (Literalize 1 (2 ∷ []) ∷ []) (codes "a b" ∷ codes "a" ∷ [])
  pub lex : IsRead (codes "(strategy lex)") (Strategy false ∷ []) []
  pub mea : IsRead (codes "(strategy mea)(watch 3)") (Strategy true ∷ Watch 3 ∷ []) []
  -- at a symbol's place a keyword is a symbol, and a name that came before keeps its number
  pub keyword_as_class : IsRead (codes "(make make ^p nil ^make -7)")
      (Make 1 ((2, Sym 0) ∷ (1, Int (negsuc 6)) ∷ []) ∷ [])
      (codes "make" ∷ codes "p" ∷ [])
  -- signs are literals
  pub literals : IsRead (codes "(make a ^x << ^x --> ^x <= ^x -)")
      (Make 1 ((2, Sym 3) ∷ (2, Sym 4) ∷ (2, Sym 5) ∷ (2, Sym 6) ∷ []) ∷ [])
      (codes "a" ∷ codes "x" ∷ codes "<<" ∷ codes "-->" ∷ codes "<=" ∷ codes "-" ∷ [])
  pub rule : IsRead (codes "(p r (a ^x <x> ^y 3) --> (make a ^x x) (remove 1 2) (write <x> 4))")
      (P 1 (record {
        negated = false;
        named = None;
        class = 2;
        tests = (3, Plain (Name 3) ∷ []) ∷ (4, Plain (Con (Int (pos 3))) ∷ []) ∷ [];
      } ∷ [])
      (an_action.Make 2 ((3, a_term.Con (Sym 3)) ∷ [])
      ∷ an_action.Remove (a_place.Number (pos 1) ∷ a_place.Number (pos 2) ∷ [])
      ∷ an_action.Write (Put (a_term.Name 3) ∷ Put (a_term.Con (Int (pos 4))) ∷ []) ∷ []) ∷ [])
      (codes "r" ∷ codes "a" ∷ codes "x" ∷ codes "y" ∷ [])

pub record AreRefusedRows : Type 0 where
  pub no_condition : BeginsNoText (codes "(p r -->")
  pub no_designator : BeginsNoText (codes "(p r (a) --> (remove)")
  pub no_value : BeginsNoText (codes "(p r (a) --> (bind <v>)")
  pub barred_keyword : BeginsNoText (codes "(|make|")
  pub variable_at_the_top : BeginsNoText (codes "(make a ^x <v>")
  pub quote : BeginsNoText (codes "(make a ^x //")
  pub float : BeginsNoText (codes "(make a ^x 1.5")
  pub two_values : BeginsNoText (codes "(make a ^x - 5")
  pub misspelt : BeginsNoText (codes "(literalise")
  pub closed_twice : BeginsNoText (codes "(make a))")
  pub strategy : BeginsNoText (codes "(strategy a")
  pub too_much_to_tell : BeginsNoText (codes "(watch 4")
  pub too_little_to_tell : BeginsNoText (codes "(watch -1")
  pub negated_and_named : BeginsNoText (codes "(p r - {")
  pub named_and_negated : BeginsNoText (codes "(p r { <e> -")
  pub named_twice : BeginsNoText (codes "(p r { <e> (a) <f>")
  pub named_by_a_symbol : BeginsNoText (codes "(p r { (a) e")
  pub variable_among_constants : BeginsNoText (codes "(p r (a ^x << <v>")
  pub two_predicates : BeginsNoText (codes "(p r (a ^x > <")
  pub too_far : BeginsNoText (codes "(p r (a) --> (write (tabto 256")
  pub barred_operator : BeginsNoText (codes "(p r (a) --> (write (compute 1 |+|")
  pub signed_number : BeginsNoText (codes "(p r (a) --> (write (compute 10 -4")
  pub too_deep : BeginsNoText (codes "(p r (a) --> (write (compute " ++ replicate 33 (byte "("))
