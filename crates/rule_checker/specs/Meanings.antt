-- Worked rows: what short rules mean as they are written. The names have the numbers a 1, x 2, r 3, v 4, e 5, b 6, y 7 and
-- w 8, behind (literalize a x)(literalize b y).
use Rattle.std.specs.Prelude.{◌≡◌, ℕ, ℤ, List, [], ◌∷◌, false, Option, Some, None, pos, Result, Ok, Err}
use Rattle.rule_base.specs.declared.value.Value.TheVariants.{Int, Sym}
use Rattle.rule_base.specs.declared.element.Element.{Element}
use Rattle.rule_base.specs.declared.condition.Pred.TheVariants.{Gt, Le, Same}
use Rattle.rule_base.specs.declared.program.Class.{Class}
use Rattle.rule_base.specs.declared.change.Change.{Change}
use Rattle.rule_base.specs.declared.change.Change.TheVariants as change
use Rattle.rule_base.specs.declared.entry.FaultCause.TheVariants.{Gone}
use Rattle.rule_base.specs.Memory.{Memory}
use Rattle.rule_base.specs.Effect.{Effect, Failure}
use Rattle.ops_reader.specs.declared.form.FormArg.TheVariants.{Con, Name}
use Rattle.ops_reader.specs.declared.form.Simple.{Simple}
use Rattle.ops_reader.specs.declared.form.Simple.TheVariants.{Plain, Cmp, OneOf}
use Rattle.ops_reader.specs.declared.form.At.TheVariants as at
use Rattle.ops_reader.specs.declared.form.FormTerm.TheVariants as term
use Rattle.ops_reader.specs.declared.form.FormCond.{FormCond}
use Rattle.ops_reader.specs.declared.form.FormAction.{FormAction}
use Rattle.ops_reader.specs.declared.form.FormAction.TheVariants as action
use Rattle.rule_checker.specs.Rows.Written.{uses, positive, negated, named_e, bind, modify_e}
use Rattle.rule_checker.specs.NamedBindings.{NamedValues}
use Rattle.rule_checker.specs.WrittenConditions.{accepts_written}
use Rattle.rule_checker.specs.WrittenMatch.{written_match}
use Rattle.rule_checker.specs.WrittenEffect.{written_effect}

-- the classes a and b
abbrev pub a_and_b : List Class
a_and_b = record { name = 1; attrs = 2 ∷ [] } ∷ record { name = 6; attrs = 7 ∷ [] } ∷ []

-- an element (a ^x z), and one (b ^y z)
abbrev pub an_a : ℕ → ℤ → Element
an_a tag z = record { tag = tag; class = 0; values = Int z ∷ [] }

abbrev pub a_b : ℕ → ℤ → Element
a_b tag z = record { tag = tag; class = 1; values = Int z ∷ [] }

-- <v> has this value
abbrev pub v_is : ℤ → NamedValues
v_is z = (4, Int z) ∷ []

-- the bindings with which (a ^x { tests }) accepts an element (a ^x z), where nothing is bound
abbrev pub after_a : List Simple → ℤ → Option NamedValues
after_a tests z = accepts_written a_and_b (positive 1 ((2, tests) ∷ [])) [] (an_a 1 z)

pub record AreTestMeanings : Type 0 where
  -- the first use of a variable binds it, and a later one asks for an equal value
  pub first_use : after_a (Plain (Name 4) ∷ []) (pos 7) ≡ Some (v_is (pos 7))
  pub later_use : accepts_written a_and_b (positive 6 (uses 7 4 ∷ [])) (v_is (pos 7)) (a_b 2 (pos 7)) ≡ Some (v_is (pos 7))
  pub other_value : accepts_written a_and_b (positive 6 (uses 7 4 ∷ [])) (v_is (pos 7)) (a_b 2 (pos 8)) ≡ None
  -- an element of another class isn't accepted, though it has a value at the same place
  pub other_class : accepts_written a_and_b (positive 6 (uses 7 4 ∷ [])) [] (an_a 1 (pos 7)) ≡ None
  -- { <v> > 5 <= <v> } is passed by 7, and not by 5
  pub in_braces : after_a (Plain (Name 4) ∷ Cmp Gt (Con (Int (pos 5))) ∷ Cmp Le (Name 4) ∷ []) (pos 7) ≡ Some (v_is (pos 7))
  pub not_in_braces : after_a (Plain (Name 4) ∷ Cmp Gt (Con (Int (pos 5))) ∷ Cmp Le (Name 4) ∷ []) (pos 5) ≡ None
  -- << 7 a >> and <=> a, of the value 7
  pub one_of_them : after_a (OneOf (Int (pos 7) ∷ Sym 1 ∷ []) ∷ []) (pos 7) ≡ Some []
  pub other_type : after_a (Cmp Same (Con (Sym 1)) ∷ []) (pos 7) ≡ None

-- the match of a rule r with these tags
abbrev pub match_with : List FormCond → List ℕ → Memory → Result NamedValues ℕ
match_with conds tags memory = written_match a_and_b (record { name = 3; conds = conds; actions = [] }) tags memory

pub record AreMatchMeanings : Type 0 where
  -- (a ^x <v>) -(b ^y > <v>): the negated one sees what is bound to its left
  pub nothing_greater : match_with (positive 1 (uses 2 4 ∷ []) ∷ negated 6 ((7, Cmp Gt (Name 4) ∷ []) ∷ []) ∷ []) (1 ∷ []) (an_a 1 (pos 5) ∷ a_b 2 (pos 3) ∷ []) ≡ Ok (v_is (pos 5))
  pub something_greater : match_with (positive 1 (uses 2 4 ∷ []) ∷ negated 6 ((7, Cmp Gt (Name 4) ∷ []) ∷ []) ∷ []) (1 ∷ []) (an_a 1 (pos 5) ∷ a_b 2 (pos 9) ∷ []) ≡ Err 2
  -- (a) -(b ^y { <v> > 5 }) (a ^x <v>): the last <v> is another one, though 3 was bound on the way
  pub its_own : match_with (positive 1 [] ∷ negated 6 ((7, Plain (Name 4) ∷ Cmp Gt (Con (Int (pos 5))) ∷ []) ∷ []) ∷ positive 1 (uses 2 4 ∷ []) ∷ []) (1 ∷ 1 ∷ []) (an_a 1 (pos 9) ∷ a_b 2 (pos 3) ∷ [])
      ≡ Ok (v_is (pos 9))
  -- a tag that isn't there, one too few and one too many
  pub not_there : match_with (positive 1 [] ∷ []) (3 ∷ []) (an_a 1 (pos 9) ∷ []) ≡ Err 1
  pub too_few : match_with (positive 1 [] ∷ positive 6 [] ∷ []) (1 ∷ []) (an_a 1 (pos 9) ∷ []) ≡ Err 2
  pub too_many : match_with (positive 1 [] ∷ []) (1 ∷ 1 ∷ []) (an_a 1 (pos 9) ∷ []) ≡ Err 2

-- the effect of a rule r with these elements, under these bindings
abbrev pub effect_with : List FormCond → List FormAction → List Element → NamedValues → Result Effect Failure
effect_with conds actions elements bindings = written_effect a_and_b (record { name = 3; conds = conds; actions = actions }) elements bindings

-- these changes, and nothing written
abbrev pub changing : List Change → Result Effect Failure
changing changes = Ok (record { changes = changes; pieces = []; halts = false })

pub record AreActionMeanings : Type 0 where
  -- (a ^x <v>) --> (make b ^y <v>) (bind <v> 1) (make b ^y <v>): the later value counts behind the bind
  pub bound_again : effect_with (positive 1 (uses 2 4 ∷ []) ∷ []) (action.Make 6 ((7, term.Name 4) ∷ []) ∷ bind 4 (term.Con (Int (pos 1))) ∷ action.Make 6 ((7, term.Name 4) ∷ []) ∷ []) (an_a 1 (pos 7) ∷ []) (v_is (pos 7))
      ≡ changing (change.Make 1 (Int (pos 7) ∷ []) ∷ change.Make 1 (Int (pos 1) ∷ []) ∷ [])
  -- (a) -(b) { <e> (b) } --> (remove <e> 1 2): <e> and 2 are the same element, which is removed once
  pub designated : effect_with (positive 1 [] ∷ negated 6 [] ∷ named_e 6 ∷ []) (action.Remove (at.Name 5 ∷ at.Number (pos 1) ∷ at.Number (pos 2) ∷ []) ∷ []) (an_a 1 (pos 7) ∷ a_b 4 (pos 8) ∷ []) []
      ≡ changing (change.Remove 4 ∷ change.Remove 1 ∷ [])
  -- { <e> (b) } --> (modify <e> ^y 1) (modify <e> ^y 1): the second one fails
  pub modified : effect_with (named_e 6 ∷ []) (modify_e 7 ∷ []) (a_b 4 (pos 8) ∷ []) [] ≡ changing (change.Remove 4 ∷ change.Make 1 (Int (pos 1) ∷ []) ∷ [])
  pub modified_twice : effect_with (named_e 6 ∷ []) (modify_e 7 ∷ modify_e 7 ∷ []) (a_b 4 (pos 8) ∷ []) [] ≡ Err (record { action = 2; cause = Gone })
