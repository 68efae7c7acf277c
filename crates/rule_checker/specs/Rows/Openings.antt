-- What a memory file adds to the opening memory.
use Rattle.std.specs.Prelude.{◌≡◌, [], ◌∷◌, pos, Ok, Err}
use Rattle.rule_base.specs.declared.value.Value.TheVariants.{Int, Sym}
use Rattle.rule_base.specs.declared.program.Program.{Program}
use Rattle.ops_reader.specs.declared.form.Form.TheVariants as form
use Rattle.rule_checker.specs.declared.refusal.CheckKind.TheVariants.{UnknownClass, UnknownAttribute, NotInitial}
use Rattle.rule_checker.specs.Opening.{opening_list}
use Rattle.rule_checker.specs.Rows.Written.{declare_a}

-- (literalize a x)(make a ^x 1)
abbrev pub one_make : Program
one_make = record { classes = record { name = 1; attrs = 2 ∷ [] } ∷ []; rules = []; makes = (0, Int (pos 1) ∷ []) ∷ [] }

pub record AreOpenings : Type 0 where
  -- without a memory file
  pub program_alone : opening_list one_make [] ≡ Ok (record { tag = 1; class = 0; values = Int (pos 1) ∷ [] } ∷ [])
  -- (make a): tags go on over both
  pub tags_go_on : opening_list one_make (form.Make 1 [] ∷ [])
      ≡ Ok (record { tag = 1; class = 0; values = Int (pos 1) ∷ [] } ∷ record { tag = 2; class = 0; values = Sym 0 ∷ [] } ∷ [])
  -- (make a)(make b)
  pub unknown_class : opening_list one_make (form.Make 1 [] ∷ form.Make 6 [] ∷ []) ≡ Err (record { form = 2; kind = UnknownClass })
  -- (make a ^y 1)
  pub unknown_attribute : opening_list one_make (form.Make 1 ((7, Int (pos 1)) ∷ []) ∷ []) ≡ Err (record { form = 1; kind = UnknownAttribute })
  -- (make a)(literalize a x) and (watch 0)
  pub no_class : opening_list one_make (form.Make 1 [] ∷ declare_a ∷ []) ≡ Err (record { form = 2; kind = NotInitial })
  pub no_watch : opening_list one_make (form.Watch 0 ∷ []) ≡ Err (record { form = 1; kind = NotInitial })
