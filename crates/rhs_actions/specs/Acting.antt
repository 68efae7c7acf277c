-- How far a right-hand side has come, and what each kind of action makes of it.
use Rattle.std.specs.Prelude.{ℕ, List, [], ◌∷◌, ◌++◌, true, Result, Ok, fold, replicate, slice_get}
use Rattle.rule_base.specs.declared.element.Element.{Element}
use Rattle.rule_base.specs.declared.action.Term.{Term}
use Rattle.rule_base.specs.declared.action.Item.{Item}
use Rattle.rule_base.specs.declared.change.Change.TheVariants as change
use Rattle.rule_base.specs.declared.entry.FaultCause.{FaultCause}
use Rattle.rule_base.specs.Chains.{◌>>=◌}
use Rattle.rule_base.specs.Value.{nil}
use Rattle.rule_base.specs.Bindings.{Bindings, bound}
use Rattle.rule_base.specs.Term.{after_sets, item_pieces, term_value}
use Rattle.rule_base.specs.Effect.{Effect, Progress, after_remove, changing}

-- a right-hand side that has come to these bindings and has done this
abbrev pub reached : Bindings → Effect → Progress
reached bindings done = record { bindings = bindings; done = done }

-- a list with what is put behind it, where there is that
abbrev pub behind : {X : Type 0} → List X → Result (List X) FaultCause → Result (List X) FaultCause
behind old more = more >>= λ xs. Ok (old ++ xs)

-- a make, of a class with so many attributes
abbrev pub made : ℕ → ℕ → List (ℕ × Term) → Progress → Result Progress FaultCause
made class size sets p = after_sets p.bindings sets (replicate size nil) >>= λ values. Ok (changing p (change.Make class values ∷ []))

-- a write
abbrev pub written : List Item → Progress → Result Progress FaultCause
written items p =
    item_pieces p.bindings items >>= λ more.
    Ok (record p { done = record { changes = p.done.changes; pieces = p.done.pieces ++ more; halts = p.done.halts } })

-- a bind
abbrev pub after_bind : Bindings → ℕ → Term → Result Bindings FaultCause
after_bind bindings var term = term_value bindings term >>= λ value. Ok (bound bindings var value)

-- removes of the designated elements, one after another
abbrev pub after_removes : List Element → List ℕ → Progress → Progress
after_removes elements ats p = fold (λ before at. after_remove (slice_get elements at) before) p ats

-- the effect with one removal more
abbrev pub removed : Effect → ℕ → Effect
removed done tag = record { changes = done.changes ++ change.Remove tag ∷ []; pieces = done.pieces; halts = done.halts }

-- the effect that halts the run
abbrev pub halted : Effect → Effect
halted done = record { changes = done.changes; pieces = done.pieces; halts = true }
