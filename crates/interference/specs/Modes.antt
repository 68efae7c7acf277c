-- Modes: which of them go together on a lock, and what asking in two of them comes to.
use Rattle.std.specs.Prelude.{ℕ, List, [], ◌∷◌, Bool, true, false, Option, Some, None, ◌==◌}
use Rattle.rule_base.specs.declared.lock.Mode.{Mode}
use Rattle.rule_base.specs.declared.lock.Mode.TheVariants.{Watch, Grow, Own}
use Rattle.rule_base.specs.Chains.{only_if}

-- whether two firings may hold a lock in these modes side by side: many may watch, or many may grow, or one may own
abbrev pub goes : Mode → Mode → Bool
goes Watch Watch = true
goes Watch Grow = false
goes Watch Own = false
goes Grow Watch = false
goes Grow Grow = true
goes Grow Own = false
goes Own Watch = false
goes Own Grow = false
goes Own Own = false

-- the mode of one who asks for a lock in both: to watch it and to grow it is to own it
abbrev pub both : Mode → Mode → Mode
both Watch Watch = Watch
both Watch Grow = Own
both Watch Own = Own
both Grow Watch = Own
both Grow Grow = Grow
both Grow Own = Own
both Own Watch = Own
both Own Grow = Own
both Own Own = Own

-- the same where one may not ask
abbrev pub joined : Option Mode → Option Mode → Option Mode
joined None other = other
joined (Some mode) None = Some mode
joined (Some mode) (Some other) = Some (both mode other)

-- the mode in which a list of demands asks for a lock, if it does: a demand is a lock with a mode
abbrev pub asks : List (ℕ × Mode) → ℕ → Option Mode
asks [] lock = None
asks (demand ∷ demands) lock = joined (only_if (demand.0 == lock) demand.1) (asks demands lock)
