-- What a sink holds, where it tells that: bytes, or none where it tells nothing.
use Rattle.std.specs.Prelude.{◌≡◌, ℕ, ◌-◌, ◌<◌, List, ◌++◌, Option, Vec, length, take, vec_len, vec_capacity}
use Rattle.std.specs.declared.alloc.Global.{Global}
use Rattle.std.specs.Option.{option_map}

-- these bytes came after what the sink held, and it tells as before
abbrev pub Extends : Option (List ℕ) → Option (List ℕ) → List ℕ → Type 0
Extends before after bytes = after ≡ option_map (λ held. held ++ bytes) before

-- a part of the bytes, from their first on and not to their last, came after what the sink held
abbrev pub ExtendsInPart : Option (List ℕ) → Option (List ℕ) → List ℕ → Type 0
ExtendsInPart before after bytes = (taken : ℕ) × (taken < length bytes) × Extends before after (take taken bytes)

-- how many more bytes there is room for
abbrev pub room_left : Vec ℕ Global → ℕ
room_left held = vec_capacity held - vec_len held
