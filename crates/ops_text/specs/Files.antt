-- Files that are kept in memory, each a name with its bytes.
use Rattle.std.specs.Prelude.{◌≡◌, ℕ, ◌-◌, List, [], ◌++◌, Option, String, Vec, unwrap_or, find, length, take, drop, min, string_bytes}
use Rattle.std.specs.declared.alloc.Global.{Global}
use Rattle.std.specs.Option.{option_map}
use Rattle.std.specs.Str.{bytes_eq}

-- the bytes of the first file with this name, if there is one
abbrev pub first_file : List (String Global × Vec ℕ Global) → List ℕ → Option (List ℕ)
first_file files name = option_map (λ file. file.1.items) (find (λ file. bytes_eq (string_bytes file.0) name) files)

-- the same, where a name without a file is that of an empty one
abbrev pub file_or_empty : List (String Global × Vec ℕ Global) → List ℕ → List ℕ
file_or_empty files name = unwrap_or (first_file files name) []

-- so many bytes of the file, from this place on, were put at the front of a buffer: as many as there are and as it has room for
pub record Copies (file : List ℕ) (at : ℕ) (before after : List ℕ) (count : ℕ) : Type 0 where
  pub all : count ≡ min (length file - at) (length before)
  pub bytes : after ≡ take count (drop at file) ++ drop count before
