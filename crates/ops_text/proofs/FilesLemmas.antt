-- How a file that is read from its front on comes together.
use Rattle.std.proofs.Common.{◌≡◌, ℕ, ◌+◌, ◌≤◌, List, ◌++◌, take, drop, length, sym, ap, ◌∙◌, arith}
use Rattle.std.proofs.lemmas.List.{take_all, length-take}
use Rattle.std.proofs.Math.Seq.{take-add}

-- a front that is as long as the file is the file
pub front_is_whole : (front file : List ℕ) (count : ℕ) → front ≡ take count file → length file ≤ count → front ≡ file
front_is_whole front file count read end = read ∙ take_all count file end

-- a front is no longer than the file
pub front_within : (front file : List ℕ) (count : ℕ) → front ≡ take count file → count ≡ length front → count ≤ length file
front_within front file count read long = omega (arith, ap length read, length-take count file)

-- a front and the piece after it are a front
pub front_grows : (front piece file : List ℕ) (count more : ℕ) → front ≡ take count file → piece ≡ take more (drop count file) → front ++ piece ≡ take (count + more) file
front_grows front piece file count more read next = rw (read, next) (sym (take-add count more file))
