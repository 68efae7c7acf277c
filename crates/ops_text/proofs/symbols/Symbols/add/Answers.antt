-- A new name goes last, and is like none before it.
use Rattle.std.proofs.Common.{◌≡◌, ◌∷◌, [], ◌++◌, map, Vec, Global, ℕ, false, length, sym, ap, ◌∙◌}
use Rattle.std.specs.List.{list_any}
use Rattle.std.specs.Str.{bytes_eq}
use Rattle.std.proofs.lemmas.List.{length-map}
use Rattle.ops_text.proofs.NamesLemmas.{AreNames-push, map-insert_key, slice_get-push}
use Rattle.ops_text.proofs.symbols.Symbols.add.Goals as goal

-- the names that are stored in the end
stored : (c : goal.In_ok-insert) → map (λ (name : Vec ℕ Global). name.items) c.insert.new.self.keys ≡ c.args.self.now ++ c.args.bytes.now ∷ []
stored c =
    let known = map (λ (name : Vec ℕ Global). name.items) c.self.inside.names.keys in
    let new : list_any (bytes_eq c.in_ok-from_slice.field-0.items) known ≡ false = rw (c.in_ok-from_slice.ensures.items, c.self.view_is) c.requires.new in
    ap (map (λ (name : Vec ℕ Global). name.items)) c.in_ok-insert.ensures.keys
    ∙ map-insert_key (λ name. name.items) c.self.inside.names.keys c.in_ok-from_slice.field-0 new
    ∙ rw (c.in_ok-from_slice.ensures.items, c.self.view_is)

pub invariant_of-self-2 : goal.invariant_of-self-2
invariant_of-self-2 c = rw (stored c, ← c.self.view_is) (AreNames-push _ _ c.self.invariant (rw c.self.view_is c.requires.few) (rw c.self.view_is c.requires.new))

pub returns-clause-names : goal.returns-clause-names
returns-clause-names c = stored c

pub returns-clause-given : goal.returns-clause-given
returns-clause-given c =
    let last : c.len-number.result ≡ length c.args.self.now = rw (← c.self.view_is) (c.len-number.ensures.len ∙ sym (length-map _ _)) in
    rw (stored c, last) (slice_get-push c.args.self.now _)
