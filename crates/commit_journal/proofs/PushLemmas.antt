-- One entry more: each array has a part more behind its others.
use Rattle.std.proofs.Common.{◌≡◌, ℕ, ◌+◌, List, [], ◌∷◌, ◌++◌, ◌∙◌, ap, arith, length, length-append, subst, sym}
use Rattle.std.proofs.lemmas.List.{length_push, map-append}
use Rattle.rule_base.specs.declared.change.Piece.{Piece}
use Rattle.rule_base.specs.declared.element.Element.{Element}
use Rattle.commit_journal.specs.declared.firing.Firing.{Firing}
use Rattle.commit_journal.specs.Entries.{entry_with}
use Rattle.commit_journal.specs.Firings.{born_ends, entries_of}
use Rattle.commit_journal.specs.Flat.{AreParallel}
use Rattle.commit_journal.specs.Lists.{Kept, RiseTo}
use Rattle.commit_journal.specs.Newborns.{Made}
use Rattle.commit_journal.proofs.CutLemmas.{RiseTo-push}
use Rattle.commit_journal.proofs.EntryLemmas.{entries_of-push}

-- an entry: its firing, with its tags, its removed tags, its born elements and its pieces
pub record Entering : Type 0 where
  pub firing : Firing
  pub tags : List ℕ
  pub gone : List ℕ
  pub born : List Element
  pub pieces : List Piece

-- the arrays after the entry has come in
pub record Enters (e : Entering) (firings firings' : List Firing) (tags tags' gone gone' : Kept ℕ) (made made' : Made) (pieces pieces' : Kept Piece) : Type 0 where
  pub of_firings : firings' ≡ firings ++ e.firing ∷ []
  pub of_tags : tags'.lists ≡ tags.lists ++ e.tags ∷ []
  pub of_gone : gone'.lists ≡ gone.lists ++ e.gone ∷ []
  pub of_made : made'.elements ≡ made.elements ++ e.born
  pub of_pieces : pieces'.lists ≡ pieces.lists ++ e.pieces ∷ []
  pub end : e.firing.born ≡ length made'.elements

pub length-made : (e : Entering) (firings firings' : List Firing) (tags tags' gone gone' : Kept ℕ) (made made' : Made) (pieces pieces' : Kept Piece)
    → Enters e firings firings' tags tags' gone gone' made made' pieces pieces' → length made'.elements ≡ length made.elements + length e.born
length-made e firings firings' tags tags' gone gone' made made' pieces pieces' enters = ap length enters.of_made ∙ length-append made.elements e.born

pub AreParallel-push : (e : Entering) (firings firings' : List Firing) (tags tags' gone gone' : Kept ℕ) (made made' : Made) (pieces pieces' : Kept Piece)
    → AreParallel firings tags gone made pieces → Enters e firings firings' tags tags' gone gone' made made' pieces pieces' → AreParallel firings' tags' gone' made' pieces'
AreParallel-push e firings firings' tags tags' gone gone' made made' pieces pieces' shape enters =
    let f = e.firing in
    let count : length firings' ≡ length firings + 1 = ap length enters.of_firings ∙ length_push firings f in
    let of_tags : length tags'.lists ≡ length tags.lists + 1 = ap length enters.of_tags ∙ length_push tags.lists e.tags in
    let of_gone : length gone'.lists ≡ length gone.lists + 1 = ap length enters.of_gone ∙ length_push gone.lists e.gone in
    let of_pieces : length pieces'.lists ≡ length pieces.lists + 1 = ap length enters.of_pieces ∙ length_push pieces.lists e.pieces in
    let of_made = length-made e firings firings' tags tags' gone gone' made made' pieces pieces' enters in
    let ends : born_ends firings' ≡ born_ends firings ++ f.born ∷ [] = ap born_ends enters.of_firings ∙ map-append (λ (x : Firing). x.born) firings (f ∷ []) in
    let rise : RiseTo 0 (born_ends firings ++ f.born ∷ []) f.born = RiseTo-push 0 (born_ends firings) (length made.elements) f.born shape.with_born (omega (arith, of_made, enters.end)) in
    record {
      with_tags = omega (arith, of_tags, count, shape.with_tags);
      with_gone = omega (arith, of_gone, count, shape.with_gone);
      with_pieces = omega (arith, of_pieces, count, shape.with_pieces);
      with_born = subst (RiseTo 0 (born_ends firings')) enters.end (subst (λ es. RiseTo 0 es f.born) (sym ends) rise);
    }

pub entries_of-enters : (e : Entering) (firings firings' : List Firing) (tags tags' gone gone' : Kept ℕ) (made made' : Made) (pieces pieces' : Kept Piece)
    → AreParallel firings tags gone made pieces → Enters e firings firings' tags tags' gone gone' made made' pieces pieces'
    → entries_of firings' tags'.lists gone'.lists made'.elements pieces'.lists ≡ entries_of firings tags.lists gone.lists made.elements pieces.lists ++ entry_with e.firing.rule e.tags e.gone e.born e.pieces e.firing.halts ∷ []
entries_of-enters e firings firings' tags tags' gone gone' made made' pieces pieces' shape enters =
    let f = e.firing in
    let end : f.born ≡ length made.elements + length e.born = enters.end ∙ length-made e firings firings' tags tags' gone gone' made made' pieces pieces' enters in
    ap (λ fs. entries_of fs tags'.lists gone'.lists made'.elements pieces'.lists) enters.of_firings
    ∙ ap (λ ts. entries_of (firings ++ f ∷ []) ts gone'.lists made'.elements pieces'.lists) enters.of_tags
    ∙ ap (λ gs. entries_of (firings ++ f ∷ []) (tags.lists ++ e.tags ∷ []) gs made'.elements pieces'.lists) enters.of_gone
    ∙ ap (λ es. entries_of (firings ++ f ∷ []) (tags.lists ++ e.tags ∷ []) (gone.lists ++ e.gone ∷ []) es pieces'.lists) enters.of_made
    ∙ ap (λ ps. entries_of (firings ++ f ∷ []) (tags.lists ++ e.tags ∷ []) (gone.lists ++ e.gone ∷ []) (made.elements ++ e.born) ps) enters.of_pieces
    ∙ entries_of-push firings tags.lists gone.lists made.elements pieces.lists f e.tags e.gone e.born e.pieces shape.with_tags shape.with_gone shape.with_pieces shape.with_born end
