-- The entry of the firing is behind the others, and so are its parts in each array.
use Rattle.std.proofs.Common.{◌≡◌, ◌+◌, ◌-◌, ◌≤◌, [], ◌∷◌, ◌++◌, ◌∙◌, ap, arith, length, length-append, refl, subst, sym}
use Rattle.std.specs.Prelude.{vec_capacity, vec_len}
use Rattle.rule_base.specs.Effect.{removed_tags}
use Rattle.rule_base.specs.Step.{born, entry_of}
use Rattle.commit_journal.specs.declared.firing.Firing.{Firing}
use Rattle.commit_journal.specs.declared.room.Room.{Room}
use Rattle.commit_journal.specs.Entries.{Recorded}
use Rattle.commit_journal.specs.Firings.{entries_of}
use Rattle.commit_journal.specs.Flat.{HaveRoom}
use Rattle.commit_journal.specs.Room.{FitsIn, room_for, room_without}
use Rattle.commit_journal.proofs.PushLemmas.{AreParallel-push, Entering, Enters, entries_of-enters}
use Rattle.commit_journal.proofs.RoomLemmas.{HaveRoom-push}
use Rattle.commit_journal.proofs.journal.Journal.commit.Goals as goal

pub invariant_of-self : goal.invariant_of-self
invariant_of-self g c =
    let inside = c.self.inside in
    let done = c.args.effect.now in
    let made = born inside.newborns.next done.changes in
    let f : Firing = record { rule = c.args.rule; born = c.len-len.result; halts = c.halts.result } in
    let firings = c.push_reserved.new.self in
    let newborns = c.extend_made-values in
    let need : Room = room_for c.args.tags.now (removed_tags done.changes) made done.pieces in
    let fits : FitsIn need inside.room = subst (λ (s : Recorded). FitsIn (room_for c.args.tags.now (removed_tags done.changes) (born s.next done.changes) done.pieces) s.room) (sym c.self.view_is) c.requires.room in
    let capacity : vec_capacity inside.firings - vec_len inside.firings ≤ vec_capacity firings - vec_len firings + 1 = omega (arith, c.push_reserved.ensures.len, c.push_reserved.ensures.capacity) in
    let e : Entering = record { firing = f; tags = c.args.tags.now; gone = c.removed_tags.result.now; born = made; pieces = c.pieces.result.now } in
    let enters : Enters e inside.firings.items firings.items inside.tags c.push.new.self inside.gone c.push-2.new.self inside.newborns newborns.new.self inside.pieces c.push-3.new.self = record {
      of_firings = c.push_reserved.ensures.items;
      of_tags = c.push.ensures.lists;
      of_gone = c.push-2.ensures.lists;
      of_made = newborns.ensures.elements;
      of_pieces = c.push-3.ensures.lists;
      end = c.len-len.ensures;
    } in
    let long : length newborns.new.self.elements ≡ length inside.newborns.elements + length made = ap length newborns.ensures.elements ∙ length-append inside.newborns.elements made in
    let count : c.len-len.result - c.len-before.result ≡ length made = omega (arith, long, c.len-len.ensures, c.len-before.ensures) in
    let room_is : c.without-self-inside.result ≡ room_without inside.room need = cc (c.without-self-inside.ensures, count, newborns.ensures.count, c.removed_tags-2.ensures, c.pieces-2.ensures) in
    let of_gone = subst (λ gs. (inside.gone.more_lists ≤ c.push-2.new.self.more_lists + 1) × (inside.gone.more_items ≤ c.push-2.new.self.more_items + length gs)) c.removed_tags.ensures c.push-2.ensures.left in
    let of_pieces = subst (λ ps. (inside.pieces.more_lists ≤ c.push-3.new.self.more_lists + 1) × (inside.pieces.more_items ≤ c.push-3.new.self.more_items + length ps)) c.pieces.ensures c.push-3.ensures.left in (
      AreParallel-push e inside.firings.items firings.items inside.tags c.push.new.self inside.gone c.push-2.new.self inside.newborns newborns.new.self inside.pieces c.push-3.new.self c.self.invariant.0 enters,
      subst (λ (room : Room). HaveRoom room (vec_capacity firings - vec_len firings) c.push.new.self c.push-2.new.self newborns.new.self c.push-3.new.self) (sym room_is)
          (HaveRoom-push inside.room need (vec_capacity inside.firings - vec_len inside.firings) (vec_capacity firings - vec_len firings) inside.tags c.push.new.self inside.gone c.push-2.new.self inside.newborns newborns.new.self inside.pieces c.push-3.new.self
          c.self.invariant.1 fits refl capacity c.push.ensures.left of_gone of_pieces newborns.ensures.left newborns.ensures.next long),
    )

pub returns-clause-entries : goal.returns-clause-entries
returns-clause-entries g c =
    let inside = c.self.inside in
    let done = c.args.effect.now in
    let made = born inside.newborns.next done.changes in
    let f : Firing = record { rule = c.args.rule; born = c.len-len.result; halts = done.halts } in
    let firings : c.push_reserved.new.self.items ≡ inside.firings.items ++ f ∷ [] = c.push_reserved.ensures.items ∙ ap (λ halts. let x : Firing = record { rule = c.args.rule; born = c.len-len.result; halts = halts } in inside.firings.items ++ x ∷ []) c.halts.ensures in
    let e : Entering = record { firing = f; tags = c.args.tags.now; gone = removed_tags done.changes; born = made; pieces = done.pieces } in
    let enters : Enters e inside.firings.items c.push_reserved.new.self.items inside.tags c.push.new.self inside.gone c.push-2.new.self inside.newborns c.extend_made-values.new.self inside.pieces c.push-3.new.self = record {
      of_firings = firings;
      of_tags = c.push.ensures.lists;
      of_gone = c.push-2.ensures.lists ∙ ap (λ gs. inside.gone.lists ++ gs ∷ []) c.removed_tags.ensures;
      of_made = c.extend_made-values.ensures.elements;
      of_pieces = c.push-3.ensures.lists ∙ ap (λ ps. inside.pieces.lists ++ ps ∷ []) c.pieces.ensures;
      end = c.len-len.ensures;
    } in
    subst (λ (s : Recorded). entries_of c.push_reserved.new.self.items c.push.new.self.lists c.push-2.new.self.lists c.extend_made-values.new.self.elements c.push-3.new.self.lists ≡ s.entries ++ entry_of s.next (record { rule = c.args.rule; tags = c.args.tags.now }) done ∷ []) c.self.view_is
    (entries_of-enters e inside.firings.items c.push_reserved.new.self.items inside.tags c.push.new.self inside.gone c.push-2.new.self inside.newborns c.extend_made-values.new.self inside.pieces c.push-3.new.self c.self.invariant.0 enters)
