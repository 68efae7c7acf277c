-- The entry is behind the others, and so are its parts in each array.
use Rattle.std.proofs.Common.{◌≡◌, ◌+◌, ◌-◌, ◌≤◌, [], ◌∷◌, ◌++◌, ◌∙◌, ap, arith, length, length-append, refl, rules, subst, sym}
use Rattle.std.specs.Prelude.{vec_capacity, vec_len}
use Rattle.commit_journal.specs.declared.firing.Firing.{Firing}
use Rattle.commit_journal.specs.declared.room.Room.{Room}
use Rattle.commit_journal.specs.Entries.{Recorded, entry_with}
use Rattle.commit_journal.specs.Firings.{entries_of}
use Rattle.commit_journal.specs.Flat.{HaveRoom}
use Rattle.commit_journal.specs.Room.{FitsIn, room_for, room_without}
use Rattle.commit_journal.proofs.PushLemmas.{AreParallel-push, Entering, Enters, entries_of-enters}
use Rattle.commit_journal.proofs.RoomLemmas.{HaveRoom-push}
use Rattle.commit_journal.proofs.journal.Journal.push.Goals as goal

pub invariant_of-self : goal.invariant_of-self
invariant_of-self c =
    let inside = c.self.inside in
    let born = c.args.born.now in
    let firings = c.push_reserved.new.self in
    let newborns = c.extend-values in
    let f : Firing = record { rule = c.args.rule; born = c.len-born_end.result; halts = c.args.halts } in
    let need : Room = room_for c.args.tags.now c.args.gone.now born c.args.pieces.now in
    let fits : FitsIn need inside.room = subst (λ (s : Recorded). FitsIn need s.room) (sym c.self.view_is) c.requires.room in
    let room_is : c.without-self-inside.result ≡ room_without inside.room need = search rules in
    let capacity : vec_capacity inside.firings - vec_len inside.firings ≤ vec_capacity firings - vec_len firings + 1 = omega (arith, c.push_reserved.ensures.len, c.push_reserved.ensures.capacity) in
    let e : Entering = record { firing = f; tags = c.args.tags.now; gone = c.args.gone.now; born = born; pieces = c.args.pieces.now } in
    let enters : Enters e inside.firings.items firings.items inside.tags c.push.new.self inside.gone c.push-2.new.self inside.newborns newborns.new.self inside.pieces c.push-3.new.self = record {
      of_firings = c.push_reserved.ensures.items;
      of_tags = c.push.ensures.lists;
      of_gone = c.push-2.ensures.lists;
      of_made = newborns.ensures.elements;
      of_pieces = c.push-3.ensures.lists;
      end = c.len-born_end.ensures;
    } in
    let long : length newborns.new.self.elements ≡ length inside.newborns.elements + length born = ap length newborns.ensures.elements ∙ length-append inside.newborns.elements born in (
      AreParallel-push e inside.firings.items firings.items inside.tags c.push.new.self inside.gone c.push-2.new.self inside.newborns newborns.new.self inside.pieces c.push-3.new.self c.self.invariant.0 enters,
      subst (λ (room : Room). HaveRoom room (vec_capacity firings - vec_len firings) c.push.new.self c.push-2.new.self newborns.new.self c.push-3.new.self) (sym room_is)
          (HaveRoom-push inside.room need (vec_capacity inside.firings - vec_len inside.firings) (vec_capacity firings - vec_len firings) inside.tags c.push.new.self inside.gone c.push-2.new.self inside.newborns newborns.new.self inside.pieces c.push-3.new.self
          c.self.invariant.1 fits refl capacity c.push.ensures.left c.push-2.ensures.left c.push-3.ensures.left newborns.ensures.left newborns.ensures.next long),
    )

pub returns-clause-entries : goal.returns-clause-entries
returns-clause-entries c =
    let inside = c.self.inside in
    let f : Firing = record { rule = c.args.rule; born = c.len-born_end.result; halts = c.args.halts } in
    let e : Entering = record { firing = f; tags = c.args.tags.now; gone = c.args.gone.now; born = c.args.born.now; pieces = c.args.pieces.now } in
    let enters : Enters e inside.firings.items c.push_reserved.new.self.items inside.tags c.push.new.self inside.gone c.push-2.new.self inside.newborns c.extend-values.new.self inside.pieces c.push-3.new.self = record {
      of_firings = c.push_reserved.ensures.items;
      of_tags = c.push.ensures.lists;
      of_gone = c.push-2.ensures.lists;
      of_made = c.extend-values.ensures.elements;
      of_pieces = c.push-3.ensures.lists;
      end = c.len-born_end.ensures;
    } in
    subst (λ (s : Recorded). entries_of c.push_reserved.new.self.items c.push.new.self.lists c.push-2.new.self.lists c.extend-values.new.self.elements c.push-3.new.self.lists ≡ s.entries ++ entry_with c.args.rule c.args.tags.now c.args.gone.now c.args.born.now c.args.pieces.now c.args.halts ∷ []) c.self.view_is
    (entries_of-enters e inside.firings.items c.push_reserved.new.self.items inside.tags c.push.new.self inside.gone c.push-2.new.self inside.newborns c.extend-values.new.self inside.pieces c.push-3.new.self c.self.invariant.0 enters)
