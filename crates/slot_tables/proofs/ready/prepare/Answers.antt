use Rattle.std.proofs.Common.{ℕ, List, Option, MatchOption, length, subst, sym, arith}
use Rattle.map_join.specs.declared.records.Record.{Record}
use Rattle.map_join.specs.Maps.{at}
use Rattle.slot_tables.specs.Kept.{HavePlaces}
use Rattle.slot_tables.specs.Claims.{AreKeys, AreExpected, HasRoom, IsClaimed, IsLowestUnclaimed}
use Rattle.slot_tables.proofs.Adoptions.{all_keys, unclaimed, listed_low}
use Rattle.slot_tables.proofs.ready.prepare.Goals as goal

pub blocks_by_slot-requires : goal.blocks_by_slot-requires
blocks_by_slot-requires g c = rw c.deref.ensures.value
    (listed_low c.args.parts.now.groups (at c.args.map.now) c.in-Ok.log.items c.places_for-slots.result c.in-Ok.ensures.list c.requires.places c.places_for-slots.ensures.enough)

pub first_unclaimed-requires : goal.first_unclaimed-requires
first_unclaimed-requires g c = rw c.deref-2.ensures.value
    (let many = c.in-Ok-blocks_by_slot.ensures.many in let most = c.places_for-slots.ensures.enough.most in omega (arith, many, most))

pub returns-in-Ok-Some-clause-err : goal.returns-in-Ok-Some-clause-err
returns-in-Ok-Some-clause-err g c =
    let keys : AreKeys c.args.parts.now.groups.blocks (at c.args.map.now) c.in-Ok-keys_of.keys.items = subst (λ n. AreKeys n (at c.args.map.now) c.in-Ok-keys_of.keys.items) c.requires.fit.shape.of_blocks c.in-Ok-keys_of.ensures in
    unclaimed g.C.Hold.names c.args.claims.now (at c.args.map.now) c.in-Ok.log.items c.places_for-slots.result c.in-Ok-blocks_by_slot.expected.items c.in-Ok-Some.slot
    c.in-Ok.ensures.list (all_keys c.args.parts.now.groups (at c.args.map.now) c.in-Ok-keys_of.keys.items c.requires.places keys)
    (subst (λ (rs : List Record). AreExpected rs c.places_for-slots.result c.in-Ok-blocks_by_slot.expected.items) c.deref.ensures.value c.in-Ok-blocks_by_slot.ensures)
    (subst (λ (ws : List (Option ℕ)). IsLowestUnclaimed g.C.Hold.names c.args.claims.now ws c.in-Ok-Some.slot) c.deref-2.ensures.value (subst (λ (o : Option ℕ). MatchOption o ((slot : ℕ) → IsClaimed g.C.Hold.names c.args.claims.now c.deref-2.result.now slot) (IsLowestUnclaimed g.C.Hold.names c.args.claims.now c.deref-2.result.now)) c.in-Ok-Some.field-0-is c.in-Ok-Some.ensures))

pub returns-in-Ok-new_room-clause-ok : goal.returns-in-Ok-new_room-clause-ok
returns-in-Ok-new_room-clause-ok g c = record {
  log = c.in-Ok.ensures.list;
  expected = subst (λ n. AreExpected c.in-Ok.log.items n c.in-Ok-blocks_by_slot.expected.items) (sym c.in-Ok-new_room.ensures.places)
      (subst (λ (rs : List Record). AreExpected rs c.places_for-slots.result c.in-Ok-blocks_by_slot.expected.items) c.deref.ensures.value c.in-Ok-blocks_by_slot.ensures);
  claimed = subst (λ (ws : List (Option ℕ)). (slot : ℕ) → IsClaimed g.C.Hold.names c.args.claims.now ws slot) c.deref-2.ensures.value (subst (λ (o : Option ℕ). MatchOption o ((slot : ℕ) → IsClaimed g.C.Hold.names c.args.claims.now c.deref-2.result.now slot) (IsLowestUnclaimed g.C.Hold.names c.args.claims.now c.deref-2.result.now)) c.in-Ok-None.field-0-is c.in-Ok-None.ensures);
  keys = subst (λ n. AreKeys n (at c.args.map.now) c.in-Ok-keys_of.keys.items) c.requires.fit.shape.of_blocks c.in-Ok-keys_of.ensures;
  room = subst (λ n. HasRoom n (length c.args.claims.now) c.in-Ok-new_room.room) (sym c.in-Ok-new_room.ensures.places) c.in-Ok-new_room.ensures;
  places = subst (HavePlaces c.args.parts.now.groups) (sym c.in-Ok-new_room.ensures.places) c.places_for-slots.ensures.enough;
  fewest = λ n have. let many = c.in-Ok-new_room.ensures.places in let least = c.places_for-slots.ensures.fewest n have in omega (arith, many, least);
}
