use Rattle.std.proofs.Common.{◌≡◌, ◌+◌, ◌-◌, ◌<◌, suc, ◌++◌, get_or, length, ◌∙◌, ap, refl, arith}
use Rattle.std.specs.Prelude.{replicate}
use Rattle.std.proofs.lemmas.List.{take_at, length-append, replicate-append-replicate}
use Rattle.extents.proofs.Placed.{found, kept_within, written_over, left_blank, one_more, with_room, thin_more, written_first}
use Rattle.extents.proofs.thin.ThinUnits.write.Goals as goal
use Rattle.extents.proofs.thin.ThinUnits.write.Goals.{Then-place-gt0, Else-place-gt0}

-- what the table of places says of a unit that is kept, and of one that isn't
kept : (c : Then-place-gt0) → (length c.args.front.now + length c.args.rest.now ≡ c.self.inside.size) × (c.args.at < length c.self.inside.places.items) × (get_or c.self.inside.places.items c.args.at 0 ≡ suc (c.index-place.result.now - 1))
kept c =
    let one = found c.self.invariant _ _ c.args.at _ c.self.view_is c.requires.at c.requires.size c.index-place.ensures in
    (one.0, one.1, omega (arith, one.2, c.if-place-gt0.true))

blank : (c : Else-place-gt0) → (length c.args.front.now + length c.args.rest.now ≡ c.self.inside.size) × (c.args.at < length c.self.inside.places.items) × (get_or c.self.inside.places.items c.args.at 0 ≡ 0)
blank c =
    let one = found c.self.invariant _ _ c.args.at _ c.self.view_is c.requires.at c.requires.size c.index-place.ensures in
    (one.0, one.1, omega (arith, one.2, c.if-place-gt0.false))

pub store-requires : goal.store-requires
store-requires c =
    let is = kept (goal.at.store-requires c).Then-place-gt0 in
    omega (arith, is.0, kept_within c.self.invariant c.args.at _ is.2, ap length c.deref_mut.ensures.value)

pub returns-then-place-gt0 : goal.returns-then-place-gt0
returns-then-place-gt0 c =
    let is = kept (goal.at.returns-then-place-gt0 c).Then-place-gt0 in
    let whole : length c.store.new.bytes ≡ c.self.inside.bytes.len = c.store.auto.bytes ∙ c.deref_mut.ensures.len in
    rw (take_at c.store.new.bytes _ _ whole, c.store.ensures, c.deref_mut.ensures.value, ← c.self.view_is)
    (written_over c.self.invariant c.args.at _ _ _ is.1 is.2 refl (length-append c.args.front.now c.args.rest.now ∙ is.0))

pub returns-then-are_zeros-2 : goal.returns-then-are_zeros-2
returns-then-are_zeros-2 c =
    let is = blank (goal.at.returns-then-are_zeros-2 c).Else-place-gt0 in
    let zeros : c.args.front.now ++ c.args.rest.now ≡ replicate c.self.inside.size 0 =
    rw (c.are_zeros.ensures c.if-are_zeros.true, c.are_zeros-then-are_zeros.ensures c.if-are_zeros-2.true) (replicate-append-replicate _ _ _ ∙ ap (λ n. replicate n 0) is.0) in
    rw (zeros, ← c.self.view_is) (left_blank c.self.invariant c.args.at is.2)

pub append-requires : goal.append-requires
append-requires c =
    let is = blank (goal.at.append-requires c).Else-place-gt0 in
    omega (arith, with_room c.self.invariant c.args.at is.1 is.2, is.0, c.self.invariant.whole)

pub overflow_add-self : goal.overflow_add-self
overflow_add-self c =
    let is = blank (goal.at.overflow_add-self c).Else-place-gt0 in
    omega (arith, one_more c.self.invariant c.args.at is.1 is.2, c.self.ranges)

pub invariant_of-self-2 : goal.invariant_of-self-2
invariant_of-self-2 c =
    let is = blank (goal.at.invariant_of-self-2 c).Else-place-gt0 in
    let next : c.self.inside.stored + 1 ≡ suc c.self.inside.stored = omega arith in
    rw (c.append.ensures.items, next)
    (thin_more c.self.invariant c.args.at _ (c.args.front.now ++ c.args.rest.now) is.1 is.2 (length-append c.args.front.now c.args.rest.now ∙ is.0) c.append.ensures.capacity)

pub returns : goal.returns
returns c =
    let is = blank (goal.at.returns c).Else-place-gt0 in
    let next : c.self.inside.stored + 1 ≡ suc c.self.inside.stored = omega arith in
    rw (c.append.ensures.items, next, ← c.self.view_is)
    (written_first c.self.invariant c.args.at (c.args.front.now ++ c.args.rest.now) is.1 is.2 (length-append c.args.front.now c.args.rest.now ∙ is.0))
