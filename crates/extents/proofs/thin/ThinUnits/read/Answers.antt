use Rattle.std.proofs.Common.{◌≡◌, ◌≤◌, ◌-◌, ◌<◌, suc, get_or, length, ap, arith}
use Rattle.extents.proofs.Placed.{found_front, kept_within, kept_front, blank_front}
use Rattle.extents.proofs.thin.ThinUnits.read.Goals as goal
use Rattle.extents.proofs.thin.ThinUnits.read.Goals.{Then-place-gt0}

-- what the table of places says of a unit that is kept
kept : (c : Then-place-gt0) → (length c.args.front.now ≤ c.self.inside.size) × (c.args.at < length c.self.inside.places.items) × (get_or c.self.inside.places.items c.args.at 0 ≡ suc (c.index-place.result.now - 1))
kept c =
    let one = found_front c.self.invariant _ _ c.args.at _ c.self.view_is c.requires.at c.requires.size c.index-place.ensures in
    (one.0, one.1, omega (arith, one.2, c.if-place-gt0.true))

pub load-requires : goal.load-requires
load-requires c =
    let is = kept (goal.at.load-requires c).Then-place-gt0 in
    omega (arith, is.0, kept_within c.self.invariant c.args.at _ is.2, ap length c.deref.ensures.value)

pub returns-then-place-gt0 : goal.returns-then-place-gt0
returns-then-place-gt0 c =
    let is = kept (goal.at.returns-then-place-gt0 c).Then-place-gt0 in
    rw (c.load.ensures, c.deref.ensures.value, ← c.self.view_is) (kept_front c.self.invariant _ c.args.at _ is.0 is.1 is.2)

pub returns-else-place-gt0 : goal.returns-else-place-gt0
returns-else-place-gt0 c =
    let one = found_front c.self.invariant _ _ c.args.at _ c.self.view_is c.requires.at c.requires.size c.index-place.ensures in
    let blank : get_or c.self.inside.places.items c.args.at 0 ≡ 0 = omega (arith, one.2, c.if-place-gt0.false) in
    rw (c.fill.ensures.after (λ y same. same), ← c.self.view_is) (blank_front c.self.invariant _ c.args.at one.0 one.1 blank)
