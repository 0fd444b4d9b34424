-- The first free slot, group by group.
use Rattle.std.proofs.Common.{◌≡◌, ◌⊎◌, inl, inr, ℕ, ◌+◌, ◌*◌, ◌/◌, ◌%◌, arith, List, length, Option, Some, None}
use Rattle.extent_groups.proofs.Bounds.{made_low}
use Rattle.extent_groups.specs.declared.class.Class.TheVariants.{Parity}
use Rattle.extent_groups.specs.Groups.{Groups}
use Rattle.migrator.specs.Slots.{End, IsTailSlot, IsFresh}
use Rattle.migrator.specs.Counts.{AreZeroIfIdle, IsOtherZero}
use Rattle.migrator.specs.First.{FreeAtTail, IsLowest, IsFirst, IsFreeFollowing, IsFreeFresh, IsFirstAppend, IsFreePick, IsFreeParity, IsFirstRoom}

-- a number is its group's first and its index
pub slot_is : (group slot : ℕ) → slot / 128 ≡ group → 128 * group + slot % 128 ≡ slot
slot_is group slot own = omega arith

-- picked and free is what each kind says
module _ (end : End) (groups : Groups) (keys : ℕ → ℕ) (free : ℕ → Type 0) where
  abbrev Goes : ℕ → Type 0
  Goes = FreeAtTail end groups keys free

  to_following : (s : ℕ) → Goes s → IsFreeFollowing end groups keys free s
  to_following s p =
      let q = p.picked in
      (record { slot_of = q.slot_of; own = q.group_too; from = q.slot_too.from; free = q.slot_too.free }, p.is_free)

  from_following : (s : ℕ) → IsFreeFollowing end groups keys free s → Goes s
  from_following s b =
      record { picked = record { slot_of = b.0.slot_of; group_too = b.0.own; slot_too = record { from = b.0.from; free = b.0.free } }; is_free = b.1 }

  -- one of the write group
  pub found_following : (slot : ℕ) → IsLowest Goes slot → IsFirstAppend end groups keys free (Some slot)
  found_following slot h = inl (record { holds = to_following slot h.holds; least = λ m p. h.least m (from_following m p) })

  -- else one of the others, which are those with a count of 0, or none
  module _ (counts : List ℕ) (long : length groups.table ≡ 512) (zeros : AreZeroIfIdle groups keys counts) where
    abbrev Afresh : ℕ → Type 0
    Afresh = IsFreePick Parity groups (IsOtherZero end counts) (λ _. Unit {0}) free

    to_fresh : (s : ℕ) → Afresh s → IsFreeFresh end groups keys free s
    to_fresh s p =
        let made = p.picked.slot_of.made in
        let idle = (zeros (s / 128) (made_low groups (s / 128) Parity long made) made).0 p.picked.group_too.zeroed in
        (record { slot_of = p.picked.slot_of; other = p.picked.group_too.other; idle = idle }, p.is_free)

    from_fresh : (s : ℕ) → IsFreeFresh end groups keys free s → Afresh s
    from_fresh s b =
        let made = b.0.slot_of.made in
        let zeroed = (zeros (s / 128) (made_low groups (s / 128) Parity long made) made).1 b.0.idle in
        record { picked = record { slot_of = b.0.slot_of; group_too = record { other = b.0.other; zeroed = zeroed }; slot_too = tt }; is_free = b.1 }

    pub found_fresh : (result : Option ℕ) → IsFirst Goes None → IsFirst Afresh result → IsFirstAppend end groups keys free result
    found_fresh None none other = λ slot which f. by slot f which
      where
        by : (slot : ℕ) → free slot → IsTailSlot end groups keys slot ⊎ IsFresh end groups keys slot → ⊥
        by slot f (inl b) = none slot (from_following slot (b, f))
        by slot f (inr b) = other slot (from_fresh slot (b, f))
    found_fresh (Some slot) none other = inr (
      (λ s b. none s (from_following s b)),
      record { holds = to_fresh slot other.holds; least = λ m p. other.least m (from_fresh m p) },
    )

-- there is room where the log goes on, else at the lowest free slot, or nowhere
module _ (end : End) (groups : Groups) (keys : ℕ → ℕ) (free : ℕ → Type 0) where
  pub room_on : (slot : ℕ) → IsFirstAppend end groups keys free (Some slot) → IsFirstRoom end groups keys free (Some slot)
  room_on slot h = inl h

  pub room_aside : (result : Option ℕ) → IsFirstAppend end groups keys free None → IsFirst (IsFreeParity groups free) result
      → IsFirstRoom end groups keys free result
  room_aside None none h = h
  room_aside (Some slot) none h = inr (none, h)
