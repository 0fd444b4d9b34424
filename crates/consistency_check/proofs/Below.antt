-- The slots below one are sound: over losses, with one slot more, and as far as all groups go.
use Rattle.std.proofs.Common.{◌≡◌, ℕ, ◌+◌, ◌*◌, ◌/◌, ◌%◌, ◌<◌, ◌≤◌, inl, inr, Option, Some, None, IfSome, length, sym, ap, subst, arith}
use Rattle.std.proofs.lemmas.Bool.{cases_order}
use Rattle.extent_groups.specs.declared.place.Place.{Place}
use Rattle.extent_groups.specs.Groups.{Groups, AreGroups, group_at, class_in, slots_in}
use Rattle.extent_groups.specs.Cells.{Cells, held}
use Rattle.extent_groups.specs.Units.{Site, Pair, InStripe, row_of, IsSoundAt}
use Rattle.extent_groups.specs.Calls.{FadesAt}
use Rattle.extent_groups.specs.Stores.{unit_bytes, AreSound}
use Rattle.extent_groups.proofs.Bounds.{made_low}
use Rattle.extent_groups.proofs.Fading.{faded, fade_sound, row_fades}
use Rattle.extent_groups.proofs.LayoutLaw.{slot_of}
use Rattle.extent_groups.proofs.Places.{same_or_not}
use Rattle.consistency_check.specs.Sound.{IsSoundSlot, IsUnsoundSlot, AreSoundBelow, IsFirstUnsound}

-- a sound site is sound after losses
sound_fades : (n : ℕ) (c new : Cells) (t : Site) → ((x : Place) → FadesAt c new x) → IsSoundAt n c t → IsSoundAt n new t
sound_fades n c new (Pair p q) fades sound = λ u v eu ev. sound u v (faded (held c p) (held new p) u (fades p) eu) (faded (held c q) (held new q) v (fades q) ev)
sound_fades n c new (InStripe row p i) fades sound = fade_sound n (length row) (row_of c row) (row_of new row) sound (row_fades c new row (λ k x at. fades x))

pub below_fades : (t : Groups) (c new : Cells) (end : ℕ) → ((x : Place) → FadesAt c new x) → AreSoundBelow t c end → AreSoundBelow t new end
below_fades t c new end fades below slot low site at = sound_fades (unit_bytes t) c new site fades (below slot low site at)

-- a slot that isn't sound after losses wasn't sound before them
pub unsound_before : (t : Groups) (c new : Cells) (found : Option ℕ) → ((x : Place) → FadesAt c new x) → IfSome found (IsFirstUnsound t new) → IfSome found (IsUnsoundSlot t c)
unsound_before t c new None fades is = tt
unsound_before t c new (Some slot) fades is = let bad = is.unsound in (bad.0, bad.1, λ sound. bad.2 (sound_fades (unit_bytes t) c new bad.0 fades sound))

-- one slot more
pub below_more : (t : Groups) (c : Cells) (slot end : ℕ) → end ≡ slot + 1 → (AreSoundBelow t c slot → IsSoundSlot t c slot) → AreSoundBelow t c slot → AreSoundBelow t c end
below_more t c slot end e tested below other low = elim (same_or_not other slot) [
  | inl q ↦ subst (IsSoundSlot t c) (sym q) (tested below)
  | inr ne ↦ below other (omega (arith, low, ne, e))
]

-- a group has no slots but those that it counts
pub group_below : (t : Groups) (c : Cells) (g count end : ℕ) → count ≡ slots_in t.segments (group_at t g) → end ≤ 128 * g + 128 → AreSoundBelow t c (128 * g + count) → AreSoundBelow t c end
group_below t c g count end is last below slot low site at =
    let x = slot_of t.segments (group_at t (slot / 128)) (slot % 128) site at in
    let counted : slot % 128 < slots_in t.segments (group_at t (slot / 128)) = subst (λ o. slot % 128 < slots_in t.segments o) (sym x.made) x.below in
    below slot (inside counted) site at
  where
    inside : slot % 128 < slots_in t.segments (group_at t (slot / 128)) → slot < 128 * g + count
    inside counted = elim (cases_order (slot / 128) g) [
      | inl q ↦ (let here : slot % 128 < slots_in t.segments (group_at t g) = subst (λ h. slot % 128 < slots_in t.segments (group_at t h)) q counted in omega (arith, here, is, q))
      | inr o ↦ elim o [ inl under ↦ omega (arith, under) | inr above ↦ absurd (omega (arith, above, low, last)) ]
    ]

-- no group has a higher number than 511
pub all_below : (t : Groups) (c : Cells) → AreGroups t → AreSoundBelow t c (128 * 512) → AreSound t c
all_below t c are below slot site at =
    let x = slot_of t.segments (group_at t (slot / 128)) (slot % 128) site at in
    let low = made_low t (slot / 128) x.group.class are.numbers (ap class_in x.made) in
    below slot (omega (arith, low)) site at

-- the slots of one group more
pub below_next : (t : Groups) (c : Cells) (g : ℕ) → AreSoundBelow t c (128 * g + 128) → AreSoundBelow t c (128 * (g + 1))
below_next t c g below slot low = below slot (omega (arith, low))
