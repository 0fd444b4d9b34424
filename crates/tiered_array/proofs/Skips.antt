-- Where no slot is gone, none is skipped.
use Rattle.std.proofs.Common.{◌↔◌, inl, inr, ℕ, Option, Some, None}
use Rattle.map_join.specs.Record.{record_at}
use Rattle.flat_machine.specs.Flat.{IsUnheld}
use Rattle.migrator.specs.Ages.{IsOldest}
use Rattle.migrator.specs.First.{IsFirst, IsFirstAppend}
use Rattle.migrator.specs.Slots.{IsMirrored}
use Rattle.tiered_array.specs.Steps.{IsFreeMirror}
use Rattle.tiered_array.specs.Tiered.{Tiered}
use Rattle.tiered_array.specs.Room.{HasNoneGone, IsDue, IsNextOpen, IsFirstOf, IsHole, IsOpen, IsOpenHole, IsOpenMirror, IsReadable}
use Rattle.tiered_array.proofs.Marks.{mirrored_record, oldest_by}
use Rattle.tiered_array.proofs.Standing.{append_as, first_as}

module _ (T : Tiered) (whole : HasNoneGone T) where
  free_open : (s : ℕ) → IsOpen T s ↔ IsUnheld T.flat s
  free_open s = (λ h. h.0, λ h. (h, whole s))

  hole_open : (s : ℕ) → IsOpenHole T s ↔ IsHole T s
  hole_open s = (λ h. (h.0, h.1.0), λ h. (h.0, (h.1, whole s)))

  mirror_open : (s : ℕ) → IsOpenMirror T s ↔ IsFreeMirror T.flat s
  mirror_open s = (λ h. (h.0, h.1.0), λ h. (h.0, (h.1, whole s)))

  mirrored_readable : (keys : ℕ → ℕ) (b : ℕ) → IsReadable T.flat.groups T.flat.lost keys b ↔ IsMirrored T.flat.groups keys b
  mirrored_readable keys b = (
    λ h. h.0,
    λ h. let r = mirrored_record T.flat.groups (record_at b (keys b)) h in (h, (r.0, r.1, whole r.0.place)),
  )

  pub due_skips : (keys : ℕ → ℕ) (b : Option ℕ) → IsDue T keys b → IsOldest T.order (IsMirrored T.flat.groups keys) b
  due_skips keys None due = due
  due_skips keys (Some b) (inl oldest) =
      oldest_by T.order (IsReadable T.flat.groups T.flat.lost keys) (IsMirrored T.flat.groups keys) (Some b) (mirrored_readable keys) oldest
  due_skips keys (Some b) (inr none) = none.1

  pub next_skips : (keys : ℕ → ℕ) (slot : Option ℕ) → IsNextOpen T keys slot → IsFirstAppend T.end T.flat.groups keys (IsUnheld T.flat) slot
  next_skips keys slot next = append_as T.end T.flat.groups keys (IsOpen T) (IsUnheld T.flat) slot free_open next

  pub hole_skips : (slot : Option ℕ) → IsFirstOf (IsHole T) (IsOpenHole T) slot → IsFirst (IsHole T) slot
  hole_skips None none = none
  hole_skips (Some s) (inl first) = first_as (IsOpenHole T) (IsHole T) (Some s) hole_open first
  hole_skips (Some s) (inr none) = none.1

  pub mirror_skips : (slot : Option ℕ) → IsFirst (IsOpenMirror T) slot → IsFirst (IsFreeMirror T.flat) slot
  mirror_skips slot first = first_as (IsOpenMirror T) (IsFreeMirror T.flat) slot mirror_open first
