-- Units of which some weren't read, after writes over all of these.
use Rattle.std.proofs.Common.{◌≡◌, ◌<◌, ◌⊎◌, ◌+◌, inl, inr, ⊎_elim, ℕ, zero, suc, Bool, true, false, Option, Some, None, is_some, List, [], ◌∷◌, ◌++◌, length, take, slice_get, refl, sym, ◌∙◌, ap, subst, arith}
use Rattle.std.specs.Prelude.{◌↔◌}
use Rattle.std.proofs.lemmas.Option.{none-some, same_Some, slice_get_cases}
use Rattle.extents.specs.Condition.{Held}
use Rattle.extent_groups.specs.declared.place.Place.{Place}
use Rattle.extent_groups.specs.Cells.{Cells, held}
use Rattle.extent_groups.specs.Planned.{Intended, after}
use Rattle.extent_groups.proofs.Finishing.{place_or_not}
use Rattle.vault.specs.Images.{Image, flat, is_lost}
use Rattle.vault.specs.Moments.{IsWrittenTo}
use Rattle.vault.proofs.Writes.{in_first, in_more, in_second, torn_here}
use Rattle.rotten_units.specs.Loaded.{AreReadOrNoted, HaveUnits}
use Rattle.array_recovery.specs.Found.{TakesWritten}

-- the unit of a drive in memory, or else another
abbrev of_drive : Option (List ℕ) → Option (List ℕ) → Option (List ℕ)
of_drive None u = u
of_drive (Some v) u = Some v

abbrev of_cache : Option Held → ℕ → Option (List ℕ) → Option (List ℕ)
of_cache None a u = u
of_cache (Some m) a u = of_drive (slice_get m.units a) u

-- the units of drives in memory, and where these have none those that lie there
abbrev pub patched : Cells → List Held → Cells
patched c caches d a = of_cache (slice_get caches d) a (c d a)

patched_drive : (o p : Option (List ℕ)) (u : List ℕ) → o ≡ Some u → of_drive o p ≡ o
patched_drive None p u e = absurd (none-some u e)
patched_drive (Some v) p u e = refl

module _ (noted attested : Place → Type 0) (lost : List Bool) (c : Cells) (caches : List Held) (are : AreReadOrNoted noted attested lost c caches) where
  -- the drives in memory have these
  pub have_patched : HaveUnits lost (patched c caches) caches
  have_patched = record {
    each = λ d a m e not low. elim (slice_get_cases m.units a).1 [
      | inl some ↦ ap (λ o. of_cache o a (c d a)) e ∙ patched_drive (slice_get m.units a) (c d a) some.0 some.2
      | inr past ↦ (let high = past.0 in absurd (omega (arith, low, high)))
    ];
  }

  -- they are those that lie there, but at noted places
  pub same_patched : (x : Place) → is_lost lost x.drive ≡ false → (noted x → ⊥) → held (patched c caches) x ≡ held c x
  same_patched x not out = elim (slice_get_cases caches x.drive).1 [
    | inr none ↦ ap (λ o. of_cache o x.address (held c x)) none.1
    | inl some ↦
        ap (λ o. of_cache o x.address (held c x)) some.2
        ∙ (elim (slice_get_cases some.0.units x.address).1 [
          | inr past ↦ ap (λ o. of_drive o (held c x)) past.1
          | inl unit ↦ patched_drive (slice_get some.0.units x.address) (held c x) unit.0 unit.2 ∙ sym ((are.each x.drive x.address some.0 some.2 not unit.1).found out)
        ])
  ]

  there_patched : (x : Place) → is_lost lost x.drive ≡ false → is_some (held (patched c caches) x) ≡ is_some (held c x)
  there_patched x not = elim (slice_get_cases caches x.drive).1 [
    | inr none ↦ ap (λ o. is_some (of_cache o x.address (held c x))) none.1
    | inl some ↦
        ap (λ o. is_some (of_cache o x.address (held c x))) some.2
        ∙ (elim (slice_get_cases some.0.units x.address).1 [
          | inr past ↦ ap (λ o. is_some (of_drive o (held c x))) past.1
          | inl unit ↦ ap (λ o. is_some (of_drive o (held c x))) unit.2 ∙ sym (are.each x.drive x.address some.0 some.2 not unit.1).there
        ])
  ]

  -- after writes over all noted places, the drives in memory have what lies there after them
  pub have_after : (ws : List Intended) (now : List Held) → ((x : Place) → noted x → IsWrittenTo ws x) → HaveUnits lost (after (patched c caches) ws) now → HaveUnits lost (after c ws) now
  have_after ws now all have = record {
    each = λ d a m e not low.
        let x : Place = record { drive = d; address = a } in
        sym (torn_here ws (patched c caches) c x (there_patched x not) (λ never. same_patched x not (λ n. never (all x n)))) ∙ have.each d a m e not low;
  }

-- one write takes its place out
pub takes_one : (old new : Place → Type 0) (place : Place) (unit : List ℕ) → ((x : Place) → new x ↔ (old x × (place ≡ x → ⊥)))
    → TakesWritten old new (record { place = place; unit = unit } ∷ [])
takes_one old new place unit take x was = elim (place_or_not place x) [ inl e ↦ inr (inl e) | inr ne ↦ inl ((take x).1 (was, ne)) ]

written_more : (ws : List Intended) (i : ℕ) (w : Intended) (x : Place) → slice_get ws i ≡ Some w → IsWrittenTo (take i ws) x ⊎ (w.place ≡ x) → IsWrittenTo (take (suc i) ws) x
written_more [] i w x e h = absurd (none-some w e)
written_more (v ∷ ws) zero w x e (inl h) = absurd h
written_more (v ∷ ws) zero w x e (inr is) = inl (ap (λ (z : Intended). z.place) (same_Some v w e) ∙ is)
written_more (v ∷ ws) (suc i) w x e (inl h) = ⊎_elim (λ a. inl a) (λ b. inr (written_more ws i w x e (inl b))) h
written_more (v ∷ ws) (suc i) w x e (inr is) = inr (written_more ws i w x e (inr is))

-- one write more
pub takes_next : (old mid new : Place → Type 0) (ws : List Intended) (i : ℕ) (w : Intended) → slice_get ws i ≡ Some w → TakesWritten old mid (take i ws) → TakesWritten mid new (w ∷ [])
    → TakesWritten old new (take (i + 1) ws)
takes_next old mid new ws i w at one two x was =
    let next : suc i ≡ i + 1 = omega arith in
    let more : IsWrittenTo (take i ws) x ⊎ (w.place ≡ x) → IsWrittenTo (take (i + 1) ws) x = λ h. subst (λ n. IsWrittenTo (take n ws) x) next (written_more ws i w x at h) in
    ⊎_elim (λ m. ⊎_elim (λ n. inl n) (λ h. ⊎_elim (λ is. inr (more (inr is))) (λ never. absurd never) h) (two x m)) (λ h. inr (more (inl h))) (one x was)

batch_written : (batches : List (List Intended)) (i : ℕ) (b : List Intended) (x : Place) → slice_get batches i ≡ Some b → IsWrittenTo b x → IsWrittenTo (flat (take (suc i) batches)) x
batch_written [] i b x e h = absurd (none-some b e)
batch_written (c ∷ cs) zero b x e h = in_first c (flat (take zero cs)) x (subst (λ ws. IsWrittenTo ws x) (sym (same_Some c b e)) h)
batch_written (c ∷ cs) (suc i) b x e h = in_second c (flat (take (suc i) cs)) x (batch_written cs i b x e h)

-- one batch more
pub takes_batch : (old mid new : Place → Type 0) (batches : List (List Intended)) (i : ℕ) (b : List Intended) → slice_get batches i ≡ Some b → TakesWritten old mid (flat (take i batches))
    → TakesWritten mid new b → TakesWritten old new (flat (take (i + 1) batches))
takes_batch old mid new batches i b at one two x was =
    let next : suc i ≡ i + 1 = omega arith in
    ⊎_elim
    (λ m. ⊎_elim (λ n. inl n) (λ h. inr (subst (λ n. IsWrittenTo (flat (take n batches)) x) next (batch_written batches i b x at h))) (two x m))
    (λ h. inr (in_more i (i + 1) batches x (omega arith) h)) (one x was)

-- units after the writes of an image's journal
abbrev pub after_of : Cells → Image → Cells
after_of c s = after c (flat s.journal)

-- units of which none is noted
pub have_units : (noted attested : Place → Type 0) (lost : List Bool) (c : Cells) (caches : List Held) → ((x : Place) → noted x → ⊥) → AreReadOrNoted noted attested lost c caches → HaveUnits lost c caches
have_units noted attested lost c caches none are = record { each = λ d a m e not low. (are.each d a m e not low).found (none _) }

-- a place that isn't noted after the writes is one of theirs
pub taken_out : (old new : Place → Type 0) (ws : List Intended) → ((x : Place) → new x → ⊥) → TakesWritten old new ws → (x : Place) → old x → IsWrittenTo ws x
taken_out old new ws none takes x was = ⊎_elim (λ n. absurd (none x n)) (λ w. w) (takes x was)
