-- What a vault has whose rotten units were mended.
use Rattle.std.proofs.Common.{◌≡◌, ◌<◌, ◌≤◌, ◌⊎◌, inl, inr, ℕ, zero, suc, Bool, true, false, Some, is_some, List, [], length, slice_get, replicate, refl, sym, ◌∙◌, ap, subst, arith}
use Rattle.extents.specs.Condition.{Held, is_gone}
use Rattle.extent_groups.specs.declared.place.Place.{Place}
use Rattle.extent_groups.specs.Groups.{Groups}
use Rattle.extent_groups.specs.Cells.{Cells, cells, held}
use Rattle.unit_store.specs.Memory.{held_lost, held_units}
use Rattle.vault.specs.Images.{Alike, Image, flat, is_lost}
use Rattle.vault.specs.Moments.{IsSettled, IsWrittenTo, LeavesOnly}
use Rattle.vault.specs.declared.store.Stop.{Stop}
use Rattle.vault.proofs.Runs.{both_runs, goes_on, started, weaker}
use Rattle.vault.proofs.Writes.{front_torn}
use Rattle.rotten_units.specs.Loaded.{AreFormed, AreReadOrNoted, HaveUnits, OnlyRead, SameAttested}
use Rattle.rotten_units.specs.Rows.{AreNotedOnce, IsPlaceUsed}
use Rattle.rotten_units.specs.Written.{DiffersAt, LeavesAt, WroteAt}
use Rattle.rotten_units.proofs.Same.{there, used_same}
use Rattle.rotten_units.proofs.Writing.{differs_more, differs_not, wrote_both}
use Rattle.unit_repair.specs.Computed.{SameButNoted, WroteRight}
use Rattle.unit_repair.specs.Mended.{AreVerified, AttestsUsed, AttestsWritten, IsAtRest, IsMended, LeavesUnits}
use Rattle.unit_repair.proofs.Verified.{of_held}
use Rattle.unit_repair.proofs.Whole.{used_inside, whole}

-- no drive is lost
pub none_absent : (n d : ℕ) → is_lost (replicate n false) d ≡ false
none_absent zero d = refl
none_absent (suc n) zero = refl
none_absent (suc n) (suc d) = none_absent n d

-- units of which none is noted
pub have_units : (noted attested : Place → Type 0) (lost : List Bool) (c : Cells) (caches : List Held) → ((x : Place) → noted x → ⊥) → AreReadOrNoted noted attested lost c caches → HaveUnits lost c caches
have_units noted attested lost c caches none are = record { each = λ d a m e not low. (are.each d a m e not low).found (none _) }

-- a unit that isn't noted is attested
pub attested_one : (noted attested : Place → Type 0) (drives units size : ℕ) (lost : List Bool) (c : Cells) (caches : List Held) → length caches ≡ drives → AreFormed units size caches
    → ((d : ℕ) → is_lost lost d ≡ false) → AreReadOrNoted noted attested lost c caches → (x : Place) → x.drive < drives → x.address < units → (noted x → ⊥) → attested x
attested_one noted attested drives units size lost c caches many formed alive are x low inside out =
    let m = there caches x.drive (omega (arith, low, many)) in
    (are.each x.drive x.address m.0 m.1 (alive x.drive) (let count = formed.many x.drive m.0 m.1 in omega (arith, inside, count))).digest out

-- a unit lies at each place of the drives
pub there_one : (noted attested : Place → Type 0) (drives units size : ℕ) (lost : List Bool) (c : Cells) (caches : List Held) → length caches ≡ drives → AreFormed units size caches
    → ((d : ℕ) → is_lost lost d ≡ false) → AreReadOrNoted noted attested lost c caches → (x : Place) → x.drive < drives → x.address < units → is_some (held c x) ≡ true
there_one noted attested drives units size lost c caches many formed alive are x low inside =
    let m = there caches x.drive (omega (arith, low, many)) in
    (are.each x.drive x.address m.0 m.1 (alive x.drive) (let count = formed.many x.drive m.0 m.1 in omega (arith, inside, count))).there

-- in memory all units of the groups but the noted ones are those that were written last
pub loaded_same : (noted attested : Place → Type 0) (drives units size : ℕ) (lost : List Bool) (c : Cells) (caches : List Held) → length caches ≡ drives → AreFormed units size caches
    → ((d : ℕ) → is_lost lost d ≡ false) → AreReadOrNoted noted attested lost c caches → (groups : Groups) (written : Cells) → AreVerified groups drives units written
    → AttestsWritten attested drives written c → SameButNoted noted groups (cells held_units held_lost caches) written
loaded_same noted attested drives units size lost c caches many formed alive are groups written sound attests x used out =
    let inside = used_inside groups drives units written sound x used in
    let m = there caches x.drive (let low = inside.0 in omega (arith, low, many)) in
    let one = are.each x.drive x.address m.0 m.1 (alive x.drive) (let low = inside.1 in let count = formed.many x.drive m.0 m.1 in omega (arith, low, count)) in
    of_held (slice_get caches x.drive) m.0 x.address m.1 (ap is_gone (formed.present x.drive m.0 m.1)) ∙ sym (one.found out) ∙ attests x inside.0 (one.digest out)

-- what is attested of the groups is what was written last: before any write, after calls that only read, and after writes of right units
module _ {V : Type 0} (seen : V → Image) (may_leave : V → Stop → Image → Type 0) (moment : V → ℕ) (left_since : V → Stop → ℕ → Image → Type 0) (attested : V → Place → Type 0)
    (groups : Groups) (drives units : ℕ) (written : Cells) (sound : AreVerified groups drives units written) where
  pub attests_first : (v : V) → AttestsWritten (attested v) drives written (seen v).cells → AttestsUsed groups (attested v) written (seen v).cells
  attests_first v attests x used a = attests x (used_inside groups drives units written sound x used).0 a

  pub attests_read : (v new : V) → OnlyRead seen may_leave moment left_since v new → SameAttested attested v new → AttestsUsed groups (attested v) written (seen v).cells
      → AttestsUsed groups (attested new) written (seen new).cells
  attests_read v new read same was x used a = ap (λ (s : Image). held s.cells x) read.finds ∙ was x used ((same x).0 a)

  pub attests_wrote : (noted : Place → Type 0) (v0 v1 v2 : V) → OnlyRead seen may_leave moment left_since v0 v1 → SameAttested attested v0 v1
      → WroteAt seen may_leave moment left_since noted v1 v2 → ((x : Place) → x.drive < drives → x.address < units → is_some (held (seen v0).cells x) ≡ true)
      → AttestsWritten (attested v0) drives written (seen v0).cells → WroteRight seen attested noted groups written v1 v2 → AttestsUsed groups (attested v2) written (seen v2).cells
  attests_wrote noted v0 v1 v2 read same wrote lies attests right x used a =
      let inside = used_inside groups drives units written sound x used in
      let finds : held (seen v1).cells x ≡ held (seen v0).cells x = ap (λ (s : Image). held s.cells x) read.finds in
      elim (right x used a) [
        | inl kept ↦ kept.1 ∙ finds ∙ attests x inside.0 ((same x).0 kept.0)
        | inr from ↦ from.1.2 (wrote.finds.there x ∙ ap (λ o. is_some o) finds ∙ lies x inside.0 inside.1) ∙ sym from.1.1
      ]

module _ {V : Type 0} (seen : V → Image) (may_leave : V → Stop → Image → Type 0) (moment : V → ℕ) (left_since : V → Stop → ℕ → Image → Type 0) (noted rotten : Place → Type 0)
    (known : (x : Place) → noted x → rotten x) where
  more_differs : (a b : Image) → DiffersAt noted a b → DiffersAt rotten a b
  more_differs a b is = record { there = is.there; elsewhere = λ x out. is.elsewhere x (λ n. out (known x n)); journal = is.journal }

  -- calls that only read
  pub read_differs : (old new : V) → OnlyRead seen may_leave moment left_since old new → DiffersAt rotten (seen old) (seen new)
  read_differs old new read = subst (λ (s : Image). DiffersAt rotten (seen old) s) (sym read.finds) (differs_not rotten (seen old))

  pub rest_leaves : (places : Place → Type 0) (v : V) → IsAtRest seen may_leave v → LeavesAt may_leave places (seen v) v
  rest_leaves places v rest stop i now = let like = rest.leaves stop i now in record {
    there = λ x. ap (λ o. is_some o) (like.cells x);
    elsewhere = λ x out. like.cells x;
    journal = like.journal;
  }

  leaves_read : (places : Place → Type 0) (base : Image) (old new : V) → OnlyRead seen may_leave moment left_since old new → LeavesAt may_leave places base old → LeavesAt may_leave places base new
  leaves_read places base old new read leaves stop i now = leaves stop i ((read.time stop).ends i now)

  run_read : (places : Place → Type 0) (base : Image) (old mid new : V) (stop : Stop) → LeavesOnly moment left_since stop old mid (DiffersAt places base) → LeavesAt may_leave places base mid
      → OnlyRead seen may_leave moment left_since mid new → LeavesOnly moment left_since stop old new (DiffersAt places base)
  run_read places base old mid new stop run leaves read = goes_on moment left_since stop old mid new (DiffersAt places base) (may_leave mid stop) (may_leave new stop) run (read.time stop) (λ i now. leaves stop i now)

  pub moments_none : (v : V) → ((stop : Stop) (i : Image) → left_since v stop (moment v) i → may_leave v stop i) → IsAtRest seen may_leave v → (stop : Stop)
      → LeavesOnly moment left_since stop v v (DiffersAt rotten (seen v))
  moments_none v only rest stop = started moment left_since stop v (DiffersAt rotten (seen v)) (λ i left. rest_leaves rotten v rest stop i (only stop i left))

  -- a run that only reads
  pub moments_read : (v new : V) → ((stop : Stop) (i : Image) → left_since v stop (moment v) i → may_leave v stop i) → IsAtRest seen may_leave v → OnlyRead seen may_leave moment left_since v new
      → (stop : Stop) → LeavesOnly moment left_since stop v new (DiffersAt rotten (seen v))
  moments_read v new only rest read stop = run_read rotten (seen v) v v new stop (moments_none v only rest stop) (rest_leaves rotten v rest) read

  -- after calls that read, units of noted places were written
  module _ (v0 v1 v2 : V) (read : OnlyRead seen may_leave moment left_since v0 v1) (wrote : WroteAt seen may_leave moment left_since noted v1 v2) where
    from_first : (i : Image) → DiffersAt noted (seen v1) i → DiffersAt noted (seen v0) i
    from_first i is = subst (λ (s : Image). DiffersAt noted s i) read.finds is

    first_leaves : IsAtRest seen may_leave v0 → LeavesAt may_leave noted (seen v1) v1
    first_leaves rest = subst (λ (s : Image). LeavesAt may_leave noted s v1) (sym read.finds) (leaves_read noted (seen v0) v0 v1 read (rest_leaves noted v0 rest))

    pub wrote_differs : DiffersAt rotten (seen v0) (seen v2)
    wrote_differs = more_differs (seen v0) (seen v2) (from_first (seen v2) wrote.finds)

    wrote_run : ((stop : Stop) (i : Image) → left_since v0 stop (moment v0) i → may_leave v0 stop i) → IsAtRest seen may_leave v0 → (stop : Stop)
        → LeavesOnly moment left_since stop v0 v2 (DiffersAt noted (seen v0))
    wrote_run only rest stop = both_runs moment left_since stop v0 v1 v2 (DiffersAt noted (seen v0)) (DiffersAt noted (seen v1)) (DiffersAt noted (seen v0))
        (run_read noted (seen v0) v0 v0 v1 stop (started moment left_since stop v0 (DiffersAt noted (seen v0)) (λ i left. rest_leaves noted v0 rest stop i (only stop i left))) (rest_leaves noted v0 rest) read)
        (wrote.moments (first_leaves rest) stop) (λ i p. p) (λ i q. from_first i q)

    pub wrote_moments : ((stop : Stop) (i : Image) → left_since v0 stop (moment v0) i → may_leave v0 stop i) → IsAtRest seen may_leave v0 → (stop : Stop)
        → LeavesOnly moment left_since stop v0 v2 (DiffersAt rotten (seen v0))
    wrote_moments only rest stop = weaker moment left_since stop v0 v2 (DiffersAt noted (seen v0)) (DiffersAt rotten (seen v0)) (wrote_run only rest stop) (λ i p. more_differs (seen v0) i p)

    -- and all was read back
    module _ (v3 : V) (back : OnlyRead seen may_leave moment left_since v2 v3) where
      pub back_differs : DiffersAt rotten (seen v0) (seen v3)
      back_differs = subst (λ (s : Image). DiffersAt rotten (seen v0) s) (sym back.finds) wrote_differs

      pub back_moments : ((stop : Stop) (i : Image) → left_since v0 stop (moment v0) i → may_leave v0 stop i) → IsAtRest seen may_leave v0 → (stop : Stop)
          → LeavesOnly moment left_since stop v0 v3 (DiffersAt rotten (seen v0))
      back_moments only rest stop = weaker moment left_since stop v0 v3 (DiffersAt noted (seen v0)) (DiffersAt rotten (seen v0))
          (run_read noted (seen v0) v0 v2 v3 stop (wrote_run only rest stop) (λ s i now. from_first i (wrote.leaves (first_leaves rest) s i now)) back)
          (λ i p. more_differs (seen v0) i p)

      pub back_rest : IsAtRest seen may_leave v0 → LeavesUnits seen may_leave v2 → IsAtRest seen may_leave v3
      back_rest rest durable = record {
        empty = ap (λ (s : Image). s.journal) back.finds ∙ wrote.finds.journal ∙ ap (λ (s : Image). s.journal) read.finds ∙ rest.empty;
        leaves = λ stop i now.
            let before = (back.time stop).ends i now in record {
              cells = λ x. durable stop i x before ∙ ap (λ (s : Image). held s.cells x) (sym back.finds);
              journal = (wrote.leaves (first_leaves rest) stop i before).journal ∙ sym wrote.finds.journal ∙ ap (λ (s : Image). s.journal) (sym back.finds);
            };
      }

      -- all units of the groups are those that were written last
      pub is_mended : (decide : (x : Place) → noted x ⊎ (noted x → ⊥)) (attested : V → Place → Type 0) (groups : Groups) (drives units : ℕ) (written : Cells) → IsAtRest seen may_leave v0 → LeavesUnits seen may_leave v2
          → AreNotedOnce noted groups → ((x : Place) → x.drive < drives → x.address < units → (noted x → ⊥) → attested v0 x) → AreVerified groups drives units written
          → AttestsWritten (attested v0) drives written (seen v0).cells → AreVerified groups drives units (seen v2).cells
          → ((x : Place) → x.drive < drives → x.address < units → attested v2 x) → SameAttested attested v2 v3 → IsMended seen may_leave attested groups drives units written v3
      is_mended decide attested groups drives units written rest durable once whole_but sound attests verified each kept = record {
        rest = back_rest rest durable;
        verified = verified_now;
        same = used_same groups (seen v3).cells written noted decide (whole groups drives units (seen v3).cells verified_now) (whole groups drives units written sound) once
            (λ x used out.
            let inside = used_inside groups drives units written sound x used in
            ap (λ (s : Image). held s.cells x) back.finds ∙ (from_first (seen v2) wrote.finds).elsewhere x out
            ∙ attests x inside.0 (whole_but x inside.0 inside.1 out));
        each = λ x low inside. (kept x).1 (each x low inside);
      }
        where
          verified_now : AreVerified groups drives units (seen v3).cells
          verified_now = subst (λ (s : Image). AreVerified groups drives units s.cells) (sym back.finds) verified

-- nothing was written
pub mended_none : {V : Type 0} (seen : V → Image) (may_leave : V → Stop → Image → Type 0) (moment : V → ℕ) (left_since : V → Stop → ℕ → Image → Type 0) (v0 v1 : V)
    → OnlyRead seen may_leave moment left_since v0 v1 → (attested : V → Place → Type 0) (groups : Groups) (drives units : ℕ) (written : Cells) → IsAtRest seen may_leave v0
    → ((x : Place) → x.drive < drives → x.address < units → attested v0 x) → SameAttested attested v0 v1 → AreVerified groups drives units written
    → AttestsWritten (attested v0) drives written (seen v0).cells → AreVerified groups drives units (seen v0).cells → IsMended seen may_leave attested groups drives units written v1
mended_none seen may_leave moment left_since v0 v1 read attested groups drives units written rest each kept sound attests verified = record {
  rest = record {
    empty = ap (λ (s : Image). s.journal) read.finds ∙ rest.empty;
    leaves = λ stop i now. subst (λ (s : Image). Alike i s) (sym read.finds) (rest.leaves stop i ((read.time stop).ends i now));
  };
  verified = subst (λ (s : Image). AreVerified groups drives units s.cells) (sym read.finds) verified;
  same = λ x used.
      let inside = used_inside groups drives units written sound x used in
      ap (λ (s : Image). held s.cells x) read.finds ∙ attests x inside.0 (each x inside.0 inside.1);
  each = λ x low inside. (kept x).1 (each x low inside);
}

-- a settled vault of which no drive is lost is at rest
pub settled_rest : {V : Type 0} (seen : V → Image) (may_leave : V → Stop → Image → Type 0) (lost : List Bool) (old new : V) → ((d : ℕ) → is_lost lost d ≡ false)
    → IsSettled seen may_leave lost old new → IsAtRest seen may_leave new
settled_rest seen may_leave lost old new none settled = record {
  empty = settled.empty;
  leaves = λ stop i now.
      let torn = front_torn lost (seen new) i ((settled.durable stop).leaves i now) in record {
        cells = λ x. torn.cells.elsewhere x (none x.drive) (λ written. subst (λ j. IsWrittenTo (flat j) x) settled.empty written);
        journal = torn.journal;
      };
}
