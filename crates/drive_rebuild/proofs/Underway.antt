-- What the calls of a replacement leave of a vault, one after the other.
use Rattle.std.proofs.Common.{◌≡◌, inl, inr, ℕ, Bool, true, false, Option, is_some, List, [], refl, sym, ◌∙◌, ap, subst, arith}
use Rattle.std.proofs.lemmas.Bool.{true≢false}
use Rattle.extent_groups.specs.declared.place.Place.{Place}
use Rattle.extent_groups.specs.Cells.{Cells, held}
use Rattle.extent_groups.specs.Planned.{Intended, after}
use Rattle.vault.specs.Images.{Image, Matches, SameOn, flat, is_lost, recovered}
use Rattle.vault.specs.Moments.{AreLogged, Elapses, HasUnitsAtStop, IsBeforeOrAfter, IsSettled, IsTorn, LeavesOnly, Torn, Within, torn_at}
use Rattle.vault.specs.declared.store.Stop.{Stop}
use Rattle.vault.proofs.Runs.{both_runs, goes_on, started, weaker}
use Rattle.vault.proofs.Writes.{differ_not, front_torn, same_here, torn_back, torn_front, torn_matches, torn_not, torn_on}
use Rattle.array_recovery.specs.Found.{OnlyRead}
use Rattle.drive_rebuild.specs.Written.{IsReadyToWrite, WroteLost}

-- the same units and journal stand for the same units
pub recovered_same : (lost : List Bool) (a b : Image) → a.journal ≡ b.journal → SameOn lost a.cells b.cells → SameOn lost (recovered a) (recovered b)
recovered_same lost a b journal cells x on = ap (λ (j : List (List Intended)). held (after a.cells (flat j)) x) journal ∙ same_here (flat b.journal) a.cells b.cells x (cells x on)

-- an empty journal stands for the units that are there
pub recovered_empty : (i : Image) → i.journal ≡ [] → recovered i ≡ i.cells
recovered_empty i empty = ap (λ (j : List (List Intended)). after i.cells (flat j)) empty

-- fewer lost drives say more
pub matches_less : (lost counts : List Bool) (c : Cells) (i : Image) → ((d : ℕ) → is_lost lost d ≡ false → is_lost counts d ≡ false) → Matches counts c i → Matches lost c i
matches_less lost counts c i rest matches x on = matches x (rest x.drive on)

torn_less : (lost counts : List Bool) (base i : Image) → ((d : ℕ) → is_lost lost d ≡ false → is_lost counts d ≡ false) → IsTorn counts base i → IsTorn lost base i
torn_less lost counts base i rest torn = record {
  cells = record { there = λ x on. torn.cells.there x (rest x.drive on); elsewhere = λ x on. torn.cells.elsewhere x (rest x.drive on) };
  journal = torn.journal;
}

-- a torn write for a lost drive
lost_torn : (lost : List Bool) (base j i : Image) (place : Place) → is_lost lost place.drive ≡ true → IsTorn lost base j → Torn place j i → IsTorn lost base i
lost_torn lost base j i place gone so_far torn = record {
  cells = record {
    there = λ x on. torn.there x ∙ so_far.cells.there x on;
    elsewhere = λ x on never. torn.elsewhere x (λ e. true≢false (sym gone ∙ ap (λ (p : Place). is_lost lost p.drive) (sym e) ∙ on)) ∙ so_far.cells.elsewhere x on never;
  };
  journal = torn.journal ∙ so_far.journal;
}

module _ {V : Type 0} (seen : V → Image) (may_leave : V → Stop → Image → Type 0) (moment : V → ℕ) (left_since : V → Stop → ℕ → Image → Type 0) where
  -- what a stop leaves now, of a vault that only lost drives' units are uncertain of
  pub torn_now : (lost : List Bool) (v : V) (stop : Stop) (i : Image) → AreLogged seen may_leave lost v → may_leave v stop i → IsTorn lost (seen v) i
  torn_now lost v stop i logged now = front_torn lost (seen v) i ((logged stop).leaves i now)

  pub logged_of : (lost : List Bool) (v : V) → ((stop : Stop) (i : Image) → may_leave v stop i → IsTorn lost (seen v) i) → AreLogged seen may_leave lost v
  logged_of lost v each stop = record { flushed = omega arith; leaves = λ i now. torn_front lost (seen v) i (each stop i now) }

  pub now_matches : (lost : List Bool) (v : V) (stop : Stop) (i : Image) → AreLogged seen may_leave lost v → may_leave v stop i → Matches lost (recovered (seen v)) i
  now_matches lost v stop i logged now = torn_matches lost (seen v) i (torn_now lost v stop i logged now)

  pub logged_less : (lost counts : List Bool) (v : V) → ((d : ℕ) → is_lost lost d ≡ false → is_lost counts d ≡ false) → AreLogged seen may_leave counts v → AreLogged seen may_leave lost v
  logged_less lost counts v rest logged = logged_of lost v (λ stop i now. torn_less lost counts (seen v) i rest (torn_now counts v stop i logged now))

  -- after calls that only read
  pub logged_read : (lost : List Bool) (old new : V) → AreLogged seen may_leave lost old → OnlyRead seen may_leave moment left_since old new → AreLogged seen may_leave lost new
  logged_read lost old new logged read = logged_of lost new (λ stop i now. subst (λ (s : Image). IsTorn lost s i) (sym read.finds) (torn_now lost old stop i logged ((read.time stop).ends i now)))

  -- after a sync of drives that are then certain
  pub logged_synced : (lost counts : List Bool) (old new : V) → seen new ≡ seen old → AreLogged seen may_leave lost old → ((stop : Stop) → Within (may_leave new stop) (may_leave old stop))
      → ((stop : Stop) → HasUnitsAtStop counts (seen old).cells (may_leave new stop)) → AreLogged seen may_leave counts new
  logged_synced lost counts old new same logged within synced = logged_of counts new (λ stop i now.
      subst (λ (s : Image). IsTorn counts s i) (sym same) (record {
        cells = differ_not counts (flat (seen old).journal) (seen old).cells i.cells (synced stop i now);
        journal = (torn_now lost old stop i logged (within stop i now)).journal;
      }))

  module _ (lost : List Bool) where
    pub wrote_none : (v : V) → ((stop : Stop) (i : Image) → left_since v stop (moment v) i → may_leave v stop i) → WroteLost seen may_leave moment left_since lost v v
    wrote_none v only = record {
      journal = refl;
      there = λ x. refl;
      cells = λ x on. refl;
      leaves = λ logged. logged;
      moments = λ logged stop. started moment left_since stop v (Matches lost (recovered (seen v))) (λ i left. now_matches lost v stop i logged (only stop i left));
    }

    pub wrote_more : (old mid new : V) (place : Place) → is_lost lost place.drive ≡ true → WroteLost seen may_leave moment left_since lost old mid → Torn place (seen mid) (seen new)
        → ((stop : Stop) → Elapses (moment mid) (moment new) (left_since mid stop) (left_since new stop) (torn_at place (may_leave mid stop)) (may_leave new stop))
        → WroteLost seen may_leave moment left_since lost old new
    wrote_more old mid new place gone so_far torn time = record {
      journal = torn.journal ∙ so_far.journal;
      there = λ x. torn.there x ∙ so_far.there x;
      cells = λ x on. torn.elsewhere x (λ e. true≢false (sym gone ∙ ap (λ (p : Place). is_lost lost p.drive) (sym e) ∙ on)) ∙ so_far.cells x on;
      leaves = λ logged. logged_of lost new (λ stop i now.
          torn_on lost (seen new) (seen mid) i (torn_back lost (seen mid) (seen new) (lost_torn lost (seen mid) (seen mid) (seen new) place gone (torn_not lost (seen mid)) torn))
          (during logged stop i ((time stop).ends i now)));
      moments = λ logged stop. goes_on moment left_since stop old mid new (Matches lost (recovered (seen old))) (torn_at place (may_leave mid stop)) (may_leave new stop) (so_far.moments logged stop) (time stop)
          (λ i from x on. torn_matches lost (seen mid) i (during logged stop i from) x on ∙ recovered_same lost (seen mid) (seen old) so_far.journal so_far.cells x on);
    }
      where
        during : AreLogged seen may_leave lost old → (stop : Stop) (i : Image) → torn_at place (may_leave mid stop) i → IsTorn lost (seen mid) i
        during logged stop i from = lost_torn lost (seen mid) from.0 i place gone (torn_now lost mid stop from.0 (so_far.leaves logged) from.1) from.2

    -- so far the vault stands for the units of before, but for those of lost drives, and so did what a stop left
    pub record Underway (old mid : V) : Type 0 where
      pub cells : SameOn lost (recovered (seen mid)) (recovered (seen old))
      pub logged : AreLogged seen may_leave lost mid
      pub moments : (stop : Stop) → LeavesOnly moment left_since stop old mid (Matches lost (recovered (seen old)))

    pub underway_none : (v : V) → ((stop : Stop) (i : Image) → left_since v stop (moment v) i → may_leave v stop i) → AreLogged seen may_leave lost v → Underway v v
    underway_none v only logged = record { cells = λ x on. refl; logged = logged; moments = (wrote_none v only).moments logged }

    -- further calls
    pub further : (old mid new : V) → Underway old mid → (stop : Stop) → LeavesOnly moment left_since stop mid new (Matches lost (recovered (seen mid)))
        → LeavesOnly moment left_since stop old new (Matches lost (recovered (seen old)))
    further old mid new so_far stop more = both_runs moment left_since stop old mid new (Matches lost (recovered (seen old))) (Matches lost (recovered (seen mid))) (Matches lost (recovered (seen old)))
        (so_far.moments stop) more (λ i p. p) (λ i q x on. q x on ∙ so_far.cells x on)

    pub underway_read : (old mid new : V) → Underway old mid → OnlyRead seen may_leave moment left_since mid new → Underway old new
    underway_read old mid new so_far read = record {
      cells = subst (λ (s : Image). SameOn lost (recovered s) (recovered (seen old))) (sym read.finds) so_far.cells;
      logged = logged_read lost mid new so_far.logged read;
      moments = λ stop. goes_on moment left_since stop old mid new (Matches lost (recovered (seen old))) (may_leave mid stop) (may_leave new stop) (so_far.moments stop) (read.time stop)
          (λ i now x on. now_matches lost mid stop i so_far.logged now x on ∙ so_far.cells x on);
    }

    pub underway_wrote : (old mid new : V) → Underway old mid → WroteLost seen may_leave moment left_since lost mid new → Underway old new
    underway_wrote old mid new so_far wrote = record {
      cells = λ x on. recovered_same lost (seen new) (seen mid) wrote.journal wrote.cells x on ∙ so_far.cells x on;
      logged = wrote.leaves so_far.logged;
      moments = λ stop. further old mid new so_far stop (wrote.moments so_far.logged stop);
    }

    -- a settled journal, of all drives that count
    pub underway_settled : (counts : List Bool) (old mid new : V) → ((d : ℕ) → is_lost lost d ≡ false → is_lost counts d ≡ false) → Underway old mid → IsSettled seen may_leave counts mid new
        → ((stop : Stop) → LeavesOnly moment left_since stop mid new (Matches counts (recovered (seen mid)))) → Underway old new
    underway_settled counts old mid new rest so_far settled moments = record {
      cells = λ x on. ap (λ (c : Cells). held c x) (recovered_empty (seen new) settled.empty) ∙ settled.cells x (rest x.drive on) ∙ so_far.cells x on;
      logged = logged_less lost counts new rest settled.durable;
      moments = λ stop. further old mid new so_far stop (weaker moment left_since stop mid new (Matches counts (recovered (seen mid))) (Matches lost (recovered (seen mid))) (moments stop)
          (λ i matches. matches_less lost counts (recovered (seen mid)) i rest matches));
    }

    -- what a settling of drives that count leaves
    pub settled_moment : (counts : List Bool) (old mid new : V) → ((d : ℕ) → is_lost lost d ≡ false → is_lost counts d ≡ false) → Underway old mid
        → ((stop : Stop) → LeavesOnly moment left_since stop mid new (Matches counts (recovered (seen mid)))) → (stop : Stop) → LeavesOnly moment left_since stop old new (Matches lost (recovered (seen old)))
    settled_moment counts old mid new rest so_far moments stop = further old mid new so_far stop (weaker moment left_since stop mid new (Matches counts (recovered (seen mid))) (Matches lost (recovered (seen mid))) (moments stop)
        (λ i matches. matches_less lost counts (recovered (seen mid)) i rest matches))

    -- a vault that is ready
    pub ready_now : (counts : List Bool) (v0 v1 v2 v3 v4 v5 : V) → seen v1 ≡ seen v0 → IsSettled seen may_leave counts v1 v2 → WroteLost seen may_leave moment left_since lost v2 v3 → AreLogged seen may_leave lost v3
        → OnlyRead seen may_leave moment left_since v3 v4 → ((stop : Stop) → HasUnitsAtStop counts (seen v3).cells (may_leave v4 stop)) → OnlyRead seen may_leave moment left_since v4 v5 → Underway v0 v5
        → IsReadyToWrite seen may_leave lost counts v0 v5
    ready_now counts v0 v1 v2 v3 v4 v5 first settled wrote logged synced durable read underway = record {
      empty = empty;
      durable = logged_read counts v4 v5 (logged_synced lost counts v3 v4 synced.finds logged (λ stop i now. (synced.time stop).ends i now) durable) read;
      cells = λ x on. ap (λ (c : Cells). held c x) (sym (recovered_empty (seen v5) empty)) ∙ underway.cells x on;
      there = λ x on.
          ap (λ (s : Image). is_some (held s.cells x)) (read.finds ∙ synced.finds) ∙ wrote.there x
          ∙ ap (λ (o : Option (List ℕ)). is_some o) (settled.cells x on) ∙ ap (λ (s : Image). is_some (held (recovered s) x)) first;
    }
      where
        empty : (seen v5).journal ≡ []
        empty = ap (λ (s : Image). s.journal) (read.finds ∙ synced.finds) ∙ wrote.journal ∙ settled.empty

  -- a batch was kept, and settled
  module _ (counts : List Bool) (old mid new : V) (writes : List Intended) (kept : Matches counts (after (recovered (seen old)) writes) (seen mid)) where
    pub noted_moment : (stop : Stop) → LeavesOnly moment left_since stop old mid (IsBeforeOrAfter counts (recovered (seen old)) writes)
        → LeavesOnly moment left_since stop mid new (Matches counts (recovered (seen mid))) → LeavesOnly moment left_since stop old new (IsBeforeOrAfter counts (recovered (seen old)) writes)
    noted_moment stop first second = both_runs moment left_since stop old mid new (IsBeforeOrAfter counts (recovered (seen old)) writes) (Matches counts (recovered (seen mid))) (IsBeforeOrAfter counts (recovered (seen old)) writes)
        first second (λ i p. p) (λ i q. inr (λ x on. q x on ∙ kept x on))

    pub noted_units : IsSettled seen may_leave counts mid new → SameOn counts (recovered (seen new)) (after (recovered (seen old)) writes)
    noted_units settled x on = ap (λ (c : Cells). held c x) (recovered_empty (seen new) settled.empty) ∙ settled.cells x on ∙ kept x on

  -- nothing has begun
  pub not_begun : (counts : List Bool) (v : V) (writes : List Intended) → ((stop : Stop) (i : Image) → left_since v stop (moment v) i → may_leave v stop i) → AreLogged seen may_leave counts v
      → (stop : Stop) → LeavesOnly moment left_since stop v v (IsBeforeOrAfter counts (recovered (seen v)) writes)
  not_begun counts v writes only logged stop = started moment left_since stop v (IsBeforeOrAfter counts (recovered (seen v)) writes) (λ i left. inl (now_matches counts v stop i logged (only stop i left)))
