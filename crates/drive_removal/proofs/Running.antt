-- The calls of a removal, one after the other.
use Rattle.std.proofs.Common.{◌≡◌, ◌-◌, ◌<◌, inl, inr, ℕ, Bool, false, List, [], ◌∙◌, ap, arith}
use Rattle.extents.specs.declared.shape.Shape.{Shape}
use Rattle.extent_groups.specs.Cells.{Cells, held}
use Rattle.extent_groups.specs.Groups.{Groups}
use Rattle.extent_groups.specs.Planned.{Intended, after}
use Rattle.byte_store.specs.Lasting.{Shown}
use Rattle.vault.specs.Images.{Image, Matches, SameOn, is_lost, recovered}
use Rattle.vault.specs.Moments.{AreLogged, IsBeforeOrAfter, IsSettled, LeavesOnly}
use Rattle.vault.specs.declared.store.Stop.{Stop}
use Rattle.vault.proofs.Runs.{both_runs, weaker}
use Rattle.array_recovery.specs.Found.{OnlyRead}
use Rattle.array_recovery.specs.Reopened.{EndsAt}
use Rattle.drive_rebuild.proofs.Underway.{Underway, further, logged_less, logged_read, recovered_empty, underway_none, underway_read}
use Rattle.array_batch.proofs.Batching.{at}
use Rattle.drive_removal.specs.Removed.{CanShrink, HasOthers, IsBeforeOrRemoved, IsRemoved, IsRemovedIn, MarksOnly}
use Rattle.drive_removal.proofs.Removing.{others_count, others_there, removed_on, table_counts}

module _ {V : Type 0} (seen : V → Image) (may_leave : V → Stop → Image → Type 0) (moment : V → ℕ) (left_since : V → Stop → ℕ → Image → Type 0)
    (what : Shown) (shape : Shape) (groups : Groups) (drives units : ℕ) (lost : List Bool) (v0 : V) (can : CanShrink seen may_leave what groups drives units lost v0)
    (only : (stop : Stop) (i : Image) → left_since v0 stop (moment v0) i → may_leave v0 stop i) where
  abbrev before : Cells
  before = recovered (seen v0)

  abbrev Outcome : Image → Type 0
  Outcome = IsBeforeOrRemoved lost before what shape groups drives units

  -- nothing has begun
  abbrev pub begun : Underway seen may_leave moment left_since lost v0 v0
  begun = underway_none seen may_leave moment left_since lost v0 only can.logged

  -- what a stop leaves until the batch is kept
  pub still : (v : V) (stop : Stop) → LeavesOnly moment left_since stop v0 v (Matches lost before) → LeavesOnly moment left_since stop v0 v Outcome
  still v stop run = weaker moment left_since stop v0 v (Matches lost before) Outcome run (λ i was. inl was)

  module _ (v1 : V) (read : OnlyRead seen may_leave moment left_since v0 v1) where
    -- the table was read
    abbrev pub looked : Underway seen may_leave moment left_since lost v0 v1
    looked = underway_read seen may_leave moment left_since lost v0 v0 v1 begun read

    module _ (counts : List Bool) (marked : MarksOnly (drives - 1) counts before) where
      -- a drive that isn't lost is in use
      pub rest : (d : ℕ) → is_lost lost d ≡ false → is_lost counts d ≡ false
      rest d free = marked.counts_are d ∙ can.lost_are.rest marked.marks marked.table d free

      few : is_lost counts 16 ≡ false
      few = table_counts (drives - 1) counts before marked

      others : (d : ℕ) → d < drives - 1 → is_lost counts d ≡ false
      others d low = others_count what groups drives before can.left counts marked d (omega (arith, low))

      module _ (v2 : V) (moments : (stop : Stop) → LeavesOnly moment left_since stop v1 v2 (Matches lost (recovered (seen v1)))) where
        pub settling : (stop : Stop) → LeavesOnly moment left_since stop v0 v2 (Matches lost before)
        settling stop = further seen may_leave moment left_since lost v0 v1 v2 looked stop (moments stop)

        module _ (settled : IsSettled seen may_leave counts v1 v2) where
          -- the journal is empty, and the units are those of before
          same_units : SameOn counts (seen v2).cells before
          same_units x on = settled.cells x on ∙ ap (λ (s : Image). held (recovered s) x) read.finds

          abbrev emptied : Underway seen may_leave moment left_since lost v0 v2
          emptied = record {
            cells = λ x on. ap (λ (c : Cells). held c x) (recovered_empty (seen v2) settled.empty) ∙ same_units x (rest x.drive on);
            logged = logged_less seen may_leave moment left_since lost counts v2 rest settled.durable;
            moments = settling;
          }

          pub array_found : HasOthers what groups drives (seen v2).cells
          array_found = others_there what groups drives before can.left counts marked (seen v2).cells same_units

          pub ends_found : EndsAt [] (drives - 1) units (seen v2).cells
          ends_found d a low not high = same_units (at d a) (others d low) ∙ can.ends d a (omega (arith, low)) not high

          module _ (v3 : V) (planned_by : OnlyRead seen may_leave moment left_since v2 v3) where
            -- all was read for the plan
            pub planning : (stop : Stop) → LeavesOnly moment left_since stop v0 v3 (Matches lost before)
            planning stop = (underway_read seen may_leave moment left_since lost v0 v2 v3 emptied planned_by).moments stop

            pub logged_now : AreLogged seen may_leave counts v3
            logged_now = logged_read seen may_leave moment left_since counts v2 v3 settled.durable planned_by

            found_units : recovered (seen v3) ≡ (seen v2).cells
            found_units = ap (λ (s : Image). recovered s) planned_by.finds ∙ recovered_empty (seen v2) settled.empty

            module _ (writes : List Intended) (planned : IsRemovedIn what shape groups (drives - 1) units (after (seen v2).cells writes)) where
              kept : (c : Cells) → SameOn counts c (after (recovered (seen v3)) writes) → IsRemovedIn what shape groups (drives - 1) units c
              kept c same = removed_on counts what shape groups (drives - 1) units (after (seen v2).cells writes) c few others
                  (λ x on. same x on ∙ ap (λ (e : Cells). held (after e writes) x) found_units) planned

              pub removed : (v4 : V) → SameOn counts (recovered (seen v4)) (after (recovered (seen v3)) writes) → AreLogged seen may_leave counts v4 → IsRemoved seen may_leave what shape groups (drives - 1) units v4
              removed v4 same durable = record { inside = kept (recovered (seen v4)) same; counts = counts; few = few; others = others; durable = durable }

              outcome : (i : Image) → IsBeforeOrAfter counts (recovered (seen v3)) writes i → Outcome i
              outcome i which = elim which [
                | inl was ↦ inl (λ x on. was x (rest x.drive on) ∙ ap (λ (e : Cells). held e x) found_units ∙ same_units x (rest x.drive on))
                | inr is ↦ inr (kept (recovered i) is)
              ]

              pub carrying : (v4 : V) (stop : Stop) → LeavesOnly moment left_since stop v3 v4 (IsBeforeOrAfter counts (recovered (seen v3)) writes) → LeavesOnly moment left_since stop v0 v4 Outcome
              carrying v4 stop run = both_runs moment left_since stop v0 v3 v4 (Matches lost before) (IsBeforeOrAfter counts (recovered (seen v3)) writes) Outcome
                  (planning stop) run (λ i was. inl was) outcome
