-- The calls of a change that is one batch, one after the other.
use Rattle.std.proofs.Common.{◌≡◌, inl, inr, ℕ, Bool, List, [], refl, ◌∙◌, ap}
use Rattle.extent_groups.specs.Cells.{Cells, held}
use Rattle.extent_groups.specs.Groups.{Groups}
use Rattle.extent_groups.specs.Planned.{Intended, after}
use Rattle.byte_store.specs.Lasting.{Shown}
use Rattle.vault.specs.Images.{Image, Matches, SameOn, recovered}
use Rattle.vault.specs.Moments.{AreLogged, IsBeforeOrAfter, IsSettled, LeavesOnly}
use Rattle.vault.specs.declared.store.Stop.{Stop}
use Rattle.vault.proofs.Runs.{both_runs, weaker}
use Rattle.array_recovery.specs.Found.{OnlyRead}
use Rattle.array_recovery.specs.Reopened.{EndsAt}
use Rattle.drive_rebuild.proofs.Underway.{Underway, further, logged_less, logged_read, recovered_empty, underway_none, underway_read}
use Rattle.array_batch.specs.Arrays.{HasArray, MarksNone}
use Rattle.array_batch.specs.Changes.{CanChange, HasArrayWith, IsBeforeOrWith, KeepsArrayWith}
use Rattle.array_batch.proofs.Changing.{array_there, with_on}
use Rattle.array_batch.proofs.Batching.{at}

module _ {V : Type 0} (seen : V → Image) (may_leave : V → Stop → Image → Type 0) (moment : V → ℕ) (left_since : V → Stop → ℕ → Image → Type 0)
    (what : Shown) (groups : Groups) (drives : ℕ) (such : Groups → Type 0) (afterwards units : ℕ) (lost : List Bool) (v0 : V) (can : CanChange seen may_leave what groups drives afterwards units lost v0)
    (only : (stop : Stop) (i : Image) → left_since v0 stop (moment v0) i → may_leave v0 stop i) where
  abbrev before : Cells
  before = recovered (seen v0)

  abbrev Outcome : Image → Type 0
  Outcome = IsBeforeOrWith lost before such what afterwards units

  -- nothing has begun
  abbrev pub begun : Underway seen may_leave moment left_since lost v0 v0
  begun = underway_none seen may_leave moment left_since lost v0 only can.logged

  -- what a stop leaves until the batch is kept
  pub still : (v : V) (stop : Stop) → LeavesOnly moment left_since stop v0 v (Matches lost before) → LeavesOnly moment left_since stop v0 v Outcome
  still v stop run = weaker moment left_since stop v0 v (Matches lost before) Outcome run (λ i was. inl was)

  module _ (v1 : V) (read : OnlyRead seen may_leave moment left_since v0 v1) where
    -- the table was read
    abbrev pub looked : Underway seen may_leave moment left_since lost v0 v1
    looked = underway_read seen may_leave moment left_since lost v0 v0 v1 begun read

    module _ (v2 : V) (moments : (stop : Stop) → LeavesOnly moment left_since stop v1 v2 (Matches lost (recovered (seen v1)))) where
      pub settling : (stop : Stop) → LeavesOnly moment left_since stop v0 v2 (Matches lost before)
      settling stop = further seen may_leave moment left_since lost v0 v1 v2 looked stop (moments stop)

      module _ (settled : IsSettled seen may_leave [] v1 v2) where
        -- the journal is empty, and the units are those of before
        pub same_units : SameOn [] (seen v2).cells before
        same_units x on = settled.cells x on ∙ ap (λ (s : Image). held (recovered s) x) read.finds

        abbrev pub emptied : Underway seen may_leave moment left_since lost v0 v2
        emptied = record {
          cells = λ x on. ap (λ (c : Cells). held c x) (recovered_empty (seen v2) settled.empty) ∙ same_units x refl;
          logged = logged_less seen may_leave moment left_since lost [] v2 (λ d e. refl) settled.durable;
          moments = settling;
        }

        pub array_found : MarksNone before → HasArray what groups drives (seen v2).cells
        array_found unmarked = array_there what groups drives before can.left unmarked (seen v2).cells same_units

        pub ends_found : EndsAt [] afterwards units (seen v2).cells
        ends_found d a low not high = same_units (at d a) refl ∙ can.ends d a low not high

        module _ (v3 : V) (planned_by : OnlyRead seen may_leave moment left_since v2 v3) where
          -- all was read for the plan
          pub planning : (stop : Stop) → LeavesOnly moment left_since stop v0 v3 (Matches lost before)
          planning stop = (underway_read seen may_leave moment left_since lost v0 v2 v3 emptied planned_by).moments stop

          pub logged_now : AreLogged seen may_leave [] v3
          logged_now = logged_read seen may_leave moment left_since [] v2 v3 settled.durable planned_by

          found_units : recovered (seen v3) ≡ (seen v2).cells
          found_units = ap (λ (s : Image). recovered s) planned_by.finds ∙ recovered_empty (seen v2) settled.empty

          module _ (writes : List Intended) (planned : HasArrayWith such what afterwards units (after (seen v2).cells writes)) where
            kept : (c : Cells) → SameOn [] c (after (recovered (seen v3)) writes) → HasArrayWith such what afterwards units c
            kept c same = with_on such what afterwards units (after (seen v2).cells writes) c (λ x on. same x on ∙ ap (λ (e : Cells). held (after e writes) x) found_units) planned

            pub changed : (v4 : V) → SameOn [] (recovered (seen v4)) (after (recovered (seen v3)) writes) → AreLogged seen may_leave [] v4 → KeepsArrayWith seen may_leave such what afterwards units v4
            changed v4 same durable = record { inside = kept (recovered (seen v4)) same; durable = durable }

            outcome : (i : Image) → IsBeforeOrAfter [] (recovered (seen v3)) writes i → Outcome i
            outcome i which = elim which [
              | inl was ↦ inl (λ x on. was x refl ∙ ap (λ (e : Cells). held e x) found_units ∙ same_units x refl)
              | inr is ↦ inr (kept (recovered i) is)
            ]

            pub carrying : (v4 : V) (stop : Stop) → LeavesOnly moment left_since stop v3 v4 (IsBeforeOrAfter [] (recovered (seen v3)) writes) → LeavesOnly moment left_since stop v0 v4 Outcome
            carrying v4 stop run = both_runs moment left_since stop v0 v3 v4 (Matches lost before) (IsBeforeOrAfter [] (recovered (seen v3)) writes) Outcome
                (planning stop) run (λ i was. inl was) outcome
