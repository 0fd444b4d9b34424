use Rattle.std.proofs.Common.{List, ◌≡◌, ◌≤◌, [], ◌∷◌, take, length, vec_len, vec_capacity}
use Rattle.byte_store.specs.Lasting.{Shown}
use Rattle.slot_tables.specs.Views.{SameSizes}
use Rattle.tiered_array.specs.Matches.{RepresentsTiers}
use Rattle.tiered_array.specs.Tiered.{Tiered}
use Rattle.journaled_store.specs.Left.{HasBoth}
use Rattle.journaled_store.specs.Outlasting.{Outlasts, point}
use Rattle.journaled_run.specs.Showing.{IsShownIn}
use Rattle.journaled_run.proofs.Running.{Running}
use Rattle.journaled_run.proofs.run.run_calls.Given as goal

abbrev pub invariant-loop-at : goal.invariant-loop-at
invariant-loop-at g l =
    let v = g.V.Vault in record {
      runs : (T : Tiered) (before : List Shown) (first : Shown) → RepresentsTiers l.fn.store.store.tiers T → IsShownIn l.fn.store.store.size T.flat first
          → Outlasts HasBoth v.known v.seen v.may_leave (point l.fn.store) (first ∷ []) before
          → Running v.known v.seen v.may_leave v.moment v.left_since l.fn.store.store.size (v.moment l.fn.store.vault) T before first (take l.at l.calls) l.answers.items (point l.store);
      sizes : SameSizes l.fn.store.store.tiers.world.array l.store.store.tiers.world.array;
      size : l.store.store.size ≡ l.fn.store.store.size;
      count : vec_len l.answers ≡ l.at;
      room : length l.calls ≤ vec_capacity l.answers;
    }
