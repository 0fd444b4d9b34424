-- A command has one answer, and leaves one state.
use Rattle.std.proofs.Common.{◌≡◌, ℕ, ◌<◌, ◌≤◌, List, [], ◌∷◌, ◌++◌, length, get_or, unwrap_or, nat_le, refl, sym, ap, ◌∙◌, subst, arith, Option, Some, None}
use Rattle.std.specs.Prelude.{codes}
use Rattle.std.proofs.lemmas.List.{ext_get_or}
use Rattle.std.proofs.lemmas.Option.{same_Some, slice_get-get_or}
use Rattle.map_join.specs.declared.records.Record.{Record}
use Rattle.map_join.specs.Record.{record_at}
use Rattle.map_join.specs.Maps.{IsMapOf, IsListOf, IsDifference}
use Rattle.extents.specs.Failures.{no_failures}
use Rattle.extents.specs.Sizes.{AreInRange}
use Rattle.extent_groups.specs.Groups.{Groups}
use Rattle.flat_machine.specs.Groups.{AreSizes, IsEmpty}
use Rattle.flat_machine.specs.Flat.{Flat, Payload, Trim, Fresh, Waiting, new_flat}
use Rattle.flat_machine.specs.Steps.{FlatStep, FlatAnswer, Committed}
use Rattle.flat_machine.specs.Steps as s
use Rattle.flat_machine.specs.Cases.{Case}
use Rattle.flat_machine.specs.History.{IsValidStep}
use Rattle.flat_machine.specs.Scans.{ScanAnswer, Reported, NotReported, ScanCase, RestartAnswer, Restarted, NotRestarted, RestartCase}
use Rattle.flat_machine.proofs.Newest.{same_map}
use Rattle.flat_machine.proofs.Keeps.{new_history}
use Rattle.tiered_array.specs.Tiered.{Tiered, begun}
use Rattle.tiered_array.specs.Steps.{TierStep, TierCase, order_following}
use Rattle.tiered_array.specs.Steps as tier
use Rattle.tiered_array.specs.declared.regrouped.Regrouped.{Regrouped}
use Rattle.tiered_array.specs.Regrouping.{BalanceCase, RebuildCase}
use Rattle.script_syntax.specs.Order.{Order}
use Rattle.script_syntax.specs.Order as o
use Rattle.header_scan.specs.declared.fault.ScanFault.TheVariants.{Gone}
use Rattle.script_exec.specs.State.{Position, State, IsAdmissible, IsInRange, IsArrayInRange, block_count, nothing_taken}
use Rattle.script_exec.specs.Text.{answer_text, asked_version, outcome_text, regrouped_text, difference_text, fault_text, listing, record_text}
use Rattle.script_exec.specs.Answers.{Answers, AreNoGroups, Begins, AnswersCommit, AnswersCompare, Merges, Regroups, Restarts, Scans, ShowsMap, Steps, Takes, ReportsScan, TierSteps, members_named, restart_text, tiers_following, with_flat, with_taken}
use Rattle.script_laws.specs.Once.{Settles}
use Rattle.script_laws.specs.Steady.{IsReached}
use Rattle.script_laws.specs.Bench.{AreDistinct, IsOneBench, IsTiered}
use Rattle.script_laws.proofs.Trees.{Ends, Picks, Then, ends, picks, then, settles_by}
use Rattle.script_laws.proofs.Lists.{list_once, difference_once}
use Rattle.script_laws.proofs.Orders.{distinct_written, distinct_by_number}
use Rattle.script_laws.proofs.Scans.{scan_reached, restart_settles}
use Rattle.script_laws.proofs.Steps.{step_settles}
use Rattle.script_laws.proofs.Plans.{TierFits, tier_settles}
use Rattle.script_laws.proofs.Regroups.{balance_settles, rebuild_settles}

-- a relation of a text and a state
abbrev pub Replies : Type 1
Replies = List ℕ → State → Type 0

-- a state that is reached under some sizes is reached under its own
rebased : (z : Groups) (T : Tiered) → IsTiered z T → IsTiered T.flat.groups T
rebased z T is = record {
  reached = record { calm = record { steady = is.reached.calm.steady; blocks = refl; payload = refl }; keys = is.reached.keys; history = is.reached.history };
  distinct = is.distinct;
}

-- ---- a new array

module _ (extents segments payload blocks : ℕ) where
  -- groups of which none is made are one table
  empty_table : (g : Groups) → IsEmpty g → (k : ℕ) → k < length g.table → get_or g.table k None ≡ None
  empty_table g empty k low = sym (ap (λ x. unwrap_or x None) (slice_get-get_or g.table k None low)) ∙ empty.free k

  groups_once : (g h : Groups) → AreNoGroups g extents segments payload blocks → AreNoGroups h extents segments payload blocks → g ≡ h
  groups_once g h a b = λ i. record {
    extents = (a.of_extents ∙ sym b.of_extents) i;
    segments = (a.of_segments ∙ sym b.of_segments) i;
    payload = (a.of_payload ∙ sym b.of_payload) i;
    blocks = (a.of_blocks ∙ sym b.of_blocks) i;
    table = table i;
  }
    where
      table : g.table ≡ h.table
      table = ext_get_or None g.table h.table (a.empty.numbers ∙ sym b.empty.numbers)
          (λ k low. empty_table g a.empty k low ∙ sym (empty_table h b.empty k (let one = a.empty.numbers in let other = b.empty.numbers in omega arith)))

  -- their sizes are within the limits
  sizes_are : (g : Groups) → AreNoGroups g extents segments payload blocks → AreInRange extents segments payload blocks → AreSizes g
  sizes_are g none limits =
      subst (λ n. AreInRange n g.segments g.payload g.blocks) (sym none.of_extents)
      (subst (λ n. AreInRange extents n g.payload g.blocks) (sym none.of_segments)
      (subst (λ n. AreInRange extents segments n g.blocks) (sym none.of_payload)
      (subst (λ n. AreInRange extents segments payload n) (sym none.of_blocks) limits)))

  -- the command `array`
  pub begins_settle : (drives : ℕ) → IsArrayInRange drives extents segments payload blocks → Settles IsOneBench (Begins drives extents segments payload blocks)
  begins_settle drives range = settles_by (Begins drives extents segments payload blocks)
      (Picks (λ (g : Groups). AreNoGroups g extents segments payload blocks) (λ g. Ends (codes "array") (Some (begin g))))
      (λ text t c. (c.groups, c.none, (c.text_is, c.state_is)))
      (picks groups_once (λ g none. ends (record {
        reached = record {
          calm = record { steady = λ d. refl; blocks = refl; payload = refl };
          keys = λ _. 0;
          history = new_history g drives (nat_le drives) (λ _. no_failures) (sizes_are g none range.limits) none.empty range.least range.most;
        };
        distinct = distinct_by_number g.blocks;
      })))
    where
      begin : Groups → Position
      begin g = record { tiers = begun (new_flat g drives (nat_le drives) (λ _. no_failures)); taken = nothing_taken }

-- ---- block maps

-- the commands that read or change a map, and leave the array as it was
shows_settle : (P : Position) (records : List Record) → IsOneBench (Some P) → Settles IsOneBench (λ text t. ShowsMap records text × (t ≡ Some P))
shows_settle P records is = settles_by (λ text t. ShowsMap records text × (t ≡ Some P))
    (Picks (IsMapOf records) (λ keys. Picks (IsListOf keys) (λ listed. Ends (codes "map " ++ listing listed) (Some P))))
    (λ text t c. (c.0.keys, c.0.map_of, (c.0.listed, c.0.list_of, (c.0.text_is, c.1))))
    (picks (same_map records) (λ keys map. picks (list_once keys) (λ listed list. ends is)))

takes_settle : (P : Position) (map : ℕ) (r : Record) → IsOneBench (Some P) → Settles IsOneBench (Takes P map r)
takes_settle P map r is = settles_by (Takes P map r)
    (Picks (IsMapOf (P.taken map ++ r ∷ [])) (λ keys. Picks (λ (n : Record). record_at r.block (keys r.block) ≡ Some n)
    (λ newest. Ends (codes "took " ++ record_text newest) (Some (with_taken P map (P.taken map ++ r ∷ []))))))
    (λ text t c. (c.keys, c.map_of, (c.newest, c.newest_is, (c.text_is, c.state_is))))
    (picks (same_map (P.taken map ++ r ∷ [])) (λ keys map_is. picks (λ m n a b. same_Some m n (sym a ∙ b)) (λ newest at. ends is)))

merges_settle : (P : Position) (into from : ℕ) → IsOneBench (Some P) → Settles IsOneBench (Merges P into from)
merges_settle P into from is = settles_by (Merges P into from) (Ends (codes "merged") (Some (with_taken P into (P.taken into ++ P.taken from))))
    (λ text t c. (c.text_is, c.state_is)) (ends is)

compares_settle : (P : Position) (left right : List Record) → IsOneBench (Some P) → Settles IsOneBench (λ text t. AnswersCompare left right text × (t ≡ Some P))
compares_settle P left right is = settles_by (λ text t. AnswersCompare left right text × (t ≡ Some P))
    (Picks (IsMapOf left) (λ M. Picks (IsMapOf right) (λ N. Picks (IsDifference M N) (λ lowest. Ends (difference_text lowest) (Some P)))))
    (λ text t c. (c.0.left_keys, c.0.left_map, (c.0.right_keys, c.0.right_map, (c.0.lowest, c.0.differs, (c.0.text_is, c.1)))))
    (picks (same_map left) (λ M one. picks (same_map right) (λ N other.
    picks (difference_once M N) (λ lowest differs. ends is))))

-- ---- steps of the array

-- the order after a commit has each block once
order_distinct : (order : List ℕ) (b : ℕ) (a : FlatAnswer) (waiting : Option Waiting) → AreDistinct order → AreDistinct (order_following order b a waiting)
order_distinct order b (Committed r) (Some (Fresh x)) apart = distinct_written order b apart
order_distinct order b _ _ apart = apart

module _ (P : Position) (is : IsOneBench (Some P)) where
  abbrev sizes : Groups
  sizes = P.tiers.flat.groups

  -- a reached state, flat or with what is kept for the plans, is one of a script
  flat_bench : (G : Flat) → IsReached sizes G → IsOneBench (Some (with_flat P G))
  flat_bench G reached = rebased sizes (record P.tiers { flat = G }) (record { reached = reached; distinct = is.distinct })

  tiers_bench : (T : Tiered) → IsTiered sizes T → IsOneBench (Some (record P { tiers = T }))
  tiers_bench T tiered = rebased sizes T tiered

  steps_settle : (step : FlatStep) → IsValidStep sizes step → Settles IsOneBench (Steps P step)
  steps_settle step fits = settles_by (Steps P step)
      (Then (Case P.tiers.flat step) (λ a G. Ends (answer_text (asked_version step) a) (Some (with_flat P G))))
      (λ text t c. (c.answer, c.next, c.case, (c.text_is, c.state_is)))
      (then (step_settles sizes P.tiers.flat step is.reached fits) (λ a G reached. ends (flat_bench G reached)))

  commits_settle : (w slot b : ℕ) → b < sizes.blocks → Settles IsOneBench (AnswersCommit P w slot b)
  commits_settle w slot b below = settles_by (AnswersCommit P w slot b)
      (Then (Case P.tiers.flat (s.Commit w slot b)) (λ a G. Ends (answer_text (asked_version (s.Commit w slot b)) a) (Some (record P { tiers = noted a G }))))
      (λ text t c. (
        c.answer,
        c.next.flat,
        c.case.case,
        (
          c.text_is,
          c.state_is ∙ (λ i. Some (record P {
            tiers = record { flat = c.next.flat; order = c.case.noted i; end = c.case.same i };
          })),
        ),
      ))
      (then (step_settles sizes P.tiers.flat (s.Commit w slot b) is.reached below) (λ a G reached.
      ends (tiers_bench (noted a G) (record { reached = reached; distinct = order_distinct P.tiers.order b a (P.tiers.flat.tickets slot) is.distinct }))))
    where
      noted : FlatAnswer → Flat → Tiered
      noted a G = record { flat = G; order = order_following P.tiers.order b a (P.tiers.flat.tickets slot); end = P.tiers.end }

  tiers_settle : (step : TierStep) → TierFits sizes step → Settles IsOneBench (TierSteps P step)
  tiers_settle step fits = settles_by (TierSteps P step)
      (Then (TierCase P.tiers step) (λ outcome T. Ends (outcome_text outcome) (Some (record P { tiers = T }))))
      (λ text t c. (c.outcome, c.next, c.case, (c.text_is, c.state_is)))
      (then (tier_settles sizes P.tiers step is fits) (λ outcome T tiered. ends (tiers_bench T tiered)))

  regroups_settle : (comes : Regrouped → Flat → Type 0) → Settles (IsReached sizes) comes → Settles IsOneBench (Regroups P comes)
  regroups_settle comes settles = settles_by (Regroups P comes)
      (Then comes (λ outcome G. Ends (regrouped_text outcome) (Some (with_flat P G))))
      (λ text t c. (c.outcome, c.next, c.case, (c.text_is, c.state_is)))
      (then settles (λ outcome G reached. ends (flat_bench G reached)))

  -- the text of a scan, and the state
  abbrev scan_text_tree : ScanAnswer → Flat → Replies
  scan_text_tree (Reported keys) G = Picks (IsListOf keys) (λ listed. Ends (codes "scan " ++ listing listed) (Some (with_flat P G)))
  scan_text_tree (NotReported slot) G = Ends (fault_text (Gone slot)) (Some (with_flat P G))

  scans_settle : Settles IsOneBench (Scans P)
  scans_settle = settles_by (Scans P) (Then (ScanCase P.tiers.flat) scan_text_tree) (λ text t c. (c.answer, c.next, c.case, by_text c.answer c.next text t c.reported c.state_is))
      (then (scan_reached sizes P.tiers.flat is.reached) (λ a G reached. reports a G reached))
    where
      by_text : (a : ScanAnswer) (G : Flat) (text : List ℕ) (t : State) → ReportsScan a text → t ≡ Some (with_flat P G) → scan_text_tree a G text t
      by_text (Reported keys) G text t c state = (c.0, c.1, (c.2, state))
      by_text (NotReported slot) G text t c state = (c, state)

      reports : (a : ScanAnswer) (G : Flat) → IsReached sizes G → Settles IsOneBench (scan_text_tree a G)
      reports (Reported keys) G reached = picks (list_once keys) (λ listed list. ends (flat_bench G reached))
      reports (NotReported slot) G reached = ends (flat_bench G reached)

  restarts_settle : Settles IsOneBench (Restarts P)
  restarts_settle = settles_by (Restarts P)
      (Then (RestartCase P.tiers.flat) (λ a G. Ends (restart_text a) (Some (record P { tiers = tiers_following P.tiers a G }))))
      (λ text t c. (c.answer, c.next, c.case, (c.text_is, c.state_is)))
      (then (restart_settles sizes P.tiers.flat is.reached) (λ a G reached. ends (again a G reached)))
    where
      again : (a : RestartAnswer) (G : Flat) → IsReached sizes G → IsOneBench (Some (record P { tiers = tiers_following P.tiers a G }))
      again (Restarted count) G reached = tiers_bench (begun G) (record { reached = reached; distinct = distinct_by_number G.groups.blocks })
      again (NotRestarted slot) G reached = flat_bench G reached

-- ---- every command

-- an empty relation settles
nothing_given : (R : Replies) → ((text : List ℕ) (t : State) → R text t → ⊥) → Settles IsOneBench R
nothing_given R none = record { once = λ a b G H one other. absurd (none a G one); keeps = λ a G one. absurd (none a G one) }

-- a slot within the limit
low_slot : (n : ℕ) → n ≤ 65535 → n < 65536
low_slot n most = omega arith

-- a command that may come, within the limits, has one answer, and leaves one state
pub answers_settle : (state : State) (order : Order) → IsOneBench state → IsAdmissible state order → IsInRange (block_count state) order → Settles IsOneBench (Answers state order)
answers_settle None (o.Array drives extents segments payload blocks) is due range = begins_settle extents segments payload blocks drives range.fit
answers_settle None _ is due range = nothing_given _ (λ text t none. none)
answers_settle (Some P) (o.Array drives extents segments payload blocks) is due range = nothing_given _ (λ text t none. none)
answers_settle (Some P) (o.Make class members) is due range = steps_settle P is (s.Make class (members_named members)) tt
answers_settle (Some P) (o.Unmake w g) is due range = steps_settle P is (s.Unmake w g) tt
answers_settle (Some P) (o.Claim w n) is due range = steps_settle P is (s.Claim w n) (low_slot n range.within.numbers.1.0)
answers_settle (Some P) (o.Release w n) is due range = steps_settle P is (s.Release w n) tt
answers_settle (Some P) (o.Fill w n payload) is due range = steps_settle P is (s.Fill w n (Payload payload)) (low_slot n range.within.numbers.1.0, due.1)
answers_settle (Some P) (o.Copy w n b) is due range = steps_settle P is (s.Copy w n b) (low_slot n range.within.numbers.1.0, range.within.numbers.1.1.0)
answers_settle (Some P) (o.Commit w n b) is due range = commits_settle P is w n b range.within.numbers.1.1.0
answers_settle (Some P) (o.Discard w n) is due range = steps_settle P is (s.Discard w n) tt
answers_settle (Some P) (o.Lose drive) is due range = steps_settle P is (s.Lose drive) tt
answers_settle (Some P) (o.Read b) is due range = steps_settle P is (s.Read b) tt
answers_settle (Some P) (o.At r) is due range = steps_settle P is (s.ReadAt r) tt
answers_settle (Some P) (o.Take map r) is due range = takes_settle P map r is
answers_settle (Some P) (o.Merge into from) is due range = merges_settle P into from is
answers_settle (Some P) (o.Same left right) is due range = compares_settle P (P.taken left) (P.taken right) is
answers_settle (Some P) (o.Show map) is due range = shows_settle P (P.taken map) is
answers_settle (Some P) o.Map is due range = shows_settle P P.tiers.flat.emitted is
answers_settle (Some P) o.Log is due range = ends is
answers_settle (Some P) o.Scan is due range = scans_settle P is
answers_settle (Some P) o.Restart is due range = restarts_settle P is
answers_settle (Some P) (o.Write w b payload) is due range = tiers_settle P is (tier.Write w b (Payload payload)) (range.within.numbers.1.0, due.1)
answers_settle (Some P) (o.Trim w b) is due range = tiers_settle P is (tier.Write w b Trim) (range.within.numbers.1.0, tt)
answers_settle (Some P) (o.Demote w) is due range = tiers_settle P is (tier.Demote w) tt
answers_settle (Some P) (o.Plug w) is due range = tiers_settle P is (tier.Plug w) tt
answers_settle (Some P) (o.Clean w) is due range = tiers_settle P is (tier.Clean w) tt
answers_settle (Some P) o.Add is due range = steps_settle P is s.AddDrive tt
answers_settle (Some P) o.Balance is due range = regroups_settle P is (BalanceCase P.tiers.flat) (balance_settles P.tiers.flat.groups P.tiers.flat is.reached)
answers_settle (Some P) (o.Rebuild drive) is due range = regroups_settle P is (RebuildCase P.tiers.flat drive) (rebuild_settles P.tiers.flat.groups P.tiers.flat is.reached drive)
