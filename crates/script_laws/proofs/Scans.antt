-- Where all drives are steady a scan and a restart have one answer, and leave one state.
use Rattle.std.proofs.Common.{inl, inr, ℕ, List, length, refl, ap, subst}
use Rattle.map_join.specs.declared.records.Record.{Record}
use Rattle.map_join.specs.Maps.{IsMapOf, IsListOf}
use Rattle.extent_groups.specs.Groups.{Groups}
use Rattle.flat_machine.specs.Flat.{Flat}
use Rattle.flat_machine.specs.Cases.{IsGoneIn}
use Rattle.flat_machine.specs.History.{IsHistory}
use Rattle.flat_machine.specs.Restarted.{restarted}
use Rattle.flat_machine.specs.Scans.{ScanCase, RestartAnswer, Restarted, NotRestarted, RestartCase}
use Rattle.flat_machine.proofs.Newest.{same_map}
use Rattle.flat_machine.proofs.Restarts.{history_reports, restarted_history}
use Rattle.script_laws.specs.Once.{Settles}
use Rattle.script_laws.specs.Steady.{AreSteady, IsReached}
use Rattle.script_laws.proofs.Trees.{Ends, Asks, Picks, ends, asks, picks, settles_by}
use Rattle.script_laws.proofs.Quiet.{quiet}
use Rattle.script_laws.proofs.Lists.{list_once}
use Rattle.script_laws.proofs.Groups.{IsLowestGone, lowest_once, found_gone, scan_settles}

module _ (z : Groups) (F : Flat) (is : IsReached z F) where
  pub scan_reached : Settles (IsReached z) (ScanCase F)
  scan_reached = scan_settles z F is.calm (IsReached z) is

  -- a state that restarts from its own map is reached
  restarted_reached : (keys : ℕ → ℕ) (records : List Record) → IsMapOf F.emitted keys → IsListOf keys records → IsReached z (restarted F keys records)
  restarted_reached keys records map list = record {
    calm = record { steady = is.calm.steady; blocks = is.calm.blocks; payload = is.calm.payload };
    keys = keys;
    history = restarted_history F keys records history.limits.sizes history.limits.least history.limits.most history.groups (history_reports F keys history) list;
  }
    where
      history : IsHistory F keys
      history = subst (IsHistory F) (same_map F.emitted is.keys keys is.history.map map) is.history

  abbrev restart_tree : RestartAnswer → Flat → Type 0
  restart_tree =
      Asks ((s : ℕ) → IsGoneIn F s → ⊥)
      (Picks (IsMapOf F.emitted) (λ keys. Picks (IsListOf keys) (λ records. Ends (Restarted (length records)) (restarted F keys records))))
      (Picks (IsLowestGone F) (λ s. Ends (NotRestarted s) F))

  pub restart_settles : Settles (IsReached z) (RestartCase F)
  restart_settles = settles_by (RestartCase F) restart_tree to
      (asks (picks (same_map F.emitted) (λ keys map. picks (list_once keys) (λ records list. ends (restarted_reached keys records map list))))
      (picks (lowest_once F) (λ s low. ends is)))
    where
      steady : AreSteady F
      steady = is.calm.steady

      to : (a : RestartAnswer) (G : Flat) → RestartCase F a G → restart_tree a G
      to (Restarted count) G c =
          inl (c.0, (c.1.0, c.1.2.map, (c.1.1, c.1.2.list, (ap Restarted c.1.3, quiet (restarted F c.1.0 c.1.1) G steady c.1.4))))
      to (NotRestarted s) G c =
          let low = found_gone z F is.calm G s c in inr ((λ none. none s low.gone), (s, low, (refl, quiet F G steady c.leaves)))
