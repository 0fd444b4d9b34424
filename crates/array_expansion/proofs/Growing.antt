-- A drive is added, and then extents move.
use Rattle.std.proofs.Common.{◌≡◌, ◌≢◌, ◌<◌, ◌≤◌, ℕ, false, List, None, Result, Ok, Err, inr, refl, sym, ap, ◌∙◌, subst}
use Rattle.std.specs.Prelude.{IfErr, OnOk}
use Rattle.extents.specs.Failures.{no_failures}
use Rattle.map_join.specs.declared.records.Record.{Record}
use Rattle.map_join.specs.Maps.{IsMapOf, IsSame}
use Rattle.flat_machine.specs.Cases.{AddCase, most_drives}
use Rattle.flat_machine.specs.Flat.{Flat}
use Rattle.flat_machine.specs.Moves.{with_new_drive}
use Rattle.flat_machine.specs.Steps.{AddDrive, MoveExtent}
use Rattle.flat_machine.specs.declared.refusal.Refusal.TheVariants as refusal
use Rattle.flat_machine.proofs.Newest.{same_map}
use Rattle.slot_tables.specs.Views.{key_at}
use Rattle.step_core.specs.Reported.{flat_answer}
use Rattle.step_core.specs.declared.step.Answer.{Answer}
use Rattle.step_core.specs.declared.step.Answer.TheVariants as answer
use Rattle.step_core.proofs.Worlds.{refused_leaves}
use Rattle.tiered_array.specs.Matches.{RepresentsTiers}
use Rattle.tiered_array.specs.Regrouping.{IsBalanceOf}
use Rattle.tiered_array.specs.Steps.{StepAlone}
use Rattle.tiered_array.specs.Tiered.{Tiered}
use Rattle.tiered_array.specs.Views.{TiersView}
use Rattle.array_expansion.specs.declared.fault.ExpansionFault.{ExpansionFault}
use Rattle.array_expansion.specs.declared.fault.ExpansionFault.TheVariants.{Memory, Full, Refused}
use Rattle.array_expansion.specs.Expansion.{IsSpread, NotSpread, NotExpanded}

-- what a call of `add_drive` does
abbrev pub Adds : TiersView → TiersView → Answer → Type 0
Adds old new a = (T : Tiered) → RepresentsTiers old T → (U : Tiered) × StepAlone T AddDrive (flat_answer a) U × RepresentsTiers new U

-- there are sixteen drives, if none is added
full_case : (F G : Flat) (a : Answer) → ((n : ℕ) → a ≢ answer.Added n) → AddCase F (flat_answer a) G → (most_drives ≤ F.drives) × (G ≡ F)
full_case F G (answer.Added n) other case = absurd (other n refl)
full_case F G (answer.Refused refusal.Full) other case = case
full_case F G _ other case = absurd case

pub was_full : (old new : TiersView) (a : Answer) (fault : ExpansionFault) → fault ≡ Full → ((n : ℕ) → a ≢ answer.Added n) → Adds old new a
    → (T : Tiered) → RepresentsTiers old T → RepresentsTiers new T × NotExpanded T.flat fault T.flat
was_full old new a fault is other adds T was =
    let done = adds T was in
    let full = full_case T.flat done.1.0 a other done.1.1 in (
      subst (RepresentsTiers new) (done.1.2 ∙ ap (λ (G : Flat). record T { flat = G }) full.1) done.2,
      subst (λ f. NotExpanded T.flat f T.flat) (sym is) (full.0, refl),
    )

-- a fault of the moves is one of the whole
pub not_grown : (F G : Flat) (fault : ExpansionFault) → F.drives < most_drives → NotSpread (with_new_drive F false no_failures) fault G → NotExpanded F fault G
not_grown F G Memory room stops = inr (record { room = room; spread = stops })
not_grown F G Full room stops = absurd stops
not_grown F G (Refused r) room stops = (stops.0, record { room = room; spread = stops.1 }, stops.2)

-- the log stays
spread_log : (F G : Flat) → IsSpread F G → G.emitted ≡ F.emitted
spread_log F G spread = ap (λ (z : Flat). z.emitted) spread.left.same

not_spread_log : (F G : Flat) (fault : ExpansionFault) → NotSpread F fault G → G.emitted ≡ F.emitted
not_spread_log F G Memory stops = spread_log F G stops
not_spread_log F G Full stops = absurd stops
not_spread_log F G (Refused r) stops =
    let shift = stops.2.0 in
    let leaves = refused_leaves stops.0 G (MoveExtent shift.group shift.member shift.to) r stops.2.2 in
    ap (λ (z : Flat). z.emitted) leaves.same ∙ spread_log F stops.0 stops.1

-- arrays of one log have one map
pub same_keys : (old new : TiersView) (T : Tiered) (G : Flat) → RepresentsTiers old T → RepresentsTiers new (record T { flat = G }) → G.emitted ≡ T.flat.emitted
    → IsSame (key_at new.world.array) (key_at old.world.array)
same_keys old new T G was is log block =
    ap (λ (keys : ℕ → ℕ). keys block)
    (same_map T.flat.emitted (key_at new.world.array) (key_at old.world.array)
    (subst (λ (records : List Record). IsMapOf records (key_at new.world.array)) log is.world.array.history.map) was.world.array.history.map)

-- the map stays while extents move, whether a fault ends that or not
pub spread_keys : (r : Result (Unit {0}) ExpansionFault) (old new : TiersView)
    → OnOk r ((T : Tiered) → RepresentsTiers old T → (G : Flat) × RepresentsTiers new (record T { flat = G }) × IsSpread T.flat G × IsBalanceOf G None)
    → IfErr r (λ fault. (T : Tiered) → RepresentsTiers old T → (G : Flat) × RepresentsTiers new (record T { flat = G }) × NotSpread T.flat fault G)
    → (T : Tiered) → RepresentsTiers old T → IsSame (key_at new.world.array) (key_at old.world.array)
spread_keys (Ok done) old new ok err T was = let is = ok T was in same_keys old new T is.0 was is.1 (spread_log T.flat is.0 is.2)
spread_keys (Err fault) old new ok err T was = let is = err T was in same_keys old new T is.0 was is.1 (not_spread_log T.flat is.0 fault is.2)
