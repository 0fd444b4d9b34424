-- The cases of a fill, a trim and a copy, from that of a put that is never out of memory.
use Rattle.std.proofs.Common.{◌≡◌, ◌≢◌, ℕ, refl, subst, sym, Result, Ok, Err}
use Rattle.std.specs.Prelude.{IfOk, IfErr, MatchResult}
use Rattle.map_join.specs.declared.records.Record.{Record}
use Rattle.flat_machine.specs.declared.refusal.Refusal.{Refusal}
use Rattle.flat_machine.specs.declared.refusal.Refusal.TheVariants.{Memory}
use Rattle.flat_machine.specs.Flat.{Flat, Content}
use Rattle.flat_machine.specs.Steps as say
use Rattle.flat_machine.specs.Cases.{FillCase, FillPasses, CopyCase, CopyPasses}
use Rattle.slot_tables.specs.Changes.{MayRefuse}
use Rattle.slot_tables.specs.Represents.{ShowsArray}
use Rattle.slot_tables.specs.Views.{ArrayView}
use Rattle.step_core.specs.Placing.{Fresh, Again, PutReports}

-- a refusal that isn't out of memory says the same, whatever is said of one that is
may_say : (q : Refusal) (W P : Type 0) → q ≢ Memory → MayRefuse q (Unit {0}) P → MayRefuse q W P
may_say Memory W P other may = absurd (other refl)
may_say _ W P other may = may

pub fill_reported : {C : Type 0} (r : Result ℕ (Refusal × C)) (F : Flat) (w s : ℕ) (x : Content) (b : ArrayView) → IfErr r (λ e. e.0 ≢ Memory) → IfOk r (λ t. t ≡ s)
    → PutReports r F w (Fresh x) s 0 b
    → MatchResult r (λ t. (G : Flat) × FillCase F w t x (say.Filled t) G × ShowsArray b G)
    (λ e. MayRefuse e.0 (FillPasses F w s) ((G : Flat) × FillCase F w s x (say.Refused e.0) G × ShowsArray b G))
fill_reported (Ok t) F w s x b other is y = subst (λ n. (G : Flat) × FillCase F w n x (say.Filled n) G × ShowsArray b G) (sym is) y
fill_reported (Err e) F w s x b other is y = may_say e.0 (FillPasses F w s) ((G : Flat) × FillCase F w s x (say.Refused e.0) G × ShowsArray b G) other y

pub copy_reported : {C : Type 0} (r : Result ℕ (Refusal × C)) (F : Flat) (w s block : ℕ) (b : ArrayView) → IfErr r (λ e. e.0 ≢ Memory) → IfOk r (λ t. t ≡ s)
    → PutReports r F w Again s block b
    → MatchResult r (λ t. (G : Flat) × CopyCase F w t block (say.Copied t) G × ShowsArray b G)
    (λ e. MayRefuse e.0 ((q : Record) × CopyPasses F w s block q) ((G : Flat) × CopyCase F w s block (say.Refused e.0) G × ShowsArray b G))
copy_reported (Ok t) F w s block b other is y = subst (λ n. (G : Flat) × CopyCase F w n block (say.Copied n) G × ShowsArray b G) (sym is) y
copy_reported (Err e) F w s block b other is y = may_say e.0 ((q : Record) × CopyPasses F w s block q) ((G : Flat) × CopyCase F w s block (say.Refused e.0) G × ShowsArray b G) other y
