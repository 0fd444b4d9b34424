use Rattle.std.proofs.Common.{◌≡◌, ◌∙◌, ◌==◌, ℕ, Bool, true, false, if◌then◌else◌, refl, ap}
use Rattle.std.specs.Prelude.{◌&&◌, nat_le}
use Rattle.file_vault.specs.Calls.{seen_after}
use Rattle.file_vault.proofs.mem_files.end_after.Goals as goal

either_zero : (b : Bool) (n : ℕ) → n ≡ 0 → (if b then 0 else n) ≡ 0
either_zero true n is = refl
either_zero false n is = is

pub returns-in-TornWrite : goal.returns-in-TornWrite
returns-in-TornWrite c = λ f zeros k past. ap (λ call. seen_after call f c.args.file k) c.in-TornWrite.is ∙ zeros k past

pub returns-in-Cut : goal.returns-in-Cut
returns-in-Cut c = λ f zeros k past.
    ap (λ call. seen_after call f c.args.file k) c.in-Cut.is ∙ either_zero ((c.args.file == c.in-Cut.field-0) && nat_le c.in-Cut.field-1 k) (f c.args.file k) (zeros k past)

pub returns-in-TornCut : goal.returns-in-TornCut
returns-in-TornCut c = λ f zeros k past. ap (λ call. seen_after call f c.args.file k) c.in-TornCut.is ∙ zeros k past

pub returns-in-Sync : goal.returns-in-Sync
returns-in-Sync c = λ f zeros k past. ap (λ call. seen_after call f c.args.file k) c.in-Sync.is ∙ zeros k past
