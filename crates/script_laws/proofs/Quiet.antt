-- Where all drives are steady none fails: what a step leaves is one state.
use Rattle.std.proofs.Common.{◌≡◌, ℕ, ◌<◌, Bool, true, false, Option, Contains, refl, sym, ap, ◌∙◌, subst, arith, ◌⊎◌}
use Rattle.map_join.specs.declared.records.Record.{Record}
use Rattle.map_join.specs.Record.{IsRecord}
use Rattle.extents.specs.Failures.{Failures}
use Rattle.extents.specs.Units.{loss}
use Rattle.flat_machine.specs.Flat.{Flat, IsNewest}
use Rattle.flat_machine.specs.Cases.{Leaves, Fares, IsGoneIn}
use Rattle.flat_machine.proofs.Newest.{newest_unique}
use Rattle.flat_machine.specs.Steps.{FlatAnswer}
use Rattle.extent_groups.specs.Groups.{Groups}
use Rattle.script_laws.specs.Steady.{AreSteady, IsSteady}

-- no loss where nothing changes
loss_none : (b : Bool) → loss b b ≡ 0
loss_none true = refl
loss_none false = refl

-- a drive that doesn't get lost has the same count of failures
same_count : (was is : Bool) (f g : Failures) → Fares was is f g → is ≡ was → g.count ≡ f.count
same_count was is f g fares same =
    let rose = fares.count in
    let none : loss was is ≡ 0 = ap (loss was) same ∙ loss_none was in
    omega (arith, rose, none)

-- no drive fails: the step leaves the state that its case describes
pub quiet : (x G : Flat) → AreSteady x → Leaves x G → G ≡ x
quiet x G steady leaves = leaves.same ∙ (λ i. record x { lost = λ d. lost d i; failures = λ d. record { count = counts d i; steady = both d i } })
  where
    lost : (d : ℕ) → G.lost d ≡ x.lost d
    lost d = ((leaves.drives d).steady (steady d)).1

    counts : (d : ℕ) → (G.failures d).count ≡ (x.failures d).count
    counts d = same_count (x.lost d) (G.lost d) (x.failures d) (G.failures d) (leaves.drives d) (lost d)

    both : (d : ℕ) → (G.failures d).steady ≡ (x.failures d).steady
    both d = ((leaves.drives d).steady (steady d)).0 ∙ sym (steady d)

-- a fact of the state after holds of the state before, and the other way round
pub was : (Q : Flat → Type 0) (x G : Flat) → AreSteady x → Leaves x G → Q G → Q x
was Q x G steady leaves is = subst Q (quiet x G steady leaves) is

pub still : (Q : Flat → Type 0) (x G : Flat) → AreSteady x → Leaves x G → Q x → Q G
still Q x G steady leaves is = subst Q (sym (quiet x G steady leaves)) is

-- which slots are gone is as it was
pub gone_was : (x G : Flat) (s : ℕ) → AreSteady x → Leaves x G → IsGoneIn G s → IsGoneIn x s
gone_was x G s = was (λ F. IsGoneIn F s) x G

pub gone_is : (x G : Flat) (s : ℕ) → AreSteady x → Leaves x G → IsGoneIn x s → IsGoneIn G s
gone_is x G s = still (λ F. IsGoneIn F s) x G

-- a state with the same failures and sizes as a steady one is steady
pub changed : {z : Groups} {F x : Flat} → IsSteady z F → x.failures ≡ F.failures → x.groups.blocks ≡ F.groups.blocks → x.groups.payload ≡ F.groups.payload → IsSteady z x
changed calm failures blocks payload = record {
  steady = λ d. ap (λ (f : ℕ → Failures). (f d).steady) failures ∙ calm.steady d;
  blocks = blocks ∙ calm.blocks;
  payload = payload ∙ calm.payload;
}

-- a relation of a flat answer and a flat state
abbrev pub Steps : Type 1
Steps = FlatAnswer → Flat → Type 0

-- a test is not both false and true
pub not_both : (b : Bool) → b ≡ false → b ≡ true → ⊥
not_both b f t = let both : true ≡ false = sym t ∙ f in absurd cc

-- of two numbers one is less, or they are equal
pub order_of : (a b : ℕ) → (a < b) ⊎ ((a ≡ b) ⊎ (b < a))
order_of a b = grind arith

-- the emitted records are in range
abbrev pub AreRecords : Flat → Type 0
AreRecords F = (r : Record) → Contains F.emitted r → IsRecord r

-- a block has one newest record
pub one_newest : (F : Flat) (b : ℕ) → AreRecords F → (o p : Option Record) → IsNewest F.emitted b o → IsNewest F.emitted b p → o ≡ p
one_newest F b all = newest_unique F.emitted b all
