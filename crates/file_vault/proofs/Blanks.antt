-- Blank units of new files.
use Rattle.std.proofs.Common.{◌≡◌, ◌≢◌, ◌≤◌, ◌<◌, ◌⊎◌, inl, inr, ℕ, ◌+◌, ◌++◌, List, sym, ◌∙◌, ap, subst, arith, length}
use Rattle.std.specs.Prelude.{replicate}
use Rattle.extent_groups.specs.declared.place.Place.{Place}
use Rattle.extent_groups.proofs.Finishing.{place_or_not}
use Rattle.unit_digest.specs.Digests.{digest}
use Rattle.file_vault.specs.Folders.{Bytes, Folder, part, Wrote}
use Rattle.file_vault.specs.Layouts.{Plan, count_of, IsAttested, IsBlank}
use Rattle.file_vault.specs.Journals.{SameUnitFiles}
use Rattle.file_vault.proofs.Puts.{below_or}
use Rattle.file_vault.proofs.Units.{size_at, spot_of, unit_else, digest_else, outside_of, unit_is, digest_is}
use Rattle.file_vault.proofs.JournalCalls.{count_past}

module _ (plan : Plan) where
  abbrev pub zeros_at : Place → List ℕ
  zeros_at x = replicate (size_at plan x.drive) 0

  -- a blank unit is attested
  pub blank_attested : (f : Folder) (x : Place) → IsBlank plan f x → IsAttested plan f x
  blank_attested f x blank low = (blank low).1 ∙ ap (λ u. digest x.drive x.address u) (sym (blank low).0)

  pub blank_seen : (f g : Folder) → g ≡ f → (x : Place) → IsBlank plan f x → IsBlank plan g x
  blank_seen f g same x = subst (λ (h : Folder). IsBlank plan h x) (sym same)

  blank_same : (f g : Folder) (x : Place) → g x.drive ≡ f x.drive → IsBlank plan f x → IsBlank plan g x
  blank_same f g x same = subst (λ (b : Bytes). x.address < count_of plan.counts x.drive
      → (part b (spot_of plan x) (size_at plan x.drive) ≡ zeros_at x) × (part b (spot_of plan x + size_at plan x.drive) 32 ≡ digest x.drive x.address (zeros_at x))) (sym same)

  -- where no drive is, no unit is
  pub none_past : (f : Folder) (x : Place) → 16 < x.drive → IsBlank plan f x
  none_past f x past low = absurd (let none = count_past plan.counts x.drive past in omega (arith, low, none))

  pub blank_but : (f g : Folder) → SameUnitFiles f g → (x : Place) → IsBlank plan f x → IsBlank plan g x
  blank_but f g same x is = elim (below_or x.drive 17) [
    | inl under ↦ blank_same f g x (same x.drive (λ e. omega (arith, e, under))) is
    | inr rest ↦ elim rest [ inl e ↦ none_past g x (omega (arith, e)) | inr (j, e) ↦ none_past g x (omega (arith, e)) ]
  ]

  -- one blank unit more is written
  module _ (place : Place) (unit bytes : List ℕ) (at : ℕ) (spot : at ≡ spot_of plan place) (zeros : unit ≡ zeros_at place) (fits : length unit ≡ size_at plan place.drive) (sealed : bytes ≡ unit ++ digest place.drive place.address unit)
      (f g : Folder) (wrote_there : Wrote place.drive at bytes f g) where
    wrote : Wrote place.drive (spot_of plan place) bytes f g
    wrote = subst (λ n. Wrote place.drive n bytes f g) spot wrote_there

    here : IsBlank plan g place
    here low = (
      unit_is plan place unit bytes f g fits sealed wrote ∙ zeros,
      digest_is plan place unit bytes f g fits sealed wrote ∙ ap (λ u. digest place.drive place.address u) zeros,
    )

    else : (x : Place) → x ≢ place → IsBlank plan f x → IsBlank plan g x
    else x ne is low = (
      unit_else plan place f g (outside_of plan place unit bytes f g fits sealed wrote.outside) wrote.others x ne ∙ (is low).0,
      digest_else plan place f g (outside_of plan place unit bytes f g fits sealed wrote.outside) wrote.others x ne ∙ (is low).1,
    )

    pub blank_more : (x : Place) → (x ≡ place) ⊎ IsBlank plan f x → IsBlank plan g x
    blank_more x case = elim (place_or_not x place) [
      | inl e ↦ subst (λ y. IsBlank plan g y) (sym e) here
      | inr ne ↦ elim case [ inl e ↦ absurd (ne e) | inr is ↦ else x ne is ]
    ]

  -- the units of a drive below an address are blank, and all that were
  abbrev pub AreBlankBelow : ℕ → ℕ → Folder → Folder → Type 0
  AreBlankBelow drive below f g = (x : Place) → ((x.drive ≡ drive) × (x.address < below)) ⊎ IsBlank plan f x → IsBlank plan g x

  pub below_none : (drive : ℕ) (f : Folder) → AreBlankBelow drive 0 f f
  below_none drive f x case = elim case [ inl (e, low) ↦ absurd (omega (arith, low)) | inr is ↦ is ]

  pub below_more : (drive at : ℕ) (f g h : Folder) → AreBlankBelow drive at f g
      → ((x : Place) → (x ≡ record { drive = drive; address = at }) ⊎ IsBlank plan g x → IsBlank plan h x) → AreBlankBelow drive (at + 1) f h
  below_more drive at f g h was more x case = elim case [
    | inl (e, low) ↦ elim (below_or x.address at) [
      | inl under ↦ more x (inr (was x (inl (e, under))))
      | inr rest ↦ elim rest [
        | inl same ↦ more x (inl (λ i. record { drive = e i; address = same i }))
        | inr (j, past) ↦ absurd (omega (arith, low, past))
      ]
    ]
    | inr is ↦ more x (inr (was x (inr is)))
  ]

  pub below_all : (drive at count : ℕ) (f g : Folder) → count ≡ count_of plan.counts drive → count ≤ at → AreBlankBelow drive at f g
      → (x : Place) → (x.drive ≡ drive) ⊎ IsBlank plan f x → IsBlank plan g x
  below_all drive at count f g is most was x case = elim case [
    | inl e ↦ λ low. was x (inl (e, (let same : count_of plan.counts x.drive ≡ count_of plan.counts drive = ap (λ d. count_of plan.counts d) e in omega (arith, low, is, most, same)))) low
    | inr blank ↦ was x (inr blank)
  ]
