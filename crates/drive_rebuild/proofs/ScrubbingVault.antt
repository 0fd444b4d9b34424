-- Drives in memory of which some are lost, and what a test of their slots finds.
use Rattle.std.proofs.Common.{◌≡◌, ◌<◌, ◌≤◌, ◌⊎◌, inl, inr, ℕ, Bool, true, false, Option, Some, None, List, length, slice_get, refl, sym, ◌∙◌, ap, subst, arith, if◌then◌else◌}
use Rattle.std.proofs.lemmas.Option.{slice_get_cases, slice_get_past}
use Rattle.extents.specs.Condition.{Held, failures_of, is_gone}
use Rattle.extents.specs.Failures.{Failures}
use Rattle.extents.specs.declared.mem_drive.Condition.{Condition}
use Rattle.extents.specs.declared.mem_drive.Condition.TheVariants.{Present}
use Rattle.extent_groups.specs.Groups.{Groups}
use Rattle.extent_groups.specs.Cells.{Cells, cell, cells}
use Rattle.extent_groups.specs.Calls.{KeepsDrives, NoPlace}
use Rattle.extent_groups.specs.Stores.{AreSound}
use Rattle.unit_store.specs.Losses.{LosesOnly}
use Rattle.unit_store.specs.Memory.{held_failures, held_lost, held_units}
use Rattle.unit_store.specs.Slots.{cells_in}
use Rattle.unit_store.specs.declared.parts.Parts.{Parts}
use Rattle.vault.specs.Images.{is_lost}
use Rattle.array_recovery.specs.Found.{AreFormed, AreGone, HaveUnits, IsTable}
use Rattle.array_recovery.proofs.Reopening.{bool_cases}
use Rattle.drive_rebuild.specs.Scrubbed.{ReportsUnsound}
use Rattle.drive_rebuild.specs.ScrubbedVault.{AreWithoutLost, ReportsVault}
use Rattle.drive_rebuild.specs.declared.scrub.Findings.{Findings}
use Rattle.drive_rebuild.proofs.Shown.{there}
use Rattle.drive_rebuild.proofs.Verified.{of_held}

of_gone : (o : Option Held) (m : Held) (a : ℕ) → o ≡ Some m → held_lost m ≡ true → cell held_units held_lost o a ≡ None
of_gone o m a e gone = ap (λ (p : Option Held). cell held_units held_lost p a) e ∙ ap (λ b. if b then None else slice_get m.units a) gone

-- drives of which each answers or is lost
abbrev pub AnswerOrLost : List Held → Type 0
AnswerOrLost drives = (d : ℕ) (m : Held) → slice_get drives d ≡ Some m → (m.condition ≡ Present) ⊎ (held_lost m ≡ true)

-- they keep what they hold in calls that write nothing
module _ (old new : List Held) (keeps : KeepsDrives held_units held_lost held_failures NoPlace old new) (answer : AnswerOrLost old) where
  same : (d a : ℕ) → cells held_units held_lost old d a ≡ cells held_units held_lost new d a
  same d a = elim (slice_get_cases old d).1 [
    | inl some ↦
        (let n = there new d (let low = some.1 in let many = keeps.many in omega (arith, low, many)) in
        let kept = keeps.each d some.0 n.0 some.2 n.1 in
        elim (answer d some.0 some.2) [
          | inl present ↦
              (let alive : held_lost some.0 ≡ false = ap is_gone present in
              let still : held_lost n.0 ≡ false = (kept.steady (ap (λ (c : Condition). Failures.steady (failures_of c)) present)).1 ∙ alive in
              of_held (slice_get old d) some.0 a some.2 alive ∙ sym (kept.elsewhere a (λ never. never)) ∙ sym (of_held (slice_get new d) n.0 a n.1 still))
          | inr gone ↦ of_gone (slice_get old d) some.0 a some.2 gone ∙ sym (of_gone (slice_get new d) n.0 a n.1 (kept.stays gone))
        ])
    | inr none ↦
        ap (λ (o : Option Held). cell held_units held_lost o a) none.1
        ∙ sym (ap (λ (o : Option Held). cell held_units held_lost o a) (slice_get_past new d (let high = none.0 in let many = keeps.many in omega (arith, high, many))))
  ]

  pub cells_still : cells held_units held_lost old ≡ cells held_units held_lost new
  cells_still = λ i d a. same d a i

-- what was found, and then tested
module _ (drives units size : ℕ) (lost : List Bool) (c : Cells) (caches : List Held) (parts tested : Parts Held) (findings : Findings) (many : length caches ≡ drives)
    (formed : AreFormed units size caches) (have : HaveUnits lost c caches) (without : AreWithoutLost lost caches parts.drives.items) where
  is_of : (d : ℕ) (m : Held) → slice_get parts.drives.items d ≡ Some m → is_lost lost d ≡ false → slice_get caches d ≡ Some m
  is_of d m e alive = sym (without.kept d alive) ∙ e

  answer : AnswerOrLost parts.drives.items
  answer d m e = elim (bool_cases (is_lost lost d)) [ inl gone ↦ inr (without.gone d m e gone) | inr alive ↦ inl (formed.present d m (is_of d m e alive)) ]

  abbrev holds : Cells
  holds = cells_in held_units held_lost parts

  at_there : (d at : ℕ) → d < drives → at < units → is_lost lost d ≡ false → holds d at ≡ c d at
  at_there d at low inside alive =
      let m = there caches d (omega (arith, low, many)) in
      let here : slice_get parts.drives.items d ≡ Some m.0 = without.kept d alive ∙ m.1 in
      of_held (slice_get parts.drives.items d) m.0 at here (ap is_gone (formed.present d m.0 m.1))
      ∙ sym (have.each d at m.0 m.1 alive (let count = formed.many d m.0 m.1 in omega (arith, inside, count)))

  at_gone : (d at : ℕ) → is_lost lost d ≡ true → holds d at ≡ None
  at_gone d at gone = elim (slice_get_cases parts.drives.items d).1 [
    | inl some ↦ of_gone (slice_get parts.drives.items d) some.0 at some.2 (without.gone d some.0 some.2 gone)
    | inr none ↦ ap (λ (o : Option Held). cell held_units held_lost o at) none.1
  ]

  past_units : (d at : ℕ) (m : Held) → slice_get parts.drives.items d ≡ Some m → units ≤ at → (b : Bool) → is_lost lost d ≡ b → holds d at ≡ None
  past_units d at m e high true gone = at_gone d at gone
  past_units d at m e high false alive =
      let is = is_of d m e alive in
      of_held (slice_get parts.drives.items d) m at e (ap is_gone (formed.present d m is)) ∙ slice_get_past m.units at (let count = formed.many d m is in omega (arith, high, count))

  at_past : (d at : ℕ) → (drives ≤ d) ⊎ (units ≤ at) → holds d at ≡ None
  at_past d at past = elim (slice_get_cases parts.drives.items d).1 [
    | inr none ↦ ap (λ (o : Option Held). cell held_units held_lost o at) none.1
    | inl some ↦
        (elim past [
          | inl high ↦ (let low = some.1 in let same = without.many in absurd (omega (arith, high, low, same, many)))
          | inr high ↦ past_units d at some.0 some.2 high (is_lost lost d) refl
        ])
  ]

  reports_all : (marks : List ℕ) (absent : List Bool) → IsTable marks c → AreGone marks absent lost → LosesOnly held_units held_lost held_failures parts tested
      → ReportsUnsound parts.groups (cells_in held_units held_lost parts) (cells_in held_units held_lost tested) findings
      → (findings.unsound ≡ 0 → AreSound tested.groups (cells_in held_units held_lost tested))
      → ReportsVault parts.groups drives units absent c (record { findings = findings; lost = lost; parts = tested })
  reports_all marks absent table marked only reported sound =
      let still = cells_still parts.drives.items tested.drives.items only.drives answer in
      record {
        marks = marks;
        table = table;
        marked = marked;
        same = only.tables.groups;
        there = λ d at low inside alive. subst (λ (n : Cells). n d at ≡ c d at) still (at_there d at low inside alive);
        gone = λ d at gone. subst (λ (n : Cells). n d at ≡ None) still (at_gone d at gone);
        past = λ d at past. subst (λ (n : Cells). n d at ≡ None) still (at_past d at past);
        reported = subst (λ (n : Cells). ReportsUnsound parts.groups n (cells_in held_units held_lost tested) findings) still reported;
        sound = λ none. subst (λ (g : Groups). AreSound g (cells_in held_units held_lost tested)) only.tables.groups (sound none);
      }

-- the same, given what the test left of the parts first
pub reports_vault : (drives units size : ℕ) (lost : List Bool) (c : Cells) (caches : List Held) → length caches ≡ drives → AreFormed units size caches → HaveUnits lost c caches
    → (parts tested : Parts Held) (findings : Findings) → LosesOnly held_units held_lost held_failures parts tested → AreWithoutLost lost caches parts.drives.items
    → (marks : List ℕ) (absent : List Bool) → IsTable marks c → AreGone marks absent lost
    → ReportsUnsound parts.groups (cells_in held_units held_lost parts) (cells_in held_units held_lost tested) findings
    → (findings.unsound ≡ 0 → AreSound tested.groups (cells_in held_units held_lost tested))
    → ReportsVault parts.groups drives units absent c (record { findings = findings; lost = lost; parts = tested })
reports_vault drives units size lost c caches many formed have parts tested findings only without marks absent table marked reported sound =
    reports_all drives units size lost c caches parts tested findings many formed have without marks absent table marked only reported sound
