use Rattle.std.proofs.Common.{◌≡◌, true, false, refl, sym, ap, ◌∙◌, subst, length, inr, rules, None}
use Rattle.std.specs.Bool.{MatchBool}
use Rattle.extent_groups.specs.Cells.{cells, front_units, held}
use Rattle.extent_groups.specs.Calls.{AreSized}
use Rattle.extent_groups.specs.Units.{row_of, held_in}
use Rattle.extent_groups.proofs.DriveCalls.{keeps_place, keeps_sizes}
use Rattle.extent_groups.proofs.RowWrites.{both_missing}
use Rattle.extent_groups.proofs.Totals.{total_same}
use Rattle.parity_store.specs.Ways.{bare, Added, Missed}
use Rattle.parity_store.specs.Targets.{row_to}
use Rattle.parity_store.proofs.Laid.{laid_readable}
use Rattle.parity_store.proofs.Whole.{added_whole}
use Rattle.parity_store.proofs.Stripes.{stays_gone}
use Rattle.parity_store.proofs.Sums.{sum_is, bare_same, row_same}
use Rattle.parity_store.proofs.way.find_without.Given as given
use Rattle.parity_store.proofs.way.find_without.Goals as goal
use Rattle.parity_store.proofs.way.find_without.Goals.{After-add_others}

pub add_others-requires-clause-readable : goal.add_others-requires-clause-readable
add_others-requires-clause-readable g c = laid_readable (ap length c.copy_from_slice.ensures.after) c.requires.target.laid

pub add_others-requires-clause-scratch : goal.add_others-requires-clause-scratch
add_others-requires-clause-scratch g c = λ d x there.
    inr (refl, subst (λ n. AreSized g.D.Drive.units n c.args.drives.now) (sym (ap length c.copy_from_slice.ensures.after)) c.requires.target.laid.size d x there)

-- the sum of the others' whole units
whole : (g : given.Over) (c : After-add_others g)
    → MatchBool c.add_others.result
    (Added (length c.args.unit.now) (cells g.D.Drive.units g.D.Drive.lost c.args.drives.now) (cells g.D.Drive.units g.D.Drive.lost c.add_others.new.drives) (row_to c.args.groups.now c.args.target.now) c.args.target.now.at.member c.args.target.now.at.parity c.args.unit.now c.add_others.new.sum)
    (Missed (cells g.D.Drive.units g.D.Drive.lost c.args.drives.now) (cells g.D.Drive.units g.D.Drive.lost c.add_others.new.drives) (row_to c.args.groups.now c.args.target.now) c.args.target.now.at.member c.args.target.now.at.parity)
whole g c =
    let n = length c.args.unit.now in
    let first = c.requires.target.laid.size in
    added_whole n g.D.Drive.units g.D.Drive.lost c.args.drives.now c.add_others.new.drives first (keeps_sizes c.add_others.ensures.touched first)
    (row_to c.args.groups.now c.args.target.now) c.args.target.now.at.member c.args.target.now.at.parity c.args.unit.now c.add_others.new.sum c.add_others.result
    (subst (λ v. MatchBool c.add_others.result
    (Added (length v) (cells (front_units (length v) g.D.Drive.units) g.D.Drive.lost c.args.drives.now) (cells (front_units (length v) g.D.Drive.units) g.D.Drive.lost c.add_others.new.drives) (row_to c.args.groups.now c.args.target.now) c.args.target.now.at.member c.args.target.now.at.parity v c.add_others.new.sum)
    (Missed (cells (front_units (length v) g.D.Drive.units) g.D.Drive.lost c.args.drives.now) (cells (front_units (length v) g.D.Drive.units) g.D.Drive.lost c.add_others.new.drives) (row_to c.args.groups.now c.args.target.now) c.args.target.now.at.member c.args.target.now.at.parity))
    c.copy_from_slice.ensures.after c.add_others.ensures.outcome)

added : (g : given.Over) (c : After-add_others g) → c.add_others.result ≡ true
    → Added (length c.args.unit.now) (cells g.D.Drive.units g.D.Drive.lost c.args.drives.now) (cells g.D.Drive.units g.D.Drive.lost c.add_others.new.drives) (row_to c.args.groups.now c.args.target.now) c.args.target.now.at.member c.args.target.now.at.parity c.args.unit.now c.add_others.new.sum
added g c is = subst (λ b. MatchBool b
    (Added (length c.args.unit.now) (cells g.D.Drive.units g.D.Drive.lost c.args.drives.now) (cells g.D.Drive.units g.D.Drive.lost c.add_others.new.drives) (row_to c.args.groups.now c.args.target.now) c.args.target.now.at.member c.args.target.now.at.parity c.args.unit.now c.add_others.new.sum)
    (Missed (cells g.D.Drive.units g.D.Drive.lost c.args.drives.now) (cells g.D.Drive.units g.D.Drive.lost c.add_others.new.drives) (row_to c.args.groups.now c.args.target.now) c.args.target.now.at.member c.args.target.now.at.parity)) is (whole g c)

missed : (g : given.Over) (c : After-add_others g) → c.add_others.result ≡ false
    → Missed (cells g.D.Drive.units g.D.Drive.lost c.args.drives.now) (cells g.D.Drive.units g.D.Drive.lost c.add_others.new.drives) (row_to c.args.groups.now c.args.target.now) c.args.target.now.at.member c.args.target.now.at.parity
missed g c is = subst (λ b. MatchBool b
    (Added (length c.args.unit.now) (cells g.D.Drive.units g.D.Drive.lost c.args.drives.now) (cells g.D.Drive.units g.D.Drive.lost c.add_others.new.drives) (row_to c.args.groups.now c.args.target.now) c.args.target.now.at.member c.args.target.now.at.parity c.args.unit.now c.add_others.new.sum)
    (Missed (cells g.D.Drive.units g.D.Drive.lost c.args.drives.now) (cells g.D.Drive.units g.D.Drive.lost c.add_others.new.drives) (row_to c.args.groups.now c.args.target.now) c.args.target.now.at.member c.args.target.now.at.parity)) is (whole g c)

pub returns-then-not-add_others-clause-draft : goal.returns-then-not-add_others-clause-draft
returns-then-not-add_others-clause-draft g c =
    let here = (goal.at.returns-then-not-add_others-clause-draft g c).After-add_others in
    let new = cells g.D.Drive.units g.D.Drive.lost c.add_others.new.drives in
    let m = missed g here (search rules) in
    let lost : held new c.args.target.now.home ≡ None = stays_gone _ _ (m.fades c.args.target.now.home) c.requires.lost in
    both_missing (length c.args.unit.now) _ c.args.target.now.at.member m.missing.0 (row_of new (row_to c.args.groups.now c.args.target.now)) m.missing.1 m.missing.2
    (ap (held_in new) c.requires.target.home.home_is ∙ lost) m.missing.4

pub is_there-requires-clause-place : goal.is_there-requires-clause-place
is_there-requires-clause-place g c = keeps_place c.add_others.ensures.touched (c.requires.target.laid.row c.args.target.now.at.parity c.args.target.now.parity c.requires.target.home.parity_is)

pub returns-then-is_there-clause-draft : goal.returns-then-is_there-clause-draft
returns-then-is_there-clause-draft g c =
    let here = (goal.at.returns-then-is_there-clause-draft g c).After-add_others in
    let n = length c.args.unit.now in
    let row = row_to c.args.groups.now c.args.target.now in
    let old = cells g.D.Drive.units g.D.Drive.lost c.args.drives.now in
    let new = cells g.D.Drive.units g.D.Drive.lost c.add_others.new.drives in
    let i = c.args.target.now.at.member in
    let p = c.args.target.now.at.parity in
    let a = added g here (search rules) in
    let is = sum_is n (length row) (row_of old row) i p c.args.unit.now c.add_others.new.sum a.sum in (
      is.0,
      a.same c.args.target.now.home ∙ c.requires.lost,
      c.if-is_there.ensures,
      total_same n (length row) (bare n (row_of new row) i p) (bare n (row_of old row) i p) (λ k low. bare_same n (row_of new row) (row_of old row) i p k (row_same old new row a.same k)) ∙ is.1,
      is.2,
    )

pub returns-else-is_there-clause-draft : goal.returns-else-is_there-clause-draft
returns-else-is_there-clause-draft g c =
    let here = (goal.at.returns-else-is_there-clause-draft g c).After-add_others in
    let row = row_to c.args.groups.now c.args.target.now in
    let new = cells g.D.Drive.units g.D.Drive.lost c.add_others.new.drives in
    let a = added g here (search rules) in
    let h = c.requires.target.home in
    both_missing (length c.args.unit.now) (length row) c.args.target.now.at.member c.args.target.now.at.parity (row_of new row) h.whole.1 (λ e. h.whole.2 (sym e))
    (ap (held_in new) h.home_is ∙ a.same c.args.target.now.home ∙ c.requires.lost) (ap (held_in new) h.parity_is ∙ c.if-is_there.ensures)
