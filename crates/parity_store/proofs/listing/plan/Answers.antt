use Rattle.std.proofs.Common.{◌≡◌, ◌≢◌, inr, refl, sym, ap, ◌∙◌, subst, ℕ, List, ◌++◌, length, take, drop, None, rules}
use Rattle.std.proofs.Math.Seq.{take-append_seam}
use Rattle.extent_groups.specs.Cells.{cells}
use Rattle.extent_groups.proofs.LayoutLaw.{layout_law}
use Rattle.extent_groups.proofs.Losses.{kept_fades}
use Rattle.extent_groups.proofs.StoreCalls.{read_keeps, slot_unit, sized_cells, drives_kept}
use Rattle.extent_groups.specs.PlanLists.{listed, parity_listed}
use Rattle.extent_groups.specs.Planned.{IsPlan}
use Rattle.extent_groups.proofs.Finishing.{expected_of}
use Rattle.parity_store.specs.declared.way.Way.TheVariants as way
use Rattle.parity_store.specs.Drafts.{IsDraft, writes_by, parity_by}
use Rattle.parity_store.specs.Targets.{row_to}
use Rattle.parity_store.proofs.Carrying.{way_plan, way_parity}
use Rattle.parity_store.proofs.There.{way_there}
use Rattle.parity_store.proofs.Laid.{laid}
use Rattle.parity_store.proofs.listing.plan.Goals as goal

pub find_way-way-requires-clause-target : goal.find_way-way-requires-clause-target
find_way-way-requires-clause-target g c = record { home = c.of_slot-target.ensures.home; laid = laid _ _ _ _ _ _ c.requires.drives c.requires.unit c.of_slot-target.ensures.inside }

pub returns-then-eq-clause-units : goal.returns-then-eq-clause-units
returns-then-eq-clause-units g c = λ s. (read_keeps _ _ _ c.of_slot-target.ensures.groups c.requires.drives s (kept_fades c.find_way-way.ensures.touched) c.find_way-way.ensures.touched).all

pub returns-then-eq-clause-sound : goal.returns-then-eq-clause-sound
returns-then-eq-clause-sound g c = λ s. (read_keeps _ _ _ c.of_slot-target.ensures.groups c.requires.drives s (kept_fades c.find_way-way.ensures.touched) c.find_way-way.ensures.touched).sound

pub returns-then-eq-clause-drives : goal.returns-then-eq-clause-drives
returns-then-eq-clause-drives g c = drives_kept _ c.find_way-way.ensures.touched c.requires.drives

pub returns-clause-units : goal.returns-clause-units
returns-clause-units g c = λ s. (read_keeps _ _ _ c.of_slot-target.ensures.groups c.requires.drives s (kept_fades c.find_way-way.ensures.touched) c.find_way-way.ensures.touched).all

pub returns-clause-sound : goal.returns-clause-sound
returns-clause-sound g c = λ s. (read_keeps _ _ _ c.of_slot-target.ensures.groups c.requires.drives s (kept_fades c.find_way-way.ensures.touched) c.find_way-way.ensures.touched).sound

pub returns-clause-drives : goal.returns-clause-drives
returns-clause-drives g c = drives_kept _ c.find_way-way.ensures.touched c.requires.drives

-- the first n elements after a slice of length n was copied over them
refilled : (n : ℕ) (ws xs : List ℕ) → n ≡ length ws → take n (ws ++ drop (length ws) xs) ≡ ws
refilled n ws xs e = ap (λ k. take k (ws ++ drop (length ws) xs)) e ∙ take-append_seam ws (drop (length ws) xs)

pub returns-then-eq-clause-err : goal.returns-then-eq-clause-err
returns-then-eq-clause-err g c =
    let missed : c.find_way-way.result ≡ way.Missed = search rules in
    inr (
      refl,
      slot_unit c.args.groups.now (cells g.D.Drive.units g.D.Drive.lost c.find_way-way.new.drives) c.args.slot _ (length c.args.unit.now) None c.of_slot-target.ensures.site c.requires.unit
          (subst (λ w. IsDraft (length c.args.unit.now) (cells g.D.Drive.units g.D.Drive.lost c.find_way-way.new.drives) (row_to c.args.groups.now c.of_slot-target.result) c.of_slot-target.result.at.parity c.of_slot-target.result.at.member c.of_slot-target.result.home c.of_slot-target.result.parity c.args.unit.now c.find_way-way.new.sum w) missed
          c.find_way-way.ensures.draft),
    )

pub returns-clause-ok : goal.returns-clause-ok
returns-clause-ok g c =
    let u = c.args.unit.now in
    let s = c.find_way-way.new.sum in
    let found : c.find_way-way.result ≢ way.Missed = search rules in
    let filled : take c.in-Ok.room.sum.len (s ++ drop (length s) c.in-Ok.room.sum.items) ≡ s = refilled c.in-Ok.room.sum.len s c.in-Ok.room.sum.items (search rules) in
    let lists : writes_by c.of_slot-target.result.home c.of_slot-target.result.parity u s c.find_way-way.result ≡ listed c.list.result.writes.items =
    ap (λ a. writes_by c.of_slot-target.result.home c.of_slot-target.result.parity a s c.find_way-way.result) (sym c.in-Ok.ensures.unit)
    ∙ ap (λ a. writes_by c.of_slot-target.result.home c.of_slot-target.result.parity c.in-Ok.room.unit.items a c.find_way-way.result) (sym filled) ∙ sym c.list.ensures.writes in
    let parity : parity_listed c.list.result.parity ≡ parity_by s c.find_way-way.result = c.list.ensures.parity ∙ ap (λ a. parity_by a c.find_way-way.result) filled in
    let home = c.of_slot-target.ensures.home in
    let drafted = subst (λ n. IsDraft n (cells g.D.Drive.units g.D.Drive.lost c.find_way-way.new.drives) (row_to c.args.groups.now c.of_slot-target.result) c.of_slot-target.result.at.parity c.of_slot-target.result.at.member c.of_slot-target.result.home c.of_slot-target.result.parity u s c.find_way-way.result) c.requires.unit
    c.find_way-way.ensures.draft in
    let long : length s ≡ length u = search rules in
    let sized = sized_cells g.D.Drive.units g.D.Drive.lost c.args.groups.now _ (drives_kept _ c.find_way-way.ensures.touched c.requires.drives) in
    let layout = layout_law _ c.of_slot-target.ensures.groups in (
      expected_of c.of_slot-target.result.home u s,
      subst (λ ws. IsPlan c.args.groups.now (cells g.D.Drive.units g.D.Drive.lost c.find_way-way.new.drives) c.args.slot u (expected_of c.of_slot-target.result.home u s) ws) lists
          (way_plan (row_to c.args.groups.now c.of_slot-target.result) _ _ _ _ u s home c.args.groups.now (cells g.D.Drive.units g.D.Drive.lost c.find_way-way.new.drives) c.args.slot layout c.of_slot-target.ensures.site c.requires.unit (long ∙ c.requires.unit) sized c.find_way-way.result found drafted),
      parity
          ∙ way_parity (row_to c.args.groups.now c.of_slot-target.result) _ _ _ _ u s home c.args.groups.now (cells g.D.Drive.units g.D.Drive.lost c.find_way-way.new.drives) c.args.slot layout c.of_slot-target.ensures.site c.requires.unit (long ∙ c.requires.unit) sized c.find_way-way.result found drafted,
    )

pub returns-clause-there : goal.returns-clause-there
returns-clause-there g c =
    let found : c.find_way-way.result ≢ way.Missed = search rules in
    way_there g.D.Drive.units g.D.Drive.lost c.find_way-way.new.drives (length c.args.unit.now) (row_to c.args.groups.now c.of_slot-target.result) _ _ c.of_slot-target.result.home c.of_slot-target.result.parity c.args.unit.now c.find_way-way.new.sum
    c.of_slot-target.ensures.home c.args.groups.now c.args.slot c.find_way-way.result c.of_slot-target.ensures.site found c.find_way-way.ensures.draft
