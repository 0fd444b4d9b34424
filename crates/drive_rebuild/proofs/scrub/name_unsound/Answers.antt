use Rattle.std.proofs.Common.{◌≡◌, ◌++◌, ◌∷◌, ◌∙◌, [], length, arith, sym, subst}
use Rattle.extent_groups.proofs.Losses.{kept_fades}
use Rattle.unit_store.specs.Laws.{loses_more}
use Rattle.unit_store.specs.Slots.{cells_in}
use Rattle.drive_rebuild.specs.Scrubbed.{ReportsSlots, ReportsUnsound, slot_total}
use Rattle.drive_rebuild.proofs.Scrubbing.{only_one, tested_later}
use Rattle.drive_rebuild.proofs.scrub.name_unsound.Goals as goal

pub returns-in_err-scrub_groups-clause-only : goal.returns-in_err-scrub_groups-clause-only
returns-in_err-scrub_groups-clause-only g c =
    loses_more g.D.Drive.units g.D.Drive.lost g.D.Drive.failures c.args.parts.now c.find_unsound.new.parts c.scrub_groups.new.parts c.find_unsound.ensures.only c.scrub_groups.ensures.only

pub returns-in_err-note-clause-only : goal.returns-in_err-note-clause-only
returns-in_err-note-clause-only g c =
    loses_more g.D.Drive.units g.D.Drive.lost g.D.Drive.failures c.args.parts.now c.find_unsound.new.parts c.scrub_groups.new.parts c.find_unsound.ensures.only c.scrub_groups.ensures.only

pub returns-in_ok-note-clause-only : goal.returns-in_ok-note-clause-only
returns-in_ok-note-clause-only g c =
    loses_more g.D.Drive.units g.D.Drive.lost g.D.Drive.failures c.args.parts.now c.find_unsound.new.parts c.scrub_groups.new.parts c.find_unsound.ensures.only c.scrub_groups.ensures.only

pub returns-else-findings-eq0-clause-only : goal.returns-else-findings-eq0-clause-only
returns-else-findings-eq0-clause-only g c =
    loses_more g.D.Drive.units g.D.Drive.lost g.D.Drive.failures c.args.parts.now c.find_unsound.new.parts c.scrub_groups.new.parts c.find_unsound.ensures.only c.scrub_groups.ensures.only

pub returns-in_ok-note-clause-reported : goal.returns-in_ok-note-clause-reported
returns-in_ok-note-clause-reported g c = λ reported.
    let t = c.args.parts.now.groups in
    let same = c.find_unsound.ensures.only.tables.groups in
    let old = cells_in g.D.Drive.units g.D.Drive.lost c.args.parts.now in
    let mid = cells_in g.D.Drive.units g.D.Drive.lost c.find_unsound.new.parts in
    let new = cells_in g.D.Drive.units g.D.Drive.lost c.scrub_groups.new.parts in
    let so = subst (λ groups. ReportsUnsound groups mid new c.scrub_groups.new.findings) same
    (c.in_ok-scrub_groups.ensures.reported (subst (λ groups. ReportsSlots (slot_total groups) [] c.args.findings.now) (sym same) reported)) in
    let none : length so.slots ≡ 0 = sym so.reported.counted ∙ c.if-findings-eq0.true in
    record {
      slots = so.slots ++ c.in-Some.slot ∷ [];
      are = only_one t old new so.slots c.in-Some.slot none c.in-Some.ensures.before (tested_later t old mid new so.slots (kept_fades c.find_unsound.ensures.only.drives) so.are);
      reported = c.in_ok-note.ensures.reported (slot_total t) so.slots (omega (arith, none)) so.reported;
    }

pub returns-else-findings-eq0-clause-reported : goal.returns-else-findings-eq0-clause-reported
returns-else-findings-eq0-clause-reported g c = λ reported.
    let t = c.args.parts.now.groups in
    let same = c.find_unsound.ensures.only.tables.groups in
    let old = cells_in g.D.Drive.units g.D.Drive.lost c.args.parts.now in
    let mid = cells_in g.D.Drive.units g.D.Drive.lost c.find_unsound.new.parts in
    let new = cells_in g.D.Drive.units g.D.Drive.lost c.scrub_groups.new.parts in
    let so = subst (λ groups. ReportsUnsound groups mid new c.scrub_groups.new.findings) same
    (c.in_ok-scrub_groups.ensures.reported (subst (λ groups. ReportsSlots (slot_total groups) [] c.args.findings.now) (sym same) reported)) in
    record { slots = so.slots; are = tested_later t old mid new so.slots (kept_fades c.find_unsound.ensures.only.drives) so.are; reported = so.reported }
