use Rattle.std.proofs.Common.{◌≡◌, ◌*◌, ◌∷◌, [], inl, false, is_some, ◌∙◌, ap}
use Rattle.std.proofs.lemmas.Result.{on_ok_weaker}
use Rattle.extents.specs.Sizes.{extent_units}
use Rattle.extent_groups.specs.declared.place.Place.{Place}
use Rattle.vault.specs.Images.{Image, Matches, SameOn, is_lost, recovered}
use Rattle.vault.specs.Moments.{IsBeforeOrAfter}
use Rattle.vault.proofs.Carried.{on_ok_both}
use Rattle.vault.proofs.Runs.{both_runs, weaker}
use Rattle.journaled_store.specs.Steps.{table_write}
use Rattle.drive_rebuild.specs.Rebuilt.{IsBeforeOrReplaced}
use Rattle.extent_groups.specs.Cells.{held}
use Rattle.drive_rebuild.proofs.Replacing.{counts_of, either, free, is_replaced, lost_with}
use Rattle.drive_rebuild.proofs.Underway.{further, underway_none, underway_read}
use Rattle.drive_rebuild.proofs.replace.replace_marked.Goals as goal

pub returns-in_err-found-clause-any_moment : goal.returns-in_err-found-clause-any_moment
returns-in_err-found-clause-any_moment g c = λ known lost marked logged stop.
    let v0 = c.args.vault.now in
    let before = recovered (g.V.Vault.seen v0) in
    let v1 = c.look.new.vault in
    let u1 = underway_read g.V.Vault.seen g.V.Vault.may_leave g.V.Vault.moment g.V.Vault.left_since lost v0 v0 v1 (underway_none g.V.Vault.seen g.V.Vault.may_leave g.V.Vault.moment g.V.Vault.left_since lost v0 (λ stop. g.met.V.Vault.only_now v0 known stop) logged) (c.look.ensures.read known) in
    weaker g.V.Vault.moment g.V.Vault.left_since stop v0 v1 (Matches lost before) (IsBeforeOrReplaced c.args.groups c.args.drives (c.args.shape.now.extents * extent_units c.args.shape.now.segments) c.args.number lost before) (u1.moments stop) (λ i was. inl was)

pub returns-in_err-prepare-clause-any_moment : goal.returns-in_err-prepare-clause-any_moment
returns-in_err-prepare-clause-any_moment g c = λ known lost marked logged stop.
    let v0 = c.args.vault.now in
    let before = recovered (g.V.Vault.seen v0) in
    let v1 = c.look.new.vault in
    let u1 = underway_read g.V.Vault.seen g.V.Vault.may_leave g.V.Vault.moment g.V.Vault.left_since lost v0 v0 v1 (underway_none g.V.Vault.seen g.V.Vault.may_leave g.V.Vault.moment g.V.Vault.left_since lost v0 (λ stop. g.met.V.Vault.only_now v0 known stop) logged) (c.look.ensures.read known) in
    let found = c.in_ok-found.found in
    let counts = c.lost_drives-counts.result in
    let marks = found.marks in
    let now = c.without-marks.result in
    let table = c.in_ok-found.ensures.table known in
    let are = counts_of now counts c.lost_drives-counts.ensures.gone in
    let with = lost_with c.args.drives c.args.number lost counts before marks now table c.in_ok-found.ensures.wide c.in_ok-found.ensures.only marked c.without-marks.ensures are in
    let stays1 = c.look.ensures.stays known in
    let moments = further g.V.Vault.seen g.V.Vault.may_leave g.V.Vault.moment g.V.Vault.left_since lost v0 v1 c.prepare.new.vault u1 stop (c.prepare.ensures.any_moment stays1 lost with u1.logged stop) in
    let run = weaker g.V.Vault.moment g.V.Vault.left_since stop v0 c.prepare.new.vault (Matches lost before) (IsBeforeOrReplaced c.args.groups c.args.drives (c.args.shape.now.extents * extent_units c.args.shape.now.segments) c.args.number lost before) moments (λ i was. inl was) in
    run

pub returns-clause-replaced : goal.returns-clause-replaced
returns-clause-replaced g c = λ known lost marked logged.
    let v0 = c.args.vault.now in
    let before = recovered (g.V.Vault.seen v0) in
    let v1 = c.look.new.vault in
    let u1 = underway_read g.V.Vault.seen g.V.Vault.may_leave g.V.Vault.moment g.V.Vault.left_since lost v0 v0 v1 (underway_none g.V.Vault.seen g.V.Vault.may_leave g.V.Vault.moment g.V.Vault.left_since lost v0 (λ stop. g.met.V.Vault.only_now v0 known stop) logged) (c.look.ensures.read known) in
    let found = c.in_ok-found.found in
    let counts = c.lost_drives-counts.result in
    let marks = found.marks in
    let now = c.without-marks.result in
    let table = c.in_ok-found.ensures.table known in
    let are = counts_of now counts c.lost_drives-counts.ensures.gone in
    let with = lost_with c.args.drives c.args.number lost counts before marks now table c.in_ok-found.ensures.wide c.in_ok-found.ensures.only marked c.without-marks.ensures are in
    let stays1 = c.look.ensures.stays known in
    let v2 = c.prepare.new.vault in
    let seen_same = (c.look.ensures.read known).finds in
    let ready = c.in_ok-prepare.ensures.ready stays1 lost with u1.logged in
    let verified = c.in_ok-prepare.ensures.verified stays1 (free c.args.drives c.args.number lost counts before marks now table c.in_ok-found.ensures.wide c.in_ok-found.ensures.only marked c.without-marks.ensures are) in
    let same : SameOn lost (Image.cells (g.V.Vault.seen v2)) before = λ x out. ready.cells x out ∙ ap (λ (s : Image). held (recovered s) x) seen_same in
    let there : (x : Place) → is_lost counts x.drive ≡ false → is_some (held (Image.cells (g.V.Vault.seen v2)) x) ≡ is_some (held before x) = λ x out. ready.there x out ∙ ap (λ (s : Image). is_some (held (recovered s) x)) seen_same in
    let stays2 = c.prepare.ensures.stays stays1 in
    let v3 = c.note_marks.new.vault in
    on_ok_weaker c.note_marks.result (λ both. is_replaced c.args.drives c.args.number lost counts before marks now table c.in_ok-found.ensures.wide c.in_ok-found.ensures.only marked c.without-marks.ensures are c.args.groups (c.args.shape.now.extents * extent_units c.args.shape.now.segments) (g.V.Vault.seen v2) ready.empty same there verified g.V.Vault.seen g.V.Vault.may_leave g.V.Vault.moment g.V.Vault.left_since v3 both.1 both.0)
    (on_ok_both _ _ c.note_marks.result (c.note_marks.ensures.durable stays2 ready.durable) (c.note_marks.ensures.noted stays2 ready.durable))

pub returns-clause-any_moment : goal.returns-clause-any_moment
returns-clause-any_moment g c = λ known lost marked logged stop.
    let v0 = c.args.vault.now in
    let before = recovered (g.V.Vault.seen v0) in
    let v1 = c.look.new.vault in
    let u1 = underway_read g.V.Vault.seen g.V.Vault.may_leave g.V.Vault.moment g.V.Vault.left_since lost v0 v0 v1 (underway_none g.V.Vault.seen g.V.Vault.may_leave g.V.Vault.moment g.V.Vault.left_since lost v0 (λ stop. g.met.V.Vault.only_now v0 known stop) logged) (c.look.ensures.read known) in
    let found = c.in_ok-found.found in
    let counts = c.lost_drives-counts.result in
    let marks = found.marks in
    let now = c.without-marks.result in
    let table = c.in_ok-found.ensures.table known in
    let are = counts_of now counts c.lost_drives-counts.ensures.gone in
    let with = lost_with c.args.drives c.args.number lost counts before marks now table c.in_ok-found.ensures.wide c.in_ok-found.ensures.only marked c.without-marks.ensures are in
    let stays1 = c.look.ensures.stays known in
    let moments = further g.V.Vault.seen g.V.Vault.may_leave g.V.Vault.moment g.V.Vault.left_since lost v0 v1 c.prepare.new.vault u1 stop (c.prepare.ensures.any_moment stays1 lost with u1.logged stop) in
    let run = weaker g.V.Vault.moment g.V.Vault.left_since stop v0 c.prepare.new.vault (Matches lost before) (IsBeforeOrReplaced c.args.groups c.args.drives (c.args.shape.now.extents * extent_units c.args.shape.now.segments) c.args.number lost before) moments (λ i was. inl was) in
    let v2 = c.prepare.new.vault in
    let seen_same = (c.look.ensures.read known).finds in
    let ready = c.in_ok-prepare.ensures.ready stays1 lost with u1.logged in
    let verified = c.in_ok-prepare.ensures.verified stays1 (free c.args.drives c.args.number lost counts before marks now table c.in_ok-found.ensures.wide c.in_ok-found.ensures.only marked c.without-marks.ensures are) in
    let same : SameOn lost (Image.cells (g.V.Vault.seen v2)) before = λ x out. ready.cells x out ∙ ap (λ (s : Image). held (recovered s) x) seen_same in
    let there : (x : Place) → is_lost counts x.drive ≡ false → is_some (held (Image.cells (g.V.Vault.seen v2)) x) ≡ is_some (held before x) = λ x out. ready.there x out ∙ ap (λ (s : Image). is_some (held (recovered s) x)) seen_same in
    let stays2 = c.prepare.ensures.stays stays1 in
    both_runs g.V.Vault.moment g.V.Vault.left_since stop v0 v2 c.note_marks.new.vault (IsBeforeOrReplaced c.args.groups c.args.drives (c.args.shape.now.extents * extent_units c.args.shape.now.segments) c.args.number lost before) (IsBeforeOrAfter counts (recovered (g.V.Vault.seen v2)) (table_write now ∷ [])) (IsBeforeOrReplaced c.args.groups c.args.drives (c.args.shape.now.extents * extent_units c.args.shape.now.segments) c.args.number lost before) run (c.note_marks.ensures.any_moment stays2 ready.durable stop) (λ i p. p)
    (λ i q. either c.args.drives c.args.number lost counts before marks now table c.in_ok-found.ensures.wide c.in_ok-found.ensures.only marked c.without-marks.ensures are c.args.groups (c.args.shape.now.extents * extent_units c.args.shape.now.segments) (g.V.Vault.seen v2) ready.empty same there verified i q)
