use Rattle.std.proofs.Common.{◌≡◌, ◌+◌, ◌*◌, List, length, sym, ◌∙◌, ap, subst, arith}
use Rattle.extents.specs.Condition.{Held}
use Rattle.extents.specs.Sizes.{extent_units}
use Rattle.extents.specs.declared.shape.TheConstants.{HEADER_BYTES}
use Rattle.vault.specs.Images.{Image, flat, recovered}
use Rattle.vault.specs.Marks.{Has}
use Rattle.rotten_units.specs.Loaded.{AreReadOrNoted}
use Rattle.rotten_units.proofs.Reading.{read_more}
use Rattle.array_recovery.specs.Found.{AreFormed, HaveUnits, TakesWritten, with_cells}
use Rattle.array_recovery.proofs.Attesting.{as_found, read_written}
use Rattle.array_recovery.proofs.Loading.{written_back}
use Rattle.array_recovery.proofs.Patched.{after_of, have_after, have_patched, patched, taken_out}
use Rattle.array_recovery.proofs.reopen.find.Goals as goal

pub returns-in_err-loaded-clause-read : goal.returns-in_err-loaded-clause-read
returns-in_err-loaded-clause-read g c = λ known.
    read_more g.V.Vault.seen g.V.Vault.may_leave g.V.Vault.moment g.V.Vault.left_since c.args.vault.now c.read_marks.new.vault c.load_units.new.vault (c.read_marks.ensures.read known)
    (c.load_units.ensures.read (c.read_marks.ensures.stays known))

pub returns-in_err-replay-clause-read : goal.returns-in_err-replay-clause-read
returns-in_err-replay-clause-read g c = λ known.
    let marked = c.read_marks.ensures.stays known in
    read_more g.V.Vault.seen g.V.Vault.may_leave g.V.Vault.moment g.V.Vault.left_since c.args.vault.now c.load_units.new.vault c.replay.new.vault
    (read_more g.V.Vault.seen g.V.Vault.may_leave g.V.Vault.moment g.V.Vault.left_since c.args.vault.now c.read_marks.new.vault c.load_units.new.vault (c.read_marks.ensures.read known)
    (c.load_units.ensures.read marked))
    (c.replay.ensures.read (c.load_units.ensures.stays marked))

pub returns-in_err-test_rotten-clause-read : goal.returns-in_err-test_rotten-clause-read
returns-in_err-test_rotten-clause-read g c = λ known.
    let marked = c.read_marks.ensures.stays known in
    read_more g.V.Vault.seen g.V.Vault.may_leave g.V.Vault.moment g.V.Vault.left_since c.args.vault.now c.load_units.new.vault c.replay.new.vault
    (read_more g.V.Vault.seen g.V.Vault.may_leave g.V.Vault.moment g.V.Vault.left_since c.args.vault.now c.read_marks.new.vault c.load_units.new.vault (c.read_marks.ensures.read known)
    (c.load_units.ensures.read marked))
    (c.replay.ensures.read (c.load_units.ensures.stays marked))

pub returns-clause-read : goal.returns-clause-read
returns-clause-read g c = λ known.
    let marked = c.read_marks.ensures.stays known in
    read_more g.V.Vault.seen g.V.Vault.may_leave g.V.Vault.moment g.V.Vault.left_since c.args.vault.now c.load_units.new.vault c.replay.new.vault
    (read_more g.V.Vault.seen g.V.Vault.may_leave g.V.Vault.moment g.V.Vault.left_since c.args.vault.now c.read_marks.new.vault c.load_units.new.vault (c.read_marks.ensures.read known)
    (c.load_units.ensures.read marked))
    (c.replay.ensures.read (c.load_units.ensures.stays marked))

pub returns-clause-honest : goal.returns-clause-honest
returns-clause-honest g c = λ known written last.
    let marked = c.read_marks.ensures.stays known in
    let stays = c.load_units.ensures.stays marked in
    let lost = c.lost_drives-lost.result in
    let items = c.in_ok-loaded.loaded.caches.items in
    let noted = Has c.in_ok-loaded.loaded.rotten.marks.items in
    let digest = g.V.Vault.attested c.read_marks.new.vault in
    let base = g.V.Vault.seen c.args.vault.now in
    let first = (c.read_marks.ensures.read known).finds in
    let finds : g.V.Vault.seen c.load_units.new.vault ≡ base = (c.load_units.ensures.read marked).finds ∙ first in
    let table = c.in_ok-marks.ensures.honest known written last.table in
    let are : AreReadOrNoted noted digest lost written items =
    read_written noted (g.V.Vault.attested c.args.vault.now) digest c.args.drives lost base.cells written items c.in_ok-loaded.ensures.many
    (λ x low not. last.each _ table x low (sym (c.lost_drives-lost.ensures.gone.each x.drive) ∙ not)) (c.read_marks.ensures.attests known)
    (subst (λ (s : Image). AreReadOrNoted noted digest lost s.cells items) first (c.in_ok-loaded.ensures.found marked)) in
    let lent : c.deref_mut.result.now ≡ items = c.deref_mut.ensures.value in
    let formed = subst (λ (l : List Held). AreFormed (c.args.shape.now.extents * extent_units c.args.shape.now.segments) (HEADER_BYTES + c.args.shape.now.payload) l) (sym lent)
    c.in_ok-loaded.ensures.formed in
    let before : HaveUnits lost (patched written items) c.deref_mut.result.now =
    subst (λ (l : List Held). HaveUnits lost (patched written items) l) (sym lent) (have_patched noted digest lost written items are) in
    let after = subst (λ (s : Image). HaveUnits lost (after_of (patched written items) s) c.replay.new.caches) finds
    (c.in_ok-replay.ensures.units stays _ _ (patched written items) formed before) in
    let takes = subst (λ (s : Image). TakesWritten noted (Has c.replay.new.rotten.marks.items) (flat s.journal)) finds (c.in_ok-replay.ensures.taken stays) in
    let now = have_after noted digest lost written items are (flat base.journal) c.replay.new.caches
    (taken_out noted (Has c.replay.new.rotten.marks.items) (flat base.journal) c.in_ok-test_rotten.ensures takes) after in
    let back = written_back c.in_ok-loaded.loaded.caches.len c.replay.new.caches items (c.replay.auto.caches ∙ ap length lent) (omega (arith, c.in_ok-loaded.loaded.caches.ok)) in
    record {
      table = table;
      gone = c.lost_drives-lost.ensures.gone;
      units = subst (λ (l : List Held). HaveUnits lost (recovered (with_cells base written)) l) (sym back) now;
    }

pub returns-clause-found : goal.returns-clause-found
returns-clause-found g c = λ known.
    let base = g.V.Vault.seen c.args.vault.now in
    returns-clause-honest g c known base.cells (as_found (g.V.Vault.attested c.args.vault.now) c.args.drives c.args.absent.now base)

pub returns-clause-formed : goal.returns-clause-formed
returns-clause-formed g c =
    let lent : c.deref_mut.result.now ≡ c.in_ok-loaded.loaded.caches.items = c.deref_mut.ensures.value in
    let formed = subst (λ (l : List Held). AreFormed (c.args.shape.now.extents * extent_units c.args.shape.now.segments) (HEADER_BYTES + c.args.shape.now.payload) l) (sym lent)
    c.in_ok-loaded.ensures.formed in
    let back = written_back c.in_ok-loaded.loaded.caches.len c.replay.new.caches c.in_ok-loaded.loaded.caches.items (c.replay.auto.caches ∙ ap length lent) (omega (arith, c.in_ok-loaded.loaded.caches.ok)) in
    subst (λ (l : List Held). AreFormed (c.args.shape.now.extents * extent_units c.args.shape.now.segments) (HEADER_BYTES + c.args.shape.now.payload) l) (sym back)
    (c.replay.ensures.formed _ _ formed)
