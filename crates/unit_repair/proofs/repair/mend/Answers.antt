use Rattle.std.proofs.Common.{◌+◌, ◌*◌, false, subst}
use Rattle.std.specs.Prelude.{replicate}
use Rattle.std.proofs.lemmas.Result.{err_from_is_err_and}
use Rattle.extents.specs.Sizes.{extent_units}
use Rattle.extents.specs.declared.shape.TheConstants.{HEADER_BYTES}
use Rattle.extent_groups.specs.declared.place.Place.{Place}
use Rattle.extent_groups.specs.Groups.{Groups}
use Rattle.vault.specs.Images.{Image}
use Rattle.vault.specs.Marks.{Has}
use Rattle.rotten_units.proofs.Once.{has_or_not}
use Rattle.rotten_units.proofs.Writing.{unless_of}
use Rattle.unit_repair.specs.Mended.{AreVerified, MayBeMended}
use Rattle.unit_repair.proofs.Mending.{attested_one, attests_first, attests_read, attests_wrote, back_differs, back_moments, have_units, is_mended, loaded_same, mended_none, moments_read, none_absent, read_differs, there_one, wrote_differs, wrote_moments}
use Rattle.unit_repair.proofs.Whole.{whole}
use Rattle.unit_repair.proofs.repair.mend.Goals as goal

pub returns-in_err-found-clause-others : goal.returns-in_err-found-clause-others
returns-in_err-found-clause-others g c = λ known. read_differs g.V.Vault.seen g.V.Vault.may_leave g.V.Vault.moment g.V.Vault.left_since (λ x. ⊥) (MayBeMended (g.V.Vault.attested c.args.vault.now) c.args.drives (c.args.shape.now.extents * extent_units c.args.shape.now.segments)) (λ x never. absurd never) c.args.vault.now c.load_units.new.vault (c.load_units.ensures.read known)

pub returns-in_err-found-clause-any_moment : goal.returns-in_err-found-clause-any_moment
returns-in_err-found-clause-any_moment g c = λ known rest stop.
    moments_read g.V.Vault.seen g.V.Vault.may_leave g.V.Vault.moment g.V.Vault.left_since (λ x. ⊥) (MayBeMended (g.V.Vault.attested c.args.vault.now) c.args.drives (c.args.shape.now.extents * extent_units c.args.shape.now.segments)) (λ x never. absurd never) c.args.vault.now c.load_units.new.vault (λ stop i left. g.met.V.Vault.only_now c.args.vault.now known stop i left) rest (c.load_units.ensures.read known) stop

pub returns-in_err-confirm-clause-others : goal.returns-in_err-confirm-clause-others
returns-in_err-confirm-clause-others g c = λ known. read_differs g.V.Vault.seen g.V.Vault.may_leave g.V.Vault.moment g.V.Vault.left_since (λ x. ⊥) (MayBeMended (g.V.Vault.attested c.args.vault.now) c.args.drives (c.args.shape.now.extents * extent_units c.args.shape.now.segments)) (λ x never. absurd never) c.args.vault.now c.load_units.new.vault (c.load_units.ensures.read known)

pub returns-in_err-confirm-clause-any_moment : goal.returns-in_err-confirm-clause-any_moment
returns-in_err-confirm-clause-any_moment g c = λ known rest stop.
    moments_read g.V.Vault.seen g.V.Vault.may_leave g.V.Vault.moment g.V.Vault.left_since (λ x. ⊥) (MayBeMended (g.V.Vault.attested c.args.vault.now) c.args.drives (c.args.shape.now.extents * extent_units c.args.shape.now.segments)) (λ x never. absurd never) c.args.vault.now c.load_units.new.vault (λ stop i left. g.met.V.Vault.only_now c.args.vault.now known stop i left) rest (c.load_units.ensures.read known) stop

pub returns-then-is_none-clause-others : goal.returns-then-is_none-clause-others
returns-then-is_none-clause-others g c = λ known. read_differs g.V.Vault.seen g.V.Vault.may_leave g.V.Vault.moment g.V.Vault.left_since (λ x. ⊥) (MayBeMended (g.V.Vault.attested c.args.vault.now) c.args.drives (c.args.shape.now.extents * extent_units c.args.shape.now.segments)) (λ x never. absurd never) c.args.vault.now c.load_units.new.vault (c.load_units.ensures.read known)

pub returns-then-is_none-clause-any_moment : goal.returns-then-is_none-clause-any_moment
returns-then-is_none-clause-any_moment g c = λ known rest stop.
    moments_read g.V.Vault.seen g.V.Vault.may_leave g.V.Vault.moment g.V.Vault.left_since (λ x. ⊥) (MayBeMended (g.V.Vault.attested c.args.vault.now) c.args.drives (c.args.shape.now.extents * extent_units c.args.shape.now.segments)) (λ x never. absurd never) c.args.vault.now c.load_units.new.vault (λ stop i left. g.met.V.Vault.only_now c.args.vault.now known stop i left) rest (c.load_units.ensures.read known) stop

pub returns-in_err-count-clause-others : goal.returns-in_err-count-clause-others
returns-in_err-count-clause-others g c = λ known. wrote_differs g.V.Vault.seen g.V.Vault.may_leave g.V.Vault.moment g.V.Vault.left_since (Has c.in_ok-found.found.rotten.marks.items) (MayBeMended (g.V.Vault.attested c.args.vault.now) c.args.drives (c.args.shape.now.extents * extent_units c.args.shape.now.segments)) (λ x n. ((c.in_ok-found.ensures.inside x n).0, (c.in_ok-found.ensures.inside x n).1, c.in_ok-found.ensures.rotten known x n)) c.args.vault.now c.load_units.new.vault c.write_again.new.vault (c.load_units.ensures.read known) (c.write_again.ensures.wrote (c.load_units.ensures.stays known))

pub returns-in_err-count-clause-any_moment : goal.returns-in_err-count-clause-any_moment
returns-in_err-count-clause-any_moment g c = λ known rest stop. wrote_moments g.V.Vault.seen g.V.Vault.may_leave g.V.Vault.moment g.V.Vault.left_since (Has c.in_ok-found.found.rotten.marks.items) (MayBeMended (g.V.Vault.attested c.args.vault.now) c.args.drives (c.args.shape.now.extents * extent_units c.args.shape.now.segments)) (λ x n. ((c.in_ok-found.ensures.inside x n).0, (c.in_ok-found.ensures.inside x n).1, c.in_ok-found.ensures.rotten known x n)) c.args.vault.now c.load_units.new.vault c.write_again.new.vault (c.load_units.ensures.read known) (c.write_again.ensures.wrote (c.load_units.ensures.stays known)) (λ stop i left. g.met.V.Vault.only_now c.args.vault.now known stop i left) rest stop

pub returns-in_err-again-clause-others : goal.returns-in_err-again-clause-others
returns-in_err-again-clause-others g c = λ known. back_differs g.V.Vault.seen g.V.Vault.may_leave g.V.Vault.moment g.V.Vault.left_since (Has c.in_ok-found.found.rotten.marks.items) (MayBeMended (g.V.Vault.attested c.args.vault.now) c.args.drives (c.args.shape.now.extents * extent_units c.args.shape.now.segments)) (λ x n. ((c.in_ok-found.ensures.inside x n).0, (c.in_ok-found.ensures.inside x n).1, c.in_ok-found.ensures.rotten known x n)) c.args.vault.now c.load_units.new.vault c.write_again.new.vault (c.load_units.ensures.read known) (c.write_again.ensures.wrote (c.load_units.ensures.stays known)) c.load_units-2.new.vault (c.load_units-2.ensures.read (c.write_again.ensures.stays (c.load_units.ensures.stays known)))

pub returns-in_err-again-clause-any_moment : goal.returns-in_err-again-clause-any_moment
returns-in_err-again-clause-any_moment g c = λ known rest stop. back_moments g.V.Vault.seen g.V.Vault.may_leave g.V.Vault.moment g.V.Vault.left_since (Has c.in_ok-found.found.rotten.marks.items) (MayBeMended (g.V.Vault.attested c.args.vault.now) c.args.drives (c.args.shape.now.extents * extent_units c.args.shape.now.segments)) (λ x n. ((c.in_ok-found.ensures.inside x n).0, (c.in_ok-found.ensures.inside x n).1, c.in_ok-found.ensures.rotten known x n)) c.args.vault.now c.load_units.new.vault c.write_again.new.vault (c.load_units.ensures.read known) (c.write_again.ensures.wrote (c.load_units.ensures.stays known)) c.load_units-2.new.vault (c.load_units-2.ensures.read (c.write_again.ensures.stays (c.load_units.ensures.stays known))) (λ stop i left. g.met.V.Vault.only_now c.args.vault.now known stop i left) rest stop

pub returns-in_err-confirm-2-clause-others : goal.returns-in_err-confirm-2-clause-others
returns-in_err-confirm-2-clause-others g c = λ known. back_differs g.V.Vault.seen g.V.Vault.may_leave g.V.Vault.moment g.V.Vault.left_since (Has c.in_ok-found.found.rotten.marks.items) (MayBeMended (g.V.Vault.attested c.args.vault.now) c.args.drives (c.args.shape.now.extents * extent_units c.args.shape.now.segments)) (λ x n. ((c.in_ok-found.ensures.inside x n).0, (c.in_ok-found.ensures.inside x n).1, c.in_ok-found.ensures.rotten known x n)) c.args.vault.now c.load_units.new.vault c.write_again.new.vault (c.load_units.ensures.read known) (c.write_again.ensures.wrote (c.load_units.ensures.stays known)) c.load_units-2.new.vault (c.load_units-2.ensures.read (c.write_again.ensures.stays (c.load_units.ensures.stays known)))

pub returns-in_err-confirm-2-clause-any_moment : goal.returns-in_err-confirm-2-clause-any_moment
returns-in_err-confirm-2-clause-any_moment g c = λ known rest stop. back_moments g.V.Vault.seen g.V.Vault.may_leave g.V.Vault.moment g.V.Vault.left_since (Has c.in_ok-found.found.rotten.marks.items) (MayBeMended (g.V.Vault.attested c.args.vault.now) c.args.drives (c.args.shape.now.extents * extent_units c.args.shape.now.segments)) (λ x n. ((c.in_ok-found.ensures.inside x n).0, (c.in_ok-found.ensures.inside x n).1, c.in_ok-found.ensures.rotten known x n)) c.args.vault.now c.load_units.new.vault c.write_again.new.vault (c.load_units.ensures.read known) (c.write_again.ensures.wrote (c.load_units.ensures.stays known)) c.load_units-2.new.vault (c.load_units-2.ensures.read (c.write_again.ensures.stays (c.load_units.ensures.stays known))) (λ stop i left. g.met.V.Vault.only_now c.args.vault.now known stop i left) rest stop

pub returns-clause-others : goal.returns-clause-others
returns-clause-others g c = λ known. back_differs g.V.Vault.seen g.V.Vault.may_leave g.V.Vault.moment g.V.Vault.left_since (Has c.in_ok-found.found.rotten.marks.items) (MayBeMended (g.V.Vault.attested c.args.vault.now) c.args.drives (c.args.shape.now.extents * extent_units c.args.shape.now.segments)) (λ x n. ((c.in_ok-found.ensures.inside x n).0, (c.in_ok-found.ensures.inside x n).1, c.in_ok-found.ensures.rotten known x n)) c.args.vault.now c.load_units.new.vault c.write_again.new.vault (c.load_units.ensures.read known) (c.write_again.ensures.wrote (c.load_units.ensures.stays known)) c.load_units-2.new.vault (c.load_units-2.ensures.read (c.write_again.ensures.stays (c.load_units.ensures.stays known)))

pub returns-clause-any_moment : goal.returns-clause-any_moment
returns-clause-any_moment g c = λ known rest stop. back_moments g.V.Vault.seen g.V.Vault.may_leave g.V.Vault.moment g.V.Vault.left_since (Has c.in_ok-found.found.rotten.marks.items) (MayBeMended (g.V.Vault.attested c.args.vault.now) c.args.drives (c.args.shape.now.extents * extent_units c.args.shape.now.segments)) (λ x n. ((c.in_ok-found.ensures.inside x n).0, (c.in_ok-found.ensures.inside x n).1, c.in_ok-found.ensures.rotten known x n)) c.args.vault.now c.load_units.new.vault c.write_again.new.vault (c.load_units.ensures.read known) (c.write_again.ensures.wrote (c.load_units.ensures.stays known)) c.load_units-2.new.vault (c.load_units-2.ensures.read (c.write_again.ensures.stays (c.load_units.ensures.stays known))) (λ stop i left. g.met.V.Vault.only_now c.args.vault.now known stop i left) rest stop

pub returns-then-is_none-clause-mended : goal.returns-then-is_none-clause-mended
returns-then-is_none-clause-mended g c = λ known written rest sound attests.
    let found = c.in_ok-found.found in
    let none = c.in_ok-confirm.ensures.none in
    let cells = Image.cells (g.V.Vault.seen c.args.vault.now) in
    let are = c.in_ok-found.ensures.found known in
    mended_none g.V.Vault.seen g.V.Vault.may_leave g.V.Vault.moment g.V.Vault.left_since c.args.vault.now c.load_units.new.vault (c.load_units.ensures.read known) g.V.Vault.attested c.args.groups c.args.drives (c.args.shape.now.extents * extent_units c.args.shape.now.segments) written rest
    (λ x low inside. attested_one (Has found.rotten.marks.items) (g.V.Vault.attested c.args.vault.now) c.args.drives (c.args.shape.now.extents * extent_units c.args.shape.now.segments) (HEADER_BYTES + c.args.shape.now.payload) (replicate 16 false) cells found.caches.items c.in_ok-found.ensures.many c.in_ok-found.ensures.formed
    (none_absent 16) are x low inside (none x))
    (c.load_units.ensures.attests known) sound attests
    (c.in_ok-confirm.ensures.verified cells c.args.drives (c.args.shape.now.extents * extent_units c.args.shape.now.segments) (HEADER_BYTES + c.args.shape.now.payload) (replicate 16 false) c.in_ok-found.ensures.many c.in_ok-found.ensures.formed (λ d low. none_absent 16 d)
    (have_units (Has found.rotten.marks.items) (g.V.Vault.attested c.args.vault.now) (replicate 16 false) cells found.caches.items none are))

pub returns-clause-mended : goal.returns-clause-mended
returns-clause-mended g c = λ known written rest sound attests.
    let found = c.in_ok-found.found in
    let again = c.in_ok-again.again in
    let stays1 = c.load_units.ensures.stays known in
    let stays2 = c.write_again.ensures.stays stays1 in
    let none = c.in_ok-confirm-2.ensures.none in
    let cells = Image.cells (g.V.Vault.seen c.write_again.new.vault) in
    let are = c.in_ok-again.ensures.found stays2 in
    is_mended g.V.Vault.seen g.V.Vault.may_leave g.V.Vault.moment g.V.Vault.left_since (Has c.in_ok-found.found.rotten.marks.items) (MayBeMended (g.V.Vault.attested c.args.vault.now) c.args.drives (c.args.shape.now.extents * extent_units c.args.shape.now.segments)) (λ x n. ((c.in_ok-found.ensures.inside x n).0, (c.in_ok-found.ensures.inside x n).1, c.in_ok-found.ensures.rotten known x n)) c.args.vault.now c.load_units.new.vault c.write_again.new.vault (c.load_units.ensures.read known) (c.write_again.ensures.wrote (c.load_units.ensures.stays known)) c.load_units-2.new.vault (c.load_units-2.ensures.read (c.write_again.ensures.stays (c.load_units.ensures.stays known)))
    (has_or_not c.in_ok-found.found.rotten.marks.items) g.V.Vault.attested c.args.groups c.args.drives (c.args.shape.now.extents * extent_units c.args.shape.now.segments) written rest (c.in_ok-count.ensures.durable stays1) c.in_ok-count.ensures.once
    (λ x low inside out. attested_one (Has c.in_ok-found.found.rotten.marks.items) (g.V.Vault.attested c.args.vault.now) c.args.drives (c.args.shape.now.extents * extent_units c.args.shape.now.segments) (HEADER_BYTES + c.args.shape.now.payload) (replicate 16 false) (Image.cells (g.V.Vault.seen c.args.vault.now)) found.caches.items c.in_ok-found.ensures.many
    c.in_ok-found.ensures.formed (none_absent 16) (c.in_ok-found.ensures.found known) x low inside out)
    sound attests
    (subst (λ (t : Groups). AreVerified t c.args.drives (c.args.shape.now.extents * extent_units c.args.shape.now.segments) cells) c.write_again.ensures.groups
    (c.in_ok-confirm-2.ensures.verified cells c.args.drives (c.args.shape.now.extents * extent_units c.args.shape.now.segments) (HEADER_BYTES + c.args.shape.now.payload) (replicate 16 false) c.in_ok-again.ensures.many c.in_ok-again.ensures.formed (λ d low. none_absent 16 d)
    (have_units (Has again.rotten.marks.items) (g.V.Vault.attested c.write_again.new.vault) (replicate 16 false) cells again.caches.items none are)))
    (λ x low inside. attested_one (Has again.rotten.marks.items) (g.V.Vault.attested c.write_again.new.vault) c.args.drives (c.args.shape.now.extents * extent_units c.args.shape.now.segments) (HEADER_BYTES + c.args.shape.now.payload) (replicate 16 false) cells again.caches.items
    c.in_ok-again.ensures.many c.in_ok-again.ensures.formed (none_absent 16) are x low inside (none x))
    (c.load_units-2.ensures.attests stays2)

pub write_again-requires : goal.write_again-requires
write_again-requires g c = c.in_ok-found.ensures.formed.present

pub returns-in_err-found-clause-honest : goal.returns-in_err-found-clause-honest
returns-in_err-found-clause-honest g c = λ known written sound attests.
    unless_of _ _ (attests_read g.V.Vault.seen g.V.Vault.may_leave g.V.Vault.moment g.V.Vault.left_since g.V.Vault.attested c.args.groups c.args.drives (c.args.shape.now.extents * extent_units c.args.shape.now.segments) written sound c.args.vault.now c.load_units.new.vault (c.load_units.ensures.read known) (c.load_units.ensures.attests known)
    (attests_first g.V.Vault.seen g.V.Vault.may_leave g.V.Vault.moment g.V.Vault.left_since g.V.Vault.attested c.args.groups c.args.drives (c.args.shape.now.extents * extent_units c.args.shape.now.segments) written sound c.args.vault.now attests))

pub returns-in_err-confirm-clause-honest : goal.returns-in_err-confirm-clause-honest
returns-in_err-confirm-clause-honest g c = λ known written sound attests.
    unless_of _ _ (attests_read g.V.Vault.seen g.V.Vault.may_leave g.V.Vault.moment g.V.Vault.left_since g.V.Vault.attested c.args.groups c.args.drives (c.args.shape.now.extents * extent_units c.args.shape.now.segments) written sound c.args.vault.now c.load_units.new.vault (c.load_units.ensures.read known) (c.load_units.ensures.attests known)
    (attests_first g.V.Vault.seen g.V.Vault.may_leave g.V.Vault.moment g.V.Vault.left_since g.V.Vault.attested c.args.groups c.args.drives (c.args.shape.now.extents * extent_units c.args.shape.now.segments) written sound c.args.vault.now attests))

pub returns-then-is_none-clause-honest : goal.returns-then-is_none-clause-honest
returns-then-is_none-clause-honest g c = λ known written sound attests.
    attests_read g.V.Vault.seen g.V.Vault.may_leave g.V.Vault.moment g.V.Vault.left_since g.V.Vault.attested c.args.groups c.args.drives (c.args.shape.now.extents * extent_units c.args.shape.now.segments) written sound c.args.vault.now c.load_units.new.vault (c.load_units.ensures.read known) (c.load_units.ensures.attests known)
    (attests_first g.V.Vault.seen g.V.Vault.may_leave g.V.Vault.moment g.V.Vault.left_since g.V.Vault.attested c.args.groups c.args.drives (c.args.shape.now.extents * extent_units c.args.shape.now.segments) written sound c.args.vault.now attests)

pub returns-in_err-count-clause-honest : goal.returns-in_err-count-clause-honest
returns-in_err-count-clause-honest g c = λ known written sound attests.
    let stays1 = c.load_units.ensures.stays known in
    let p = err_from_is_err_and c.from_residual-in_err-count.result c.from_residual-in_err-count.ensures.1 in
    rw (p.1, p.2)
    (λ fault. (attests_wrote g.V.Vault.seen g.V.Vault.may_leave g.V.Vault.moment g.V.Vault.left_since g.V.Vault.attested c.args.groups c.args.drives (c.args.shape.now.extents * extent_units c.args.shape.now.segments) written sound (Has c.in_ok-found.found.rotten.marks.items) c.args.vault.now c.load_units.new.vault c.write_again.new.vault (c.load_units.ensures.read known) (c.load_units.ensures.attests known)
    (c.write_again.ensures.wrote stays1)
    (there_one (Has c.in_ok-found.found.rotten.marks.items) (g.V.Vault.attested c.args.vault.now) c.args.drives (c.args.shape.now.extents * extent_units c.args.shape.now.segments) (HEADER_BYTES + c.args.shape.now.payload) (replicate 16 false) (Image.cells (g.V.Vault.seen c.args.vault.now)) c.in_ok-found.found.caches.items
    c.in_ok-found.ensures.many c.in_ok-found.ensures.formed (none_absent 16) (c.in_ok-found.ensures.found known))
    attests
    (c.in_err-count.ensures.units stays1 written (whole c.args.groups c.args.drives (c.args.shape.now.extents * extent_units c.args.shape.now.segments) written sound)
    (loaded_same (Has c.in_ok-found.found.rotten.marks.items) (g.V.Vault.attested c.args.vault.now) c.args.drives (c.args.shape.now.extents * extent_units c.args.shape.now.segments) (HEADER_BYTES + c.args.shape.now.payload) (replicate 16 false) (Image.cells (g.V.Vault.seen c.args.vault.now)) c.in_ok-found.found.caches.items
    c.in_ok-found.ensures.many c.in_ok-found.ensures.formed (none_absent 16) (c.in_ok-found.ensures.found known)
    c.args.groups written sound attests) fault)))

pub returns-in_err-again-clause-honest : goal.returns-in_err-again-clause-honest
returns-in_err-again-clause-honest g c = λ known written sound attests.
    let stays1 = c.load_units.ensures.stays known in
    let stays2 = c.write_again.ensures.stays stays1 in
    unless_of _ _ (attests_read g.V.Vault.seen g.V.Vault.may_leave g.V.Vault.moment g.V.Vault.left_since g.V.Vault.attested c.args.groups c.args.drives (c.args.shape.now.extents * extent_units c.args.shape.now.segments) written sound c.write_again.new.vault c.load_units-2.new.vault (c.load_units-2.ensures.read stays2) (c.load_units-2.ensures.attests stays2)
    (attests_wrote g.V.Vault.seen g.V.Vault.may_leave g.V.Vault.moment g.V.Vault.left_since g.V.Vault.attested c.args.groups c.args.drives (c.args.shape.now.extents * extent_units c.args.shape.now.segments) written sound (Has c.in_ok-found.found.rotten.marks.items) c.args.vault.now c.load_units.new.vault c.write_again.new.vault (c.load_units.ensures.read known) (c.load_units.ensures.attests known)
    (c.write_again.ensures.wrote stays1)
    (there_one (Has c.in_ok-found.found.rotten.marks.items) (g.V.Vault.attested c.args.vault.now) c.args.drives (c.args.shape.now.extents * extent_units c.args.shape.now.segments) (HEADER_BYTES + c.args.shape.now.payload) (replicate 16 false) (Image.cells (g.V.Vault.seen c.args.vault.now)) c.in_ok-found.found.caches.items
    c.in_ok-found.ensures.many c.in_ok-found.ensures.formed (none_absent 16) (c.in_ok-found.ensures.found known))
    attests
    (c.in_ok-count.ensures.units stays1 written (whole c.args.groups c.args.drives (c.args.shape.now.extents * extent_units c.args.shape.now.segments) written sound)
    (loaded_same (Has c.in_ok-found.found.rotten.marks.items) (g.V.Vault.attested c.args.vault.now) c.args.drives (c.args.shape.now.extents * extent_units c.args.shape.now.segments) (HEADER_BYTES + c.args.shape.now.payload) (replicate 16 false) (Image.cells (g.V.Vault.seen c.args.vault.now)) c.in_ok-found.found.caches.items
    c.in_ok-found.ensures.many c.in_ok-found.ensures.formed (none_absent 16) (c.in_ok-found.ensures.found known)
    c.args.groups written sound attests))))

pub returns-in_err-confirm-2-clause-honest : goal.returns-in_err-confirm-2-clause-honest
returns-in_err-confirm-2-clause-honest g c = λ known written sound attests.
    let stays1 = c.load_units.ensures.stays known in
    let stays2 = c.write_again.ensures.stays stays1 in
    unless_of _ _ (attests_read g.V.Vault.seen g.V.Vault.may_leave g.V.Vault.moment g.V.Vault.left_since g.V.Vault.attested c.args.groups c.args.drives (c.args.shape.now.extents * extent_units c.args.shape.now.segments) written sound c.write_again.new.vault c.load_units-2.new.vault (c.load_units-2.ensures.read stays2) (c.load_units-2.ensures.attests stays2)
    (attests_wrote g.V.Vault.seen g.V.Vault.may_leave g.V.Vault.moment g.V.Vault.left_since g.V.Vault.attested c.args.groups c.args.drives (c.args.shape.now.extents * extent_units c.args.shape.now.segments) written sound (Has c.in_ok-found.found.rotten.marks.items) c.args.vault.now c.load_units.new.vault c.write_again.new.vault (c.load_units.ensures.read known) (c.load_units.ensures.attests known)
    (c.write_again.ensures.wrote stays1)
    (there_one (Has c.in_ok-found.found.rotten.marks.items) (g.V.Vault.attested c.args.vault.now) c.args.drives (c.args.shape.now.extents * extent_units c.args.shape.now.segments) (HEADER_BYTES + c.args.shape.now.payload) (replicate 16 false) (Image.cells (g.V.Vault.seen c.args.vault.now)) c.in_ok-found.found.caches.items
    c.in_ok-found.ensures.many c.in_ok-found.ensures.formed (none_absent 16) (c.in_ok-found.ensures.found known))
    attests
    (c.in_ok-count.ensures.units stays1 written (whole c.args.groups c.args.drives (c.args.shape.now.extents * extent_units c.args.shape.now.segments) written sound)
    (loaded_same (Has c.in_ok-found.found.rotten.marks.items) (g.V.Vault.attested c.args.vault.now) c.args.drives (c.args.shape.now.extents * extent_units c.args.shape.now.segments) (HEADER_BYTES + c.args.shape.now.payload) (replicate 16 false) (Image.cells (g.V.Vault.seen c.args.vault.now)) c.in_ok-found.found.caches.items
    c.in_ok-found.ensures.many c.in_ok-found.ensures.formed (none_absent 16) (c.in_ok-found.ensures.found known)
    c.args.groups written sound attests))))

pub returns-clause-honest : goal.returns-clause-honest
returns-clause-honest g c = λ known written sound attests.
    let stays1 = c.load_units.ensures.stays known in
    let stays2 = c.write_again.ensures.stays stays1 in
    attests_read g.V.Vault.seen g.V.Vault.may_leave g.V.Vault.moment g.V.Vault.left_since g.V.Vault.attested c.args.groups c.args.drives (c.args.shape.now.extents * extent_units c.args.shape.now.segments) written sound c.write_again.new.vault c.load_units-2.new.vault (c.load_units-2.ensures.read stays2) (c.load_units-2.ensures.attests stays2)
    (attests_wrote g.V.Vault.seen g.V.Vault.may_leave g.V.Vault.moment g.V.Vault.left_since g.V.Vault.attested c.args.groups c.args.drives (c.args.shape.now.extents * extent_units c.args.shape.now.segments) written sound (Has c.in_ok-found.found.rotten.marks.items) c.args.vault.now c.load_units.new.vault c.write_again.new.vault (c.load_units.ensures.read known) (c.load_units.ensures.attests known)
    (c.write_again.ensures.wrote stays1)
    (there_one (Has c.in_ok-found.found.rotten.marks.items) (g.V.Vault.attested c.args.vault.now) c.args.drives (c.args.shape.now.extents * extent_units c.args.shape.now.segments) (HEADER_BYTES + c.args.shape.now.payload) (replicate 16 false) (Image.cells (g.V.Vault.seen c.args.vault.now)) c.in_ok-found.found.caches.items
    c.in_ok-found.ensures.many c.in_ok-found.ensures.formed (none_absent 16) (c.in_ok-found.ensures.found known))
    attests
    (c.in_ok-count.ensures.units stays1 written (whole c.args.groups c.args.drives (c.args.shape.now.extents * extent_units c.args.shape.now.segments) written sound)
    (loaded_same (Has c.in_ok-found.found.rotten.marks.items) (g.V.Vault.attested c.args.vault.now) c.args.drives (c.args.shape.now.extents * extent_units c.args.shape.now.segments) (HEADER_BYTES + c.args.shape.now.payload) (replicate 16 false) (Image.cells (g.V.Vault.seen c.args.vault.now)) c.in_ok-found.found.caches.items
    c.in_ok-found.ensures.many c.in_ok-found.ensures.formed (none_absent 16) (c.in_ok-found.ensures.found known)
    c.args.groups written sound attests)))
