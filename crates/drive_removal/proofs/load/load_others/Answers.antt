use Rattle.std.proofs.Common.{◌*◌, ◌+◌, ◌-◌, ◌≡◌, ◌∙◌, List, length, slice_get, ap, arith, refl, rules, sym, subst}
use Rattle.extents.specs.Condition.{Held}
use Rattle.extents.specs.Sizes.{extent_units}
use Rattle.extents.specs.declared.shape.TheConstants.{HEADER_BYTES}
use Rattle.vault.specs.Images.{Image}
use Rattle.drive_removal.specs.Shortened.{AreOthersOf}
use Rattle.drive_removal.proofs.Loading.{others_of, written_back}
use Rattle.drive_removal.proofs.load.load_others.Goals as goal

pub returns-clause-others : goal.returns-clause-others
returns-clause-others g c = λ known.
    let some = c.requires.some in
    let at : c.from-last.result ≡ c.args.drives - 1 = search rules in
    let last : c.from-last.result + 1 ≡ c.args.drives = omega (arith, some, at) in
    let lent = c.deref_mut.ensures.value in
    let items : List Held = c.in_ok-caches.caches.items in
    let cells = Image.cells (g.V.Vault.seen c.args.vault.now) in
    let kept = c.lose_at.ensures.many ∙ ap (λ (l : List Held). length l) lent in
    subst (λ (l : List Held). AreOthersOf cells c.args.drives l) (sym (written_back c.in_ok-caches.caches.len items c.lose_at.new.drives c.in_ok-caches.caches.ok.0 kept))
    (others_of cells c.args.drives c.from-last.result (c.args.shape.now.extents * extent_units c.args.shape.now.segments) (HEADER_BYTES + c.args.shape.now.payload) _ items c.lose_at.new.drives last refl
    c.in_ok-caches.ensures.many (c.in_ok-caches.ensures.units known) c.in_ok-caches.ensures.formed c.lose_at.ensures.lost
    (λ d ne. c.lose_at.ensures.others d ne ∙ ap (λ (l : List Held). slice_get l d) lent) kept)
