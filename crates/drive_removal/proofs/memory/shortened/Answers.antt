use Rattle.std.proofs.Common.{◌≤◌, ◌+◌, ◌≡◌, [], ◌∷◌, List, length, arith, ap, ◌∙◌, refl, sym, subst}
use Rattle.std.proofs.lemmas.List.{length-append}
use Rattle.extents.specs.Condition.{Held}
use Rattle.array_batch.specs.Arrays.{AreHeldPresent}
use Rattle.drive_removal.specs.Shortened.{IsEmptiedOf}
use Rattle.drive_removal.proofs.Shortening.{is_shortened}
use Rattle.drive_removal.proofs.memory.shortened.Goals as goal

pub test_present-requires : goal.test_present-requires
test_present-requires c =
    let most = c.in_ok-parts.ensures.fit.most in
    let more : length c.in_ok-parts.parts.drives.items ≡ length c.pop.new.self.items + 1 = ap (λ (l : List Held). length l) c.in-Some.ensures.items ∙ length-append c.pop.new.self.items (c.in-Some._last ∷ []) in
    subst (λ (l : List Held). length l ≤ 16) (sym c.deref.ensures.value) (omega (arith, most, more))

pub returns-clause-shortened : goal.returns-clause-shortened
returns-clause-shortened c = λ was what both outlives lost many enough.
    let before = c.in_ok-parts.parts in
    let emptied = c.in_ok-parts.ensures.emptied was what both outlives lost in
    is_shortened what c.args.parts.shape c.args.parts.groups c.args.drive before (record before { drives = c.pop.new.self }) (subst (λ n. IsEmptiedOf what c.args.parts.shape c.args.parts.groups n c.args.drive before) many emptied)
    c.in_ok-parts.ensures.fit c.in-Some._last c.in-Some.ensures.items refl enough (subst AreHeldPresent c.deref.ensures.value c.in_ok-test_present.ensures)

pub returns-clause-few : goal.returns-clause-few
returns-clause-few c =
    let most = c.in_ok-parts.ensures.fit.most in
    let more : length c.in_ok-parts.parts.drives.items ≡ length c.pop.new.self.items + 1 = ap (λ (l : List Held). length l) c.in-Some.ensures.items ∙ length-append c.pop.new.self.items (c.in-Some._last ∷ []) in
    omega (arith, most, more)
