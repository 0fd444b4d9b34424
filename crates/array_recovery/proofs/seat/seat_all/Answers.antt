use Rattle.std.proofs.Common.{◌≡◌, ◌+◌, suc, [], ◌∷◌, ◌++◌, length, length-append, sym, ap, ◌∙◌, arith}
use Rattle.std.specs.Prelude.{drop, slice_get}
use Rattle.history.specs.Entries.{Course, entry}
use Rattle.vault.specs.Images.{is_lost}
use Rattle.cached_drive.specs.Saving.{Units}
use Rattle.array_recovery.proofs.Seating.{drop_first, seated_next}
use Rattle.array_recovery.proofs.seat.seat_all.Goals as goal

pub seat-drive-requires-clause-present : goal.seat-drive-requires-clause-present
seat-drive-requires-clause-present g c = c.requires.present 0 c.in-Some.cache (ap (λ l. slice_get l 0) c.in-Some.ensures.some)

pub seat-drive-requires-in-loop-alloc-clause-present : goal.seat-drive-requires-in-loop-alloc-clause-present
seat-drive-requires-in-loop-alloc-clause-present g c =
    let n = length c.loop-alloc.drives.items in
    let m = c.in-Some-take_first.cache in
    c.requires.present n m
    (drop_first c.args.caches.items n m c.take_first-in-loop-alloc.new.caches.items (sym c.loop-alloc.invariant.rest ∙ c.in-Some-take_first.ensures.some)).0

pub loop-alloc-preserved : goal.loop-alloc-preserved
loop-alloc-preserved g c =
    let xs = c.args.caches.items in
    let drives = c.loop-alloc.drives.items in
    let n = length drives in
    let m = c.in-Some-take_first.cache in
    let x = c.seat-drive-in-loop-alloc.result in
    let k = c.loop-alloc.keeper in
    let pushed : c.push-in-loop-alloc.new.self.items ≡ drives ++ x ∷ [] = c.in_ok-push-2.ensures.items in
    let longer = length-append drives (x ∷ []) in
    let many = ap length pushed in
    let first = drop_first xs n m c.take_first-in-loop-alloc.new.caches.items (sym c.loop-alloc.invariant.rest ∙ c.in-Some-take_first.ensures.some) in
    let low = first.2 in
    let seated = c.loop-alloc.invariant.seated in
    let hired = seated.hired in
    let numbered = ap (λ h. h.number) c.in-Some-hire.ensures.hand ∙ hired in
    let next : c.seat-drive-in-loop-alloc.new.keeper ≡ record { hired = k.hired + 1; log = k.log ++ entry n m.units ∷ [] } =
    c.seat-drive-in-loop-alloc.ensures.keeper
    ∙ ap (λ (h : Course Units). record { hired = h.hired; log = h.log ++ entry c.in-Some-hire.hand.number m.units ∷ [] }) c.in-Some-hire.ensures.hired
    ∙ ap (λ d. record { hired = k.hired + 1; log = k.log ++ entry d m.units ∷ [] }) numbered in
    let len = c.loop-alloc.drives.ok.0 in
    let reported = c.len.ensures in
    let here : c.len.result ≡ n = omega (arith, len, reported) in
    let gone = c.seat-drive-in-loop-alloc.ensures.lost ∙ c.is_lost-is_lost.ensures ∙ ap (is_lost c.args.lost.now) here in
    let now_is : length c.push-in-loop-alloc.new.self.items ≡ suc n = omega (arith, longer, many) in
    record {
      some = omega (arith, low, longer, many);
      rest = sym (ap (λ i. drop i xs) now_is ∙ first.1);
      seated = seated_next _ _ c.args.lost.now xs drives c.push-in-loop-alloc.new.self.items k c.seat-drive-in-loop-alloc.new.keeper x m
          seated pushed next first.0 c.seat-drive-in-loop-alloc.ensures.units gone;
    }
