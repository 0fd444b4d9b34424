use Rattle.std.proofs.Common.{[], refl, ℕ}
use Rattle.map_join.specs.Maps.{at}
use Rattle.map_join.specs.Pages.{IsFirstBlock}
use Rattle.map_join.proofs.Fronts.{now_met}
use Rattle.map_join.proofs.Merging.{first_block, at_err}
use Rattle.map_join.proofs.block_map.copied_pages.Goals as goal

pub returns-clause-err : goal.returns-clause-err
returns-clause-err c =
    let met = now_met c.args.pages.now.entries c.args.pages.now.entries [] c.iter.result c.next.new.self c.next.result c.in-Some._number c.in-Some.page refl c.iter.ensures.ordered c.iter.ensures.rest c.in-Some.is c.next.ensures.steps in
    at_err c.clone.result ((block : ℕ) × IsFirstBlock (at c.args.pages.now.entries) block)
    (first_block c.args.pages.now.entries c.in-Some._number.now c.in-Some.page.now c.next.new.self met c.lanes-keys.ensures.some)
