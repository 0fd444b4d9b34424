use Rattle.extent_groups.proofs.StoreCalls.{site_whole}
use Rattle.parity_store.proofs.target.Target.of_slot.Goals as goal

pub returns-clause-home : goal.returns-clause-home
returns-clause-home c = record {
  whole = site_whole _ c.args.slot _ c.row_of-at.ensures.groups c.row_of-at.ensures.site;
  home_is = c.place.ensures.place;
  parity_is = c.place-2.ensures.place;
}
