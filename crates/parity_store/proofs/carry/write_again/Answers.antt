use Rattle.std.proofs.Common.{◌∙◌}
use Rattle.extent_groups.proofs.DriveCalls.{keeps_trans, keeps_more, keeps_place, keeps_sizes}
use Rattle.extent_groups.proofs.Losses.{kept_fades}
use Rattle.parity_store.proofs.carry.write_again.Goals as goal

pub write_way-requires-clause-home : goal.write_way-requires-clause-home
write_way-requires-clause-home g c = keeps_place c.find_way-way.ensures.touched (c.requires.target.laid.row c.args.target.now.at.member c.args.target.now.home c.requires.target.home.home_is)

pub write_way-requires-clause-parity : goal.write_way-requires-clause-parity
write_way-requires-clause-parity g c = keeps_place c.find_way-way.ensures.touched (c.requires.target.laid.row c.args.target.now.at.parity c.args.target.now.parity c.requires.target.home.parity_is)

pub write_way-requires-clause-size : goal.write_way-requires-clause-size
write_way-requires-clause-size g c = keeps_sizes c.find_way-way.ensures.touched c.requires.target.laid.size

pub returns-clause-tried : goal.returns-clause-tried
returns-clause-tried g c = (
  c.find_way-way.result,
  record {
    mid = _;
    sum = c.find_way-way.new.sum;
    sized = c.find_way-way.auto.sum ∙ c.requires.sum;
    read = kept_fades c.find_way-way.ensures.touched;
    draft = c.find_way-way.ensures.draft;
    carried = c.write_way.ensures.carried;
  },
)

pub returns-clause-touched : goal.returns-clause-touched
returns-clause-touched g c = keeps_trans (keeps_more (λ x never. absurd never) c.find_way-way.ensures.touched) c.write_way.ensures.touched
