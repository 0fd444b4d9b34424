use Rattle.std.proofs.Common.{◌≡◌, length, rules}
use Rattle.cleaner.specs.Offered.{holed, holed_count, inverted_rank}
use Rattle.cleaner.proofs.Rows.{zip_row, map_row}
use Rattle.cleaner.proofs.ranks.EmptiestRanks.row.Goals as goal

pub returns : goal.returns
returns c =
    let many : length c.args.self.now.counts.now ≡ 512 = search rules in
    map_row inverted_rank (holed_count c.args.self.now.slots.now c.args.self.now.counts.now) c.args.row c.keep_holed.result c.turn.result c.turn.ensures
    (zip_row holed c.args.self.now.counts.now c.args.self.now.slots.now c.row_of.result c.row_of-2.result c.keep_holed.result c.args.row
    c.requires.low many c.requires.whole c.row_of.ensures c.row_of-2.ensures c.keep_holed.ensures)
