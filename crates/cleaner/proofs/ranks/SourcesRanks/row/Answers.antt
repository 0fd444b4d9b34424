use Rattle.std.proofs.Common.{◌≡◌, length, slice_index, rules}
use Rattle.cleaner.specs.Offered.{in_parity, up_to, source_count, inverted_rank}
use Rattle.cleaner.proofs.Rows.{zip_row, map_row}
use Rattle.cleaner.proofs.ranks.SourcesRanks.row.Goals as goal

pub returns : goal.returns
returns c =
    let many : length c.args.self.now.counts.now ≡ 512 = search rules in
    let counts = c.args.self.now.counts.now in
    let slots = c.args.self.now.slots.now in
    let most = c.args.self.now.most in
    map_row inverted_rank (source_count slots counts most) c.args.row c.keep_up_to.result c.turn.result c.turn.ensures
    (map_row (λ count. up_to most count) (λ g. in_parity (slice_index counts g) (slice_index slots g)) c.args.row c.keep_parity-parity.result c.keep_up_to.result c.keep_up_to.ensures
    (zip_row in_parity counts slots c.row_of.result c.row_of-2.result c.keep_parity-parity.result c.args.row
    c.requires.low many c.requires.whole c.row_of.ensures c.row_of-2.ensures c.keep_parity-parity.ensures))
