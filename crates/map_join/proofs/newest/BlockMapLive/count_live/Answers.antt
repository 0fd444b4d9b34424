use Rattle.std.proofs.Common.{subst}
use Rattle.map_join.proofs.Placing.{counted}
use Rattle.map_join.specs.Maps.{Entries, at}
use Rattle.map_join.specs.Live.{IsLiveCount}
use Rattle.map_join.proofs.newest.BlockMapLive.count_live.Goals as goal

pub returns : goal.returns
returns c = subst (λ (es : Entries). IsLiveCount (at es) c.args.group c.args.slots c.count_marks.result) c.self.view_is
    (counted (at c.self.inside.pages.entries) c.args.group c.args.slots c.count_marks.result c.places_in-marks.result c.requires.slots c.places_in-marks.ensures c.count_marks.ensures)
