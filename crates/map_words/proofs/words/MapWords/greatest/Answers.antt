use Rattle.std.proofs.Common.{rules, sym}
use Rattle.map_words.proofs.Keys.{key_reported}
use Rattle.map_words.proofs.Plays.{closes}
use Rattle.map_words.proofs.words.MapWords.greatest.Goals as goal

pub load-last-requires : goal.load-last-requires
load-last-requires g c = (
  (search rules),
  (search rules),
  rw c.place_of.ensures
      (closes c.args.self.now.table.shared.key _ _ c.args.block _ (search rules) (search rules)),
)

pub returns-clause-greatest : goal.returns-clause-greatest
returns-clause-greatest g c =
    let reported = c.load-last.ensures.2.1 c.args.block (sym c.place_of.ensures) in
    rw (c.of_key.ensures, key_reported c.args.block c.load-last.result reported.2, ← c.taker.view_is) reported.0

pub returns-clause-newest : goal.returns-clause-newest
returns-clause-newest g c =
    let reported = c.load-last.ensures.2.1 c.args.block (sym c.place_of.ensures) in
    rw (c.of_key.ensures, key_reported c.args.block c.load-last.result reported.2, ← c.taker.view_is) reported.1

pub returns-clause-exact : goal.returns-clause-exact
returns-clause-exact g c =
    let reported = c.load-last.ensures.2.1 c.args.block (sym c.place_of.ensures) in
    rw (← c.taker.view_is) reported.3
