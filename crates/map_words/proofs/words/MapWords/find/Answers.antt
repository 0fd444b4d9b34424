use Rattle.std.proofs.Common.{◌<◌, rules, sym}
use Rattle.std.proofs.lemmas.List.Elements.{All-push}
use Rattle.map_words.specs.declared.view.Found.{Found}
use Rattle.map_words.specs.Places.{blocks_of}
use Rattle.map_words.specs.TakeRule.{found_at}
use Rattle.map_words.proofs.Keys.{key_reported}
use Rattle.map_words.proofs.Plays.{sees}
use Rattle.map_words.proofs.words.MapWords.find.Goals as goal

pub load-key-requires : goal.load-key-requires
load-key-requires g c = (
  (search rules),
  (search rules),
  rw c.place_of.ensures
      (sees c.args.self.now.table.shared.key _ _ c.args.block _ (search rules) (search rules) (search rules)),
)

pub invariant_of-taker : goal.invariant_of-taker
invariant_of-taker g c = let reported = c.load-key.ensures.2 c.args.block (sym c.place_of.ensures) in
    rw reported.2.1 (
      (search rules),
      (search rules),
      (search rules),
      (search rules),
      All-push (λ (f : Found). f.block < blocks_of g.N.Naming.table) c.taker.inside.seat.me.0.found (found_at c.args.block reported.2.0 c.load-key.result c.load-key.result) c.taker.invariant.4 c.requires,
      (search rules),
      reported.3,
    )

pub returns-clause-newest : goal.returns-clause-newest
returns-clause-newest g c =
    let reported = c.load-key.ensures.2 c.args.block (sym c.place_of.ensures) in
    rw (c.of_key.ensures, key_reported c.args.block c.load-key.result reported.1, ← c.taker.view_is) reported.0

pub returns-clause-found : goal.returns-clause-found
returns-clause-found g c =
    let reported = c.load-key.ensures.2 c.args.block (sym c.place_of.ensures) in
    rw (c.of_key.ensures, key_reported c.args.block c.load-key.result reported.1, ← c.taker.view_is) reported.2
