use Rattle.std.proofs.Common.{◌<◌, max, rules, sym}
use Rattle.std.proofs.lemmas.List.Elements.{All-push}
use Rattle.map_join.specs.declared.records.Record.{Record}
use Rattle.map_join.specs.Record.{IsRecord, key_of}
use Rattle.map_words.specs.declared.view.Found.{Found}
use Rattle.map_words.specs.Places.{blocks_of}
use Rattle.map_words.specs.TakeRule.{found_at}
use Rattle.map_words.proofs.Plays.{takes}
use Rattle.map_words.proofs.words.MapWords.take.Goals as goal

pub fetch_max-requires : goal.fetch_max-requires
fetch_max-requires g c =
    let is : IsRecord c.args.«record» = record { block = search rules; written = search rules; version = search rules; hop = search rules; place = search rules } in (
      (search rules),
      (search rules),
      rw (c.place_of-place.ensures, c.key.ensures.value)
          (takes c.args.self.now.table.shared.key _ _ c.args.«record» _ is (search rules) (search rules) (search rules)),
    )

pub invariant_of-taker : goal.invariant_of-taker
invariant_of-taker g c =
    let is : IsRecord c.args.«record» = record { block = search rules; written = search rules; version = search rules; hop = search rules; place = search rules } in
    let reported = c.fetch_max.ensures.2 c.args.«record» is (sym c.place_of-place.ensures) (sym c.key.ensures.value) in
    rw reported.1.1 (
      (search rules),
      (search rules),
      (search rules),
      All-push (λ (r : Record). r.block < blocks_of g.N.Naming.table) c.taker.inside.seat.me.0.taken c.args.«record» c.taker.invariant.3 c.requires.block,
      All-push (λ (f : Found). f.block < blocks_of g.N.Naming.table) c.taker.inside.seat.me.0.found
          (found_at c.args.«record».block reported.1.0 c.fetch_max.result (max c.fetch_max.result (key_of c.args.«record»))) c.taker.invariant.4 c.requires.block,
      (search rules),
      reported.2,
    )

pub returns-clause-newest : goal.returns-clause-newest
returns-clause-newest g c =
    let is : IsRecord c.args.«record» = record { block = search rules; written = search rules; version = search rules; hop = search rules; place = search rules } in
    let reported = c.fetch_max.ensures.2 c.args.«record» is (sym c.place_of-place.ensures) (sym c.key.ensures.value) in
    rw (← c.taker.view_is) reported.0

pub returns-clause-taken : goal.returns-clause-taken
returns-clause-taken g c =
    let is : IsRecord c.args.«record» = record { block = search rules; written = search rules; version = search rules; hop = search rules; place = search rules } in
    let reported = c.fetch_max.ensures.2 c.args.«record» is (sym c.place_of-place.ensures) (sym c.key.ensures.value) in
    rw (← c.taker.view_is) reported.1
