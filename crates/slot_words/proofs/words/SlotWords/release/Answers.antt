use Rattle.std.proofs.Common.{rules, ap}
use Rattle.std.proofs.lemmas.List.Elements.{Contains-append_right}
use Rattle.slot_words.specs.ClaimRule.{held_pair}
use Rattle.slot_words.proofs.Plays.{frees}
use Rattle.slot_words.proofs.words.SlotWords.release.Goals as goal

pub store-requires : goal.store-requires
store-requires g c = (
  (search rules),
  (search rules),
  rw c.place_of.ensures
      (frees c.args.self.now.table.shared.key _ _ (held_pair c.claim.inside.slot c.claim.inside.generation) _ (search rules) (search rules) (search rules) (search rules)),
)

pub returns-clause-won : goal.returns-clause-won
returns-clause-won g c =
    rw (ap (λ m. m.0.won) c.store.ensures.2.2, ap (λ m. m.0.won) c.merge.ensures.both)
    (Contains-append_right c.pass.inside.seat.me.0.won c.claim.inside.seat.me.0.won _ (search rules))
