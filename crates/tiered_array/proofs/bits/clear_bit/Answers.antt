use Rattle.tiered_array.proofs.Words.{take_at, falls}
use Rattle.tiered_array.proofs.bits.clear_bit.Goals as goal

pub returns-clause-taken : goal.returns-clause-taken
returns-clause-taken c = take_at c.args.words.now c.args.at c.requires.inside

pub returns-clause-less : goal.returns-clause-less
returns-clause-less c = falls c.args.words.now c.args.at c.requires.inside c.requires.there
