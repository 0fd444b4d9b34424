use Rattle.tiered_array.proofs.Words.{put_at}
use Rattle.tiered_array.proofs.bits.set_bit.Goals as goal

pub returns : goal.returns
returns c = put_at c.args.words.now c.args.at c.requires
