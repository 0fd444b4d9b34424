use Rattle.tiered_array.proofs.Hinted.{sought_on, words_more}
use Rattle.tiered_array.proofs.hints.first_of_all.Goals as goal

pub loop-word-preserved : goal.loop-word-preserved
loop-word-preserved g c =
    let found = c.first_in_rows in
    let so_far = c.loop-word.invariant in (
      sought_on _ _ _ _ so_far.0 found.ensures.sought,
      found.ensures.hints,
      words_more c.loop-word.slots found.new.slots c.loop-word.word found.ensures.sought.less so_far.2 c.in_default.ensures.first,
    )
