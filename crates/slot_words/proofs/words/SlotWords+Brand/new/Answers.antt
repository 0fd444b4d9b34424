use Rattle.std.proofs.Common.{◌∙◌, ◌+◌, ℕ, ap, sym, replicate}
use Rattle.slot_words.proofs.Plays.{begins}
use Rattle.slot_words.proofs.words.SlotWords+Brand.new.Goals as goal

pub of_words-requires : goal.of_words-requires
of_words-requires c = begins _ _
    (c.deref.ensures.value ∙ c.in-Ok.ensures.items_if_clones_equal (λ y h. h) ∙ ap (λ (n : ℕ). replicate (n + 8) 0) (sym c.from.ensures))
