-- The Passes of all workers that ended, joined into one.
use Rattle.std.specs.Prelude.{List, [], ◌∷◌, Option, Some, None}
use Rattle.slot_words.specs.declared.view.View.{View}
use Rattle.slot_words.specs.Steps.{both_pairs}

-- the first Pass's view, joined with each of these, one after the other
abbrev pub joined : View → List View → View
joined v [] = v
joined v (w ∷ ws) = joined (both_pairs v w) ws

-- all of these joined into the first, where there is one
abbrev pub all_joined : List View → Option View
all_joined [] = None
all_joined (v ∷ vs) = Some (joined v vs)
