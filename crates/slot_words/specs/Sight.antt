-- What a Pass remembers of its steps.
use Rattle.std.specs.Prelude.{◌≡◌, ℕ, ◌<◌, ◌++◌, nat_lt, Bool, true, false, [], ◌∷◌}
use Rattle.slot_words.specs.declared.view.Kind.{Kind}
use Rattle.slot_words.specs.declared.view.Kind.TheVariants.{Look, Exchange}
use Rattle.slot_words.specs.declared.view.Sight.{Sight}
use Rattle.slot_words.specs.declared.view.View.{View}
use Rattle.slot_words.specs.Places.{word_of}

-- the second where the test says so, and else the first
abbrev pub second_if : Bool → Sight → Sight → Sight
second_if true s t = t
second_if false s t = s

-- the later one of two
abbrev pub later : Sight → Sight → Sight
later s t = second_if (nat_lt s.time t.time) s t

-- one step more than before, of this kind and at this slot's word, and after the last one
pub record HasStepped (kind : Kind) (slot : ℕ) (before after : View) : Type 0 where
  pub did : after.sight.kind ≡ kind
  pub place : after.sight.place ≡ word_of slot
  pub newer : before.sight.time < after.sight.time
  pub noted : after.steps ≡ before.steps ++ after.sight ∷ []

-- two steps more than before, both at this slot's word: a look, after the last one, and then an exchange
pub record HasTried (slot : ℕ) (before after : View) : Type 0 where
  pub looked : after.look.kind ≡ Look
  pub seen : after.look.place ≡ word_of slot
  pub newer : before.sight.time < after.look.time
  pub did : after.sight.kind ≡ Exchange
  pub place : after.sight.place ≡ word_of slot
  pub following : after.look.time < after.sight.time
  pub noted : after.steps ≡ (before.steps ++ after.look ∷ []) ++ after.sight ∷ []
