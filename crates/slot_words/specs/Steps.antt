-- What holds for each kind of atomic step, stated over the step, the seat before, the number found (or stored), and the seat
-- after.
use Rattle.std.specs.Prelude.{◌≡◌, ◌≢◌, ℕ, ◌+◌, ◌*◌, ◌^◌, ◌<◌, ◌≤◌, ◌==◌, List, [], ◌∷◌, ◌++◌, MatchBool}
use Rattle.atomic_table.specs.Table.{Me, Step}
use Rattle.slot_words.specs.declared.view.Held.{Held}
use Rattle.slot_words.specs.declared.view.Kind.{Kind}
use Rattle.slot_words.specs.declared.view.Kind.TheVariants.{Look, Exchange, Store}
use Rattle.slot_words.specs.declared.view.Sight.{Sight}
use Rattle.slot_words.specs.declared.view.View.{View}
use Rattle.slot_words.specs.Places.{word_of}
use Rattle.slot_words.specs.ClaimRule.{knows, sight_at, no_sight, beginner, blank}
use Rattle.slot_words.specs.Sight.{later}

-- the last look, after a step of this kind
abbrev pub look_after : Kind → Sight → Sight → Sight
look_after Look look s = s
look_after Exchange look s = look
look_after Store look s = look

-- the view of a seat that made this step, and now has and won these pairs
abbrev pub after_step : View → Sight → List Held → List Held → View
after_step v s pairs won = knows (look_after s.kind v.look s) s (v.steps ++ s ∷ []) pairs won v.shares

-- a load made a seat that knows nothing and may make no step
abbrev pub Sat : {S : Type 0} → Step S → Me S View → ℕ → Me S View → Type 0
Sat s before found after = after ≡ (blank, [])

-- a look: the seat knows what was found
abbrev pub Looked : {S : Type 0} → Step S → Me S View → ℕ → Me S View → Type 0
Looked s before found after = (found ≤ 2 ^ 63 + 1) × (time : ℕ) × (before.0.sight.time < time)
    × (after ≡ (after_step before.0 (sight_at Look s.word found found time) before.0.pairs before.0.won, []))

-- The exchange of a claim: where it found what it sought the seat has the pair of the word's slot and of the
-- generation put there, and won it; else it has no pair, and knows what was found.
abbrev pub Taken : {S : Type 0} → Step S → Me S View → ℕ → Me S View → Type 0
Taken s before found after = MatchBool (found == s.first)
    ((p : Held) × (word_of p.slot ≡ s.word) × (2 * p.generation + 1 ≡ s.second) × (time : ℕ) × (before.0.sight.time < time)
    × (after ≡ (after_step before.0 (sight_at Exchange s.word found s.second time) (p ∷ []) (before.0.won ++ p ∷ []), [])))
    ((time : ℕ) × (before.0.sight.time < time) × (after ≡ (after_step before.0 (sight_at Exchange s.word found found time) [] before.0.won, [])))

-- the store of a release: the seat has no pair, and knows that the word was held and what was stored
abbrev pub Freed : {S : Type 0} → Step S → Me S View → ℕ → Me S View → Type 0
Freed s before stored after = (time : ℕ) × (before.0.sight.time < time)
    × (after ≡ (after_step before.0 (sight_at Store s.word (stored + 1) stored time) [] before.0.won, []))

-- a load by a seat of two pairs, which name different slots
abbrev pub Differed : {S : Type 0} → Step S → Me S View → ℕ → Me S View → Type 0
Differed s before found after = (p q : Held) → before.0.pairs ≡ p ∷ q ∷ [] → p.slot ≢ q.slot

-- a seat that takes in another has the pairs and the shares of both, and of their last looks and steps the later ones
abbrev pub both_pairs : View → View → View
both_pairs v w = knows (later v.look w.look) (later v.sight w.sight) (v.steps ++ w.steps) (v.pairs ++ w.pairs) (v.won ++ w.won) (w.shares ++ v.shares)

-- a seat is cut in two: one part has the pairs, and won them, and the other remembers the steps and may make more
abbrev pub pair_part : View → View
pair_part v = knows no_sight no_sight [] v.pairs v.won []

abbrev pub step_part : View → View
step_part v = knows v.look v.sight v.steps [] [] v.shares

-- how often the first share was halved
abbrev pub first_share : List ℕ → ℕ
first_share [] = 0
first_share (k ∷ ks) = k

-- the other shares
abbrev pub other_shares : List ℕ → List ℕ
other_shares [] = []
other_shares (k ∷ ks) = ks

-- a seat keeps one half of its first share, and all else that it has
abbrev pub kept_half : View → View
kept_half v = knows v.look v.sight v.steps v.pairs v.won ((first_share v.shares + 1) ∷ other_shares v.shares)

-- and a new seat, which made no step, has the other
abbrev pub given_half : View → View
given_half v = beginner ((first_share v.shares + 1) ∷ [])
