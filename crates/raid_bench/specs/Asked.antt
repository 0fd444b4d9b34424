-- What the words of a command line ask for.
use Rattle.std.specs.Prelude.{◌≡◌, ℕ, ◌≤◌, List, [], ◌∷◌, codes, decimal, Option, None, Some}
use Rattle.raid_bench.specs.declared.task.Task.{Task}
use Rattle.raid_bench.specs.declared.task.Task.TheVariants.{Script, Storm}

-- 1 to 8 workers with 1 to 1,000 rounds each
abbrev pub IsStorm : ℕ → ℕ → Type 0
IsStorm workers writes = (1 ≤ workers) × (workers ≤ 8) × (1 ≤ writes) × (writes ≤ 1000)

-- two words spell the numbers of a storm
abbrev pub AreStorm : List ℕ → List ℕ → Task → Type 0
AreStorm one other Script = ⊥
AreStorm one other (Storm workers writes) = IsStorm workers writes × (one ≡ decimal workers) × (other ≡ decimal writes)

-- The word `script` alone asks for a script to be answered; `storm` with two numbers in their limits, in decimal, for that storm;
-- nothing else asks for anything.
abbrev pub IsAsked : List (List ℕ) → Option Task → Type 0
IsAsked words (Some Script) = words ≡ codes "script" ∷ []
IsAsked words (Some (Storm workers writes)) = IsStorm workers writes × (words ≡ codes "storm" ∷ decimal workers ∷ decimal writes ∷ [])
IsAsked words None = (words ≡ codes "script" ∷ [] → ⊥)
    × ((workers writes : ℕ) → IsStorm workers writes → words ≡ codes "storm" ∷ decimal workers ∷ decimal writes ∷ [] → ⊥)
