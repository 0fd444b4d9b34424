-- The rule of the slot words: what is true of the words and of all claims between any two atomic steps.
use Rattle.std.specs.Prelude.{◌≡◌, ◌⊎◌, ℕ, ◌+◌, ◌-◌, ◌*◌, ◌/◌, ◌%◌, ◌^◌, ◌<◌, ◌≤◌, List, [], ◌∷◌, length, slice_index, Contains}
use mathlib.Core.Option.{some}
use lib.ListN.{get_elem?}
use Rattle.slot_words.specs.declared.view.Held.{Held}
use Rattle.slot_words.specs.declared.view.Kind.{Kind}
use Rattle.slot_words.specs.declared.view.Kind.TheVariants.{Look, Exchange, Store}
use Rattle.slot_words.specs.declared.view.Sight.{Sight}
use Rattle.slot_words.specs.declared.view.View.{View}
use Rattle.slot_words.specs.Places.{word_of}

-- the pair of a slot and a generation
abbrev pub held_pair : ℕ → ℕ → Held
held_pair slot generation = record { slot = slot; generation = generation }

-- the table's step number `time` did this at this place, found this number there, and left that one
abbrev pub sight_at : Kind → ℕ → ℕ → ℕ → ℕ → Sight
sight_at kind place found left time = record { kind = kind; place = place; found = found; left = left; time = time }

-- before any step
abbrev pub no_sight : Sight
no_sight = sight_at Look 0 0 0 0

-- the view of a seat whose last look and last step were these, that made these steps, that has and won these pairs, and
-- that has these shares of the right to step
abbrev pub knows : Sight → Sight → List Sight → List Held → List Held → List ℕ → View
knows look sight steps pairs won shares = record {
  look = look;
  sight = sight;
  steps = steps;
  pairs = pairs;
  won = won;
  shares = shares;
}

-- the view of a seat that made no step yet, with these shares
abbrev pub beginner : List ℕ → View
beginner shares = knows no_sight no_sight [] [] [] shares

-- with none
abbrev pub blank : View
blank = beginner []

-- with the whole right, never halved
abbrev pub opening : View
opening = beginner (0 ∷ [])

-- a number of each view, added up
abbrev pub total : (View → ℕ) → List View → ℕ
total f [] = 0
total f (v ∷ vs) = f v + total f vs

-- how many steps all seats made
abbrev pub steps : List View → ℕ
steps views = total (λ v. length v.steps) views

-- Shares weighed, where the whole right is 2 ^ n: a share that was halved k times weighs 2 ^ (n - k), and at least 1.
abbrev pub weight : ℕ → List ℕ → ℕ
weight n [] = 0
weight n (k ∷ ks) = 2 ^ (n - k) + weight n ks

-- the pair p is in this list of this seat's view, at this place
abbrev pub RepresentsIn : (View → List Held) → List View → ℕ → ℕ → Held → Type 0
RepresentsIn part views seat place p = (v : View) × (get_elem? views seat ≡ some v) × (get_elem? (part v) place ≡ some p)

-- the seat has this pair
abbrev pub HoldsPair : List View → ℕ → ℕ → Held → Type 0
HoldsPair views seat place p = RepresentsIn (λ v. v.pairs) views seat place p

-- the seat once won this pair
abbrev pub Won : List View → ℕ → ℕ → Held → Type 0
Won views seat place p = RepresentsIn (λ v. v.won) views seat place p

-- the generation of a slot's word
abbrev pub generation_at : List ℕ → ℕ → ℕ
generation_at words slot = slice_index words (word_of slot) / 2

-- Every pair won has a generation above 0, and none was won twice. Where a slot's word isn't 0 its generation was won by
-- some seat, and none above it.
pub record IsWon (slots : ℕ) (words : List ℕ) (views : List View) : Type 0 where
  pub begun : (slot : ℕ) → slot < slots → 0 < slice_index words (word_of slot) → (seat : ℕ) × (place : ℕ) × Won views seat place (held_pair slot (generation_at words slot))
  pub counted : (seat place : ℕ) (p : Held) → Won views seat place p → 0 < p.generation
  pub reached : (seat place : ℕ) (p : Held) → Won views seat place p → p.generation ≤ generation_at words p.slot
  pub single : (seat place other spot : ℕ) (p q : Held) → Won views seat place p → Won views other spot q → p.slot ≡ q.slot → p.generation ≡ q.generation → (seat ≡ other) × (place ≡ spot)

-- some seat made this step
abbrev pub MadeBy : List View → Sight → Type 0
MadeBy views s = (seat : ℕ) × (v : View) × (get_elem? views seat ≡ some v) × Contains v.steps s

-- of the steps at this place before this time, this is the last
pub record IsLast (step : Sight → Type 0) (place time : ℕ) (s : Sight) : Type 0 where
  pub made : step s
  pub here : s.place ≡ place
  pub early : s.time < time
  pub most : (t : Sight) → step t → t.place ≡ place → t.time < time → t.time ≤ s.time

-- this number is what the last step at this place before this time left there, or 0 where there was none
pub record IsLastLeft (step : Sight → Type 0) (place time word : ℕ) : Type 0 where
  pub reported : 0 < word → (s : Sight) × IsLast step place time s × (s.left ≡ word)
  pub most : (s : Sight) → IsLast step place time s → s.left ≡ word

-- What each kind of step does to the number found. A look leaves it. So does an exchange that lost; one that won found a
-- free word, and left it held at the next generation. A store found a held word, and left it free.
abbrev pub IsTransition : Kind → ℕ → ℕ → Type 0
IsTransition Look found left = left ≡ found
IsTransition Exchange found left = (left ≡ found) ⊎ ((found % 2 ≡ 0) × (left ≡ found + 3))
IsTransition Store found left = (found % 2 ≡ 1) × (found ≡ left + 1)

-- All steps have one order: each has a number up to how many there were, and some step has the last one. Each found exactly
-- what the one before it at its place had left, 0 at first, and did what its kind does; and what the last one left there
-- is still there. No seat's last step has a number above the last.
pub record IsTimed (words : List ℕ) (views : List View) : Type 0 where
  pub past : (s : Sight) → MadeBy views s → s.time ≤ steps views
  pub latest : 0 < steps views → (s : Sight) × MadeBy views s × (s.time ≡ steps views)
  pub exact : (s : Sight) → MadeBy views s → IsLastLeft (MadeBy views) s.place s.time s.found
  pub moves : (s : Sight) → MadeBy views s → IsTransition s.kind s.found s.left
  pub current : (place : ℕ) → IsLastLeft (MadeBy views) place (steps views + 1) (slice_index words place)
  pub seen : (seat : ℕ) (v : View) → get_elem? views seat ≡ some v → v.sight.time ≤ steps views

-- All shares together are at most the whole right. Who has none made no step.
pub record IsShared (views : List View) : Type 0 where
  pub within : (n : ℕ) × (total (λ v. weight n v.shares) views ≤ 2 ^ n)
  pub spent : (seat : ℕ) (v : View) → get_elem? views seat ≡ some v → v.shares ≡ [] → v.steps ≡ []

-- A slot's word is twice a generation, and one more where the slot is held. Where it is even no pair of any view
-- names the slot. Where it is odd at most one does, and with that generation.
pub record ClaimRule (slots : ℕ) (words : List ℕ) (views : List View) : Type 0 where
  pub wide : length words ≡ slots + 8
  pub low : (i : ℕ) → slice_index words i ≤ 2 ^ 63 + 1
  pub current : (seat place : ℕ) (p : Held) → HoldsPair views seat place p → slice_index words (word_of p.slot) ≡ 2 * p.generation + 1
  pub once : (seat place other spot : ℕ) (p q : Held) → HoldsPair views seat place p → HoldsPair views other spot q → p.slot ≡ q.slot → (seat ≡ other) × (place ≡ spot)
  pub won : IsWon slots words views
  pub timed : IsTimed words views
  pub shared : IsShared views
