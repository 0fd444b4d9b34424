-- The rule of the map words: what is true of the words and of all Takers between any two atomic steps.
use Rattle.std.specs.Prelude.{◌≡◌, ℕ, ◌+◌, ◌<◌, ◌≤◌, List, [], ◌∷◌, length, slice_index, Contains}
use mathlib.Core.Option.{some}
use lib.ListN.{get_elem?}
use Rattle.map_join.specs.declared.records.Record.{Record}
use Rattle.map_join.specs.Record.{key_of}
use Rattle.map_words.specs.declared.view.Found.{Found}
use Rattle.map_words.specs.declared.view.View.{View}
use Rattle.map_words.specs.Places.{word_of}

-- the view of a seat with this share, which took these records and found these keys
abbrev pub knows : ℕ → List Record → List Found → View
knows share taken found = record { share = share; taken = taken; found = found }

-- the step of this time found this key at this block's word, and left that one there
abbrev pub found_at : ℕ → ℕ → ℕ → ℕ → Found
found_at block time key left = record { block = block; time = time; key = key; left = left }

-- the share of all
abbrev pub whole : ℕ
whole = 65536

-- the view of the first seat: the whole share, and nothing taken or found
abbrev pub opening : View
opening = knows whole [] []

-- a number of each view, added up
abbrev pub total : (View → ℕ) → List View → ℕ
total f [] = 0
total f (v ∷ vs) = f v + total f vs

-- all shares together
abbrev pub shares : List View → ℕ
shares views = total (λ v. v.share) views

-- how many takes and finds there were, each of which found one key
abbrev pub steps : List View → ℕ
steps views = total (λ v. length v.found) views

-- some seat took this record
abbrev pub TakenBy : List View → Record → Type 0
TakenBy views r = (seat : ℕ) × (v : View) × (get_elem? views seat ≡ some v) × Contains v.taken r

-- some seat found this
abbrev pub FoundBy : List View → Found → Type 0
FoundBy views f = (seat : ℕ) × (v : View) × (get_elem? views seat ≡ some v) × Contains v.found f

-- the record that a word represents: of this block, with this number as its key, and of a version
pub record DecodesTo (of number : ℕ) (r : Record) : Type 0 where
  pub block : r.block ≡ of
  pub key : key_of r ≡ number
  pub written : 0 < r.version

-- this key is the greatest that steps before this time left at the block, or 0 where there was none
pub record IsLeft (step : Found → Type 0) (block time key : ℕ) : Type 0 where
  pub reported : 0 < key → (f : Found) × step f × (f.block ≡ block) × (f.time < time) × (f.left ≡ key)
  pub most : (f : Found) → step f → f.block ≡ block → f.time < time → f.left ≤ key

-- All takes and finds have one order: each one's time is below their number, and the time of the last one is the
-- greatest that can be. A step found exactly what the steps of earlier times had left at its block, and each word is
-- what all steps left there. What a step left, if not 0, is the key of a record of its block that some seat took, and
-- no record taken of a block has a key above the block's word. A share that isn't spent is at least 1, and all add up
-- to at most 65,536.
pub record TakeRule (blocks : ℕ) (words : List ℕ) (views : List View) : Type 0 where
  pub wide : length words ≡ blocks + 8
  pub within : shares views ≤ whole
  pub spent : (seat : ℕ) (v : View) → get_elem? views seat ≡ some v → v.share ≡ 0 → (v.taken ≡ []) × (v.found ≡ [])
  pub timed : (f : Found) → FoundBy views f → f.time < steps views
  pub latest : 0 < steps views → (f : Found) × FoundBy views f × (f.time + 1 ≡ steps views)
  pub exact : (f : Found) → FoundBy views f → IsLeft (FoundBy views) f.block f.time f.key
  pub current : (block : ℕ) → block < blocks → IsLeft (FoundBy views) block (steps views) (slice_index words (word_of block))
  pub known : (f : Found) → FoundBy views f → 0 < f.left → (r : Record) × TakenBy views r × DecodesTo f.block f.left r
  pub most : (r : Record) → TakenBy views r → key_of r ≤ slice_index words (word_of r.block)
