-- Why a claim was refused, in terms of what its Pass remembered before and remembers then; and the refusals' numbers.
use Rattle.std.specs.Prelude.{◌≡◌, ◌≢◌, ◌⊎◌, ℕ, zero, suc, ◌+◌, ◌*◌, ◌%◌, ◌^◌, ◌<◌, List, length, slice_index, Option, Some, None}
use Rattle.slot_words.specs.declared.claim.ClaimRefusal.{ClaimRefusal}
use Rattle.slot_words.specs.declared.claim.ClaimRefusal.TheVariants.{Taken, Spent, Moved}
use Rattle.slot_words.specs.declared.view.Held.{Held}
use Rattle.slot_words.specs.declared.view.Kind.TheVariants.{Look, Store}
use Rattle.slot_words.specs.declared.view.Sight.{Sight}
use Rattle.slot_words.specs.declared.view.View.{View}
use Rattle.slot_words.specs.Sight.{HasStepped, HasTried}

-- the Pass made one store more, which found the claim's slot held at its generation, and left it free
abbrev pub HasFreed : Held → View → View → Type 0
HasFreed claim before after = HasStepped Store claim.slot before after × (after.sight.found ≡ 2 * claim.generation + 1) × (after.sight.left ≡ 2 * claim.generation)

-- one look found the slot free, and then one exchange found the same word, and left it held at the next generation
abbrev pub IsAcquired : ℕ → View → View → Held → Type 0
IsAcquired slot before after claim = (claim.slot ≡ slot) × HasTried slot before after × (2 * claim.generation ≡ after.look.found + 2)
    × (after.sight.found ≡ after.look.found) × (after.sight.left ≡ 2 * claim.generation + 1)

-- one look was made, and found this
abbrev pub HasLooked : ℕ → View → View → ℕ → Type 0
HasLooked slot before after word = HasStepped Look slot before after × (after.sight.found ≡ word)

-- one look found the slot free, and then one exchange found this there, and left it
abbrev pub HasMissed : ℕ → View → View → ℕ → Type 0
HasMissed slot before after word = HasTried slot before after × (after.look.found % 2 ≡ 0) × (after.sight.found ≡ word) × (after.sight.left ≡ word)

-- Taken: the word given is odd, and the look found it at the slot, or an exchange after the look. Spent: the look found the
-- slot free at the last generation. Moved: the word given is even, an exchange found it at the slot, and the look before it
-- had found another even word there.
abbrev pub IsClaimRefused : ℕ → View → View → ClaimRefusal → Type 0
IsClaimRefused slot before after (Taken word) = (word % 2 ≡ 1) × (HasLooked slot before after word ⊎ HasMissed slot before after word)
IsClaimRefused slot before after Spent = HasLooked slot before after (2 ^ 63)
IsClaimRefused slot before after (Moved word) = (word % 2 ≡ 0) × HasMissed slot before after word × (after.look.found ≢ word)

-- The first k slots listed were each tried and refused, in order, and no other step was made. `last` is the last refusal, or
-- none where k is 0.
abbrev pub WereRefused : List ℕ → ℕ → View → View → Option ClaimRefusal → Type 0
WereRefused slots zero before after last = (after ≡ before) × (last ≡ None)
WereRefused slots (suc k) before after last = (between : View) × (earlier : Option ClaimRefusal) × (refusal : ClaimRefusal)
    × WereRefused slots k before between earlier × IsClaimRefused (slice_index slots k) between after refusal × (last ≡ Some refusal)

-- the first slots listed were each tried and refused, in order, and then the next was claimed
abbrev pub IsFirstClaim : List ℕ → View → View → Held → Type 0
IsFirstClaim slots before after claim = (k : ℕ) × (between : View) × (last : Option ClaimRefusal) × (k < length slots)
    × WereRefused slots k before between last × IsAcquired (slice_index slots k) between after claim

-- why an exchange missed that sought the even word `seen`: it found this one, and left it
abbrev pub IsMissed : ℕ → Sight → ClaimRefusal → Type 0
IsMissed seen stepped (Taken word) = (word % 2 ≡ 1) × (stepped.found ≡ word) × (stepped.left ≡ word)
IsMissed seen stepped Spent = ⊥
IsMissed seen stepped (Moved word) = (word % 2 ≡ 0) × (stepped.found ≡ word) × (stepped.left ≡ word) × (seen ≢ word)

-- the refusals' numbers
abbrev pub number_of : ClaimRefusal → ℕ
number_of (Taken word) = 1
number_of Spent = 2
number_of (Moved word) = 3
