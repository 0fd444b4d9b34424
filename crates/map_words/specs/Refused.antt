-- Why a table is not closed, and the numbers of what is refused.
use Rattle.std.specs.Prelude.{◌≡◌, ◌≢◌, ℕ, []}
use Rattle.map_words.specs.declared.taker.CloseRefusal.{CloseRefusal}
use Rattle.map_words.specs.declared.taker.CloseRefusal.TheVariants.{NotWhole, Memory}
use Rattle.map_words.specs.declared.view.View.{View}
use Rattle.map_words.specs.TakeRule.{whole}

-- NotWhole: with the Taker's share, which isn't the whole. Memory: the share is the whole, and something was taken.
abbrev pub IsCloseRefused : View → CloseRefusal → Type 0
IsCloseRefused taker (NotWhole reported) = (reported ≡ taker.share) × (taker.share ≢ whole)
IsCloseRefused taker Memory = (taker.share ≡ whole) × (taker.taken ≢ [])

-- the refusals' numbers
abbrev pub number_of : CloseRefusal → ℕ
number_of (NotWhole reported) = 1
number_of Memory = 2
