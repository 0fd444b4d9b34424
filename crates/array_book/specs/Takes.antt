-- Which of a worker's two Takers a call is about, and what it has taken and found.
use Rattle.std.specs.Prelude.{◌≡◌, ◌≢◌, ◌⊎◌, ℕ, ◌%◌, ◌==◌, if◌then◌else◌, Contains}
use Rattle.map_join.specs.declared.records.Record.{Record}
use Rattle.map_join.specs.Record.{key_of}
use Rattle.map_words.specs.declared.view.Found.{Found}
use Rattle.map_words.specs.declared.view.View.{View}
use Rattle.map_words.specs.Answers.{HasTaken, HasFound, IsUpperBound}
use Rattle.array_book.specs.declared.controller.Controller.{Controller}
use Rattle.array_book.specs.declared.controller.Controller.TheVariants.{Even, Odd}
use Rattle.array_book.specs.declared.worker.Migration.{Migration}
use Rattle.array_book.specs.declared.worker.Migration.TheVariants.{Moved, Outrun, Idle, NoRoom}

-- the controller into whose words a worker takes its records
abbrev pub controller_of : ℕ → Controller
controller_of number = if (number % 2) == 0 then Even else Odd

-- of the views of the Takers of both controllers the one of this, and the other
abbrev pub taker_of : Controller → View → View → View
taker_of Even even odd = even
taker_of Odd even odd = odd

abbrev pub other_of : Controller → View → View → View
other_of Even even odd = odd
other_of Odd even odd = even

-- one step more, which took the record
abbrev pub Took : Record → View → View → Type 0
Took r before after = (found : ℕ) × HasTaken before r found after

-- neither Taker has made a step
abbrev pub AreSame : View → View → View → View → Type 0
AreSame even odd even_after odd_after = (even_after ≡ even) × (odd_after ≡ odd)

-- what a migration by the worker of this number leaves of the Takers of both controllers: where a block was moved its record was
-- taken, and else nothing was
abbrev pub HasMigrated : ℕ → View → View → View → View → Migration → Type 0
HasMigrated number even odd even_after odd_after (Moved r) =
    Took r (taker_of (controller_of number) even odd) (taker_of (controller_of number) even_after odd_after)
HasMigrated number even odd even_after odd_after (Outrun r) = AreSame even odd even_after odd_after
HasMigrated number even odd even_after odd_after Idle = AreSame even odd even_after odd_after
HasMigrated number even odd even_after odd_after NoRoom = AreSame even odd even_after odd_after

-- the Taker has taken the record, or found its key
abbrev pub Knows : View → Record → Type 0
Knows taker r = Contains taker.taken r ⊎ ((f : Found) × Contains taker.found f × (f.block ≡ r.block) × (f.key ≡ key_of r))

-- what a read of a block returns, given the view of the Taker before and after: a record of that block that the Taker knows
-- afterwards, and that isn't below any that it knew
abbrev pub IsReadRecord : View → ℕ → View → Record → Type 0
IsReadRecord before block after r = (r.block ≡ block) × Knows after r × IsUpperBound before block (key_of r)

-- one step more, which found this key at the block; it isn't below any that the Taker knew
abbrev pub HasAsked : View → ℕ → ℕ → View → Type 0
HasAsked before block key after = IsUpperBound before block key × HasFound before block key after

-- the returned record is the one that was found, and nothing was taken; or it is another, and was taken
abbrev pub Learnt : Record → Record → View → View → Type 0
Learnt reported found before after = ((reported ≡ found) × (after ≡ before)) ⊎ ((reported ≢ found) × Took reported before after)
