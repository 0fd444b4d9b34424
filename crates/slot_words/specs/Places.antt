-- Where a slot's word lies among the words of its table.
use Rattle.std.specs.Prelude.{ℕ, ◌+◌, ◌-◌, []}
use Rattle.atomic_table.specs.Seated.{TableId}

-- the number of the slot's word: word 0 is no slot's, and no slot's word shares its cache line
abbrev pub word_of : ℕ → ℕ
word_of slot = slot + 8

-- how many slots a table has
abbrev pub table_slots : TableId → ℕ
table_slots table = table.words - 8

-- a table that does not exist, for a name that no table has been given yet
abbrev pub no_table : TableId
no_table = record { words = 0; slots = 0; views_name = 0; atom = 0; block = 0; offset = 0; slot_names = [] }
