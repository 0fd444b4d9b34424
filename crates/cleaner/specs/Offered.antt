-- How many live slots a group has, where a plan may choose it: 0 where it may not. The group that is left out is counted like
-- any other here.
use Rattle.std.specs.Prelude.{ℕ, ◌+◌, ◌-◌, ◌%◌, ◌^◌, List, slice_index, if◌then◌else◌, nat_lt, nat_le}

-- a count, where the group has more slots
abbrev pub holed : ℕ → ℕ → ℕ
holed count slots = if nat_lt count slots then count else 0

-- a count, where the group has slots as a parity group
abbrev pub in_parity : ℕ → ℕ → ℕ
in_parity count slots = if nat_lt 0 slots then count else 0

-- a count, where it is no more than this
abbrev pub up_to : ℕ → ℕ → ℕ
up_to most count = if nat_le count most then count else 0

-- the lower a count the higher its rank, but 0 stays 0
abbrev pub inverted_rank : ℕ → ℕ
inverted_rank count = (0 + (2 ^ 16 - count)) % 2 ^ 16

-- by tables of the slots and of the counts, the count of a group with a hole
abbrev pub holed_count : List ℕ → List ℕ → ℕ → ℕ
holed_count slots counts group = holed (slice_index counts group) (slice_index slots group)

-- and of a parity group with no more live slots than this
abbrev pub source_count : List ℕ → List ℕ → ℕ → ℕ → ℕ
source_count slots counts most group = up_to most (in_parity (slice_index counts group) (slice_index slots group))
