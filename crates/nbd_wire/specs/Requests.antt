-- Requests against their bytes, numbers with their highest byte first.
use Rattle.std.specs.Prelude.{◌≡◌, ℕ, ◌%◌, Bool, List, ◌==◌, nat_le, if◌then◌else◌, drop}
use Rattle.byteorder.specs.Endian.{big_number}
use Rattle.nbd_wire.specs.declared.request.Command.{Command}
use Rattle.nbd_wire.specs.declared.request.Command.TheVariants as command
use Rattle.nbd_wire.specs.declared.request.Request.{Request}

-- a request's magic number, 0x25609513
abbrev pub request_magic : ℕ
request_magic = 627086611

-- the command of a number
abbrev pub command_at : ℕ → Command
command_at n =
    if n == 0 then command.Read else
    if n == 1 then command.Write else
    if n == 2 then command.Disconnect else
    if n == 3 then command.Flush else
    if n == 4 then command.Trim else
    if n == 5 then command.Cache else
    if n == 6 then command.WriteZeroes else command.Other

-- 28 bytes spell a request
pub record SpellsRequest (bytes : List ℕ) (r : Request) : Type 0 where
  pub magic : big_number 4 bytes ≡ request_magic
  pub flags : r.flags ≡ big_number 2 (drop 4 bytes)
  pub command : r.command ≡ command_at (big_number 2 (drop 6 bytes))
  pub cookie : r.cookie ≡ big_number 8 (drop 8 bytes)
  pub offset : r.offset ≡ big_number 8 (drop 16 bytes)
  pub length : r.length ≡ big_number 4 (drop 24 bytes)

-- the highest flags that a command takes: FUA is bit 0, and NO_HOLE bit 1
abbrev pub most_flags : Command → ℕ
most_flags command.WriteZeroes = 3
most_flags _ = 1

abbrev pub has_known_flags : Request → Bool
has_known_flags r = nat_le r.flags (most_flags r.command)

-- FUA is set
abbrev pub is_forced : Request → Bool
is_forced r = (r.flags % 2) == 1

-- how many bytes come after a request: a write carries its data
abbrev pub carried_by : Command → ℕ → ℕ
carried_by command.Write length = length
carried_by _ length = 0

abbrev pub carried_len : Request → ℕ
carried_len r = carried_by r.command r.length
