-- Which requests are refused, and the error numbers that stand for a store's refusals.
use Rattle.std.specs.Prelude.{ℕ, ◌+◌, nat_le, if◌then◌else◌, Option, Some, None, Result, Ok, Err}
use Rattle.byte_store.specs.declared.fault.StoreFault.{StoreFault}
use Rattle.byte_store.specs.declared.fault.StoreFault.TheVariants as fault
use Rattle.nbd_wire.specs.declared.reply.Errno.{Errno}
use Rattle.nbd_wire.specs.declared.reply.Errno.TheVariants as errno
use Rattle.nbd_wire.specs.declared.request.Command.{Command}
use Rattle.nbd_wire.specs.declared.request.Command.TheVariants as command
use Rattle.nbd_wire.specs.declared.request.Request.{Request}
use Rattle.nbd_wire.specs.Requests.{has_known_flags}

-- the error of a request's outcome in the store, none if it was carried out
abbrev pub error_of : Result (Unit {0}) StoreFault → Option Errno
error_of (Ok _) = None
error_of (Err fault.NoSpace) = Some errno.NoSpace
error_of (Err fault.Memory) = Some errno.Memory
error_of (Err fault.Gone) = Some errno.Io
error_of (Err fault.Sync) = Some errno.Io

-- a request that ends past the end of the store has an error
abbrev pub past_end : ℕ → Request → Errno → Option Errno
past_end size r error = if nat_le (r.offset + r.length) size then None else Some error

-- a command's request of at most 32 MiB within the store is carried out. EINVAL is the error of all that is wrong with it but a write
-- or zeroes past the end, which is ENOSPC. A flush ignores offset and length
abbrev pub refusal_by : Command → ℕ → Request → Option Errno
refusal_by command.Read size r = if nat_le r.length 33554432 then past_end size r errno.Invalid else Some errno.Invalid
refusal_by command.Write size r = if nat_le r.length 33554432 then past_end size r errno.NoSpace else Some errno.Invalid
refusal_by command.Trim size r = past_end size r errno.Invalid
refusal_by command.WriteZeroes size r = past_end size r errno.NoSpace
refusal_by command.Cache size r = past_end size r errno.Invalid
refusal_by command.Flush size r = None
refusal_by command.Disconnect size r = Some errno.Invalid
refusal_by command.Other size r = Some errno.Invalid

-- unknown flags come first
abbrev pub refusal_of : ℕ → Request → Option Errno
refusal_of size r = if has_known_flags r then refusal_by r.command size r else Some errno.Invalid
