-- Simple replies against their bytes, numbers with their highest byte first.
use Rattle.std.specs.Prelude.{ℕ, List, ◌++◌, Option, Some, None}
use Rattle.byteorder.specs.Endian.{big_bytes}
use Rattle.nbd_wire.specs.declared.reply.Errno.{Errno}
use Rattle.nbd_wire.specs.declared.reply.Errno.TheVariants as errno

-- a simple reply's magic number, 0x67446698
abbrev pub reply_magic : ℕ
reply_magic = 1732535960

-- the number of an error, 0 for none
abbrev pub number_of : Option Errno → ℕ
number_of None = 0
number_of (Some errno.Io) = 5
number_of (Some errno.Memory) = 12
number_of (Some errno.Invalid) = 22
number_of (Some errno.NoSpace) = 28

-- a reply's magic number and its error
abbrev pub error_bytes : Option Errno → List ℕ
error_bytes error = big_bytes 4 reply_magic ++ big_bytes 4 (number_of error)

-- the 16 bytes of a simple reply: magic number, error, cookie
unfoldable pub reply_bytes : Option Errno → ℕ → List ℕ
reply_bytes error cookie = error_bytes error ++ big_bytes 8 cookie
