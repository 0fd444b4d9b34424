-- The handshake against its bytes, numbers with their highest byte first.
use Rattle.std.specs.Prelude.{◌≡◌, ℕ, ◌+◌, ◌*◌, List, [], ◌++◌, drop, length, replicate, Bool, true, false, ◌&&◌, ◌==◌, nat_le, if◌then◌else◌, Option, Some, None}
use Rattle.byteorder.specs.Endian.{big_bytes, big_number}
use Rattle.nbd_wire.specs.declared.client.OptionHead.{OptionHead}
use Rattle.nbd_wire.specs.declared.client.OptionKind.{OptionKind}
use Rattle.nbd_wire.specs.declared.client.OptionKind.TheVariants as kind
use Rattle.nbd_wire.specs.declared.options.Export.{Export}
use Rattle.nbd_wire.specs.declared.options.OptionReply.{OptionReply}
use Rattle.nbd_wire.specs.declared.options.OptionReply.TheVariants as reply

-- `NBDMAGIC`, `IHAVEOPT`, and the magic number of a reply to an option
abbrev pub greeting_magic : ℕ
greeting_magic = 5639144782019643715

abbrev pub option_magic : ℕ
option_magic = 5280542401877725268

abbrev pub option_reply_magic : ℕ
option_reply_magic = 1100100111001001

-- what a server says first, with its flags: FIXED_NEWSTYLE and NO_ZEROES
abbrev pub greeting : List ℕ
greeting = big_bytes 8 greeting_magic ++ (big_bytes 8 option_magic ++ big_bytes 2 3)

-- what a client's flags say of zeroes (bit 1); none if any but bits 0 and 1 is set
abbrev pub no_zeroes_in : List ℕ → Option Bool
no_zeroes_in flags =
    if nat_le (big_number 4 flags) 1 then Some false else
    if nat_le (big_number 4 flags) 3 then Some true else None

-- the option of a number
abbrev pub option_at : ℕ → OptionKind
option_at n =
    if n == 1 then kind.ExportName else
    if n == 2 then kind.Abort else
    if n == 3 then kind.List else
    if n == 6 then kind.Info else
    if n == 7 then kind.Go else kind.Other

-- 16 bytes spell an option
pub record SpellsOption (bytes : List ℕ) (head : OptionHead) : Type 0 where
  pub magic : big_number 8 bytes ≡ option_magic
  pub option : head.option ≡ big_number 4 (drop 8 bytes)
  pub length : head.length ≡ big_number 4 (drop 12 bytes)

-- the data of INFO and GO: a name's length, the name, a count n, and n information requests of 2 bytes each
abbrev pub requests_fit : ℕ → List ℕ → Bool
requests_fit name carried =
    nat_le (6 + name) (length carried) && (length carried == 6 + name + 2 * big_number 2 (drop (4 + name) carried))

abbrev pub is_info : List ℕ → Bool
is_info carried = nat_le 6 (length carried) && requests_fit (big_number 4 carried) carried

-- the number of a reply's kind; errors have the highest bit set
abbrev pub kind_number : OptionReply → ℕ
kind_number reply.Ack = 1
kind_number reply.Server = 2
kind_number reply.Info = 3
kind_number reply.Unsupported = 2147483649
kind_number reply.Invalid = 2147483651
kind_number reply.TooBig = 2147483657

-- the first 16 bytes of a reply to an option
unfoldable pub option_head : ℕ → OptionReply → List ℕ
option_head option kind = big_bytes 8 option_reply_magic ++ (big_bytes 4 option ++ big_bytes 4 (kind_number kind))

-- bytes with their count before them
unfoldable pub counted : List ℕ → List ℕ
counted carried = big_bytes 4 (length carried) ++ carried

-- a reply to an option, with the data that it carries
abbrev pub option_reply : ℕ → OptionReply → List ℕ → List ℕ
option_reply option kind carried = option_head option kind ++ counted carried

-- an export's flags: HAS_FLAGS, SEND_FLUSH, SEND_FUA, SEND_TRIM, SEND_WRITE_ZEROES, SEND_CACHE
abbrev pub export_flags : ℕ
export_flags = 1133

-- information on an export's size and flags, with its count before it: the number 0, the size, the flags
abbrev pub size_info : ℕ → List ℕ
size_info size = big_bytes 4 12 ++ (big_bytes 2 0 ++ (big_bytes 8 size ++ big_bytes 2 export_flags))

-- the preferred size of a request is a power of two from 512 on, the least that is not below the block
abbrev pub preferred_of : ℕ → ℕ
preferred_of block =
    if nat_le block 512 then 512 else
    if nat_le block 1024 then 1024 else
    if nat_le block 2048 then 2048 else
    if nat_le block 4096 then 4096 else
    if nat_le block 8192 then 8192 else
    if nat_le block 16384 then 16384 else
    if nat_le block 32768 then 32768 else 65536

-- information on the sizes of requests, with its count before it: the number 3, the least, the preferred, the largest
abbrev pub block_info : ℕ → List ℕ
block_info block =
    big_bytes 4 14 ++ (big_bytes 2 3 ++ (big_bytes 4 1 ++ (big_bytes 4 (preferred_of block) ++ big_bytes 4 33554432)))

-- both as replies to an option
abbrev pub information : ℕ → Export → List ℕ
information option e = (option_head option reply.Info ++ size_info e.size) ++ (option_head option reply.Info ++ block_info e.block)

-- the zeroes at the end of a handshake by EXPORT_NAME
abbrev pub export_end : Bool → List ℕ
export_end true = []
export_end false = replicate 124 0

abbrev pub export_bytes : Export → Bool → List ℕ
export_bytes e no_zeroes = big_bytes 8 e.size ++ (big_bytes 2 export_flags ++ export_end no_zeroes)
