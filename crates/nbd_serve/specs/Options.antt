-- The replies to options, and what comes after them.
use Rattle.std.specs.Prelude.{ℕ, List, [], ◌∷◌, ◌++◌, length, Bool, ◌==◌, nat_le, if◌then◌else◌}
use Rattle.nbd_wire.specs.declared.client.OptionHead.{OptionHead}
use Rattle.nbd_wire.specs.declared.client.OptionKind.{OptionKind}
use Rattle.nbd_wire.specs.declared.client.OptionKind.TheVariants as kind
use Rattle.nbd_wire.specs.declared.options.Export.{Export}
use Rattle.nbd_wire.specs.declared.options.OptionReply.TheVariants as reply
use Rattle.nbd_wire.specs.Options.{export_bytes, information, is_info, option_at, option_reply}
use Rattle.nbd_serve.specs.declared.options.Next.{Next}
use Rattle.nbd_serve.specs.declared.options.Next.TheVariants as next

-- LIST has no data. The one export has the empty name, whose length is spelled in 4 bytes
abbrev pub list_reply : ℕ → List ℕ → List ℕ
list_reply number carried =
    if length carried == 0 then option_reply number reply.Server (0 ∷ 0 ∷ 0 ∷ 0 ∷ []) ++ option_reply number reply.Ack []
    else option_reply number reply.Invalid []

-- INFO and GO ask for information on an export
abbrev pub info_reply : ℕ → List ℕ → Export → List ℕ
info_reply number carried e =
    if is_info carried then information number e ++ option_reply number reply.Ack [] else option_reply number reply.Invalid []

abbrev pub info_next : List ℕ → Next
info_next carried = if is_info carried then next.Go else next.More

-- the reply to an option with its data
abbrev pub answer_to : OptionKind → ℕ → List ℕ → Export → Bool → List ℕ
answer_to kind.ExportName number carried e no_zeroes = export_bytes e no_zeroes
answer_to kind.Abort number carried e no_zeroes = option_reply number reply.Ack []
answer_to kind.List number carried e no_zeroes = list_reply number carried
answer_to kind.Info number carried e no_zeroes = info_reply number carried e
answer_to kind.Go number carried e no_zeroes = info_reply number carried e
answer_to kind.Other number carried e no_zeroes = option_reply number reply.Unsupported []

abbrev pub next_after : OptionKind → List ℕ → Next
next_after kind.ExportName carried = next.Go
next_after kind.Abort carried = next.Abort
next_after kind.List carried = next.More
next_after kind.Info carried = next.More
next_after kind.Go carried = info_next carried
next_after kind.Other carried = next.More

-- an option with more than 4,096 bytes of data. EXPORT_NAME has no reply that could refuse it
abbrev pub long_reply : OptionKind → ℕ → List ℕ
long_reply kind.ExportName number = []
long_reply _ number = option_reply number reply.TooBig []

abbrev pub long_next : OptionKind → Next
long_next kind.ExportName = next.HangUp
long_next _ = next.More

-- the reply to an option, and what comes after it
abbrev pub reply_to : OptionHead → List ℕ → Export → Bool → List ℕ
reply_to o carried e no_zeroes =
    if nat_le o.length 4096 then answer_to (option_at o.option) o.option carried e no_zeroes
    else long_reply (option_at o.option) o.option

abbrev pub next_to : OptionHead → List ℕ → Next
next_to o carried = if nat_le o.length 4096 then next_after (option_at o.option) carried else long_next (option_at o.option)
