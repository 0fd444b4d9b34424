-- Replies in a buffer.
use Rattle.std.proofs.Common.{◌≡◌, ℕ, ◌+◌, ◌≤◌, List, [], ◌++◌, length, take, drop, Option, Result, append-nil, refl, sym, ap, ◌∙◌, append_assoc, length-append}
use Rattle.std.proofs.lemmas.List.{take_at, drop_at, length-take-le}
use borrow.Rule.Slice.PartMut.{put_mid, post_of}
use Rattle.nbd_wire.specs.declared.reply.Errno.{Errno}
use Rattle.nbd_wire.specs.Replies.{reply_bytes}
use Rattle.byte_store.specs.declared.fault.StoreFault.{StoreFault}
use Rattle.nbd_serve.specs.Refusals.{error_of}

-- the head of a reply is 16 bytes
pub reply_len : (error : Option Errno) (cookie : ℕ) → length (reply_bytes error cookie) ≡ 16
unfolding reply_bytes
reply_len error cookie = refl

-- a reply's head that was written over the first 16 bytes
pub head_written : (error : Option Errno) (cookie : ℕ) (old new : List ℕ) → new ≡ reply_bytes error cookie ++ drop 16 old
    → take 16 new ≡ reply_bytes error cookie
head_written error cookie old new is =
    ap (take 16) is ∙ take_at (reply_bytes error cookie) (drop 16 old) 16 (reply_len error cookie)

-- a reply's head before bytes that were read to the places after it
pub bytes_written : (error : Option Errno) (cookie k count : ℕ) (out part new : List ℕ) → 16 ≤ length out → length part ≡ count
    → new ≡ reply_bytes error cookie ++ drop 16 (put_mid 16 k out part) → take (16 + count) new ≡ reply_bytes error cookie ++ part
bytes_written error cookie k count out part new room size is =
    let rest = post_of 16 k out in
    let after : drop 16 (put_mid 16 k out part) ≡ part ++ rest = drop_at (take 16 out) (part ++ rest) 16 (length-take-le 16 out room) in
    let all : new ≡ (reply_bytes error cookie ++ part) ++ rest =
    is ∙ ap (λ xs. reply_bytes error cookie ++ xs) after ∙ sym (append_assoc (reply_bytes error cookie) part rest) in
    let long : length (reply_bytes error cookie ++ part) ≡ 16 + count =
    length-append (reply_bytes error cookie) part ∙ ap (λ n. n + length part) (reply_len error cookie) ∙ ap (λ n. 16 + n) size in
    ap (take (16 + count)) all ∙ take_at (reply_bytes error cookie ++ part) rest (16 + count) long

-- a reply without bytes that were read
pub no_bytes_written : (error : Option Errno) (cookie : ℕ) (outcome : Result (Unit {0}) StoreFault) (reply : List ℕ) → error ≡ error_of outcome
    → reply ≡ reply_bytes error cookie → reply ≡ reply_bytes (error_of outcome) cookie ++ []
no_bytes_written error cookie outcome reply same is =
    is ∙ ap (λ e. reply_bytes e cookie) same ∙ sym (append-nil (reply_bytes (error_of outcome) cookie))
