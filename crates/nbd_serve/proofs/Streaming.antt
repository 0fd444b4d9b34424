-- Bytes that are read and written in pieces.
use Rattle.std.proofs.Common.{◌≡◌, ℕ, ◌+◌, ◌-◌, ◌<◌, ◌≤◌, List, ◌++◌, length, take, drop, Bool, false, ◌==◌, Option, Some, None, rules, sym, ap, subst, ◌∙◌, arith, append_assoc, take-append-drop, length-append, length-drop}
use Rattle.std.specs.Io.KnownBytes.{Appends, Consumes, Keeps}
use Rattle.std.proofs.KnownBytes.{Appends-trans, Consumes-trans}
use Rattle.std.proofs.lemmas.List.{take_all, take_at, take-append-le, length-take-le, places}
use borrow.Rule.Slice.PartMut.{put_mid, post_of}
use Rattle.nbd_serve.specs.Streams.{IsPartWritten, IsShort, Skips}
use Rattle.nbd_serve.specs.declared.end.End.{End}

-- what was written is a prefix of the bytes
pub record IsWritten (held now : Option (List ℕ)) (bytes rest : List ℕ) : Type 0 where
  pub done : List ℕ
  pub wrote : Appends held now done
  pub bytes_are : bytes ≡ done ++ rest

-- a write took the first n bytes of the rest
pub wrote_more : (held mid now : Option (List ℕ)) (bytes rest : List ℕ) (n : ℕ) → IsWritten held mid bytes rest
    → Appends mid now (take n rest) → IsWritten held now bytes (drop n rest)
wrote_more held mid now bytes rest n before wrote = record {
  done = before.done ++ take n rest;
  wrote = Appends-trans held mid now before.done (take n rest) before.wrote wrote;
  bytes_are = before.bytes_are ∙ ap (λ xs. before.done ++ xs) (sym (take-append-drop n rest)) ∙ sym (append_assoc before.done (take n rest) (drop n rest));
}

-- a slice from its n-th byte on
pub from_place : (rest : List ℕ) (n : ℕ) → take (length rest - n) (drop n rest) ≡ drop n rest
from_place rest n = take_all _ _ (omega (arith, length-drop n rest))

-- a failed write took nothing
pub wrote_none : (held mid now : Option (List ℕ)) (bytes rest : List ℕ) → IsWritten held mid bytes rest → Keeps mid now
    → IsWritten held now bytes rest
wrote_none None mid now bytes rest before kept = record { done = before.done; wrote = tt; bytes_are = before.bytes_are }
wrote_none (Some xs) None now bytes rest before kept = absurd before.wrote
wrote_none (Some xs) (Some ys) None bytes rest before kept = absurd kept
wrote_none (Some xs) (Some ys) (Some zs) bytes rest before kept = record {
  done = before.done;
  wrote = kept ∙ before.wrote;
  bytes_are = before.bytes_are;
}

-- bytes are left when a write takes none, or answers an error
pub part_written : (held now : Option (List ℕ)) (bytes rest : List ℕ) → IsWritten held now bytes rest → 0 < length rest
    → IsPartWritten held now bytes
part_written held now bytes rest written some = record {
  written = written.done;
  unwritten = rest;
  bytes_is = written.bytes_are;
  some = some;
  wrote = written.wrote;
}

-- what isn't found empty has bytes
pub not_empty : (n : ℕ) (empty : Bool) → empty ≡ (n == 0) → empty ≡ false → 0 < n
not_empty n empty written is = grind arith

-- more bytes were read
pub skipped_more : (before mid after : Option (List ℕ)) (n m : ℕ) (bytes : List ℕ) → Skips before mid n → Consumes mid after bytes
    → length bytes ≡ m → Skips before after (n + m)
skipped_more before mid after n m bytes first second size = record {
  bytes = first.bytes ++ bytes;
  read = Consumes-trans before mid after first.bytes bytes first.read second;
  size = length-append first.bytes bytes ∙ ap (λ k. k + length bytes) first.size ∙ ap (λ k. n + k) size;
}

-- bytes were read, and then fewer than were wanted
pub short_after : (last : End) (before mid after : Option (List ℕ)) (bytes : List ℕ) (m expected : ℕ) → Consumes before mid bytes
    → IsShort last mid after m → length bytes + m ≤ expected → IsShort last before after expected
short_after last before mid after bytes m expected first short fits = record {
  part = bytes ++ short.part;
  read = Consumes-trans before mid after bytes short.part first short.read;
  few = let few : length short.part < m = short.few in omega (arith, length-append bytes short.part);
  ended = short.ended;
}

-- the front of a list that begins with n elements
take_past : (n k : ℕ) (front rest : List ℕ) → length front ≡ n → k ≤ length rest → take (n + k) (front ++ rest) ≡ front ++ take k rest
take_past n k front rest size room =
    let split : front ++ rest ≡ (front ++ take k rest) ++ drop k rest =
    ap (λ xs. front ++ xs) (sym (take-append-drop k rest)) ∙ sym (append_assoc front (take k rest) (drop k rest)) in
    let long : length (front ++ take k rest) ≡ n + k =
    length-append front (take k rest) ∙ ap (λ m. m + length (take k rest)) size ∙ ap (λ m. n + m) (length-take-le k rest room) in
    ap (take (n + k)) split ∙ take_at (front ++ take k rest) (drop k rest) (n + k) long

-- a read put bytes after those that were read earlier
pub filled_more : (before mid after : Option (List ℕ)) (buffer part : List ℕ) (done count : ℕ) → done ≤ length buffer
    → length part ≡ length buffer - done → count ≤ length part → Consumes before mid (take done buffer)
    → Consumes mid after (take count part)
    → Consumes before after (take (done + count) (put_mid done (length buffer - done) buffer part))
filled_more before mid after buffer part done count room size few first second =
    let rest = post_of done (length buffer - done) buffer in
    let size_rest : count ≤ length (part ++ rest) = omega (arith, length-append part rest) in
    let all : take (done + count) (put_mid done (length buffer - done) buffer part) ≡ take done buffer ++ take count part =
    take_past done count (take done buffer) (part ++ rest) (length-take-le done buffer room) size_rest
    ∙ ap (λ xs. take done buffer ++ xs) (take-append-le count part rest few) in
    let P : List ℕ → Type 0 = λ xs. Consumes before after xs in
    subst P (sym all) (Consumes-trans before mid after _ _ first second)

-- it keeps its length
pub length_kept : (buffer part : List ℕ) (done : ℕ) → done ≤ length buffer → length part ≡ length buffer - done
    → length (put_mid done (length buffer - done) buffer part) ≡ length buffer
length_kept buffer part done room size = search (rules, places)

-- a buffer whose front was read again keeps its length
pub refilled : (front buffer : List ℕ) (n : ℕ) → length front ≡ n → length buffer ≡ 4096 → n ≤ 4096
    → length (front ++ drop n buffer) ≡ 4096
refilled front buffer n size long fits = omega (arith, length-append front (drop n buffer), length-drop n buffer)

-- a Vec whose elements were written as a slice
pub written_back : (len : ℕ) (items new : List ℕ) → len ≡ length items → length new ≡ length items
    → take len (new ++ drop (length new) items) ≡ new
written_back len items new whole kept = take_at new (drop (length new) items) len (kept ∙ sym whole)

-- it has no fewer than it had
pub kept_room : (len : ℕ) (items new : List ℕ) → len ≡ length items → length new ≡ length items → 16 ≤ length items
    → 16 ≤ length (take len (new ++ drop (length new) items))
kept_room len items new whole kept room = let same = ap length (written_back len items new whole kept) in omega (arith, same, kept, room)
