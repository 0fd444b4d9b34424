-- What is read and written, as far as the bytes of a reader and a writer are known.
use Rattle.std.specs.Prelude.{◌≡◌, ℕ, ◌<◌, List, ◌++◌, length, Option}
use Rattle.std.specs.Io.KnownBytes.{Appends, Consumes, IsAtEnd}
use Rattle.nbd_serve.specs.declared.calls.Short.{Short}
use Rattle.nbd_serve.specs.declared.calls.Short.TheVariants as short
use Rattle.nbd_serve.specs.declared.end.End.{End}
use Rattle.nbd_serve.specs.declared.end.End.TheVariants as end

-- how a session ends if too few bytes were read
abbrev pub end_by : Short → End
end_by short.Ended = end.Cut
end_by (short.Failed broke) = end.ReadFault

-- no byte is left, if the input ended
abbrev pub LeavesNone : End → Option (List ℕ) → Type 0
LeavesNone end.Cut after = IsAtEnd after
LeavesNone _ after = Unit {0}

-- fewer bytes were read than were wanted
pub record IsShort (last : End) (before after : Option (List ℕ)) (expected : ℕ) : Type 0 where
  pub part : List ℕ
  pub read : Consumes before after part
  pub few : length part < expected
  pub ended : LeavesNone last after

-- `count` bytes were read
pub record Skips (before after : Option (List ℕ)) (count : ℕ) : Type 0 where
  pub bytes : List ℕ
  pub read : Consumes before after bytes
  pub size : length bytes ≡ count

-- a proper prefix of the bytes was written
pub record IsPartWritten (held now : Option (List ℕ)) (bytes : List ℕ) : Type 0 where
  pub written : List ℕ
  pub unwritten : List ℕ
  pub bytes_is : bytes ≡ written ++ unwritten
  pub some : 0 < length unwritten
  pub wrote : Appends held now written
