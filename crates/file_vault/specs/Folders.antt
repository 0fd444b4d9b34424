-- Files that outlive a stop, as functions from an offset to a byte, and what calls make of them.
use Rattle.std.specs.Prelude.{◌≡◌, ◌≢◌, ◌⊎◌, ◌<◌, ◌≤◌, ◌+◌, ℕ, zero, suc, List, [], ◌∷◌, length, get_or, Result, IsErr}

-- the byte at each offset; 0 past the end
abbrev pub Bytes : Type 0
Bytes = ℕ → ℕ

-- each file's bytes, by its number
abbrev pub Folder : Type 0
Folder = ℕ → Bytes

-- some bytes from an offset on
abbrev pub part : Bytes → ℕ → ℕ → List ℕ
part f at zero = []
part f at (suc count) = f at ∷ part f (suc at) count

-- bytes that were read from an offset on
abbrev pub Reads : Bytes → ℕ → List ℕ → Type 0
Reads f at bytes = (j : ℕ) → j < length bytes → get_or bytes j 0 ≡ f (at + j)

-- bytes were written over those of a file from an offset on
pub record Wrote (file at : ℕ) (bytes : List ℕ) (old new : Folder) : Type 0 where
  pub inside : (j : ℕ) → j < length bytes → new file (at + j) ≡ get_or bytes j 0
  pub outside : (k : ℕ) → (k < at) ⊎ (at + length bytes ≤ k) → new file k ≡ old file k
  pub others : (d : ℕ) → d ≢ file → new d ≡ old d

-- a stop cut such a write short: each byte of its range is the one from before, or the one written
pub record Mixed (file at : ℕ) (bytes : List ℕ) (old new : Folder) : Type 0 where
  pub inside : (j : ℕ) → j < length bytes → (new file (at + j) ≡ old file (at + j)) ⊎ (new file (at + j) ≡ get_or bytes j 0)
  pub outside : (k : ℕ) → (k < at) ⊎ (at + length bytes ≤ k) → new file k ≡ old file k
  pub others : (d : ℕ) → d ≢ file → new d ≡ old d

-- what a stop leaves once a write is whole, and once it has begun
abbrev pub wrote_at : ℕ → ℕ → List ℕ → (Folder → Type 0) → Folder → Type 0
wrote_at file at bytes outcomes g = (f : Folder) × outcomes f × Wrote file at bytes f g

abbrev pub mixed_at : ℕ → ℕ → List ℕ → (Folder → Type 0) → Folder → Type 0
mixed_at file at bytes outcomes g = (f : Folder) × outcomes f × Mixed file at bytes f g

-- a file was cut at an offset: from there on it has zeros
pub record WasCut (file at : ℕ) (old new : Folder) : Type 0 where
  pub before : (k : ℕ) → k < at → new file k ≡ old file k
  pub zeros : (k : ℕ) → at ≤ k → new file k ≡ 0
  pub others : (d : ℕ) → d ≢ file → new d ≡ old d

-- a stop cut that short: each byte from there on is the one from before, or 0
pub record CutShort (file at : ℕ) (old new : Folder) : Type 0 where
  pub before : (k : ℕ) → k < at → new file k ≡ old file k
  pub either : (k : ℕ) → at ≤ k → (new file k ≡ old file k) ⊎ (new file k ≡ 0)
  pub others : (d : ℕ) → d ≢ file → new d ≡ old d

abbrev pub cut_at : ℕ → ℕ → (Folder → Type 0) → Folder → Type 0
cut_at file at outcomes g = (f : Folder) × outcomes f × CutShort file at f g

-- each outcome of a stop has this file as it is here
abbrev pub HasFile : ℕ → Folder → (Folder → Type 0) → Type 0
HasFile file f outcomes = (g : Folder) → outcomes g → g file ≡ f file

-- a call fails only where something has failed
pub record HasFault {T E : Type 0} (before now : ℕ) (result : Result T E) : Type 0 where
  pub later : before ≤ now
  pub failed : IsErr result → 0 < now
