-- What a store's calls make of a flat store.
use Rattle.std.specs.Prelude.{◌≡◌, ℕ, ◌⊎◌, List, length, slice_get, true, false, Result, Ok, Err}
use Rattle.byte_store.specs.Flat.{StoreState, written_over}

-- a write stopped somewhere: each byte is the old one or the one that was to be written, so none outside of the range is changed.
-- Nothing changed at all, or the bytes await a flush
pub record IsTornWrite (F : StoreState) (offset : ℕ) (bytes : List ℕ) (G : StoreState) : Type 0 where
  pub size : length G.bytes ≡ length F.bytes
  pub each : (k : ℕ) → (slice_get G.bytes k ≡ slice_get F.bytes k) ⊎ (slice_get G.bytes k ≡ slice_get (written_over F.bytes offset bytes) k)
  pub unsynced : (G ≡ F) ⊎ (G.unsynced ≡ true)

-- bytes were written over others, and await a flush
pub record IsOverwritten (F : StoreState) (offset : ℕ) (bytes : List ℕ) (G : StoreState) : Type 0 where
  pub bytes_are : G.bytes ≡ written_over F.bytes offset bytes
  pub unsynced : G.unsynced ≡ true

-- what a write makes of a flat store, by its outcome
abbrev pub IsChanged : {E : Type 0} → Result (Unit {0}) E → StoreState → ℕ → List ℕ → StoreState → Type 0
IsChanged (Ok _) F offset bytes G = IsOverwritten F offset bytes G
IsChanged (Err _) F offset bytes G = IsTornWrite F offset bytes G

-- what a flush makes of it: only whether some bytes await one
abbrev pub IsFlushed : {E : Type 0} → Result (Unit {0}) E → StoreState → StoreState → Type 0
IsFlushed (Ok _) F G = (G.bytes ≡ F.bytes) × (G.unsynced ≡ false)
IsFlushed (Err _) F G = G ≡ F
