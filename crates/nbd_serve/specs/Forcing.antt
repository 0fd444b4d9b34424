-- A flush that is made only if FUA was set.
use Rattle.std.specs.Prelude.{◌≡◌, Bool, false, if◌then◌else◌, IsTrue, Result, Ok, Err}
use Rattle.byte_store.specs.Flat.{StoreState}
use Rattle.byte_store.specs.declared.fault.StoreFault.{StoreFault}

-- the same bytes, durable if FUA was set
pub record IsForced (forced : Bool) (F G : StoreState) : Type 0 where
  pub bytes_are : G.bytes ≡ F.bytes
  pub unsynced : G.unsynced ≡ (if forced then false else F.unsynced)

-- by its outcome: only a flush is refused
abbrev pub Forces : Result (Unit {0}) StoreFault → Bool → StoreState → StoreState → Type 0
Forces (Ok _) forced F G = IsForced forced F G
Forces (Err _) forced F G = (G ≡ F) × IsTrue forced
