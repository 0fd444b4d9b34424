-- A fresh payload or trim that waits at a slot gets a record without a hop.
use Rattle.std.proofs.Common.{◌≡◌, true, refl}
use Rattle.slot_tables.specs.Views.{Kept, Nothing, Pending, Moving, Newest, Unmade}
use Rattle.slot_tables.specs.Changes.{hop_given}
use Rattle.disk_array.specs.Waits.{is_fresh}

pub no_hop : (k : Kept) → is_fresh k ≡ true → hop_given k ≡ 0
no_hop Nothing e = refl
no_hop (Pending k) e = refl
no_hop (Moving r k) e = absurd (cc)
no_hop (Newest b) e = refl
no_hop Unmade e = refl
