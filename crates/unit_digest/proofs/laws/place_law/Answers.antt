use Rattle.unit_digest.proofs.Digested.{places_apart}
use Rattle.unit_digest.proofs.laws.place_law.Goals as goal

pub returns : goal.returns
returns c drive address other there unit ld la lo lt e = places_apart drive address other there unit ld la lo lt e
