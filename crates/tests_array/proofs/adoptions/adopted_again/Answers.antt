use Rattle.map_join.specs.Maps.{at}
use Rattle.tests_array.proofs.Adopted.{claims_of_places}
use Rattle.tests_array.proofs.adoptions.adopted_again.Goals as goal

pub adopt-requires-clause-claims : goal.adopt-requires-clause-claims
adopt-requires-clause-claims g c = claims_of_places _ c.in-Ok.claims.items c.args.array (at c.args.map) c.requires.kept c.in-Ok.ensures.claims
