use Rattle.std.proofs.Common.{refl}
use Rattle.map_join.proofs.Joins.{together}
use Rattle.map_join.specs.Maps.{join}
use Rattle.map_join.proofs.laws.list_laws.Goals as goal

pub returns : goal.returns
returns c xs ys M N ours theirs = together xs ys M N (join M N) (λ block. refl) ours theirs
