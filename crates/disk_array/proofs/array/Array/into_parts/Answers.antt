use Rattle.disk_array.proofs.Resting.{claims_rest}
use Rattle.disk_array.proofs.array.Array.into_parts.Goals as goal

pub returns-in-Ok-clause-rests : goal.returns-in-Ok-clause-rests
returns-in-Ok-clause-rests g c F shows rests closed = claims_rest g.C.Hold.names c.in-Ok.claims.items _ F shows rests closed c.in-Ok.ensures.parts.claims_are
