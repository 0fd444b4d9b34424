use Rattle.std.proofs.Common.{rules, refl, ◌≡◌, Ok, Err, Result}
use Rattle.extents.specs.declared.header.Header.{Header}
use Rattle.raid_c.specs.declared.status.Status.TheVariants as is
use Rattle.raid_c.proofs.header.behkuna_header_decode.Goals as goal

pub returns-in-Ok : goal.returns-in-Ok
returns-in-Ok c = (is.Done, search rules, search rules)

pub returns-in-Err : goal.returns-in-Err
returns-in-Err c = (is.NoHeader, c.number-in-Err.ensures, (λ header spells. differ c.decode.result c.in-Err.is (c.decode.ensures.only header spells), refl))
  where
    differ : {E : Type 0} {x : E} {y : Header} → (r : Result Header E) → r ≡ Err x → r ≡ Ok y → ⊥
    differ r e o = cc
