use Rattle.drive_evacuation.proofs.Shortening.{without_last}
use Rattle.drive_evacuation.proofs.laws.last_drive_law.Goals as goal

pub returns : goal.returns
returns c = λ tiers T rest last is drives lost groups enough clear. without_last tiers T rest last is drives lost groups enough clear
