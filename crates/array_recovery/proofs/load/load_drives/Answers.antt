use Rattle.vault.specs.Images.{Image}
use Rattle.vault.specs.Marks.{Has}
use Rattle.array_recovery.proofs.Attesting.{read_written}
use Rattle.array_recovery.proofs.Patched.{have_units}
use Rattle.array_recovery.proofs.load.load_drives.Goals as goal

pub returns-clause-honest : goal.returns-clause-honest
returns-clause-honest g c = λ known written last.
    let noted = Has c.in_ok-loaded.loaded.rotten.marks.items in
    let attested = g.V.Vault.attested c.args.vault.now in
    let lost = c.args.lost.now in
    let items = c.in_ok-loaded.loaded.caches.items in
    have_units noted attested lost written items c.in_ok-test_rotten.ensures
    (read_written noted attested attested c.args.drives lost (Image.cells (g.V.Vault.seen c.args.vault.now)) written items c.in_ok-loaded.ensures.many last (λ x is. is) (c.in_ok-loaded.ensures.found known))

pub returns-clause-units : goal.returns-clause-units
returns-clause-units g c = λ known. returns-clause-honest g c known (Image.cells (g.V.Vault.seen c.args.vault.now)) (λ x low not. record { there = λ here. here; same = λ is unit at. at })
