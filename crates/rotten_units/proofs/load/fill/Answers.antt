use Rattle.std.proofs.Common.{◌≡◌, ◌<◌, ◌∙◌, length, refl, subst, arith}
use Rattle.extents.specs.Units.{AreUnitsSized}
use Rattle.extent_groups.specs.declared.place.Place.{Place}
use Rattle.vault.specs.Images.{Image}
use Rattle.vault.specs.Marks.{Has}
use Rattle.rotten_units.specs.Loaded.{IsReadOrNoted}
use Rattle.rotten_units.proofs.Loading.{at, filled_more, only_more}
use Rattle.rotten_units.proofs.Reading.{notes_more, read_more, same_more}
use Rattle.rotten_units.proofs.load.fill.Goals as goal

pub returns-in_err-read_unit-clause-read : goal.returns-in_err-read_unit-clause-read
returns-in_err-read_unit-clause-read g c = λ known.
    let now = c.loop-address.invariant.stays known in
    read_more g.V.Vault.seen g.V.Vault.may_leave g.V.Vault.moment g.V.Vault.left_since c.args.vault.now c.loop-address.vault c.read_unit.new.vault (c.loop-address.invariant.read known)
    (c.read_unit.ensures.read now)

pub returns-in_err-read_unit-clause-attests : goal.returns-in_err-read_unit-clause-attests
returns-in_err-read_unit-clause-attests g c = λ known.
    same_more g.V.Vault.attested c.args.vault.now c.loop-address.vault c.read_unit.new.vault (c.loop-address.invariant.attests known) (c.read_unit.ensures.attests (c.loop-address.invariant.stays known))

pub loop-address-preserved : goal.loop-address-preserved
loop-address-preserved g c =
    let inv = c.loop-address.invariant in
    let reported = c.read_unit.ensures in
    let some = c.in_ok-read_unit.ensures in
    record {
      stays = λ known. reported.stays (inv.stays known);
      read = λ known. read_more g.V.Vault.seen g.V.Vault.may_leave g.V.Vault.moment g.V.Vault.left_since c.args.vault.now c.loop-address.vault c.read_unit.new.vault (inv.read known) (reported.read (inv.stays known));
      attests = λ known. same_more g.V.Vault.attested c.args.vault.now c.loop-address.vault c.read_unit.new.vault (inv.attests known) (reported.attests (inv.stays known));
      present = reported.form.present;
      many = reported.form.many ∙ inv.many;
      size = subst (λ n. AreUnitsSized n c.read_unit.new.cache.units) inv.long reported.form.sized;
      long = c.read_unit.auto.unit ∙ inv.long;
      kept = λ x was. some.kept x (inv.kept x was);
      inside =
          (let low : c.loop-address.address < length c.args.cache.now.units = omega arith in
          only_more (λ x. (x.drive ≡ c.args.drive) × (x.address < length c.args.cache.now.units)) (Has c.args.rotten.now.marks.items) (Has c.loop-address.rotten.marks.items)
          (Has c.read_unit.new.rotten.marks.items) (at c.args.drive c.loop-address.address) (refl, low) inv.inside some.only);
      rotten = λ known.
          notes_more (g.V.Vault.attested c.args.vault.now) (g.V.Vault.attested c.loop-address.vault) (Has c.args.rotten.now.marks.items) (Has c.loop-address.rotten.marks.items) (Has c.read_unit.new.rotten.marks.items)
          (λ x a. (inv.attests known x).1 a) (inv.rotten known) (some.rotten (inv.stays known));
      found = λ known.
          filled_more (Has c.loop-address.rotten.marks.items) (Has c.read_unit.new.rotten.marks.items) (g.V.Vault.attested c.args.vault.now) (g.V.Vault.attested c.loop-address.vault)
          (Image.cells (g.V.Vault.seen c.args.vault.now)) c.args.drive c.loop-address.address c.loop-address.cache.units c.read_unit.new.cache.units some.kept (λ x m. (inv.attests known x).0 m)
          reported.others (inv.found known)
          (subst (λ (s : Image). IsReadOrNoted (Has c.read_unit.new.rotten.marks.items) (g.V.Vault.attested c.loop-address.vault) (Image.cells s) (at c.args.drive c.loop-address.address) c.read_unit.new.cache.units)
          (inv.read known).finds (some.found (inv.stays known)));
    }
