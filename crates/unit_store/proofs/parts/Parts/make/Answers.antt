use Rattle.std.proofs.Common.{sym, subst, rules}
use Rattle.flat_machine.specs.Groups.{AreApart}
use Rattle.extent_groups.proofs.Keeping.{passed}
use Rattle.extent_groups.specs.Calls.{KeepsDrives}
use Rattle.unit_store.specs.Making.{IsInOne}
use Rattle.unit_store.proofs.Making.{unmade, made}
use Rattle.unit_store.proofs.parts.Parts.make.Goals as goal

pub wipe-requires-clause-spread : goal.wipe-requires-clause-spread
wipe-requires-clause-spread g c = subst AreApart (sym c.deref.ensures.value) (passed c.args.self.now.extents c.args.members.items c.requires.fine).formed.spread

pub returns-in-Err : goal.returns-in-Err
returns-in-Err g c =
    let left = unmade g.D.Drive.units g.D.Drive.lost g.D.Drive.failures c.args.self.now c.wipe.new.self c.args.members.items c.deref.result.now c.requires.fit c.requires.fine c.wipe.ensures.tables c.deref.ensures.value c.wipe.ensures.touched in
    record {
      ok = tt;
      err = record { tables = search rules; reported = search rules };
      slots = record { unchanged = λ sound slot unit ne e. left.keeps sound slot unit e; sound = left.sound };
      drives = record {
        touched = subst (λ ms. KeepsDrives g.D.Drive.units g.D.Drive.lost g.D.Drive.failures (IsInOne c.args.self.now.groups.segments ms) c.args.self.now.drives.items c.wipe.new.self.drives.items)
            c.deref.ensures.value c.wipe.ensures.touched;
        elsewhere = search rules;
        fares = left.fares;
      };
      shape = search rules;
      fit = left.fit;
    }

pub returns : goal.returns
returns g c =
    let done = made g.D.Drive.units g.D.Drive.lost g.D.Drive.failures c.args.self.now c.wipe.new.self c.enter_group.new.self c.enter_group.new.extents c.args.group c.args.class c.args.members.items c.deref.result.now c.args.zeros.now
    c.requires.fit c.requires.free c.requires.there c.requires.fine c.requires.zeros c.wipe.ensures.tables c.enter_group.ensures.made c.enter_group.ensures.owned c.enter_group.ensures.agree c.deref.ensures.value
    c.wipe.ensures.touched c.in_default.ensures.wiped in
    record {
      ok = record {
        made = search rules;
        owned = search rules;
        wiped = search rules;
        present = done.present;
        blank = done.blank;
      };
      err = tt;
      slots = record { unchanged = done.keeps; sound = done.sound };
      drives = record {
        touched = subst (λ ms. KeepsDrives g.D.Drive.units g.D.Drive.lost g.D.Drive.failures (IsInOne c.args.self.now.groups.segments ms) c.args.self.now.drives.items c.wipe.new.self.drives.items)
            c.deref.ensures.value c.wipe.ensures.touched;
        elsewhere = search rules;
        fares = done.fares;
      };
      shape = search rules;
      fit = done.fit;
    }
