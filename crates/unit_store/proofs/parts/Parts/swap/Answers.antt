use Rattle.std.proofs.Common.{◌∙◌, ap, rules}
use Rattle.std.specs.Prelude.{slice_get}
use Rattle.extent_groups.specs.Groups.{Groups, members_of}
use Rattle.unit_store.proofs.Shifts.{number_of, route_by, unmoved, moved_on}
use Rattle.unit_store.proofs.parts.Parts.swap.Goals as goal

pub put_units-requires-clause-route : goal.put_units-requires-clause-route
put_units-requires-clause-route g c =
    route_by g.D.Drive.units c.args.self.now c.args.group c.args.member c.members.result.now c.args.to c.requires.fit c.members.ensures.members c.requires.member c.requires.there c.requires.fine

pub why_unmoved-requires-clause-fit : goal.why_unmoved-requires-clause-fit
why_unmoved-requires-clause-fit g c =
    let route = route_by g.D.Drive.units c.args.self.now c.args.group c.args.member c.members.result.now c.args.to c.requires.fit c.members.ensures.members c.requires.member c.requires.there c.requires.fine in
    (unmoved g.D.Drive.units g.D.Drive.lost g.D.Drive.failures c.args.self.now c.put_units.new.self c.args.group c.args.member _ c.args.to c.requires.fit route c.put_units.ensures.tables c.put_units.ensures.touched).fit

pub why_unmoved-requires-clause-member : goal.why_unmoved-requires-clause-member
why_unmoved-requires-clause-member g c =
    ap (λ (t : Groups). slice_get (members_of t c.args.group) c.args.member) c.put_units.ensures.tables.groups
    ∙ number_of c.args.self.now.groups c.args.group c.args.member c.members.result.now (record { drive = 0; extent = 0 }) c.members.ensures.members c.requires.member

pub returns-in-Err : goal.returns-in-Err
returns-in-Err g c =
    let route = route_by g.D.Drive.units c.args.self.now c.args.group c.args.member c.members.result.now c.args.to c.requires.fit c.members.ensures.members c.requires.member c.requires.there c.requires.fine in
    let left = unmoved g.D.Drive.units g.D.Drive.lost g.D.Drive.failures c.args.self.now c.put_units.new.self c.args.group c.args.member _ c.args.to c.requires.fit route c.put_units.ensures.tables c.put_units.ensures.touched in
    record {
      ok = tt;
      err = record { tables = c.put_units.ensures.tables; reported = c.why_unmoved.ensures };
      slots = record { unchanged = λ sound slot unit every e. left.keeps sound slot unit e; sound = left.sound };
      drives = record { touched = c.put_units.ensures.touched; elsewhere = c.put_units.ensures.elsewhere; fares = left.fares };
      shape = c.put_units.ensures.tables.shape;
      fit = left.fit;
    }

pub returns : goal.returns
returns g c =
    let route = route_by g.D.Drive.units c.args.self.now c.args.group c.args.member c.members.result.now c.args.to c.requires.fit c.members.ensures.members c.requires.member c.requires.there c.requires.fine in
    let done = moved_on g.D.Drive.units g.D.Drive.lost g.D.Drive.failures c.args.self.now c.put_units.new.self c.swap_member-swapped.new.self c.swap_member-swapped.new.extents c.args.group c.args.member _ c.args.to
    c.swap_member-swapped.result c.requires.fit c.requires.there c.requires.fine route c.put_units.ensures.tables c.in_default.ensures.ok
    c.swap_member-swapped.ensures.swapped c.swap_member-swapped.ensures.moved c.swap_member-swapped.ensures.refused c.swap_member-swapped.ensures.agree in
    record {
      ok = record {
        swapped = search rules;
        moved = search rules;
        had = done.had;
        present = done.present;
        copied = done.copied;
        unused = done.unused;
      };
      err = tt;
      slots = record { unchanged = λ sound slot unit every e. done.keeps sound slot unit e; sound = done.sound };
      drives = record { touched = c.put_units.ensures.touched; elsewhere = c.put_units.ensures.elsewhere; fares = done.fares };
      shape = search rules;
      fit = done.fit;
    }
