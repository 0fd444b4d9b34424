use Rattle.std.proofs.Common.{rules, ◌*◌, ap, ◌∙◌}
use Rattle.file_drive.proofs.Held.{holds_written}
use Rattle.file_drive.proofs.drive.FileDriveDrive.write_unit.Goals as goal

pub invariant_of-self-2 : goal.invariant_of-self-2
invariant_of-self-2 g c =
    let start_is = ap (λ n. n * c.from-2.result) c.from.ensures ∙ ap (λ n. c.args.at * n) c.from-2.ensures in
    record {
      present = c.keep.ensures.present;
      held = λ answers. holds_written (g.B.Backing.bytes c.args.self.now.backing) (g.B.Backing.bytes c.is_written.new.backing)
          c.args.self.now.size c.args.at (c.from.result * c.from-2.result) c.args.unit.now c.args.self.now.cache.units c.keep.new.cache.units
          c.requires.at start_is c.requires.size (search rules) (c.args.self.now.held c.if-self.false) c.keep.ensures.written;
    }
