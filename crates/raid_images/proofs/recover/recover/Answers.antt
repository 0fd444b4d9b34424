use Rattle.std.proofs.Common.{rules, ◌∙◌}
use Rattle.raid_images.proofs.recover.recover.Goals as goal

pub returns-in-Ok-restart : goal.returns-in-Ok-restart
returns-in-Ok-restart c =
    let found = c.in-Ok-None.ensures.none (search rules) in
    let note = c.in-Ok-None.ensures.only.tables.note ∙ c.requires in
    record {
      left = c.find.new.parts;
      loses = c.in-Ok-None.ensures.only;
      sound = found;
      made = c.in-Ok-restart.ensures.ok note;
      shows = c.in-Ok-restart.ensures.matches note found;
    }
