use Rattle.cleaner.proofs.Planning.{plug_first}
use Rattle.cleaner.proofs.clean.clean_plan_counted.Goals as goal

pub returns-in-Some : goal.returns-in-Some
returns-in-Some g c = plug_first c.args.groups.now (g.L.Live.keys c.args.live.now) c.args.write c.args.append c.in-Some.field-0 c.in-Some.ensures
