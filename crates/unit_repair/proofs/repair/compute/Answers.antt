use Rattle.std.proofs.lemmas.Result.{on_ok_weaker}
use Rattle.vault.specs.Marks.{Has}
use Rattle.vault.proofs.Carried.{on_ok_both}
use Rattle.unit_repair.proofs.Touched.{answer_kept, computed, tables_more, tables_none}
use Rattle.unit_repair.proofs.repair.compute.Goals as goal

pub returns-in_err-test_once-clause-tables : goal.returns-in_err-test_once-clause-tables
returns-in_err-test_once-clause-tables c = tables_none c.args.parts.now

pub returns-in_err-sum-clause-tables : goal.returns-in_err-sum-clause-tables
returns-in_err-sum-clause-tables c = tables_none c.args.parts.now

pub returns-in_err-part-clause-tables : goal.returns-in_err-part-clause-tables
returns-in_err-part-clause-tables c = tables_none c.args.parts.now

pub test_touched-requires : goal.test_touched-requires
test_touched-requires c = answer_kept (Has c.args.rotten.now.marks.items) c.args.parts.now.drives.items c.compute_parts.new.parts.drives.items c.compute_parts.ensures.kept c.requires

pub returns-clause-tables : goal.returns-clause-tables
returns-clause-tables c = tables_more c.args.parts.now c.compute_parts.new.parts c.test_touched.new.parts c.compute_parts.ensures.tables c.test_touched.ensures.only.tables

pub returns-clause-computed : goal.returns-clause-computed
returns-clause-computed c =
    on_ok_weaker c.test_touched.result
    (λ both.
    computed (Has c.args.rotten.now.marks.items) c.args.parts.now c.compute_parts.new.parts c.test_touched.new.parts c.requires c.in_ok-test_once.ensures c.compute_parts.ensures.tables
    c.compute_parts.ensures.kept both.0 both.1 c.test_touched.ensures.only)
    (on_ok_both _ _ c.test_touched.result c.test_touched.ensures.fit c.test_touched.ensures.sound)
