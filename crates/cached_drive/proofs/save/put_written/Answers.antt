use Rattle.std.proofs.Common.{length}
use Rattle.std.proofs.lemmas.Result.{on_ok_weaker}
use Rattle.cached_drive.specs.Saving.{writes_at, upto}
use Rattle.cached_drive.proofs.Bringing.{all_bring, listed_brings}
use Rattle.cached_drive.proofs.Marking.{writes_once, upto_once}
use Rattle.cached_drive.proofs.save.put_written.Goals as goal

pub returns-then-all-clause-ok : goal.returns-then-all-clause-ok
returns-then-all-clause-ok c =
    let units = c.args.cache.now.units in
    on_ok_weaker c.put_all.result (λ is saved are. (writes_at c.args.drive units (upto (length units)), is, all_bring c.args.drive units saved are.many)) c.put_all.ensures.ok

pub returns-else-all-clause-ok : goal.returns-else-all-clause-ok
returns-else-all-clause-ok c =
    let units = c.args.cache.now.units in
    on_ok_weaker c.put_listed.result
    (λ is saved are. (writes_at c.args.drive units c.args.dirty.now, is, listed_brings c.args.drive units saved c.args.dirty.now c.args.all c.if-all.false are)) c.put_listed.ensures.ok

pub returns-then-all-clause-once : goal.returns-then-all-clause-once
returns-then-all-clause-once c =
    let units = c.args.cache.now.units in
    let ats = upto (length units) in
    on_ok_weaker c.put_all.result (λ is. (writes_at c.args.drive units ats, is, writes_once c.args.drive units ats (upto_once (length units)))) c.put_all.ensures.ok

pub returns-else-all-clause-once : goal.returns-else-all-clause-once
returns-else-all-clause-once c =
    let units = c.args.cache.now.units in
    let ats = c.args.dirty.now in
    on_ok_weaker c.put_listed.result (λ is. (writes_at c.args.drive units ats, is, writes_once c.args.drive units ats c.requires.once)) c.put_listed.ensures.ok
