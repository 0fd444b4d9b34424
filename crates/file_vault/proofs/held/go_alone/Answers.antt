use Rattle.std.proofs.Common.{arith}
use Rattle.file_vault.proofs.Shown.{shown_elapses, alone_within, ahead_of, left_following}
use Rattle.file_vault.proofs.held.go_alone.Goals as goal

pub returns-in-Ok-clause-held : goal.returns-in-Ok-clause-held
returns-in-Ok-clause-held g c = λ known may stop h now.
    ahead_of c.args.twin c.args.count c.number.result c.in-Some.next (g.F.Files.seen c.put_count.new.files) (g.F.Files.may_leave c.args.files.now stop) (g.F.Files.may_leave c.put_count.new.files stop) c.number.ensures (omega (arith, c.in-Some.ensures)) (may stop)
    ((c.put_count.ensures.time known stop).ends) (c.in-Ok.ensures.durable known stop) (c.in-Ok.ensures.count known) h now

pub returns-in-Ok-clause-left : goal.returns-in-Ok-clause-left
returns-in-Ok-clause-left g c = λ known stop h now.
    left_following c.args.twin c.number.result c.in-Some.next (g.F.Files.may_leave c.args.files.now stop) (g.F.Files.may_leave c.put_count.new.files stop) c.number.ensures ((c.put_count.ensures.time known stop).ends) h now

pub returns-in-Ok-clause-time : goal.returns-in-Ok-clause-time
returns-in-Ok-clause-time g c = λ known may stop.
    shown_elapses _ _ _ _ _ _ _ (c.put_count.ensures.time known stop)
    (alone_within c.args.twin c.args.count c.number.result c.in-Some.next (g.F.Files.may_leave c.args.files.now stop) c.number.ensures (omega (arith, c.in-Some.ensures)) (may stop))

pub returns-in-Err-clause-left : goal.returns-in-Err-clause-left
returns-in-Err-clause-left g c = λ known stop h now.
    left_following c.args.twin c.number.result c.in-Some.next (g.F.Files.may_leave c.args.files.now stop) (g.F.Files.may_leave c.put_count.new.files stop) c.number.ensures ((c.put_count.ensures.time known stop).ends) h now

pub returns-in-Err-clause-time : goal.returns-in-Err-clause-time
returns-in-Err-clause-time g c = λ known may stop.
    shown_elapses _ _ _ _ _ _ _ (c.put_count.ensures.time known stop)
    (alone_within c.args.twin c.args.count c.number.result c.in-Some.next (g.F.Files.may_leave c.args.files.now stop) c.number.ensures (omega (arith, c.in-Some.ensures)) (may stop))
