use Rattle.std.proofs.Common.{[], false, replicate}
use Rattle.vault.specs.Images.{recovered}
use Rattle.array_store.specs.Blocks.{Holds}
use Rattle.journaled_store.specs.Left.{HasBoth, HasKeys}
use Rattle.array_recovery.proofs.Reopening.{bytes_left, keys_left}
use Rattle.blank_array.specs.Blank.{zeros_shown}
use Rattle.blank_array.proofs.Blanks.{shows_zeros}
use Rattle.blank_array.proofs.Making.{but_groups, made, never_lost, sound}
use Rattle.blank_array.proofs.make.make_array.Goals as goal

pub returns-clause-made : goal.returns-clause-made
returns-clause-made g c = λ known blank size.
    let can = c.in_ok-test_groups.ensures in
    let lost = replicate 16 false in
    let settled = c.in_ok-settle.ensures.settled (c.keep.ensures.stays known) (c.in_ok-keep.ensures.logged known lost (blank.logged lost)) in
    let now = c.settle.new.vault in
    let is = made g.V.Vault.seen g.V.Vault.may_leave c.args.groups.now c.args.drives can.most c.args.vault.now c.keep.new.vault now c.write_groups.new.batch lost (never_lost 16) blank
    (c.in_ok-keep.ensures.acknowledged known lost) settled c.in_ok-write_groups.ensures.spelled (but_groups c.write_groups.new.batch c.new-batch.result c.new-batch.ensures c.write_groups.ensures.others) in
    sound HasBoth g.V.Vault.seen g.V.Vault.may_leave (zeros_shown size) c.args.groups.now c.args.drives now
    (shows_zeros c.args.groups.now c.args.drives size [] (recovered (g.V.Vault.seen now)) can is) is settled.durable

pub returns-clause-bytes : goal.returns-clause-bytes
returns-clause-bytes g c = λ known blank size.
    let can = c.in_ok-test_groups.ensures in
    let lost = replicate 16 false in
    let settled = c.in_ok-settle.ensures.settled (c.keep.ensures.stays known) (c.in_ok-keep.ensures.logged known lost (blank.logged lost)) in
    let now = c.settle.new.vault in
    let is = made g.V.Vault.seen g.V.Vault.may_leave c.args.groups.now c.args.drives can.most c.args.vault.now c.keep.new.vault now c.write_groups.new.batch lost (never_lost 16) blank
    (c.in_ok-keep.ensures.acknowledged known lost) settled c.in_ok-write_groups.ensures.spelled (but_groups c.write_groups.new.batch c.new-batch.result c.new-batch.ensures c.write_groups.ensures.others) in
    sound Holds g.V.Vault.seen g.V.Vault.may_leave (replicate size 0) c.args.groups.now c.args.drives now
    (bytes_left (zeros_shown size) c.args.groups.now c.args.drives [] (recovered (g.V.Vault.seen now))
    (shows_zeros c.args.groups.now c.args.drives size [] (recovered (g.V.Vault.seen now)) can is)) is settled.durable

pub returns-clause-map : goal.returns-clause-map
returns-clause-map g c = λ known blank.
    let can = c.in_ok-test_groups.ensures in
    let lost = replicate 16 false in
    let settled = c.in_ok-settle.ensures.settled (c.keep.ensures.stays known) (c.in_ok-keep.ensures.logged known lost (blank.logged lost)) in
    let now = c.settle.new.vault in
    let is = made g.V.Vault.seen g.V.Vault.may_leave c.args.groups.now c.args.drives can.most c.args.vault.now c.keep.new.vault now c.write_groups.new.batch lost (never_lost 16) blank
    (c.in_ok-keep.ensures.acknowledged known lost) settled c.in_ok-write_groups.ensures.spelled (but_groups c.write_groups.new.batch c.new-batch.result c.new-batch.ensures c.write_groups.ensures.others) in
    sound HasKeys g.V.Vault.seen g.V.Vault.may_leave [] c.args.groups.now c.args.drives now
    (keys_left (zeros_shown 0) c.args.groups.now c.args.drives [] (recovered (g.V.Vault.seen now))
    (shows_zeros c.args.groups.now c.args.drives 0 [] (recovered (g.V.Vault.seen now)) can is)) is settled.durable

pub returns-clause-settled : goal.returns-clause-settled
returns-clause-settled g c = λ known blank.
    let lost = replicate 16 false in
    (c.in_ok-settle.ensures.settled (c.keep.ensures.stays known) (c.in_ok-keep.ensures.logged known lost (blank.logged lost))).empty
