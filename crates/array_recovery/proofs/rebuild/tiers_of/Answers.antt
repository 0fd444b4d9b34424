use Rattle.std.proofs.Common.{◌≡◌, ◌∙◌, ap, sym}
use Rattle.unit_store.specs.Views.{view_of}
use Rattle.slot_tables.specs.Views.{ArrayView, WorldView, key_at}
use Rattle.array_recovery.proofs.Rebuilding.{keys_of_restart, loses_more, rebuilt_of}
use Rattle.array_recovery.proofs.rebuild.tiers_of.Goals as goal

pub returns-clause-bytes : goal.returns-clause-bytes
returns-clause-bytes g c = λ was bytes holds outlives.
    let made = c.in-Ok.ensures.ok c.requires.note in
    rebuilt_of (record { reports = c.restart_laws.ensures.reports; one = c.restart_laws.ensures.one; writes = c.restart_laws.ensures.writes }) was holds.state holds.matches
    (view_of g.D.Drive.units g.D.Drive.lost g.D.Drive.failures c.args.parts) outlives c.in-Ok.array made.keys made.adopted.keys_are made.flat bytes holds.shows c.in_ok-new.field-0
    (λ E shows idle. c.in_ok-new.ensures.ok E (c.in-Ok-of.ensures.flat E shows idle))

pub returns-clause-map : goal.returns-clause-map
returns-clause-map g c = λ was keys has outlives block.
    let made = c.in-Ok.ensures.ok c.requires.note in
    let same : c.in_ok-new.field-0.world.array ≡ c.in-Ok.array = ap (λ (w : WorldView). w.array) c.in_ok-new.ensures.same ∙ c.in-Ok-of.ensures.array in
    ap (λ (a : ArrayView). key_at a block) same
    ∙ keys_of_restart (record { reports = c.restart_laws.ensures.reports; one = c.restart_laws.ensures.one; writes = c.restart_laws.ensures.writes }) was has.state has.matches
    (view_of g.D.Drive.units g.D.Drive.lost g.D.Drive.failures c.args.parts) outlives c.in-Ok.array made.keys made.adopted.keys_are made.flat block
    ∙ sym (has.keys_are block)

pub returns-clause-same : goal.returns-clause-same
returns-clause-same g c =
    let made = c.in-Ok.ensures.ok c.requires.note in
    loses_more g.D.Drive.units g.D.Drive.lost g.D.Drive.failures c.args.parts made.left made.loses _
    (ap (λ (w : WorldView). w.array.parts) c.in_ok-new.ensures.same ∙ ap (λ (a : ArrayView). a.parts) c.in-Ok-of.ensures.array ∙ made.adopted.parts_are)
