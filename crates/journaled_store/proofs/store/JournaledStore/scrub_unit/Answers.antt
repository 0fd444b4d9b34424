use Rattle.std.proofs.Common.{length, ◌≡◌, refl, sym, ◌∙◌, subst, inl, inr}
use Rattle.journaled_store.specs.Keeping.{Whole, as_whole}
use Rattle.vault.specs.Images.{Image}
use Rattle.journaled_store.specs.declared.position.ScrubPosition.{ScrubPosition}
use Rattle.journaled_store.specs.Scrubbing.{IsHeldAt, IsNextPosition, IsPending, place_at_position}
use Rattle.journaled_store.proofs.Keeping.{kept_more}
use Rattle.journaled_store.proofs.store.JournaledStore.scrub_unit.Goals as goal

pub returns-in-Err-clause-kept : goal.returns-in-Err-clause-kept
returns-in-Err-clause-kept g c =
    c.check.ensures.kept

pub returns-in-Err-clause-moves : goal.returns-in-Err-clause-moves
returns-in-Err-clause-moves g c =
    inr (tt, refl, refl)

pub returns-clause-kept : goal.returns-clause-kept
returns-clause-kept g c =
    let v = g.V.Vault in
    kept_more v.known v.seen v.may_leave v.moment v.left_since g.met.V.Vault.counts_now g.met.V.Vault.only_now (as_whole c.args.self.now) (as_whole c.check.new.self) (as_whole c.finish-done.new.self) c.check.ensures.kept c.finish-done.ensures.kept

pub returns-clause-moves : goal.returns-clause-moves
returns-clause-moves g c =
    let drives = c.args.self.now.store.tiers.world.array.parts.drives in
    let at = c.args.self.now.scrub.position in
    let step = c.in-Ok.checked.step in
    inl (step.ends, subst (λ (q : ScrubPosition). IsNextPosition drives at q step.ends) (sym c.after-self.ensures.position) c.in-Ok.ensures.next, c.after-self.ensures.rounds)

pub returns-clause-same : goal.returns-clause-same
returns-clause-same g c known is =
    let v = g.V.Vault in
    let at = c.args.self.now.scrub.position in
    let s = c.finish-done.ensures.same is in
    subst (λ (w : Whole _). IsHeldAt (v.attested w.vault) (Image.cells (v.seen w.vault)) w.store.tiers.world.array.parts.drives at) (sym s.1) (c.in-Ok.ensures.same known s.0)

pub returns-clause-repaired : goal.returns-clause-repaired
returns-clause-repaired g c known is =
    c.finish-done.ensures.repaired (c.check.ensures.kept.stays known) is

pub returns-clause-waits : goal.returns-clause-waits
returns-clause-waits g c known is =
    let v = g.V.Vault in
    let at = c.args.self.now.scrub.position in
    let s = c.finish-done.ensures.waits is in
    subst (λ (w : Whole _). v.attested w.vault (place_at_position at) × IsPending (length (Image.journal (v.seen w.vault))) (length w.batch)) (sym s.1) (c.in-Ok.ensures.waits known s.0)
