use Rattle.std.proofs.Common.{◌≡◌, ◌<◌, ◌+◌, ◌++◌, ◌∷◌, [], List, Bool, length, arith, slice_set, ap, sym, subst, ◌∙◌}
use Rattle.history.specs.Entries.{Course, entry}
use Rattle.cached_drive.specs.Saving.{Units, Brings, saved_by}
use Rattle.journaled_store.specs.Steps.{LeadsTo, views_to}
use Rattle.journaled_store.specs.Picking.{Picks, IsLookupOf}
use Rattle.journaled_store.specs.declared.lookup.Lookup.{Lookup}
use Rattle.journaled_store.proofs.Leading.{leads_by, seen, seen_more}
use Rattle.journaled_store.proofs.Picking.{picks_by}
use Rattle.journaled_store.proofs.changes.ChangesVisitCachedDrive.visit.Goals as goal

pub returns-in-Ok-clause-leads : goal.returns-in-Ok-clause-leads
returns-in-Ok-clause-leads g c =
    let me = c.args.self.now in
    let drive = c.args.drive.now in
    let own : drive.hand.number ≡ me.next = sym c.number.ensures ∙ c.if-number-from.false ∙ c.from-else-from-ge-DRIVES.ensures in
    let low : me.next < 16 = omega (arith, c.if-from-ge-DRIVES.false, c.from.ensures) in
    let e = c.in-Ok.ensures in
    let now : c.save.new.keeper ≡ record { hired = me.keeper.hired; log = me.keeper.log ++ entry me.next drive.cache.units ∷ [] } =
    e.saved ∙ ap (λ n. let k : Course Units = record { hired = me.keeper.hired; log = me.keeper.log ++ entry n drive.cache.units ∷ [] } in k) own in
    let log : c.save.new.keeper.log ≡ me.keeper.log ++ entry me.next drive.cache.units ∷ [] = ap (λ (k : Course Units). k.log) now in
    let leads : LeadsTo me.keeper me.batch me.noted c.save.new.keeper c.save.new.batch me.noted =
    leads_by me.keeper c.save.new.keeper me.noted me.batch c.save.new.batch e.brings.0 me.next drive.cache.units low
    (subst (λ n. n < me.keeper.hired) own e.below) now
    e.brings.1 (subst (λ n. Brings me.next (saved_by n me.keeper.log) drive.cache.units e.brings.0) own e.brings.2) in
    let looked = c.look.ensures in
    let picks : Picks me.next me.keeper.log me.lookup (me.next + 1) c.save.new.keeper.log c.look.new.lookup =
    picks_by me.next me.keeper.log c.save.new.keeper.log me.lookup c.look.new.lookup drive.cache.units log looked.place
    (λ same. subst (λ us. IsLookupOf us c.look.new.lookup) e.units (looked.own same)) looked.other in
    (leads, picks)

pub returns-in-Ok-clause-shown : goal.returns-in-Ok-clause-shown
returns-in-Ok-clause-shown g c _ =
    let me = c.args.self.now in
    let drive = c.args.drive.now in
    let own : drive.hand.number ≡ me.next = sym c.number.ensures ∙ c.if-number-from.false ∙ c.from-else-from-ge-DRIVES.ensures in
    let low : me.next < length me.lost = omega (arith, c.if-from-ge-DRIVES.false, c.from.ensures, c.mark.ensures.long) in
    let e = c.in-Ok.ensures in
    let log : c.save.new.keeper.log ≡ me.keeper.log ++ entry me.next drive.cache.units ∷ [] =
    ap (λ (k : Course Units). k.log) e.saved ∙ ap (λ n. me.keeper.log ++ entry n drive.cache.units ∷ []) own in
    let gone : c.is_lost.result ≡ drive.lost = c.is_lost.ensures ∙ c.doom_failed.ensures.lost ∙ c.look.ensures.lost ∙ e.lost in
    subst (λ (l : List Bool). views_to c.save.new.keeper.log l (me.next + 1) ≡ views_to me.keeper.log me.lost me.next ++ seen drive.cache.units drive.lost ∷ [])
    (sym (c.mark.ensures.marked ∙ ap (λ b. slice_set me.lost me.next b) gone))
    (seen_more me.next me.keeper.log c.save.new.keeper.log drive.cache.units me.lost drive.lost low log)
