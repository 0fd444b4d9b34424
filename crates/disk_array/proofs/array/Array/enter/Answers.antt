use Rattle.std.proofs.Common.{◌∙◌, ap, get_or, sym, subst, vec_len, None}
use Rattle.extent_groups.specs.Groups.{Groups}
use Rattle.extent_groups.specs.Stores.{unit_bytes}
use Rattle.flat_machine.specs.Groups.{IsLowestFree}
use Rattle.unit_store.proofs.Views.{view_drives}
use Rattle.unit_store.specs.Views.{view_of}
use Rattle.slot_tables.specs.Changes.{IsOpened, opened_view}
use Rattle.slot_tables.specs.Making.{IsMakeReason}
use Rattle.slot_tables.specs.Views.{ArrayView, Nothing}
use Rattle.slot_tables.proofs.Fills.{as_whole}
use Rattle.slot_tables.proofs.Makings.{entered_whole}
use Rattle.disk_array.specs.Inside.{seen}
use Rattle.slot_tables.specs.Kept.{HavePlaces}
use Rattle.slot_tables.specs.Kept.{kepts_of}
use Rattle.slot_tables.specs.Counted.{AreCounts}
use Rattle.slot_tables.specs.Shut.{AreShutOf, shut_of}
use Rattle.slot_tables.proofs.Counts.{counts_opened}
use Rattle.slot_tables.proofs.Placing.{placed_longer, placed_with}
use Rattle.disk_array.proofs.Ready.{as_many, loses_keeps, still_whole, grown_ready}
use Rattle.disk_array.proofs.array.Array.enter.Goals as goal

pub invariant_of-self-in-Ok-enter : goal.invariant_of-self-in-Ok-enter
invariant_of-self-in-Ok-enter g c =
    let d = g.D.Drive in
    let now = seen d.units d.lost d.failures c.self.inside in
    let b = view_of d.units d.lost d.failures c.enter.new.self in
    let opened = subst (λ k. IsOpened c.args.number k (kepts_of c.open_number.new.places.items)) c.grow_to.ensures.kept c.open_number.ensures.opened in
    let longer = placed_longer c.self.inside.parts.groups (vec_len c.self.inside.places) (vec_len c.grow_to.new.places) c.grow_to.ensures.longer c.grow_to.ensures.most c.self.invariant.2.places in
    let have = as_many _ _ _ c.open_number.ensures.room (subst (λ (z : Groups). HavePlaces z (vec_len c.grow_to.new.places)) (sym c.in-Ok-enter.ensures.ok.groups)
    (placed_with c.self.inside.parts.groups c.args.number (vec_len c.grow_to.new.places) _ c.in-Ok.ensures.ok longer)) in
    let lowest = subst (λ (v : ArrayView). IsLowestFree v.parts.groups c.args.number) (sym c.self.view_is) c.requires.free in
    let reason = subst (λ (v : ArrayView). IsMakeReason v c.args.members.items None) (sym c.self.view_is) c.requires.reason in (
      entered_whole now b (kepts_of c.open_number.new.places.items) c.args.number c.args.class c.args.members.items c.self.invariant.0 lowest reason c.in-Ok-enter.ensures.ok opened
          (view_drives d.units d.lost d.failures c.enter.new.self c.enter.ensures.fit.drives),
      c.open_number.ensures.of,
      grown_ready d.units c.self.inside c.enter.new.self c.open_number.new.places c.enter.new.unit (ap (λ (z : Groups). unit_bytes z) (sym c.in-Ok-enter.ensures.ok.groups)) have c.enter.ensures.fit
          (counts_opened c.args.number now.kept (kepts_of c.open_number.new.places.items) c.self.inside.live opened c.self.invariant.2.live) c.self.invariant.2,
    )

pub invariant_of-self-in-Err : goal.invariant_of-self-in-Err
invariant_of-self-in-Err g c =
    let d = g.D.Drive in
    let now = seen d.units d.lost d.failures c.self.inside in
    let b = view_of d.units d.lost d.failures c.enter.new.self in
    let same = loses_keeps now.parts b c.in-Err.ensures.err.loses in
    let longer = placed_longer c.self.inside.parts.groups (vec_len c.self.inside.places) (vec_len c.grow_to.new.places) c.grow_to.ensures.longer c.grow_to.ensures.most c.self.invariant.2.places in (
      as_whole _ (record now { parts = b }) (ap (λ k. record now { parts = b; kept = k }) c.grow_to.ensures.kept)
          (still_whole d.units d.lost d.failures c.self.inside c.enter.new.self same c.enter.ensures.fit c.self.invariant.0),
      c.grow_to.ensures.claims,
      grown_ready d.units c.self.inside c.enter.new.self c.grow_to.new.places c.enter.new.unit (ap (λ (z : Groups). unit_bytes z) (sym same.tables.groups))
          (subst (λ (z : Groups). HavePlaces z (vec_len c.grow_to.new.places)) (sym same.tables.groups) longer) c.enter.ensures.fit
          (subst (λ k. AreCounts k c.self.inside.live) (sym c.grow_to.ensures.kept) c.self.invariant.2.live) c.self.invariant.2,
    )

pub returns-in-Ok-enter-clause-opened : goal.returns-in-Ok-enter-clause-opened
returns-in-Ok-enter-clause-opened g c =
    let kept = kepts_of c.open_number.new.places.items in (
      ap (λ (v : ArrayView). opened_view v (view_of g.D.Drive.units g.D.Drive.lost g.D.Drive.failures c.enter.new.self) kept) c.self.view_is,
      subst (λ (v : ArrayView). IsOpened c.args.number v.kept kept) c.self.view_is (subst (λ k. IsOpened c.args.number k kept) c.grow_to.ensures.kept c.open_number.ensures.opened),
      subst (λ (v : ArrayView). AreShutOf g.C.Hold.names v c.args.number c.open_number.new.claims.items) c.self.view_is
          (λ slot. c.open_number.ensures.taken slot ∙ ap (λ k. shut_of c.args.number slot (get_or k slot Nothing)) c.grow_to.ensures.kept),
    )
