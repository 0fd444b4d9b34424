use Rattle.std.proofs.Common.{◌≡◌, ◌∙◌, ◌*◌, ap, sym, subst, None, length, vec_len}
use Rattle.extent_groups.specs.Groups.{Groups, group_at, swapped_in}
use Rattle.extent_groups.specs.Stores.{unit_bytes}
use Rattle.flat_machine.specs.Moves.{IsMoveReason}
use Rattle.unit_store.proofs.Views.{view_drives}
use Rattle.unit_store.specs.Views.{view_of}
use Rattle.slot_tables.specs.Views.{ArrayView, IsWhole}
use Rattle.slot_tables.proofs.Regroups.{moved_whole}
use Rattle.disk_array.specs.Inside.{seen}
use Rattle.slot_tables.specs.Kept.{HavePlaces}
use Rattle.slot_tables.proofs.Placing.{made_of_member, placed_with}
use Rattle.disk_array.proofs.Ready.{length_again, loses_keeps, still_whole}
use Rattle.disk_array.proofs.Regrouping.{either_on}
use Rattle.disk_array.proofs.array.Array.shift.Goals as goal

pub invariant_of-self : goal.invariant_of-self
invariant_of-self g c =
    let d = g.D.Drive in
    let now = seen d.units d.lost d.failures c.self.inside in
    let a = now.parts in
    let b = view_of d.units d.lost d.failures c.shift.new.self in
    let ready = c.self.invariant.2 in
    let fit = c.shift.ensures.fit in
    let reason = subst (λ (v : ArrayView). IsMoveReason v.parts.groups (length v.parts.drives) c.args.group c.args.member c.args.to None) (sym c.self.view_is) c.requires.reason in
    let bytes : unit_bytes a.groups ≡ unit_bytes b.groups =
    either_on {P = unit_bytes a.groups ≡ unit_bytes b.groups} c.shift.result (λ e. ap (λ (z : Groups). unit_bytes z) (sym e.groups))
    (λ q e. ap (λ (z : Groups). unit_bytes z) (sym e.loses.rest.groups)) c.shift.ensures.ok c.shift.ensures.err
    in
    let enough = ready.places.made c.args.group (made_of_member a.groups c.args.group c.args.member reason.0) in
    let have : HavePlaces b.groups (vec_len c.self.inside.places) =
    either_on {P = HavePlaces b.groups (vec_len c.self.inside.places)} c.shift.result
    (λ e. subst (λ (z : Groups). HavePlaces z (vec_len c.self.inside.places)) (sym e.groups)
    (placed_with a.groups c.args.group (vec_len c.self.inside.places) (swapped_in (group_at a.groups c.args.group) c.args.member c.args.to) enough ready.places))
    (λ q e. subst (λ (z : Groups). HavePlaces z (vec_len c.self.inside.places)) (sym e.loses.rest.groups) ready.places) c.shift.ensures.ok c.shift.ensures.err
    in (
      either_on {P = IsWhole (record now { parts = b })} c.shift.result
          (λ e. moved_whole now b c.args.group c.args.member c.args.to reason e c.self.invariant.0 (view_drives d.units d.lost d.failures c.shift.new.self fit.drives))
          (λ q e. still_whole d.units d.lost d.failures c.self.inside c.shift.new.self (loses_keeps a b e.loses) fit c.self.invariant.0)
          c.shift.ensures.ok c.shift.ensures.err,
      c.self.invariant.1,
      record {
        fit = fit;
        unit = length_again c.self.inside.unit c.shift.new.unit ∙ ready.unit ∙ bytes;
        scratch = length_again c.self.inside.scratch c.shift.new.scratch ∙ ready.scratch ∙ ap (λ n. 2 * n) bytes;
        places = have;
        live = ready.live;
      },
    )
