use Rattle.std.proofs.Common.{◌≡◌, Some, sym, ◌∙◌, ap, subst}
use Rattle.std.specs.Prelude.{slice_get}
use Rattle.std.specs.List.{list_any}
use Rattle.std.proofs.lemmas.Option.{same_Some, slice_get-get_or}
use Rattle.extent_groups.specs.Groups.{members_of, HasMemberAt, is_extent}
use Rattle.extent_groups.proofs.Agreeing.{matches_if, matches_only}
use Rattle.extent_groups.proofs.table.GroupTable.has_owned.Goals as goal

pub returns-in-Some : goal.returns-in-Some
returns-in-Some c =
    let at : slice_get c.args.row.now c.args.extent ≡ Some (Some c.in-Some.group) = slice_get-get_or c.args.row.now c.args.extent _ c.requires ∙ ap (λ o. Some o) c.in-Some.is in
    let reported : c.matches.result ≡ list_any (is_extent c.args.drive c.args.extent) (members_of c.args.self.now c.in-Some.group) =
    c.matches.ensures ∙ ap (list_any (is_extent c.args.drive c.args.extent)) c.members.ensures.members in (
      λ h g there. subst (λ k. HasMemberAt (members_of c.args.self.now k) c.args.drive c.args.extent) (same_Some _ _ (same_Some _ _ (sym at ∙ there))) (matches_if _ _ _ (sym reported ∙ h)),
      λ all. reported ∙ matches_only _ _ _ (all c.in-Some.group at),
    )
