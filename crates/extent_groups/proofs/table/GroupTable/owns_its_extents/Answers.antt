use Rattle.std.proofs.Common.{◌≡◌, true, false, inl, inr, refl, sym, subst, arith}
use Rattle.std.proofs.lemmas.Bool.{cases_lt}
use Rattle.extent_groups.specs.Groups.{AreOwned}
use Rattle.extent_groups.proofs.Agreeing.{owned_past}
use Rattle.extent_groups.proofs.table.GroupTable.owns_its_extents.Goals as goal

pub returns-then-not-are_owned : goal.returns-then-not-are_owned
returns-then-not-are_owned c = (
  λ h. absurd (let both : false ≡ true = h in cc),
  λ all. c.if-not-are_owned.ensures.1 (subst (λ ms. AreOwned c.args.extents.now ms c.loop-group.group) (sym c.members.ensures.members) (all c.loop-group.group)),
)

pub returns : goal.returns
returns c = (
  λ _ g. elim (cases_lt g 512) [
    | inl low ↦ c.loop-group.invariant g (omega (arith, low, c.loop-group-test.false))
    | inr past ↦ owned_past c.args.self.now c.args.extents.now g c.members-members.ensures.groups past
  ],
  λ _. refl,
)
