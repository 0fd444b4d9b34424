-- Extents that move one after another.
use Rattle.std.proofs.Common.{◌≡◌, ◌⊎◌, ℕ, List, Option, Some, None, inl, inr, length, refl, sym, ap, ◌∙◌, subst}
use Rattle.std.specs.Prelude.{slice_get, unwrap_or}
use Rattle.std.proofs.lemmas.List.{length-set}
use Rattle.extent_groups.specs.declared.class.Member.{Member}
use Rattle.extent_groups.specs.Groups.{Group, Groups, class_in, group_at, members_in, swapped_in, with_group}
use Rattle.extent_groups.proofs.GroupsLemmas.{group_other}
use Rattle.extent_groups.proofs.Places.{same_or_not, written_or_not}
use Rattle.flat_machine.specs.Cases.{Leaves}
use Rattle.flat_machine.specs.Flat.{Flat}
use Rattle.flat_machine.specs.Moves.{moved_to}
use Rattle.slot_tables.proofs.Fares.{itself, leaves_more}
use Rattle.array_expansion.specs.Expansion.{SameShapes, IsSpread}

same_shapes : (t : Groups) → SameShapes t t
same_shapes t = record { extents = refl; segments = refl; payload = refl; blocks = refl; class = λ g. refl; members = λ g. refl }

more_shapes : (t u v : Groups) → SameShapes t u → SameShapes u v → SameShapes t v
more_shapes t u v one two = record {
  extents = two.extents ∙ one.extents;
  segments = two.segments ∙ one.segments;
  payload = two.payload ∙ one.payload;
  blocks = two.blocks ∙ one.blocks;
  class = λ g. two.class g ∙ one.class g;
  members = λ g. two.members g ∙ one.members g;
}

-- a group keeps its class and its number of members where one of them is another extent
class_swapped : (o : Option Group) (k : ℕ) (to : Member) → class_in (swapped_in o k to) ≡ class_in o
class_swapped None k to = refl
class_swapped (Some group) k to = refl

members_swapped : (o : Option Group) (k : ℕ) (to : Member) → length (members_in (swapped_in o k to)) ≡ length (members_in o)
members_swapped None k to = refl
members_swapped (Some group) k to = length-set group.members k to

module _ (t : Groups) (g k : ℕ) (to : Member) where
  -- each group is as it was, or is the one with another member
  group_is : (h : ℕ) → let now : Groups = with_group t g (swapped_in (group_at t g) k to) in
      (group_at now h ≡ group_at t h) ⊎ (group_at now h ≡ swapped_in (group_at t h) k to)
  group_is h = elim (same_or_not h g) [
    | inl e ↦ elim (written_or_not t.table g (swapped_in (group_at t g) k to)) [
      | inl set ↦ inr (rw e (ap (λ o. unwrap_or o None) set))
      | inr same ↦ inl (ap (λ (groups : List (Option Group)). unwrap_or (slice_get groups h) None) same)
    ]
    | inr apart ↦ inl (group_other t g h (swapped_in (group_at t g) k to) apart)
  ]

  moved_shapes : SameShapes t (with_group t g (swapped_in (group_at t g) k to))
  moved_shapes = record {
    extents = refl;
    segments = refl;
    payload = refl;
    blocks = refl;
    class = λ h. elim (group_is h) [ inl same ↦ ap class_in same | inr is ↦ ap class_in is ∙ class_swapped (group_at t h) k to ];
    members = λ h. elim (group_is h) [
      | inl same ↦ ap (λ o. length (members_in o)) same
      | inr is ↦ ap (λ o. length (members_in o)) is ∙ members_swapped (group_at t h) k to
    ];
  }

-- a state is spread as it was where drives failed, or nothing happened
pub left_spread : (F G : Flat) → Leaves F G → IsSpread F G
left_spread F G leaves =
    let same : G.groups ≡ F.groups = ap (λ (z : Flat). z.groups) leaves.same in
    record {
      groups = subst (SameShapes F.groups) (sym same) (same_shapes F.groups);
      left = record {
        same = leaves.same ∙ ap (λ (t : Groups). record F { groups = t; lost = G.lost; failures = G.failures }) (sym same);
        drives = leaves.drives;
      };
    }

pub spread_itself : (F : Flat) → IsSpread F F
spread_itself F = left_spread F F (itself F)

-- one extent moves
pub moved_spread : (F G : Flat) (g k : ℕ) (to : Member) → Leaves (moved_to F g k to) G → IsSpread F G
moved_spread F G g k to leaves =
    let same : G.groups ≡ with_group F.groups g (swapped_in (group_at F.groups g) k to) = ap (λ (z : Flat). z.groups) leaves.same in
    record {
      groups = subst (SameShapes F.groups) (sym same) (moved_shapes F.groups g k to);
      left = record {
        same = leaves.same ∙ ap (λ (t : Groups). record F { groups = t; lost = G.lost; failures = G.failures }) (sym same);
        drives = leaves.drives;
      };
    }

-- extents move, and then others
pub spread_more : (F M G : Flat) → IsSpread F M → IsSpread M G → IsSpread F G
spread_more F M G one two = record {
  groups = more_shapes F.groups M.groups G.groups one.groups two.groups;
  left = leaves_more (record F { groups = G.groups }) (record M { groups = G.groups }) G
      (record { same = ap (λ (z : Flat). record z { groups = G.groups }) one.left.same; drives = one.left.drives }) two.left;
}
