-- What is kept next to a world stays correct where a group's member goes onto another extent: no slot changes its class, no
-- record and no holder changes.
use Rattle.std.proofs.Common.{◌≡◌, ◌≢◌, ◌⊎◌, inl, inr, ℕ, ◌/◌, ◌%◌, ◌<◌, Bool, List, refl, sym, ap, ◌∙◌, subst, Option, Some, None}
use Rattle.std.specs.Prelude.{slice_get}
use Rattle.std.proofs.lemmas.Bool.{cases_eq}
use Rattle.std.proofs.lemmas.List.{length-set}
use Rattle.map_join.specs.declared.records.Record.{Record}
use Rattle.map_join.specs.Record.{record_at}
use Rattle.map_join.specs.Maps.{IsMapOf}
use Rattle.extent_groups.specs.declared.class.Class.{Class}
use Rattle.extent_groups.specs.declared.class.Class.TheVariants.{Mirrored, Parity}
use Rattle.extent_groups.specs.declared.class.Member.{Member}
use Rattle.extent_groups.specs.Geometry.{slot_count}
use Rattle.extent_groups.specs.Groups.{Group, Groups, group_at, members_of, class_in, slots_in, with_group, with_member, swapped_in}
use Rattle.extent_groups.specs.Stores.{IsSlotOf}
use Rattle.extent_groups.proofs.GroupsLemmas.{group_same, group_other}
use Rattle.flat_machine.specs.Flat.{Flat}
use Rattle.flat_machine.specs.Moves.{moved_to}
use Rattle.flat_machine.specs.Steps as step
use Rattle.flat_machine.specs.Steps.{FlatAnswer}
use Rattle.flat_machine.specs.Cases.{Leaves, MoveCase}
use Rattle.flat_machine.proofs.Newest.{same_map}
use Rattle.flat_machine.proofs.Regroups.{element, group_of_member}
use Rattle.flat_machine.proofs.Unmakes.{number_within}
use Rattle.slot_tables.specs.Represents.{Represents}
use Rattle.slot_tables.specs.Views.{WorldView, key_at}
use Rattle.migrator.specs.Slots.{class_of_record}
use Rattle.step_core.proofs.Worlds.{refused_leaves}
use Rattle.tiered_array.specs.Marking.{AreMarked}
use Rattle.tiered_array.specs.Matches.{RepresentsTiers}
use Rattle.tiered_array.specs.Tiered.{Tiered}
use Rattle.tiered_array.specs.Views.{TiersView}
use Rattle.tiered_array.proofs.Standing.{matches_left}

-- no group changes its class or its number of slots
module _ (groups : Groups) (g k : ℕ) (to : Member) (some : slice_get (members_of groups g) k ≢ None) where
  abbrev now : Groups
  now = with_group groups g (swapped_in (group_at groups g) k to)

  abbrev found : (group : Group) × (group_at groups g ≡ Some group) × (slice_get group.members k ≡ Some (element (members_of groups g) k some).0)
  found = group_of_member (group_at groups g) k (element (members_of groups g) k some).0 (element (members_of groups g) k some).1

  here : group_at now g ≡ Some (with_member found.0 k to)
  here = group_same groups g (swapped_in (group_at groups g) k to) (number_within groups g (λ none. let bad : Some found.0 ≡ None = sym found.1 ∙ none in cc))
      ∙ ap (λ o. swapped_in o k to) found.1

  still : {X : Type 0} (f : Option Group → X) → f (Some (with_member found.0 k to)) ≡ f (Some found.0) → (h : ℕ) → f (group_at now h) ≡ f (group_at groups h)
  still f same h = go (cases_eq h g)
    where
      go : (h ≡ g) ⊎ (h ≡ g → ⊥) → f (group_at now h) ≡ f (group_at groups h)
      go (inl e) = ap (λ i. f (group_at now i)) e ∙ ap f here ∙ same ∙ sym (ap (λ i. f (group_at groups i)) e ∙ ap f found.1)
      go (inr ne) = ap f (group_other groups g h (swapped_in (group_at groups g) k to) ne)

  pub class_still : (h : ℕ) → class_in (group_at now h) ≡ class_in (group_at groups h)
  class_still h = still class_in refl h

  pub slots_still : (h : ℕ) → slots_in groups.segments (group_at now h) ≡ slots_in groups.segments (group_at groups h)
  slots_still h = still (slots_in groups.segments) (ap (λ n. slot_count found.0.class n groups.segments) (length-set found.0.members k to)) h

  pub slot_was : (class : Class) (s : ℕ) → IsSlotOf class now s → IsSlotOf class groups s
  slot_was class s is = record { made = sym (class_still (s / 128)) ∙ is.made; below = subst (λ n. s % 128 < n) (slots_still (s / 128)) is.below }

  pub mirrored_still : (o : Option Record) → class_of_record now o ≡ class_of_record groups o
  mirrored_still None = refl
  mirrored_still (Some r) = class_still (r.place / 128)

marked_moved : (F G : Flat) (M N : ℕ → ℕ) (marks : List Bool) (g k : ℕ) (to : Member) → slice_get (members_of F.groups g) k ≢ None
    → G.groups ≡ with_group F.groups g (swapped_in (group_at F.groups g) k to) → M ≡ N → AreMarked marks F.groups M → AreMarked marks G.groups N
marked_moved F G M N marks g k to some groups keys marked = subst (λ z. AreMarked marks z N) (sym groups)
    (subst (AreMarked marks (with_group F.groups g (swapped_in (group_at F.groups g) k to))) keys
    (λ b. (
      λ is. mirrored_still F.groups g k to some (record_at b (M b)) ∙ (marked b).0 is,
      λ is. (marked b).1 (sym (mirrored_still F.groups g k to some (record_at b (M b))) ∙ is),
    )))

-- after a move
matches_moved : (t : TiersView) (v : WorldView) (T : Tiered) (G : Flat) (g k : ℕ) (to : Member) → RepresentsTiers t T → Represents v G → slice_get (members_of T.flat.groups g) k ≢ None
    → Leaves (moved_to T.flat g k to) G → RepresentsTiers (record t { world = v }) (record T { flat = G })
matches_moved t v T G g k to matches rep some leaves =
    let groups : G.groups ≡ with_group T.flat.groups g (swapped_in (group_at T.flat.groups g) k to) = ap (λ (x : Flat). x.groups) leaves.same in
    let blocks : G.groups.blocks ≡ T.flat.groups.blocks = ap (λ (z : Groups). z.blocks) groups in
    let emitted : G.emitted ≡ T.flat.emitted = ap (λ (x : Flat). x.emitted) leaves.same in record {
      world = rep;
      order = matches.order;
      long = matches.long ∙ sym blocks;
      each = λ b low. matches.each b (subst (λ n. b < n) blocks low);
      end = matches.end;
      marked = matches.marked ∙ sym blocks;
      marks = marked_moved T.flat G (key_at t.world.array) (key_at v.array) t.planner.ages.marks g k to some groups
          (same_map T.flat.emitted (key_at t.world.array) (key_at v.array) matches.world.array.history.map (subst (λ rs. IsMapOf rs (key_at v.array)) emitted rep.array.history.map)) matches.marks;
      hints = λ s free. matches.hints s (
        slot_was T.flat.groups g k to some Mirrored s (subst (λ z. IsSlotOf Mirrored z s) groups free.0),
        λ h. sym (ap (λ (x : Flat). x.held s h) leaves.same) ∙ free.1 h,
      );
      holes = λ s free. matches.holes s (
        slot_was T.flat.groups g k to some Parity s (subst (λ z. IsSlotOf Parity z s) groups free.0),
        λ h. sym (ap (λ (x : Flat). x.held s h) leaves.same) ∙ free.1 h,
      );
    }

-- after a move, or one that was refused
pub matches_shifted : (t : TiersView) (v : WorldView) (T : Tiered) (G : Flat) (g k : ℕ) (to : Member) (answer : FlatAnswer) → RepresentsTiers t T → Represents v G
    → MoveCase T.flat g k to answer G → RepresentsTiers (record t { world = v }) (record T { flat = G })
matches_shifted t v T G g k to step.MovedExtent matches rep case = matches_moved t v T G g k to matches rep case.0.0.0 case.3
matches_shifted t v T G g k to (step.Refused r) matches rep case = matches_left t v T G matches rep (refused_leaves T.flat G (step.MoveExtent g k to) r case)
matches_shifted t v T G g k to _ matches rep case = absurd case
