use Rattle.std.proofs.Common.{ℕ, nat_le, codes, refl, sym, ap, subst, ◌∙◌, rules, Some}
use Rattle.extents.specs.Failures.{no_failures}
use Rattle.extent_groups.specs.Groups.{Groups}
use Rattle.flat_machine.specs.Flat.{new_flat}
use Rattle.tiered_array.specs.Tiered.{begun}
use Rattle.tiered_array.specs.Matches.{RepresentsTiers}
use Rattle.tiered_array.specs.Views.{TiersView}
use Rattle.script_exec.specs.State.{State, nothing_taken}
use Rattle.script_exec.proofs.replies.begin.Goals as goal

-- the state of a new array
abbrev begun_state : Groups → ℕ → State
begun_state groups drives = Some (record { tiers = begun (new_flat groups drives (nat_le drives) (λ _. no_failures)); taken = nothing_taken })

pub returns-clause-replied : goal.returns-clause-replied
returns-clause-replied c =
    let some = c.in-Some.ensures.some in
    let sizes = c.in-Ok.ensures.sizes in
    let groups = c.in-Ok.world.array.parts.groups in
    record {
      due = refl;
      range = record { within = search rules; fit = some.2 };
      carried = record {
        text = codes "array";
        next = begun_state groups c.in-Some.drives;
        answers = record {
          groups = groups;
          none = record {
            of_extents = sym sizes.of_extents ∙ some.1.of_extents;
            of_segments = sym sizes.of_segments ∙ some.1.of_segments;
            of_payload = sym sizes.of_payload ∙ some.1.of_payload;
            of_blocks = sym sizes.of_blocks ∙ some.1.of_blocks;
            empty = c.in-Ok.ensures.empty;
          };
          text_is = refl;
          state_is = ap (begun_state groups) some.0;
        };
        matches = record {
          tiers = subst (λ (t : TiersView). RepresentsTiers t (begun (new_flat groups c.in-Some.drives (nat_le c.in-Some.drives) (λ _. no_failures)))) (sym c.new-3.ensures.tiers)
              (c.in_ok-tiers.ensures.ok _ c.in-Ok.ensures.ok);
          maps = c.new-3.ensures.maps;
        };
        out = c.in_ok-put.ensures.reported;
      };
    }
