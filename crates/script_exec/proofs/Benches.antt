-- The four maps are those of the records that they took.
use Rattle.std.proofs.Common.{◌≡◌, ◌≢◌, ℕ, ◌<◌, List, ◌++◌, length, sym, ap, ◌∙◌, arith, ◌⊎◌, inl, inr, slice_index_or, Result, Ok, Err}
use Rattle.std.specs.Prelude.{OnOk}
use Rattle.map_join.specs.declared.block_map.MapRefusal.{MapRefusal}
use Rattle.std.proofs.Math.ListN.{set}
use Rattle.std.proofs.lemmas.Bool.{cases_eq}
use Rattle.std.proofs.lemmas.Bool.Decides.{nat_tests}
use Rattle.std.proofs.lemmas.List.{get_or-set_same, get_or-set_other, set-set}
use Rattle.map_join.specs.declared.records.Record.{Record}
use Rattle.map_join.specs.Maps.{Entries, at, IsMapOf}
use Rattle.flat_machine.specs.Flat.{put}
use Rattle.script_exec.specs.Carrying.{AreMapsOf, IsMap}

-- a table with one more entry has it there, and the others elsewhere
pub put_here : {X : Type 0} (f : ℕ → X) (place : ℕ) (x : X) → put f place x place ≡ x
put_here f place x = grind (arith, nat_tests)

pub put_else : {X : Type 0} (f : ℕ → X) (place : ℕ) (x : X) (other : ℕ) → other ≢ place → put f place x other ≡ f other
put_else f place x other ne = grind (arith, nat_tests)

-- one of the maps was replaced
pub one_grown : (maps : List Entries) (taken : ℕ → List Record) (map : ℕ) (grown : Entries) (records : List Record) → length maps ≡ 4
    → IsMap map → AreMapsOf maps taken → IsMapOf records (at grown) → AreMapsOf (set maps map grown) (put taken map records)
one_grown maps taken map grown records four is_map were now other d below = go (cases_eq other map)
  where
    go : (other ≡ map) ⊎ (other ≡ map → ⊥) → IsMapOf (put taken map records other) (at (slice_index_or (set maps map grown) other d))
    go (inl same) =
        let inside : map < length maps = omega arith in
        let there : slice_index_or (set maps map grown) other d ≡ grown =
        ap (λ (k : ℕ). slice_index_or (set maps map grown) k d) same ∙ get_or-set_same maps map grown d inside in
        let took : put taken map records other ≡ records = ap (put taken map records) same ∙ put_here taken map records in
        rw (there, took) now
    go (inr ne) =
        let there : slice_index_or (set maps map grown) other d ≡ slice_index_or maps other d = get_or-set_other maps map other grown d ne in
        let took : put taken map records other ≡ taken other = put_else taken map records other ne in
        rw (there, took) (were other d below)

-- one of the maps joined with another, while an empty one is in its place
pub joined_maps : (result : Result (Unit {0}) MapRefusal) (maps : List Entries) (into from : ℕ) (empty was grown d e : Entries)
    → length maps ≡ 4 → IsMap into → IsMap from → (into ≡ from → ⊥) → was ≡ slice_index_or maps into d
    → OnOk result ((ours theirs : List Record) → IsMapOf ours (at was) → IsMapOf theirs (at (slice_index_or (set maps into empty) from e))
    → IsMapOf (ours ++ theirs) (at grown))
    → OnOk result ((taken : ℕ → List Record) → AreMapsOf maps taken
    → AreMapsOf (set (set maps into empty) into grown) (put taken into (taken into ++ taken from)))
joined_maps (Err _) maps into from empty was grown d e four is_into is_from apart was_is joins = tt
joined_maps (Ok _) maps into from empty was grown d e four is_into is_from apart was_is joins =
    λ taken were.
    let ours : IsMapOf (taken into) (at was) = rw was_is (were into d (omega arith)) in
    let theirs : IsMapOf (taken from) (at (slice_index_or (set maps into empty) from e)) =
    rw (get_or-set_other maps into from empty e (λ same. apart (sym same))) (were from e (omega arith)) in
    rw set-set (one_grown maps taken into grown (taken into ++ taken from) four is_into were (joins (taken into) (taken from) ours theirs))
