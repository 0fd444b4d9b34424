-- A loop of moves by the plan ends: each lowers the sum of the squares of the loads.
use Rattle.std.proofs.Common.{◌≡◌, ℕ, ◌+◌, ◌*◌, ◌≤◌, Some, None, sym, ap, ◌∙◌, subst, arith}
use Rattle.extents.specs.Owners.{Owners}
use Rattle.extent_groups.specs.Groups.{Groups, Agree, swapped_in, group_at, with_group}
use Rattle.flat_machine.specs.Cases.{Case}
use Rattle.flat_machine.specs.Flat.{Flat}
use Rattle.flat_machine.specs.History.{IsHistory}
use Rattle.flat_machine.specs.Steps.{MoveExtent, MovedExtent}
use Rattle.rebalancer.specs.declared.shift.Shift.{Shift}
use Rattle.rebalancer.specs.Balancing.{sum_of_squares}
use Rattle.slot_tables.specs.Views.{key_at}
use Rattle.flat_machine.specs.declared.refusal.Refusal.{Refusal}
use Rattle.tiered_array.specs.Matches.{RepresentsTiers}
use Rattle.tiered_array.specs.Regrouping.{AreOwners, IsBalanceOf, BalanceCase}
use Rattle.tiered_array.specs.Tiered.{Tiered}
use Rattle.tiered_array.specs.Views.{TiersView}
use Rattle.tiered_array.specs.declared.regrouped.Regrouped.{Regrouped}
use Rattle.tiered_array.specs.declared.regrouped.Regrouped.TheVariants.{Moved, Refused, Nothing}
use Rattle.array_expansion.specs.Expansion.{IsSpread}
use Rattle.array_expansion.proofs.Loads.{squares_fall, squares_most, squares_some}
use Rattle.array_expansion.proofs.Spreading.{spread_itself, spread_more, moved_spread}

-- the sum fell by two a move from what it is at most
pub record HasFallen (F : Flat) (moves : ℕ) : Type 0 where
  pub spent : 2 * moves ≤ 4194304
  pub left : (o : Owners) → AreOwners F o → sum_of_squares o + 2 * moves ≤ 4194304

not_fallen : (F : Flat) (keys : ℕ → ℕ) → IsHistory F keys → HasFallen F 0
not_fallen F keys is = record {
  spent = omega arith;
  left = λ o are.
      let many = is.limits.most in
      let narrow = is.limits.sizes.some_extents.1 in
      let most = squares_most o are.agree.wide (omega (arith, are.rows, many)) (omega (arith, are.wide, narrow)) in
      omega (arith, most);
}

has_fallen : (F G : Flat) (keys : ℕ → ℕ) (moves : ℕ) (s : Shift) → IsHistory F keys → HasFallen F moves → IsBalanceOf F (Some s)
    → Case F (MoveExtent s.group s.member s.to) MovedExtent G → HasFallen G (moves + 1)
has_fallen F G keys moves s is fallen plan case =
    let owners = plan.owners in
    let are = plan.owners_are in
    let groups : G.groups ≡ with_group F.groups s.group (swapped_in (group_at F.groups s.group) s.member s.to) = ap (λ (z : Flat). z.groups) case.3.same in
    let drives : G.drives ≡ F.drives = ap (λ (z : Flat). z.drives) case.3.same in
    let pair = plan.is.1.allowed.drives in
    let uneven = pair.uneven in
    let some = squares_some owners plan.is.0 pair.giver.there.within (omega (arith, uneven)) in
    let before = fallen.left owners are in
    record {
      spent = omega (arith, some, before);
      left = λ after now.
          let falls = squares_fall F.groups owners after F.drives plan.lost s is.groups case.0.0 are.agree are.rows are.wide plan.is
          (subst (λ (t : Groups). Agree t after) groups now.agree) (now.rows ∙ drives) (now.wide ∙ ap (λ (t : Groups). t.extents) groups) in
          omega (arith, falls, before);
    }

-- after so many moves the array represents a state that is spread from the one before them
pub record IsSpreadBy (tiers : TiersView) (T : Tiered) (moves : ℕ) : Type 0 where
  pub flat : Flat
  pub matches : RepresentsTiers tiers (record T { flat = flat })
  pub spread : IsSpread T.flat flat
  pub fallen : HasFallen flat moves

pub no_move : (tiers : TiersView) (T : Tiered) → RepresentsTiers tiers T → IsSpreadBy tiers T 0
no_move tiers T matches = record {
  flat = T.flat;
  matches = matches;
  spread = spread_itself T.flat;
  fallen = not_fallen T.flat (key_at tiers.world.array) matches.world.array.history;
}

-- what a call of `balance` does
abbrev pub Balances : TiersView → TiersView → Regrouped → Type 0
Balances old new outcome =
    (T : Tiered) → RepresentsTiers old T → (G : Flat) × BalanceCase T.flat outcome G × RepresentsTiers new (record T { flat = G })

pub one_move : (old new : TiersView) (T : Tiered) (moves : ℕ) (s : Shift) → Balances old new (Moved s) → IsSpreadBy old T moves → IsSpreadBy new T (moves + 1)
one_move old new T moves s does by =
    let done = does (record T { flat = by.flat }) by.matches in
    let case = done.1 in
    record {
      flat = done.0;
      matches = done.2;
      spread = spread_more T.flat by.flat done.0 by.spread (moved_spread by.flat done.0 case.0.group case.0.member case.0.to case.2.1.3);
      fallen = has_fallen by.flat done.0 (key_at old.world.array) moves case.0 by.matches.world.array.history by.fallen case.1 case.2.1;
    }

-- there is nothing more to move
pub all_moved : (old new : TiersView) (T : Tiered) (moves : ℕ) → Balances old new Nothing → IsSpreadBy old T moves
    → (G : Flat) × RepresentsTiers new (record T { flat = G }) × IsSpread T.flat G × IsBalanceOf G None
all_moved old new T moves does by =
    let done = does (record T { flat = by.flat }) by.matches in
    let same = sym done.1.1 in
    (done.0, done.2, subst (λ (F : Flat). IsSpread T.flat F) same by.spread, subst (λ (F : Flat). IsBalanceOf F None) same done.1.0)

-- the next move is refused
pub move_refused : (old new : TiersView) (T : Tiered) (moves : ℕ) (r : Refusal) → Balances old new (Refused r) → IsSpreadBy old T moves
    → (G : Flat) × RepresentsTiers new (record T { flat = G }) × ((M : Flat) × IsSpread T.flat M × BalanceCase M (Refused r) G)
move_refused old new T moves r does by =
    let done = does (record T { flat = by.flat }) by.matches in
    (done.0, done.2, (by.flat, by.spread, done.1))
