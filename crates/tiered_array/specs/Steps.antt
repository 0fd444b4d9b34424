-- What a worker does by a plan: write a block, demote the oldest, plug a hole, clean a group.
use Rattle.std.specs.Prelude.{◌≡◌, ◌⊎◌, ℕ, List, Option, Some, None}
use Rattle.map_join.specs.Maps.{IsMapOf}
use Rattle.extent_groups.specs.declared.class.Class.TheVariants.{Mirrored, Parity}
use Rattle.extent_groups.specs.Stores.{IsSlotOf}
use Rattle.flat_machine.specs.Flat.{Flat, Content, Waiting, IsUnheld}
use Rattle.flat_machine.specs.Flat as f
use Rattle.flat_machine.specs.Steps.{FlatStep, FlatAnswer, Committed}
use Rattle.flat_machine.specs.Steps as step
use Rattle.flat_machine.specs.Cases.{Case}
use Rattle.migrator.specs.Ages.{written, IsOldest}
use Rattle.migrator.specs.Slots.{End, end_at, IsMirrored}
use Rattle.migrator.specs.First.{IsFirst, IsFirstAppend}
use Rattle.cleaner.specs.declared.moves.Move.{Move}
use Rattle.cleaner.specs.Plans.{IsPlugPlan, IsCleanPlan}
use Rattle.tiered_array.specs.Tiered.{Tiered}
use Rattle.tiered_array.specs.Placing.{Put, Fresh, Again, PlaceCase, PlaceStops}
use Rattle.tiered_array.specs.declared.outcome.Outcome.{Outcome}
use Rattle.tiered_array.specs.declared.outcome.Outcome.TheVariants.{Placed, NoRoom, Nothing}

-- a step, with its worker; a write also has the block and its content
pub data TierStep : Type 0 where
  Write : ℕ → ℕ → Content → TierStep
  Demote : ℕ → TierStep
  Plug : ℕ → TierStep
  Clean : ℕ → TierStep

-- the order of last writes after a write of the block with this outcome
abbrev pub order_after : List ℕ → ℕ → Outcome → List ℕ
order_after order b (Placed r) = written order b
order_after order b _ = order

-- the log's end after a move to the slot with this outcome
abbrev pub end_after : End → ℕ → Outcome → End
end_after end s (Placed r) = end_at s
end_after end s _ = end

-- a free slot of a mirrored group
abbrev pub IsFreeMirror : Flat → ℕ → Type 0
IsFreeMirror F slot = IsSlotOf Mirrored F.groups slot × IsUnheld F slot

-- a free slot of a parity group
abbrev pub IsFreeHole : Flat → ℕ → Type 0
IsFreeHole F slot = IsSlotOf Parity F.groups slot × IsUnheld F slot

-- a fresh content goes into a slot, and the write is noted
abbrev pub WritesAt : Tiered → ℕ → ℕ → Content → ℕ → Outcome → Tiered → Type 0
WritesAt T w b x s outcome U = (G : Flat) × PlaceCase T.flat w s b (Fresh x) outcome G
    × (U ≡ record T { flat = G; order = order_after T.order b outcome })

-- the block is copied to where the log goes on, and the log's end is noted
abbrev pub AppendsAt : Tiered → ℕ → ℕ → ℕ → Outcome → Tiered → Type 0
AppendsAt T w b s outcome U = (G : Flat) × PlaceCase T.flat w s b Again outcome G
    × (U ≡ record T { flat = G; end = end_after T.end s outcome })

-- the block is copied into the slot
abbrev pub MovesTo : Tiered → ℕ → ℕ → ℕ → Outcome → Tiered → Type 0
MovesTo T w b s outcome U = (G : Flat) × PlaceCase T.flat w s b Again outcome G × (U ≡ record T { flat = G })

-- nothing is done, with this outcome
pub record Stays (T : Tiered) (is outcome : Outcome) (U : Tiered) : Type 0 where
  pub reported : outcome ≡ is
  pub same : U ≡ T

-- a block is demoted to the first free slot where the log goes on; `NoRoom` where there is none
abbrev pub GoesDown : Tiered → ℕ → ℕ → Option ℕ → Outcome → Tiered → Type 0
GoesDown T w b None outcome U = Stays T NoRoom outcome U
GoesDown T w b (Some s) outcome U = AppendsAt T w b s outcome U

-- the block that is due is demoted; `Nothing` where there is none
abbrev pub Demotes : Tiered → (ℕ → ℕ) → ℕ → Option ℕ → Outcome → Tiered → Type 0
Demotes T keys w None outcome U = Stays T Nothing outcome U
Demotes T keys w (Some b) outcome U =
    (slot : Option ℕ) × IsFirstAppend T.end T.flat.groups keys (IsUnheld T.flat) slot × GoesDown T w b slot outcome U

-- demote: of the blocks in mirrored groups, the one that was written longest ago is demoted
pub record DemoteCase (T : Tiered) (w : ℕ) (outcome : Outcome) (U : Tiered) : Type 0 where
  pub keys : ℕ → ℕ
  pub map_of : IsMapOf T.flat.emitted keys
  pub chosen : Option ℕ
  pub oldest : IsOldest T.order (IsMirrored T.flat.groups keys) chosen
  pub done : Demotes T keys w chosen outcome U

-- into the lowest free slot of mirrored groups, if there is one
abbrev pub WritesIn : Tiered → ℕ → ℕ → Content → Option ℕ → Outcome → Tiered → Type 0
WritesIn T w b x None outcome U = Stays T NoRoom outcome U
WritesIn T w b x (Some s) outcome U = WritesAt T w b x s outcome U

-- a slot is looked for once more, after one demotion with any outcome
pub record WritesFollowing (T : Tiered) (w b : ℕ) (x : Content) (outcome : Outcome) (U : Tiered) : Type 0 where
  pub demoted : Outcome
  pub between : Tiered
  pub down : DemoteCase T w demoted between
  pub slot : Option ℕ
  pub first : IsFirst (IsFreeMirror between.flat) slot
  pub done : WritesIn between w b x slot outcome U

abbrev pub Writes : Tiered → ℕ → ℕ → Content → Option ℕ → Outcome → Tiered → Type 0
Writes T w b x None outcome U = WritesFollowing T w b x outcome U
Writes T w b x (Some s) outcome U = WritesAt T w b x s outcome U

-- write: a fresh content goes into the lowest free slot of mirrored groups, after one demotion where there is none
pub record WriteCase (T : Tiered) (w b : ℕ) (x : Content) (outcome : Outcome) (U : Tiered) : Type 0 where
  pub slot : Option ℕ
  pub first : IsFirst (IsFreeMirror T.flat) slot
  pub done : Writes T w b x slot outcome U

-- a hole is plugged as planned
abbrev pub Plugs : Tiered → ℕ → Option Move → Outcome → Tiered → Type 0
Plugs T w None outcome U = Stays T Nothing outcome U
Plugs T w (Some move) outcome U = MovesTo T w move.block move.to outcome U

-- plug: a block of the emptiest source goes into the lowest hole of the fullest group that has one
pub record PlugCase (T : Tiered) (w : ℕ) (outcome : Outcome) (U : Tiered) : Type 0 where
  pub keys : ℕ → ℕ
  pub map_of : IsMapOf T.flat.emitted keys
  pub plan : Option Move
  pub planned : IsPlugPlan T.flat.groups keys T.end.group plan
  pub done : Plugs T w plan outcome U

-- a block leaves a group as planned
abbrev pub Cleans : Tiered → ℕ → Option Move → Outcome → Tiered → Type 0
Cleans T w None outcome U = Stays T Nothing outcome U
Cleans T w (Some move) outcome U = AppendsAt T w move.block move.to outcome U

-- clean: where nothing can be plugged, a block of the emptiest group with a hole goes to where the log goes on
pub record CleanCase (T : Tiered) (w : ℕ) (outcome : Outcome) (U : Tiered) : Type 0 where
  pub keys : ℕ → ℕ
  pub map_of : IsMapOf T.flat.emitted keys
  pub append : Option ℕ
  pub first : IsFirstAppend T.end T.flat.groups keys (λ _. Unit {0}) append
  pub plan : Option Move
  pub planned : IsCleanPlan T.flat.groups keys T.end.group append plan
  pub done : Cleans T w plan outcome U

-- what a step does, and its outcome
abbrev pub TierCase : Tiered → TierStep → Outcome → Tiered → Type 0
TierCase T (Write w b x) outcome U = WriteCase T w b x outcome U
TierCase T (Demote w) outcome U = DemoteCase T w outcome U
TierCase T (Plug w) outcome U = PlugCase T w outcome U
TierCase T (Clean w) outcome U = CleanCase T w outcome U

-- an allocation failed after the block was put into the slot: the slot is released
pub record PutStops (T : Tiered) (w : ℕ) (what : Put) (b s : ℕ) (U : Tiered) : Type 0 where
  pub left : Flat
  pub stops : PlaceStops T.flat w s b what left
  pub same : U ≡ record T { flat = left }

-- an allocation failed after the block to demote was put into the first free slot where the log goes on
pub record DemoteStops (T : Tiered) (w : ℕ) (U : Tiered) : Type 0 where
  pub keys : ℕ → ℕ
  pub map_of : IsMapOf T.flat.emitted keys
  pub block : ℕ
  pub oldest : IsOldest T.order (IsMirrored T.flat.groups keys) (Some block)
  pub slot : ℕ
  pub first : IsFirstAppend T.end T.flat.groups keys (IsUnheld T.flat) (Some slot)
  pub stops : PutStops T w Again block slot U

-- after one demotion with any outcome a content was put into the lowest free slot of mirrored groups, and an allocation failed
pub record StopsFollowing (T : Tiered) (w b : ℕ) (x : Content) (U : Tiered) : Type 0 where
  pub demoted : Outcome
  pub between : Tiered
  pub down : DemoteCase T w demoted between
  pub slot : ℕ
  pub first : IsFirst (IsFreeMirror between.flat) (Some slot)
  pub stops : PutStops between w (Fresh x) b slot U

-- it failed after the content was put into the lowest free slot of mirrored groups; or where there is none, in the demotion or after it
abbrev pub WritesStop : Tiered → ℕ → ℕ → Content → Option ℕ → Tiered → Type 0
WritesStop T w b x None U = DemoteStops T w U ⊎ StopsFollowing T w b x U
WritesStop T w b x (Some s) U = PutStops T w (Fresh x) b s U

-- an allocation of a write failed
pub record WriteStops (T : Tiered) (w b : ℕ) (x : Content) (U : Tiered) : Type 0 where
  pub slot : Option ℕ
  pub first : IsFirst (IsFreeMirror T.flat) slot
  pub stops : WritesStop T w b x slot U

-- an allocation failed after a block was put into a hole as planned
pub record PlugStops (T : Tiered) (w : ℕ) (U : Tiered) : Type 0 where
  pub keys : ℕ → ℕ
  pub map_of : IsMapOf T.flat.emitted keys
  pub move : Move
  pub planned : IsPlugPlan T.flat.groups keys T.end.group (Some move)
  pub stops : PutStops T w Again move.block move.to U

-- an allocation failed after a block that leaves a group was put where the log goes on, as planned
pub record CleanStops (T : Tiered) (w : ℕ) (U : Tiered) : Type 0 where
  pub keys : ℕ → ℕ
  pub map_of : IsMapOf T.flat.emitted keys
  pub append : Option ℕ
  pub first : IsFirstAppend T.end T.flat.groups keys (λ _. Unit {0}) append
  pub move : Move
  pub planned : IsCleanPlan T.flat.groups keys T.end.group append (Some move)
  pub stops : PutStops T w Again move.block move.to U

-- what is left of a step that ran out of memory: it stops in the put that its case would have made
abbrev pub TierStops : Tiered → TierStep → Tiered → Type 0
TierStops T (Write w b x) U = WriteStops T w b x U
TierStops T (Demote w) U = DemoteStops T w U
TierStops T (Plug w) U = PlugStops T w U
TierStops T (Clean w) U = CleanStops T w U

-- the order of last writes after a commit, by what waited in the slot: a commit of a fresh content is a write
abbrev pub order_following : List ℕ → ℕ → FlatAnswer → Option Waiting → List ℕ
order_following order b (Committed r) (Some (f.Fresh x)) = written order b
order_following order b _ _ = order

-- a single commit, noted where it is a write
pub record CommitNoted (T : Tiered) (w s b : ℕ) (answer : FlatAnswer) (U : Tiered) : Type 0 where
  pub case : Case T.flat (step.Commit w s b) answer U.flat
  pub noted : U.order ≡ order_following T.order b answer (T.flat.tickets s)
  pub same : U.end ≡ T.end

-- a single step of the flat machine, which notes nothing
abbrev pub StepAlone : Tiered → FlatStep → FlatAnswer → Tiered → Type 0
StepAlone T taken answer U = (G : Flat) × Case T.flat taken answer G × (U ≡ record T { flat = G })
