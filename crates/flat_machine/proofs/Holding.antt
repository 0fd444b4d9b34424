-- No slot ever has two holders: each case keeps it.
use Rattle.std.proofs.Common.{◌≡◌, ◌≢◌, ℕ, ◌<◌, Bool, true, false, not, ◌&&◌, List, refl, sym, ap, ◌∙◌, subst, ◌⊎◌, inl, inr, Option, Some, None}
use Rattle.std.proofs.lemmas.Bool.{cases_eq}
use Rattle.std.proofs.lemmas.Option.{same_Some}
use Rattle.map_join.specs.declared.records.Record.{Record}
use Rattle.extent_groups.specs.declared.class.Class.{Class}
use Rattle.extent_groups.specs.declared.class.Member.{Member}
use Rattle.flat_machine.specs.declared.refusal.Refusal.TheVariants.{NoGroup, WrongClass, InUse, NoTicket, Outrun, VersionSpent, HopsSpent, Unwritten, Gone, SlotsHeld, DriveLost, Ahead, ExtentTaken, SameDrive, LogFull, Full, BadMember}
use Rattle.flat_machine.specs.Flat.{Flat, Content, Holder, Worker, Ticket, Block, Shut, Waiting, Fresh, Moved, same_holder, with_pair, without_pair, turned, IsNewest}
use Rattle.flat_machine.specs.Steps.{FlatStep, Claim, Release, Fill, Copy, Commit, Discard, Read, ReadAt, Make, Unmake, MoveExtent, AddDrive, Lose, FlatAnswer, Claimed, Taken, Released, NotHeld, Filled, Copied, Committed, Discarded, Found, FoundAt, MadeGroup, UnmadeGroup, MovedExtent, AddedDrive, LostDrive, Refused}
use Rattle.flat_machine.specs.Cases.{Case, ClaimCase, ReleaseCase, FillCase, CopyCase, CommitCase, CommitWith, DiscardCase, ReadCase, ReadAtCase, MakeCase, UnmakeCase, MoveCase, AddCase, LoseCase, Leaves}
use Rattle.flat_machine.specs.History.{IsHistory, AreHeld, IsValidStep}
use Rattle.flat_machine.proofs.Pairs.{Any, IsOnce, IsJust, just_one, just_once, with_just, with_else, without_here, without_else, turned_just, turned_else}
use Rattle.extent_groups.specs.Groups.{group_at}
use Rattle.flat_machine.specs.Moves.{IsIn, HasClaim, unmade}
use Rattle.flat_machine.proofs.Unmakes.{unmade_at}
use Rattle.flat_machine.proofs.Keeps.{lost_leaves, same_leaves}
use Rattle.flat_machine.proofs.Passing.{Passes, passed, passed_on}

-- stated over every slot
held_as : (G : Flat) → ((s : ℕ) → IsOnce Any (G.held s)) → ((s : ℕ) (k : Holder) → G.held s k ≡ true → s < 65536) → AreHeld G
held_as G once inside = record { once = λ s j k hj hk. once s j k tt tt hj hk; inside = inside }

pub once_any : (F : Flat) → AreHeld F → (s : ℕ) → IsOnce Any (F.held s)
once_any F is s j k of_j of_k hj hk = is.once s j k hj hk

-- one slot has one holder now, and all others have theirs
one_now : (F G : Flat) (s : ℕ) (k : Holder) → AreHeld F → s < 65536 → IsJust Any (G.held s) k → ((t : ℕ) → (t ≡ s → ⊥) → G.held t ≡ F.held t) → AreHeld G
one_now F G s k is inside just rest = held_as G (λ t. once t (cases_eq t s)) (λ t j. within t j (cases_eq t s))
  where
    once : (t : ℕ) → (t ≡ s) ⊎ (t ≡ s → ⊥) → IsOnce Any (G.held t)
    once t (inl e) = subst (λ n. IsOnce Any (G.held n)) (sym e) (just_once Any (G.held s) k just)
    once t (inr ne) = subst (IsOnce Any) (sym (rest t ne)) (once_any F is t)

    within : (t : ℕ) (j : Holder) → (t ≡ s) ⊎ (t ≡ s → ⊥) → G.held t j ≡ true → t < 65536
    within t j (inl e) has = subst (λ n. n < 65536) (sym e) inside
    within t j (inr ne) has = is.inside t j (sym (ap (λ (h : Holder → Bool). h j) (rest t ne)) ∙ has)

-- some holders went
fewer : (F G : Flat) → AreHeld F → ((t : ℕ) (k : Holder) → G.held t k ≡ true → F.held t k ≡ true) → AreHeld G
fewer F G is was = held_as G (λ t j k of_j of_k hj hk. is.once t j k (was t j hj) (was t k hk)) (λ t k has. is.inside t k (was t k has))

and_left : (a b : Bool) → (a && b) ≡ true → a ≡ true
and_left true b e = refl
and_left false b e = absurd (cc)

without_was : (F : Flat) (s : ℕ) (k : Holder) (t : ℕ) (j : Holder) → without_pair F.held s k t j ≡ true → F.held t j ≡ true
without_was F s k t j has = go (cases_eq t s)
  where
    go : (t ≡ s) ⊎ (t ≡ s → ⊥) → F.held t j ≡ true
    go (inl e) = subst (λ n. F.held n j ≡ true) (sym e)
        (and_left (F.held s j) (not (same_holder j k)) (sym (without_here F.held s k j) ∙ ap (λ n. without_pair F.held s k n j) (sym e) ∙ has))
    go (inr ne) = sym (ap (λ (h : Holder → Bool). h j) (without_else F.held s k t ne)) ∙ has

-- a slot goes from its one holder to another
turned_holds : (F G : Flat) (s : ℕ) (i k : Holder) → AreHeld F → F.held s i ≡ true → G.held ≡ turned F.held s i k → AreHeld G
turned_holds F G s i k is held same =
    one_now F G s k is (is.inside s i held)
    (subst (λ (h : ℕ → Holder → Bool). IsJust Any (h s) k) (sym same) (turned_just Any F.held s i k (just_one Any (F.held s) i (once_any F is s) tt held)))
    (λ t ne. ap (λ (h : ℕ → Holder → Bool). h t) same ∙ turned_else F.held s i k t ne)

-- a commit passes the slot to the block, and the old place to the worker
passes_hold : (F G : Flat) (w s b : ℕ) (found : Option Record) → AreHeld F → F.held s (Ticket w) ≡ true → Passes Any F w s b found → G.held ≡ passed_on F w s b found → AreHeld G
passes_hold F G w s b found is mine passes same = held_as G (λ t. subst (λ (h : ℕ → Holder → Bool). IsOnce Any (h t)) (sym same) (once t)) (λ t j has. within t j (sym (ap (λ (h : ℕ → Holder → Bool). h t j) same) ∙ has))
  where
    P : ℕ → Type 0
    P t = IsOnce Any (passed_on F w s b found t)

    Q : ℕ → Type 0
    Q t = (j : Holder) → passed_on F w s b found t j ≡ true → t < 65536

    by : (R : ℕ → Type 0) → R s → ((q : Record) → found ≡ Some q → R q.place) → ((t : ℕ) → (t ≡ s → ⊥) → ((q : Record) → found ≡ Some q → t ≡ q.place → ⊥) → R t) → (t : ℕ) → R t
    by R here old rest t = go (cases_eq t s)
      where
        other : (o : Option Record) → found ≡ o → (t ≡ s → ⊥) → R t
        other None none ne = rest t ne (λ q e. let bad : None ≡ Some q = sym none ∙ e in cc)
        other (Some q) e ne = at (cases_eq t q.place)
          where
            at : (t ≡ q.place) ⊎ (t ≡ q.place → ⊥) → R t
            at (inl n) = subst R (sym n) (old q e)
            at (inr away) = rest t ne (λ p p_is n. away (n ∙ ap (λ (x : Record). x.place) (same_Some p q (sym p_is ∙ e))))

        go : (t ≡ s) ⊎ (t ≡ s → ⊥) → R t
        go (inl e) = subst R (sym e) here
        go (inr ne) = other found refl ne

    once : (t : ℕ) → P t
    once = by P (just_once Any (passed_on F w s b found s) (Block b) passes.here) (λ q e. just_once Any (passed_on F w s b found q.place) (Worker w) (passes.old q e))
        (λ t ne off. subst (IsOnce Any) (sym (passes.rest t ne off)) (once_any F is t))

    within : (t : ℕ) → Q t
    within = by Q (λ j has. is.inside s (Ticket w) mine) (λ q e j has. is.inside q.place (Block b) (passes.held q e))
        (λ t ne off j has. is.inside t j (sym (ap (λ (h : Holder → Bool). h j) (passes.rest t ne off)) ∙ has))

-- the same holders, where drives failed
fared : (x G : Flat) → AreHeld x → Leaves x G → AreHeld G
fared x G is leaves = subst AreHeld (sym leaves.same) (record { once = is.once; inside = is.inside })

stays : (F G : Flat) → AreHeld F → Leaves F G → AreHeld G
stays F G is leaves = fared F G is leaves

same_held : (x G : Flat) → Leaves x G → G.held ≡ x.held
same_held x G leaves = ap (λ (E : Flat). E.held) leaves.same

claims : (F G : Flat) (w s : ℕ) (answer : FlatAnswer) → AreHeld F → s < 65536 → ClaimCase F w s answer G → AreHeld G
claims F G w s (Claimed t) is inside case = fared _ G
    (one_now F (record F { held = with_pair F.held s (Worker w) }) s (Worker w) is inside (with_just Any F.held s (Worker w) (λ j of. case.1 j)) (λ t ne. with_else F.held s (Worker w) t ne)) case.2
claims F G w s (Taken t) is inside case = stays F G is case.2
claims F G w s _ is inside case = absurd case

releases : (F G : Flat) (w s : ℕ) (answer : FlatAnswer) → AreHeld F → ReleaseCase F w s answer G → AreHeld G
releases F G w s (Released t) is case = fared _ G (fewer F (record F { held = without_pair F.held s (Worker w) }) is (without_was F s (Worker w))) case.2
releases F G w s (NotHeld t) is case = stays F G is case.2
releases F G w s _ is case = absurd case

fills : (F G : Flat) (w s : ℕ) (x : Content) (answer : FlatAnswer) → AreHeld F → FillCase F w s x answer G → AreHeld G
fills F G w s x (NotHeld t) is case = stays F G is case.2
fills F G w s x (Refused NoGroup) is case = stays F G is case.2
fills F G w s x (Refused WrongClass) is case = stays F G is case.2
fills F G w s x (Refused InUse) is case = stays F G is case.3
fills F G w s x (Refused (Gone t)) is case = stays F G is case.3
fills F G w s x (Filled t) is case = turned_holds F G s (Worker w) (Ticket w) is case.1.0 (same_held _ G case.3)
fills F G w s x _ is case = absurd case

copies : (F G : Flat) (w s b : ℕ) (answer : FlatAnswer) → AreHeld F → CopyCase F w s b answer G → AreHeld G
copies F G w s b (NotHeld t) is case = stays F G is case.2
copies F G w s b (Refused NoGroup) is case = stays F G is case.2
copies F G w s b (Refused InUse) is case = stays F G is case.3
copies F G w s b (Refused Unwritten) is case = stays F G is case.4
copies F G w s b (Refused HopsSpent) is case = stays F G is case.4
copies F G w s b (Refused (Gone t)) is case = stays F G is case.1
copies F G w s b (Copied t) is case = turned_holds F G s (Worker w) (Ticket w) is case.1.2.0 (same_held _ G case.1.6)
copies F G w s b _ is case = absurd case

commits : (F G : Flat) (keys : ℕ → ℕ) (w s b : ℕ) (found : Option Record) (ticket : Option Waiting) (answer : FlatAnswer) → IsHistory F keys → AreHeld F
    → F.held s (Ticket w) ≡ true → IsNewest F.emitted b found → CommitWith F w s b found ticket answer G → AreHeld G
commits F G keys w s b found (Some (Fresh x)) (Refused VersionSpent) history is mine newest case = stays F G is case.1
commits F G keys w s b found (Some (Fresh x)) (Refused LogFull) history is mine newest case = stays F G is case.2
commits F G keys w s b found (Some (Fresh x)) (Refused (Gone t)) history is mine newest case = stays F G is case.4
commits F G keys w s b found (Some (Fresh x)) (Committed r) history is mine newest case =
    passes_hold F G w s b found is mine (passed Any F keys w s b found (once_any F is) tt tt history newest mine) (same_held _ G case.4)
commits F G keys w s b found (Some (Moved c v h x)) (Refused (Outrun n)) history is mine newest case = stays F G is case.2
commits F G keys w s b found (Some (Moved c v h x)) (Refused LogFull) history is mine newest case = stays F G is case.2
commits F G keys w s b found (Some (Moved c v h x)) (Refused (Gone t)) history is mine newest case = stays F G is case.4
commits F G keys w s b found (Some (Moved c v h x)) (Committed r) history is mine newest case =
    passes_hold F G w s b found is mine (passed Any F keys w s b found (once_any F is) tt tt history newest mine) (same_held _ G case.4)
commits F G keys w s b found _ _ history is mine newest case = absurd case

commit_cases : (F G : Flat) (keys : ℕ → ℕ) (w s b : ℕ) (answer : FlatAnswer) → IsHistory F keys → AreHeld F → CommitCase F w s b answer G → AreHeld G
commit_cases F G keys w s b (Refused NoTicket) history is case = stays F G is case.1
commit_cases F G keys w s b answer history is case = commits F G keys w s b case.2.0 (F.tickets s) answer history is case.0 case.2.1 case.2.2

discards : (F G : Flat) (w s : ℕ) (answer : FlatAnswer) → AreHeld F → DiscardCase F w s answer G → AreHeld G
discards F G w s (Refused NoTicket) is case = stays F G is case.1
discards F G w s (Discarded t) is case = turned_holds F G s (Ticket w) (Worker w) is case.1 (same_held _ G case.2)
discards F G w s _ is case = absurd case

makes : (F G : Flat) (class : Class) (members : List Member) (answer : FlatAnswer) → AreHeld F → MakeCase F class members answer G → AreHeld G
makes F G class members (Refused BadMember) is case = stays F G is case.1
makes F G class members (Refused SameDrive) is case = stays F G is case.2
makes F G class members (Refused ExtentTaken) is case = stays F G is case.3
makes F G class members (Refused (DriveLost d)) is case = stays F G is case.2
makes F G class members (Refused Full) is case = stays F G is case.3
makes F G class members (MadeGroup g) is case =
    fewer F G is (λ t k has. and_left (F.held t k) (not (same_holder k (Shut g))) (sym (ap (λ (h : ℕ → Holder → Bool). h t k) (same_held _ G case.2)) ∙ has))
makes F G class members _ is case = absurd case

reads : (F G : Flat) (b : ℕ) (answer : FlatAnswer) → AreHeld F → ReadCase F b answer G → AreHeld G
reads F G b (Found found) is case = stays F G is case.2
reads F G b (Refused (Gone t)) is case = stays F G is case.1
reads F G b _ is case = absurd case

looks : (F G : Flat) (r : Record) (answer : FlatAnswer) → AreHeld F → ReadAtCase F r answer G → AreHeld G
looks F G r (Refused (Ahead found)) is case = stays F G is case.2
looks F G r (Refused (Gone t)) is case = stays F G is case.3
looks F G r (FoundAt seen) is case = stays F G is case.3
looks F G r _ is case = absurd case

loses : (F G : Flat) (d : ℕ) (answer : FlatAnswer) → AreHeld F → LoseCase F d answer G → AreHeld G
loses F G d (LostDrive e) is case = fared _ G (record { once = is.once; inside = is.inside }) case.2
loses F G d (Refused BadMember) is case = stays F G is case.1
loses F G d _ is case = absurd case

-- the slots of a group go from the worker, who alone has each, to the group's number
unmade_holds : (F : Flat) (keys : ℕ → ℕ) (w g : ℕ) → IsHistory F keys → AreHeld F → group_at F.groups g ≢ None → ((s : ℕ) → IsIn F g s → HasClaim F w s) → AreHeld (unmade F w g)
unmade_holds F keys w g history is made claimed = held_as (unmade F w g) once inside
  where
    at : (t : ℕ) → ((unmade F w g).held t ≡ F.held t) ⊎ ((F.held t (Worker w) ≡ true) × ((unmade F w g).held t ≡ turned F.held t (Worker w) (Shut g) t))
    at t = unmade_at F keys w g history made claimed t

    once : (t : ℕ) → IsOnce Any ((unmade F w g).held t)
    once t = go (at t)
      where
        go : ((unmade F w g).held t ≡ F.held t) ⊎ ((F.held t (Worker w) ≡ true) × ((unmade F w g).held t ≡ turned F.held t (Worker w) (Shut g) t)) → IsOnce Any ((unmade F w g).held t)
        go (inl same) = subst (IsOnce Any) (sym same) (once_any F is t)
        go (inr turns) = subst (IsOnce Any) (sym turns.1)
            (just_once Any (turned F.held t (Worker w) (Shut g) t) (Shut g) (turned_just Any F.held t (Worker w) (Shut g) (just_one Any (F.held t) (Worker w) (once_any F is t) tt turns.0)))

    inside : (t : ℕ) (j : Holder) → (unmade F w g).held t j ≡ true → t < 65536
    inside t j has = go (at t)
      where
        go : ((unmade F w g).held t ≡ F.held t) ⊎ ((F.held t (Worker w) ≡ true) × ((unmade F w g).held t ≡ turned F.held t (Worker w) (Shut g) t)) → t < 65536
        go (inl same) = is.inside t j (sym (ap (λ (h : Holder → Bool). h j) same) ∙ has)
        go (inr turns) = is.inside t (Worker w) turns.0

unmakes : (F G : Flat) (keys : ℕ → ℕ) (w g : ℕ) (answer : FlatAnswer) → IsHistory F keys → AreHeld F → UnmakeCase F w g answer G → AreHeld G
unmakes F G keys w g (Refused NoGroup) history is case = stays F G is case.1
unmakes F G keys w g (Refused (SlotsHeld s)) history is case = stays F G is case.1
unmakes F G keys w g (UnmadeGroup h) history is case = fared _ G (unmade_holds F keys w g history is case.1 case.2) case.3
unmakes F G keys w g _ history is case = absurd case

moves : (F G : Flat) (g k : ℕ) (to : Member) (answer : FlatAnswer) → AreHeld F → MoveCase F g k to answer G → AreHeld G
moves F G g k to (Refused NoGroup) is case = stays F G is case.1
moves F G g k to (Refused BadMember) is case = stays F G is case.1
moves F G g k to (Refused SameDrive) is case = stays F G is case.1
moves F G g k to (Refused ExtentTaken) is case = stays F G is case.1
moves F G g k to (Refused (DriveLost d)) is case = stays F G is (lost_leaves F G d case.2)
moves F G g k to (Refused (Gone s)) is case = stays F G is case.3
moves F G g k to MovedExtent is case = fared _ G (record { once = is.once; inside = is.inside }) case.3
moves F G g k to _ is case = absurd case

adds : (F G : Flat) (answer : FlatAnswer) → AreHeld F → AddCase F answer G → AreHeld G
adds F G (Refused Full) is case = stays F G is (same_leaves F G case.1)
adds F G (AddedDrive d) is case = fared _ G (record { once = is.once; inside = is.inside }) (same_leaves _ G case.2)
adds F G _ is case = absurd case

-- a step of numbers that there are, with any answer
pub step_holds : (F G : Flat) (keys : ℕ → ℕ) (step : FlatStep) (answer : FlatAnswer) → IsHistory F keys → AreHeld F → IsValidStep F.groups step → Case F step answer G → AreHeld G
step_holds F G keys (Claim w s) answer history is fits case = claims F G w s answer is fits case
step_holds F G keys (Release w s) answer history is fits case = releases F G w s answer is case
step_holds F G keys (Fill w s x) answer history is fits case = fills F G w s x answer is case
step_holds F G keys (Copy w s b) answer history is fits case = copies F G w s b answer is case
step_holds F G keys (Commit w s b) answer history is fits case = commit_cases F G keys w s b answer history is case
step_holds F G keys (Discard w s) answer history is fits case = discards F G w s answer is case
step_holds F G keys (Read b) answer history is fits case = reads F G b answer is case
step_holds F G keys (ReadAt r) answer history is fits case = looks F G r answer is case
step_holds F G keys (Make class members) answer history is fits case = makes F G class members answer is case
step_holds F G keys (Unmake w g) answer history is fits case = unmakes F G keys w g answer history is case
step_holds F G keys (MoveExtent g k to) answer history is fits case = moves F G g k to answer is case
step_holds F G keys AddDrive answer history is fits case = adds F G answer is case
step_holds F G keys (Lose d) answer history is fits case = loses F G d answer is case
