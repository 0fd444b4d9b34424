-- The marks are those of the blocks in mirrored groups, after each step.
use Rattle.std.proofs.Common.{◌≡◌, ◌≢◌, ◌⊎◌, inl, inr, ℕ, ◌/◌, ◌%◌, is_some, ◌+◌, ◌<◌, max, arith, Bool, true, false, ◌↔◌, List, [], ◌∷◌, ◌++◌, length, slice_set, get_or, replicate, Contains, refl, sym, ap, ◌∙◌, subst, Option, Some, None}
use Rattle.std.specs.Prelude.{MatchOption}
use Rattle.std.proofs.lemmas.Bool.{cases_eq}
use Rattle.std.proofs.lemmas.List.{length-replicate, get_or-replicate}
use Rattle.std.proofs.lemmas.Option.{same_Some, slice_get_within, get_or_from_slice_get}
use Rattle.map_join.specs.declared.records.Record.{Record}
use Rattle.map_join.specs.Record.{record_at, record_of, IsRecord}
use Rattle.map_join.specs.Maps.{IsMapOf, join, only}
use Rattle.map_join.proofs.Joins.{took, only_else}
use Rattle.extent_groups.specs.declared.class.Class.{Class}
use Rattle.extent_groups.specs.declared.class.Class.TheVariants.{Mirrored, Parity}
use Rattle.extent_groups.specs.Groups.{Group, Groups, group_at, class_in, with_group}
use Rattle.extent_groups.proofs.GroupsLemmas.{group_same, group_other}
use Rattle.extent_groups.proofs.Places.{get-set_same, get-set_other}
use Rattle.flat_machine.specs.Groups.{class_below}
use Rattle.flat_machine.specs.Flat.{Flat, class_of}
use Rattle.flat_machine.specs.History.{IsHistory}
use Rattle.flat_machine.proofs.Newest.{newest_reported, newest_unique, same_map, reported_key}
use Rattle.slot_tables.specs.Views.{ArrayView, key_at, IsWhole}
use Rattle.slot_tables.proofs.Newest.{block_inside}
use Rattle.migrator.specs.Ages.{Marked, IsMarked, IsOldest}
use Rattle.migrator.specs.Slots.{class_of_record, IsMirrored}
use Rattle.tiered_array.specs.Marking.{AreMarked, AreMarkedBelow, is_mirrors}
use Rattle.tiered_array.proofs.Emitting.{IsAlike, HasEmitted}

-- a class is that of mirrored groups exactly where the test says so
pub mirrors_iff : (class : Option Class) → (is_mirrors class ≡ true) ↔ (class ≡ Some Mirrored)
mirrors_iff None = ((λ h. let bad : false ≡ true = h in absurd (cc)), (λ h. absurd (cc)))
mirrors_iff (Some Mirrored) = ((λ h. refl), (λ h. refl))
mirrors_iff (Some Parity) = ((λ h. let bad : false ≡ true = h in absurd (cc)), (λ h. absurd (cc)))

-- a mark that was set is what it was set to, and the others stay
set_here : (marks : List Bool) (b : ℕ) (m : Bool) → b < length marks → IsMarked (slice_set marks b m) b ↔ (m ≡ true)
set_here marks b m inside =
    let got = get-set_same marks b m inside in
    ((λ h. same_Some m true (sym got ∙ h)), (λ h. got ∙ ap (λ x. Some x) h))

set_other : (marks : List Bool) (b c : ℕ) (m : Bool) → (c ≡ b → ⊥) → IsMarked (slice_set marks b m) c ↔ IsMarked marks c
set_other marks b c m other =
    let got = get-set_other marks b c m other in
    ((λ h. sym got ∙ h), (λ h. got ∙ h))

-- one way to say it and another
through : (P Q R : Type 0) → P ↔ Q → Q ↔ R → P ↔ R
through P Q R a b = ((λ p. b.0 (a.0 p)), (λ r. a.1 (b.1 r)))

-- a block's newest record, and the keys of other blocks, after a record was emitted
record_now : (F G : Flat) (N : ℕ → ℕ) (b : ℕ) (r : Record) → ((q : Record) → Contains G.emitted q → IsRecord q) → IsMapOf G.emitted N → HasEmitted F G b r
    → record_at b (N b) ≡ Some r
record_now F G N b r all map is = newest_unique G.emitted b all (record_at b (N b)) (Some r) (newest_reported G.emitted N b all map) is.newest

key_still : (F G : Flat) (M N : ℕ → ℕ) (b c : ℕ) (r : Record) → IsMapOf F.emitted M → IsMapOf G.emitted N → HasEmitted F G b r → (c ≡ b → ⊥) → N c ≡ M c
key_still F G M N b c r before following is other =
    let joined : IsMapOf (F.emitted ++ r ∷ []) (join M (only r)) = took F.emitted r M (join M (only r)) (λ n. refl) before in
    let now : IsMapOf (F.emitted ++ r ∷ []) N = subst (λ rs. IsMapOf rs N) is.emitted following in
    let e : N c ≡ max (M c) (only r c) = ap (λ (f : ℕ → ℕ). f c) (same_map (F.emitted ++ r ∷ []) N (join M (only r)) now joined) in
    let zero = only_else r c (λ same. other (same ∙ is.newest.1)) in
    omega arith

-- marks of a state are those of another that is alike
pub marked_alike : (F G : Flat) (M N : ℕ → ℕ) (marks : List Bool) → IsMapOf F.emitted M → IsMapOf G.emitted N → IsAlike F G → AreMarked marks F.groups M → AreMarked marks G.groups N
marked_alike F G M N marks before following is marked =
    let same : M ≡ N = same_map F.emitted M N before (subst (λ rs. IsMapOf rs N) is.emitted following) in
    subst (AreMarked marks G.groups) same (subst (λ groups. AreMarked marks groups M) (sym is.groups) marked)

-- after a placing or a commit that emitted a record of the block
pub marked_emitted : (F G : Flat) (M N : ℕ → ℕ) (marks : List Bool) (b : ℕ) (r : Record) → ((q : Record) → Contains G.emitted q → IsRecord q) → b < length marks
    → IsMapOf F.emitted M → IsMapOf G.emitted N → HasEmitted F G b r → AreMarked marks F.groups M
    → AreMarked (slice_set marks b (is_mirrors (class_of_record G.groups (Some r)))) G.groups N
marked_emitted F G M N marks b r all inside before following is marked c = go (cases_eq c b)
  where
    m : Bool
    m = is_mirrors (class_of_record G.groups (Some r))

    here : IsMarked (slice_set marks b m) b ↔ IsMirrored G.groups N b
    here =
        let at = record_now F G N b r all following is in
        let class : (class_of_record G.groups (Some r) ≡ Some Mirrored) ↔ IsMirrored G.groups N b =
        ((λ h. ap (class_of_record G.groups) at ∙ h), (λ h. sym (ap (class_of_record G.groups) at) ∙ h)) in
        through _ _ _ (set_here marks b m inside) (through _ _ _ (mirrors_iff (class_of_record G.groups (Some r))) class)

    still : (c ≡ b → ⊥) → IsMirrored F.groups M c ↔ IsMirrored G.groups N c
    still other =
        let e : class_of_record G.groups (record_at c (N c)) ≡ class_of_record F.groups (record_at c (M c)) =
        ap (λ k. class_of_record G.groups (record_at c k)) (key_still F G M N b c r before following is other) ∙ ap (λ groups. class_of_record groups (record_at c (M c))) is.groups in
        ((λ h. e ∙ h), (λ h. sym e ∙ h))

    go : (c ≡ b) ⊎ (c ≡ b → ⊥) → IsMarked (slice_set marks b m) c ↔ IsMirrored G.groups N c
    go (inl same) = subst (λ n. IsMarked (slice_set marks b m) n ↔ IsMirrored G.groups N n) (sym same) here
    go (inr other) = through _ _ _ (set_other marks b c m other) (through _ _ _ (marked c) (still other))

-- marking one block after another: none at first, and all in the end
pub below_none : (marks : List Bool) (groups : Groups) (keys : ℕ → ℕ) → ((b : ℕ) → IsMarked marks b → ⊥) → AreMarkedBelow marks groups keys 0
below_none marks groups keys none b = ((λ h. absurd (none b h)), (λ h. let low = h.0 in absurd (omega arith)))

pub below_more : (marks : List Bool) (groups : Groups) (keys : ℕ → ℕ) (b : ℕ) (m : Bool) → b < length marks → m ≡ is_mirrors (class_of_record groups (record_at b (keys b)))
    → AreMarkedBelow marks groups keys b → AreMarkedBelow (slice_set marks b m) groups keys (b + 1)
below_more marks groups keys b m inside reported marked c = go (cases_eq c b)
  where
    here : IsMarked (slice_set marks b m) b ↔ ((b < b + 1) × IsMirrored groups keys b)
    here =
        let is = mirrors_iff (class_of_record groups (record_at b (keys b))) in
        let set = set_here marks b m inside in
        ((λ h. (omega arith, is.0 (sym reported ∙ set.0 h))), (λ h. set.1 (reported ∙ is.1 h.1)))

    go : (c ≡ b) ⊎ (c ≡ b → ⊥) → IsMarked (slice_set marks b m) c ↔ ((c < b + 1) × IsMirrored groups keys c)
    go (inl same) = subst (λ n. IsMarked (slice_set marks b m) n ↔ ((n < b + 1) × IsMirrored groups keys n)) (sym same) here
    go (inr other) =
        let set = set_other marks b c m other in
        let was = marked c in (
          (λ h. let w = was.0 (set.0 h) in let low = w.0 in (omega arith, w.1)),
          (λ h. let low = h.0 in set.1 (was.1 (omega (arith, low, other), h.1))),
        )

pub below_all : (marks : List Bool) (groups : Groups) (keys : ℕ → ℕ) (bound : ℕ) → ((b : ℕ) → IsMirrored groups keys b → b < bound)
    → AreMarkedBelow marks groups keys bound → AreMarked marks groups keys
below_all marks groups keys bound inside marked b = ((λ h. ((marked b).0 h).1), (λ h. (marked b).1 (inside b h, h)))

-- a block in a mirrored group has a record
pub mirrored_record : (groups : Groups) (o : Option Record) → class_of_record groups o ≡ Some Mirrored → (r : Record) × (o ≡ Some r)
mirrored_record groups None is = absurd (cc)
mirrored_record groups (Some r) is = (r, refl)

-- of two ways to say the same of blocks the oldest are the same
pub oldest_by : (order : List ℕ) (P Q : ℕ → Type 0) (chosen : Option ℕ) → ((b : ℕ) → P b ↔ Q b) → IsOldest order P chosen → IsOldest order Q chosen
oldest_by order P Q None same h = λ c has q. h c has ((same c).1 q)
oldest_by order P Q (Some b) same h = record { passes = (same b).0 h.passes; among = h.among; oldest = λ c has q ne. h.oldest c has ((same c).1 q) ne }

-- the oldest of the marked blocks is the oldest in mirrored groups, and one of the array's
pub oldest_found : (a : ArrayView) (m : Marked) (found chosen : Option ℕ) → IsWhole a → IsOldest m.order (IsMarked m.marks) found
    → (MatchOption found (Unit {0}) (λ b. b < a.parts.groups.blocks) → chosen ≡ found) → AreMarked m.marks a.parts.groups (key_at a)
    → IsOldest m.order (IsMirrored a.parts.groups (key_at a)) chosen
oldest_found a m found chosen whole oldest same marked = subst (IsOldest m.order (IsMirrored a.parts.groups (key_at a))) (sym (same (inside found is))) is
  where
    is : IsOldest m.order (IsMirrored a.parts.groups (key_at a)) found
    is = oldest_by m.order (IsMarked m.marks) (IsMirrored a.parts.groups (key_at a)) found marked oldest

    inside : (o : Option ℕ) → IsOldest m.order (IsMirrored a.parts.groups (key_at a)) o → MatchOption o (Unit {0}) (λ b. b < a.parts.groups.blocks)
    inside None h = tt
    inside (Some b) h = let r = mirrored_record a.parts.groups (record_at b (key_at a b)) h.passes in block_inside a b r.0 whole.room r.1

-- the newest place of a block is in a group that is made, so its class stays where another group is made
place_made : (F : Flat) (M : ℕ → ℕ) (b : ℕ) (r : Record) → IsHistory F M → record_at b (M b) ≡ Some r → group_at F.groups (r.place / 128) ≢ None
place_made F M b r history reported none =
    let key = reported_key b (M b) r reported in
    let large = key.0 in
    let written = ((history.written b).1 (omega (arith, large))).2 in
    let there = (history.units (record_of b (M b)).place).there in
    let has : is_some (F.units (record_of b (M b)).place) ≡ true = ap is_some written.unit.there in
    let at : group_at F.groups ((record_of b (M b)).place / 128) ≡ None = ap (λ (q : Record). group_at F.groups (q.place / 128)) key.1 ∙ none in
    let hasnt : is_some (class_of F (record_of b (M b)).place) ≡ false =
    ap (λ z. is_some (class_below F.groups.segments z ((record_of b (M b)).place % 128))) at in
    let both : true ≡ false = sym has ∙ there ∙ hasnt in absurd (cc)

class_still : (F : Flat) (M : ℕ → ℕ) (b g : ℕ) (new : Option Group) (o : Option Record) → IsHistory F M → group_at F.groups g ≡ None → record_at b (M b) ≡ o
    → class_of_record (with_group F.groups g new) o ≡ class_of_record F.groups o
class_still F M b g new None history free reported = refl
class_still F M b g new (Some r) history free reported =
    ap class_in (group_other F.groups g (r.place / 128) new (λ same. place_made F M b r history reported (ap (group_at F.groups) same ∙ free)))

pub marked_made : (F G : Flat) (M N : ℕ → ℕ) (marks : List Bool) (g : ℕ) (new : Option Group) → IsHistory F M → IsMapOf G.emitted N → G.emitted ≡ F.emitted
    → G.groups ≡ with_group F.groups g new → group_at F.groups g ≡ None → AreMarked marks F.groups M → AreMarked marks G.groups N
marked_made F G M N marks g new history following emitted groups free marked =
    let same : M ≡ N = same_map F.emitted M N history.map (subst (λ rs. IsMapOf rs N) emitted following) in
    subst (AreMarked marks G.groups) same (subst (λ z. AreMarked marks z M) (sym groups) all)
  where
    all : AreMarked marks (with_group F.groups g new) M
    all b =
        let e = class_still F M b g new (record_at b (M b)) history free refl in
        through _ _ _ (marked b) ((λ h. e ∙ h), (λ h. sym e ∙ h))

-- and where a dissolved group had no block's place
class_left : (F G : Flat) (N : ℕ → ℕ) (b g : ℕ) (o : Option Record) → IsHistory G N → G.groups ≡ with_group F.groups g None → g < length F.groups.table → record_at b (N b) ≡ o
    → class_of_record (with_group F.groups g None) o ≡ class_of_record F.groups o
class_left F G N b g None history groups inside reported = refl
class_left F G N b g (Some r) history groups inside reported =
    ap class_in (group_other F.groups g (r.place / 128) None (λ same. place_made G N b r history reported (ap (λ z. group_at z (r.place / 128)) groups ∙ ap (group_at (with_group F.groups g None)) same ∙ group_same F.groups g None inside)))

pub marked_unmade : (F G : Flat) (M N : ℕ → ℕ) (marks : List Bool) (g : ℕ) → IsMapOf F.emitted M → IsHistory G N → G.emitted ≡ F.emitted
    → G.groups ≡ with_group F.groups g None → g < length F.groups.table → AreMarked marks F.groups M → AreMarked marks G.groups N
marked_unmade F G M N marks g before history emitted groups inside marked =
    let same : M ≡ N = same_map F.emitted M N before (subst (λ rs. IsMapOf rs N) emitted history.map) in
    subst (λ z. AreMarked marks z N) (sym groups) (all (subst (AreMarked marks F.groups) same marked))
  where
    all : AreMarked marks F.groups N → AreMarked marks (with_group F.groups g None) N
    all here b =
        let e = class_left F G N b g (record_at b (N b)) history groups inside refl in
        through _ _ _ (here b) ((λ h. e ∙ h), (λ h. sym e ∙ h))

-- no block is marked in a new order
pub none_marked : (marks : List Bool) (count b : ℕ) → marks ≡ replicate count false → IsMarked marks b → ⊥
none_marked marks count b new is =
    let got = get_or_from_slice_get marks b true false is in
    let inside = slice_get_within marks b true is in
    let long = ap length new ∙ length-replicate count false in
    let none : get_or marks b false ≡ false = ap (λ ms. get_or ms b false) new ∙ get_or-replicate count b false false (omega arith) in
    let both : true ≡ false = sym got ∙ none in absurd (cc)
