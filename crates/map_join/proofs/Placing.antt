-- Where the newest records of a map lie, by its pages.
use Rattle.std.proofs.Common.{◌≡◌, ℕ, ◌+◌, ◌*◌, ◌/◌, ◌%◌, ◌^◌, ◌<◌, ◌≤◌, ◌↔◌, List, Bool, length, get_or, slice_index, [], ◌∷◌, ◌++◌, ◌⊎◌, inl, inr, sym, ap, ◌∙◌, subst, arith, Option, Some, None, MatchOption, true, false, replicate}
use Rattle.std.proofs.lemmas.Bool.{cases_eq}
use Rattle.std.proofs.lemmas.Option.{slice_get_within, get_or_from_slice_get, slice_get-get_or}
use Rattle.std.proofs.lemmas.List.{get_or-replicate, length-replicate, length_push}
use Rattle.map_join.specs.declared.records.Record.{Record}
use Rattle.map_join.specs.Maps.{Lanes, Entries, at}
use Rattle.map_join.specs.Record.{record_of}
use Rattle.map_join.specs.Lists.{IsCount, ListsBelow}
use Rattle.map_join.specs.Live.{MapsTo, IsLive, IsBlockAt, IsLiveIn, IsLiveCount}
use Rattle.map_join.specs.Marks.{IsPlacedAt, IsPlacedBelow, IsPlaced, IsSet, IsMarkedIn}
use Rattle.map_join.proofs.Fronts.{IsMet, unmet, front_at, front_else}
use Rattle.map_join.proofs.Listing.{reported, record_reported, page_of}
use Rattle.map_join.proofs.Paged.{at_none, number_of, lane_of}
use Rattle.map_join.proofs.Rising.{count_same, below_more, below_skip}

-- no index of such a list is set
pub none_set : (n index : ℕ) → IsSet (replicate n false) index → ⊥
none_set n index is =
    let within = slice_get_within (replicate n false) index true is in
    let long = length-replicate n false in
    let one = get_or_from_slice_get (replicate n false) index true false is in
    let other = get_or-replicate n index false false (omega arith) in
    let both : true ≡ false = sym one ∙ other in
    cc

-- a slot is live exactly where some block's key says so
pub lies : (keys : ℕ → ℕ) (slot block : ℕ) → IsPlacedAt keys slot block → MapsTo keys block slot
lies keys slot block p = (record_of block (keys block), reported block (keys block) p.0, p.1)

pub live_placed : (keys : ℕ → ℕ) (slot : ℕ) → IsPlaced keys slot → IsLive keys slot
live_placed keys slot p = (p.0, lies keys slot p.0 p.1)

pub placed_live : (keys : ℕ → ℕ) (slot : ℕ) → IsLive keys slot → IsPlaced keys slot
placed_live keys slot live =
    let r = record_reported live.0 (keys live.0) live.1.0 live.1.1 in
    (live.0, (r.0, ap (λ (q : Record). q.place) r.1 ∙ live.1.2))

-- the places of a map with one page more are those of the map and those of the page
module _ (es front : Entries) (number : ℕ) (keys : Lanes) (rest : Entries) (met : IsMet es front number keys rest) (slot : ℕ) where
  abbrev pub more : Entries
  more = front ++ (number, keys) ∷ []

  pub placed_more : IsPlaced (at more) slot → IsPlaced (at front) slot ⊎ IsPlacedBelow 64 (slice_index keys) slot
  placed_more p = go (cases_eq (p.0 / 64) number)
    where
      go : (p.0 / 64 ≡ number) ⊎ (p.0 / 64 ≡ number → ⊥) → IsPlaced (at front) slot ⊎ IsPlacedBelow 64 (slice_index keys) slot
      go (inl is) = inr (p.0 % 64, omega arith, subst (λ k. (2 ^ 32 ≤ k) × (k % 65536 ≡ slot)) (front_at es front number keys rest met p.0 is) p.1)
      go (inr ne) = inl (p.0, subst (λ k. (2 ^ 32 ≤ k) × (k % 65536 ≡ slot)) (front_else es front number keys rest met p.0 ne) p.1)

  pub placed_still : IsPlaced (at front) slot → IsPlaced (at more) slot
  placed_still p = go (cases_eq (p.0 / 64) number)
    where
      go : (p.0 / 64 ≡ number) ⊎ (p.0 / 64 ≡ number → ⊥) → IsPlaced (at more) slot
      go (inl is) = let z = unmet es front number keys rest met p.0 (omega arith) in let big = p.1.0 in absurd (omega arith)
      go (inr ne) = (p.0, subst (λ k. (2 ^ 32 ≤ k) × (k % 65536 ≡ slot)) (sym (front_else es front number keys rest met p.0 ne)) p.1)

  pub placed_last : IsPlacedBelow 64 (slice_index keys) slot → IsPlaced (at more) slot
  placed_last p =
      let block : ℕ = 64 * number + p.0 in
      let here : at more block ≡ slice_index keys p.0 =
      front_at es front number keys rest met block (number_of number p.0 p.1) ∙ ap (slice_index keys) (lane_of number p.0 p.1) in
      (block, subst (λ k. (2 ^ 32 ≤ k) × (k % 65536 ≡ slot)) (sym here) p.2)

  pub placed_here : (lane : ℕ) → lane < 64 → IsPlacedAt (slice_index keys) slot lane → IsPlacedAt (at es) slot (64 * number + lane)
  placed_here lane low p = subst (λ k. (2 ^ 32 ≤ k) × (k % 65536 ≡ slot)) (sym (page_of es front number keys rest met lane low)) p

  pub not_placed : (IsPlaced (at front) slot → ⊥) → (IsPlacedBelow 64 (slice_index keys) slot → ⊥) → IsPlaced (at more) slot → ⊥
  not_placed none ne p = go (placed_more p)
    where
      go : IsPlaced (at front) slot ⊎ IsPlacedBelow 64 (slice_index keys) slot → ⊥
      go (inl was) = none was
      go (inr is) = ne is

pub none_placed : (slot : ℕ) → IsPlaced (at []) slot → ⊥
none_placed slot p = let z = at_none p.0 in let big = p.1.0 in absurd (omega arith)

-- a block, or none, that was found by the keys lies there
pub block_at : (keys : ℕ → ℕ) (slot : ℕ) (result : Option ℕ) → MatchOption result (IsPlaced keys slot → ⊥) (IsPlacedAt keys slot) → IsBlockAt keys slot result
block_at keys slot None none = λ live. none (placed_live keys slot live)
block_at keys slot (Some block) there = lies keys slot block there

-- marks say which of a group's indexes are places of the keys
abbrev pub AreMarks : (ℕ → ℕ) → ℕ → List Bool → Type 0
AreMarks keys group marks = (index : ℕ) → index < 128 → IsSet marks index ↔ IsPlaced keys (128 * group + index)

pub marks_none : (marks : List Bool) (group : ℕ) → ((index : ℕ) → IsSet marks index → ⊥) → AreMarks (at []) group marks
marks_none marks group none index l = ((λ t. absurd (none index t)), (λ p. absurd (none_placed (128 * group + index) p)))

pub marks_more : (es front : Entries) (number : ℕ) (keys : Lanes) (rest : Entries) → IsMet es front number keys rest → (read : Lanes) → read ≡ keys
    → (group : ℕ) (was now : List Bool) → AreMarks (at front) group was
    → ((index : ℕ) → index < 128 → IsSet now index ↔ (IsSet was index ⊎ IsPlacedBelow 64 (slice_index read) (128 * group + index)))
    → AreMarks (at (front ++ (number, keys) ∷ [])) group now
marks_more es front number keys rest met read own group was now before step index l =
    ((λ t. to ((step index l).0 t)), (λ p. (step index l).1 (from (placed_more es front number keys rest met (128 * group + index) p))))
  where
    slot : ℕ
    slot = 128 * group + index

    to : IsSet was index ⊎ IsPlacedBelow 64 (slice_index read) slot → IsPlaced (at (front ++ (number, keys) ∷ [])) slot
    to (inl t) = placed_still es front number keys rest met slot ((before index l).0 t)
    to (inr h) = placed_last es front number keys rest met slot (subst (λ (xs : Lanes). IsPlacedBelow 64 (slice_index xs) slot) own h)

    from : IsPlaced (at front) slot ⊎ IsPlacedBelow 64 (slice_index keys) slot → IsSet was index ⊎ IsPlacedBelow 64 (slice_index read) slot
    from (inl p) = inl ((before index l).1 p)
    from (inr h) = inr (subst (λ (xs : Lanes). IsPlacedBelow 64 (slice_index xs) slot) (sym own) h)

-- counted marks count live slots
pub counted : (keys : ℕ → ℕ) (group slots count : ℕ) (marks : List Bool) → slots ≤ 128 → AreMarks keys group marks
    → IsCount (IsMarkedIn marks group slots) count → IsLiveCount keys group slots count
counted keys group slots count marks few reported h = count_same (IsMarkedIn marks group slots) (IsLiveIn keys group slots) count to from h
  where
    slot_is : (slot : ℕ) → slot / 128 ≡ group → 128 * group + slot % 128 ≡ slot
    slot_is slot e = omega arith

    to : (slot : ℕ) → IsMarkedIn marks group slots slot → IsLiveIn keys group slots slot
    to slot m = record {
      own = m.own;
      among = m.among;
      live = live_placed keys slot (subst (IsPlaced keys) (slot_is slot m.own) ((reported (slot % 128) (omega (arith, m.among))).0 m.marked));
    }

    from : (slot : ℕ) → IsLiveIn keys group slots slot → IsMarkedIn marks group slots slot
    from slot m = record {
      own = m.own;
      among = m.among;
      marked = (reported (slot % 128) (omega (arith, m.among))).1 (subst (IsPlaced keys) (sym (slot_is slot m.own)) (placed_live keys slot m.live));
    }

-- what is read of the marks
pub is_set : (marks : List Bool) (index : ℕ) → length marks ≡ 128 → index < 128 → get_or marks index false ≡ true → IsSet marks index
is_set marks index long l is = slice_get-get_or marks index false (omega arith) ∙ ap (λ b. Some b) is

pub not_set : (marks : List Bool) (index : ℕ) → get_or marks index false ≡ false → IsSet marks index → ⊥
not_set marks index is set =
    let one = get_or_from_slice_get marks index true false set in
    let both : true ≡ false = sym one ∙ is in
    cc

-- one index more is marked, and counted
pub count_more : (marks : List Bool) (group slots index count : ℕ) (numbers : List ℕ) → index < slots → slots ≤ 128 → IsSet marks index
    → ListsBelow (IsMarkedIn marks group slots) (128 * group + index) numbers → length numbers ≡ count
    → (more : List ℕ) × ListsBelow (IsMarkedIn marks group slots) (128 * group + (index + 1)) more × (length more ≡ count + 1)
count_more marks group slots index count numbers l few set h long =
    let slot : ℕ = 128 * group + index in
    let at : slot % 128 ≡ index = omega arith in
    let is : IsMarkedIn marks group slots slot = record { own = omega arith; among = omega (arith, at); marked = subst (IsSet marks) (sym at) set } in
    let more = below_more (IsMarkedIn marks group slots) slot numbers is h in
    (numbers ++ slot ∷ [], subst (λ b. ListsBelow (IsMarkedIn marks group slots) b (numbers ++ slot ∷ [])) (omega arith) more, length_push numbers slot ∙ ap (λ n. n + 1) long)

-- or isn't marked
pub count_skip : (marks : List Bool) (group slots index count : ℕ) (numbers : List ℕ) → index < 128 → (IsSet marks index → ⊥)
    → ListsBelow (IsMarkedIn marks group slots) (128 * group + index) numbers → length numbers ≡ count
    → (more : List ℕ) × ListsBelow (IsMarkedIn marks group slots) (128 * group + (index + 1)) more × (length more ≡ count)
count_skip marks group slots index count numbers l unset h long = (
  numbers,
  below_skip (IsMarkedIn marks group slots) (128 * group + index) (128 * group + (index + 1)) numbers (omega arith) none h,
  long,
)
  where
    none : (n : ℕ) → 128 * group + index ≤ n → n < 128 * group + (index + 1) → IsMarkedIn marks group slots n → ⊥
    none n a b m = unset (subst (IsSet marks) (omega (arith, a, b, l)) m.marked)
