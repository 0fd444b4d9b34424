-- A plan's writes as entries of a list.
use Rattle.std.proofs.Common.{◌≡◌, ◌≤◌, ◌+◌, ◌++◌, ℕ, suc, Option, Some, None, List, [], ◌∷◌, length, map, slice_get, refl, sym, ap, ◌∙◌, arith, Vec}
use Rattle.std.proofs.lemmas.List.{length-map, length-append, map-append, append-nil, append_assoc}
use Rattle.std.specs.Global.{Global}
use Rattle.extent_groups.specs.declared.place.Place.{Place}
use Rattle.extent_groups.specs.Groups.{Groups}
use Rattle.extent_groups.specs.Cells.{Cells, held}
use Rattle.extent_groups.specs.Planned.{Intended, before, places_in, if_held, present}
use Rattle.extent_groups.specs.PlanLists.{as_expected, listed}
use Rattle.extent_groups.specs.Units.{Site, Pair, InStripe, site_of}
use Rattle.unit_store.specs.Micros.{writes_in}
use Rattle.unit_store.specs.Notes.{IsSlotPlan}
use Rattle.unit_store.specs.declared.micro.Micro.{Micro}
use Rattle.unit_store.specs.declared.micro.Micro.TheVariants.{NoteSet, Write, NoteClear}
use Rattle.unit_store.specs.declared.note.Note.{Note}
use Rattle.header_scan.specs.Stops.{ArePuts, IsNotedList}

abbrev pub as_micro : (ℕ × ℕ × Vec ℕ Global) → Micro
as_micro w = Write w.0 w.1 w.2

abbrev pub puts_of : List (ℕ × ℕ × Vec ℕ Global) → List Micro
puts_of writes = map as_micro writes

-- each entry writes a unit, and together they are the plan's writes
pub are_puts : (ws : List (ℕ × ℕ × Vec ℕ Global)) → ArePuts (puts_of ws)
are_puts [] = tt
are_puts (w ∷ ws) = are_puts ws

pub puts_writes : (ws : List (ℕ × ℕ × Vec ℕ Global)) → writes_in (puts_of ws) ≡ listed ws
puts_writes [] = refl
puts_writes (w ∷ ws) = ap (λ xs. as_expected w ∷ xs) (puts_writes ws)

-- a plan has at most two writes
few_held : (o : Option (List ℕ)) (w : Intended) (ws : List Intended) (n : ℕ) → length ws ≤ n → length (if_held o w ws) ≤ suc n
few_held None w ws n low = omega (arith, low)
few_held (Some u) w ws n low = omega (arith, low)

few_present : (c : Cells) (expected : Place → List ℕ) (xs : List Place) → length (present c expected xs) ≤ length xs
few_present c expected [] = omega arith
few_present c expected (x ∷ xs) = few_held (held c x) _ (present c expected xs) (length xs) (few_present c expected xs)

few_before : (o : Option Place) (xs : List Place) (n : ℕ) → length xs ≤ n → length (before o xs) ≤ suc n
few_before None xs n low = omega (arith, low)
few_before (Some x) xs n low = omega (arith, low)

few_places : (site : Option Site) → length (places_in site) ≤ 2
few_places None = omega arith
few_places (Some (Pair p q)) = omega arith
few_places (Some (InStripe row parity i)) = few_before (slice_get row i) (before (slice_get row parity) []) 1 (few_before (slice_get row parity) [] 0 (omega arith))

pub few_writes : (groups : Groups) (c : Cells) (slot : ℕ) (unit : List ℕ) (ws : List (ℕ × ℕ × Vec ℕ Global)) (parity : Option (List ℕ)) → IsSlotPlan groups c slot unit (listed ws) parity → length ws ≤ 2
few_writes groups c slot unit ws parity plan =
    let many : length (listed ws) ≡ length ws = length-map ws as_expected in
    let same = ap length plan.plan.listed in
    let low = few_present c plan.expected (places_in (site_of groups slot)) in
    let most = few_places (site_of groups slot) in
    omega (arith, many, same, low, most)

-- the length of a list of other entries, followed by those of the writes so far
pub one_more : (list first : List Micro) (done rest all : List (ℕ × ℕ × Vec ℕ Global)) → list ≡ first ++ puts_of done → done ++ rest ≡ all → length list + length rest ≡ length first + length all
one_more list first done rest all is whole =
    let a : length list ≡ length first + length (puts_of done) = ap length is ∙ length-append first (puts_of done) in
    let b : length (puts_of done) ≡ length done = length-map done as_micro in
    let c : length all ≡ length done + length rest = ap length (sym whole) ∙ length-append done rest in
    omega (arith, a, b, c)

-- one entry more
pub puts_more : (list first : List Micro) (done : List (ℕ × ℕ × Vec ℕ Global)) (w : ℕ × ℕ × Vec ℕ Global) (new : List Micro) → list ≡ first ++ puts_of done → new ≡ list ++ as_micro w ∷ [] → new ≡ first ++ puts_of (done ++ w ∷ [])
puts_more list first done w new is more =
    more ∙ ap (λ xs. xs ++ as_micro w ∷ []) is ∙ append_assoc first (puts_of done) (as_micro w ∷ []) ∙ ap (λ xs. first ++ xs) (sym (map-append as_micro done (w ∷ [])))

-- the whole list: a note, the writes, the note cleared
pub listed_whole : (note : Note) (first begun final : List Micro) (done rest all writes : List (ℕ × ℕ × Vec ℕ Global)) → first ≡ NoteSet note ∷ [] → begun ≡ first ++ puts_of done → done ++ rest ≡ all → rest ≡ [] → all ≡ writes
    → final ≡ begun ++ NoteClear ∷ [] → IsNotedList note (listed writes) final
listed_whole note first begun final done rest all writes head is whole none same end = record {
  puts = puts_of writes;
  is = end ∙ ap (λ xs. xs ++ NoteClear ∷ []) (is ∙ ap (λ xs. xs ++ puts_of done) head ∙ ap (λ xs. NoteSet note ∷ puts_of xs) (sym (append-nil done) ∙ ap (λ xs. done ++ xs) (sym none) ∙ whole ∙ same));
  only = are_puts writes;
  writes_are = puts_writes writes;
}
