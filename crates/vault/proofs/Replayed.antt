-- One call more of a vault in memory.
use Rattle.std.proofs.Common.{◌≡◌, ◌≢◌, ◌≤◌, ◌⊎◌, inl, inr, ℕ, zero, suc, ◌+◌, Bool, true, Option, Some, None, is_some, Result, Ok, Err, List, [], ◌∷◌, ◌++◌, length, take, refl, sym, ◌∙◌, ap, subst, arith, length-append}
use Rattle.std.specs.Prelude.{OnOk, OnErr, slice_get}
use Rattle.std.proofs.lemmas.List.{take_all, take-append-le}
use Rattle.std.proofs.lemmas.Option.{none-some, same_Some}
use Rattle.extent_groups.specs.declared.place.Place.{Place}
use Rattle.vault.specs.declared.store.Stop.{Stop}
use Rattle.vault.specs.declared.store.Stop.TheVariants.{Killed, PowerLost}
use Rattle.vault.specs.declared.store.VaultError.{VaultError}
use Rattle.vault.specs.Images.{Image, Alike, SameOn, with_write, with_journal}
use Rattle.vault.specs.Moments.{Torn, Elapses, with_or_without, IsRejected}
use Rattle.vault.specs.Replay.{start, left_first, seen_after, leaves_during, leaves_after, seen_from, leaves_from, seen_at, leaves_at, leaves_in, LeftSince}
use Rattle.vault.specs.declared.memory.Call.{Call}
use Rattle.vault.specs.declared.memory.Call.TheVariants.{Unit as UnitCall, SyncUnits, Append, SyncJournal, Clear}
use Rattle.extent_groups.specs.Cells.{held}
use Rattle.extent_groups.specs.Planned.{Intended, over}
use Rattle.vault.proofs.Writes.{some_with, take_next}
use Rattle.extent_groups.proofs.Finishing.{write_else, write_here}
use Rattle.std.proofs.lemmas.Bool.{true≢false}

seen_more_from : (calls : List Call) (call : Call) (s : Image) → seen_from s (calls ++ call ∷ []) ≡ seen_after call (seen_from s calls)
seen_more_from [] call s = refl
seen_more_from (first ∷ calls) call s = seen_more_from calls call (seen_after first s)

pub seen_more : (calls : List Call) (call : Call) → seen_at (calls ++ call ∷ []) ≡ seen_after call (seen_at calls)
seen_more calls call = seen_more_from calls call start

leaves_to : (stop : Stop) (calls : List Call) (call : Call) (s : Image) (leaves : Image → Type 0) (i : Image) → leaves_from stop s leaves (calls ++ call ∷ []) i
    → leaves_after stop call (seen_from s calls) (λ j. leaves_from stop s leaves calls j) i
leaves_to stop [] call s leaves i left = left
leaves_to stop (first ∷ calls) call s leaves i left = leaves_to stop calls call (seen_after first s) (leaves_after stop first s leaves) i left

pub left_more : (stop : Stop) (calls : List Call) (call : Call) (i : Image) → leaves_at stop (calls ++ call ∷ []) i → leaves_after stop call (seen_at calls) (λ j. leaves_at stop calls j) i
left_more stop calls call i left = leaves_to stop calls call start left_first i left

torn_same : (place : Place) (i : Image) → Torn place i i
torn_same place i = record { there = λ x. refl; elsewhere = λ x ne. refl; journal = refl }

torn_whole : (place : Place) (unit : List ℕ) (j i : Image) → Alike i (with_write j place unit) → Torn place j i
torn_whole place unit j i alike = record {
  there = λ x. ap (λ (o : Option (List ℕ)). is_some o) (alike.cells x) ∙ some_with j.cells (record { place = place; unit = unit }) x;
  elsewhere = λ x ne. alike.cells x ∙ write_else j.cells (record { place = place; unit = unit }) x (λ e. ne (sym e));
  journal = alike.journal;
}

-- what a stop left before a call, and what it leaves after it, it may leave during it
still : (call : Call) (s : Image) (leaves : Image → Type 0) (i : Image) → leaves i → leaves_during call s leaves i
still (UnitCall place unit) s leaves i was = (i, was, torn_same place i)
still (SyncUnits lost) s leaves i was = was
still (Append batch) s leaves i was = inl was
still SyncJournal s leaves i was = (i, was, λ x. refl, inl refl)
still Clear s leaves i was = (i, was, record { cells = λ x. refl; journal = inl refl })

at_last : (stop : Stop) (call : Call) (s : Image) (leaves : Image → Type 0) (i : Image) → leaves_after stop call s leaves i → leaves_during call s leaves i
at_last Killed (UnitCall place unit) s leaves i (j, was, alike) = (j, was, torn_whole place unit.items j i alike)
at_last PowerLost (UnitCall place unit) s leaves i now = now
at_last Killed (SyncUnits lost) s leaves i now = now.0
at_last PowerLost (SyncUnits lost) s leaves i now = now.0
at_last Killed (Append batch) s leaves i now = inr now
at_last PowerLost (Append batch) s leaves i now = now
at_last Killed SyncJournal s leaves i now = now.0
at_last PowerLost SyncJournal s leaves i now = now.0
at_last Killed Clear s leaves i now = (now.0, now.1, record { cells = now.2; journal = inr now.3 })
at_last PowerLost Clear s leaves i now = (now.0, now.1, record { cells = now.2; journal = inr now.3 })

-- a call was kept, or it wasn't
pub kept_or_not : {E : Type 0} (r : Result (Unit {0}) E) (calls later : List Call) (call : Call) → OnOk r (later ≡ calls ++ call ∷ []) → OnErr r (later ≡ calls) → (later ≡ calls ++ call ∷ []) ⊎ (later ≡ calls)
kept_or_not (Ok u) calls later call ok err = inl ok
kept_or_not (Err e) calls later call ok err = inr err

-- a call among those and one more
at_first : (calls : List Call) (k : ℕ) (call other : Call) → slice_get calls k ≡ Some other → slice_get (calls ++ call ∷ []) k ≡ Some other
at_first [] k call other at = absurd (none-some other at)
at_first (first ∷ calls) zero call other at = at
at_first (first ∷ calls) (suc k) call other at = at_first calls k call other at

first_or_last : (calls : List Call) (k : ℕ) (call other : Call) → slice_get (calls ++ call ∷ []) k ≡ Some other → ((slice_get calls k ≡ Some other) × (k ≤ length calls)) ⊎ ((k ≡ length calls) × (call ≡ other))
first_or_last [] zero call other at = inr (refl, same_Some call other at)
first_or_last [] (suc k) call other at = absurd (none-some other at)
first_or_last (first ∷ calls) zero call other at = inl (at, omega arith)
first_or_last (first ∷ calls) (suc k) call other at = elim (first_or_last calls k call other at) [
  | inl (there, le) ↦ inl (there, omega (arith, le))
  | inr (e, same) ↦ inr (ap (λ n. suc n) e, same)
]

within : (k n : ℕ) → (k ≤ n) ⊎ (n + 1 ≤ k)
within zero n = inl (omega arith)
within (suc k) zero = inr (omega arith)
within (suc k) (suc n) = elim (within k n) [ inl le ↦ inl (omega (arith, le)) | inr past ↦ inr (omega (arith, past)) ]

-- time goes on by one
time_more : (stop : Stop) (calls : List Call) (call : Call) → Elapses (length calls) (length (calls ++ call ∷ [])) (λ t i. LeftSince stop calls t i) (λ t i. LeftSince stop (calls ++ call ∷ []) t i)
    (leaves_in stop calls call) (λ i. leaves_at stop (calls ++ call ∷ []) i)
time_more stop calls call = record {
  later = omega (arith, length-append calls (call ∷ []));
  nothing_else = λ t i le since. went t i since;
  keeps = λ t i le was. kept t i was;
  ends = λ i now. at_last stop call (seen_at calls) (λ j. leaves_at stop calls j) i (left_more stop calls call i now);
}
  where
    to : (k : ℕ) → k ≤ length calls → take k (calls ++ call ∷ []) ≡ take k calls
    to k le = take-append-le k calls (call ∷ []) le

    went : (t : ℕ) (i : Image) → LeftSince stop (calls ++ call ∷ []) t i → LeftSince stop calls t i ⊎ leaves_in stop calls call i
    went t i (k, low, most, inl left) = elim (within k (length calls)) [
      | inl le ↦ inl (k, low, le, inl (subst (λ (l : List Call). leaves_at stop l i) (to k le) left))
      | inr past ↦ inr (at_last stop call (seen_at calls) (λ j. leaves_at stop calls j) i
          (left_more stop calls call i (subst (λ (l : List Call). leaves_at stop l i) (take_all k (calls ++ call ∷ []) (omega (arith, past, length-append calls (call ∷ [])))) left)))
    ]
    went t i (k, low, most, inr (other, at, left)) = elim (first_or_last calls k call other at) [
      | inl (there, le) ↦ inl (k, low, le, inr (other, there, subst (λ (l : List Call). leaves_in stop l other i) (to k le) left))
      | inr (e, same) ↦ inr (subst (λ (c : Call). leaves_in stop calls c i) (sym same)
          (subst (λ (l : List Call). leaves_in stop l other i) (to k (omega (arith, e)) ∙ take_all k calls (omega (arith, e))) left))
    ]

    kept : (t : ℕ) (i : Image) → LeftSince stop calls t i → LeftSince stop (calls ++ call ∷ []) t i
    kept t i (k, low, most, inl left) = (k, low, omega (arith, most, length-append calls (call ∷ [])), inl (subst (λ (l : List Call). leaves_at stop l i) (sym (to k most)) left))
    kept t i (k, low, most, inr (other, at, left)) =
        (k, low, omega (arith, most, length-append calls (call ∷ [])), inr (other, at_first calls k call other at, subst (λ (l : List Call). leaves_in stop l other i) (sym (to k most)) left))

-- time where no call was made
pub time_same : (stop : Stop) (calls : List Call) → Elapses (length calls) (length calls) (λ t i. LeftSince stop calls t i) (λ t i. LeftSince stop calls t i) (λ i. leaves_at stop calls i) (λ i. leaves_at stop calls i)
time_same stop calls = record { later = omega arith; nothing_else = λ t i le since. inl since; keeps = λ t i le was. was; ends = λ i now. now }

time_still : (stop : Stop) (calls : List Call) (call : Call) → Elapses (length calls) (length calls) (λ t i. LeftSince stop calls t i) (λ t i. LeftSince stop calls t i) (leaves_in stop calls call) (λ i. leaves_at stop calls i)
time_still stop calls call = record { later = omega arith; nothing_else = λ t i le since. inl since; keeps = λ t i le was. was; ends = λ i now. still call (seen_at calls) (λ j. leaves_at stop calls j) i now }

pub time_on : (stop : Stop) (calls later : List Call) (call : Call) → (later ≡ calls ++ call ∷ []) ⊎ (later ≡ calls)
    → Elapses (length calls) (length later) (λ t i. LeftSince stop calls t i) (λ t i. LeftSince stop later t i) (leaves_in stop calls call) (λ i. leaves_at stop later i)
time_on stop calls later call (inl more) =
    subst (λ (l : List Call). Elapses (length calls) (length l) (λ t i. LeftSince stop calls t i) (λ t i. LeftSince stop l t i) (leaves_in stop calls call) (λ i. leaves_at stop l i)) (sym more) (time_more stop calls call)
time_on stop calls later call (inr same) =
    subst (λ (l : List Call). Elapses (length calls) (length l) (λ t i. LeftSince stop calls t i) (λ t i. LeftSince stop l t i) (leaves_in stop calls call) (λ i. leaves_at stop l i)) (sym same) (time_still stop calls call)

-- what calls find, and what a stop leaves, after a call that was kept
pub alike_of : (i j : Image) → i ≡ j → Alike i j
alike_of i j e = subst (λ k. Alike i k) e (record { cells = λ x. refl; journal = refl })

pub found : (calls later : List Call) (call : Call) → later ≡ calls ++ call ∷ [] → seen_at later ≡ seen_after call (seen_at calls)
found calls later call more = ap seen_at more ∙ seen_more calls call

pub left : (stop : Stop) (calls later : List Call) (call : Call) → later ≡ calls ++ call ∷ [] → (i : Image) → leaves_at stop later i → leaves_after stop call (seen_at calls) (λ j. leaves_at stop calls j) i
left stop calls later call more i now = left_more stop calls call i (subst (λ (l : List Call). leaves_at stop l i) more now)

pub found_same : (calls later : List Call) (call : Call) → seen_after call (seen_at calls) ≡ seen_at calls → (later ≡ calls ++ call ∷ []) ⊎ (later ≡ calls) → seen_at later ≡ seen_at calls
found_same calls later call same (inl more) = found calls later call more ∙ same
found_same calls later call same (inr e) = ap seen_at e

pub found_torn : (calls later : List Call) (place : Place) (unit : List ℕ) (call : Call) → seen_after call (seen_at calls) ≡ with_write (seen_at calls) place unit → (later ≡ calls ++ call ∷ []) ⊎ (later ≡ calls)
    → Torn place (seen_at calls) (seen_at later)
found_torn calls later place unit call does (inl more) = torn_whole place unit (seen_at calls) (seen_at later) (alike_of _ _ (found calls later call more ∙ does))
found_torn calls later place unit call does (inr e) = subst (λ s. Torn place (seen_at calls) s) (sym (ap seen_at e)) (torn_same place (seen_at calls))

-- a call that was refused
pub err_at : {T : Type 0} (P : Type 0) (r : Result T VaultError) → IsRejected r → OnErr r P → P
err_at P (Ok x) (inl is) err = absurd (cc is)
err_at P (Ok x) (inr is) err = absurd (cc is)
err_at P (Err e) is err = err

pub time_append : (stop : Stop) (calls later : List Call) (batch writes : List Intended) → batch ≡ writes → (later ≡ calls ++ Append batch ∷ []) ⊎ (later ≡ calls)
    → Elapses (length calls) (length later) (λ t i. LeftSince stop calls t i) (λ t i. LeftSince stop later t i) (with_or_without (seen_at calls) writes (λ i. leaves_at stop calls i)) (λ i. leaves_at stop later i)
time_append stop calls later batch writes same kept =
    subst (λ ws. Elapses (length calls) (length later) (λ t i. LeftSince stop calls t i) (λ t i. LeftSince stop later t i) (with_or_without (seen_at calls) ws (λ i. leaves_at stop calls i)) (λ i. leaves_at stop later i)) same
    (time_on stop calls later (Append batch) kept)

-- one call more was replayed
pub seen_next : (calls : List Call) (k : ℕ) (call : Call) → slice_get calls k ≡ Some call → seen_at (take (k + 1) calls) ≡ seen_after call (seen_at (take k calls))
seen_next calls k call at = ap seen_at (take_next calls k call at) ∙ seen_more (take k calls) call

-- what a sync and the emptied journal leave
pub at_units : (stop : Stop) (lost : List Bool) (s : Image) (leaves : Image → Type 0) (i : Image) → leaves_after stop (SyncUnits lost) s leaves i → SameOn lost i.cells s.cells
at_units Killed lost s leaves i now = now.1
at_units PowerLost lost s leaves i now = now.1

pub at_journal : (stop : Stop) (s : Image) (leaves : Image → Type 0) (i : Image) → leaves_after stop SyncJournal s leaves i → i.journal ≡ s.journal
at_journal Killed s leaves i now = now.1
at_journal PowerLost s leaves i now = now.1

pub at_clear : (stop : Stop) (s : Image) (leaves : Image → Type 0) (i : Image) → leaves_after stop Clear s leaves i → i.journal ≡ []
at_clear Killed s leaves i now = now.3
at_clear PowerLost s leaves i now = now.3

-- a unit is at each place
all_from : (calls : List Call) (s : Image) → ((x : Place) → is_some (held s.cells x) ≡ true) → (x : Place) → is_some (held (seen_from s calls).cells x) ≡ true
all_from [] s there x = there x
all_from (UnitCall place unit ∷ calls) s there x = all_from calls (with_write s place unit.items) (λ y. some_with s.cells (record { place = place; unit = unit.items }) y ∙ there y) x
all_from (SyncUnits lost ∷ calls) s there x = all_from calls s there x
all_from (Append batch ∷ calls) s there x = all_from calls (with_journal s (s.journal ++ batch ∷ [])) there x
all_from (SyncJournal ∷ calls) s there x = all_from calls s there x
all_from (Clear ∷ calls) s there x = all_from calls (with_journal s []) there x

over_there : (o : Option (List ℕ)) (unit : List ℕ) → is_some o ≡ true → over o unit ≡ Some unit
over_there None unit there = absurd (true≢false (sym there))
over_there (Some old) unit there = refl

-- what is found after a write
pub unit_there : (calls : List Call) (at place : Place) (unit : List ℕ) → at ≡ place → held (with_write (seen_at calls) at unit).cells place ≡ Some unit
unit_there calls at place unit same =
    subst (λ p. held (with_write (seen_at calls) at unit).cells p ≡ Some unit) same
    (write_here (seen_at calls).cells (record { place = at; unit = unit }) ∙ over_there (held (seen_at calls).cells at) unit (all_from calls start (λ x. refl) at))

pub unit_not : (calls : List Call) (at place : Place) (unit : List ℕ) → at ≢ place → held (with_write (seen_at calls) at unit).cells place ≡ held (seen_at calls).cells place
unit_not calls at place unit apart = write_else (seen_at calls).cells (record { place = at; unit = unit }) place apart
