-- One call more of files in memory.
use Rattle.std.proofs.Common.{◌≡◌, ◌≤◌, ◌<◌, ◌⊎◌, inl, inr, ℕ, zero, suc, ◌+◌, ◌-◌, ◌==◌, Bool, true, false, if◌then◌else◌, Some, Result, Ok, Err, Vec, Global, List, [], ◌∷◌, ◌++◌, length, take, get_or, refl, sym, ◌∙◌, ap, subst, arith, length-append}
use Rattle.std.specs.Prelude.{OnOk, OnErr, slice_get, ◌&&◌, nat_le, nat_lt}
use Rattle.std.proofs.lemmas.Bool.{ne_eqb, eq-eqb, le-leb, lt-ltb, le-ltb, lt-leb}
use Rattle.std.proofs.lemmas.List.{take_all, take-append-le}
use Rattle.std.proofs.lemmas.Option.{none-some, same_Some}
use Rattle.vault.specs.Moments.{Elapses}
use Rattle.vault.proofs.Writes.{take_next}
use Rattle.vault.specs.declared.store.Stop.{Stop}
use Rattle.vault.specs.declared.store.Stop.TheVariants.{Killed, PowerLost}
use Rattle.file_vault.specs.declared.mem_files.FileCall.{FileCall}
use Rattle.file_vault.specs.declared.mem_files.FileCall.TheVariants.{Write, TornWrite, Cut, TornCut, Sync}
use Rattle.file_vault.specs.Folders.{Folder, Wrote, Mixed, WasCut, CutShort, mixed_at}
use Rattle.file_vault.specs.Calls.{file_patched, file_cut, left_first, seen_after, leaves_during, leaves_after, seen_from, leaves_from, leaves_at, LeftSince}

pub seen_more : (calls : List FileCall) (call : FileCall) (f : Folder) → seen_from f (calls ++ call ∷ []) ≡ seen_after call (seen_from f calls)
seen_more [] call f = refl
seen_more (first ∷ calls) call f = seen_more calls call (seen_after first f)

pub left_more : (stop : Stop) (calls : List FileCall) (call : FileCall) (f : Folder) (leaves : Folder → Type 0) (g : Folder) → leaves_from stop f leaves (calls ++ call ∷ []) g
    → leaves_after stop call (seen_from f calls) (λ h. leaves_from stop f leaves calls h) g
left_more stop [] call f leaves g left = left
left_more stop (first ∷ calls) call f leaves g left = left_more stop calls call (seen_after first f) (leaves_after stop first f leaves) g left

-- a write that is whole is one that may be cut short, and so is one that wasn't begun
pub whole_mixed : (file at : ℕ) (bytes : List ℕ) (f g : Folder) → Wrote file at bytes f g → Mixed file at bytes f g
whole_mixed file at bytes f g wrote = record { inside = λ j low. inr (wrote.inside j low); outside = wrote.outside; others = wrote.others }

pub none_mixed : (file at : ℕ) (bytes : List ℕ) (f : Folder) → Mixed file at bytes f f
none_mixed file at bytes f = record { inside = λ j low. inl refl; outside = λ k where_. refl; others = λ d ne. refl }

-- the same of a cut
pub whole_cut : (file at : ℕ) (f g : Folder) → WasCut file at f g → CutShort file at f g
whole_cut file at f g cut = record { before = cut.before; either = λ k past. inr (cut.zeros k past); others = cut.others }

pub none_cut : (file at : ℕ) (f : Folder) → CutShort file at f f
none_cut file at f = record { before = λ k low. refl; either = λ k past. inl refl; others = λ d ne. refl }

still : (call : FileCall) (leaves : Folder → Type 0) (g : Folder) → leaves g → leaves_during call leaves g
still (Write file at bytes) leaves g was = (g, was, none_mixed file at bytes.items g)
still (TornWrite file at bytes) leaves g was = (g, was, none_mixed file at bytes.items g)
still (Cut file at) leaves g was = (g, was, none_cut file at g)
still (TornCut file at) leaves g was = (g, was, none_cut file at g)
still (Sync file) leaves g was = was

at_last : (stop : Stop) (call : FileCall) (f : Folder) (leaves : Folder → Type 0) (g : Folder) → leaves_after stop call f leaves g → leaves_during call leaves g
at_last Killed (Write file at bytes) f leaves g (h, was, wrote) = (h, was, whole_mixed file at bytes.items h g wrote)
at_last PowerLost (Write file at bytes) f leaves g now = now
at_last Killed (TornWrite file at bytes) f leaves g now = now
at_last PowerLost (TornWrite file at bytes) f leaves g now = now
at_last Killed (Cut file at) f leaves g now = now
at_last PowerLost (Cut file at) f leaves g now = now
at_last Killed (TornCut file at) f leaves g now = now
at_last PowerLost (TornCut file at) f leaves g now = now
at_last Killed (Sync file) f leaves g now = now.0
at_last PowerLost (Sync file) f leaves g now = now.0

pub kept_or_not : {E : Type 0} (r : Result (Unit {0}) E) (calls later : List FileCall) (call : FileCall) → OnOk r (later ≡ calls ++ call ∷ []) → OnErr r (later ≡ calls) → (later ≡ calls ++ call ∷ []) ⊎ (later ≡ calls)
kept_or_not (Ok u) calls later call ok err = inl ok
kept_or_not (Err e) calls later call ok err = inr err

at_first : (calls : List FileCall) (k : ℕ) (call other : FileCall) → slice_get calls k ≡ Some other → slice_get (calls ++ call ∷ []) k ≡ Some other
at_first [] k call other at = absurd (none-some other at)
at_first (first ∷ calls) zero call other at = at
at_first (first ∷ calls) (suc k) call other at = at_first calls k call other at

first_or_last : (calls : List FileCall) (k : ℕ) (call other : FileCall) → slice_get (calls ++ call ∷ []) k ≡ Some other → ((slice_get calls k ≡ Some other) × (k ≤ length calls)) ⊎ ((k ≡ length calls) × (call ≡ other))
first_or_last [] zero call other at = inr (refl, same_Some call other at)
first_or_last [] (suc k) call other at = absurd (none-some other at)
first_or_last (first ∷ calls) zero call other at = inl (at, omega arith)
first_or_last (first ∷ calls) (suc k) call other at = elim (first_or_last calls k call other at) [
  | inl (there, le) ↦ inl (there, omega (arith, le))
  | inr (e, same) ↦ inr (ap (λ n. suc n) e, same)
]

within : (k n : ℕ) → (k ≤ n) ⊎ (n + 1 ≤ k)
within zero n = inl (omega arith)
within (suc k) zero = inr (omega arith)
within (suc k) (suc n) = elim (within k n) [ inl le ↦ inl (omega (arith, le)) | inr past ↦ inr (omega (arith, past)) ]

module _ (stop : Stop) (first : Folder) where
  time_more : (calls : List FileCall) (call : FileCall)
      → Elapses (length calls) (length (calls ++ call ∷ [])) (λ t g. LeftSince stop first calls t g) (λ t g. LeftSince stop first (calls ++ call ∷ []) t g)
      (λ g. leaves_during call (λ h. leaves_at stop first calls h) g) (λ g. leaves_at stop first (calls ++ call ∷ []) g)
  time_more calls call = record {
    later = omega (arith, length-append calls (call ∷ []));
    nothing_else = λ t g le since. went t g since;
    keeps = λ t g le was. kept t g was;
    ends = λ g now. at_last stop call (seen_from first calls) (λ h. leaves_at stop first calls h) g (left_more stop calls call first (left_first first) g now);
  }
    where
      to : (k : ℕ) → k ≤ length calls → take k (calls ++ call ∷ []) ≡ take k calls
      to k le = take-append-le k calls (call ∷ []) le

      went : (t : ℕ) (g : Folder) → LeftSince stop first (calls ++ call ∷ []) t g → LeftSince stop first calls t g ⊎ leaves_during call (λ h. leaves_at stop first calls h) g
      went t g (k, low, most, inl left) = elim (within k (length calls)) [
        | inl le ↦ inl (k, low, le, inl (subst (λ (l : List FileCall). leaves_at stop first l g) (to k le) left))
        | inr past ↦ inr (at_last stop call (seen_from first calls) (λ h. leaves_at stop first calls h) g
            (left_more stop calls call first (left_first first) g (subst (λ (l : List FileCall). leaves_at stop first l g) (take_all k (calls ++ call ∷ []) (omega (arith, past, length-append calls (call ∷ [])))) left)))
      ]
      went t g (k, low, most, inr (other, at, left)) = elim (first_or_last calls k call other at) [
        | inl (there, le) ↦ inl (k, low, le, inr (other, there, subst (λ (l : List FileCall). leaves_during other (λ h. leaves_at stop first l h) g) (to k le) left))
        | inr (e, same) ↦ inr (subst (λ (c : FileCall). leaves_during c (λ h. leaves_at stop first calls h) g) (sym same)
            (subst (λ (l : List FileCall). leaves_during other (λ h. leaves_at stop first l h) g) (to k (omega (arith, e)) ∙ take_all k calls (omega (arith, e))) left))
      ]

      kept : (t : ℕ) (g : Folder) → LeftSince stop first calls t g → LeftSince stop first (calls ++ call ∷ []) t g
      kept t g (k, low, most, inl left) = (k, low, omega (arith, most, length-append calls (call ∷ [])), inl (subst (λ (l : List FileCall). leaves_at stop first l g) (sym (to k most)) left))
      kept t g (k, low, most, inr (other, at, left)) =
          (k, low, omega (arith, most, length-append calls (call ∷ [])), inr (other, at_first calls k call other at, subst (λ (l : List FileCall). leaves_during other (λ h. leaves_at stop first l h) g) (sym (to k most)) left))

  pub time_same : (calls later : List FileCall) → later ≡ calls
      → Elapses (length calls) (length later) (λ t g. LeftSince stop first calls t g) (λ t g. LeftSince stop first later t g) (λ g. leaves_at stop first calls g) (λ g. leaves_at stop first later g)
  time_same calls later same =
      subst (λ (l : List FileCall). Elapses (length calls) (length l) (λ t g. LeftSince stop first calls t g) (λ t g. LeftSince stop first l t g) (λ g. leaves_at stop first calls g) (λ g. leaves_at stop first l g)) (sym same)
      (record { later = omega arith; nothing_else = λ t g le since. inl since; keeps = λ t g le was. was; ends = λ g now. now })

  time_still : (calls : List FileCall) (call : FileCall)
      → Elapses (length calls) (length calls) (λ t g. LeftSince stop first calls t g) (λ t g. LeftSince stop first calls t g) (λ g. leaves_during call (λ h. leaves_at stop first calls h) g) (λ g. leaves_at stop first calls g)
  time_still calls call = record { later = omega arith; nothing_else = λ t g le since. inl since; keeps = λ t g le was. was; ends = λ g now. still call (λ h. leaves_at stop first calls h) g now }

  pub time_on : (calls later : List FileCall) (call : FileCall) → (later ≡ calls ++ call ∷ []) ⊎ (later ≡ calls)
      → Elapses (length calls) (length later) (λ t g. LeftSince stop first calls t g) (λ t g. LeftSince stop first later t g)
      (λ g. leaves_during call (λ h. leaves_at stop first calls h) g) (λ g. leaves_at stop first later g)
  time_on calls later call (inl more) =
      subst (λ (l : List FileCall). Elapses (length calls) (length l) (λ t g. LeftSince stop first calls t g) (λ t g. LeftSince stop first l t g) (λ g. leaves_during call (λ h. leaves_at stop first calls h) g) (λ g. leaves_at stop first l g)) (sym more) (time_more calls call)
  time_on calls later call (inr same) =
      subst (λ (l : List FileCall). Elapses (length calls) (length l) (λ t g. LeftSince stop first calls t g) (λ t g. LeftSince stop first l t g) (λ g. leaves_during call (λ h. leaves_at stop first calls h) g) (λ g. leaves_at stop first l g)) (sym same) (time_still calls call)

never : (b : Bool) → (b && false) ≡ false
never true = refl
never false = refl

-- the bytes that a write leaves
pub over_wrote : (f : Folder) (file at : ℕ) (bytes : List ℕ) → Wrote file at bytes f (file_patched f file at bytes)
over_wrote f file at bytes = record {
  inside = λ j low. ap (λ b. if b then get_or bytes (at + j - at) 0 else f file (at + j)) (here j low) ∙ ap (λ n. get_or bytes n 0) (omega arith);
  outside = λ k out. ap (λ b. if b then get_or bytes (k - at) 0 else f file k) (there k out);
  others = λ d ne. λ i k. (ap (λ b. if b then get_or bytes (k - at) 0 else f d k) (ap (λ b. b && ((nat_le at k) && (nat_lt k (at + length bytes)))) (ne_eqb d file ne))) i;
}
  where
    here : (j : ℕ) → j < length bytes → ((file == file) && ((nat_le at (at + j)) && (nat_lt (at + j) (at + length bytes)))) ≡ true
    here j low =
        ap (λ b. b && ((nat_le at (at + j)) && (nat_lt (at + j) (at + length bytes)))) (eq-eqb file file refl)
        ∙ ap (λ b. b && (nat_lt (at + j) (at + length bytes))) (le-leb at (at + j) (omega arith)) ∙ lt-ltb (at + j) (at + length bytes) (omega (arith, low))

    there : (k : ℕ) → (k < at) ⊎ (at + length bytes ≤ k) → ((file == file) && ((nat_le at k) && (nat_lt k (at + length bytes)))) ≡ false
    there k out =
        ap (λ b. b && ((nat_le at k) && (nat_lt k (at + length bytes)))) (eq-eqb file file refl)
        ∙ elim out [
          | inl low ↦ ap (λ b. b && (nat_lt k (at + length bytes))) (lt-leb at k low)
          | inr high ↦ ap (λ b. (nat_le at k) && b) (le-ltb k (at + length bytes) high) ∙ never (nat_le at k)
        ]

-- what calls find, and what a stop leaves, after a call that was kept
pub found : (first : Folder) (calls later : List FileCall) (call : FileCall) → later ≡ calls ++ call ∷ [] → seen_from first later ≡ seen_after call (seen_from first calls)
found first calls later call more = ap (λ (l : List FileCall). seen_from first l) more ∙ seen_more calls call first

pub left : (stop : Stop) (first : Folder) (calls later : List FileCall) (call : FileCall) → later ≡ calls ++ call ∷ [] → (g : Folder) → leaves_at stop first later g
    → leaves_after stop call (seen_from first calls) (λ h. leaves_at stop first calls h) g
left stop first calls later call more g now = left_more stop calls call first (left_first first) g (subst (λ (l : List FileCall). leaves_at stop first l g) more now)

pub found_mixed : (first : Folder) (calls later : List FileCall) (file at : ℕ) (bytes : List ℕ) (call : FileCall) → seen_after call (seen_from first calls) ≡ file_patched (seen_from first calls) file at bytes
    → (later ≡ calls ++ call ∷ []) ⊎ (later ≡ calls) → Mixed file at bytes (seen_from first calls) (seen_from first later)
found_mixed first calls later file at bytes call does (inl more) =
    subst (λ g. Mixed file at bytes (seen_from first calls) g) (sym (found first calls later call more ∙ does)) (whole_mixed file at bytes (seen_from first calls) (file_patched (seen_from first calls) file at bytes) (over_wrote (seen_from first calls) file at bytes))
found_mixed first calls later file at bytes call does (inr same) =
    subst (λ (l : List FileCall). Mixed file at bytes (seen_from first calls) (seen_from first l)) (sym same) (none_mixed file at bytes (seen_from first calls))

pub found_same : (first : Folder) (calls later : List FileCall) (call : FileCall) → seen_after call (seen_from first calls) ≡ seen_from first calls → (later ≡ calls ++ call ∷ []) ⊎ (later ≡ calls)
    → seen_from first later ≡ seen_from first calls
found_same first calls later call does (inl more) = found first calls later call more ∙ does
found_same first calls later call does (inr same) = ap (λ (l : List FileCall). seen_from first l) same

pub at_sync : (stop : Stop) (file : ℕ) (f : Folder) (leaves : Folder → Type 0) (g : Folder) → leaves_after stop (Sync file) f leaves g → g file ≡ f file
at_sync Killed file f leaves g now = now.1
at_sync PowerLost file f leaves g now = now.1

-- one call more was replayed
pub seen_next : (first : Folder) (calls : List FileCall) (k : ℕ) (call : FileCall) → slice_get calls k ≡ Some call → seen_from first (take (k + 1) calls) ≡ seen_after call (seen_from first (take k calls))
seen_next first calls k call at = ap (λ (l : List FileCall). seen_from first l) (take_next calls k call at) ∙ seen_more (take k calls) call first

-- a write that was cut short, of which calls find nothing
pub cut_mixed : (first : Folder) (calls later : List FileCall) (file at : ℕ) (bytes : List ℕ) (call : FileCall) → seen_after call (seen_from first calls) ≡ seen_from first calls
    → (later ≡ calls ++ call ∷ []) ⊎ (later ≡ calls) → Mixed file at bytes (seen_from first calls) (seen_from first later)
cut_mixed first calls later file at bytes call does kept =
    subst (λ g. Mixed file at bytes (seen_from first calls) g) (sym (found_same first calls later call does kept)) (none_mixed file at bytes (seen_from first calls))

-- time in a write, for the bytes that were copied
pub time_torn : (stop : Stop) (first : Folder) (calls later : List FileCall) (file at : ℕ) (copy : Vec ℕ Global) (bytes : List ℕ) → copy.items ≡ bytes → (later ≡ calls ++ TornWrite file at copy ∷ []) ⊎ (later ≡ calls)
    → Elapses (length calls) (length later) (λ t g. LeftSince stop first calls t g) (λ t g. LeftSince stop first later t g) (mixed_at file at bytes (λ h. leaves_at stop first calls h)) (λ g. leaves_at stop first later g)
time_torn stop first calls later file at copy bytes same kept =
    subst (λ (b : List ℕ). Elapses (length calls) (length later) (λ t g. LeftSince stop first calls t g) (λ t g. LeftSince stop first later t g) (mixed_at file at b (λ h. leaves_at stop first calls h)) (λ g. leaves_at stop first later g)) same
    (time_on stop first calls later (TornWrite file at copy) kept)

pub time_write : (stop : Stop) (first : Folder) (calls later : List FileCall) (file at : ℕ) (copy : Vec ℕ Global) (bytes : List ℕ) → copy.items ≡ bytes → (later ≡ calls ++ Write file at copy ∷ []) ⊎ (later ≡ calls)
    → Elapses (length calls) (length later) (λ t g. LeftSince stop first calls t g) (λ t g. LeftSince stop first later t g) (mixed_at file at bytes (λ h. leaves_at stop first calls h)) (λ g. leaves_at stop first later g)
time_write stop first calls later file at copy bytes same kept =
    subst (λ (b : List ℕ). Elapses (length calls) (length later) (λ t g. LeftSince stop first calls t g) (λ t g. LeftSince stop first later t g) (mixed_at file at b (λ h. leaves_at stop first calls h)) (λ g. leaves_at stop first later g)) same
    (time_on stop first calls later (Write file at copy) kept)

-- a file that was cut
pub over_cut : (f : Folder) (file at : ℕ) → WasCut file at f (file_cut f file at)
over_cut f file at = record {
  before = λ k low. ap (λ b. if (file == file) && b then 0 else f file k) (lt-leb at k low) ∙ ap (λ b. if b then 0 else f file k) (never (file == file));
  zeros = λ k past. ap (λ b. if b && nat_le at k then 0 else f file k) (eq-eqb file file refl) ∙ ap (λ b. if b then 0 else f file k) (le-leb at k past);
  others = λ d ne. λ i k. (ap (λ b. if b && nat_le at k then 0 else f d k) (ne_eqb d file ne)) i;
}

pub cut_found : (first : Folder) (calls later : List FileCall) (file at : ℕ) → later ≡ calls ++ Cut file at ∷ [] → WasCut file at (seen_from first calls) (seen_from first later)
cut_found first calls later file at more =
    subst (λ g. WasCut file at (seen_from first calls) g) (sym (found first calls later (Cut file at) more)) (over_cut (seen_from first calls) file at)

-- a cut that failed, of which calls find nothing
pub cut_nothing : (first : Folder) (calls later : List FileCall) (file at : ℕ) → (later ≡ calls ++ TornCut file at ∷ []) ⊎ (later ≡ calls) → CutShort file at (seen_from first calls) (seen_from first later)
cut_nothing first calls later file at kept =
    subst (λ g. CutShort file at (seen_from first calls) g) (sym (found_same first calls later (TornCut file at) refl kept)) (none_cut file at (seen_from first calls))
