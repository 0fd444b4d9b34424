-- What calls of files in memory leave: what later ones find, and what a stop may leave.
use Rattle.std.specs.Prelude.{◌≡◌, ◌⊎◌, ◌≤◌, ◌+◌, ◌-◌, ◌==◌, ◌&&◌, nat_le, nat_lt, if◌then◌else◌, ℕ, Option, Some, None, List, [], ◌∷◌, length, take, slice_get, get_or}
use mathlib.Core.Logic.{inl, inr}
use Rattle.std.proofs.Common.{Vec, Global, arith, refl, subst, sym}
use Rattle.std.proofs.lemmas.List.{take_all, get_or_past}
use Rattle.std.proofs.lemmas.Option.{none-some}
use Rattle.vault.specs.declared.store.Stop.{Stop}
use Rattle.vault.specs.declared.store.Stop.TheVariants.{Killed, PowerLost}
use Rattle.file_vault.specs.declared.mem_files.FileCall.{FileCall}
use Rattle.file_vault.specs.declared.mem_files.FileCall.TheVariants.{Write, TornWrite, Cut, TornCut, Sync}
use Rattle.file_vault.specs.Folders.{Folder, wrote_at, mixed_at, cut_at}

-- the bytes of an optional file
abbrev pub bytes_of_file : Option (Vec ℕ Global) → ℕ → ℕ
bytes_of_file None k = 0
bytes_of_file (Some v) k = get_or v.items k 0

-- how many there are, and that no byte is past them
abbrev pub length_of : Option (Vec ℕ Global) → ℕ
length_of None = 0
length_of (Some v) = length v.items

pub none_past : (o : Option (Vec ℕ Global)) (k : ℕ) → length_of o ≤ k → bytes_of_file o k ≡ 0
none_past None k past = refl
none_past (Some v) k past = get_or_past v.items k 0 past

-- what the files hold at first
abbrev pub folder_of : List (Vec ℕ Global) → Folder
folder_of first file k = bytes_of_file (slice_get first file) k

abbrev pub left_first : Folder → Folder → Type 0
left_first first g = g ≡ first

-- a file with bytes written over
abbrev pub file_patched : Folder → ℕ → ℕ → List ℕ → Folder
file_patched f file at bytes d k = if (d == file) && ((nat_le at k) && (nat_lt k (at + length bytes))) then get_or bytes (k - at) 0 else f d k

-- a file that was cut
abbrev pub file_cut : Folder → ℕ → ℕ → Folder
file_cut f file at d k = if (d == file) && nat_le at k then 0 else f d k

-- what calls find after one call more; of a write that failed, or of a cut, they find nothing
abbrev pub seen_after : FileCall → Folder → Folder
seen_after (Write file at bytes) f = file_patched f file at bytes.items
seen_after (TornWrite file at bytes) f = f
seen_after (Cut file at) f = file_cut f file at
seen_after (TornCut file at) f = f
seen_after (Sync file) f = f

-- what a stop leaves during a call
abbrev pub leaves_during : FileCall → (Folder → Type 0) → Folder → Type 0
leaves_during (Write file at bytes) leaves g = mixed_at file at bytes.items leaves g
leaves_during (TornWrite file at bytes) leaves g = mixed_at file at bytes.items leaves g
leaves_during (Cut file at) leaves g = cut_at file at leaves g
leaves_during (TornCut file at) leaves g = cut_at file at leaves g
leaves_during (Sync file) leaves g = leaves g

-- what a stop leaves after a call
abbrev pub leaves_after : Stop → FileCall → Folder → (Folder → Type 0) → Folder → Type 0
leaves_after Killed (Write file at bytes) f leaves g = wrote_at file at bytes.items leaves g
leaves_after PowerLost (Write file at bytes) f leaves g = mixed_at file at bytes.items leaves g
leaves_after stop (TornWrite file at bytes) f leaves g = mixed_at file at bytes.items leaves g
leaves_after stop (Cut file at) f leaves g = cut_at file at leaves g
leaves_after stop (TornCut file at) f leaves g = cut_at file at leaves g
leaves_after stop (Sync file) f leaves g = leaves g × (g file ≡ f file)

-- all calls, the first of them first
abbrev pub seen_from : Folder → List FileCall → Folder
seen_from f [] = f
seen_from f (call ∷ calls) = seen_from (seen_after call f) calls

abbrev pub leaves_from : Stop → Folder → (Folder → Type 0) → List FileCall → Folder → Type 0
leaves_from stop f leaves [] g = leaves g
leaves_from stop f leaves (call ∷ calls) g = leaves_from stop (seen_after call f) (leaves_after stop call f leaves) calls g

abbrev pub leaves_at : Stop → Folder → List FileCall → Folder → Type 0
leaves_at stop first calls g = leaves_from stop first (left_first first) calls g

-- what a stop at some moment since t may have left: between two calls, or during one
abbrev pub LeftSince : Stop → Folder → List FileCall → ℕ → Folder → Type 0
LeftSince stop first calls t g =
    (k : ℕ) × (t ≤ k) × (k ≤ length calls)
    × (leaves_at stop first (take k calls) g ⊎ ((call : FileCall) × (slice_get calls k ≡ Some call) × leaves_during call (λ f. leaves_at stop first (take k calls) f) g))

pub left_now : (stop : Stop) (first : Folder) (calls : List FileCall) (t : ℕ) (g : Folder) → t ≤ length calls → leaves_at stop first calls g → LeftSince stop first calls t g
left_now stop first calls t g le now = (length calls, le, omega arith, inl (subst (λ (l : List FileCall). leaves_at stop first l g) (sym (take_all (length calls) calls (omega arith))) now))

none_there : (calls : List FileCall) (call : FileCall) → slice_get calls (length calls) ≡ Some call → ⊥
none_there [] call e = none-some call e
none_there (first ∷ calls) call e = none_there calls call e

pub only_left : (stop : Stop) (first : Folder) (calls : List FileCall) (g : Folder) → LeftSince stop first calls (length calls) g → leaves_at stop first calls g
only_left stop first calls g (k, le, most, inl left) = subst (λ (l : List FileCall). leaves_at stop first l g) (take_all k calls (omega (arith, le))) left
only_left stop first calls g (k, le, most, inr (call, at, left)) =
    let last : k ≡ length calls = omega (arith, le, most) in absurd (none_there calls call (subst (λ n. slice_get calls n ≡ Some call) last at))
