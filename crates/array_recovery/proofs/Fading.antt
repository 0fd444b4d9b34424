-- Drives that show units still show them where more are lost. Sizes are asked of the units that slots have, and of no others.
use Rattle.std.proofs.Common.{◌≡◌, ℕ, ◌+◌, Option, Some, None, List, length, length-append, take, drop, refl, sym, ◌∙◌, ap, arith}
use Rattle.std.proofs.lemmas.Option.{none-some}
use Rattle.std.proofs.lemmas.List.{take-append-drop}
use Rattle.extents.proofs.Headers.{spelled_length}
use Rattle.extent_groups.specs.declared.place.Place.{Place}
use Rattle.extent_groups.specs.Groups.{Groups}
use Rattle.extent_groups.specs.Cells.{Cells, held}
use Rattle.extent_groups.specs.Units.{Site, Pair, InStripe, or_else, others, row_of, unit_at, unit_in, IsSoundAt, site_of}
use Rattle.extent_groups.specs.Calls.{Fades, FadesAt}
use Rattle.extent_groups.specs.Layout.{IsDriveDisjoint, IsLayout}
use Rattle.extent_groups.specs.Stores.{unit_bytes, KeepsAt}
use Rattle.extent_groups.proofs.Fading.{faded, fade_effective, fade_sound, row_fades}
use Rattle.flat_machine.specs.Flat.{Stored}
use Rattle.unit_store.specs.Shows.{IsUnit, ShowsUnits}

-- the first of two
first_fades : (a x b y : Option (List ℕ)) → Fades a x → ((v : List ℕ) → y ≡ Some v → b ≡ Some v) → ((u v : List ℕ) → a ≡ Some u → b ≡ Some v → u ≡ v)
    → (v : List ℕ) → or_else x y ≡ Some v → or_else a b ≡ Some v
first_fades a (Some u) b y h k same v e = ap (λ o. or_else o b) (faded a (Some u) u h refl) ∙ e
first_fades None None b y h k same v e = k v e
first_fades (Some u) None b y h k same v e = ap (λ w. Some w) (same u v refl (k v e))

-- a sound site whose unit has its size
site_kept : (n : ℕ) (c d : Cells) (t : Site) → ((v : List ℕ) → unit_at n c t ≡ Some v → length v ≡ n) → IsDriveDisjoint t → ((x : Place) → FadesAt c d x) → IsSoundAt n c t → KeepsAt n c d t
site_kept n c d (Pair p q) sized whole fades sound = record {
  unit = first_fades (held c p) (held d p) (held c q) (held d q) (fades p) (λ v e. faded (held c q) (held d q) v (fades q) e) sound;
  sound = λ u v eu ev. sound u v (faded (held c p) (held d p) u (fades p) eu) (faded (held c q) (held d q) v (fades q) ev);
}
site_kept n c d (InStripe places parity i) sized whole fades sound =
    let rows = row_fades c d places (λ k x at. fades x) in
    let own : (u : List ℕ) → row_of c places i ≡ Some u → length u ≡ n = λ u e. sized u (ap (λ o. or_else o (others n (length places) (row_of c places) i)) e) in
    record {
      unit = fade_effective n (length places) i (row_of c places) (row_of d places) whole.0 own sound rows;
      sound = fade_sound n (length places) (row_of c places) (row_of d places) sound rows;
    }

unit_kept : (n : ℕ) (c d : Cells) (o : Option Site) → ((t : Site) → o ≡ Some t → KeepsAt n c d t) → (v : List ℕ) → unit_in n d o ≡ Some v → unit_in n c o ≡ Some v
unit_kept n c d None h v e = absurd (none-some v e)
unit_kept n c d (Some t) h v e = (h t refl).unit v e

-- a unit's bytes are as many as those of its header and its payload
unit_long : (bytes : List ℕ) (u : Stored) (payload : ℕ) → IsUnit bytes u → length u.payload ≡ payload → length bytes ≡ 32 + payload
unit_long bytes u payload is long =
    ap length (sym (take-append-drop 32 bytes)) ∙ length-append (take 32 bytes) (drop 32 bytes)
    ∙ (let head = spelled_length (take 32 bytes) u.header is.0 in let rest = ap length is.1 in omega (arith, head, rest, long))

pub shows_fade : (g : Groups) (c d : Cells) (units : ℕ → Option Stored) → IsLayout g → ((s : ℕ) (u : Stored) → units s ≡ Some u → length u.payload ≡ g.payload)
    → ShowsUnits g c units → ((x : Place) → FadesAt c d x) → ShowsUnits g d units
shows_fade g c d units layout sized shows fades =
    let n = unit_bytes g in
    let long : (slot : ℕ) (t : Site) → site_of g slot ≡ Some t → (v : List ℕ) → unit_at n c t ≡ Some v → length v ≡ n =
    λ slot t at v e. let u = shows.shown slot v (ap (unit_in n c) at ∙ e) in unit_long v u.0 g.payload u.2 (sized slot u.0 u.1) in
    let each : (slot : ℕ) (t : Site) → site_of g slot ≡ Some t → KeepsAt n c d t =
    λ slot t at. site_kept n c d t (long slot t at) (layout.whole slot t at) fades (shows.sound slot t at) in
    record {
      sound = λ slot t at. (each slot t at).sound;
      shown = λ slot v e. shows.shown slot v (unit_kept n c d (site_of g slot) (each slot) v e);
    }
