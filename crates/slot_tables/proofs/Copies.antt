-- A copy of a block's newest payload is the flat machine's case.
use Rattle.std.proofs.Common.{◌≡◌, ◌≢◌, ℕ, ◌<◌, ◌≤◌, Bool, true, false, cond, nat_le, refl, sym, ap, ◌∙◌, subst, arith, inl, inr, Option, Some, None}
use Rattle.std.proofs.lemmas.Bool.Decides.{nat_tests}
use Rattle.std.proofs.lemmas.Option.{same_Some}
use Rattle.map_join.specs.declared.records.Record.{Record}
use Rattle.map_join.specs.Record.{record_at}
use Rattle.extents.specs.declared.header.Kind.{Kind}
use Rattle.extents.specs.declared.header.Kind.TheVariants as kind
use Rattle.extents.specs.Header.{kind_in}
use Rattle.extent_groups.specs.declared.class.Class.{Class}
use Rattle.extent_groups.specs.Groups.{Groups}
use Rattle.unit_store.specs.Slots.{IsSlot}
use Rattle.extent_groups.specs.Stores.{AreDrives}
use Rattle.unit_store.specs.Views.{PartsView, Shows, WasCopied, WasCopiedAs, WasNotCarried, drive_units}
use Rattle.flat_machine.specs.declared.refusal.Refusal.{Refusal}
use Rattle.flat_machine.specs.Groups.{class_at}
use Rattle.flat_machine.specs.Flat.{Flat, Write, Content, Worker, Moved, Stored, content_under, content_in, kind_of, waiting_unit, put, IsNewest, class_of, last_write}
use Rattle.flat_machine.specs.Steps.{Copy, Copied, Refused}
use Rattle.flat_machine.specs.Cases.{CopyCase, CopyPasses, ticketed, last_hop}
use Rattle.slot_tables.specs.Changes.{copy_view, copy_reason, copy_reason_of, MayRefuse}
use Rattle.slot_tables.specs.Views.{Kept, Nothing, Pending, Moving, Newest, Unmade, ArrayView, with_parts, kept_at, key_at, is_kept, IsWhole}
use Rattle.slot_tables.specs.Represents.{ShowsArray}
use Rattle.slot_tables.proofs.Newest.{newest_is}
use Rattle.slot_tables.proofs.Kepts.{kept_iff, unkept}
use Rattle.slot_tables.proofs.Wholes.{whole_parts, slot_of_class}
use Rattle.slot_tables.proofs.Fares.{fared, itself, leaves, gone_as, gone_back, gone_before, lost_shows, lost_leaves}
use Rattle.slot_tables.proofs.Slots.{shows_after}
use Rattle.slot_tables.proofs.Fills.{class_seen, wait_tables, wait_units, wait_whole}
use Rattle.slot_tables.proofs.Finds.{newest_write}

-- the slot is free and in a group, and the record isn't of the last hop
pub record CanCopy (a : ArrayView) (s : ℕ) (r : Record) : Type 0 where
  pub class : class_at a.parts.groups s ≢ None
  pub free : kept_at a s ≡ Nothing
  pub hop : r.hop < last_hop

pub can_copy : (a : ArrayView) (s : ℕ) (r : Record) → copy_reason a s (Some r) ≡ None → CanCopy a s r
can_copy a s r none = go (class_at a.parts.groups s) refl (kept_at a s) refl none
  where
    under : (q : Bool) → nat_le last_hop r.hop ≡ q → cond q (Some Refusal.HopsSpent) None ≡ None → r.hop < last_hop
    under true is e = absurd (cc)
    under false is e = grind (arith, nat_tests)

    go : (c : Option Class) → class_at a.parts.groups s ≡ c → (k : Kept) → kept_at a s ≡ k → copy_reason_of c k (Some r) ≡ None → CanCopy a s r
    go (Some c) is_c Nothing is_k e =
        record { class = λ no. let bad : Some c ≡ None = sym is_c ∙ no in cc; free = is_k; hop = under _ refl e }
    go (Some c) is_c (Pending k) is_k e = absurd (cc)
    go (Some c) is_c (Moving m k) is_k e = absurd (cc)
    go (Some c) is_c (Newest b) is_k e = absurd (cc)
    go (Some c) is_c Unmade is_k e = absurd (cc)
    go None is_c k is_k e = absurd (cc)

-- an array is whole after a copy
pub copy_whole : {made : ℕ → Content → Stored} (a : ArrayView) (v : PartsView) (s : ℕ) (r : Record) (k : Kind) → s < 65536 → WasCopiedAs made a.parts v r.place s k → copy_reason a s (Some r) ≡ None
    → AreDrives drive_units v.groups v.drives → IsWhole a → IsWhole (copy_view (with_parts a v) s r k)
copy_whole a v s r k inside was none drives whole =
    wait_whole (with_parts a v) s (Moving r k) inside can.free refl moves (subst (λ (g : Groups). class_at g s ≢ None) (sym was.rest.groups) can.class)
    (whole_parts a v was.rest was.fares.many drives whole)
  where
    can : CanCopy a s r
    can = can_copy a s r none

    moves : (q : Record) (l : Kind) → Moving r k ≡ Moving q l → q.hop < 65535
    moves q l e = let hop : r.hop ≡ q.hop = cc in let small = can.hop in omega arith

pub copy_slot : (a : ArrayView) (s : ℕ) (r : Record) → copy_reason a s (Some r) ≡ None → IsSlot a.parts.groups s
copy_slot a s r none = slot_of_class a.parts.groups s (can_copy a s r none).class

-- the kind of what a unit holds
pub kind_reported : (u : Stored) → kind_in u.header ≡ kind_of (content_in u)
kind_reported u = go (kind_in u.header)
  where
    go : (k : Kind) → k ≡ kind_of (content_under k u.payload)
    go kind.Data = refl
    go kind.Trim = refl

-- where nothing speaks against it, the copy is the flat machine's
pub copy_passes : (a : ArrayView) (F : Flat) (w s b : ℕ) (r : Record) → record_at b (key_at a b) ≡ Some r → copy_reason a s (Some r) ≡ None → ShowsArray a F
    → F.held s (Worker w) ≡ true → CopyPasses F w s b r
copy_passes a F w s b r found none shows held =
    let can = can_copy a s r none in
    (held, (λ e. can.class (sym (class_seen a F s shows) ∙ e)), unkept a F s can.free shows, newest_is a F b (Some r) shows found, can.hop)

pub copy_case : (a : ArrayView) (v : PartsView) (F : Flat) (w s b : ℕ) (r : Record) (k : Kind) → s < 65536 → b < a.parts.groups.blocks → record_at b (key_at a b) ≡ Some r
    → WasCopied a.parts v r.place s k → copy_reason a s (Some r) ≡ None → IsWhole a → ShowsArray a F → F.held s (Worker w) ≡ true
    → (G : Flat) × (CopyCase F w s b (Copied s) G) × (ShowsArray (copy_view (with_parts a v) s r k) G)
copy_case a v F w s b r k inside block found was none whole shows held = (
  fared (ticketed F w s (Moved b r.version r.hop y.0.content)) v,
  case,
  shows_after a (copy_view (with_parts a v) s r k) F (fared (ticketed F w s (Moved b r.version r.hop y.0.content)) v) (Copy w s b) (Copied s) shows
      (inside, subst (λ (z : Groups). b < z.blocks) (sym shows.tables.groups) block) case shows.history.map
      (wait_units F w s (Moved b r.version r.hop y.0.content) v (waiting_unit a.parts.groups.payload (content_in u.0)) (ap (waiting_unit F.groups.payload) (sym (y.2 u.0 u.1)) ∙ ap (λ (z : Groups). waiting_unit z.payload (content_in u.0)) shows.tables.groups) u.3)
      (wait_tables a v F w s (Moving r k) (Moved b r.version r.hop y.0.content) inside refl (y.0.content, ap (λ n. Some (Moved n r.version r.hop y.0.content)) at, u.2 ∙ kind_reported u.0 ∙ ap kind_of (y.2 u.0 u.1))
      was.rest was.fares whole shows (copy_passes a F w s b r found none shows held).2),
)
  where
    y : (x : Write) × (last_write F.writes b ≡ Some x) × ((u : Stored) → F.units r.place ≡ Some u → content_in u ≡ x.content) × (x.version ≡ r.version)
    y = newest_write a F b r shows found

    u : (u : Stored) × (F.units r.place ≡ Some u) × (k ≡ kind_in u.header) × Shows v (put F.units s (Some (waiting_unit a.parts.groups.payload (content_in u))))
    u = was.shows F.units shows.units

    at : b ≡ r.block
    at = sym (newest_is a F b (Some r) shows found).1

    case : CopyCase F w s b (Copied s) (fared (ticketed F w s (Moved b r.version r.hop y.0.content)) v)
    case = (
      refl,
      (
        r,
        y.0,
        copy_passes a F w s b r found none shows held,
        y.1,
        λ gone. was.source (gone_before F a.parts r.place shows.tables.groups shows.tables.lost gone),
        λ gone. was.target (gone_back F a.parts v s shows.tables.groups was.rest gone),
        leaves (ticketed F w s (Moved b r.version r.hop y.0.content)) a.parts v shows.tables.lost shows.tables.failures was.fares,
      ),
    )

-- the source or the slot is lost
pub copy_gone : (a : ArrayView) (v : PartsView) (F : Flat) (w s b : ℕ) (r : Record) (q : Refusal) → record_at b (key_at a b) ≡ Some r → copy_reason a s (Some r) ≡ None
    → WasNotCarried a.parts v r.place s q → ShowsArray a F → F.held s (Worker w) ≡ true
    → MayRefuse q ((p : Record) × CopyPasses F w s b p) ((G : Flat) × CopyCase F w s b (Refused q) G × ShowsArray (with_parts a v) G)
copy_gone a v F w s b r q found none not shows held = go not
  where
    P : Refusal → Type 0
    P p = MayRefuse p ((o : Record) × CopyPasses F w s b o) ((G : Flat) × CopyCase F w s b (Refused p) G × ShowsArray (with_parts a v) G)

    passes : CopyPasses F w s b r
    passes = copy_passes a F w s b r found none shows held

    go : WasNotCarried a.parts v r.place s q → P q
    go (inl source) = subst P (sym source.reported) (
      fared F v,
      ((r, passes, inl (refl, gone_as F a.parts v r.place shows.tables.groups source.loses.rest source.gone)), lost_leaves a F v shows source.loses),
      lost_shows a F v shows source.loses,
    )
    go (inr target) = subst P (sym target.1.reported) (
      fared F v,
      (
        (r, passes, inr (refl, (λ gone. target.0 (gone_before F a.parts r.place shows.tables.groups shows.tables.lost gone)), gone_as F a.parts v s shows.tables.groups target.1.loses.rest target.1.gone)),
        lost_leaves a F v shows target.1.loses,
      ),
      lost_shows a F v shows target.1.loses,
    )

-- and where something does, it is the flat machine's refusal
pub copy_refused : (a : ArrayView) (F : Flat) (w s b : ℕ) (q : Refusal) → copy_reason a s (record_at b (key_at a b)) ≡ Some q → ShowsArray a F → F.held s (Worker w) ≡ true
    → MayRefuse q ((r : Record) × CopyPasses F w s b r) ((G : Flat) × CopyCase F w s b (Refused q) G × ShowsArray a G)
copy_refused a F w s b q some shows held = go (class_at a.parts.groups s) refl (kept_at a s) refl (record_at b (key_at a b)) refl some
  where
    P : Refusal → Type 0
    P p = MayRefuse p ((r : Record) × CopyPasses F w s b r) ((G : Flat) × CopyCase F w s b (Refused p) G × ShowsArray a G)

    newest : (o : Option Record) → record_at b (key_at a b) ≡ o → IsNewest F.emitted b o
    newest o is = newest_is a F b o shows is

    classed : (c : Class) → class_at a.parts.groups s ≡ Some c → class_of F s ≢ None
    classed c is none = let bad : Some c ≡ None = sym is ∙ sym (class_seen a F s shows) ∙ none in cc

    in_use : (c : Class) → class_at a.parts.groups s ≡ Some c → is_kept (kept_at a s) ≡ true → Some Refusal.InUse ≡ Some q → P q
    in_use c is_c kept e = subst P (same_Some _ _ e) (F, (held, classed c is_c, (kept_iff a F s shows).0 kept, itself F), shows)

    spent : (c : Class) → class_at a.parts.groups s ≡ Some c → kept_at a s ≡ Nothing → (r : Record) → record_at b (key_at a b) ≡ Some r
        → (p : Bool) → nat_le last_hop r.hop ≡ p → cond p (Some Refusal.HopsSpent) None ≡ Some q → P q
    spent c is_c free r reported true is e =
        subst P (same_Some _ _ e) (F, (held, classed c is_c, unkept a F s free shows, (r, newest (Some r) reported, over), itself F), shows)
      where
        over : last_hop ≤ r.hop
        over = grind (arith, nat_tests)
    spent c is_c free r reported false is e = absurd (cc)

    go : (c : Option Class) → class_at a.parts.groups s ≡ c → (k : Kept) → kept_at a s ≡ k → (o : Option Record) → record_at b (key_at a b) ≡ o
        → copy_reason_of c k o ≡ Some q → P q
    go None is_c k is_k o is_o e = subst P (same_Some _ _ e) (F, (held, class_seen a F s shows ∙ is_c, itself F), shows)
    go (Some c) is_c Nothing is_k None is_o e =
        subst P (same_Some _ _ e) (F, (held, classed c is_c, unkept a F s is_k shows, newest None is_o, itself F), shows)
    go (Some c) is_c Nothing is_k (Some r) is_o e = spent c is_c is_k r is_o _ refl e
    go (Some c) is_c (Pending k) is_k o is_o e = in_use c is_c (ap is_kept is_k) e
    go (Some c) is_c (Moving m k) is_k o is_o e = in_use c is_c (ap is_kept is_k) e
    go (Some c) is_c (Newest d) is_k o is_o e = in_use c is_c (ap is_kept is_k) e
    go (Some c) is_c Unmade is_k o is_o e = in_use c is_c (ap is_kept is_k) e
