-- What is learned of a record that may be stale is the flat machine's.
use Rattle.std.proofs.Common.{◌≡◌, ◌≤◌, ℕ, refl, sym, ap, ◌∙◌, subst, inl, inr, Option, Some, List, length, Vec}
use Rattle.std.specs.Global.{Global}
use Rattle.extents.specs.declared.header.Kind.{Kind}
use Rattle.std.specs.Vec.{with_items}
use Rattle.std.proofs.lemmas.List.{with_items_is}
use Rattle.map_join.specs.declared.records.Record.{Record}
use Rattle.map_join.specs.Record.{key_of, record_at}
use Rattle.unit_store.specs.Views.{Loses, WasRead, FoundGone}
use Rattle.flat_machine.specs.declared.refusal.Refusal.{Refusal}
use Rattle.flat_machine.specs.declared.refusal.Refusal.TheVariants.{Ahead}
use Rattle.flat_machine.specs.Flat.{Flat, Content, content_under, last_write}
use Rattle.flat_machine.specs.Steps.{Seen, Data, Stale}
use Rattle.flat_machine.specs.Cases.{IsAhead, IsNotAhead}
use Rattle.flat_machine.specs.Learning.{LearnedCase, UnlearnedCase}
use Rattle.slot_tables.specs.Changes.{MayRefuse}
use Rattle.slot_tables.specs.Reads.{WasSeen}
use Rattle.slot_tables.specs.Represents.{ShowsArray}
use Rattle.slot_tables.specs.Views.{ArrayView, with_parts, key_at}
use Rattle.flat_machine.proofs.Gones.{gone_stays}
use Rattle.slot_tables.proofs.Fares.{fared, itself, gone_as, gone_back, leaves_more, loses_itself, loses_more, lost_shows, lost_leaves}
use Rattle.slot_tables.proofs.Finds.{newest_write}
use Rattle.slot_tables.proofs.Newest.{newest_reported, newest_is}
use Rattle.slot_tables.proofs.Seeing.{seen_case}
use Rattle.disk_array.specs.Refused.{IsRefused}

-- the payload that was seen is that of a vector that it was written to
pub data_seen : (a b : ArrayView) (r : Record) (k : Kind) (v : Vec ℕ Global) (ws : List ℕ) → length ws ≡ v.len → WasSeen a b r (Data (content_under k ws))
    → WasSeen a b r (Data (content_under k (with_items v ws).items))
data_seen a b r k v ws long seen = subst (λ (l : List ℕ). WasSeen a b r (Data (content_under k l))) (sym (with_items_is v ws long)) seen

-- the array has this as the newest record of the block, and the one asked for isn't greater
pub record Reports (a : ArrayView) (r n : Record) : Type 0 where
  pub reported : record_at r.block (key_at a r.block) ≡ Some n
  pub most : key_of r ≤ key_of n

following : (a : ArrayView) (F : Flat) (r n : Record) → ShowsArray a F → Reports a r n → IsNotAhead F r
following a F r n shows reports = (n, newest_is a F r.block (Some n) shows reports.reported, reports.most)

-- with other drives it has the same
reported_again : (a m : ArrayView) (r n : Record) → m ≡ with_parts a m.parts → Reports a r n → record_at r.block (key_at m r.block) ≡ Some n
reported_again a m r n rest reports = subst (λ (v : ArrayView). record_at r.block (key_at v r.block) ≡ Some n) (sym rest) reports.reported

-- the record lies at its place
pub learned_here : (a b : ArrayView) (F : Flat) (r n : Record) (x : Content) → ShowsArray a F → Reports a r n → b ≡ with_parts a b.parts → WasSeen a b r (Data x)
    → (G : Flat) × LearnedCase F r r x G × ShowsArray b G
learned_here a b F r n x shows reports rest was =
    let y = seen_case a b F r n (Data x) shows reports.reported reports.most rest was in
    (y.0, (y.1.0, (λ gone. y.1.1 (gone_stays F y.0 r.place y.1.3 gone)), (Data x, y.1.2, (refl, refl)), y.1.1, y.1.3), y.2)

-- another does, and the newest place was read
pub learned_there : (a m b : ArrayView) (F : Flat) (r n : Record) (found : Option Record) (x : Content) → ShowsArray a F → Reports a r n
    → m ≡ with_parts a m.parts → WasSeen a m r (Stale found) → b ≡ with_parts m b.parts → WasRead m.parts b.parts n.place x
    → (G : Flat) × LearnedCase F r n x G × ShowsArray b G
learned_there a m b F r n found x shows reports rest was last read =
    let y = seen_case a m F r n (Stale found) shows reports.reported reports.most rest was in
    let M : Flat = y.0 in
    let u = read.unit M.units y.2.units in
    let w = newest_write m M r.block n y.2 (reported_again a m r n rest reports) in
    let writes : last_write F.writes r.block ≡ Some w.0 = ap (λ (z : Flat). last_write z.writes r.block) (sym y.1.3.same) ∙ w.1 in (
      fared M b.parts,
      (
        following a F r n shows reports,
        (λ gone. y.1.1 (gone_stays F M r.place y.1.3 gone)),
        (Stale found, y.1.2, (newest_is a F r.block (Some n) shows reports.reported, (w.0, writes, u.2 ∙ w.2 u.0 u.1))),
        (λ gone. read.there (gone_back M m.parts b.parts n.place y.2.tables.groups read.loses.rest gone)),
        leaves_more F M (fared M b.parts) y.1.3 (lost_leaves m M b.parts y.2 read.loses),
      ),
      subst (λ (v : ArrayView). ShowsArray v (fared M b.parts)) (sym last) (lost_shows m M b.parts y.2 read.loses),
    )

-- the record is ahead of the newest
pub unlearned_ahead : (W : Type 0) (a : ArrayView) (F : Flat) (r : Record) (q : Refusal) → ShowsArray a F → q ≡ Ahead (record_at r.block (key_at a r.block))
    → IsAhead r (record_at r.block (key_at a r.block)) → MayRefuse q W ((G : Flat) × UnlearnedCase F r q G × ShowsArray a G)
unlearned_ahead W a F r q shows is ahead =
    subst (λ p. MayRefuse p W ((G : Flat) × UnlearnedCase F r p G × ShowsArray a G)) (sym is) (F, (newest_reported a F r.block shows, ahead, itself F), shows)

-- its place is gone
pub unlearned_here : (a b : ArrayView) (F : Flat) (r n : Record) (q : Refusal) → ShowsArray a F → Reports a r n → b ≡ with_parts a b.parts → FoundGone a.parts b.parts r.place q
    → MayRefuse q (IsNotAhead F r) ((G : Flat) × UnlearnedCase F r q G × ShowsArray b G)
unlearned_here a b F r n q shows reports rest gone =
    subst (λ p. MayRefuse p (IsNotAhead F r) ((G : Flat) × UnlearnedCase F r p G × ShowsArray b G)) (sym gone.reported) (
      fared F b.parts,
      (following a F r n shows reports, gone_as F a.parts b.parts r.place shows.tables.groups gone.loses.rest gone.gone, inl refl, lost_leaves a F b.parts shows gone.loses),
      subst (λ (v : ArrayView). ShowsArray v (fared F b.parts)) (sym rest) (lost_shows a F b.parts shows gone.loses),
    )

-- another record lies there, and the newest place is gone
pub unlearned_there : (a m b : ArrayView) (F : Flat) (r n : Record) (found : Option Record) (q : Refusal) → ShowsArray a F → Reports a r n
    → m ≡ with_parts a m.parts → WasSeen a m r (Stale found) → b ≡ with_parts m b.parts → FoundGone m.parts b.parts n.place q
    → MayRefuse q (IsNotAhead F r) ((G : Flat) × UnlearnedCase F r q G × ShowsArray b G)
unlearned_there a m b F r n found q shows reports rest was last gone =
    let y = seen_case a m F r n (Stale found) shows reports.reported reports.most rest was in
    let M : Flat = y.0 in
    subst (λ p. MayRefuse p (IsNotAhead F r) ((G : Flat) × UnlearnedCase F r p G × ShowsArray b G)) (sym gone.reported) (
      fared M b.parts,
      (
        following a F r n shows reports,
        gone_as M m.parts b.parts n.place y.2.tables.groups gone.loses.rest gone.gone,
        inr (n, newest_is a F r.block (Some n) shows reports.reported, refl, (λ was_gone. y.1.1 (gone_stays F M r.place y.1.3 was_gone)), (Stale found, y.1.2, tt)),
        leaves_more F M (fared M b.parts) y.1.3 (lost_leaves m M b.parts y.2 gone.loses),
      ),
      subst (λ (v : ArrayView). ShowsArray v (fared M b.parts)) (sym last) (lost_shows m M b.parts y.2 gone.loses),
    )

-- however much was read, the array is as it was but for losses
saw_loses : (a m : ArrayView) (r : Record) (seen : Seen) → WasSeen a m r seen → Loses a.parts m.parts
saw_loses a m r seen (inl none) = subst (λ (v : ArrayView). Loses a.parts v.parts) (sym none.2) (loses_itself a.parts)
saw_loses a m r seen (inr saw) = saw.loses

pub unlearned_refused : (a m b : ArrayView) (r : Record) (seen : Seen) (slot : ℕ) (q : Refusal) → m ≡ with_parts a m.parts → WasSeen a m r seen → b ≡ with_parts m b.parts
    → FoundGone m.parts b.parts slot q → IsRefused a b q
unlearned_refused a m b r seen slot q rest was last gone =
    subst (IsRefused a b) (sym gone.reported)
    (last ∙ ap (λ (v : ArrayView). with_parts v b.parts) rest, loses_more a.parts m.parts b.parts (saw_loses a m r seen was) gone.loses)
