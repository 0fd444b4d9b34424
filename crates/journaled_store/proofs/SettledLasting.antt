-- What a stop leaves of a store whose journal is settled.
use Rattle.std.proofs.Common.{◌≡◌, ◌<◌, ◌≤◌, inl, inr, ℕ, arith, Bool, true, false, List, [], ◌∷◌, ◌++◌, length, refl, sym, ◌∙◌, ap, subst}
use Rattle.std.specs.Prelude.{slice_index_or}
use Rattle.std.proofs.lemmas.Bool.{true≢false}
use Rattle.std.proofs.lemmas.List.{take_all}
use Rattle.std.proofs.lemmas.Option.{slice_get-get_or, slice_get_cases}
use Rattle.extent_groups.specs.Groups.{Groups}
use Rattle.extent_groups.specs.Cells.{Cells}
use Rattle.extent_groups.specs.Planned.{Intended, after}
use Rattle.unit_store.specs.Views.{DriveView, lost_of}
use Rattle.tiered_array.specs.Views.{TiersView}
use Rattle.byte_store.specs.Lasting.{Covers, Lasts, HasAllOf}
use Rattle.byte_store.proofs.Lasts.{covering}
use Rattle.history.specs.Entries.{Course}
use Rattle.cached_drive.specs.Saving.{Units}
use Rattle.vault.specs.Images.{Image, SameOn, Matches, flat, is_lost, is_some_true, recovered}
use Rattle.vault.specs.Moments.{AreLogged, IsLogged, LeavesOnly}
use Rattle.vault.specs.declared.store.Stop.{Stop}
use Rattle.vault.specs.declared.store.Stop.TheVariants.{Killed}
use Rattle.group_form.specs.Form.{HasGroups}
use Rattle.journaled_store.specs.Steps.{IsBeforeOrNow, IsPersisted, IsUpToDate, SameTable, UnlessFailed}
use Rattle.journaled_store.specs.Left.{MissesOne}
use Rattle.journaled_store.specs.Outlasting.{OpensAs, OpensBut, Outlasts, OutlastsSince, Point, Works, allowed, parts_of}
use Rattle.journaled_store.proofs.Lasting.{Published, allowed_has, allowed_within, at_moment, begun, either, old_as, run, works_before}
use Rattle.journaled_store.proofs.Opening.{alone, opens_as, opens_now, opens_on}
use Rattle.journaled_store.proofs.Settled.{groups_on, kept_on, live_on, no_mark, table_on}

-- of fewer drives less is said
module _ (lost more : List Bool) (sub : (d : ℕ) → is_lost more d ≡ false → is_lost lost d ≡ false) where
  live_wider : (k : Course Units) (marks : List ℕ) (batch : List Intended) (c : Cells) → IsUpToDate lost k marks batch c → IsUpToDate more k marks batch c
  live_wider k marks batch c live = record { step = record { each = λ d at low on. live.step.each d at low (sub d on) }; noted = live.noted; rest = live.rest }

  kept_wider : (drives : List DriveView) (c : Cells) → IsPersisted lost drives c → IsPersisted more drives c
  kept_wider drives c kept = record { has = record { each = λ d at v there on. kept.has.each d at v there (sub d on) }; marks = kept.marks; noted = kept.noted; reported = kept.reported }

  logged_wider : {V : Type 0} (seen : V → Image) (may_leave : V → Stop → Image → Type 0) (stop : Stop) (vault : V) (low : ℕ)
      → IsLogged seen may_leave lost stop vault low → IsLogged seen may_leave more stop vault low
  logged_wider seen may_leave stop vault low logged = record {
    flushed = logged.flushed;
    leaves = λ i may. let front = logged.leaves i may in record {
      cells = record { there = λ x on. front.cells.there x (sub x.drive on); elsewhere = λ x on. front.cells.elsewhere x (sub x.drive on) };
      count = front.count;
      least = front.least;
      most = front.most;
      journal = front.journal;
    };
  }

-- marks of lost drives
module _ (marks : List Bool) (long : length marks ≡ 16) (gone : ℕ → Bool) (are : (d : ℕ) → d < 16 → slice_index_or marks d true ≡ gone d) where
  marked : (d : ℕ) → d < 16 → is_lost marks d ≡ gone d
  marked d low = ap is_some_true (slice_get-get_or marks d true (omega (arith, low, long))) ∙ are d low

  past_all : (d : ℕ) → 16 ≤ d → is_lost marks d ≡ false
  past_all d high = no_mark marks d (omega (arith, high, long))

  gone_are : (d : ℕ) → is_lost marks d ≡ true → gone d ≡ true
  gone_are d is = elim (slice_get_cases marks d).1 [
    | inl there ↦ (let low = there.1 in sym (marked d (omega (arith, low, long))) ∙ is)
    | inr past ↦ (let high = past.0 in absurd (true≢false (sym is ∙ past_all d (omega (arith, high, long)))))
  ]

  subset : (lost : List Bool) → ((d : ℕ) → 16 ≤ d → is_lost lost d ≡ false) → ((d : ℕ) → is_lost lost d ≡ true → gone d ≡ true) → (d : ℕ) → is_lost marks d ≡ false → is_lost lost d ≡ false
  subset lost few was d not = elim (either (is_lost lost d)) [
    | inr off ↦ off
    | inl on ↦ (elim (slice_get_cases marks d).1 [
      | inl there ↦ (let low = there.1 in absurd (true≢false (sym (marked d (omega (arith, low, long)) ∙ was d on) ∙ not)))
      | inr past ↦ (let high = past.0 in few d (omega (arith, high, long)))
    ])
  ]

module _ {V X : Type 0} (shows : TiersView → X → Type 0) (known : V → Type 0) (seen : V → Image) (may_leave : V → Stop → Image → Type 0) (moment : V → ℕ) (left_since : V → Stop → ℕ → Image → Type 0)
    (counts_now : (vault : V) → known vault → (stop : Stop) (t : ℕ) (i : Image) → t ≤ moment vault → may_leave vault stop i → left_since vault stop t i)
    (only_now : (vault : V) → known vault → (stop : Stop) (i : Image) → left_since vault stop (moment vault) i → may_leave vault stop i)
    (p m : Point V) (now : X) (shown : shows p.tiers now) (f : Published known seen may_leave moment left_since p m) (on : m.failed ≡ false)
    (one : MissesOne (parts_of m.tiers).drives)
    (kept : known p.vault → (lost : List Bool) → UnlessFailed p.failed (IsUpToDate lost p.keeper p.noted p.batch (recovered (seen p.vault))) → IsPersisted lost (parts_of m.tiers).drives (recovered (seen m.vault)))
    (durable : known p.vault → (lost : List Bool) (stop : Stop) (low : ℕ) → UnlessFailed p.failed (IsLogged seen may_leave lost stop p.vault low)
    → IsLogged seen may_leave lost stop m.vault (length (seen m.vault).journal))
    (marks : List Bool) (long : length marks ≡ 16) (are : (d : ℕ) → d < 16 → slice_index_or marks d true ≡ lost_of (parts_of m.tiers) d)
    (vault : V) (failed : Bool) (stays : known m.vault → known vault)
    (units : known m.vault → AreLogged seen may_leave marks m.vault → failed ≡ false → SameOn marks (recovered (seen vault)) (recovered (seen m.vault)))
    (logged : known m.vault → AreLogged seen may_leave marks m.vault → failed ≡ false → AreLogged seen may_leave marks vault)
    (any_moment : known m.vault → AreLogged seen may_leave marks m.vault → (stop : Stop) → LeavesOnly moment left_since stop m.vault vault (Matches marks (recovered (seen m.vault)))) where
  abbrev q : Point V
  q = record { keeper = m.keeper; noted = m.noted; batch = m.batch; failed = failed; tiers = m.tiers; vault = vault }

  abbrev groups_now : Groups
  groups_now = (parts_of m.tiers).groups

  abbrev many_now : ℕ
  many_now = length (parts_of m.tiers).drives

  module _ (killed cut more_killed more_cut : List X) (out : Outlasts shows known seen may_leave p killed cut)
      (kc : Covers more_killed killed now now) (cc : Covers more_cut cut now now) where
    one_was : MissesOne (parts_of p.tiers).drives
    one_was = subst (λ (t : TiersView). MissesOne (parts_of t).drives) f.tiers one

    works : p.failed ≡ false
    works = works_before shows known seen may_leave moment left_since counts_now only_now p m now shown one_was f on

    abbrev w : Works shows seen may_leave p killed cut
    w = out.works works

    sub : (d : ℕ) → is_lost marks d ≡ false → is_lost w.lost d ≡ false
    sub = subset marks long (lost_of (parts_of m.tiers)) are w.lost w.few
        (subst (λ (t : TiersView). (d : ℕ) → is_lost w.lost d ≡ true → lost_of (parts_of t) d ≡ true) (sym f.tiers) w.gone)

    table_at : is_lost marks 16 ≡ false
    table_at = past_all marks long (lost_of (parts_of m.tiers)) are 16 (omega arith)

    known_mid : known m.vault
    known_mid = f.stays out.is_known

    all_mid : AreLogged seen may_leave marks m.vault
    all_mid stop = logged_wider w.lost marks sub seen may_leave stop m.vault (length (seen m.vault).journal) (durable out.is_known w.lost stop (w.low stop) (λ is. w.logged stop))

    kept_mid : IsPersisted marks (parts_of m.tiers).drives (recovered (seen m.vault))
    kept_mid = kept_wider w.lost marks sub (parts_of m.tiers).drives (recovered (seen m.vault)) (kept out.is_known w.lost (λ is. w.live))

    rest_mid : SameTable (recovered (seen m.vault)) (recovered (seen p.vault))
    rest_mid = f.rest out.is_known w.lost (λ is. w.live) on

    groups_mid : HasGroups groups_now many_now (recovered (seen m.vault))
    groups_mid = subst (λ (t : TiersView). HasGroups (parts_of t).groups (length (parts_of t).drives) (recovered (seen m.vault))) (sym f.tiers)
        (groups_on (parts_of p.tiers).groups (length (parts_of p.tiers).drives) (recovered (seen p.vault)) (recovered (seen m.vault)) rest_mid w.table)

    now_opens : (stop : Stop) (c : Cells) → IsPersisted marks (parts_of m.tiers).drives c → SameTable c (recovered (seen m.vault)) → OpensBut shows marks (allowed stop more_killed more_cut) groups_now many_now c
    now_opens stop c has rest =
        opens_now shows marks table_at groups_now many_now (allowed stop more_killed more_cut) m.tiers now c refl refl (gone_are marks long (lost_of (parts_of m.tiers)) are) one
        (subst (λ (t : TiersView). shows t now) (sym f.tiers) shown) (allowed_has stop more_killed more_cut now kc.has_now cc.has_now) has
        (groups_on groups_now many_now (recovered (seen m.vault)) c rest groups_mid)

    matches_as : (stop : Stop) (i : Image) → Matches marks (recovered (seen m.vault)) i → OpensAs shows (allowed stop more_killed more_cut) groups_now many_now (recovered i)
    matches_as stop i matches =
        opens_as shows marks table_at groups_now many_now (allowed stop more_killed more_cut) (recovered i)
        (opens_on shows marks table_at groups_now many_now (allowed stop more_killed more_cut) (recovered (seen m.vault)) (recovered i) matches (now_opens stop (recovered (seen m.vault)) kept_mid (λ at. refl)))

    first : (stop : Stop) → LeavesOnly moment left_since stop p.vault m.vault (IsBeforeOrNow w.lost (seen p.vault) (w.low stop) (parts_of p.tiers).drives)
    first stop = run shows known seen may_leave moment left_since counts_now only_now p m now shown one_was f killed cut more_killed more_cut out kc cc works stop

    left_at : (t : ℕ) → t ≤ moment p.vault → (stop : Stop) (i : Image) → left_since vault stop t i
        → (left_since p.vault stop t i → OpensAs shows (allowed stop more_killed more_cut) groups_now many_now (recovered i)) → OpensAs shows (allowed stop more_killed more_cut) groups_now many_now (recovered i)
    left_at t le stop i left was = elim ((any_moment known_mid all_mid stop).before t i (let mid = (first stop).later in omega (arith, le, mid)) left) [
      | inr matches ↦ matches_as stop i matches
      | inl mid ↦ (elim ((first stop).before t i le mid) [
        | inl before ↦ was before
        | inr is ↦ at_moment shows known seen may_leave moment left_since counts_now only_now p m now shown one_was f killed cut more_killed more_cut out kc cc works stop i is
      ])
    ]

    later_by : moment p.vault ≤ moment vault
    later_by = let one = (first Killed).later in let two = (any_moment known_mid all_mid Killed).later in omega (arith, one, two)

    during_by : OutlastsSince shows left_since q (moment p.vault) more_killed more_cut
    during_by stop i left = left_at (moment p.vault) (omega arith) stop i left (λ was.
        old_as shows known seen may_leave moment left_since counts_now only_now p m now shown one_was f killed cut more_killed more_cut out kc cc stop i (only_now p.vault out.is_known stop i was))

    pub settled_outlasts : Outlasts shows known seen may_leave q more_killed more_cut
    settled_outlasts = record {
      is_known = stays known_mid;
      leaves = λ stop i may. during_by stop i (counts_now vault (stays known_mid) stop (moment p.vault) i later_by may);
      works = λ ok. record {
        lost = marks;
        few = past_all marks long (lost_of (parts_of m.tiers)) are;
        gone = gone_are marks long (lost_of (parts_of m.tiers)) are;
        live = live_on marks m.keeper m.noted m.batch (recovered (seen m.vault)) (recovered (seen vault)) table_at (units known_mid all_mid ok)
            (live_wider w.lost marks sub m.keeper m.noted m.batch (recovered (seen m.vault)) (f.step out.is_known w.lost (λ is. w.live) on));
        table = groups_on groups_now many_now (recovered (seen m.vault)) (recovered (seen vault))
            (table_on marks (recovered (seen m.vault)) (recovered (seen vault)) table_at (units known_mid all_mid ok)) groups_mid;
        low = λ stop. length (seen vault).journal;
        logged = logged known_mid all_mid ok;
        all = refl;
        opens = λ stop n least most. subst (λ b. OpensBut shows marks (allowed stop more_killed more_cut) groups_now many_now (after (seen vault).cells (flat b))) (sym (take_all n (seen vault).journal least))
            (now_opens stop (recovered (seen vault))
            (kept_on marks (parts_of m.tiers).drives (recovered (seen m.vault)) (recovered (seen vault)) table_at (units known_mid all_mid ok) kept_mid)
            (table_on marks (recovered (seen m.vault)) (recovered (seen vault)) table_at (units known_mid all_mid ok)));
      };
    }

    earlier_by : (t : ℕ) (since_killed since_cut : List X) → t ≤ moment p.vault → OutlastsSince shows left_since p t since_killed since_cut
        → HasAllOf since_killed more_killed → HasAllOf since_cut more_cut → OutlastsSince shows left_since q t more_killed more_cut
    earlier_by t since_killed since_cut le since k c stop i left = left_at t le stop i left (λ was. let o = since stop i was in
        subst (λ (t : TiersView). OpensAs shows (allowed stop more_killed more_cut) (parts_of t).groups (length (parts_of t).drives) (recovered i)) (sym f.tiers)
        (record { what = o.what; listed = allowed_within stop since_killed since_cut more_killed more_cut k c o.what o.listed; left = λ absent d there same. o.left absent d there same }))

  pub settled_lasts : Lasts (Outlasts shows known seen may_leave) (λ (r : Point V). moment r.vault) (OutlastsSince shows left_since) now now p q
  settled_lasts = record {
    later = λ killed cut out. later_by killed cut (killed ++ now ∷ now ∷ []) (cut ++ now ∷ now ∷ []) out (covering killed now now) (covering cut now now);
    following = λ killed cut more_killed more_cut out k c. settled_outlasts killed cut more_killed more_cut out k c;
    during = λ killed cut more_killed more_cut out k c. during_by killed cut more_killed more_cut out k c;
    earlier = λ t since_killed since_cut killed cut more_killed more_cut le since out wk wc k c. earlier_by killed cut more_killed more_cut out k c t since_killed since_cut le since wk wc;
  }

-- a store whose journal is empty, and whose vault has all that the drives hold but for lost ones
pub settled_begins : {V X : Type 0} (shows : TiersView → X → Type 0) (known : V → Type 0) (seen : V → Image) (may_leave : V → Stop → Image → Type 0) (moment : V → ℕ) (left_since : V → Stop → ℕ → Image → Type 0)
    → ((vault : V) → known vault → (stop : Stop) (t : ℕ) (i : Image) → t ≤ moment vault → may_leave vault stop i → left_since vault stop t i)
    → ((vault : V) → known vault → (stop : Stop) (i : Image) → left_since vault stop (moment vault) i → may_leave vault stop i)
    → (q : Point V) (now : X) → shows q.tiers now → MissesOne (parts_of q.tiers).drives
    → (marks : List Bool) → length marks ≡ 16 → ((d : ℕ) → d < 16 → slice_index_or marks d true ≡ lost_of (parts_of q.tiers) d)
    → known q.vault → IsUpToDate marks q.keeper q.noted q.batch (recovered (seen q.vault)) → AreLogged seen may_leave marks q.vault
    → IsPersisted marks (parts_of q.tiers).drives (recovered (seen q.vault)) → HasGroups (parts_of q.tiers).groups (length (parts_of q.tiers).drives) (recovered (seen q.vault))
    → Outlasts shows known seen may_leave q (now ∷ []) (now ∷ [])
settled_begins shows known seen may_leave moment left_since counts_now only_now q now shown one marks long are is_known live logged kept table =
    begun shows known seen may_leave moment left_since counts_now only_now q (now ∷ []) (now ∷ []) is_known (record {
      lost = marks;
      few = past_all marks long (lost_of (parts_of q.tiers)) are;
      gone = gone_are marks long (lost_of (parts_of q.tiers)) are;
      live = live;
      table = table;
      low = λ stop. length (seen q.vault).journal;
      logged = logged;
      all = refl;
      opens = λ stop n least most. subst (λ b. OpensBut shows marks (allowed stop (now ∷ []) (now ∷ [])) (parts_of q.tiers).groups (length (parts_of q.tiers).drives) (after (seen q.vault).cells (flat b)))
          (sym (take_all n (seen q.vault).journal least))
          (opens_now shows marks (past_all marks long (lost_of (parts_of q.tiers)) are 16 (omega arith)) (parts_of q.tiers).groups (length (parts_of q.tiers).drives) (allowed stop (now ∷ []) (now ∷ []))
          q.tiers now (recovered (seen q.vault)) refl refl (gone_are marks long (lost_of (parts_of q.tiers)) are) one shown (allowed_has stop (now ∷ []) (now ∷ []) now (alone now) (alone now)) kept table);
    })
