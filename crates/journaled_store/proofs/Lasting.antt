-- What a stop leaves after a store's calls.
use Rattle.std.proofs.Common.{◌≡◌, ◌≤◌, ◌⊎◌, inl, inr, ℕ, suc, arith, Bool, true, false, List, [], ◌∷◌, ◌++◌, length, take, refl, sym, ◌∙◌, ap, subst}
use Rattle.std.specs.Prelude.{Contains, Result, Ok, Err, OnOk, is_err, is_ok}
use Rattle.byte_store.specs.declared.fault.StoreFault.{StoreFault}
use Rattle.std.proofs.lemmas.Bool.{true≢false}
use Rattle.std.proofs.lemmas.List.{take_all}
use Rattle.extent_groups.specs.Groups.{Groups}
use Rattle.extent_groups.specs.Cells.{Cells}
use Rattle.extent_groups.specs.Planned.{Intended, after}
use Rattle.history.specs.Entries.{Course}
use Rattle.cached_drive.specs.Saving.{Units}
use Rattle.tiered_array.specs.Views.{TiersView}
use Rattle.array_store.specs.Stores.{Follows}
use Rattle.byte_store.specs.Lasting.{Acknowledges, Covers, Flushes, Lasts, HasAllOf}
use Rattle.byte_store.proofs.Lasts.{covering, lasts_ahead}
use Rattle.vault.specs.Images.{Image, flat, is_lost, recovered}
use Rattle.vault.specs.Moments.{IsLogged, LeavesOnly, RepresentsSome}
use Rattle.vault.specs.declared.store.Stop.{Stop}
use Rattle.vault.specs.declared.store.Stop.TheVariants.{Killed, PowerLost}
use Rattle.vault.proofs.Runs.{weaker}
use Rattle.unit_store.specs.Views.{lost_of}
use Rattle.group_form.specs.Form.{HasGroups}
use Rattle.journaled_store.specs.Steps.{IsBeforeOrNow, IsPersisted, IsUpToDate, SameTable, UnlessFailed, UnlessSync, is_sync}
use Rattle.journaled_store.specs.Left.{MissesOne}
use Rattle.journaled_store.specs.Outlasting.{OpensAs, OpensBut, Outlasts, OutlastsSince, Point, Works, allowed, parts_of}
use Rattle.journaled_store.proofs.Settled.{groups_on}
use Rattle.journaled_store.proofs.Opening.{alone, opens_as, opens_either, opens_left, opens_more, opens_now}

pub either : (b : Bool) → (b ≡ true) ⊎ (b ≡ false)
either true = inl refl
either false = inr refl

pub allowed_within : {X : Type 0} (stop : Stop) (killed cut more_killed more_cut : List X) → HasAllOf killed more_killed → HasAllOf cut more_cut → HasAllOf (allowed stop killed cut) (allowed stop more_killed more_cut)
allowed_within Killed killed cut more_killed more_cut k c = k
allowed_within PowerLost killed cut more_killed more_cut k c = c

pub allowed_has : {X : Type 0} (stop : Stop) (killed cut : List X) (b : X) → Contains killed b → Contains cut b → Contains (allowed stop killed cut) b
allowed_has Killed killed cut b k c = k
allowed_has PowerLost killed cut b k c = c

-- a list with what is shown before and after a call has each of the two
pub only_before : {X : Type 0} (more some : List X) (before now : X) → Covers more some before now → Covers more some before before
only_before more some before now c = record { each = c.each; has_before = c.has_before; has_now = c.has_before }

pub only_now : {X : Type 0} (more some : List X) (before now : X) → Covers more some before now → Covers more some now now
only_now more some before now c = record { each = c.each; has_before = c.has_now; has_now = c.has_now }

-- how many batches a stop leaves at least, where a kill leaves all
abbrev least : ℕ → ℕ → Stop → ℕ
least all cut Killed = all
least all cut PowerLost = cut

-- a call by whether its journal failed
pub unless_sync : (r : Result (Unit {0}) StoreFault) (P : Type 0) → UnlessSync r P → is_sync r ≡ false → P
unless_sync (Ok x) P p not = p
unless_sync (Err StoreFault.Sync) P p not = absurd (true≢false not)
unless_sync (Err StoreFault.NoSpace) P p not = p
unless_sync (Err StoreFault.Gone) P p not = p
unless_sync (Err StoreFault.Memory) P p not = p

pub ok_not_sync : (r : Result (Unit {0}) StoreFault) → is_ok r ≡ true → is_sync r ≡ false
ok_not_sync (Ok x) is = refl
ok_not_sync (Err e) is = absurd (true≢false (sym is))

pub ok_not_err : {T E : Type 0} (r : Result T E) → is_ok r ≡ true → is_err r ≡ false
ok_not_err (Ok x) is = refl
ok_not_err (Err e) is = absurd (true≢false (sym is))

pub on_ok_map : {T E P Q : Type 0} (r : Result T E) → (P → Q) → OnOk r P → OnOk r Q
on_ok_map (Ok x) to p = to p
on_ok_map (Err e) to p = tt

pub on_ok_by : {T E P : Type 0} (r : Result T E) → (is_ok r ≡ true → P) → OnOk r P
on_ok_by (Ok x) p = p refl
on_ok_by (Err e) p = tt

-- said of what has a place in a store
pub lasts_at : {S P X : Type 0} (at : S → P) (outlasts : P → List X → List X → Type 0) (moment : P → ℕ) (outlasts_since : P → ℕ → List X → List X → Type 0)
    (before now : X) (old new : S) → Lasts outlasts moment outlasts_since before now (at old) (at new)
    → Lasts (λ s. outlasts (at s)) (λ s. moment (at s)) (λ s. outlasts_since (at s)) before now old new
lasts_at at outlasts moment outlasts_since before now old new lasts = record { later = lasts.later; following = lasts.following; during = lasts.during; earlier = lasts.earlier }

-- what one batch more says of a store
pub record Published {V : Type 0} (known : V → Type 0) (seen : V → Image) (may_leave : V → Stop → Image → Type 0) (moment : V → ℕ) (left_since : V → Stop → ℕ → Image → Type 0)
    (p q : Point V) : Type 0 where
  pub tiers : q.tiers ≡ p.tiers
  pub stays : known p.vault → known q.vault
  pub still : p.failed ≡ true → (q.vault ≡ p.vault) × (q.failed ≡ true)
  pub step : known p.vault → (lost : List Bool) → UnlessFailed p.failed (IsUpToDate lost p.keeper p.noted p.batch (recovered (seen p.vault)))
      → UnlessFailed q.failed (IsUpToDate lost q.keeper q.noted q.batch (recovered (seen q.vault)))
  pub rest : known p.vault → (lost : List Bool) → UnlessFailed p.failed (IsUpToDate lost p.keeper p.noted p.batch (recovered (seen p.vault)))
      → UnlessFailed q.failed (SameTable (recovered (seen q.vault)) (recovered (seen p.vault)))
  pub killed : known p.vault → (lost : List Bool) → UnlessFailed p.failed (IsLogged seen may_leave lost Killed p.vault (length (seen p.vault).journal))
      → UnlessFailed q.failed (IsLogged seen may_leave lost Killed q.vault (length (seen q.vault).journal))
  pub logged : known p.vault → (lost : List Bool) (stop : Stop) (low : ℕ) → UnlessFailed p.failed (IsLogged seen may_leave lost stop p.vault low)
      → UnlessFailed q.failed ((most : ℕ) × (low ≤ most) × IsLogged seen may_leave lost stop q.vault most)
  pub batches : known p.vault → (lost : List Bool) → UnlessFailed p.failed (IsUpToDate lost p.keeper p.noted p.batch (recovered (seen p.vault)))
      → UnlessFailed q.failed ((low : ℕ) (i : Image) → RepresentsSome lost (seen q.vault).cells low (seen q.vault).journal i → IsBeforeOrNow lost (seen p.vault) low (parts_of p.tiers).drives i)
  pub any_moment : known p.vault → (lost : List Bool) → UnlessFailed p.failed (IsUpToDate lost p.keeper p.noted p.batch (recovered (seen p.vault)))
      → (stop : Stop) (low : ℕ) → IsLogged seen may_leave lost stop p.vault low
      → LeavesOnly moment left_since stop p.vault q.vault (IsBeforeOrNow lost (seen p.vault) low (parts_of p.tiers).drives)

module _ {V X : Type 0} (shows : TiersView → X → Type 0) (known : V → Type 0) (seen : V → Image) (may_leave : V → Stop → Image → Type 0) (moment : V → ℕ) (left_since : V → Stop → ℕ → Image → Type 0)
    (counts_now : (vault : V) → known vault → (stop : Stop) (t : ℕ) (i : Image) → t ≤ moment vault → may_leave vault stop i → left_since vault stop t i)
    (only_now : (vault : V) → known vault → (stop : Stop) (i : Image) → left_since vault stop (moment vault) i → may_leave vault stop i) where
  pub table : (p : Point V) (killed cut : List X) (w : Works shows seen may_leave p killed cut) → is_lost w.lost 16 ≡ false
  table p killed cut w = w.few 16 (omega arith)

  -- the vault is as it was
  module _ (p q : Point V) (vault : q.vault ≡ p.vault) (follows : Follows p.tiers q.tiers) (works : q.failed ≡ false → p.failed ≡ false)
      (step : (lost : List Bool) (c : Cells) → IsUpToDate lost p.keeper p.noted p.batch c → IsUpToDate lost q.keeper q.noted q.batch c) where
    as_then : (list more : List X) (c : Cells) → HasAllOf list more → OpensAs shows list (parts_of p.tiers).groups (length (parts_of p.tiers).drives) c
        → OpensAs shows more (parts_of q.tiers).groups (length (parts_of q.tiers).drives) c
    as_then list more c within o =
        subst (λ n. OpensAs shows more (parts_of q.tiers).groups n c) (sym follows.many)
        (subst (λ g. OpensAs shows more g (length (parts_of p.tiers).drives) c) (sym follows.groups) (record { what = o.what; listed = within o.what o.listed; left = λ absent d there same. o.left absent d there same }))

    but_then : (lost : List Bool) → is_lost lost 16 ≡ false → (list more : List X) (c : Cells) → HasAllOf list more
        → OpensBut shows lost list (parts_of p.tiers).groups (length (parts_of p.tiers).drives) c → OpensBut shows lost more (parts_of q.tiers).groups (length (parts_of q.tiers).drives) c
    but_then lost there list more c within o =
        subst (λ n. OpensBut shows lost more (parts_of q.tiers).groups n c) (sym follows.many)
        (subst (λ g. OpensBut shows lost more g (length (parts_of p.tiers).drives) c) (sym follows.groups)
        (opens_more shows lost there (parts_of p.tiers).groups (length (parts_of p.tiers).drives) list more c within o))

    groups_then : (c : Cells) → HasGroups (parts_of p.tiers).groups (length (parts_of p.tiers).drives) c → HasGroups (parts_of q.tiers).groups (length (parts_of q.tiers).drives) c
    groups_then c has = subst (λ n. HasGroups (parts_of q.tiers).groups n c) (sym follows.many) (subst (λ g. HasGroups g (length (parts_of p.tiers).drives) c) (sym follows.groups) has)

    module _ (killed cut more_killed more_cut : List X) (out : Outlasts shows known seen may_leave p killed cut) (k : HasAllOf killed more_killed) (c : HasAllOf cut more_cut) where
      with_vault : (v : V) → v ≡ p.vault → Outlasts shows known seen may_leave (record { keeper = q.keeper; noted = q.noted; batch = q.batch; failed = q.failed; tiers = q.tiers; vault = v }) more_killed more_cut
      with_vault v same = subst (λ u. Outlasts shows known seen may_leave (record { keeper = q.keeper; noted = q.noted; batch = q.batch; failed = q.failed; tiers = q.tiers; vault = u }) more_killed more_cut)
          (sym same) (record {
            is_known = out.is_known;
            leaves = λ stop i may. as_then (allowed stop killed cut) (allowed stop more_killed more_cut) (recovered i) (allowed_within stop killed cut more_killed more_cut k c) (out.leaves stop i may);
            works = λ is. let w = out.works (works is) in record {
              lost = w.lost;
              few = w.few;
              gone = λ d one. follows.lost d (w.gone d one);
              live = step w.lost (recovered (seen p.vault)) w.live;
              table = groups_then (recovered (seen p.vault)) w.table;
              low = w.low;
              logged = w.logged;
              all = w.all;
              opens = λ stop n least most. but_then w.lost (table p killed cut w) (allowed stop killed cut) (allowed stop more_killed more_cut) _ (allowed_within stop killed cut more_killed more_cut k c) (w.opens stop n least most);
            };
          })

      pub moved : Outlasts shows known seen may_leave q more_killed more_cut
      moved = with_vault q.vault vault

    moved_since : (t : ℕ) (since_killed since_cut more_killed more_cut : List X) → HasAllOf since_killed more_killed → HasAllOf since_cut more_cut
        → OutlastsSince shows left_since p t since_killed since_cut → OutlastsSince shows left_since q t more_killed more_cut
    moved_since t since_killed since_cut more_killed more_cut k c since stop i left =
        as_then (allowed stop since_killed since_cut) (allowed stop more_killed more_cut) (recovered i) (allowed_within stop since_killed since_cut more_killed more_cut k c)
        (since stop i (subst (λ v. left_since v stop t i) vault left))

    pub moved_lasts : (before now : X) → Lasts (Outlasts shows known seen may_leave) (λ (r : Point V). moment r.vault) (OutlastsSince shows left_since) before now p q
    moved_lasts before now = record {
      later = λ killed cut out. subst (λ v. moment p.vault ≤ moment v) (sym vault) (omega arith);
      following = λ killed cut more_killed more_cut out k c. moved killed cut more_killed more_cut out k.each c.each;
      during = λ killed cut more_killed more_cut out k c. moved_since (moment p.vault) killed cut more_killed more_cut k.each c.each
          (λ stop i left. out.leaves stop i (only_now p.vault out.is_known stop i left));
      earlier = λ t since_killed since_cut killed cut more_killed more_cut le since out wk wc k c. moved_since t since_killed since_cut more_killed more_cut wk wc since;
    }

  -- what a store that works leaves
  pub begun : (p : Point V) (killed cut : List X) → known p.vault → Works shows seen may_leave p killed cut → Outlasts shows known seen may_leave p killed cut
  begun p killed cut is_known w = record {
    is_known = is_known;
    leaves = λ stop i may. opens_as shows w.lost (table p killed cut w) (parts_of p.tiers).groups (length (parts_of p.tiers).drives) (allowed stop killed cut) (recovered i)
        (opens_left shows w.lost (table p killed cut w) (parts_of p.tiers).groups (length (parts_of p.tiers).drives) seen may_leave (allowed stop killed cut) stop p.vault (w.low stop) i
        (w.logged stop) may (w.opens stop));
    works = λ on. w;
  }

  -- the array was called, and then something else
  abbrev pub with_tiers : Point V → TiersView → Point V
  with_tiers p t = record { keeper = p.keeper; noted = p.noted; batch = p.batch; failed = p.failed; tiers = t; vault = p.vault }

  pub array_lasts : (p : Point V) (t : TiersView) (q : Point V) (before now : X) → Follows p.tiers t
      → Lasts (Outlasts shows known seen may_leave) (λ (r : Point V). moment r.vault) (OutlastsSince shows left_since) now now (with_tiers p t) q
      → Lasts (Outlasts shows known seen may_leave) (λ (r : Point V). moment r.vault) (OutlastsSince shows left_since) before now p q
  array_lasts p t q before now follows lasts =
      lasts_ahead (Outlasts shows known seen may_leave) (λ (r : Point V). moment r.vault) (OutlastsSince shows left_since) before now p (with_tiers p t) q
      (moved_lasts p (with_tiers p t) refl follows (λ on. on) (λ lost cells live. live) before now) lasts

  pub array_acknowledges : (p : Point V) (t : TiersView) (q : Point V) (before now : X) → Follows p.tiers t
      → Acknowledges (Outlasts shows known seen may_leave) now now (with_tiers p t) q → Acknowledges (Outlasts shows known seen may_leave) before now p q
  array_acknowledges p t q before now follows acknowledges killed cut more_cut out c =
      acknowledges killed cut more_cut (moved p (with_tiers p t) refl follows (λ on. on) (λ lost cells live. live) killed cut killed cut out (λ b has. has) (λ b has. has))
      (record { each = c.each; has_before = c.has_now; has_now = c.has_now })

  pub array_flushes : (p : Point V) (t : TiersView) (q : Point V) (now : X) → Follows p.tiers t
      → Flushes (Outlasts shows known seen may_leave) now (with_tiers p t) q → Flushes (Outlasts shows known seen may_leave) now p q
  array_flushes p t q now follows flushes killed cut out =
      flushes killed cut (moved p (with_tiers p t) refl follows (λ on. on) (λ lost cells live. live) killed cut killed cut out (λ b has. has) (λ b has. has))

  -- a store that has all that its drives hold
  module _ (q : Point V) (now : X) (shown : shows q.tiers now) (one : MissesOne (parts_of q.tiers).drives) (killed cut : List X) (is_known : known q.vault) (w : Works shows seen may_leave q killed cut)
      (kept : IsPersisted w.lost (parts_of q.tiers).drives (recovered (seen q.vault))) where
    abbrev groups_now : Groups
    groups_now = (parts_of q.tiers).groups

    abbrev many_now : ℕ
    many_now = length (parts_of q.tiers).drives

    -- all batches stand for what is shown now
    all_opens : (n : ℕ) → length (seen q.vault).journal ≤ n → n ≤ length (seen q.vault).journal
        → OpensBut shows w.lost (now ∷ []) groups_now many_now (after (seen q.vault).cells (flat (take n (seen q.vault).journal)))
    all_opens n least most =
        subst (λ b. OpensBut shows w.lost (now ∷ []) groups_now many_now (after (seen q.vault).cells (flat b))) (sym (take_all n (seen q.vault).journal least))
        (opens_now shows w.lost (table q killed cut w) groups_now many_now (now ∷ []) q.tiers now (recovered (seen q.vault)) refl refl w.gone one shown (alone now) kept w.table)

    all_left : (stop : Stop) (i : Image) → IsLogged seen may_leave w.lost stop q.vault (length (seen q.vault).journal) → may_leave q.vault stop i
        → OpensAs shows (now ∷ []) groups_now many_now (recovered i)
    all_left stop i logged may =
        opens_as shows w.lost (table q killed cut w) groups_now many_now (now ∷ []) (recovered i)
        (opens_left shows w.lost (table q killed cut w) groups_now many_now seen may_leave (now ∷ []) stop q.vault (length (seen q.vault).journal) i logged may all_opens)

    pub acknowledged : ((i : Image) → may_leave q.vault PowerLost i → OpensAs shows cut groups_now many_now (recovered i)) → Outlasts shows known seen may_leave q (now ∷ []) cut
    acknowledged cuts = record { is_known = is_known; leaves = leaves_now; works = λ on. works_now }
      where
        leaves_now : (stop : Stop) (i : Image) → may_leave q.vault stop i → OpensAs shows (allowed stop (now ∷ []) cut) groups_now many_now (recovered i)
        leaves_now Killed i may = all_left Killed i (subst (λ n. IsLogged seen may_leave w.lost Killed q.vault n) w.all (w.logged Killed)) may
        leaves_now PowerLost i may = cuts i may

        opens_then : (stop : Stop) (n : ℕ) → w.low stop ≤ n → n ≤ length (seen q.vault).journal
            → OpensBut shows w.lost (allowed stop (now ∷ []) cut) groups_now many_now (after (seen q.vault).cells (flat (take n (seen q.vault).journal)))
        opens_then Killed n least most = all_opens n (let all = w.all in omega (arith, least, all)) most
        opens_then PowerLost n least most = w.opens PowerLost n least most

        works_now : Works shows seen may_leave q (now ∷ []) cut
        works_now = record { lost = w.lost; few = w.few; gone = w.gone; live = w.live; table = w.table; low = w.low; logged = w.logged; all = w.all; opens = opens_then }

  -- one batch more
  module _ (p q : Point V) (now : X) (shown : shows p.tiers now) (one : MissesOne (parts_of p.tiers).drives) (f : Published known seen may_leave moment left_since p q) where
    as_new : (list : List X) (c : Cells) → OpensAs shows list (parts_of p.tiers).groups (length (parts_of p.tiers).drives) c → OpensAs shows list (parts_of q.tiers).groups (length (parts_of q.tiers).drives) c
    as_new list c o = subst (λ (t : TiersView). OpensAs shows list (parts_of t).groups (length (parts_of t).drives) c) (sym f.tiers) o

    module _ (killed cut more_killed more_cut : List X) (out : Outlasts shows known seen may_leave p killed cut)
        (kc : Covers more_killed killed now now) (cc : Covers more_cut cut now now) where
      in_more : (stop : Stop) → HasAllOf (allowed stop killed cut) (allowed stop more_killed more_cut)
      in_more stop = allowed_within stop killed cut more_killed more_cut kc.each cc.each

      has_now : (stop : Stop) → Contains (allowed stop more_killed more_cut) now
      has_now stop = allowed_has stop more_killed more_cut now kc.has_now cc.has_now

      module _ (works : p.failed ≡ false) where
        abbrev w : Works shows seen may_leave p killed cut
        w = out.works works

        pub run : (stop : Stop) → LeavesOnly moment left_since stop p.vault q.vault (IsBeforeOrNow w.lost (seen p.vault) (w.low stop) (parts_of p.tiers).drives)
        run stop = f.any_moment out.is_known w.lost (λ is. w.live) stop (w.low stop) (w.logged stop)

        now_opens : (stop : Stop) (c : Cells) → IsPersisted w.lost (parts_of p.tiers).drives c → SameTable c (recovered (seen p.vault))
            → OpensBut shows w.lost (allowed stop more_killed more_cut) (parts_of p.tiers).groups (length (parts_of p.tiers).drives) c
        now_opens stop c kept rest =
            opens_now shows w.lost (table p killed cut w) (parts_of p.tiers).groups (length (parts_of p.tiers).drives) (allowed stop more_killed more_cut) p.tiers now c refl refl w.gone one shown (has_now stop) kept
            (groups_on (parts_of p.tiers).groups (length (parts_of p.tiers).drives) (recovered (seen p.vault)) c rest w.table)

        old_opens : (stop : Stop) (n : ℕ) → w.low stop ≤ n → n ≤ length (seen p.vault).journal
            → OpensBut shows w.lost (allowed stop more_killed more_cut) (parts_of p.tiers).groups (length (parts_of p.tiers).drives) (after (seen p.vault).cells (flat (take n (seen p.vault).journal)))
        old_opens stop n low most =
            opens_more shows w.lost (table p killed cut w) (parts_of p.tiers).groups (length (parts_of p.tiers).drives) (allowed stop killed cut) (allowed stop more_killed more_cut) _ (in_more stop) (w.opens stop n low most)

        either_opens : (stop : Stop) (i : Image) → IsBeforeOrNow w.lost (seen p.vault) (w.low stop) (parts_of p.tiers).drives i
            → OpensBut shows w.lost (allowed stop more_killed more_cut) (parts_of p.tiers).groups (length (parts_of p.tiers).drives) (recovered i)
        either_opens stop i is =
            opens_either shows w.lost (table p killed cut w) (parts_of p.tiers).groups (length (parts_of p.tiers).drives) (allowed stop more_killed more_cut) (seen p.vault) (w.low stop) (parts_of p.tiers).drives i
            (old_opens stop) (now_opens stop) is

        pub at_moment : (stop : Stop) (i : Image) → IsBeforeOrNow w.lost (seen p.vault) (w.low stop) (parts_of p.tiers).drives i
            → OpensAs shows (allowed stop more_killed more_cut) (parts_of q.tiers).groups (length (parts_of q.tiers).drives) (recovered i)
        at_moment stop i is =
            as_new (allowed stop more_killed more_cut) (recovered i)
            (opens_as shows w.lost (table p killed cut w) (parts_of p.tiers).groups (length (parts_of p.tiers).drives) (allowed stop more_killed more_cut) (recovered i) (either_opens stop i is))

        works_on : q.failed ≡ false → Works shows seen may_leave q more_killed more_cut
        works_on on = record {
          lost = w.lost;
          few = w.few;
          gone = subst (λ (t : TiersView). (d : ℕ) → is_lost w.lost d ≡ true → lost_of (parts_of t) d ≡ true) (sym f.tiers) w.gone;
          live = f.step out.is_known w.lost (λ is. w.live) on;
          table = subst (λ (t : TiersView). HasGroups (parts_of t).groups (length (parts_of t).drives) (recovered (seen q.vault))) (sym f.tiers)
              (groups_on (parts_of p.tiers).groups (length (parts_of p.tiers).drives) (recovered (seen p.vault)) (recovered (seen q.vault)) (f.rest out.is_known w.lost (λ is. w.live) on) w.table);
          low = low_now;
          logged = logged_now;
          all = refl;
          opens = opens_then;
        }
          where
            cut_now : (most : ℕ) × (w.low PowerLost ≤ most) × IsLogged seen may_leave w.lost PowerLost q.vault most
            cut_now = f.logged out.is_known w.lost PowerLost (w.low PowerLost) (λ is. w.logged PowerLost) on

            all_was : IsLogged seen may_leave w.lost Killed p.vault (length (seen p.vault).journal)
            all_was = subst (λ n. IsLogged seen may_leave w.lost Killed p.vault n) w.all (w.logged Killed)

            all_now : IsLogged seen may_leave w.lost Killed q.vault (length (seen q.vault).journal)
            all_now = f.killed out.is_known w.lost (λ is. all_was) on

            grown : w.low Killed ≤ length (seen q.vault).journal
            grown = let more = f.logged out.is_known w.lost Killed (w.low Killed) (λ is. w.logged Killed) on in
                let a = more.1 in let b = more.2.flushed in omega (arith, a, b)

            low_now : Stop → ℕ
            low_now stop = least (length (seen q.vault).journal) cut_now.0 stop

            logged_now : (stop : Stop) → IsLogged seen may_leave w.lost stop q.vault (low_now stop)
            logged_now Killed = all_now
            logged_now PowerLost = cut_now.2

            low_then : (stop : Stop) (n : ℕ) → low_now stop ≤ n → w.low stop ≤ n
            low_then Killed n low = omega (arith, low, grown)
            low_then PowerLost n low = (let few = cut_now.1 in omega (arith, low, few))

            opens_then : (stop : Stop) (n : ℕ) → low_now stop ≤ n → n ≤ length (seen q.vault).journal
                → OpensBut shows w.lost (allowed stop more_killed more_cut) (parts_of q.tiers).groups (length (parts_of q.tiers).drives) (after (seen q.vault).cells (flat (take n (seen q.vault).journal)))
            opens_then stop n low most =
                subst (λ (t : TiersView). OpensBut shows w.lost (allowed stop more_killed more_cut) (parts_of t).groups (length (parts_of t).drives) (after (seen q.vault).cells (flat (take n (seen q.vault).journal)))) (sym f.tiers)
                (either_opens stop (record { cells = (seen q.vault).cells; journal = take n (seen q.vault).journal })
                (f.batches out.is_known w.lost (λ is. w.live) on (w.low stop) (record { cells = (seen q.vault).cells; journal = take n (seen q.vault).journal })
                (record { count = n; least = low_then stop n low; most = most; matches = λ x live. refl })))

      left_at : (t : ℕ) → t ≤ moment p.vault → (stop : Stop) (i : Image) → left_since q.vault stop t i
          → (left_since p.vault stop t i → OpensAs shows (allowed stop more_killed more_cut) (parts_of q.tiers).groups (length (parts_of q.tiers).drives) (recovered i))
          → OpensAs shows (allowed stop more_killed more_cut) (parts_of q.tiers).groups (length (parts_of q.tiers).drives) (recovered i)
      left_at t le stop i left was = elim (either p.failed) [
        | inl failed ↦ was (subst (λ v. left_since v stop t i) (f.still failed).0 left)
        | inr works ↦ (elim ((run works stop).before t i le left) [ inl before ↦ was before | inr is ↦ at_moment works stop i is ])
      ]

      pub later_by : moment p.vault ≤ moment q.vault
      later_by = elim (either p.failed) [
        | inl failed ↦ subst (λ v. moment p.vault ≤ moment v) (sym (f.still failed).0) (omega arith)
        | inr works ↦ (run works Killed).later
      ]

      pub old_as : (stop : Stop) (i : Image) → may_leave p.vault stop i → OpensAs shows (allowed stop more_killed more_cut) (parts_of q.tiers).groups (length (parts_of q.tiers).drives) (recovered i)
      old_as stop i may = let o = out.leaves stop i may in
          as_new (allowed stop more_killed more_cut) (recovered i) (record { what = o.what; listed = in_more stop o.what o.listed; left = λ absent d there same. o.left absent d there same })

      pub during_by : OutlastsSince shows left_since q (moment p.vault) more_killed more_cut
      during_by stop i left = left_at (moment p.vault) (omega arith) stop i left (λ was. old_as stop i (only_now p.vault out.is_known stop i was))

      pub following_by : Outlasts shows known seen may_leave q more_killed more_cut
      following_by = record {
        is_known = f.stays out.is_known;
        leaves = λ stop i may. during_by stop i (counts_now q.vault (f.stays out.is_known) stop (moment p.vault) i later_by may);
        works = λ on. elim (either p.failed) [
          | inl failed ↦ absurd (true≢false (sym (f.still failed).1 ∙ on))
          | inr works ↦ works_on works on
        ];
      }

      pub earlier_by : (t : ℕ) (since_killed since_cut : List X) → t ≤ moment p.vault → OutlastsSince shows left_since p t since_killed since_cut
          → HasAllOf since_killed more_killed → HasAllOf since_cut more_cut → OutlastsSince shows left_since q t more_killed more_cut
      earlier_by t since_killed since_cut le since k c stop i left = left_at t le stop i left (λ was. let o = since stop i was in
          as_new (allowed stop more_killed more_cut) (recovered i)
          (record { what = o.what; listed = allowed_within stop since_killed since_cut more_killed more_cut k c o.what o.listed; left = λ absent d there same. o.left absent d there same }))

    pub works_before : q.failed ≡ false → p.failed ≡ false
    works_before on = elim (either p.failed) [ inl failed ↦ absurd (true≢false (sym (f.still failed).1 ∙ on)) | inr works ↦ works ]

    module _ (on : q.failed ≡ false) (kept : known p.vault → (lost : List Bool) → UnlessFailed p.failed (IsUpToDate lost p.keeper p.noted p.batch (recovered (seen p.vault)))
        → IsPersisted lost (parts_of q.tiers).drives (recovered (seen q.vault))) where
      shown_now : shows q.tiers now
      shown_now = subst (λ (t : TiersView). shows t now) (sym f.tiers) shown

      one_now : MissesOne (parts_of q.tiers).drives
      one_now = subst (λ (t : TiersView). MissesOne (parts_of t).drives) (sym f.tiers) one

      pub published_acknowledges : (killed cut more_cut : List X) → Outlasts shows known seen may_leave p killed cut → Covers more_cut cut now now
          → Outlasts shows known seen may_leave q (now ∷ []) more_cut
      unfolding works_on
      published_acknowledges killed cut more_cut out c =
          let works = works_before on in
          acknowledged q now shown_now one_now (killed ++ now ∷ now ∷ []) more_cut (f.stays out.is_known)
          (works_on killed cut (killed ++ now ∷ now ∷ []) more_cut out (covering killed now now) c works on)
          (kept out.is_known (out.works works).lost (λ is. (out.works works).live))
          (λ i may. (following_by killed cut (killed ++ now ∷ now ∷ []) more_cut out (covering killed now now) c).leaves PowerLost i may)

    pub published_lasts : Lasts (Outlasts shows known seen may_leave) (λ (r : Point V). moment r.vault) (OutlastsSince shows left_since) now now p q
    published_lasts = record {
      later = λ killed cut out. later_by killed cut (killed ++ now ∷ now ∷ []) (cut ++ now ∷ now ∷ []) out (covering killed now now) (covering cut now now);
      following = λ killed cut more_killed more_cut out k c. following_by killed cut more_killed more_cut out k c;
      during = λ killed cut more_killed more_cut out k c. during_by killed cut more_killed more_cut out k c;
      earlier = λ t since_killed since_cut killed cut more_killed more_cut le since out wk wc k c. earlier_by killed cut more_killed more_cut out k c t since_killed since_cut le since wk wc;
    }

  -- the journal was made durable: a loss of power leaves what a kill leaves
  module _ (m q : Point V) (on : m.failed ≡ false) (keeper : q.keeper ≡ m.keeper) (noted : q.noted ≡ m.noted) (batch : q.batch ≡ m.batch) (tiers : q.tiers ≡ m.tiers)
      (stays : known m.vault → known q.vault) (same : known m.vault → seen q.vault ≡ seen m.vault)
      (durable : q.failed ≡ false → known m.vault → (lost : List Bool) (stop : Stop) (low : ℕ) → IsLogged seen may_leave lost stop m.vault low
      → IsLogged seen may_leave lost stop q.vault (length (seen q.vault).journal))
      (any_moment : known m.vault → (lost : List Bool) (stop : Stop) (low : ℕ) → IsLogged seen may_leave lost stop m.vault low
      → LeavesOnly moment left_since stop m.vault q.vault (RepresentsSome lost (seen m.vault).cells low (seen m.vault).journal)) where
    live_at : (lost : List Bool) (c : Cells) → IsUpToDate lost m.keeper m.noted m.batch c → IsUpToDate lost q.keeper q.noted q.batch c
    live_at lost c live =
        subst (λ (k : Course Units). IsUpToDate lost k q.noted q.batch c) (sym keeper)
        (subst (λ (n : List ℕ). IsUpToDate lost m.keeper n q.batch c) (sym noted) (subst (λ (b : List Intended). IsUpToDate lost m.keeper m.noted b c) (sym batch) live))

    pub synced : Published known seen may_leave moment left_since m q
    synced = record {
      tiers = tiers;
      stays = stays;
      still = λ failed. absurd (true≢false (sym failed ∙ on));
      step = λ is lost live ok. subst (λ (i : Image). IsUpToDate lost q.keeper q.noted q.batch (recovered i)) (sym (same is)) (live_at lost (recovered (seen m.vault)) (live on));
      rest = λ is lost live ok at. ap (λ (i : Image). recovered i 16 (suc at)) (same is);
      killed = λ is lost logged ok. durable ok is lost Killed (length (seen m.vault).journal) (logged on);
      logged = λ is lost stop low logged ok. (
        length (seen q.vault).journal,
        (let all = (logged on).flushed in omega (arith, all, ap (λ (i : Image). length i.journal) (same is))),
        durable ok is lost stop low (logged on),
      );
      batches = λ is lost live ok low i some. inl (subst (λ (s : Image). RepresentsSome lost s.cells low s.journal i) (same is) some);
      any_moment = λ is lost live stop low logged. weaker moment left_since stop m.vault q.vault (RepresentsSome lost (seen m.vault).cells low (seen m.vault).journal)
          (IsBeforeOrNow lost (seen m.vault) low (parts_of m.tiers).drives) (any_moment is lost stop low logged) (λ i some. inl some);
    }

    pub synced_outlasts : q.failed ≡ false → (killed cut : List X) → Outlasts shows known seen may_leave m killed cut → Outlasts shows known seen may_leave q killed killed
    synced_outlasts ok killed cut out = record {
      is_known = stays out.is_known;
      leaves = λ stop i may. one_list stop i (all_left stop i may);
      works = λ is. record {
        lost = w.lost;
        few = w.few;
        gone = subst (λ (t : TiersView). (d : ℕ) → is_lost w.lost d ≡ true → lost_of (parts_of t) d ≡ true) (sym tiers) w.gone;
        live = subst (λ (i : Image). IsUpToDate w.lost q.keeper q.noted q.batch (recovered i)) (sym (same out.is_known)) (live_at w.lost (recovered (seen m.vault)) w.live);
        table = subst (λ (t : TiersView). HasGroups (parts_of t).groups (length (parts_of t).drives) (recovered (seen q.vault))) (sym tiers)
            (subst (λ (i : Image). HasGroups (parts_of m.tiers).groups (length (parts_of m.tiers).drives) (recovered i)) (sym (same out.is_known)) w.table);
        low = λ stop. length (seen q.vault).journal;
        logged = λ stop. all stop;
        all = refl;
        opens = λ stop n least most. one_opens stop n (all_opens n least most);
      };
    }
      where
        w : Works shows seen may_leave m killed cut
        w = out.works on

        all : (stop : Stop) → IsLogged seen may_leave w.lost stop q.vault (length (seen q.vault).journal)
        all stop = durable ok out.is_known w.lost stop (w.low stop) (w.logged stop)

        all_opens : (n : ℕ) → length (seen q.vault).journal ≤ n → n ≤ length (seen q.vault).journal
            → OpensBut shows w.lost killed (parts_of q.tiers).groups (length (parts_of q.tiers).drives) (after (seen q.vault).cells (flat (take n (seen q.vault).journal)))
        all_opens n least most =
            subst (λ (t : TiersView). OpensBut shows w.lost killed (parts_of t).groups (length (parts_of t).drives) (after (seen q.vault).cells (flat (take n (seen q.vault).journal)))) (sym tiers)
            (subst (λ (s : Image). OpensBut shows w.lost killed (parts_of m.tiers).groups (length (parts_of m.tiers).drives) (after s.cells (flat (take n s.journal)))) (sym (same out.is_known))
            (w.opens Killed n (let long = ap (λ (i : Image). length i.journal) (same out.is_known) in let a = w.all in omega (arith, a, least, long))
            (let long = ap (λ (i : Image). length i.journal) (same out.is_known) in omega (arith, most, long))))

        all_left : (stop : Stop) (i : Image) → may_leave q.vault stop i → OpensAs shows killed (parts_of q.tiers).groups (length (parts_of q.tiers).drives) (recovered i)
        all_left stop i may =
            opens_as shows w.lost (table m killed cut w) (parts_of q.tiers).groups (length (parts_of q.tiers).drives) killed (recovered i)
            (opens_left shows w.lost (table m killed cut w) (parts_of q.tiers).groups (length (parts_of q.tiers).drives) seen may_leave killed stop q.vault (length (seen q.vault).journal) i (all stop) may all_opens)

        one_list : (stop : Stop) (i : Image) → OpensAs shows killed (parts_of q.tiers).groups (length (parts_of q.tiers).drives) (recovered i)
            → OpensAs shows (allowed stop killed killed) (parts_of q.tiers).groups (length (parts_of q.tiers).drives) (recovered i)
        one_list Killed i o = o
        one_list PowerLost i o = o

        one_opens : (stop : Stop) (n : ℕ) → OpensBut shows w.lost killed (parts_of q.tiers).groups (length (parts_of q.tiers).drives) (after (seen q.vault).cells (flat (take n (seen q.vault).journal)))
            → OpensBut shows w.lost (allowed stop killed killed) (parts_of q.tiers).groups (length (parts_of q.tiers).drives) (after (seen q.vault).cells (flat (take n (seen q.vault).journal)))
        one_opens Killed n o = o
        one_opens PowerLost n o = o
