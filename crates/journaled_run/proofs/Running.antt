-- A run in a vault, call by call.
use Rattle.std.proofs.Common.{◌≡◌, ◌<◌, ◌≤◌, ◌+◌, ◌⊎◌, inl, inr, ℕ, zero, suc, List, [], ◌∷◌, ◌++◌, length, refl, sym, ◌∙◌, ap, subst, arith, append-nil, append_assoc}
use Rattle.std.specs.Prelude.{Contains, All, IfOk, Ok, Result, get_or, take}
use Rattle.std.proofs.lemmas.List.{take_more}
use Rattle.std.proofs.lemmas.List.Elements.{All-get_or}
use Rattle.slot_tables.specs.Views.{ArrayView, SameSizes}
use Rattle.extent_groups.specs.Groups.{Groups}
use Rattle.array_store.proofs.Holding.{follows_same}
use Rattle.array_calls.specs.Calls.{FitsCall}
use Rattle.std.proofs.lemmas.List.Elements.{All-cons, All-contains, All-nil, Contains-append_cases, Contains-append_left, Contains-append_right}
use Rattle.vault.specs.Images.{Image, recovered}
use Rattle.vault.specs.declared.store.Stop.{Stop}
use Rattle.vault.specs.declared.store.Stop.TheVariants.{Killed, PowerLost}
use Rattle.extent_groups.specs.Cells.{Cells}
use Rattle.byte_store.specs.Lasting.{Acknowledges, Flushes, Lasts, Shown, HasAllOf}
use Rattle.byte_store.proofs.Lasts.{covering}
use Rattle.tiered_array.specs.Matches.{RepresentsTiers}
use Rattle.tiered_array.specs.Tiered.{Tiered}
use Rattle.array_calls.specs.Calls.{CallCase}
use Rattle.array_calls.specs.Growth.{Grows}
use Rattle.array_calls.proofs.Growing.{grows_same}
use Rattle.array_calls.specs.declared.call.CallAnswer.{CallAnswer}
use Rattle.array_calls.specs.declared.call.Call.{Call}
use Rattle.array_calls.specs.declared.call.Call.TheVariants as call
use Rattle.journaled_store.specs.Left.{HasBoth}
use Rattle.journaled_store.specs.Outlasting.{OpensAs, Outlasts, OutlastsSince, Point, allowed, parts_of}
use Rattle.journaled_store.proofs.Lasting.{allowed_within, moved_lasts}
use Rattle.journaled_run.specs.Showing.{IsShownIn}
use Rattle.journaled_run.specs.Runs.{AreAcknowledged, AreCompleted, IsCompleted, IsKeptRun, OpensAmong, Completed, Rises, shown_in}

-- what holds of an Ok
pub if_ok : {T E : Type 0} (P : T → Type 0) (r : Result T E) (x : T) → r ≡ Ok x → IfOk r P → P x
if_ok P r x is holds = subst (λ r. IfOk r P) is holds

-- a number that isn't 0
pub some_of : (n : ℕ) → (n ≡ 0 → ⊥) → 0 < n
some_of zero none = absurd (none refl)
some_of (suc n) none = omega arith

-- lists within others
has_head : (x : Shown) (xs : List Shown) → Contains (x ∷ xs) x
has_head x xs = Contains-append_left (x ∷ []) xs x (0, omega arith, refl)

has_rest : (x y : Shown) (ys : List Shown) → Contains ys y → Contains (x ∷ ys) y
has_rest x y ys has = Contains-append_right (x ∷ []) ys y has

within_one : (x : Shown) (more : List Shown) → Contains more x → HasAllOf (x ∷ []) more
within_one x more has b is = All-contains (Contains more) (x ∷ []) b (All-cons (Contains more) x [] has (All-nil (Contains more))) is

within_both : (xs ys more : List Shown) → HasAllOf xs more → HasAllOf ys more → HasAllOf (xs ++ ys) more
within_both xs ys more one two b is = elim (Contains-append_cases xs ys b is) [ inl first ↦ one b first | inr second ↦ two b second ]

within_left : (xs ys : List Shown) → HasAllOf xs (xs ++ ys)
within_left xs ys b is = Contains-append_left xs ys b is

has_end : (xs : List Shown) (x : Shown) → Contains (xs ++ x ∷ []) x
has_end xs x = Contains-append_right xs (x ∷ []) x (0, omega arith, refl)

-- what a run showed last
pub last_shown : {V : Type 0} → Shown → List (Completed V) → Shown
last_shown x [] = x
last_shown x (k ∷ kept) = last_shown k.shown kept

has_last : {V : Type 0} (x : Shown) (kept : List (Completed V)) → Contains (x ∷ shown_in kept) (last_shown x kept)
unfolding last_shown
has_last x [] = has_head x []
has_last x (k ∷ kept) = has_rest x (last_shown k.shown kept) (k.shown ∷ shown_in kept) (has_last k.shown kept)

last_more : {V : Type 0} (x : Shown) (kept : List (Completed V)) (k : Completed V) → last_shown x (kept ++ k ∷ []) ≡ k.shown
unfolding last_shown
last_more x [] k = refl
last_more x (e ∷ kept) k = last_more e.shown kept k

shown_more : {V : Type 0} (kept : List (Completed V)) (k : Completed V) → shown_in (kept ++ k ∷ []) ≡ shown_in kept ++ k.shown ∷ []
shown_more [] k = refl
shown_more (e ∷ kept) k = ap (λ xs. e.shown ∷ xs) (shown_more kept k)

-- one call more
are_more : {V : Type 0} (completed : Completed V → List Shown → Type 0) (size : ℕ) (T S U : Tiered) (before : List Shown) (calls : List Call) (answers : List CallAnswer) (kept : List (Completed V))
    (asked : Call) (answer : CallAnswer) (k : Completed V) → AreCompleted completed size T before calls answers kept S → k.call ≡ asked → k.state ≡ U → CallCase S asked answer U → Grows S.flat U.flat
    → IsShownIn size U.flat k.shown → completed k (before ++ shown_in kept) → AreCompleted completed size T before (calls ++ asked ∷ []) (answers ++ answer ∷ []) (kept ++ k ∷ []) U
are_more completed size T S U before [] [] [] asked answer k are same at case grows shown done =
    let from : (V : Tiered) → V ≡ U → CallCase S asked answer V × Grows S.flat V.flat × IsShownIn size V.flat k.shown =
    λ V is. subst (λ (V : Tiered). CallCase S asked answer V × Grows S.flat V.flat × IsShownIn size V.flat k.shown) (sym is) (case, grows, shown) in
    let there = from k.state at in (
      same,
      subst (λ (V : Tiered). CallCase V asked answer k.state) are there.0,
      subst (λ (V : Tiered). Grows V.flat k.state.flat) are there.1,
      there.2,
      subst (λ xs. completed k xs) (append-nil before) done,
      sym at,
    )
are_more completed size T S U before (c ∷ calls) (a ∷ answers) (e ∷ kept) asked answer k are same at case grows shown done = (
  are.0,
  are.1,
  are.2,
  are.3,
  are.4,
  are_more completed size e.state S U (before ++ e.shown ∷ []) calls answers kept asked answer k are.5 same at case grows shown
      (subst (λ xs. completed k xs) (sym (append_assoc before (e.shown ∷ []) (shown_in kept))) done),
)
are_more completed size T S U before [] [] (e ∷ kept) asked answer k are same at case grows shown done = absurd are
are_more completed size T S U before [] (a ∷ answers) kept asked answer k are same at case grows shown done = absurd are
are_more completed size T S U before (c ∷ calls) [] kept asked answer k are same at case grows shown done = absurd are
are_more completed size T S U before (c ∷ calls) (a ∷ answers) [] asked answer k are same at case grows shown done = absurd are

rise_more : {V : Type 0} (moment : V → ℕ) (first : ℕ) (kept : List (Completed V)) (last : ℕ) (k : Completed V) → Rises moment first kept last → last ≤ moment k.at.vault
    → Rises moment first (kept ++ k ∷ []) (moment k.at.vault)
rise_more moment first [] last k rise le = (omega (arith, rise, le), omega arith)
rise_more moment first (e ∷ kept) last k rise le = (rise.0, rise_more moment (moment e.at.vault) kept last k rise.1 le)

pub rise_later : {V : Type 0} (moment : V → ℕ) (first : ℕ) (kept : List (Completed V)) (last more : ℕ) → Rises moment first kept last → last ≤ more → Rises moment first kept more
rise_later moment first [] last more rise le = omega (arith, rise, le)
rise_later moment first (e ∷ kept) last more rise le = (rise.0, rise_later moment (moment e.at.vault) kept last more rise.1 le)

-- a call that fits an array fits one of the same sizes
fits_same : (a b : ArrayView) (c : Call) → SameSizes a b → FitsCall a.parts.groups c → FitsCall b.parts.groups c
fits_same a b (call.Fill w s p) same fits = fits ∙ sym same.payload
fits_same a b (call.Copy w s d) same fits = let n = same.blocks in omega (arith, fits, n)
fits_same a b (call.Commit w s d) same fits = let n = same.blocks in omega (arith, fits, n)
fits_same a b (call.ReadAt r) same fits = let n = same.blocks in omega (arith, fits, n)
fits_same a b (call.Write d p) same fits = (let n = same.blocks in let low = fits.0 in omega (arith, low, n), fits.1 ∙ sym same.payload)
fits_same a b (call.Trim d) same fits = let n = same.blocks in omega (arith, fits, n)
fits_same a b (call.Claim w s) same fits = fits
fits_same a b (call.Release w s) same fits = fits
fits_same a b (call.Discard w s) same fits = fits
fits_same a b call.Demote same fits = fits
fits_same a b call.Plug same fits = fits
fits_same a b call.Clean same fits = fits
fits_same a b call.Flush same fits = fits

pub fits_at : (calls : List Call) (i : ℕ) (one : Call) → i < length calls → one ≡ get_or calls i one → (a b : ArrayView) → SameSizes a b → All (FitsCall a.parts.groups) calls
    → FitsCall b.parts.groups one
fits_at calls i one inside is a b same all =
    fits_same a b one same (subst (FitsCall a.parts.groups) (sym is) (All-get_or (FitsCall a.parts.groups) calls i one inside all))

pub sizes_again : (a b c : ArrayView) → SameSizes a b → SameSizes b c → SameSizes a c
sizes_again a b c one two = record { payload = two.payload ∙ one.payload; blocks = two.blocks ∙ one.blocks }

-- a list for both kinds of stops
pub one_list : (stop : Stop) (list : List Shown) (groups : Groups) (count : ℕ) (c : Cells) → OpensAs HasBoth (allowed stop list list) groups count c → OpensAs HasBoth list groups count c
one_list Killed list groups count c o = o
one_list PowerLost list groups count c o = o

flush_or : (c : Call) → (c ≡ call.Flush) ⊎ (c ≡ call.Flush → ⊥)
flush_or call.Flush = inl refl
flush_or (call.Claim w s) = inr (λ e. absurd (cc))
flush_or (call.Release w s) = inr (λ e. absurd (cc))
flush_or (call.Fill w s p) = inr (λ e. absurd (cc))
flush_or (call.Copy w s b) = inr (λ e. absurd (cc))
flush_or (call.Commit w s b) = inr (λ e. absurd (cc))
flush_or (call.Discard w s) = inr (λ e. absurd (cc))
flush_or (call.ReadAt r) = inr (λ e. absurd (cc))
flush_or (call.Write b p) = inr (λ e. absurd (cc))
flush_or (call.Trim b) = inr (λ e. absurd (cc))
flush_or call.Demote = inr (λ e. absurd (cc))
flush_or call.Plug = inr (λ e. absurd (cc))
flush_or call.Clean = inr (λ e. absurd (cc))

module _ {V : Type 0} (known : V → Type 0) (seen : V → Image) (may_leave : V → Stop → Image → Type 0) (moment : V → ℕ) (left_since : V → Stop → ℕ → Image → Type 0) where
  abbrev Out : Point V → List Shown → List Shown → Type 0
  Out = Outlasts HasBoth known seen may_leave

  abbrev Since : Point V → ℕ → List Shown → List Shown → Type 0
  Since = OutlastsSince HasBoth left_since

  abbrev Lasting : Shown → Point V → Point V → Type 0
  Lasting now p q = Lasts (Outlasts HasBoth known seen may_leave) (λ (r : Point V). moment r.vault) (OutlastsSince HasBoth left_since) now now p q

  since_wider : (p : Point V) (t : ℕ) (killed cut more_killed more_cut : List Shown) → Since p t killed cut → HasAllOf killed more_killed → HasAllOf cut more_cut → Since p t more_killed more_cut
  since_wider p t killed cut more_killed more_cut since k c stop i left =
      let o = since stop i left in record { what = o.what; listed = allowed_within stop killed cut more_killed more_cut k c o.what o.listed; left = λ absent d there same. o.left absent d there same }

  -- Of each call that returned: since then a kill leaves what was shown then or later, and a loss of power what was ever shown. Since a
  -- flush, each stop leaves what was shown then or later, and what it may leave now came after it.
  abbrev HeldAt : Point V → List Shown → List Shown → List (Completed V) → Type 0
  HeldAt p cut all [] = Unit {0}
  HeldAt p cut all (k ∷ kept) =
      (moment k.at.vault ≤ moment p.vault) × Since p (moment k.at.vault) (k.shown ∷ shown_in kept) all
      × (k.call ≡ call.Flush → HasAllOf cut (k.shown ∷ shown_in kept) × Since p (moment k.at.vault) (k.shown ∷ shown_in kept) (k.shown ∷ shown_in kept)) × HeldAt p cut all kept

  -- a run so far
  pub record Running (size since : ℕ) (T : Tiered) (before : List Shown) (first : Shown) (calls : List Call) (answers : List CallAnswer) (p : Point V) : Type 0 where
    pub kept : List (Completed V)
    pub state : Tiered
    pub are : AreCompleted (λ k shown. IsCompleted known seen may_leave shown k) size T (before ++ first ∷ []) calls answers kept state
    pub matches : RepresentsTiers p.tiers state
    pub is_shown : IsShownIn size state.flat (last_shown first kept)
    pub early : since ≤ moment p.vault
    pub rise : Rises moment since kept (moment p.vault)
    pub any : Since p since (before ++ first ∷ shown_in kept) (before ++ first ∷ shown_in kept)
    pub cut : List Shown
    pub within : HasAllOf cut (before ++ first ∷ shown_in kept)
    pub now : Out p (last_shown first kept ∷ []) cut
    pub held : HeldAt p cut (before ++ first ∷ shown_in kept) kept

  -- after a call
  module _ (p q : Point V) (now : Shown) (lasts : Lasting now p q) where
    since_on : (t : ℕ) (killed some more_killed more_cut : List Shown) (was : Shown) (cut : List Shown) → t ≤ moment p.vault → Since p t killed some → Out p (was ∷ []) cut
        → HasAllOf killed more_killed → HasAllOf some more_cut → Contains more_killed was → Contains more_killed now → HasAllOf cut more_cut → Contains more_cut now → Since q t more_killed more_cut
    since_on t killed some more_killed more_cut was cut le since out k c has_was has_now within has_cut =
        lasts.earlier t killed some (was ∷ []) cut more_killed more_cut le since out k c
        (record { each = within_one was more_killed has_was; has_before = has_now; has_now = has_now }) (record { each = within; has_before = has_cut; has_now = has_cut })

    pub later : (was : Shown) (cut : List Shown) → Out p (was ∷ []) cut → moment p.vault ≤ moment q.vault
    later was cut out = lasts.later (was ∷ []) cut out

  -- what the calls before it promise holds after it, too
  module _ (p q : Point V) (k : Completed V) (lasts : Lasting k.shown p q) where
    held_on : (x : Shown) (kept : List (Completed V)) (was : Shown) (cut all more_cut more_all : List Shown) → was ≡ last_shown x kept → Out p (was ∷ []) cut
        → HasAllOf all more_all → HasAllOf cut more_all → Contains more_all k.shown → HasAllOf more_cut (cut ++ k.shown ∷ k.shown ∷ [])
        → HeldAt q more_cut more_all (k ∷ []) → HeldAt p cut all kept → HeldAt q more_cut more_all (kept ++ k ∷ [])
    unfolding last_shown
    held_on x [] was cut all more_cut more_all is out wider cut_wider has_now cut_in end held = end
    held_on x (e ∷ kept) was cut all more_cut more_all is out wider cut_wider has_now cut_in end held =
        let now = k.shown in
        let list = e.shown ∷ shown_in kept in
        let more : List Shown = e.shown ∷ shown_in (kept ++ k ∷ []) in
        let same : more ≡ list ++ now ∷ [] = ap (λ xs. e.shown ∷ xs) (shown_more kept k) in
        let grown : HasAllOf list more = subst (λ (xs : List Shown). HasAllOf list xs) (sym same) (within_left list (now ∷ [])) in
        let there : Contains more now = subst (λ (xs : List Shown). Contains xs now) (sym same) (has_end list now) in
        let has_was : Contains more was = grown was (subst (λ (y : Shown). Contains list y) (sym is) (has_last e.shown kept)) in
        let twice : HasAllOf (now ∷ now ∷ []) more = within_both (now ∷ []) (now ∷ []) more (within_one now more there) (within_one now more there) in
        let late = later p q now lasts was cut out in
        let le = held.0 in (
          omega (arith, le, late),
          since_on p q now lasts (moment e.at.vault) list all more more_all was cut held.0 held.1 out grown wider has_was there cut_wider has_now,
          (λ flush. let f = held.2 flush in (
            (λ b has. within_both cut (now ∷ now ∷ []) more (λ y was_in. grown y (f.0 y was_in)) twice b (cut_in b has)),
            since_on p q now lasts (moment e.at.vault) list list more more was cut held.0 f.1 out grown grown has_was there (λ y was_in. grown y (f.0 y was_in)) there,
          )),
          held_on e.shown kept was cut all more_cut more_all is out wider cut_wider has_now cut_in end held.3,
        )

  -- what stops leave at the end
  module _ (p q : Point V) (now : Shown) (lasts : Lasting now p q) where
    pub acknowledged_at : (x : Shown) (kept : List (Completed V)) (was : Shown) (cut all : List Shown) → was ≡ last_shown x kept → Out p (was ∷ []) cut → HasAllOf cut all
        → HeldAt p cut all kept → AreAcknowledged moment (OpensAmong left_since q) now kept
    unfolding last_shown
    acknowledged_at x [] was cut all is out within held = tt
    acknowledged_at x (e ∷ kept) was cut all is out within held =
        let list = e.shown ∷ shown_in kept in
        let grown : HasAllOf list (list ++ now ∷ []) = within_left list (now ∷ []) in
        let there = has_end list now in
        let has_was : Contains (list ++ now ∷ []) was = grown was (subst (λ (y : Shown). Contains list y) (sym is) (has_last e.shown kept)) in
        let all_grown : HasAllOf all (all ++ now ∷ []) = within_left all (now ∷ []) in (
          (λ i left. since_on p q now lasts (moment e.at.vault) list all (list ++ now ∷ []) (all ++ now ∷ []) was cut held.0 held.1 out grown all_grown has_was there (λ y has. all_grown y (within y has)) (has_end all now)
              Killed i left),
          (λ flush stop i left. let f = held.2 flush in
              one_list stop (list ++ now ∷ []) (parts_of q.tiers).groups (length (parts_of q.tiers).drives) (recovered i)
              (since_on p q now lasts (moment e.at.vault) list list (list ++ now ∷ []) (list ++ now ∷ []) was cut held.0 f.1 out grown grown has_was there (λ y has. grown y (f.0 y has)) there stop i left)),
          acknowledged_at e.shown kept was cut all is out within held.3,
        )

    pub any_end : (size since : ℕ) (T : Tiered) (before : List Shown) (first : Shown) (calls : List Call) (answers : List CallAnswer) (r : Running size since T before first calls answers p)
        → Since q since ((before ++ first ∷ shown_in r.kept) ++ now ∷ []) ((before ++ first ∷ shown_in r.kept) ++ now ∷ [])
    any_end size since T before first calls answers r =
        let was = last_shown first r.kept in
        let all = before ++ first ∷ shown_in r.kept in
        let grown : HasAllOf all (all ++ now ∷ []) = within_left all (now ∷ []) in
        let there = has_end all now in
        let has_was : Contains (all ++ now ∷ []) was = grown was (Contains-append_right before (first ∷ shown_in r.kept) was (has_last first r.kept)) in
        since_on p q now lasts since all all (all ++ now ∷ []) (all ++ now ∷ []) was r.cut r.early r.any r.now grown grown has_was there (λ y has. grown y (r.within y has)) there

    -- the run that ends here
    abbrev pub run_of : (size since : ℕ) (T : Tiered) (before : List Shown) (first : Shown) (calls : List Call) (answers : List CallAnswer) (r : Running size since T before first calls answers p)
        → (last : Tiered) → RepresentsTiers q.tiers last → IsShownIn size last.flat now → IsKeptRun known seen may_leave moment left_since size since T before first calls answers q
    run_of size since T before first calls answers r last matches shown = record {
      kept = r.kept;
      state = r.state;
      are = r.are;
      last = last;
      now = matches;
      shown = now;
      is_shown = shown;
      any = λ stop i left.
          one_list stop ((before ++ first ∷ shown_in r.kept) ++ now ∷ []) (parts_of q.tiers).groups (length (parts_of q.tiers).drives) (recovered i)
          (any_end size since T before first calls answers r stop i left);
      rise = rise_later moment since r.kept (moment p.vault) (moment q.vault) r.rise (later p q now lasts (last_shown first r.kept) r.cut r.now);
      acknowledged = acknowledged_at first r.kept (last_shown first r.kept) r.cut (before ++ first ∷ shown_in r.kept) refl r.now r.within r.held;
    }

  module _ (only_now : (vault : V) → known vault → (stop : Stop) (i : Image) → left_since vault stop (moment vault) i → may_leave vault stop i) where
    -- a stop since now
    since_now : (p : Point V) (killed cut : List Shown) → Out p killed cut → Since p (moment p.vault) killed cut
    since_now p killed cut out stop i left = out.leaves stop i (only_now p.vault out.is_known stop i left)

    -- before the first call
    pub started : (size : ℕ) (T : Tiered) (before : List Shown) (first : Shown) (p : Point V) → RepresentsTiers p.tiers T → IsShownIn size T.flat first → Out p (first ∷ []) before
        → Running size (moment p.vault) T before first [] [] p
    unfolding last_shown
    started size T before first p matches shown out =
        let all : List Shown = before ++ first ∷ [] in record {
          kept = [];
          state = T;
          are = refl;
          matches = matches;
          is_shown = shown;
          early = omega arith;
          rise = omega arith;
          any = since_wider p (moment p.vault) (first ∷ []) before all all (since_now p (first ∷ []) before out) (within_one first all (has_end before first)) (within_left before (first ∷ []));
          cut = before;
          within = within_left before (first ∷ []);
          now = out;
          held = tt;
        }

    -- a call that returned, after which a loss of power leaves one of a list
    module _ (size since : ℕ) (T : Tiered) (before : List Shown) (first : Shown) (calls : List Call) (answers : List CallAnswer) (p q : Point V)
        (r : Running size since T before first calls answers p) (asked : Call) (answer : CallAnswer) (U : Tiered) (what : Shown) (case : CallCase r.state asked answer U)
        (grows : Grows r.state.flat U.flat) (matches : RepresentsTiers q.tiers U) (shown : IsShownIn size U.flat what) (lasts : Lasting what p q) where
      went_on : (cut : List Shown) → Out q (what ∷ []) cut → HasAllOf cut (r.cut ++ what ∷ what ∷ []) → (asked ≡ call.Flush → HasAllOf cut (what ∷ []))
          → Running size since T before first (calls ++ asked ∷ []) (answers ++ answer ∷ []) q
      went_on cut out cut_in flushed =
          let k : Completed V = record { call = asked; state = U; shown = what; at = q } in
          let was = last_shown first r.kept in
          let all : List Shown = before ++ first ∷ shown_in r.kept in
          let more : List Shown = before ++ first ∷ shown_in (r.kept ++ k ∷ []) in
          let same : more ≡ all ++ what ∷ [] = ap (λ xs. before ++ first ∷ xs) (shown_more r.kept k) ∙ sym (append_assoc before (first ∷ shown_in r.kept) (what ∷ [])) in
          let grown : HasAllOf all more = subst (λ (xs : List Shown). HasAllOf all xs) (sym same) (within_left all (what ∷ [])) in
          let there : Contains more what = subst (λ (xs : List Shown). Contains xs what) (sym same) (has_end all what) in
          let twice : HasAllOf (what ∷ what ∷ []) more = within_both (what ∷ []) (what ∷ []) more (within_one what more there) (within_one what more there) in
          let has_was : Contains more was = grown was (Contains-append_right before (first ∷ shown_in r.kept) was (has_last first r.kept)) in
          let cut_wide : HasAllOf r.cut more = λ b has. grown b (r.within b has) in
          let cut_now : HasAllOf cut more = λ b has. within_both r.cut (what ∷ what ∷ []) more cut_wide twice b (cut_in b has) in
          let cut_then : HasAllOf cut (all ++ what ∷ []) = subst (λ (xs : List Shown). HasAllOf cut xs) same cut_now in
          let late = later p q what lasts was r.cut r.now in
          let early = r.early in
          let here = since_now q (what ∷ []) cut out in
          record {
            kept = r.kept ++ k ∷ [];
            state = U;
            are = are_more (λ k shown. IsCompleted known seen may_leave shown k) size T r.state U (before ++ first ∷ []) calls answers r.kept asked answer k r.are refl refl case grows shown
                (record {
                  matches = matches;
                  cut = cut;
                  within = subst (λ (xs : List Shown). HasAllOf cut (xs ++ what ∷ [])) (sym (append_assoc before (first ∷ []) (shown_in r.kept))) cut_then;
                  durable = flushed;
                  outlasts = out;
                });
            matches = matches;
            is_shown = subst (λ (w : Shown). IsShownIn size U.flat w) (sym (last_more first r.kept k)) shown;
            early = omega (arith, early, late);
            rise = rise_more moment since r.kept (moment p.vault) k r.rise late;
            any = since_on p q what lasts since all all more more was r.cut r.early r.any r.now grown grown has_was there cut_wide there;
            cut = cut;
            within = cut_now;
            now = subst (λ (w : Shown). Out q (w ∷ []) cut) (sym (last_more first r.kept k)) out;
            held = held_on p q k lasts first r.kept was r.cut all cut more refl r.now grown cut_wide there cut_in (
              omega arith,
              since_wider q (moment q.vault) (what ∷ []) cut (what ∷ []) more here (λ b has. has) cut_now,
              (λ flush. (flushed flush, since_wider q (moment q.vault) (what ∷ []) cut (what ∷ []) (what ∷ []) here (λ b has. has) (flushed flush))),
              tt,
            )
                r.held;
          }

      pub called : Acknowledges (Outlasts HasBoth known seen may_leave) what what p q → (asked ≡ call.Flush → Flushes (Outlasts HasBoth known seen may_leave) what p q)
          → Running size since T before first (calls ++ asked ∷ []) (answers ++ answer ∷ []) q
      called acknowledges flushes = elim (flush_or asked) [
        | inl is ↦ went_on (what ∷ []) (flushes is (last_shown first r.kept ∷ []) r.cut r.now) (λ b has. Contains-append_right r.cut (what ∷ what ∷ []) b (Contains-append_left (what ∷ []) (what ∷ []) b has)) (λ flush b has. has)
        | inr other ↦ went_on (r.cut ++ what ∷ what ∷ []) (acknowledges (last_shown first r.kept ∷ []) r.cut (r.cut ++ what ∷ what ∷ []) r.now (covering r.cut what what)) (λ b has. has) (λ flush. absurd (other flush))
      ]

  -- the first calls of a list, and one more
  pub goes_on : (size since : ℕ) (T : Tiered) (before : List Shown) (first : Shown) (calls : List Call) (answers next : List CallAnswer) (i : ℕ) (one : Call) (answer : CallAnswer) (q : Point V)
      → i < length calls → one ≡ get_or calls i one → next ≡ answers ++ answer ∷ [] → Running size since T before first (take i calls ++ one ∷ []) (answers ++ answer ∷ []) q
      → Running size since T before first (take (i + 1) calls) next q
  goes_on size since T before first calls answers next i one answer q inside is grown r =
      let more : take (i + 1) calls ≡ take i calls ++ one ∷ [] = take_more calls i one inside ∙ ap (λ c. take i calls ++ c ∷ []) (sym is) in
      subst (λ cs. Running size since T before first cs next q) (sym more) (subst (λ reply. Running size since T before first (take i calls ++ one ∷ []) reply q) (sym grown) r)

  -- nothing is done
  module _ (counts_now : (vault : V) → known vault → (stop : Stop) (t : ℕ) (i : Image) → t ≤ moment vault → may_leave vault stop i → left_since vault stop t i)
      (only_now : (vault : V) → known vault → (stop : Stop) (i : Image) → left_since vault stop (moment vault) i → may_leave vault stop i) where
    pub at_rest : (p : Point V) (now : Shown) → Lasting now p p
    at_rest p now = moved_lasts HasBoth known seen may_leave moment left_since counts_now only_now p p refl (follows_same p.tiers) (λ on. on) (λ lost cells live. live) now now

    -- a run without a call
    pub none_kept : (size : ℕ) (T : Tiered) (before : List Shown) (first : Shown) (p : Point V) → RepresentsTiers p.tiers T → IsShownIn size T.flat first → Out p (first ∷ []) before
        → (run : IsKeptRun known seen may_leave moment left_since size (moment p.vault) T before first [] [] p) × (run.last ≡ run.state)
    unfolding started
    none_kept size T before first p matches shown out =
        (run_of p p first (at_rest p first) size (moment p.vault) T before first [] [] (started only_now size T before first p matches shown out) T matches shown, refl)
