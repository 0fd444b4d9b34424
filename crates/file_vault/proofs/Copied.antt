-- One file of a journal is copied over the other.
use Rattle.std.proofs.Common.{◌≡◌, ◌≢◌, ◌≤◌, ◌<◌, ◌⊎◌, inl, inr, ⊎_elim, ℕ, suc, ◌+◌, ◌-◌, Bool, false, if◌then◌else◌, List, Option, Some, Result, Ok, Err, refl, sym, ◌∙◌, ap, subst, arith, length, get_or}
use Rattle.std.specs.Prelude.{OnOk, IfSome, is_err}
use Rattle.std.proofs.lemmas.Bool.{true≢false, lt-ltb, le-ltb}
use Rattle.vault.specs.Moments.{Within}
use Rattle.file_vault.specs.Folders.{Bytes, Folder, Reads, Wrote, Mixed}
use Rattle.file_vault.specs.Headers.{SameAfterHeader}
use Rattle.file_vault.specs.declared.held.Held.{Held}
use Rattle.file_vault.specs.declared.held.Held.TheVariants.{Both, Only, Neither}
use Rattle.file_vault.specs.declared.twin.Twin.{Twin}
use Rattle.file_vault.specs.declared.twin.Twin.TheVariants.{First, Second}
use Rattle.file_vault.specs.Twins.{file_of, other, count_in, Counts, after_first_block, seen_as, MergesTwins, shown, AreAlike, CopiedOver, copied_at, IsOnly, IsAvailable, IsBoth, HasCount, IsRaised, newer_of, lead_of}
use Rattle.file_vault.proofs.Puts.{below_or, inside_or}
use Rattle.file_vault.proofs.Shown.{following_eq, count_same, shows_as, seen_same, which_file, with_other}

pub not_err : {T E : Type 0} (r : Result T E) (P : Type 0) → OnOk r P → is_err r ≡ false → P
not_err (Ok x) P ok is = ok
not_err (Err e) P ok is = absurd (true≢false is)

pub lead_apart : (lead : Twin) → file_of lead ≢ file_of (other lead)
lead_apart First e = omega (arith, e)
lead_apart Second e = omega (arith, e)

-- none, one more, and from a file that is the same
pub copied_still : (lead : Twin) (s f : Folder) → CopiedOver lead s f f
copied_still lead s f = record { mate = λ k. inl refl; others = λ d ne. refl }

pub copied_more : (lead : Twin) (s f g h : Folder) → CopiedOver lead s f g → CopiedOver lead s g h → CopiedOver lead s f h
copied_more lead s f g h one two = record {
  mate = λ k. elim (two.mate k) [
    | inl same ↦ elim (one.mate k) [ inl was ↦ inl (same ∙ was) | inr (past, is) ↦ inr (past, same ∙ is) ]
    | inr made ↦ inr made
  ];
  others = λ d ne. two.others d ne ∙ one.others d ne;
}

pub copied_from : (lead : Twin) (s t f g : Folder) → t (file_of lead) ≡ s (file_of lead) → CopiedOver lead t f g → CopiedOver lead s f g
copied_from lead s t f g same copied = record {
  mate = λ k. ⊎_elim (λ was. inl was) (λ made. inr (made.0, made.1 ∙ ap (λ (b : Bytes). b k) same)) (copied.mate k);
  others = copied.others;
}

pub copied_lead : (lead : Twin) (s f g : Folder) → CopiedOver lead s f g → g (file_of lead) ≡ f (file_of lead)
copied_lead lead s f g copied = copied.others (file_of lead) (lead_apart lead)

-- a write of the other file's bytes
pub copied_mixed : (lead : Twin) (n at : ℕ) (bytes : List ℕ) (s f g : Folder) → n ≡ file_of (other lead) → 4096 ≤ at → ((j : ℕ) → j < length bytes → get_or bytes j 0 ≡ s (file_of lead) (at + j)) → Mixed n at bytes f g → CopiedOver lead s f g
copied_mixed lead n at bytes s f g is past read mixed = record {
  mate = λ k. subst (λ m. (g m k ≡ f m k) ⊎ ((4096 ≤ k) × (g m k ≡ s (file_of lead) k))) is (byte k);
  others = λ d ne. mixed.others d (λ e. ne (e ∙ is));
}
  where
    byte : (k : ℕ) → (g n k ≡ f n k) ⊎ ((4096 ≤ k) × (g n k ≡ s (file_of lead) k))
    byte k = elim (inside_or k at (length bytes)) [
      | inl out ↦ inl (mixed.outside k out)
      | inr (j, low, e) ↦ elim (mixed.inside j low) [
        | inl same ↦ inl (ap (g n) e ∙ same ∙ sym (ap (f n) e))
        | inr made ↦ inr (omega (arith, past, e), ap (g n) e ∙ made ∙ read j low ∙ sym (ap (s (file_of lead)) e))
      ]
    ]

pub copied_done : (lead : Twin) (n at count : ℕ) (bytes : List ℕ) (s f g : Folder) → n ≡ file_of (other lead) → count ≡ length bytes → ((j : ℕ) → j < length bytes → get_or bytes j 0 ≡ s (file_of lead) (at + j)) → Wrote n at bytes f g
    → (k : ℕ) → at ≤ k → k < at + count → g (file_of (other lead)) k ≡ s (file_of lead) k
copied_done lead n at count bytes s f g is long read wrote k low high =
    let e : k ≡ at + (k - at) = omega (arith, low) in
    let inside : k - at < length bytes = omega (arith, low, high, long) in
    subst (λ m. g m k ≡ s (file_of lead) k) is (ap (g n) e ∙ wrote.inside (k - at) inside ∙ read (k - at) inside ∙ sym (ap (s (file_of lead)) e))

-- or both were the same
pub same_done : (b c : Bytes) (at count : ℕ) (xs ys : List ℕ) → count ≡ length xs → xs ≡ ys → Reads b at xs → Reads c at ys → (k : ℕ) → at ≤ k → k < at + count → c k ≡ b k
same_done b c at count xs ys long same one two k low high =
    let e : k ≡ at + (k - at) = omega (arith, low) in
    let inside : k - at < length xs = omega (arith, low, high, long) in
    ap c e ∙ sym (two (k - at) (subst (λ (l : List ℕ). k - at < length l) same inside)) ∙ sym (ap (λ (l : List ℕ). get_or l (k - at) 0) same) ∙ one (k - at) inside ∙ sym (ap b e)

-- copied up to the end of both, they are alike
pub alike_from : (lead : Twin) (s t : Folder) (end : ℕ) → CopiedOver lead s s t → ((k : ℕ) → 4096 ≤ k → k < end → t (file_of (other lead)) k ≡ s (file_of lead) k)
    → ((k : ℕ) → end ≤ k → (s (file_of lead) k ≡ 0) × (s (file_of (other lead)) k ≡ 0)) → AreAlike t
alike_from lead s t end copied done zeros k past = by lead refl
  where
    mate : t (file_of (other lead)) k ≡ s (file_of lead) k
    mate = elim (below_or k end) [
      | inl low ↦ done k past low
      | inr rest ↦
          let more : end ≤ k = elim rest [ inl e ↦ omega (arith, e) | inr (j, e) ↦ omega (arith, e) ] in
          elim (copied.mate k) [ inl same ↦ same ∙ (zeros k more).1 ∙ sym (zeros k more).0 | inr made ↦ made.1 ]
    ]

    mine : t (file_of lead) k ≡ s (file_of lead) k
    mine = ap (λ (b : Bytes). b k) (copied_lead lead s s t copied)

    by : (twin : Twin) → lead ≡ twin → t 17 k ≡ t 18 k
    by First is = subst (λ (w : Twin). t (file_of w) k ≡ t (file_of (other w)) k) is (mine ∙ sym mate)
    by Second is = sym (subst (λ (w : Twin). t (file_of w) k ≡ t (file_of (other w)) k) is (mine ∙ sym mate))

-- the counts stay
pub copied_count : (lead : Twin) (s f g : Folder) → CopiedOver lead s f g → (count_in (g (file_of lead)) ≡ count_in (f (file_of lead))) × (count_in (g (file_of (other lead))) ≡ count_in (f (file_of (other lead))))
copied_count lead s f g copied = (
  ap count_in (copied_lead lead s f g copied),
  count_same (f (file_of (other lead))) (g (file_of (other lead))) (λ k low. elim (copied.mate k) [ inl same ↦ same | inr (past, made) ↦ absurd (omega (arith, low, past)) ]),
)

-- what is shown while it is copied was shown before: of each byte one of two that count
pub copied_shows : (lead : Twin) (s f g h : Folder) → CopiedOver lead s f g → f (file_of lead) ≡ s (file_of lead) → Counts f lead → MergesTwins g h → MergesTwins f h
copied_shows First s f g h copied settled counts shows =
    let same = copied_count First s f g copied in
    let one = same.0 in
    let two = same.1 in
    record {
      journal = λ k. elim (shows.journal k) [
        | inl (c, is) ↦ inl (counts, is ∙ ap (λ (b : Bytes). after_first_block b k) (copied_lead First s f g copied))
        | inr (c, is) ↦ elim (copied.mate k) [
          | inl was ↦ inr (omega (arith, c, one, two), is ∙ following_eq (f 18) (g 18) k (λ past. was))
          | inr made ↦ inl (counts, is ∙ following_eq (f 17) (g 18) k (λ past. made.1 ∙ sym (ap (λ (b : Bytes). b k) settled)))
        ]
      ];
      hidden = shows.hidden;
      others = λ d n17 n18. shows.others d n17 n18 ∙ copied.others d n18;
    }
copied_shows Second s f g h copied settled counts shows =
    let same = copied_count Second s f g copied in
    let one = same.0 in
    let two = same.1 in
    record {
      journal = λ k. elim (shows.journal k) [
        | inl (c, is) ↦ elim (copied.mate k) [
          | inl was ↦ inl (omega (arith, c, one, two), is ∙ following_eq (f 17) (g 17) k (λ past. was))
          | inr made ↦ inr (counts, is ∙ following_eq (f 18) (g 17) k (λ past. made.1 ∙ sym (ap (λ (b : Bytes). b k) settled)))
        ]
        | inr (c, is) ↦ inr (counts, is ∙ ap (λ (b : Bytes). after_first_block b k) (copied_lead Second s f g copied))
      ];
      hidden = shows.hidden;
      others = λ d n17 n18. shows.others d n17 n18 ∙ copied.others d n17;
    }

pub copied_within : (lead : Twin) (s : Folder) (outcomes : Folder → Type 0) → ((f : Folder) → outcomes f → (f (file_of lead) ≡ s (file_of lead)) × Counts f lead) → Within (λ h. shown (copied_at lead s outcomes) h) (λ h. shown outcomes h)
copied_within lead s outcomes may h (g, (f, was, copied), shows) = let is = may f was in (f, was, copied_shows lead s f g h copied is.0 is.1 shows)

-- one piece more
pub copied_up : (lead : Twin) (s m t : Folder) (at count : ℕ) → CopiedOver lead s s m → CopiedOver lead m m t → ((k : ℕ) → 4096 ≤ k → k < at → m (file_of (other lead)) k ≡ s (file_of lead) k)
    → ((k : ℕ) → at ≤ k → k < at + count → t (file_of (other lead)) k ≡ m (file_of lead) k) → (k : ℕ) → 4096 ≤ k → k < at + count → t (file_of (other lead)) k ≡ s (file_of lead) k
copied_up lead s m t at count one two done piece k past high =
    let lead_same : m (file_of lead) k ≡ s (file_of lead) k = ap (λ (b : Bytes). b k) (copied_lead lead s s m one) in
    elim (below_or k at) [
      | inl under ↦ elim (two.mate k) [ inl same ↦ same ∙ done k past under | inr made ↦ made.1 ∙ lead_same ]
      | inr rest ↦ piece k (elim rest [ inl e ↦ omega (arith, e) | inr (j, e) ↦ omega (arith, e) ]) high ∙ lead_same
    ]

pub copied_next : (lead : Twin) (s m : Folder) (first middle : Folder → Type 0) → m (file_of lead) ≡ s (file_of lead) → Within middle (copied_at lead s first) → Within (copied_at lead m middle) (copied_at lead s first)
copied_next lead s m first middle same within h (g, now, copied) =
    let from = within g now in (from.0, from.1, copied_more lead s from.0 g h from.2 (copied_from lead s m g h same copied))

-- the one that is copied was settled, and the other is synced
pub settled_copied : (lead : Twin) (s t f g : Folder) → (f 17 ≡ s 17) × (f 18 ≡ s 18) → CopiedOver lead s f g → CopiedOver lead s s t → g (file_of (other lead)) ≡ t (file_of (other lead)) → (g 17 ≡ t 17) × (g 18 ≡ t 18)
settled_copied First s t f g is one two synced = (copied_lead First s f g one ∙ is.0 ∙ sym (copied_lead First s s t two), synced)
settled_copied Second s t f g is one two synced = (synced, copied_lead Second s f g one ∙ is.1 ∙ sym (copied_lead Second s s t two))

pub settled_lead : (lead : Twin) (s f : Folder) → (f 17 ≡ s 17) × (f 18 ≡ s 18) → (f (file_of lead) ≡ s (file_of lead)) × (f (file_of (other lead)) ≡ s (file_of (other lead)))
settled_lead First s f is = is
settled_lead Second s f (one, two) = (two, one)

-- which counts, by the counts that calls find
pub settled_counts : (lead : Twin) (s f : Folder) (count least : ℕ) → (f 17 ≡ s 17) × (f 18 ≡ s 18) → count ≡ count_in (s (file_of lead)) → least ≡ count_in (s (file_of (other lead)))
    → (count_in (f (file_of lead)) ≡ count) × (count_in (f (file_of (other lead))) ≡ least)
settled_counts lead s f count least settled is small = let so = settled_lead lead s f settled in (ap count_in so.0 ∙ sym is, ap count_in so.1 ∙ sym small)

pub copied_may : (lead : Twin) (s f g : Folder) (count least : ℕ) → (f 17 ≡ s 17) × (f 18 ≡ s 18) → count ≡ count_in (s (file_of lead)) → least ≡ count_in (s (file_of (other lead))) → CopiedOver lead s f g
    → (count_in (g (file_of lead)) ≡ count) × (count_in (g (file_of (other lead))) ≡ least)
copied_may lead s f g count least settled is small copied =
    let so = settled_counts lead s f count least settled is small in
    let same = copied_count lead s f g copied in
    (same.0 ∙ so.0, same.1 ∙ so.1)

other_back : (lead : Twin) → other (other lead) ≡ lead
other_back First = refl
other_back Second = refl

pub lead_leads : (lead : Twin) (g : Folder) (count least : ℕ) → (count_in (g (file_of lead)) ≡ count) × (count_in (g (file_of (other lead))) ≡ least) → least ≤ count → Counts g lead × (count_in (g (file_of (other lead))) ≤ suc count)
lead_leads lead g count least (one, two) low = (omega (arith, one, two, low), omega (arith, two, low))

pub mate_leads : (lead : Twin) (g : Folder) (count least : ℕ) → (count_in (g (file_of lead)) ≡ count) × (count_in (g (file_of (other lead))) ≡ least) → count ≤ suc least
    → Counts g (other lead) × (count_in (g (file_of (other (other lead)))) ≤ suc least)
mate_leads lead g count least (one, two) near =
    subst (λ (t : Twin). (count_in (g (file_of t)) ≤ suc (count_in (g (file_of (other lead))))) × (count_in (g (file_of t)) ≤ suc least)) (sym (other_back lead)) (omega (arith, one, two, near), omega (arith, one, near))

-- one that is left alone is the one that is read
pub only_lead : (twin : Twin) (held : Held) → IsOnly twin held → IsAvailable held → lead_of held ≡ twin
only_lead twin (Both count) only kept = absurd only
only_lead twin (Only one count) only kept = only
only_lead twin Neither only kept = absurd kept

-- and shows what was shown
pub alone_shows : (lead twin : Twin) (s t u : Folder) (held : Held) → CopiedOver lead s s t → Counts s lead → Counts t twin → IsOnly twin held → IsAvailable held → SameAfterHeader (file_of twin) t u → MergesTwins s (seen_as (lead_of held) u)
alone_shows lead twin s t u held copied counts now only kept same =
    subst (λ (w : Twin). MergesTwins s (seen_as w u)) (sym (only_lead twin held only kept))
    (subst (λ (h : Folder). MergesTwins s h) (sym (seen_same twin t u same)) (copied_shows lead s s t (seen_as twin t) copied refl counts (shows_as twin t now)))

pub pair_shows : (lead : Twin) (s t h : Folder) → CopiedOver lead s s t → Counts s lead → Counts t lead → h ≡ seen_as lead t → MergesTwins s h
pair_shows lead s t h copied counts now is = subst (λ (x : Folder). MergesTwins s x) (sym is) (copied_shows lead s s t (seen_as lead t) copied refl counts (shows_as lead t now))

pub some_at : (o : Option ℕ) (x : ℕ) (P : ℕ → Type 0) → IfSome o P → o ≡ Some x → P x
some_at o x P given is = subst (λ (q : Option ℕ). IfSome q P) is given

-- a file that goes on alone shows what it showed
pub alone_found : (twin : Twin) (s t u : Folder) (held : Held) → t ≡ s → IsOnly twin held → IsAvailable held → SameAfterHeader (file_of twin) t u → seen_as (lead_of held) u ≡ seen_as twin s
alone_found twin s t u held same only kept following =
    subst (λ (w : Twin). seen_as w u ≡ seen_as twin s) (sym (only_lead twin held only kept)) (seen_same twin t u following ∙ ap (λ (f : Folder). seen_as twin f) same)

-- it may go on where the other doesn't count more
pub alone_may : (twin : Twin) (s f : Folder) (count : ℕ) → f (file_of twin) ≡ s (file_of twin) → count ≡ count_in (s (file_of twin)) → Counts f twin → Counts f twin × (count_in (f (file_of (other twin))) ≤ suc count)
alone_may twin s f count same is counts = let mine : count_in (f (file_of twin)) ≡ count_in (s (file_of twin)) = ap count_in same in (counts, omega (arith, counts, mine, is))

pub both_are : (s f : Folder) → f 17 ≡ s 17 → f 18 ≡ s 18 → (f 17 ≡ s 17) × (f 18 ≡ s 18)
both_are s f one two = (one, two)

-- the one that is copied shows the same
pub copied_seen : (lead : Twin) (s t : Folder) → CopiedOver lead s s t → seen_as lead t ≡ seen_as lead s
copied_seen lead s t copied i d k = (byte d k) i
  where
    mine : (k : ℕ) → after_first_block (t (file_of lead)) k ≡ after_first_block (s (file_of lead)) k
    mine k = ap (λ (b : Bytes). after_first_block b k) (copied_lead lead s s t copied)

    apart : (lead : Twin) (d : ℕ) → d ≢ 17 → d ≢ 18 → d ≢ file_of (other lead)
    apart First d n17 n18 = n18
    apart Second d n17 n18 = n17

    byte : (d k : ℕ) → seen_as lead t d k ≡ seen_as lead s d k
    byte d k = elim (which_file d) [
      | inl e ↦ ap (λ n. seen_as lead t n k) e ∙ mine k ∙ sym (ap (λ n. seen_as lead s n k) e)
      | inr rest ↦ elim rest [
        | inl e ↦ ap (λ n. seen_as lead t n k) e ∙ sym (ap (λ n. seen_as lead s n k) e)
        | inr (n17, n18) ↦ ap (λ (b : Bytes). b k) (with_other _ t d n17 n18 ∙ copied.others d (apart lead d n17 n18) ∙ sym (with_other _ s d n17 n18))
      ]
    ]

pub only_both : {P : Type 0} (twin : Twin) (held : Held) → IsOnly twin held → IsBoth held → P
only_both twin (Both count) only both = absurd only
only_both twin (Only one count) only both = absurd both
only_both twin Neither only both = absurd both

-- which is newer
pub newer_second : (s : Folder) (first second : ℕ) → first ≡ count_in (s 17) → second ≡ count_in (s 18) → first < second → newer_of s ≡ Second
newer_second s first second one two low = ap (λ (t : Bool). if t then Second else First) (lt-ltb (count_in (s 17)) (count_in (s 18)) (omega (arith, one, two, low)))

pub newer_first : (s : Folder) (first second : ℕ) → first ≡ count_in (s 17) → second ≡ count_in (s 18) → second ≤ first → newer_of s ≡ First
newer_first s first second one two low = ap (λ (t : Bool). if t then Second else First) (le-ltb (count_in (s 17)) (count_in (s 18)) (omega (arith, one, two, low)))

-- the counts are raised
pub alone_raised : (twin : Twin) (n : ℕ) (s : Folder) (held : Held) → IsOnly twin held → HasCount n held → count_in (s (file_of twin)) < n → IsRaised s held
alone_raised twin n s (Both count) only has low = absurd only
alone_raised twin n s (Only one count) only has low = subst (λ (t : Twin). count_in (s (file_of t)) < count) (sym only) (omega (arith, has, low))
alone_raised twin n s Neither only has low = tt

pub both_raised : (lead : Twin) (count next : ℕ) (s : Folder) → next ≡ count + 1 → count ≡ count_in (s (file_of lead)) → count_in (s (file_of (other lead))) ≤ count → IsRaised s (Both next)
both_raised First count next s up is low = (omega (arith, up, is), omega (arith, up, low))
both_raised Second count next s up is low = (omega (arith, up, low), omega (arith, up, is))

pub raised_as : (s t : Folder) (held : Held) → count_in (t 17) ≡ count_in (s 17) → count_in (t 18) ≡ count_in (s 18) → IsRaised t held → IsRaised s held
raised_as s t (Both count) one two raised = let low = raised.0 in let more = raised.1 in (omega (arith, low, one), omega (arith, more, two))
raised_as s t (Only First count) one two raised = omega (arith, raised, one)
raised_as s t (Only Second count) one two raised = omega (arith, raised, two)
raised_as s t Neither one two raised = tt

pub raised_copied : (lead : Twin) (s t : Folder) (held : Held) → CopiedOver lead s s t → IsRaised t held → IsRaised s held
raised_copied First s t held copied raised = let same = copied_count First s s t copied in raised_as s t held same.0 same.1 raised
raised_copied Second s t held copied raised = let same = copied_count Second s s t copied in raised_as s t held same.1 same.0 raised
