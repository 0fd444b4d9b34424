-- Files of which calls don't see the generations.
use Rattle.std.proofs.Common.{◌≡◌, ◌≢◌, ◌≤◌, ◌<◌, inl, inr, ⊎_elim, ℕ, suc, ◌+◌, Bool, true, false, if◌then◌else◌, List, refl, sym, ◌∙◌, ap, subst, arith, length}
use Rattle.std.specs.Prelude.{◌&&◌, nat_lt, nat_le}
use Rattle.std.proofs.lemmas.Bool.{lt-ltb, le-ltb, le-leb, lt-leb, ne_eqb, false≢true}
use Rattle.vault.specs.declared.store.Stop.{Stop}
use Rattle.vault.specs.Moments.{Elapses, Within}
use Rattle.file_vault.specs.Folders.{Bytes, Folder, Reads, Wrote, Mixed, WasCut, CutShort, wrote_at, mixed_at, cut_at, HasFile}
use Rattle.file_vault.specs.Generations.{stamp_bytes, stamp_offset, HasGeneration, is_stamp, unstamped, unstamped_of, HasNoGeneration, AgreeIn, AgreeAtStops}
use Rattle.file_vault.proofs.Heads.{never}
use Rattle.file_vault.proofs.Chains.{part_same}
use Rattle.file_vault.proofs.Puts.{below_or, inside_or}
use Rattle.file_vault.proofs.Stamps.{length_code}

-- which bytes are those of generations
pub no_stamp : (d k : ℕ) → 17 ≤ d → is_stamp d k ≡ false
no_stamp d k high = ap (λ t. t && (nat_le (stamp_offset d) k && nat_lt k (stamp_offset d + 8))) (le-ltb d 17 high)

pub is_stamp_at : (d k : ℕ) → d < 17 → stamp_offset d ≤ k → k < stamp_offset d + 8 → is_stamp d k ≡ true
is_stamp_at d k low from to =
    ap (λ t. t && (nat_le (stamp_offset d) k && nat_lt k (stamp_offset d + 8))) (lt-ltb d 17 low)
    ∙ ap (λ t. t && nat_lt k (stamp_offset d + 8)) (le-leb (stamp_offset d) k from) ∙ lt-ltb k (stamp_offset d + 8) to

before_stamp : (d k : ℕ) → k < stamp_offset d → is_stamp d k ≡ false
before_stamp d k low = ap (λ t. nat_lt d 17 && (t && nat_lt k (stamp_offset d + 8))) (lt-leb (stamp_offset d) k low) ∙ never (nat_lt d 17)

after_stamp : (d k : ℕ) → stamp_offset d + 8 ≤ k → is_stamp d k ≡ false
after_stamp d k past =
    ap (λ t. nat_lt d 17 && (nat_le (stamp_offset d) k && t)) (le-ltb k (stamp_offset d + 8) past)
    ∙ ap (λ t. nat_lt d 17 && t) (never (nat_le (stamp_offset d) k)) ∙ never (nat_lt d 17)

pub apart_high : (d at count : ℕ) → 17 ≤ d → HasNoGeneration d at count
apart_high d at count high k from to = no_stamp d k high

pub apart_table : (d at count : ℕ) → d ≡ 16 → at + count ≤ 65536 → HasNoGeneration d at count
apart_table d at count is low k from to = before_stamp d k (let there = ap stamp_offset is in omega (arith, low, to, there))

pub apart_drive : (d at count : ℕ) → d ≢ 16 → 4096 ≤ at → HasNoGeneration d at count
apart_drive d at count ne past k from to = after_stamp d k (let there : stamp_offset d ≡ 128 = ap (λ t. if t then 65536 else 128) (ne_eqb d 16 ne) in omega (arith, past, from, there))

-- bytes that are none of a generation
pub seen_at : (f : Folder) (d k : ℕ) → is_stamp d k ≡ false → unstamped f d k ≡ f d k
seen_at f d k is = ap (λ t. if t then 0 else f d k) is

same_seen : (f g : Folder) (d k : ℕ) → g d k ≡ f d k → unstamped g d k ≡ unstamped f d k
same_seen f g d k same = ap (λ b. if is_stamp d k then 0 else b) same

file_seen : (f g : Folder) (d : ℕ) → g d ≡ f d → unstamped g d ≡ unstamped f d
file_seen f g d same i k = if is_stamp d k then 0 else same i k

-- calls apart from generations, of files without them
module _ (file at : ℕ) (bytes : List ℕ) (apart : HasNoGeneration file at (length bytes)) (f g : Folder) where
  free : (j : ℕ) → j < length bytes → is_stamp file (at + j) ≡ false
  free j low = apart (at + j) (omega arith) (omega (arith, low))

  pub seen_wrote : Wrote file at bytes f g → Wrote file at bytes (unstamped f) (unstamped g)
  seen_wrote wrote = record {
    inside = λ j low. seen_at g file (at + j) (free j low) ∙ wrote.inside j low;
    outside = λ k out. same_seen f g file k (wrote.outside k out);
    others = λ d ne. file_seen f g d (wrote.others d ne);
  }

  pub seen_mixed : Mixed file at bytes f g → Mixed file at bytes (unstamped f) (unstamped g)
  seen_mixed mixed = record {
    inside = λ j low. ⊎_elim (λ was. inl (same_seen f g file (at + j) was)) (λ made. inr (seen_at g file (at + j) (free j low) ∙ made)) (mixed.inside j low);
    outside = λ k out. same_seen f g file k (mixed.outside k out);
    others = λ d ne. file_seen f g d (mixed.others d ne);
  }

pub seen_reads : (file at : ℕ) (bytes : List ℕ) (f : Folder) → HasNoGeneration file at (length bytes) → Reads (f file) at bytes → Reads (unstamped f file) at bytes
seen_reads file at bytes f apart reads j low = reads j low ∙ sym (seen_at f file (at + j) (apart (at + j) (omega arith) (omega (arith, low))))

pub seen_cut : (file at : ℕ) (f g : Folder) → 17 ≤ file → WasCut file at f g → WasCut file at (unstamped f) (unstamped g)
seen_cut file at f g high cut = record {
  before = λ k low. same_seen f g file k (cut.before k low);
  zeros = λ k past. seen_at g file k (no_stamp file k high) ∙ cut.zeros k past;
  others = λ d ne. file_seen f g d (cut.others d ne);
}

pub seen_short : (file at : ℕ) (f g : Folder) → 17 ≤ file → CutShort file at f g → CutShort file at (unstamped f) (unstamped g)
seen_short file at f g high cut = record {
  before = λ k low. same_seen f g file k (cut.before k low);
  either = λ k past. ⊎_elim (λ was. inl (same_seen f g file k was)) (λ none. inr (seen_at g file k (no_stamp file k high) ∙ none)) (cut.either k past);
  others = λ d ne. file_seen f g d (cut.others d ne);
}

-- what stops leave
pub unstamped_elapses : (m0 m1 : ℕ) (past since : ℕ → Folder → Type 0) (during leaves all : Folder → Type 0) → Elapses m0 m1 past since during leaves → ((f : Folder) → during f → all (unstamped f))
    → Elapses m0 m1 (λ t h. unstamped_of (past t) h) (λ t h. unstamped_of (since t) h) all (λ h. unstamped_of leaves h)
unstamped_elapses m0 m1 past since during leaves all time to = record {
  later = time.later;
  nothing_else = λ t h le left. ⊎_elim (λ was. inl (left.0, was, left.2)) (λ now. inr (subst all (sym left.2) (to left.0 now))) (time.nothing_else t left.0 le left.1);
  keeps = λ t h le left. (left.0, time.keeps t left.0 le left.1, left.2);
  ends = λ h now. subst all (sym now.2) (to now.0 (time.ends now.0 now.1));
}

pub unstamped_mixed_at : (file at : ℕ) (bytes : List ℕ) (outcomes : Folder → Type 0) → HasNoGeneration file at (length bytes) → (g : Folder) → mixed_at file at bytes outcomes g → mixed_at file at bytes (λ h. unstamped_of outcomes h) (unstamped g)
unstamped_mixed_at file at bytes outcomes apart g (f, was, mixed) = (unstamped f, (f, was, refl), seen_mixed file at bytes apart f g mixed)

pub unstamped_cut_at : (file at : ℕ) (outcomes : Folder → Type 0) → 17 ≤ file → (g : Folder) → cut_at file at outcomes g → cut_at file at (λ h. unstamped_of outcomes h) (unstamped g)
unstamped_cut_at file at outcomes high g (f, was, cut) = (unstamped f, (f, was, refl), seen_short file at f g high cut)

pub unstamped_killed : (file at : ℕ) (bytes : List ℕ) (first last : Folder → Type 0) → HasNoGeneration file at (length bytes) → Within last (wrote_at file at bytes first) → Within (λ h. unstamped_of last h) (wrote_at file at bytes (λ h. unstamped_of first h))
unstamped_killed file at bytes first last apart within h (g, now, is) =
    let from = within g now in
    (unstamped from.0, (from.0, from.1, refl), subst (λ (e : Folder). Wrote file at bytes (unstamped from.0) e) (sym is) (seen_wrote file at bytes apart from.0 g from.2))

pub unstamped_file : (file : ℕ) (s : Folder) (outcomes : Folder → Type 0) → HasFile file s outcomes → HasFile file (unstamped s) (λ h. unstamped_of outcomes h)
unstamped_file file s outcomes has h (g, now, is) = ap (λ (e : Folder). e file) is ∙ file_seen s g file (has g now)

-- a generation's own bytes aren't seen
pub hidden_mixed : (d : ℕ) (bytes : List ℕ) (f g : Folder) → d < 17 → length bytes ≡ 8 → Mixed d (stamp_offset d) bytes f g → unstamped g ≡ unstamped f
hidden_mixed d bytes f g low long mixed i e k = (byte e k) i
  where
    own : (k : ℕ) → unstamped g d k ≡ unstamped f d k
    own k = elim (inside_or k (stamp_offset d) 8) [
      | inl out ↦ same_seen f g d k (mixed.outside k (elim out [ inl before ↦ inl before | inr past ↦ inr (omega (arith, past, long)) ]))
      | inr (j, small, is) ↦ let stamp = is_stamp_at d k low (omega (arith, is)) (omega (arith, small, is)) in ap (λ t. if t then 0 else g d k) stamp ∙ sym (ap (λ t. if t then 0 else f d k) stamp)
    ]

    byte : (e k : ℕ) → unstamped g e k ≡ unstamped f e k
    byte e k = elim (below_or e d) [
      | inl under ↦ same_seen f g e k (ap (λ (b : Bytes). b k) (mixed.others e (λ same. omega (arith, same, under))))
      | inr rest ↦ elim rest [
        | inl same ↦ ap (λ n. unstamped g n k) same ∙ own k ∙ sym (ap (λ n. unstamped f n k) same)
        | inr (j, more) ↦ same_seen f g e k (ap (λ (b : Bytes). b k) (mixed.others e (λ same. omega (arith, same, more))))
      ]
    ]

-- generations stay where their bytes do
pub generation_same : (d n : ℕ) (f g : Folder) → d < 17 → ((k : ℕ) → is_stamp d k ≡ true → g d k ≡ f d k) → HasGeneration f d n → HasGeneration g d n
generation_same d n f g low same has = part_same (f d) (g d) (stamp_offset d) 8 (λ k from to. same k (is_stamp_at d k low from to)) ∙ has

-- all generations stay
abbrev pub SameStamps : Folder → Folder → Type 0
SameStamps f g = (d k : ℕ) → is_stamp d k ≡ true → g d k ≡ f d k

pub agree_same : (n : ℕ) (current raised : List Bool) (f g : Folder) → SameStamps f g → AgreeIn n current raised f → AgreeIn n current raised g
agree_same n current raised f g same agree = record {
  table = ⊎_elim (λ has. inl (table n has)) (λ has. inr (table (suc n) has)) agree.table;
  drive = λ d low mark. ⊎_elim (λ has. inl (drive d n low has.0, table n has.1)) (λ has. inr (drive d (suc n) low has)) (agree.drive d low mark);
  next = λ d low mark. drive d (suc n) low (agree.next d low mark);
}
  where
    table : (m : ℕ) → HasGeneration f 16 m → HasGeneration g 16 m
    table m has = generation_same 16 m f g (omega arith) (same 16) has

    drive : (d m : ℕ) → d < 16 → HasGeneration f d m → HasGeneration g d m
    drive d m low has = generation_same d m f g (omega (arith, low)) (same d) has

pub stamps_mixed : (file at : ℕ) (bytes : List ℕ) (f g : Folder) → HasNoGeneration file at (length bytes) → Mixed file at bytes f g → SameStamps f g
stamps_mixed file at bytes f g apart mixed d k is = elim (below_or d file) [
  | inl under ↦ ap (λ (b : Bytes). b k) (mixed.others d (λ same. omega (arith, same, under)))
  | inr rest ↦ elim rest [
    | inl same ↦ ap (λ n. g n k) same ∙ own (subst (λ n. is_stamp n k ≡ true) same is) ∙ sym (ap (λ n. f n k) same)
    | inr (j, more) ↦ ap (λ (b : Bytes). b k) (mixed.others d (λ same. omega (arith, same, more)))
  ]
]
  where
    own : is_stamp file k ≡ true → g file k ≡ f file k
    own stamp = elim (inside_or k at (length bytes)) [
      | inl out ↦ mixed.outside k out
      | inr (j, small, there) ↦ absurd (false≢true (sym (apart k (omega (arith, there)) (omega (arith, small, there))) ∙ stamp))
    ]

pub stamps_cut : (file at : ℕ) (f g : Folder) → 17 ≤ file → CutShort file at f g → SameStamps f g
stamps_cut file at f g high cut d k is = elim (below_or d file) [
  | inl under ↦ ap (λ (b : Bytes). b k) (cut.others d (λ same. omega (arith, same, under)))
  | inr rest ↦ elim rest [
    | inl same ↦ absurd (false≢true (sym (no_stamp d k (omega (arith, high, same))) ∙ is))
    | inr (j, more) ↦ ap (λ (b : Bytes). b k) (cut.others d (λ same. omega (arith, same, more)))
  ]
]

pub agree_on : {F : Type 0} (may_leave : F → Stop → Folder → Type 0) (old new : F) (n : ℕ) (current raised : List Bool) → AgreeAtStops may_leave old n current raised
    → ((stop : Stop) (g : Folder) → may_leave new stop g → (f : Folder) × may_leave old stop f × SameStamps f g) → AgreeAtStops may_leave new n current raised
agree_on may_leave old new n current raised agree leaves stop g now = let from = leaves stop g now in agree_same n current raised from.0 g from.2 (agree stop from.0 from.1)

-- a generation is raised
pub hidden_at : (d n : ℕ) (outcomes : Folder → Type 0) → d < 17 → (f : Folder) → mixed_at d (stamp_offset d) (stamp_bytes 8 n) outcomes f → unstamped_of outcomes (unstamped f)
hidden_at d n outcomes low f (e, was, mixed) = (e, was, hidden_mixed d (stamp_bytes 8 n) e f low (length_code 8 n) mixed)

-- nothing is written, and nothing cut
pub mixed_still : (file at : ℕ) (bytes : List ℕ) (f : Folder) → Mixed file at bytes f f
mixed_still file at bytes f = record { inside = λ j low. inl refl; outside = λ k out. refl; others = λ d ne. refl }

pub short_still : (file at : ℕ) (f : Folder) → CutShort file at f f
short_still file at f = record { before = λ k low. refl; either = λ k past. inl refl; others = λ d ne. refl }

pub agree_read : {F : Type 0} (may_leave : F → Stop → Folder → Type 0) (old new : F) (n : ℕ) (current raised : List Bool) → AgreeAtStops may_leave old n current raised
    → ((stop : Stop) → Within (may_leave new stop) (may_leave old stop)) → AgreeAtStops may_leave new n current raised
agree_read may_leave old new n current raised agree within stop g now = agree stop g (within stop g now)

pub agree_mixed : {F : Type 0} (may_leave : F → Stop → Folder → Type 0) (old new : F) (n : ℕ) (current raised : List Bool) (file at : ℕ) (bytes : List ℕ) → HasNoGeneration file at (length bytes) → AgreeAtStops may_leave old n current raised
    → ((stop : Stop) → Within (may_leave new stop) (mixed_at file at bytes (may_leave old stop))) → AgreeAtStops may_leave new n current raised
agree_mixed may_leave old new n current raised file at bytes apart agree within =
    agree_on may_leave old new n current raised agree (λ stop g now. let from = within stop g now in (from.0, from.1, stamps_mixed file at bytes from.0 g apart from.2))

pub agree_cut : {F : Type 0} (may_leave : F → Stop → Folder → Type 0) (old new : F) (n : ℕ) (current raised : List Bool) (file at : ℕ) → 17 ≤ file → AgreeAtStops may_leave old n current raised
    → ((stop : Stop) → Within (may_leave new stop) (cut_at file at (may_leave old stop))) → AgreeAtStops may_leave new n current raised
agree_cut may_leave old new n current raised file at high agree within =
    agree_on may_leave old new n current raised agree (λ stop g now. let from = within stop g now in (from.0, from.1, stamps_cut file at from.0 g high from.2))

pub zero_seen : (f : Folder) (d k : ℕ) → f d k ≡ 0 → unstamped f d k ≡ 0
zero_seen f d k is = either (is_stamp d k)
  where
    either : (t : Bool) → (if t then 0 else f d k) ≡ 0
    either true = refl
    either false = is
