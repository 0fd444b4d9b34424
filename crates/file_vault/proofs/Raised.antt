-- The counts of two files of a journal that are alike are raised, one after the other.
use Rattle.std.proofs.Common.{◌≡◌, ◌≤◌, ◌⊎◌, inl, inr, ℕ, suc, refl, sym, ◌∙◌, ap, subst, arith}
use Rattle.vault.specs.Moments.{Within}
use Rattle.file_vault.specs.Folders.{Bytes, Folder, HasFile}
use Rattle.file_vault.specs.Headers.{SameAfterHeader}
use Rattle.file_vault.specs.declared.twin.Twin.{Twin}
use Rattle.file_vault.specs.declared.twin.Twin.TheVariants.{First, Second}
use Rattle.file_vault.specs.Twins.{file_of, other, count_in, Counts, MergesTwins, shown, AreAlike, SameBoth, counted_at}
use Rattle.file_vault.proofs.Shown.{both_of, following_eq}
use Rattle.file_vault.proofs.Copied.{lead_apart}

-- each file has these bytes after the first block
pub record Holds (b : Bytes) (f : Folder) : Type 0 where
  pub first : (k : ℕ) → 4096 ≤ k → f 17 k ≡ b k
  pub second : (k : ℕ) → 4096 ≤ k → f 18 k ≡ b k

pub holds_on : (b : Bytes) (f g : Folder) → Holds b f → SameBoth f g → Holds b g
holds_on b f g holds same = record { first = λ k past. same.first k past ∙ holds.first k past; second = λ k past. same.second k past ∙ holds.second k past }

-- so all files show the same that have one file that counts
pub holds_shows : (b : Bytes) (twin : Twin) (f g h : Folder) → Holds b f → SameBoth f g → Counts f twin → MergesTwins g h → MergesTwins f h
holds_shows b First f g h holds same counts shows = record {
  journal = λ k. inl (
    counts,
    elim (shows.journal k) [
      | inl (c, is) ↦ is ∙ following_eq (f 17) (g 17) k (λ past. same.first k past)
      | inr (c, is) ↦ is ∙ following_eq (f 17) (g 18) k (λ past. same.second k past ∙ holds.second k past ∙ sym (holds.first k past))
    ],
  );
  hidden = shows.hidden;
  others = λ d n17 n18. shows.others d n17 n18 ∙ same.others d n17 n18;
}
holds_shows b Second f g h holds same counts shows = record {
  journal = λ k. inr (
    counts,
    elim (shows.journal k) [
      | inl (c, is) ↦ is ∙ following_eq (f 18) (g 17) k (λ past. same.first k past ∙ holds.first k past ∙ sym (holds.second k past))
      | inr (c, is) ↦ is ∙ following_eq (f 18) (g 18) k (λ past. same.second k past)
    ],
  );
  hidden = shows.hidden;
  others = λ d n17 n18. shows.others d n17 n18 ∙ same.others d n17 n18;
}

-- between which numbers the counts are of the file that leads, and of the other
pub record Counted (lead : Twin) (b : Bytes) (low high least most : ℕ) (f : Folder) : Type 0 where
  pub holds : Holds b f
  pub low_is : low ≤ count_in (f (file_of lead))
  pub high_is : count_in (f (file_of lead)) ≤ high
  pub least_is : least ≤ count_in (f (file_of (other lead)))
  pub most_is : count_in (f (file_of (other lead))) ≤ most

other_twice : (lead : Twin) → other (other lead) ≡ lead
other_twice First = refl
other_twice Second = refl

-- the count of one becomes another
mate_step : (lead : Twin) (b : Bytes) (low high least most v n : ℕ) (f g : Folder) → n ≡ file_of (other lead) → least ≤ v → most ≤ v → Counted lead b low high least most f → SameAfterHeader n f g
    → (count_in (g n) ≡ count_in (f n)) ⊎ (count_in (g n) ≡ v) → Counted lead b low high least v g
mate_step lead b low high least most v n f g is from to was same either =
    let following = subst (λ m. SameAfterHeader m f g) is same in
    let mine : count_in (g (file_of lead)) ≡ count_in (f (file_of lead)) = ap count_in (following.others (file_of lead) (lead_apart lead)) in
    let mate = subst (λ m. (count_in (g m) ≡ count_in (f m)) ⊎ (count_in (g m) ≡ v)) is either in
    record {
      holds = holds_on b f g was.holds (both_of (other lead) f g following);
      low_is = omega (arith, was.low_is, mine);
      high_is = omega (arith, was.high_is, mine);
      least_is = elim mate [ inl e ↦ omega (arith, was.least_is, e) | inr e ↦ omega (arith, from, e) ];
      most_is = elim mate [ inl e ↦ omega (arith, was.most_is, to, e) | inr e ↦ omega (arith, e) ];
    }

lead_step : (lead : Twin) (b : Bytes) (low high least most v n : ℕ) (f g : Folder) → n ≡ file_of lead → low ≤ v → high ≤ v → Counted lead b low high least most f → SameAfterHeader n f g
    → (count_in (g n) ≡ count_in (f n)) ⊎ (count_in (g n) ≡ v) → Counted lead b low v least most g
lead_step lead b low high least most v n f g is from to was same either =
    let following = subst (λ m. SameAfterHeader m f g) is same in
    let mate : count_in (g (file_of (other lead))) ≡ count_in (f (file_of (other lead))) = ap count_in (following.others (file_of (other lead)) (λ e. lead_apart lead (sym e))) in
    let mine = subst (λ m. (count_in (g m) ≡ count_in (f m)) ⊎ (count_in (g m) ≡ v)) is either in
    record {
      holds = holds_on b f g was.holds (both_of lead f g following);
      low_is = elim mine [ inl e ↦ omega (arith, was.low_is, e) | inr e ↦ omega (arith, from, e) ];
      high_is = elim mine [ inl e ↦ omega (arith, was.high_is, to, e) | inr e ↦ omega (arith, e) ];
      least_is = omega (arith, was.least_is, mate);
      most_is = omega (arith, was.most_is, mate);
    }

-- in what stops leave, during the write and after it
pub mate_stage : (lead : Twin) (b : Bytes) (low high least most v n : ℕ) (first last : Folder → Type 0) → n ≡ file_of (other lead) → least ≤ v → most ≤ v → ((f : Folder) → first f → Counted lead b low high least most f)
    → Within last (counted_at n v first) → (g : Folder) → last g → Counted lead b low high least v g
mate_stage lead b low high least most v n first last is from to was within g now =
    let f = within g now in mate_step lead b low high least most v n f.0 g is from to (was f.0 f.1) f.2 f.3

pub lead_stage : (lead : Twin) (b : Bytes) (low high least most v n : ℕ) (first last : Folder → Type 0) → n ≡ file_of lead → low ≤ v → high ≤ v → ((f : Folder) → first f → Counted lead b low high least most f)
    → Within last (counted_at n v first) → (g : Folder) → last g → Counted lead b low v least most g
lead_stage lead b low high least most v n first last is from to was within g now =
    let f = within g now in lead_step lead b low high least most v n f.0 g is from to (was f.0 f.1) f.2 f.3

pub mate_made : (lead : Twin) (b : Bytes) (low high least v n : ℕ) (s : Folder) (last : Folder → Type 0) → n ≡ file_of (other lead) → HasFile n s last → count_in (s n) ≡ v
    → ((g : Folder) → last g → Counted lead b low high least v g) → (g : Folder) → last g → Counted lead b low high v v g
mate_made lead b low high least v n s last is durable made was g now =
    let so = was g now in
    let e : count_in (g (file_of (other lead))) ≡ v = subst (λ m. count_in (g m) ≡ v) is (ap count_in (durable g now) ∙ made) in
    record { holds = so.holds; low_is = so.low_is; high_is = so.high_is; least_is = omega (arith, e); most_is = so.most_is }

pub lead_made : (lead : Twin) (b : Bytes) (low v least most n : ℕ) (s : Folder) (last : Folder → Type 0) → n ≡ file_of lead → HasFile n s last → count_in (s n) ≡ v
    → ((g : Folder) → last g → Counted lead b low v least most g) → (g : Folder) → last g → Counted lead b v v least most g
lead_made lead b low v least most n s last is durable made was g now =
    let so = was g now in
    let e : count_in (g (file_of lead)) ≡ v = subst (λ m. count_in (g m) ≡ v) is (ap count_in (durable g now) ∙ made) in
    record { holds = so.holds; low_is = omega (arith, e); high_is = so.high_is; least_is = so.least_is; most_is = so.most_is }

pub stage_shown : (lead twin : Twin) (b : Bytes) (low high least most v n : ℕ) (first : Folder → Type 0) → n ≡ file_of twin → most ≤ suc low → ((f : Folder) → first f → Counted lead b low high least most f)
    → Within (λ h. shown (counted_at n v first) h) (λ h. shown first h)
stage_shown lead twin b low high least most v n first is few was h (g, (f, now, same, either), shows) =
    let so = was f now in
    (f, now, holds_shows b lead f g h so.holds (both_of twin f g (subst (λ m. SameAfterHeader m f g) is same)) (omega (arith, few, so.low_is, so.most_is)) shows)

-- which may go on alone
pub lead_may : (lead : Twin) (b : Bytes) (low high least most v : ℕ) (g : Folder) → most ≤ suc low → most ≤ suc v → Counted lead b low high least most g → Counts g lead × (count_in (g (file_of (other lead))) ≤ suc v)
lead_may lead b low high least most v g few fits so = (omega (arith, few, so.low_is, so.most_is), omega (arith, fits, so.most_is))

pub mate_may : (lead : Twin) (b : Bytes) (low high least most v : ℕ) (g : Folder) → high ≤ suc least → high ≤ suc v → Counted lead b low high least most g → Counts g (other lead) × (count_in (g (file_of (other (other lead)))) ≤ suc v)
mate_may lead b low high least most v g few fits so =
    subst (λ (t : Twin). (count_in (g (file_of t)) ≤ suc (count_in (g (file_of (other lead))))) × (count_in (g (file_of t)) ≤ suc v)) (sym (other_twice lead))
    (omega (arith, few, so.high_is, so.least_is), omega (arith, fits, so.high_is))

pub even_of : (lead : Twin) (b : Bytes) (v : ℕ) (g : Folder) → Counted lead b v v v v g → (count_in (g 17) ≡ v) × (count_in (g 18) ≡ v)
even_of First b v g so = (omega (arith, so.low_is, so.high_is), omega (arith, so.least_is, so.most_is))
even_of Second b v g so = (omega (arith, so.least_is, so.most_is), omega (arith, so.low_is, so.high_is))

-- before: both are as calls find them
pub settled_counted : (lead : Twin) (s f : Folder) (count : ℕ) → (f 17 ≡ s 17) × (f 18 ≡ s 18) → AreAlike s → count ≡ count_in (s (file_of lead)) → count_in (s (file_of (other lead))) ≤ count → Counted lead (s 17) count count 0 count f
settled_counted First s f count (one, two) alike is low = let e1 : count_in (f 17) ≡ count_in (s 17) = ap count_in one in let e2 : count_in (f 18) ≡ count_in (s 18) = ap count_in two in record {
  holds = record { first = λ k past. ap (λ (b : Bytes). b k) one; second = λ k past. ap (λ (b : Bytes). b k) two ∙ sym (alike k past) };
  low_is = omega (arith, e1, is);
  high_is = omega (arith, e1, is);
  least_is = omega arith;
  most_is = omega (arith, e2, low);
}
settled_counted Second s f count (one, two) alike is low = let e1 : count_in (f 17) ≡ count_in (s 17) = ap count_in one in let e2 : count_in (f 18) ≡ count_in (s 18) = ap count_in two in record {
  holds = record { first = λ k past. ap (λ (b : Bytes). b k) one; second = λ k past. ap (λ (b : Bytes). b k) two ∙ sym (alike k past) };
  low_is = omega (arith, e2, is);
  high_is = omega (arith, e2, is);
  least_is = omega arith;
  most_is = omega (arith, e1, low);
}

-- what calls find stays
pub both_more : (f g h : Folder) → SameBoth f g → SameBoth g h → SameBoth f h
both_more f g h one two = record { first = λ k past. two.first k past ∙ one.first k past; second = λ k past. two.second k past ∙ one.second k past; others = λ d n17 n18. two.others d n17 n18 ∙ one.others d n17 n18 }

pub both_by : (twin : Twin) (n : ℕ) (f g : Folder) → n ≡ file_of twin → SameAfterHeader n f g → SameBoth f g
both_by twin n f g is same = both_of twin f g (subst (λ m. SameAfterHeader m f g) is same)

pub alike_on : (f g : Folder) → SameBoth f g → AreAlike f → AreAlike g
alike_on f g same alike k past = same.first k past ∙ alike k past ∙ sym (same.second k past)
