-- What a stop of a save leaves.
use Rattle.std.proofs.Common.{◌≡◌, ◌⊎◌, inl, inr, ◌<◌, ◌≤◌, ◌+◌, ◌==◌, ℕ, zero, suc, List, [], ◌∷◌, ◌++◌, Option, Some, None, length, cond, refl, sym, ◌∙◌, ap, subst, arith, rules}
use Rattle.std.proofs.lemmas.Bool.{cases_lt}
use Rattle.std.proofs.lemmas.Option.{none-some}
use Rattle.raid_images.specs.declared.plan.Step.{Step}
use Rattle.raid_images.specs.declared.plan.Step.TheVariants.{Write, Commit, Rename}
use Rattle.raid_images.specs.Saving.{Disk, sum_at, with_file, after_saving, after_all, AllAlong, IsAtHome, IsOneSave, IsSaved, writes_to, renames_to, steps_of}

-- steps after others
pub after_more : (sums : List (Option (List ℕ))) (steps more : List Step) (disk : Disk) → after_all sums (steps ++ more) disk ≡ after_all sums more (after_all sums steps disk)
after_more sums [] more disk = refl
after_more sums (step ∷ steps) more disk = after_more sums steps more (after_saving sums step disk)

-- what holds along steps, and along those after them
pub along_more : (P : Disk → Type 0) (sums : List (Option (List ℕ))) (steps more : List Step) (disk : Disk) → AllAlong P sums steps disk
    → AllAlong P sums more (after_all sums steps disk) → AllAlong P sums (steps ++ more) disk
along_more P sums [] more disk along then = then
along_more P sums (step ∷ steps) more disk along then = (along.0, along_more P sums steps more (after_saving sums step disk) along.1 then)

with_same : (files : ℕ → Option (List ℕ)) (drive : ℕ) (file : Option (List ℕ)) → with_file files drive file drive ≡ file
with_same files drive file = search rules

with_other : (files : ℕ → Option (List ℕ)) (drive other : ℕ) (file : Option (List ℕ)) → (other ≡ drive → ⊥) → with_file files drive file other ≡ files other
with_other files drive other file differs = search (rules, differs)

-- a drive whose image has a digest is one of the drives
sum_within : (sums : List (Option (List ℕ))) (drive : ℕ) (sum : List ℕ) → sum_at sums drive ≡ Some sum → drive < length sums
sum_within [] drive sum e = absurd (none-some sum e)
sum_within (one ∷ sums) zero sum e = omega arith
sum_within (one ∷ sums) (suc drive) sum e = let low = sum_within sums drive sum e in omega (arith, low)

-- so many images are written, and nothing else changed
record IsWriting (sums : List (Option (List ℕ))) (old : Disk) (n : ℕ) (disk : Disk) : Type 0 where
  table : disk.table ≡ old.table
  kept : (drive : ℕ) → disk.kept drive ≡ old.kept drive
  fresh : (drive : ℕ) → drive < n → disk.fresh drive ≡ sum_at sums drive

writing_next : (sums : List (Option (List ℕ))) (old : Disk) (n : ℕ) (disk : Disk) → IsWriting sums old n disk → IsWriting sums old (suc n) (after_saving sums (Write n) disk)
writing_next sums old n disk w = record {
  table = w.table;
  kept = w.kept;
  fresh = λ drive low. go drive low (cases_lt drive n);
}
  where
    go : (drive : ℕ) → drive < suc n → (drive < n) ⊎ (n ≤ drive) → with_file disk.fresh n (sum_at sums n) drive ≡ sum_at sums drive
    go drive low (inl l) = with_other disk.fresh n drive (sum_at sums n) (λ e. omega (arith, l, e)) ∙ w.fresh drive l
    go drive low (inr le) =
        let is : n ≡ drive = omega (arith, low, le) in
        subst (λ d. with_file disk.fresh n (sum_at sums n) d ≡ sum_at sums d) is (with_same disk.fresh n (sum_at sums n))

writing : (sums : List (Option (List ℕ))) (old : Disk) (n : ℕ) → IsWriting sums old n (after_all sums (writes_to n) old)
writing sums old zero = record { table = refl; kept = λ drive. refl; fresh = λ drive low. absurd (omega (arith, low)) }
writing sums old (suc n) =
    subst (IsWriting sums old (suc n)) (sym (after_more sums (writes_to n) (Write n ∷ []) old))
    (writing_next sums old n (after_all sums (writes_to n) old) (writing sums old n))

writing_whole : (sums : List (Option (List ℕ))) (old : Disk) (n : ℕ) (disk : Disk) → IsAtHome old → IsWriting sums old n disk → IsOneSave old.table sums disk
writing_whole sums old n disk home w = record {
  table = inl w.table;
  whole = λ drive sum named. inl (w.kept drive ∙ home drive sum (ap (λ t. sum_at t drive) (sym w.table) ∙ named));
}

-- the table is in place, and the images below a number have taken their names
record IsRenaming (sums : List (Option (List ℕ))) (n m : ℕ) (disk : Disk) : Type 0 where
  table : disk.table ≡ sums
  done : (drive : ℕ) → drive < m → disk.kept drive ≡ sum_at sums drive
  waits : (drive : ℕ) → m ≤ drive → drive < n → disk.fresh drive ≡ sum_at sums drive

renaming_next : (sums : List (Option (List ℕ))) (n m : ℕ) (disk : Disk) → m < n → IsRenaming sums n m disk → IsRenaming sums n (suc m) (after_saving sums (Rename m) disk)
renaming_next sums n m disk less r = record {
  table = r.table;
  done = λ drive low. go drive low (cases_lt drive m);
  waits = λ drive above low. with_other disk.fresh m drive None (λ e. omega (arith, above, e)) ∙ r.waits drive (omega (arith, above)) low;
}
  where
    go : (drive : ℕ) → drive < suc m → (drive < m) ⊎ (m ≤ drive) → with_file disk.kept m (disk.fresh m) drive ≡ sum_at sums drive
    go drive low (inl l) = with_other disk.kept m drive (disk.fresh m) (λ e. omega (arith, l, e)) ∙ r.done drive l
    go drive low (inr le) =
        let is : m ≡ drive = omega (arith, low, le) in
        subst (λ d. with_file disk.kept m (disk.fresh m) d ≡ sum_at sums d) is (with_same disk.kept m (disk.fresh m) ∙ r.waits m (omega arith) less)

renaming_whole : (sums older : List (Option (List ℕ))) (n m : ℕ) (disk : Disk) → length sums ≡ n → IsRenaming sums n m disk → IsOneSave older sums disk
renaming_whole sums older n m disk many r = record {
  table = inr r.table;
  whole = λ drive sum named.
      let is : sum_at sums drive ≡ Some sum = ap (λ t. sum_at t drive) (sym r.table) ∙ named in
      go drive sum is (sum_within sums drive sum is) (cases_lt drive m);
}
  where
    go : (drive : ℕ) (sum : List ℕ) → sum_at sums drive ≡ Some sum → drive < length sums → (drive < m) ⊎ (m ≤ drive)
        → (disk.kept drive ≡ Some sum) ⊎ (disk.fresh drive ≡ Some sum)
    go drive sum is low (inl l) = inl (r.done drive l ∙ is)
    go drive sum is low (inr le) = inr (r.waits drive le (omega (arith, low, many)) ∙ is)

-- the table is put in place after all images are written
committed : (sums : List (Option (List ℕ))) (old : Disk) (n : ℕ) (disk : Disk) → IsWriting sums old n disk → IsRenaming sums n 0 (after_saving sums Commit disk)
committed sums old n disk w = record {
  table = refl;
  done = λ drive low. absurd (omega (arith, low));
  waits = λ drive above low. w.fresh drive low;
}

renaming : (sums : List (Option (List ℕ))) (n m : ℕ) (disk : Disk) → m ≤ n → IsRenaming sums n 0 disk → IsRenaming sums n m (after_all sums (renames_to m) disk)
renaming sums n zero disk less r = r
renaming sums n (suc m) disk less r =
    subst (IsRenaming sums n (suc m)) (sym (after_more sums (renames_to m) (Rename m ∷ []) disk))
    (renaming_next sums n m (after_all sums (renames_to m) disk) (omega (arith, less)) (renaming sums n m disk (omega (arith, less)) r))

along_writes : (sums : List (Option (List ℕ))) (old : Disk) (n : ℕ) → IsAtHome old → AllAlong (IsOneSave old.table sums) sums (writes_to n) old
along_writes sums old zero home = writing_whole sums old 0 old home (writing sums old 0)
along_writes sums old (suc n) home =
    along_more (IsOneSave old.table sums) sums (writes_to n) (Write n ∷ []) old (along_writes sums old n home) (
      writing_whole sums old n _ home (writing sums old n),
      writing_whole sums old (suc n) _ home (writing_next sums old n _ (writing sums old n)),
    )

along_renames : (sums older : List (Option (List ℕ))) (n m : ℕ) (disk : Disk) → length sums ≡ n → m ≤ n → IsRenaming sums n 0 disk
    → AllAlong (IsOneSave older sums) sums (renames_to m) disk
along_renames sums older n zero disk many less r = renaming_whole sums older n 0 disk many r
along_renames sums older n (suc m) disk many less r =
    let was = renaming sums n m disk (omega (arith, less)) r in
    along_more (IsOneSave older sums) sums (renames_to m) (Rename m ∷ []) disk (along_renames sums older n m disk many (omega (arith, less)) r) (
      renaming_whole sums older n m _ many was,
      renaming_whole sums older n (suc m) _ many (renaming_next sums n m _ (omega (arith, less)) was),
    )

-- what the steps up to the table leave
placed : (sums : List (Option (List ℕ))) (old : Disk) (n : ℕ) → IsRenaming sums n 0 (after_all sums (writes_to n ++ Commit ∷ []) old)
placed sums old n =
    subst (IsRenaming sums n 0) (sym (after_more sums (writes_to n) (Commit ∷ []) old))
    (committed sums old n (after_all sums (writes_to n) old) (writing sums old n))

-- at each moment of a save a reader finds the older one or the newer one
pub along_steps : (sums : List (Option (List ℕ))) (old : Disk) (n : ℕ) → length sums ≡ n → IsAtHome old → AllAlong (IsOneSave old.table sums) sums (steps_of n) old
along_steps sums old n many home =
    along_more (IsOneSave old.table sums) sums (writes_to n ++ Commit ∷ []) (renames_to n) old
    (along_more (IsOneSave old.table sums) sums (writes_to n) (Commit ∷ []) old (along_writes sums old n home) (
      writing_whole sums old n _ home (writing sums old n),
      renaming_whole sums old.table n 0 _ many (committed sums old n _ (writing sums old n)),
    ))
    (along_renames sums old.table n n _ many (omega arith) (placed sums old n))

-- at its end all images are in the files of their names
pub steps_end : (sums : List (Option (List ℕ))) (old : Disk) (n : ℕ) → length sums ≡ n → IsSaved sums (after_all sums (steps_of n) old)
steps_end sums old n many =
    subst (IsSaved sums) (sym (after_more sums (writes_to n ++ Commit ∷ []) (renames_to n) old)) (ended (renaming sums n n _ (omega arith) (placed sums old n)))
  where
    ended : {disk : Disk} → IsRenaming sums n n disk → IsSaved sums disk
    ended r = record {
      table = r.table;
      home = λ drive sum named.
          let is : sum_at sums drive ≡ Some sum = ap (λ t. sum_at t drive) (sym r.table) ∙ named in
          let low = sum_within sums drive sum is in
          r.done drive (omega (arith, low, many)) ∙ is;
    }
