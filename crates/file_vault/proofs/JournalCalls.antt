-- Calls on the journal of a vault over files, from what they make of its file.
use Rattle.std.proofs.Common.{◌≡◌, ◌≢◌, ◌≤◌, ◌<◌, inl, inr, ℕ, zero, suc, ◌+◌, ◌-◌, min, Bool, false, if◌then◌else◌, Some, List, [], ◌∷◌, ◌++◌, refl, sym, ◌∙◌, ap, subst, arith, length, get_or}
use Rattle.std.specs.Prelude.{nat_lt, slice_get}
use Rattle.std.proofs.lemmas.Bool.{ne_eqb, lt-ltb, le-ltb}
use Rattle.std.proofs.lemmas.List.{take_all}
use Rattle.extent_groups.specs.declared.place.Place.{Place}
use Rattle.extent_groups.specs.Cells.{held}
use Rattle.extent_groups.specs.Planned.{Intended}
use Rattle.vault.specs.declared.store.Stop.{Stop}
use Rattle.vault.specs.declared.store.Stop.TheVariants.{Killed}
use Rattle.vault.specs.Coding.{decoded, IsCode}
use Rattle.vault.specs.Images.{Image, Alike, with_journal, is_lost, SameOn}
use Rattle.vault.specs.Moments.{Within, HasJournal, HasUnitsAtStop, has_batch, with_or_without, more_batches, emptied}
use Rattle.file_vault.specs.Folders.{Bytes, Folder, part, HasFile, mixed_at}
use Rattle.file_vault.specs.Layouts.{Plan, count_of, cells_of, IsAttested}
use Rattle.file_vault.specs.Records.{body_at, next_at}
use Rattle.file_vault.specs.Journals.{AreAt, place_after, journal_of, image_of, IsSound, SameUnitFiles, MayPut, ended_at}
use Rattle.file_vault.specs.Recoveries.{leaves_read}
use Rattle.file_vault.specs.Vaults.{left_of}
use Rattle.file_vault.proofs.Chains.{as_many, place_within}
use Rattle.file_vault.proofs.Torn.{first_place}
use Rattle.file_vault.proofs.Places.{body_between}
use Rattle.file_vault.proofs.Ended.{cleared_journal}
use Rattle.file_vault.proofs.Puts.{below_or, left_kept, kept_read, sound_seen, put_during, put_killed}
use Rattle.file_vault.proofs.Units.{none_at, cells_same, attested_same}

-- units of a drive's file, and of none
pub count_low : (counts : List ℕ) (drive : ℕ) → drive < 16 → count_of counts drive ≡ get_or counts drive 0
count_low counts drive low =
    ap (λ b. if b then 1026 else if nat_lt drive 16 then get_or counts drive 0 else 0) (ne_eqb drive 16 (λ e. omega (arith, e, low)))
    ∙ ap (λ b. if b then get_or counts drive 0 else 0) (lt-ltb drive 16 low)

pub count_past : (counts : List ℕ) (drive : ℕ) → 16 < drive → count_of counts drive ≡ 0
count_past counts drive past =
    ap (λ b. if b then 1026 else if nat_lt drive 16 then get_or counts drive 0 else 0) (ne_eqb drive 16 (λ e. omega (arith, e, past)))
    ∙ ap (λ b. if b then get_or counts drive 0 else 0) (le-ltb drive 16 (omega (arith, past)))

-- one batch among others: its record, and the next one's place
pub batch_at : (f : Bytes) (at : ℕ) (places : List ℕ) (batches : List (List Intended)) (end index : ℕ) → AreAt f at places batches end → index < length places
    → IsCode (body_at f (place_after places end index)) × (slice_get batches index ≡ Some (decoded (body_at f (place_after places end index)))) × (place_after places end (index + 1) ≡ next_at f (place_after places end index))
batch_at f at [] bs end index are low = absurd (omega (arith, low))
batch_at f at (s ∷ ss) [] end index are low = absurd are
batch_at f at (s ∷ ss) (b ∷ bs) end zero (is, whole, code, back, more) low = (
  subst (λ n. IsCode (body_at f n)) (sym is) code,
  ap (λ w. Some w) (sym back ∙ ap (λ n. decoded (body_at f n)) (sym is)),
  first_place f (next_at f at) ss bs end more ∙ ap (λ n. next_at f n) (sym is),
)
batch_at f at (s ∷ ss) (b ∷ bs) end (suc index) (is, whole, code, back, more) low =
    let later = batch_at f (next_at f at) ss bs end index more (omega (arith, low)) in
    let next : suc index + 1 ≡ suc (index + 1) = omega arith in (later.0, later.1, ap (λ n. place_after (s ∷ ss) end n) next ∙ later.2)

module _ (plan : Plan) where
  both_none : (f g : Folder) (x : Place) → count_of plan.counts x.drive ≡ 0 → held (cells_of plan g) x ≡ held (cells_of plan f) x
  both_none f g x none = none_at plan g x (omega (arith, none)) ∙ sym (none_at plan f x (omega (arith, none)))

  -- the same units where only the journal's file is another
  pub cells_but : (f g : Folder) → SameUnitFiles f g → (x : Place) → held (cells_of plan g) x ≡ held (cells_of plan f) x
  cells_but f g same x = elim (below_or x.drive 17) [
    | inl under ↦ cells_same plan f g x (same x.drive (λ e. omega (arith, e, under)))
    | inr rest ↦ elim rest [
      | inl e ↦ both_none f g x (count_past plan.counts x.drive (omega (arith, e)))
      | inr (j, e) ↦ both_none f g x (count_past plan.counts x.drive (omega (arith, e)))
    ]
  ]

  -- the same units are attested
  pub attested_but : (f g : Folder) → SameUnitFiles f g → (x : Place) → IsAttested plan g x → IsAttested plan f x
  attested_but f g same x is = elim (below_or x.drive 17) [
    | inl under ↦ attested_same plan f g x (same x.drive (λ e. omega (arith, e, under))) is
    | inr rest ↦ elim rest [
      | inl e ↦ λ low. absurd (let none = count_past plan.counts x.drive (omega (arith, e)) in omega (arith, low, none))
      | inr (j, e) ↦ λ low. absurd (let none = count_past plan.counts x.drive (omega (arith, e)) in omega (arith, low, none))
    ]
  ]

  pub cells_are : (f g : Folder) → SameUnitFiles f g → cells_of plan g ≡ cells_of plan f
  cells_are f g same i drive at = (cells_but f g same (record { drive = drive; address = at })) i

  pub images_are : (f g : Folder) → SameUnitFiles f g → journal_of g ≡ journal_of f → image_of plan g ≡ image_of plan f
  images_are f g same e i = record { cells = cells_are f g same i; journal = e i }

  -- what each stop leaves of drives whose files are durable
  pub units_durable : (lost : List Bool) (f : Folder) (outcomes : Folder → Type 0) → ((d : ℕ) → d < 16 → is_lost lost d ≡ false → get_or plan.counts d 0 ≢ 0 → HasFile d f outcomes) → HasFile 16 f outcomes
      → HasUnitsAtStop lost (cells_of plan f) (λ i. left_of plan outcomes i)
  units_durable lost f outcomes synced table i (g, now, is) = subst (λ (j : Image). SameOn lost j.cells (cells_of plan f)) (sym is) same
    where
      at_drive : (x : Place) → x.drive < 16 → is_lost lost x.drive ≡ false → held (cells_of plan g) x ≡ held (cells_of plan f) x
      at_drive x low live = elim (below_or (get_or plan.counts x.drive 0) 0) [
        | inl never ↦ absurd (omega (arith, never))
        | inr rest ↦ elim rest [
          | inl e ↦ both_none f g x (count_low plan.counts x.drive low ∙ e)
          | inr (j, e) ↦ cells_same plan f g x (synced x.drive low live (λ none. omega (arith, e, none)) g now)
        ]
      ]

      same : (x : Place) → is_lost lost x.drive ≡ false → held (cells_of plan g) x ≡ held (cells_of plan f) x
      same x live = elim (below_or x.drive 16) [
        | inl under ↦ at_drive x under live
        | inr rest ↦ elim rest [
          | inl e ↦ cells_same plan f g x (subst (λ d. g d ≡ f d) (sym e) (table g now))
          | inr (j, e) ↦ both_none f g x (count_past plan.counts x.drive (omega (arith, e)))
        ]
      ]

  module _ {F : Type 0} (seen : F → Folder) (may_leave : F → Stop → Folder → Type 0) (old : F) (places : List ℕ) (batches : List (List Intended)) (end durable : ℕ) (sound : IsSound seen may_leave old places batches end durable) where
    seen_is : journal_of (seen old) ≡ batches
    seen_is = sound_seen seen may_leave old places batches end durable sound

    pub counted : length places ≡ length (journal_of (seen old))
    counted = sym (ap length seen_is ∙ as_many (seen old 17) 4096 places batches end sound.lie)

    -- each stop leaves all batches of a journal that is durable
    pub all_durable : length places ≤ durable → (stop : Stop) → HasJournal batches (λ i. left_of plan (may_leave old stop) i)
    all_durable all stop i (g, now, is) =
        let many = as_many (seen old 17) 4096 places batches end sound.lie in
        let read = kept_read seen may_leave old places batches end durable sound g (left_kept seen may_leave old places batches end durable sound stop g now) in
        ap (λ (j : Image). j.journal) is ∙ read.3 ∙ take_all read.0 batches (let least = read.1 in omega (arith, all, many, least))

    pub all_seen : length places ≤ durable → (stop : Stop) → HasJournal (journal_of (seen old)) (λ i. left_of plan (may_leave old stop) i)
    all_seen all stop i left = all_durable all stop i left ∙ sym seen_is

    -- the bytes of one of the batches, between its head and the next record
    pub batch_read : (index p1 p2 at count : ℕ) (d1 d2 bytes : List ℕ) → index < length places → d1 ≡ places → d2 ≡ places → p1 ≡ place_after d1 end index → at ≡ min (p1 + 18) 18446744073709551615 → p2 ≡ place_after d2 end (index + 1)
        → count ≡ p2 - at → bytes ≡ part (seen old 17) at count → IsCode bytes × (slice_get (journal_of (seen old)) index ≡ Some (decoded bytes))
    batch_read index p1 p2 at count d1 d2 bytes low is1 is2 first from second long read =
        let place = place_after places end index in
        let found = batch_at (seen old 17) 4096 places batches end index sound.lie low in
        let within = (place_within (seen old 17) 4096 index places batches end sound.lie (omega (arith, low))).1 in
        let is_place : p1 ≡ place = first ∙ ap (λ (l : List ℕ). place_after l end index) is1 in
        let is_next : p2 ≡ next_at (seen old 17) place = second ∙ ap (λ (l : List ℕ). place_after l end (index + 1)) is2 ∙ found.2 in
        let inside = sound.inside in
        let is_from : at ≡ place + 18 = omega (arith, from, is_place, within, inside) in
        let body : bytes ≡ body_at (seen old 17) place = read ∙ body_between (seen old 17) place p2 at count is_next is_from long in
        (subst IsCode (sym body) found.0, ap (λ bs. slice_get bs index) seen_is ∙ found.1 ∙ ap (λ b. Some (decoded b)) (sym body))

  -- a batch is appended
  module _ {F : Type 0} (seen : F → Folder) (may_leave : F → Stop → Folder → Type 0) (old : F) (places : List ℕ) (batches : List (List Intended)) (end durable : ℕ) (bytes : List ℕ) (batch : List Intended)
      (may : MayPut seen may_leave old places batches end durable bytes batch) where
    was_seen : journal_of (seen old) ≡ batches
    was_seen = sound_seen seen may_leave old places batches end durable may.sound

    pub append_to : (stop : Stop) (g : Folder) → mixed_at 17 end bytes (may_leave old stop) g → with_or_without (image_of plan (seen old)) batch (λ i. left_of plan (may_leave old stop) i) (image_of plan g)
    append_to stop g (f, was, mixed) = elim (put_during seen may_leave old places batches end durable bytes batch may stop f g was mixed) [
      | inl as_was ↦ inl (f, was, images_are f g mixed.others as_was)
      | inr more ↦ inr (image_of plan f, (f, was, refl), cells_but f g mixed.others, more ∙ ap (λ bs. bs ++ batch ∷ []) (sym was_seen))
    ]

    pub append_killed : (new : F) → IsSound seen may_leave new (places ++ end ∷ []) (batches ++ batch ∷ []) (end + length bytes) durable → Within (may_leave new Killed) (mixed_at 17 end bytes (may_leave old Killed))
        → Within (λ i. left_of plan (may_leave new Killed) i) (has_batch (image_of plan (seen old)) batch (λ i. left_of plan (may_leave old Killed) i))
    append_killed new sound within i (g, now, is) =
        let from = within g now in (
          image_of plan from.0,
          (from.0, from.1, refl),
          subst (λ (j : Image). (x : Place) → held j.cells x ≡ held (cells_of plan from.0) x) (sym is) (cells_but from.0 g from.2.others),
          ap (λ (j : Image). j.journal) is ∙ put_killed seen may_leave old places batches end durable bytes batch may new sound g now ∙ ap (λ bs. bs ++ batch ∷ []) (sym was_seen),
        )

    pub appended : (new : F) → SameUnitFiles (seen old) (seen new) → IsSound seen may_leave new (places ++ end ∷ []) (batches ++ batch ∷ []) (end + length bytes) durable
        → Alike (image_of plan (seen new)) (with_journal (image_of plan (seen old)) (journal_of (seen old) ++ batch ∷ []))
    appended new same sound = record {
      cells = cells_but (seen old) (seen new) same;
      journal = sound_seen seen may_leave new (places ++ end ∷ []) (batches ++ batch ∷ []) (end + length bytes) durable sound ∙ ap (λ bs. bs ++ batch ∷ []) (sym was_seen);
    }

  -- the journal is emptied
  pub clear_to : (outcomes : Folder → Type 0) (g : Folder) → ended_at 4096 outcomes g → emptied (λ i. left_of plan outcomes i) (image_of plan g)
  clear_to outcomes g (f, was, may) = (image_of plan f, (f, was, refl), record { cells = cells_but f g may.others; journal = cleared_journal f g may })

  pub cleared : (f g : Folder) → SameUnitFiles f g → journal_of g ≡ [] → Alike (image_of plan g) (with_journal (image_of plan f) [])
  cleared f g same is = record { cells = cells_but f g same; journal = is }

  -- files are read as they were
  pub read_to : (outcomes : Folder → Type 0) (g : Folder) → leaves_read outcomes g → left_of plan outcomes (image_of plan g)
  read_to outcomes g (f, was, same, journal) = (f, was, images_are f g same journal)

-- the journal stays as it is
pub more_not : (seen : Image) (outcomes : Image → Type 0) (i : Image) → outcomes i → more_batches seen outcomes i
more_not seen outcomes i was = (i, was, (λ x. refl), inl refl)
