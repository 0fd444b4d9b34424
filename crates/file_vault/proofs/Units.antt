-- Units in files, where one of them is written.
use Rattle.std.proofs.Common.{◌≡◌, ◌≢◌, ◌≤◌, ◌<◌, ◌⊎◌, inl, inr, ℕ, zero, suc, ◌+◌, ◌*◌, Bool, true, false, if◌then◌else◌, Option, Some, None, List, refl, sym, ◌∙◌, ap, subst, arith, length, ◌++◌, length-append, take, drop, get_or}
use Rattle.std.specs.Prelude.{is_some, nat_lt}
use Rattle.std.proofs.Math.Seq.{take-append_seam}
use Rattle.std.proofs.Math.Nat.{mul-le-mul_right, add-mul}
use Rattle.std.proofs.lemmas.List.{take_all, get_or-append-add, get_or-drop, length-drop}
use Rattle.std.proofs.lemmas.Bool.{lt-ltb, le-ltb, ltb-true}
use Rattle.extent_groups.specs.declared.place.Place.{Place}
use Rattle.extent_groups.specs.Cells.{held}
use Rattle.extent_groups.specs.Planned.{with_unit, over}
use Rattle.extent_groups.proofs.Finishing.{place_or_not, write_here, write_else}
use Rattle.vault.specs.Images.{Alike, with_write}
use Rattle.vault.specs.Moments.{Torn, IsMisfit, IsUnitThere, IsUnitAt, IsAsAttested}
use Rattle.vault.specs.declared.store.UnitRead.{UnitRead}
use Rattle.vault.specs.declared.store.UnitRead.TheVariants.{Whole, Absent, Rotten}
use Rattle.unit_digest.specs.Digests.{digest}
use Rattle.unit_digest.proofs.Digested.{length-digest}
use Rattle.file_vault.specs.Folders.{Bytes, Folder, part, Wrote, Mixed, Reads}
use Rattle.file_vault.specs.Layouts.{Plan, count_of, size_of, offset_of, unit_in_file, digest_in_file, cells_of, IsAttested, IsWholeOrRotten}
use Rattle.file_vault.specs.Journals.{journal_of, image_of, batches_from, most}
use Rattle.file_vault.proofs.Chains.{part_same}
use Rattle.file_vault.proofs.Puts.{part_is, below_or}

-- units one after the other don't overlap
apart : (a b size : ℕ) → a < b → a * size + size ≤ b * size
apart a b size low = let le : (a + 1) * size ≤ b * size = mul-le-mul_right size (omega (arith, low)) in let one : (a + 1) * size ≡ a * size + 1 * size = add-mul a 1 size in omega (arith, le, one)

-- bytes as a list
pub length-part : (f : Bytes) (at count : ℕ) → length (part f at count) ≡ count
length-part f at zero = refl
length-part f at (suc count) = ap (λ n. suc n) (length-part f (suc at) count)

-- an optional unit, by a test
given : (b : Bool) → List ℕ → Option (List ℕ)
given b u = if b then Some u else None

there_both : (b : Bool) (u v : List ℕ) → is_some (if b then Some u else None) ≡ is_some (if b then Some v else None)
there_both true u v = refl
there_both false u v = refl

over_given : (b : Bool) (u v w : List ℕ) → (b ≡ true → v ≡ w) → (if b then Some v else None) ≡ over (if b then Some u else None) w
over_given true u v w is = ap (λ x. Some x) (is refl)
over_given false u v w is = refl

module _ (plan : Plan) where
  abbrev pub size_at : ℕ → ℕ
  size_at drive = size_of plan.unit_bytes plan.table_bytes drive

  abbrev pub spot_of : Place → ℕ
  spot_of x = offset_of (size_at x.drive) x.address

  -- bytes of a unit and its digest
  abbrev pub pitch : ℕ → ℕ
  pitch drive = size_at drive + 32

  -- the same units of drives whose files are the same
  pub cells_same : (f g : Folder) (x : Place) → g x.drive ≡ f x.drive → held (cells_of plan g) x ≡ held (cells_of plan f) x
  cells_same f g x same = ap (λ (b : Bytes). if nat_lt x.address (count_of plan.counts x.drive) then Some (part b (spot_of x) (size_at x.drive)) else None) same

  pub attested_seen : (f g : Folder) → g ≡ f → (x : Place) → IsAttested plan g x → IsAttested plan f x
  attested_seen f g same x = subst (λ (h : Folder). IsAttested plan h x) same

  pub attested_same : (f g : Folder) (x : Place) → g x.drive ≡ f x.drive → IsAttested plan g x → IsAttested plan f x
  attested_same f g x same = subst (λ (b : Bytes).
      x.address < count_of plan.counts x.drive → part b (spot_of x + size_at x.drive) 32 ≡ digest x.drive x.address (part b (spot_of x) (size_at x.drive))) same

  -- no bytes are changed but those of a place's unit and its digest
  module _ (place : Place) (f g : Folder) (outside : (k : ℕ) → (k < spot_of place) ⊎ (spot_of place + pitch place.drive ≤ k) → g place.drive k ≡ f place.drive k) (others : (d : ℕ) → d ≢ place.drive → g d ≡ f d) where
    same_drive : (d at from count : ℕ) → d ≡ place.drive → at ≢ place.address → offset_of (size_at d) at ≤ from → from + count ≤ offset_of (size_at d) at + pitch d → part (g d) from count ≡ part (f d) from count
    same_drive d at from count is ne least most =
        let one : size_at d ≡ size_at place.drive = ap size_at is in
        subst (λ e. part (g e) from count ≡ part (f e) from count) (sym is)
        (part_same (f place.drive) (g place.drive) from count (λ k low high. outside k (elim (below_or at place.address) [
          | inl under ↦ inl (let far = apart at place.address (pitch d) under in let there : spot_of place ≡ 4096 + place.address * pitch d = ap (λ n. 4096 + place.address * (n + 32)) (sym one) in omega (arith, far, high, most, there))
          | inr rest ↦ elim rest [
            | inl e ↦ absurd (ne e)
            | inr (j, e) ↦ inr (let far = apart place.address at (pitch d) (omega (arith, e)) in let there : spot_of place ≡ 4096 + place.address * pitch d = ap (λ n. 4096 + place.address * (n + 32)) (sym one) in omega (arith, far, low, least, there, one))
          ]
        ])))

    part_else : (x : Place) → x ≢ place → (from count : ℕ) → spot_of x ≤ from → from + count ≤ spot_of x + pitch x.drive → part (g x.drive) from count ≡ part (f x.drive) from count
    part_else x ne from count least most = elim (below_or x.drive place.drive) [
      | inl under ↦ ap (λ (b : Bytes). part b from count) (others x.drive (λ e. omega (arith, e, under)))
      | inr rest ↦ elim rest [
        | inl e ↦ same_drive x.drive x.address from count e (λ same. ne (λ i. record { drive = e i; address = same i })) least most
        | inr (j, e) ↦ ap (λ (b : Bytes). part b from count) (others x.drive (λ is. omega (arith, e, is)))
      ]
    ]

    pub unit_else : (x : Place) → x ≢ place → unit_in_file plan g x.drive x.address ≡ unit_in_file plan f x.drive x.address
    unit_else x ne = part_else x ne (spot_of x) (size_at x.drive) (omega arith) (omega arith)

    pub digest_else : (x : Place) → x ≢ place → digest_in_file plan g x.drive x.address ≡ digest_in_file plan f x.drive x.address
    digest_else x ne = part_else x ne (spot_of x + size_at x.drive) 32 (omega arith) (omega arith)

    pub attested_else : (x : Place) → x ≢ place → IsAttested plan g x → IsAttested plan f x
    attested_else x ne is low = sym (digest_else x ne) ∙ is low ∙ ap (λ u. digest x.drive x.address u) (unit_else x ne)

    pub cells_else : (x : Place) → x ≢ place → held (cells_of plan g) x ≡ held (cells_of plan f) x
    cells_else x ne = ap (λ u. if nat_lt x.address (count_of plan.counts x.drive) then Some u else None) (unit_else x ne)

    pub cells_there : (x : Place) → is_some (held (cells_of plan g) x) ≡ is_some (held (cells_of plan f) x)
    cells_there x = there_both (nat_lt x.address (count_of plan.counts x.drive)) (unit_in_file plan g x.drive x.address) (unit_in_file plan f x.drive x.address)

  -- the journal where its file is the same
  pub journal_same : (f g : Folder) → g 17 ≡ f 17 → journal_of g ≡ journal_of f
  journal_same f g same = ap (λ (b : Bytes). batches_from most b 4096) same

  -- a write of a unit and its digest that is cut short, and one that is whole
  module _ (place : Place) (unit bytes : List ℕ) (f g : Folder) (fits : length unit ≡ size_at place.drive) (sealed : bytes ≡ unit ++ digest place.drive place.address unit) where
    long : length bytes ≡ pitch place.drive
    long = ap length sealed ∙ length-append unit (digest place.drive place.address unit) ∙ (let thirty_two = length-digest place.drive place.address unit in omega (arith, fits, thirty_two))

    pub outside_of : ((k : ℕ) → (k < spot_of place) ⊎ (spot_of place + length bytes ≤ k) → g place.drive k ≡ f place.drive k) → (k : ℕ) → (k < spot_of place) ⊎ (spot_of place + pitch place.drive ≤ k) → g place.drive k ≡ f place.drive k
    outside_of outside k out = outside k (elim out [ inl low ↦ inl low | inr high ↦ inr (let l = long in omega (arith, high, l)) ])

    pub unit_torn : place.drive ≢ 17 → Mixed place.drive (spot_of place) bytes f g → Torn place (image_of plan f) (image_of plan g)
    unit_torn ne mixed = record {
      there = cells_there place f g (outside_of mixed.outside) mixed.others;
      elsewhere = cells_else place f g (outside_of mixed.outside) mixed.others;
      journal = journal_same f g (mixed.others 17 (λ e. ne (sym e)));
    }

    pub torn_attests : Mixed place.drive (spot_of place) bytes f g → (x : Place) → x ≢ place → IsAttested plan g x → IsAttested plan f x
    torn_attests mixed x ne = attested_else place f g (outside_of mixed.outside) mixed.others x ne

    module _ (wrote : Wrote place.drive (spot_of place) bytes f g) where
      byte : (j : ℕ) → j < pitch place.drive → g place.drive (spot_of place + j) ≡ get_or (unit ++ digest place.drive place.address unit) j 0
      byte j low = wrote.inside j (let l = long in omega (arith, low, l)) ∙ ap (λ bs. get_or bs j 0) sealed

      pub unit_is : unit_in_file plan g place.drive place.address ≡ unit
      unit_is =
          part_is (g place.drive) (spot_of place) (size_at place.drive) (unit ++ digest place.drive place.address unit)
          (let l = length-append unit (digest place.drive place.address unit) in omega (arith, fits, l)) (λ j low. byte j (omega (arith, low)))
          ∙ ap (λ n. take n (unit ++ digest place.drive place.address unit)) (sym fits) ∙ take-append_seam unit (digest place.drive place.address unit)

      pub digest_is : digest_in_file plan g place.drive place.address ≡ digest place.drive place.address unit
      digest_is =
          part_is (g place.drive) (spot_of place + size_at place.drive) 32 (digest place.drive place.address unit)
          (let l = length-digest place.drive place.address unit in omega (arith, l))
          (λ j low. ap (g place.drive) (omega arith) ∙ byte (size_at place.drive + j) (omega (arith, low))
          ∙ ap (λ n. get_or (unit ++ digest place.drive place.address unit) (n + j) 0) (sym fits)
          ∙ get_or-append-add unit (digest place.drive place.address unit) j 0)
          ∙ take_all 32 (digest place.drive place.address unit) (let l = length-digest place.drive place.address unit in omega (arith, l))

      pub attested_here : IsAttested plan g place
      attested_here low = digest_is ∙ ap (λ u. digest place.drive place.address u) (sym unit_is)

      pub unit_written : place.drive ≢ 17 → Alike (image_of plan g) (with_write (image_of plan f) place unit)
      unit_written ne = record {
        cells = λ x. elim (place_or_not x place) [
          | inl e ↦ subst (λ y. held (cells_of plan g) y ≡ held (with_unit (cells_of plan f) (record { place = place; unit = unit })) y) (sym e)
              (here ∙ sym (write_here (cells_of plan f) (record { place = place; unit = unit })))
          | inr other ↦ cells_else place f g (outside_of wrote.outside) wrote.others x other ∙ sym (write_else (cells_of plan f) (record { place = place; unit = unit }) x (λ e. other (sym e)))
        ];
        journal = journal_same f g (wrote.others 17 (λ e. ne (sym e)));
      }
        where
          here : held (cells_of plan g) place ≡ over (held (cells_of plan f) place) unit
          here = over_given (nat_lt place.address (count_of plan.counts place.drive)) (unit_in_file plan f place.drive place.address) (unit_in_file plan g place.drive place.address) unit (λ is. unit_is)

  -- a place without a unit
  pub none_at : (f : Folder) (place : Place) → count_of plan.counts place.drive ≤ place.address → held (cells_of plan f) place ≡ None
  none_at f place past = ap (λ b. if b then Some (unit_in_file plan f place.drive place.address) else None) (le-ltb place.address (count_of plan.counts place.drive) past)

  pub none_written : (place : Place) (unit : List ℕ) (f : Folder) → count_of plan.counts place.drive ≤ place.address → Alike (image_of plan f) (with_write (image_of plan f) place unit)
  none_written place unit f past = record {
    cells = λ x. elim (place_or_not x place) [
      | inl e ↦ subst (λ y. held (cells_of plan f) y ≡ held (with_unit (cells_of plan f) (record { place = place; unit = unit })) y) (sym e)
          (none_at f place past ∙ sym (write_here (cells_of plan f) (record { place = place; unit = unit }) ∙ ap (λ o. over o unit) (none_at f place past)))
      | inr other ↦ sym (write_else (cells_of plan f) (record { place = place; unit = unit }) x (λ e. other (sym e)))
    ];
    journal = refl;
  }

  -- a unit that is read
  some_at : (f : Folder) (place : Place) → place.address < count_of plan.counts place.drive → held (cells_of plan f) place ≡ Some (unit_in_file plan f place.drive place.address)
  some_at f place low = ap (λ b. if b then Some (unit_in_file plan f place.drive place.address) else None) (lt-ltb place.address (count_of plan.counts place.drive) low)

  module _ (f : Folder) (place : Place) (bytes : List ℕ) (low : place.address < count_of plan.counts place.drive) (long : length bytes ≡ pitch place.drive) (reads : Reads (f place.drive) (spot_of place) bytes) where
    unit_of : unit_in_file plan f place.drive place.address ≡ take (size_at place.drive) bytes
    unit_of = part_is (f place.drive) (spot_of place) (size_at place.drive) bytes (omega (arith, long)) (λ j under. sym (reads j (omega (arith, under, long))))

    digest_of : digest_in_file plan f place.drive place.address ≡ drop (size_at place.drive) bytes
    digest_of =
        let l : length (drop (size_at place.drive) bytes) ≡ 32 = length-drop (size_at place.drive) bytes ∙ omega (arith, long) in
        part_is (f place.drive) (spot_of place + size_at place.drive) 32 (drop (size_at place.drive) bytes) (omega (arith, l))
        (λ j under. ap (f place.drive) (omega arith) ∙ sym (reads (size_at place.drive + j) (omega (arith, under, long))) ∙ sym (get_or-drop (size_at place.drive) bytes j 0))
        ∙ take_all 32 (drop (size_at place.drive) bytes) (omega (arith, l))

    pub opened_read : (out : List ℕ) (read : UnitRead) → out ≡ take (size_at place.drive) bytes → IsWholeOrRotten place.drive place.address (take (size_at place.drive) bytes) (drop (size_at place.drive) bytes) read
        → IsUnitAt (cells_of plan f) place out read × IsAsAttested (IsAttested plan f place) read
    opened_read out Whole is opened = (some_at f place low ∙ ap (λ u. Some u) (unit_of ∙ sym is), λ there. digest_of ∙ opened ∙ ap (λ u. digest place.drive place.address u) (sym unit_of))
    opened_read out Absent is opened = absurd opened
    opened_read out Rotten is opened = (
      (take (size_at place.drive) bytes, some_at f place low ∙ ap (λ u. Some u) unit_of, ap length (sym is)),
      λ attested. opened (sym digest_of ∙ attested low ∙ ap (λ u. digest place.drive place.address u) unit_of),
    )

    pub opened_sized : (n : ℕ) → n ≡ size_at place.drive → (out : List ℕ) (read : UnitRead) → out ≡ take n bytes → IsWholeOrRotten place.drive place.address (take n bytes) (drop n bytes) read
        → IsUnitAt (cells_of plan f) place out read × IsAsAttested (IsAttested plan f place) read
    opened_sized n same out read is opened =
        opened_read out read (is ∙ ap (λ m. take m bytes) same) (subst (λ m. IsWholeOrRotten place.drive place.address (take m bytes) (drop m bytes) read) same opened)

  -- a unit of another length
  pub attested_held : (f g : Folder) (x : Place) → (x.address < count_of plan.counts x.drive → (unit_in_file plan g x.drive x.address ≡ unit_in_file plan f x.drive x.address) ⊎ (digest_in_file plan g x.drive x.address ≢ digest x.drive x.address (unit_in_file plan g x.drive x.address)))
      → IsAttested plan g x → held (cells_of plan g) x ≡ held (cells_of plan f) x
  attested_held f g x returned attested = by (nat_lt x.address (count_of plan.counts x.drive)) refl
    where
      by : (b : Bool) → b ≡ nat_lt x.address (count_of plan.counts x.drive) → held (cells_of plan g) x ≡ held (cells_of plan f) x
      by true is =
          let low : x.address < count_of plan.counts x.drive = ltb-true x.address (count_of plan.counts x.drive) (sym is) in
          some_at g x low ∙ ap (λ u. Some u) (elim (returned low) [ inl same ↦ same | inr differs ↦ absurd (differs (attested low)) ]) ∙ sym (some_at f x low)
      by false is =
          ap (λ b. if b then Some (unit_in_file plan g x.drive x.address) else None) (sym is)
          ∙ ap (λ b. if b then Some (unit_in_file plan f x.drive x.address) else None) is

  pub unit_length : (f : Folder) (place : Place) (u : List ℕ) → held (cells_of plan f) place ≡ Some u → length u ≡ size_at place.drive
  unit_length f place u is = by (nat_lt place.address (count_of plan.counts place.drive)) is
    where
      by : (b : Bool) → (if b then Some (unit_in_file plan f place.drive place.address) else None) ≡ Some u → length u ≡ size_at place.drive
      by true e = ap length (sym (same e)) ∙ length-part (f place.drive) (spot_of place) (size_at place.drive)
        where
          same : ◌≡◌ {A = Option (List ℕ)} (Some (unit_in_file plan f place.drive place.address)) (Some u) → unit_in_file plan f place.drive place.address ≡ u
          same e = cc
      by false e = absurd (none e)
        where
          none : ◌≡◌ {A = Option (List ℕ)} None (Some u) → ⊥
          none e = cc

  pub misfit : (f : Folder) (place : Place) (unit : List ℕ) → length unit ≢ size_at place.drive → IsMisfit (cells_of plan f) place unit
  misfit f place unit ne u is same = ne (sym same ∙ unit_length f place u is)

  pub other_length : (f : Folder) (place : Place) (out : List ℕ) → length out ≢ size_at place.drive → IsUnitThere (cells_of plan f) place out false
  other_length f place out ne u is same = ne (sym same ∙ unit_length f place u is)

  pub not_there : (f : Folder) (place : Place) (out : List ℕ) → count_of plan.counts place.drive ≤ place.address → IsUnitThere (cells_of plan f) place out false
  not_there f place out past u is = absurd (none (sym (none_at f place past) ∙ is))
    where
      none : ◌≡◌ {A = Option (List ℕ)} None (Some u) → ⊥
      none e = cc
