-- A record that is written at the end of a journal, and what each stop leaves of it.
use Rattle.std.proofs.Common.{◌≡◌, ◌≤◌, ◌<◌, ◌⊎◌, inl, inr, ⊎_elim, ℕ, zero, suc, ◌+◌, ◌-◌, ◌^◌, ◌==◌, true, List, [], ◌∷◌, ◌++◌, refl, sym, ◌∙◌, ap, subst, arith, length, length-append, append_assoc, take, get_or}
use Rattle.std.specs.Prelude.{◌&&◌}
use Rattle.std.proofs.lemmas.List.{take_at, take_all, get_or-append-add, append-nil, get_or_past}
use Rattle.std.proofs.lemmas.Bool.Decides.{eqb_tells}
use Rattle.extent_groups.specs.Planned.{Intended}
use Rattle.vault.specs.declared.store.Stop.{Stop}
use Rattle.vault.specs.declared.store.Stop.TheVariants.{Killed, PowerLost}
use Rattle.vault.specs.Coding.{decoded, IsCode}
use Rattle.vault.specs.Moments.{Elapses, Within}
use Rattle.file_vault.specs.Folders.{Bytes, Folder, part, Wrote, Mixed, wrote_at, mixed_at}
use Rattle.file_vault.specs.Records.{digits, from_digits, are_digits, one_unless_zero, nonzero, length_at, nonzero_at, body_at, next_at, is_whole, IsBatchRecord}
use Rattle.file_vault.specs.Journals.{batches_from, AreAt, place_after, most, journal_of, KeepsFileFront, IsSound, MayPut}
use Rattle.file_vault.proofs.Heads.{length_digits, back, are, are_both}
use Rattle.file_vault.proofs.Chains.{end_past, as_many, few_places, place_within, are_same, one_more}
use Rattle.file_vault.proofs.Torn.{EachOr, one_some, zero_torn, none_read, read_split}

-- bytes that are read where others were written
pub part_is : (f : Bytes) (at count : ℕ) (xs : List ℕ) → count ≤ length xs → ((j : ℕ) → j < count → f (at + j) ≡ get_or xs j 0) → part f at count ≡ take count xs
part_is f at zero xs le is = refl
part_is f at (suc count) [] le is = absurd (omega (arith, le))
part_is f at (suc count) (x ∷ xs) le is =
    ap (λ b. b ∷ part f (suc at) count) (ap f (omega arith) ∙ is zero (omega arith))
    ∙ ap (λ bs. x ∷ bs) (part_is f (suc at) count xs (omega (arith, le)) (λ j low. ap f (omega arith) ∙ is (suc j) (omega (arith, low))))

-- two calls, one after the other
pub both_elapse : {I : Type 0} (m0 m1 m2 : ℕ) (past mid since : ℕ → I → Type 0) (d1 d2 leaves1 leaves2 all : I → Type 0) → Elapses m0 m1 past mid d1 leaves1 → Elapses m1 m2 mid since d2 leaves2
    → Within d1 all → Within d2 all → Elapses m0 m2 past since all leaves2
both_elapse m0 m1 m2 past mid since d1 d2 leaves1 leaves2 all first second to1 to2 = record {
  later = omega (arith, first.later, second.later);
  nothing_else = λ t i le left. ⊎_elim (λ was. ⊎_elim (λ p. inl p) (λ d. inr (to1 i d)) (first.nothing_else t i le was)) (λ d. inr (to2 i d)) (second.nothing_else t i (omega (arith, le, first.later)) left);
  keeps = λ t i le was. second.keeps t i (omega (arith, le, first.later)) (first.keeps t i le was);
  ends = λ i now. to2 i (second.ends i now);
}

pub one_elapse : {I : Type 0} (m0 m1 : ℕ) (past since : ℕ → I → Type 0) (d1 leaves1 all : I → Type 0) → Elapses m0 m1 past since d1 leaves1 → Within d1 all → Elapses m0 m1 past since all leaves1
one_elapse m0 m1 past since d1 leaves1 all first to1 = record {
  later = first.later;
  nothing_else = λ t i le left. ⊎_elim (λ p. inl p) (λ d. inr (to1 i d)) (first.nothing_else t i le left);
  keeps = first.keeps;
  ends = λ i now. to1 i (first.ends i now);
}

-- where an offset lies
pub below_or : (k n : ℕ) → (k < n) ⊎ ((k ≡ n) ⊎ ((j : ℕ) × (k ≡ n + 1 + j)))
below_or zero zero = inr (inl refl)
below_or zero (suc n) = inl (omega arith)
below_or (suc k) zero = inr (inr (k, omega arith))
below_or (suc k) (suc n) = elim (below_or k n) [
  | inl low ↦ inl (omega (arith, low))
  | inr rest ↦ elim rest [ inl e ↦ inr (inl (ap (λ m. suc m) e)) | inr (j, e) ↦ inr (inr (j, omega (arith, e))) ]
]

-- within a range or outside it
pub inside_or : (k at count : ℕ) → ((k < at) ⊎ (at + count ≤ k)) ⊎ ((j : ℕ) × (j < count) × (k ≡ at + j))
inside_or k at count = elim (below_or k at) [
  | inl under ↦ inl (inl under)
  | inr rest ↦ elim rest [
    | inl e ↦ from 0 (omega (arith, e))
    | inr (j, e) ↦ from (1 + j) (omega (arith, e))
  ]
]
  where
    from : (j : ℕ) → k ≡ at + j → ((k < at) ⊎ (at + count ≤ k)) ⊎ ((j : ℕ) × (j < count) × (k ≡ at + j))
    from j e = elim (below_or j count) [
      | inl low ↦ inr (j, low, e)
      | inr more ↦ inl (inr (elim more [ inl is ↦ omega (arith, e, is) | inr (i, is) ↦ omega (arith, e, is) ]))
    ]

-- a part of what was written there
pub part_of : (f : Bytes) (at from count : ℕ) (xs ys zs : List ℕ) → xs ≡ (ys ++ zs) → ((j : ℕ) → j < length xs → f (at + j) ≡ get_or xs j 0) → length ys ≡ from → count ≤ length zs → part f (at + from) count ≡ take count zs
part_of f at from count xs ys zs is lies long le =
    part_is f (at + from) count zs le (λ j low.
    ap f (omega arith) ∙ lies (from + j) (let all : length xs ≡ length ys + length zs = ap length is ∙ length-append ys zs in omega (arith, all, long, low, le))
    ∙ ap (λ (l : List ℕ). get_or l (from + j) 0) is ∙ ap (λ n. get_or (ys ++ zs) (n + j) 0) (sym long) ∙ get_or-append-add ys zs j 0)

-- a batch's record, where it lies
module _ (bytes : List ℕ) (batch : List Intended) (record_is : IsBatchRecord bytes batch) (short : length bytes ≤ 2 ^ 62) where
  abbrev body : List ℕ
  body = record_is.body

  abbrev first : List ℕ
  first = digits 9 (length body)

  abbrev second : List ℕ
  second = digits 9 (nonzero body)

  both_long : length (first ++ second) ≡ 18
  both_long = length-append first second ∙ omega (arith, length_digits 9 (length body), length_digits 9 (nonzero body))

  pub long : length bytes ≡ 18 + length body
  long = ap length record_is.is ∙ length-append (first ++ second) body ∙ omega (arith, both_long)

  most_bytes : (bs : List ℕ) → nonzero bs ≤ length bs
  most_bytes [] = omega arith
  most_bytes (b ∷ bs) = let rest = most_bytes bs in let one = at_most b in omega (arith, rest, one)
    where
      at_most : (b : ℕ) → one_unless_zero b ≤ 1
      at_most b = elim (one_some b) [ inl e ↦ (let none = ap one_unless_zero e in omega (arith, none)) | inr e ↦ omega (arith, e) ]

  module _ (h : Bytes) (at : ℕ) (lies : (j : ℕ) → j < length bytes → h (at + j) ≡ get_or bytes j 0) where
    head_part : part h at 18 ≡ first ++ second
    head_part =
        ap (λ n. part h n 18) (omega arith) ∙ part_of h at 0 18 bytes [] bytes refl lies refl (omega (arith, long))
        ∙ ap (λ (l : List ℕ). take 18 l) record_is.is ∙ take_at (first ++ second) body 18 both_long

    length_is : length_at h at ≡ length body
    length_is =
        ap from_digits (ap (λ n. part h n 9) (omega arith) ∙ part_of h at 0 9 bytes [] bytes refl lies refl (omega (arith, long))
        ∙ ap (λ (l : List ℕ). take 9 l) (record_is.is ∙ append_assoc first second body) ∙ take_at first (second ++ body) 9 (length_digits 9 (length body)))
        ∙ back 9 (length body) (omega (arith, short, long))

    nonzero_is : nonzero_at h at ≡ nonzero body
    nonzero_is =
        ap from_digits (part_of h at 9 9 bytes first (second ++ body) (record_is.is ∙ append_assoc first second body) lies (length_digits 9 (length body))
        (let two = length-append second body in omega (arith, two, length_digits 9 (nonzero body)))
        ∙ take_at second body 9 (length_digits 9 (nonzero body)))
        ∙ back 9 (nonzero body) (let few = most_bytes body in omega (arith, short, long, few))

    body_is : body_at h at ≡ body
    body_is =
        ap (λ n. part h (at + 18) n) length_is
        ∙ part_of h at 18 (length body) bytes (first ++ second) body record_is.is lies both_long (omega arith) ∙ take_all (length body) body (omega arith)

    pub next_is : next_at h at ≡ at + length bytes
    next_is = ap (λ n. at + 18 + n) length_is ∙ omega (arith, long)

    pub whole_is : is_whole h at ≡ true
    whole_is =
        ap (λ (l : List ℕ). are_digits l && (nonzero (body_at h at) == nonzero_at h at)) head_part
        ∙ ap (λ b. b && (nonzero (body_at h at) == nonzero_at h at)) (are_both first second (are 9 (length body)) (are 9 (nonzero body)))
        ∙ elim (eqb_tells (nonzero (body_at h at)) (nonzero_at h at)) [ inl t ↦ t.0 | inr t ↦ absurd (t.1 (ap nonzero body_is ∙ sym nonzero_is)) ]

    pub code_is : IsCode (body_at h at)
    code_is = subst IsCode (sym body_is) record_is.code

    pub batch_is : decoded (body_at h at) ≡ batch
    batch_is = ap decoded body_is ∙ record_is.back

    -- one batch more lies in the journal
    pub put_chain : (f : Bytes) (places : List ℕ) (batches : List (List Intended)) → AreAt f 4096 places batches at → ((k : ℕ) → 4096 ≤ k → k < at → h k ≡ f k)
        → AreAt h 4096 (places ++ at ∷ []) (batches ++ batch ∷ []) (at + length bytes)
    put_chain f places batches are same =
        subst (λ n. AreAt h 4096 (places ++ at ∷ []) (batches ++ batch ∷ []) n) next_is
        (subst (λ b. AreAt h 4096 (places ++ at ∷ []) (batches ++ b ∷ []) (next_at h at)) batch_is
        (one_more h 4096 places batches at (are_same f h 4096 places batches at are same) whole_is code_is))

    -- and it alone from there on
    pub put_one : AreAt h at (at ∷ []) (batch ∷ []) (at + length bytes)
    put_one = (refl, whole_is, code_is, batch_is, next_is)

-- so many places, with one more
pub place_more : (places : List ℕ) (place end count : ℕ) → count ≤ length places → place_after (places ++ place ∷ []) end count ≡ place_after places place count
place_more [] place end zero le = refl
place_more [] place end (suc count) le = absurd (omega (arith, le))
place_more (s ∷ ss) place end zero le = refl
place_more (s ∷ ss) place end (suc count) le = place_more ss place end count (omega (arith, le))

-- what a stop leaves of a sound journal
module _ {F : Type 0} (seen : F → Folder) (may_leave : F → Stop → Folder → Type 0) (old : F) (places : List ℕ) (batches : List (List Intended)) (end durable : ℕ) (sound : IsSound seen may_leave old places batches end durable) where
  abbrev f0 : Bytes
  f0 = seen old 17

  pub start_within : 4096 ≤ end
  start_within = let past = end_past f0 4096 places batches end sound.lie in omega (arith, past)

  low_within : (4096 ≤ place_after places end durable) × (place_after places end durable ≤ end)
  low_within = place_within f0 4096 durable places batches end sound.lie sound.some

  pub left_kept : (stop : Stop) (g : Folder) → may_leave old stop g → KeepsFileFront f0 (g 17) (place_after places end durable)
  left_kept Killed g now = record { same = λ k low high. sound.killed g now k low; rest = λ k low. inl (sound.killed g now k (let first = low_within.0 in omega (arith, low, first))) }
  left_kept PowerLost g now = sound.power g now

  kept_each : (g : Bytes) → KeepsFileFront f0 g (place_after places end durable) → (k : ℕ) → 4096 ≤ k → (g k ≡ f0 k) ⊎ (g k ≡ 0)
  kept_each g kept k low = elim (below_or k (place_after places end durable)) [
    | inl under ↦ inl (kept.same k low under)
    | inr more ↦ kept.rest k (elim more [ inl e ↦ omega (arith, e) | inr (j, e) ↦ omega (arith, e) ])
  ]

  pub kept_zero : (g : Bytes) → KeepsFileFront f0 g (place_after places end durable) → (k : ℕ) → end ≤ k → g k ≡ 0
  kept_zero g kept k past = elim (kept_each g kept k (omega (arith, past, start_within))) [ inl same ↦ same ∙ sound.zeros k past | inr none ↦ none ]

  -- some of the first batches are read, and as many as are durable at least
  pub kept_read : (g : Folder) → KeepsFileFront f0 (g 17) (place_after places end durable) → (count : ℕ) × (durable ≤ count) × (count ≤ length batches) × (journal_of g ≡ take count batches)
  kept_read g kept =
      elim (read_split most f0 (g 17) 4096 places batches end durable sound.lie sound.some kept.same (λ k low high. kept_each (g 17) kept k low)
      (let few = few_places f0 places batches end sound.lie sound.inside in omega (arith, few))) [
        | inl stops ↦ (stops.count, stops.least, (let less = stops.most in omega (arith, less)), stops.read (g 17) (λ k low high. refl))
        | inr goes ↦ (
          length batches,
          (let many = as_many f0 4096 places batches end sound.lie in let some = sound.some in omega (arith, some, many)),
          omega arith,
          goes.read (g 17) (λ k low high. refl) ∙ ap (λ l. batches ++ l) (none_read goes.rest (g 17) end (zero_torn (g 17) end (kept_zero (g 17) kept end (omega arith)))) ∙ append-nil batches
              ∙ sym (take_all (length batches) batches (omega arith)),
        )
      ]

  -- all of them where no byte was left out
  pub same_read : (g : Folder) → ((k : ℕ) → 4096 ≤ k → g 17 k ≡ f0 k) → journal_of g ≡ batches
  same_read g same =
      elim (read_split most f0 (g 17) 4096 places batches end (length places) sound.lie (omega arith) (λ k low high. same k low) (λ k low high. inl (same k low))
      (let few = few_places f0 places batches end sound.lie sound.inside in omega (arith, few))) [
        | inl stops ↦ absurd (let many = as_many f0 4096 places batches end sound.lie in omega (arith, stops.least, stops.most, many))
        | inr goes ↦
            goes.read (g 17) (λ k low high. refl)
            ∙ ap (λ l. batches ++ l) (none_read goes.rest (g 17) end (zero_torn (g 17) end (same end start_within ∙ sound.zeros end (omega arith)))) ∙ append-nil batches
      ]

  pub sound_seen : journal_of (seen old) ≡ batches
  sound_seen = same_read (seen old) (λ k low. refl)

  pub sound_killed : (g : Folder) → may_leave old Killed g → journal_of g ≡ batches
  sound_killed g now = same_read g (sound.killed g now)

-- a batch's record is written at the end
module _ {F : Type 0} (seen : F → Folder) (may_leave : F → Stop → Folder → Type 0) (old : F) (places : List ℕ) (batches : List (List Intended)) (end durable : ℕ) (bytes : List ℕ) (batch : List Intended)
    (may : MayPut seen may_leave old places batches end durable bytes batch) where
  short : length bytes ≤ 2 ^ 62
  short = let room = may.room in omega (arith, room)

  -- a stop during the call leaves the journal as it was, or with the batch
  pub put_during : (stop : Stop) (f g : Folder) → may_leave old stop f → Mixed 17 end bytes f g → (journal_of g ≡ journal_of f) ⊎ (journal_of g ≡ batches ++ batch ∷ [])
  put_during stop f g was mixed =
      let f0 : Bytes = seen old 17 in
      let kept = left_kept seen may_leave old places batches end durable may.sound stop f was in
      let start = start_within seen may_leave old places batches end durable may.sound in
      let zero_from : (k : ℕ) → end ≤ k → f 17 k ≡ 0 = kept_zero seen may_leave old places batches end durable may.sound (f 17) kept in
      let each : EachOr f0 (f 17) 4096 end = λ k low high. kept_each seen may_leave old places batches end durable may.sound (f 17) kept k low in
      let few = few_places f0 places batches end may.sound.lie may.sound.inside in
      let under : (k : ℕ) → 4096 ≤ k → k < end → g 17 k ≡ f 17 k = λ k low high. mixed.outside k (inl high) in
      let none_f : (rest : ℕ) → batches_from rest (f 17) end ≡ [] = λ rest. none_read rest (f 17) end (zero_torn (f 17) end (zero_from end (omega arith))) in
      elim (read_split most f0 (f 17) 4096 places batches end durable may.sound.lie may.sound.some kept.same each (omega (arith, few))) [
        | inl stops ↦ inl (stops.read (g 17) under ∙ sym (stops.read (f 17) (λ k low high. refl)))
        | inr goes ↦
            let read_f = goes.read (f 17) (λ k low high. refl) in
            let read_g = goes.read (g 17) under in
            elim (last_read (g 17) goes.rest (λ k past. elim (inside_or k end (length bytes)) [
              | inl out ↦ inr (mixed.outside k out ∙ zero_from k past)
              | inr (j, low, e) ↦ elim (mixed.inside j low) [
                | inl same ↦ inr (ap (g 17) e ∙ same ∙ zero_from (end + j) (omega arith))
                | inr made ↦ inl (ap (g 17) e ∙ made ∙ sym (written_at j) ∙ sym (ap written e))
              ]
            ]) (let sum = goes.enough in omega (arith, sum, few))) [
              | inl none ↦ inl (read_g ∙ ap (λ l. batches ++ l) none ∙ sym (read_f ∙ ap (λ l. batches ++ l) (none_f goes.rest)))
              | inr one ↦ inr (read_g ∙ ap (λ l. batches ++ l) one)
            ]
      ]
    where
      -- the record alone
      written : Bytes
      written k = get_or bytes (k - end) 0

      written_at : (j : ℕ) → get_or bytes (end + j - end) 0 ≡ get_or bytes j 0
      written_at j = ap (λ n. get_or bytes n 0) (omega arith)

      -- it is read, or it isn't
      last_read : (g : Bytes) (rest : ℕ) → ((k : ℕ) → end ≤ k → (g k ≡ written k) ⊎ (g k ≡ 0)) → 1 < rest → (batches_from rest g end ≡ []) ⊎ (batches_from rest g end ≡ batch ∷ [])
      last_read g rest each few =
          let none : g (end + length bytes) ≡ 0 = elim (each (end + length bytes) (omega arith)) [
            | inl same ↦ same ∙ get_or_past bytes (end + length bytes - end) 0 (omega arith)
            | inr is ↦ is
          ] in
          elim (read_split rest written g end (end ∷ []) (batch ∷ []) (end + length bytes) 0 (put_one bytes batch may.put short written end (λ j low. written_at j)) (omega arith)
          (λ k low high. absurd (omega (arith, low, high))) (λ k low high. each k low) (omega (arith, few))) [
            | inl stops ↦ inl (stops.read g (λ k low high. refl) ∙ ap (λ n. take n (batch ∷ [])) (let less = stops.most in let zero_is : stops.count ≡ 0 = omega (arith, less) in zero_is))
            | inr goes ↦ inr (goes.read g (λ k low high. refl) ∙ ap (λ l. (batch ∷ []) ++ l) (none_read goes.rest g (end + length bytes) (zero_torn g (end + length bytes) none)))
          ]

  -- after the call the journal is sound, with the batch
  pub put_sound : (new : F) → Wrote 17 end bytes (seen old) (seen new) → Within (may_leave new Killed) (wrote_at 17 end bytes (may_leave old Killed)) → Within (may_leave new PowerLost) (mixed_at 17 end bytes (may_leave old PowerLost))
      → IsSound seen may_leave new (places ++ end ∷ []) (batches ++ batch ∷ []) (end + length bytes) durable
  put_sound new wrote killed power =
      let f0 : Bytes = seen old 17 in
      let f1 : Bytes = seen new 17 in
      let start = start_within seen may_leave old places batches end durable may.sound in
      let within = low_within seen may_leave old places batches end durable may.sound in
      let low_is = place_more places end (end + length bytes) durable may.sound.some in
      record {
        lie = put_chain bytes batch may.put short f1 end wrote.inside f0 places batches may.sound.lie (λ k low high. wrote.outside k (inl high));
        inside = may.room;
        some = let some = may.sound.some in omega (arith, some, length-append places (end ∷ []));
        zeros = λ k past. wrote.outside k (inr past) ∙ may.sound.zeros k (omega (arith, past));
        killed = λ g now k low.
            let from = killed g now in
            let was = may.sound.killed from.0 from.1 in
            elim (inside_or k end (length bytes)) [
              | inl out ↦ from.2.outside k out ∙ was k low ∙ sym (wrote.outside k out)
              | inr (j, less, e) ↦ ap (g 17) e ∙ from.2.inside j less ∙ sym (wrote.inside j less) ∙ sym (ap f1 e)
            ];
        power = λ g now.
            let from = power g now in
            let kept = may.sound.power from.0 from.1 in
            let zero_from = kept_zero seen may_leave old places batches end durable may.sound (from.0 17) kept in
            record {
              same = λ k low high.
                  let before : k < end = (let last = within.1 in omega (arith, high, low_is, last)) in
                  from.2.outside k (inl before) ∙ kept.same k low (omega (arith, high, low_is)) ∙ sym (wrote.outside k (inl before));
              rest = λ k low. elim (inside_or k end (length bytes)) [
                | inl out ↦ ⊎_elim (λ same. inl (from.2.outside k out ∙ same ∙ sym (wrote.outside k out))) (λ none. inr (from.2.outside k out ∙ none)) (kept.rest k (omega (arith, low, low_is)))
                | inr (j, less, e) ↦ elim (from.2.inside j less) [
                  | inl same ↦ inr (ap (g 17) e ∙ same ∙ zero_from (end + j) (omega arith))
                  | inr made ↦ inl (ap (g 17) e ∙ made ∙ sym (wrote.inside j less) ∙ sym (ap f1 e))
                ]
              ];
            };
      }

  -- a kill after it leaves the batch
  pub put_killed : (new : F) → IsSound seen may_leave new (places ++ end ∷ []) (batches ++ batch ∷ []) (end + length bytes) durable → (g : Folder) → may_leave new Killed g → journal_of g ≡ batches ++ batch ∷ []
  put_killed new sound g now = sound_killed seen may_leave new (places ++ end ∷ []) (batches ++ batch ∷ []) (end + length bytes) durable sound g now
