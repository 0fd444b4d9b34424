-- A read and a write of one drive, as what all drives hold; and that what calls leave adds up.
use Rattle.std.proofs.Common.{◌≡◌, ◌≢◌, ℕ, ◌<◌, ◌⊎◌, inl, inr, Bool, true, false, not, Option, Some, None, List, [], ◌∷◌, length, refl, sym, ◌∙◌, ap, subst, arith, get_or, if◌then◌else◌}
use Rattle.std.specs.Prelude.{slice_get, slice_set, Result, Ok, Err, OnOk, OnErr, is_ok, is_err}
use Rattle.std.proofs.lemmas.List.{length-set}
use Rattle.std.proofs.lemmas.Option.{same_Some, none-some, slice_get-get_or, slice_get_within}
use Rattle.extents.specs.Failures.{Failures, CountsFailure, StaysSteady}
use Rattle.extents.proofs.Failures.{counts_same, steady_same, counts_more, steady_more}
use Rattle.extents.specs.Units.{AreUnitsSized}
use Rattle.extent_groups.specs.declared.place.Place.{Place}
use Rattle.extent_groups.specs.Cells.{cell, cells, held}
use Rattle.extent_groups.specs.Calls.{AreSized, IsPlace, DidRead, DidWrite, NoPlace, Only, KeepsDrive, KeepsDrives}
use Rattle.extent_groups.proofs.Places.{get-set_same, get-set_other, same_or_not, written_or_not}

either : (b : Bool) → (b ≡ true) ⊎ (b ≡ false)
either true = inl refl
either false = inr refl

not_both : (b : Bool) → b ≡ true → b ≡ false → ⊥
not_both b t f = let both : true ≡ false = sym t ∙ f in absurd cc

-- what holds if an answer is Ok
pub reported_ok : {A E : Type 0} {P : Type 0} (r : Result A E) → OnOk r P → is_ok r ≡ true → P
reported_ok (Ok a) p e = p
reported_ok (Err f) p e = absurd (let both : false ≡ true = e in cc)

pub reported_err : {A E : Type 0} {P : Type 0} (r : Result A E) → OnErr r P → is_ok r ≡ false → P
reported_err (Ok a) p e = absurd (let both : true ≡ false = e in cc)
reported_err (Err f) p e = p

pub is_err-not : {A E : Type 0} (r : Result A E) → is_err r ≡ not (is_ok r)
is_err-not (Ok a) = refl
is_err-not (Err f) = refl

-- a call of a drive: the drive is lost afterwards exactly where the call wasn't Ok
pub record Called {D : Type 0} (lost : D → Bool) (failures : D → Failures) (x y : D) (ok : Bool) : Type 0 where
  pub lost_is : lost y ≡ not ok
  pub stays : lost x ≡ true → lost y ≡ true
  pub count : CountsFailure (lost x) (lost y) (failures x) (failures y)
  pub steady : StaysSteady (lost x) (lost y) (failures x) (failures y)

was_present : {D : Type 0} (lost : D → Bool) (failures : D → Failures) (x y : D) → Called lost failures x y true → lost x ≡ false
was_present lost failures x y call = elim (either (lost x)) [
  | inl t ↦ absurd (not_both (lost y) (call.stays t) call.lost_is)
  | inr f ↦ f
]

-- what a drive of the list holds
cell_there : {D : Type 0} (units : D → List (List ℕ)) (lost : D → Bool) (ds : List D) (d at : ℕ) (x : D) → slice_get ds d ≡ Some x
    → cells units lost ds d at ≡ (if lost x then None else slice_get (units x) at)
cell_there units lost ds d at x e = ap (λ o. cell units lost o at) e

cell_present : {D : Type 0} (units : D → List (List ℕ)) (lost : D → Bool) (ds : List D) (d at : ℕ) (x : D) → slice_get ds d ≡ Some x → lost x ≡ false
    → cells units lost ds d at ≡ slice_get (units x) at
cell_present units lost ds d at x e f = cell_there units lost ds d at x e ∙ ap (λ b. if b then None else slice_get (units x) at) f

cell_lost : {D : Type 0} (units : D → List (List ℕ)) (lost : D → Bool) (ds : List D) (d at : ℕ) (x : D) → slice_get ds d ≡ Some x → lost x ≡ true
    → cells units lost ds d at ≡ None
cell_lost units lost ds d at x e t = cell_there units lost ds d at x e ∙ ap (λ b. if b then None else slice_get (units x) at) t

-- drives with one of them called
cell_other : {D : Type 0} (units : D → List (List ℕ)) (lost : D → Bool) (ds : List D) (d e at : ℕ) (y : D) → e ≢ d → cells units lost (slice_set ds d y) e at ≡ cells units lost ds e at
cell_other units lost ds d e at y ne = ap (λ o. cell units lost o at) (get-set_other ds d e y ne)

-- two places of one drive
other_address : (p x : Place) → x ≢ p → x.drive ≡ p.drive → x.address ≢ p.address
other_address p x ne d a =
    ne (ap (λ e. let q : Place = record { drive = e; address = x.address } in q) d ∙ ap (λ e. let q : Place = record { drive = p.drive; address = e } in q) a)

pub did_read : {D : Type 0} (units : D → List (List ℕ)) (lost : D → Bool) (failures : D → Failures) (ds : List D) (p : Place) (x y : D) (u : List ℕ) (ok : Bool)
    → p.drive < length ds → slice_get ds p.drive ≡ Some x → Called lost failures x y ok
    → units y ≡ units x → (ok ≡ true → slice_get (units x) p.address ≡ Some u)
    → DidRead (cells units lost ds) (cells units lost (slice_set ds p.drive y)) p u ok
did_read units lost failures ds p x y u true inside there call same read =
    let now = get-set_same ds p.drive y inside in
    let was = was_present lost failures x y call in
    let all : (z : Place) → held (cells units lost (slice_set ds p.drive y)) z ≡ held (cells units lost ds) z =
    λ z. elim (same_or_not z.drive p.drive) [
      | inl e ↦
          ap (λ d. cells units lost (slice_set ds p.drive y) d z.address) e
          ∙ cell_present units lost (slice_set ds p.drive y) p.drive z.address y now call.lost_is
          ∙ ap (λ us. slice_get us z.address) same
          ∙ sym (cell_present units lost ds p.drive z.address x there was)
          ∙ ap (λ d. cells units lost ds d z.address) (sym e)
      | inr ne ↦ cell_other units lost ds p.drive z.drive z.address y ne
    ] in
    record {
      here = cell_present units lost (slice_set ds p.drive y) p.drive p.address y now call.lost_is ∙ ap (λ us. slice_get us p.address) same ∙ read refl;
      same = λ _. all;
      fades = λ z. inl (all z);
      elsewhere = λ z _. all z;
    }
did_read units lost failures ds p x y u false inside there call same read =
    let now = get-set_same ds p.drive y inside in
    record {
      here = cell_lost units lost (slice_set ds p.drive y) p.drive p.address y now call.lost_is;
      same = λ e. absurd (let both : false ≡ true = e in cc);
      fades = λ z. elim (same_or_not z.drive p.drive) [
        | inl e ↦ inr (ap (λ d. cells units lost (slice_set ds p.drive y) d z.address) e ∙ cell_lost units lost (slice_set ds p.drive y) p.drive z.address y now call.lost_is)
        | inr ne ↦ inl (cell_other units lost ds p.drive z.drive z.address y ne)
      ];
      elsewhere = λ z ne. cell_other units lost ds p.drive z.drive z.address y ne;
    }

pub did_write : {D : Type 0} (units : D → List (List ℕ)) (lost : D → Bool) (failures : D → Failures) (ds : List D) (p : Place) (x y : D) (u : List ℕ) (ok : Bool)
    → p.drive < length ds → slice_get ds p.drive ≡ Some x → p.address < length (units x) → Called lost failures x y ok
    → (ok ≡ true → units y ≡ slice_set (units x) p.address u)
    → DidWrite (cells units lost ds) (cells units lost (slice_set ds p.drive y)) p u ok
did_write units lost failures ds p x y u true inside there low call written =
    let now = get-set_same ds p.drive y inside in
    let was = was_present lost failures x y call in
    record {
      here = cell_present units lost (slice_set ds p.drive y) p.drive p.address y now call.lost_is
          ∙ ap (λ us. slice_get us p.address) (written refl) ∙ get-set_same (units x) p.address u low;
      was = λ _ gone. none-some (get_or (units x) p.address u)
          (sym gone ∙ cell_present units lost ds p.drive p.address x there was ∙ slice_get-get_or (units x) p.address u low);
      nearby = λ z ne. inl (elim (same_or_not z.drive p.drive) [
        | inl e ↦
            ap (λ d. cells units lost (slice_set ds p.drive y) d z.address) e
            ∙ cell_present units lost (slice_set ds p.drive y) p.drive z.address y now call.lost_is
            ∙ ap (λ us. slice_get us z.address) (written refl)
            ∙ get-set_other (units x) p.address z.address u (other_address p z ne e)
            ∙ sym (cell_present units lost ds p.drive z.address x there was)
            ∙ ap (λ d. cells units lost ds d z.address) (sym e)
        | inr apart ↦ cell_other units lost ds p.drive z.drive z.address y apart
      ]);
      elsewhere = λ z ne. cell_other units lost ds p.drive z.drive z.address y ne;
    }
did_write units lost failures ds p x y u false inside there low call written =
    let now = get-set_same ds p.drive y inside in
    record {
      here = cell_lost units lost (slice_set ds p.drive y) p.drive p.address y now call.lost_is;
      was = λ e. absurd (let both : false ≡ true = e in cc);
      nearby = λ z _. elim (same_or_not z.drive p.drive) [
        | inl e ↦ inr (ap (λ d. cells units lost (slice_set ds p.drive y) d z.address) e ∙ cell_lost units lost (slice_set ds p.drive y) p.drive z.address y now call.lost_is)
        | inr ne ↦ inl (cell_other units lost ds p.drive z.drive z.address y ne)
      ];
      elsewhere = λ z ne. cell_other units lost ds p.drive z.drive z.address y ne;
    }

keeps_same : {D : Type 0} (units : D → List (List ℕ)) (lost : D → Bool) (failures : D → Failures) (touched : ℕ → Type 0) (x : D) → KeepsDrive units lost failures touched x x
keeps_same units lost failures touched x = record {
  room = refl;
  sizes = λ n h. h;
  elsewhere = λ at h. refl;
  stays = λ h. h;
  count = counts_same (lost x) (failures x);
  steady = steady_same (lost x) (failures x);
}

-- a call of a drive that changes no unit
pub kept_same : {D : Type 0} {units : D → List (List ℕ)} {lost : D → Bool} {failures : D → Failures} {touched : ℕ → Type 0} (x y : D) → units y ≡ units x
    → (lost x ≡ true → lost y ≡ true) → CountsFailure (lost x) (lost y) (failures x) (failures y) → StaysSteady (lost x) (lost y) (failures x) (failures y)
    → KeepsDrive units lost failures touched x y
kept_same x y same stays count steady = record {
  room = ap length same;
  sizes = λ n h. subst (AreUnitsSized n) (sym same) h;
  elsewhere = λ at no. ap (λ us. slice_get us at) same;
  stays = stays;
  count = count;
  steady = steady;
}

-- a read of a drive
pub kept_read : {D : Type 0} (units : D → List (List ℕ)) (lost : D → Bool) (failures : D → Failures) (p : Place) (x y : D) (ok : Bool)
    → Called lost failures x y ok → units y ≡ units x → KeepsDrive units lost failures (λ at. NoPlace (record { drive = p.drive; address = at })) x y
kept_read units lost failures p x y ok call same = kept_same x y same call.stays call.count call.steady

-- the units with one written have the size of all
sized-set : (n at : ℕ) (us : List (List ℕ)) (u : List ℕ) → length u ≡ n → AreUnitsSized n us → AreUnitsSized n (slice_set us at u)
sized-set n at us u e sized k v ev = elim (same_or_not k at) [
  | inl q ↦ elim (written_or_not us at u) [
    | inl is ↦ (let same : u ≡ v = same_Some _ _ (sym is ∙ ap (slice_get (slice_set us at u)) (sym q) ∙ ev) in ap length (sym same) ∙ e)
    | inr past ↦ sized k v (ap (λ xs. slice_get xs k) (sym past) ∙ ev)
  ]
  | inr ne ↦ sized k v (sym (get-set_other us at k u ne) ∙ ev)
]

same_size : (n m at : ℕ) (us : List (List ℕ)) (u : List ℕ) → AreUnitsSized m us → AreUnitsSized n us → length u ≡ m → AreUnitsSized n (slice_set us at u)
same_size n m at [] u hm hn e = hn
same_size n m at (v ∷ us) u hm hn e = sized-set n at (v ∷ us) u (e ∙ sym (hm 0 v refl) ∙ hn 0 v refl) hn

written_units : {D : Type 0} (units : D → List (List ℕ)) (x y : D) (at : ℕ) (u : List ℕ) (ok : Bool)
    → (ok ≡ true → units y ≡ slice_set (units x) at u) → (ok ≡ false → units y ≡ units x) → (units y ≡ slice_set (units x) at u) ⊎ (units y ≡ units x)
written_units units x y at u true w n = inl (w refl)
written_units units x y at u false w n = inr (n refl)

-- a write of a drive
pub kept_write : {D : Type 0} (units : D → List (List ℕ)) (lost : D → Bool) (failures : D → Failures) (p : Place) (x y : D) (u : List ℕ) (ok : Bool)
    → AreUnitsSized (length u) (units x) → Called lost failures x y ok
    → (ok ≡ true → units y ≡ slice_set (units x) p.address u) → (ok ≡ false → units y ≡ units x)
    → KeepsDrive units lost failures (λ at. Only p (record { drive = p.drive; address = at })) x y
kept_write units lost failures p x y u ok sized call w n = elim (written_units units x y p.address u ok w n) [
  | inl e ↦ record {
    room = ap length e ∙ length-set (units x) p.address u;
    sizes = λ m h. subst (AreUnitsSized m) (sym e) (same_size m (length u) p.address (units x) u sized h refl);
    elsewhere = λ at no. ap (λ us. slice_get us at) e ∙ get-set_other (units x) p.address at u
        (λ q. no (ap (λ a. let z : Place = record { drive = p.drive; address = a } in z) q));
    stays = call.stays;
    count = call.count;
    steady = call.steady;
  }
  | inr e ↦ record {
    room = ap length e;
    sizes = λ m h. subst (AreUnitsSized m) (sym e) h;
    elsewhere = λ at no. ap (λ us. slice_get us at) e;
    stays = call.stays;
    count = call.count;
    steady = call.steady;
  }
]

-- one drive called
pub keeps_one : {D : Type 0} (units : D → List (List ℕ)) (lost : D → Bool) (failures : D → Failures) (touched : Place → Type 0) (ds : List D) (d : ℕ) (x y : D)
    → d < length ds → slice_get ds d ≡ Some x → KeepsDrive units lost failures (λ at. touched (record { drive = d; address = at })) x y
    → KeepsDrives units lost failures touched ds (slice_set ds d y)
keeps_one units lost failures touched ds d x y inside there keeps = record {
  many = length-set ds d y;
  each = λ e a b ea eb. elim (same_or_not e d) [
    | inl q ↦
        (let ax : x ≡ a = same_Some _ _ (sym there ∙ subst (λ k. slice_get ds k ≡ Some a) q ea) in
        let by : y ≡ b = same_Some _ _ (sym (get-set_same ds d y inside) ∙ subst (λ k. slice_get (slice_set ds d y) k ≡ Some b) q eb) in
        subst (λ k. KeepsDrive units lost failures (λ at. touched (record { drive = k; address = at })) a b) (sym q)
        (subst (λ z. KeepsDrive units lost failures (λ at. touched (record { drive = d; address = at })) a z) by
        (subst (λ z. KeepsDrive units lost failures (λ at. touched (record { drive = d; address = at })) z y) ax keeps)))
    | inr ne ↦
        (let same : a ≡ b = same_Some _ _ (sym ea ∙ sym (get-set_other ds d e y ne) ∙ eb) in
        subst (λ z. KeepsDrive units lost failures (λ at. touched (record { drive = e; address = at })) a z) same
        (keeps_same units lost failures (λ at. touched (record { drive = e; address = at })) a))
  ];
}

pub keeps_trans : {D : Type 0} {units : D → List (List ℕ)} {lost : D → Bool} {failures : D → Failures} {touched : Place → Type 0} {a b c : List D}
    → KeepsDrives units lost failures touched a b → KeepsDrives units lost failures touched b c → KeepsDrives units lost failures touched a c
keeps_trans {D = D} {lost = lost} {failures = failures} {b = b} h k = record {
  many = k.many ∙ h.many;
  each = λ d x z ex ez.
      (let within : d < length b = omega (arith, slice_get_within _ d z ez, k.many) in
      let y : D = get_or b d x in
      let first = h.each d x y ex (slice_get-get_or b d x within) in
      let second = k.each d y z (slice_get-get_or b d x within) ez in
      record {
        room = second.room ∙ first.room;
        sizes = λ n s. second.sizes n (first.sizes n s);
        elsewhere = λ at no. second.elsewhere at no ∙ first.elsewhere at no;
        stays = λ t. second.stays (first.stays t);
        count = counts_more (lost x) (lost y) (lost z) (failures x) (failures y) (failures z) first.stays second.stays first.count second.count;
        steady = steady_more (lost x) (lost y) (lost z) (failures x) (failures y) (failures z) first.steady second.steady;
      });
}

pub keeps_none : {D : Type 0} {units : D → List (List ℕ)} {lost : D → Bool} {failures : D → Failures} {touched : Place → Type 0} (a : List D) → KeepsDrives units lost failures touched a a
keeps_none {units = units} {lost = lost} {failures = failures} {touched = touched} a = record {
  many = refl;
  each = λ d x y ex ey.
      (let same : x ≡ y = same_Some _ _ (sym ex ∙ ey) in
      subst (λ z. KeepsDrive units lost failures (λ at. touched (record { drive = d; address = at })) x z) same
      (keeps_same units lost failures (λ at. touched (record { drive = d; address = at })) x));
}

-- what calls keep with some places touched, they keep with more places counted as touched
pub keeps_more : {D : Type 0} {units : D → List (List ℕ)} {lost : D → Bool} {failures : D → Failures} {touched more : Place → Type 0} {a b : List D}
    → ((x : Place) → touched x → more x) → KeepsDrives units lost failures touched a b → KeepsDrives units lost failures more a b
keeps_more into h = record {
  many = h.many;
  each = λ d x y ex ey.
      (let k = h.each d x y ex ey in
      record { room = k.room; sizes = k.sizes; elsewhere = λ at no. k.elsewhere at (λ t. no (into (record { drive = d; address = at }) t)); stays = k.stays; count = k.count; steady = k.steady });
}

-- places and sizes stay
pub keeps_place : {D : Type 0} {units : D → List (List ℕ)} {lost : D → Bool} {failures : D → Failures} {touched : Place → Type 0} {a b : List D} {p : Place}
    → KeepsDrives units lost failures touched a b → IsPlace units a p → IsPlace units b p
keeps_place {a = a} {p = p} h at = record {
  inside = omega (arith, at.inside, h.many);
  low = λ y ey.
      (let x = get_or a p.drive y in
      let ex = slice_get-get_or a p.drive y at.inside in
      omega (arith, at.low x ex, (h.each p.drive x y ex ey).room));
}

pub keeps_sizes : {D : Type 0} {units : D → List (List ℕ)} {lost : D → Bool} {failures : D → Failures} {touched : Place → Type 0} {a b : List D} {n : ℕ}
    → KeepsDrives units lost failures touched a b → AreSized units n a → AreSized units n b
keeps_sizes {a = a} {n = n} h sized d y ey =
    let within : d < length a = omega (arith, slice_get_within _ d y ey, h.many) in
    let ex = slice_get-get_or a d y within in
    (h.each d (get_or a d y) y ex ey).sizes n (sized d (get_or a d y) ex)

lost_size : {D : Type 0} (units : D → List (List ℕ)) (n : ℕ) (b : Bool) (x : D) (at : ℕ) → AreUnitsSized n (units x) → (u : List ℕ) → (if b then None else slice_get (units x) at) ≡ Some u → length u ≡ n
lost_size units n true x at sized u e = absurd (none-some u e)
lost_size units n false x at sized u e = sized at u e

held_size : {D : Type 0} (units : D → List (List ℕ)) (lost : D → Bool) (n : ℕ) (o : Option D) (at : ℕ) → ((x : D) → o ≡ Some x → AreUnitsSized n (units x)) → (u : List ℕ) → cell units lost o at ≡ Some u → length u ≡ n
held_size units lost n None at sized u e = absurd (none-some u e)
held_size units lost n (Some x) at sized u e = lost_size units n (lost x) x at (sized x refl) u e

-- what sized drives hold has that size
pub cells_sized : {D : Type 0} (units : D → List (List ℕ)) (lost : D → Bool) (n : ℕ) (ds : List D) → AreSized units n ds → (p : Place) (u : List ℕ) → held (cells units lost ds) p ≡ Some u → length u ≡ n
cells_sized units lost n ds sized p u e = held_size units lost n (slice_get ds p.drive) p.address (λ x ex. sized p.drive x ex) u e
