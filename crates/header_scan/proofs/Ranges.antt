-- Scans of two ranges of slots that follow each other.
use Rattle.std.proofs.Common.{◌≡◌, ℕ, zero, suc, Some, ◌<◌, ◌≤◌, ◌⊎◌, inl, inr, max, refl, sym, ◌∙◌, ap, subst, arith}
use Rattle.std.proofs.lemmas.Bool.Decides.{nat_tests}
use Rattle.map_join.specs.declared.records.Record.{Record}
use Rattle.map_join.specs.Record.{stamp_of, stamp_in}
use Rattle.map_join.specs.Maps.{IsSame, join}
use Rattle.extent_groups.specs.Groups.{Groups}
use Rattle.extent_groups.specs.Cells.{Cells}
use Rattle.extent_groups.specs.Stores.{unit_of, AreSound, KeepsUnits}
use Rattle.flat_machine.specs.Scanned.{HasHeader, IsScanned}
use Rattle.header_scan.specs.declared.fault.ScanFault.{ScanFault}
use Rattle.header_scan.specs.Faults.{SlotUnits, between, AreFine, IsFirstFault, IsTwice}
use Rattle.header_scan.specs.Found.{Keeps}
use Rattle.header_scan.specs.Ranges.{MakeUp, IsMapOfRange, HasNoTwice, ShareNoStamp, IsFaultOfRanges}
use Rattle.header_scan.proofs.Scanning.{has_unit, within, ranged, great_stamp}
use Rattle.header_scan.proofs.Stepping.{reports_kept}
use Rattle.header_scan.proofs.Ending.{own_place}
use Rattle.header_scan.proofs.Parts.{one_map, joined}

below_or : (n m : ℕ) → (n < m) ⊎ (m ≤ n)
below_or n m = grind arith

some_or : (n : ℕ) → (n ≡ 0) ⊎ (0 < n)
some_or zero = inl refl
some_or (suc n) = inr (omega arith)

-- a header of the whole range is one of either part
split : (low middle high : ℕ) (bytes : SlotUnits) (slot : ℕ) (r : Record) → HasHeader (between low high bytes) slot r
    → HasHeader (between low middle bytes) slot r ⊎ HasHeader (between middle high bytes) slot r
split low middle high bytes slot r h =
    let w = within low high bytes slot r h in
    elim (below_or slot middle) [ inl less ↦ inl (ranged low middle bytes slot r w.0 less w.2) | inr more ↦ inr (ranged middle high bytes slot r more w.1 w.2) ]

-- and the other way round
first_in : (low middle high : ℕ) (bytes : SlotUnits) (slot : ℕ) (r : Record) → middle ≤ high → HasHeader (between low middle bytes) slot r → HasHeader (between low high bytes) slot r
first_in low middle high bytes slot r wide h = let w = within low middle bytes slot r h in let k = w.1 in ranged low high bytes slot r w.0 (omega (arith, k, wide)) w.2

second_in : (low middle high : ℕ) (bytes : SlotUnits) (slot : ℕ) (r : Record) → low ≤ middle → HasHeader (between middle high bytes) slot r → HasHeader (between low high bytes) slot r
second_in low middle high bytes slot r wide h = let w = within middle high bytes slot r h in let k = w.0 in ranged low high bytes slot r (omega (arith, k, wide)) w.1 w.2

pub make_up : (low middle high : ℕ) (bytes : SlotUnits) → low ≤ middle → middle ≤ high → MakeUp (between low high bytes) (between low middle bytes) (between middle high bytes)
make_up low middle high bytes l m slot r =
    ((λ h. split low middle high bytes slot r h), (λ e. elim e [ inl h ↦ first_in low middle high bytes slot r m h | inr h ↦ second_in low middle high bytes slot r l h ]))

-- of the same units
pub same_units : (bytes : SlotUnits) (low middle high : ℕ) (K M N : ℕ → ℕ) → low ≤ middle → middle ≤ high → IsScanned (between low middle bytes) M → IsScanned (between middle high bytes) N → IsScanned (between low high bytes) K
    → IsSame (join M N) K
same_units bytes low middle high K M N l m one other all =
    joined (between low high bytes) (between low middle bytes) (between middle high bytes) K M N (make_up low middle high bytes l m) all one other

chosen : (a b : ℕ) → (max a b ≡ a) ⊎ (max a b ≡ b)
chosen a b = elim (below_or a b) [ inl less ↦ inr (grind (arith, nat_tests)) | inr more ↦ inl (grind (arith, nat_tests)) ]

at_least : (a b : ℕ) → (a ≤ max a b) × (b ≤ max a b)
at_least a b = ((grind (arith, nat_tests)), (grind (arith, nat_tests)))

pub joined_map : (bytes : SlotUnits) (low middle high : ℕ) (M N : ℕ → ℕ) → low ≤ middle → middle ≤ high → IsScanned (between low middle bytes) M → IsScanned (between middle high bytes) N
    → IsScanned (between low high bytes) (join M N)
joined_map bytes low middle high M N l m one other = record {
  found = λ b some. elim (chosen (M b) (N b)) [
    | inl e ↦ (let f = one.found b (omega (arith, some, e)) in (f.0, f.1, first_in low middle high bytes f.0 f.1 m f.2, f.3, f.4 ∙ sym e))
    | inr e ↦ (let f = other.found b (omega (arith, some, e)) in (f.0, f.1, second_in low middle high bytes f.0 f.1 l f.2, f.3, f.4 ∙ sym e))
  ];
  most = λ slot r h.
      let least = at_least (M r.block) (N r.block) in
      let a = least.0 in
      let b = least.1 in
      elim (split low middle high bytes slot r h) [
        | inl k ↦ (let most = one.most slot r k in omega (arith, most, a))
        | inr k ↦ (let most = other.most slot r k in omega (arith, most, b))
      ];
}

-- a header that is there later was there
module _ (groups : Groups) (start now : Cells) (low high : ℕ) (keeps : KeepsUnits groups start now) (fine : AreFine groups low high (unit_of groups now)) where
  was : (slot : ℕ) (r : Record) → HasHeader (between low high (unit_of groups now)) slot r → HasHeader (between low high (unit_of groups start)) slot r
  was slot r h =
      let w = within low high (unit_of groups now) slot r h in
      ranged low high (unit_of groups start) slot r w.0 w.1 (w.2.0, keeps slot w.2.0 w.2.1, w.2.2)

  -- and where the later headers are fine each that was there still is
  still : (slot : ℕ) (r : Record) → HasHeader (between low high (unit_of groups start)) slot r → HasHeader (between low high (unit_of groups now)) slot r
  still slot r h =
      let w = within low high (unit_of groups start) slot r h in
      let reports = (fine slot (has_unit groups start slot w.2.0 w.2.1) w.0 w.1).1 in
      let same : Some w.2.0 ≡ Some reports.0 = sym w.2.1 ∙ keeps slot reports.0 reports.1 in
      let unit : unit_of groups now slot ≡ Some w.2.0 = reports.1 ∙ sym same in
      ranged low high (unit_of groups now) slot r w.0 w.1 (w.2.0, unit, w.2.2)

  pub fine_before : AreFine groups low high (unit_of groups start)
  fine_before = λ slot is l h. (let reported = fine slot is l h in (reported.0, reports_kept groups.blocks slot (unit_of groups now) (unit_of groups start) reported.0 keeps reported.1))

  pub map_before : (M : ℕ → ℕ) → IsScanned (between low high (unit_of groups now)) M → IsScanned (between low high (unit_of groups start)) M
  map_before M is = record {
    found = λ b some. (let f = is.found b some in (f.0, f.1, was f.0 f.1 f.2, f.3, f.4));
    most = λ slot r h. is.most slot r (still slot r h);
  }

  pub once_before : HasNoTwice (between low high (unit_of groups now)) → HasNoTwice (between low high (unit_of groups start))
  once_before once b p q is = once b p q (record {
    one = is.one;
    other = is.other;
    here = (still p is.one is.here.0, is.here.1);
    there = (still q is.other is.there.0, is.there.1);
    order = is.order;
    same = is.same;
    most = λ slot r h. is.most slot r (was slot r h);
    lowest = λ slot r h. is.lowest slot r (was slot r h);
  })

pub earlier : (groups : Groups) (start now : Cells) (low high : ℕ) (M : ℕ → ℕ) → KeepsUnits groups start now → IsMapOfRange groups now low high M → IsMapOfRange groups start low high M
earlier groups start now low high M keeps is = record {
  map = map_before groups start now low high keeps is.fine M is.map;
  fine = fine_before groups start now low high keeps is.fine;
}

pub earlier_once : (groups : Groups) (start now : Cells) (low high : ℕ) (M : ℕ → ℕ) → KeepsUnits groups start now → IsMapOfRange groups now low high M → HasNoTwice (between low high (unit_of groups now))
    → HasNoTwice (between low high (unit_of groups start))
earlier_once groups start now low high M keeps is = once_before groups start now low high keeps is.fine

-- both ranges are fine, so the whole is
both_fine : (groups : Groups) (low middle high : ℕ) (bytes : SlotUnits) → AreFine groups low middle bytes → AreFine groups middle high bytes → AreFine groups low high bytes
both_fine groups low middle high bytes one other slot is l h = elim (below_or slot middle) [ inl less ↦ one slot is l less | inr more ↦ other slot is more h ]

pub calls : (groups : Groups) (c : Cells) (low middle high : ℕ) (M N : ℕ → ℕ) → low ≤ middle → middle ≤ high → IsMapOfRange groups c low middle M → IsMapOfRange groups c middle high N
    → IsMapOfRange groups c low high (join M N)
calls groups c low middle high M N l m one other = record {
  map = joined_map (unit_of groups c) low middle high M N l m one.map other.map;
  fine = both_fine groups low middle high (unit_of groups c) one.fine other.fine;
}

pub whole : (groups : Groups) (c : Cells) (low high : ℕ) (K M : ℕ → ℕ) → IsMapOfRange groups c low high M → IsMapOfRange groups c low high K → IsSame M K
whole groups c low high K M one other = one_map (between low high (unit_of groups c)) M K one.map other.map

-- the greatest stamp of a range is that of its map's key
top : (groups : Groups) (c : Cells) (low high slot : ℕ) (M : ℕ → ℕ) (r : Record) → high ≤ 65536 → IsMapOfRange groups c low high M → HasHeader (between low high (unit_of groups c)) slot r
    → ((s : ℕ) (t : Record) → HasHeader (between low high (unit_of groups c)) s t → t.block ≡ r.block → stamp_of t ≤ stamp_of r) → stamp_in (M r.block) ≡ stamp_of r
top groups c low high slot M r small is h most =
    let bound = is.map.most slot r h in
    elim (some_or (M r.block)) [
      | inl none ↦ omega (arith, bound, none)
      | inr some ↦
          (let f = is.map.found r.block some in
          let less = most f.0 f.1 f.2 f.3 in
          let place = (own_place groups c low high f.0 f.1 is.fine f.2).0 in
          let inside = (within low high (unit_of groups c) f.0 f.1 f.2).1 in
          let key = f.4 in
          omega (arith, bound, less, place, inside, small, key))
    ]

-- a block that is twice in the whole range and in neither part has one stamp in both maps
module _ (groups : Groups) (c : Cells) (low middle high b p q : ℕ) (M N : ℕ → ℕ) (l : low ≤ middle) (m : middle ≤ high) (small : high ≤ 65536) (one : IsMapOfRange groups c low middle M)
    (other : IsMapOfRange groups c middle high N) (is : IsTwice (between low high (unit_of groups c)) b p q) where
  abbrev bytes : SlotUnits
  bytes = unit_of groups c

  in_first : HasHeader (between low middle bytes) p is.one → HasHeader (between low middle bytes) q is.other → IsTwice (between low middle bytes) b p q
  in_first here there = record {
    one = is.one;
    other = is.other;
    here = (here, is.here.1);
    there = (there, is.there.1);
    order = is.order;
    same = is.same;
    most = λ slot r h. is.most slot r (first_in low middle high bytes slot r m h);
    lowest = λ slot r h. is.lowest slot r (first_in low middle high bytes slot r m h);
  }

  in_second : HasHeader (between middle high bytes) p is.one → HasHeader (between middle high bytes) q is.other → IsTwice (between middle high bytes) b p q
  in_second here there = record {
    one = is.one;
    other = is.other;
    here = (here, is.here.1);
    there = (there, is.there.1);
    order = is.order;
    same = is.same;
    most = λ slot r h. is.most slot r (second_in low middle high bytes slot r l h);
    lowest = λ slot r h. is.lowest slot r (second_in low middle high bytes slot r l h);
  }

  in_both : HasHeader (between low middle bytes) p is.one → HasHeader (between middle high bytes) q is.other → (0 < M b) × (stamp_in (M b) ≡ stamp_in (N b))
  in_both here there =
      let first : stamp_in (M is.one.block) ≡ stamp_of is.one =
      top groups c low middle p M is.one (omega (arith, m, small)) one here (λ s t h e. is.most s t (first_in low middle high bytes s t m h) (e ∙ is.here.1)) in
      let second : stamp_in (N is.other.block) ≡ stamp_of is.other =
      top groups c middle high q N is.other small other there (λ s t h e. (let most = is.most s t (second_in low middle high bytes s t l h) (e ∙ is.there.1) in let equal = is.same in omega (arith, most, equal))) in
      let one_at : stamp_in (M b) ≡ stamp_of is.one = ap (λ x. stamp_in (M x)) (sym is.here.1) ∙ first in
      let other_at : stamp_in (N b) ≡ stamp_of is.other = ap (λ x. stamp_in (N x)) (sym is.there.1) ∙ second in
      let great = great_stamp (between low middle bytes) is.one.block p (stamp_of is.one) (is.one, here, refl, refl) in
      (omega (arith, one_at, great), one_at ∙ sym is.same ∙ sym other_at)

  pub never : HasNoTwice (between low middle (unit_of groups c)) → HasNoTwice (between middle high (unit_of groups c)) → ShareNoStamp M N → ⊥
  never no_first no_second apart = elim (split low middle high bytes p is.one is.here.0) [
    | inl here ↦ elim (split low middle high bytes q is.other is.there.0) [
      | inl there ↦ no_first b p q (in_first here there)
      | inr there ↦ (let both = in_both here there in apart b both.0 both.1)
    ]
    | inr here ↦ elim (split low middle high bytes q is.other is.there.0) [
      | inl there ↦ absurd (let a = (within middle high bytes p is.one here).0 in let b = (within low middle bytes q is.other there).1 in let o = is.order in omega (arith, a, b, o))
      | inr there ↦ no_second b p q (in_second here there)
    ]
  ]

pub once : (groups : Groups) (c : Cells) (low middle high : ℕ) (M N : ℕ → ℕ) → low ≤ middle → middle ≤ high → high ≤ 65536 → IsMapOfRange groups c low middle M → IsMapOfRange groups c middle high N
    → HasNoTwice (between low middle (unit_of groups c)) → HasNoTwice (between middle high (unit_of groups c)) → ShareNoStamp M N → HasNoTwice (between low high (unit_of groups c))
once groups c low middle high M N l m small one other no_first no_second apart b p q is =
    never groups c low middle high b p q M N l m small one other is no_first no_second apart

-- in any order
pub either_way : (M N : ℕ → ℕ) → IsSame (join M N) (join N M)
either_way M N b = go (M b) (N b) where
  go : (x y : ℕ) → max x y ≡ max y x
  go x y = grind (arith, nat_tests)

pub three : (K M N : ℕ → ℕ) → IsSame (join (join K M) N) (join K (join M N))
three K M N b = go (K b) (M b) (N b) where
  go : (x y z : ℕ) → max (max x y) z ≡ max x (max y z)
  go x y z = grind (arith, nat_tests)

-- a later scan of a range, over the groups at the start
pub later : (groups before : Groups) (start c : Cells) (low high : ℕ) (N : ℕ → ℕ) → before ≡ groups → Keeps groups start c → (AreSound before c → IsScanned (between low high (unit_of before c)) N)
    → (AreSound before c → AreFine before low high (unit_of before c)) → AreSound groups start → IsMapOfRange groups c low high N
later groups before start c low high N same keeps map fine sound = record {
  map = subst (λ x. AreSound x c → IsScanned (between low high (unit_of x c)) N) same map (keeps sound).1;
  fine = subst (λ x. AreSound x c → AreFine x low high (unit_of x c)) same fine (keeps sound).1;
}

pub later_fault : (groups before : Groups) (start c new : Cells) (low middle high : ℕ) (e : ScanFault) → before ≡ groups → Keeps groups start c
    → (AreSound before c → IsFirstFault before middle high (unit_of before c) (unit_of before new) e) → AreSound groups start → IsFaultOfRanges groups low middle high start new e
later_fault groups before start c new low middle high e same keeps fault sound =
    inr (c, (keeps sound).0, subst (λ x. AreSound x c → IsFirstFault x middle high (unit_of x c) (unit_of x new) e) same fault (keeps sound).1)
