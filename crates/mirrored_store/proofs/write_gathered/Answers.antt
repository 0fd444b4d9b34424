use Rattle.std.proofs.Common.{◌≡◌, Bool, true, false, ◌||◌, Option, None, List, ℕ, length, ◌+◌, ◌++◌, [], ◌∷◌, inl, inr, refl, sym, subst, ap, ◌∙◌, rules}
use Rattle.std.proofs.lemmas.List.{length-append}
use Rattle.extent_groups.specs.Calls.{AreSized, KeepsDrives, if_ok}
use Rattle.extent_groups.specs.Cells.{cells}
use Rattle.extent_groups.specs.Planned.{WroteByPlan, present}
use Rattle.extent_groups.specs.Stores.{AreDrives, IsOwn}
use Rattle.extent_groups.specs.Units.{Pair, or_else, unit_at}
use Rattle.extent_groups.proofs.Sites.{site_places}
use Rattle.extent_groups.proofs.SlotWrites.{AreSizedCells, pair_leaves}
use Rattle.extent_groups.proofs.StoreCalls.{site_wrote, site_whole, sized_cells, drives_kept}
use Rattle.extent_groups.proofs.DriveCalls.{keeps_trans, keeps_more}
use Rattle.extent_groups.proofs.LayoutLaw.{layout_law}
use Rattle.extent_groups.proofs.Listing.{pair_plan, pair_written}
use Rattle.mirrored_store.proofs.write_gathered.Given as given
use Rattle.mirrored_store.proofs.write_gathered.Goals as goal
use Rattle.mirrored_store.proofs.write_gathered.Goals.{After-write_gathered-one, After-write_gathered-two}

-- both copies, as far as they were written
either : (a b : Bool) (u : List ℕ) (x y : Option (List ℕ)) → x ≡ if_ok a u → y ≡ if_ok b u → or_else x y ≡ if_ok (a || b) u
either true b u x y ex ey = ap (λ z. or_else z y) ex
either false b u x y ex ey = ap (λ z. or_else z y) ex ∙ ey

-- where one of two copies was written, one of them was there
there : (a b : Bool) (x y : Option (List ℕ)) → (a ≡ true → x ≡ None → ⊥) → (b ≡ true → y ≡ None → ⊥) → (a || b) ≡ true → ((x ≡ None) × (y ≡ None)) → ⊥
there true b x y one two ok none = one refl none.0
there false b x y one two ok none = two ok none.1

pub write_gathered-one-requires-clause-place : goal.write_gathered-one-requires-clause-place
write_gathered-one-requires-clause-place g c = site_places _ _ _ c.args.slot _ c.pair_of.ensures.groups c.requires.drives c.pair_of.ensures.site _ (inl refl)

pub write_gathered-one-requires-clause-inside : goal.write_gathered-one-requires-clause-inside
write_gathered-one-requires-clause-inside g c = (write_gathered-one-requires-clause-place g c).inside

-- the drives between the two writes
between : (g : given.Over) (c : After-write_gathered-one g) → AreDrives g.D.Drive.units c.args.groups.now c.write_gathered-one.new.drives
between g c = drives_kept _ c.write_gathered-one.ensures.drives c.requires.drives

pub write_gathered-two-requires-clause-place : goal.write_gathered-two-requires-clause-place
write_gathered-two-requires-clause-place g c =
    site_places _ _ _ c.args.slot _ c.pair_of.ensures.groups (between g (goal.at.write_gathered-two-requires-clause-place g c).After-write_gathered-one) c.pair_of.ensures.site _ (inr refl)

pub write_gathered-two-requires-clause-inside : goal.write_gathered-two-requires-clause-inside
write_gathered-two-requires-clause-inside g c = (write_gathered-two-requires-clause-place g c).inside

pub write_gathered-two-requires-clause-size : goal.write_gathered-two-requires-clause-size
write_gathered-two-requires-clause-size g c =
    subst (λ n. AreSized g.D.Drive.units n c.write_gathered-one.new.drives) (sym c.requires.pieces) (between g (goal.at.write_gathered-two-requires-clause-size g c).After-write_gathered-one).sized

pub write_gathered-two-requires-clause-scratch : goal.write_gathered-two-requires-clause-scratch
write_gathered-two-requires-clause-scratch g c =
    subst (λ n. AreSized g.D.Drive.units n c.write_gathered-one.new.drives) (sym (c.write_gathered-one.auto.scratch ∙ c.requires.scratch))
    (between g (goal.at.write_gathered-two-requires-clause-scratch g c).After-write_gathered-one).sized

-- the unit that the pair has then
unit : (g : given.Over) (c : After-write_gathered-two g)
    → unit_at (length c.args.front.now + length c.args.rest.now) (cells g.D.Drive.units g.D.Drive.lost c.write_gathered-two.new.drives) (Pair c.pair_of.result.0 c.pair_of.result.1)
    ≡ if_ok (c.write_gathered-one.result || c.write_gathered-two.result) (c.args.front.now ++ c.args.rest.now)
unit g c =
    either c.write_gathered-one.result c.write_gathered-two.result _ _ _
    (c.write_gathered-two.ensures.written.elsewhere c.pair_of.result.0 (site_whole _ c.args.slot _ c.pair_of.ensures.groups c.pair_of.ensures.site) ∙ c.write_gathered-one.ensures.written.here)
    c.write_gathered-two.ensures.written.here

touched : (g : given.Over) (c : After-write_gathered-two g)
    → KeepsDrives g.D.Drive.units g.D.Drive.lost g.D.Drive.failures (IsOwn (Pair c.pair_of.result.0 c.pair_of.result.1)) c.args.drives.now c.write_gathered-two.new.drives
touched g c = keeps_trans (keeps_more (λ x e. inl e) c.write_gathered-one.ensures.drives) (keeps_more (λ x e. inr e) c.write_gathered-two.ensures.drives)

pub returns-clause-wrote : goal.returns-clause-wrote
returns-clause-wrote g c =
    let now = (goal.at.returns-clause-wrote g c).After-write_gathered-two in
    let whole = site_whole _ c.args.slot _ c.pair_of.ensures.groups c.pair_of.ensures.site in
    site_wrote g.D.Drive.units g.D.Drive.lost c.args.groups.now c.args.slot _ (length c.args.front.now + length c.args.rest.now) c.args.drives.now _ (c.args.front.now ++ c.args.rest.now)
    (c.write_gathered-one.result || c.write_gathered-two.result) c.pair_of.ensures.groups c.pair_of.ensures.site c.requires.pieces (unit g now)
    (λ _. pair_leaves _ _ _ _ _ _ _ c.write_gathered-one.result c.write_gathered-two.result whole
    (subst (λ n. AreSizedCells n (cells g.D.Drive.units g.D.Drive.lost c.args.drives.now)) (sym c.requires.pieces) (sized_cells g.D.Drive.units g.D.Drive.lost _ _ c.requires.drives))
    c.write_gathered-one.ensures.written c.write_gathered-two.ensures.written)

pub returns-clause-touched : goal.returns-clause-touched
returns-clause-touched g c = keeps_more (λ x own. (_, c.pair_of.ensures.site, own)) (touched g (goal.at.returns-clause-touched g c).After-write_gathered-two)

pub returns-clause-drives : goal.returns-clause-drives
returns-clause-drives g c = drives_kept _ (touched g (goal.at.returns-clause-drives g c).After-write_gathered-two) c.requires.drives

pub returns-clause-ok : goal.returns-clause-ok
returns-clause-ok g c = let is = unit g (goal.at.returns-clause-ok g c).After-write_gathered-two in search (rules, is)

-- a copy was written: the plan is that of both, as far as they were there before
carried : (g : given.Over) (c : After-write_gathered-two g) → (c.write_gathered-one.result || c.write_gathered-two.result) ≡ true
    → WroteByPlan c.args.groups.now (cells g.D.Drive.units g.D.Drive.lost c.args.drives.now) (cells g.D.Drive.units g.D.Drive.lost c.write_gathered-two.new.drives) c.args.slot (c.args.front.now ++ c.args.rest.now)
carried g c ok =
    let all = cells g.D.Drive.units g.D.Drive.lost c.args.drives.now in
    let unit = c.args.front.now ++ c.args.rest.now in
    let whole = site_whole _ c.args.slot _ c.pair_of.ensures.groups c.pair_of.ensures.site in
    let one = c.write_gathered-one.ensures.written in
    let two = c.write_gathered-two.ensures.written in record {
      mid = all;
      expected = λ place. unit;
      writes = present all (λ place. unit) (c.pair_of.result.0 ∷ c.pair_of.result.1 ∷ []);
      read = λ x. inl refl;
      plan = pair_plan c.args.groups.now all c.args.slot _ _ unit (layout_law _ c.pair_of.ensures.groups) c.pair_of.ensures.site (sized_cells g.D.Drive.units g.D.Drive.lost _ _ c.requires.drives)
          whole (length-append c.args.front.now c.args.rest.now ∙ c.requires.pieces)
          (there c.write_gathered-one.result c.write_gathered-two.result _ _ one.was (λ t none. two.was t (one.elsewhere c.pair_of.result.1 (λ e. whole (sym e)) ∙ none)) ok);
      written = pair_written _ _ _ _ _ unit _ _ whole one two;
    }

pub returns-clause-planned : goal.returns-clause-planned
returns-clause-planned g c = let done = carried g (goal.at.returns-clause-planned g c).After-write_gathered-two in search (rules, done)
