use Rattle.std.proofs.Common.{sym, refl}
use Rattle.std.proofs.lemmas.Bool.{true≢false}
use Rattle.extent_groups.specs.Planned.{Intended}
use Rattle.vault.specs.Images.{Image}
use Rattle.vault.proofs.Carried.{at_start, one_more}
use Rattle.vault.proofs.LastWrites.{places_again, places_more, made_again, made_lost, made_now}
use Rattle.vault.proofs.carry.write_once.Goals as goal

pub returns-then-has-clause-written : goal.returns-then-has-clause-written
returns-then-has-clause-written g c = λ known base later are so_far all.
    let w : Intended = record { place = c.args.place; unit = c.args.unit.now } in
    let has = c.has.ensures.0 c.if-has.true in (
      places_again c.args.made.now.marks.items w later are has,
      made_again c.args.lost.now w later base (Image.cells (g.V.Vault.seen c.args.vault.now)) ((are c.args.place).0 has) so_far,
    )

pub returns-in_err-write_unit-clause-underway : goal.returns-in_err-write_unit-clause-underway
returns-in_err-write_unit-clause-underway g c = λ known among.
    one_more g.V.Vault.seen g.V.Vault.may_leave g.V.Vault.moment g.V.Vault.left_since c.args.lost.now c.args.vault.now c.args.vault.now c.write_unit.new.self c.args.place
    (at_start g.V.Vault.seen g.V.Vault.may_leave g.V.Vault.moment g.V.Vault.left_since c.args.lost.now c.args.vault.now (λ stop. g.met.V.Vault.only_now c.args.vault.now known stop)) among
    (c.write_unit.ensures.torn known) (c.write_unit.ensures.time known)

pub returns-in_ok-write_unit-clause-underway : goal.returns-in_ok-write_unit-clause-underway
returns-in_ok-write_unit-clause-underway g c = λ known among.
    one_more g.V.Vault.seen g.V.Vault.may_leave g.V.Vault.moment g.V.Vault.left_since c.args.lost.now c.args.vault.now c.args.vault.now c.write_unit.new.self c.args.place
    (at_start g.V.Vault.seen g.V.Vault.may_leave g.V.Vault.moment g.V.Vault.left_since c.args.lost.now c.args.vault.now (λ stop. g.met.V.Vault.only_now c.args.vault.now known stop)) among
    (c.write_unit.ensures.torn known) (c.write_unit.ensures.time known)

pub returns-in_ok-write_unit-clause-written : goal.returns-in_ok-write_unit-clause-written
returns-in_ok-write_unit-clause-written g c = λ known base later are so_far all.
    let w : Intended = record { place = c.args.place; unit = c.args.unit.now } in (
      places_more c.args.made.now.marks.items c.put.new.self.marks.items w later are (c.if-not-put.ensures refl),
      made_now c.args.lost.now w later base (Image.cells (g.V.Vault.seen c.args.vault.now)) (Image.cells (g.V.Vault.seen c.write_unit.new.self))
          (λ written. true≢false (sym (c.if-has.ensures.1 ((are c.args.place).1 written)))) so_far (λ x live. (c.in_ok-write_unit.ensures.written known).cells x),
    )

pub returns-else-not-is_lost-clause-written : goal.returns-else-not-is_lost-clause-written
returns-else-not-is_lost-clause-written g c = λ known base later are so_far all.
    let w : Intended = record { place = c.args.place; unit = c.args.unit.now } in (
      places_more c.args.made.now.marks.items c.put.new.self.marks.items w later are (c.if-not-put.ensures refl),
      made_lost c.args.lost.now w later base (Image.cells (g.V.Vault.seen c.args.vault.now)) (sym c.if-not-is_lost.ensures) so_far,
    )
