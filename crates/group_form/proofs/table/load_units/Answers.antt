use Rattle.std.proofs.Common.{◌≡◌, ◌+◌, slice_get, ◌∷◌, [], ℕ, suc, Option, Some, List, length, length-append, sym, ◌∙◌, ap, subst, arith}
use Rattle.std.specs.Prelude.{is_some, IfSome}
use Rattle.std.proofs.lemmas.Option.{none-some}
use Rattle.vault.specs.Images.{Image}
use Rattle.group_form.specs.Reading.{AreKnownOf}
use Rattle.group_form.proofs.Reading.{last_later, read_more, read_none, units_add}
use Rattle.group_form.proofs.table.load_units.Goals as goal

pub loop-index-init : goal.loop-index-init
loop-index-init g c = record {
  stays = λ known. known;
  read = λ known. read_none g.V.Vault.seen g.V.Vault.may_leave g.V.Vault.moment g.V.Vault.left_since c.args.vault.now;
  many = ap length c.new-units.ensures.items;
  attests = λ known x is. is;
  units = λ known written last. record {
    each = λ u x e. absurd (none-some (Some x) (subst (λ (l : List (Option (List ℕ))). slice_get l u ≡ Some (Some x)) c.new-units.ensures.items e));
    there = λ u o e. absurd (none-some o (subst (λ (l : List (Option (List ℕ))). slice_get l u ≡ Some o) c.new-units.ensures.items e));
  };
}

pub returns-in_err-unit-clause-read : goal.returns-in_err-unit-clause-read
returns-in_err-unit-clause-read g c = λ known.
    read_more g.V.Vault.seen g.V.Vault.may_leave g.V.Vault.moment g.V.Vault.left_since c.args.vault.now c.loop-index.vault c.load_unit.new.vault (c.loop-index.invariant.read known) (c.load_unit.ensures.read (c.loop-index.invariant.stays known))

pub returns-in_err-push-clause-read : goal.returns-in_err-push-clause-read
returns-in_err-push-clause-read g c = λ known.
    read_more g.V.Vault.seen g.V.Vault.may_leave g.V.Vault.moment g.V.Vault.left_since c.args.vault.now c.loop-index.vault c.load_unit.new.vault (c.loop-index.invariant.read known) (c.load_unit.ensures.read (c.loop-index.invariant.stays known))

pub loop-index-preserved : goal.loop-index-preserved
loop-index-preserved g c =
    let inv = c.loop-index.invariant in
    let units = c.loop-index.units.items in
    let unit = c.in_ok-unit.unit in
    let items = c.in_ok-push.ensures.items in
    record {
      stays = λ known. c.load_unit.ensures.stays (inv.stays known);
      read = λ known.
          read_more g.V.Vault.seen g.V.Vault.may_leave g.V.Vault.moment g.V.Vault.left_since c.args.vault.now c.loop-index.vault c.load_unit.new.vault (inv.read known) (c.load_unit.ensures.read (inv.stays known));
      many = ap length items ∙ length-append units (unit ∷ []) ∙ ap (λ n. n + 1) inv.many;
      attests = λ known x is. inv.attests known x (c.load_unit.ensures.attests (inv.stays known) x is);
      units = λ known written last.
          let spot = ap (λ n. written 16 (suc n)) inv.many in
          let one = last_later (g.V.Vault.attested c.args.vault.now) (g.V.Vault.attested c.loop-index.vault) written (g.V.Vault.seen c.args.vault.now) (g.V.Vault.seen c.loop-index.vault)
          (record { drive = 16; address = suc c.loop-index.index }) (inv.attests known) (inv.read known).finds (last c.loop-index.index (omega (arith, c.loop-index-test.true))) in
          subst (λ (l : List (Option (List ℕ))). AreKnownOf l written) (sym items)
          (units_add units written unit
          (subst (λ o. IfSome unit (λ x. o ≡ Some x)) (sym spot) (c.in_ok-unit.ensures.unit (inv.stays known) written one))
          (ap is_some spot ∙ c.in_ok-unit.ensures.there (inv.stays known) written one)
          (inv.units known written last));
    }
