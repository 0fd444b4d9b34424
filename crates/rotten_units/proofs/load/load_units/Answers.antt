use Rattle.std.proofs.Common.{◌+◌, ◌*◌, ◌∷◌, ◌∙◌, [], inl, inr, List, length, length-append, sym, ap, subst, arith}
use Rattle.extents.specs.Condition.{Held}
use Rattle.extents.specs.Sizes.{extent_units}
use Rattle.extents.specs.declared.shape.TheConstants.{HEADER_BYTES}
use Rattle.vault.specs.Images.{Image, is_lost}
use Rattle.vault.specs.Marks.{Has}
use Rattle.rotten_units.specs.Loaded.{AreFormed, AreReadOrNoted, IsReadOrNoted}
use Rattle.rotten_units.proofs.Loading.{at, drive_more, formed_more}
use Rattle.rotten_units.proofs.Reading.{read_more, same_more}
use Rattle.rotten_units.proofs.load.load_units.Goals as goal

pub returns-in_err-cache-clause-read : goal.returns-in_err-cache-clause-read
returns-in_err-cache-clause-read g c = λ known.
    read_more g.V.Vault.seen g.V.Vault.may_leave g.V.Vault.moment g.V.Vault.left_since c.args.vault.now c.loop-drive.vault c.load.new.vault (c.loop-drive.invariant.read known)
    (c.load.ensures.read (c.loop-drive.invariant.stays known))

pub returns-in_err-cache-clause-attests : goal.returns-in_err-cache-clause-attests
returns-in_err-cache-clause-attests g c = λ known.
    same_more g.V.Vault.attested c.args.vault.now c.loop-drive.vault c.load.new.vault (c.loop-drive.invariant.attests known) (c.load.ensures.attests (c.loop-drive.invariant.stays known))

pub returns-in_err-push-clause-read : goal.returns-in_err-push-clause-read
returns-in_err-push-clause-read g c = λ known.
    read_more g.V.Vault.seen g.V.Vault.may_leave g.V.Vault.moment g.V.Vault.left_since c.args.vault.now c.loop-drive.vault c.load.new.vault (c.loop-drive.invariant.read known)
    (c.load.ensures.read (c.loop-drive.invariant.stays known))

pub returns-in_err-push-clause-attests : goal.returns-in_err-push-clause-attests
returns-in_err-push-clause-attests g c = λ known.
    same_more g.V.Vault.attested c.args.vault.now c.loop-drive.vault c.load.new.vault (c.loop-drive.invariant.attests known) (c.load.ensures.attests (c.loop-drive.invariant.stays known))

pub loop-drive-preserved : goal.loop-drive-preserved
loop-drive-preserved g c =
    let inv = c.loop-drive.invariant in
    let caches = c.loop-drive.caches.items in
    let cache : Held = c.in_ok-cache.cache in
    let reported = c.in_ok-cache.ensures in
    let items = c.in_ok-push.ensures.items in
    let count = c.args.shape.now.extents * extent_units c.args.shape.now.segments in
    let size = HEADER_BYTES + c.args.shape.now.payload in
    record {
      stays = λ known. c.load.ensures.stays (inv.stays known);
      read = λ known.
          read_more g.V.Vault.seen g.V.Vault.may_leave g.V.Vault.moment g.V.Vault.left_since c.args.vault.now c.loop-drive.vault c.load.new.vault (inv.read known)
          (c.load.ensures.read (inv.stays known));
      attests = λ known. same_more g.V.Vault.attested c.args.vault.now c.loop-drive.vault c.load.new.vault (inv.attests known) (c.load.ensures.attests (inv.stays known));
      long = c.load.auto.unit ∙ inv.long;
      many = ap length items ∙ length-append caches (cache ∷ []) ∙ ap (λ n. n + 1) inv.many;
      formed = subst (λ (l : List Held). AreFormed count size l) (sym items) (formed_more count size caches cache inv.formed reported.present reported.many reported.size);
      inside = λ x n. elim (reported.inside x n) [
        | inl was ↦ (let low = (inv.inside x was).0 in omega (arith, low), (inv.inside x was).1)
        | inr is ↦ (let last = is.0 in omega (arith, last), is.1)
      ];
      rotten = λ known x n. elim (reported.rotten (inv.stays known) x n) [ inl was ↦ inv.rotten known x was | inr out ↦ λ a. out ((inv.attests known x).1 a) ];
      found = λ known.
          let cells = Image.cells (g.V.Vault.seen c.args.vault.now) in
          let noted = Has c.load.new.rotten.marks.items in
          subst (λ (l : List Held). AreReadOrNoted noted (g.V.Vault.attested c.args.vault.now) c.args.lost.now cells l) (sym items)
          (drive_more (Has c.loop-drive.rotten.marks.items) noted (g.V.Vault.attested c.args.vault.now) (g.V.Vault.attested c.loop-drive.vault) c.args.lost.now cells caches cache reported.kept
          (λ x m. (inv.attests known x).0 m) (inv.found known)
          (λ not k low.
          subst (λ d. IsReadOrNoted noted (g.V.Vault.attested c.loop-drive.vault) cells (at d k) cache.units) (sym inv.many)
          (subst (λ (s : Image). IsReadOrNoted noted (g.V.Vault.attested c.loop-drive.vault) (Image.cells s) (at c.loop-drive.drive k) cache.units) (inv.read known).finds
          (reported.found (inv.stays known) (c.is_lost-is_lost.ensures ∙ ap (is_lost c.args.lost.now) (c.from.ensures ∙ sym inv.many) ∙ not) k low))));
    }

pub returns-clause-inside : goal.returns-clause-inside
returns-clause-inside g c = λ x n. let is = c.loop-drive.invariant.inside x n in (let low = is.0 in omega (arith, low, c.loop-drive.auto.drive-end), is.1)
