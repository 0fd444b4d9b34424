use Rattle.std.proofs.Common.{◌≡◌, ◌++◌, take, ℕ, List, length, refl, sym, ◌∙◌, ap, subst}
use Rattle.std.proofs.Math.Seq.{take-append_seam}
use Rattle.file_vault.specs.Folders.{Folder, Reads}
use Rattle.file_vault.specs.Vaults.{plan_of}
use Rattle.file_vault.proofs.Units.{attested_seen, spot_of, opened_sized, other_length}
use Rattle.file_vault.proofs.Lifts.{lifted, known_on}
use Rattle.file_vault.proofs.over_files.FileVaultVault.read_unit.Goals as goal

-- bytes that were written over all of others
written_over : (n : ℕ) (xs ys : List ℕ) → length xs ≡ n → take n (xs ++ ys) ≡ xs
written_over n xs ys long = ap (λ m. take m (xs ++ ys)) (sym long) ∙ take-append_seam xs ys

pub returns-then-size-out-clause-found : goal.returns-then-size-out-clause-found
returns-then-size-out-clause-found g c = λ known.
    other_length (plan_of c.args.self.now.layout) (g.F.Files.seen c.args.self.now.files) c.args.place c.args.out.now (λ e. c.if-size-out.true (c.in-Some.ensures.size ∙ sym e))

pub returns-in-Ok-clause-stays : goal.returns-in-Ok-clause-stays
returns-in-Ok-clause-stays g c = λ known.
    let is = known.files_known in
    known_on _ _ _ _ c.args.self.now.files c.read_at.new.self _ _ _ _ known (c.read_at.ensures.stays is) ((c.read_at.ensures.cause is).later)
    (ap (λ (f : Folder). f 17) (c.read_at.ensures.seen is)) (λ stop h now. (h, (c.read_at.ensures.time is stop).ends h now, refl))

pub returns-in-Ok-clause-found : goal.returns-in-Ok-clause-found
returns-in-Ok-clause-found g c = λ known.
    let as_long : length c.read_at.new.out ≡ c.make_room.new.bytes.len = c.read_at.auto.out ∙ c.deref_mut.ensures.len in
    let same : c.deref.result.now ≡ c.read_at.new.out = c.deref.ensures.value ∙ written_over c.make_room.new.bytes.len c.read_at.new.out _ as_long in
    (opened_sized (plan_of c.args.self.now.layout) (g.F.Files.seen c.args.self.now.files) c.args.place c.deref.result.now c.in-Some.ensures.there.1
    (ap length same ∙ as_long ∙ c.make_room.new.bytes.ok.0 ∙ c.in_ok-offset.ensures.long)
    (subst (λ (b : List ℕ). Reads (g.F.Files.seen c.args.self.now.files c.args.place.drive) (spot_of (plan_of c.args.self.now.layout) c.args.place) b) (sym same)
    (subst (λ n. Reads (g.F.Files.seen c.args.self.now.files c.args.place.drive) n c.read_at.new.out) c.in_ok-offset.ensures.at (c.in-Ok.ensures.bytes known.files_known)))
    (length c.args.out.now) (sym c.if-size-out.false ∙ c.in-Some.ensures.size) c.unseal.new.out c.unseal.result c.unseal.ensures.unit c.unseal.ensures.read).0

pub returns-in-Ok-clause-attested : goal.returns-in-Ok-clause-attested
returns-in-Ok-clause-attested g c = λ known.
    let as_long : length c.read_at.new.out ≡ c.make_room.new.bytes.len = c.read_at.auto.out ∙ c.deref_mut.ensures.len in
    let same : c.deref.result.now ≡ c.read_at.new.out = c.deref.ensures.value ∙ written_over c.make_room.new.bytes.len c.read_at.new.out _ as_long in
    (opened_sized (plan_of c.args.self.now.layout) (g.F.Files.seen c.args.self.now.files) c.args.place c.deref.result.now c.in-Some.ensures.there.1
    (ap length same ∙ as_long ∙ c.make_room.new.bytes.ok.0 ∙ c.in_ok-offset.ensures.long)
    (subst (λ (b : List ℕ). Reads (g.F.Files.seen c.args.self.now.files c.args.place.drive) (spot_of (plan_of c.args.self.now.layout) c.args.place) b) (sym same)
    (subst (λ n. Reads (g.F.Files.seen c.args.self.now.files c.args.place.drive) n c.read_at.new.out) c.in_ok-offset.ensures.at (c.in-Ok.ensures.bytes known.files_known)))
    (length c.args.out.now) (sym c.if-size-out.false ∙ c.in-Some.ensures.size) c.unseal.new.out c.unseal.result c.unseal.ensures.unit c.unseal.ensures.read).1

pub returns-in-Ok-clause-attests : goal.returns-in-Ok-clause-attests
returns-in-Ok-clause-attests g c = λ known. attested_seen (plan_of c.args.self.now.layout) (g.F.Files.seen c.args.self.now.files) (g.F.Files.seen c.read_at.new.self) (c.read_at.ensures.seen known.files_known)

pub returns-in-Err-clause-attests : goal.returns-in-Err-clause-attests
returns-in-Err-clause-attests g c = λ known. attested_seen (plan_of c.args.self.now.layout) (g.F.Files.seen c.args.self.now.files) (g.F.Files.seen c.read_at.new.self) (c.read_at.ensures.seen known.files_known)

pub returns-in-Ok-clause-lasts : goal.returns-in-Ok-clause-lasts
returns-in-Ok-clause-lasts g c = λ known. attested_seen (plan_of c.args.self.now.layout) (g.F.Files.seen c.read_at.new.self) (g.F.Files.seen c.args.self.now.files) (sym (c.read_at.ensures.seen known.files_known))

pub returns-in-Err-clause-lasts : goal.returns-in-Err-clause-lasts
returns-in-Err-clause-lasts g c = λ known. attested_seen (plan_of c.args.self.now.layout) (g.F.Files.seen c.read_at.new.self) (g.F.Files.seen c.args.self.now.files) (sym (c.read_at.ensures.seen known.files_known))

pub returns-in-Ok-clause-time : goal.returns-in-Ok-clause-time
returns-in-Ok-clause-time g c = λ known stop. lifted (plan_of c.args.self.now.layout) _ _ _ _ _ _ _ (c.read_at.ensures.time known.files_known stop) (λ h was. (h, was, refl))

pub returns-in-Err-clause-stays : goal.returns-in-Err-clause-stays
returns-in-Err-clause-stays g c = λ known.
    let is = known.files_known in
    known_on _ _ _ _ c.args.self.now.files c.read_at.new.self _ _ _ _ known (c.read_at.ensures.stays is) ((c.read_at.ensures.cause is).later)
    (ap (λ (f : Folder). f 17) (c.read_at.ensures.seen is)) (λ stop h now. (h, (c.read_at.ensures.time is stop).ends h now, refl))

pub returns-in-Err-clause-time : goal.returns-in-Err-clause-time
returns-in-Err-clause-time g c = λ known stop. lifted (plan_of c.args.self.now.layout) _ _ _ _ _ _ _ (c.read_at.ensures.time known.files_known stop) (λ h was. (h, was, refl))
