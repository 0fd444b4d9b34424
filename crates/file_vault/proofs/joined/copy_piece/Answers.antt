use Rattle.std.proofs.Common.{◌≡◌, ◌≤◌, ◌<◌, ◌+◌, ◌∙◌, ℕ, sym, ap, subst, length}
use Rattle.std.specs.Cmp.Lexicographic.{same_text}
use Rattle.file_vault.specs.Folders.{Folder, Reads}
use Rattle.file_vault.specs.Twins.{file_of, copied_at, CopiedOver}
use Rattle.file_vault.proofs.Puts.{one_elapse, both_elapse}
use Rattle.file_vault.proofs.Copied.{not_err, copied_still, copied_mixed, copied_done, same_done}
use Rattle.file_vault.proofs.joined.copy_piece.Goals as goal

pub returns-then-is_err-clause-time : goal.returns-then-is_err-clause-time
returns-then-is_err-clause-time g c = λ known stop.
    one_elapse _ _ _ _ _ _ (copied_at c.args.lead (g.F.Files.seen c.args.files.now) (g.F.Files.may_leave c.args.files.now stop)) (c.read_at.ensures.time known stop) (λ h now. (h, now, copied_still _ _ h))

pub returns-then-is_err-2-clause-time : goal.returns-then-is_err-2-clause-time
returns-then-is_err-2-clause-time g c = λ known stop.
    let first = c.read_at.ensures.time known stop in
    both_elapse _ _ _ _ _ _ _ _ _ _ (copied_at c.args.lead (g.F.Files.seen c.args.files.now) (g.F.Files.may_leave c.args.files.now stop)) first (c.read_at-2.ensures.time (c.read_at.ensures.stays known) stop)
    (λ h now. (h, now, copied_still _ _ h)) (λ h now. (h, first.ends h now, copied_still _ _ h))

pub returns-then-eq-clause-done : goal.returns-then-eq-clause-done
returns-then-eq-clause-done g c = λ known.
    let k1 = c.read_at.ensures.stays known in
    let reads = not_err c.read_at.result _ (c.read_at.ensures.bytes known) (sym c.is_err.ensures.value ∙ c.if-is_err.false) in
    let theirs = not_err c.read_at-2.result _ (c.read_at-2.ensures.bytes k1) (sym c.is_err-2.ensures.value ∙ c.if-is_err-2.false) in
    subst (λ n. (k : ℕ) → c.args.at ≤ k → k < c.args.at + length c.args.ours.now → g.F.Files.seen c.read_at-2.new.self n k ≡ g.F.Files.seen c.args.files.now (file_of c.args.lead) k) (c.number-mate.ensures ∙ ap file_of c.other.ensures)
    (subst (λ (f : Folder). (k : ℕ) → c.args.at ≤ k → k < c.args.at + length c.args.ours.now → f c.number-mate.result k ≡ g.F.Files.seen c.args.files.now (file_of c.args.lead) k) (sym (c.read_at-2.ensures.seen k1))
    (same_done (g.F.Files.seen c.args.files.now (file_of c.args.lead)) (g.F.Files.seen c.read_at.new.self c.number-mate.result) c.args.at (length c.args.ours.now) c.read_at.new.out c.read_at-2.new.out (sym c.read_at.auto.out)
    (same_text c.read_at.new.out c.read_at-2.new.out (sym c.if-eq.true ∙ c.eq.ensures)) (subst (λ n. Reads (g.F.Files.seen c.args.files.now n) c.args.at c.read_at.new.out) c.number.ensures reads) theirs))

pub returns-then-eq-clause-time : goal.returns-then-eq-clause-time
returns-then-eq-clause-time g c = λ known stop.
    let first = c.read_at.ensures.time known stop in
    both_elapse _ _ _ _ _ _ _ _ _ _ (copied_at c.args.lead (g.F.Files.seen c.args.files.now) (g.F.Files.may_leave c.args.files.now stop)) first (c.read_at-2.ensures.time (c.read_at.ensures.stays known) stop)
    (λ h now. (h, now, copied_still _ _ h)) (λ h now. (h, first.ends h now, copied_still _ _ h))

-- the bytes that were read of the other file
pub returns-in-Ok-clause-seen : goal.returns-in-Ok-clause-seen
returns-in-Ok-clause-seen g c = λ known.
    let k1 = c.read_at.ensures.stays known in
    let same = c.read_at-2.ensures.seen k1 ∙ c.read_at.ensures.seen known in
    let reads = not_err c.read_at.result _ (c.read_at.ensures.bytes known) (sym c.is_err.ensures.value ∙ c.if-is_err.false) in
    subst (λ (f : Folder). CopiedOver c.args.lead (g.F.Files.seen c.args.files.now) f (g.F.Files.seen c.write_at.new.self)) same
    (copied_mixed c.args.lead c.number-mate.result c.args.at c.read_at.new.out (g.F.Files.seen c.args.files.now) (g.F.Files.seen c.read_at-2.new.self) (g.F.Files.seen c.write_at.new.self) (c.number-mate.ensures ∙ ap file_of c.other.ensures) c.requires.0
    (λ j low. reads j low ∙ ap (λ n. g.F.Files.seen c.args.files.now n (c.args.at + j)) c.number.ensures) (c.write_at.ensures.mixed (c.read_at-2.ensures.stays k1)))

pub returns-in-Ok-clause-done : goal.returns-in-Ok-clause-done
returns-in-Ok-clause-done g c = λ known.
    let k1 = c.read_at.ensures.stays known in
    let reads = not_err c.read_at.result _ (c.read_at.ensures.bytes known) (sym c.is_err.ensures.value ∙ c.if-is_err.false) in
    copied_done c.args.lead c.number-mate.result c.args.at (length c.args.ours.now) c.read_at.new.out (g.F.Files.seen c.args.files.now) (g.F.Files.seen c.read_at-2.new.self) (g.F.Files.seen c.write_at.new.self) (c.number-mate.ensures ∙ ap file_of c.other.ensures)
    (sym c.read_at.auto.out)
    (λ j low. reads j low ∙ ap (λ n. g.F.Files.seen c.args.files.now n (c.args.at + j)) c.number.ensures) (c.in-Ok.ensures.wrote (c.read_at-2.ensures.stays k1))

pub returns-in-Ok-clause-time : goal.returns-in-Ok-clause-time
returns-in-Ok-clause-time g c = λ known stop.
    let k1 = c.read_at.ensures.stays known in
    let one = c.read_at.ensures.time known stop in
    let two = c.read_at-2.ensures.time k1 stop in
    let reads = not_err c.read_at.result _ (c.read_at.ensures.bytes known) (sym c.is_err.ensures.value ∙ c.if-is_err.false) in
    let before = both_elapse _ _ _ _ _ _ _ _ _ _ _ one two (λ h d. d) (λ h there. one.ends h there) in
    both_elapse _ _ _ _ _ _ _ _ _ _ (copied_at c.args.lead (g.F.Files.seen c.args.files.now) (g.F.Files.may_leave c.args.files.now stop)) before (c.write_at.ensures.time (c.read_at-2.ensures.stays k1) stop)
    (λ h now. (h, now, copied_still _ _ h))
    (λ h from. (
      from.0,
      before.ends from.0 from.1,
      copied_mixed c.args.lead c.number-mate.result c.args.at c.read_at.new.out (g.F.Files.seen c.args.files.now) from.0 h (c.number-mate.ensures ∙ ap file_of c.other.ensures) c.requires.0
          (λ j low. reads j low ∙ ap (λ n. g.F.Files.seen c.args.files.now n (c.args.at + j)) c.number.ensures) from.2,
    ))

pub returns-in-Err-clause-seen : goal.returns-in-Err-clause-seen
returns-in-Err-clause-seen g c = λ known.
    let k1 = c.read_at.ensures.stays known in
    let same = c.read_at-2.ensures.seen k1 ∙ c.read_at.ensures.seen known in
    let reads = not_err c.read_at.result _ (c.read_at.ensures.bytes known) (sym c.is_err.ensures.value ∙ c.if-is_err.false) in
    subst (λ (f : Folder). CopiedOver c.args.lead (g.F.Files.seen c.args.files.now) f (g.F.Files.seen c.write_at.new.self)) same
    (copied_mixed c.args.lead c.number-mate.result c.args.at c.read_at.new.out (g.F.Files.seen c.args.files.now) (g.F.Files.seen c.read_at-2.new.self) (g.F.Files.seen c.write_at.new.self) (c.number-mate.ensures ∙ ap file_of c.other.ensures) c.requires.0
    (λ j low. reads j low ∙ ap (λ n. g.F.Files.seen c.args.files.now n (c.args.at + j)) c.number.ensures) (c.write_at.ensures.mixed (c.read_at-2.ensures.stays k1)))

pub returns-in-Err-clause-time : goal.returns-in-Err-clause-time
returns-in-Err-clause-time g c = λ known stop.
    let k1 = c.read_at.ensures.stays known in
    let one = c.read_at.ensures.time known stop in
    let two = c.read_at-2.ensures.time k1 stop in
    let reads = not_err c.read_at.result _ (c.read_at.ensures.bytes known) (sym c.is_err.ensures.value ∙ c.if-is_err.false) in
    let before = both_elapse _ _ _ _ _ _ _ _ _ _ _ one two (λ h d. d) (λ h there. one.ends h there) in
    both_elapse _ _ _ _ _ _ _ _ _ _ (copied_at c.args.lead (g.F.Files.seen c.args.files.now) (g.F.Files.may_leave c.args.files.now stop)) before (c.write_at.ensures.time (c.read_at-2.ensures.stays k1) stop)
    (λ h now. (h, now, copied_still _ _ h))
    (λ h from. (
      from.0,
      before.ends from.0 from.1,
      copied_mixed c.args.lead c.number-mate.result c.args.at c.read_at.new.out (g.F.Files.seen c.args.files.now) from.0 h (c.number-mate.ensures ∙ ap file_of c.other.ensures) c.requires.0
          (λ j low. reads j low ∙ ap (λ n. g.F.Files.seen c.args.files.now n (c.args.at + j)) c.number.ensures) from.2,
    ))
