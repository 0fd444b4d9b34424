use Rattle.std.proofs.Common.{◌≡◌, sym, ◌∙◌, ap, subst, arith, not, [], ◌∷◌}
use Rattle.std.proofs.lemmas.Result.{on_ok_weaker}
use Rattle.std.specs.Int.{w64, to_le_bytes}
use Rattle.vault.specs.Moments.{Within}
use Rattle.file_vault.specs.Folders.{Folder, Wrote, mixed_at}
use Rattle.file_vault.specs.Twins.{which_in, counted_at}
use Rattle.file_vault.proofs.Puts.{one_elapse, both_elapse}
use Rattle.file_vault.proofs.Counted.{count_made, number_made, counted_first, counted_number, counted_mark}
use Rattle.file_vault.proofs.twin.put_count.Goals as goal

pub returns-in_err-sync-clause-time : goal.returns-in_err-sync-clause-time
returns-in_err-sync-clause-time g c = λ known stop. one_elapse _ _ _ _ _ _ _ (c.sync.ensures.time known stop) (counted_first c.args.number c.args.count (g.F.Files.may_leave c.args.files.now stop))

pub returns-in_err-second-clause-time : goal.returns-in_err-second-clause-time
returns-in_err-second-clause-time g c = λ known stop.
    let first = c.sync.ensures.time known stop in
    let to = counted_first c.args.number c.args.count (g.F.Files.may_leave c.args.files.now stop) in
    both_elapse _ _ _ _ _ _ _ _ _ _ _ first (c.read_which.ensures.time (c.sync.ensures.stays known) stop) to (λ h there. to h (first.ends h there))

pub returns-in_err-put_number-clause-time : goal.returns-in_err-put_number-clause-time
returns-in_err-put_number-clause-time g c = λ known stop.
    let k1 = c.sync.ensures.stays known in
    let k2 = c.read_which.ensures.stays k1 in
    let first = c.sync.ensures.time known stop in
    let second = c.read_which.ensures.time k1 stop in
    let to = counted_first c.args.number c.args.count (g.F.Files.may_leave c.args.files.now stop) in
    let is : c.in_ok-second.second ≡ which_in (g.F.Files.seen c.args.files.now c.args.number) = c.in_ok-second.ensures.which k1 ∙ ap (λ (f : Folder). which_in (f c.args.number)) (c.sync.ensures.seen known) in
    let so_far = both_elapse _ _ _ _ _ _ _ _ _ _ _ first second to (λ h there. to h (first.ends h there)) in
    let made = subst (λ at. Within (mixed_at c.args.number at (to_le_bytes w64 c.args.count) (g.F.Files.may_leave c.read_which.new.files stop)) (counted_at c.args.number c.args.count (g.F.Files.may_leave c.args.files.now stop)))
    (sym c.place_of.ensures)
    (counted_number c.args.number c.args.count (g.F.Files.seen c.args.files.now) c.in_ok-second.second (g.F.Files.may_leave c.args.files.now stop) (g.F.Files.may_leave c.read_which.new.files stop) is
    (λ h there. first.ends h (second.ends h there)) (λ h there. c.in_ok-sync.ensures.durable known stop h (second.ends h there))) in
    both_elapse _ _ _ _ _ _ _ _ _ _ _ so_far (c.put_number.ensures.time k2 stop) (λ h d. d) made

pub returns-clause-count : goal.returns-clause-count
returns-clause-count g c = λ known.
    let k1 = c.sync.ensures.stays known in
    let k2 = c.read_which.ensures.stays k1 in
    let k3 = c.put_number.ensures.stays k2 in
    let wrote = subst (λ at. Wrote c.args.number at (to_le_bytes w64 c.args.count) (g.F.Files.seen c.read_which.new.files) (g.F.Files.seen c.put_number.new.files)) c.place_of.ensures (c.in_ok-put_number.ensures.wrote k2) in
    let number = number_made c.args.number c.args.count (g.F.Files.seen c.read_which.new.files) (g.F.Files.seen c.put_number.new.files) (not c.in_ok-second.second) (omega arith) wrote in
    on_ok_weaker c.put_durable.result (λ made. count_made c.args.number c.args.count (g.F.Files.seen c.put_number.new.files) (g.F.Files.seen c.put_durable.new.files) (not c.in_ok-second.second) number
    (subst (λ m. Wrote c.args.number 64 (m ∷ []) (g.F.Files.seen c.put_number.new.files) (g.F.Files.seen c.put_durable.new.files)) c.mark_of.ensures made))
    (c.put_durable.ensures.wrote k3)

pub returns-clause-time : goal.returns-clause-time
returns-clause-time g c = λ known stop.
    let k1 = c.sync.ensures.stays known in
    let k2 = c.read_which.ensures.stays k1 in
    let k3 = c.put_number.ensures.stays k2 in
    let first = c.sync.ensures.time known stop in
    let second = c.read_which.ensures.time k1 stop in
    let to = counted_first c.args.number c.args.count (g.F.Files.may_leave c.args.files.now stop) in
    let is : c.in_ok-second.second ≡ which_in (g.F.Files.seen c.args.files.now c.args.number) = c.in_ok-second.ensures.which k1 ∙ ap (λ (f : Folder). which_in (f c.args.number)) (c.sync.ensures.seen known) in
    let so_far = both_elapse _ _ _ _ _ _ _ _ _ _ _ first second to (λ h there. to h (first.ends h there)) in
    let made = subst (λ at. Within (mixed_at c.args.number at (to_le_bytes w64 c.args.count) (g.F.Files.may_leave c.read_which.new.files stop)) (counted_at c.args.number c.args.count (g.F.Files.may_leave c.args.files.now stop)))
    (sym c.place_of.ensures)
    (counted_number c.args.number c.args.count (g.F.Files.seen c.args.files.now) c.in_ok-second.second (g.F.Files.may_leave c.args.files.now stop) (g.F.Files.may_leave c.read_which.new.files stop) is
    (λ h there. first.ends h (second.ends h there)) (λ h there. c.in_ok-sync.ensures.durable known stop h (second.ends h there))) in
    let numbered = both_elapse _ _ _ _ _ _ _ _ _ _ _ so_far (c.put_number.ensures.time k2 stop) (λ h d. d) made in
    let wrote = subst (λ at. Wrote c.args.number at (to_le_bytes w64 c.args.count) (g.F.Files.seen c.read_which.new.files) (g.F.Files.seen c.put_number.new.files)) c.place_of.ensures (c.in_ok-put_number.ensures.wrote k2) in
    let number = number_made c.args.number c.args.count (g.F.Files.seen c.read_which.new.files) (g.F.Files.seen c.put_number.new.files) (not c.in_ok-second.second) (omega arith) wrote in
    let marked = subst (λ m. Within (mixed_at c.args.number 64 (m ∷ []) (g.F.Files.may_leave c.put_number.new.files stop)) (counted_at c.args.number c.args.count (g.F.Files.may_leave c.args.files.now stop)))
    (sym c.mark_of.ensures)
    (counted_mark c.args.number c.args.count (g.F.Files.seen c.put_number.new.files) (not c.in_ok-second.second) (g.F.Files.may_leave c.args.files.now stop) (g.F.Files.may_leave c.put_number.new.files stop) number
    (λ h there. numbered.ends h there) (c.in_ok-put_number.ensures.durable k2 stop)) in
    both_elapse _ _ _ _ _ _ _ _ _ _ _ numbered (c.put_durable.ensures.time k3 stop) (λ h d. d) marked
