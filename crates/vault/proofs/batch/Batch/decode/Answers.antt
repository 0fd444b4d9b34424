use Rattle.std.proofs.Common.{◌≡◌, ◌∙◌, ◌+◌, ◌-◌, ◌*◌, drop, take, length, ap, sym, subst, rules}
use Rattle.std.proofs.lemmas.Result.{IfOk-weaker}
use Rattle.vault.specs.Entries.{writes_in}
use Rattle.vault.specs.Coding.{entries_at, AreGood}
use Rattle.vault.proofs.Codes.{tail_is, decoded_by, code_by, good_within}
use Rattle.vault.proofs.batch.Batch.decode.Goals as goal

pub invariant_of-self-2 : goal.invariant_of-self-2
invariant_of-self-2 c =
    let bytes = c.args.bytes.now in
    let units = c.extend_from_slice.new.self.items in
    let n = 8 + 32 * c.in-Some.count in
    let is : units ≡ drop n bytes = search (rules, tail_is n bytes) in
    good_within units c.read_entries.new.entries.items (subst (λ m. AreGood m c.read_entries.new.entries.items) (ap length (tail_is n bytes ∙ sym is)) c.read_entries.ensures.good)

pub returns-clause-decoded : goal.returns-clause-decoded
returns-clause-decoded c =
    let bytes = c.args.bytes.now in
    let units = c.extend_from_slice.new.self.items in
    let n = 8 + 32 * c.in-Some.count in
    let is : units ≡ drop n bytes = search (rules, tail_is n bytes) in
    IfOk-weaker c.read_entries.result _ _
    (λ b entries t. ap (writes_in units) (entries t) ∙ ap (λ l. writes_in units (entries_at c.in-Some.count l)) (tail_is 8 bytes) ∙ sym (decoded_by bytes units c.in-Some.count c.in-Some.ensures.some.1 is))
    c.read_entries.ensures.entries

pub returns-clause-is : goal.returns-clause-is
returns-clause-is c =
    let bytes = c.args.bytes.now in
    let units = c.extend_from_slice.new.self.items in
    let n = 8 + 32 * c.in-Some.count in
    let is : units ≡ drop n bytes = search (rules, tail_is n bytes) in
    let both = code_by bytes units c.in-Some.count c.in-Some.ensures.some.0 c.in-Some.ensures.some.1 c.in-Some.ensures.some.2 is in
    let same : length units ≡ length (take (length bytes - n) (drop n bytes)) = ap length (is ∙ sym (tail_is n bytes)) in
    let to : AreGood (length (take (length bytes - n) (drop n bytes))) (entries_at c.in-Some.count (take (length bytes - 8) (drop 8 bytes))) → AreGood (length units) (entries_at c.in-Some.count (drop 8 bytes)) =
    λ g. subst (λ m. AreGood m (entries_at c.in-Some.count (drop 8 bytes))) (sym same) (subst (λ l. AreGood (length (take (length bytes - n) (drop n bytes))) (entries_at c.in-Some.count l)) (tail_is 8 bytes) g) in
    let from : AreGood (length units) (entries_at c.in-Some.count (drop 8 bytes)) → AreGood (length (take (length bytes - n) (drop n bytes))) (entries_at c.in-Some.count (take (length bytes - 8) (drop 8 bytes))) =
    λ g. subst (λ l. AreGood (length (take (length bytes - n) (drop n bytes))) (entries_at c.in-Some.count l)) (sym (tail_is 8 bytes)) (subst (λ m. AreGood m (entries_at c.in-Some.count (drop 8 bytes))) same g) in
    IfOk-weaker c.read_entries.result _ _ (λ b good. (λ t. both.0 (to (good.0 t)), λ code. good.1 (from (both.1 code)))) c.read_entries.ensures.is
