use Rattle.std.proofs.Common.{rules, ◌≡◌, inl, refl, sym, ◌∙◌, ap, subst, List, ℕ, [], ◌∷◌, ◌++◌}
use Rattle.vault.specs.declared.store.Stop.TheVariants.{Killed}
use Rattle.file_vault.specs.declared.mem_files.FileCall.TheVariants.{Write, TornWrite}
use Rattle.file_vault.specs.Folders.{Wrote, wrote_at}
use Rattle.file_vault.specs.Calls.{folder_of, seen_from, leaves_at, file_patched}
use Rattle.file_vault.proofs.Replayed.{kept_or_not, found, left, over_wrote, whole_mixed, time_torn, time_write, cut_mixed}
use Rattle.file_vault.proofs.mem_files.MemFilesFiles.write_at.Goals as goal

pub returns-then-is_blown-clause-mixed : goal.returns-then-is_blown-clause-mixed
returns-then-is_blown-clause-mixed c = λ known.
    cut_mixed (folder_of c.args.self.now.first.items) c.args.self.now.calls.items c.keep.new.calls.items c.args.file c.args.at c.args.bytes.now (TornWrite c.args.file c.args.at c.in-Ok.copy) refl (kept_or_not c.keep.result c.args.self.now.calls.items c.keep.new.calls.items (TornWrite c.args.file c.args.at c.in-Ok.copy) c.keep.ensures.ok c.keep.ensures.err)

pub returns-then-is_blown-clause-time : goal.returns-then-is_blown-clause-time
returns-then-is_blown-clause-time c = λ known stop. let same : c.in-Ok.copy.items ≡ c.args.bytes.now = search rules in
    time_torn stop (folder_of c.args.self.now.first.items) c.args.self.now.calls.items c.keep.new.calls.items c.args.file c.args.at c.in-Ok.copy c.args.bytes.now same (kept_or_not c.keep.result c.args.self.now.calls.items c.keep.new.calls.items (TornWrite c.args.file c.args.at c.in-Ok.copy) c.keep.ensures.ok c.keep.ensures.err)

pub returns-clause-wrote : goal.returns-clause-wrote
returns-clause-wrote c = λ known. let same : c.in-Ok.copy.items ≡ c.args.bytes.now = search rules in let more : c.keep-2.new.calls.items ≡ c.args.self.now.calls.items ++ Write c.args.file c.args.at c.in-Ok.copy ∷ [] = search (rules, c.keep-2.ensures.ok, c.if-is_err.false) in
    subst (λ g. Wrote c.args.file c.args.at c.args.bytes.now (seen_from (folder_of c.args.self.now.first.items) c.args.self.now.calls.items) g)
    (sym (found (folder_of c.args.self.now.first.items) c.args.self.now.calls.items c.keep-2.new.calls.items (Write c.args.file c.args.at c.in-Ok.copy) more ∙ ap (λ (b : List ℕ). file_patched (seen_from (folder_of c.args.self.now.first.items) c.args.self.now.calls.items) c.args.file c.args.at b) same))
    (over_wrote (seen_from (folder_of c.args.self.now.first.items) c.args.self.now.calls.items) c.args.file c.args.at c.args.bytes.now)

pub returns-clause-mixed : goal.returns-clause-mixed
returns-clause-mixed c = λ known. whole_mixed c.args.file c.args.at c.args.bytes.now (seen_from (folder_of c.args.self.now.first.items) c.args.self.now.calls.items) (seen_from (folder_of c.args.self.now.first.items) c.keep-2.new.calls.items) (returns-clause-wrote c known)

pub returns-clause-killed : goal.returns-clause-killed
returns-clause-killed c = λ known g now. let same : c.in-Ok.copy.items ≡ c.args.bytes.now = search rules in let more : c.keep-2.new.calls.items ≡ c.args.self.now.calls.items ++ Write c.args.file c.args.at c.in-Ok.copy ∷ [] = search (rules, c.keep-2.ensures.ok, c.if-is_err.false) in
    subst (λ (b : List ℕ). wrote_at c.args.file c.args.at b (λ h. leaves_at Killed (folder_of c.args.self.now.first.items) c.args.self.now.calls.items h) g) same
    (left Killed (folder_of c.args.self.now.first.items) c.args.self.now.calls.items c.keep-2.new.calls.items (Write c.args.file c.args.at c.in-Ok.copy) more g now)

pub returns-clause-time : goal.returns-clause-time
returns-clause-time c = λ known stop. let same : c.in-Ok.copy.items ≡ c.args.bytes.now = search rules in let more : c.keep-2.new.calls.items ≡ c.args.self.now.calls.items ++ Write c.args.file c.args.at c.in-Ok.copy ∷ [] = search (rules, c.keep-2.ensures.ok, c.if-is_err.false) in
    time_write stop (folder_of c.args.self.now.first.items) c.args.self.now.calls.items c.keep-2.new.calls.items c.args.file c.args.at c.in-Ok.copy c.args.bytes.now same (inl more)
