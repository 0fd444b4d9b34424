use Rattle.std.proofs.Common.{rules, ◌≡◌, inl, refl, [], ◌∷◌, ◌++◌}
use Rattle.file_vault.specs.declared.mem_files.FileCall.TheVariants.{Sync}
use Rattle.file_vault.specs.Calls.{folder_of, seen_from, leaves_at}
use Rattle.file_vault.proofs.Replayed.{time_on, found_same, left, at_sync}
use Rattle.file_vault.proofs.mem_files.MemFilesFiles.sync.Goals as goal

pub returns-clause-seen : goal.returns-clause-seen
returns-clause-seen c = λ known. let more : c.keep.new.calls.items ≡ c.args.self.now.calls.items ++ Sync c.args.file ∷ [] = search (rules, c.keep.ensures.ok, c.if-is_err.false) in
    found_same (folder_of c.args.self.now.first.items) c.args.self.now.calls.items c.keep.new.calls.items (Sync c.args.file) refl (inl more)

pub returns-clause-durable : goal.returns-clause-durable
returns-clause-durable c = λ known stop g now. let more : c.keep.new.calls.items ≡ c.args.self.now.calls.items ++ Sync c.args.file ∷ [] = search (rules, c.keep.ensures.ok, c.if-is_err.false) in
    at_sync stop c.args.file (seen_from (folder_of c.args.self.now.first.items) c.args.self.now.calls.items) (λ h. leaves_at stop (folder_of c.args.self.now.first.items) c.args.self.now.calls.items h) g (left stop (folder_of c.args.self.now.first.items) c.args.self.now.calls.items c.keep.new.calls.items (Sync c.args.file) more g now)

pub returns-clause-time : goal.returns-clause-time
returns-clause-time c = λ known stop. let more : c.keep.new.calls.items ≡ c.args.self.now.calls.items ++ Sync c.args.file ∷ [] = search (rules, c.keep.ensures.ok, c.if-is_err.false) in
    time_on stop (folder_of c.args.self.now.first.items) c.args.self.now.calls.items c.keep.new.calls.items (Sync c.args.file) (inl more)
