use Rattle.std.proofs.Common.{rules, ◌≡◌, inl, [], ◌∷◌, ◌++◌}
use Rattle.file_vault.specs.declared.mem_files.FileCall.TheVariants.{Cut, TornCut}
use Rattle.file_vault.specs.Calls.{folder_of, seen_from}
use Rattle.file_vault.proofs.Replayed.{kept_or_not, whole_cut, time_on, cut_found, cut_nothing}
use Rattle.file_vault.proofs.mem_files.MemFilesFiles.cut.Goals as goal

pub returns-then-is_blown-clause-short : goal.returns-then-is_blown-clause-short
returns-then-is_blown-clause-short c = λ known.
    cut_nothing (folder_of c.args.self.now.first.items) c.args.self.now.calls.items c.keep.new.calls.items c.args.file c.args.at
    (kept_or_not c.keep.result c.args.self.now.calls.items c.keep.new.calls.items (TornCut c.args.file c.args.at) c.keep.ensures.ok c.keep.ensures.err)

pub returns-then-is_blown-clause-time : goal.returns-then-is_blown-clause-time
returns-then-is_blown-clause-time c = λ known stop.
    time_on stop (folder_of c.args.self.now.first.items) c.args.self.now.calls.items c.keep.new.calls.items (TornCut c.args.file c.args.at)
    (kept_or_not c.keep.result c.args.self.now.calls.items c.keep.new.calls.items (TornCut c.args.file c.args.at) c.keep.ensures.ok c.keep.ensures.err)

pub returns-clause-cut : goal.returns-clause-cut
returns-clause-cut c = λ known. let more : c.keep-2.new.calls.items ≡ c.args.self.now.calls.items ++ Cut c.args.file c.args.at ∷ [] = search (rules, c.keep-2.ensures.ok, c.if-is_err.false) in
    cut_found (folder_of c.args.self.now.first.items) c.args.self.now.calls.items c.keep-2.new.calls.items c.args.file c.args.at more

pub returns-clause-short : goal.returns-clause-short
returns-clause-short c = λ known. whole_cut c.args.file c.args.at (seen_from (folder_of c.args.self.now.first.items) c.args.self.now.calls.items) (seen_from (folder_of c.args.self.now.first.items) c.keep-2.new.calls.items) (returns-clause-cut c known)

pub returns-clause-time : goal.returns-clause-time
returns-clause-time c = λ known stop. let more : c.keep-2.new.calls.items ≡ c.args.self.now.calls.items ++ Cut c.args.file c.args.at ∷ [] = search (rules, c.keep-2.ensures.ok, c.if-is_err.false) in
    time_on stop (folder_of c.args.self.now.first.items) c.args.self.now.calls.items c.keep-2.new.calls.items (Cut c.args.file c.args.at) (inl more)
