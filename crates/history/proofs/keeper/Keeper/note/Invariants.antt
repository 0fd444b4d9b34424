use Rattle.std.specs.Prelude.{Some}
use Rattle.history.proofs.keeper.Keeper.note.Given as goal

-- what is appended
abbrev pub ghosts-note_in : goal.ghosts-note_in
ghosts-note_in g a = record { what = Some (g.C.Says.what a.about.now) }
