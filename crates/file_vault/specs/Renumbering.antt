-- Files whose numbers are exchanged in pairs: 16 with 17, and 18 with 19.
use Rattle.std.specs.Prelude.{◌==◌, if◌then◌else◌, ℕ}
use Rattle.file_vault.specs.Folders.{Folder}

-- the number with which a number is exchanged
abbrev pub exchanged : ℕ → ℕ
exchanged d = if d == 16 then 17 else if d == 17 then 16 else if d == 18 then 19 else if d == 19 then 18 else d

-- files by the exchanged numbers
abbrev pub renumbered : Folder → Folder
renumbered f d = f (exchanged d)
