use Rattle.array_recovery.proofs.Reopening.{bytes_left, keys_left}
use Rattle.blank_array.specs.Blank.{zeros_shown}
use Rattle.blank_array.proofs.Blanks.{shows_zeros}
use Rattle.blank_array.proofs.laws.blank_law.Goals as goal

pub returns-clause-both : goal.returns-clause-both
returns-clause-both c = λ groups drives size absent cells can is. shows_zeros groups drives size absent cells can is

pub returns-clause-bytes : goal.returns-clause-bytes
returns-clause-bytes c = λ groups drives size absent cells can is.
    bytes_left (zeros_shown size) groups drives absent cells (shows_zeros groups drives size absent cells can is)

pub returns-clause-map : goal.returns-clause-map
returns-clause-map c = λ groups drives absent cells can is.
    keys_left (zeros_shown 0) groups drives absent cells (shows_zeros groups drives 0 absent cells can is)
