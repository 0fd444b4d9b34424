-- What workers' jobs leave of their hands, and what is returned of those that failed.
use Rattle.std.specs.Prelude.{ℕ, List, [], ◌∷◌, Result, Ok, Err, nat_le, if◌then◌else◌}
use Rattle.history.specs.Entries.{Carried}
use Rattle.array_book.specs.Acts.{Act}
use Rattle.array_book.specs.declared.fault.WorkFault.{WorkFault}
use Rattle.array_book.specs.declared.run.RunFault.{RunFault}
use Rattle.array_book.specs.declared.run.RunFault.TheVariants.{Memory, Job}

-- the result of a run after the job of this worker failed too: the fault of the worker of the lower number, but out of memory
-- stays
abbrev pub lowest_of : Result (Unit {0}) RunFault → ℕ → WorkFault → Result (Unit {0}) RunFault
lowest_of (Ok u) number fault = Err (Job number fault)
lowest_of (Err Memory) number fault = Err Memory
lowest_of (Err (Job other first)) number fault =
    if nat_le other number then Err (Job other first) else Err (Job number fault)

-- the jobs of the workers with these numbers were done: each worker's hand is what its job leaves of what it was
abbrev pub AreDone : (ℕ → Carried Act → Carried Act → Type 0) → List ℕ → List (Carried Act) → List (Carried Act) → Type 0
AreDone leaves [] [] [] = Unit {0}
AreDone leaves (n ∷ ns) (v ∷ vs) (w ∷ ws) = leaves n v w × AreDone leaves ns vs ws
AreDone leaves _ _ _ = ⊥
