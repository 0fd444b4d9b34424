use Rattle.array_batch.proofs.batch.has_unit.Goals as goal

pub returns-in_err-read_unit-clause-read : goal.returns-in_err-read_unit-clause-read
returns-in_err-read_unit-clause-read g c = λ known. record { finds = c.read_unit.ensures.seen known; time = c.read_unit.ensures.time known }

pub returns-in-Whole-clause-read : goal.returns-in-Whole-clause-read
returns-in-Whole-clause-read g c = λ known. record { finds = c.read_unit.ensures.seen known; time = c.read_unit.ensures.time known }

pub returns-in-Rotten-clause-read : goal.returns-in-Rotten-clause-read
returns-in-Rotten-clause-read g c = λ known. record { finds = c.read_unit.ensures.seen known; time = c.read_unit.ensures.time known }

pub returns-in-Absent-clause-read : goal.returns-in-Absent-clause-read
returns-in-Absent-clause-read g c = λ known. record { finds = c.read_unit.ensures.seen known; time = c.read_unit.ensures.time known }
