use Rattle.step_core.proofs.run.run_steps.Goals as goal

pub returns-clause-run : goal.returns-clause-run
returns-clause-run g c = c.run_by.ensures.run

pub returns-clause-worlds : goal.returns-clause-worlds
returns-clause-worlds g c = c.run_by.ensures.worlds

pub returns-clause-answers : goal.returns-clause-answers
returns-clause-answers g c = c.run_by.ensures.answers

pub returns-clause-once : goal.returns-clause-once
returns-clause-once g c = c.run_by.ensures.once

pub returns-clause-maps : goal.returns-clause-maps
returns-clause-maps g c = c.run_by.ensures.maps

pub returns-clause-headers : goal.returns-clause-headers
returns-clause-headers g c = c.run_by.ensures.headers

pub returns-clause-reads : goal.returns-clause-reads
returns-clause-reads g c = c.run_by.ensures.reads

pub returns-clause-stopped : goal.returns-clause-stopped
returns-clause-stopped g c = c.run_by.ensures.stopped
