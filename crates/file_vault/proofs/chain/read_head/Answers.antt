use Rattle.file_vault.proofs.chain.read_head.Goals as goal

pub returns-in_err-read_part-clause-read : goal.returns-in_err-read_part-clause-read
returns-in_err-read_part-clause-read g c = λ known. record { keeps = c.read_part.ensures.stays known; same = c.read_part.ensures.seen known; time = c.read_part.ensures.time known; later = (c.read_part.ensures.cause known).later }

pub returns-clause-read : goal.returns-clause-read
returns-clause-read g c = λ known. record { keeps = c.read_part.ensures.stays known; same = c.read_part.ensures.seen known; time = c.read_part.ensures.time known; later = (c.read_part.ensures.cause known).later }
