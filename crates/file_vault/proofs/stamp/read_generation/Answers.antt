use Rattle.std.proofs.lemmas.Bool.{false≢true}
use Rattle.file_vault.proofs.stamp.read_generation.Goals as goal

pub returns-then-is_code-clause-some : goal.returns-then-is_code-clause-some
returns-then-is_code-clause-some g c = λ known. c.in_ok-bytes.ensures.bytes known c.number_in-generation.result (c.is_code.ensures.own c.if-is_code.true)

pub returns-then-is_code-clause-cause : goal.returns-then-is_code-clause-cause
returns-then-is_code-clause-cause g c = λ known. record { later = (c.read_code.ensures.cause known).later; failed = λ err. absurd (false≢true err) }

pub returns-else-is_code-clause-cause : goal.returns-else-is_code-clause-cause
returns-else-is_code-clause-cause g c = λ known. record { later = (c.read_code.ensures.cause known).later; failed = λ err. absurd (false≢true err) }
