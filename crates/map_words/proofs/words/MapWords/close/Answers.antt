use Rattle.std.proofs.Common.{rules}
use Rattle.map_words.proofs.words.MapWords.close.Goals as goal

pub gathered-requires-clause-share : goal.gathered-requires-clause-share
gathered-requires-clause-share g c = search rules

pub returns-in-Some-clause-whole : goal.returns-in-Some-clause-whole
returns-in-Some-clause-whole g c = search rules

pub returns-in-None-clause-err : goal.returns-in-None-clause-err
returns-in-None-clause-err g c = search rules
