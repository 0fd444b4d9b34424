use Rattle.std.proofs.Common.{◌≡◌, ◌++◌, length, map}
use Rattle.std.specs.List.{AllByRecursion}
use Rattle.script_syntax.specs.Parts.{text_of}
use Rattle.script_syntax.specs.Words.{words_left}
use Rattle.script_syntax.specs.Spelling.{member_word, IsWritableMember}
use Rattle.script_syntax.proofs.member.members_of.Given as goal

-- the members so far and what is left are all words
abbrev pub invariant-loop : goal.invariant-loop
invariant-loop l = record {
  reported : words_left (text_of l.fn.text) ≡ map member_word l.members.items ++ words_left (text_of l.rest);
  short : AllByRecursion IsWritableMember l.members.items;
  count : length l.members.items ≡ l.counter;
}
