use Rattle.std.proofs.Common.{◌≡◌, ◌++◌, decimal, map, take}
use Rattle.std.specs.List.{AllByRecursion}
use Rattle.script_syntax.specs.Number.{IsWritable}
use Rattle.script_syntax.specs.Parts.{text_of}
use Rattle.script_syntax.specs.Words.{words_left}
use Rattle.script_syntax.proofs.words.next_numbers.Given as goal

-- the numbers so far and what is left are all words
abbrev pub invariant-loop-place : goal.invariant-loop-place
invariant-loop-place l = record {
  reported : words_left (text_of l.fn.text) ≡ map decimal (take l.place l.numbers) ++ words_left (text_of l.rest);
  writable : AllByRecursion IsWritable (take l.place l.numbers);
}
