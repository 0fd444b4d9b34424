-- How turns lead to a script's end.
use Rattle.std.proofs.Common.{◌≡◌, ℕ, List, [], ◌++◌, ◌⊎◌, Option, Some, None, refl, sym, ap, ◌∙◌, inl, inr, append_assoc, append-nil, take, arith}
use Rattle.std.specs.Prelude.{IfSome}
use Rattle.std.specs.Io.KnownBytes.{Appends, Consumes, IsAtEnd}
use Rattle.std.proofs.KnownBytes.{Appends-trans}
use Rattle.script_io.specs.Opens.{AreLines}
use Rattle.script_exec.specs.State.{State}
use Rattle.script_exec.specs.Carrying.{MatchesState}
use Rattle.script_io.specs.Says.{Says, IsTranscript, lines_of}
use Rattle.script_io.specs.Feeding.{IsCut, Advances, Left}
use Rattle.script_io.specs.Turns.{AllSaid, Concludes, IsAllSaid, IsFronted, IsPartSaid, IsPartWritten, PartSaid, SaysBy, TurnsTo, end_of}
use Rattle.script_io.specs.declared.end.End.{End}
use Rattle.script_io.specs.declared.end.End.TheVariants as end
use Rattle.script_io.specs.declared.halt.Halt.{Halt}
use Rattle.script_io.specs.declared.halt.Halt.TheVariants as halt
use Rattle.script_io.specs.declared.script.Script.{Script}
use Rattle.script_io.proofs.Chunks.{GoesOn}
use Rattle.script_io.proofs.Opens.{count_more, lines_more, text_join, text_more}
use Rattle.script_io.proofs.Feeds.{cut_following, cut_more, leads_left, leads_more}

-- whole lines before a prefix of the rest
ends_following : (whole front rest : List ℕ) → AreLines whole → AreLines front ⊎ (rest ≡ []) → AreLines (whole ++ front) ⊎ (rest ≡ [])
ends_following whole front rest lines (inl more) = inl (lines_more whole front lines more)
ends_following whole front rest lines (inr none) = inr none

fronted_following : (n : ℕ) (state : State) (text whole out : List ℕ) (m : ℕ) (next : State) (rest reported : List ℕ) → AreLines whole
    → Advances n state whole out m next → text ≡ whole ++ rest → IsFronted m next rest reported → IsFronted n state text (out ++ reported)
fronted_following n state text whole out m next rest reported lines leads is f = record {
  front = whole ++ f.front;
  rest = f.rest;
  text_is = text_join text whole rest f.front f.rest is f.text_is;
  ends = ends_following whole f.front f.rest lines f.ends;
  last = f.last;
  reported = leads f.front reported f.last f.reported;
}

-- a reader that is at its end gave all
at_end : (last : Halt) (before after : Option (List ℕ)) (buffer : List ℕ) (old : Script) (state : State) (held now : Option (List ℕ))
    → Consumes before after (take 0 buffer) → IsAtEnd after → Concludes last old state [] held now → AllSaid last before old state held now
at_end last None after buffer old state held now consumed done said = tt
at_end last (Some xs) None buffer old state held now consumed done said = absurd consumed
at_end last (Some xs) (Some ys) buffer old state held now consumed done said =
    let none : xs ≡ [] = consumed ∙ done in rw none said

pub turn_closed : (last : Halt) (before after : Option (List ℕ)) (buffer : List ℕ) (old : Script) (state : State) (new : Script)
    (held now : Option (List ℕ)) → Consumes before after (take 0 buffer) → IsAtEnd after → Concludes last old state [] held now
    → TurnsTo (Some last) before after old state new held now
turn_closed (halt.ReadBroke broke) before after buffer old state new held now consumed done said = absurd said
turn_closed halt.Whole before after buffer old state new held now consumed done said =
    at_end halt.Whole before after buffer old state held now consumed done said
turn_closed halt.Fault before after buffer old state new held now consumed done said =
    at_end halt.Fault before after buffer old state held now consumed done said
turn_closed halt.Memory before after buffer old state new held now consumed done said =
    at_end halt.Memory before after buffer old state held now consumed done said
turn_closed (halt.WriteBroke broke) before after buffer old state new held now consumed done said =
    at_end (halt.WriteBroke broke) before after buffer old state held now consumed done said

-- a chunk that was read, and what came of it
pub turn_on : (result : Option Halt) (before after : Option (List ℕ)) (chunk : List ℕ) (old : Script) (state : State) (new : Script)
    (held now : Option (List ℕ)) → Consumes before after chunk → GoesOn result old state new chunk held now
    → TurnsTo result before after old state new held now
turn_on None None after chunk old state new held now consumed on = (on.next, on.matches)
turn_on None (Some xs) None chunk old state new held now consumed on = absurd consumed
turn_on None (Some xs) (Some ys) chunk old state new held now consumed on = record {
  next = on.next;
  matches = on.matches;
  whole = on.whole;
  lines = on.lines;
  text_is = rw consumed (text_more old.line.items chunk on.whole new.line.items [] ys on.text_is);
  counted = on.counted;
  open_line = on.open_line;
  short = on.short;
  soon = on.soon;
  bytes = on.bytes;
  wrote = on.wrote;
  leads = on.leads;
}
turn_on (Some halt.Fault) None after chunk old state new held now consumed on = tt
turn_on (Some halt.Fault) (Some xs) None chunk old state new held now consumed on = absurd consumed
turn_on (Some halt.Fault) (Some xs) (Some ys) chunk old state new held now consumed on = record {
  out = on.bytes;
  wrote = on.wrote;
  reported = rw consumed (on.reported ys);
}
turn_on (Some halt.Memory) None after chunk old state new held now consumed on = tt
turn_on (Some halt.Memory) (Some xs) None chunk old state new held now consumed on = absurd consumed
turn_on (Some halt.Memory) (Some xs) (Some ys) chunk old state new held now consumed on = record {
  bytes = on.bytes;
  wrote = on.wrote;
  cut =
      let more : IsCut old.number state ((old.line.items ++ chunk) ++ ys) on.bytes =
      cut_more old.number state (old.line.items ++ chunk) on.bytes ys on.cut in
      rw (consumed, ← append_assoc old.line.items chunk ys) more;
}
turn_on (Some (halt.WriteBroke broke)) None after chunk old state new held now consumed on = tt
turn_on (Some (halt.WriteBroke broke)) (Some xs) None chunk old state new held now consumed on = absurd consumed
turn_on (Some (halt.WriteBroke broke)) (Some xs) (Some ys) chunk old state new held now consumed on = record {
  bytes = on.bytes;
  part = on.part;
  fronted = rw consumed (on.fronted ys);
}
turn_on (Some halt.Whole) before after chunk old state new held now consumed on = absurd on
turn_on (Some (halt.ReadBroke broke)) before after chunk old state new held now consumed on = absurd on

-- one part after the other
join_parts : (xs ys zs : List ℕ) (old : Script) (state : State) (mid new : Script) (held wrote now : Option (List ℕ))
    (a : IsPartSaid old state mid xs ys held wrote) → IsPartSaid mid a.next new ys zs wrote now → IsPartSaid old state new xs zs held now
join_parts xs ys zs old state mid new held wrote now a b = record {
  next = b.next;
  matches = b.matches;
  whole = a.whole ++ b.whole;
  lines = lines_more a.whole b.whole a.lines b.lines;
  text_is = text_join (old.line.items ++ xs) a.whole (mid.line.items ++ ys) b.whole (new.line.items ++ zs) a.text_is b.text_is;
  counted = let more = count_more a.whole b.whole a.lines in omega (arith, more, a.counted, b.counted);
  open_line = b.open_line;
  short = b.short;
  soon = b.soon;
  bytes = a.bytes ++ b.bytes;
  wrote = Appends-trans held wrote now a.bytes b.bytes a.wrote b.wrote;
  leads = leads_more old.number state a.whole a.bytes mid.number a.next b.whole b.bytes new.number b.next a.leads b.leads;
}

-- bytes that were written, and then a part of others, are a part of both together
part_following : (held wrote now : Option (List ℕ)) (first second : List ℕ) → Appends held wrote first → IsPartWritten wrote now second
    → IsPartWritten held now (first ++ second)
part_following held wrote now first second appended part = record {
  written = first ++ part.written;
  unwritten = part.unwritten;
  bytes_is = ap (λ xs. first ++ xs) part.bytes_is ∙ sym (append_assoc first part.written part.unwritten);
  some = part.some;
  wrote = Appends-trans held wrote now first part.written appended part.wrote;
}

-- the rest after a part
join_said : (xs ys : List ℕ) (old : Script) (state : State) (mid : Script) (held wrote now : Option (List ℕ)) (last : End)
    (a : IsPartSaid old state mid xs ys held wrote) → IsAllSaid mid a.next ys wrote now last → IsAllSaid old state xs held now last
join_said xs ys old state mid held wrote now last a b = record {
  out = a.bytes ++ b.out;
  wrote = Appends-trans held wrote now a.bytes b.out a.wrote b.wrote;
  reported =
      leads_left old.number state (old.line.items ++ xs) a.whole a.bytes mid.number a.next (mid.line.items ++ ys) b.out last
      a.leads a.text_is b.reported;
}

join_all : (last : Halt) (xs ys : List ℕ) (old : Script) (state : State) (mid : Script) (held wrote now : Option (List ℕ))
    (a : IsPartSaid old state mid xs ys held wrote) → Concludes last mid a.next ys wrote now → Concludes last old state xs held now
join_all halt.Whole xs ys old state mid held wrote now a b = join_said xs ys old state mid held wrote now end.Whole a b
join_all halt.Fault xs ys old state mid held wrote now a b = join_said xs ys old state mid held wrote now end.Fault a b
join_all halt.Memory xs ys old state mid held wrote now a b = record {
  bytes = a.bytes ++ b.bytes;
  wrote = Appends-trans held wrote now a.bytes b.bytes a.wrote b.wrote;
  cut =
      cut_following old.number state (old.line.items ++ xs) a.whole a.bytes mid.number a.next (mid.line.items ++ ys) b.bytes
      a.lines a.leads a.text_is b.cut;
}
join_all (halt.WriteBroke broke) xs ys old state mid held wrote now a b = record {
  bytes = a.bytes ++ b.bytes;
  part = part_following held wrote now a.bytes b.bytes a.wrote b.part;
  fronted =
      fronted_following old.number state (old.line.items ++ xs) a.whole a.bytes mid.number a.next (mid.line.items ++ ys) b.bytes
      a.lines a.leads a.text_is b.fronted;
}
join_all (halt.ReadBroke broke) xs ys old state mid held wrote now a b = absurd b

-- parts after a part
parts_join : (before mid_in after : Option (List ℕ)) (old : Script) (state : State) (mid new : Script) (held wrote now : Option (List ℕ))
    → PartSaid before mid_in old state mid held wrote
    → ((s : State) → MatchesState mid.bench s → PartSaid mid_in after mid s new wrote now) → PartSaid before after old state new held now
parts_join None None after old state mid new held wrote now a b = let c = b a.0 a.1 in (c.0, c.1)
parts_join None (Some ys) None old state mid new held wrote now a b = absurd (b a.0 a.1)
parts_join None (Some ys) (Some zs) old state mid new held wrote now a b = let c = b a.0 a.1 in (c.next, c.matches)
parts_join (Some xs) None after old state mid new held wrote now a b = absurd a
parts_join (Some xs) (Some ys) None old state mid new held wrote now a b = absurd (b a.next a.matches)
parts_join (Some xs) (Some ys) (Some zs) old state mid new held wrote now a b =
    join_parts xs ys zs old state mid new held wrote now a (b a.next a.matches)

all_join : (last : Halt) (before mid_in : Option (List ℕ)) (old : Script) (state : State) (mid : Script) (held wrote now : Option (List ℕ))
    → PartSaid before mid_in old state mid held wrote
    → ((s : State) → MatchesState mid.bench s → AllSaid last mid_in mid s wrote now) → AllSaid last before old state held now
all_join last None mid_in old state mid held wrote now a b = tt
all_join last (Some xs) None old state mid held wrote now a b = absurd a
all_join last (Some xs) (Some ys) old state mid held wrote now a b =
    join_all last xs ys old state mid held wrote now a (b a.next a.matches)

-- a turn after turns
pub turn_after : (result : Option Halt) (before mid_in after : Option (List ℕ)) (old : Script) (state : State) (mid new : Script)
    (held wrote now : Option (List ℕ)) → PartSaid before mid_in old state mid held wrote
    → ((s : State) → MatchesState mid.bench s → TurnsTo result mid_in after mid s new wrote now) → TurnsTo result before after old state new held now
turn_after None before mid_in after old state mid new held wrote now a b = parts_join before mid_in after old state mid new held wrote now a b
turn_after (Some (halt.ReadBroke broke)) before mid_in after old state mid new held wrote now a b =
    parts_join before mid_in after old state mid new held wrote now a b
turn_after (Some halt.Whole) before mid_in after old state mid new held wrote now a b = all_join halt.Whole before mid_in old state mid held wrote now a b
turn_after (Some halt.Fault) before mid_in after old state mid new held wrote now a b = all_join halt.Fault before mid_in old state mid held wrote now a b
turn_after (Some halt.Memory) before mid_in after old state mid new held wrote now a b = all_join halt.Memory before mid_in old state mid held wrote now a b
turn_after (Some (halt.WriteBroke broke)) before mid_in after old state mid new held wrote now a b =
    all_join (halt.WriteBroke broke) before mid_in old state mid held wrote now a b

-- what a run from the script's start came to
said_of : (script : List ℕ) (start : Script) (held now : Option (List ℕ)) (last : End) → start.number ≡ 1 → start.line.items ≡ []
    → IsAllSaid start None script held now last → (out : List ℕ) × Appends held now out × Says script out last
said_of script start held now last number line said =
    let reported : Left start.number None start.line.items script said.out last = said.reported in
    (said.out, said.wrote, rw (number, line) at reported)

-- a text after no open line
at_start : (line script text : List ℕ) → line ≡ [] → line ++ script ≡ text → script ≡ text
at_start line script text none is = ap (λ xs. xs ++ script) (sym none) ∙ is

pub run_said : (last : Halt) (before after : Option (List ℕ)) (start new : Script) (held now : Option (List ℕ)) → start.number ≡ 1
    → start.line.items ≡ [] → TurnsTo (Some last) before after start None new held now
    → IfSome before (λ script. SaysBy (end_of last) script after held now)
run_said last None after start new held now number line turned = tt
run_said halt.Whole (Some xs) after start new held now number line turned =
    let s = said_of xs start held now end.Whole number line turned in record { out = s.0; wrote = s.1; says = s.2 }
run_said halt.Fault (Some xs) after start new held now number line turned =
    let s = said_of xs start held now end.Fault number line turned in record { out = s.0; wrote = s.1; says = s.2 }
run_said halt.Memory (Some xs) after start new held now number line turned =
    let cut = turned.cut in record {
      whole = cut.whole;
      rest = cut.rest;
      script_is = at_start start.line.items xs (cut.whole ++ cut.rest) line cut.text_is;
      lines = cut.lines;
      out = turned.bytes;
      wrote = turned.wrote;
      says = let reported : IsTranscript start.number None (lines_of cut.whole) turned.bytes end.Whole = cut.reported in rw number at reported;
    }
run_said (halt.WriteBroke broke) (Some xs) after start new held now number line turned =
    let f = turned.fronted in record {
      front = f.front;
      rest = f.rest;
      script_is = at_start start.line.items xs (f.front ++ f.rest) line f.text_is;
      ends = f.ends;
      out = turned.bytes;
      last = f.last;
      says = let reported : IsTranscript start.number None (lines_of f.front) turned.bytes f.last = f.reported in rw number at reported;
      part = turned.part;
    }
run_said (halt.ReadBroke broke) (Some xs) None start new held now number line turned = absurd turned
run_said (halt.ReadBroke broke) (Some xs) (Some ys) start new held now number line turned = record {
  whole = turned.whole;
  line = new.line.items;
  rest = ys;
  script_is = at_start start.line.items xs (turned.whole ++ (new.line.items ++ ys)) line turned.text_is;
  left_is = refl;
  lines = turned.lines;
  open_line = turned.open_line;
  short = turned.short;
  soon = λ some. let number_is = turned.counted in let soon = turned.soon some in omega (arith, number, number_is, soon);
  out = turned.bytes;
  wrote = turned.wrote;
  says =
      let reported : IsTranscript start.number None (lines_of (turned.whole ++ [])) (turned.bytes ++ []) end.Whole =
      turned.leads [] [] end.Whole (refl, refl) in
      rw (number, append-nil turned.whole, append-nil turned.bytes) at reported;
}
