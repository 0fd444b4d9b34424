-- What a script's pieces lead to, one after the other.
use Rattle.std.proofs.Common.{◌≡◌, ℕ, ◌+◌, ◌<◌, ◌==◌, Bool, true, false, List, [], ◌∷◌, ◌++◌, length, Result, Ok, Err, refl, sym, ap, ◌∙◌, subst, inl, inr, arith, append_assoc, append-nil, length-append}
use Rattle.std.proofs.lemmas.List.Elements.{All-append}
use Rattle.script_io.specs.Opens.{AreLines, HasNoNewline}
use Rattle.script_exec.specs.State.{State}
use Rattle.script_exec.specs.Carrying.{MatchesState}
use Rattle.script_exec.specs.Meaning.{Means, Wrong, fault_line, most_bytes}
use Rattle.script_io.specs.Says.{IsTranscript, lines_of}
use Rattle.script_io.specs.Feeding.{Answered, Closes, Faults, Feeds, IsAlong, IsLineAnswered, IsCut, IsLineWrong, IsUnfinished, IsFaulted, Advances}
use Rattle.script_io.specs.declared.end.End.{End}
use Rattle.script_io.specs.declared.end.End.TheVariants as end
use Rattle.script_io.specs.declared.script.Script.{Script}
use Rattle.script_io.specs.declared.stop.Stop.{Stop}
use Rattle.script_io.specs.declared.stop.Stop.TheVariants as stop
use Rattle.script_exec.specs.declared.why.Why.{Why}
use Rattle.script_io.proofs.Opens.{count_more, open_front, cut_line, last_line, lines_more, text_join, text_more}

-- no lines lead to no answer and the same state
pub leads_none : (n : ℕ) (state : State) → Advances n state [] [] n state
leads_none n state = λ more reported last rest. rest

-- lines after lines lead where the second ones lead, with the answers of both
pub leads_more : (n : ℕ) (state : State) (first out : List ℕ) (m : ℕ) (mid : State) (second reported : List ℕ) (k : ℕ) (next : State)
    → Advances n state first out m mid → Advances m mid second reported k next → Advances n state (first ++ second) (out ++ reported) k next
leads_more n state first out m mid second reported k next one two = λ more later last rest.
    rw (append_assoc first second more, append_assoc out reported later) (one (second ++ more) (reported ++ later) last (two more later last rest))

-- what is answered after whole lines completes the answers to all
pub leads_left : (n : ℕ) (state : State) (text whole out : List ℕ) (m : ℕ) (next : State) (rest reported : List ℕ) (last : End)
    → Advances n state whole out m next → text ≡ whole ++ rest → IsTranscript m next (lines_of rest) reported last
    → IsTranscript n state (lines_of text) (out ++ reported) last
leads_left n state text whole out m next rest reported last leads is left =
    let P : List ℕ → Type 0 = λ t. IsTranscript n state (lines_of t) (out ++ reported) last in subst P (sym is) (leads rest reported last left)

-- an answered prefix of a text is also one of the text with more after it
pub cut_more : (n : ℕ) (state : State) (text out more : List ℕ) → IsCut n state text out → IsCut n state (text ++ more) out
cut_more n state text out more cut = record {
  whole = cut.whole;
  rest = cut.rest ++ more;
  text_is = ap (λ xs. xs ++ more) cut.text_is ∙ append_assoc cut.whole cut.rest more;
  lines = cut.lines;
  reported = cut.reported;
}

-- a prefix that is answered after whole lines
pub cut_following : (n : ℕ) (state : State) (text whole out : List ℕ) (m : ℕ) (next : State) (rest reported : List ℕ) → AreLines whole
    → Advances n state whole out m next → text ≡ whole ++ rest → IsCut m next rest reported → IsCut n state text (out ++ reported)
cut_following n state text whole out m next rest reported lines leads is cut = record {
  whole = whole ++ cut.whole;
  rest = cut.rest;
  text_is = text_join text whole rest cut.whole cut.rest is cut.text_is;
  lines = lines_more whole cut.whole lines cut.lines;
  reported = leads cut.whole reported end.Whole cut.reported;
}

-- nothing of it is answered
pub cut_none : (n : ℕ) (state : State) (text : List ℕ) → IsCut n state text []
cut_none n state text = record { whole = []; rest = text; text_is = refl; lines = inl refl; reported = (refl, refl) }

-- only the whole lines are answered
pub cut_along : (n : ℕ) (state : State) (text whole out : List ℕ) (m : ℕ) (next : State) (rest : List ℕ) → AreLines whole
    → Advances n state whole out m next → text ≡ whole ++ rest → IsCut n state text out
cut_along n state text whole out m next rest lines leads is =
    let cut : IsCut n state text (out ++ []) = cut_following n state text whole out m next rest [] lines leads is (cut_none m next rest) in
    rw (append-nil out) at cut

-- nothing was read yet
pub along_start : (script : Script) (state : State) (chunk : List ℕ) → MatchesState script.bench state → IsAlong script state script chunk chunk
along_start script state chunk matches = record {
  next = state;
  matches = matches;
  whole = [];
  lines = inl refl;
  text_is = refl;
  counted = omega arith;
  bytes = [];
  out = sym (append-nil script.out.items);
  leads = leads_none script.number state;
}

-- one part more was read
pub along_more : (old : Script) (state : State) (mid new : Script) (chunk part rest : List ℕ) (a : IsAlong old state mid chunk (part ++ rest))
    → IsAlong mid a.next new part [] → IsAlong old state new chunk rest
along_more old state mid new chunk part rest a b = record {
  next = b.next;
  matches = b.matches;
  whole = a.whole ++ b.whole;
  lines = lines_more a.whole b.whole a.lines b.lines;
  text_is =
      text_join (old.line.items ++ chunk) a.whole (mid.line.items ++ (part ++ rest)) b.whole (new.line.items ++ rest) a.text_is
      (text_more mid.line.items part b.whole new.line.items [] rest b.text_is);
  counted = let more = count_more a.whole b.whole a.lines in omega (arith, more, a.counted, b.counted);
  bytes = a.bytes ++ b.bytes;
  out = b.out ∙ ap (λ xs. xs ++ b.bytes) a.out ∙ append_assoc old.out.items a.bytes b.bytes;
  leads = leads_more old.number state a.whole a.bytes mid.number a.next b.whole b.bytes new.number b.next a.leads b.leads;
}

-- a fault in the next part
pub along_stopped : (old : Script) (state : State) (mid new : Script) (chunk part rest : List ℕ)
    (a : IsAlong old state mid chunk (part ++ rest)) → IsFaulted mid a.next new part → IsFaulted old state new chunk
along_stopped old state mid new chunk part rest a b = record {
  bytes = a.bytes ++ b.bytes;
  out = b.out ∙ ap (λ xs. xs ++ b.bytes) a.out ∙ append_assoc old.out.items a.bytes b.bytes;
  reported = λ more.
      leads_left old.number state (old.line.items ++ (chunk ++ more)) a.whole a.bytes mid.number a.next
      (mid.line.items ++ (part ++ (rest ++ more))) b.bytes end.Fault a.leads
      (text_more old.line.items chunk a.whole mid.line.items (part ++ rest) more a.text_is
      ∙ ap (λ xs. a.whole ++ (mid.line.items ++ xs)) (append_assoc part rest more))
      (b.reported (rest ++ more));
}

-- out of memory in the next part
along_short : (old : Script) (state : State) (mid new : Script) (chunk part rest : List ℕ)
    (a : IsAlong old state mid chunk (part ++ rest)) → IsUnfinished mid a.next new part → IsUnfinished old state new chunk
along_short old state mid new chunk part rest a b = record {
  bytes = a.bytes ++ b.bytes;
  out = b.out ∙ ap (λ xs. xs ++ b.bytes) a.out ∙ append_assoc old.out.items a.bytes b.bytes;
  cut =
      let more : IsCut mid.number a.next ((mid.line.items ++ part) ++ rest) b.bytes =
      cut_more mid.number a.next (mid.line.items ++ part) b.bytes rest b.cut in
      cut_following old.number state (old.line.items ++ chunk) a.whole a.bytes mid.number a.next ((mid.line.items ++ part) ++ rest) b.bytes
      a.lines a.leads (a.text_is ∙ ap (λ xs. a.whole ++ xs) (sym (append_assoc mid.line.items part rest))) more;
}

-- out of memory, and nothing more was appended
pub short_none : (old : Script) (state : State) (new : Script) (chunk : List ℕ) → new.out.items ≡ old.out.items
    → IsUnfinished old state new chunk
short_none old state new chunk out = record {
  bytes = [];
  out = out ∙ sym (append-nil old.out.items);
  cut = cut_none old.number state (old.line.items ++ chunk);
}

-- the open line ended and was answered
along_answered : (old : Script) (state : State) (line : List ℕ) (new : Script) (part : List ℕ) → old.line.items ++ part ≡ line → HasNoNewline line
    → IsLineAnswered old state line new → IsAlong old state new (part ++ 10 ∷ []) []
along_answered old state line new part is none answered = let t = answered.reported in record {
  next = t.next;
  matches = t.matches;
  whole = line ++ 10 ∷ [];
  lines = inr (line, refl);
  text_is =
      sym (append_assoc old.line.items part (10 ∷ [])) ∙ ap (λ xs. xs ++ 10 ∷ []) is
      ∙ sym (append-nil (line ++ 10 ∷ [])) ∙ ap (λ xs. (line ++ 10 ∷ []) ++ (xs ++ [])) (sym answered.none);
  counted = answered.number ∙ ap (λ lines. old.number + length lines) (sym (cut_line line [] none));
  bytes = t.bytes;
  out = t.out;
  leads = λ more later last left.
      let rest : IsTranscript (old.number + 1) t.next (lines_of more) later last = rw answered.number at left in
      rw (append_assoc line (10 ∷ []) more, cut_line line more none) (t.reported (lines_of more) later last rest);
}

stopped_answered : (old : Script) (state : State) (line : List ℕ) (new : Script) (part : List ℕ) → old.line.items ++ part ≡ line → HasNoNewline line
    → IsLineWrong old.number state line old.out.items new.out.items → IsFaulted old state new (part ++ 10 ∷ [])
stopped_answered old state line new part is none wrong = record {
  bytes = wrong.bytes;
  out = wrong.out;
  reported = λ more.
      let text : old.line.items ++ ((part ++ 10 ∷ []) ++ more) ≡ line ++ 10 ∷ more =
      ap (λ xs. old.line.items ++ xs) (append_assoc part (10 ∷ []) more)
      ∙ sym (append_assoc old.line.items part (10 ∷ more)) ∙ ap (λ xs. xs ++ 10 ∷ more) is in
      rw (text, cut_line line more none) (wrong.reported (lines_of more));
}

-- what came of the open line, whose last bytes these are
pub fed_answered : (r : Result (Unit {0}) Stop) (old : Script) (state : State) (line : List ℕ) (new : Script) (part : List ℕ)
    → old.line.items ++ part ≡ line → HasNoNewline line → Answered r old state line new → Feeds r old state new (part ++ 10 ∷ [])
fed_answered (Ok u) old state line new part is none answered = along_answered old state line new part is none answered
fed_answered (Err stop.Memory) old state line new part is none answered = short_none old state new (part ++ 10 ∷ []) answered
fed_answered (Err stop.Fault) old state line new part is none answered = stopped_answered old state line new part is none answered

-- an open prefix that is a fault with any continuation of its line
pub stopped_front : (r : Result (Unit {0}) Stop) (old : Script) (state : State) (new : Script) (part : List ℕ) (reason : Why)
    → HasNoNewline (old.line.items ++ part) → 0 < length part
    → ((more : List ℕ) → Means old.number state ((old.line.items ++ part) ++ more) (Wrong reason))
    → Faults r reason old new → Feeds r old state new part
stopped_front (Ok u) old state new part reason none some means reported = absurd reported
stopped_front (Err stop.Memory) old state new part reason none some means reported = short_none old state new part reported
stopped_front (Err stop.Fault) old state new part reason none some means reported = record {
  bytes = fault_line old.number reason;
  out = reported;
  reported = λ more.
      let front = old.line.items ++ part in
      let first = open_front front more none (omega (arith, length-append old.line.items part)) in
      let text : lines_of (old.line.items ++ (part ++ more)) ≡ (front ++ first.more) ∷ first.others =
      ap lines_of (sym (append_assoc old.line.items part more)) ∙ first.is in
      rw text (Wrong reason, means first.more, (refl, refl));
}

-- the open line is the last one
pub closed_answered : (r : Result (Unit {0}) Stop) (old : Script) (state : State) (new : Script) → HasNoNewline old.line.items
    → 0 < length old.line.items → Answered r old state old.line.items new → Closes r old state new
closed_answered (Ok u) old state new none some answered = let t = answered.reported in record {
  bytes = t.bytes;
  out = t.out;
  reported =
      let reported : IsTranscript old.number state (old.line.items ∷ []) (t.bytes ++ []) end.Whole = t.reported [] [] end.Whole (refl, refl) in
      let reported' : IsTranscript old.number state (old.line.items ∷ []) t.bytes end.Whole = rw (append-nil t.bytes) at reported in
      rw (last_line old.line.items none some) reported';
}
closed_answered (Err stop.Memory) old state new none some answered = short_none old state new [] answered
closed_answered (Err stop.Fault) old state new none some answered = record {
  bytes = answered.bytes;
  out = answered.out;
  reported = rw (last_line old.line.items none some) (answered.reported []);
}

-- a part that isn't read
part_refused : (reason : Stop) (old : Script) (state : State) (mid new : Script) (chunk part rest : List ℕ)
    (a : IsAlong old state mid chunk (part ++ rest)) → Feeds (Err reason) mid a.next new part → Feeds (Err reason) old state new chunk
part_refused stop.Memory old state mid new chunk part rest a fed = along_short old state mid new chunk part rest a fed
part_refused stop.Fault old state mid new chunk part rest a fed = along_stopped old state mid new chunk part rest a fed

-- one turn: the line that ends in the chunk is answered
pub turn_done : (old : Script) (state : State) (mid new : Script) (chunk rest part back : List ℕ)
    → rest ≡ part ++ 10 ∷ back → IsAlong old state mid chunk rest
    → ((s : State) → MatchesState mid.bench s → IsAlong mid s new (part ++ 10 ∷ []) []) → IsAlong old state new chunk back
turn_done old state mid new chunk rest part back cut along fed =
    let a : IsAlong old state mid chunk ((part ++ 10 ∷ []) ++ back) = rw (cut ∙ sym (append_assoc part (10 ∷ []) back)) at along in
    along_more old state mid new chunk (part ++ 10 ∷ []) back a (fed a.next a.matches)

-- one turn: the line that ends in the chunk isn't answered
pub turn_stopped : (reason : Stop) (old : Script) (state : State) (mid new : Script) (chunk rest part back : List ℕ)
    → rest ≡ part ++ 10 ∷ back → IsAlong old state mid chunk rest
    → ((s : State) → MatchesState mid.bench s → Feeds (Err reason) mid s new (part ++ 10 ∷ [])) → Feeds (Err reason) old state new chunk
turn_stopped reason old state mid new chunk rest part back cut along fed =
    let a : IsAlong old state mid chunk ((part ++ 10 ∷ []) ++ back) = rw (cut ∙ sym (append_assoc part (10 ∷ []) back)) at along in
    part_refused reason old state mid new chunk (part ++ 10 ∷ []) back a (fed a.next a.matches)

-- the last part of the chunk
pub last_part : (r : Result (Unit {0}) Stop) (old : Script) (state : State) (mid new : Script) (chunk rest : List ℕ)
    → IsAlong old state mid chunk rest → ((s : State) → MatchesState mid.bench s → Feeds r mid s new rest) → Feeds r old state new chunk
last_part (Ok u) old state mid new chunk rest along fed =
    let a : IsAlong old state mid chunk (rest ++ []) = rw (append-nil rest) along in
    along_more old state mid new chunk rest [] a (fed a.next a.matches)
last_part (Err stop.Memory) old state mid new chunk rest along fed =
    let a : IsAlong old state mid chunk (rest ++ []) = rw (append-nil rest) along in
    along_short old state mid new chunk rest [] a (fed a.next a.matches)
last_part (Err stop.Fault) old state mid new chunk rest along fed =
    let a : IsAlong old state mid chunk (rest ++ []) = rw (append-nil rest) along in
    along_stopped old state mid new chunk rest [] a (fed a.next a.matches)

-- the open line took its last bytes in, and then was answered
pub end_answered : (r : Result (Unit {0}) Stop) (old : Script) (state : State) (mid new : Script) (part : List ℕ) → MatchesState old.bench state
    → IsAlong old state mid part [] → HasNoNewline mid.line.items → ((s : State) → MatchesState mid.bench s → Answered r mid s mid.line.items new)
    → Feeds r old state new (part ++ 10 ∷ [])
unfolding along_start
end_answered r old state mid new part matches taken none answered =
    let a : IsAlong old state mid (part ++ 10 ∷ []) (10 ∷ []) =
    along_more old state old mid (part ++ 10 ∷ []) part (10 ∷ []) (along_start old state (part ++ 10 ∷ []) matches) taken in
    last_part r old state mid new (part ++ 10 ∷ []) (10 ∷ []) a (λ s matches.
    fed_answered r mid s mid.line.items new [] (append-nil mid.line.items) none (answered s matches))

-- or it refused its last bytes
pub end_refused : (reason : Stop) (old : Script) (state : State) (new : Script) (part : List ℕ) → MatchesState old.bench state
    → Feeds (Err reason) old state new part → Feeds (Err reason) old state new (part ++ 10 ∷ [])
unfolding along_start
end_refused reason old state new part matches fed =
    part_refused reason old state old new (part ++ 10 ∷ []) part (10 ∷ []) (along_start old state (part ++ 10 ∷ []) matches) fed

-- bytes after a line that is too long make it no shorter
pub too_long : (line part more : List ℕ) → 131200 < length line + length part → most_bytes < length ((line ++ part) ++ more)
too_long line part more long = omega (arith, length-append (line ++ part) more, length-append line part)

-- no line ends in two texts together if none ends in either
pub open_more : (line part : List ℕ) → HasNoNewline line → HasNoNewline part → HasNoNewline (line ++ part)
open_more line part first second = All-append (λ byte. (byte == 10) ≡ false) line part first second

-- what isn't found empty has bytes
pub not_empty : (n : ℕ) (empty : Bool) → empty ≡ (n == 0) → empty ≡ false → 0 < n
not_empty n empty reported is = grind arith

-- and what is found empty has none
pub empty_line : (n : ℕ) (line : List ℕ) (empty : Bool) → n ≡ length line → empty ≡ (n == 0) → empty ≡ true → line ≡ []
empty_line n [] empty long reported is = refl
empty_line n (x ∷ line) empty long reported is = absurd (grind (arith, long))
