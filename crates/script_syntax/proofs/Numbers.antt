-- Numbers among words, read from the left.
use Rattle.std.proofs.Common.{◌≡◌, ℕ, ◌+◌, ◌<◌, ◌==◌, Bool, true, false, List, [], ◌∷◌, ◌++◌, length, refl, sym, ap, ◌∙◌, not, is_some, arith, map, decimal, take, Option, None, Some, append_assoc, length-append}
use Rattle.std.specs.Borrow.{Bor}
use Rattle.std.specs.Bool.{IsTrue}
use Rattle.std.specs.List.{AllByRecursion}
use Rattle.std.proofs.Math.ListN.{set}
use Rattle.std.proofs.lemmas.List.{length-map, map-append, take_more_set}
use Rattle.std.proofs.lemmas.List.Splits.{length-slice_split}
use Rattle.script_syntax.specs.Number.{IsWritable}
use Rattle.script_syntax.specs.Parts.{parts, text_of}
use Rattle.script_syntax.specs.Words.{words_left}

-- a text always has a part
pub some_part : (separator : ℕ) (text : List ℕ) → parts separator text ≡ [] → ⊥
some_part separator text e =
    let parts_are = length-slice_split (λ byte. byte == separator) text in
    let none : length (parts separator text) ≡ 0 = ap length e in
    omega arith

-- no text is left if and only if no words are left
pub nothing_left : (text : Option (Bor (List ℕ))) (b : Bool) → is_some text ≡ not b
    → (IsTrue b → words_left (text_of text) ≡ []) × (words_left (text_of text) ≡ [] → IsTrue b)
nothing_left None true h = (λ _. refl, λ _. refl)
nothing_left None false h = absurd (cc)
nothing_left (Some text) true h = absurd (cc)
nothing_left (Some text) false h = (λ e. cc e, λ e. absurd (some_part 32 text.now e))

-- one number more
writable_end : (ns : List ℕ) (n : ℕ) → AllByRecursion IsWritable ns → IsWritable n → AllByRecursion IsWritable (ns ++ n ∷ [])
writable_end [] n all one = (one, tt)
writable_end (m ∷ ns) n all one = (all.0, writable_end ns n all.1 one)

pub writable_more : (ns : List ℕ) (place n : ℕ) → place < length ns → AllByRecursion IsWritable (take place ns) → IsWritable n
    → AllByRecursion IsWritable (take (place + 1) (set ns place n))
writable_more ns place n below all one = rw take_more_set (writable_end (take place ns) n all one)

pub spelled_more : (ns : List ℕ) (place n : ℕ) (ws left back : List (List ℕ)) → place < length ns
    → ws ≡ map decimal (take place ns) ++ left → left ≡ decimal n ∷ back
    → ws ≡ map decimal (take (place + 1) (set ns place n)) ++ back
spelled_more ns place n ws left back below spelled here =
    let ended : map decimal (take place ns ++ n ∷ []) ≡ map decimal (take place ns) ++ decimal n ∷ [] = map-append decimal (take place ns) (n ∷ []) in
    rw (take_more_set, ended, append_assoc) (spelled ∙ ap (λ xs. map decimal (take place ns) ++ xs) here)

-- after the first numbers comes the next one
pub number_next : (all before : List ℕ) (ws rest left : List (List ℕ)) → AllByRecursion IsWritable all
    → length before < length all → ws ≡ map decimal all ++ rest → ws ≡ map decimal before ++ left
    → (n : ℕ) × (more : List (List ℕ)) × IsWritable n × (left ≡ decimal n ∷ more)
number_next all before ws rest left writable less one two = go all before writable less (sym one ∙ two)
  where
    go : (all before : List ℕ) → AllByRecursion IsWritable all → length before < length all
        → map decimal all ++ rest ≡ map decimal before ++ left → (n : ℕ) × (more : List (List ℕ)) × IsWritable n × (left ≡ decimal n ∷ more)
    go [] before writable less e = absurd (omega arith)
    go (n ∷ all) [] writable less e = (n, map decimal all ++ rest, writable.0, sym e)
    go (n ∷ all) (b ∷ before) writable less e = go all before writable.1 (omega arith) (cc)

-- there are no more numbers than words
pub number_short : (all before : List ℕ) (ws rest back : List (List ℕ)) → length before < length all → ws ≡ map decimal all ++ rest
    → ws ≡ map decimal before ++ back → back ≡ [] → ⊥
number_short all before ws rest back less one two none =
    let first = simp (length-map, length-append) at (ap length one) in
    let second = simp (length-map, length-append) at (ap length two) in
    let nothing = ap length none in omega arith

-- after equally many numbers the same words follow
pub rest_again : (ns ms : List ℕ) (back rest : List (List ℕ)) → length ns ≡ length ms → map decimal ns ++ back ≡ map decimal ms ++ rest
    → back ≡ rest
rest_again [] [] back rest same e = e
rest_again [] (m ∷ ms) back rest same e = absurd (omega arith)
rest_again (n ∷ ns) [] back rest same e = absurd (omega arith)
rest_again (n ∷ ns) (m ∷ ms) back rest same e = rest_again ns ms back rest (omega arith) (cc)
