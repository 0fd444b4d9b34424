-- A write of a block, seen in the disk's bytes.
use Rattle.std.proofs.Common.{◌≡◌, ◌⊎◌, inl, inr, ℕ, ◌/◌, ◌%◌, ◌<◌, List, [], ◌∷◌, ◌++◌, length, slice_index, sym, ap, ◌∙◌, subst, Some, arith}
use Rattle.std.proofs.lemmas.Bool.{cases_eq}
use Rattle.flat_machine.specs.Flat.{Flat, Write, Content, bytes_of, last_write}
use Rattle.flat_machine.proofs.Writes.{last_here, last_else}
use Rattle.array_store.specs.Blocks.{bytes_in, block_bytes, SpansBlocks, IsBlockOf, IsPut}
use Rattle.array_store.proofs.Writing.{Keeps, Adds}

-- one write more shows in its block alone
pub push_shows : (size : ℕ) (writes : List Write) (w : Write) (old new : List ℕ) → SpansBlocks size writes old → IsPut size old w.block (bytes_of size w.content) new
    → SpansBlocks size (writes ++ w ∷ []) new
push_shows size writes w old new shows put = record { each = λ i below. go i below (cases_eq (i / size) w.block) }
  where
    within : (i : ℕ) → i < length new → i < length old
    within i below = let same = put.long in omega arith

    go : (i : ℕ) → i < length new → (i / size ≡ w.block) ⊎ (i / size ≡ w.block → ⊥)
        → slice_index new i ≡ slice_index (block_bytes size (writes ++ w ∷ []) (i / size)) (i % size)
    go i below (inl e) =
        let last : last_write (writes ++ w ∷ []) (i / size) ≡ Some w = ap (last_write (writes ++ w ∷ [])) e ∙ last_here writes w in
        put.here i (within i below) e ∙ ap (λ o. slice_index (bytes_in size o) (i % size)) (sym last)
    go i below (inr ne) =
        put.others i (within i below) ne ∙ (shows.each i (within i below)
        ∙ ap (λ o. slice_index (bytes_in size o) (i % size)) (sym (last_else writes w (i / size) ne)))

pub adds_shows : (F G : Flat) (b : ℕ) (x : Content) (old new : List ℕ) → Adds F G b x → SpansBlocks F.groups.payload F.writes old
    → IsPut F.groups.payload old b (bytes_of F.groups.payload x) new → SpansBlocks G.groups.payload G.writes new
adds_shows F G b x old new adds shows put =
    let pushed = push_shows F.groups.payload F.writes (record { block = b; version = adds.version; content = x }) old new shows put in
    let here : SpansBlocks F.groups.payload G.writes new = subst (λ ws. SpansBlocks F.groups.payload ws new) (sym adds.writes) pushed in
    subst (λ n. SpansBlocks n G.writes new) (sym (ap (λ g. g.payload) adds.drives.groups)) here

pub keeps_shows : (F G : Flat) (bytes : List ℕ) → Keeps F G → SpansBlocks F.groups.payload F.writes bytes → SpansBlocks G.groups.payload G.writes bytes
keeps_shows F G bytes keeps shows =
    let here : SpansBlocks F.groups.payload G.writes bytes = subst (λ ws. SpansBlocks F.groups.payload ws bytes) (sym keeps.writes) shows in
    subst (λ n. SpansBlocks n G.writes bytes) (sym (ap (λ g. g.payload) keeps.drives.groups)) here

-- a block that was read, and its bytes of the disk
pub block_read : (size : ℕ) (writes : List Write) (b : ℕ) (bytes out : List ℕ) → SpansBlocks size writes bytes → out ≡ block_bytes size writes b → IsBlockOf size bytes b out
block_read size writes b bytes out shows is = record {
  each = λ i below e.
      ap (λ xs. slice_index xs (i % size)) (is ∙ ap (block_bytes size writes) (sym e)) ∙ sym (shows.each i below);
}
