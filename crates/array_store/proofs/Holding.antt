-- What a call of the array makes of the disk's bytes, and what it leaves as it is.
use Rattle.std.specs.Prelude.{IfOk, OnOk, OnErr}
use Rattle.std.proofs.Common.{◌≡◌, ℕ, List, ◌++◌, append_assoc, replicate, Option, Some, None, Result, Ok, Err, refl, sym, ap, ◌∙◌, subst}
use Rattle.map_join.specs.declared.records.Record.{Record}
use Rattle.map_join.specs.Maps.{IsMapOf, IsSame}
use Rattle.slot_tables.specs.Views.{key_at}
use Rattle.flat_machine.proofs.Newest.{map_unique}
use Rattle.flat_machine.specs.declared.refusal.Refusal.{Refusal}
use Rattle.flat_machine.specs.Flat.{Flat, Content, bytes_of, last_write}
use Rattle.flat_machine.specs.Steps as step
use Rattle.step_core.specs.Reported.{read_answer}
use Rattle.tiered_array.specs.Room.{AlwaysCase, AlwaysStops, SpareCase, SpareStops}
use Rattle.tiered_array.specs.Matches.{RepresentsTiers}
use Rattle.tiered_array.specs.Steps.{StepAlone}
use Rattle.tiered_array.specs.Tiered.{Tiered}
use Rattle.tiered_array.specs.Views.{TiersView}
use Rattle.tiered_array.specs.declared.outcome.Outcome.{Outcome}
use Rattle.array_store.specs.Blocks.{block_bytes, Holds, IsBlockOf, IsPut}
use Rattle.array_store.specs.Stores.{Follows, IsAfter}
use Rattle.array_store.proofs.Reading.{found_bytes, nothing_bytes, read_keeps}
use Rattle.array_store.proofs.Showing.{adds_shows, keeps_shows, block_read}
use Rattle.flat_machine.specs.Cases.{Leaves}
use Rattle.flat_machine.specs.Shortened.{IsShortened}
use Rattle.array_store.proofs.Writing.{KeepsDrives, Keeps, Adds, Wrote, kept_after, onward_more, wrote_state, keeps_left, keeps_same, keeps_shortened, wrote_drives, always_wrote, always_stops_keep, spare_keeps, spare_stops_keep}

-- the state's payloads are as long as the array's
pub payload_is : (t : TiersView) (T : Tiered) → RepresentsTiers t T → T.flat.groups.payload ≡ t.world.array.parts.groups.payload
payload_is t T matches = ap (λ g. g.payload) matches.world.array.tables.groups

-- a call: of any state that the array represents before it there is one that it represents after it, and the two are so related
abbrev pub Makes : TiersView → TiersView → (Flat → Flat → Type 0) → Type 0
Makes t u Turns = (T : Tiered) → RepresentsTiers t T → (U : Tiered) × Turns T.flat U.flat × RepresentsTiers u U

-- an array has the groups and drives of the states that it represents
pub follows_of : (t u : TiersView) (T U : Tiered) → RepresentsTiers t T → RepresentsTiers u U → KeepsDrives T.flat U.flat → Makes t u IsAfter → Follows t u
follows_of t u T U old new keeps makes =
    let was = old.world.array.tables in
    let is = new.world.array.tables in
    record {
      groups = sym is.groups ∙ (keeps.groups ∙ was.groups);
      many = sym is.drives ∙ (keeps.many ∙ was.drives);
      lost = λ d before. ap (λ f. f d) (sym is.lost) ∙ keeps.lost d (ap (λ f. f d) was.lost ∙ before);
      after = λ S matches. let done = makes S matches in (done.0, done.2, done.1);
    }

pub follows_same : (t : TiersView) → Follows t t
follows_same t = record {
  groups = refl;
  many = refl;
  lost = λ d is. is;
  after = λ T matches. (T, matches, kept_after T.flat T.flat (keeps_same T.flat T.flat refl));
}

-- states one after another
after_more : (F G H : Flat) → IsAfter F G → IsAfter G H → IsAfter F H
after_more F G H a b = record {
  more = a.more ++ b.more;
  writes = b.writes ∙ ap (λ ws. ws ++ b.more) a.writes ∙ append_assoc F.writes a.more b.more;
  records = onward_more F.emitted G.emitted H.emitted a.records b.records;
}

pub follows_more : (t u v : TiersView) → Follows t u → Follows u v → Follows t v
follows_more t u v a b = record {
  groups = b.groups ∙ a.groups;
  many = b.many ∙ a.many;
  lost = λ d before. b.lost d (a.lost d before);
  after = λ T matches.
      let first = a.after T matches in
      let second = b.after first.0 first.1 in (second.0, second.1, after_more T.flat first.0.flat second.0.flat first.2 second.2);
}

-- a call without a write leaves the bytes, the groups and the drives
pub kept_holds : (t u : TiersView) → Makes t u Keeps → (bytes : List ℕ) → Holds t bytes → Holds u bytes
kept_holds t u makes bytes holds =
    let T = holds.state in
    let done = makes T holds.matches in
    record { state = done.0; matches = done.2; shows = keeps_shows T.flat done.0.flat bytes done.1 holds.shows }

pub kept_follows : (t u : TiersView) → Makes t u Keeps → (bytes : List ℕ) → Holds t bytes → Follows t u
kept_follows t u makes bytes holds =
    let done = makes holds.state holds.matches in
    follows_of t u holds.state done.0 holds.matches done.2 done.1.drives (λ T matches. let next = makes T matches in (next.0, kept_after T.flat next.0.flat next.1, next.2))

-- what a write does for any worker
abbrev pub DoesWrite : TiersView → TiersView → ℕ → Content → Outcome → Type 0
DoesWrite t u b x o = (w : ℕ) (T : Tiered) → RepresentsTiers t T → (U : Tiered) × AlwaysCase T w b x o U × RepresentsTiers u U

pub wrote_makes : (t u : TiersView) (b : ℕ) (x : Content) (o : Outcome) → DoesWrite t u b x o → Makes t u (λ F G. Wrote o F G b x)
wrote_makes t u b x o does T matches = let done = does 0 T matches in (done.0, always_wrote T done.0 0 b x o done.1, done.2)

-- a write that is placed
pub placed_holds : (t u : TiersView) (b : ℕ) (x : Content) → Makes t u (λ F G. Adds F G b x)
    → (bytes new : List ℕ) → Holds t bytes → IsPut t.world.array.parts.groups.payload bytes b (bytes_of t.world.array.parts.groups.payload x) new → Holds u new
placed_holds t u b x makes bytes new holds put =
    let T = holds.state in
    let done = makes T holds.matches in
    let is = payload_is t T holds.matches in
    record {
      state = done.0;
      matches = done.2;
      shows = adds_shows T.flat done.0.flat b x bytes new done.1 holds.shows (subst (λ n. IsPut n bytes b (bytes_of n x) new) (sym is) put);
    }

-- a write leaves groups and drives, whatever its outcome
pub wrote_follows : (t u : TiersView) (b : ℕ) (x : Content) (o : Outcome) → DoesWrite t u b x o → (bytes : List ℕ) → Holds t bytes → Follows t u
wrote_follows t u b x o does bytes holds =
    let T = holds.state in
    let done = wrote_makes t u b x o does T holds.matches in
    follows_of t u T done.0 holds.matches done.2 (wrote_drives o T.flat done.0.flat b x done.1)
    (λ S matches. let next = wrote_makes t u b x o does S matches in (next.0, wrote_state o S.flat next.0.flat b x next.1, next.2))

-- one that ran out of memory is none
pub stopped_makes : (t u : TiersView) (b : ℕ) (x : Content) → ((w : ℕ) (T : Tiered) → RepresentsTiers t T → (U : Tiered) × AlwaysStops T w b x U × RepresentsTiers u U) → Makes t u Keeps
stopped_makes t u b x stops T matches = let done = stops 0 T matches in (done.0, always_stops_keep T done.0 0 b x done.1, done.2)

-- what a read does
abbrev pub DoesRead : TiersView → TiersView → ℕ → Result (Option ℕ) Refusal → List ℕ → Type 0
DoesRead t u b r payload = (T : Tiered) → RepresentsTiers t T → (U : Tiered) × StepAlone T (step.Read b) (read_answer r payload) U × RepresentsTiers u U

-- a read makes no write
pub read_makes : (t u : TiersView) (b : ℕ) (r : Result (Option ℕ) Refusal) (payload : List ℕ) → DoesRead t u b r payload → Makes t u Keeps
read_makes t u b r payload does T matches =
    let done = does T matches in
    let same : done.0.flat ≡ done.1.0 = ap (λ (z : Tiered). z.flat) done.1.2 in
    (done.0, subst (Keeps T.flat) (sym same) (read_keeps T.flat done.1.0 b r payload done.1.1), done.2)

-- a read that finds a payload, and one that finds nothing
pub found_block : (t u : TiersView) (b n : ℕ) (payload : List ℕ) → DoesRead t u b (Ok (Some n)) payload
    → (bytes : List ℕ) → Holds t bytes → IsBlockOf t.world.array.parts.groups.payload bytes b payload
found_block t u b n payload does bytes holds =
    let T = holds.state in
    let done = does T holds.matches in
    let is : payload ≡ block_bytes T.flat.groups.payload T.flat.writes b = found_bytes T.flat.groups.payload n payload (last_write T.flat.writes b) done.1.1.0 in
    subst (λ m. IsBlockOf m bytes b payload) (payload_is t T holds.matches) (block_read T.flat.groups.payload T.flat.writes b bytes payload holds.shows is)

pub nothing_block : (t u : TiersView) (b : ℕ) (payload out : List ℕ) → DoesRead t u b (Ok None) payload → out ≡ replicate t.world.array.parts.groups.payload 0
    → (bytes : List ℕ) → Holds t bytes → IsBlockOf t.world.array.parts.groups.payload bytes b out
nothing_block t u b payload out does zeros bytes holds =
    let T = holds.state in
    let done = does T holds.matches in
    let size = payload_is t T holds.matches in
    let is : out ≡ block_bytes T.flat.groups.payload T.flat.writes b =
    zeros ∙ (ap (λ n. replicate n 0) (sym size) ∙ nothing_bytes T.flat.groups.payload (last_write T.flat.writes b) done.1.1.0) in
    subst (λ m. IsBlockOf m bytes b out) size (block_read T.flat.groups.payload T.flat.writes b bytes out holds.shows is)

-- nor does a sync
pub synced_makes : (t u : TiersView) → ((T : Tiered) → RepresentsTiers t T → (G : Flat) × Leaves T.flat G × RepresentsTiers u (record T { flat = G })) → Makes t u Keeps
synced_makes t u does T matches = let done = does T matches in (record T { flat = done.0 }, keeps_left T.flat done.0 done.1, done.2)

-- and it leaves the block map
pub synced_keys : (t u : TiersView) → ((T : Tiered) → RepresentsTiers t T → (G : Flat) × Leaves T.flat G × RepresentsTiers u (record T { flat = G }))
    → (T : Tiered) → RepresentsTiers t T → IsSame (key_at u.world.array) (key_at t.world.array)
synced_keys t u does T matches =
    let done = does T matches in
    let log : done.0.emitted ≡ T.flat.emitted = ap (λ (x : Flat). x.emitted) done.1.same in
    map_unique T.flat.emitted T.flat.emitted (key_at u.world.array) (key_at t.world.array) (λ r. ((λ has. has), (λ has. has)))
    (subst (λ (l : List Record). IsMapOf l (key_at u.world.array)) log done.2.world.array.history.map) matches.world.array.history.map

-- nor does a spare slot change them
pub spared_makes : {E : Type 0} (t u : TiersView) (r : Result Outcome E)
    → ((w : ℕ) → IfOk r (λ o. (T : Tiered) → RepresentsTiers t T → (U : Tiered) × SpareCase T w o U × RepresentsTiers u U))
    → ((w : ℕ) → OnErr r ((T : Tiered) → RepresentsTiers t T → (U : Tiered) × SpareStops T w U × RepresentsTiers u U)) → Makes t u Keeps
spared_makes t u (Ok o) does stops T matches = let done = does 0 T matches in (done.0, spare_keeps T done.0 0 o done.1, done.2)
spared_makes t u (Err e) does stops T matches = let done = stops 0 T matches in (done.0, spare_stops_keep T done.0 0 done.1, done.2)

-- nor a shorter log
pub shortened_makes : {E : Type 0} (t u : TiersView) (r : Result (Unit {0}) E)
    → OnOk r ((T : Tiered) → RepresentsTiers t T → (G : Flat) × IsShortened T.flat G × RepresentsTiers u (record T { flat = G })) → OnErr r (u ≡ t) → Makes t u Keeps
shortened_makes t u (Ok _) does same T matches = let done = does T matches in (record T { flat = done.0 }, keeps_shortened T.flat done.0 (key_at t.world.array) matches.world.array.history done.1, done.2)
shortened_makes t u (Err e) does same T matches = (T, keeps_same T.flat T.flat refl, subst (λ (v : TiersView). RepresentsTiers v T) (sym same) matches)
