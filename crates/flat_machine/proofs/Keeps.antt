-- Each case of the flat machine keeps what is true of every state.
use Rattle.std.proofs.Common.{◌≡◌, ℕ, ◌+◌, ◌<◌, ◌≤◌, ◌/◌, ◌%◌, is_some, Bool, true, false, List, [], ◌∷◌, ◌++◌, length, Contains, refl, sym, ap, ◌∙◌, subst, arith, ◌⊎◌, inl, inr, Option, Some, None}
use Rattle.std.proofs.lemmas.List.Elements.{Contains-append_left, Contains-push_cases}
use Rattle.std.proofs.lemmas.Option.{same_Some}
use Rattle.map_join.specs.declared.records.Record.{Record}
use Rattle.map_join.specs.Record.{key_of, stamp, stamp_in, IsRecord}
use Rattle.map_join.specs.Maps.{IsMapOf}
use Rattle.extents.specs.Failures.{Failures, no_failures}
use Rattle.extents.proofs.Failures.{counts_same, steady_same}
use Rattle.extent_groups.specs.declared.class.Class.{Class}
use Rattle.extent_groups.specs.declared.class.Class.TheVariants.{Mirrored}
use Rattle.extent_groups.specs.declared.class.Member.{Member}
use Rattle.flat_machine.specs.declared.refusal.Refusal.TheVariants.{NoGroup, WrongClass, InUse, NoTicket, Outrun, VersionSpent, HopsSpent, Unwritten, Gone, SlotsHeld, DriveLost, Ahead, ExtentTaken, SameDrive, LogFull, Full, BadMember}
use Rattle.extent_groups.specs.Groups.{Groups}
use Rattle.extent_groups.proofs.Fresh.{free_groups, no_members}
use Rattle.flat_machine.specs.Groups.{AreSizes, IsEmpty, class_below}
use Rattle.flat_machine.specs.Flat.{Flat, for_ticket, Write, Content, Payload, Trim, bytes_of, IsSized, Ticket, Waiting, Fresh, Moved, waiting_unit, class_of, last_write, IsNewest, new_flat, put}
use Rattle.flat_machine.specs.Steps.{FlatStep, Claim, Release, Fill, Copy, Commit, Discard, Read, ReadAt, Make, Unmake, MoveExtent, AddDrive, Lose, FlatAnswer, Claimed, Taken, Released, NotHeld, Filled, Copied, Committed, Discarded, Found, FoundAt, MadeGroup, UnmadeGroup, MovedExtent, AddedDrive, LostDrive, Refused}
use Rattle.flat_machine.specs.Cases.{Case, ClaimCase, ReleaseCase, FillCase, CopyCase, CommitCase, CommitWith, DiscardCase, ReadCase, ReadAtCase, MakeCase, UnmakeCase, MoveCase, AddCase, LoseCase, Leaves, WasOrGotLost, IsFor, HasCopiedStamp, next_version, last_version, longest_log, committed, CopyPasses}
use Rattle.flat_machine.specs.History.{IsWrite, IsWriteOf, IsCopy, IsHistory, IsValidStep}
use Rattle.flat_machine.proofs.Newest.{newest_key, newest_zero, newest_record, same_map, key_least}
use Rattle.flat_machine.proofs.Writes.{last_here, last_else, last_there, write_chained, write_most}
use Rattle.flat_machine.proofs.Claims.{claim_keeps, release_keeps}
use Rattle.flat_machine.proofs.Tickets.{ticket_keeps, discard_keeps}
use Rattle.flat_machine.proofs.Commits.{emitted_by, IsReady, commit_keeps}
use Rattle.flat_machine.proofs.Makes.{make_keeps}
use Rattle.flat_machine.proofs.Unmakes.{unmake_keeps}
use Rattle.flat_machine.proofs.Regroups.{move_keeps, add_keeps}
use Rattle.flat_machine.proofs.Slots.{history_as}

-- a content fits where its bytes do
fits_bytes : (size : ℕ) (x : Content) → length (bytes_of size x) ≡ size → IsSized size x
fits_bytes size (Payload x) e = e
fits_bytes size Trim e = tt

next_positive : (o : Option Record) → 0 < next_version o
next_positive None = omega arith
next_positive (Some q) = omega arith

-- the next version's stamp is above the block's key
fresh_above : (F : Flat) (keys : ℕ → ℕ) (b : ℕ) (found : Option Record) → IsHistory F keys → IsNewest F.emitted b found → stamp_in (keys b) < stamp (next_version found) 0
fresh_above F keys b None is newest = let e = newest_zero F.emitted keys b is.map newest in omega arith
fresh_above F keys b (Some q) is newest =
    let e = newest_key F.emitted keys b q is.map newest in
    let r = is.records q newest.0 in
    let h = r.hop in let p = r.place in
    omega arith

-- the last write of a block has its newest record's version
pub last_version_is : (F : Flat) (keys : ℕ → ℕ) (b : ℕ) (found : Option Record) (x : Write) → IsHistory F keys → IsNewest F.emitted b found → last_write F.writes b ≡ Some x
    → next_version found ≡ x.version + 1
last_version_is F keys b None x is newest last =
    let bad : None ≡ Some x = sym ((is.written b).0 (newest_zero F.emitted keys b is.map newest)) ∙ last in absurd (cc)
last_version_is F keys b (Some q) x is newest last =
    let k = newest_key F.emitted keys b q is.map newest in
    let big = key_least q (is.records q newest.0) in
    let y = (is.written b).1 (omega arith) in
    let same : y.0 ≡ x = same_Some y.0 x (sym y.1 ∙ last) in
    let version : x.version ≡ q.version =
    ap (λ (z : Write). z.version) (sym same) ∙ y.2.version ∙ ap (λ (r : Record). r.version) (newest_record F.emitted keys b q is.records is.map newest)
    in
    omega arith

-- no record of the block has the next version
unused : (F : Flat) (keys : ℕ → ℕ) (b : ℕ) (found : Option Record) → IsHistory F keys → IsNewest F.emitted b found → (q : Record) → Contains F.emitted q → q.block ≡ b
    → q.version ≡ next_version found → ⊥
unused F keys b None is newest q has at e = newest q has at
unused F keys b (Some n) is newest q has at e =
    let below = newest.2 q has at in
    let r = is.records n newest.0 in
    let h = r.hop in let p = r.place in
    absurd (omega arith)

-- the record that a commit of a fresh content emits is in range
fresh_ok : (F : Flat) (keys : ℕ → ℕ) (w s b : ℕ) (found : Option Record) → IsHistory F keys → F.held s (Ticket w) ≡ true → b < F.groups.blocks → next_version found ≤ last_version
    → IsRecord (emitted_by b s (next_version found) 0)
fresh_ok F keys w s b found is mine block most =
    let one = next_positive found in
    let blocks = is.limits.sizes.some_blocks.1 in
    let slot = (is.holders s).inside (Ticket w) (for_ticket w) mine in
    record { block = omega arith; written = omega arith; version = omega arith; hop = omega arith; place = omega arith }

pub fresh_ready : (F : Flat) (keys : ℕ → ℕ) (w s b : ℕ) (found : Option Record) (x : Content) → IsHistory F keys → IsNewest F.emitted b found → F.tickets s ≡ Some (Fresh x)
    → F.held s (Ticket w) ≡ true → b < F.groups.blocks → next_version found ≤ last_version → length F.emitted < longest_log
    → IsReady F keys w s b found (Fresh x) (next_version found) 0 (F.writes ++ record { block = b; version = next_version found; content = x } ∷ [])
fresh_ready F keys w s b found x is newest ticket mine block most room = record {
  history = is;
  newest = newest;
  ticket = ticket;
  mine = mine;
  block = block;
  ok = fresh_ok F keys w s b found is mine block most;
  above = fresh_above F keys b found is newest;
  next = λ n e. inl (ap next_version e, refl);
  room = room;
  last = (new, last_here F.writes new, refl, refl);
  others = λ d ne. last_else F.writes new d ne;
  all = λ z has. all z (Contains-push_cases F.writes new z has);
  versions = write_chained [] F.writes new is.versions (λ z last. last_version_is F keys b found z is newest last);
  stays = λ z has. Contains-append_left F.writes (new ∷ []) z has;
  grown = λ z has. grown z (Contains-push_cases F.writes new z has);
}
  where
    new : Write
    new = record { block = b; version = next_version found; content = x }

    all : (z : Write) → (Contains F.writes z) ⊎ (new ≡ z) → IsWrite F.groups.payload z
    all z (inl old) = is.writes z old
    all z (inr e) = subst (IsWrite F.groups.payload) e (record {
      version = next_positive found;
      sized = fits_bytes F.groups.payload x ((is.units s).sized (waiting_unit F.groups.payload x) ((is.units s).blank (Fresh x) ticket));
    })

    grown : (z : Write) → (Contains F.writes z) ⊎ (new ≡ z) → (Contains F.writes z) ⊎ ((q : Record) → Contains F.emitted q → IsWriteOf q z → ⊥)
    grown z (inl old) = inl old
    grown z (inr e) = inr (λ q has of. unused F keys b found is newest q has
        (sym of.0 ∙ ap (λ (y : Write). y.block) (sym e)) (sym of.1 ∙ ap (λ (y : Write). y.version) (sym e)))

-- a copy's version and hop are the newest's
pub moved_ready : (F : Flat) (keys : ℕ → ℕ) (w s b : ℕ) (found : Option Record) (c v h : ℕ) (x : Content) → IsHistory F keys → IsNewest F.emitted b found
    → F.tickets s ≡ Some (Moved c v h x) → F.held s (Ticket w) ≡ true → c ≡ b → b < F.groups.blocks → HasCopiedStamp found v h → length F.emitted < longest_log
    → IsReady F keys w s b found (Moved c v h x) v (h + 1) F.writes
moved_ready F keys w s b None c v h x is newest ticket mine same block stamps room = absurd stamps
moved_ready F keys w s b (Some q) c v h x is newest ticket mine same block stamps room = record {
  history = is;
  newest = newest;
  ticket = ticket;
  mine = mine;
  block = block;
  ok =
      let blocks = is.limits.sizes.some_blocks.1 in
      let slot = (is.holders s).inside (Ticket w) (for_ticket w) mine in
      let written = ranges.written in let version = ranges.version in
      let hop = copy.hop in let e = stamps.0 in
      record { block = omega arith; written = omega arith; version = omega arith; hop = omega arith; place = omega arith };
  above = let k = key in let e = stamps.0 in let f = stamps.1 in let hop = ranges.hop in let place = ranges.place in omega arith;
  next = λ n e.
      let at : q ≡ n = same_Some q n e in
      inr (sym (ap (λ (r : Record). r.version) (sym at) ∙ stamps.0), ap (λ i. i + 1) (sym (ap (λ (r : Record). r.hop) (sym at) ∙ stamps.1)));
  room = room;
  last = last;
  others = λ d ne. refl;
  all = is.writes;
  versions = is.versions;
  stays = λ z has. has;
  grown = λ z has. inl has;
}
  where
    ranges : IsRecord q
    ranges = is.records q newest.0

    key : keys b ≡ key_of q
    key = newest_key F.emitted keys b q is.map newest

    copy : IsCopy F.writes b v h x (keys b)
    copy = subst (λ n. IsCopy F.writes n v h x (keys n)) same ((is.units s).rests (Moved c v h x) ticket)

    last : (y : Write) × (last_write F.writes b ≡ Some y) × (y.version ≡ v) × (y.content ≡ x)
    last =
        let most = write_most F.writes (record { block = b; version = v; content = x }) is.versions copy.write in
        let after = last_version_is F keys b (Some q) most.newest is newest most.last in
        let e = stamps.0 in
        let version : v ≡ most.newest.version = omega arith in
        (most.newest, most.last, sym version, ap (λ (z : Write). z.content) (sym (most.same version)))

-- drives that failed change nothing of it
pub fared : (F : Flat) (lost : ℕ → Bool) (failures : ℕ → Failures) (keys : ℕ → ℕ) → IsHistory F keys → IsHistory (record F { lost = lost; failures = failures }) keys
fared F lost failures keys is = history_as F keys is is.limits.least is.limits.most is.groups is.holders is.units (λ b has. (refl, has))

-- a state is what it leaves where nothing happens
pub itself : (x : Flat) → Leaves x x
itself x = record { same = refl; drives = λ d. record { stays = λ e. e; count = counts_same (x.lost d) (x.failures d); steady = steady_same (x.lost d) (x.failures d) } }

pub same_leaves : (F G : Flat) → G ≡ F → Leaves F G
same_leaves F G same = subst (Leaves F) (sym same) (itself F)

pub lost_leaves : (F G : Flat) (d : ℕ) → WasOrGotLost F d G → Leaves F G
lost_leaves F G d (inl was) = same_leaves F G was.1
lost_leaves F G d (inr got) = got.2

-- the same log, where drives failed
stays : (F G : Flat) (keys M : ℕ → ℕ) → IsHistory F keys → Leaves F G → IsMapOf G.emitted M → IsHistory G M
stays F G keys M is leaves map =
    subst (λ (E : Flat). IsHistory E M) (sym leaves.same) (fared F G.lost G.failures M
    (subst (IsHistory F) (same_map F.emitted keys M is.map (subst (λ (E : Flat). IsMapOf E.emitted M) leaves.same map)) is))

-- a longer log, where drives failed
grows : (F G : Flat) (M : ℕ → ℕ) (x : Flat) → Leaves x G → IsMapOf G.emitted M → (IsMapOf x.emitted M → IsHistory x M) → IsHistory G M
grows F G M x leaves map keeps =
    subst (λ (E : Flat). IsHistory E M) (sym leaves.same) (fared x G.lost G.failures M (keeps (subst (λ (E : Flat). IsMapOf E.emitted M) leaves.same map)))

commits : (F G : Flat) (keys M : ℕ → ℕ) (w s b : ℕ) (found : Option Record) (ticket : Option Waiting) (answer : FlatAnswer) → IsHistory F keys → b < F.groups.blocks
    → F.held s (Ticket w) ≡ true → IsFor ticket b → IsNewest F.emitted b found → F.tickets s ≡ ticket → CommitWith F w s b found ticket answer G → IsMapOf G.emitted M
    → IsHistory G M
commits F G keys M w s b found (Some (Fresh x)) (Refused VersionSpent) is block mine for newest ticket case map = stays F G keys M is case.1 map
commits F G keys M w s b found (Some (Fresh x)) (Refused LogFull) is block mine for newest ticket case map = stays F G keys M is case.2 map
commits F G keys M w s b found (Some (Fresh x)) (Refused (Gone t)) is block mine for newest ticket case map = stays F G keys M is case.4 map
commits F G keys M w s b found (Some (Fresh x)) (Committed r) is block mine for newest ticket case map =
    let writes : List Write = F.writes ++ record { block = b; version = next_version found; content = x } ∷ [] in
    let left : Leaves (committed F w s b found writes x (emitted_by b s (next_version found) 0)) G = subst (λ (n : Record). Leaves (committed F w s b found writes x n) G) case.3 case.4 in
    grows F G M (committed F w s b found writes x (emitted_by b s (next_version found) 0)) left map
    (commit_keeps F keys w s b found (Fresh x) (next_version found) 0 writes M (fresh_ready F keys w s b found x is newest ticket mine block case.0 case.1))
commits F G keys M w s b found (Some (Moved c v h x)) (Refused (Outrun n)) is block mine for newest ticket case map = stays F G keys M is case.2 map
commits F G keys M w s b found (Some (Moved c v h x)) (Refused LogFull) is block mine for newest ticket case map = stays F G keys M is case.2 map
commits F G keys M w s b found (Some (Moved c v h x)) (Refused (Gone t)) is block mine for newest ticket case map = stays F G keys M is case.4 map
commits F G keys M w s b found (Some (Moved c v h x)) (Committed r) is block mine for newest ticket case map =
    let left : Leaves (committed F w s b found F.writes x (emitted_by b s v (h + 1))) G = subst (λ (n : Record). Leaves (committed F w s b found F.writes x n) G) case.3 case.4 in
    grows F G M (committed F w s b found F.writes x (emitted_by b s v (h + 1))) left map
    (commit_keeps F keys w s b found (Moved c v h x) v (h + 1) F.writes M (moved_ready F keys w s b found c v h x is newest ticket mine for block case.0 case.1))
commits F G keys M w s b found _ _ is block mine for newest ticket case map = absurd case

claims : (F G : Flat) (keys M : ℕ → ℕ) (w s : ℕ) (answer : FlatAnswer) → IsHistory F keys → ClaimCase F w s answer G → IsMapOf G.emitted M → IsHistory G M
claims F G keys M w s (Claimed t) is case map = stays _ G keys M (claim_keeps F keys w s is) case.2 map
claims F G keys M w s (Taken t) is case map = stays F G keys M is case.2 map
claims F G keys M w s _ is case map = absurd case

releases : (F G : Flat) (keys M : ℕ → ℕ) (w s : ℕ) (answer : FlatAnswer) → IsHistory F keys → ReleaseCase F w s answer G → IsMapOf G.emitted M → IsHistory G M
releases F G keys M w s (Released t) is case map = stays _ G keys M (release_keeps F keys w s is) case.2 map
releases F G keys M w s (NotHeld t) is case map = stays F G keys M is case.2 map
releases F G keys M w s _ is case map = absurd case

fills : (F G : Flat) (keys M : ℕ → ℕ) (w s : ℕ) (x : Content) (answer : FlatAnswer) → IsHistory F keys → (s < 65536) × IsSized F.groups.payload x → FillCase F w s x answer G → IsMapOf G.emitted M
    → IsHistory G M
fills F G keys M w s x (NotHeld t) is fits case map = stays F G keys M is case.2 map
fills F G keys M w s x (Refused NoGroup) is fits case map = stays F G keys M is case.2 map
fills F G keys M w s x (Refused WrongClass) is fits case map = stays F G keys M is case.2 map
fills F G keys M w s x (Refused InUse) is fits case map = stays F G keys M is case.3 map
fills F G keys M w s x (Refused (Gone t)) is fits case map = stays F G keys M is case.3 map
fills F G keys M w s x (Filled t) is fits case map =
    let class : class_of F s ≡ Some Mirrored = case.1.1 in
    stays _ G keys M (ticket_keeps F keys w s (Fresh x) is fits.0 case.1.2 (λ none. let bad : None ≡ Some Mirrored = sym none ∙ class in cc) fits.1 class) case.3 map
fills F G keys M w s x _ is fits case map = absurd case

-- what a copy of the newest record's version and hop rests on
copy_rests : (F : Flat) (keys : ℕ → ℕ) (w s b : ℕ) (r : Record) (x : Write) → IsHistory F keys → CopyPasses F w s b r → last_write F.writes b ≡ Some x
    → IsCopy F.writes b r.version r.hop x.content (keys b)
copy_rests F keys w s b r x is passes last = record {
  written = let k = key in let big = key_least r ranges in omega arith;
  hop = passes.4;
  most = let k = key in let h = ranges.hop in let p = ranges.place in omega arith;
  write =
      let there = last_there F.writes b x last in
      let version : x.version ≡ r.version = let after = last_version_is F keys b (Some r) x is passes.3 last in omega arith in
      let W : ℕ → ℕ → Write = λ n v. record { block = n; version = v; content = x.content } in
      subst (λ v. Contains F.writes (W b v)) version (subst (λ n. Contains F.writes (W n x.version)) there.1 there.0);
}
  where
    ranges : IsRecord r
    ranges = is.records r passes.3.0

    key : keys b ≡ key_of r
    key = newest_key F.emitted keys b r is.map passes.3

write_sized : (F : Flat) (keys : ℕ → ℕ) (b : ℕ) (x : Write) → IsHistory F keys → last_write F.writes b ≡ Some x → IsSized F.groups.payload x.content
write_sized F keys b x is last = (is.writes x (last_there F.writes b x last).0).sized

copies : (F G : Flat) (keys M : ℕ → ℕ) (w s b : ℕ) (answer : FlatAnswer) → IsHistory F keys → s < 65536 → CopyCase F w s b answer G → IsMapOf G.emitted M → IsHistory G M
copies F G keys M w s b (NotHeld t) is inside case map = stays F G keys M is case.2 map
copies F G keys M w s b (Refused NoGroup) is inside case map = stays F G keys M is case.2 map
copies F G keys M w s b (Refused InUse) is inside case map = stays F G keys M is case.3 map
copies F G keys M w s b (Refused Unwritten) is inside case map = stays F G keys M is case.4 map
copies F G keys M w s b (Refused HopsSpent) is inside case map = stays F G keys M is case.4 map
copies F G keys M w s b (Refused (Gone t)) is inside case map = stays F G keys M is case.1 map
copies F G keys M w s b (Copied t) is inside case map =
    let r = case.1.0 in
    let x = case.1.1 in
    let passes : CopyPasses F w s b r = case.1.2 in
    stays _ G keys M
    (ticket_keeps F keys w s (Moved b r.version r.hop x.content) is inside passes.2 passes.1 (write_sized F keys b x is case.1.3) (copy_rests F keys w s b r x is passes case.1.3))
    case.1.6 map
copies F G keys M w s b _ is inside case map = absurd case

commit_cases : (F G : Flat) (keys M : ℕ → ℕ) (w s b : ℕ) (answer : FlatAnswer) → IsHistory F keys → b < F.groups.blocks → CommitCase F w s b answer G → IsMapOf G.emitted M
    → IsHistory G M
commit_cases F G keys M w s b (Refused NoTicket) is block case map = stays F G keys M is case.1 map
commit_cases F G keys M w s b answer is block case map = commits F G keys M w s b case.2.0 (F.tickets s) answer is block case.0 case.1 case.2.1 refl case.2.2 map

discards : (F G : Flat) (keys M : ℕ → ℕ) (w s : ℕ) (answer : FlatAnswer) → IsHistory F keys → DiscardCase F w s answer G → IsMapOf G.emitted M → IsHistory G M
discards F G keys M w s (Refused NoTicket) is case map = stays F G keys M is case.1 map
discards F G keys M w s (Discarded t) is case map = stays _ G keys M (discard_keeps F keys w s is case.1) case.2 map
discards F G keys M w s _ is case map = absurd case

makes : (F G : Flat) (keys M : ℕ → ℕ) (class : Class) (members : List Member) (answer : FlatAnswer) → IsHistory F keys → MakeCase F class members answer G → IsMapOf G.emitted M
    → IsHistory G M
makes F G keys M class members (Refused BadMember) is case map = stays F G keys M is case.1 map
makes F G keys M class members (Refused SameDrive) is case map = stays F G keys M is case.2 map
makes F G keys M class members (Refused ExtentTaken) is case map = stays F G keys M is case.3 map
makes F G keys M class members (Refused (DriveLost d)) is case map = stays F G keys M is case.2 map
makes F G keys M class members (Refused Full) is case map = stays F G keys M is case.3 map
makes F G keys M class members (MadeGroup g) is case map = stays _ G keys M (make_keeps F keys class members g is case.0) case.2 map
makes F G keys M class members _ is case map = absurd case

reads : (F G : Flat) (keys M : ℕ → ℕ) (b : ℕ) (answer : FlatAnswer) → IsHistory F keys → ReadCase F b answer G → IsMapOf G.emitted M → IsHistory G M
reads F G keys M b (Found found) is case map = stays F G keys M is case.2 map
reads F G keys M b (Refused (Gone t)) is case map = stays F G keys M is case.1 map
reads F G keys M b _ is case map = absurd case

looks : (F G : Flat) (keys M : ℕ → ℕ) (r : Record) (answer : FlatAnswer) → IsHistory F keys → ReadAtCase F r answer G → IsMapOf G.emitted M → IsHistory G M
looks F G keys M r (Refused (Ahead found)) is case map = stays F G keys M is case.2 map
looks F G keys M r (Refused (Gone t)) is case map = stays F G keys M is case.3 map
looks F G keys M r (FoundAt seen) is case map = stays F G keys M is case.3 map
looks F G keys M r _ is case map = absurd case

loses : (F G : Flat) (keys M : ℕ → ℕ) (d : ℕ) (answer : FlatAnswer) → IsHistory F keys → LoseCase F d answer G → IsMapOf G.emitted M → IsHistory G M
loses F G keys M d (LostDrive e) is case map = stays _ G keys M (fared F (put F.lost d true) F.failures keys is) case.2 map
loses F G keys M d (Refused BadMember) is case map = stays F G keys M is case.1 map
loses F G keys M d _ is case map = absurd case

unmakes : (F G : Flat) (keys M : ℕ → ℕ) (w g : ℕ) (answer : FlatAnswer) → IsHistory F keys → UnmakeCase F w g answer G → IsMapOf G.emitted M → IsHistory G M
unmakes F G keys M w g (Refused NoGroup) is case map = stays F G keys M is case.1 map
unmakes F G keys M w g (Refused (SlotsHeld s)) is case map = stays F G keys M is case.1 map
unmakes F G keys M w g (UnmadeGroup h) is case map = stays _ G keys M (unmake_keeps F keys w g is case.1 case.2) case.3 map
unmakes F G keys M w g _ is case map = absurd case

moves : (F G : Flat) (keys M : ℕ → ℕ) (g k : ℕ) (to : Member) (answer : FlatAnswer) → IsHistory F keys → MoveCase F g k to answer G → IsMapOf G.emitted M → IsHistory G M
moves F G keys M g k to (Refused NoGroup) is case map = stays F G keys M is case.1 map
moves F G keys M g k to (Refused BadMember) is case map = stays F G keys M is case.1 map
moves F G keys M g k to (Refused SameDrive) is case map = stays F G keys M is case.1 map
moves F G keys M g k to (Refused ExtentTaken) is case map = stays F G keys M is case.1 map
moves F G keys M g k to (Refused (DriveLost d)) is case map = stays F G keys M is (lost_leaves F G d case.2) map
moves F G keys M g k to (Refused (Gone s)) is case map = stays F G keys M is case.3 map
moves F G keys M g k to MovedExtent is case map = stays _ G keys M (move_keeps F keys g k to is case.0.0) case.3 map
moves F G keys M g k to _ is case map = absurd case

adds : (F G : Flat) (keys M : ℕ → ℕ) (answer : FlatAnswer) → IsHistory F keys → AddCase F answer G → IsMapOf G.emitted M → IsHistory G M
adds F G keys M (Refused Full) is case map = stays F G keys M is (same_leaves F G case.1) map
adds F G keys M (AddedDrive d) is case map = stays _ G keys M (add_keeps F keys false no_failures is case.1) (same_leaves _ G case.2) map
adds F G keys M _ is case map = absurd case

-- a step of numbers that there are, with any answer
pub step_keeps : (F G : Flat) (keys M : ℕ → ℕ) (step : FlatStep) (answer : FlatAnswer) → IsHistory F keys → IsValidStep F.groups step → Case F step answer G → IsMapOf G.emitted M → IsHistory G M
step_keeps F G keys M (Claim w s) answer is fits case map = claims F G keys M w s answer is case map
step_keeps F G keys M (Release w s) answer is fits case map = releases F G keys M w s answer is case map
step_keeps F G keys M (Fill w s x) answer is fits case map = fills F G keys M w s x answer is fits case map
step_keeps F G keys M (Copy w s b) answer is fits case map = copies F G keys M w s b answer is fits.0 case map
step_keeps F G keys M (Commit w s b) answer is fits case map = commit_cases F G keys M w s b answer is fits case map
step_keeps F G keys M (Discard w s) answer is fits case map = discards F G keys M w s answer is case map
step_keeps F G keys M (Read b) answer is fits case map = reads F G keys M b answer is case map
step_keeps F G keys M (ReadAt r) answer is fits case map = looks F G keys M r answer is case map
step_keeps F G keys M (Make class members) answer is fits case map = makes F G keys M class members answer is case map
step_keeps F G keys M (Unmake w g) answer is fits case map = unmakes F G keys M w g answer is case map
step_keeps F G keys M (MoveExtent g k to) answer is fits case map = moves F G keys M g k to answer is case map
step_keeps F G keys M AddDrive answer is fits case map = adds F G keys M answer is case map
step_keeps F G keys M (Lose d) answer is fits case map = loses F G keys M d answer is case map

-- a new array's state
pub new_history : (groups : Groups) (drives : ℕ) (lost : ℕ → Bool) (failures : ℕ → Failures) → AreSizes groups → IsEmpty groups → 3 ≤ drives → drives ≤ 16
    → IsHistory (new_flat groups drives lost failures) (λ _. 0)
new_history groups drives lost failures are empty least most = record {
  limits = record { sizes = are; least = least; most = most; log = omega arith };
  groups = record {
    table = free_groups groups empty.free empty.numbers are.some_segments.0 are.some_segments.1;
    there = λ g k m at. absurd (no_members groups g k m (empty.free g) at);
  };
  records = λ r has. absurd (not_there r has);
  blocks = λ r has. absurd (not_there r has);
  chain = tt;
  map = record { reported = λ b some. absurd (omega arith); most = λ r has. absurd (not_there r has) };
  writes = λ w has. absurd (unwritten w has);
  versions = tt;
  holders = λ s. record {
    once = λ j k of_j of_k hj. absurd (cc);
    inside = λ k of hk. absurd (cc);
    waits = λ c e. absurd (cc);
    waiting = λ w hw. absurd (cc);
    block = λ b hb. absurd (cc);
    shut = λ g hg. absurd (cc);
  };
  units = λ s. record {
    there = ap is_some (sym (ap (λ o. class_below groups.segments o (s % 128)) (empty.free (s / 128))));
    sized = λ u e. absurd (cc);
    header = λ u r e. absurd (cc);
    content = λ u r w e. absurd (cc);
    blank = λ c e. absurd (cc);
    rests = λ c e. absurd (cc);
  };
  written = λ b. (λ none. refl, λ some. absurd (omega arith));
}
  where
    not_there : (r : Record) → Contains [] r → ⊥
    not_there r has = let h = has.1 in omega arith

    unwritten : (w : Write) → Contains [] w → ⊥
    unwritten w has = let h = has.1 in omega arith
