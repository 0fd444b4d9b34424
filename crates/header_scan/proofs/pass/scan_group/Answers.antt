use Rattle.std.proofs.Common.{◌≡◌, ◌+◌, ◌*◌, ◌^◌, ◌<◌, ◌≤◌, Option, Some, None, length, take, refl, sym, ◌∙◌, ap, subst, arith}
use Rattle.std.specs.Prelude.{Result, Ok, Err, IfOk}
use Rattle.std.proofs.lemmas.List.{length-take-le}
use Rattle.std.proofs.lemmas.Option.{slice_get-get_or}
use Rattle.map_join.specs.Maps.{at}
use Rattle.map_join.specs.declared.records.Record.{Record}
use Rattle.extent_groups.specs.Groups.{Groups, group_at, slots_in}
use Rattle.extent_groups.specs.Stores.{AreSound}
use Rattle.header_scan.specs.declared.fault.ScanFault.{ScanFault}
use Rattle.header_scan.specs.declared.fault.ScanFault.TheVariants.{Gone}
use Rattle.header_scan.specs.declared.found.Found.{Found}
use Rattle.header_scan.specs.Faults.{IsFine}
use Rattle.header_scan.specs.Found.{key_in, IsUnderway, ArePlaced, WasOnlyRead}
use Rattle.header_scan.proofs.Placing.{noted_placed, placed_below}
use Rattle.header_scan.proofs.Scanning.{Looked}
use Rattle.header_scan.proofs.Stepping.{look_of, gone_of, read_on, slot_in, group_over, first_fault, IsNote, none_more, some_more}
use Rattle.header_scan.proofs.pass.scan_group.Given as given
use Rattle.header_scan.proofs.pass.scan_group.Goals.{After-look, After-headers-read, in-Some+in_ok-note, in_default}
use Rattle.header_scan.proofs.pass.scan_group.Goals as goal

-- what the reads of the group's headers leave
left : (g : given.Over) (c : After-headers-read g) → WasOnlyRead g.U.Units.groups g.U.Units.cells g.U.Units.fits g.U.Units.leaves c.args.units.now c.headers-read.new.self
left g c = record {
  keeps = λ sound. (c.headers-read.ensures.units sound, subst (λ t. AreSound t (g.U.Units.cells c.headers-read.new.self)) c.headers-read.ensures.groups (c.headers-read.ensures.sound sound));
  groups = c.headers-read.ensures.groups;
  fits = c.headers-read.ensures.fits;
  leaves = c.headers-read.ensures.leaves;
}

-- there are buffers for all of the group's headers, and no more of them are read
room : (g : given.Over) (c : After-headers-read g) → length (take c.count_slots-count.result c.args.headers.now) ≡ c.count_slots-count.result
room g c = let few = c.count_slots-count.ensures.few in let long = c.requires.headers in length-take-le c.count_slots-count.result c.args.headers.now (omega (arith, few, long))

inside : (g : given.Over) (c : After-headers-read g) → c.headers-read.result ≤ c.count_slots-count.result
inside g c = let within = c.headers-read.ensures.within in omega (arith, within, room g c)

-- what a look at one of them returned: over the units before the reads, and over those after
looks : (g : given.Over) (c : After-look g) (out : Result (Option Record) ScanFault) → c.look.result ≡ out
    → Looked (g.U.Units.groups c.args.units.now) (g.U.Units.groups c.args.units.now) (g.U.Units.cells c.args.units.now) (g.U.Units.cells c.args.units.now) (g.U.Units.groups c.args.units.now).blocks
    (128 * c.args.group + c.loop-index.index) out
looks g c out is =
    let below = c.loop-index-test.true in
    let within = c.headers-read.ensures.within in
    let long = c.headers-read.auto.headers in
    look_of (g.U.Units.groups c.args.units.now) (g.U.Units.groups c.args.units.now) (g.U.Units.cells c.args.units.now) (g.U.Units.cells c.args.units.now) c.args.blocks (128 * c.args.group + c.loop-index.index) _ c.look.result out
    c.requires.blocks refl is (λ s. c.headers-read.ensures.read s c.loop-index.index below ∙ slice_get-get_or c.headers-read.new.headers c.loop-index.index _ (omega (arith, below, within, long))) c.look.ensures.ok c.look.ensures.err
    (λ s slot u e. e) (λ s. s)

fails : (g : given.Over) (c : After-look g) (out : Result (Option Record) ScanFault) → c.look.result ≡ out
    → Looked (g.U.Units.groups c.args.units.now) (g.U.Units.groups c.args.units.now) (g.U.Units.cells c.args.units.now) (g.U.Units.cells c.headers-read.new.self) (g.U.Units.groups c.args.units.now).blocks
    (128 * c.args.group + c.loop-index.index) out
fails g c out is =
    let below = c.loop-index-test.true in
    let within = c.headers-read.ensures.within in
    let long = c.headers-read.auto.headers in
    look_of (g.U.Units.groups c.args.units.now) (g.U.Units.groups c.headers-read.new.self) (g.U.Units.cells c.args.units.now) (g.U.Units.cells c.headers-read.new.self) c.args.blocks (128 * c.args.group + c.loop-index.index) _ c.look.result out
    c.requires.blocks c.headers-read.ensures.groups is (λ s. c.headers-read.ensures.read s c.loop-index.index below ∙ slice_get-get_or c.headers-read.new.headers c.loop-index.index _ (omega (arith, below, within, long))) c.look.ensures.ok
    c.look.ensures.err c.headers-read.ensures.units c.headers-read.ensures.sound

pub returns-in-Err-clause-err : goal.returns-in-Err-clause-err
returns-in-Err-clause-err g c = λ low high start l h was.
    let few = c.count_slots-count.ensures.few in
    let within = inside g (goal.at.returns-in-Err-clause-err g c).After-headers-read in
    let index = c.loop-index-test.true in
    let under = c.loop-index.invariant.ok low start l was in
    first_fault (g.U.Units.groups c.args.units.now) start (g.U.Units.cells c.args.units.now) (g.U.Units.cells c.headers-read.new.self) low high (128 * c.args.group + c.loop-index.index) (key_in c.loop-index.found.newest) (at c.loop-index.found.twins) c.in-Err.fault
    (slot_in (g.U.Units.groups c.args.units.now) c.groups.result.now c.args.group c.loop-index.index c.count_slots-count.result c.groups.ensures c.count_slots-count.ensures.count few (omega (arith, index, within)))
    (omega (arith, l)) (omega (arith, h, few, index, within)) under
    (fails g (goal.at.returns-in-Err-clause-err g c).After-look (Err c.in-Err.fault) c.in-Err.is)

pub returns-in-Err-clause-left : goal.returns-in-Err-clause-left
returns-in-Err-clause-left g c = left g (goal.at.returns-in-Err-clause-left g c).After-headers-read

pub returns-in_err-note-clause-left : goal.returns-in_err-note-clause-left
returns-in_err-note-clause-left g c = left g (goal.at.returns-in_err-note-clause-left g c).After-headers-read

pub loop-index-preserved : goal.loop-index-preserved
loop-index-preserved g c = record {
  ok = λ low start l was. elim c.match-reported.branch [
    | in-Some+in_ok-note w ↦
        (let few = c.count_slots-count.ensures.few in
        let within = inside g (goal.at.loop-index-preserved g c).After-headers-read in
        let index = c.loop-index-test.true in
        let group = c.requires.group in
        let small : 128 * c.args.group + c.loop-index.index < 2 ^ 16 = omega (arith, few, index, group, within) in
        let is : c.look.result ≡ Ok (Some w.in-Some.reported) = c.in-Ok.is ∙ ap (λ o. Ok o) w.in-Some.is in
        let note : IsNote c.loop-index.found.newest c.loop-index.found.twins w.note.new.self.newest w.note.new.self.twins w.in-Some.reported = record {
          newer = λ h. let x = w.in_ok-note.ensures.newer h in (x.1, x.2);
          twin = w.in_ok-note.ensures.twin;
          older = λ h. let x = w.in_ok-note.ensures.older h in (x.1, x.2);
          third = λ h k. let x = w.in_ok-note.ensures.third h k in (x.1, x.2);
        } in
        let more : IsUnderway (g.U.Units.groups c.args.units.now) start (g.U.Units.cells c.args.units.now) low (128 * c.args.group + c.loop-index.index + 1) (key_in w.note.new.self.newest) (at w.note.new.self.twins) =
        some_more (g.U.Units.groups c.args.units.now) start (g.U.Units.cells c.args.units.now) (g.U.Units.cells c.args.units.now) low (128 * c.args.group + c.loop-index.index) w.in-Some.reported
        c.loop-index.found.newest c.loop-index.found.twins w.note.new.self.newest w.note.new.self.twins (omega (arith, l)) small note (c.loop-index.invariant.ok low start l was)
        (looks g (goal.at.loop-index-preserved g c).After-look (Ok (Some w.in-Some.reported)) is) in
        let next : 128 * c.args.group + c.loop-index.index + 1 ≡ 128 * c.args.group + (c.loop-index.index + 1) = omega arith in
        subst (λ n. IsUnderway (g.U.Units.groups c.args.units.now) start (g.U.Units.cells c.args.units.now) low n (key_in c.match-reported.found.newest) (at c.match-reported.found.twins)) next
        (subst (λ (f : Found). IsUnderway (g.U.Units.groups c.args.units.now) start (g.U.Units.cells c.args.units.now) low (128 * c.args.group + c.loop-index.index + 1) (key_in f.newest) (at f.twins)) (sym w.found-is) more))
    | in_default w ↦
        (let next : 128 * c.args.group + c.loop-index.index + 1 ≡ 128 * c.args.group + (c.loop-index.index + 1) = omega arith in
        subst (λ n. IsUnderway (g.U.Units.groups c.args.units.now) start (g.U.Units.cells c.args.units.now) low n (key_in c.match-reported.found.newest) (at c.match-reported.found.twins)) next
        (subst (λ (f : Found). IsUnderway (g.U.Units.groups c.args.units.now) start (g.U.Units.cells c.args.units.now) low (128 * c.args.group + c.loop-index.index + 1) (key_in f.newest) (at f.twins)) (sym w.found-is)
        (none_more (g.U.Units.groups c.args.units.now) start (g.U.Units.cells c.args.units.now) (g.U.Units.cells c.args.units.now) low (128 * c.args.group + c.loop-index.index) (key_in c.loop-index.found.newest) (at c.loop-index.found.twins)
        (c.loop-index.invariant.ok low start l was) (looks g (goal.at.loop-index-preserved g c).After-look (Ok None) (c.in-Ok.is ∙ ap (λ o. Ok o) w.in_default.is)))))
  ];
  inside = λ was.
      let few = c.count_slots-count.ensures.few in
      let within = inside g (goal.at.loop-index-preserved g c).After-headers-read in
      let index = c.loop-index-test.true in
      let group = c.requires.group in
      let placed = c.loop-index.invariant.inside was in
      let next : 128 * c.args.group + c.loop-index.index + 1 ≡ 128 * c.args.group + (c.loop-index.index + 1) = omega arith in
      subst (λ n. ArePlaced (g.U.Units.groups c.args.units.now) n (key_in c.match-reported.found.newest)) next (elim c.match-reported.branch [
        | in-Some+in_ok-note w ↦
            (subst (λ (f : Found). ArePlaced (g.U.Units.groups c.args.units.now) (128 * c.args.group + c.loop-index.index + 1) (key_in f.newest)) (sym w.found-is)
            (noted_placed (g.U.Units.groups c.args.units.now) (128 * c.args.group + c.loop-index.index) w.in-Some.reported c.loop-index.found.newest c.loop-index.found.twins w.note.new.self.newest w.note.new.self.twins
            (slot_in (g.U.Units.groups c.args.units.now) c.groups.result.now c.args.group c.loop-index.index c.count_slots-count.result c.groups.ensures c.count_slots-count.ensures.count few (omega (arith, index, within)))
            (omega (arith, few, index, group, within))
            (subst (λ n. IsFine n (128 * c.args.group + c.loop-index.index) (Some w.in-Some.reported)) c.requires.blocks
            (subst (λ x. IfOk x (IsFine c.args.blocks (128 * c.args.group + c.loop-index.index))) (c.in-Ok.is ∙ ap (λ o. Ok o) w.in-Some.is) c.look.ensures.inside))
            (record {
              newer = λ h. let x = w.in_ok-note.ensures.newer h in (x.1, x.2);
              twin = w.in_ok-note.ensures.twin;
              older = λ h. let x = w.in_ok-note.ensures.older h in (x.1, x.2);
              third = λ h k. let x = w.in_ok-note.ensures.third h k in (x.1, x.2);
            })
            placed))
        | in_default w ↦
            (subst (λ (f : Found). ArePlaced (g.U.Units.groups c.args.units.now) (128 * c.args.group + c.loop-index.index + 1) (key_in f.newest)) (sym w.found-is)
            (placed_below (g.U.Units.groups c.args.units.now) (128 * c.args.group + c.loop-index.index) (128 * c.args.group + c.loop-index.index + 1) (key_in c.loop-index.found.newest) (omega arith) placed))
      ]);
  many = elim c.match-reported.branch [
    | in-Some+in_ok-note w ↦ ap (λ (f : Found). length f.newest) w.found-is ∙ w.in_ok-note.ensures.many ∙ c.loop-index.invariant.many
    | in_default w ↦ ap (λ (f : Found). length f.newest) w.found-is ∙ c.loop-index.invariant.many
  ];
}

pub returns-then-read-count-clause-err : goal.returns-then-read-count-clause-err
returns-then-read-count-clause-err g c = λ low high start l h was.
    let few = c.count_slots-count.ensures.few in
    let less = c.if-read-count.true in
    let end : c.loop-index.index ≡ c.headers-read.result = let a = c.loop-index.auto.index-end in let b = c.loop-index-test.false in omega (arith, a, b) in
    let room = room g (goal.at.returns-then-read-count-clause-err g c).After-headers-read in
    first_fault (g.U.Units.groups c.args.units.now) start (g.U.Units.cells c.args.units.now) (g.U.Units.cells c.headers-read.new.self) low high (128 * c.args.group + c.headers-read.result) (key_in c.loop-index.found.newest) (at c.loop-index.found.twins)
    (Gone (128 * c.args.group + c.headers-read.result))
    (slot_in (g.U.Units.groups c.args.units.now) c.groups.result.now c.args.group c.headers-read.result c.count_slots-count.result c.groups.ensures c.count_slots-count.ensures.count few less)
    (omega (arith, l)) (omega (arith, h, few, less))
    (subst (λ n. IsUnderway (g.U.Units.groups c.args.units.now) start (g.U.Units.cells c.args.units.now) low (128 * c.args.group + n) (key_in c.loop-index.found.newest) (at c.loop-index.found.twins)) end
    (c.loop-index.invariant.ok low start l was))
    (gone_of (g.U.Units.groups c.args.units.now) (g.U.Units.groups c.headers-read.new.self) (g.U.Units.cells c.args.units.now) (g.U.Units.cells c.headers-read.new.self) (128 * c.args.group + c.headers-read.result)
    c.headers-read.ensures.groups (c.headers-read.ensures.gone (omega (arith, room, less))) c.headers-read.ensures.units c.headers-read.ensures.sound)

pub returns-then-read-count-clause-left : goal.returns-then-read-count-clause-left
returns-then-read-count-clause-left g c = left g (goal.at.returns-then-read-count-clause-left g c).After-headers-read

pub returns-clause-ok : goal.returns-clause-ok
returns-clause-ok g c = λ low start l was.
    let within = inside g (goal.at.returns-clause-ok g c).After-headers-read in
    let end : c.loop-index.index ≡ c.count_slots-count.result = let a = c.loop-index.auto.index-end in let b = c.loop-index-test.false in let d = c.if-read-count.false in omega (arith, a, b, d, within) in
    read_on (g.U.Units.groups c.args.units.now) (g.U.Units.groups c.headers-read.new.self) start (g.U.Units.cells c.args.units.now) (g.U.Units.cells c.headers-read.new.self) low (128 * c.args.group + 128)
    (key_in c.loop-index.found.newest) (at c.loop-index.found.twins) c.headers-read.ensures.groups c.headers-read.ensures.units c.headers-read.ensures.sound
    (group_over (g.U.Units.groups c.args.units.now) start (g.U.Units.cells c.args.units.now) low c.args.group c.count_slots-count.result (key_in c.loop-index.found.newest) (at c.loop-index.found.twins)
    (subst (λ (x : Groups). c.count_slots-count.result ≡ slots_in x.segments (group_at x c.args.group)) c.groups.ensures c.count_slots-count.ensures.count)
    c.count_slots-count.ensures.few
    (subst (λ n. IsUnderway (g.U.Units.groups c.args.units.now) start (g.U.Units.cells c.args.units.now) low (128 * c.args.group + n) (key_in c.loop-index.found.newest) (at c.loop-index.found.twins)) end
    (c.loop-index.invariant.ok low start l was)))

pub returns-clause-left : goal.returns-clause-left
returns-clause-left g c = left g (goal.at.returns-clause-left g c).After-headers-read

pub returns-then-count-eq0-clause-ok : goal.returns-then-count-eq0-clause-ok
returns-then-count-eq0-clause-ok g c = λ low start l was.
    let none = c.if-count-eq0.true in
    let here : 128 * c.args.group ≡ 128 * c.args.group + c.count_slots-count.result = omega (arith, none) in
    group_over (g.U.Units.groups c.args.units.now) start (g.U.Units.cells c.args.units.now) low c.args.group c.count_slots-count.result (key_in c.args.found.now.newest) (at c.args.found.now.twins)
    (subst (λ (x : Groups). c.count_slots-count.result ≡ slots_in x.segments (group_at x c.args.group)) c.groups.ensures c.count_slots-count.ensures.count)
    c.count_slots-count.ensures.few
    (subst (λ n. IsUnderway (g.U.Units.groups c.args.units.now) start (g.U.Units.cells c.args.units.now) low n (key_in c.args.found.now.newest) (at c.args.found.now.twins)) here was)
