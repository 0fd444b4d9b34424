use Rattle.std.proofs.Common.{◌≤◌, length, sym, ◌∙◌, arith}
use Rattle.std.proofs.lemmas.List.{length-map}
use Rattle.map_join.specs.Maps.{at}
use Rattle.unit_store.specs.Views.{drive_view, view_of}
use Rattle.slot_tables.proofs.Adopting.{adopted_shows}
use Rattle.disk_array.specs.Inside.{seen}
use Rattle.slot_tables.proofs.Places.{none_kept}
use Rattle.disk_array.proofs.Adopters.{fit_parts, free_of, adopted, is_adopted, is_whole, is_ready_too}
use Rattle.disk_array.proofs.array.Array.adopt_with.Goals as goal

pub seat_all-requires-clause-all : goal.seat_all-requires-clause-all
seat_all-requires-clause-all g c = rw (sym c.deref.ensures.value) c.in-Ok.ensures.ok.claimed

pub seat_all-requires-clause-free : goal.seat_all-requires-clause-free
seat_all-requires-clause-free g c = none_kept c.in-Ok.ready.room.places.items c.in-Ok.ensures.ok.room.free

pub seat_all-requires-clause-claims : goal.seat_all-requires-clause-claims
seat_all-requires-clause-claims g c = free_of g.C.Hold.names c.in-Ok.ready.room.places.items c.in-Ok.ensures.ok.room.free

pub seat_all-requires-clause-many : goal.seat_all-requires-clause-many
seat_all-requires-clause-many g c = c.in-Ok.ready.expected.ok.0 ∙ c.in-Ok.ensures.ok.expected.many

pub seat_all-requires-clause-most : goal.seat_all-requires-clause-most
seat_all-requires-clause-most g c = c.in-Ok.ensures.ok.places.most

pub invariant_of-array : goal.invariant_of-array
invariant_of-array g c =
    let d = g.D.Drive in
    let n = g.C.Hold.names in
    let ok = c.in-Ok.ensures.ok in
    let places = c.seat_all.new.places in
    let same = c.seat_all.ensures.places in
    let own = places.ok.0 in
    let enough = ok.places.most in
    let most : length places.items ≤ 65536 = omega (arith, own, same, enough) in
    let is = is_adopted d.units d.lost d.failures n c.args.parts (at c.args.map) c.deref.result.now c.in-Ok.ready places c.counted-live.result c.args.buffers c.requires.places ok c.seat_all.ensures.kept in (
      is_whole d.units d.lost d.failures n c.args.parts (at c.args.map) c.deref.result.now c.in-Ok.ready places c.counted-live.result c.args.buffers c.requires.places ok c.requires.fit most is,
      c.seat_all.ensures.claims,
      is_ready_too d.units n c.args.parts (at c.args.map) c.deref.result.now c.in-Ok.ready places c.counted-live.result c.args.buffers ok c.requires.fit c.requires.buffers c.seat_all.ensures.places (rw (sym c.deref-in-Ok.ensures.value) c.counted-live.ensures),
    )

pub returns-in-Ok-clause-ok : goal.returns-in-Ok-clause-ok
returns-in-Ok-clause-ok g c =
    let d = g.D.Drive in
    is_adopted d.units d.lost d.failures g.C.Hold.names c.args.parts (at c.args.map) c.deref.result.now c.in-Ok.ready c.seat_all.new.places c.counted-live.result c.args.buffers c.requires.places c.in-Ok.ensures.ok c.seat_all.ensures.kept

pub returns-in-Ok-clause-flat : goal.returns-in-Ok-clause-flat
returns-in-Ok-clause-flat g c F has reports =
    let d = g.D.Drive in
    let many = sym (length-map c.args.parts.drives.items (drive_view d.units d.lost d.failures)) in
    adopted_shows (view_of d.units d.lost d.failures c.args.parts) (at c.args.map) (seen d.units d.lost d.failures (adopted c.args.parts c.in-Ok.ready c.seat_all.new.places c.counted-live.result c.args.buffers)) F
    (is_adopted d.units d.lost d.failures g.C.Hold.names c.args.parts (at c.args.map) c.deref.result.now c.in-Ok.ready c.seat_all.new.places c.counted-live.result c.args.buffers c.requires.places c.in-Ok.ensures.ok c.seat_all.ensures.kept)
    c.requires.places (fit_parts d.units d.lost d.failures c.args.parts c.requires.fit) (rw (sym many) c.requires.fit.least) (rw (sym many) c.requires.fit.most) has reports
