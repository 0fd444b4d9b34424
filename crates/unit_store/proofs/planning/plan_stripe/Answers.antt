use Rattle.std.proofs.Common.{◌/◌}
use Rattle.std.proofs.lemmas.Option.{slice_get-get_or}
use Rattle.std.proofs.lemmas.Result.{IfOk-weaker}
use Rattle.extent_groups.specs.declared.place.Place.{Place}
use Rattle.extent_groups.specs.Groups.{members_of}
use Rattle.extent_groups.specs.Units.{places_of}
use Rattle.extent_groups.proofs.StoreCalls.{site_whole}
use Rattle.unit_store.proofs.Finished.{row_noted, row_apart}
use Rattle.unit_store.proofs.planning.plan_stripe.Goals as goal

pub returns-clause-ok : goal.returns-clause-ok
returns-clause-ok g c =
    let at = c.row_of-stripe.ensures.site in
    let row = places_of c.args.groups.now.segments (members_of c.args.groups.now (c.args.slot / 128)) c.row_of-stripe.result.offset in
    let whole = site_whole _ c.args.slot _ c.row_of-stripe.ensures.groups at in
    let any : Place = record { drive = 0; address = 0 } in
    let home = slice_get-get_or row c.row_of-stripe.result.member any whole.0 in
    let second = slice_get-get_or row c.row_of-stripe.result.parity any whole.1 in
    IfOk-weaker c.plan.result _ _ (λ plan h. record {
      expected = h.0;
      plan = h.1;
      parity_is = h.2;
      noted = row_noted _ _ c.args.slot row c.row_of-stripe.result.parity c.row_of-stripe.result.member _ _ c.args.unit.now h.0 _ _ at home second
          (row_apart row c.row_of-stripe.result.parity c.row_of-stripe.result.member _ _ whole home second) h.1 h.2;
    }) c.plan.ensures.ok
