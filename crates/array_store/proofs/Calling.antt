-- A call of the array leaves its groups and drives, its records and its writes, and adds to these.
use Rattle.std.proofs.Common.{List, arith, refl, sym, subst}
use Rattle.std.specs.Prelude.{Contains}
use Rattle.std.proofs.lemmas.List.Elements.{Contains-append_left}
use Rattle.map_join.specs.declared.records.Record.{Record}
use Rattle.flat_machine.specs.Flat.{Flat}
use Rattle.tiered_array.specs.Matches.{RepresentsTiers}
use Rattle.tiered_array.specs.Tiered.{Tiered}
use Rattle.tiered_array.specs.Views.{TiersView}
use Rattle.array_calls.specs.Growth.{Grows}
use Rattle.array_store.specs.Stores.{Follows, IsAfter}
use Rattle.array_store.proofs.Holding.{Makes, follows_of}

grown_after : (F G : Flat) → Grows F G → IsAfter F G
grown_after F G g = record {
  more = g.more;
  writes = g.writes;
  records = λ r has. (r, subst (λ (log : List Record). Contains log r) (sym g.emitted) (Contains-append_left F.emitted g.records r has), refl, omega arith);
}

pub grown_follows : (t u : TiersView) → Makes t u Grows → (T : Tiered) → RepresentsTiers t T → Follows t u
grown_follows t u makes T matches =
    let done = makes T matches in
    follows_of t u T done.0 matches done.2 (record { groups = done.1.groups; many = done.1.drives; lost = done.1.lost })
    (λ S is. let next = makes S is in (next.0, grown_after S.flat next.0.flat next.1, next.2))
