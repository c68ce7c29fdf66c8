-- Each participant is seated, and then the rooms are opened.
use Rattle.std.proofs.Common.{All, arith, subst, ◌∙◌}
use Rattle.sync_calls.specs.Hall.{ExitOf}
use Rattle.sync_calls.specs.Making.{IsSeated}
use Rattle.sync_calls.proofs.making.hall_of.Goals as goal

pub open_all-requires-clause-stands : goal.open_all-requires-clause-stands
open_all-requires-clause-stands g c =
    let way : ExitOf g.row.S.Denot = record { depots = c.in-Ok-with_capacity-3.depots } in
    let room = c.in-Ok-with_capacity-3.ensures.capacity in
    let few = c.len-3.ensures in (
      c.args.passes,
      way,
      c.requires.stands.0,
      c.seat_all-seated.ensures.size ∙ c.in-Ok-new.ensures.bound,
      c.in-Ok-with_capacity-3.ensures.len,
      omega arith,
      subst (λ n. All (IsSeated n c.args.passes c.in-Ok-new.exit way) c.seat_all-seated.result.items) c.len.ensures
          (c.seat_all-seated.ensures.ok c.len.result c.args.passes c.in-Ok-new.exit way c.in-Ok.ensures.ok c.in-Ok-new.ensures.ok),
      c.requires.stands.1,
    )

pub returns-in-Ok-new-clause-ok : goal.returns-in-Ok-new-clause-ok
returns-in-Ok-new-clause-ok g c = λ depots behind.
    let way : ExitOf g.row.S.Denot = record { depots = c.in-Ok-with_capacity-3.depots } in
    let room = c.in-Ok-with_capacity-3.ensures.capacity in
    let few = c.len-3.ensures in
    c.open_all.ensures.ok c.args.passes way depots c.in-Ok-with_capacity-3.ensures.len (omega arith)
    (subst (λ n. All (IsSeated n c.args.passes c.in-Ok-new.exit way) c.seat_all-seated.result.items) c.len.ensures
    (c.seat_all-seated.ensures.ok c.len.result c.args.passes c.in-Ok-new.exit way c.in-Ok.ensures.ok c.in-Ok-new.ensures.ok)) behind
