use Rattle.std.proofs.Common.{arith}
use Rattle.turnstile.specs.PassView.{view_of}
use Rattle.turnstile.proofs.PassLemmas.{ends}
use Rattle.turnstile.proofs.turnstile.Turnstile+V.reclaim.Goals as goal

-- the last state of the table shows it, since one view has all the parts
pub returns : goal.returns
returns g c =
    let final = rw c.into_seat-seat.ensures.0 at c.close_with-closed.ensures.values.2 in
    let idle = c.requires.ready.1 in
    let e = ends _ _ c.args.pass.seat.id (view_of c.args.pass) _ _ c.take-parcel.result idle.no_turn (omega (arith, idle.some_part, idle.parts_are)) c.requires.all final c.take-parcel.ensures.value in
    record { value = e.0; ok = e.1 }
