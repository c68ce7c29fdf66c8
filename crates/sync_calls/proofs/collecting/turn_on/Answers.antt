-- A turn was taken, or the last one was drawn.
use Rattle.std.proofs.Common.{refl}
use Rattle.sync_calls.specs.Collecting.{OneTurn}
use Rattle.sync_calls.specs.Collecting.TurnsOnce.{spent, took}
use Rattle.sync_calls.proofs.collecting.turn_on.Goals as goal

pub returns-in-Ok-clause-told : goal.returns-in-Ok-clause-told
returns-in-Ok-clause-told g c =
    took (record { goal = c.args.so_far.goal; place = c.in-Ok.taken.place; moment = c.now.result; turn = c.in-Ok.taken.turn }) c.in-Ok.taken.running
    (record { aimed = refl; shown = c.now.ensures.value; done = c.in-Ok.ensures.told }) c.in-Ok.ensures.running c.in-Ok.ensures.unspent c.step_of.ensures

pub returns-in-Err-clause-told : goal.returns-in-Err-clause-told
returns-in-Err-clause-told g c = spent c.in-Err.ensures.err.1 c.in-Err.ensures.err.0 refl
