-- One turn more, with what it leaves; the last one ended the collection or was refused.
use Rattle.std.proofs.Common.{arith, refl, ap, ◌∙◌}
use Rattle.collection_turns.specs.Turns.{number_running}
use Rattle.collection_turns.proofs.CollectingLemmas.{ends_never, ends_there, none_taken, one_more}
use Rattle.library_state.specs.declared.refusal.Refusal.TheVariants as refusal
use Rattle.worker_server.specs.declared.host.Collected.TheVariants as collected
use Rattle.collection_turns.proofs.collecting.take_turns.Goals as goal

pub loop-taken-init : goal.loop-taken-init
loop-taken-init g c =
    none_taken g.T.Collectable.view g.T.Collectable.notes g.T.Storage.Shelf.contents g.T.Storage.Shelf.may_give g.T.Storage.Shelf.texts g.T.Storage.Shelf.faults
    (g.C.Clock.shows c.args.clock.now) c.args.library.now

pub loop-taken-preserved : goal.loop-taken-preserved
loop-taken-preserved g c =
    one_more g.T.Collectable.view g.T.Collectable.notes g.T.Storage.Shelf.contents g.T.Storage.Shelf.may_give g.T.Storage.Shelf.texts g.T.Storage.Shelf.faults
    (g.C.Clock.shows c.args.clock.now) c.args.library.now c.loop-taken.library c.collect_turn.new.self c.loop-taken.goal c.loop-taken.removed c.loop-taken._taken
    c.now.result c.collect_turn.result c.loop-taken.invariant c.now.ensures.value c.collect_turn.ensures.turned.takes c.collect_turn.ensures.turned.good
    c.collect_turn.ensures.told c.running-goal.result c.in-Goes.sum (c.running-goal.ensures.value ∙ ap number_running c.depot-depot.ensures.value) c.in-Goes.ensures.value

pub returns-in-Ends : goal.returns-in-Ends
returns-in-Ends g c = record {
  value = ends_there g.T.Collectable.view g.T.Collectable.notes g.T.Storage.Shelf.contents g.T.Storage.Shelf.may_give g.T.Storage.Shelf.texts g.T.Storage.Shelf.faults
      (g.C.Clock.shows c.args.clock.now) c.args.library.now c.loop-taken.library c.collect_turn.new.self c.loop-taken.goal c.loop-taken.removed c.loop-taken._taken
      c.now.result c.collect_turn.result c.loop-taken.invariant c.now.ensures.value c.collect_turn.ensures.turned.takes c.collect_turn.ensures.turned.good
      c.collect_turn.ensures.told c.in-Ends.told c.in-Ends.ensures.value;
}

pub returns : goal.returns
returns g c = record {
  value = ends_never g.T.Collectable.view g.T.Collectable.notes g.T.Storage.Shelf.contents g.T.Storage.Shelf.may_give g.T.Storage.Shelf.texts g.T.Storage.Shelf.faults
      (g.C.Clock.shows c.args.clock.now) c.args.library.now c.loop-taken.goal c.loop-taken.removed c.loop-taken._taken c.loop-taken.library (collected.Refused refusal.NoMemory)
      c.loop-taken.invariant (omega arith) refl;
}
