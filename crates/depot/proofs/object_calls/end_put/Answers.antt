-- What became fresh is shielded where the object is stored, and taken back else.
use Rattle.std.proofs.Common.{◌&&◌, List, not, subst, sym, ◌∙◌}
use Rattle.std.specs.FinSet as set
use Rattle.ids.specs.declared.key.Key.{Key}
use Rattle.object_graph.specs.Traversal.{is_in}
use Rattle.depot.specs.Fresh.{MayHaveFresh}
use Rattle.depot.proofs.FreshLemmas.{ends_other, ends_stored}
use Rattle.depot.proofs.object_calls.end_put.Goals as goal

pub returns-then-is_stored : goal.returns-then-is_stored
returns-then-is_stored c = record {
  value = ends_stored c.args.new.now c.args.reply.now c.args.running.now c.shield.new.running (sym c.is_stored.ensures.value ∙ c.if-is_stored.true) c.shield.ensures.value;
}

pub returns-else-is_stored : goal.returns-else-is_stored
returns-else-is_stored c = record {
  value =
      ends_other c.args.new.now c.args.reply.now c.args.running.now c.stale.new.running (sym c.is_stored.ensures.value ∙ c.if-is_stored.false)
      (subst (λ (keys : List Key). MayHaveFresh (λ fresh key. set.contains fresh key && not (is_in keys key)) c.args.running.now c.stale.new.running) c.slice.ensures.value c.stale.ensures.value);
}
