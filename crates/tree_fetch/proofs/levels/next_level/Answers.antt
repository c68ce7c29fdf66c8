-- What the directory of each id names is listed.
use Rattle.std.proofs.Common.{◌∙◌, subst, arith}
use Rattle.object_graph.specs.Objects.{fs_key}
use Rattle.object_graph.specs.Reached.{named}
use Rattle.tree_fetch.specs.Levels.{Adds, AreSeen, Lists, entries_at}
use Rattle.tree_fetch.proofs.LevelLemmas.{ids_end, ids_next, lists_then, named_end, named_next}
use Rattle.tree_fetch.proofs.levels.next_level.Goals as goal

pub loop-id-preserved : goal.loop-id-preserved
loop-id-preserved c = record {
  stays = c.in-Ok.ensures.stays ∙ c.loop-id.invariant.stays;
  lists = lists_then _ _ _ _ _ _ c.loop-id.invariant.lists c.in-Ok.ensures.value.0;
  named = named_next c.args.held.now c.args.ids.now c.loop-id.id-index c.id-item.result _ _ _ (omega arith) c.id-item.is c.loop-id.invariant.named
      (subst (λ held. Adds (named held (fs_key c.id-item.result)) c.loop-id.next c.list_object.new.next) c.loop-id.invariant.stays c.in-Ok.ensures.named);
  left = ids_next c.args.held.now c.args.ids.now c.loop-id.id-index c.id-item.result c.loop-id.seen c.list_object.new.seen (omega arith) c.id-item.is
      c.loop-id.invariant.left c.in-Ok.ensures.value.0.met
      (subst (λ held. AreSeen c.list_object.new.seen (entries_at held c.id-item.result)) c.loop-id.invariant.stays c.in-Ok.ensures.value.1);
}

pub returns-clause-value : goal.returns-clause-value
returns-clause-value c = (
  subst (λ none. Lists c.args.seen.now c.loop-id.seen none c.loop-id.next) c.new-next.ensures.value c.loop-id.invariant.lists,
  ids_end c.args.held.now c.args.ids.now c.loop-id.id-index c.loop-id.seen (omega arith) c.loop-id.invariant.left,
)

pub returns-clause-named : goal.returns-clause-named
returns-clause-named c = named_end c.args.held.now c.args.ids.now _ c.loop-id.next c.new-next.ensures.value c.loop-id.invariant.named
