-- One turn more.
use Rattle.depot.proofs.CollectionLemmas.{turn_counts}
use Rattle.depot.proofs.collection.Collection.count_turn.Goals as goal

pub returns : goal.returns
returns c = record {
  value = turn_counts c.self.inside.marks c.self.inside.fresh c.self.inside.stored c.self.inside.turned.count c.one_more-self-inside.result.count c.args.self.now c.one_more-self-inside.ensures.value c.self.view_is;
}
