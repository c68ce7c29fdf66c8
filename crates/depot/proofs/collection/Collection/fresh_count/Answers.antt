-- The keys of the table are the fresh ones.
use Rattle.std.proofs.Common.{ap, sym}
use Rattle.depot.specs.DepotView.{CollectionView}
use Rattle.depot.proofs.TellingLemmas.{table_count}
use Rattle.depot.proofs.collection.Collection.fresh_count.Goals as goal

pub returns : goal.returns
returns c = record {
  value = table_count c.self.inside.fresh c.args.self.now.running.fresh c.len.result (sym (ap (λ (a : CollectionView). a.running.fresh) c.self.view_is)) c.len.ensures.value;
}
