-- The key is taken out of the table.
use Rattle.depot.proofs.CollectionLemmas.{stales_one}
use Rattle.depot.proofs.collection.Collection.stale_one.Goals as goal

pub returns : goal.returns
returns c = record {
  value = stales_one c.self.inside.marks c.self.inside.fresh c.self.inside.stored c.self.inside.turned.count c.args.key.now c.args.self.now c.self.view_is c.remove.new.self c.remove.ensures.stays;
}
