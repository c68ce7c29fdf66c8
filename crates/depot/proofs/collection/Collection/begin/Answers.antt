-- No key is fresh, and no turn was taken.
use Rattle.depot.proofs.CollectionLemmas.{begins_as}
use Rattle.depot.proofs.collection.Collection.begin.Goals as goal

pub returns : goal.returns
returns c = record { value = begins_as c.args.marks c.new.result c.args.stored c.new-2.result.count c.new.ensures.value c.new-2.ensures.value }
