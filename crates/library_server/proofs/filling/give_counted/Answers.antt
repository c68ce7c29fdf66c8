-- What is counted is what is given back.
use Rattle.library_server.proofs.FilledLemmas.{objects_told}
use Rattle.library_server.proofs.filling.give_counted.Goals as goal

pub returns-clause-left : goal.returns-clause-left
returns-clause-left g c = record {
  known = rw c.close-store.ensures.value at c.count-left.ensures.value;
  told = λ t told. c.count-left.ensures.found t.objects (rw c.close-store.ensures.value (objects_told g.G.S.Shelf.contents g.G.S.Shelf.faults c.args.depot t told));
}
