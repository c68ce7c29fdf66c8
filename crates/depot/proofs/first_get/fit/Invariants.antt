-- What was added up is what the index knows of the ids so far, and no more than may be.
use Rattle.std.proofs.Common.{◌≡◌, ◌≤◌, ◌∷◌, take}
use Rattle.depot.specs.FirstGet.{sizes_of}
use Rattle.depot.proofs.first_get.fit.Given as goal

abbrev pub invariant-loop-next : goal.invariant-loop-next
invariant-loop-next g l = record {
  added : l.total ≡ sizes_of l.store.index (l.id ∷ take l.next-index l.more);
  within : l.total ≤ l.most;
}
