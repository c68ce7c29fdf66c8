-- Some of the objects were put, and the others can be.
use Rattle.std.specs.FinMap as map
use Rattle.depot.specs.Plan.{listed}
use Rattle.depot.proofs.UpdateInstallLemmas.{IsPutting}
use Rattle.depot.proofs.update_install.put_dirs.Given as goal

abbrev pub invariant-loop-key : goal.invariant-loop-key
invariant-loop-key g l =
    IsPutting g.S.Shelf.contents g.S.Shelf.may_give g.S.Shelf.texts g.S.Shelf.faults (listed (map.entries l.dirs)) l.initial.store (listed l.key-iterator) l.store
