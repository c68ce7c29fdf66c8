-- The sizes so far, with those of the rest, are those of all.
use Rattle.std.proofs.Common.{◌≡◌, drop, Some}
use Rattle.ids.specs.Key.{Objects}
use Rattle.object_store.specs.StoreView.{objects_of}
use Rattle.tree_walk.proofs.FileLemmas.{Sizes}
use Rattle.tree_walk.proofs.file.total_size.Given as goal

abbrev pub invariant-loop-block : goal.invariant-loop-block
invariant-loop-block g l = (objects : Objects) → objects_of g.S.Shelf.contents l.store ≡ Some objects → Sizes objects l.blocks (drop l.block-index l.blocks) l.total
