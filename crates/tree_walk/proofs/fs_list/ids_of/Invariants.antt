-- What is left, put into the map, gives the map of all.
use Rattle.std.proofs.Common.{◌≡◌, vec_len}
use Rattle.std.specs.BTreeMap.{IsOrdered}
use Rattle.std.specs.FinMap as map
use Rattle.ids.specs.MapView.{map_of}
use Rattle.ids.specs.ObjectId.{id_cmp}
use Rattle.tree_walk.specs.Known.{with_ids}
use Rattle.tree_walk.proofs.fs_list.ids_of.Given as goal

abbrev pub invariant-loop-key : goal.invariant-loop-key
invariant-loop-key l = (with_ids l.known l.wanted.items (map_of id_cmp l.ids) ≡ with_ids l.known l.fn.wanted.items map.empty) × IsOrdered id_cmp l.ids

abbrev pub decreases-loop-key : goal.decreases-loop-key
decreases-loop-key l = vec_len l.wanted
