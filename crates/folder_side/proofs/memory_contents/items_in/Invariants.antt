use Rattle.std.proofs.Common.{◌≡◌, ◌++◌}
use Rattle.std.specs.List.{filter_map}
use Rattle.std.specs.FinMap as map
use Rattle.folder_side.specs.Folder.{item_of}
use Rattle.folder_side.proofs.memory_contents.items_in.Given as goal

abbrev pub invariant-loop-path : goal.invariant-loop-path
invariant-loop-path l = l.items ++ filter_map (item_of l.dir) l.path-iterator ≡ filter_map (item_of l.dir) (map.entries l.paths)
