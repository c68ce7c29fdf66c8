use Rattle.std.proofs.Common.{◌≡◌}
use Rattle.std.specs.List.{list_all}
use Rattle.tree_model.specs.Path.{parent_of}
use Rattle.local_index.specs.IndexText.{is_dir_in, all_stand}
use Rattle.local_index.proofs.entry_reading.all_stand.Given as goal

abbrev pub invariant-loop-path : goal.invariant-loop-path
invariant-loop-path l = list_all (λ entry. is_dir_in l.entries (parent_of entry.0)) l.path-iterator ≡ all_stand l.entries
