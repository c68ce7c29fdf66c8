use Rattle.std.proofs.Common.{◌≡◌, map, take, true}
use Rattle.std.specs.List.{list_all}
use Rattle.std.specs.Option.{is_none}
use Rattle.tree_model.specs.Name.{name_fault}
use Rattle.tree_model.proofs.path.good_path.Given as goal

abbrev pub invariant-loop-name : goal.invariant-loop-name
invariant-loop-name l = record {
  path : l.path ≡ map (λ name. name.now) (take l.name-index l.names);
  good : list_all (λ name. is_none (name_fault name)) l.path ≡ true;
}
