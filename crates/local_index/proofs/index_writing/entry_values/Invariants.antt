use Rattle.std.proofs.Common.{◌≡◌, ◌++◌, map}
use Rattle.std.specs.FinMap as fin
use Rattle.std.specs.List.{AllByRecursion}
use Rattle.serde_json.specs.View.{view}
use Rattle.local_index.specs.IndexSpelling.{entry_data}
use Rattle.local_index.specs.Typed.{IsTyped}
use Rattle.local_index.proofs.index_writing.entry_values.Given as goal

abbrev pub invariant-loop-path : goal.invariant-loop-path
invariant-loop-path l = record {
  value : map view l.values.items ++ map entry_data l.path-iterator ≡ map entry_data (fin.entries l.entries);
  typed : AllByRecursion IsTyped l.path-iterator → AllByRecursion IsTyped (fin.entries l.entries);
}
