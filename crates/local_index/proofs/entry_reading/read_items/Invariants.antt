use Rattle.std.proofs.Common.{◌≡◌, map, drop}
use Rattle.std.specs.FinMap as fin
use Rattle.serde_json.specs.View.{view}
use Rattle.local_index.specs.IndexText.{with_entries}
use Rattle.local_index.specs.Reading.{IsSound}
use Rattle.local_index.proofs.entry_reading.read_items.Given as goal

abbrev pub invariant-loop-item : goal.invariant-loop-item
invariant-loop-item l = record {
  ahead : with_entries fin.empty (map view l.items) ≡ with_entries l.entries (map view (drop l.item-index l.items));
  sound : IsSound l.entries;
}
