use Rattle.std.proofs.Common.{map, sym, ap}
use Rattle.serde_json.specs.View.{view}
use Rattle.local_index.specs.IndexText.{KnownPaths, with_entries}
use Rattle.local_index.proofs.IndexReadBackLemmas.{IsSound-empty}
use Rattle.local_index.proofs.entry_reading.read_items.Goals as goal

pub loop-item-init : goal.loop-item-init
loop-item-init c = record {
  ahead = ap (λ (m : KnownPaths). with_entries m (map view c.args.items.now)) (sym c.new-entries.ensures.value);
  sound = rw c.new-entries.ensures.value IsSound-empty;
}
