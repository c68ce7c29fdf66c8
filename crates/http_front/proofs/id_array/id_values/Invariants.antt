-- The values so far are those of the ids so far.
use Rattle.std.proofs.Common.{◌≡◌, map, take}
use Rattle.serde_json.specs.View.{view}
use Rattle.json_words.specs.IdText.{id_data}
use Rattle.http_front.proofs.id_array.id_values.Given as goal

abbrev pub invariant-loop-id : goal.invariant-loop-id
invariant-loop-id l = map view l.values.items ≡ map id_data (take l.id-index l.ids)
