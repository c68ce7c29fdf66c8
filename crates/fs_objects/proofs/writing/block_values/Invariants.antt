-- The values so far are those of the blocks so far.
use Rattle.std.proofs.Common.{◌≡◌, All, map, take}
use Rattle.serde_json.specs.View.{view}
use Rattle.json_words.specs.IdText.{id_data, IsId}
use Rattle.fs_objects.proofs.writing.block_values.Given as goal

abbrev pub invariant-loop-id : goal.invariant-loop-id
invariant-loop-id l = record {
  value : map view l.values.items ≡ map id_data (take l.id-index l.blocks);
  typed : All IsId (take l.id-index l.blocks);
}
