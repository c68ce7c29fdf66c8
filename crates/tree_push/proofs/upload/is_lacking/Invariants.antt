-- The blocks so far aren't lacking.
use Rattle.std.proofs.Common.{◌≡◌, drop}
use Rattle.std.specs.List.{list_any}
use Rattle.object_graph.specs.Objects.{block_key}
use Rattle.tree_push.specs.Lacking.{has_key}
use Rattle.tree_push.proofs.upload.is_lacking.Given as goal

abbrev pub invariant-loop-id : goal.invariant-loop-id
invariant-loop-id l = list_any (λ id. has_key l.lacking (block_key id)) l.blocks ≡ list_any (λ id. has_key l.lacking (block_key id)) (drop l.id-index l.blocks)
