-- The ids so far are noted.
use Rattle.std.proofs.Common.{drop}
use Rattle.tree_push.proofs.NotedLemmas.{IsNoting}
use Rattle.tree_push.proofs.lacking.note_ids.Given as goal

abbrev pub invariant-loop-id : goal.invariant-loop-id
invariant-loop-id l = IsNoting l.kind l.ids (drop l.id-index l.ids) l.fn.lacking l.lacking
