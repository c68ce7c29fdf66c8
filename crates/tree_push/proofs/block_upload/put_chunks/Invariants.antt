-- The chunks so far were met.
use Rattle.std.proofs.Common.{◌≡◌, length, map, reverse}
use Rattle.sha1.specs.Sha1.{sha1}
use Rattle.tree_push.specs.BlockUpload.{IsPutting}
use Rattle.tree_push.specs.SentOnce.{TakesOnce}
use Rattle.tree_push.proofs.BlockUploadLemmas.{IsTaking}
use Rattle.tree_push.proofs.block_upload.put_chunks.Given as goal

abbrev pub invariant-loop-chunk : goal.invariant-loop-chunk
invariant-loop-chunk g l = record {
  peer : g.R.Remote.peer l.remote ≡ g.R.Remote.peer l.fn.remote;
  taking : IsTaking l.library (map sha1 l.fn.chunks) (map sha1 (reverse l.waiting.items)) l.fn.lacking l.lacking (g.R.Remote.sends l.fn.remote) (g.R.Remote.sends l.remote);
  once : TakesOnce l.fn.lacking l.lacking (g.R.Remote.sends l.fn.remote) (g.R.Remote.sends l.remote);
  putting : IsPutting l.fn.chunks l.left (reverse l.waiting.items) l.rest;
}

abbrev pub decreases-loop-chunk : goal.decreases-loop-chunk
decreases-loop-chunk g l = length l.waiting.items
