-- The chunks that end in a piece.
use Rattle.std.proofs.Common.{◌≡◌, ◌++◌, ◌∙◌, [], ℕ, List, ap, map, refl, subst}
use Rattle.std.specs.Prelude.{IfOk}
use Rattle.sha1.specs.Sha1.{sha1}
use Rattle.block_chunker.specs.ChunkerProgress.{finished_by}
use Rattle.tree_push.specs.Asking.{Went, PutsAmong}
use Rattle.tree_push.specs.BlockUpload.{NotChanged, PutsOff}
use Rattle.tree_push.specs.Lacking.{has_key}
use Rattle.tree_push.proofs.BlockUploadLemmas.{off_none}
use Rattle.tree_push.proofs.SentOnceLemmas.{takes_none}
use Rattle.tree_push.proofs.TraceLemmas.{ran_none, stopped_own}
use Rattle.tree_push.proofs.block_upload.put_piece.Goals as goal

pub returns-in-Err-clause-value : goal.returns-in-Err-clause-value
returns-in-Err-clause-value g c =
    stopped_own c.args.library.now (PutsAmong (has_key c.args.lacking.now)) (PutsOff [] c.args.lacking.now c.args.lacking.now) _ _ _
    (ran_none c.args.library.now (PutsAmong (has_key c.args.lacking.now)) (PutsOff [] c.args.lacking.now c.args.lacking.now) _ _ refl (off_none c.args.lacking.now)) refl

pub returns-clause-value : goal.returns-clause-value
returns-clause-value g c =
    subst
    (λ (chunks : List (List ℕ)). Went c.args.library.now (PutsAmong (has_key c.args.lacking.now)) (PutsOff (map sha1 chunks) c.args.lacking.now c.put_chunks.new.lacking) (g.R.Remote.sends c.args.remote.now)
    (g.R.Remote.sends c.put_chunks.new.remote) c.put_chunks.result)
    (c.in-Ok.ensures.finished ∙ ap (λ (l : List (List ℕ)). l ++ finished_by c.args.chunker.now c.args.piece.now) c.new-chunks.ensures.value) c.put_chunks.ensures.value

pub returns-clause-rest : goal.returns-clause-rest
returns-clause-rest g c =
    subst (λ (chunks : List (List ℕ)). IfOk c.put_chunks.result (λ rest. c.args.left.now ≡ map sha1 chunks ++ rest.now))
    (c.in-Ok.ensures.finished ∙ ap (λ (l : List (List ℕ)). l ++ finished_by c.args.chunker.now c.args.piece.now) c.new-chunks.ensures.value) c.put_chunks.ensures.rest

pub returns-clause-cause : goal.returns-clause-cause
returns-clause-cause g c =
    subst (λ (chunks : List (List ℕ)). (rest : List (List ℕ)) → c.args.left.now ≡ map sha1 chunks ++ rest → NotChanged c.put_chunks.result)
    (c.in-Ok.ensures.finished ∙ ap (λ (l : List (List ℕ)). l ++ finished_by c.args.chunker.now c.args.piece.now) c.new-chunks.ensures.value) c.put_chunks.ensures.cause

pub returns-in-Err-clause-once : goal.returns-in-Err-clause-once
returns-in-Err-clause-once g c = takes_none c.args.lacking.now (g.R.Remote.sends c.args.remote.now)
