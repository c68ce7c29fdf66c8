-- A chunk under the next name.
use Rattle.std.proofs.Common.{◌∙◌, ◌∷◌, [], ℕ, List, ap, refl, subst, sym}
use Rattle.sha1.specs.Sha1.{sha1}
use Rattle.tree_push.specs.Asking.{Ran, PutsAmong}
use Rattle.tree_push.specs.BlockUpload.{PutsOff}
use Rattle.tree_push.specs.Lacking.{has_key}
use Rattle.tree_push.proofs.BlockUploadLemmas.{change_own, change_put, off_none, order_no_change, order_put}
use Rattle.tree_push.proofs.SentOnceLemmas.{takes_none}
use Rattle.tree_push.proofs.TraceLemmas.{ran_none, stopped_own}
use Rattle.tree_push.proofs.block_upload.put_chunk.Goals as goal

pub returns-in_default-clause-value : goal.returns-in_default-clause-value
returns-in_default-clause-value g c =
    stopped_own c.args.library.now (PutsAmong (has_key c.args.lacking.now)) (PutsOff [] c.args.lacking.now c.args.lacking.now) _ _ c.changed.result
    (ran_none c.args.library.now (PutsAmong (has_key c.args.lacking.now)) (PutsOff [] c.args.lacking.now c.args.lacking.now) _ _ refl (off_none c.args.lacking.now))
    (change_own c.args.path.now c.changed.result c.changed.ensures.value)

pub returns-in_default-clause-cause : goal.returns-in_default-clause-cause
returns-in_default-clause-cause g c = λ rest is.
    absurd (c.in_default.ensures.none rest (is ∙ ap (λ (i : List ℕ). i ∷ rest) (sym (c.of-id.ensures.value ∙ ap sha1 c.slice.ensures.value))))

pub returns-in_default-clause-faults : goal.returns-in_default-clause-faults
returns-in_default-clause-faults g c = change_put c.args.path.now c.changed.result c.changed.ensures.value

pub returns-in-Err-clause-cause : goal.returns-in-Err-clause-cause
returns-in-Err-clause-cause g c = λ rest is. order_no_change c.in-Err.fault c.in-Err.ensures.faults

pub returns-in-Err-clause-faults : goal.returns-in-Err-clause-faults
returns-in-Err-clause-faults g c = order_put c.args.path.now c.in-Err.fault c.in-Err.ensures.faults

pub returns-in-Ok-clause-rest : goal.returns-in-Ok-clause-rest
returns-in-Ok-clause-rest g c = c.in-Some.ensures.found ∙ ap (λ (i : List ℕ). i ∷ c.in-Some.rest.now) (c.of-id.ensures.value ∙ ap sha1 c.slice.ensures.value)

pub returns-in-Ok-clause-value : goal.returns-in-Ok-clause-value
returns-in-Ok-clause-value g c =
    subst
    (λ (i : List ℕ). Ran c.args.library.now (PutsAmong (has_key c.args.lacking.now)) (PutsOff (i ∷ []) c.args.lacking.now c.put_lacking.new.lacking) (g.R.Remote.sends c.args.remote.now)
    (g.R.Remote.sends c.put_lacking.new.remote))
    (c.of-id.ensures.value ∙ ap sha1 c.slice.ensures.value) c.in-Ok.ensures.value

pub returns-in_default-clause-once : goal.returns-in_default-clause-once
returns-in_default-clause-once g c = takes_none c.args.lacking.now (g.R.Remote.sends c.args.remote.now)
