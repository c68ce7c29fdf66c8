-- The end of a file.
use Rattle.std.proofs.Common.{◌∙◌, [], ℕ, List, ap, map, refl, subst, sym}
use Rattle.std.proofs.lemmas.List.{append-nil}
use Rattle.sha1.specs.Sha1.{sha1}
use Rattle.std.specs.Option.{option_to_list}
use Rattle.tree_push.specs.Asking.{Ran, PutsAmong}
use Rattle.tree_push.specs.BlockUpload.{PutsOff}
use Rattle.tree_push.specs.Lacking.{has_key}
use Rattle.tree_push.proofs.BlockUploadLemmas.{change_own, last_all, last_of, none_left, off_none}
use Rattle.tree_push.proofs.SentOnceLemmas.{takes_none}
use Rattle.tree_push.proofs.TraceLemmas.{ran_none, stopped_own}
use Rattle.tree_push.proofs.block_upload.put_last.Goals as goal

pub returns-then-not-is_empty-clause-value : goal.returns-then-not-is_empty-clause-value
returns-then-not-is_empty-clause-value g c =
    stopped_own c.args.library.now (PutsAmong (has_key c.args.lacking.now)) (PutsOff (map sha1 (option_to_list c.in-Ok.last)) c.args.lacking.now c.put_if.new.lacking) _ _ c.changed.result c.in-Ok-put_if.ensures.value (change_own c.args.path.now c.changed.result c.changed.ensures.value)

pub returns-then-not-is_empty-clause-cause : goal.returns-then-not-is_empty-clause-cause
returns-then-not-is_empty-clause-cause g c = λ is.
    absurd (none_left c.args.left.now c.in-Ok-put_if.rest.now c.args.chunker.begun c.in-Ok.last (last_of c.finish.result c.in-Ok.last c.args.chunker.begun (c.finish.ensures.value c.requires.ready) c.in-Ok.is)
    is c.in-Ok-put_if.ensures.rest (sym c.is_empty.ensures ∙ c.if-not-is_empty.true))

pub returns-in-Err-put_if-clause-cause : goal.returns-in-Err-put_if-clause-cause
returns-in-Err-put_if-clause-cause g c = λ is.
    c.in-Err-put_if.ensures.cause []
    (is ∙ ap (λ o. map sha1 (option_to_list o)) (sym (last_of c.finish.result c.in-Ok.last c.args.chunker.begun (c.finish.ensures.value c.requires.ready) c.in-Ok.is)) ∙ sym (append-nil (map sha1 (option_to_list c.in-Ok.last))))

pub returns-in-Err-clause-value : goal.returns-in-Err-clause-value
returns-in-Err-clause-value g c =
    stopped_own c.args.library.now (PutsAmong (has_key c.args.lacking.now)) (PutsOff [] c.args.lacking.now c.args.lacking.now) _ _ _
    (ran_none c.args.library.now (PutsAmong (has_key c.args.lacking.now)) (PutsOff [] c.args.lacking.now c.args.lacking.now) _ _ refl (off_none c.args.lacking.now)) refl

pub returns-clause-value : goal.returns-clause-value
returns-clause-value g c =
    subst
    (λ (ids : List (List ℕ)). Ran c.args.library.now (PutsAmong (has_key c.args.lacking.now)) (PutsOff ids c.args.lacking.now c.put_if.new.lacking) (g.R.Remote.sends c.args.remote.now)
    (g.R.Remote.sends c.put_if.new.remote))
    (last_all c.args.left.now c.in-Ok-put_if.rest.now c.in-Ok.last c.in-Ok-put_if.ensures.rest (sym c.is_empty.ensures ∙ c.if-not-is_empty.false)) c.in-Ok-put_if.ensures.value

pub returns-clause-rest : goal.returns-clause-rest
returns-clause-rest g c =
    sym (last_all c.args.left.now c.in-Ok-put_if.rest.now c.in-Ok.last c.in-Ok-put_if.ensures.rest (sym c.is_empty.ensures ∙ c.if-not-is_empty.false))
    ∙ ap (λ o. map sha1 (option_to_list o)) (last_of c.finish.result c.in-Ok.last c.args.chunker.begun (c.finish.ensures.value c.requires.ready) c.in-Ok.is)

pub returns-in-Err-clause-once : goal.returns-in-Err-clause-once
returns-in-Err-clause-once g c = takes_none c.args.lacking.now (g.R.Remote.sends c.args.remote.now)
