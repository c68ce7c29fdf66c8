-- Each reply is the text of its outcome.
use Rattle.std.proofs.Common.{◌≡◌, ◌++◌, subst, sym}
use Rattle.std.specs.Prelude.{IfOk}
use Rattle.http_front.specs.ReplyText.{text}
use Rattle.http_front.specs.declared.outcome.Outcome.{Outcome}
use Rattle.http_front.proofs.object_reply.reply_own.Goals as goal

pub returns-in-Plain-clause-value : goal.returns-in-Plain-clause-value
returns-in-Plain-clause-value c =
    subst (λ (outcome : Outcome). IfOk c.answer_own.result (λ reply. reply.front ++ reply.object ≡ text outcome c.args.closes)) (sym c.in-Plain.is)
    c.answer_own.ensures.value

pub returns-in-Packed-clause-value : goal.returns-in-Packed-clause-value
unfolding text
returns-in-Packed-clause-value c =
    subst (λ (outcome : Outcome). IfOk c.packed_own.result (λ reply. reply.front ++ reply.object ≡ text outcome c.args.closes)) (sym c.in-Packed.is)
    c.packed_own.ensures.value
