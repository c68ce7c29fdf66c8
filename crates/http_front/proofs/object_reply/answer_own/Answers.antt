-- An object is what was got.
use Rattle.std.proofs.Common.{◌≡◌, ◌++◌, subst, sym}
use Rattle.std.specs.Prelude.{IfOk}
use Rattle.library_state.specs.declared.reply.Reply.{Reply}
use Rattle.http_front.specs.ReplyText.{text}
use Rattle.http_front.specs.declared.outcome.Outcome.TheVariants.{Plain}
use Rattle.http_front.proofs.object_reply.answer_own.Goals as goal

pub returns-in-Got : goal.returns-in-Got
unfolding text
returns-in-Got c = record {
  value = subst (λ (reply : Reply). IfOk c.object_own.result (λ made. made.front ++ made.object ≡ text (Plain reply c.args.tag) c.args.closes)) (sym c.in-Got.is)
      c.object_own.ensures.value;
}
