-- What is packed is the object of the reply.
use Rattle.std.proofs.Common.{ℕ, List, ◌≡◌, ◌++◌, subst}
use Rattle.std.specs.Prelude.{IfOk}
use Rattle.http_front.specs.ReplyText.{octet_parts, written}
use Rattle.http_front.proofs.object_reply.packed_own.Goals as goal

pub returns-in-Ok-clause-value : goal.returns-in-Ok-clause-value
returns-in-Ok-clause-value c =
    subst (λ (bytes : List ℕ). IfOk c.object_own.result (λ made. made.front ++ made.object ≡ written (octet_parts bytes) c.args.closes)) c.in-Ok.ensures.value
    c.object_own.ensures.value
