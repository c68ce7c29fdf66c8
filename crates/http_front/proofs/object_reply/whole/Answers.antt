-- Nothing follows the first part.
use Rattle.std.proofs.Common.{ℕ, List, ◌++◌, ap, ◌∙◌, append-nil}
use Rattle.http_front.proofs.object_reply.whole.Goals as goal

pub returns : goal.returns
returns c = record { value = ap (λ (object : List ℕ). c.args.front ++ object) c.new.ensures.value ∙ append-nil c.args.front }
