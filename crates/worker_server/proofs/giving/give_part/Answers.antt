-- What is given is the part, and nothing where it is empty.
use Rattle.std.proofs.Common.{ℕ, List, subst, sym, ◌∙◌}
use Rattle.http_front.specs.Link.{Gives}
use Rattle.worker_server.proofs.GivingLemmas.{nothing_given}
use Rattle.worker_server.proofs.giving.give_part.Goals as goal

pub returns-then-is_empty-clause-given : goal.returns-then-is_empty-clause-given
returns-then-is_empty-clause-given g c =
    nothing_given (g.L.Link.given c.args.link.now) c.args.part.now (sym c.is_empty.ensures.value ∙ c.if-is_empty.true)

pub returns-clause-given : goal.returns-clause-given
returns-clause-given g c =
    subst (λ (piece : List ℕ). Gives (g.L.Link.given c.args.link.now) (g.L.Link.given c.give.new.self) piece c.give.result) c.slice.ensures.value c.give.ensures.given
