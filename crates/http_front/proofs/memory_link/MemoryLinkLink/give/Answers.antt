use Rattle.std.proofs.Common.{ap, sym}
use Rattle.http_front.proofs.MemoryLinkLemmas.{gives_part}
use Rattle.http_front.proofs.memory_link.MemoryLinkLink.give.Goals as goal

pub returns-then-not-put_within-clause-given : goal.returns-then-not-put_within-clause-given
returns-then-not-put_within-clause-given c =
    rw (c.put_within.ensures.items, sym (ap (λ s. s.given) c.self.view_is)) (gives_part _ _ _)
