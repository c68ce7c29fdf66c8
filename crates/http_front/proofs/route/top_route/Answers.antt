use Rattle.http_front.proofs.TargetLemmas.{cut_at_slash, no_slash}
use Rattle.http_front.proofs.RouteLemmas.{top_and_more}
use Rattle.http_front.proofs.route.top_route.Goals as goal

pub returns-then-eq : goal.returns-then-eq
returns-then-eq c =
    rw (cut_at_slash c.args.path.now (c.in-Some.word, c.in-Some.rest) c.in-Some.ensures.cases, top_and_more c.args.method c.in-Some.word.now c.in-Some.rest.now, ← c.if-eq.ensures)
    c.repo_route.ensures

pub returns-else-eq : goal.returns-else-eq
returns-else-eq c =
    rw (cut_at_slash c.args.path.now (c.in-Some.word, c.in-Some.rest) c.in-Some.ensures.cases, top_and_more c.args.method c.in-Some.word.now c.in-Some.rest.now, ← c.if-eq.ensures)

pub returns-in-None : goal.returns-in-None
returns-in-None c = rw (no_slash c.args.path.now c.in-None.ensures.cases) c.version_route.ensures
