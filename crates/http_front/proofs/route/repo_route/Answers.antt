use Rattle.std.proofs.Common.{sym}
use Rattle.http_front.proofs.TargetLemmas.{cut_at_slash, no_slash}
use Rattle.http_front.proofs.RouteLemmas.{library_alone}
use Rattle.http_front.proofs.route.repo_route.Goals as goal

pub returns-in-Some-library_id : goal.returns-in-Some-library_id
returns-in-Some-library_id c =
    rw (cut_at_slash c.args.path.now (c.in-Some.name, c.in-Some.rest) c.in-Some.ensures.cases, ← c.in-Some-library_id.ensures.value) c.library_route.ensures

pub returns-in-None-library_id : goal.returns-in-None-library_id
returns-in-None-library_id c =
    rw (cut_at_slash c.args.path.now (c.in-Some.name, c.in-Some.rest) c.in-Some.ensures.cases, ← c.in-None-library_id.ensures.value)

pub returns-in-None : goal.returns-in-None
returns-in-None c = rw (no_slash c.args.path.now c.in-None.ensures.cases) (sym (library_alone c.args.method _))
