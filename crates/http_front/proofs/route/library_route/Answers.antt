use Rattle.std.proofs.Common.{sym}
use Rattle.http_front.proofs.TargetLemmas.{cut_at_slash, no_slash}
use Rattle.http_front.proofs.RouteLemmas.{id_and_more}
use Rattle.http_front.proofs.route.library_route.Goals as goal

pub returns-in-Some-split_once : goal.returns-in-Some-split_once
returns-in-Some-split_once c =
    rw (cut_at_slash c.args.path.now (c.in-Some.word, c.in-Some.name) c.in-Some.ensures.cases, cut_at_slash c.in-Some.name.now c.in-Some-split_once.field-0 c.in-Some-split_once.ensures.cases)
    (sym (id_and_more c.args.method c.args.lib c.in-Some.word.now c.in-Some-split_once.field-0.0.now c.in-Some-split_once.field-0.1.now))

pub returns-in-None-split_once : goal.returns-in-None-split_once
returns-in-None-split_once c =
    rw (cut_at_slash c.args.path.now (c.in-Some.word, c.in-Some.name) c.in-Some.ensures.cases, no_slash c.in-Some.name.now c.in-None-split_once.ensures.cases) c.pair_route.ensures

pub returns-in-None : goal.returns-in-None
returns-in-None c = rw (no_slash c.args.path.now c.in-None.ensures.cases) c.word_route.ensures
