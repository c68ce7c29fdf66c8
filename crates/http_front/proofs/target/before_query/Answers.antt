use Rattle.std.proofs.Common.{lit<, Some, None}
use Rattle.std.proofs.lemmas.Str.Pattern.{split_once_first}
use Rattle.http_front.proofs.TargetLemmas.{before_first_whole}
use Rattle.http_front.proofs.target.before_query.Goals as goal

pub returns-in-Some : goal.returns-in-Some
returns-in-Some c = (split_once_first 63 c.args.target.now (Some (c.in-Some.path, c.in-Some._query)) c.in-Some.ensures.cases (lit< tt)).1

pub returns-in-None : goal.returns-in-None
returns-in-None c = before_first_whole _ _ (split_once_first 63 c.args.target.now None c.in-None.ensures.cases (lit< tt))
