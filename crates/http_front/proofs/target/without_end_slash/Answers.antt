use Rattle.std.proofs.Common.{lit<, Some, None}
use Rattle.std.proofs.lemmas.Str.Pattern.{strip_suffix_char}
use Rattle.http_front.proofs.TargetLemmas.{end_slash_dropped, no_end_slash}
use Rattle.http_front.proofs.target.without_end_slash.Goals as goal

pub returns-in-Some : goal.returns-in-Some
returns-in-Some c = end_slash_dropped _ _ (strip_suffix_char 47 c.args.path.now (Some c.in-Some.front) c.in-Some.ensures.cases (lit< tt))

pub returns-in-None : goal.returns-in-None
returns-in-None c = no_end_slash _ (strip_suffix_char 47 c.args.path.now None c.in-None.ensures.cases (lit< tt))
