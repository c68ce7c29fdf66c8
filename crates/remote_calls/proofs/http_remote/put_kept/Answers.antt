-- None is kept before.
use Rattle.std.proofs.Common.{◌∙◌}
use Rattle.remote_calls.proofs.LinkChoiceLemmas.{never_kept}
use Rattle.remote_calls.proofs.http_remote.put_kept.Goals as goal

pub returns-in-Some-clause-stays : goal.returns-in-Some-clause-stays
returns-in-Some-clause-stays g c = never_kept c.replace.result c.in-Some.last (c.replace.ensures.value ∙ c.requires.none) c.in-Some.is
