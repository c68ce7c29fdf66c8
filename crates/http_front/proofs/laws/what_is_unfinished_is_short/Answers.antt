use Rattle.http_front.proofs.UnfinishedLemmas.{no_whole_unfinished, unfinished_bound}
use Rattle.http_front.proofs.laws.what_is_unfinished_is_short.Goals as goal

pub returns : goal.returns
returns c = record { none = no_whole_unfinished; bound = unfinished_bound }
