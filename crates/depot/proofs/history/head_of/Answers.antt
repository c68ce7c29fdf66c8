-- The last head update has the head.
use Rattle.depot.proofs.ToldLemmas.{head_at}
use Rattle.depot.proofs.history.head_of.Goals as goal

pub returns : goal.returns
returns c = record { value = head_at c.args.kept.now c.index-kept-kept.result c.requires.some }
