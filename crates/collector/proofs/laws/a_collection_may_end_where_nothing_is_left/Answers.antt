use Rattle.collector.proofs.GoesOnLemmas.{clean}
use Rattle.collector.proofs.laws.a_collection_may_end_where_nothing_is_left.Goals as goal

pub returns : goal.returns
returns c = λ s running marks collects none left. clean s running marks collects left
