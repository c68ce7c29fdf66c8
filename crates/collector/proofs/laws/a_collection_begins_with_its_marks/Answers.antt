use Rattle.collector.proofs.GoesOnLemmas.{begins_collecting}
use Rattle.collector.proofs.laws.a_collection_begins_with_its_marks.Goals as goal

pub returns : goal.returns
returns c = λ s moment running index commits marks sound runs knows kept first good. begins_collecting s moment running index commits marks sound runs knows kept first good
