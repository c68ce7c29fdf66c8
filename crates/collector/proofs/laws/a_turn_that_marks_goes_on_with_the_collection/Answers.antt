use Rattle.collector.proofs.CollectingLemmas.{marks_so}
use Rattle.collector.proofs.GoesOnLemmas.{marks_collect, waits_collect}
use Rattle.collector.proofs.laws.a_turn_that_marks_goes_on_with_the_collection.Goals as goal

pub returns-clause-stands : goal.returns-clause-stands
returns-clause-stands c = λ s running marks e sound collects some says none. marks_so s running marks sound collects e some says none

pub returns-clause-value : goal.returns-clause-value
returns-clause-value c = λ s running old new count sound collects marks good. marks_collect s running old new count sound collects marks good

pub returns-clause-err : goal.returns-clause-err
returns-clause-err c = λ s running old new sound collects marks good. waits_collect s running old new sound collects marks good
