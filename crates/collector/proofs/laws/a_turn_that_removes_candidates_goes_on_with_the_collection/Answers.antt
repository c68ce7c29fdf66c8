use Rattle.collector.proofs.CollectingLemmas.{sweeps_so}
use Rattle.collector.proofs.GoesOnLemmas.{stops_collect, sweeps_collect}
use Rattle.collector.proofs.laws.a_turn_that_removes_candidates_goes_on_with_the_collection.Goals as goal

pub returns-clause-stands : goal.returns-clause-stands
returns-clause-stands c = λ s running marks e sound collects none are some says. sweeps_so s running marks sound collects e none are some says

pub returns-clause-value : goal.returns-clause-value
returns-clause-value c = λ s running old new removed sound collects none are some same leaves. sweeps_collect s running old new removed sound collects none are same leaves some

pub returns-clause-err : goal.returns-clause-err
returns-clause-err c = λ s running old new removed sound collects none are same leaves. stops_collect s running old new removed sound collects none are same leaves
