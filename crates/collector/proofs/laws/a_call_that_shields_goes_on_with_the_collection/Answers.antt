use Rattle.collector.proofs.GoesOnLemmas.{shields_collect}
use Rattle.collector.proofs.laws.a_call_that_shields_goes_on_with_the_collection.Goals as goal

pub returns : goal.returns
returns c = λ s t before after old new sound later collects good shields. shields_collect s t before after old new sound collects good shields
