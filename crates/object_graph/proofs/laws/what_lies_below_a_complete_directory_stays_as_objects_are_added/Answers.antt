use Rattle.object_graph.proofs.CommitLemmas.{below_grown}
use Rattle.object_graph.proofs.laws.what_lies_below_a_complete_directory_stays_as_objects_are_added.Goals as goal

pub returns : goal.returns
returns c = λ old new room path id complete keeps below. below_grown old new room path id complete keeps below
