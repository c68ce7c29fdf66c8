use Rattle.tree_walk.proofs.KnownTreesLemmas.{known_file_stored, known_stored}
use Rattle.tree_walk.proofs.laws.what_is_known_is_stored.Goals as goal

pub returns : goal.returns
returns c = record {
  dirs = λ objects known id extent fits other there. known_stored objects known id extent fits other there;
  files = λ objects known id fits other there. known_file_stored objects known id fits other there;
}
