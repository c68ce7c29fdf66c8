use Rattle.folder_side.proofs.LeftLemmas.{stuck_goes_on}
use Rattle.folder_side.proofs.laws.the_stuck_directories_stay_where_only_visible_entries_change.Goals as goal

pub returns : goal.returns
returns c = record { value = stuck_goes_on }
