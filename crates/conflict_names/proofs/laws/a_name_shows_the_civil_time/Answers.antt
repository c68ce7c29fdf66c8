use Rattle.conflict_names.proofs.CivilLemmas.{stamp-civil}
use Rattle.conflict_names.proofs.laws.a_name_shows_the_civil_time.Goals as goal

pub returns : goal.returns
returns c = stamp-civil
