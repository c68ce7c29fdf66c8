use Rattle.std.proofs.Common.{refl}
use Rattle.collector.proofs.StoredCandidatesLemmas.{first_stored, grown_stored, marked_stored, taken_stored}
use Rattle.collector.proofs.laws.candidates_are_stored_and_stay_so.Goals as goal

pub returns-clause-stored : goal.returns-clause-stored
returns-clause-stored g c = λ index commits marks first. first_stored index commits marks first

pub returns-clause-left : goal.returns-clause-left
returns-clause-left g c = λ index old new marked stored. marked_stored old new index index marked refl stored

pub returns-clause-gone : goal.returns-clause-gone
returns-clause-gone g c = λ old new before after removed took stored. taken_stored g.S.Shelf.contents old new before after removed took stored

pub returns-clause-stays : goal.returns-clause-stays
returns-clause-stays g c = λ index more old new grows fewer stored. grown_stored index more old new grows fewer stored
