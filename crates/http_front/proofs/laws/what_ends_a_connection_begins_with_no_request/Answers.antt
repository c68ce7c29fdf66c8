use Rattle.http_front.proofs.StreamLemmas.{no_whole_cut, no_whole_refused}
use Rattle.http_front.proofs.laws.what_ends_a_connection_begins_with_no_request.Goals as goal

pub returns : goal.returns
returns c = record { cut = no_whole_cut; refused = no_whole_refused }
