use Rattle.http_front.proofs.StreamLemmas.{reads_begin}
use Rattle.http_front.proofs.laws.an_input_spells_its_requests_in_one_way.Goals as goal

pub returns : goal.returns
returns c = reads_begin
