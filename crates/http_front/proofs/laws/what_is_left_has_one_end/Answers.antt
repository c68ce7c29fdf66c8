use Rattle.http_front.proofs.EndLemmas.{cut_or_refused, nothing_cut, nothing_refused, one_cut, one_status}
use Rattle.http_front.proofs.laws.what_is_left_has_one_end.Goals as goal

pub returns : goal.returns
returns c = record {
  nothing_cut = nothing_cut;
  nothing_refused = nothing_refused;
  one_cut = one_cut;
  one_status = one_status;
  cut_or_refused = cut_or_refused;
}
