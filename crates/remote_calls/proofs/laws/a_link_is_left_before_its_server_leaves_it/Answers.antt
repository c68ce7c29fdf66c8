use Rattle.std.proofs.Common.{lit<}
use Rattle.remote_calls.proofs.laws.a_link_is_left_before_its_server_leaves_it.Goals as goal

pub returns : goal.returns
returns c = lit< tt
