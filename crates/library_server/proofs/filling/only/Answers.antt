-- What is taken from a list of one is the one.
use Rattle.library_server.proofs.FilledLemmas.{last_alone}
use Rattle.library_server.proofs.filling.only.Goals as goal

pub returns : goal.returns
returns g c = last_alone c.args.depots.items _ c.in-Some.depot c.in-Some.ensures.items c.requires.one
