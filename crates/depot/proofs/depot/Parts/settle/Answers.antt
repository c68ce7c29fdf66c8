-- What is written is the text of the present state.
use Rattle.std.proofs.Common.{refl}
use Rattle.depot.proofs.GivingLemmas.{text_by}
use Rattle.depot.proofs.depot.Parts.settle.Goals as goal

pub returns-in-Err-clause-gives : goal.returns-in-Err-clause-gives
returns-in-Err-clause-gives g c = text_by c.args.self.now.state c.args.self.now.state.lib _ refl refl c.in-Err.ensures.gives

pub returns-clause-gives : goal.returns-clause-gives
returns-clause-gives g c = text_by c.args.self.now.state c.args.self.now.state.lib _ refl refl c.in-Ok.ensures.gives
