use Rattle.std.proofs.Common.{refl}
use Rattle.local_folder.specs.Steps.{moved_in}
use Rattle.local_folder.proofs.StepLemmas.{none-done}
use Rattle.local_folder.proofs.local_folder.LocalFolder.name_spare.Goals as goal

pub returns-then-is_none-clause-order : goal.returns-then-is_none-clause-order
returns-then-is_none-clause-order g c = none-done (moved_in c.args.file.now) (g.C.DirectoryCalls.steps c.args.self.now.calls) (g.C.DirectoryCalls.steps c.args.self.now.calls) refl
