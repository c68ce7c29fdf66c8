-- The text was put whole, or a front of it.
use Rattle.std.proofs.Common.{refl}
use Rattle.client_commands.specs.Printing.{in_part, whole}
use Rattle.client_commands.proofs.printing.put.Goals as goal

pub returns-in-Ok : goal.returns-in-Ok
returns-in-Ok g c = record { prints = whole c.in-Ok.ensures.given c.in-Ok.ensures.faults refl }

pub returns-in-Err : goal.returns-in-Err
returns-in-Err g c = record { prints = in_part c.in-Err.ensures.given c.in-Err.ensures.faults.1 refl }
