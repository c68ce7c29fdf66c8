-- A name was found good before.
use Rattle.std.proofs.Common.{Err, ap}
use Rattle.fs_objects.proofs.entry_reading.entry_from.Goals as goal

pub unreachable-requires : goal.unreachable-requires
unreachable-requires c =
    let fault = (c.in-Err-Bad.ensures.bad c.in-Err-Bad.field-0-0).0 (ap Err c.in-Err-Bad.field-0-is) in
    let none = c.requires.name in
    cc
