-- The text is a name.
use Rattle.std.proofs.Common.{Err, ap}
use Rattle.client_desk.proofs.kept_texts.name_of.Goals as goal

pub unreachable-requires : goal.unreachable-requires
unreachable-requires c =
    let fault = (c.in-Err-Bad.ensures.bad c.in-Err-Bad.field-0-0).0 (ap Err c.in-Err-Bad.field-0-is) in
    let none = c.requires.good in
    cc
