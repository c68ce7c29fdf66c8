use Rattle.std.proofs.Common.{◌≡◌, ◌∙◌, Err, ap}
use Rattle.tree_model.specs.Name.{name_fault}
use Rattle.conflict_names.proofs.naming.name_of.Goals as goal

pub unreachable-requires : goal.unreachable-requires
unreachable-requires c =
    let told = (c.read.ensures.bad c.in-Err-Bad.field-0-0).0 (c.in-Err-Bad.is ∙ ap Err c.in-Err-Bad.field-0-is) in
    let same : name_fault c.in-Ok.text.now ≡ name_fault c.args.bytes.now = ap name_fault c.in-Ok.ensures.cases.0 in
    cc (told, same, c.requires.name.faultless)
