-- The file is written down behind its directory's path.
use Rattle.std.proofs.Common.{Some, ap, ◌∙◌}
use Rattle.tree_model.specs.Path.{PathV}
use Rattle.tree_model.specs.MergeParts.{earlier}
use Rattle.tree_merge.specs.WorkSoFar.{long_told}
use Rattle.tree_merge.proofs.level_merge.refuse_name.Goals as goal

pub returns-in-Ok-clause-ok : goal.returns-in-Ok-clause-ok
returns-in-Ok-clause-ok c = record {
  long = c.note_long.ensures.ok ∙ ap (λ (p : PathV). earlier (long_told c.args.work.now.long) (Some (p, c.args.bytes))) c.in-Ok.ensures.value;
  made = c.note_long.ensures.stays.0;
  stop = c.note_long.ensures.stays.2;
}
