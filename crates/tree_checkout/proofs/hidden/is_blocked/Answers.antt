use Rattle.std.proofs.Common.{◌&&◌}
use Rattle.std.specs.List.{list_any}
use Rattle.tree_model.specs.DirectorySurvival.{is_within}
use Rattle.tree_checkout.specs.Planning.{is_file_entry, is_stuck_in}
use Rattle.tree_checkout.proofs.HindrancesLemmas.{or_here, or_next}
use Rattle.tree_checkout.proofs.hidden.is_blocked.Goals as goal

pub returns-then-has_file_at_stuck : goal.returns-then-has_file_at_stuck
returns-then-has_file_at_stuck c = record {
  value = or_here (is_file_entry c.args.entry.now && is_stuck_in c.args.scan.now c.args.path.now) (list_any (λ other. is_within other c.args.path.now) c.args.scan.now.skipped)
      c.has_file_at_stuck.result c.has_file_at_stuck.ensures.value c.if-has_file_at_stuck.true;
}

pub returns : goal.returns
returns c = record {
  value = or_next (is_file_entry c.args.entry.now && is_stuck_in c.args.scan.now c.args.path.now) (list_any (λ other. is_within other c.args.path.now) c.args.scan.now.skipped)
      c.has_file_at_stuck.result c.in_ok-is_below_skipped.field-0 c.has_file_at_stuck.ensures.value c.if-has_file_at_stuck.false c.in_ok-is_below_skipped.ensures.value;
}
