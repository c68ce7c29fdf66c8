-- Each commit that is looked at decides, or leads on to its first parent.
use Rattle.std.proofs.Common.{◌∙◌, ◌-◌, ap, Ok, Err}
use Rattle.library_rules.specs.LibraryState.{is_kept}
use Rattle.tree_walk.proofs.ReadsLemmas.{reads_done, reads_then, told_after}
use Rattle.depot.specs.declared.update_base.Look.TheVariants as look
use Rattle.depot.proofs.UpdateBaseLemmas.{at_look, base_ends, base_here, base_on, finds_fault, finds_moved, not_kept, reads_fails}
use Rattle.depot.proofs.update_base.find_base.Goals as goal

pub returns-in-Err-clause-value : goal.returns-in-Err-clause-value
returns-in-Err-clause-value g c = λ s told same.
    let seen = c.in-Err.ensures.value s.objects (told_after c.loop-steps.invariant.reads told) in
    finds_moved s.objects _ _ c.in-Err.fault (c.loop-steps.invariant.left s told same)
    (finds_fault s (128 - c.loop-steps.steps) c.loop-steps.steps c.loop-steps.id c.in-Err.fault (not_kept s c.args.kept.now c.loop-steps.id same seen.0) seen.1)

pub returns-in-Err-clause-stays : goal.returns-in-Err-clause-stays
returns-in-Err-clause-stays g c = reads_then tt (Err c.in-Err.fault) c.loop-steps.invariant.reads (reads_fails c.in-Err.fault c.in-Err.ensures.stays)

pub returns-in-Kept-clause-value : goal.returns-in-Kept-clause-value
returns-in-Kept-clause-value g c = λ s told same.
    c.loop-steps.invariant.left s told same
    ∙ base_here s (128 - c.loop-steps.steps) c.loop-steps.steps c.loop-steps.id (ap (λ k. is_kept k c.loop-steps.id) same
    ∙ at_look s.objects c.args.kept.now c.loop-steps.id c.in-Ok.seen look.Kept c.in-Kept.is (c.in-Ok.ensures.value s.objects (told_after c.loop-steps.invariant.reads told)))

pub returns-in-Last-clause-value : goal.returns-in-Last-clause-value
returns-in-Last-clause-value g c = λ s told same.
    let seen = at_look s.objects c.args.kept.now c.loop-steps.id c.in-Ok.seen look.Last c.in-Last.is (c.in-Ok.ensures.value s.objects (told_after c.loop-steps.invariant.reads told)) in
    c.loop-steps.invariant.left s told same
    ∙ base_ends s (128 - c.loop-steps.steps) c.loop-steps.steps c.loop-steps.id (not_kept s c.args.kept.now c.loop-steps.id same seen.0) seen.1

pub loop-steps-preserved : goal.loop-steps-preserved
loop-steps-preserved g c = record {
  reads = reads_done c.in-Ok.seen (reads_then tt (Ok c.in-Ok.seen) c.loop-steps.invariant.reads c.in-Ok.ensures.stays);
  left = λ s told same.
      let seen = at_look s.objects c.args.kept.now c.loop-steps.id c.in-Ok.seen (look.Parent c.in-Parent.parent) c.in-Parent.is (c.in-Ok.ensures.value s.objects (told_after c.loop-steps.invariant.reads told)) in
      c.loop-steps.invariant.left s told same
      ∙ base_on s c.loop-steps.steps c.loop-steps.id c.in-Parent.parent c.loop-steps-test.true (not_kept s c.args.kept.now c.loop-steps.id same seen.0) seen.1;
}
