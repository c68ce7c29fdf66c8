-- The last commit that is looked at decides.
use Rattle.std.proofs.Common.{◌∙◌}
use Rattle.depot.specs.declared.update_base.Look.TheVariants as look
use Rattle.depot.proofs.UpdateBaseLemmas.{at_look, base_ends, base_here, base_over, finds_fault, not_kept}
use Rattle.library_rules.specs.LibraryState.{is_kept}
use Rattle.std.proofs.Common.{ap}
use Rattle.depot.proofs.update_base.find_last.Goals as goal

pub returns-in-Err-clause-value : goal.returns-in-Err-clause-value
returns-in-Err-clause-value g c = λ s told same.
    let seen = c.in-Err.ensures.value s.objects told in
    finds_fault s 0 128 c.args.id c.in-Err.fault (not_kept s c.args.kept.now c.args.id same seen.0) seen.1

pub returns-in-Kept-clause-value : goal.returns-in-Kept-clause-value
returns-in-Kept-clause-value g c = λ s told same.
    base_here s 0 128 c.args.id (ap (λ k. is_kept k c.args.id) same
    ∙ at_look s.objects c.args.kept.now c.args.id c.in-Ok.seen look.Kept c.in-Kept.is (c.in-Ok.ensures.value s.objects told))

pub returns-in-Parent-clause-value : goal.returns-in-Parent-clause-value
returns-in-Parent-clause-value g c = λ s told same.
    let seen = at_look s.objects c.args.kept.now c.args.id c.in-Ok.seen (look.Parent c.in-Parent.field-0) c.in-Parent.is (c.in-Ok.ensures.value s.objects told) in
    base_over s 128 c.args.id c.in-Parent.field-0 (not_kept s c.args.kept.now c.args.id same seen.0) seen.1

pub returns-in-Last-clause-value : goal.returns-in-Last-clause-value
returns-in-Last-clause-value g c = λ s told same.
    let seen = at_look s.objects c.args.kept.now c.args.id c.in-Ok.seen look.Last c.in-Last.is (c.in-Ok.ensures.value s.objects told) in
    base_ends s 0 128 c.args.id (not_kept s c.args.kept.now c.args.id same seen.0) seen.1
