-- The copies are told, and then the directory is made, if it has entries.
use Rattle.std.proofs.Common.{sym, ◌∙◌, ap₂, ◌+◌, min, ℕ}
use Rattle.tree_merge.proofs.LevelMadeLemmas.{level_made, level_nothing}
use Rattle.tree_merge.proofs.level_merge.make_level.Goals as goal

pub returns-then-size-eq0-clause-ok : goal.returns-then-size-eq0-clause-ok
returns-then-size-eq0-clause-ok c =
    level_nothing c.args.path.now c.args.named c.args.kept.now c.args.own c.args.work.now c.take_copies.new.told c.in-Ok.ensures.ok (sym c.len-size.ensures.value ∙ c.if-size-eq0.true)

pub returns-in-Ok-take_or_make-clause-ok : goal.returns-in-Ok-take_or_make-clause-ok
returns-in-Ok-take_or_make-clause-ok c =
    level_made c.args.path.now c.args.named c.args.kept.now c.args.own c.args.work.now c.take_copies.new.told c.in-Ok.ensures.ok c.take_or_make.new.work c.in-Ok-take_or_make.id c.saturating_add-paths.result
    (λ none. c.if-size-eq0.false (c.len-size.ensures.value ∙ none))
    (c.saturating_add-paths.ensures ∙ ap₂ (λ (a b : ℕ). min (a + b) 18446744073709551615) c.paths_of.ensures.value c.len-size.ensures.value)
    c.in-Ok-take_or_make.ensures.ok
