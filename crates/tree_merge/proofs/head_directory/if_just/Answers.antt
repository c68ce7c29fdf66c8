use Rattle.std.proofs.Common.{refl, sym, ◌∙◌, true≢false}
use Rattle.tree_merge.proofs.head_directory.if_just.Goals as goal

pub returns-then-lists_just-clause-some : goal.returns-then-lists_just-clause-some
returns-then-lists_just-clause-some c = (refl, c.lists_just.ensures.value.0 c.if-lists_just.true)

pub returns-else-lists_just-clause-none : goal.returns-else-lists_just-clause-none
returns-else-lists_just-clause-none c just = true≢false (sym (c.lists_just.ensures.value.1 just) ∙ c.if-lists_just.false)
