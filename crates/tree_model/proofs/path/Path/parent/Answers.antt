use Rattle.std.proofs.Common.{subst, sym, ap, ◌∙◌}
use Rattle.tree_model.specs.Path.{IsPath, parent_of}
use Rattle.tree_model.proofs.BelowLemmas.{IsPath-parent}
use Rattle.tree_model.proofs.path.Path.parent.Goals as goal

pub invariant_of-result : goal.invariant_of-result
invariant_of-result c =
    subst IsPath (sym (c.in_ok-names.ensures.value ∙ c.names_above-above.ensures.value ∙ ap parent_of c.names.ensures.value)) (IsPath-parent c.args.self.now c.names.ensures.path)
