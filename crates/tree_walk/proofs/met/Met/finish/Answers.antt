use Rattle.std.proofs.Common.{◌∙◌, ap, sym, subst, true}
use Rattle.object_graph.specs.Traversal.{is_in}
use Rattle.tree_walk.specs.Visits.{IsMet, MetView}
use Rattle.tree_walk.proofs.VisitLemmas.{met_marked, visit_has}
use Rattle.tree_walk.proofs.met.Met.finish.Goals as goal

pub invariant_of-result : goal.invariant_of-result
invariant_of-result c =
    subst (λ marks. IsMet c.met.inside.order marks) (sym c.in_ok-put.ensures.ok)
    (met_marked c.met.inside.order c.met.inside.marks c.args.key.now true c.met.invariant
    (ap (λ (m : MetView). is_in m.keys c.args.key.now) (c.met.view_is ∙ c.in_ok-met.ensures.value) ∙ visit_has c.args.self c.args.key.now))
