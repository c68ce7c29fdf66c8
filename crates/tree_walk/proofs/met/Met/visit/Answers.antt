use Rattle.std.proofs.Common.{sym, ◌∙◌, subst₂, Bool, false, List}
use Rattle.std.specs.FinMap as map
use Rattle.ids.specs.Key.{key_cmp}
use Rattle.ids.specs.declared.key.Key.{Key}
use Rattle.tree_walk.specs.Visits.{IsMet}
use Rattle.tree_walk.proofs.VisitLemmas.{met_more}
use Rattle.tree_walk.proofs.met.Met.visit.Goals as goal

pub invariant_of-result : goal.invariant_of-result
invariant_of-result c =
    subst₂ (λ (ks : List Key) (m : map.FinMap key_cmp Bool). IsMet ks m) (sym c.in_ok-push.ensures.ok) (sym c.in_ok-put.ensures.ok)
    (met_more c.self.inside.order c.self.inside.marks c.args.key.now false c.self.invariant (sym c.has.ensures.value ∙ c.if-has.false))
