use Rattle.std.proofs.Common.{[]}
use Rattle.tree_walk.proofs.VisitLemmas.{distinct-once}
use Rattle.tree_walk.proofs.met.Met.into_keys.Goals as goal

pub returns-clause-once : goal.returns-clause-once
returns-clause-once c = distinct-once [] c.self.inside.order c.self.invariant.once
