use Rattle.std.proofs.Common.{◌&&◌, not, refl}
use Rattle.std.specs.FinSet as set
use Rattle.object_graph.specs.Traversal.{is_in}
use Rattle.depot.proofs.MayFreshLemmas.{may_fresh, none_fresh}
use Rattle.depot.proofs.shields.stale.Goals as goal

pub returns-in-Some : goal.returns-in-Some
returns-in-Some c = record {
  value = may_fresh c.args.running.now _ c.in-Some.collection c.stale.new.self c.in-Some.is refl (λ fresh key. set.contains fresh key && not (is_in c.args.keys.now key)) c.stale.ensures.value;
}

pub returns-in-None : goal.returns-in-None
returns-in-None c = record { value = none_fresh (λ fresh key. set.contains fresh key && not (is_in c.args.keys.now key)) c.args.running.now _ c.in-None.is c.in-None.is }
