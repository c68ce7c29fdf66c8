use Rattle.std.proofs.Common.{◌&&◌, is_some, not, refl}
use Rattle.std.specs.FinMap as map
use Rattle.std.specs.FinSet as set
use Rattle.library_rules.specs.LibraryState.{is_stored}
use Rattle.object_graph.specs.Traversal.{is_in}
use Rattle.depot.proofs.MayFreshLemmas.{may_fresh, none_fresh}
use Rattle.depot.proofs.shields.stale_unless_stored.Goals as goal

pub returns-in-Some-clause-shown : goal.returns-in-Some-clause-shown
returns-in-Some-clause-shown g c = λ objects told.
    may_fresh c.args.running.now _ c.in-Some.collection c.take_back.new.running c.in-Some.is refl
    (λ fresh key. set.contains fresh key && not (is_in c.args.keys.now key && not (is_stored objects key))) (c.take_back.ensures.shown objects told)

pub returns-in-Some-clause-value : goal.returns-in-Some-clause-value
returns-in-Some-clause-value g c =
    may_fresh c.args.running.now _ c.in-Some.collection c.take_back.new.running c.in-Some.is refl
    (λ fresh key. set.contains fresh key && not (is_in c.args.keys.now key && not (is_some (map.get c.args.store.now.index key)))) c.take_back.ensures.value

pub returns-in-None-clause-shown : goal.returns-in-None-clause-shown
returns-in-None-clause-shown g c = λ objects told.
    none_fresh (λ fresh key. set.contains fresh key && not (is_in c.args.keys.now key && not (is_stored objects key))) c.args.running.now _ c.in-None.is c.in-None.is

pub returns-in-None-clause-value : goal.returns-in-None-clause-value
returns-in-None-clause-value g c =
    none_fresh (λ fresh key. set.contains fresh key && not (is_in c.args.keys.now key && not (is_some (map.get c.args.store.now.index key)))) c.args.running.now _ c.in-None.is c.in-None.is
