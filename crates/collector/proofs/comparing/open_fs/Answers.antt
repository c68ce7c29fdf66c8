-- What stands beside is taken; then the object's names are found.
use Rattle.std.proofs.Common.{None, Some, rules, sym}
use Rattle.object_graph.specs.Reached.{named_in}
use Rattle.tree_walk.proofs.ReadsLemmas.{read_ok, told_after}
use Rattle.collector.specs.Comparing.{of_object, of_older}
use Rattle.collector.proofs.OpeningLemmas.{as_found, finds_alone, finds_beside}
use Rattle.std.specs.FinMap as map
use Rattle.collector.proofs.comparing.open_fs.Goals as goal

pub object_at-requires : goal.object_at-requires
object_at-requires g c = record { ready = c.requires.ready }

pub returns-in-Err-clause-cause : goal.returns-in-Err-clause-cause
returns-in-Err-clause-cause g c = λ objects all told with. of_object (c.in-Err.ensures.value objects all told with)

pub returns-in-Ok-find_beside-clause-value : goal.returns-in-Ok-find_beside-clause-value
returns-in-Ok-find_beside-clause-value g c = λ objects all told with.
    finds_beside objects all c.args.key.now c.in-Ok.object c.args.compared.now c.take_beside.new.self c.find_beside.new.compared c.requires.ready
    (read_ok objects _ _ (c.in-Ok.ensures.value objects all told with)) c.in-Some.ensures.stays
    (as_found objects (Some c.in-Some.id) (map.get c.args.compared.now.beside c.args.key.now) (named_in c.in-Ok.object) c.take_beside.new.self c.find_beside.new.compared c.in-Some.ensures.value
    (c.in-Ok-find_beside.ensures.value objects (told_after c.in-Ok.ensures.stays told)))

pub returns-in-Some-clause-cause : goal.returns-in-Some-clause-cause
returns-in-Some-clause-cause g c = λ objects all told with.
    of_older c.in-Some.id (sym c.in-Some.ensures.value) (c.in-Err-find_beside.ensures.cause objects (told_after c.in-Ok.ensures.stays told))

pub returns-in-Ok-find_names-clause-value : goal.returns-in-Ok-find_names-clause-value
returns-in-Ok-find_names-clause-value g c = λ objects all told with.
    finds_beside objects all c.args.key.now c.in-Ok.object c.args.compared.now c.take_beside.new.self c.find_names.new.compared c.requires.ready
    (read_ok objects _ _ (c.in-Ok.ensures.value objects all told with)) c.in-None.ensures.stays
    (as_found objects None (map.get c.args.compared.now.beside c.args.key.now) (named_in c.in-Ok.object) c.take_beside.new.self c.find_names.new.compared c.in-None.ensures.value
    (finds_alone objects (named_in c.in-Ok.object) c.as_slice.result.now c.take_beside.new.self c.find_names.new.compared (search rules) c.in-Ok-find_names.ensures.value))
