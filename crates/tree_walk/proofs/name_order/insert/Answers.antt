use Rattle.ids.proofs.MapLemmas.{insert-map_of}
use Rattle.object_graph.proofs.EntryLemmas.{names_total, names_exact}
use Rattle.tree_walk.proofs.name_order.insert.Goals as goal

pub returns-in-Ok-clause-ok : goal.returns-in-Ok-clause-ok
returns-in-Ok-clause-ok c = insert-map_of names_total names_exact c.args.table.now c.insert.new.self c.args.name c.args.entry c.in-Ok.ensures.updates
