use Rattle.ids.proofs.KeyOrderLemmas.{id_cmp_total, id_cmp_exact}
use Rattle.ids.proofs.MapLemmas.{insert-map_of}
use Rattle.tree_walk.proofs.fs_list.insert.Goals as goal

pub returns-in-Ok-clause-ok : goal.returns-in-Ok-clause-ok
returns-in-Ok-clause-ok c = insert-map_of id_cmp_total id_cmp_exact c.args.ids.now c.insert.new.self c.args.id.now tt c.in-Ok.ensures.updates
