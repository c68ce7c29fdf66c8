use Rattle.std.proofs.Common.{subst, sym, List, Option}
use Rattle.fs_objects.specs.declared.dirent.Dirent.{Dirent}
use Rattle.tree_merge.specs.TreeBuilding.{IsRefusedList, held_at}
use Rattle.tree_merge.proofs.tree_builder.make_directory.Goals as goal

pub returns-in-Some-clause-taken : goal.returns-in-Some-clause-taken
returns-in-Some-clause-taken c id e =
    subst (λ (o : Option (List Dirent)). IsRefusedList c.args.made.now (held_at o) id) (sym c.in-Some.is) (c.make_listed.ensures.taken id e)
