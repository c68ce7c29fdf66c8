-- What can't be read is none, and to read changes nothing.
use Rattle.std.proofs.Common.{sym, subst, refl}
use Rattle.std.specs.Prelude.{IfOk}
use Rattle.ids.proofs.BasicLemmas.{same_from_some}
use Rattle.object_graph.specs.Objects.{fs_at}
use Rattle.tree_walk.proofs.ReadsLemmas.{read_ok}
use Rattle.tree_fetch.specs.Held.{objects_in}
use Rattle.tree_fetch.specs.Levels.{FindsObject}
use Rattle.tree_fetch.proofs.StoreLemmas.{read_none}
use Rattle.tree_fetch.proofs.fetched.read_in.Goals as goal

pub returns-in-Ok-clause-value : goal.returns-in-Ok-clause-value
returns-in-Ok-clause-value c =
    read_ok (objects_in c.args.store.now) (fs_at (objects_in c.args.store.now) c.args.id.now) c.in-Ok.object (c.in-Ok.ensures.value (objects_in c.args.store.now) refl)

pub returns-in-Ok-clause-stays : goal.returns-in-Ok-clause-stays
returns-in-Ok-clause-stays c = same_from_some _ _ c.in-Ok.ensures.stays.kept.objects

pub returns-in-Err-clause-value : goal.returns-in-Err-clause-value
returns-in-Err-clause-value c =
    subst (λ found. IfOk found (FindsObject (fs_at (objects_in c.args.store.now) c.args.id.now))) (sym c.unread_of.ensures.value)
    (read_none (objects_in c.args.store.now) (fs_at (objects_in c.args.store.now) c.args.id.now) c.in-Err.fault (c.in-Err.ensures.value (objects_in c.args.store.now) refl))

pub returns-in-Err-clause-stays : goal.returns-in-Err-clause-stays
returns-in-Err-clause-stays c = same_from_some _ _ c.in-Err.ensures.stays.kept.objects
