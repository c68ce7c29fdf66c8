use Rattle.std.proofs.Common.{refl}
use Rattle.object_graph.specs.Objects.{commit_at}
use Rattle.depot.proofs.ShieldStepLemmas.{commit_root_read, commit_root_unread}
use Rattle.depot.proofs.shields.stored_root.Goals as goal

pub returns-in-Ok-clause-value : goal.returns-in-Ok-clause-value
returns-in-Ok-clause-value g c = λ objects told.
    commit_root_read objects (commit_at objects c.args.id) c.in-Ok.commit c.in-Ok.commit.root (c.in-Ok.ensures.value objects told) refl

pub returns-in-Err-clause-value : goal.returns-in-Err-clause-value
returns-in-Err-clause-value g c = λ objects told. commit_root_unread objects (commit_at objects c.args.id) c.in-Err.fault (c.in-Err.ensures.value objects told)
