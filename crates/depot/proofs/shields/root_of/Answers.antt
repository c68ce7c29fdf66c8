-- As tree_walk reads a commit.
use Rattle.std.proofs.Common.{Some, refl, rules}
use Rattle.object_graph.specs.Objects.{commit_in}
use Rattle.depot.proofs.ShieldStepLemmas.{commit_root_read}
use Rattle.depot.proofs.shields.root_of.Goals as goal

pub returns-clause-value : goal.returns-clause-value
returns-clause-value c = λ objects. commit_root_read objects (commit_in c.args.id.now (Some c.args.bytes.now)) c.in-Ok.commit c.in-Ok.commit.root (search rules) refl
