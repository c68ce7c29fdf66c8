-- What `read` tells of each commit, and what a commit must have to be read as what was written. Our own.
use Rattle.std.specs.Prelude.{◌≢◌, IfSome}
use Rattle.ids.specs.ObjectId.{nil}
use Rattle.commit_objects.specs.declared.commit.Commit.{Commit}

-- neither the commit nor a parent is named by forty zeros
pub record IsProper (commit : Commit) : Type 0 where
  pub id : commit.id ≢ nil
  pub parent : IfSome commit.parent (λ id. id ≢ nil)
  pub second_parent : IfSome commit.second_parent (λ id. id ≢ nil)
