-- What was got is read as the commit of that name, or as none.
use Rattle.std.proofs.Common.{subst, Ok, Err, inl}
use Rattle.tree_fetch.specs.Asking.{GetsObject, ReadsCommit}
use Rattle.tree_fetch.proofs.CommitLemmas.{commit_failed, commit_fails, commit_got}
use Rattle.tree_fetch.proofs.commit.fetch_commit.Goals as goal

pub returns-in-Err-clause-value : goal.returns-in-Err-clause-value
returns-in-Err-clause-value g c =
    commit_failed c.args.asker.now (g.R.Remote.sends c.args.remote.now) (g.R.Remote.sends c.get_object.new.remote) c.args.id c.in-Err.fault
    (subst (λ key. GetsObject c.args.asker.now (g.R.Remote.sends c.args.remote.now) (g.R.Remote.sends c.get_object.new.remote) key (Err c.in-Err.fault)) c.commit_key.ensures.value c.in-Err.ensures.value)

pub returns-in-Err-clause-fails : goal.returns-in-Err-clause-fails
returns-in-Err-clause-fails g c =
    inl (subst (λ key. GetsObject c.args.asker.now (g.R.Remote.sends c.args.remote.now) (g.R.Remote.sends c.get_object.new.remote) key (Err c.in-Err.fault)) c.commit_key.ensures.value c.in-Err.ensures.value)

pub returns-clause-fails : goal.returns-clause-fails
returns-clause-fails g c =
    let got = subst (λ key. GetsObject c.args.asker.now (g.R.Remote.sends c.args.remote.now) (g.R.Remote.sends c.get_object.new.remote) key (Ok c.in-Ok.bytes)) c.commit_key.ensures.value c.in-Ok.ensures.value in
    commit_fails c.args.asker.now (g.R.Remote.sends c.args.remote.now) (g.R.Remote.sends c.get_object.new.remote) c.args.id c.in-Ok.bytes got.0 got.1 c.read_commit.result
    (subst (λ bytes. ReadsCommit c.args.id bytes c.read_commit.result) c.slice.ensures.value c.read_commit.ensures.value)

pub returns-clause-value : goal.returns-clause-value
returns-clause-value g c =
    let got = subst (λ key. GetsObject c.args.asker.now (g.R.Remote.sends c.args.remote.now) (g.R.Remote.sends c.get_object.new.remote) key (Ok c.in-Ok.bytes)) c.commit_key.ensures.value c.in-Ok.ensures.value in
    commit_got c.args.asker.now (g.R.Remote.sends c.args.remote.now) (g.R.Remote.sends c.get_object.new.remote) c.args.id c.in-Ok.bytes got.0 got.1 c.read_commit.result
    (subst (λ bytes. ReadsCommit c.args.id bytes c.read_commit.result) c.slice.ensures.value c.read_commit.ensures.value)
