-- A block is looked up, and what else there is was read.
use Rattle.std.proofs.Common.{◌≢◌}
use Rattle.ids.specs.declared.key.Kind.TheVariants as kind
use Rattle.collector.proofs.OpenedLemmas.{damage_read, reads_kind}
use Rattle.collector.proofs.naming.names_at.Goals as goal

pub block_names-requires : goal.block_names-requires
block_names-requires g c = record { ready = c.in-Block.is }

commit_read : kind.Commit ≢ kind.Block
commit_read e = cc

fs_read : kind.Fs ≢ kind.Block
fs_read e = cc

pub returns-in-Commit-clause-whole : goal.returns-in-Commit-clause-whole
returns-in-Commit-clause-whole g c =
    reads_kind (g.S.Shelf.may_give c.names_read.new.store.shelf) c.args.key.now kind.Commit c.names_read.result c.in-Commit.is commit_read c.names_read.ensures.whole

pub returns-in-Commit-clause-damaged : goal.returns-in-Commit-clause-damaged
returns-in-Commit-clause-damaged g c = λ objects told.
    damage_read objects c.args.key.now kind.Commit c.names_read.result c.in-Commit.is commit_read (c.names_read.ensures.damaged objects told)

pub returns-in-Fs-clause-whole : goal.returns-in-Fs-clause-whole
returns-in-Fs-clause-whole g c =
    reads_kind (g.S.Shelf.may_give c.names_read-in-Fs.new.store.shelf) c.args.key.now kind.Fs c.names_read-in-Fs.result c.in-Fs.is fs_read c.names_read-in-Fs.ensures.whole

pub returns-in-Fs-clause-damaged : goal.returns-in-Fs-clause-damaged
returns-in-Fs-clause-damaged g c = λ objects told.
    damage_read objects c.args.key.now kind.Fs c.names_read-in-Fs.result c.in-Fs.is fs_read (c.names_read-in-Fs.ensures.damaged objects told)
