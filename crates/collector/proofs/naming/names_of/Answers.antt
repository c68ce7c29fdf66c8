use Rattle.std.proofs.Common.{Ok}
use Rattle.ids.specs.declared.key.Kind.TheVariants as kind
use Rattle.collector.proofs.NamingLemmas.{names_as}
use Rattle.collector.proofs.naming.names_of.Goals as goal

pub returns-in-Commit-clause-value : goal.returns-in-Commit-clause-value
returns-in-Commit-clause-value c = λ objects.
    names_as objects c.args.key.now kind.Commit c.args.bytes.now c.root_of.result c.in-Commit.is (c.root_of.ensures.value objects)

pub named_by_bytes-requires : goal.named_by_bytes-requires
named_by_bytes-requires c = record { ready = c.in-Fs.is }

pub returns-in-Block-clause-value : goal.returns-in-Block-clause-value
returns-in-Block-clause-value c = λ objects. names_as objects c.args.key.now kind.Block c.args.bytes.now (Ok c.new.result) c.in-Block.is c.new.ensures.value
