-- An object is opened; a block is passed; no commit waits.
use Rattle.collector.proofs.ComparingLemmas.{first_found}
use Rattle.collector.proofs.OpeningLemmas.{no_commit, passes_block}
use Rattle.collector.proofs.comparing.open.Goals as goal

pub open_object-requires : goal.open_object-requires
open_object-requires g c = record { ready = c.requires.ready; fits = c.in-Fs.is }

pub returns-in-Block-clause-value : goal.returns-in-Block-clause-value
returns-in-Block-clause-value g c = λ objects all told with older newer complete settled.
    passes_block objects all older newer c.args.key.now c.args.compared.now c.open.new.self c.requires.ready c.in-Block.is settled c.open.ensures.value

pub returns-in-Commit-clause-value : goal.returns-in-Commit-clause-value
returns-in-Commit-clause-value g c = λ objects all told with older newer complete settled.
    absurd
    (no_commit all newer c.args.key.now complete.newer c.in-Commit.is (settled.needed c.args.key.now (first_found c.args.compared.now c.args.key.now c.requires.ready)))
