-- The words are read as a command, which is done.
use Rattle.std.proofs.Common.{refl}
use Rattle.server_words.specs.CommandLine.{command_of}
use Rattle.library_server.proofs.RunLemmas.{kept_alone, runs_usage}
use Rattle.library_server.specs.Runs.{unread}
use Rattle.library_server.proofs.running.run.Goals as goal

pub returns-in-Ok-clause-runs : goal.returns-in-Ok-clause-runs
returns-in-Ok-clause-runs g c = rw c.in-Ok.ensures.value at c.perform.ensures.runs

pub returns-in-Ok-clause-usage : goal.returns-in-Ok-clause-usage
returns-in-Ok-clause-usage g c =
    runs_usage g.G.S.Shelf.contents g.G.S.Shelf.may_give g.G.S.Shelf.texts g.G.S.Shelf.faults _ _ (g.C.Clock.shows c.args.clock.now) _ _ _ _ _ _ _ _ _ _
    (rw c.in-Ok.ensures.value at c.perform.ensures.runs)

pub returns-in-Ok-clause-steady : goal.returns-in-Ok-clause-steady
returns-in-Ok-clause-steady g c = rw c.in-Ok.ensures.value at c.perform.ensures.steady

pub returns-in-Err-clause-steady : goal.returns-in-Err-clause-steady
returns-in-Err-clause-steady g c = λ steady all. (unread refl refl refl refl refl, tt)

pub returns-in-Ok-clause-others : goal.returns-in-Ok-clause-others
returns-in-Ok-clause-others g c = rw c.in-Ok.ensures.value at c.perform.ensures.others

pub returns-in-Err-clause-others : goal.returns-in-Err-clause-others
returns-in-Err-clause-others g c = kept_alone (g.G.Ground.may_give c.args.libraries.now) (command_of c.args.words.now)
