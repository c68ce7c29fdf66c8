-- What the hall tells, in the host's words; and the pass stands for as many as before.
use Rattle.hall_server.proofs.ShareLemmas.{keeps_share}
use Rattle.hall_server.proofs.serving.AtHallHost.look.Goals as goal

pub unchanged-requires : goal.unchanged-requires
unchanged-requires g c = record { ready = c.requires.ready.0 }

pub returns-clause-ready : goal.returns-clause-ready
returns-clause-ready g c =
    let share = keeps_share c.unchanged.ensures.size (c.requires.ready.1, c.requires.ready.2) in
    (c.unchanged.ensures.ready, share.0, share.1)

pub returns-clause-asks : goal.returns-clause-asks
returns-clause-asks g c = (c.unchanged.ensures.told.0, (c.unchanged.result, c.unchanged.ensures.told.1, c.unchanged.ensures.drawn, c.is_same.ensures.value))
