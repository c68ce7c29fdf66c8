-- What the hall tells, in the host's words; and the pass stands for as many as before.
use Rattle.hall_server.proofs.ShareLemmas.{keeps_share}
use Rattle.hall_server.proofs.serving.AtHallHost.collect.Goals as goal

pub collect-requires : goal.collect-requires
collect-requires g c = record { ready = c.requires.ready.0 }

pub returns-clause-ready : goal.returns-clause-ready
returns-clause-ready g c =
    let share = keeps_share c.collect.ensures.size (c.requires.ready.1, c.requires.ready.2) in
    (c.collect.ensures.ready, share.0, share.1)

pub returns-clause-asks : goal.returns-clause-asks
returns-clause-asks g c = (c.collect.ensures.told.0, (c.collect.result, c.collect.ensures.told.1, c.collect.ensures.drawn, c.collected_of.ensures.value))
