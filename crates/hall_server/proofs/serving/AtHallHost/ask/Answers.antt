-- The hall's answer, in the host's words; and the pass stands for as many as before.
use Rattle.hall_server.proofs.ShareLemmas.{keeps_share}
use Rattle.hall_server.proofs.serving.AtHallHost.ask.Goals as goal

pub ask_own-requires : goal.ask_own-requires
ask_own-requires g c = record { ready = c.requires.ready.0 }

pub returns-clause-ready : goal.returns-clause-ready
returns-clause-ready g c =
    let share = keeps_share c.ask_own.ensures.size (c.requires.ready.1, c.requires.ready.2) in
    (c.ask_own.ensures.ready, share.0, share.1)

pub returns-clause-asks : goal.returns-clause-asks
returns-clause-asks g c = (
  c.ask_own.ensures.asks.0,
  (
    c.now-moment.result,
    c.now-moment.ensures.value,
    (c.ask_own.result, c.ask_own.ensures.asks.1, c.ask_own.ensures.drawn, c.answer_of.ensures.value),
  ),
)
