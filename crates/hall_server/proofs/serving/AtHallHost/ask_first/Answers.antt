-- The hall's answer, in the host's words, with what it spares; and the pass stands for as many as before.
use Rattle.hall_server.proofs.ShareLemmas.{keeps_share}
use Rattle.hall_server.proofs.serving.AtHallHost.ask_first.Goals as goal

pub ask_first-requires : goal.ask_first-requires
ask_first-requires g c = record { ready = c.requires.ready.0 }

pub returns-clause-ready : goal.returns-clause-ready
returns-clause-ready g c =
    let share = keeps_share c.ask_first.ensures.size (c.requires.ready.1, c.requires.ready.2) in
    (c.ask_first.ensures.ready, share.0, share.1)

pub returns-clause-asks : goal.returns-clause-asks
returns-clause-asks g c = (
  c.ask_first.ensures.asks.0,
  (
    c.now-moment.result,
    c.now-moment.ensures.value,
    (c.ask_first.result, c.ask_first.ensures.asks.1, c.ask_first.ensures.drawn, c.answer_of.ensures.value),
  ),
  (c.now-moment.result, c.ask_first.result, c.ask_first.ensures.asks.1, c.ask_first.ensures.asks.2, c.answer_of.ensures.value),
)
