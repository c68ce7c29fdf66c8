-- A look tells that the library is still in the state of the tag, or the head is asked for after it.
use Rattle.std.proofs.Common.{◌++◌}
use Rattle.worker_server.specs.Calls.{rules_at}
use Rattle.worker_server.proofs.CallLemmas.{HeadSo-other, HeadSo-same}
use Rattle.worker_server.proofs.looking.head_unless.Goals as goal

pub returns-then-look-clause-asks : goal.returns-then-look-clause-asks
returns-then-look-clause-asks g c =
    let looked = c.look.ensures.asks in
    let rules = rules_at (g.H.Host.shows c.args.host.now) g.H.Host.asks g.H.Host.spares g.H.Host.collects g.H.Host.looks in
    (looked.0, HeadSo-same rules _ _ c.args.lib c.args.secret c.args.tag c.look.result looked.0 c.if-look.true looked.1)

pub returns-clause-asks : goal.returns-clause-asks
returns-clause-asks g c =
    let looked = c.look.ensures.asks in
    let asked = c.ask_one.ensures.asks in
    let rules = rules_at (g.H.Host.shows c.args.host.now) g.H.Host.asks g.H.Host.spares g.H.Host.collects g.H.Host.looks in
    (looked.0 ++ asked.0, HeadSo-other rules _ _ _ c.args.lib c.args.secret c.args.tag c.look.result _ looked.0 asked.0 c.if-look.false looked.1 asked.1)
