-- The tag that is named is looked for.
use Rattle.std.proofs.Common.{Option, subst, sym}
use Rattle.library_state.specs.declared.tag.Tag.{Tag}
use Rattle.worker_server.specs.Calls.{HeadSo, rules_at}
use Rattle.worker_server.proofs.looking.head_of.Goals as goal

pub returns-in-Some-clause-asks : goal.returns-in-Some-clause-asks
returns-in-Some-clause-asks g c =
    let asked = c.head_unless.ensures.asks in
    let rules = rules_at (g.H.Host.shows c.args.host.now) g.H.Host.asks g.H.Host.spares g.H.Host.collects g.H.Host.looks in (
      asked.0,
      subst (λ (t : Option Tag). HeadSo rules (g.H.Host.view c.args.pass.now) c.args.lib c.args.secret t c.head_unless.result asked.0 (g.H.Host.view c.head_unless.new.pass)) (sym c.in-Some.is) asked.1,
    )
