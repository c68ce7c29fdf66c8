-- Files and directories are asked for one after another, and a collection is asked for as such.
use Rattle.std.proofs.Common.{◌≡◌, Some, ap, inl, subst, sym, ◌∙◌}
use Rattle.http_front.specs.declared.order.What.{What}
use Rattle.http_front.specs.declared.order.What.TheVariants as what
use Rattle.worker_server.specs.Calls.{ServesOrder, rules_at}
use Rattle.worker_server.proofs.answering.outcome_by.Goals as goal

pub returns-in-GetFs-clause-serves : goal.returns-in-GetFs-clause-serves
returns-in-GetFs-clause-serves g c =
    let asked = c.get_each.ensures.asks in
    let rules = rules_at (g.H.Host.shows c.args.host.now) g.H.Host.asks g.H.Host.spares g.H.Host.collects g.H.Host.looks in
    let is : c.args.what ≡ what.GetFs c.slice.result.now = c.in-GetFs.is ∙ ap what.GetFs (sym c.slice.ensures.value) in (
      asked.0,
      subst (λ (w : What). ServesOrder rules (g.H.Host.view c.args.pass.now) (record { lib = Some c.args.lib; secret = c.args.secret; what = w }) c.get_each.result asked.0 (g.H.Host.view c.get_each.new.pass)) (sym is)
          asked.1,
    )

pub returns-in-Collect-clause-serves : goal.returns-in-Collect-clause-serves
returns-in-Collect-clause-serves g c =
    let asked = c.collect.ensures.asks in
    let rules = rules_at (g.H.Host.shows c.args.host.now) g.H.Host.asks g.H.Host.spares g.H.Host.collects g.H.Host.looks in (
      asked.0,
      subst (λ (w : What). ServesOrder rules (g.H.Host.view c.args.pass.now) (record { lib = Some c.args.lib; secret = c.args.secret; what = w }) c.collected_outcome.result asked.0 (g.H.Host.view c.collect.new.pass)) (sym c.in-Collect.is)
          (inl (c.collect.result, asked.1, c.collected_outcome.ensures)),
    )

pub returns-in-Head-clause-serves : goal.returns-in-Head-clause-serves
returns-in-Head-clause-serves g c =
    let asked = c.head_of.ensures.asks in
    let rules = rules_at (g.H.Host.shows c.args.host.now) g.H.Host.asks g.H.Host.spares g.H.Host.collects g.H.Host.looks in (
      asked.0,
      subst (λ (w : What). ServesOrder rules (g.H.Host.view c.args.pass.now) (record { lib = Some c.args.lib; secret = c.args.secret; what = w }) c.head_of.result asked.0 (g.H.Host.view c.head_of.new.pass)) (sym c.in-Head.is)
          (inl asked.1),
    )
