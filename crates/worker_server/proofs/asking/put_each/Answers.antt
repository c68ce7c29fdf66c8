-- One row more was put, or the first that was not stored ends it.
use Rattle.std.proofs.Common.{◌≡◌, List, [], ◌++◌, ◌∙◌, reverse, refl, sym, ap, subst}
use Rattle.std.proofs.lemmas.List.{nil_from_length, reverse-reverse}
use Rattle.http_front.specs.declared.row.Row.{Row}
use Rattle.worker_server.specs.Calls.{AtAMoment, PutsEach, all_stored, told_of}
use Rattle.worker_server.proofs.EachLemmas.{PutsEach-refused, PutsEach-stored, nothing_left, one_taken}
use Rattle.worker_server.proofs.asking.put_each.Goals as goal

pub loop-row-init : goal.loop-row-init
loop-row-init g c = record {
  is_ready = c.requires.ready;
  goes_on = λ o more v rest.
      let all : reverse c.reverse.new.self.items ≡ c.args.rows = ap reverse c.reverse.ensures.items ∙ reverse-reverse c.into_vec-left.result.items ∙ c.into_vec-left.ensures.value in
      (more, subst (λ (rows : List Row). PutsEach (AtAMoment (g.H.Host.shows c.args.host.now) g.H.Host.asks) c.args.lib c.args.secret (g.H.Host.view c.args.pass.now) rows o more v) all rest);
}

pub returns-then-not-is_stored-clause-asks : goal.returns-then-not-is_stored-clause-asks
returns-then-not-is_stored-clause-asks g c =
    let asked = c.put_one-answer.ensures.asks in
    let left = one_taken c.loop-row.left.items c.pop.new.self.items c.in-Some.row c.in-Some.ensures.items in
    let refused = sym c.is_stored.ensures ∙ c.if-not-is_stored.true in
    let whole = c.loop-row.invariant.goes_on (told_of c.put_one-answer.result) asked.0 (g.H.Host.view c.put_one-answer.new.pass)
    (subst (λ (rows : List Row). PutsEach (AtAMoment (g.H.Host.shows c.args.host.now) g.H.Host.asks) c.args.lib c.args.secret (g.H.Host.view c.loop-row.pass) rows (told_of c.put_one-answer.result) asked.0 (g.H.Host.view c.put_one-answer.new.pass)) (sym left)
    (PutsEach-refused (AtAMoment (g.H.Host.shows c.args.host.now) g.H.Host.asks) c.args.lib c.args.secret _ _ c.in-Some.row (reverse c.pop.new.self.items) c.put_one-answer.result asked.0 asked.1 refused)) in
    rw c.told_of.ensures whole

pub loop-row-preserved : goal.loop-row-preserved
loop-row-preserved g c = record {
  is_ready = c.put_one-answer.ensures.ready;
  goes_on = λ o more v rest.
      let asked = c.put_one-answer.ensures.asks in
      let left = one_taken c.loop-row.left.items c.pop.new.self.items c.in-Some.row c.in-Some.ensures.items in
      let stored = sym c.is_stored.ensures ∙ c.if-not-is_stored.false in
      c.loop-row.invariant.goes_on o (asked.0 ++ more) v
      (subst (λ (rows : List Row). PutsEach (AtAMoment (g.H.Host.shows c.args.host.now) g.H.Host.asks) c.args.lib c.args.secret (g.H.Host.view c.loop-row.pass) rows o (asked.0 ++ more) v) (sym left)
      (PutsEach-stored (AtAMoment (g.H.Host.shows c.args.host.now) g.H.Host.asks) c.args.lib c.args.secret _ _ v c.in-Some.row (reverse c.pop.new.self.items) c.put_one-answer.result asked.0 more o asked.1 stored rest));
}

pub returns-clause-asks : goal.returns-clause-asks
returns-clause-asks g c =
    let none : reverse c.loop-row.left.items ≡ [] = nothing_left c.loop-row.left.items (nil_from_length c.loop-row.left.items (sym c.loop-row.left.ok.0 ∙ c.in_default.ensures.cases.0)) in
    c.loop-row.invariant.goes_on all_stored [] (g.H.Host.view c.loop-row.pass)
    (subst (λ (rows : List Row). PutsEach (AtAMoment (g.H.Host.shows c.args.host.now) g.H.Host.asks) c.args.lib c.args.secret (g.H.Host.view c.loop-row.pass) rows all_stored [] (g.H.Host.view c.loop-row.pass)) (sym none) (refl, refl, refl))
