-- Each way out of the connection, after the requests so far.
use Rattle.std.proofs.Common.{◌≡◌, ◌<◌, ℕ, List, [], refl, sym, ap, subst, ◌∙◌, arith}
use Rattle.http_front.specs.Buffer.{to_read}
use Rattle.http_front.specs.Link.{told_by}
use Rattle.worker_server.proofs.AskedLemmas.{came_start}
use Rattle.worker_server.proofs.CallLemmas.{Ran-append}
use Rattle.worker_server.proofs.SessionLemmas.{SoFar, SoFar-begin, SoFar-counted, SoFar-more, Session-closed, Session-limit, Session-stopped, Session-unbegun}
use Rattle.worker_server.specs.Calls.{rules_at}
use Rattle.worker_server.proofs.connection.serve_session.Goals as goal

pub returns-in-Ok-true-clause-session : goal.returns-in-Ok-true-clause-session
returns-in-Ok-true-clause-session g c = λ input e.
    let s = c.loop-number.invariant.so_far input e in
    let more = c.in-Ok-true.ensures.one s.rest s.ahead_is in
    let before : c.loop-number.number < 9999 = omega (arith, c.loop-number-test.true) in
    let few : c.loop-number.number < 10000 = omega (arith, before) in
    Session-closed (rules_at (g.H.Host.shows c.args.host.now) g.H.Host.asks g.H.Host.spares g.H.Host.collects g.H.Host.looks) _ input _ _ _ _ _ _ s _ _ _ _ _ more few c.in-Ok-true.field-0-test before

pub returns-in-Ok-true-clause-ran : goal.returns-in-Ok-true-clause-ran
returns-in-Ok-true-clause-ran g c =
    Ran-append (rules_at (g.H.Host.shows c.args.host.now) g.H.Host.asks g.H.Host.spares g.H.Host.collects g.H.Host.looks) _ _ _ c.loop-number.invariant.ran.0 _ c.loop-number.invariant.ran.1 c.in-Ok-true.ensures.ran.1

pub returns-in-Err-serve_one-clause-session : goal.returns-in-Err-serve_one-clause-session
returns-in-Err-serve_one-clause-session g c = λ input e.
    let s = c.loop-number.invariant.so_far input e in
    let stops = c.in-Err-serve_one.ensures.one s.rest s.ahead_is in
    let few : c.loop-number.number < 10000 = omega (arith, c.loop-number-test.true) in
    Session-stopped (rules_at (g.H.Host.shows c.args.host.now) g.H.Host.asks g.H.Host.spares g.H.Host.collects g.H.Host.looks) c.in-Err-serve_one.how _ input _ _ _ _ _ _ s few _ _ _ stops

pub returns-in-Err-serve_one-clause-ran : goal.returns-in-Err-serve_one-clause-ran
returns-in-Err-serve_one-clause-ran g c =
    Ran-append (rules_at (g.H.Host.shows c.args.host.now) g.H.Host.asks g.H.Host.spares g.H.Host.collects g.H.Host.looks) _ _ _ c.loop-number.invariant.ran.0 _ c.loop-number.invariant.ran.1 c.in-Err-serve_one.ensures.ran.1

pub loop-number-preserved : goal.loop-number-preserved
loop-number-preserved g c = record {
  ready = c.in-Ok-false.ensures.ready;
  so_far = λ input e.
      let s = c.loop-number.invariant.so_far input e in
      let more = c.in-Ok-false.ensures.one s.rest s.ahead_is in
      let few : c.loop-number.number < 10000 = omega (arith, c.loop-number-test.true) in
      SoFar-more (rules_at (g.H.Host.shows c.args.host.now) g.H.Host.asks g.H.Host.spares g.H.Host.collects g.H.Host.looks) _ input _ _ _ _ _ _ s _ _ _ _ _ more few c.in-Ok-false.field-0-test;
  ran = Ran-append (rules_at (g.H.Host.shows c.args.host.now) g.H.Host.asks g.H.Host.spares g.H.Host.collects g.H.Host.looks) _ _ _ c.loop-number.invariant.ran.0 _ c.loop-number.invariant.ran.1 c.in-Ok-false.ensures.ran.1;
  faults = c.in-Ok-false.ensures.faults ∙ c.loop-number.invariant.faults;
  came = c.in-Ok-false.ensures.last (told_by g.L.Link.taken g.L.Link.given g.L.Link.asked c.args.link.now) c.loop-number.invariant.came;
}

pub returns-in-Ok-serve_one-clause-session : goal.returns-in-Ok-serve_one-clause-session
returns-in-Ok-serve_one-clause-session g c = λ input e.
    let last : c.loop-number.number ≡ 9999 = omega (arith, c.loop-number-test.false, c.loop-number.auto.number-end) in
    let s = SoFar-counted (rules_at (g.H.Host.shows c.args.host.now) g.H.Host.asks g.H.Host.spares g.H.Host.collects g.H.Host.looks) _ 9999 input _ _ _ _ _ _ last (c.loop-number.invariant.so_far input e) in
    let more = c.in-Ok-serve_one.ensures.one s.rest s.ahead_is in
    let few : 9999 < 10000 = omega arith in
    Session-limit (rules_at (g.H.Host.shows c.args.host.now) g.H.Host.asks g.H.Host.spares g.H.Host.collects g.H.Host.looks) 9999 input _ _ _ _ _ _ s _ _ _ _ _ more few refl

pub returns-in-Ok-serve_one-clause-ran : goal.returns-in-Ok-serve_one-clause-ran
returns-in-Ok-serve_one-clause-ran g c =
    Ran-append (rules_at (g.H.Host.shows c.args.host.now) g.H.Host.asks g.H.Host.spares g.H.Host.collects g.H.Host.looks) _ _ _ c.loop-number.invariant.ran.0 _ c.loop-number.invariant.ran.1 c.in-Ok-serve_one.ensures.ran.1

pub returns-clause-session : goal.returns-clause-session
returns-clause-session g c = λ input e.
    let last : c.loop-number.number ≡ 9999 = omega (arith, c.loop-number-test.false, c.loop-number.auto.number-end) in
    let s = SoFar-counted (rules_at (g.H.Host.shows c.args.host.now) g.H.Host.asks g.H.Host.spares g.H.Host.collects g.H.Host.looks) _ 9999 input _ _ _ _ _ _ last (c.loop-number.invariant.so_far input e) in
    let stops = c.in-Err-serve_one-2.ensures.one s.rest s.ahead_is in
    let few : 9999 < 10000 = omega arith in
    Session-stopped (rules_at (g.H.Host.shows c.args.host.now) g.H.Host.asks g.H.Host.spares g.H.Host.collects g.H.Host.looks) c.in-Err-serve_one-2.how 9999 input _ _ _ _ _ _ s few _ _ _ stops

pub returns-clause-ran : goal.returns-clause-ran
returns-clause-ran g c =
    Ran-append (rules_at (g.H.Host.shows c.args.host.now) g.H.Host.asks g.H.Host.spares g.H.Host.collects g.H.Host.looks) _ _ _ c.loop-number.invariant.ran.0 _ c.loop-number.invariant.ran.1 c.in-Err-serve_one-2.ensures.ran.1

pub returns-in-Err-clause-session : goal.returns-in-Err-clause-session
returns-in-Err-clause-session g c = λ input e.
    Session-unbegun (rules_at (g.H.Host.shows c.args.host.now) g.H.Host.asks g.H.Host.spares g.H.Host.collects g.H.Host.looks) input (told_by g.L.Link.taken g.L.Link.given g.L.Link.asked c.args.link.now) (g.L.Link.left c.args.link.now) _ e

pub loop-number-init : goal.loop-number-init
loop-number-init g c =
    let rules = rules_at (g.H.Host.shows c.args.host.now) g.H.Host.asks g.H.Host.spares g.H.Host.collects g.H.Host.looks in
    let old = told_by g.L.Link.taken g.L.Link.given g.L.Link.asked c.args.link.now in
    let left = g.L.Link.left c.args.link.now in
    let u = g.H.Host.view c.args.pass.now in
    record {
      ready = c.requires.ready;
      so_far = λ input e. subst (λ (b : List ℕ). SoFar rules 0 input b old old (to_read b left) u u) (sym c.in-Ok.ensures)
          (SoFar-begin rules input old (to_read [] left) u (ap (to_read []) e));
      ran = ([], refl);
      faults = refl;
      came = came_start _ _;
    }

pub returns-in-Err-serve_one-clause-last : goal.returns-in-Err-serve_one-clause-last
returns-in-Err-serve_one-clause-last g c = c.in-Err-serve_one.ensures.last (told_by g.L.Link.taken g.L.Link.given g.L.Link.asked c.args.link.now) c.loop-number.invariant.came

pub returns-clause-last : goal.returns-clause-last
returns-clause-last g c = c.in-Err-serve_one-2.ensures.last (told_by g.L.Link.taken g.L.Link.given g.L.Link.asked c.args.link.now) c.loop-number.invariant.came
