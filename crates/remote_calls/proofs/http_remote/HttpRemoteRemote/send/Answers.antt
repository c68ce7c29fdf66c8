-- The links spell one send more.
use Rattle.std.proofs.Common.{refl}
use Rattle.remote_calls.specs.Exchange.{link_view}
use Rattle.remote_calls.specs.HttpRemote.{Reaches}
use Rattle.remote_calls.proofs.DialledLemmas.{dialled_then}
use Rattle.remote_calls.proofs.LinksToldLemmas.{tells_step}
use Rattle.remote_calls.proofs.SpelledLemmas.{spelled_step}
use Rattle.remote_calls.proofs.http_remote.HttpRemoteRemote.send.Goals as goal

pub invariant_of-self : goal.invariant_of-self
invariant_of-self g c =
    let view = link_view g.D.L.Link.left g.D.L.Link.taken g.D.L.Link.given g.D.L.Link.asked g.D.L.Link.faults in
    record {
      name = c.self.invariant.name;
      spelled = spelled_step (Reaches view g.D.Dial.reaches) _ _ c.args.order.now c.send_over-ending.result c.self.invariant.spelled refl c.send_over-ending.ensures.value c.list_send.ensures.listed;
      links = tells_step (Reaches view g.D.Dial.reaches) _ _ c.args.order.now c.send_over-ending.result c.self.invariant.links refl c.send_over-ending.ensures.value
          c.send_over-ending.ensures.faults c.list_send.ensures.listed;
      dials = dialled_then c.self.inside.host c.self.inside.port _ _ (g.D.Dial.dialled c.send_over-ending.new.dial) c.self.invariant.dials c.send_over-ending.ensures.dialled;
    }

pub returns-clause-value : goal.returns-clause-value
returns-clause-value g c = rw (← c.self.view_is) c.send_over-ending.ensures.value
