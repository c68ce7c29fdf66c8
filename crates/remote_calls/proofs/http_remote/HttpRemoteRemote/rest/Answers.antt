-- The links spell the same sends.
use Rattle.std.proofs.Common.{refl, sym}
use Rattle.remote_calls.specs.Exchange.{link_view}
use Rattle.remote_calls.specs.HttpRemote.{Reaches}
use Rattle.remote_calls.proofs.DialledLemmas.{dialled_none, dialled_then}
use Rattle.remote_calls.proofs.LinksToldLemmas.{tells_rest}
use Rattle.remote_calls.proofs.SpelledLemmas.{spelled_rest}
use Rattle.remote_calls.proofs.http_remote.HttpRemoteRemote.rest.Goals as goal

pub invariant_of-self : goal.invariant_of-self
invariant_of-self g c =
    let view = link_view g.D.L.Link.left g.D.L.Link.taken g.D.L.Link.given g.D.L.Link.asked g.D.L.Link.faults in
    record {
      name = c.self.invariant.name;
      spelled = spelled_rest _ _ c.self.invariant.spelled refl c.leave_kept.ensures.value refl;
      links = tells_rest (Reaches view g.D.Dial.reaches) _ _ c.self.invariant.links refl c.leave_kept.ensures.value refl;
      dials = dialled_then c.self.inside.host c.self.inside.port _ _ (g.D.Dial.dialled c.leave_kept.new.dial) c.self.invariant.dials
          (dialled_none c.self.inside.host c.self.inside.port (g.D.Dial.dialled c.self.inside.dial) (g.D.Dial.dialled c.leave_kept.new.dial) c.leave_kept.ensures.dialled);
    }

pub returns-clause-value : goal.returns-clause-value
returns-clause-value g c = rw (← c.self.view_is) c.leave_kept.ensures.value
