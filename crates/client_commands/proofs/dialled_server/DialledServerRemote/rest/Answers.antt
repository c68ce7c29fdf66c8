-- Nothing was sent.
use Rattle.std.proofs.Common.{◌∙◌, ap, sym, subst}
use Rattle.client_commands.proofs.SentLemmas.{counted_rest}
use Rattle.client_commands.proofs.dialled_server.DialledServerRemote.rest.Goals as goal

pub invariant_of-self : goal.invariant_of-self
invariant_of-self g c = record {
  counted = counted_rest c.self.inside.remote.sends c.rest.new.self.sends c.self.inside.remote.links.faults c.rest.new.self.links.faults c.rest.ensures.stays.1 c.rest.ensures.stays.2
      c.self.invariant.counted;
}
