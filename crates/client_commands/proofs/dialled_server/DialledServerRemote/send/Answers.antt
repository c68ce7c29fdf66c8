-- One order more.
use Rattle.client_commands.proofs.SentLemmas.{counted_send}
use Rattle.client_commands.proofs.dialled_server.DialledServerRemote.send.Goals as goal

pub invariant_of-self : goal.invariant_of-self
invariant_of-self g c = record {
  counted = counted_send c.self.inside.remote.sends c.send.new.self.sends c.args.order.now c.send.result c.self.inside.remote.links.faults c.send.new.self.links.faults c.send.ensures.listed
      c.send.ensures.faults c.self.invariant.counted;
}
