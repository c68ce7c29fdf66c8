-- Nothing was sent yet.
use Rattle.std.proofs.Common.{ap, ◌∙◌, sym}
use Rattle.std.proofs.lemmas.Bool.{false≢true}
use Rattle.remote_calls.specs.HttpRemote.{HttpRemoteView}
use Rattle.client_commands.specs.SentFaults.{has_link_fault}
use Rattle.client_commands.proofs.dialled_server.DialledServer.new.Goals as goal

pub invariant_of-result : goal.invariant_of-result
invariant_of-result g c = record {
  counted = λ has. absurd (false≢true (ap (λ (v : HttpRemoteView). has_link_fault v.sends) (sym c.new.ensures.value) ∙ has));
}
