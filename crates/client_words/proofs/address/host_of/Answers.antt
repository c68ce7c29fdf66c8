-- The test of a host is that of http_client.
use Rattle.std.proofs.Common.{Bool, Some, None, cond, sym, ap, ◌∙◌}
use Rattle.client_words.proofs.AddressLemmas.{host_told}
use Rattle.client_words.proofs.address.host_of.Goals as goal

pub returns-then-not-is_host : goal.returns-then-not-is_host
returns-then-not-is_host c = record {
  value =
      ap (λ (b : Bool). cond b (Some c.in_ok-host.host) None) (sym c.if-not-is_host.true)
      ∙ host_told c.args.text.now c.in_ok-host.host c.is_host.result c.in_ok-host.ensures.value c.is_host.ensures.value;
}

pub returns : goal.returns
returns c = record {
  value =
      ap (λ (b : Bool). cond b (Some c.in_ok-host.host) None) (sym c.if-not-is_host.false)
      ∙ host_told c.args.text.now c.in_ok-host.host c.is_host.result c.in_ok-host.ensures.value c.is_host.ensures.value;
}
