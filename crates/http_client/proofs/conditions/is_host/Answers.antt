use Rattle.std.proofs.Common.{arith}
use Rattle.http_client.proofs.HostLemmas.{host_is}
use Rattle.http_client.proofs.conditions.is_host.Goals as goal

pub returns : goal.returns
returns c =
    let some = c.if-size-eq0.false in
    record {
      value = host_is c.args.host.now c.as_bytes-bytes.result.now c.are_host_bytes.result c.as_bytes-bytes.ensures.value (omega (arith, some))
          c.if-size-gt-MAX_HOST.false c.are_host_bytes.ensures.value;
    }
