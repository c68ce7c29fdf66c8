-- The bytes so far are of a host's name.
use Rattle.std.proofs.Common.{◌≡◌, true, take}
use Rattle.std.specs.List.{list_all}
use Rattle.http_client.specs.RequestText.{is_host_byte}
use Rattle.http_client.proofs.conditions.are_host_bytes.Given as goal

abbrev pub invariant-loop-byte : goal.invariant-loop-byte
invariant-loop-byte l = list_all is_host_byte (take l.byte-index l.bytes) ≡ true
