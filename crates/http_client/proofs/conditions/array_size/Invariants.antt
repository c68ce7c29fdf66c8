-- The ids so far have their digits, and are counted.
use Rattle.std.proofs.Common.{◌≡◌, ◌-◌, ◌^◌, ◌+◌, ◌*◌, All, min, take}
use Rattle.http_client.proofs.BodySizeLemmas.{HasDigits}
use Rattle.http_client.proofs.conditions.array_size.Given as goal

abbrev pub invariant-loop-id : goal.invariant-loop-id
invariant-loop-id l = record {
  size : l.size ≡ min (1 + 43 * l.id-index) (2 ^ 64 - 1);
  digits : All HasDigits (take l.id-index l.ids);
}
