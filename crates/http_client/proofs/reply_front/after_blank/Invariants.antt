use Rattle.std.proofs.Common.{◌≡◌, drop}
use Rattle.http_client.specs.HeadReading.{after_blank}
use Rattle.http_client.proofs.reply_front.after_blank.Given as goal

abbrev pub invariant-loop-place : goal.invariant-loop-place
invariant-loop-place l = after_blank (drop l.place l.bytes) ≡ after_blank l.bytes
