-- Up to low the bytes begin a head, and up to high they do not.
use Rattle.std.proofs.Common.{◌-◌, ◌<◌, ◌≤◌, length, take}
use Rattle.http_client.specs.ReplyHead.{MayBecomeHead, NeverHasHead}
use Rattle.http_client.proofs.reply_front.bad_place.Given as goal

abbrev pub invariant-loop-low : goal.invariant-loop-low
invariant-loop-low l = record {
  apart : l.low < l.high;
  inside : l.high ≤ length l.front;
  may : MayBecomeHead (take l.low l.front);
  never : NeverHasHead (take l.high l.front);
}

abbrev pub decreases-loop-low : goal.decreases-loop-low
decreases-loop-low l = l.high - l.low
