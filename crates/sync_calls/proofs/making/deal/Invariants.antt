-- Those before the place have one pass more.
use Rattle.std.proofs.Common.{◌≡◌, ◌+◌, vec_len}
use Rattle.sync_calls.proofs.DealtLemmas.{AreDealt}
use Rattle.sync_calls.proofs.making.deal.Given as goal

abbrev pub invariant-loop-place : goal.invariant-loop-place
invariant-loop-place g l =
    (vec_len l.seated ≡ vec_len l.fn.seated) × (vec_len l.passes + l.place ≡ vec_len l.fn.seated)
    × AreDealt l.fn.passes.items l.passes.items l.place l.fn.seated.items l.seated.items
