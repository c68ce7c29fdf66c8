use Rattle.std.proofs.Common.{◌≡◌, ◌+◌, ◌-◌, ◌/◌, length, take, sym, subst, arith}
use Rattle.std.proofs.lemmas.List.{take_all}
use Rattle.http_client.specs.ReplyHead.{NeverHasHead}
use Rattle.http_client.proofs.FrontLemmas.{may_begin, never_some, no_head_before}
use Rattle.http_client.proofs.reply_front.bad_place.Goals as goal

pub loop-low-init : goal.loop-low-init
loop-low-init c = record {
  apart = never_some c.args.front.now c.requires.broken;
  inside = omega arith;
  may = may_begin;
  never = subst NeverHasHead (sym (take_all (length c.args.front.now) c.args.front.now (omega arith))) c.requires.broken;
}

pub may_become_head-requires : goal.may_become_head-requires
may_become_head-requires c = record { none = no_head_before c.args.front.now (c.loop-low.low + (c.loop-low.high - c.loop-low.low) / 2) c.requires.none }

pub returns-clause-broken : goal.returns-clause-broken
returns-clause-broken c =
    let apart = c.loop-low.invariant.apart in
    let past = c.loop-low-test.false in
    let same : c.loop-low.high ≡ c.loop-low.low + 1 = omega (arith, apart, past) in
    subst (λ n. NeverHasHead (take n c.args.front.now)) same c.loop-low.invariant.never
