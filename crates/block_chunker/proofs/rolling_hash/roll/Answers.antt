use Rattle.std.proofs.Common.{◌≡◌, ◌+◌, ◌/◌, ◌^◌, ◌==◌, take, false, sym, ap, ◌∙◌, arith, ⊎_elim}
use Rattle.std.proofs.lemmas.Bool.{eq-eqb, ne_eqb}
use Rattle.block_chunker.specs.ChunkBoundaries.{window, window_hash}
use Rattle.block_chunker.proofs.RollingHashLemmas.{roll_plain_more, last_or_before}
use Rattle.block_chunker.proofs.rolling_hash.roll.Goals as goal

pub returns-then-hash-shift-eq0-clause-hash : goal.returns-then-hash-shift-eq0-clause-hash
returns-then-hash-shift-eq0-clause-hash c =
    roll_plain_more c.args.bytes.now c.loop-i.i c.loop-i.plain c.moved-plain.result (omega arith) (omega arith) c.loop-i.invariant.is_hash c.moved-plain.ensures.value

pub returns-then-hash-shift-eq0-clause-value : goal.returns-then-hash-shift-eq0-clause-value
returns-then-hash-shift-eq0-clause-value c =
    let is = roll_plain_more c.args.bytes.now c.loop-i.i c.loop-i.plain c.moved-plain.result (omega arith) (omega arith) c.loop-i.invariant.is_hash c.moved-plain.ensures.value in
    record {
      behind = omega arith;
      within = omega arith;
      quiet = λ k p q. c.loop-i.invariant.quiet k p (omega arith);
      told = λ _. eq-eqb _ 0 (ap (λ n. n / 2 ^ c.args.shift) (sym is) ∙ c.if-hash-shift-eq0.true);
      some = λ _. omega arith;
      whole = λ e. cc;
    }

pub loop-i-preserved : goal.loop-i-preserved
loop-i-preserved c =
    let is = roll_plain_more c.args.bytes.now c.loop-i.i c.loop-i.plain c.moved-plain.result (omega arith) (omega arith) c.loop-i.invariant.is_hash c.moved-plain.ensures.value in
    let here : (window_hash (window (take (c.loop-i.i + 1) c.args.bytes.now)) / 2 ^ c.args.shift == 0) ≡ false =
    ne_eqb _ 0 (λ e. c.if-hash-shift-eq0.false (ap (λ n. n / 2 ^ c.args.shift) is ∙ e)) in
    record {
      is_hash = is;
      quiet = λ k p q. ⊎_elim (λ below. c.loop-i.invariant.quiet k p below) (λ same. ap (λ n. window_hash (window (take n c.args.bytes.now)) / 2 ^ c.args.shift == 0) same ∙ here) (last_or_before k c.loop-i.i q);
    }
