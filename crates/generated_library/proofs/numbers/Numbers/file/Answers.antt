-- One byte more was drawn.
use Rattle.std.proofs.Common.{◌≡◌, ◌+◌, ◌-◌, ◌%◌, ℕ, List, [], ◌∷◌, ◌++◌, ap, ap₂, ◌∙◌, arith}
use Rattle.generated_library.specs.Generated.{drawn_bytes, next_number, number_after}
use Rattle.generated_library.proofs.NumberLemmas.{drawn_all, drawn_begun, drawn_more, number_all, number_begun, number_more}
use Rattle.generated_library.proofs.numbers.Numbers.file.Goals as goal

pub loop-i-init : goal.loop-i-init
loop-i-init c =
    let size = 1 + c.draw.result % 16384 in
    record {
      size = c.in_ok-bytes.ensures.len;
      room = c.in_ok-bytes.ensures.capacity;
      rest = drawn_begun size c.args.self.now.now c.draw.new.self.now c.in_ok-bytes.bytes.items c.in_ok-bytes.ensures.items c.draw.ensures.after;
      number = number_begun size c.args.self.now.now c.draw.new.self.now c.draw.ensures.after;
      whole = ap (λ n. 1 + n % 16384) c.draw.ensures.value;
    }

pub loop-i-preserved : goal.loop-i-preserved
loop-i-preserved c =
    let size = 1 + c.draw.result % 16384 in
    let i = c.loop-i._i in
    let x = c.loop-i.self.now in
    let inv = c.loop-i.invariant in
    let below = c.loop-i-test.true in
    let more = c.push_reserved.ensures.len in
    let kept = c.push_reserved.ensures.capacity in
    let had = inv.size in
    let fits = inv.room in
    record {
      size = omega arith;
      room = omega arith;
      rest = ap₂ (λ (bytes : List ℕ) (z : ℕ). bytes ++ drawn_bytes (size - (i + 1)) z) (c.push_reserved.ensures.items ∙ ap (λ (b : ℕ). c.loop-i.bytes.items ++ b ∷ []) c.byte.ensures.value) c.byte.ensures.after
          ∙ drawn_more size i x c.loop-i.bytes.items _ below inv.rest;
      number = ap (λ (z : ℕ). number_after (size - (i + 1)) z) c.byte.ensures.after ∙ number_more size i x _ below inv.number;
      whole = inv.whole;
    }

pub push_reserved-requires : goal.push_reserved-requires
push_reserved-requires c =
    let below = c.loop-i-test.true in
    let had = c.loop-i.invariant.size in
    let fits = c.loop-i.invariant.room in
    omega arith

pub returns : goal.returns
returns c =
    let size = 1 + c.draw.result % 16384 in
    let inv = c.loop-i.invariant in
    let past = c.loop-i-test.false in
    record {
      value = drawn_all size c.loop-i._i c.loop-i.self.now c.loop-i.bytes.items _ past inv.rest ∙ ap (λ n. drawn_bytes n (next_number c.args.self.now.now)) inv.whole;
      after = number_all size c.loop-i._i c.loop-i.self.now _ past inv.number ∙ ap (λ n. number_after n (next_number c.args.self.now.now)) inv.whole;
    }
