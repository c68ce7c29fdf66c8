use Rattle.std.proofs.Common.{◌+◌, ◌*◌, ◌%◌, ◌^◌, take, drop, get_or, sym, ap, ◌∙◌, arith}
use Rattle.block_chunker.specs.ChunkBoundaries.{multiplier, window_hash}
use Rattle.block_chunker.proofs.RollingHashLemmas.{window_hash-push, drop-take_more, drop-take_start}
use Rattle.block_chunker.proofs.rolling_hash.fill.Goals as goal

pub loop-i-init : goal.loop-i-init
loop-i-init c =
    c.requires.ready ∙ ap window_hash (drop-take_start c.args.bytes.now c.args.first c.args.from c.args.to c.min-start.result c.requires.ordered (omega arith))

pub loop-i-preserved : goal.loop-i-preserved
loop-i-preserved c =
    let bytes = c.args.bytes.now in
    let had = drop c.args.first (take c.loop-i.i bytes) in
    c.taken_in-hash.ensures.value
    ∙ ap (λ n. (n * multiplier + (get_or bytes c.loop-i.i 0 + 1)) % 2 ^ 64) c.loop-i.invariant
    ∙ sym (window_hash-push had (get_or bytes c.loop-i.i 0))
    ∙ ap window_hash (sym (drop-take_more bytes c.args.first c.loop-i.i (omega arith) (omega arith)))
