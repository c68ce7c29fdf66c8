use Rattle.std.proofs.Common.{rules, subst}
use Rattle.block_chunker.specs.ChunkerProgress.{GrowsBy}
use Rattle.block_chunker.proofs.RollingHashLemmas.{chunk_hash-none}
use Rattle.block_chunker.proofs.ChunkerLemmas.{TakesSome-on, TakesSome-end, GrowsBy-short}
use Rattle.block_chunker.proofs.chunker.take_some.Goals as goal
use Rattle.std.proofs.lemmas.Bool.{not-true, not-false}

pub returns-then-not-growth-clause-ok : goal.returns-then-not-growth-clause-ok
returns-then-not-growth-clause-ok c =
    TakesSome-on c.args.cuts c.args.bytes.now.items c.grow.new.bytes.items c.args.piece.now c.args.chunks.now _
    (subst (λ b. GrowsBy c.args.cuts c.args.bytes.now.items c.grow.new.bytes.items c.args.piece.now c.in_ok-growth.growth.taken b) (not-true _ c.if-not-growth.true) c.in_ok-growth.ensures.ok)

pub returns-then-not-growth-clause-bound : goal.returns-then-not-growth-clause-bound
returns-then-not-growth-clause-bound c =
    GrowsBy-short c.args.cuts c.args.bytes.now.items c.grow.new.bytes.items c.args.piece.now c.in_ok-growth.growth.taken
    (subst (λ b. GrowsBy c.args.cuts c.args.bytes.now.items c.grow.new.bytes.items c.args.piece.now c.in_ok-growth.growth.taken b) (not-true _ c.if-not-growth.true) c.in_ok-growth.ensures.ok)
    c.in_ok-growth.ensures.bound

pub returns-in_err-push-clause-hash : goal.returns-in_err-push-clause-hash
returns-in_err-push-clause-hash c =
    chunk_hash-none c.args.cuts.min c.replace-chunk.new.dest.items (search rules)

pub returns-clause-hash : goal.returns-clause-hash
returns-clause-hash c =
    chunk_hash-none c.args.cuts.min c.replace-chunk.new.dest.items (search rules)

pub returns-clause-ok : goal.returns-clause-ok
returns-clause-ok c =
    TakesSome-end c.args.cuts c.args.bytes.now.items c.grow.new.bytes.items _ c.args.piece.now c.args.chunks.now _ _
    (subst (λ b. GrowsBy c.args.cuts c.args.bytes.now.items c.grow.new.bytes.items c.args.piece.now c.in_ok-growth.growth.taken b) (not-false _ c.if-not-growth.false) c.in_ok-growth.ensures.ok)
    (search rules) (search rules)
