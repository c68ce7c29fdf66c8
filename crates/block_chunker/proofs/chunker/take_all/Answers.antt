use Rattle.std.proofs.Common.{◌≡◌, [], ◌∙◌, sym, subst}
use Rattle.std.proofs.lemmas.List.{nil_from_length}
use Rattle.std.proofs.lemmas.Bool.{eqb-true}
use Rattle.block_chunker.specs.ChunkBoundaries.{finished_chunks}
use Rattle.block_chunker.specs.ChunkerProgress.{AppendsSome}
use Rattle.block_chunker.proofs.ChunkerLemmas.{AppendsSome-from_HandsOut, HandsOut-all, begun_after-none, OnErr-any}
use Rattle.block_chunker.proofs.chunker.take_all.Goals as goal

pub returns-in_err-taken-clause-err : goal.returns-in_err-taken-clause-err
returns-in_err-taken-clause-err c =
    let all = finished_chunks c.args.cuts c.args.bytes.now.items c.args.piece.now in
    OnErr-any _ (subst (λ now. AppendsSome c.args.chunks.now now all) (sym c.in_err-taken.ensures.err) (AppendsSome-from_HandsOut _ _ _ _ c.loop-left.invariant.handed))

pub returns-clause-ok : goal.returns-clause-ok
returns-clause-ok c =
    let none : c.loop-left.left.now ≡ [] = nil_from_length c.loop-left.left.now (eqb-true _ 0 (sym c.is_empty.ensures ∙ c.loop-left-test.false)) in
    sym (begun_after-none c.args.cuts c.loop-left.bytes.items c.loop-left.left.now none) ∙ c.loop-left.invariant.goes_on

pub returns-clause-finished : goal.returns-clause-finished
returns-clause-finished c =
    let none : c.loop-left.left.now ≡ [] = nil_from_length c.loop-left.left.now (eqb-true _ 0 (sym c.is_empty.ensures ∙ c.loop-left-test.false)) in
    HandsOut-all c.args.cuts c.loop-left.bytes.items c.loop-left.left.now _ _ _ none c.loop-left.invariant.handed
