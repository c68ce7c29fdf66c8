use Rattle.std.proofs.Common.{◌≡◌, ◌<◌, ◌≤◌, ◌∙◌, ℕ, List, length, get_or, refl, ap, subst, arith}
use Rattle.block_chunker.specs.ChunkerProgress.{Progress}
use Rattle.tree_checkout.proofs.OneChunkLemmas.{one_chunk}
use Rattle.tree_checkout.proofs.WritingLemmas.{filling_end, filling_more, filling_short, filling_start, filling_stop, filling_wanting}
use Rattle.folder_side.specs.Calls.{SpareCleared}
use Rattle.tree_checkout.proofs.TouchLemmas.{none_one, none_then}
use Rattle.tree_checkout.proofs.writing.fill_spare.Goals as goal

pub returns-in-Err-add_block-clause-err : goal.returns-in-Err-add_block-clause-err
returns-in-Err-add_block-clause-err g c =
    filling_stop c.args.source.now c.args.file.now c.args.cuts c.loop-block.block-index c.block-item.result c.loop-block.left _ _ _ _ _ c.loop-block.chunker c.loop-block.names
    (subst (λ (ids : List (List ℕ)). c.loop-block.block-index < length ids) c.slice-block-items.ensures.value (omega arith))
    (subst (λ (ids : List (List ℕ)). c.block-item.result ≡ get_or ids c.loop-block.block-index c.block-item.result) c.slice-block-items.ensures.value c.block-item.is)
    c.loop-block.invariant.filling c.in-Err-add_block.fault c.in-Err-add_block.ensures.err

pub loop-block-init : goal.loop-block-init
loop-block-init g c = record {
  told = c.in-Ok.ensures.stays;
  faults = c.in-Ok.ensures.faults;
  quiet = none_one SpareCleared _ _ refl c.in-Ok.ensures.traced;
  alive = ap (λ (p : Progress). p.failed) c.new-chunker.ensures.value;
  peer = refl;
  filling =
      filling_start c.args.source.now c.args.file.now c.args.cuts _ _ _ c.new-chunker.result c.new-names.result c.new-chunker.ensures.value c.new-names.ensures.value
      c.in-Ok.ensures.ok;
}

pub loop-block-preserved : goal.loop-block-preserved
loop-block-preserved g c = record {
  told = c.in-Ok-add_block.ensures.untouched ∙ c.loop-block.invariant.told;
  faults = c.in-Ok-add_block.ensures.faults ∙ c.loop-block.invariant.faults;
  quiet = none_then _ _ _ c.loop-block.invariant.quiet c.in-Ok-add_block.ensures.traced;
  alive = ap (λ (p : Progress). p.failed) c.in-Ok-add_block.ensures.ok.fed ∙ c.loop-block.invariant.alive;
  peer = c.in-Ok-add_block.ensures.stays ∙ c.loop-block.invariant.peer;
  filling =
      filling_more c.args.source.now c.args.file.now c.args.cuts c.args.file.now.object.blocks c.loop-block.block-index c.block-item.result c.loop-block.left c.in-Ok-add_block.rest
      _ _ _ _ _ _ c.loop-block.chunker _ c.loop-block.names _
      (subst (λ (ids : List (List ℕ)). c.loop-block.block-index < length ids) c.slice-block-items.ensures.value (omega arith))
      (subst (λ (ids : List (List ℕ)). c.block-item.result ≡ get_or ids c.loop-block.block-index c.block-item.result) c.slice-block-items.ensures.value c.block-item.is)
      c.loop-block.invariant.filling c.in-Ok-add_block.ensures.ok;
}

pub note_own-requires-clause-one : goal.note_own-requires-clause-one
note_own-requires-clause-one g c =
    one_chunk c.args.source.now c.args.file.now c.args.cuts c.loop-block.block-index c.loop-block.left _ _ _ _ c.loop-block.chunker c.loop-block.names _ c.slice-blocks.ensures.value
    (subst (λ (ids : List (List ℕ)). length ids ≤ c.loop-block.block-index) c.slice-block-items.ensures.value (omega arith))
    c.if-left-eq0.true c.loop-block.invariant.filling

pub returns-in-Ok-note_own-clause-ok : goal.returns-in-Ok-note_own-clause-ok
returns-in-Ok-note_own-clause-ok g c =
    filling_end c.args.source.now c.args.file.now c.args.cuts c.loop-block.block-index c.loop-block.left _ _ _ _ c.loop-block.chunker c.loop-block.names _ _
    (subst (λ (ids : List (List ℕ)). length ids ≤ c.loop-block.block-index) c.slice-block-items.ensures.value (omega arith))
    c.if-left-eq0.true c.loop-block.invariant.filling c.in-Ok-note_own.ensures.ok

pub returns-in-Err-note_own-clause-err : goal.returns-in-Err-note_own-clause-err
returns-in-Err-note_own-clause-err g c =
    filling_wanting c.args.source.now c.args.file.now c.args.cuts c.loop-block.block-index c.loop-block.left _ _ _ _ c.loop-block.chunker c.loop-block.names
    (subst (λ (ids : List (List ℕ)). length ids ≤ c.loop-block.block-index) c.slice-block-items.ensures.value (omega arith))
    c.loop-block.invariant.filling

pub returns-clause-err : goal.returns-clause-err
returns-clause-err g c =
    filling_short c.args.source.now c.args.file.now c.args.cuts c.loop-block.block-index c.loop-block.left _ _ _ _ c.loop-block.chunker c.loop-block.names
    (subst (λ (ids : List (List ℕ)). length ids ≤ c.loop-block.block-index) c.slice-block-items.ensures.value (omega arith))
    c.if-left-eq0.false c.loop-block.invariant.filling c.wrong_size.result c.wrong_size.ensures.value

pub returns-in-Err-clause-traced : goal.returns-in-Err-clause-traced
returns-in-Err-clause-traced g c = none_one SpareCleared _ _ refl c.in-Err.ensures.traced

pub returns-in-Err-add_block-clause-traced : goal.returns-in-Err-add_block-clause-traced
returns-in-Err-add_block-clause-traced g c = none_then _ _ _ c.loop-block.invariant.quiet c.in-Err-add_block.ensures.traced
