-- One more name is in the index, and the last was read where none follows.
use Rattle.std.proofs.Common.{◌∙◌, sym}
use Rattle.object_store.proofs.IndexLemmas.{read-all, read-more}
use Rattle.object_store.proofs.ShelfLemmas.{reads_then}
use Rattle.object_store.proofs.key_index.read_kind.Goals as goal

pub returns-in-Ok-None-clause-ok : goal.returns-in-Ok-None-clause-ok
returns-in-Ok-None-clause-ok g c held told =
    let before = sym c.in-Ok-None.ensures.stays ∙ told in
    let none = rw c.in-Ok-None.field-0-is at (c.in-Ok-None.ensures.found held before) in
    read-all held.objects c.args.kind c.loop.last c.loop.index none (c.loop.invariant.read held before)

pub loop-preserved : goal.loop-preserved
loop-preserved g c = record {
  kept = c.next.ensures.stays ∙ c.loop.invariant.kept;
  reads = reads_then c.loop.invariant.reads (record { gives = c.next.ensures.gives; written = c.next.ensures.texts });
  count = c.in-Ok-Some.ensures.faults ∙ c.loop.invariant.count;
  read = λ held told.
      let before = sym c.in-Ok-Some.ensures.stays ∙ told in
      let is = rw c.in-Ok-Some.field-0-is at (c.in-Ok-Some.ensures.found held before) in
      rw c.in-Ok.ensures.ok (read-more held.objects c.args.kind c.loop.last c.in-Ok-Some.found c.loop.index is (c.loop.invariant.read held before));
}
