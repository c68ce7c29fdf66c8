use Rattle.std.proofs.Common.{◌∙◌, ap, arith, refl, take}
use Rattle.folder_side.specs.Calls.{Read}
use Rattle.folder_side.proofs.CallLemmas.{glances_one, reads_end, reads_more, reads_start, reads_stop}
use Rattle.folder_side.proofs.FileReadLemmas.{IsBehind-more, IsBehind-end, IsPart-at}
use Rattle.folder_side.proofs.file_reader.read_rest.Goals as goal

pub returns-in-Ok-end_file-clause-value : goal.returns-in-Ok-end_file-clause-value
returns-in-Ok-end_file-clause-value g c = λ c' bytes t a h.
    let part = IsPart-at _ bytes c.read.new.into c.loop-place.place c.in-Ok.count a (c.in-Ok.ensures.value c' (c.loop-place.invariant.told ∙ t)) in
    let all = IsBehind-end c.args.reading.chunker.cuts bytes c.read.new.into c.loop-place.place c.in-Ok.count c.loop-place.chunker c.loop-place.names c.in-Ok-end_file.read.blocks (c.loop-place.invariant.behind c' bytes t a h) part c.if-count-eq0.true c.in-Ok-end_file.ensures.blocks in
    record {
      blocks = all.0;
      size = c.in-Ok-end_file.ensures.size ∙ all.1;
      small = omega (arith, all.1);
    }

pub loop-place-preserved : goal.loop-place-preserved
loop-place-preserved g c = record {
  told = c.in-Ok.ensures.stays.0 ∙ c.loop-place.invariant.told;
  spare = c.in-Ok.ensures.stays.1 ∙ c.loop-place.invariant.spare;
  faults = c.in-Ok.ensures.faults ∙ c.loop-place.invariant.faults;
  alive = ap (λ p. p.failed) c.in-Ok-take_piece.ensures.ok ∙ c.loop-place.invariant.alive;
  bound = omega (arith, c.in-Ok.ensures.bound, c.requires.fits);
  traced = λ before behind at.
      reads_more c.args.reading.chunker.cuts c.args.file.now c.args.reading.place before _ _ _ c.loop-place.chunker _ c.loop-place.names _ c.loop-place.place c.in-Ok.count c.read.new.into
      (c.loop-place.invariant.traced before behind at) (omega (arith, c.if-count-eq0.false)) c.in-Ok.ensures.bound c.in-Ok.ensures.traced c.in-Ok-take_piece.ensures.ok
      c.in-Ok-take_piece.ensures.blocks;
  behind = λ c' bytes t a h.
      let part = IsPart-at _ bytes c.read.new.into c.loop-place.place c.in-Ok.count a (c.in-Ok.ensures.value c' (c.loop-place.invariant.told ∙ t)) in
      IsBehind-more c.args.reading.chunker.cuts bytes c.read.new.into c.loop-place.place c.in-Ok.count c.loop-place.chunker _ c.loop-place.names _ (c.loop-place.invariant.behind c' bytes t a h) part c.in-Ok-take_piece.ensures.ok c.in-Ok-take_piece.ensures.blocks;
}

pub returns-in-Err-clause-refused : goal.returns-in-Err-clause-refused
returns-in-Err-clause-refused g c = λ c' bytes t a h. c.read_fault.ensures.value bytes

pub loop-place-init : goal.loop-place-init
loop-place-init g c = record {
  told = refl;
  spare = refl;
  faults = refl;
  alive = c.requires.ready;
  bound = omega (arith, c.requires.bound);
  traced = λ before behind at. reads_start c.args.reading.chunker.cuts c.args.file.now c.args.reading.place before _ c.args.reading.chunker c.args.reading.names at behind;
  behind = λ c' bytes told here behind. behind;
}

pub returns-in-Ok-end_file-clause-traced : goal.returns-in-Ok-end_file-clause-traced
returns-in-Ok-end_file-clause-traced g c = λ before behind at.
    reads_end c.args.reading.chunker.cuts c.args.file.now c.args.reading.place before _ _ _ c.loop-place.chunker c.loop-place.names c.loop-place.place c.in-Ok.count c.read.new.into
    c.in-Ok-end_file.read (c.loop-place.invariant.traced before behind at) c.if-count-eq0.true (omega arith) c.in-Ok.ensures.traced c.in-Ok-end_file.ensures.blocks
    c.in-Ok-end_file.ensures.size

pub returns-in-Err-end_file-clause-traced : goal.returns-in-Err-end_file-clause-traced
returns-in-Err-end_file-clause-traced g c = λ before behind at.
    reads_stop c.args.reading.chunker.cuts c.args.file.now c.args.reading.place before _ _ _ c.loop-place.chunker c.loop-place.names c.loop-place.place
    (c.loop-place.invariant.traced before behind at)
    (glances_one (Read c.args.file.now c.loop-place.place (take c.in-Ok.count c.read.new.into)) _ _ refl c.in-Ok.ensures.traced)

pub returns-in-Err-take_piece-clause-traced : goal.returns-in-Err-take_piece-clause-traced
returns-in-Err-take_piece-clause-traced g c = λ before behind at.
    reads_stop c.args.reading.chunker.cuts c.args.file.now c.args.reading.place before _ _ _ c.loop-place.chunker c.loop-place.names c.loop-place.place
    (c.loop-place.invariant.traced before behind at)
    (glances_one (Read c.args.file.now c.loop-place.place (take c.in-Ok.count c.read.new.into)) _ _ refl c.in-Ok.ensures.traced)
