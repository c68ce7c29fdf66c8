use Rattle.std.proofs.Common.{◌≡◌, length, take, Some, ap, subst, sym, ◌∙◌}
use Rattle.folder_side.specs.declared.holding.Holding.TheVariants.{File}
use Rattle.folder_side.specs.Folder.{PartAt, at}
use Rattle.folder_texts.proofs.TextLemmas.{file-of, part-of, read-more}
use Rattle.folder_texts.proofs.whole_file.read_all.Goals as goal

pub returns-then-count-eq0-clause-value : goal.returns-then-count-eq0-clause-value
returns-then-count-eq0-clause-value g c = λ c' t.
    let part = subst (λ s. PartAt (at c' c.args.file.now) (length s) c.in-Ok.count c.read.new.into) c.as_slice.ensures.value (c.in-Ok.ensures.value c' (c.loop.invariant.told ∙ t)) in
    file-of (at c' c.args.file.now) c.loop.bytes.items c.read.new.into c.in-Ok.count (λ bytes is. c.loop.invariant.behind c' bytes t is) part c.if-count-eq0.true
    ∙ ap (λ b. Some (File b)) (sym c.from_vec.ensures.value)

pub loop-preserved : goal.loop-preserved
loop-preserved g c = record {
  told = c.in-Ok.ensures.stays.0 ∙ c.loop.invariant.told;
  spare = c.in-Ok.ensures.stays.1 ∙ c.loop.invariant.spare;
  faults = c.in-Ok.ensures.faults ∙ c.loop.invariant.faults;
  behind = λ c' bytes t is.
      let part = subst (λ s. PartAt (at c' c.args.file.now) (length s) c.in-Ok.count c.read.new.into) c.as_slice.ensures.value (c.in-Ok.ensures.value c' (c.loop.invariant.told ∙ t)) in
      subst (λ s. s ≡ take (length s) bytes) (sym c.in-Ok-extend_from_slice.ensures.items)
      (read-more bytes c.loop.bytes.items c.read.new.into c.in-Ok.count (c.loop.invariant.behind c' bytes t is) (part-of (at c' c.args.file.now) bytes c.read.new.into (length c.loop.bytes.items) c.in-Ok.count is part));
}
