use Rattle.std.proofs.Common.{◌∙◌, arith, inl, inr}
use Rattle.std.proofs.lemmas.Bool.{eq-eqb, ne_eqb, or_from}
use Rattle.block_chunker.proofs.ScanLemmas.{IsFirstEnd-young, IsFirstEnd-least, IsFirstEnd-go_on, ends_in_cut-least, either_true}
use Rattle.block_chunker.proofs.rolling_hash.scan.Goals as goal
use Rattle.block_chunker.proofs.rolling_hash.scan.Goals.{then-hash-cuts-eq0-via-then-hash-cuts-eq0, then-hash-cuts-eq0-via-else-hash-cuts-eq0+then-cuts}

pub returns-then-to-least-clause-value : goal.returns-then-to-least-clause-value
returns-then-to-least-clause-value c =
    IsFirstEnd-young c.args.cuts c.args.bytes.now c.args.from c.min-to.result (omega arith) (omega arith) (omega arith)

pub returns-then-hash-cuts-eq0-clause-value : goal.returns-then-hash-cuts-eq0-clause-value
returns-then-hash-cuts-eq0-clause-value c =
    let at = ends_in_cut-least c.args.cuts c.args.bytes.now c.min-to.result c.fill-hash.result (omega arith) (omega arith) c.fill-hash.ensures.value in
    IsFirstEnd-least c.args.cuts c.args.bytes.now c.args.from c.min-to.result (omega arith) (omega arith) (omega arith)
    (at ∙ elim c.then-hash-cuts-eq0.branch [
      | then-hash-cuts-eq0-via-then-hash-cuts-eq0 w ↦ either_true _ _ (inl (eq-eqb _ 0 w.if-hash-cuts-eq0.true))
      | then-hash-cuts-eq0-via-else-hash-cuts-eq0+then-cuts w ↦ either_true _ _ (inr (eq-eqb _ _ w.if-cuts.true))
    ])

pub returns-clause-value : goal.returns-clause-value
returns-clause-value c =
    let at = ends_in_cut-least c.args.cuts c.args.bytes.now c.min-to.result c.fill-hash.result (omega arith) (omega arith) c.fill-hash.ensures.value in
    IsFirstEnd-go_on c.args.cuts c.args.bytes.now c.args.from c.min-to.result _ _ (omega arith) (omega arith) (omega arith)
    (at ∙ or_from _ _ (ne_eqb _ 0 c.if-hash-cuts-eq0.false) (ne_eqb _ _ c.if-cuts.false))
    c.scan_grown-2.ensures.value
