use Rattle.std.proofs.Common.{◌≡◌, ◌∙◌, map, sym, ap, ap₂, subst}
use Rattle.std.proofs.lemmas.Result.{IfOk-weaker}
use Rattle.std.specs.Map.Iter.{deref_pair}
use Rattle.local_index.specs.ScanChanges.{AreChanges}
use Rattle.local_index.specs.MergedEntries.{merged}
use Rattle.local_index.proofs.MergeLemmas.{AreChanges-merged}
use Rattle.local_index.proofs.scan_changes.changes.Goals as goal

pub returns : goal.returns
returns c =
    let seen = c.args.scan.now.paths in
    let known = c.args.index.now.entries in
    let left = ap (map deref_pair) c.as_slice.ensures.value ∙ c.in_ok-seen.ensures.value in
    let right = ap (map deref_pair) c.as_slice-2.ensures.value ∙ c.in_ok-known.ensures.value in
    record {
      value = IfOk-weaker c.merge.result (λ changes. changes ≡ merged (map deref_pair c.as_slice.result.now) (map deref_pair c.as_slice-2.result.now)) (AreChanges seen known)
          (λ changes is. subst (AreChanges seen known) (sym (is ∙ ap₂ merged left right)) (AreChanges-merged seen known))
          c.merge.ensures.value;
    }
