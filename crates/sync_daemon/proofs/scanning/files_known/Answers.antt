-- The next entry is counted where it is a file.
use Rattle.std.proofs.Common.{◌≡◌, ◌∙◌, ◌∷◌, ◌+◌, ℕ, List, ap, min, subst, sym}
use Rattle.std.specs.FinMap as map
use Rattle.std.specs.Map.Iter.{deref_pair}
use Rattle.std.proofs.lemmas.Map.Iter.{rest_more}
use Rattle.sync_daemon.proofs.FilesKnownLemmas.{CountsSo, KnownEntry, count_end, count_more, count_start}
use Rattle.sync_daemon.proofs.scanning.files_known.Goals as goal

pub loop-known-init : goal.loop-known-init
loop-known-init c =
    subst (λ (left : List KnownEntry). CountsSo (map.entries c.args.index.now.entries) left 0) (sym (c.into_iter-known-iterator.ensures.into_iter_gives ∙ c.iter-known-items.ensures.rest))
    (count_start (map.entries c.args.index.now.entries))

pub loop-known-preserved : goal.loop-known-preserved
loop-known-preserved c =
    let next : c.loop-known.known-iterator ≡ (c.in-Some.field-0-0.now, c.in-Some.known.now) ∷ c.next.new.self
    = rest_more deref_pair _ _ _ (c.in-Some.field-0-0, c.in-Some.known) c.in-Some.is c.next.ensures.steps in
    count_more (map.entries c.args.index.now.entries) c.next.new.self (c.in-Some.field-0-0.now, c.in-Some.known.now) c.loop-known.count c.saturating_add-count.result
    (subst (λ (left : List KnownEntry). CountsSo (map.entries c.args.index.now.entries) left c.loop-known.count) next c.loop-known.invariant)
    (c.saturating_add-count.ensures ∙ ap (λ (n : ℕ). min (c.loop-known.count + n) 18446744073709551615) c.file_count.ensures.value)

pub returns : goal.returns
returns c = record {
  value = count_end (map.entries c.args.index.now.entries) c.loop-known.count
      (subst (λ (left : List KnownEntry). CountsSo (map.entries c.args.index.now.entries) left c.loop-known.count) c.in-None.ensures.steps.0 c.loop-known.invariant);
}
