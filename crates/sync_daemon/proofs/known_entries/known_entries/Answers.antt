-- Each entry is known.
use Rattle.std.proofs.Common.{◌≡◌, ◌∷◌, ◌∙◌, List, ap, subst, sym}
use Rattle.std.specs.FinMap as fin
use Rattle.std.specs.Map.Iter.{deref_pair}
use Rattle.std.proofs.lemmas.Map.Iter.{rest_more}
use Rattle.tree_model.specs.Path.{PathV}
use Rattle.object_graph.specs.declared.entry.Entry.{Entry}
use Rattle.tree_push.proofs.MappedLemmas.{IsMapped, mapped_end, mapped_more, mapped_start}
use Rattle.sync_daemon.specs.Bringing.{AreOwns, KnowsAs, known_of, own_at}
use Rattle.sync_daemon.proofs.known_entries.known_entries.Goals as goal

pub loop-path-init : goal.loop-path-init
loop-path-init c =
    subst (λ (left : List (PathV × Entry)). IsMapped (λ path entry. known_of (own_at c.args.scan.now c.in_ok-written.written path) entry) c.args.entries.now c.new-known.result left)
    (sym (c.into_iter-path-iterator.ensures.into_iter_gives ∙ c.iter-path-items.ensures.rest))
    (mapped_start (λ path entry. known_of (own_at c.args.scan.now c.in_ok-written.written path) entry) c.args.entries.now c.new-known.result c.new-known.ensures.value)

pub loop-path-preserved : goal.loop-path-preserved
loop-path-preserved c =
    let next : c.loop-path.path-iterator ≡ (c.in-Some.path.now, c.in-Some.entry.now) ∷ c.next.new.self
    = rest_more deref_pair _ _ _ (c.in-Some.path, c.in-Some.entry) c.in-Some.is c.next.ensures.steps in
    mapped_more (λ path entry. known_of (own_at c.args.scan.now c.in_ok-written.written path) entry) c.args.entries.now c.loop-path.known c.put.new.known c.in-Some.path.now
    c.in-Some.entry.now c.in_ok-here.here c.next.new.self
    (subst (λ (left : List (PathV × Entry)). IsMapped (λ path entry. known_of (own_at c.args.scan.now c.in_ok-written.written path) entry) c.args.entries.now c.loop-path.known left) next
    c.loop-path.invariant)
    c.in_ok-here.ensures.value
    (c.in_ok-put.ensures.ok ∙ ap (λ (p : PathV). fin.insert c.loop-path.known p c.in_ok-here.here) c.in_ok-copy.ensures.value)

pub returns : goal.returns
returns c = record {
  value = subst (λ (owns : AreOwns). KnowsAs c.args.scan.now owns c.args.entries.now c.loop-path.known) c.in_ok-written.ensures.value
      (mapped_end (λ path entry. known_of (own_at c.args.scan.now c.in_ok-written.written path) entry) c.args.entries.now c.loop-path.known
      (subst (λ (left : List (PathV × Entry)). IsMapped (λ path entry. known_of (own_at c.args.scan.now c.in_ok-written.written path) entry) c.args.entries.now c.loop-path.known left)
      c.in-None.ensures.steps.0 c.loop-path.invariant));
}
