-- Each path that was seen is known.
use Rattle.std.proofs.Common.{◌≡◌, ◌∷◌, ◌∙◌, List, ap, subst, sym}
use Rattle.std.specs.FinMap as fin
use Rattle.std.specs.Map.Iter.{deref_pair}
use Rattle.std.proofs.lemmas.Map.Iter.{rest_more}
use Rattle.tree_model.specs.Path.{PathV}
use Rattle.folder_side.specs.declared.scan_report.Seen.{Seen}
use Rattle.tree_push.proofs.MappedLemmas.{IsMapped, mapped_end, mapped_more, mapped_start}
use Rattle.sync_daemon.specs.Bringing.{known_by}
use Rattle.sync_daemon.proofs.KnownOfferLemmas.{knows_by_owns}
use Rattle.sync_daemon.proofs.own_head.known_offer.Goals as goal

pub loop-path-init : goal.loop-path-init
loop-path-init c =
    subst (λ (left : List (PathV × Seen)). IsMapped (λ path seen. known_by c.args.moment c.args.user.now (fin.get c.args.owns.now path) (fin.get c.args.knowns.now path) seen) c.args.seens.now c.new-known.result left)
    (sym (c.into_iter-path-iterator.ensures.into_iter_gives ∙ c.iter-path-items.ensures.rest))
    (mapped_start (λ path seen. known_by c.args.moment c.args.user.now (fin.get c.args.owns.now path) (fin.get c.args.knowns.now path) seen) c.args.seens.now c.new-known.result c.new-known.ensures.value)

pub loop-path-preserved : goal.loop-path-preserved
loop-path-preserved c =
    let next : c.loop-path.path-iterator ≡ (c.in-Some.path.now, c.in-Some.seen.now) ∷ c.next.new.self
    = rest_more deref_pair _ _ _ (c.in-Some.path, c.in-Some.seen) c.in-Some.is c.next.ensures.steps in
    mapped_more (λ path seen. known_by c.args.moment c.args.user.now (fin.get c.args.owns.now path) (fin.get c.args.knowns.now path) seen) c.args.seens.now c.loop-path.known c.put.new.known c.in-Some.path.now
    c.in-Some.seen.now c.in_ok-here.here c.next.new.self
    (subst (λ (left : List (PathV × Seen)). IsMapped (λ path seen. known_by c.args.moment c.args.user.now (fin.get c.args.owns.now path) (fin.get c.args.knowns.now path) seen) c.args.seens.now c.loop-path.known left) next c.loop-path.invariant)
    (c.in_ok-here.ensures.value ∙ (λ i. known_by c.args.moment c.args.user.now (c.get-own.ensures.value i) (c.get.ensures.value i) c.in-Some.seen.now))
    (c.in_ok-put.ensures.ok ∙ ap (λ (p : PathV). fin.insert c.loop-path.known p c.in_ok-here.here) c.in_ok-copy.ensures.value)

pub returns : goal.returns
returns c = record {
  value = knows_by_owns c.args.moment c.args.user.now c.args.knowns.now c.args.seens.now c.args.owns.now c.loop-path.known c.requires.ids
      (mapped_end (λ path seen. known_by c.args.moment c.args.user.now (fin.get c.args.owns.now path) (fin.get c.args.knowns.now path) seen) c.args.seens.now c.loop-path.known
      (subst (λ (left : List (PathV × Seen)). IsMapped (λ path seen. known_by c.args.moment c.args.user.now (fin.get c.args.owns.now path) (fin.get c.args.knowns.now path) seen) c.args.seens.now c.loop-path.known left) c.in-None.ensures.steps.0 c.loop-path.invariant));
}
