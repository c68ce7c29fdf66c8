-- One id more is wanted.
use Rattle.std.proofs.Common.{◌≡◌, ◌+◌, ℕ, suc, List, ◌∷◌, drop, sym, ap, ◌∙◌, subst, arith}
use Rattle.std.proofs.Math.Seq.{drop-cons}
use Rattle.std.proofs.lemmas.List.{drop_all}
use Rattle.tree_push.proofs.WantedLemmas.{IsAddingIds, ids_end, ids_more, ids_start}
use Rattle.tree_push.proofs.wanted.add_blocks.Goals as goal

pub loop-id-init : goal.loop-id-init
loop-id-init c = ids_start c.args.blocks.now c.args.wanted.now

pub loop-id-preserved : goal.loop-id-preserved
loop-id-preserved c =
    let i = c.loop-id.id-index in
    let ids = c.args.blocks.now in
    let one : suc i ≡ i + 1 = omega arith in
    let next : drop i ids ≡ c.id-item.result ∷ drop (i + 1) ids
    = drop-cons ids i c.id-item.result (omega arith) ∙ ap (λ (x : List ℕ). x ∷ drop (suc i) ids) (sym c.id-item.is) ∙ ap (λ n. c.id-item.result ∷ drop n ids) one in
    ids_more ids (drop (i + 1) ids) c.id-item.result c.args.wanted.now c.loop-id.wanted c.put.new.self
    (subst (λ (rest : List (List ℕ)). IsAddingIds ids rest c.args.wanted.now c.loop-id.wanted) next c.loop-id.invariant) c.in_ok-put.ensures.ok

pub returns : goal.returns
returns c = record {
  ok = ids_end c.args.blocks.now c.args.wanted.now c.loop-id.wanted
      (subst (λ (rest : List (List ℕ)). IsAddingIds c.args.blocks.now rest c.args.wanted.now c.loop-id.wanted) (drop_all c.loop-id.id-index c.args.blocks.now (omega arith)) c.loop-id.invariant);
}
