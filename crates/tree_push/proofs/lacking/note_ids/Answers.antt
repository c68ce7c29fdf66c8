-- One id more is noted.
use Rattle.std.proofs.Common.{◌≡◌, ◌+◌, ℕ, suc, List, ◌∷◌, drop, sym, ap, ◌∙◌, subst, arith}
use Rattle.std.proofs.Math.Seq.{drop-cons}
use Rattle.std.proofs.lemmas.List.{drop_all}
use Rattle.tree_push.proofs.NotedLemmas.{IsNoting, noting_end, noting_more, noting_start}
use Rattle.tree_push.proofs.lacking.note_ids.Goals as goal

pub loop-id-init : goal.loop-id-init
loop-id-init c = noting_start c.args.kind c.args.ids.now c.args.lacking.now

pub loop-id-preserved : goal.loop-id-preserved
loop-id-preserved c =
    let i = c.loop-id.id-index in
    let ids = c.args.ids.now in
    let one : suc i ≡ i + 1 = omega arith in
    let next : drop i ids ≡ c.id-item.result ∷ drop (i + 1) ids
    = drop-cons ids i c.id-item.result (omega arith) ∙ ap (λ (x : List ℕ). x ∷ drop (suc i) ids) (sym c.id-item.is) ∙ ap (λ n. c.id-item.result ∷ drop n ids) one in
    noting_more c.args.kind ids (drop (i + 1) ids) c.id-item.result c.args.lacking.now c.loop-id.lacking c.put.new.self
    (subst (λ (rest : List (List ℕ)). IsNoting c.args.kind ids rest c.args.lacking.now c.loop-id.lacking) next c.loop-id.invariant) c.in-Ok.ensures.ok

pub returns-clause-value : goal.returns-clause-value
returns-clause-value c =
    noting_end c.args.kind c.args.ids.now c.args.lacking.now c.loop-id.lacking
    (subst (λ (rest : List (List ℕ)). IsNoting c.args.kind c.args.ids.now rest c.args.lacking.now c.loop-id.lacking) (drop_all c.loop-id.id-index c.args.ids.now (omega arith)) c.loop-id.invariant)
