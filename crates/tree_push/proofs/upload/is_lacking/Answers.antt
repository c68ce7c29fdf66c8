-- One block more isn't lacking, or it is.
use Rattle.std.proofs.Common.{◌≡◌, ◌+◌, ◌||◌, ◌∷◌, ◌∙◌, Bool, ℕ, List, ap, arith, drop, refl, suc, sym}
use Rattle.std.proofs.Math.Seq.{drop-cons}
use Rattle.std.proofs.lemmas.List.{drop_all}
use Rattle.std.specs.List.{list_any}
use Rattle.object_graph.specs.Objects.{block_key}
use Rattle.tree_push.specs.Lacking.{has_key}
use Rattle.tree_push.proofs.upload.is_lacking.Goals as goal

pub loop-id-init : goal.loop-id-init
loop-id-init c = refl

pub loop-id-preserved : goal.loop-id-preserved
loop-id-preserved c =
    let i = c.loop-id.id-index in
    let ids = c.args.blocks.now in
    let test : List ℕ → Bool = (λ (id : List ℕ). has_key c.args.lacking.now (block_key id)) in
    let one : suc i ≡ i + 1 = omega arith in
    let next : drop i ids ≡ c.id-item.result ∷ drop (i + 1) ids
    = drop-cons ids i c.id-item.result (omega arith) ∙ ap (λ (x : List ℕ). x ∷ drop (suc i) ids) (sym c.id-item.is) ∙ ap (λ n. c.id-item.result ∷ drop n ids) one in
    c.loop-id.invariant ∙ ap (list_any test) next ∙ ap (λ (b : Bool). b || list_any test (drop (i + 1) ids)) (sym c.has.ensures.value ∙ c.if-has.false)

pub returns-then-has : goal.returns-then-has
returns-then-has c =
    let i = c.loop-id.id-index in
    let ids = c.args.blocks.now in
    let test : List ℕ → Bool = (λ (id : List ℕ). has_key c.args.lacking.now (block_key id)) in
    let one : suc i ≡ i + 1 = omega arith in
    let next : drop i ids ≡ c.id-item.result ∷ drop (i + 1) ids
    = drop-cons ids i c.id-item.result (omega arith) ∙ ap (λ (x : List ℕ). x ∷ drop (suc i) ids) (sym c.id-item.is) ∙ ap (λ n. c.id-item.result ∷ drop n ids) one in
    record { value = sym (c.loop-id.invariant ∙ ap (list_any test) next ∙ ap (λ (b : Bool). b || list_any test (drop (i + 1) ids)) (sym c.has.ensures.value ∙ c.if-has.true)) }

pub returns : goal.returns
returns c = record {
  value = sym (c.loop-id.invariant ∙ ap (list_any (λ id. has_key c.args.lacking.now (block_key id))) (drop_all c.loop-id.id-index c.args.blocks.now (omega arith)));
}
