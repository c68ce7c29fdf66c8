-- One key more; at the end all.
use Rattle.std.proofs.Common.{◌≡◌, ◌∙◌, ◌++◌, ◌∷◌, List, ap, append-nil, sym}
use Rattle.std.specs.Map.{keys_of}
use Rattle.std.specs.Map.Iter.{deref}
use Rattle.std.proofs.lemmas.Map.Iter.{rest_more}
use Rattle.ids.specs.declared.key.Key.{Key}
use Rattle.std.specs.Prelude.{⊤}
use Rattle.ids.proofs.MapLemmas.{paired_next}
use Rattle.ids.proofs.key_table.bare_keys.Goals as goal

pub loop-key-init : goal.loop-key-init
loop-key-init g c =
    ap (λ (pairs : List (Key × ⊤)). keys_of pairs ++ c.into_iter-key-iterator.result) c.in_ok-pairs.ensures.items
    ∙ c.into_iter-key-iterator.ensures.into_iter_gives ∙ c.keys-key-items.ensures.rest

pub loop-key-preserved : goal.loop-key-preserved
loop-key-preserved g c =
    let next : c.loop-key.key-iterator ≡ c.in-Some.key.now ∷ c.next.new.self = rest_more deref _ _ _ c.in-Some.key c.in-Some.is c.next.ensures.steps in
    ap (λ (pairs : List (Key × ⊤)). keys_of pairs ++ c.next.new.self) c.in_ok-push_bare.ensures.value
    ∙ paired_next c.loop-key.pairs.items c.in-Some.key.now tt c.next.new.self
    ∙ ap (λ (left : List Key). keys_of c.loop-key.pairs.items ++ left) (sym next) ∙ c.loop-key.invariant

pub returns : goal.returns
returns g c = record {
  value =
      sym (append-nil (keys_of c.loop-key.pairs.items))
      ∙ ap (λ (left : List Key). keys_of c.loop-key.pairs.items ++ left) (sym c.in-None.ensures.steps.0) ∙ c.loop-key.invariant;
}
