-- What is so of a collection that runs is so where one may run. The key lemmas are may_fresh, fresh_is, shields_is, new_is, needed_is,
-- none_fresh, lists_next, lists_all and made_text.
use Rattle.std.proofs.Common.{◌≡◌, ◌++◌, Bool, true, false, cond, is_some, not, List, [], ◌∷◌, ap, refl, sym, ◌∙◌, subst, Option, None, Some, Result, Ok, Err, length, option_map, ℕ, ◌||◌, append-nil, append_assoc}
use Rattle.std.specs.Prelude.{IfOk, OnErr, OnOk, filter}
use Rattle.std.specs.FinMap as map
use Rattle.std.specs.FinSet as set
use Rattle.std.proofs.lemmas.List.Elements.{filter-append}
use Rattle.ids.specs.Key.{Objects, key_cmp}
use Rattle.ids.specs.declared.key.Key.{Key}
use Rattle.object_graph.specs.Objects.{commit_key}
use Rattle.object_graph.specs.Traversal.{is_in}
use Rattle.library_rules.specs.Changes.{keys_added}
use Rattle.library_rules.specs.LibraryState.{is_stored}
use Rattle.library_rules.specs.declared.entry.Stored.{Stored}
use Rattle.object_store.specs.StoreView.{Index}
use Rattle.depot.specs.DepotView.{CollectionView}
use Rattle.depot.specs.Fresh.{AreNew, AreNewIn, HasFresh, MayHaveFresh, MayShield, ShieldsKeys}
use Rattle.depot.specs.Plan.{listed, own_object}
use Rattle.depot.specs.Shields.{ListsNeeded, ListsNeededIn, keys_made}
use Rattle.depot.specs.declared.plan.Plan.{Plan}
use Rattle.depot.specs.declared.shields.Shields.{Shields}
use Rattle.depot.proofs.HeldLemmas.{keys_append}

-- ---- the collection runs

module _ (old new : Option CollectionView) (a b : CollectionView) (was : old ≡ Some a) (now : new ≡ Some b) where
  pub may_fresh : (fresh : set.FinSet key_cmp → Key → Bool) → HasFresh (fresh a.running.fresh) a b → MayHaveFresh fresh old new
  may_fresh fresh has = subst (λ (o : Option CollectionView). MayHaveFresh fresh o new) (sym was) (b, now, has)

  pub fresh_is : {T E : Type 0} (fresh : set.FinSet key_cmp → Key → Bool) (r : Result T E) → OnOk r (HasFresh (fresh a.running.fresh) a b) → OnOk r (MayHaveFresh fresh old new)
  fresh_is fresh (Ok value) has = may_fresh fresh has
  fresh_is fresh (Err fault) has = tt

  pub fresh_is_after : {T E : Type 0} (fresh : set.FinSet key_cmp → Key → Bool) (r : Result T E) → OnErr r (HasFresh (fresh a.running.fresh) a b) → OnErr r (MayHaveFresh fresh old new)
  fresh_is_after fresh (Ok value) has = tt
  fresh_is_after fresh (Err fault) has = may_fresh fresh has

  pub shields_is : (keys : List Key) → ShieldsKeys keys a b → MayShield keys old new
  shields_is keys shields = subst (λ (o : Option CollectionView). MayShield keys o new) (sym was) (b, now, shields)

  -- what is made, and with it the fresh keys
  pub shown_is : {E : Type 0} (keys : List Key) (r : Result Shields E)
      → IfOk r (λ shields. AreNew keys a.running.fresh shields.made × HasFresh (λ key. set.contains a.running.fresh key || is_in keys key) a b)
      → IfOk r (λ shields. AreNewIn keys old shields.made × MayHaveFresh (λ fresh key. set.contains fresh key || is_in keys key) old new)
  shown_is keys (Ok shields) (new_ones, has) =
      (subst (λ (o : Option CollectionView). AreNewIn keys o shields.made) (sym was) new_ones, may_fresh (λ fresh key. set.contains fresh key || is_in keys key) has)
  shown_is keys (Err why) is = tt

module _ (old : Option CollectionView) (a : CollectionView) (was : old ≡ Some a) where
  pub new_is : {E : Type 0} (keys : List Key) (r : Result (List Key) E) → IfOk r (AreNew keys a.running.fresh) → IfOk r (AreNewIn keys old)
  new_is keys (Ok new) are = subst (λ (o : Option CollectionView). AreNewIn keys o new) (sym was) are
  new_is keys (Err fault) are = tt

  pub made_is : {E : Type 0} (keys : List Key) (r : Result Shields E) → IfOk r (λ shields. AreNew keys a.running.fresh shields.made) → IfOk r (λ shields. AreNewIn keys old shields.made)
  made_is keys (Ok shields) are = subst (λ (o : Option CollectionView). AreNewIn keys o shields.made) (sym was) are
  made_is keys (Err fault) are = tt

  pub needed_is : {E : Type 0} (objects : Objects) (before : List ℕ) (plan : Plan) (pushed : List ℕ) (r : Result Shields E) → IfOk r (λ shields. ListsNeeded objects before plan pushed shields.needed)
      → IfOk r (λ shields. ListsNeededIn objects before plan pushed old shields.needed)
  needed_is objects before plan pushed (Ok shields) lists = subst (λ (o : Option CollectionView). ListsNeededIn objects before plan pushed o shields.needed) (sym was) lists
  needed_is objects before plan pushed (Err fault) lists = tt

-- ---- none runs

pub none_fresh : (fresh : set.FinSet key_cmp → Key → Bool) (old new : Option CollectionView) → old ≡ None → new ≡ None → MayHaveFresh fresh old new
none_fresh fresh old new none still = subst (λ (o : Option CollectionView). MayHaveFresh fresh o new) (sym none) still

pub none_shielded : (keys : List Key) (old new : Option CollectionView) → old ≡ None → new ≡ None → MayShield keys old new
none_shielded keys old new none still = subst (λ (o : Option CollectionView). MayShield keys o new) (sym none) still

pub none_new : (keys : List Key) (old : Option CollectionView) (new : List Key) → old ≡ None → new ≡ [] → AreNewIn keys old new
none_new keys old new none empty = subst (λ (o : Option CollectionView). AreNewIn keys o new) (sym none) empty

pub none_needed : (objects : Objects) (before : List ℕ) (plan : Plan) (pushed : List ℕ) (old : Option CollectionView) (keys : List Key) → old ≡ None → keys ≡ []
    → ListsNeededIn objects before plan pushed old keys
none_needed objects before plan pushed old keys none empty = subst (λ (o : Option CollectionView). ListsNeededIn objects before plan pushed o keys) (sym none) empty

-- ---- which of some keys nothing is stored under

-- keys in their order, of which those that pass are listed
pub record ListsSo (passes : Key → Bool) (all left listed : List Key) : Type 0 where
  pub parts : filter passes all ≡ listed ++ filter passes left

pub lists_none : (passes : Key → Bool) (all listed : List Key) → listed ≡ [] → ListsSo passes all all listed
lists_none passes all listed none = record { parts = ap (λ (keys : List Key). keys ++ filter passes all) (sym none) }

pub lists_next : (passes : Key → Bool) (all : List Key) (key : Key) (left listed more : List Key) → more ≡ listed ++ filter passes (key ∷ []) → ListsSo passes all (key ∷ left) listed → ListsSo passes all left more
lists_next passes all key left listed more pushed lists = record {
  parts = lists.parts ∙ by (passes key) ∙ ap (λ (keys : List Key). keys ++ filter passes left) (sym pushed);
}
  where
    by : (b : Bool) → listed ++ cond b (key ∷ filter passes left) (filter passes left) ≡ (listed ++ cond b (key ∷ []) []) ++ filter passes left
    by true = sym (append_assoc listed (key ∷ []) (filter passes left))
    by false = ap (λ (keys : List Key). keys ++ filter passes left) (sym (append-nil listed))

pub lists_all : (passes : Key → Bool) (all left listed : List Key) → left ≡ [] → ListsSo passes all left listed → listed ≡ filter passes all
lists_all passes all left listed none lists =
    sym (lists.parts ∙ ap (λ (keys : List Key). listed ++ filter passes keys) none ∙ append-nil listed)

-- a key that passes is appended, and one that doesn't isn't
pub passes_one : (passes : Key → Bool) (key : Key) (keys more : List Key) → passes key ≡ true → more ≡ keys ++ key ∷ [] → more ≡ keys ++ filter passes (key ∷ [])
passes_one passes key keys more is pushed = pushed ∙ ap (λ (b : Bool). keys ++ cond b (key ∷ []) []) (sym is)

pub passes_none : (passes : Key → Bool) (key : Key) (keys : List Key) → passes key ≡ false → keys ≡ keys ++ filter passes (key ∷ [])
passes_none passes key keys other = sym (append-nil keys) ∙ ap (λ (b : Bool). keys ++ cond b (key ∷ []) []) (sym other)

-- what a plan makes is its directories where its head is stored, and else the head's text too
pub made_text_none : (passes : Key → Bool) (plan : Plan) (keys : List Key) → keys ≡ filter passes (keys_added (listed (map.entries plan.dirs))) → plan.text ≡ None
    → keys ≡ filter passes (keys_made plan)
made_text_none passes plan keys are none =
    are
    ∙ ap (λ (added : List Stored). filter passes (keys_added added))
    (sym (append-nil (listed (map.entries plan.dirs))) ∙ ap (λ (text : Option (List ℕ)). listed (map.entries plan.dirs) ++ own_object plan.head text) (sym none))

pub made_text : (passes : Key → Bool) (plan : Plan) (text : List ℕ) (keys more : List Key) (key : Key) → key ≡ commit_key plan.head
    → keys ≡ filter passes (keys_added (listed (map.entries plan.dirs))) → more ≡ keys ++ filter passes (key ∷ []) → plan.text ≡ Some text → more ≡ filter passes (keys_made plan)
made_text passes plan text keys more key own are pushed is =
    pushed ∙ ap (λ (ks : List Key). ks ++ filter passes (key ∷ [])) are
    ∙ ap (λ (k : Key). filter passes (keys_added (listed (map.entries plan.dirs))) ++ filter passes (k ∷ [])) own
    ∙ sym (filter-append passes (keys_added (listed (map.entries plan.dirs))) (commit_key plan.head ∷ []))
    ∙ ap (filter passes)
    (sym (keys_append (listed (map.entries plan.dirs)) (own_object plan.head (Some text)))
    ∙ ap (λ (o : Option (List ℕ)). keys_added (listed (map.entries plan.dirs) ++ own_object plan.head o)) (sym is))

-- what the store tells of a key
pub unknown_there : (index : Index) (key : Key) (size : ℕ) → Some size ≡ map.get index key → not (is_some (map.get index key)) ≡ false
unknown_there index key size is = ap (λ (o : Option ℕ). not (is_some o)) (sym is)

pub unknown_gone : (index : Index) (key : Key) → None ≡ map.get index key → not (is_some (map.get index key)) ≡ true
unknown_gone index key is = ap (λ (o : Option ℕ). not (is_some o)) (sym is)

pub stored_there : (objects : Objects) (key : Key) (size : ℕ) → Some size ≡ option_map length (map.get objects key) → is_stored objects key ≡ true
stored_there objects key size is = by (map.get objects key) is
  where
    by : (o : Option (List ℕ)) → Some size ≡ option_map length o → is_some o ≡ true
    by None is = cc
    by (Some bytes) is = refl

pub stored_gone : (objects : Objects) (key : Key) → None ≡ option_map length (map.get objects key) → is_stored objects key ≡ false
stored_gone objects key is = by (map.get objects key) is
  where
    by : (o : Option (List ℕ)) → None ≡ option_map length o → is_some o ≡ false
    by None is = refl
    by (Some bytes) is = cc
