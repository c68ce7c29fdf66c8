-- What the index knows after objects were put. The key lemmas are holds_put, holds_one, more_then and index_refused.
use Rattle.std.proofs.Common.{◌≡◌, ℕ, Bool, true, false, ◌||◌, List, [], ◌∷◌, ◌++◌, length, cond, refl, sym, ap, ◌∙◌, subst, true≢false, Option, None, Some, is_some, if◌then◌else◌, Result, Ok, Err}
use Rattle.std.specs.FinMap as map
use Rattle.std.proofs.lemmas.Bool.{or_left, or_right}
use Rattle.ids.proofs.KeyOrderLemmas.{key_cmp_total}
use Rattle.ids.specs.declared.key.Key.{Key}
use Rattle.library_rules.specs.Changes.{keys_added}
use Rattle.library_rules.specs.declared.entry.Stored.{Stored}
use Rattle.library_state.specs.declared.call.Act.{Act}
use Rattle.library_state.specs.declared.call.Act.TheVariants as act
use Rattle.library_state.specs.declared.refusal.Refusal.{Refusal}
use Rattle.library_state.specs.declared.reply.Reply.{Reply}
use Rattle.library_state.specs.declared.reply.Reply.TheVariants as reply
use Rattle.object_graph.specs.Traversal.{is_in}
use Rattle.object_graph.proofs.KeyLemmas.{in_append, same_key, same_key-true}
use Rattle.object_store.specs.Shelf.{Contents}
use Rattle.object_store.specs.StoreView.{Index, PutChanges, StoreView}
use Rattle.object_store.specs.declared.error.StoreFault.{StoreFault}
use Rattle.object_store.specs.declared.error.StoreFault.TheVariants.{Taken, Wrong, Damaged, Shelf, NoMemory}
use Rattle.object_store.specs.declared.put.Put.{Put}
use Rattle.object_store.specs.declared.put.Put.TheVariants.{New, Same}
use Rattle.depot.specs.Held.{HoldsMore, HoldsPut, IndexSo, KnowsAll}
use Rattle.depot.specs.Refusals.{store_refusal}

pub keys_append : (xs ys : List Stored) → keys_added (xs ++ ys) ≡ keys_added xs ++ keys_added ys
keys_append [] ys = refl
keys_append (x ∷ xs) ys = ap (λ keys. x.key ∷ keys) (keys_append xs ys)

-- ---- the answer of a put

pub ok_same : (r : Result Put StoreFault) (a b : Put) → r ≡ Ok a → r ≡ Ok b → a ≡ b
ok_same r a b e f = cc

-- ---- one key

inserted : (index : Index) (key : Key) (size : ℕ) (k : Key) → is_some (map.get (map.insert index key size) k) ≡ (is_some (map.get index k) || is_in (key ∷ []) k)
inserted index key size k = ap is_some (map.get-insert key_cmp_total index key size k) ∙ by (same_key k key) (map.get index k)
  where
    by : (b : Bool) (o : Option ℕ) → is_some (cond b (Some size) o) ≡ (is_some o || (b || false))
    by true None = refl
    by true (Some n) = refl
    by false None = refl
    by false (Some n) = refl

-- the answer of a store to a put, as a reply
abbrev pub put_reply : Result Put StoreFault → Reply
put_reply (Ok New) = reply.Stored true
put_reply (Ok Same) = reply.Stored false
put_reply (Err fault) = reply.Refused (store_refusal fault)

pub holds_put : {S : Type 0} (contents : S → Option Contents) (old new : StoreView S) (key : Key) (bytes : List ℕ) (result : Result Put StoreFault)
    → PutChanges contents old new key bytes result → ((put : Put) → result ≡ Ok put → put ≡ (if is_some (map.get old.index key) then Same else New))
    → HoldsPut key (put_reply result) old.index new.index
holds_put contents old new key bytes (Ok New) made told =
    (absent (is_some (map.get old.index key)) refl, λ k. ap (λ (i : Index). is_some (map.get i k)) made.index ∙ inserted old.index key (length bytes) k)
  where
    absent : (b : Bool) → is_some (map.get old.index key) ≡ b → is_some (map.get old.index key) ≡ false
    absent true is = let e : New ≡ Same = told New refl ∙ ap (λ c. if c then Same else New) is in cc
    absent false is = is
holds_put contents old new key bytes (Ok Same) kept told = (there (is_some (map.get old.index key)) refl, kept.index)
  where
    there : (b : Bool) → is_some (map.get old.index key) ≡ b → is_some (map.get old.index key) ≡ true
    there true is = is
    there false is = let e : Same ≡ New = told Same refl ∙ ap (λ c. if c then Same else New) is in cc
holds_put contents old new key bytes (Err Shelf) may told = may.index
holds_put contents old new key bytes (Err (Taken id)) kept told = kept.index
holds_put contents old new key bytes (Err (Wrong id)) kept told = kept.index
holds_put contents old new key bytes (Err (Damaged want got)) kept told = kept.index
holds_put contents old new key bytes (Err NoMemory) kept told = kept.index

-- ---- several

more_itself : (keys : List Key) (index : Index) → HoldsMore keys index index
more_itself keys index = record { stays = λ key is. is; came = λ key is not. absurd (true≢false (sym is ∙ not)) }

-- one put, of a plan
pub holds_one : {S : Type 0} (contents : S → Option Contents) (old new : StoreView S) (x : Stored) (bytes : List ℕ) (result : Result Put StoreFault)
    → PutChanges contents old new x.key bytes result → ((put : Put) → result ≡ Ok put → put ≡ (if is_some (map.get old.index x.key) then Same else New))
    → HoldsMore (keys_added (x ∷ [])) old.index new.index
holds_one contents old new x bytes result changes told = by result (holds_put contents old new x.key bytes result changes told)
  where
    right : (a c : Bool) → (a || c) ≡ true → a ≡ false → c ≡ true
    right true c e not = absurd (true≢false not)
    right false c e not = e

    by : (r : Result Put StoreFault) → HoldsPut x.key (put_reply r) old.index new.index → HoldsMore (x.key ∷ []) old.index new.index
    by (Ok New) (absent, holds) = record {
      stays = λ key is. holds key ∙ or_left (is_some (map.get old.index key)) (is_in (x.key ∷ []) key) is;
      came = λ key is not. right (is_some (map.get old.index key)) (is_in (x.key ∷ []) key) (sym (holds key) ∙ is) not;
    }
    by (Ok Same) (there, same) = subst (HoldsMore (x.key ∷ []) old.index) (sym same) (more_itself (x.key ∷ []) old.index)
    by (Err fault) same = subst (HoldsMore (x.key ∷ []) old.index) (sym same) (more_itself (x.key ∷ []) old.index)

pub knows_one : {S : Type 0} (contents : S → Option Contents) (old new : StoreView S) (x : Stored) (bytes : List ℕ) (put : Put)
    → PutChanges contents old new x.key bytes (Ok put) → put ≡ (if is_some (map.get old.index x.key) then Same else New) → KnowsAll (keys_added (x ∷ [])) new.index
knows_one contents old new x bytes put changes told = by put (holds_put contents old new x.key bytes (Ok put) changes (λ other same. sym (ok_same (Ok put) put other refl same) ∙ told))
  where
    only : (key : Key) → is_in (x.key ∷ []) key ≡ true → key ≡ x.key
    only key is = same_key-true key x.key (one (same_key key x.key) is)
      where
        one : (b : Bool) → (b || false) ≡ true → b ≡ true
        one true e = refl
        one false e = e

    by : (p : Put) → HoldsPut x.key (put_reply (Ok p)) old.index new.index → KnowsAll (x.key ∷ []) new.index
    by New (absent, holds) = record { each = λ key among. holds key ∙ or_right (is_some (map.get old.index key)) (is_in (x.key ∷ []) key) among }
    by Same (known, same) = record {
      each = λ key among.
          ap (λ (i : Index). is_some (map.get i key)) same ∙ subst (λ k. is_some (map.get old.index k) ≡ true) (sym (only key among)) known;
    }

pub more_then : (a b : List Stored) (i j k : Index) → HoldsMore (keys_added a) i j → HoldsMore (keys_added b) j k → HoldsMore (keys_added (a ++ b)) i k
more_then a b i j k first second = record {
  stays = λ key is. second.stays key (first.stays key is);
  came = λ key is not. subst (λ keys. is_in keys key ≡ true) (sym (keys_append a b)) (in_append (keys_added a) (keys_added b) key ∙ by key is not (is_some (map.get j key)) refl);
}
  where
    by : (key : Key) → is_some (map.get k key) ≡ true → is_some (map.get i key) ≡ false → (c : Bool) → is_some (map.get j key) ≡ c → (is_in (keys_added a) key || is_in (keys_added b) key) ≡ true
    by key is not true there = or_left (is_in (keys_added a) key) (is_in (keys_added b) key) (first.came key there not)
    by key is not false absent = or_right (is_in (keys_added a) key) (is_in (keys_added b) key) (second.came key is absent)

-- fewer were put than these
pub more_stops : (a b : List Stored) (i j : Index) → HoldsMore (keys_added a) i j → HoldsMore (keys_added (a ++ b)) i j
more_stops a b i j first = more_then a b i j j first (more_itself (keys_added b) j)

pub more_nothing : (index : Index) → HoldsMore (keys_added []) index index
more_nothing index = more_itself (keys_added []) index

pub knows_then : (a b : List Stored) (j k : Index) → KnowsAll (keys_added a) j → HoldsMore (keys_added b) j k → KnowsAll (keys_added b) k → KnowsAll (keys_added (a ++ b)) k
knows_then a b j k first more second = record { each = λ key is. by key (is_in (keys_added a) key) refl (sym (in_append (keys_added a) (keys_added b) key) ∙ subst (λ keys. is_in keys key ≡ true) (keys_append a b) is) }
  where
    by : (key : Key) (c : Bool) → is_in (keys_added a) key ≡ c → (is_in (keys_added a) key || is_in (keys_added b) key) ≡ true → is_some (map.get k key) ≡ true
    by key true here either = more.stays key (first.each key here)
    by key false elsewhere either = second.each key (ap (λ c. c || is_in (keys_added b) key) (sym elsewhere) ∙ either)

pub knows_nothing : (index : Index) → KnowsAll (keys_added []) index
knows_nothing index = record { each = λ key is. absurd (true≢false (sym is)) }

-- ---- the index after a call

-- a refusal that touches nothing leaves it
pub index_refused : (a : Act) (why : Refusal) (index : Index) → IndexSo a (reply.Refused why) index index
index_refused (act.Check o) why index = refl
index_refused act.Head why index = refl
index_refused (act.Get key) why index = refl
index_refused (act.Put key bytes) why index = refl
index_refused (act.Missing k ids) why index = refl
index_refused (act.Update pushed) why index = λ key there. there
index_refused (act.Limit days) why index = refl
index_refused (act.Ids server client) why index = refl
