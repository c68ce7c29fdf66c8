-- The ids of a table's keys. The key lemmas are listed_key and key_listed.
use Rattle.std.proofs.Common.{◌≡◌, inl, inr, ℕ, Bool, true, false, cond, List, [], ◌∷◌, Option, Some, IsSome, is_some, refl, sym, ap, ◌∙◌, subst, Less}
use Rattle.std.proofs.Math.Dec.{T}
use Rattle.std.specs.FinMap as fin
use Rattle.std.specs.FinMap.Entries.{below_all}
use Rattle.std.specs.Ordering.{is_eq, is_lt, ordering_reverse}
use Rattle.ids.specs.Key.{key_cmp}
use Rattle.ids.specs.declared.key.Key.{Key}
use Rattle.ids.proofs.BasicLemmas.{both_from_T, less_from_is_lt}
use Rattle.ids.proofs.KeyOrderLemmas.{key_cmp_total}
use Rattle.tree_model.proofs.MovingLemmas.{In}
use Rattle.object_graph.proofs.KeyLemmas.{same_key, same_key-itself, same_key-true}
use Rattle.tree_push.specs.Wanted.{IsIn, ids_in}

module _ {V : Type 0} where
  below_in : (k : Key) (es : List (Key × V)) (e : Key × V) → T (below_all key_cmp k es) → In e es → key_cmp k e.0 ≡ Less
  below_in k [] e below there = absurd there
  below_in k (f ∷ es) e below (inl is) =
      subst (λ (g : Key × V). key_cmp k g.0 ≡ Less) (sym is) (less_from_is_lt (key_cmp k f.0) (both_from_T (is_lt (key_cmp k f.0)) (below_all key_cmp k es) below).0)
  below_in k (f ∷ es) e below (inr there) = below_in k es e (both_from_T (is_lt (key_cmp k f.0)) (below_all key_cmp k es) below).1 there

  found_key : (es : List (Key × V)) (e : Key × V) → T (fin.is_sorted key_cmp es) → In e es → fin.find key_cmp e.0 es ≡ Some e.1
  found_key [] e sorted there = absurd there
  found_key (f ∷ es) e sorted (inl is) =
      subst (λ (g : Key × V). fin.find key_cmp g.0 (f ∷ es) ≡ Some g.1) (sym is) (ap (λ b. cond b (Some f.1) (fin.find key_cmp f.0 es)) (same_key-itself f.0))
  found_key (f ∷ es) e sorted (inr there) =
      let parts = both_from_T (below_all key_cmp f.0 es) (fin.is_sorted key_cmp es) sorted in
      let apart : same_key e.0 f.0 ≡ false = ap is_eq (key_cmp_total.antisymm e.0 f.0 ∙ ap ordering_reverse (below_in f.0 es e parts.0 there)) in
      ap (λ b. cond b (Some f.1) (fin.find key_cmp e.0 es)) apart ∙ found_key es e parts.1 there

  -- an entry of the id
  record IsEntryOf (es : List (Key × V)) (id : List ℕ) : Type 0 where
    entry : Key × V
    there : In entry es
    is : entry.0.id ≡ id

  entry_of : (es : List (Key × V)) (id : List ℕ) → IsIn id (ids_in es) → IsEntryOf es id
  entry_of [] id there = absurd there
  entry_of (e ∷ es) id (inl is) = record { entry = e; there = inl refl; is = sym is }
  entry_of (e ∷ es) id (inr there) = let more = entry_of es id there in record { entry = more.entry; there = inr more.there; is = more.is }

  -- a key of the table
  pub record IsKeyOf (table : fin.FinMap key_cmp V) (id : List ℕ) : Type 0 where
    pub key : Key
    pub there : IsSome (fin.get table key)
    pub is : key.id ≡ id

  pub entry_there : (table : fin.FinMap key_cmp V) (e : Key × V) → In e (fin.entries table) → fin.get table e.0 ≡ Some e.1
  entry_there table e there = fin.get-entries table e.0 ∙ found_key (fin.entries table) e (fin.entries_sorted table) there

  pub listed_key : (table : fin.FinMap key_cmp V) (id : List ℕ) → IsIn id (ids_in (fin.entries table)) → IsKeyOf table id
  listed_key table id there =
      let one = entry_of (fin.entries table) id there in
      record {
        key = one.entry.0;
        there = ap is_some (fin.get-entries table one.entry.0 ∙ found_key (fin.entries table) one.entry (fin.entries_sorted table) one.there);
        is = one.is;
      }

  in_ids : (es : List (Key × V)) (key : Key) → IsSome (fin.find key_cmp key es) → IsIn key.id (ids_in es)
  in_ids [] key there = absurd (cc)
  in_ids (e ∷ es) key there = by (same_key key e.0) refl there (in_ids es key)
    where
      by : (b : Bool) → same_key key e.0 ≡ b → IsSome (cond (same_key key e.0) (Some e.1) (fin.find key_cmp key es)) → (IsSome (fin.find key_cmp key es) → IsIn key.id (ids_in es))
          → IsIn key.id (ids_in (e ∷ es))
      by true same some more = inl (ap (λ (k : Key). k.id) (same_key-true key e.0 same))
      by false apart some more = inr (more (subst (λ (b : Bool). IsSome (cond b (Some e.1) (fin.find key_cmp key es))) apart some))

  pub key_listed : (table : fin.FinMap key_cmp V) (key : Key) → IsSome (fin.get table key) → IsIn key.id (ids_in (fin.entries table))
  key_listed table key there = in_ids (fin.entries table) key (subst (λ (o : Option V). IsSome o) (fin.get-entries table key) there)
