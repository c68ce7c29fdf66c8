-- What maps by key do beside one another. The key lemmas are put_back, get-indexed and len-alike.
use Rattle.std.proofs.Common.{◌≡◌, Bool, true, false, cond, ◌&&◌, List, [], ◌∷◌, length, Option, None, Some, is_some, suc, refl, sym, ap, subst, ◌∙◌}
use Rattle.std.specs.Prelude.{T, option_map}
use Rattle.std.specs.Cmp.{Equal-is}
use Rattle.std.specs.FinMap as map
use Rattle.std.specs.FinMap.Entries.{below_all}
use Rattle.std.specs.Ordering.{is_eq, is_lt, eq_by_cmp}
use Rattle.ids.specs.Key.{key_cmp}
use Rattle.ids.specs.declared.key.Key.{Key}
use Rattle.ids.proofs.KeyOrderLemmas.{key_cmp_total, key_cmp_exact}

-- keys that tie are one
pub tied_key : (q k : Key) → eq_by_cmp key_cmp q k ≡ true → q ≡ k
tied_key q k e = key_cmp_exact q k ((Equal-is (key_cmp q k)).0 e)

module _ {X : Type 0} where
  -- a key that ties with another has its value
  pub get-tied : (m : map.FinMap key_cmp X) (q k : Key) → eq_by_cmp key_cmp q k ≡ true → map.get m k ≡ map.get m q
  get-tied m q k e = map.get_tied key_cmp_total m q k ((Equal-is (key_cmp q k)).0 e)

  back : (b : Bool) (v : X) (x : Option X) → (b ≡ true → None ≡ x) → cond b None (cond b (Some v) x) ≡ x
  back true v x e = e refl
  back false v x e = refl

  -- what was put and taken out again leaves the map as it was
  pub put_back : (m : map.FinMap key_cmp X) (k : Key) (v : X) → map.get m k ≡ None → map.remove (map.insert m k v) k ≡ m
  put_back m k v absent = map.same_map key_cmp_total key_cmp_exact _ m (λ q.
      map.get-remove key_cmp_total (map.insert m k v) k q ∙ ap (cond (eq_by_cmp key_cmp q k) None) (map.get-insert key_cmp_total m k v q)
      ∙ back (eq_by_cmp key_cmp q k) v (map.get m q) (λ e. sym absent ∙ get-tied m q k e))

-- what a map retains of the keys of another
pub get-retained : {X Y : Type 0} (m : map.FinMap key_cmp X) (n : map.FinMap key_cmp Y) (q : Key)
    → map.get (map.retain_keys m (λ k. is_some (map.get n k))) q ≡ cond (is_some (map.get n q)) (map.get m q) None
get-retained m n q = map.get-retain_keys m (λ k. is_some (map.get n k)) q (λ k t. ap is_some (map.get_tied key_cmp_total n q k t))

-- a map's entries with other values, which have the same keys
with_values : {X Y : Type 0} → (Y → X) → List (Key × Y) → List (Key × X)
with_values f [] = []
with_values f (e ∷ es) = (e.0, f e.1) ∷ with_values f es

module _ {X Y : Type 0} (f : Y → X) where
  found_again : (b : Bool) (y : Y) (o : Option Y) (x : Option X) → x ≡ option_map f o → cond b (Some (f y)) x ≡ option_map f (cond b (Some y) o)
  found_again true y o x e = refl
  found_again false y o x e = e

  find-with_values : (q : Key) (es : List (Key × Y)) → map.find key_cmp q (with_values f es) ≡ option_map f (map.find key_cmp q es)
  unfolding with_values
  find-with_values q [] = refl
  find-with_values q (e ∷ es) = found_again (is_eq (key_cmp q e.0)) e.1 (map.find key_cmp q es) _ (find-with_values q es)

  length-with_values : (es : List (Key × Y)) → length (with_values f es) ≡ length es
  unfolding with_values
  length-with_values [] = refl
  length-with_values (e ∷ es) = ap suc (length-with_values es)

  below-with_values : (k : Key) (es : List (Key × Y)) → below_all {X = X} key_cmp k (with_values f es) ≡ below_all {X = Y} key_cmp k es
  unfolding with_values
  below-with_values k [] = refl
  below-with_values k (e ∷ es) = ap (λ b. is_lt (key_cmp k e.0) && b) (below-with_values k es)

  sorted-with_values : (es : List (Key × Y)) → map.is_sorted key_cmp (with_values f es) ≡ map.is_sorted key_cmp es
  unfolding with_values
  sorted-with_values [] = refl
  sorted-with_values (e ∷ es) = λ i. below-with_values e.0 es i && sorted-with_values es i

  -- maps with the same keys are as long
  pub len-alike : (m : map.FinMap key_cmp X) (n : map.FinMap key_cmp Y) → ((q : Key) → map.get m q ≡ option_map f (map.get n q)) → map.len m ≡ map.len n
  len-alike m n alike =
      let es = with_values f (map.entries n) in
      let sorted : T (map.is_sorted key_cmp es) = subst T (sym (sorted-with_values (map.entries n))) (map.entries_sorted n) in
      let same : m ≡ map.from_sorted {R = key_cmp} es = map.same_map key_cmp_total key_cmp_exact m (map.from_sorted es) (λ q.
      alike q ∙ ap (option_map f) (map.get-entries n q) ∙ sym (find-with_values q (map.entries n)) ∙ sym (map.get-from_sorted key_cmp es q sorted)) in
      ap map.len same ∙ map.len-entries (map.from_sorted {R = key_cmp} es) ∙ ap length (map.entries-from_sorted key_cmp es sorted)
      ∙ length-with_values (map.entries n) ∙ sym (map.len-entries n)
