-- What a sync had for what an upload names: for what was asked for alone, bytes that are known by its key. The key lemmas are
-- is_had, has_in, asked_names and put_names.
use Rattle.std.proofs.Common.{◌≡◌, inl, inr, ℕ, Bool, true, false, List, [], ◌∷◌, ◌++◌, map, None, Some, if◌then◌else◌, refl, sym, ap, ap₂, ◌∙◌, subst, arith}
use Rattle.std.specs.FinMap as fin
use Rattle.std.specs.List.{AllByRecursion, Contains, cons_option, filter_map, flat_map}
use Rattle.sha1.specs.Sha1.{sha1}
use Rattle.ids.specs.Key.{Objects}
use Rattle.ids.specs.declared.key.Key.{Key}
use Rattle.ids.specs.declared.key.Kind.{Kind}
use Rattle.ids.proofs.BasicLemmas.{contains_more}
use Rattle.tree_model.proofs.MovingLemmas.{In}
use Rattle.http_front.specs.declared.order.Order.{Order}
use Rattle.http_front.specs.declared.order.What.{What}
use Rattle.http_front.specs.declared.order.What.TheVariants as what
use Rattle.http_front.specs.declared.row.Row.{Row}
use Rattle.remote_calls.specs.Sends.{Ending, Sent}
use Rattle.sync_rules.specs.Named.{HasAll, IsHad, IsHadFor, Named, got_by, has_name, if_named, named_by, names_in, row_named}
use Rattle.tree_push.specs.Asking.{ArePuts, AsksIds, is_put, key_of, order_for}
use Rattle.tree_push.specs.declared.asking.Library.{Library}
use Rattle.tree_push.proofs.TraceLemmas.{all_append}

pub contains_in : {X : Type 0} (x : X) (xs : List X) → In x xs → Contains xs x
contains_in x [] there = absurd there
contains_in {X = X} x (y ∷ xs) (inl is) = subst (λ (z : X). Contains (z ∷ xs) x) is (0, omega arith, refl)
contains_in x (y ∷ xs) (inr there) = contains_more y x xs (contains_in x xs there)

pub in_later : {X : Type 0} (x : X) (xs ys : List X) → In x ys → In x (xs ++ ys)
in_later x [] ys there = there
in_later x (y ∷ xs) ys there = inr (in_later x xs ys there)

pub in_first : {X : Type 0} (x : X) (xs ys : List X) → In x xs → In x (xs ++ ys)
in_first x [] ys there = absurd there
in_first x (y ∷ xs) ys (inl is) = inl is
in_first x (y ∷ xs) ys (inr there) = inr (in_first x xs ys there)

pub in_map : {X Y : Type 0} (f : X → Y) (x : X) (xs : List X) → In x xs → In (f x) (map f xs)
in_map f x [] there = absurd there
in_map f x (y ∷ xs) (inl is) = inl (ap f is)
in_map f x (y ∷ xs) (inr there) = inr (in_map f x xs there)

module _ (bytes_of : Key → List ℕ) where
  abbrev pub had_for : Named → Key × List ℕ
  had_for (key, None) = (key, bytes_of key)
  had_for (key, Some bytes) = (key, bytes)

  -- what is named alone is the name of the bytes that are known for it
  abbrev pub IsKnownName : Named → Type 0
  IsKnownName (key, None) = sha1 (bytes_of key) ≡ key.id
  IsKnownName (key, Some bytes) = Unit {0}

  abbrev pub had_of : List Sent → List (Key × List ℕ)
  had_of more = map had_for (flat_map names_in more)

  had_each : (names : List Named) → AllByRecursion IsKnownName names → IsHadFor names (map had_for names)
  had_each [] are = tt
  had_each ((key, None) ∷ names) are = ((refl, are.0), had_each names are.1)
  had_each ((key, Some bytes) ∷ names) are = (refl, had_each names are.1)

  pub is_had : (more : List Sent) → AllByRecursion IsKnownName (flat_map names_in more) → IsHad more (had_of more)
  is_had more are = had_each (flat_map names_in more) are

  pub has_in : (objects : Objects) (names : List Named) (n : Named) → HasAll objects (map had_for names) → In n names → fin.get objects (had_for n).0 ≡ Some (had_for n).1
  has_in objects [] n has there = absurd there
  has_in objects (m ∷ names) n has (inl is) = subst (λ (k : Named). fin.get objects (had_for k).0 ≡ Some (had_for k).1) (sym is) has.0
  has_in objects (m ∷ names) n has (inr there) = has_in objects names n has.1 there

  -- ---- objects that are put

  some_known : (names : List Named) → AllByRecursion IsKnownName names → AllByRecursion IsKnownName (filter_map if_named names)
  some_known [] are = tt
  some_known ((key, None) ∷ names) are = (are.0, some_known names are.1)
  some_known ((key, Some bytes) ∷ names) are = by (has_name key bytes) (some_known names are.1)
    where
      by : (b : Bool) → AllByRecursion IsKnownName (filter_map if_named names)
          → AllByRecursion IsKnownName (cons_option (if b then Some (key, Some bytes) else None) (filter_map if_named names))
      by true more = (tt, more)
      by false more = more

  rows_known : (rows : List Row) → AllByRecursion IsKnownName (map row_named rows ++ [])
  rows_known [] = tt
  rows_known (row ∷ rows) = (tt, rows_known rows)

  put_known : (order : Order) (ending : Ending) → is_put order.what ≡ true → AllByRecursion IsKnownName (named_by order.what ++ got_by order.what ending)
  put_known order ending puts = by order.what puts
    where
      by : (asked : What) → is_put asked ≡ true → AllByRecursion IsKnownName (named_by asked ++ got_by asked ending)
      by (what.Put key bytes) is = (tt, tt)
      by (what.PutFs rows) is = rows_known rows
      by other is = absurd (cc)

  pub put_names : (more : List Sent) → ArePuts more → AllByRecursion IsKnownName (flat_map names_in more)
  put_names [] are = tt
  put_names ((order, ending) ∷ more) are =
      all_append IsKnownName (names_in (order, ending)) (flat_map names_in more) (some_known (named_by order.what ++ got_by order.what ending) (put_known order ending are.0)) (put_names more are.1)

  -- ---- ids that are asked for

  pub ids_known : (kind : Kind) (ids : List (List ℕ)) → AllByRecursion (λ id. sha1 (bytes_of (key_of kind id)) ≡ id) ids
      → AllByRecursion IsKnownName (map (λ id. (key_of kind id, None)) ids)
  ids_known kind [] are = tt
  ids_known kind (id ∷ ids) are = (are.0, ids_known kind ids are.1)

abbrev pub named_alone : Kind → List ℕ → Named
named_alone kind id = (key_of kind id, None)

names_alone : (kind : Kind) (ids : List (List ℕ)) → filter_map if_named (map (named_alone kind) ids ++ []) ≡ map (named_alone kind) ids
names_alone kind [] = refl
names_alone kind (id ∷ ids) = ap (λ (names : List Named). named_alone kind id ∷ names) (names_alone kind ids)

map_append : (kind : Kind) (xs ys : List (List ℕ)) → map (named_alone kind) xs ++ map (named_alone kind) ys ≡ map (named_alone kind) (xs ++ ys)
map_append kind [] ys = refl
map_append kind (x ∷ xs) ys = ap (λ (names : List Named). named_alone kind x ∷ names) (map_append kind xs ys)

list_names : (library : Library) (kind : Kind) (ids : List (List ℕ)) (order : Order) (ending : Ending) → order ≡ order_for library (what.Missing kind ids)
    → names_in (order, ending) ≡ map (named_alone kind) ids
list_names library kind ids order ending is = ap (λ (o : Order). names_in (o, ending)) is ∙ names_alone kind ids

pub asked_names : (library : Library) (kind : Kind) (ids : List (List ℕ)) (more : List Sent) → AsksIds library kind ids more → flat_map names_in more ≡ map (named_alone kind) ids
asked_names library kind ids [] none = ap (map (named_alone kind)) (sym none)
asked_names library kind ids ((order, ending) ∷ more) asks =
    ap₂ (λ (a b : List Named). a ++ b) (list_names library kind asks.0 order ending asks.3.asked) (asked_names library kind asks.1 more asks.4)
    ∙ map_append kind asks.0 asks.1 ∙ ap (map (named_alone kind)) (sym asks.2)
