-- Counts of paths add up. The key lemmas are paths_by_name, paths_at and paths_of_root.
use Rattle.std.proofs.Common.{◌≡◌, ◌≢◌, ℕ, ◌+◌, ◌&&◌, ◌||◌, Bool, true, false, cond, T, List, [], ◌∷◌, ◌++◌, length, map as map_list, nat_eq, refl, sym, ap, ap₂, ◌∙◌, subst, arith, IsSome, is_some, Some, None, Option, true≢false}
use Rattle.std.specs.List.{AllByRecursion, sum_by, list_any, IsDistinct}
use Rattle.std.specs.Str.{bytes_eq}
use Rattle.std.specs.Ordering.{is_lt}
use Rattle.std.specs.Cmp.Lexicographic.{pointwise, bytes_decides}
use Rattle.std.specs.FinMap as map
use Rattle.std.specs.FinMap.Entries.{below_all}
use Rattle.std.proofs.lemmas.List.Recursion.{is_sum_by}
use Rattle.std.proofs.lemmas.Map.Keys.{IsDistinct-head, IsDistinct-tail}
use Rattle.std.proofs.lemmas.Bool.{or_right}
use Rattle.ids.proofs.BasicLemmas.{apart_from_is_lt}
use Rattle.std.proofs.lemmas.List.{length-map}
use Rattle.tree_model.specs.Path.{PathV, path_cmp}
use Rattle.tree_model.specs.declared.node.Node.{Node}
use Rattle.tree_model.specs.Tree.{Tree}
use Rattle.tree_model.specs.DirectorySurvival.{is_under, is_within}
use Rattle.tree_model.specs.PathCounts.{paths_below, paths_within, Covers, CountsAddUp}
use Rattle.tree_model.proofs.BelowLemmas.{name_itself, within_is, under_is, under_of}
use Rattle.tree_model.proofs.SortedEntryLemmas.{left_holds, right_holds}
use Rattle.tree_model.proofs.ListedLemmas.{same_path, same_path-true, same_path-itself, is_in}

-- ---- sums by recursion

unfoldable pub total : {X : Type 0} → (X → ℕ) → List X → ℕ
total f [] = 0
total f (x ∷ xs) = f x + total f xs

pub total_is : {X : Type 0} (f : X → ℕ) (xs : List X) → total f xs ≡ sum_by f xs
unfolding total
total_is f xs = is_sum_by (total f) f refl (λ x xs. refl) xs

pub total_same : {X : Type 0} (f g : X → ℕ) → ((x : X) → f x ≡ g x) → (xs : List X) → total f xs ≡ total g xs
unfolding total
total_same f g same [] = refl
total_same f g same (x ∷ xs) = ap₂ (λ (a b : ℕ). a + b) (same x) (total_same f g same xs)

pub total_zero : {X : Type 0} (f : X → ℕ) → ((x : X) → f x ≡ 0) → (xs : List X) → total f xs ≡ 0
unfolding total
total_zero f none [] = refl
total_zero f none (x ∷ xs) = let one = none x in let more = total_zero f none xs in omega arith

pub total_both : {X : Type 0} (f g : X → ℕ) (xs : List X) → total (λ x. f x + g x) xs ≡ total f xs + total g xs
unfolding total
total_both f g [] = refl
total_both f g (x ∷ xs) = let more = total_both f g xs in omega arith

abbrev pub bit : Bool → ℕ
bit b = cond b 1 0

-- ---- each path below the directory has one of the names

within_name : (d : PathV) (n m : List ℕ) (r : PathV) → is_within (d ++ n ∷ []) (d ++ m ∷ r) ≡ pointwise nat_eq n m
within_name [] n m r = by (pointwise nat_eq n m)
  where
    by : (b : Bool) → (b && true) ≡ b
    by true = refl
    by false = refl
within_name (k ∷ d) n m r = ap (λ b. b && is_within (d ++ n ∷ []) (d ++ m ∷ r)) (name_itself k) ∙ within_name d n m r

-- a path that is not below the directory is within none of its entries
not_within : (d q : PathV) (n : List ℕ) → is_under d q ≡ false → is_within (d ++ n ∷ []) q ≡ false
not_within d q n e = by (is_within (d ++ n ∷ []) q) refl
  where
    under_push : (d rest : PathV) → is_under d ((d ++ n ∷ []) ++ rest) ≡ true
    under_push [] rest = refl
    under_push (k ∷ d) rest = ap (λ b. b && is_under d ((d ++ n ∷ []) ++ rest)) (name_itself k) ∙ under_push d rest

    by : (b : Bool) → is_within (d ++ n ∷ []) q ≡ b → is_within (d ++ n ∷ []) q ≡ false
    by false is = is
    by true is =
        let rest = within_is (d ++ n ∷ []) q is in
        absurd (true≢false (sym (under_push d rest.0) ∙ ap (is_under d) (sym rest.1) ∙ e))

name_apart : (n m : List ℕ) → n ≢ m → pointwise nat_eq n m ≡ false
name_apart n m apart = by (pointwise nat_eq n m) refl
  where
    by : (b : Bool) → pointwise nat_eq n m ≡ b → pointwise nat_eq n m ≡ false
    by true is = absurd (apart ((bytes_decides n m).0 is))
    by false is = is

-- a name that differs from each of the others isn't counted in them
none_is : (m : List ℕ) (ns : List (List ℕ)) → AllByRecursion (λ n. bytes_eq m n ≡ false) ns → total (λ n. bit (pointwise nat_eq n m)) ns ≡ 0
unfolding total
none_is m [] all = refl
none_is m (n ∷ ns) all =
    let apart : n ≢ m = λ e. true≢false (sym (name_itself m) ∙ ap (pointwise nat_eq m) (sym e) ∙ all.0) in
    ap₂ (λ (b : Bool) (k : ℕ). bit b + k) (name_apart n m apart) (none_is m ns all.1)

-- of distinct names that have this one, just one is it
one_is : (m : List ℕ) (ns : List (List ℕ)) → IsDistinct bytes_eq ns → list_any (bytes_eq m) ns ≡ true → total (λ n. bit (pointwise nat_eq n m)) ns ≡ 1
unfolding total
one_is m [] distinct there = cc
one_is m (n ∷ ns) distinct there = by (pointwise nat_eq m n) refl there (one_is m ns (IsDistinct-tail bytes_eq n ns distinct))
  where
    by : (b : Bool) → pointwise nat_eq m n ≡ b → (b || list_any (bytes_eq m) ns) ≡ true → (list_any (bytes_eq m) ns ≡ true → total (λ n. bit (pointwise nat_eq n m)) ns ≡ 1)
        → bit (pointwise nat_eq n m) + total (λ n. bit (pointwise nat_eq n m)) ns ≡ 1
    by true is there more =
        let same : m ≡ n = (bytes_decides m n).0 is in
        let others : AllByRecursion (λ k. bytes_eq m k ≡ false) ns =
        subst (λ (x : List ℕ). AllByRecursion (λ k. bytes_eq x k ≡ false) ns) (sym same) (IsDistinct-head bytes_eq n ns distinct) in
        ap₂ (λ (b : Bool) (k : ℕ). bit b + k) ((bytes_decides n m).1 (sym same)) (none_is m ns others)
    by false is there more =
        let apart : n ≢ m = λ e. true≢false (sym (name_itself m) ∙ ap (pointwise nat_eq m) (sym e) ∙ is) in
        ap₂ (λ (b : Bool) (k : ℕ). bit b + k) (name_apart n m apart) (more there)

has_name : (d q : PathV) (ns : List (List ℕ)) → IsDistinct bytes_eq ns
    → ((n : List ℕ) (rest : PathV) → q ≡ d ++ n ∷ rest → list_any (bytes_eq n) ns ≡ true)
    → bit (is_under d q) ≡ total (λ n. bit (is_within (d ++ n ∷ []) q)) ns
has_name d q ns distinct named = by (is_under d q) refl
  where
    by : (b : Bool) → is_under d q ≡ b → bit b ≡ total (λ n. bit (is_within (d ++ n ∷ []) q)) ns
    by false is = sym (total_zero (λ n. bit (is_within (d ++ n ∷ []) q)) (λ n. ap bit (not_within d q n is)) ns)
    by true is =
        let below = under_is d q is in
        sym (total_same (λ n. bit (is_within (d ++ n ∷ []) q)) (λ n. bit (pointwise nat_eq n below.name))
        (λ n. ap bit (ap (is_within (d ++ n ∷ [])) below.is ∙ within_name d n below.name below.rest)) ns
        ∙ one_is below.name ns distinct (named below.name below.rest below.is))

by_names : (d : PathV) (ns : List (List ℕ)) (qs : List PathV) → IsDistinct bytes_eq ns
    → AllByRecursion (λ q. (n : List ℕ) (rest : PathV) → q ≡ d ++ n ∷ rest → list_any (bytes_eq n) ns ≡ true) qs
    → total (λ q. bit (is_under d q)) qs ≡ total (λ n. total (λ q. bit (is_within (d ++ n ∷ []) q)) qs) ns
unfolding total
by_names d ns [] distinct named = sym (total_zero (λ n. 0) (λ n. refl) ns)
by_names d ns (q ∷ qs) distinct named =
    ap₂ (λ (a b : ℕ). a + b) (has_name d q ns distinct named.0) (by_names d ns qs distinct named.1)
    ∙ sym (total_both (λ n. bit (is_within (d ++ n ∷ []) q)) (λ n. total (λ q. bit (is_within (d ++ n ∷ []) q)) qs) ns)

-- ---- paths of a tree

pub in_sub : (P : PathV → Type 0) (qs : List PathV) → ((q : PathV) → is_in q qs ≡ true → P q) → AllByRecursion P qs
in_sub P [] all = tt
in_sub P (q ∷ qs) all =
    (all q (ap (λ b. b || is_in q qs) (same_path-itself q)), in_sub P qs (λ r there. all r (or_right (same_path r q) (is_in r qs) there)))

-- the paths below a directory are those within its entries
pub paths_by_name : (t : Tree) (d : PathV) (ns : List (List ℕ)) → Covers t d ns → paths_below t d ≡ sum_by (λ n. paths_within t (d ++ n ∷ [])) ns
paths_by_name t d ns covers =
    sym (total_is (λ q. bit (is_under d q)) (map.keys t))
    ∙ by_names d ns (map.keys t) covers.distinct
    (in_sub (λ q. (n : List ℕ) (rest : PathV) → q ≡ d ++ n ∷ rest → list_any (bytes_eq n) ns ≡ true) (map.keys t)
    (λ q there n rest e. covers.each n rest (subst (λ p. IsSome (map.get t p)) e (map.contains_key-keys t q ∙ there))))
    ∙ total_is (λ n. total (λ q. bit (is_within (d ++ n ∷ []) q)) (map.keys t)) ns
    ∙ sums
  where
    sums : sum_by (λ n. total (λ q. bit (is_within (d ++ n ∷ []) q)) (map.keys t)) ns ≡ sum_by (λ n. paths_within t (d ++ n ∷ [])) ns
    sums = ap (λ (f : List ℕ → ℕ). sum_by f ns) (λ i n. total_is (λ q. bit (is_within (d ++ n ∷ []) q)) (map.keys t) i)

-- ---- at a path and below it

within_parts : (p q : PathV) → bit (is_within p q) ≡ bit (same_path p q) + bit (is_under p q)
within_parts p q = by (is_within p q) refl
  where
    under_no_end : (p : PathV) → is_under p p ≡ false
    under_no_end [] = refl
    under_no_end (n ∷ p) = ap (λ b. b && is_under p p) (name_itself n) ∙ under_no_end p

    longer : (p : PathV) (n : List ℕ) (rest : PathV) → p ≢ p ++ n ∷ rest
    longer p n rest e = true≢false (sym (under_of p n rest) ∙ ap (is_under p) (sym e) ∙ under_no_end p)

    apart : (q : PathV) → p ≢ q → same_path p q ≡ false
    apart q other = test (same_path p q) refl
      where
        test : (b : Bool) → same_path p q ≡ b → same_path p q ≡ false
        test true is = absurd (other (same_path-true p q is))
        test false is = is

    append_none : (p : PathV) → p ++ [] ≡ p
    append_none [] = refl
    append_none (n ∷ p) = ap (λ r. n ∷ r) (append_none p)

    within_of_is : (r : PathV) → q ≡ p ++ r → bit true ≡ bit (same_path p q) + bit (is_under p q)
    within_of_is [] e =
        let same : q ≡ p = e ∙ append_none p in
        sym (ap₂ (λ (a b : Bool). bit a + bit b) (ap (same_path p) same ∙ same_path-itself p) (ap (is_under p) same ∙ under_no_end p))
    within_of_is (n ∷ r) e =
        sym (ap₂ (λ (a b : Bool). bit a + bit b) (ap (same_path p) e ∙ apart (p ++ n ∷ r) (longer p n r)) (ap (is_under p) e ∙ under_of p n r))

    by : (b : Bool) → is_within p q ≡ b → bit b ≡ bit (same_path p q) + bit (is_under p q)
    by true is = let rest = within_is p q is in within_of_is rest.0 rest.1
    by false is = sym (ap₂ (λ (a b : Bool). bit a + bit b) (not_same (same_path p q) refl) (not_under (is_under p q) refl))
      where
        within_itself : (p : PathV) → is_within p p ≡ true
        within_itself [] = refl
        within_itself (n ∷ p) = ap (λ b. b && is_within p p) (name_itself n) ∙ within_itself p

        not_same : (b : Bool) → same_path p q ≡ b → same_path p q ≡ false
        not_same true e = absurd (true≢false (sym (within_itself p) ∙ ap (is_within p) (same_path-true p q e) ∙ is))
        not_same false e = e

        within_push : (p : PathV) (n : List ℕ) (r : PathV) → is_within p (p ++ n ∷ r) ≡ true
        within_push [] n r = refl
        within_push (k ∷ p) n r = ap (λ b. b && is_within p (p ++ n ∷ r)) (name_itself k) ∙ within_push p n r

        not_under : (b : Bool) → is_under p q ≡ b → is_under p q ≡ false
        not_under true e =
            let below = under_is p q e in
            absurd (true≢false (sym (within_push p below.name below.rest) ∙ ap (is_within p) (sym below.is) ∙ is))
        not_under false e = e

none_after : {X : Type 0} (p : PathV) (es : List (PathV × X)) → T (below_all path_cmp p es) → total (λ q. bit (same_path p q)) (map_list (λ e. e.0) es) ≡ 0
unfolding total
none_after p [] h = refl
none_after p (e ∷ es) h =
    ap₂ (λ (b : Bool) (k : ℕ). bit b + k) (apart_from_is_lt (path_cmp p e.0) (left_holds (is_lt (path_cmp p e.0)) (below_all path_cmp p es) h))
    (none_after p es (right_holds (is_lt (path_cmp p e.0)) (below_all path_cmp p es) h))

-- a map has each of its paths once
pub once : {X : Type 0} (p : PathV) (es : List (PathV × X)) → T (map.is_sorted path_cmp es) → total (λ q. bit (same_path p q)) (map_list (λ e. e.0) es) ≡ bit (is_some (map.find path_cmp p es))
unfolding total
once p [] h = refl
once {X} p (e ∷ es) h = by (same_path p e.0) refl (once p es (right_holds (below_all path_cmp e.0 es) (map.is_sorted path_cmp es) h))
  where
    by : (b : Bool) → same_path p e.0 ≡ b → total (λ q. bit (same_path p q)) (map_list (λ e. e.0) es) ≡ bit (is_some (map.find path_cmp p es))
        → bit b + total (λ q. bit (same_path p q)) (map_list (λ e. e.0) es) ≡ bit (is_some (cond b (Some e.1) (map.find path_cmp p es)))
    by true is more =
        let none = none_after p es (subst (λ q. T (below_all path_cmp q es)) (sym (same_path-true p e.0 is)) (left_holds (below_all path_cmp e.0 es) (map.is_sorted path_cmp es) h)) in
        ap (λ (k : ℕ). 1 + k) none
    by false is more = let zero_more : 0 + total (λ q. bit (same_path p q)) (map_list (λ e. e.0) es) ≡ total (λ q. bit (same_path p q)) (map_list (λ e. e.0) es) = omega arith in zero_more ∙ more

within_sum : (p : PathV) (qs : List PathV) → total (λ q. bit (is_within p q)) qs ≡ total (λ q. bit (same_path p q)) qs + total (λ q. bit (is_under p q)) qs
within_sum p qs =
    total_same (λ q. bit (is_within p q)) (λ q. bit (same_path p q) + bit (is_under p q)) (within_parts p) qs
    ∙ total_both (λ q. bit (same_path p q)) (λ q. bit (is_under p q)) qs

-- a path counts itself and what is below it
pub paths_at : (t : Tree) (p : PathV) → paths_within t p ≡ cond (is_some (map.get t p)) 1 0 + paths_below t p
paths_at t p =
    sym (total_is (λ q. bit (is_within p q)) (map.keys t))
    ∙ within_sum p (map.keys t)
    ∙ ap₂ (λ (a b : ℕ). a + b)
    (once p (map.entries t) (map.entries_sorted t) ∙ ap (λ (o : Option Node). bit (is_some o)) (sym (map.get-entries t p)))
    (total_is (λ q. bit (is_under p q)) (map.keys t))

pub all_counted : {X : Type 0} (xs : List X) → total (λ x. 1) xs ≡ length xs
unfolding total
all_counted [] = refl
all_counted (x ∷ xs) = let more = all_counted xs in omega arith

-- a tree has as many paths as are below its root
pub paths_of_root : (t : Tree) → map.get t [] ≡ None → paths_below t [] ≡ map.len t
paths_of_root t none =
    let at : paths_within t [] ≡ 0 + paths_below t [] = paths_at t [] ∙ ap (λ (o : Option Node). bit (is_some o) + paths_below t []) none in
    let all : paths_within t [] ≡ map.len t =
    sym (total_is (λ q. bit (is_within [] q)) (map.keys t)) ∙ all_counted (map.keys t) ∙ length-map (map.entries t) (λ e. e.0) ∙ sym (map.len-entries t) in
    omega arith

pub counts_add_up : (t : Tree) → map.get t [] ≡ None → CountsAddUp t
counts_add_up t none = record { by_name = paths_by_name t; at = paths_at t; whole = paths_of_root t none }
