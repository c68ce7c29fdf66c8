-- Counts of the paths of a tree, by what is shown of it and by lists of paths. The key lemmas are shown_and_below and listed_below.
use Rattle.std.proofs.Common.{◌≡◌, ◌≢◌, ℕ, ◌+◌, ◌||◌, Bool, true, false, List, [], ◌∷◌, ◌++◌, length, refl, sym, ap, ap₂, ◌∙◌, subst, arith, IsSome, is_some, None, Option, true≢false}
use Rattle.std.specs.Prelude.{⊤}
use Rattle.std.specs.List.{AllByRecursion, sum_by, list_any}
use Rattle.std.specs.FinMap as map
use Rattle.std.proofs.lemmas.List.{append_cancel_left, length-map}
use Rattle.tree_model.specs.Path.{PathV}
use Rattle.tree_model.specs.declared.node.Node.{Node}
use Rattle.tree_model.specs.Tree.{Tree}
use Rattle.tree_model.specs.DirectorySurvival.{is_under}
use Rattle.tree_model.specs.PathCounts.{paths_below}
use Rattle.tree_model.proofs.BelowLemmas.{under_is, under_of}
use Rattle.tree_model.proofs.ListedLemmas.{same_path, same_path-true, same_path-itself, is_in}
use Rattle.tree_model.proofs.PathCountLemmas.{all_counted, bit, in_sub, once, total, total_both, total_is, total_same, total_zero}

-- ---- a tree and what of it is shown

total_among : {X : Type 0} (f g : X → ℕ) (xs : List X) → AllByRecursion (λ x. f x ≡ g x) xs → total f xs ≡ total g xs
unfolding total
total_among f g [] all = refl
total_among f g (x ∷ xs) all = ap₂ (λ (a b : ℕ). a + b) all.0 (total_among f g xs all.1)

total_swap : {X Y : Type 0} (f : X → Y → ℕ) (xs : List X) (ys : List Y) → total (λ x. total (f x) ys) xs ≡ total (λ y. total (λ x. f x y) xs) ys
unfolding total
total_swap f [] ys = sym (total_zero (λ y. 0) (λ y. refl) ys)
total_swap f (x ∷ xs) ys = ap (λ (k : ℕ). total (f x) ys + k) (total_swap f xs ys) ∙ sym (total_both (f x) (λ y. total (λ x. f x y) xs) ys)

keys_once : (t : Tree) (p : PathV) → total (λ q. bit (same_path p q)) (map.keys t) ≡ bit (is_some (map.get t p))
keys_once t p = once p (map.entries t) (map.entries_sorted t) ∙ ap (λ (o : Option Node). bit (is_some o)) (sym (map.get-entries t p))

some_of_key : (t : Tree) (q : PathV) → is_in q (map.keys t) ≡ true → is_some (map.get t q) ≡ true
some_of_key t q there = map.contains_key-keys t q ∙ there

pub same_turned : (p q : PathV) → same_path p q ≡ same_path q p
same_turned p q = by (same_path p q) refl (same_path q p) refl
  where
    by : (a : Bool) → same_path p q ≡ a → (b : Bool) → same_path q p ≡ b → a ≡ b
    by true e true f = refl
    by false e false f = refl
    by true e false f = absurd (true≢false (sym (ap (same_path q) (same_path-true p q e) ∙ same_path-itself q) ∙ f))
    by false e true f = absurd (true≢false (sym (ap (same_path p) (same_path-true q p f) ∙ same_path-itself p) ∙ e))

keys_all : (t : Tree) → total (λ q. 1) (map.keys t) ≡ map.len t
keys_all t = all_counted (map.keys t) ∙ length-map (map.entries t) (λ e. e.0) ∙ sym (map.len-entries t)

-- directories of which none is below another
abbrev pub AreApart : List PathV → Type 0
AreApart [] = ⊤
AreApart (e ∷ es) = AllByRecursion (λ f. (q : PathV) → is_under e q ≡ true → is_under f q ≡ false) es × AreApart es

-- whether a path is below one of them
abbrev pub is_below_any : List PathV → PathV → Bool
is_below_any es q = list_any (λ e. is_under e q) es

none_under : (q : PathV) (e : PathV) (es : List PathV) → AllByRecursion (λ f. (q : PathV) → is_under e q ≡ true → is_under f q ≡ false) es → is_under e q ≡ true
    → total (λ f. bit (is_under f q)) es ≡ 0
unfolding total
none_under q e [] all is = refl
none_under q e (f ∷ es) all is = ap₂ (λ (b : Bool) (k : ℕ). bit b + k) (all.0 q is) (none_under q e es all.1 is)

under_count : (q : PathV) (es : List PathV) → AreApart es → total (λ e. bit (is_under e q)) es ≡ bit (is_below_any es q)
unfolding total
under_count q [] apart = refl
under_count q (e ∷ es) apart = by (is_under e q) refl (under_count q es apart.1)
  where
    by : (b : Bool) → is_under e q ≡ b → total (λ f. bit (is_under f q)) es ≡ bit (is_below_any es q) → bit b + total (λ f. bit (is_under f q)) es ≡ bit (b || is_below_any es q)
    by true is more = ap (λ (k : ℕ). 1 + k) (none_under q e es apart.0 is)
    by false is more = let one : 0 + total (λ f. bit (is_under f q)) es ≡ total (λ f. bit (is_under f q)) es = omega arith in one ∙ more

-- what is shown of a tree, and what lies below some directories of it, are all its paths
module _ (t u : Tree) (shown : PathV → Bool) (es : List PathV) (same : (q : PathV) → shown q ≡ true → map.get u q ≡ map.get t q) (none : (q : PathV) → shown q ≡ false → map.get u q ≡ None)
    (covered : (q : PathV) → shown q ≡ false → IsSome (map.get t q) → is_below_any es q ≡ true) (hides : (q : PathV) → is_below_any es q ≡ true → shown q ≡ false) (apart : AreApart es) where
  some_shown : (q : PathV) → is_some (map.get t q) ≡ true → bit (shown q) ≡ bit (is_some (map.get u q))
  some_shown q some = by (shown q) refl
    where
      by : (b : Bool) → shown q ≡ b → bit b ≡ bit (is_some (map.get u q))
      by true is = sym (ap bit (ap is_some (same q is) ∙ some))
      by false is = sym (ap (λ (o : Option Node). bit (is_some o)) (none q is))

  shown_some : (q : PathV) → is_some (map.get u q) ≡ true → bit (is_some (map.get t q)) ≡ 1
  shown_some q some = by (shown q) refl
    where
      by : (b : Bool) → shown q ≡ b → bit (is_some (map.get t q)) ≡ 1
      by true is = ap bit (ap is_some (sym (same q is)) ∙ some)
      by false is = absurd (true≢false (sym some ∙ ap is_some (none q is)))

  shown_count : total (λ q. bit (shown q)) (map.keys t) ≡ map.len u
  shown_count =
      total_among (λ q. bit (shown q)) (λ q. total (λ r. bit (same_path q r)) (map.keys u)) (map.keys t)
      (in_sub (λ q. bit (shown q) ≡ total (λ r. bit (same_path q r)) (map.keys u)) (map.keys t) (λ q there. some_shown q (some_of_key t q there) ∙ sym (keys_once u q)))
      ∙ total_swap (λ q r. bit (same_path q r)) (map.keys t) (map.keys u)
      ∙ total_among (λ r. total (λ q. bit (same_path q r)) (map.keys t)) (λ r. 1) (map.keys u)
      (in_sub (λ r. total (λ q. bit (same_path q r)) (map.keys t) ≡ 1) (map.keys u)
      (λ r there. total_same (λ q. bit (same_path q r)) (λ q. bit (same_path r q)) (λ q. ap bit (same_turned q r)) (map.keys t) ∙ keys_once t r ∙ shown_some r (some_of_key u r there)))
      ∙ keys_all u

  one_each : (q : PathV) → is_some (map.get t q) ≡ true → 1 ≡ bit (shown q) + total (λ e. bit (is_under e q)) es
  one_each q some = sums (shown q) refl ∙ ap (λ (k : ℕ). bit (shown q) + k) (sym (under_count q es apart))
    where
      not_any : shown q ≡ true → (b : Bool) → is_below_any es q ≡ b → bit (is_below_any es q) ≡ 0
      not_any is true e = absurd (true≢false (sym is ∙ hides q e))
      not_any is false e = ap bit e

      sums : (b : Bool) → shown q ≡ b → 1 ≡ bit (shown q) + bit (is_below_any es q)
      sums true is = sym (ap₂ (λ (a b : ℕ). a + b) (ap bit is) (not_any is (is_below_any es q) refl))
      sums false is = sym (ap₂ (λ (a b : ℕ). a + b) (ap bit is) (ap bit (covered q is some)))

  pub shown_and_below : map.len t ≡ map.len u + sum_by (paths_below t) es
  shown_and_below =
      sym (keys_all t)
      ∙ total_among (λ q. 1) (λ q. bit (shown q) + total (λ e. bit (is_under e q)) es) (map.keys t)
      (in_sub (λ q. 1 ≡ bit (shown q) + total (λ e. bit (is_under e q)) es) (map.keys t) (λ q there. one_each q (some_of_key t q there)))
      ∙ total_both (λ q. bit (shown q)) (λ q. total (λ e. bit (is_under e q)) es) (map.keys t)
      ∙ ap₂ (λ (a b : ℕ). a + b) shown_count
      (total_swap (λ q e. bit (is_under e q)) (map.keys t) es
      ∙ total_same (λ e. total (λ q. bit (is_under e q)) (map.keys t)) (paths_below t) (λ e. total_is (λ q. bit (is_under e q)) (map.keys t)) es
      ∙ total_is (paths_below t) es)

-- ---- what lies below a directory, as a list

-- no path stands twice
abbrev pub AreDistinctPaths : List PathV → Type 0
AreDistinctPaths [] = ⊤
AreDistinctPaths (x ∷ xs) = AllByRecursion (λ y. same_path y x ≡ false) xs × AreDistinctPaths xs

pub same_behind : (d r q : PathV) → same_path (d ++ r) (d ++ q) ≡ same_path r q
same_behind d r q = by (same_path r q) refl
  where
    by : (b : Bool) → same_path r q ≡ b → same_path (d ++ r) (d ++ q) ≡ same_path r q
    by true e = ap (λ p. same_path (d ++ p) (d ++ q)) (same_path-true r q e) ∙ same_path-itself (d ++ q) ∙ sym e
    by false e = other (same_path (d ++ r) (d ++ q)) refl ∙ sym e
      where
        other : (b : Bool) → same_path (d ++ r) (d ++ q) ≡ b → same_path (d ++ r) (d ++ q) ≡ false
        other false f = f
        other true f =
            let same : r ≡ q = append_cancel_left d r q (same_path-true (d ++ r) (d ++ q) f) in
            absurd (true≢false (sym (ap (λ p. same_path p q) same ∙ same_path-itself q) ∙ e))

none_same : (q : PathV) (xs : List PathV) → AllByRecursion (λ y. same_path y q ≡ false) xs → total (λ r. bit (same_path r q)) xs ≡ 0
unfolding total
none_same q [] all = refl
none_same q (x ∷ xs) all = ap₂ (λ (b : Bool) (k : ℕ). bit b + k) all.0 (none_same q xs all.1)

one_same : (q : PathV) (xs : List PathV) → AreDistinctPaths xs → is_in q xs ≡ true → total (λ r. bit (same_path r q)) xs ≡ 1
unfolding total
one_same q [] distinct there = cc
one_same q (x ∷ xs) distinct there = by (same_path q x) refl there (one_same q xs distinct.1)
  where
    by : (b : Bool) → same_path q x ≡ b → (b || is_in q xs) ≡ true → (is_in q xs ≡ true → total (λ r. bit (same_path r q)) xs ≡ 1)
        → bit (same_path x q) + total (λ r. bit (same_path r q)) xs ≡ 1
    by true e there more =
        let same : q ≡ x = same_path-true q x e in
        ap₂ (λ (b : Bool) (k : ℕ). bit b + k) (same_turned x q ∙ e) (none_same q xs (subst (λ p. AllByRecursion (λ y. same_path y p ≡ false) xs) (sym same) distinct.0))
    by false e there more = ap₂ (λ (b : Bool) (k : ℕ). bit b + k) (same_turned x q ∙ e) (more there)

-- as many paths lie below a directory as stand in the list of them
module _ (t : Tree) (d : PathV) (xs : List PathV) (distinct : AreDistinctPaths xs) (stand : (r : PathV) → is_in r xs ≡ true → (r ≢ []) × IsSome (map.get t (d ++ r)))
    (all : (n : List ℕ) (r : PathV) → IsSome (map.get t (d ++ n ∷ r)) → is_in (n ∷ r) xs ≡ true) where
  under_same : (q : PathV) → is_some (map.get t q) ≡ true → bit (is_under d q) ≡ total (λ r. bit (same_path (d ++ r) q)) xs
  under_same q some = by (is_under d q) refl
    where
      not_same : is_under d q ≡ false → (r : PathV) → is_in r xs ≡ true → same_path (d ++ r) q ≡ false
      not_same out r there = test (same_path (d ++ r) q) refl
        where
          below : (r : PathV) → r ≢ [] → is_under d (d ++ r) ≡ true
          below [] some = absurd (some refl)
          below (n ∷ r) some = under_of d n r

          test : (b : Bool) → same_path (d ++ r) q ≡ b → same_path (d ++ r) q ≡ false
          test true e = absurd (true≢false (sym (below r (stand r there).0) ∙ ap (is_under d) (same_path-true (d ++ r) q e) ∙ out))
          test false e = e

      by : (b : Bool) → is_under d q ≡ b → bit b ≡ total (λ r. bit (same_path (d ++ r) q)) xs
      by false out =
          sym (total_among (λ r. bit (same_path (d ++ r) q)) (λ r. 0) xs (in_sub (λ r. bit (same_path (d ++ r) q) ≡ 0) xs (λ r there. ap bit (not_same out r there)))
          ∙ total_zero (λ (r : PathV). 0) (λ r. refl) xs)
      by true is =
          let below = under_is d q is in
          let there : is_in (below.name ∷ below.rest) xs ≡ true = all below.name below.rest (subst (λ p. IsSome (map.get t p)) below.is some) in
          sym (total_same (λ r. bit (same_path (d ++ r) q)) (λ r. bit (same_path r (below.name ∷ below.rest)))
          (λ r. ap bit (ap (same_path (d ++ r)) below.is ∙ same_behind d r (below.name ∷ below.rest))) xs
          ∙ one_same (below.name ∷ below.rest) xs distinct there)

  pub listed_below : paths_below t d ≡ length xs
  listed_below =
      sym (total_is (λ q. bit (is_under d q)) (map.keys t))
      ∙ total_among (λ q. bit (is_under d q)) (λ q. total (λ r. bit (same_path (d ++ r) q)) xs) (map.keys t)
      (in_sub (λ q. bit (is_under d q) ≡ total (λ r. bit (same_path (d ++ r) q)) xs) (map.keys t) (λ q there. under_same q (some_of_key t q there)))
      ∙ total_swap (λ q r. bit (same_path (d ++ r) q)) (map.keys t) xs
      ∙ total_among (λ r. total (λ q. bit (same_path (d ++ r) q)) (map.keys t)) (λ r. 1) xs
      (in_sub (λ r. total (λ q. bit (same_path (d ++ r) q)) (map.keys t) ≡ 1) xs (λ r there. keys_once t (d ++ r) ∙ ap bit (stand r there).1))
      ∙ all_counted xs
