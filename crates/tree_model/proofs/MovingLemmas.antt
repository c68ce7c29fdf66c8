-- Where the conflict copies go. The key lemmas are moves_free, placed, found_moved and none_moved.
use Rattle.std.proofs.Common.{◌==◌, eqb-true, ◌≡◌, ◌≢◌, ℕ, zero, suc, ◌+◌, ◌<◌, ◌≤◌, ◌||◌, Bool, true, false, cond, if◌then◌else◌, List, [], ◌∷◌, ◌++◌, map as map_list, length, refl, sym, ap, ap₂, ◌∙◌, subst, Option, Some, None, is_some, arith, length-append, ◌⊎◌, inl, inr}
use borrow.Author.Tests.{eqb-false}
use Rattle.std.specs.FinMap as map
use Rattle.tree_model.specs.Path.{PathV, path_cmp}
use Rattle.tree_model.specs.ConflictCopies.{is_gone, least_free, moves}
use Rattle.tree_model.proofs.ListedLemmas.{same_path, same_path-true, same_path-itself, same_path-apart, is_in, any_append}

-- membership of things that no test compares
abbrev pub In : {X : Type 0} → X → List X → Type 0
In x [] = ⊥
In x (y ∷ ys) = (x ≡ y) ⊎ In x ys

pub or_none : (a b : Bool) → (a || b) ≡ false → (a ≡ false) × (b ≡ false)
or_none true b e = cc
or_none false b e = (refl, e)

-- ---- pigeons and holes

pub record Without (x : PathV) (ys : List PathV) : Type 0 where
  pub rest : List PathV
  pub shorter : length ys ≡ suc (length rest)
  pub others : (z : PathV) → z ≢ x → is_in z ys ≡ true → is_in z rest ≡ true

without : (x : PathV) (ys : List PathV) → is_in x ys ≡ true → Without x ys
without x [] e = cc
without x (y ∷ ys) e = by (same_path x y) refl e (without x ys)
  where
    by : (b : Bool) → same_path x y ≡ b → (b || is_in x ys) ≡ true → (is_in x ys ≡ true → Without x ys) → Without x (y ∷ ys)
    by true is e more = record {
      rest = ys;
      shorter = refl;
      others = λ z apart there.
          let other : same_path z y ≡ false = same_path-apart z y (λ h. apart (h ∙ sym (same_path-true x y is))) in
          ap (λ b. b || is_in z ys) (sym other) ∙ there;
    }
    by false is e more =
        let less = more e in
        record {
          rest = y ∷ less.rest;
          shorter = ap suc less.shorter;
          others = λ z apart there. either (same_path z y) (is_in z ys) (is_in z less.rest) there (less.others z apart);
        }
      where
        either : (a b c : Bool) → (a || b) ≡ true → (b ≡ true → c ≡ true) → (a || c) ≡ true
        either true b c e more = refl
        either false b c e more = more e

-- so many different paths of a list are no more than the list has
pub pigeons : (f : ℕ → PathV) → ((i j : ℕ) → f i ≡ f j → i ≡ j) → (n : ℕ) (ys : List PathV) → ((i : ℕ) → i < n → is_in (f i) ys ≡ true) → n ≤ length ys
pigeons f apart zero ys all = omega arith
pigeons f apart (suc n) ys all =
    let less = without (f n) ys (all n (omega arith)) in
    let rest : n ≤ length less.rest =
    pigeons f apart n less.rest (λ i below. less.others (f i) (λ e. let same : i ≡ n = apart i n e in omega arith) (all i (omega arith))) in
    omega (arith, less.shorter)

-- ---- the least free number

at_or_above : (a b : ℕ) → a ≤ b → (a ≡ b) ⊎ (a + 1 ≤ b)
at_or_above a b h = split (a == b) refl
  where
    split : (c : Bool) → (a == b) ≡ c → (a ≡ b) ⊎ (a + 1 ≤ b)
    split true e = inl (eqb-true a b e)
    split false e = let other : a ≢ b = eqb-false a b e in inr (omega arith)

module _ {X : Type 0} (is_used : PathV → Bool) (spot : X → ℕ → PathV) where
  abbrev pub gone : List PathV → PathV → Bool
  gone = is_gone same_path is_used spot

  abbrev pub least : List PathV → X → ℕ → ℕ → ℕ
  least = least_free same_path is_used spot

  pub searched : (taken : List PathV) (x : X) (t k : ℕ)
      → (gone taken (spot x (least taken x t k)) ≡ false) ⊎ ((i : ℕ) → i < t → gone taken (spot x (k + i)) ≡ true)
  searched taken x zero k = inr (λ i below. absurd (omega arith))
  searched taken x (suc t) k = by (gone taken (spot x k)) refl (searched taken x t (k + 1))
    where
      by : (b : Bool) → gone taken (spot x k) ≡ b
          → (gone taken (spot x (least taken x t (k + 1))) ≡ false) ⊎ ((i : ℕ) → i < t → gone taken (spot x (k + 1 + i)) ≡ true)
          → (gone taken (spot x (if b then least taken x t (k + 1) else k)) ≡ false) ⊎ ((i : ℕ) → i < suc t → gone taken (spot x (k + i)) ≡ true)
      by false is more = inl is
      by true is (inl free) = inl free
      by true is (inr all) = inr each
        where
          each : (i : ℕ) → i < suc t → gone taken (spot x (k + i)) ≡ true
          each zero below = let same : k + 0 ≡ k = omega arith in ap (λ j. gone taken (spot x j)) same ∙ is
          each (suc i) below = let same : k + suc i ≡ k + 1 + i = omega arith in ap (λ j. gone taken (spot x j)) same ∙ all i (omega arith)

  pub least_from : (taken : List PathV) (x : X) (t k : ℕ) → k ≤ least taken x t k
  least_from taken x zero k = omega arith
  least_from taken x (suc t) k = by (gone taken (spot x k)) (least_from taken x t (k + 1))
    where
      by : (b : Bool) → k + 1 ≤ least taken x t (k + 1) → k ≤ (if b then least taken x t (k + 1) else k)
      by true more = omega arith
      by false more = omega arith

  -- every number before is gone
  pub least_before : (taken : List PathV) (x : X) (t k j : ℕ) → k ≤ j → j < least taken x t k → gone taken (spot x j) ≡ true
  least_before taken x zero k j from below = absurd (omega arith)
  least_before taken x (suc t) k j from below = by (gone taken (spot x k)) refl below (least_before taken x t (k + 1) j)
    where
      by : (b : Bool) → gone taken (spot x k) ≡ b → j < (if b then least taken x t (k + 1) else k)
          → (k + 1 ≤ j → j < least taken x t (k + 1) → gone taken (spot x j) ≡ true) → gone taken (spot x j) ≡ true
      by false is below more = absurd (omega arith)
      by true is below more =
          elim (at_or_above k j from) [
            | inl same ↦ ap (λ i. gone taken (spot x i)) (sym same) ∙ is
            | inr above ↦ more above below
          ]

  module _ (used : List PathV) (is_listed : (q : PathV) → is_used q ≡ true → is_in q used ≡ true) (apart : (x : X) (i j : ℕ) → spot x (1 + i) ≡ spot x (1 + j) → i ≡ j) where
    gone_listed : (taken : List PathV) (q : PathV) → gone taken q ≡ true → is_in q (used ++ taken) ≡ true
    gone_listed taken q e = any_append (same_path q) used taken ∙ either (is_used q) (is_in q used) (is_in q taken) e (is_listed q)
      where
        either : (a b c : Bool) → (a || c) ≡ true → (a ≡ true → b ≡ true) → (b || c) ≡ true
        either true b c e more = ap (λ r. r || c) (more refl)
        either false true c e more = refl
        either false false c e more = e

    pub least_is_free : (taken : List PathV) (x : X) (t : ℕ) → length used + length taken < t → gone taken (spot x (least taken x t 1)) ≡ false
    least_is_free taken x t enough =
        elim (searched taken x t 1) [
          | inl free ↦ free
          | inr all ↦
              let many : t ≤ length (used ++ taken) =
              pigeons (λ i. spot x (1 + i)) (apart x) t (used ++ taken) (λ i below. gone_listed taken (spot x (1 + i)) (all i below)) in
              absurd (omega (arith, length-append used taken))
        ]

    module _ (t : ℕ) where
      abbrev pub moved : List PathV → List X → List (X × PathV)
      moved = moves same_path is_used spot t

      -- no copy goes to a path that is used or was taken before
      pub moves_free : (xs : List X) (taken : List PathV) → length used + length taken + length xs ≤ t
          → (m : X × PathV) → In m (moved taken xs) → gone taken m.1 ≡ false
      moves_free [] taken enough m h = absurd h
      moves_free (x ∷ xs) taken enough m (inl e) =
          subst (λ (m : X × PathV). gone taken m.1 ≡ false) (sym e) (least_is_free taken x t (omega arith))
      moves_free (x ∷ xs) taken enough m (inr h) =
          let to : PathV = spot x (least taken x t 1) in
          let later : gone (to ∷ taken) m.1 ≡ false = moves_free xs (to ∷ taken) (omega arith) m h in
          let parts = or_none (is_used m.1) (same_path m.1 to || is_in m.1 taken) later in
          let rest = or_none (same_path m.1 to) (is_in m.1 taken) parts.1 in
          ap₂ ◌||◌ parts.0 rest.1

-- where a thing of the list goes, at which its value is the first one found
pub record Placed {X Y : Type 0} (value : X → Y) (ms : List (X × PathV)) (x : X) : Type 0 where
  pub to : PathV
  pub there : In (x, to) ms
  pub first : map.find path_cmp to (map_list (λ m. (m.1, value m.0)) ms) ≡ Some (value x)

-- the thing whose value is found at a path
pub record Came {X Y : Type 0} (value : X → Y) (ms : List (X × PathV)) (q : PathV) (v : Y) : Type 0 where
  pub from : X × PathV
  pub there : In from ms
  pub at : from.1 ≡ q
  pub is : v ≡ value from.0

pub found_moved : {X Y : Type 0} (value : X → Y) (ms : List (X × PathV)) (q : PathV) (v : Y)
    → map.find path_cmp q (map_list (λ m. (m.1, value m.0)) ms) ≡ Some v → Came value ms q v
found_moved value [] q v e = cc
found_moved {X} {Y} value (m ∷ ms) q v e = by (same_path q m.1) refl e (found_moved value ms q v)
  where
    rest : Option Y
    rest = map.find path_cmp q (map_list (λ m. (m.1, value m.0)) ms)

    by : (b : Bool) → same_path q m.1 ≡ b → cond b (Some (value m.0)) rest ≡ Some v → (rest ≡ Some v → Came value ms q v) → Came value (m ∷ ms) q v
    by true is e more = record { from = m; there = inl refl; at = sym (same_path-true q m.1 is); is = cc }
    by false is e more =
        let came = more e in
        record { from = came.from; there = inr came.there; at = came.at; is = came.is }

pub none_moved : {X Y : Type 0} (value : X → Y) (ms : List (X × PathV)) (q : PathV)
    → ((m : X × PathV) → In m ms → same_path q m.1 ≡ false) → map.find path_cmp q (map_list (λ m. (m.1, value m.0)) ms) ≡ None
none_moved value [] q all = refl
none_moved value (m ∷ ms) q all =
    ap (λ b. cond b (Some (value m.0)) (map.find path_cmp q (map_list (λ m. (m.1, value m.0)) ms))) (all m (inl refl))
    ∙ none_moved value ms q (λ n there. all n (inr there))

-- an entry that is found is in the list, and one that is in the list is found
pub in_found : {X : Type 0} (es : List (PathV × X)) (q : PathV) (v : X) → map.find path_cmp q es ≡ Some v → In (q, v) es
in_found [] q v e = cc
in_found {X} (f ∷ es) q v e = by (same_path q f.0) refl e (in_found es q v)
  where
    by : (b : Bool) → same_path q f.0 ≡ b → cond b (Some f.1) (map.find path_cmp q es) ≡ Some v → (map.find path_cmp q es ≡ Some v → In (q, v) es) → In (q, v) (f ∷ es)
    by true is e more =
        let path : q ≡ f.0 = same_path-true q f.0 is in
        let value : v ≡ f.1 = cc in
        inl (λ i. (path i, value i))
    by false is e more = inr (more e)

pub found_in : {X : Type 0} (es : List (PathV × X)) (e : PathV × X) → In e es → is_some (map.find path_cmp e.0 es) ≡ true
found_in [] e h = absurd h
found_in {X} (f ∷ es) e (inl is) =
    subst (λ (g : PathV × X). is_some (map.find path_cmp g.0 (f ∷ es)) ≡ true) (sym is) (ap (λ b. is_some (cond b (Some f.1) (map.find path_cmp f.0 es))) (same_path-itself f.0))
found_in {X} (f ∷ es) e (inr h) = by (same_path e.0 f.0) (found_in es e h)
  where
    by : (b : Bool) → is_some (map.find path_cmp e.0 es) ≡ true → is_some (cond b (Some f.1) (map.find path_cmp e.0 es)) ≡ true
    by true more = refl
    by false more = more

-- what moves is of the list, and its spot has a number
pub record MovedFrom {X : Type 0} (spot : X → ℕ → PathV) (xs : List X) (m : X × PathV) : Type 0 where
  pub of_list : In m.0 xs
  pub number : ℕ
  pub from_one : 1 ≤ number
  pub at : m.1 ≡ spot m.0 number

pub moved_from : {X : Type 0} (is_used : PathV → Bool) (spot : X → ℕ → PathV) (t : ℕ) (xs : List X) (taken : List PathV) (m : X × PathV)
    → In m (moves same_path is_used spot t taken xs) → MovedFrom spot xs m
moved_from is_used spot t [] taken m h = absurd h
moved_from {X} is_used spot t (x ∷ xs) taken m (inl e) =
    subst (MovedFrom spot (x ∷ xs)) (sym e) (record { of_list = inl refl; number = least_free same_path is_used spot taken x t 1; from_one = least_from is_used spot taken x t 1; at = refl })
moved_from is_used spot t (x ∷ xs) taken m (inr h) =
    let more = moved_from is_used spot t xs (spot x (least_free same_path is_used spot taken x t 1) ∷ taken) m h in
    record { of_list = inr more.of_list; number = more.number; from_one = more.from_one; at = more.at }

-- each thing of the list has a place
pub placed : {X Y : Type 0} (value : X → Y) (is_used : PathV → Bool) (spot : X → ℕ → PathV) (used : List PathV)
    → ((q : PathV) → is_used q ≡ true → is_in q used ≡ true) → ((x : X) (i j : ℕ) → spot x (1 + i) ≡ spot x (1 + j) → i ≡ j)
    → (t : ℕ) (xs : List X) (taken : List PathV) → length used + length taken + length xs ≤ t
    → (x : X) → In x xs → Placed value (moves same_path is_used spot t taken xs) x
placed value is_used spot used listed apart t [] taken enough x h = absurd h
placed {X} {Y} value is_used spot used listed apart t (y ∷ xs) taken enough x (inl e) =
    let to : PathV = spot y (least_free same_path is_used spot taken y t 1) in
    let rest : List (X × PathV) = moves same_path is_used spot t (to ∷ taken) xs in
    subst (Placed value ((y, to) ∷ rest)) (sym e)
    (record {
      to = to;
      there = inl refl;
      first = ap (λ b. cond b (Some (value y)) (map.find path_cmp to (map_list (λ m. (m.1, value m.0)) rest))) (same_path-itself to);
    })
placed {X} {Y} value is_used spot used listed apart t (y ∷ xs) taken enough x (inr h) =
    let to : PathV = spot y (least_free same_path is_used spot taken y t 1) in
    let rest : List (X × PathV) = moves same_path is_used spot t (to ∷ taken) xs in
    let more = placed value is_used spot used listed apart t xs (to ∷ taken) (omega arith) x h in
    let free : is_gone same_path is_used spot (to ∷ taken) more.to ≡ false =
    moves_free is_used spot used listed apart t xs (to ∷ taken) (omega arith) (x, more.to) more.there in
    let other : same_path more.to to ≡ false = (or_none (same_path more.to to) (is_in more.to taken) (or_none (is_used more.to) (same_path more.to to || is_in more.to taken) free).1).0 in
    record {
      to = more.to;
      there = inr more.there;
      first = ap (λ b. cond b (Some (value y)) (map.find path_cmp more.to (map_list (λ m. (m.1, value m.0)) rest))) other ∙ more.first;
    }
