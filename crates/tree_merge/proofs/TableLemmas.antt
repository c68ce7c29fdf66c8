-- What the calls of a table of paths leave at each path. The key lemmas are get-put, get-popped, popped_len and above_popped.
use Rattle.std.proofs.Common.{◌≡◌, ◌≢◌, ◌+◌, ◌≤◌, ◌&&◌, ◌||◌, Bool, true, false, cond, T, List, [], ◌∷◌, ◌++◌, length, refl, sym, ap, ap₂, ◌∙◌, subst, arith, length-append, Option, Some, None, is_some, Result, Ok, Err, IfOk, OnOk, Ordering, Less, true≢false}
use Rattle.std.specs.Option.{option_or}
use Rattle.std.specs.Ordering.{is_lt, is_eq}
use Rattle.std.specs.FinMap as map
use Rattle.std.specs.FinMap.Entries.{below_all}
use Rattle.tree_model.specs.Path.{PathV, path_cmp}
use Rattle.tree_model.specs.PathOrder.{paths_total}
use Rattle.tree_model.proofs.ListedLemmas.{same_path, same_path-true, same_path-itself, same_path-apart}
use Rattle.tree_model.proofs.SortedEntryLemmas.{left_holds, right_holds}
use Rattle.ids.proofs.BasicLemmas.{less_from_is_lt}

pub on_ok_more : {A E : Type 0} {P Q : Type 0} (r : Result A E) → (P → Q) → OnOk r P → OnOk r Q
on_ok_more (Ok x) more h = more h
on_ok_more (Err e) more h = tt

pub on_ok_of : {A E : Type 0} {P : Type 0} (r : Result A E) → P → OnOk r P
on_ok_of (Ok x) h = h
on_ok_of (Err e) h = tt

pub on_ok_if : {A E : Type 0} {P : A → Type 0} {Q : Type 0} (r : Result A E) → ((x : A) → P x → Q) → IfOk r P → OnOk r Q
on_ok_if (Ok x) more h = more x h
on_ok_if (Err e) more h = tt

pub if_ok_more : {A E : Type 0} {P Q : A → Type 0} (r : Result A E) → ((x : A) → P x → Q x) → IfOk r P → IfOk r Q
if_ok_more (Ok x) more h = more x h
if_ok_more (Err e) more h = tt

pub apart_by : (p q : PathV) → path_cmp p q ≡ Less → q ≢ p
apart_by p q less e = by (path_cmp p q) less (ap is_eq (ap (path_cmp p) e) ∙ same_path-itself p)
  where
    by : (r : Ordering) → r ≡ Less → is_eq r ≡ true → ⊥
    by r is tied = true≢false (sym tied ∙ ap is_eq is)

abbrev pub Table : Type 0 → Type 0
Table X = map.FinMap path_cmp X

module _ {X : Type 0} where
  pub get-put : (m : Table X) (p : PathV) (v : X) (q : PathV) → map.get (map.insert m p v) q ≡ cond (same_path q p) (Some v) (map.get m q)
  get-put m p v q = map.get-insert paths_total m p v q

  pub put_len : (m : Table X) (p : PathV) (v : X) → map.len (map.insert m p v) ≤ map.len m + 1
  put_len m p v = by (map.contains_key m p) (map.len-insert paths_total m p v)
    where
      by : (b : Bool) → map.len (map.insert m p v) ≡ cond b (map.len m) (map.len m + 1) → map.len (map.insert m p v) ≤ map.len m + 1
      by true e = omega arith
      by false e = omega arith

  -- a path that a table hasn't makes it longer
  pub new_len : (m : Table X) (p : PathV) (v : X) → map.get m p ≡ None → map.len (map.insert m p v) ≡ map.len m + 1
  new_len m p v none = map.len-insert paths_total m p v ∙ ap (λ (o : Option X). cond (is_some o) (map.len m) (map.len m + 1)) none

  -- what was taken from an end of the table
  pub get-popped : (m n : Table X) (e : PathV × X) → n ≡ map.remove m e.0 → (q : PathV) → map.get n q ≡ cond (same_path q e.0) None (map.get m q)
  get-popped m n e is q = ap (λ (t : Table X). map.get t q) is ∙ map.get-remove paths_total m e.0 q

  pub popped_len : (m n : Table X) (e : PathV × X) → map.entries m ≡ map.entries n ++ e ∷ [] → map.len n + 1 ≡ map.len m
  popped_len m n e is =
      let one = map.len-entries m in
      let two = map.len-entries n in
      let all : length (map.entries m) ≡ length (map.entries n ++ e ∷ []) = ap length is in
      omega (arith, length-append (map.entries n) (e ∷ []))

  pub first_popped_len : (m n : Table X) (e : PathV × X) → map.entries m ≡ e ∷ map.entries n → map.len n + 1 ≡ map.len m
  first_popped_len m n e is =
      let one = map.len-entries m in
      let two = map.len-entries n in
      let all : length (map.entries m) ≡ length (e ∷ map.entries n) = ap length is in
      omega arith

  below_last : (k : PathV) (es : List (PathV × X)) (e : PathV × X) → T (below_all path_cmp k (es ++ e ∷ [])) → T (is_lt (path_cmp k e.0))
  below_last k [] e h = left_holds (is_lt (path_cmp k e.0)) (below_all {X = X} path_cmp k []) h
  below_last k (f ∷ es) e h = below_last k es e (right_holds (is_lt (path_cmp k f.0)) (below_all path_cmp k (es ++ e ∷ [])) h)

  none_above : (es : List (PathV × X)) (e : PathV × X) (q : PathV) → T (map.is_sorted path_cmp (es ++ e ∷ [])) → path_cmp e.0 q ≡ Less
      → map.find path_cmp q (es ++ e ∷ []) ≡ None
  none_above [] e q h above = ap (λ (b : Bool). cond b (Some e.1) None) (same_path-apart q e.0 (apart_by e.0 q above))
  none_above (f ∷ es) e q h above =
      let below : path_cmp f.0 e.0 ≡ Less = less_from_is_lt (path_cmp f.0 e.0) (below_last f.0 es e (left_holds (below_all path_cmp f.0 (es ++ e ∷ [])) (map.is_sorted path_cmp (es ++ e ∷ [])) h)) in
      let far : path_cmp f.0 q ≡ Less = paths_total.trans f.0 e.0 q below above in
      ap₂ (λ (b : Bool) (o : Option X). cond b (Some f.1) o) (same_path-apart q f.0 (apart_by f.0 q far))
      (none_above es e q (right_holds (below_all path_cmp f.0 (es ++ e ∷ [])) (map.is_sorted path_cmp (es ++ e ∷ [])) h) above)

  -- nothing stands behind the last entry
  pub above_popped : (m n : Table X) (e : PathV × X) → map.entries m ≡ map.entries n ++ e ∷ [] → (q : PathV) → path_cmp e.0 q ≡ Less → map.get m q ≡ None
  above_popped m n e is q above =
      map.get-entries m q ∙ ap (map.find path_cmp q) is
      ∙ none_above (map.entries n) e q (subst (λ (es : List (PathV × X)). T (map.is_sorted path_cmp es)) is (map.entries_sorted m)) above

  -- a value that may be put
  pub get-put_if : (m n : Table X) (p : PathV) (v : X) → n ≡ map.insert m p v → (q : PathV) → map.get n q ≡ (cond (same_path q p) (option_or (Some v) (map.get m q)) (map.get m q))
  get-put_if m n p v is q = ap (λ (t : Table X). map.get t q) is ∙ get-put m p v q

  same_both : (b : Bool) (o : Option X) → o ≡ cond b o o
  same_both true o = refl
  same_both false o = refl

  pub get-put_none : (m : Table X) (p q : PathV) → map.get m q ≡ cond (same_path q p) (option_or None (map.get m q)) (map.get m q)
  get-put_none m p q = same_both (same_path q p) (map.get m q)

  pub some-put : (m n : Table X) (p : PathV) (v : X) → n ≡ map.insert m p v → (q : PathV) → is_some (map.get n q) ≡ (is_some (map.get m q) || (true && same_path q p))
  some-put m n p v is q = ap is_some (ap (λ (t : Table X). map.get t q) is ∙ get-put m p v q) ∙ by (same_path q p) (map.get m q)
    where
      by : (b : Bool) (o : Option X) → is_some (cond b (Some v) o) ≡ (is_some o || (true && b))
      by true None = refl
      by true (Some x) = refl
      by false None = refl
      by false (Some x) = refl

  pub put_if_len : (m n : Table X) (p : PathV) (v : X) → n ≡ map.insert m p v → map.len n ≤ map.len m + 1
  put_if_len m n p v is = subst (λ (t : Table X). map.len t ≤ map.len m + 1) (sym is) (put_len m p v)

  no_items : (es : List (PathV × X)) → length es ≡ 0 → es ≡ []
  no_items [] e = refl
  no_items (x ∷ es) e = absurd (omega arith)

  pub no_entries : (m : Table X) → m ≡ map.empty → map.entries m ≡ []
  no_entries m is = no_items (map.entries m) (sym (map.len-entries m) ∙ ap map.len is ∙ map.len-empty path_cmp X)

  pub gone_too : (m n : Table X) (e : PathV × X) → n ≡ map.remove m e.0 → (q : PathV) → map.get m q ≡ None → map.get n q ≡ None
  gone_too m n e is q none = get-popped m n e is q ∙ ap (cond (same_path q e.0) None) none ∙ by (same_path q e.0)
    where
      by : (b : Bool) → cond {A = Option X} b None None ≡ None
      by true = refl
      by false = refl

  below_each : (es : List (PathV × X)) (e : PathV × X) (q : PathV) → T (map.is_sorted path_cmp (es ++ e ∷ [])) → is_some (map.find path_cmp q es) ≡ true → path_cmp q e.0 ≡ Less
  below_each [] e q h there = absurd (true≢false (sym there))
  below_each (f ∷ es) e q h there = by (same_path q f.0) refl there (below_each es e q (right_holds (below_all path_cmp f.0 (es ++ e ∷ [])) (map.is_sorted path_cmp (es ++ e ∷ [])) h))
    where
      by : (b : Bool) → same_path q f.0 ≡ b → is_some (cond b (Some f.1) (map.find path_cmp q es)) ≡ true → (is_some (map.find path_cmp q es) ≡ true → path_cmp q e.0 ≡ Less) → path_cmp q e.0 ≡ Less
      by true tie some more =
          ap (λ (p : PathV). path_cmp p e.0) (same_path-true q f.0 tie)
          ∙ less_from_is_lt (path_cmp f.0 e.0) (below_last f.0 es e (left_holds (below_all path_cmp f.0 (es ++ e ∷ [])) (map.is_sorted path_cmp (es ++ e ∷ [])) h))
      by false apart some more = more some

  -- what is left stands before the last entry
  pub below_popped : (m n : Table X) (e : PathV × X) → map.entries m ≡ map.entries n ++ e ∷ [] → (q : PathV) → is_some (map.get n q) ≡ true → path_cmp q e.0 ≡ Less
  below_popped m n e is q there =
      below_each (map.entries n) e q (subst (λ (es : List (PathV × X)). T (map.is_sorted path_cmp es)) is (map.entries_sorted m)) (ap is_some (sym (map.get-entries n q)) ∙ there)
