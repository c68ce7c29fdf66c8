-- What a table of paths has once directories are added, and what it tells of a path and those above it. The key lemmas are
-- within_split, under_push, put_under, known_under, above_under, front_here, front_next.
use Rattle.std.proofs.Common.{◌≡◌, ◌≢◌, ℕ, ◌<◌, ◌+◌, ◌&&◌, ◌||◌, Bool, true, false, cond, List, [], ◌∷◌, ◌++◌, length, take, get_or, nat_eq, is_some, Option, None, Some, refl, sym, ap, ap₂, ◌∙◌, arith, true≢false, ◌≤◌, ◌==◌, suc, eqb-true, length-append, Result, Ok, Err, OnOk}
use Rattle.std.specs.FinMap as fin
use Rattle.std.specs.List.{list_any}
use Rattle.std.specs.Ordering.{eq_by_cmp}
use Rattle.std.specs.Cmp.Lexicographic.{pointwise}
use Rattle.std.proofs.Math.Bool.{and-false, or-false, or_assoc, or_comm}
use Rattle.std.proofs.lemmas.Bool.{or_right}
use Rattle.std.proofs.lemmas.List.{take_all}
use Rattle.std.proofs.lemmas.List.Folds.{list_any_more}
use Rattle.tree_model.specs.DirectorySurvival.{is_under, is_within}
use Rattle.tree_model.specs.Path.{PathV, last_name, parent_of, path_cmp}
use Rattle.tree_model.specs.PathOrder.{paths_tie, paths_total}
use Rattle.tree_model.proofs.BelowLemmas.{parent_last, under_under, under_within, within_under}
use Rattle.tree_model.proofs.ListedLemmas.{same_path, same_path-true}
use Rattle.tree_model.proofs.ShownCountLemmas.{same_turned}
use Rattle.tree_checkout.specs.Hindrances.{HasAbove, IsTableOf, Paths, has}

-- ---- below a directory, or at it

pub within_told : (dir path : PathV) → (is_under dir path || pointwise (pointwise nat_eq) dir path) ≡ is_within dir path
within_told [] [] = refl
within_told [] (name ∷ path) = refl
within_told (name ∷ dir) [] = refl
within_told (name ∷ dir) (first ∷ path) = joined_and (pointwise nat_eq name first) (is_under dir path) (pointwise (pointwise nat_eq) dir path) ∙ ap (λ (b : Bool). pointwise nat_eq name first && b) (within_told dir path)
  where
    joined_and : (b u e : Bool) → ((b && u) || (b && e)) ≡ (b && (u || e))
    joined_and true u e = refl
    joined_and false u e = refl

pub within_split : (dir path : PathV) → is_within dir path ≡ (is_under dir path || same_path dir path)
within_split dir path = sym (within_told dir path) ∙ ap (λ (b : Bool). is_under dir path || b) (paths_tie dir path)

pub none_above : (dir : PathV) → is_under dir [] ≡ false
none_above [] = refl
none_above (name ∷ dir) = refl

-- what is above an entry of a directory is the directory, or above it
pub under_push : (q dir : PathV) (name : List ℕ) → is_under q (dir ++ name ∷ []) ≡ is_within q dir
under_push [] [] name = refl
under_push [] (first ∷ dir) name = refl
under_push (n ∷ q) [] name = ap (λ (b : Bool). pointwise nat_eq n name && b) (none_above q) ∙ and-false (pointwise nat_eq n name)
under_push (n ∷ q) (first ∷ dir) name = ap (λ (b : Bool). pointwise nat_eq n first && b) (under_push q dir name)

pub under_parent : (q path : PathV) → path ≢ [] → is_under q path ≡ is_within q (parent_of path)
under_parent q path some = ap (is_under q) (parent_last path some) ∙ under_push q (parent_of path) (last_name path)

-- ---- a table to which paths are added

pub has_put : (old new : Paths) (p : PathV) → new ≡ fin.insert old p tt → (q : PathV) → has new q ≡ (has old q || same_path q p)
has_put old new p is q = ap is_some (ap (λ (t : Paths). fin.get t q) is ∙ fin.get-insert paths_total old p tt q) ∙ by (same_path q p) (fin.get old q)
  where
    by : (b : Bool) (o : Option Unit) → is_some (cond b (Some tt) o) ≡ (is_some o || b)
    by true None = refl
    by true (Some x) = refl
    by false None = refl
    by false (Some x) = refl

-- first those above a directory, then itself
pub put_within : (old mid new : Paths) (dir : PathV) → ((q : PathV) → has mid q ≡ (has old q || is_under q dir)) → ((q : PathV) → has new q ≡ (has mid q || same_path q dir))
    → (q : PathV) → has new q ≡ (has old q || is_within q dir)
put_within old mid new dir above here q =
    here q ∙ ap (λ (b : Bool). b || same_path q dir) (above q) ∙ or_assoc (has old q) (is_under q dir) (same_path q dir)
    ∙ ap (λ (b : Bool). has old q || b) (sym (within_split q dir))

pub has_none : (q : PathV) → has fin.empty q ≡ false
has_none q = ap is_some (fin.get-empty path_cmp q)

pub above_none : HasAbove fin.empty
above_none = record { told = λ dir path there under. absurd (true≢false (sym there ∙ has_none path)) }

module _ (old new : Paths) (has_above : HasAbove old) where
  pub above_under : (p : PathV) → ((q : PathV) → has new q ≡ (has old q || is_under q p)) → HasAbove new
  above_under p is = record { told = λ dir path there under. is dir ∙ by dir path under (has old path) refl (sym (is path) ∙ there) }
    where
      by : (dir path : PathV) → is_under dir path ≡ true → (b : Bool) → has old path ≡ b → (b || is_under path p) ≡ true → (has old dir || is_under dir p) ≡ true
      by dir path under true there e = ap (λ (b : Bool). b || is_under dir p) (has_above.told dir path there under)
      by dir path under false there e = or_right (has old dir) (is_under dir p) (under_under dir path p under e)

  pub above_within : (p : PathV) → ((q : PathV) → has new q ≡ (has old q || is_within q p)) → HasAbove new
  above_within p is = record { told = λ dir path there under. is dir ∙ by dir path under (has old path) refl (sym (is path) ∙ there) }
    where
      by : (dir path : PathV) → is_under dir path ≡ true → (b : Bool) → has old path ≡ b → (b || is_within path p) ≡ true → (has old dir || is_within dir p) ≡ true
      by dir path under true there e = ap (λ (b : Bool). b || is_within dir p) (has_above.told dir path there under)
      by dir path under false there e = or_right (has old dir) (is_within dir p) (under_within dir p (within_under dir path p under e))

-- what a table has already
pub known_within : (table : Paths) → HasAbove table → (dir : PathV) → has table dir ≡ true → (q : PathV) → has table q ≡ (has table q || is_within q dir)
known_within table has_above dir there q = by (is_under q dir) refl (same_path q dir) refl ∙ ap (λ (b : Bool). has table q || b) (sym (within_split q dir))
  where
    or_known : (a b : Bool) → a ≡ true → a ≡ (a || b)
    or_known a b is = is ∙ sym (ap (λ (x : Bool). x || b) is)

    by : (u : Bool) → is_under q dir ≡ u → (s : Bool) → same_path q dir ≡ s → has table q ≡ (has table q || (u || s))
    by true under s same = or_known (has table q) true (has_above.told q dir there under)
    by false under true same = or_known (has table q) true (ap (has table) (same_path-true q dir same) ∙ there)
    by false under false same = sym (or-false (has table q))

-- the root is in no directory
pub none_added : (table : Paths) (q : PathV) → has table q ≡ (has table q || is_under q [])
none_added table q = sym (ap (λ (b : Bool). has table q || b) (none_above q) ∙ or-false (has table q))

-- what is above a path, where the table has the directory that it stands in
pub known_under : (table : Paths) → HasAbove table → (path dir : PathV) → path ≢ [] → dir ≡ parent_of path → has table dir ≡ true → (q : PathV) → has table q ≡ (has table q || is_under q path)
known_under table has_above path dir some is there q =
    known_within table has_above dir there q ∙ ap (λ (b : Bool). has table q || b) (sym (under_parent q path some ∙ ap (is_within q) (sym is)))

pub put_under : (old mid new : Paths) (path dir : PathV) → path ≢ [] → dir ≡ parent_of path → ((q : PathV) → has mid q ≡ (has old q || is_under q dir)) → ((q : PathV) → has new q ≡ (has mid q || same_path q dir))
    → (q : PathV) → has new q ≡ (has old q || is_under q path)
put_under old mid new path dir some is above here q =
    put_within old mid new dir above here q ∙ ap (λ (b : Bool). has old q || b) (sym (under_parent q path some ∙ ap (is_within q) (sym is)))

pub some_names : (path names : PathV) (told : Bool) → told ≡ (length names == 0) → told ≡ false → names ≡ path → path ≢ []
some_names path names told is some same none = true≢false (sym (ap (λ (p : PathV). length p == 0) (same ∙ none)) ∙ sym is ∙ some)

pub none_names : (path names : PathV) (told : Bool) → told ≡ (length names == 0) → told ≡ true → names ≡ path → path ≡ []
none_names path [] told is none same = sym same
none_names path (n ∷ names) told is none same = let some : suc (length names) ≡ 0 = eqb-true (suc (length names)) 0 (sym is ∙ none) in absurd (omega arith)

pub parent_shorter : (path dir : PathV) → path ≢ [] → dir ≡ parent_of path → length dir < length path
parent_shorter path dir some is =
    let whole : length path ≡ length (parent_of path ++ last_name path ∷ []) = ap length (parent_last path some) in
    let same : length dir ≡ length (parent_of path) = ap length is in
    omega (arith, length-append (parent_of path) (last_name path ∷ []))

pub front_shorter : (path dir : PathV) (name : List ℕ) → path ≡ dir ++ name ∷ [] → length dir < length path
front_shorter path dir name is =
    let whole : length path ≡ length (dir ++ name ∷ []) = ap length is in
    omega (arith, length-append dir (name ∷ []))

pub on_ok_more : {A E : Type 0} {P Q : Type 0} (r : Result A E) → (P → Q) → OnOk r P → OnOk r Q
on_ok_more (Ok x) more h = more h
on_ok_more (Err e) more h = tt

-- one path more of a list
pub any_step : (p : PathV → Bool) (a b start : Bool) (xs : List PathV) (i : ℕ) (x : PathV) → i < length xs → x ≡ get_or xs i x
    → b ≡ (a || p x) → a ≡ (start || list_any p (take i xs)) → b ≡ (start || list_any p (take (i + 1) xs))
any_step p a b start xs i x below is step before =
    step ∙ ap (λ (c : Bool). c || p x) before ∙ or_assoc start (list_any p (take i xs)) (p x)
    ∙ ap (λ (c : Bool). start || c) (ap (λ (y : PathV). list_any p (take i xs) || p y) is ∙ sym (list_any_more p xs i x below))

pub any_all : (p : PathV → Bool) (a start : Bool) (xs : List PathV) (i : ℕ) → length xs ≤ i → a ≡ (start || list_any p (take i xs)) → a ≡ (start || list_any p xs)
any_all p a start xs i done is = is ∙ ap (λ (ys : List PathV). start || list_any p ys) (take_all i xs done)

-- ---- what stands at a path, or above it

any_or : (p f g : PathV → Bool) → ((x : PathV) → p x ≡ (f x || g x)) → (xs : List PathV) → list_any p xs ≡ (list_any f xs || list_any g xs)
any_or p f g is [] = refl
any_or p f g is (x ∷ xs) = ap₂ ◌||◌ (is x) (any_or p f g is xs) ∙ crossed (f x) (g x) (list_any f xs) (list_any g xs)
  where
    crossed : (a b c d : Bool) → ((a || b) || (c || d)) ≡ ((a || c) || (b || d))
    crossed true b c d = refl
    crossed false true true d = refl
    crossed false true false d = refl
    crossed false false c d = refl

any_alike : (p f : PathV → Bool) → ((x : PathV) → p x ≡ f x) → (xs : List PathV) → list_any p xs ≡ list_any f xs
any_alike p f is [] = refl
any_alike p f is (x ∷ xs) = ap₂ ◌||◌ (is x) (any_alike p f is xs)

any_none : (xs : List PathV) → list_any (λ x. false) xs ≡ false
any_none [] = refl
any_none (x ∷ xs) = any_none xs

pub front_split : (path : PathV) (paths : List PathV)
    → list_any (λ other. is_within other path) paths ≡ (list_any (same_path path) paths || list_any (λ other. is_under other path) paths)
front_split path paths = any_or (λ other. is_within other path) (same_path path) (λ other. is_under other path) split paths
  where
    split : (other : PathV) → is_within other path ≡ (same_path path other || is_under other path)
    split other =
        within_split other path ∙ ap (λ (b : Bool). is_under other path || b) (same_turned other path) ∙ or_comm (is_under other path) (same_path path other)

module _ (table : Paths) (paths : List PathV) (is_table : IsTableOf table paths) (path : PathV) (told : Bool) (is : told ≡ has table path) where
  joined : list_any (λ other. is_within other path) paths ≡ (told || list_any (λ other. is_under other path) paths)
  joined = front_split path paths ∙ ap (λ (b : Bool). b || list_any (λ other. is_under other path) paths) (sym (is ∙ is_table.told path))

  pub front_here : told ≡ true → true ≡ list_any (λ other. is_within other path) paths
  front_here here = sym (joined ∙ ap (λ (b : Bool). b || list_any (λ other. is_under other path) paths) here)

  pub front_none : told ≡ false → path ≡ [] → false ≡ list_any (λ other. is_within other path) paths
  front_none apart none =
      sym (joined ∙ ap (λ (b : Bool). b || list_any (λ other. is_under other path) paths) apart
      ∙ any_alike (λ other. is_under other path) (λ other. false) (λ other. ap (is_under other) none ∙ none_above other) paths ∙ any_none paths)

  pub front_next : told ≡ false → (dir : PathV) (name : List ℕ) → path ≡ dir ++ name ∷ [] → (rest : Bool) → rest ≡ list_any (λ other. is_within other dir) paths
      → rest ≡ list_any (λ other. is_within other path) paths
  front_next apart dir name split rest more =
      more ∙ sym (joined ∙ ap (λ (b : Bool). b || list_any (λ other. is_under other path) paths) apart
      ∙ any_alike (λ other. is_under other path) (λ other. is_within other dir) (λ other. ap (is_under other) split ∙ under_push other dir name) paths)

-- of no paths none passes
pub none_of : (p : PathV → Bool) (paths : List PathV) (told : Bool) → told ≡ (length paths == 0) → told ≡ true → false ≡ list_any p paths
none_of p [] told is none = refl
none_of p (n ∷ paths) told is none = let some : suc (length paths) ≡ 0 = eqb-true (suc (length paths)) 0 (sym is ∙ none) in absurd (omega arith)

-- ---- one test, and then another

pub or_here : (a b told : Bool) → told ≡ a → told ≡ true → true ≡ (a || b)
or_here a b told is here = sym (ap (λ (c : Bool). c || b) (sym is ∙ here))

pub or_next : (a b told rest : Bool) → told ≡ a → told ≡ false → rest ≡ b → rest ≡ (a || b)
or_next a b told rest is apart more = more ∙ sym (ap (λ (c : Bool). c || b) (sym is ∙ apart))
