-- Entries in the order of their paths. The key lemmas are Rises-entries, found_of, missed, tail_found, same_keys and fewer_keys.
use Rattle.std.proofs.Common.{◌≡◌, inl, inr, suc, ◌≤◌, Bool, true, false, cond, if◌then◌else◌, List, [], ◌∷◌, length, map as map_list, refl, sym, ap, ◌∙◌, subst, Option, Some, None, is_some, true≢false, arith, Less, Equal, Greater, Ordering}
use Rattle.std.proofs.Math.Dec.{T}
use Rattle.std.proofs.lemmas.List.Sums.{length-filter}
use Rattle.std.specs.List.{filter, filter_map, cons_option, count_by}
use Rattle.std.specs.Ordering.{is_eq, is_lt, ordering_reverse}
use Rattle.std.specs.FinMap as map
use Rattle.std.specs.FinMap.Entries.{below_all}
use Rattle.tree_model.specs.Path.{PathV, path_cmp}
use Rattle.tree_model.specs.PathOrder.{paths_total, paths_exact}
use Rattle.tree_model.proofs.ListedLemmas.{same_path, same_path-true, same_path-itself}
use Rattle.tree_model.proofs.MovingLemmas.{In}
use Rattle.ids.proofs.BasicLemmas.{both_from_T, less_from_is_lt}

-- a path stands before every entry
abbrev pub IsBefore : {X : Type 0} → PathV → List (PathV × X) → Type 0
IsBefore q [] = Unit {0}
IsBefore q (e ∷ es) = (path_cmp q e.0 ≡ Less) × IsBefore q es

-- each entry's path stands before those behind it
abbrev pub Rises : {X : Type 0} → List (PathV × X) → Type 0
Rises [] = Unit {0}
Rises (e ∷ es) = IsBefore e.0 es × Rises es

before_of : {X : Type 0} (q : PathV) (es : List (PathV × X)) → T (below_all path_cmp q es) → IsBefore q es
before_of q [] h = tt
before_of q (e ∷ es) h =
    let parts = both_from_T (is_lt (path_cmp q e.0)) (below_all path_cmp q es) h in
    (less_from_is_lt (path_cmp q e.0) parts.0, before_of q es parts.1)

rises_of : {X : Type 0} (es : List (PathV × X)) → T (map.is_sorted path_cmp es) → Rises es
rises_of [] h = tt
rises_of (e ∷ es) h =
    let parts = both_from_T (below_all path_cmp e.0 es) (map.is_sorted path_cmp es) h in
    (before_of e.0 es parts.0, rises_of es parts.1)

-- the entries of a map rise
pub Rises-entries : {X : Type 0} (m : map.FinMap path_cmp X) → Rises (map.entries m)
Rises-entries m = rises_of (map.entries m) (map.entries_sorted m)

-- ---- where a path stands

pub data Place (p q : PathV) : Type 0 where
  before : path_cmp p q ≡ Less → Place p q
  at : p ≡ q → Place p q
  behind : path_cmp q p ≡ Less → Place p q

pub place : (p q : PathV) → Place p q
place p q = by (path_cmp p q) refl
  where
    by : (o : Ordering) → path_cmp p q ≡ o → Place p q
    by Less e = before e
    by Equal e = at (paths_exact p q e)
    by Greater e = behind (paths_total.antisymm q p ∙ ap ordering_reverse e)

pub less_apart : (p q : PathV) → path_cmp p q ≡ Less → same_path p q ≡ false
less_apart p q e = ap is_eq e

pub less_apart_back : (p q : PathV) → path_cmp p q ≡ Less → same_path q p ≡ false
less_apart_back p q e = ap is_eq (paths_total.antisymm q p ∙ ap ordering_reverse e)

pub before_all : {X : Type 0} (p q : PathV) (es : List (PathV × X)) → path_cmp p q ≡ Less → IsBefore q es → IsBefore p es
before_all p q [] e h = tt
before_all p q (f ∷ es) e h = (paths_total.trans p q f.0 e h.0, before_all p q es e h.1)

-- ---- what is found

pub find_first : {X : Type 0} (e : PathV × X) (es : List (PathV × X)) → map.find path_cmp e.0 (e ∷ es) ≡ Some e.1
find_first e es = ap (λ b. cond b (Some e.1) (map.find path_cmp e.0 es)) (same_path-itself e.0)

-- a path that stands before every entry isn't found
pub missed : {X : Type 0} (q : PathV) (es : List (PathV × X)) → IsBefore q es → map.find path_cmp q es ≡ None
missed q [] h = refl
missed q (e ∷ es) h = ap (λ b. cond b (Some e.1) (map.find path_cmp q es)) (less_apart q e.0 h.0) ∙ missed q es h.1

-- another path is found among the others
pub skip_first : {X : Type 0} (q : PathV) (e : PathV × X) (es : List (PathV × X)) → same_path q e.0 ≡ false → map.find path_cmp q (e ∷ es) ≡ map.find path_cmp q es
skip_first q e es apart = ap (λ b. cond b (Some e.1) (map.find path_cmp q es)) apart

in_before : {X : Type 0} (q : PathV) (e : PathV × X) (es : List (PathV × X)) → IsBefore q es → In e es → path_cmp q e.0 ≡ Less
in_before q e [] h there = absurd there
in_before {X = X} q e (f ∷ es) h (inl is) = subst (λ (g : PathV × X). path_cmp q g.0 ≡ Less) (sym is) h.0
in_before q e (f ∷ es) h (inr there) = in_before q e es h.1 there

-- an entry of the list is found
pub found_of : {X : Type 0} (es : List (PathV × X)) (e : PathV × X) → Rises es → In e es → map.find path_cmp e.0 es ≡ Some e.1
found_of [] e h there = absurd there
found_of {X = X} (f ∷ es) e h (inl is) = subst (λ (g : PathV × X). map.find path_cmp g.0 (f ∷ es) ≡ Some g.1) (sym is) (find_first f es)
found_of (f ∷ es) e h (inr there) = skip_first e.0 f es (less_apart_back f.0 e.0 (in_before f.0 e es h.0 there)) ∙ found_of es e h.1 there

-- ---- two lists with the same paths

module _ {X : Type 0} (test : X → Bool) where
  -- whether something is there that passes
  abbrev pub passes : Option X → Bool
  passes None = false
  passes (Some x) = test x

  -- the path of an entry that passes
  abbrev pub chosen : PathV × X → Option PathV
  chosen e = if test e.1 then Some e.0 else None

  -- the paths of the first list are those of the entries of the second that pass
  abbrev pub HasSameKeys : {Y : Type 0} → List (PathV × Y) → List (PathV × X) → Type 0
  HasSameKeys es fs = (q : PathV) → is_some (map.find path_cmp q es) ≡ passes (map.find path_cmp q fs)

  -- they are among those
  abbrev pub HasFewerKeys : {Y : Type 0} → List (PathV × Y) → List (PathV × X) → Type 0
  HasFewerKeys es fs = (q : PathV) → is_some (map.find path_cmp q es) ≡ true → passes (map.find path_cmp q fs) ≡ true

  none_passes : (o : Option X) → o ≡ None → passes o ≡ false
  none_passes o e = ap passes e

  length_chosen_by : (b : Bool) (f : PathV × X) (ps : List PathV) (gs : List (PathV × X)) → length ps ≡ length gs
      → length (cons_option (if b then Some f.0 else None) ps) ≡ length (cond b (f ∷ gs) gs)
  length_chosen_by true f ps gs e = ap suc e
  length_chosen_by false f ps gs e = e

  length_chosen_filter : (fs : List (PathV × X)) → length (filter_map chosen fs) ≡ length (filter (λ f. test f.1) fs)
  length_chosen_filter [] = refl
  length_chosen_filter (f ∷ fs) = length_chosen_by (test f.1) f (filter_map chosen fs) (filter (λ f. test f.1) fs) (length_chosen_filter fs)

  -- what passes is counted by its paths
  pub length_chosen : (fs : List (PathV × X)) → length (filter_map chosen fs) ≡ count_by (λ f. test f.1) fs
  length_chosen fs = length_chosen_filter fs ∙ length-filter (λ f. test f.1) fs

  longer : (b : Bool) (p : PathV) (ps : List PathV) → length ps ≤ length (cons_option (if b then Some p else None) ps)
  longer true p ps = omega arith
  longer false p ps = omega arith

  module _ {Y : Type 0} where
    -- an entry that doesn't pass can be left out
    without_first : (f : PathV × X) (fs : List (PathV × X)) (es : List (PathV × Y)) → IsBefore f.0 fs → is_some (map.find path_cmp f.0 es) ≡ false
        → HasSameKeys es (f ∷ fs) → HasSameKeys es fs
    without_first f fs es h none same q = split (same_path q f.0) refl
      where
        split : (b : Bool) → same_path q f.0 ≡ b → is_some (map.find path_cmp q es) ≡ passes (map.find path_cmp q fs)
        split true is =
            let path : q ≡ f.0 = same_path-true q f.0 is in
            ap (λ p. is_some (map.find path_cmp p es)) path ∙ none
            ∙ sym (ap (λ p. passes (map.find path_cmp p fs)) path ∙ none_passes (map.find path_cmp f.0 fs) (missed f.0 fs h))
        split false is = same q ∙ ap passes (skip_first q f fs is)

    -- a path that both begin with can be left out
    without_both : (f : PathV × X) (fs : List (PathV × X)) (e : PathV × Y) (es : List (PathV × Y)) → f.0 ≡ e.0 → IsBefore f.0 fs → IsBefore e.0 es
        → HasSameKeys (e ∷ es) (f ∷ fs) → HasSameKeys es fs
    without_both f fs e es path h k same q = split (same_path q f.0) refl
      where
        split : (b : Bool) → same_path q f.0 ≡ b → is_some (map.find path_cmp q es) ≡ passes (map.find path_cmp q fs)
        split true is =
            let p : q ≡ f.0 = same_path-true q f.0 is in
            ap (λ p. is_some (map.find path_cmp p es)) (p ∙ path) ∙ ap is_some (missed e.0 es k)
            ∙ sym (ap (λ p. passes (map.find path_cmp p fs)) p ∙ none_passes (map.find path_cmp f.0 fs) (missed f.0 fs h))
        split false is =
            let j : same_path q e.0 ≡ false = ap (same_path q) (sym path) ∙ is in
            ap is_some (sym (skip_first q e es j)) ∙ same q ∙ ap passes (skip_first q f fs is)

    abbrev GivesKeys : List (PathV × X) → List (PathV × Y) → Type 0
    GivesKeys fs es = Rises es → HasSameKeys es fs → map_list (λ e. e.0) es ≡ filter_map chosen fs

    same_keys_at : (f : PathV × X) (fs : List (PathV × X)) (e : PathV × Y) (es : List (PathV × Y)) → IsBefore f.0 fs → Rises (e ∷ es) → test f.1 ≡ true
        → HasSameKeys (e ∷ es) (f ∷ fs) → GivesKeys fs es → Place f.0 e.0 → map_list (λ e. e.0) (e ∷ es) ≡ filter_map chosen (f ∷ fs)
    same_keys_at f fs e es h k is same more (before l) =
        let none = missed f.0 (e ∷ es) (l, before_all f.0 e.0 es l k.0) in
        absurd (true≢false (sym (same f.0 ∙ ap passes (find_first f fs) ∙ is) ∙ ap is_some none))
    same_keys_at f fs e es h k is same more (behind l) =
        let none = missed e.0 (f ∷ fs) (l, before_all e.0 f.0 fs l h) in
        absurd (true≢false (sym (ap is_some (find_first e es)) ∙ same e.0 ∙ none_passes (map.find path_cmp e.0 (f ∷ fs)) none))
    same_keys_at f fs e es h k is same more (at path) =
        ap (λ p. p ∷ map_list (λ e. e.0) es) (sym path) ∙ ap (λ ps. f.0 ∷ ps) (more k.1 (without_both f fs e es path h k.0 same))
        ∙ sym (ap (λ b. cons_option (if b then Some f.0 else None) (filter_map chosen fs)) is)

    same_keys_by : (f : PathV × X) (fs : List (PathV × X)) (es : List (PathV × Y)) → IsBefore f.0 fs → Rises es
        → HasSameKeys es (f ∷ fs) → ((es : List (PathV × Y)) → GivesKeys fs es) → (b : Bool) → test f.1 ≡ b
        → map_list (λ e. e.0) es ≡ filter_map chosen (f ∷ fs)
    same_keys_by f fs es h k same more false is =
        let none : is_some (map.find path_cmp f.0 es) ≡ false = same f.0 ∙ ap passes (find_first f fs) ∙ is in
        more es k (without_first f fs es h none same) ∙ sym (ap (λ b. cons_option (if b then Some f.0 else None) (filter_map chosen fs)) is)
    same_keys_by f fs [] h k same more true is = absurd (true≢false (sym (same f.0 ∙ ap passes (find_first f fs) ∙ is)))
    same_keys_by f fs (e ∷ es) h k same more true is = same_keys_at f fs e es h k is same (more es) (place f.0 e.0)

    pub same_keys : (fs : List (PathV × X)) → Rises fs → (es : List (PathV × Y)) → GivesKeys fs es
    same_keys [] h [] k same = refl
    same_keys [] h (e ∷ es) k same = absurd (true≢false (sym (ap is_some (find_first e es)) ∙ same e.0))
    same_keys (f ∷ fs) h es k same = same_keys_by f fs es h.0 k same (same_keys fs h.1) (test f.1) refl

    -- ---- fewer

    fewer_without_first : (f : PathV × X) (fs : List (PathV × X)) (es : List (PathV × Y)) → IsBefore f.0 es → HasFewerKeys es (f ∷ fs) → HasFewerKeys es fs
    fewer_without_first f fs es h all q there = split (same_path q f.0) refl
      where
        split : (b : Bool) → same_path q f.0 ≡ b → passes (map.find path_cmp q fs) ≡ true
        split true is =
            absurd (true≢false (sym there ∙ ap (λ p. is_some (map.find path_cmp p es)) (same_path-true q f.0 is) ∙ ap is_some (missed f.0 es h)))
        split false is = ap passes (sym (skip_first q f fs is)) ∙ all q there

    fewer_without_both : (f : PathV × X) (fs : List (PathV × X)) (e : PathV × Y) (es : List (PathV × Y)) → f.0 ≡ e.0 → IsBefore e.0 es
        → HasFewerKeys (e ∷ es) (f ∷ fs) → HasFewerKeys es fs
    fewer_without_both f fs e es path k all q there = split (same_path q f.0) refl
      where
        split : (b : Bool) → same_path q f.0 ≡ b → passes (map.find path_cmp q fs) ≡ true
        split true is =
            absurd (true≢false (sym there ∙ ap (λ p. is_some (map.find path_cmp p es)) (same_path-true q f.0 is ∙ path) ∙ ap is_some (missed e.0 es k)))
        split false is =
            let j : same_path q e.0 ≡ false = ap (same_path q) (sym path) ∙ is in
            ap passes (sym (skip_first q f fs is)) ∙ all q (ap is_some (skip_first q e es j) ∙ there)

    fewer_at : (f : PathV × X) (fs : List (PathV × X)) (e : PathV × Y) (es : List (PathV × Y)) → IsBefore f.0 fs → Rises (e ∷ es)
        → HasFewerKeys (e ∷ es) (f ∷ fs) → ((es : List (PathV × Y)) → Rises es → HasFewerKeys es fs → length es ≤ length (filter_map chosen fs))
        → Place f.0 e.0 → length (e ∷ es) ≤ length (filter_map chosen (f ∷ fs))
    fewer_at f fs e es h k all more (behind l) =
        let none = missed e.0 (f ∷ fs) (l, before_all e.0 f.0 fs l h) in
        absurd (true≢false (sym (all e.0 (ap is_some (find_first e es))) ∙ none_passes (map.find path_cmp e.0 (f ∷ fs)) none))
    fewer_at f fs e es h k all more (before l) =
        let rest = more (e ∷ es) k (fewer_without_first f fs (e ∷ es) (l, before_all f.0 e.0 es l k.0) all) in
        let step = longer (test f.1) f.0 (filter_map chosen fs) in
        omega (arith, rest, step)
    fewer_at f fs e es h k all more (at path) =
        let rest = more es k.1 (fewer_without_both f fs e es path k.0 all) in
        let here : test f.1 ≡ true =
        ap passes (sym (find_first f fs)) ∙ ap (λ p. passes (map.find path_cmp p (f ∷ fs))) path ∙ all e.0 (ap is_some (find_first e es)) in
        let step : length (filter_map chosen (f ∷ fs)) ≡ suc (length (filter_map chosen fs)) =
        ap (λ b. length (cons_option (if b then Some f.0 else None) (filter_map chosen fs))) here in
        omega (arith, rest, step)

    -- so many different paths are no more than the entries that pass
    pub fewer_keys : (fs : List (PathV × X)) → Rises fs → (es : List (PathV × Y)) → Rises es → HasFewerKeys es fs
        → length es ≤ length (filter_map chosen fs)
    fewer_keys fs h [] k all = omega arith
    fewer_keys [] h (e ∷ es) k all = absurd (true≢false (sym (all e.0 (ap is_some (find_first e es)))))
    fewer_keys (f ∷ fs) h (e ∷ es) k all = fewer_at f fs e es h.0 k all (fewer_keys fs h.1) (place f.0 e.0)
