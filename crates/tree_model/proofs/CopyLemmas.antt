-- Conflict copies of a merge. The key lemmas are copies_free, copy_of, leaver_from and get-merged_known.
use Rattle.std.proofs.Common.{◌≡◌, ℕ, suc, ◌+◌, ◌≤◌, Bool, true, false, if◌then◌else◌, List, [], ◌∷◌, ◌++◌, length, All, Contains, refl, sym, ap, ap₂, ◌∙◌, Option, Some, None, is_some, arith, length-append, true≢false, inl, inr}
use Rattle.std.proofs.lemmas.List.{append_cancel_left, length-map}
use Rattle.std.proofs.lemmas.List.Elements.{All-from_recursion}
use Rattle.std.specs.List.{AllByRecursion}
use Rattle.std.specs.Option.{option_or}
use Rattle.std.specs.FinMap as map
use Rattle.tree_model.specs.declared.node.FileVersion.{FileVersion}
use Rattle.tree_model.specs.declared.node.Node.{Node}
use Rattle.tree_model.specs.declared.node.Node.TheVariants.{File}
use Rattle.tree_model.specs.Path.{PathV, path_cmp, parent_of, last_name}
use Rattle.tree_model.specs.DirectorySurvival.{Sides, paths_of_all}
use Rattle.tree_model.specs.ConflictCopies.{leaver_at, leavers, in_trees, Naming, conflicts, tries, conflict_spot}
use Rattle.tree_model.specs.ThreeWayMerge.{node_at, merged, IsNaming}
use Rattle.tree_model.proofs.ListedLemmas.{same_path-apart, is_in, listed, get-told}
use Rattle.tree_model.proofs.MovingLemmas.{In, or_none, moves_free, placed, Placed, none_moved, in_found, found_in}
use Rattle.tree_model.proofs.MergeLemmas.{copies, get-merged}

pub contains_in : {X : Type 0} (x : X) (xs : List X) → In x xs → Contains xs x
contains_in x [] h = absurd h
contains_in x (y ∷ ys) (inl e) = (0, omega arith, sym e)
contains_in x (y ∷ ys) (inr h) =
    let more = contains_in x ys h in
    (suc more.0, omega (arith, more.1), more.2)

pub keys_len : {X : Type 0} (m : map.FinMap path_cmp X) → length (map.keys m) ≡ map.len m
keys_len m = length-map (map.entries m) (λ e. e.0) ∙ sym (map.len-entries m)

-- enough numbers are tried
pub enough : (s : Sides) → length (paths_of_all s) + length (map.entries (leavers s)) ≤ tries s
enough s =
    let b = keys_len s.base in
    let h = keys_len s.head in
    let p = keys_len s.pushed in
    let l = map.len-entries (leavers s) in
    let one = length-append (map.keys s.base) (map.keys s.head) in
    let two = length-append (map.keys s.base ++ map.keys s.head) (map.keys s.pushed) in
    omega arith

abbrev none_taken : List PathV
none_taken = []

module _ (naming : Naming) (is_naming : IsNaming naming) where
  pub spots_apart : (x : PathV × FileVersion) (i j : ℕ) → conflict_spot naming x (1 + i) ≡ conflict_spot naming x (1 + j) → i ≡ j
  spots_apart x i j e =
      let ends : naming (last_name x.0) x.1.modifier x.1.mtime (1 + i) ∷ [] ≡ naming (last_name x.0) x.1.modifier x.1.mtime (1 + j) ∷ [] =
      append_cancel_left (parent_of x.0) (naming (last_name x.0) x.1.modifier x.1.mtime (1 + i) ∷ []) (naming (last_name x.0) x.1.modifier x.1.mtime (1 + j) ∷ []) e in
      let same : 1 + i ≡ 1 + j = is_naming.apart (last_name x.0) x.1.modifier x.1.mtime (1 + i) (1 + j) (omega arith) (omega arith) (head_same ends) in
      omega arith
    where
      head_same : {x y : List ℕ} → x ∷ [] ≡ y ∷ [] → x ≡ y
      head_same e = cc

  module _ (s : Sides) where
    pub in_list : (q : PathV) → in_trees s q ≡ true → is_in q (paths_of_all s) ≡ true
    in_list q e = listed s q ∙ e

    enough_from_none : length (paths_of_all s) + length none_taken + length (map.entries (leavers s)) ≤ tries s
    enough_from_none = omega (arith, enough s)

    -- no copy takes a path of the three trees
    pub copies_free : (m : (PathV × FileVersion) × PathV) → In m (conflicts naming s) → in_trees s m.1 ≡ false
    copies_free m h =
        (or_none (in_trees s m.1) false (moves_free (in_trees s) (conflict_spot naming) (paths_of_all s) in_list spots_apart (tries s) (map.entries (leavers s)) [] enough_from_none m h)).0

    all_in : (ms : List ((PathV × FileVersion) × PathV)) → ((m : (PathV × FileVersion) × PathV) → In m ms → in_trees s m.1 ≡ false) → AllByRecursion (λ m. in_trees s m.1 ≡ false) ms
    all_in [] all = tt
    all_in (m ∷ ms) all = (all m (inl refl), all_in ms (λ n there. all n (inr there)))

    pub all_free : All (λ (m : (PathV × FileVersion) × PathV). in_trees s m.1 ≡ false) (conflicts naming s)
    all_free = All-from_recursion (λ (m : (PathV × FileVersion) × PathV). in_trees s m.1 ≡ false) (conflicts naming s) (all_in (conflicts naming s) copies_free)

    -- each file that leaves has its copy
    pub copy_of : (x : PathV × FileVersion) → In x (map.entries (leavers s)) → Placed (λ (y : PathV × FileVersion). File y.1) (conflicts naming s) x
    copy_of x h = placed (λ (y : PathV × FileVersion). File y.1) (in_trees s) (conflict_spot naming) (paths_of_all s) in_list spots_apart (tries s) (map.entries (leavers s)) [] enough_from_none x h

    -- at a path of the three trees there is no copy
    pub get-merged_known : (q : PathV) → in_trees s q ≡ true → map.get (merged naming s) q ≡ node_at s q
    get-merged_known q known =
        get-merged naming s q
        ∙ ap₂ (λ (o : Option Node) (b : Bool). option_or o (if b then node_at s q else None)) none known
      where
        none : map.find path_cmp q (copies naming s) ≡ None
        none = none_moved (λ (y : PathV × FileVersion). File y.1) (conflicts naming s) q
            (λ m there. same_path-apart q m.1 (λ e. true≢false (sym known ∙ ap (in_trees s) e ∙ copies_free m there)))

pub get-leavers : (s : Sides) (q : PathV) → map.get (leavers s) q ≡ (if in_trees s q then leaver_at s q else None)
get-leavers s q = get-told (leaver_at s) (paths_of_all s) q ∙ ap (λ (b : Bool). if b then leaver_at s q else None) (listed s q)

pub leaver_in : (s : Sides) (q : PathV) (f : FileVersion) → in_trees s q ≡ true → leaver_at s q ≡ Some f → In (q, f) (map.entries (leavers s))
leaver_in s q f known is =
    in_found (map.entries (leavers s)) q f
    (sym (map.get-entries (leavers s) q) ∙ get-leavers s q ∙ ap (λ (b : Bool). if b then leaver_at s q else None) known ∙ is)

-- what a copy comes from: a path of the trees at which a file leaves
pub record LeavesFrom (s : Sides) (q : PathV) : Type 0 where
  pub known : in_trees s q ≡ true
  pub leaves : is_some (leaver_at s q) ≡ true

pub leaver_from : (s : Sides) (e : PathV × FileVersion) → In e (map.entries (leavers s)) → LeavesFrom s e.0
leaver_from s e h =
    by (in_trees s e.0) refl
    (ap is_some (sym (get-leavers s e.0) ∙ map.get-entries (leavers s) e.0) ∙ found_in (map.entries (leavers s)) e h)
  where
    by : (b : Bool) → in_trees s e.0 ≡ b → is_some (if in_trees s e.0 then leaver_at s e.0 else None) ≡ true → LeavesFrom s e.0
    by true is there = record { known = is; leaves = ap (λ (b : Bool). is_some (if b then leaver_at s e.0 else None)) (sym is) ∙ there }
    by false is there = absurd (true≢false (sym there ∙ ap (λ (b : Bool). is_some (if b then leaver_at s e.0 else None)) is))
