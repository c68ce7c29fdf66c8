-- What is left of a checkout, and which directories stay stuck. The key lemmas are stuck_goes_on, held_in_order and held_listed.
use Rattle.std.proofs.Common.{◌≡◌, ◌≢◌, ◌↔◌, ◌<◌, ◌&&◌, ◌||◌, ℕ, zero, suc, not, Bool, true, false, if◌then◌else◌, List, [], ◌∷◌, ◌++◌, refl, sym, ap, ◌∙◌, subst, Option, Some, None, IsSome, is_some, unwrap_or, option_and_then, true≢false, ltb-true, Contains, inl, inr, append-nil, arith}
use Rattle.std.specs.Prelude.{nat_lt, map as list_map}
use Rattle.std.specs.List.{filter_map, cons_option, list_any}
use Rattle.std.specs.FinMap as map
use Rattle.tree_model.specs.DirectorySurvival.{is_within, is_under}
use Rattle.tree_model.specs.Path.{PathV}
use Rattle.tree_model.specs.Tree.{Tree}
use Rattle.tree_model.specs.declared.node.Node.{Node}
use Rattle.tree_model.proofs.BelowLemmas.{under_is, within_is}
use Rattle.tree_model.proofs.MovingLemmas.{In, in_found}
use Rattle.folder_side.specs.declared.holding.Holding.{Holding}
use Rattle.folder_side.specs.declared.holding.Holding.TheVariants.{Dir, File, Other}
use Rattle.folder_side.specs.Folder.{Contents, IsFolder, at, is_dir, is_other, nameless_at}
use Rattle.folder_side.specs.WorkingTree.{KeepsHidden, PlainDir, PlainFile, held_list, held_of, is_stuck, lacked, lacks}
use Rattle.folder_side.proofs.ListingLemmas.{dir_above}
use Rattle.folder_side.proofs.SortedEntryLemmas.{Rises-entries, found_of}
use Rattle.std.proofs.lemmas.Bool.{or_cases, or_left, or_right, and_parts, and_from}
use Rattle.ids.proofs.BasicLemmas.{contains_more, inner_is_some}
use Rattle.folder_side.proofs.FolderLemmas.{dir_is}

-- ---- entries that pass a test

module _ {X : Type 0} (test : PathV × X → Bool) where
  any_of : (es : List (PathV × X)) (e : PathV × X) → In e es → test e ≡ true → list_any test es ≡ true
  any_of [] e there is = absurd there
  any_of (f ∷ es) e (inl same) is = ap (λ b. b || list_any test es) (ap test (sym same) ∙ is)
  any_of (f ∷ es) e (inr there) is = by (test f) (any_of es e there is)
    where
      by : (b : Bool) → list_any test es ≡ true → (b || list_any test es) ≡ true
      by true more = refl
      by false more = more

  pub record Passes (es : List (PathV × X)) : Type 0 where
    pub entry : PathV × X
    pub there : In entry es
    pub is : test entry ≡ true

  some_of : (es : List (PathV × X)) → list_any test es ≡ true → Passes es
  some_of [] is = cc
  some_of (f ∷ es) is = by (test f) refl is (some_of es)
    where
      by : (b : Bool) → test f ≡ b → (b || list_any test es) ≡ true → (list_any test es ≡ true → Passes es) → Passes (f ∷ es)
      by true here is rest = record { entry = f; there = inl refl; is = here }
      by false here is rest = let more = rest is in record { entry = more.entry; there = inr more.there; is = more.is }

-- ---- why a directory is stuck

abbrev hides_other : PathV → PathV × Holding → Bool
hides_other dir entry = is_under dir entry.0 && is_other entry.1

abbrev hides_nameless : PathV → PathV × ℕ → Bool
hides_nameless dir entry = is_within dir entry.0 && nat_lt 0 entry.1

-- an entry at or under it that is no file or directory, or has no good name
data Cause (c : Contents) (dir : PathV) : Type 0 where
  other : (path : PathV) → is_under dir path ≡ true → at c path ≡ Some Other → Cause c dir
  nameless : (path : PathV) → is_within dir path ≡ true → nat_lt 0 (nameless_at c path) ≡ true → Cause c dir

is_the_other : (h : Holding) → is_other h ≡ true → h ≡ Other
is_the_other Dir is = cc
is_the_other (File bytes) is = cc
is_the_other Other is = refl

caused : (c : Contents) (dir : PathV)
    → (list_any (hides_other dir) (map.entries c.paths) || list_any (hides_nameless dir) (map.entries c.nameless)) ≡ true → Cause c dir
caused c dir is = elim (or_cases (list_any (hides_other dir) (map.entries c.paths)) (list_any (hides_nameless dir) (map.entries c.nameless)) is) [
  | inl others ↦ of_other (some_of (hides_other dir) (map.entries c.paths) others)
  | inr hidden ↦ of_nameless (some_of (hides_nameless dir) (map.entries c.nameless) hidden)
]
  where
    of_other : Passes (hides_other dir) (map.entries c.paths) → Cause c dir
    of_other found =
        let both = and_parts (is_under dir found.entry.0) (is_other found.entry.1) found.is in
        let there = map.get-entries c.paths found.entry.0 ∙ found_of (map.entries c.paths) found.entry (Rises-entries c.paths) found.there in
        other found.entry.0 both.0 (there ∙ ap Some (is_the_other found.entry.1 both.1))

    of_nameless : Passes (hides_nameless dir) (map.entries c.nameless) → Cause c dir
    of_nameless found =
        let both = and_parts (is_within dir found.entry.0) (nat_lt 0 found.entry.1) found.is in
        let there = map.get-entries c.nameless found.entry.0 ∙ found_of (map.entries c.nameless) found.entry (Rises-entries c.nameless) found.there in
        nameless found.entry.0 both.0 (ap (λ o. nat_lt 0 (unwrap_or o 0)) there ∙ both.1)

hidden_by : (c : Contents) (dir : PathV) → Cause c dir
    → (list_any (hides_other dir) (map.entries c.paths) || list_any (hides_nameless dir) (map.entries c.nameless)) ≡ true
hidden_by c dir (other path under is) =
    or_left (list_any (hides_other dir) (map.entries c.paths)) (list_any (hides_nameless dir) (map.entries c.nameless))
    (any_of (hides_other dir) (map.entries c.paths) (path, Other) (in_found (map.entries c.paths) path Other (sym (map.get-entries c.paths path) ∙ is))
    (and_from (is_under dir path) true under refl))
hidden_by c dir (nameless path within many) = by (map.get c.nameless path) refl many
  where
    by : (o : Option ℕ) → map.get c.nameless path ≡ o → nat_lt 0 (unwrap_or o 0) ≡ true
        → (list_any (hides_other dir) (map.entries c.paths) || list_any (hides_nameless dir) (map.entries c.nameless)) ≡ true
    by None is more = cc
    by (Some count) is more =
        or_right (list_any (hides_other dir) (map.entries c.paths)) (list_any (hides_nameless dir) (map.entries c.nameless))
        (any_of (hides_nameless dir) (map.entries c.nameless) (path, count) (in_found (map.entries c.nameless) path count (sym (map.get-entries c.nameless path) ∙ is))
        (and_from (is_within dir path) (nat_lt 0 count) within more))

-- what hides something is a directory
dir_of : (c : Contents) → IsFolder c → (dir : PathV) → dir ≢ [] → Cause c dir → at c dir ≡ Some Dir
dir_of c folder dir some (other path under is) =
    let below = under_is dir path under in
    dir_above c folder dir below.name below.rest some (ap is_some (ap (at c) (sym below.is) ∙ is))
dir_of c folder dir some (nameless path within many) = by (within_is dir path within).0 (within_is dir path within).1
  where
    positive : 0 < nameless_at c path
    positive = ltb-true 0 (nameless_at c path) many

    by : (rest : PathV) → path ≡ dir ++ rest → at c dir ≡ Some Dir
    by [] is =
        let same : path ≡ dir = is ∙ append-nil dir in
        subst (λ p. at c p ≡ Some Dir) same (folder.nameless_in_dirs path (λ none. some (sym same ∙ none)) positive)
    by (name ∷ rest) is =
        let there : at c path ≡ Some Dir = folder.nameless_in_dirs path (λ none. inner_is_some dir name rest (sym is ∙ none)) positive in
        dir_above c folder dir name rest some (ap is_some (ap (at c) (sym is) ∙ there))

cause_goes : (old new : Contents) → KeepsHidden old new → (dir : PathV) → Cause old dir → Cause new dir
cause_goes old new keeps dir (other path under is) = other path under ((keeps.others path).1 is)
cause_goes old new keeps dir (nameless path within many) = nameless path within (ap (nat_lt 0) (keeps.nameless path) ∙ many)

dir_some : (o : Option Holding) → is_dir o ≡ true → IsSome o
dir_some None is = is
dir_some (Some h) is = refl

stuck_goes : (old new : Contents) → IsFolder old → IsFolder new → KeepsHidden old new → (dir : PathV) → is_stuck old dir ≡ true → is_stuck new dir ≡ true
stuck_goes old new before folder keeps dir is =
    let both = and_parts (is_dir (at old dir)) (list_any (hides_other dir) (map.entries old.paths) || list_any (hides_nameless dir) (map.entries old.nameless)) is in
    let some : dir ≢ [] = λ none. true≢false (sym (dir_some (at old dir) both.0) ∙ ap is_some (ap (at old) none ∙ before.no_root)) in
    let cause = cause_goes old new keeps dir (caused old dir both.1) in
    and_from (is_dir (at new dir)) (list_any (hides_other dir) (map.entries new.paths) || list_any (hides_nameless dir) (map.entries new.nameless))
    (ap is_dir (dir_of new folder dir some cause)) (hidden_by new dir cause)

hidden_back : (old new : Contents) → KeepsHidden old new → KeepsHidden new old
hidden_back old new keeps = record { others = λ path. ((keeps.others path).1, (keeps.others path).0); nameless = λ dir. sym (keeps.nameless dir) }

pub stuck_goes_on : (old new : Contents) → IsFolder old → IsFolder new → KeepsHidden old new → (dir : PathV) → is_stuck new dir ≡ is_stuck old dir
stuck_goes_on old new before after keeps dir =
    both (is_stuck old dir) (is_stuck new dir) (stuck_goes old new before after keeps dir) (stuck_goes new old after before (hidden_back old new keeps) dir)
  where
    both : (a b : Bool) → (a ≡ true → b ≡ true) → (b ≡ true → a ≡ true) → b ≡ a
    both true b there back = there refl
    both false true there back = sym (back refl)
    both false false there back = refl

-- ---- what a folder holds

pub holds_file : (o : Option Holding) (bytes : List ℕ) → option_and_then held_of o ≡ Some (PlainFile bytes) → o ≡ Some (File bytes)
holds_file None bytes is = cc
holds_file (Some Dir) bytes is = cc
holds_file (Some (File own)) bytes is = let same : own ≡ bytes = cc in ap (λ b. Some (File b)) same
holds_file (Some Other) bytes is = cc

pub holds_dir : (o : Option Holding) → option_and_then held_of o ≡ Some PlainDir → o ≡ Some Dir
holds_dir None is = cc
holds_dir (Some Dir) is = refl
holds_dir (Some (File own)) is = cc
holds_dir (Some Other) is = cc

-- ---- the held list

abbrev lacking : Tree → Contents → PathV → Option PathV
lacking tree c path = if is_stuck c path && not (is_some (map.get tree path)) then Some path else None

lacks_is : (tree : Tree) (c : Contents) (entry : PathV × Holding) → lacks tree c entry ≡ lacking tree c entry.0
lacks_is tree c entry = by (is_stuck c entry.0) (map.get tree entry.0)
  where
    by : (b : Bool) (o : Option Node) → (if b then lacked o entry.0 else None) ≡ (if b && not (is_some o) then Some entry.0 else None)
    by true None = refl
    by true (Some here) = refl
    by false o = refl

pub held_in_order : (tree : Tree) (c : Contents) → held_list tree c ≡ filter_map (lacking tree c) (map.keys c.paths)
held_in_order tree c = over (map.entries c.paths)
  where
    over : (es : List (PathV × Holding)) → filter_map (lacks tree c) es ≡ filter_map (lacking tree c) (list_map (λ (e : PathV × Holding). e.0) es)
    over [] = refl
    over (e ∷ es) = λ i. cons_option (lacks_is tree c e i) (over es i)

-- a path that is listed for an entry
record IsLacking (tree : Tree) (c : Contents) (entry : PathV × Holding) (path : PathV) : Type 0 where
  own : path ≡ entry.0
  stuck : is_stuck c entry.0 ≡ true
  none : map.get tree entry.0 ≡ None

lacking_of : (tree : Tree) (c : Contents) (entry : PathV × Holding) (path : PathV) → lacking tree c entry.0 ≡ Some path → IsLacking tree c entry path
lacking_of tree c entry path = by (is_stuck c entry.0) (map.get tree entry.0) refl refl
  where
    by : (b : Bool) (o : Option Node) → is_stuck c entry.0 ≡ b → map.get tree entry.0 ≡ o → (if b && not (is_some o) then Some entry.0 else None) ≡ Some path → IsLacking tree c entry path
    by true None stuck none is = let same : path ≡ entry.0 = cc in record { own = same; stuck = stuck; none = none }
    by true (Some here) stuck there is = cc is
    by false o stuck there is = cc is

lacking_is : (tree : Tree) (c : Contents) (path : PathV) → is_stuck c path ≡ true → map.get tree path ≡ None → lacking tree c path ≡ Some path
lacking_is tree c path stuck none =
    ap (λ (b : Bool). if b && not (is_some (map.get tree path)) then Some path else None) stuck
    ∙ ap (λ (o : Option Node). if not (is_some o) then Some path else None) none

listed_for : (tree : Tree) (c : Contents) (path : PathV) (es : List (PathV × Holding)) → Contains (filter_map (lacks tree c) es) path → (is_stuck c path ≡ true) × (map.get tree path ≡ None)
listed_for tree c path [] there = absurd (omega (arith, there.1))
listed_for tree c path (e ∷ es) there = by (lacks tree c e) (sym (lacks_is tree c e)) there (listed_for tree c path es)
  where
    by : (o : Option PathV) → lacking tree c e.0 ≡ o → Contains (cons_option o (filter_map (lacks tree c) es)) path → (Contains (filter_map (lacks tree c) es) path → (is_stuck c path ≡ true) × (map.get tree path ≡ None))
        → (is_stuck c path ≡ true) × (map.get tree path ≡ None)
    by None is there rest = rest there
    by (Some p) is (zero, below, same) rest =
        let own = lacking_of tree c e p is in
        let one : e.0 ≡ path = sym own.own ∙ same in
        (ap (is_stuck c) (sym one) ∙ own.stuck, ap (map.get tree) (sym one) ∙ own.none)
    by (Some p) is (suc k, below, same) rest = rest (k, omega (arith, below), same)

listed_in : (tree : Tree) (c : Contents) (es : List (PathV × Holding)) (e : PathV × Holding) → In e es → lacks tree c e ≡ Some e.0 → Contains (filter_map (lacks tree c) es) e.0
listed_in tree c [] e there is = absurd there
listed_in tree c (f ∷ es) e (inl same) is =
    let here : lacks tree c f ≡ Some e.0 = ap (lacks tree c) (sym same) ∙ is in
    subst (λ (o : Option PathV). Contains (cons_option o (filter_map (lacks tree c) es)) e.0) (sym here) (0, omega arith, refl)
listed_in tree c (f ∷ es) e (inr there) is = by (lacks tree c f) (listed_in tree c es e there is)
  where
    by : (o : Option PathV) → Contains (filter_map (lacks tree c) es) e.0 → Contains (cons_option o (filter_map (lacks tree c) es)) e.0
    by None more = more
    by (Some p) more = contains_more p e.0 (filter_map (lacks tree c) es) more

pub held_listed : (tree : Tree) (c : Contents) (path : PathV) → Contains (held_list tree c) path ↔ ((is_stuck c path ≡ true) × (map.get tree path ≡ None))
held_listed tree c path = (listed_for tree c path (map.entries c.paths), back)
  where
    back : (is_stuck c path ≡ true) × (map.get tree path ≡ None) → Contains (held_list tree c) path
    back (stuck, none) =
        let dir = dir_is (at c path) (and_parts (is_dir (at c path)) (list_any (hides_other path) (map.entries c.paths) || list_any (hides_nameless path) (map.entries c.nameless)) stuck).0 in
        listed_in tree c (map.entries c.paths) (path, Dir) (in_found (map.entries c.paths) path Dir (sym (map.get-entries c.paths path) ∙ dir))
        (lacks_is tree c (path, Dir) ∙ lacking_is tree c path stuck none)
