-- A changed folder is a folder. The key lemmas are IsFolder-with, IsFolder-without and IsFolder-nameless.
use Rattle.std.proofs.Common.{◌≡◌, ◌≢◌, ◌↔◌, inl, inr, ℕ, ◌<◌, ◌||◌, not, Bool, true, false, cond, List, [], ◌∷◌, ◌++◌, refl, sym, ap, ◌∙◌, subst, Option, Some, None, IsSome, is_some, unwrap_or, true≢false, arith}
use Rattle.std.specs.List.{list_any}
use Rattle.std.specs.FinMap as map
use Rattle.tree_model.specs.DirectorySurvival.{is_under}
use Rattle.tree_model.specs.Path.{PathV, IsPath, path_cmp, parent_of}
use Rattle.tree_model.specs.PathOrder.{paths_total}
use Rattle.tree_model.proofs.BelowLemmas.{parent_push, under_of}
use Rattle.tree_model.proofs.MovingLemmas.{In, in_found}
use Rattle.tree_model.proofs.ListedLemmas.{same_path, same_path-true, same_path-apart}
use Rattle.folder_side.specs.declared.holding.Holding.{Holding}
use Rattle.folder_side.specs.declared.holding.Holding.TheVariants.{Dir, File, Other}
use Rattle.folder_side.specs.Folder.{Contents, IsFolder, at, nameless_at, is_dir, is_dir_at, CanStand, IsEmptyDir, IsRemovable, with_holding, without}
use Rattle.folder_side.specs.MemoryFolder.{nothing, with_nameless}
use Rattle.folder_side.proofs.SortedEntryLemmas.{Rises-entries, found_of}
use Rattle.std.proofs.lemmas.Bool.{or_right}

pub IsFolder-nothing : IsFolder nothing
IsFolder-nothing = record {
  no_root = none [];
  in_dirs = λ dir name other there. absurd (true≢false (sym there ∙ ap is_some (none (dir ++ name ∷ []))));
  named = λ path there. absurd (true≢false (sym there ∙ ap is_some (none path)));
  nameless_in_dirs = λ dir other many. let zero : nameless_at nothing dir ≡ 0 = ap (λ o. unwrap_or o 0) (map.get-empty {X = ℕ} path_cmp dir) in absurd (omega arith);
}
  where
    none : (q : PathV) → at nothing q ≡ None
    none q = map.get-empty {X = Holding} path_cmp q

pub dir_is : (o : Option Holding) → is_dir o ≡ true → o ≡ Some Dir
dir_is None e = cc
dir_is (Some Dir) e = refl
dir_is (Some (File bytes)) e = cc
dir_is (Some Other) e = cc

pub dir_at : (c : Contents) (dir : PathV) → dir ≢ [] → is_dir_at c dir ≡ true → at c dir ≡ Some Dir
dir_at c [] other e = absurd (other refl)
dir_at c (name ∷ path) other e = dir_is (at c (name ∷ path)) e

longer : (dir : PathV) (name : List ℕ) → dir ≢ dir ++ name ∷ []
longer [] name e = cc
longer (n ∷ dir) name e = let f : dir ≡ dir ++ name ∷ [] = cc in longer dir name f

-- an entry at a path where it may stand, and where no directory was
pub IsFolder-with : (c : Contents) (path : PathV) (holding : Holding) → IsFolder c → IsPath path → CanStand c path → (at c path ≡ Some Dir → ⊥)
    → IsFolder (with_holding path holding c)
IsFolder-with c path holding folder good stands no_dir = record {
  no_root = other_path [] (λ e. stands.other (sym e)) ∙ folder.no_root;
  in_dirs = λ dir name other there. kept dir (in_dir dir name other there (same_path (dir ++ name ∷ []) path) refl);
  named = λ q there. named_by q there (same_path q path) refl;
  nameless_in_dirs = λ dir other many. kept dir (folder.nameless_in_dirs dir other many);
}
  where
    new : Contents
    new = with_holding path holding c

    got : (q : PathV) → at (with_holding path holding c) q ≡ cond (same_path q path) (Some holding) (at c q)
    got q = map.get-insert paths_total c.paths path holding q

    other_by : (q : PathV) → same_path q path ≡ false → at (with_holding path holding c) q ≡ at c q
    other_by q e = got q ∙ ap (λ b. cond b (Some holding) (at c q)) e

    other_path : (q : PathV) → q ≢ path → at (with_holding path holding c) q ≡ at c q
    other_path q apart = other_by q (same_path-apart q path apart)

    -- a directory stays one
    kept : (dir : PathV) → at c dir ≡ Some Dir → at (with_holding path holding c) dir ≡ Some Dir
    kept dir is = other_path dir (λ e. no_dir (ap (at c) (sym e) ∙ is)) ∙ is

    in_dir : (dir : PathV) (name : List ℕ) → dir ≢ [] → IsSome (at (with_holding path holding c) (dir ++ name ∷ [])) → (b : Bool) → same_path (dir ++ name ∷ []) path ≡ b → at c dir ≡ Some Dir
    in_dir dir name other there true e =
        let is : dir ++ name ∷ [] ≡ path = same_path-true (dir ++ name ∷ []) path e in
        let above : parent_of path ≡ dir = ap parent_of (sym is) ∙ parent_push dir name in
        dir_at c dir other (ap (is_dir_at c) (sym above) ∙ stands.in_dir)
    in_dir dir name other there false e = folder.in_dirs dir name other (ap is_some (sym (other_by (dir ++ name ∷ []) e)) ∙ there)

    named_by : (q : PathV) → IsSome (at (with_holding path holding c) q) → (b : Bool) → same_path q path ≡ b → IsPath q
    named_by q there true e = subst IsPath (sym (same_path-true q path e)) good
    named_by q there false e = folder.named q (ap is_some (sym (other_by q e)) ∙ there)

-- what is removed has nothing in it
empty_of : (c : Contents) (path : PathV) → IsRemovable c path (at c path) → at c path ≡ Some Dir → IsEmptyDir c path
empty_of c path can is = subst (IsRemovable c path) is can

pub IsFolder-without : (c : Contents) (path : PathV) → IsFolder c → IsRemovable c path (at c path) → IsFolder (without path c)
IsFolder-without c path folder can = record {
  no_root = gone [] folder.no_root;
  in_dirs = λ dir name other there.
      let before = was (dir ++ name ∷ []) there in
      let is = folder.in_dirs dir name other before in
      keeps dir is (λ e.
      let empty = empty_of c path can (ap (at c) (sym e) ∙ is) in
      let none = empty.under (dir ++ name ∷ []) (ap (λ d. is_under d (dir ++ name ∷ [])) (sym e) ∙ under_of dir name []) in
      true≢false (sym before ∙ ap is_some none));
  named = λ q there. folder.named q (was q there);
  nameless_in_dirs = λ dir other many.
      let is = folder.nameless_in_dirs dir other many in
      keeps dir is (λ e.
      let empty = empty_of c path can (ap (at c) (sym e) ∙ is) in
      let zero : nameless_at c dir ≡ 0 = ap (nameless_at c) e ∙ empty.nameless in
      absurd (omega arith));
}
  where
    got : (q : PathV) → at (without path c) q ≡ cond (same_path q path) None (at c q)
    got q = map.get-remove paths_total c.paths path q

    gone_by : (q : PathV) (b : Bool) → at c q ≡ None → cond b None (at c q) ≡ None
    gone_by q true none = refl
    gone_by q false none = none

    gone : (q : PathV) → at c q ≡ None → at (without path c) q ≡ None
    gone q none = got q ∙ gone_by q (same_path q path) none

    was_by : (q : PathV) (b : Bool) → IsSome (cond b None (at c q)) → IsSome (at c q)
    was_by q true there = cc
    was_by q false there = there

    was : (q : PathV) → IsSome (at (without path c) q) → IsSome (at c q)
    was q there = was_by q (same_path q path) (ap is_some (sym (got q)) ∙ there)

    keeps : (q : PathV) → at c q ≡ Some Dir → q ≢ path → at (without path c) q ≡ Some Dir
    keeps q is apart = got q ∙ ap (λ b. cond b None (at c q)) (same_path-apart q path apart) ∙ is

pub IsFolder-nameless : (c : Contents) (dir : PathV) (count : ℕ) → IsFolder c → is_dir_at c dir ≡ true → IsFolder (with_nameless dir count c)
IsFolder-nameless c dir count folder is = record {
  no_root = folder.no_root;
  in_dirs = folder.in_dirs;
  named = folder.named;
  nameless_in_dirs = λ d other many. by d other many (same_path d dir) refl;
}
  where
    by : (d : PathV) → d ≢ [] → 0 < nameless_at (with_nameless dir count c) d → (b : Bool) → same_path d dir ≡ b → at c d ≡ Some Dir
    by d other many true e =
        let same : d ≡ dir = same_path-true d dir e in
        dir_at c d other (ap (is_dir_at c) same ∙ is)
    by d other many false e =
        let before : nameless_at (with_nameless dir count c) d ≡ nameless_at c d =
        ap (λ o. unwrap_or o 0) (map.get-insert paths_total c.nameless dir count d ∙ ap (λ b. cond b (Some count) (map.get c.nameless d)) e) in
        folder.nameless_in_dirs d other (omega (arith, many, before))

-- ---- an empty directory

any_found : (dir : PathV) (es : List (PathV × Holding)) (e : PathV × Holding) → In e es → is_under dir e.0 ≡ true → list_any (λ entry. is_under dir entry.0) es ≡ true
any_found dir [] e there under = absurd there
any_found dir (f ∷ es) e (inl is) under = ap (λ b. b || list_any (λ entry. is_under dir entry.0) es) (ap (λ (g : PathV × Holding). is_under dir g.0) (sym is) ∙ under)
any_found dir (f ∷ es) e (inr there) under = or_right (is_under dir f.0) (list_any (λ entry. is_under dir entry.0) es) (any_found dir es e there under)

pub record SomeUnder (dir : PathV) (es : List (PathV × Holding)) : Type 0 where
  pub entry : PathV × Holding
  pub there : In entry es
  pub under : is_under dir entry.0 ≡ true

some_under : (dir : PathV) (es : List (PathV × Holding)) → list_any (λ entry. is_under dir entry.0) es ≡ true → SomeUnder dir es
some_under dir [] e = cc
some_under dir (f ∷ es) e = by (is_under dir f.0) refl e (some_under dir es)
  where
    by : (b : Bool) → is_under dir f.0 ≡ b → (b || list_any (λ entry. is_under dir entry.0) es) ≡ true → (list_any (λ entry. is_under dir entry.0) es ≡ true → SomeUnder dir es) → SomeUnder dir (f ∷ es)
    by true is e more = record { entry = f; there = inl refl; under = is }
    by false is e more = let found = more e in record { entry = found.entry; there = inr found.there; under = found.under }

-- whether nothing is under a directory, by a look at each entry
pub IsEmptyDir-test : (c : Contents) (dir : PathV) (b : Bool) → nameless_at c dir ≡ 0 → b ≡ list_any (λ entry. is_under dir entry.0) (map.entries c.paths)
    → (not b ≡ true) ↔ IsEmptyDir c dir
IsEmptyDir-test c dir b zero is = (to b is, from b is)
  where
    to : (b : Bool) → b ≡ list_any (λ entry. is_under dir entry.0) (map.entries c.paths) → not b ≡ true → IsEmptyDir c dir
    to true is e = cc
    to false is e = record { under = λ path under. nothing_at path under (at c path) refl; nameless = zero }
      where
        nothing_at : (path : PathV) → is_under dir path ≡ true → (o : Option Holding) → at c path ≡ o → at c path ≡ None
        nothing_at path under None e = e
        nothing_at path under (Some h) e =
            let there = in_found (map.entries c.paths) path h (sym (map.get-entries c.paths path) ∙ e) in
            absurd (true≢false (sym (any_found dir (map.entries c.paths) (path, h) there under) ∙ sym is))

    from : (b : Bool) → b ≡ list_any (λ entry. is_under dir entry.0) (map.entries c.paths) → IsEmptyDir c dir → not b ≡ true
    from false is empty = refl
    from true is empty =
        let found = some_under dir (map.entries c.paths) (sym is) in
        let there = map.get-entries c.paths found.entry.0 ∙ found_of (map.entries c.paths) found.entry (Rises-entries c.paths) found.there in
        absurd (true≢false (ap is_some (sym there ∙ empty.under found.entry.0 found.under)))
