-- A part of the merge that is one side's own. The key lemmas are settled_by_base, settled_by_head, settled_by_pushed and merged_settled.
use Rattle.std.proofs.Common.{◌≡◌, ◌≢◌, ℕ, ◌||◌, ◌&&◌, not, Bool, true, false, if◌then◌else◌, List, [], ◌∷◌, ◌++◌, nat_eq, refl, sym, ap, ap₂, ◌∙◌, subst, append-nil, Option, Some, None, IsSome, is_some, option_map, true≢false, ◌⊎◌, inl, inr}
use Rattle.std.specs.Bool.{one_answer}
use Rattle.std.specs.Cmp.Lexicographic.{pointwise}
use Rattle.std.specs.Option.{option_or}
use Rattle.std.specs.FinMap as map
use Rattle.std.proofs.lemmas.Bool.{and_parts, or_cases}
use Rattle.ids.proofs.BasicLemmas.{none_from_is_some}
use Rattle.tree_model.specs.declared.node.FileVersion.{FileVersion}
use Rattle.tree_model.specs.declared.node.Node.{Node}
use Rattle.tree_model.specs.declared.node.Node.TheVariants.{Dir, File}
use Rattle.tree_model.specs.Path.{PathV, parent_of, last_name}
use Rattle.tree_model.specs.FileMerge.{same_file, choice, choice_by, only, Choice}
use Rattle.tree_model.specs.Tree.{Tree, IsTree, file_at, file_of, has_dir, is_dir}
use Rattle.tree_model.specs.DirectorySurvival.{Sides, AgreeBelow, choice_at, gets_file, kept_dir, keeps, stays, is_within, is_under, paths_of_all}
use Rattle.tree_model.specs.ConflictCopies.{leaver_at, in_trees, Naming}
use Rattle.tree_model.specs.EmptyPart.{IsEmptyBelow}
use Rattle.tree_model.specs.ThreeWayMerge.{node_at, merged, IsNaming}
use Rattle.tree_model.proofs.BelowLemmas.{within_is, within_of, within_under, under_under, dir_above, dir_above_by, parent_last, parent_push}
use Rattle.tree_model.proofs.ListedLemmas.{any_at}
use Rattle.tree_model.proofs.FileMergeLemmas.{choice_head, same_file-sym}
use Rattle.tree_model.proofs.OneSideLemmas.{not_both, some_of_dir, some_of_file}
use Rattle.tree_model.proofs.UnmovedLemmas.{node_back, dirs_of_head, in_second, in_third}
use Rattle.tree_model.proofs.CopyLemmas.{get-merged_known}
use Rattle.tree_model.proofs.ResultTreeLemmas.{any_keeps, origin, IsCopy, not_root}

-- the merge decides for the tree x, which is one of the three, at each path below
pub record IsSettled (s : Sides) (x : Tree) (d : PathV) : Type 0 where
  pub tree : IsTree x
  pub given : (q : PathV) → IsSome (map.get x q) → in_trees s q ≡ true
  pub files : (q : PathV) → is_under d q ≡ true → choice_at s q ≡ only (file_at x q)
  pub dirs : (q : PathV) → is_under d q ≡ true → kept_dir s q ≡ has_dir x q

in_head : (s : Sides) (q : PathV) → IsSome (map.get s.head q) → in_trees s q ≡ true
in_head s q there = in_second (is_some (map.get s.base q)) (is_some (map.get s.head q)) (is_some (map.get s.pushed q)) there

in_pushed : (s : Sides) (q : PathV) → IsSome (map.get s.pushed q) → in_trees s q ≡ true
in_pushed s q there = in_third (is_some (map.get s.base q)) (is_some (map.get s.head q)) (is_some (map.get s.pushed q)) there

dirs_same : (h b : Bool) → ((h && h) || ((h || h) && not b)) ≡ h
dirs_same true b = refl
dirs_same false b = refl

pub settled_by_base : (s : Sides) (d : PathV) → IsTree s.head → AgreeBelow d s.pushed s.base → IsSettled s s.head d
settled_by_base s d head agree = record {
  tree = head;
  given = in_head s;
  files = λ q under. choice_head (file_at s.base q) (file_at s.head q) (file_at s.pushed q) (agree.files q under);
  dirs = λ q under.
      ap (λ (b : Bool). (has_dir s.head q && has_dir s.pushed q) || ((has_dir s.head q || has_dir s.pushed q) && not b)) (sym (agree.dirs q under))
      ∙ dirs_of_head (has_dir s.head q) (has_dir s.pushed q);
}

pub settled_by_head : (s : Sides) (d : PathV) → IsTree s.head → AgreeBelow d s.pushed s.head → IsSettled s s.head d
settled_by_head s d head agree = record {
  tree = head;
  given = in_head s;
  files = λ q under.
      ap (λ (r : Bool). choice_by r (same_file (file_at s.head q) (file_at s.base q)) (same_file (file_at s.pushed q) (file_at s.base q)) (file_at s.head q) (file_at s.pushed q))
      (same_file-sym (file_at s.pushed q) (file_at s.head q) (agree.files q under));
  dirs = λ q under.
      ap (λ (p : Bool). (has_dir s.head q && p) || ((has_dir s.head q || p) && not (has_dir s.base q))) (agree.dirs q under)
      ∙ dirs_same (has_dir s.head q) (has_dir s.base q);
}

-- head has what base has, and one of base and pushed has nothing: of base's files pushed deleted all, or it alone has some
pushed_alone : (b h p : Option FileVersion) → same_file h b ≡ true → (b ≡ None) ⊎ (p ≡ None) → choice b h p ≡ only p
pushed_alone b h None same none = by h b same
  where
    by : (h b : Option FileVersion) → same_file h b ≡ true → choice b h None ≡ only None
    by None b same = refl
    by (Some g) b same = ap (λ (r : Bool). choice_by false r (same_file None b) (Some g) None) same
pushed_alone b h (Some f) same (inr none) = cc none
pushed_alone b h (Some f) same (inl none) = by h b same none
  where
    by : (h b : Option FileVersion) → same_file h b ≡ true → b ≡ None → choice b h (Some f) ≡ only (Some f)
    by None None same none = refl
    by None (Some a) same none = cc none
    by (Some g) None same none = cc same
    by (Some g) (Some a) same none = cc none

pub dirs_alone : (b h p : Bool) → h ≡ b → (b ≡ false) ⊎ (p ≡ false) → ((h && p) || ((h || p) && not b)) ≡ p
dirs_alone true true true same (inl none) = absurd (true≢false none)
dirs_alone true true true same (inr none) = absurd (true≢false none)
dirs_alone true true false same none = refl
dirs_alone false false true same none = refl
dirs_alone false false false same none = refl
dirs_alone true false p same none = absurd (true≢false (sym same))
dirs_alone false true p same none = absurd (true≢false same)

pub settled_by_pushed : (s : Sides) (d : PathV) → IsTree s.pushed → AgreeBelow d s.head s.base → IsEmptyBelow d s.base ⊎ IsEmptyBelow d s.pushed → IsSettled s s.pushed d
settled_by_pushed s d pushed agree empty = record {
  tree = pushed;
  given = in_pushed s;
  files = λ q under. pushed_alone (file_at s.base q) (file_at s.head q) (file_at s.pushed q) (agree.files q under) (none_of file_of refl q under);
  dirs = λ q under. dirs_alone (has_dir s.base q) (has_dir s.head q) (has_dir s.pushed q) (agree.dirs q under) (none_of is_dir refl q under);
}
  where
    none_of : {Y : Type 0} {y : Y} (f : Option Node → Y) → f None ≡ y → (q : PathV) → is_under d q ≡ true → (f (map.get s.base q) ≡ y) ⊎ (f (map.get s.pushed q) ≡ y)
    none_of f of_none q under = elim empty [ inl none ↦ inl (ap f (none q under) ∙ of_none) | inr none ↦ inr (ap f (none q under) ∙ of_none) ]

-- entries of one directory are below the same directories
pub under_sibling : (d e : PathV) (a b : List ℕ) → is_under d (e ++ a ∷ []) ≡ is_under d (e ++ b ∷ [])
under_sibling [] [] a b = refl
under_sibling [] (m ∷ e) a b = refl
under_sibling (n ∷ d) [] a b = at_end (pointwise nat_eq n a) d ∙ sym (at_end (pointwise nat_eq n b) d)
  where
    at_end : (c : Bool) (d : PathV) → (c && is_under d []) ≡ false
    at_end true [] = refl
    at_end true (k ∷ d) = refl
    at_end false d = refl
under_sibling (n ∷ d) (m ∷ e) a b = ap (λ r. pointwise nat_eq n m && r) (under_sibling d e a b)

pub under_some : (d q : PathV) → is_under d q ≡ true → q ≢ []
under_some [] q e is = true≢false (sym e ∙ ap (is_under []) is)
under_some (n ∷ d) q e is = true≢false (sym e ∙ ap (is_under (n ∷ d)) is)

module _ (naming : Naming) (is_naming : IsNaming naming) (s : Sides) (base : IsTree s.base) (head : IsTree s.head) (pushed : IsTree s.pushed) (x : Tree) (d : PathV) (settled : IsSettled s x d) where
  stays_there : (q : PathV) → is_under d q ≡ true → stays s q ≡ true → has_dir x q ≡ true
  stays_there q under e =
      let found = any_at (keeps s q) (paths_of_all s) e in
      let r = found.path in
      elim (or_cases (is_within q r && kept_dir s r) (is_under q r && gets_file s r) found.passes) [
        | inl h ↦
            let parts = and_parts (is_within q r) (kept_dir s r) h in
            let rest = within_is q r parts.0 in
            let dir : has_dir x r ≡ true = sym (settled.dirs r (within_under d q r under parts.0)) ∙ parts.1 in
            at_or_below r rest.0 rest.1 dir
        | inr h ↦
            let parts = and_parts (is_under q r) (gets_file s r) h in
            let file : is_some (file_at x r) ≡ true =
            or_none (is_some (file_at x r)) (sym (ap (λ (c : Choice). is_some c.main || is_some c.side) (settled.files r (under_under d q r under parts.0))) ∙ parts.1) in
            dir_above x settled.tree q r (under_some d q under) parts.0 (some_of_file (map.get x r) file)
      ]
    where
      or_none : (b : Bool) → (b || false) ≡ true → b ≡ true
      or_none true e = refl
      or_none false e = e

      at_or_below : (r rest : PathV) → r ≡ q ++ rest → has_dir x r ≡ true → has_dir x q ≡ true
      at_or_below r [] is dir = subst (λ p. has_dir x p ≡ true) (is ∙ append-nil q) dir
      at_or_below r (n ∷ rest) is dir =
          dir_above_by x settled.tree q n rest (under_some d q under) (some_of_dir (map.get x (q ++ n ∷ rest)) (subst (λ p. has_dir x p ≡ true) is dir))

  stays_settled : (q : PathV) → is_under d q ≡ true → stays s q ≡ has_dir x q
  stays_settled q under = one_answer (stays s q) (has_dir x q) ((λ e. e), (λ e. e)) (back, stays_there q under)
    where
      back : has_dir x q ≡ true → stays s q ≡ true
      back e =
          let within : is_within q q ≡ true = subst (λ p. is_within q p ≡ true) (append-nil q) (within_of q []) in
          any_keeps s q q (settled.given q (some_of_dir (map.get x q) e)) (ap (λ b. b || (is_under q q && gets_file s q)) (ap₂ ◌&&◌ within (settled.dirs q under ∙ e)))

  node_settled : (q : PathV) → is_under d q ≡ true → node_at s q ≡ map.get x q
  node_settled q under =
      ap₂ (λ (b : Bool) (c : Choice). if b then Some Dir else option_map File c.main) (stays_settled q under) (settled.files q under)
      ∙ node_back (map.get x q)

  pub none_leaves : (q : PathV) → is_under d q ≡ true → is_some (leaver_at s q) ≡ false
  none_leaves q under =
      ap₂ (λ (b : Bool) (c : Choice). is_some (option_or c.side (if b then c.main else None))) (stays_settled q under) (settled.files q under)
      ∙ by (has_dir x q) refl
    where
      by : (b : Bool) → has_dir x q ≡ b → is_some (if b then file_at x q else None) ≡ false
      by true is = ap is_some (not_both (map.get x q) is)
      by false is = refl

  pub merged_settled : (q : PathV) → is_under d q ≡ true → map.get (merged naming s) q ≡ map.get x q
  merged_settled q under = by (in_trees s q) refl
    where
      no_own : in_trees s q ≡ false → map.get x q ≡ None
      no_own e = none_from_is_some (map.get x q) (test (is_some (map.get x q)) refl)
        where
          test : (b : Bool) → is_some (map.get x q) ≡ b → is_some (map.get x q) ≡ false
          test true is = absurd (true≢false (sym (settled.given q is) ∙ e))
          test false is = is

      no_copy : IsCopy naming s q → ⊥
      no_copy copy =
          let p : PathV = copy.of.0 in
          let dir : parent_of q ≡ parent_of p = ap parent_of copy.at ∙ parent_push (parent_of p) _ in
          let whole : q ≡ parent_of p ++ last_name q ∷ [] = parent_last q (under_some d q under) ∙ ap (λ e. e ++ last_name q ∷ []) dir in
          let other : p ≡ parent_of p ++ last_name p ∷ [] = parent_last p (not_root naming is_naming s base head pushed p copy.known) in
          let below : is_under d p ≡ true = ap (is_under d) other ∙ under_sibling d (parent_of p) (last_name p) (last_name q) ∙ ap (is_under d) (sym whole) ∙ under in
          true≢false (sym copy.leaves ∙ none_leaves p below)

      nothing : in_trees s q ≡ false → (o : Option Node) → map.get (merged naming s) q ≡ o → map.get (merged naming s) q ≡ None
      nothing known None e = e
      nothing known (Some node) e =
          elim (origin naming s q (ap is_some e)) [
            | inl there ↦ absurd (true≢false (sym there ∙ known))
            | inr copy ↦ absurd (no_copy copy)
          ]

      by : (b : Bool) → in_trees s q ≡ b → map.get (merged naming s) q ≡ map.get x q
      by true known = get-merged_known naming is_naming s q known ∙ node_settled q under
      by false known = nothing known (map.get (merged naming s) q) refl ∙ sym (no_own known)

pub alone_is_head : (naming : Naming) (s : Sides) → IsNaming naming → IsTree s.base → IsTree s.head → IsTree s.pushed → (d : PathV)
    → (AgreeBelow d s.pushed s.base) ⊎ (AgreeBelow d s.pushed s.head) → (q : PathV) → is_under d q ≡ true → map.get (merged naming s) q ≡ map.get s.head q
alone_is_head naming s is_naming base head pushed d (inl agree) q under = merged_settled naming is_naming s base head pushed s.head d (settled_by_base s d head agree) q under
alone_is_head naming s is_naming base head pushed d (inr agree) q under = merged_settled naming is_naming s base head pushed s.head d (settled_by_head s d head agree) q under

pub alone_is_pushed : (naming : Naming) (s : Sides) → IsNaming naming → IsTree s.base → IsTree s.head → IsTree s.pushed → (d : PathV)
    → AgreeBelow d s.head s.base → IsEmptyBelow d s.base ⊎ IsEmptyBelow d s.pushed → (q : PathV) → is_under d q ≡ true → map.get (merged naming s) q ≡ map.get s.pushed q
alone_is_pushed naming s is_naming base head pushed d agree empty = merged_settled naming is_naming s base head pushed s.pushed d (settled_by_pushed s d pushed agree empty)
