-- Merges that one side alone decides. The key lemmas are stays_follows, get-merged_follows and same_len.
use Rattle.std.proofs.Common.{◌≡◌, ◌≢◌, ◌||◌, ◌&&◌, Bool, true, false, cond, if◌then◌else◌, T, List, [], ◌∷◌, ◌++◌, length, refl, sym, ap, ap₂, ◌∙◌, subst, append-nil, Option, Some, None, IsSome, is_some, Ordering, arith, inl, inr}
use Rattle.std.specs.Bool.{one_answer}
use Rattle.std.specs.Ordering.{eq_by_cmp, is_lt}
use Rattle.std.specs.FinMap as map
use Rattle.std.specs.FinMap.Entries.{below_all, same_entries}
use Rattle.std.proofs.lemmas.Bool.{or_cases, and_parts}
use Rattle.tree_model.specs.declared.node.FileVersion.{FileVersion}
use Rattle.tree_model.specs.declared.node.Node.{Node}
use Rattle.tree_model.specs.declared.node.Node.TheVariants.{Dir, File}
use Rattle.tree_model.specs.Path.{PathV, path_cmp}
use Rattle.tree_model.specs.PathOrder.{paths_total, paths_exact}
use Rattle.tree_model.specs.Tree.{Tree, IsTree, file_at, has_dir, file_of, is_dir}
use Rattle.tree_model.specs.DirectorySurvival.{Sides, main_at, side_at, gets_file, kept_dir, keeps, stays, is_within, is_under, paths_of_all}
use Rattle.tree_model.specs.ConflictCopies.{in_trees}
use Rattle.tree_model.proofs.BelowLemmas.{within_is, within_of, dir_above, dir_above_by}
pub use Rattle.tree_model.proofs.BelowLemmas.{some_of_dir}
use Rattle.tree_model.proofs.ListedLemmas.{any_at, any_of, is_in, listed}

-- ---- maps of the same keys have the same length

module _ {K : Type 0} (R : K → K → Ordering) where
  abbrev keyed : {Z : Type 0} → List (K × Z) → List (K × Bool)
  keyed [] = []
  keyed (e ∷ es) = (e.0, true) ∷ keyed es

  keyed-below : {Z : Type 0} (k : K) (es : List (K × Z)) → below_all R k (keyed es) ≡ below_all R k es
  keyed-below k [] = refl
  keyed-below k (e ∷ es) = ap (λ b. is_lt (R k e.0) && b) (keyed-below k es)

  keyed-sorted : {Z : Type 0} (es : List (K × Z)) → map.is_sorted R (keyed es) ≡ map.is_sorted R es
  keyed-sorted [] = refl
  keyed-sorted (e ∷ es) = ap₂ ◌&&◌ (keyed-below e.0 es) (keyed-sorted es)

  keyed-find : {Z : Type 0} (q : K) (es : List (K × Z)) → map.find R q (keyed es) ≡ (if is_some (map.find R q es) then Some true else None)
  keyed-find q [] = refl
  keyed-find q (e ∷ es) = by (eq_by_cmp R q e.0) (keyed-find q es)
    where
      by : (b : Bool) → map.find R q (keyed es) ≡ (if is_some (map.find R q es) then Some true else None)
          → cond b (Some true) (map.find R q (keyed es)) ≡ (if is_some (cond b (Some e.1) (map.find R q es)) then Some true else None)
      by true more = refl
      by false more = more

  keyed-length : {Z : Type 0} (es : List (K × Z)) → length (keyed es) ≡ length es
  keyed-length [] = refl
  keyed-length (e ∷ es) = omega (arith, keyed-length es)

pub same_len : {X Y : Type 0} (m : map.FinMap path_cmp X) (n : map.FinMap path_cmp Y)
    → ((q : PathV) → is_some (map.get m q) ≡ is_some (map.get n q)) → map.len m ≡ map.len n
same_len {X} {Y} m n same =
    let es : List (PathV × X) = map.entries m in
    let fs : List (PathV × Y) = map.entries n in
    let s : T (map.is_sorted path_cmp (keyed path_cmp es)) = subst T (sym (keyed-sorted path_cmp es)) (map.entries_sorted m) in
    let t : T (map.is_sorted path_cmp (keyed path_cmp fs)) = subst T (sym (keyed-sorted path_cmp fs)) (map.entries_sorted n) in
    let found : (q : PathV) → map.find path_cmp q (keyed path_cmp es) ≡ map.find path_cmp q (keyed path_cmp fs) =
    λ q. keyed-find path_cmp q es
    ∙ ap (λ (b : Bool). if b then Some true else None) (ap is_some (sym (map.get-entries m q)) ∙ same q ∙ ap is_some (map.get-entries n q))
    ∙ sym (keyed-find path_cmp q fs) in
    let lists : keyed path_cmp es ≡ keyed path_cmp fs = same_entries path_cmp paths_total paths_exact (keyed path_cmp es) (keyed path_cmp fs) s t found in
    map.len-entries m ∙ sym (keyed-length path_cmp es) ∙ ap length lists ∙ keyed-length path_cmp fs ∙ sym (map.len-entries n)

-- ---- one side decides

-- the merge has the files and directories of the tree x, which is one of the three
pub record Follows (s : Sides) (x : Tree) : Type 0 where
  pub tree : IsTree x
  pub side : (q : PathV) → side_at s q ≡ None
  pub main : (q : PathV) → is_some (main_at s q) ≡ is_some (file_at x q)
  pub dirs : (q : PathV) → kept_dir s q ≡ has_dir x q
  pub given : (q : PathV) → IsSome (map.get x q) → in_trees s q ≡ true
  pub no_root : in_trees s [] ≡ false

pub some_of_file : (o : Option Node) → is_some (file_of o) ≡ true → IsSome o
some_of_file None e = cc
some_of_file (Some node) e = refl

pub not_both : (o : Option Node) → is_dir o ≡ true → file_of o ≡ None
not_both None e = refl
not_both (Some Dir) e = refl
not_both (Some (File f)) e = cc

module _ (s : Sides) (x : Tree) (f : Follows s x) where
  under_dir : (d q : PathV) → d ≢ [] → keeps s d q ≡ true → has_dir x d ≡ true
  under_dir d q other e =
      elim (or_cases (is_within d q && kept_dir s q) (is_under d q && gets_file s q) e) [
        | inl h ↦
            let parts = and_parts (is_within d q) (kept_dir s q) h in
            let dir : has_dir x q ≡ true = sym (f.dirs q) ∙ parts.1 in
            let rest = within_is d q parts.0 in
            at_or_below rest.0 rest.1 dir
        | inr h ↦
            let parts = and_parts (is_under d q) (gets_file s q) h in
            let main : is_some (main_at s q) ≡ true = only_main (is_some (main_at s q)) (side_at s q) (f.side q) parts.1 in
            dir_above x f.tree d q other parts.0 (some_of_file (map.get x q) (sym (f.main q) ∙ main))
      ]
    where
      only_main : (b : Bool) (o : Option FileVersion) → o ≡ None → (b || is_some o) ≡ true → b ≡ true
      only_main true o e h = refl
      only_main false o e h = sym (ap is_some e) ∙ h

      at_or_below : (r : PathV) → q ≡ d ++ r → has_dir x q ≡ true → has_dir x d ≡ true
      at_or_below [] is dir = subst (λ p. has_dir x p ≡ true) (is ∙ append-nil d) dir
      at_or_below (n ∷ r) is dir = dir_above_by x f.tree d n r other (some_of_dir (map.get x (d ++ n ∷ r)) (subst (λ p. has_dir x p ≡ true) is dir))

  pub stays_follows : (d : PathV) → d ≢ [] → stays s d ≡ has_dir x d
  stays_follows d other = one_answer (stays s d) (has_dir x d) ((λ e. e), (λ e. e)) (back, there)
    where
      there : stays s d ≡ true → has_dir x d ≡ true
      there e = let found = any_at (keeps s d) (paths_of_all s) e in under_dir d found.path other found.passes

      back : has_dir x d ≡ true → stays s d ≡ true
      back e =
          let here : is_in d (paths_of_all s) ≡ true = listed s d ∙ f.given d (some_of_dir (map.get x d) e) in
          let within : is_within d d ≡ true = subst (λ p. is_within d p ≡ true) (append-nil d) (within_of d []) in
          let kept : (is_within d d && kept_dir s d) ≡ true = ap₂ ◌&&◌ within (f.dirs d ∙ e) in
          any_of (keeps s d) d (paths_of_all s) here (ap (λ b. b || (is_under d d && gets_file s d)) kept)
