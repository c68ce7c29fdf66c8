-- What stands at each path of the merged tree. The key lemmas are nothing_under, from_side and stands_at.
use Rattle.std.proofs.Common.{◌≡◌, ◌≢◌, ℕ, ◌+◌, ◌≤◌, ◌||◌, Bool, true, false, cond, if◌then◌else◌, List, [], ◌∷◌, ◌++◌, map as map_list, length, refl, sym, ap, ap₂, ◌∙◌, subst, arith, All, Option, Some, None, is_some, option_map, true≢false, ◌⊎◌, inl, inr}
use Rattle.std.proofs.lemmas.List.Elements.{All-from_recursion}
use Rattle.std.specs.List.{AllByRecursion}
use Rattle.std.specs.Option.{option_or}
use Rattle.std.specs.FinMap as map
use Rattle.ids.proofs.BasicLemmas.{pushed_is_some}
use Rattle.tree_model.specs.declared.node.FileVersion.{FileVersion}
use Rattle.tree_model.specs.declared.node.Node.{Node}
use Rattle.tree_model.specs.declared.node.Node.TheVariants.{Dir, File}
use Rattle.tree_model.specs.Path.{PathV, path_cmp, parent_of, last_name}
use Rattle.tree_model.specs.FileMerge.{same_file, choice, choice_by}
use Rattle.tree_model.specs.Tree.{IsTree, file_at}
use Rattle.tree_model.specs.DirectorySurvival.{Sides, main_at, side_at, stays, is_under, paths_of_all}
use Rattle.tree_model.specs.ConflictCopies.{leaver_at, leavers, in_trees, Naming, conflicts, conflict_spot, tries, is_gone, least_free, moves}
use Rattle.tree_model.specs.ThreeWayMerge.{node_at, merged, IsNaming, IsFromSide}
use Rattle.tree_model.proofs.BelowLemmas.{parent_last, parent_push}
use Rattle.tree_model.proofs.ListedLemmas.{same_path, same_path-itself, is_in}
use Rattle.tree_model.proofs.MovingLemmas.{In, or_none, moves_free, found_moved, moved_from}
use Rattle.tree_model.proofs.MergeLemmas.{copies, get-merged}
use Rattle.tree_model.proofs.CopyLemmas.{contains_in, in_list, spots_apart, enough, leaver_from, get-leavers, get-merged_known}
use Rattle.tree_model.proofs.ResultTreeLemmas.{IsCopy, origin, not_root, stays_over_file, stays_over_dir}
use Rattle.tree_model.proofs.SettledLemmas.{under_sibling}
use Rattle.tree_model.proofs.SortedEntryLemmas.{found_sorted}

-- ---- below what does not survive

module _ (naming : Naming) (is_naming : IsNaming naming) (s : Sides) (base : IsTree s.base) (head : IsTree s.head) (pushed : IsTree s.pushed) where
  pub nothing_under : (d q : PathV) → stays s d ≡ false → is_under d q ≡ true → map.get (merged naming s) q ≡ None
  nothing_under d q gone under = by (map.get (merged naming s) q) refl
    where
      at_known : in_trees s q ≡ true → is_some (node_at s q) ≡ true → ⊥
      at_known known some = test (stays s q) (main_at s q) refl refl some
        where
          test : (b : Bool) (o : Option FileVersion) → stays s q ≡ b → main_at s q ≡ o → is_some (if stays s q then Some Dir else option_map File (main_at s q)) ≡ true → ⊥
          test true o stay main some = true≢false (sym (stays_over_dir s d q under stay) ∙ gone)
          test false (Some f) stay main some =
              true≢false (sym (stays_over_file s d q known under (ap (λ (o : Option FileVersion). is_some o || is_some (side_at s q)) main)) ∙ gone)
          test false None stay main some =
              true≢false (sym some ∙ ap₂ (λ (b : Bool) (o : Option FileVersion). is_some (if b then Some Dir else option_map File o)) stay main)

      at_copy : IsCopy naming s q → ⊥
      at_copy copy =
          let p : PathV = copy.of.0 in
          let dir : parent_of q ≡ parent_of p = ap parent_of copy.at ∙ parent_push (parent_of p) _ in
          let some : q ≢ [] = λ e. pushed_is_some (parent_of p) _ (sym copy.at ∙ e) in
          let whole : q ≡ parent_of p ++ last_name q ∷ [] = parent_last q some ∙ ap (λ e. e ++ last_name q ∷ []) dir in
          let other : p ≡ parent_of p ++ last_name p ∷ [] = parent_last p (not_root naming is_naming s base head pushed p copy.known) in
          let below : is_under d p ≡ true = ap (is_under d) other ∙ under_sibling d (parent_of p) (last_name p) (last_name q) ∙ ap (is_under d) (sym whole) ∙ under in
          true≢false (sym (stays_over_file s d p copy.known below copy.gets) ∙ gone)

      by : (o : Option Node) → map.get (merged naming s) q ≡ o → map.get (merged naming s) q ≡ None
      by None e = e
      by (Some node) e =
          elim (origin naming s q (ap is_some e)) [
            | inl known ↦ absurd (at_known known (ap is_some (sym (get-merged_known naming is_naming s q known) ∙ e)))
            | inr copy ↦ absurd (at_copy copy)
          ]

-- ---- nothing is made up

main_from : (b h p : Option FileVersion) (f : FileVersion) → (choice b h p).main ≡ Some f → (h ≡ Some f) ⊎ (p ≡ Some f)
main_from b h p f e = by (same_file h p) (same_file h b) (same_file p b) h p e
  where
    by : (r c d : Bool) (o q : Option FileVersion) → (choice_by r c d o q).main ≡ Some f → (o ≡ Some f) ⊎ (q ≡ Some f)
    by true c d o q e = inl e
    by false true d o q e = inr e
    by false false true o q e = inl e
    by false false false None q e = inr e
    by false false false (Some g) None e = inl e
    by false false false (Some g) (Some k) e = inl e

side_from : (b h p : Option FileVersion) (f : FileVersion) → (choice b h p).side ≡ Some f → p ≡ Some f
side_from b h p f e = by (same_file h p) (same_file h b) (same_file p b) h p e
  where
    by : (r c d : Bool) (o q : Option FileVersion) → (choice_by r c d o q).side ≡ Some f → q ≡ Some f
    by true c d o q e = cc
    by false true d o q e = cc
    by false false true o q e = cc
    by false false false None q e = cc
    by false false false (Some g) None e = cc
    by false false false (Some g) (Some k) e = e

leaver_of_side : (s : Sides) (q : PathV) (f : FileVersion) → leaver_at s q ≡ Some f → (file_at s.head q ≡ Some f) ⊎ (file_at s.pushed q ≡ Some f)
leaver_of_side s q f e = by (side_at s q) (stays s q) refl e
  where
    by : (o : Option FileVersion) (b : Bool) → side_at s q ≡ o → option_or o (if b then main_at s q else None) ≡ Some f → (file_at s.head q ≡ Some f) ⊎ (file_at s.pushed q ≡ Some f)
    by (Some g) b side e = inr (side_from (file_at s.base q) (file_at s.head q) (file_at s.pushed q) f (side ∙ e))
    by None true side e = main_from (file_at s.base q) (file_at s.head q) (file_at s.pushed q) f e
    by None false side e = cc

-- the file of an entry in a list of entries without doubles
in_get : (s : Sides) (x : PathV × FileVersion) → In x (map.entries (leavers s)) → leaver_at s x.0 ≡ Some x.1
in_get s x h =
    let known : in_trees s x.0 ≡ true = (leaver_from s x h).known in
    ap (λ (b : Bool). if b then leaver_at s x.0 else None) (sym known) ∙ sym (get-leavers s x.0) ∙ map.get-entries (leavers s) x.0
    ∙ found_sorted x (map.entries (leavers s)) (map.entries_sorted (leavers s)) h

module _ (naming : Naming) (is_naming : IsNaming naming) (s : Sides) where
  file_back : (b : Bool) (o : Option FileVersion) (f : FileVersion) → (if b then Some Dir else option_map File o) ≡ Some (File f) → o ≡ Some f
  file_back true o f e = cc
  file_back false None f e = cc
  file_back false (Some g) f e = cc

  pub from_side : (q : PathV) (f : FileVersion) → map.get (merged naming s) q ≡ Some (File f) → IsFromSide naming s q f
  from_side q f e = by (in_trees s q) refl
    where
      by : (b : Bool) → in_trees s q ≡ b → IsFromSide naming s q f
      by true known =
          let main : main_at s q ≡ Some f = file_back (stays s q) (main_at s q) f (sym (get-merged_known naming is_naming s q known) ∙ e) in
          record { from = q; side = main_from (file_at s.base q) (file_at s.head q) (file_at s.pushed q) f main; place = inl refl }
      by false known =
          let found : map.find path_cmp q (copies naming s) ≡ Some (File f) =
          none_else (map.find path_cmp q (copies naming s)) (ap (λ (b : Bool). option_or (map.find path_cmp q (copies naming s)) (if b then node_at s q else None)) (sym known) ∙ sym (get-merged naming s q) ∙ e) in
          let came = found_moved (λ (y : PathV × FileVersion). File y.1) (conflicts naming s) q (File f) found in
          let from = moved_from (in_trees s) (conflict_spot naming) (tries s) (map.entries (leavers s)) [] came.from came.there in
          let same : came.from.0.1 ≡ f = unwrap f came.from.0.1 came.is in
          let leaves : leaver_at s came.from.0.0 ≡ Some f = in_get s came.from.0 from.of_list ∙ ap Some same in
          record {
            from = came.from.0.0;
            side = leaver_of_side s came.from.0.0 f leaves;
            place = inr (contains_in ((came.from.0.0, f), q) (conflicts naming s)
                (subst (λ (m : (PathV × FileVersion) × PathV). In m (conflicts naming s)) (λ i. ((came.from.0.0, same i), came.at i)) came.there));
          }
        where
          none_else : (o : Option Node) → option_or o None ≡ Some (File f) → o ≡ Some (File f)
          none_else None e = cc
          none_else (Some v) e = e

          unwrap : (f g : FileVersion) → File f ≡ File g → g ≡ f
          unwrap f g e = cc

-- ---- each copy at its place

module _ {X : Type 0} (is_used : PathV → Bool) (spot : X → ℕ → PathV) (used : List PathV) (is_listed : (q : PathV) → is_used q ≡ true → is_in q used ≡ true)
    (apart : (x : X) (i j : ℕ) → spot x (1 + i) ≡ spot x (1 + j) → i ≡ j) (t : ℕ) (value : X → Node) where
  pub found_at : (xs : List X) (taken : List PathV) → length used + length taken + length xs ≤ t → (m : X × PathV) → In m (moves same_path is_used spot t taken xs)
      → map.find path_cmp m.1 (map_list (λ (m : X × PathV). (m.1, value m.0)) (moves same_path is_used spot t taken xs)) ≡ Some (value m.0)
  found_at [] taken enough m h = absurd h
  found_at (x ∷ xs) taken enough m (inl e) =
      let to : PathV = spot x (least_free same_path is_used spot taken x t 1) in
      let rest : List (X × PathV) = moves same_path is_used spot t (to ∷ taken) xs in
      subst (λ (m : X × PathV). map.find path_cmp m.1 (map_list (λ (m : X × PathV). (m.1, value m.0)) ((x, to) ∷ rest)) ≡ Some (value m.0)) (sym e)
      (ap (λ (b : Bool). cond b (Some (value x)) (map.find path_cmp to (map_list (λ (m : X × PathV). (m.1, value m.0)) rest))) (same_path-itself to))
  found_at (x ∷ xs) taken enough m (inr h) =
      let to : PathV = spot x (least_free same_path is_used spot taken x t 1) in
      let rest : List (X × PathV) = moves same_path is_used spot t (to ∷ taken) xs in
      let free : is_gone same_path is_used spot (to ∷ taken) m.1 ≡ false = moves_free is_used spot used is_listed apart t xs (to ∷ taken) (omega arith) m h in
      let other : same_path m.1 to ≡ false = (or_none (same_path m.1 to) (is_in m.1 taken) (or_none (is_used m.1) (same_path m.1 to || is_in m.1 taken) free).1).0 in
      ap (λ (b : Bool). cond b (Some (value x)) (map.find path_cmp m.1 (map_list (λ (m : X × PathV). (m.1, value m.0)) rest))) other
      ∙ found_at xs (to ∷ taken) (omega arith) m h

module _ (naming : Naming) (is_naming : IsNaming naming) (s : Sides) where
  pub at_place : (m : (PathV × FileVersion) × PathV) → In m (conflicts naming s) → map.get (merged naming s) m.1 ≡ Some (File m.0.1)
  at_place m h =
      get-merged naming s m.1
      ∙ ap (λ (o : Option Node). option_or o (if in_trees s m.1 then node_at s m.1 else None))
      (found_at (in_trees s) (conflict_spot naming) (paths_of_all s) (in_list naming is_naming s) (spots_apart naming is_naming) (tries s)
      (λ (y : PathV × FileVersion). File y.1) (map.entries (leavers s)) [] (omega (arith, enough s)) m h)

  all_in : (ms : List ((PathV × FileVersion) × PathV)) → ((m : (PathV × FileVersion) × PathV) → In m ms → map.get (merged naming s) m.1 ≡ Some (File m.0.1))
      → AllByRecursion (λ (m : (PathV × FileVersion) × PathV). map.get (merged naming s) m.1 ≡ Some (File m.0.1)) ms
  all_in [] all = tt
  all_in (m ∷ ms) all = (all m (inl refl), all_in ms (λ n there. all n (inr there)))

  -- each conflict copy stands at its place
  pub stands_at : All (λ (copy : (PathV × FileVersion) × PathV). map.get (merged naming s) copy.1 ≡ Some (File copy.0.1)) (conflicts naming s)
  stands_at =
      All-from_recursion (λ (copy : (PathV × FileVersion) × PathV). map.get (merged naming s) copy.1 ≡ Some (File copy.0.1)) (conflicts naming s) (all_in (conflicts naming s) at_place)
