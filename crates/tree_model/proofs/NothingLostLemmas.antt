-- No version of a file is lost in a merge. The key lemmas are head_kept and pushed_kept.
use Rattle.std.proofs.Common.{◌≡◌, ◌≢◌, ◌||◌, ◌&&◌, Bool, true, false, if◌then◌else◌, [], ◌∷◌, ◌++◌, refl, sym, ap, ap₂, ◌∙◌, subst, append-nil, Option, Some, None, IsSome, is_some, option_map, true≢false, ◌⊎◌, inl, inr}
use Rattle.std.specs.Option.{option_or}
use Rattle.std.specs.FinMap as map
use Rattle.std.proofs.lemmas.Bool.{and_parts, or_cases}
use Rattle.tree_model.specs.declared.node.FileVersion.{FileVersion}
use Rattle.tree_model.specs.declared.node.Node.{Node}
use Rattle.tree_model.specs.declared.node.Node.TheVariants.{Dir, File}
use Rattle.tree_model.specs.Path.{PathV}
use Rattle.tree_model.specs.FileMerge.{same_version, same_file, choice, choice_by, Choice}
use Rattle.tree_model.specs.Tree.{Tree, IsTree, file_at, has_dir, file_of, is_dir}
use Rattle.tree_model.specs.DirectorySurvival.{Sides, main_at, side_at, gets_file, kept_dir, keeps, stays, is_within, is_under, paths_of_all, choice_at}
use Rattle.tree_model.specs.ConflictCopies.{leaver_at, in_trees, Naming, conflicts}
use Rattle.tree_model.specs.ThreeWayMerge.{node_at, IsNaming, HasVersion}
use Rattle.tree_model.proofs.BelowLemmas.{within_is, dir_above, dir_above_by}
use Rattle.tree_model.proofs.ListedLemmas.{any_at}
use Rattle.tree_model.proofs.OneSideLemmas.{not_both, some_of_dir, some_of_file}
use Rattle.tree_model.proofs.FileMergeLemmas.{same_file-itself, same_file-sym}
use Rattle.tree_model.proofs.MergeLemmas.{get-merged}
use Rattle.tree_model.proofs.CopyLemmas.{contains_in, copy_of, leaver_in, get-merged_known}
use Rattle.tree_model.proofs.UnmovedLemmas.{in_second, in_third}

-- ---- which file the choice keeps

-- a changed file of the head is the main file
pub main_of_head : (b : Option FileVersion) (f : FileVersion) (p : Option FileVersion) → same_file (Some f) b ≡ false → (choice b (Some f) p).main ≡ Some f
main_of_head b f p changed = by (same_file (Some f) p) (same_file (Some f) b) (same_file p b) p changed
  where
    by : (r c d : Bool) (o : Option FileVersion) → c ≡ false → (choice_by r c d (Some f) o).main ≡ Some f
    by true c d o e = refl
    by false true d o e = absurd (true≢false e)
    by false false true o e = refl
    by false false false None e = refl
    by false false false (Some g) e = refl

-- a version that the choice keeps, as the main file or as the side file
pub data Keeps (c : Choice) (g : FileVersion) : Type 0 where
  as_main : (kept : FileVersion) → c.main ≡ Some kept → same_version kept g ≡ true → Keeps c g
  as_side : c.side ≡ Some g → Keeps c g

pub keeps_pushed : (b h : Option FileVersion) (g : FileVersion) → same_file (Some g) b ≡ false → Keeps (choice b h (Some g)) g
keeps_pushed b h g changed = by (same_file h (Some g)) (same_file h b) (same_file (Some g) b) h refl changed
  where
    by : (r c d : Bool) (o : Option FileVersion) → same_file o (Some g) ≡ r → d ≡ false → Keeps (choice_by r c d o (Some g)) g
    by true c d None is e = cc
    by true c d (Some f) is e = as_main f refl is
    by false true d o is e = as_main g refl (same_file-itself (Some g))
    by false false true o is e = absurd (true≢false e)
    by false false false None is e = as_main g refl (same_file-itself (Some g))
    by false false false (Some f) is e = as_side refl

-- a chosen file is one of head or of pushed
pub chosen_from : (b h p : Option FileVersion) → (is_some (choice b h p).main || is_some (choice b h p).side) ≡ true → (is_some h ≡ true) ⊎ (is_some p ≡ true)
chosen_from b (Some f) p e = inl refl
chosen_from b None (Some g) e = inr refl
chosen_from b None None e = absurd (true≢false (sym e))

-- a side file is one where head and pushed both have files
pub record BothFiles (h p : Option FileVersion) : Type 0 where
  pub head : is_some h ≡ true
  pub pushed : is_some p ≡ true

pub side_both : (b h p : Option FileVersion) (g : FileVersion) → (choice b h p).side ≡ Some g → BothFiles h p
side_both b h p g e = by (same_file h p) (same_file h b) (same_file p b) h p e
  where
    by : (r c d : Bool) (o q : Option FileVersion) → (choice_by r c d o q).side ≡ Some g → BothFiles o q
    by true c d o q e = cc
    by false true d o q e = cc
    by false false true o q e = cc
    by false false false None q e = cc
    by false false false (Some f) None e = cc
    by false false false (Some f) (Some k) e = record { head = refl; pushed = refl }

-- ---- no path has two files that leave

module _ (s : Sides) (head : IsTree s.head) (pushed : IsTree s.pushed) where
  -- what is kept or gets a file below a path makes the path a directory of head or of pushed
  dir_of_either : (q r : PathV) → q ≢ [] → is_under q r ≡ true → (IsSome (map.get s.head r)) ⊎ (IsSome (map.get s.pushed r)) → (has_dir s.head q ≡ true) ⊎ (has_dir s.pushed q ≡ true)
  dir_of_either q r other under (inl there) = inl (dir_above s.head head q r other under there)
  dir_of_either q r other under (inr there) = inr (dir_above s.pushed pushed q r other under there)

  kept_in_either : (h p b : Bool) → ((h && p) || ((h || p) && b)) ≡ true → (h ≡ true) ⊎ (p ≡ true)
  kept_in_either true p b e = inl refl
  kept_in_either false true b e = inr refl
  kept_in_either false false b e = absurd (true≢false (sym e))

  pub stays_in_either : (q : PathV) → q ≢ [] → stays s q ≡ true → (has_dir s.head q ≡ true) ⊎ (has_dir s.pushed q ≡ true)
  stays_in_either q other e =
      let found = any_at (keeps s q) (paths_of_all s) e in
      let r = found.path in
      elim (or_cases (is_within q r && kept_dir s r) (is_under q r && gets_file s r) found.passes) [
        | inl h ↦
            let parts = and_parts (is_within q r) (kept_dir s r) h in
            let rest = within_is q r parts.0 in
            at_or_below r rest.0 rest.1 (kept_in_either (has_dir s.head r) (has_dir s.pushed r) _ parts.1)
        | inr h ↦
            let parts = and_parts (is_under q r) (gets_file s r) h in
            dir_of_either q r other parts.0 (file_there r (chosen_from (file_at s.base r) (file_at s.head r) (file_at s.pushed r) parts.1))
      ]
    where
      file_there : (r : PathV) → (is_some (file_at s.head r) ≡ true) ⊎ (is_some (file_at s.pushed r) ≡ true) → (IsSome (map.get s.head r)) ⊎ (IsSome (map.get s.pushed r))
      file_there r (inl e) = inl (some_of_file (map.get s.head r) e)
      file_there r (inr e) = inr (some_of_file (map.get s.pushed r) e)

      dir_by : (t : Tree) → IsTree t → (r rest : PathV) → r ≡ q ++ rest → has_dir t r ≡ true → has_dir t q ≡ true
      dir_by t tree r [] is dir = subst (λ p. has_dir t p ≡ true) (is ∙ append-nil q) dir
      dir_by t tree r (n ∷ rest) is dir = dir_above_by t tree q n rest other (some_of_dir (map.get t (q ++ n ∷ rest)) (subst (λ p. has_dir t p ≡ true) is dir))

      at_or_below : (r rest : PathV) → r ≡ q ++ rest → (has_dir s.head r ≡ true) ⊎ (has_dir s.pushed r ≡ true) → (has_dir s.head q ≡ true) ⊎ (has_dir s.pushed q ≡ true)
      at_or_below r rest is (inl dir) = inl (dir_by s.head head r rest is dir)
      at_or_below r rest is (inr dir) = inr (dir_by s.pushed pushed r rest is dir)

  no_dir : (o : Option Node) → is_some (file_of o) ≡ true → is_dir o ≡ true → ⊥
  no_dir o file dir = true≢false (sym file ∙ ap is_some (not_both o dir))

  -- where there is a side file no directory survives
  pub side_no_stay : (q : PathV) (g : FileVersion) → q ≢ [] → side_at s q ≡ Some g → stays s q ≡ false
  side_no_stay q g other e = by (stays s q) refl
    where
      both : BothFiles (file_at s.head q) (file_at s.pushed q)
      both = side_both (file_at s.base q) (file_at s.head q) (file_at s.pushed q) g e

      apart : (has_dir s.head q ≡ true) ⊎ (has_dir s.pushed q ≡ true) → ⊥
      apart (inl dir) = no_dir (map.get s.head q) both.head dir
      apart (inr dir) = no_dir (map.get s.pushed q) both.pushed dir

      by : (b : Bool) → stays s q ≡ b → stays s q ≡ false
      by true is = absurd (apart (stays_in_either q other is))
      by false is = is

-- ---- each version has its place

module _ (naming : Naming) (is_naming : IsNaming naming) (s : Sides) (head : IsTree s.head) (pushed : IsTree s.pushed) where
  place_leaver : (q : PathV) (kept g : FileVersion) → in_trees s q ≡ true → leaver_at s q ≡ Some kept → same_version kept g ≡ true → HasVersion naming s q g
  place_leaver q kept g known is same =
      let copy = copy_of naming is_naming s (q, kept) (leaver_in s q kept known is) in
      record {
        to = copy.to;
        kept = kept;
        place = inr (contains_in ((q, kept), copy.to) (conflicts naming s) copy.there);
        there = get-merged naming s copy.to ∙ ap (λ o. option_or o (if in_trees s copy.to then node_at s copy.to else None)) copy.first;
        same = same;
      }

  place_main : (q : PathV) (kept g : FileVersion) → q ≢ [] → in_trees s q ≡ true → main_at s q ≡ Some kept → same_version kept g ≡ true → HasVersion naming s q g
  place_main q kept g other known is same = by (stays s q) (side_at s q) refl refl
    where
      by : (b : Bool) (o : Option FileVersion) → stays s q ≡ b → side_at s q ≡ o → HasVersion naming s q g
      by false o stay side = record {
        to = q;
        kept = kept;
        place = inl refl;
        there = get-merged_known naming is_naming s q known
            ∙ ap₂ (λ (b : Bool) (m : Option FileVersion). if b then Some Dir else option_map File m) stay is;
        same = same;
      }
      by true None stay side =
          let leaves : leaver_at s q ≡ Some kept =
          ap₂ (λ (d : Option FileVersion) (b : Bool). option_or d (if b then main_at s q else None)) side stay ∙ is in
          place_leaver q kept g known leaves same
      by true (Some k) stay side = absurd (true≢false (sym stay ∙ side_no_stay s head pushed q k other side))

  not_same : (o p : Option FileVersion) → same_file o p ≡ false → same_file p o ≡ false
  not_same o p e = by (same_file p o) refl
    where
      by : (b : Bool) → same_file p o ≡ b → same_file p o ≡ false
      by true is = absurd (true≢false (sym (same_file-sym p o is) ∙ e))
      by false is = is

  no_root_file : (t : Tree) (q : PathV) (f : FileVersion) → map.get t [] ≡ None → file_at t q ≡ Some f → q ≢ []
  no_root_file t q f none is e =
      let nothing : file_at t q ≡ None = ap (file_at t) e ∙ ap file_of none in
      let both : None ≡ Some f = sym nothing ∙ is in cc

  pub head_kept : (q : PathV) (f : FileVersion) → file_at s.head q ≡ Some f → same_file (file_at s.base q) (Some f) ≡ false → HasVersion naming s q f
  head_kept q f is changed =
      let other : q ≢ [] = no_root_file s.head q f head.no_root is in
      let there : is_some (map.get s.head q) ≡ true = some_of_file (map.get s.head q) (ap is_some is) in
      let known : in_trees s q ≡ true = in_second (is_some (map.get s.base q)) (is_some (map.get s.head q)) (is_some (map.get s.pushed q)) there in
      let main : main_at s q ≡ Some f =
      ap (λ (o : Option FileVersion). (choice (file_at s.base q) o (file_at s.pushed q)).main) is
      ∙ main_of_head (file_at s.base q) f (file_at s.pushed q) (not_same (file_at s.base q) (Some f) changed) in
      place_main q f f other known main (same_file-itself (Some f))

  pub pushed_kept : (q : PathV) (g : FileVersion) → file_at s.pushed q ≡ Some g → same_file (file_at s.base q) (Some g) ≡ false → HasVersion naming s q g
  pushed_kept q g is changed =
      let other : q ≢ [] = no_root_file s.pushed q g pushed.no_root is in
      let there : is_some (map.get s.pushed q) ≡ true = some_of_file (map.get s.pushed q) (ap is_some is) in
      let known : in_trees s q ≡ true = in_third (is_some (map.get s.base q)) (is_some (map.get s.head q)) (is_some (map.get s.pushed q)) there in
      by other known (subst (λ (o : Option FileVersion). Keeps (choice (file_at s.base q) (file_at s.head q) o) g) (sym is)
      (keeps_pushed (file_at s.base q) (file_at s.head q) g (not_same (file_at s.base q) (Some g) changed)))
    where
      by : q ≢ [] → in_trees s q ≡ true → Keeps (choice_at s q) g → HasVersion naming s q g
      by other known (as_main kept main same) = place_main q kept g other known main same
      by other known (as_side side) =
          place_leaver q g g known (ap (λ o. option_or o (if stays s q then main_at s q else None)) side) (same_file-itself (Some g))
