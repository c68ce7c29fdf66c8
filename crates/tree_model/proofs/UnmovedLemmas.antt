-- Merges in which one side didn't move. The key lemmas are merge_unchanged_push and merge_unmoved_head.
use Rattle.std.proofs.Common.{◌≡◌, ◌≤◌, ◌||◌, ◌&&◌, not, Bool, true, false, if◌then◌else◌, [], refl, sym, ap, ap₂, ◌∙◌, subst, Option, Some, None, is_some, option_map}
use Rattle.std.specs.FinMap as map
use Rattle.tree_model.specs.declared.limits.TheConstants.{MAX_PATHS}
use Rattle.tree_model.specs.declared.node.FileVersion.{FileVersion}
use Rattle.tree_model.specs.declared.node.Node.{Node}
use Rattle.tree_model.specs.declared.node.Node.TheVariants.{Dir, File}
use Rattle.tree_model.specs.Path.{PathV}
use Rattle.tree_model.specs.PathOrder.{paths_total, paths_exact}
use Rattle.tree_model.specs.FileMerge.{same_file, only, Choice}
use Rattle.tree_model.specs.Tree.{Tree, IsTree, Fits, IsAlike, file_at, has_dir, file_of, is_dir}
use Rattle.tree_model.specs.DirectorySurvival.{Sides, main_at, choice_at}
use Rattle.tree_model.specs.ConflictCopies.{in_trees, Naming}
use Rattle.tree_model.specs.ThreeWayMerge.{merged, MergedTree, merge, MergesLike}
use Rattle.tree_model.proofs.FileMergeLemmas.{choice_head, choice_pushed, same_file-some, same_file-sym, TakesPushed}
use Rattle.tree_model.proofs.OneSideLemmas.{Follows, not_both, some_of_dir, same_len}
use Rattle.tree_model.proofs.MergeLemmas.{node_of, get_one_side, not_long}

-- the three trees have no root entry
no_roots : (b h p : Tree) → IsTree b → IsTree h → IsTree p → in_trees (record { base = b; head = h; pushed = p }) [] ≡ false
no_roots b h p base head pushed = ap₂ ◌||◌ (ap is_some base.no_root) (ap₂ ◌||◌ (ap is_some head.no_root) (ap is_some pushed.no_root))

pub in_second : (a b c : Bool) → b ≡ true → (a || (b || c)) ≡ true
in_second true b c e = refl
in_second false b c e = ap (λ r. r || c) e

pub in_third : (a b c : Bool) → c ≡ true → (a || (b || c)) ≡ true
in_third true b c e = refl
in_third false true c e = refl
in_third false false c e = e

-- ---- pushed didn't change

pub dirs_of_head : (h p : Bool) → ((h && p) || ((h || p) && not p)) ≡ h
dirs_of_head true true = refl
dirs_of_head true false = refl
dirs_of_head false true = refl
dirs_of_head false false = refl

pub node_back : (o : Option Node) → (if is_dir o then Some Dir else option_map File (file_of o)) ≡ o
node_back None = refl
node_back (Some Dir) = refl
node_back (Some (File f)) = refl

module _ (naming : Naming) (b h p : Tree) (base : IsTree b) (pushed : IsTree p) where
  abbrev sides : Sides
  sides = record { base = b; head = h; pushed = p }

  main_is_head : IsAlike b p → (q : PathV) → choice_at sides q ≡ only (file_at h q)
  main_is_head alike q = choice_head (file_at b q) (file_at h q) (file_at p q) (same_file-sym (file_at b q) (file_at p q) (alike.files q))

  follows_head : IsTree h → IsAlike b p → Follows sides h
  follows_head head alike = record {
    tree = head;
    side = λ q. ap (λ (c : Choice). c.side) (main_is_head alike q);
    main = λ q. ap (λ (c : Choice). is_some c.main) (main_is_head alike q);
    dirs = λ q. ap (λ (d : Bool). (has_dir h q && has_dir p q) || ((has_dir h q || has_dir p q) && not d)) (alike.dirs q) ∙ dirs_of_head (has_dir h q) (has_dir p q);
    given = λ q there. in_second (is_some (map.get b q)) (is_some (map.get h q)) (is_some (map.get p q)) there;
    no_root = no_roots b h p base head pushed;
  }

  merged_is_head : IsTree h → IsAlike b p → merged naming sides ≡ h
  merged_is_head head alike =
      let f = follows_head head alike in
      map.same_map paths_total paths_exact (merged naming sides) h (λ q.
      get_one_side sides h f naming q
      ∙ ap (λ (c : Choice). if has_dir h q then Some Dir else option_map File c.main) (main_is_head alike q)
      ∙ node_back (map.get h q))

  pub merge_unchanged_push : Fits h → IsAlike b p → merge naming b h p ≡ MergedTree h
  merge_unchanged_push head alike =
      let same = merged_is_head head.whole alike in
      not_long naming b h p h (follows_head head.whole alike) (subst (λ (t : Tree). map.len t ≤ MAX_PATHS) (sym same) head.count)
      ∙ ap MergedTree same

-- ---- the head didn't move

dirs_of_pushed : (h p : Bool) → ((h && p) || ((h || p) && not h)) ≡ p
dirs_of_pushed true true = refl
dirs_of_pushed true false = refl
dirs_of_pushed false true = refl
dirs_of_pushed false false = refl

dir_back : (d : Bool) (o : Option FileVersion) → is_dir (if d then Some Dir else option_map File o) ≡ d
dir_back true o = refl
dir_back false None = refl
dir_back false (Some f) = refl

file_back : (d : Bool) (o : Option Node) (main : Option FileVersion) → is_dir o ≡ d → same_file main (file_of o) ≡ true
    → same_file (file_of (if d then Some Dir else option_map File main)) (file_of o) ≡ true
file_back true o main dir same = ap (same_file None) (not_both o dir)
file_back false o None dir same = same
file_back false o (Some f) dir same = same

some_back : (d : Bool) (o : Option Node) (main : Option FileVersion) → is_dir o ≡ d → is_some main ≡ is_some (file_of o)
    → is_some (if d then Some Dir else option_map File main) ≡ is_some o
some_back true o main dir same = sym (some_of_dir o dir)
some_back false None None dir same = refl
some_back false None (Some f) dir same = same
some_back false (Some Dir) main dir same = cc
some_back false (Some (File g)) None dir same = same
some_back false (Some (File g)) (Some f) dir same = refl

module _ (naming : Naming) (b h p : Tree) (base : IsTree b) (head : IsTree h) where
  abbrev three : Sides
  three = record { base = b; head = h; pushed = p }

  takes : IsAlike b h → (q : PathV) → TakesPushed (file_at h q) (file_at p q) (choice_at three q)
  takes alike q = choice_pushed (file_at b q) (file_at h q) (file_at p q) (same_file-sym (file_at b q) (file_at h q) (alike.files q))

  main_some : IsAlike b h → (q : PathV) → is_some (main_at three q) ≡ is_some (file_at p q)
  main_some alike q = same_file-some (main_at three q) (file_at p q) (takes alike q).main

  follows_pushed : IsTree p → IsAlike b h → Follows three p
  follows_pushed pushed alike = record {
    tree = pushed;
    side = λ q. (takes alike q).side;
    main = main_some alike;
    dirs = λ q. ap (λ (d : Bool). (has_dir h q && has_dir p q) || ((has_dir h q || has_dir p q) && not d)) (alike.dirs q) ∙ dirs_of_pushed (has_dir h q) (has_dir p q);
    given = λ q there. in_third (is_some (map.get b q)) (is_some (map.get h q)) (is_some (map.get p q)) there;
    no_root = no_roots b h p base head pushed;
  }

  pub merge_unmoved_head : Fits p → IsAlike b h → MergesLike naming b h p p
  merge_unmoved_head pushed alike =
      let f = follows_pushed pushed.whole alike in
      let got : (q : PathV) → map.get (merged naming three) q ≡ node_of three p f q = get_one_side three p f naming in
      let count : map.len (merged naming three) ≡ map.len p =
      same_len (merged naming three) p (λ q. ap is_some (got q) ∙ some_back (has_dir p q) (map.get p q) (main_at three q) refl (main_some alike q)) in
      record {
        tree = merged naming three;
        is = not_long naming b h p p f (subst (λ n. n ≤ MAX_PATHS) (sym count) pushed.count);
        alike = record {
          dirs = λ q. ap is_dir (got q) ∙ dir_back (has_dir p q) (main_at three q);
          files = λ q. ap (λ o. same_file (file_of o) (file_at p q)) (got q) ∙ file_back (has_dir p q) (map.get p q) (main_at three q) refl (takes alike q).main;
        };
      }
