-- What was seen is what stands in a folder just where each path passes its test. The key lemmas are seen_folder_is and unseen.
use Rattle.std.proofs.Common.{◌≡◌, ◌≢◌, Bool, true, false, ℕ, not, List, [], ◌∷◌, ◌++◌, Option, None, Some, IsSome, is_some, IsTrue, ◌↔◌, refl, sym, ap, ◌∙◌, true≢false}
use Rattle.std.specs.FinMap as fin
use Rattle.std.proofs.lemmas.Bool.{and_parts}
use Rattle.tree_model.specs.Path.{PathV, last_name, parent_of}
use Rattle.tree_model.proofs.BelowLemmas.{parent_last, parent_push}
use Rattle.tree_model.proofs.MovingLemmas.{in_found}
use Rattle.folder_side.specs.declared.scan_report.Seen.{Seen}
use Rattle.folder_side.specs.declared.scan_report.Seen.TheVariants as seen
use Rattle.folder_side.proofs.SortedEntryLemmas.{Rises-entries, found_of}
use Rattle.local_index.specs.IndexSpelling.{HasFileMode}
use Rattle.local_index.specs.declared.index.Known.{Known}
use Rattle.local_index.specs.declared.index.Known.TheVariants as known
use Rattle.sync_rules.proofs.ProperLemmas.{all_of, one_of}
use Rattle.tree_push.specs.OfferedEntries.{IsSeenFolder, KnownPaths, SeenPaths}
use Rattle.sync_daemon.specs.SeenFolder.{all_stand, has_file_mode, have_file_modes, is_dir_in, is_root, is_seen_dir, stands_in}

seen_dir : (o : Option Seen) → is_seen_dir o ≡ true → o ≡ Some seen.Dir
seen_dir None is = absurd (true≢false (sym is))
seen_dir (Some seen.Dir) is = refl
seen_dir (Some (seen.File blocks size)) is = absurd (true≢false (sym is))

mode_of_file : (was : Known) → has_file_mode was ≡ true → HasFileMode was
mode_of_file known.Dir is = tt
mode_of_file (known.File id own size mode mtime modifier) is = is

file_mode_of : (was : Known) → HasFileMode was → has_file_mode was ≡ true
file_mode_of known.Dir is = refl
file_mode_of (known.File id own size mode mtime modifier) is = is

module _ (knowns : KnownPaths) (seens : SeenPaths) where
  -- ---- each path passes

  stands_of : all_stand seens ≡ true → (path : PathV) (s : Seen) → fin.get seens path ≡ Some s → stands_in seens path ≡ true
  stands_of all path s there =
      one_of (λ (e : PathV × Seen). stands_in seens e.0) (fin.entries seens) (path, s) all (in_found (fin.entries seens) path s (sym (fin.get-entries seens path) ∙ there))

  dir_of : (dir : PathV) → dir ≢ [] → is_dir_in seens dir ≡ true → fin.get seens dir ≡ Some seen.Dir
  dir_of [] some is = absurd (some refl)
  dir_of (name ∷ path) some is = seen_dir (fin.get seens (name ∷ path)) is

  folder_of : have_file_modes knowns ≡ true → all_stand seens ≡ true → IsSeenFolder knowns seens
  folder_of modes all = record {
    no_root = none_at (fin.get seens []) refl;
    in_dirs = λ dir name some there. dir_of dir some (above dir name (fin.get seens (dir ++ name ∷ [])) refl there);
    modes = λ path was there.
        mode_of_file was
        (one_of (λ (e : PathV × Known). has_file_mode e.1) (fin.entries knowns) (path, was) modes (in_found (fin.entries knowns) path was (sym (fin.get-entries knowns path) ∙ there)));
  }
    where
      none_at : (o : Option Seen) → fin.get seens [] ≡ o → o ≡ None
      none_at None is = refl
      none_at (Some s) is = absurd (true≢false (sym (stands_of all [] s is)))

      above : (dir : PathV) (name : List ℕ) (o : Option Seen) → fin.get seens (dir ++ name ∷ []) ≡ o → IsSome o → is_dir_in seens dir ≡ true
      above dir name None is some = absurd (true≢false (sym some))
      above dir name (Some s) is some =
          ap (is_dir_in seens) (sym (parent_push dir name))
          ∙ (and_parts (not (is_root (dir ++ name ∷ []))) (is_dir_in seens (parent_of (dir ++ name ∷ []))) (stands_of all (dir ++ name ∷ []) s is)).1

  -- ---- and of a folder each does

  module _ (folder : IsSeenFolder knowns seens) where
    dir_is : (path : PathV) (s : Seen) → fin.get seens path ≡ Some s → (dir : PathV) (last : List ℕ) → path ≡ dir ++ last ∷ [] → is_dir_in seens dir ≡ true
    dir_is path s there [] last at = refl
    dir_is path s there (name ∷ dir) last at =
        ap is_seen_dir (folder.in_dirs (name ∷ dir) last (λ e. cc) (ap is_some (ap (fin.get seens) (sym at) ∙ there)))

    stands_at : (path : PathV) (s : Seen) → fin.get seens path ≡ Some s → stands_in seens path ≡ true
    stands_at [] s there = absurd (true≢false (sym (ap is_some (sym folder.no_root ∙ there))))
    stands_at (name ∷ path) s there = dir_is (name ∷ path) s there (parent_of (name ∷ path)) (last_name (name ∷ path)) (parent_last (name ∷ path) (λ e. cc))

    all_pass : all_stand seens ≡ true
    all_pass =
        all_of (λ (e : PathV × Seen). stands_in seens e.0) (fin.entries seens)
        (λ e there. stands_at e.0 e.1 (fin.get-entries seens e.0 ∙ found_of (fin.entries seens) e (Rises-entries seens) there))

    modes_pass : have_file_modes knowns ≡ true
    modes_pass =
        all_of (λ (e : PathV × Known). has_file_mode e.1) (fin.entries knowns)
        (λ e there. file_mode_of e.1 (folder.modes e.0 e.1 (fin.get-entries knowns e.0 ∙ found_of (fin.entries knowns) e (Rises-entries knowns) there)))

  -- ---- both

  pub seen_folder_is : (b : Bool) → have_file_modes knowns ≡ true → b ≡ all_stand seens → IsTrue b ↔ IsSeenFolder knowns seens
  seen_folder_is b modes told = ((λ is. folder_of modes (sym told ∙ is)), (λ folder. told ∙ all_pass folder))

  pub unseen : have_file_modes knowns ≡ false → IsTrue false ↔ IsSeenFolder knowns seens
  unseen none = ((λ is. absurd (true≢false (sym is))), (λ folder. sym none ∙ modes_pass folder))
