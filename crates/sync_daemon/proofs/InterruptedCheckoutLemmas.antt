-- What was seen is as a checkout leaves it just where each path passes its test. The key lemmas are left_so and never_left.
use Rattle.std.proofs.Common.{◌≡◌, Bool, true, false, ℕ, not, ◌||◌, List, Option, None, Some, IsTrue, ◌↔◌, refl, sym, ap, ◌∙◌, true≢false}
use Rattle.std.specs.FinMap as fin
use Rattle.std.specs.Str.{bytes_eq}
use Rattle.tree_model.specs.Path.{PathV}
use Rattle.tree_model.proofs.MovingLemmas.{in_found}
use Rattle.folder_side.specs.declared.scan_report.Seen.{Seen}
use Rattle.folder_side.specs.declared.scan_report.Seen.TheVariants as seen
use Rattle.folder_side.proofs.SortedEntryLemmas.{Rises-entries, found_of}
use Rattle.local_index.specs.OwnIds.{own_id}
use Rattle.local_index.specs.declared.index.Known.{Known}
use Rattle.local_index.specs.declared.index.Known.TheVariants as known
use Rattle.object_graph.specs.declared.entry.Entry.{Entry}
use Rattle.object_graph.specs.declared.entry.Entry.TheVariants as entry
use Rattle.sync_rules.specs.InterruptedCheckout.{is_left, is_reached}
use Rattle.sync_rules.proofs.ProperLemmas.{all_of, one_of}
use Rattle.tree_push.specs.ChangedOwns.{AreChangedOwns, Owns, changed_own, own_unless}
use Rattle.tree_push.specs.OfferedEntries.{KnownPaths, SeenPaths}
use Rattle.sync_daemon.specs.InterruptedCheckout.{EntryPaths, IsSeenLeft, are_left_known, are_left_seen, is_dir_there, is_file_there, is_left_file, is_left_known, is_left_seen}

-- ---- at a path

dir_same : (there : Option Entry) → is_dir_there there ≡ is_reached seen.Dir there
dir_same None = refl
dir_same (Some entry.Dir) = refl
dir_same (Some (entry.File id mode mtime modifier size)) = refl

file_same : (blocks : List (List ℕ)) (size : ℕ) (there : Option Entry) → is_file_there (own_id blocks size) there ≡ is_reached (seen.File blocks size) there
file_same blocks size None = refl
file_same blocks size (Some entry.Dir) = refl
file_same blocks size (Some (entry.File id mode mtime modifier its)) = refl

-- a file by its own id, where it is new or changed
kept_same : (kept : Bool) (own : List ℕ) (there : Option Entry) → is_left_file (own_unless kept own) there ≡ (not (not kept) || is_file_there own there)
kept_same true own there = refl
kept_same false own there = refl

seen_same : (s : Seen) (was : Option Known) (there : Option Entry) → is_left_seen s was (changed_own (Some s) was) there ≡ is_left (Some s) was there
seen_same seen.Dir None there = dir_same there
seen_same seen.Dir (Some known.Dir) there = refl
seen_same seen.Dir (Some (known.File id own size mode mtime modifier)) there = dir_same there
seen_same (seen.File blocks size) None there = file_same blocks size there
seen_same (seen.File blocks size) (Some known.Dir) there = file_same blocks size there
seen_same (seen.File blocks size) (Some (known.File id own its mode mtime modifier)) there =
    kept_same (bytes_eq (own_id blocks size) own) (own_id blocks size) there
    ∙ ap (λ (b : Bool). not (not (bytes_eq (own_id blocks size) own)) || b) (file_same blocks size there)

-- ---- at each

module _ (seens : SeenPaths) (knowns : KnownPaths) (owns : Owns) (entries : EntryPaths) (are : AreChangedOwns knowns seens owns) where
  own_at : (path : PathV) (s : Seen) → fin.get seens path ≡ Some s → fin.get owns path ≡ changed_own (Some s) (fin.get knowns path)
  own_at path s there = are path ∙ ap (λ (o : Option Seen). changed_own o (fin.get knowns path)) there

  seen_is : (path : PathV) (s : Seen) → fin.get seens path ≡ Some s
      → is_left_seen s (fin.get knowns path) (fin.get owns path) (fin.get entries path) ≡ is_left (fin.get seens path) (fin.get knowns path) (fin.get entries path)
  seen_is path s there =
      ap (λ (o : Option (List ℕ)). is_left_seen s (fin.get knowns path) o (fin.get entries path)) (own_at path s there)
      ∙ seen_same s (fin.get knowns path) (fin.get entries path)
      ∙ ap (λ (o : Option Seen). is_left o (fin.get knowns path) (fin.get entries path)) (sym there)

  -- each passes
  left_of : are_left_seen seens knowns owns entries ≡ true → are_left_known seens knowns entries ≡ true → IsSeenLeft seens knowns entries
  left_of saw knew path = by (fin.get seens path) refl (fin.get knowns path) refl
    where
      by : (o : Option Seen) → fin.get seens path ≡ o → (k : Option Known) → fin.get knowns path ≡ k
          → is_left (fin.get seens path) (fin.get knowns path) (fin.get entries path) ≡ true
      by None unseen None unknown = λ i. is_left (unseen i) (unknown i) (fin.get entries path)
      by None unseen (Some was) there =
          (λ i. is_left (unseen i) (there i) (fin.get entries path))
          ∙ ap (λ (o : Option Seen). is_left_known o was (fin.get entries path)) (sym unseen)
          ∙ one_of (λ (e : PathV × Known). is_left_known (fin.get seens e.0) e.1 (fin.get entries e.0)) (fin.entries knowns) (path, was) knew
          (in_found (fin.entries knowns) path was (sym (fin.get-entries knowns path) ∙ there))
      by (Some s) there k known_is =
          sym (seen_is path s there)
          ∙ one_of (λ (e : PathV × Seen). is_left_seen e.1 (fin.get knowns e.0) (fin.get owns e.0) (fin.get entries e.0)) (fin.entries seens) (path, s) saw
          (in_found (fin.entries seens) path s (sym (fin.get-entries seens path) ∙ there))

  -- and of what a checkout leaves each does
  module _ (left : IsSeenLeft seens knowns entries) where
    seen_pass : are_left_seen seens knowns owns entries ≡ true
    seen_pass =
        all_of (λ (e : PathV × Seen). is_left_seen e.1 (fin.get knowns e.0) (fin.get owns e.0) (fin.get entries e.0)) (fin.entries seens)
        (λ e there. seen_is e.0 e.1 (fin.get-entries seens e.0 ∙ found_of (fin.entries seens) e (Rises-entries seens) there) ∙ left e.0)

    known_is : (path : PathV) (was : Known) → fin.get knowns path ≡ Some was → is_left_known (fin.get seens path) was (fin.get entries path) ≡ true
    known_is path was there = by (fin.get seens path) refl
      where
        by : (o : Option Seen) → fin.get seens path ≡ o → is_left_known o was (fin.get entries path) ≡ true
        by (Some s) here = refl
        by None unseen = (λ i. is_left (sym unseen i) (sym there i) (fin.get entries path)) ∙ left path

    known_pass : are_left_known seens knowns entries ≡ true
    known_pass =
        all_of (λ (e : PathV × Known). is_left_known (fin.get seens e.0) e.1 (fin.get entries e.0)) (fin.entries knowns)
        (λ e there. known_is e.0 e.1 (fin.get-entries knowns e.0 ∙ found_of (fin.entries knowns) e (Rises-entries knowns) there))

  -- ---- both

  pub left_so : (b : Bool) → are_left_seen seens knowns owns entries ≡ true → b ≡ are_left_known seens knowns entries → IsTrue b ↔ IsSeenLeft seens knowns entries
  left_so b saw told = ((λ is. left_of saw (sym told ∙ is)), (λ left. told ∙ known_pass left))

  pub never_left : are_left_seen seens knowns owns entries ≡ false → IsTrue false ↔ IsSeenLeft seens knowns entries
  never_left none = ((λ is. absurd (true≢false (sym is))), (λ left. sym none ∙ seen_pass left))
