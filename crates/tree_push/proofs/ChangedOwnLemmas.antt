-- Own ids that are made of what changed are those of the files that are new or changed, and serve for all. The key lemmas are
-- changes_next, owns_are, own_is and offered_by.
use Rattle.std.proofs.Common.{◌≡◌, ◌+◌, ℕ, Bool, true, false, not, cond, if◌then◌else◌, List, [], ◌∷◌, Option, None, Some, option_map, drop, refl, sym, ap, ◌∙◌}
use Rattle.std.specs.FinMap as fin
use Rattle.std.specs.Option.{option_or}
use Rattle.std.specs.Str.{bytes_eq}
use Rattle.ids.proofs.BasicLemmas.{same_from_bytes_eq}
use Rattle.tree_model.specs.Path.{PathV, path_cmp}
use Rattle.tree_model.specs.PathOrder.{paths_total}
use Rattle.tree_model.proofs.ListedLemmas.{same_path, same_path-true}
use Rattle.folder_side.specs.declared.scan_report.Seen.{Seen}
use Rattle.folder_side.specs.declared.scan_report.Seen.TheVariants as seen
use Rattle.local_index.specs.OwnIds.{own_id}
use Rattle.local_index.specs.ScanChanges.{AreChanges, change_of, told_at}
use Rattle.local_index.specs.declared.index.Known.{Known}
use Rattle.local_index.specs.declared.index.Known.TheVariants as known
use Rattle.local_index.specs.declared.scan_changes.Change.{Change}
use Rattle.local_index.specs.declared.scan_changes.ChangeKind.{ChangeKind}
use Rattle.local_index.specs.declared.scan_changes.ChangeKind.TheVariants.{Changed}
use Rattle.tree_push.specs.ChangedOwns.{AreChangedOwns, Owns, changed_own, entry_by, own_or_known, own_unless, with_changes, with_own}
use Rattle.tree_push.specs.OfferedEntries.{AreOffered, Entries, KnownPaths, SeenPaths, file_entry, is_kept, offered_entry}

-- ---- one change after another

pub changes_next : (whole now new : Owns) (seens : SeenPaths) (changes : List Change) (i : ℕ) (change : Change) → drop i changes ≡ change ∷ drop (i + 1) changes
    → with_changes now seens (drop i changes) ≡ whole → new ≡ with_own now change.path (fin.get seens change.path) → with_changes new seens (drop (i + 1) changes) ≡ whole
changes_next whole now new seens changes i change next so more =
    ap (λ (owns : Owns). with_changes owns seens (drop (i + 1) changes)) more ∙ ap (with_changes now seens) (sym next) ∙ so

-- ---- what stands at a path then

-- the own id of a file that was seen
abbrev seen_file_own : Option Seen → Option (List ℕ)
seen_file_own None = None
seen_file_own (Some seen.Dir) = None
seen_file_own (Some (seen.File blocks size)) = Some (own_id blocks size)

-- where a change is told that of the file, if one was seen, and else what stood there before
abbrev told_own : Option ChangeKind → (own before : Option (List ℕ)) → Option (List ℕ)
told_own None own before = before
told_own (Some kind) own before = option_or own before

both_same : (b : Bool) (o : Option (List ℕ)) → o ≡ cond b o o
both_same true o = refl
both_same false o = refl

got_own : (owns : Owns) (path : PathV) (s : Option Seen) (q : PathV) → fin.get (with_own owns path s) q ≡ cond (same_path q path) (option_or (seen_file_own s) (fin.get owns q)) (fin.get owns q)
got_own owns path None q = both_same (same_path q path) (fin.get owns q)
got_own owns path (Some seen.Dir) q = both_same (same_path q path) (fin.get owns q)
got_own owns path (Some (seen.File blocks size)) q = fin.get-insert paths_total owns path (own_id blocks size) q

told_twice : (t : Option ChangeKind) (own before : Option (List ℕ)) → told_own t own (option_or own before) ≡ option_or own before
told_twice None own before = refl
told_twice (Some kind) None before = refl
told_twice (Some kind) (Some id) before = refl

change_goes : (seens : SeenPaths) (change : Change) (changes : List Change) (owns : Owns) (q : PathV) (b : Bool) → same_path q change.path ≡ b
    → told_own (told_at q changes) (seen_file_own (fin.get seens q)) (fin.get (with_own owns change.path (fin.get seens change.path)) q)
    ≡ told_own (told_at q (change ∷ changes)) (seen_file_own (fin.get seens q)) (fin.get owns q)
change_goes seens change changes owns q b is = by b is
  where
    there : (b : Bool) → same_path q change.path ≡ b → fin.get (with_own owns change.path (fin.get seens change.path)) q
        ≡ cond b (option_or (seen_file_own (fin.get seens change.path)) (fin.get owns q)) (fin.get owns q)
    there b is =
        got_own owns change.path (fin.get seens change.path) q
        ∙ ap (λ (c : Bool). cond c (option_or (seen_file_own (fin.get seens change.path)) (fin.get owns q)) (fin.get owns q)) is

    told : (b : Bool) → same_path q change.path ≡ b → told_own (told_at q (change ∷ changes)) (seen_file_own (fin.get seens q)) (fin.get owns q)
        ≡ told_own (if b then Some change.kind else told_at q changes) (seen_file_own (fin.get seens q)) (fin.get owns q)
    told b is = ap (λ (c : Bool). told_own (if c then Some change.kind else told_at q changes) (seen_file_own (fin.get seens q)) (fin.get owns q)) is

    by : (b : Bool) → same_path q change.path ≡ b → told_own (told_at q changes) (seen_file_own (fin.get seens q)) (fin.get (with_own owns change.path (fin.get seens change.path)) q)
        ≡ told_own (told_at q (change ∷ changes)) (seen_file_own (fin.get seens q)) (fin.get owns q)
    by true same =
        ap (told_own (told_at q changes) (seen_file_own (fin.get seens q)))
        (there true same ∙ ap (λ (p : PathV). option_or (seen_file_own (fin.get seens p)) (fin.get owns q)) (sym (same_path-true q change.path same)))
        ∙ told_twice (told_at q changes) (seen_file_own (fin.get seens q)) (fin.get owns q) ∙ sym (told true same)
    by false apart = ap (told_own (told_at q changes) (seen_file_own (fin.get seens q))) (there false apart) ∙ sym (told false apart)

got_changes : (seens : SeenPaths) (changes : List Change) (owns : Owns) (q : PathV)
    → fin.get (with_changes owns seens changes) q ≡ told_own (told_at q changes) (seen_file_own (fin.get seens q)) (fin.get owns q)
got_changes seens [] owns q = refl
got_changes seens (change ∷ changes) owns q =
    got_changes seens changes (with_own owns change.path (fin.get seens change.path)) q ∙ change_goes seens change changes owns q (same_path q change.path) refl

-- by how what was seen differs from what is known
own_told : (s : Option Seen) (was : Option Known) → told_own (change_of s was) (seen_file_own s) None ≡ changed_own s was
own_told None None = refl
own_told None (Some k) = refl
own_told (Some seen.Dir) None = refl
own_told (Some seen.Dir) (Some known.Dir) = refl
own_told (Some seen.Dir) (Some (known.File id its known_size mode mtime modifier)) = refl
own_told (Some (seen.File blocks size)) None = refl
own_told (Some (seen.File blocks size)) (Some known.Dir) = refl
own_told (Some (seen.File blocks size)) (Some (known.File id its known_size mode mtime modifier)) = by (bytes_eq (own_id blocks size) its)
  where
    by : (b : Bool) → told_own (if not b then Some Changed else None) (Some (own_id blocks size)) None ≡ own_unless b (own_id blocks size)
    by true = refl
    by false = refl

pub owns_are : (seens : SeenPaths) (changes : List Change) (owns : Owns) → owns ≡ with_changes fin.empty seens changes → (knowns : KnownPaths) → AreChanges seens knowns changes
    → AreChangedOwns knowns seens owns
owns_are seens changes owns made knowns are = λ path.
    ap (λ (m : Owns). fin.get m path) made ∙ got_changes seens changes fin.empty path
    ∙ ap (told_own (told_at path changes) (seen_file_own (fin.get seens path))) (fin.get-empty path_cmp path)
    ∙ ap (λ (t : Option ChangeKind). told_own t (seen_file_own (fin.get seens path)) None) (are.each path) ∙ own_told (fin.get seens path) (fin.get knowns path)

-- ---- the own id of each file

kept_own : (own : List ℕ) (was : Option Known) → own_or_known (own_unless (is_kept was own) own) was ≡ own
kept_own own None = refl
kept_own own (Some known.Dir) = refl
kept_own own (Some (known.File id its size mode mtime modifier)) = by (bytes_eq own its) refl
  where
    by : (b : Bool) → bytes_eq own its ≡ b → own_or_known (own_unless b own) (Some (known.File id its size mode mtime modifier)) ≡ own
    by true same = sym (same_from_bytes_eq own its same)
    by false other = refl

pub own_is : (blocks : List (List ℕ)) (size : ℕ) (was : Option Known) (changed : Option (List ℕ)) → changed ≡ changed_own (Some (seen.File blocks size)) was
    → own_or_known changed was ≡ own_id blocks size
own_is blocks size was changed is = ap (λ (o : Option (List ℕ)). own_or_known o was) is ∙ kept_own (own_id blocks size) was

offered_at : (moment : ℕ) (user : List ℕ) (was : Option Known) (s : Option Seen) (changed : Option (List ℕ)) → changed ≡ changed_own s was
    → option_map (entry_by moment user changed was) s ≡ option_map (offered_entry moment user was) s
offered_at moment user was None changed is = refl
offered_at moment user was (Some seen.Dir) changed is = refl
offered_at moment user was (Some (seen.File blocks size)) changed is = ap (λ (own : List ℕ). Some (file_entry moment user was own size)) (own_is blocks size was changed is)

pub offered_by : (moment : ℕ) (user : List ℕ) (knowns : KnownPaths) (seens : SeenPaths) (owns : Owns) (entries : Entries) → AreChangedOwns knowns seens owns
    → ((path : PathV) → fin.get entries path ≡ option_map (entry_by moment user (fin.get owns path) (fin.get knowns path)) (fin.get seens path)) → AreOffered moment user knowns seens entries
offered_by moment user knowns seens owns entries are made = λ path.
    made path ∙ offered_at moment user (fin.get knowns path) (fin.get seens path) (fin.get owns path) (are path)
