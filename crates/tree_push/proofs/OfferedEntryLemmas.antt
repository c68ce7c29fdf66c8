-- What is offered of a folder has objects: each entry stands in a directory, and files have modes of files. The key lemmas are
-- sound_offered, seen_zeros and if_ok.
use Rattle.std.proofs.Common.{◌≡◌, ◌↔◌, ℕ, ℤ, Bool, true, false, if◌then◌else◌, List, [], ◌∷◌, ◌++◌, Option, None, Some, IsSome, option_map, Result, Ok, Err, IfOk, refl, sym, ap, ◌∙◌, subst}
use Rattle.std.specs.FinMap as fin
use Rattle.std.specs.Str.{bytes_eq}
use Rattle.ids.specs.ObjectId.{nil}
use Rattle.tree_model.specs.Path.{PathV}
use Rattle.fs_objects.specs.Mode.{is_file_mode}
use Rattle.object_graph.specs.declared.entry.Entry.{Entry}
use Rattle.object_graph.specs.declared.entry.Entry.TheVariants as entry
use Rattle.folder_side.specs.declared.scan_report.Seen.{Seen}
use Rattle.folder_side.specs.declared.scan_report.Seen.TheVariants as seen
use Rattle.local_index.specs.IndexSpelling.{HasFileMode}
use Rattle.local_index.specs.OwnIds.{own_id}
use Rattle.local_index.specs.declared.index.Known.{Known}
use Rattle.local_index.specs.declared.index.Known.TheVariants as known
use Rattle.tree_merge.specs.TreeBuilding.{IsSound}
use Rattle.tree_push.specs.OfferedEntries.{AreOffered, Entries, IsSeenFolder, KnownPaths, SeenPaths, changed_entry, file_entry, offered_entry}

-- what follows of a result
pub if_ok : {T E : Type 0} (P Q : T → Type 0) (r : Result T E) → ((x : T) → P x → Q x) → IfOk r P → IfOk r Q
if_ok P Q (Ok x) goes is = goes x is
if_ok P Q (Err e) goes is = is

some_of : {X Y : Type 0} (f : X → Y) (o : Option X) → IsSome (option_map f o) → IsSome o
some_of f None is = is
some_of f (Some x) is = refl

-- an entry of a file
module _ (id : List ℕ) (mode : ℕ) (mtime : ℤ) (modifier : List ℕ) (size : ℕ) where
  usual_mode_is : (own user : List ℕ) (moment its : ℕ) → changed_entry moment user 33188 own its ≡ entry.File id mode mtime modifier size → is_file_mode mode ≡ true
  usual_mode_is own user moment its e = let usual : 33188 ≡ mode = cc in subst (λ m. is_file_mode m ≡ true) usual refl

  -- its mode is known, or the usual one
  mode_of_file : (moment : ℕ) (user own : List ℕ) (own_size : ℕ) (was : Option Known) → ((k : Known) → was ≡ Some k → HasFileMode k)
      → file_entry moment user was own own_size ≡ entry.File id mode mtime modifier size → is_file_mode mode ≡ true
  mode_of_file moment user own own_size None modes e = usual_mode_is own user moment own_size e
  mode_of_file moment user own own_size (Some known.Dir) modes e = usual_mode_is own user moment own_size e
  mode_of_file moment user own own_size (Some (known.File its_id its its_size its_mode its_mtime its_modifier)) modes e = by (bytes_eq own its) e
    where
      by : (b : Bool) → (if b then entry.File its_id its_mode its_mtime its_modifier its_size else changed_entry moment user its_mode own own_size) ≡ entry.File id mode mtime modifier size
          → is_file_mode mode ≡ true
      by true same = let kept : its_mode ≡ mode = cc in subst (λ m. is_file_mode m ≡ true) kept (modes _ refl)
      by false same = let kept : its_mode ≡ mode = cc in subst (λ m. is_file_mode m ≡ true) kept (modes _ refl)

  mode_offered : (moment : ℕ) (user : List ℕ) (was : Option Known) (o : Option Seen) → ((k : Known) → was ≡ Some k → HasFileMode k)
      → option_map (offered_entry moment user was) o ≡ Some (entry.File id mode mtime modifier size) → is_file_mode mode ≡ true
  mode_offered moment user was None modes e = absurd (cc)
  mode_offered moment user was (Some seen.Dir) modes e = absurd (cc)
  mode_offered moment user was (Some (seen.File blocks own_size)) modes e = mode_of_file moment user (own_id blocks own_size) own_size was modes (one e)
    where
      one : {x y : Entry} → Some x ≡ Some y → x ≡ y
      one same = cc

pub sound_offered : (moment : ℕ) (user : List ℕ) (knowns : KnownPaths) (seens : SeenPaths) (entries : Entries) → AreOffered moment user knowns seens entries → IsSeenFolder knowns seens
    → IsSound entries
sound_offered moment user knowns seens entries are folder = record {
  no_root = are [] ∙ ap (option_map (offered_entry moment user (fin.get knowns []))) folder.no_root;
  in_dirs = λ dir name other there.
      are dir
      ∙ ap (option_map (offered_entry moment user (fin.get knowns dir)))
      (folder.in_dirs dir name other
      (some_of (offered_entry moment user (fin.get knowns (dir ++ name ∷ []))) (fin.get seens (dir ++ name ∷ [])) (subst (λ (o : Option Entry). IsSome o) (are (dir ++ name ∷ [])) there)));
  modes = λ path file there.
      mode_offered file.id file.mode file.mtime file.modifier file.size moment user (fin.get knowns path) (fin.get seens path) (folder.modes path) (sym (are path) ∙ there);
}

-- the root is forty zeros where nothing was seen
none_of : {X Y : Type 0} (f : X → Y) (o : Option X) → option_map f o ≡ None → o ≡ None
none_of f None is = refl
none_of f (Some x) is = absurd (cc)

pub seen_zeros : (moment : ℕ) (user : List ℕ) (knowns : KnownPaths) (seens : SeenPaths) (entries : Entries) → AreOffered moment user knowns seens entries → (root : List ℕ)
    → (root ≡ nil) ↔ ((path : PathV) → fin.get entries path ≡ None) → (root ≡ nil) ↔ ((path : PathV) → fin.get seens path ≡ None)
seen_zeros moment user knowns seens entries are root zeros = (
  λ none path. none_of (offered_entry moment user (fin.get knowns path)) (fin.get seens path) (sym (are path) ∙ zeros.0 none path),
  λ none. zeros.1 (λ path. are path ∙ ap (option_map (offered_entry moment user (fin.get knowns path))) (none path)),
)
