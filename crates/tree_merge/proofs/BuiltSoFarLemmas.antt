-- Directories made from the last path to the first, some of which are kept by their ids. Read BuiltSo; the key lemma is built_start.
use Rattle.std.proofs.Common.{◌≡◌, ℕ, List, [], ◌∷◌, ◌++◌, refl, sym, ap, ◌∙◌, subst, All, Option, Some, None, is_some, IsSome, Less, true≢false, ◌⊎◌}
use Rattle.std.proofs.lemmas.List.Elements.{All-from_recursion}
use Rattle.std.specs.FinMap as map
use Rattle.ids.specs.Key.{Objects, key_cmp}
use Rattle.tree_model.specs.Path.{PathV, path_cmp}
use Rattle.fs_objects.specs.Proper.{IsProperEntry}
use Rattle.fs_objects.specs.declared.dirent.Dirent.{Dirent}
use Rattle.object_graph.specs.Objects.{fs_key, entry_named, entry_in}
use Rattle.object_graph.specs.Unchanged.{Keeps}
use Rattle.tree_merge.specs.Sides.{Entries}
use Rattle.tree_merge.specs.TreeBuilding.{AreThere, Given, IsShownPart, HasMade, directory_id_in}
use Rattle.tree_merge.proofs.SameEntryLemmas.{nothing_named}

-- the id of the directory at a path is reached from what some directory above it holds that isn't made yet
pub record Reach (R : Entries) (H : PathV → List Dirent) (M : Objects) (path : PathV) (id : List ℕ) : Type 0 where
  pub dir : PathV
  pub name : List ℕ
  pub rest : PathV
  pub is : path ≡ dir ++ name ∷ rest
  pub waits : (dir ≡ []) ⊎ IsSome (map.get R dir)
  pub at : (objects : Objects) → Keeps M objects → directory_id_in objects (H dir) (name ∷ rest) ≡ Some id

-- one name is told by a directory alone, more of them by the stored objects too
abbrev pub Sees : Given → Objects → PathV → Type 0
Sees stored objects q = (q ≡ []) ⊎ AreThere stored objects

-- W the whole tree, N the entries that are given, R what is left of them, H what each directory has so far, M what was made
pub record BuiltSo (stored : Given) (K : PathV → Option (List ℕ)) (W N R : Entries) (H : PathV → List Dirent) (M : Objects) : Type 0 where
  pub proper : (d : PathV) → All IsProperEntry (H d)
  pub still : (q : PathV) → IsSome (map.get R q) → map.get R q ≡ map.get N q
  pub gone : (q r : PathV) → IsSome (map.get N q) → map.get R q ≡ None → IsSome (map.get R r) → path_cmp r q ≡ Less
  pub done : (objects : Objects) → Keeps M objects → (d : PathV) (n : List ℕ) (q : PathV) → Sees stored objects q → (d ≡ []) ⊎ IsSome (map.get R d) → K d ≡ None → map.get R (d ++ n ∷ []) ≡ None
      → entry_in objects (H d) (n ∷ q) ≡ map.get W (d ++ n ∷ q)
  pub hollow : (d : PathV) (n : List ℕ) → IsSome (K d) → entry_named n (H d) ≡ None
  pub reach : (id : List ℕ) → HasMade M id → (q : PathV) × Reach R H M q id
  pub listed : (q : PathV) (id : List ℕ) → K q ≡ Some id → map.get R q ≡ None → Reach R H M q id

pub built_start : (stored : Given) (K : PathV → Option (List ℕ)) (W N : Entries) (H : PathV → List Dirent) (M : Objects) → IsShownPart stored K W N → ((d : PathV) → H d ≡ []) → M ≡ map.empty
    → BuiltSo stored K W N N H M
built_start stored K W N H M part none empty = record {
  proper = λ d. subst (All IsProperEntry) (sym (none d)) all_of_none;
  still = λ q there. refl;
  gone = λ q r there away later. absurd (true≢false (sym there ∙ ap is_some away));
  done = λ objects keeps d n q sees waits open_here away.
      ap (λ (es : List Dirent). entry_in objects es (n ∷ q)) (none d) ∙ nothing_named objects n q ∙ sym (part.none d n q waits open_here away);
  hollow = λ d n some. ap (entry_named n) (none d);
  reach = λ id there. absurd (true≢false (sym there ∙ ap is_some (ap (λ (m : Objects). map.get m (fs_key id)) empty ∙ map.get-empty key_cmp (fs_key id))));
  listed = λ q id kept away. absurd (true≢false (sym (ap is_some (part.stands q id kept)) ∙ ap is_some away));
}
  where
    all_of_none : All IsProperEntry []
    all_of_none = All-from_recursion IsProperEntry [] tt
