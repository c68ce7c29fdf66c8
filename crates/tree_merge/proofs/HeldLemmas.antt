-- What each directory holds so far, as a table. The key lemmas are held_more and emptied_is.
use Rattle.std.proofs.Common.{◌≡◌, Bool, true, false, cond, if◌then◌else◌, List, [], ◌∷◌, ◌++◌, refl, sym, ap, ◌∙◌, Option, Some, None}
use Rattle.std.specs.FinMap as map
use Rattle.tree_model.specs.Path.{PathV}
use Rattle.tree_model.specs.PathOrder.{paths_total}
use Rattle.tree_model.proofs.ListedLemmas.{same_path, same_path-true}
use Rattle.fs_objects.specs.declared.dirent.Dirent.{Dirent}
use Rattle.tree_merge.specs.TreeBuilding.{Held, held_at, emptied}
use Rattle.tree_merge.proofs.TableLemmas.{get-put}

held_cond : (b : Bool) (o : Option (List Dirent)) → held_at (cond b None o) ≡ (if b then [] else held_at o)
held_cond true o = refl
held_cond false o = refl

pub held_more : (old new : Held) (dir : PathV) (dirent : Dirent) (more : List Dirent) → more ≡ held_at (map.get old dir) ++ dirent ∷ [] → new ≡ map.insert (map.remove old dir) dir more
    → (q : PathV) → held_at (map.get new q) ≡ (if same_path q dir then held_at (map.get old q) ++ dirent ∷ [] else held_at (map.get old q))
held_more old new dir dirent more is put q =
    ap held_at (ap (λ (m : Held). map.get m q) put ∙ get-put (map.remove old dir) dir more q ∙ ap (cond (same_path q dir) (Some more)) (map.get-remove paths_total old dir q))
    ∙ by (same_path q dir) refl
  where
    by : (b : Bool) → same_path q dir ≡ b → held_at (cond b (Some more) (cond b None (map.get old q))) ≡ (if b then held_at (map.get old q) ++ dirent ∷ [] else held_at (map.get old q))
    by true tie = is ∙ ap (λ (p : PathV). held_at (map.get old p) ++ dirent ∷ []) (sym (same_path-true q dir tie))
    by false apart = refl

pub emptied_is : (old removed new : Held) (path dir : PathV) (dirent : Dirent) → removed ≡ map.remove old path
    → ((q : PathV) → held_at (map.get new q) ≡ (if same_path q dir then held_at (map.get removed q) ++ dirent ∷ [] else held_at (map.get removed q)))
    → (q : PathV) → held_at (map.get new q) ≡ (if same_path q dir then emptied path old q ++ dirent ∷ [] else emptied path old q)
emptied_is old removed new path dir dirent is listed q =
    listed q ∙ ap (λ (es : List Dirent). if same_path q dir then es ++ dirent ∷ [] else es)
    (ap held_at (ap (λ (m : Held). map.get m q) is ∙ map.get-remove paths_total old path q) ∙ held_cond (same_path q path) (map.get old q))
