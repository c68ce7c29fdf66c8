-- What the names of a directory's entries lead to. The key lemmas are entries_same and ids_same.
use Rattle.std.proofs.Common.{◌≡◌, ℕ, List, [], ◌∷◌, refl, sym, ap, ◌∙◌, Option, Some, None, option_map, option_and_then}
use Rattle.ids.specs.Key.{Objects}
use Rattle.tree_model.specs.Path.{PathV}
use Rattle.fs_objects.specs.declared.dirent.Dirent.{Dirent}
use Rattle.object_graph.specs.Objects.{entry_named, entry_of, directory_in, entry_in, dirents_at}
use Rattle.tree_merge.specs.TreeBuilding.{directory_id_in}

module _ (objects : Objects) (es fs : List Dirent) (same : (n : List ℕ) → entry_named n es ≡ entry_named n fs) where
  pub entries_same : (q : PathV) → entry_in objects es q ≡ entry_in objects fs q
  entries_same [] = refl
  entries_same (n ∷ []) = ap (option_map entry_of) (same n)
  entries_same (n ∷ m ∷ q) = ap (λ (o : Option Dirent). option_and_then (λ id. entry_in objects (dirents_at objects id) (m ∷ q)) (directory_in o)) (same n)

  pub ids_same : (q : PathV) → directory_id_in objects es q ≡ directory_id_in objects fs q
  ids_same [] = refl
  ids_same (n ∷ []) = ap directory_in (same n)
  ids_same (n ∷ m ∷ q) = ap (λ (o : Option Dirent). option_and_then (λ id. directory_id_in objects (dirents_at objects id) (m ∷ q)) (directory_in o)) (same n)

-- what an entry's name leads to depends on that entry alone
module _ (objects : Objects) (es fs : List Dirent) (n : List ℕ) (same : entry_named n es ≡ entry_named n fs) where
  pub entry_same : (q : PathV) → entry_in objects es (n ∷ q) ≡ entry_in objects fs (n ∷ q)
  entry_same [] = ap (option_map entry_of) same
  entry_same (m ∷ q) = ap (λ (o : Option Dirent). option_and_then (λ id. entry_in objects (dirents_at objects id) (m ∷ q)) (directory_in o)) same

  pub id_same : (q : PathV) → directory_id_in objects es (n ∷ q) ≡ directory_id_in objects fs (n ∷ q)
  id_same [] = ap directory_in same
  id_same (m ∷ q) = ap (λ (o : Option Dirent). option_and_then (λ id. directory_id_in objects (dirents_at objects id) (m ∷ q)) (directory_in o)) same

pub nothing_named : (objects : Objects) (n : List ℕ) (q : PathV) → entry_in objects [] (n ∷ q) ≡ None
nothing_named objects n [] = refl
nothing_named objects n (m ∷ q) = refl

-- an entry whose name leads somewhere is listed
pub id_named : (objects : Objects) (es : List Dirent) (n : List ℕ) (q : PathV) (id : List ℕ) → directory_id_in objects es (n ∷ q) ≡ Some id → entry_named n es ≡ None → ⊥
id_named objects es n [] id there none = let both : None ≡ Some id = sym (ap directory_in none) ∙ there in cc
id_named objects es n (m ∷ q) id there none =
    let both : None ≡ Some id = sym (ap (λ (o : Option Dirent). option_and_then (λ i. directory_id_in objects (dirents_at objects i) (m ∷ q)) (directory_in o)) none) ∙ there in cc
