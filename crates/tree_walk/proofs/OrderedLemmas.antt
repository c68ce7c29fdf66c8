-- Entries put into a table from the last to the first. The key lemmas are onto_push and values_entries.
use Rattle.std.proofs.Common.{◌≡◌, ℕ, List, [], ◌∷◌, ◌++◌, length, refl, ap, arith}
use Rattle.std.specs.FinMap as map
use Rattle.std.specs.Prelude.{map as list_map}
use Rattle.fs_objects.specs.declared.dirent.Dirent.{Dirent}
use Rattle.object_graph.specs.Objects.{by_name, name_cmp}

-- the entries put into a table that has some
abbrev pub onto : List Dirent → map.FinMap name_cmp Dirent → map.FinMap name_cmp Dirent
onto [] table = table
onto (e ∷ entries) table = map.insert (onto entries table) e.name e

pub onto-empty : (entries : List Dirent) → onto entries map.empty ≡ by_name entries
onto-empty [] = refl
onto-empty (e ∷ entries) = ap (λ m. map.insert m e.name e) (onto-empty entries)

pub onto_push : (entries : List Dirent) (e : Dirent) (table : map.FinMap name_cmp Dirent) → onto (entries ++ e ∷ []) table ≡ onto entries (map.insert table e.name e)
onto_push [] e table = refl
onto_push (x ∷ entries) e table = ap (λ m. map.insert m x.name x) (onto_push entries e table)

-- the entries of a list of pairs
abbrev pub seconds : List (List ℕ × Dirent) → List Dirent
seconds [] = []
seconds (p ∷ pairs) = p.1 ∷ seconds pairs

pub values_are : (pairs : List (List ℕ × Dirent)) → list_map (λ (p : List ℕ × Dirent). p.1) pairs ≡ seconds pairs
values_are [] = refl
values_are (p ∷ pairs) = ap (λ es. p.1 ∷ es) (values_are pairs)

pub no_pairs : (pairs : List (List ℕ × Dirent)) → length pairs ≡ 0 → pairs ≡ []
no_pairs [] e = refl
no_pairs (p ∷ pairs) e = absurd (omega arith)
