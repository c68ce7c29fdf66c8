-- The place of a conflict copy of one number. The key lemmas are placed_at, long_at, known_more and some_free.
use Rattle.std.proofs.Common.{◌≡◌, ◌≢◌, ℕ, ◌+◌, ◌-◌, ◌<◌, ◌≤◌, ◌==◌, Bool, true, false, List, [], ◌∷◌, ◌++◌, length, map as map_list, refl, sym, ap, ap₂, ◌∙◌, subst, arith, is_some, Result, Err, eqb-true}
use borrow.Author.Tests.{eqb-false}
use Rattle.std.specs.FinMap as map
use Rattle.tree_model.specs.declared.node.FileVersion.{FileVersion}
use Rattle.tree_model.specs.Path.{PathV, parent_of, last_name}
use Rattle.tree_model.proofs.BelowLemmas.{parent_push, last_push}
use Rattle.tree_model.proofs.ListedLemmas.{is_in}
use Rattle.tree_model.proofs.MovingLemmas.{pigeons}
use Rattle.tree_model.proofs.CopyLemmas.{spots_apart}
use Rattle.conflict_names.specs.Naming.{naming}
use Rattle.conflict_names.proofs.GoodNameLemmas.{naming-naming}
use Rattle.tree_merge.specs.Decision.{Marks}
use Rattle.tree_merge.specs.ConflictNaming.{name_of, place_of, IsPlaceAt, IsLongAt, AreKnown}
use Rattle.tree_merge.specs.declared.conflict_copies.CopyFault.{CopyFault}
use Rattle.tree_merge.specs.declared.conflict_copies.CopyFault.TheVariants.{TooLong}
use Rattle.tree_merge.specs.declared.file_entry.FileEntry.{FileEntry}

module _ (path dir : PathV) (name : List ℕ) (file : FileEntry) (number : ℕ) (split : path ≡ dir ++ name ∷ []) where
  same_name : naming name file.modifier file.mtime number ≡ name_of path file number
  same_name = ap (λ (n : List ℕ). naming n file.modifier file.mtime number) (sym (ap last_name split ∙ last_push dir name))

  same_dir : dir ≡ parent_of path
  same_dir = sym (ap parent_of split ∙ parent_push dir name)

  pub placed_at : (made : List ℕ) (place : PathV) → made ≡ naming name file.modifier file.mtime number → place ≡ dir ++ made ∷ []
      → (255 < length (naming name file.modifier file.mtime number) → ⊥) → IsPlaceAt path file number place
  placed_at made place named is short = record {
    is = is ∙ ap₂ (λ (d : PathV) (n : List ℕ). d ++ n ∷ []) same_dir (named ∙ same_name);
    short = subst (λ (n : List ℕ). length n ≤ 255) same_name (at_most (length (naming name file.modifier file.mtime number)) short);
  }
    where
      at_most : (n : ℕ) → (255 < n → ⊥) → n ≤ 255
      at_most n h = omega (arith, h)

  pub long_at : (told : PathV) (of : PathV) (size bytes : ℕ) → told ≡ path → (size ≡ length (naming name file.modifier file.mtime number)) → 255 < length (naming name file.modifier file.mtime number)
      → of ≡ told → bytes ≡ size → IsLongAt path file number of bytes
  long_at told of size bytes is counted long own same = record {
    own = own ∙ is;
    is = same ∙ counted ∙ ap length same_name;
    long = subst (λ (n : ℕ). 255 < n) (sym (same ∙ counted)) long;
  }

-- the fields of a refusal
pub long_told : {T : Type 0} (r : Result T CopyFault) (p q : PathV) (m n : ℕ) → r ≡ Err (TooLong p m) → r ≡ Err (TooLong q n) → (q ≡ p) × (n ≡ m)
long_told r p q m n e f = (cc, cc)

module _ (known : Marks) (path : PathV) (file : FileEntry) where
  pub known_more : (number : ℕ) → AreKnown known path file number → is_some (map.get known (place_of path file number)) ≡ true → AreKnown known path file (number + 1)
  known_more number before here j from below = by (j == number) refl
    where
      by : (b : Bool) → (j == number) ≡ b → is_some (map.get known (place_of path file j)) ≡ true
      by true e = ap (λ (k : ℕ). is_some (map.get known (place_of path file k))) (eqb-true j number e) ∙ here
      by false e = let other : j ≢ number = eqb-false j number e in before j from (omega arith)

  -- any version of the file has the same places
  abbrev as_version : FileVersion
  as_version = record { mode = file.mode; mtime = file.mtime; modifier = file.modifier; bytes = [] }

  length_map : {X Y : Type 0} (f : X → Y) (xs : List X) → length (map_list f xs) ≡ length xs
  length_map f [] = refl
  length_map f (x ∷ xs) = let more = length_map f xs in omega arith

  -- one more number than there are known paths: one of the places isn't known
  pub some_free : (number : ℕ) → AreKnown known path file number → number ≤ map.len known + 1
  some_free number all =
      let few : ((i : ℕ) → i < number - 1 → is_in (place_of path file (1 + i)) (map.keys known) ≡ true) =
      λ i below. sym (map.contains_key-keys known (place_of path file (1 + i))) ∙ all (1 + i) (omega arith) (omega arith) in
      let held : number - 1 ≤ length (map.keys known) =
      pigeons (λ i. place_of path file (1 + i)) (spots_apart naming naming-naming (path, as_version)) (number - 1) (map.keys known) few in
      let one = length_map (λ e. e.0) (map.entries known) in
      let two = map.len-entries known in
      omega arith
