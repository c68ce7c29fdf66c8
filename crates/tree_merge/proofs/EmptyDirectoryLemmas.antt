-- Which directories have forty zeros for an id. The key lemmas are nil_where_empty and some_written.
use Rattle.std.proofs.Common.{◌≡◌, ◌≢◌, ◌==◌, ℕ, Bool, true, false, if◌then◌else◌, List, [], ◌∷◌, ◌++◌, length, refl, sym, ap, ◌∙◌, All, Option, Some, None, option_map, arith, eqb-true, true≢false, inl, inr}
use Rattle.std.specs.FinMap as map
use Rattle.std.specs.Cmp.Lexicographic.{bytes_decides}
use Rattle.std.specs.List.{IsDistinct}
use Rattle.std.specs.Str.{bytes_eq}
use Rattle.ids.specs.Key.{Objects}
use Rattle.ids.specs.ObjectId.{nil}
use Rattle.tree_model.specs.Path.{PathV}
use Rattle.fs_objects.specs.Directory.{names_of}
use Rattle.fs_objects.specs.Proper.{IsProperEntry}
use Rattle.fs_objects.specs.Spelling.{in_written_order}
use Rattle.fs_objects.specs.declared.dirent.Dirent.{Dirent}
use Rattle.object_graph.specs.Objects.{entries_of, entry_named, entry_of, fs_at}
use Rattle.tree_merge.specs.Sides.{Entries}
use Rattle.tree_merge.specs.TreeBuilding.{IsNilWhereEmpty, Lists}
use Rattle.tree_merge.proofs.DirentLemmas.{same_name-itself, written_listing}
use Rattle.tree_merge.proofs.MadeLemmas.{kept_itself}

-- a list in which no name is found is empty
no_names : (es : List Dirent) → ((n : List ℕ) → entry_named n es ≡ None) → es ≡ []
no_names [] none = refl
no_names (e ∷ es) none =
    let both : Some e ≡ None = ap (λ (b : Bool). if b then Some e else entry_named e.name es) (sym (same_name-itself e.name)) ∙ none e.name in cc

pub some_written : (es : List Dirent) → IsDistinct bytes_eq (names_of es) → es ≢ [] → in_written_order es ≢ []
some_written es distinct some is = some (no_names es (λ n. sym (written_listing es distinct n) ∙ ap (entry_named n) is))

pub some_items : (es : List Dirent) (b : Bool) → b ≡ (length es == 0) → b ≡ false → es ≢ []
some_items es b told none is = true≢false (sym (ap (λ (xs : List Dirent). length xs == 0) is) ∙ sym told ∙ none)

pub no_items : (es : List Dirent) (b : Bool) → b ≡ (length es == 0) → b ≡ true → es ≡ []
no_items [] b told is = refl
no_items (e ∷ es) b told is =
    let zero_long : length (e ∷ es) ≡ 0 = eqb-true (length (e ∷ es)) 0 (sym told ∙ is) in absurd (omega (arith, zero_long))

unmapped : (o : Option Dirent) → option_map entry_of o ≡ None → o ≡ None
unmapped None is = refl
unmapped (Some e) is = cc

-- a directory whose entries are those of the tree
pub nil_where_empty : (W : Entries) (M : Objects) (dir : PathV) (id : List ℕ) (es : List Dirent) → All IsProperEntry es → Lists M id es
    → ((n : List ℕ) → option_map entry_of (entry_named n es) ≡ map.get W (dir ++ n ∷ [])) → IsNilWhereEmpty W dir id
nil_where_empty W M dir id es proper lists told = (of_nil, of_none)
  where
    of_nil : id ≡ nil → (n : List ℕ) → map.get W (dir ++ n ∷ []) ≡ None
    of_nil is n =
        sym (told n)
        ∙ ap (option_map entry_of)
        (sym (lists.names proper M (kept_itself M) n) ∙ ap (λ (b : Bool). entry_named n (if b then [] else entries_of (fs_at M id))) ((bytes_decides id nil).1 is))

    of_none : ((n : List ℕ) → map.get W (dir ++ n ∷ []) ≡ None) → id ≡ nil
    of_none none =
        elim lists.written [
          | inl zeros ↦ zeros
          | inr written ↦ absurd (written.some (no_names es (λ n. unmapped (entry_named n es) (told n ∙ none n))))
        ]

pub zeros_same : (W E : Entries) → ((q : PathV) → map.get W q ≡ map.get E q) → (dir : PathV) (id : List ℕ) → IsNilWhereEmpty W dir id → IsNilWhereEmpty E dir id
zeros_same W E same dir id zeros = (
  λ is name. sym (same (dir ++ name ∷ [])) ∙ zeros.0 is name,
  λ none. zeros.1 (λ name. same (dir ++ name ∷ []) ∙ none name),
)
