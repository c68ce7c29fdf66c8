-- What is written of an index has no float, and nests three levels at most.
use Rattle.std.proofs.Common.{◌≡◌, ◌≤◌, ℕ, ℤ, pos, negsuc, List, [], ◌∷◌, map, false, Option, Some, None, refl, arith}
use Rattle.std.specs.FinMap as fin
use Rattle.serde_json.specs.Data.{depth, items_depth}
use Rattle.serde_json.specs.Find.{is_float, of_integer}
use Rattle.serde_json.specs.View.{items_of}
use Rattle.serde_json.specs.Written.{has_float, items_have_float}
use Rattle.tree_model.specs.Path.{PathV}
use Rattle.local_index.specs.IndexSpelling.{directory_with, file_with, entry_data, known_data, base_data, index_with, index_data}
use Rattle.local_index.specs.declared.index.Index.{Index}
use Rattle.local_index.specs.declared.index.Known.{Known}
use Rattle.local_index.specs.declared.index.Known.TheVariants.{Dir, File}
use Rattle.json_words.proofs.FoundLemmas.{is_float-of_integer}

has_float-known_data : (path : PathV) (known : Known) → has_float (known_data path known) ≡ false
unfolding directory_with file_with
has_float-known_data path Dir = refl
has_float-known_data path (File id own size mode mtime modifier) = rw (is_float-of_integer mtime)

depth-known_data : (path : PathV) (known : Known) → depth (known_data path known) ≡ 1
unfolding directory_with file_with
depth-known_data path Dir = refl
depth-known_data path (File id own size mode mtime modifier) = refl

no_float_entries : (es : List (PathV × Known)) → items_have_float (items_of (map entry_data es)) ≡ false
no_float_entries [] = refl
no_float_entries (e ∷ es) = rw (has_float-known_data e.0 e.1) (no_float_entries es)

shallow_entries : (es : List (PathV × Known)) → items_depth (items_of (map entry_data es)) ≤ 1
shallow_entries [] = omega arith
shallow_entries (e ∷ es) = let d = depth-known_data e.0 e.1 in let rest = shallow_entries es in omega arith

has_float-base_data : (base : Option (List ℕ)) → has_float (base_data base) ≡ false
has_float-base_data None = refl
has_float-base_data (Some id) = refl

depth-base_data : (base : Option (List ℕ)) → depth (base_data base) ≡ 0
depth-base_data None = refl
depth-base_data (Some id) = refl

pub has_float-index_data : (index : Index) → has_float (index_data index) ≡ false
unfolding index_with
has_float-index_data index = rw (has_float-base_data index.base, no_float_entries (fin.entries index.entries))

pub depth-index_data : (index : Index) → depth (index_data index) ≤ 127
unfolding index_with
depth-index_data index =
    let base = depth-base_data index.base in
    let rest = shallow_entries (fin.entries index.entries) in
    omega arith
