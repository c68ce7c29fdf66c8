-- The paths of a library's folder and the names in it. Our own. Read slot_text first, then IsNamed.
use Rattle.std.specs.Prelude.{◌≡◌, ℕ, ◌<◌, ◌++◌, All, List, [], ◌∷◌, codes, drop, length, slice_index, Option, None, Some, ⊤}
use Rattle.hex.specs.Hex.{encode_lower}
use Rattle.uuid.specs.Text.{hyphenated_text, lower}
use Rattle.ids.specs.declared.key.Kind.{Kind}
use Rattle.ids.specs.declared.key.Kind.TheVariants.{Commit, Fs, Block}
use Rattle.object_store.specs.declared.shelf.Slot.{Slot}
use Rattle.object_store.specs.declared.shelf.Slot.TheVariants.{Object, Status}

-- the path of what has a name in a folder
abbrev pub under : List ℕ → List ℕ → List ℕ
under folder name = folder ++ (codes "/" ++ name)

-- the path of a library's folder, by its id's text
abbrev pub library_text : List ℕ → List ℕ → List ℕ
library_text folder lib = under folder (hyphenated_text lower lib)

-- the folder of a kind, as Seafile's server names it
abbrev pub kind_folder : Kind → List ℕ
kind_folder Commit = codes "commits"
kind_folder Fs = codes "fs"
kind_folder Block = codes "blocks"

-- the folder of a kind's objects whose ids begin with one byte, named by its two digits
abbrev pub listed_text : List ℕ → Kind → ℕ → List ℕ
listed_text library kind first = under (under library (kind_folder kind)) (encode_lower (first ∷ []))

-- the other 38 digits of an id
abbrev pub other_digits : List ℕ → List ℕ
other_digits id = drop 2 (encode_lower id)

-- the path of a slot's file
abbrev pub slot_text : List ℕ → Slot → List ℕ
slot_text library (Object key) = under (listed_text library key.kind (slice_index key.id 0)) (other_digits key.id)
slot_text library Status = under library (codes "status")

-- twenty bytes, as every id has
abbrev pub IsId : List ℕ → Type 0
IsId id = (length id ≡ 20) × All (λ byte. byte < 256) id

-- the same of a slot
abbrev pub HasId : Slot → Type 0
HasId (Object key) = IsId key.id
HasId Status = ⊤

-- found is the id whose first byte this is and whose other digits are the name; none is found where there is no such id
abbrev pub IsNamed : ℕ → List ℕ → Option (List ℕ) → Type 0
IsNamed first name None = (id : List ℕ) → IsId id → slice_index id 0 ≡ first → name ≡ other_digits id → ⊥
IsNamed first name (Some id) = IsId id × (slice_index id 0 ≡ first) × (name ≡ other_digits id)

-- found is the id whose 40 digits the text is
abbrev pub IsReadAs : List ℕ → Option (List ℕ) → Type 0
IsReadAs text None = (id : List ℕ) → IsId id → text ≡ encode_lower id → ⊥
IsReadAs text (Some id) = IsId id × (text ≡ encode_lower id)
