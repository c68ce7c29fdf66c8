-- What a listing of one folder tells, and when it is forgotten. Our own. Read FindsListed first, then IsForgotten.
use Rattle.std.specs.Prelude.{◌≡◌, ℕ, List, Option, None, Some, ⊤, option_map, slice_index}
use Rattle.std.specs.FinMap as map
use Rattle.ids.specs.Key.{key_cmp}
use Rattle.ids.specs.MapView.{IsNext}
use Rattle.ids.specs.declared.key.Key.{Key}
use Rattle.ids.specs.declared.key.Kind.{Kind}
use Rattle.object_store.specs.declared.shelf.Found.{Found}
use Rattle.object_store.specs.declared.shelf.Slot.{Slot}
use Rattle.object_store.specs.declared.shelf.Slot.TheVariants.{Object, Status}
use Rattle.folder_storage.specs.declared.listing.Listing.{Listing}

-- the numbers of bytes of listed objects
abbrev pub Sizes : Type 0
Sizes = map.FinMap key_cmp ℕ

-- the key of a kind with this id, if there is one
abbrev pub key_of : Kind → Option (List ℕ) → Option Key
key_of kind after = option_map (λ id. record { kind = kind; id = id }) after

-- found is what is listed under the key
abbrev pub IsFoundUnder : Sizes → Key → Option Found → Type 0
IsFoundUnder sizes key None = map.get sizes key ≡ None
IsFoundUnder sizes key (Some found) = (found.id ≡ key.id) × (map.get sizes key ≡ Some found.size)

-- found is the listed object of the kind with the least id above `after`; none is found where none is listed there
abbrev pub FindsListed : Sizes → Kind → Option (List ℕ) → Option Found → Type 0
FindsListed sizes kind after None = IsNext sizes (key_of kind after) None
FindsListed sizes kind after (Some found) =
    (key : Key) × IsNext sizes (key_of kind after) (Some key) × (found.id ≡ key.id) × (map.get sizes key ≡ Some found.size)

-- the folder of this key's object is not the one that is listed
abbrev pub IsForgotten : Option Listing → Key → Type 0
IsForgotten None key = ⊤
IsForgotten (Some listing) key = (listing.kind ≡ key.kind) × (listing.first ≡ slice_index key.id 0) → ⊥

-- the same of a slot, that of the state text lying in no listed folder
abbrev pub IsForgottenAt : Option Listing → Slot → Type 0
IsForgottenAt listed (Object key) = IsForgotten listed key
IsForgottenAt listed Status = ⊤
