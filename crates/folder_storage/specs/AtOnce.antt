-- What came of syncs that were asked for several at once. Our own.
use Rattle.std.specs.Prelude.{◌≡◌, ℕ, true, List, HoldsAt, string_bytes}
use Rattle.ids.specs.declared.key.Key.{Key}
use Rattle.object_store.specs.declared.shelf.Slot.TheVariants.{Object}
use Rattle.folder_storage.specs.declared.durability.Directory.{Directory}
use Rattle.folder_storage.specs.declared.durability.Directory.TheVariants.{Objects, OfKind}
use Rattle.folder_storage.specs.declared.file_system.SyncEnding.{SyncEnding}
use Rattle.folder_storage.specs.declared.file_system.SyncPlace.{SyncPlace}
use Rattle.folder_storage.specs.SyncAnswer.{is_done_by}
use Rattle.folder_storage.specs.Paths.{kind_folder, listed_text, slot_text, under}

abbrev pub ending_told : SyncPlace → SyncEnding
ending_told place = place.ending

abbrev pub path_told : SyncPlace → List ℕ
path_told place = string_bytes place.path

-- the path of an object's file
abbrev pub file_text : List ℕ → Key → List ℕ
file_text library key = slot_text library (Object key)

-- where this stands in the list the ending is this one
abbrev pub EndedSo : {A : Type 0} → List A → List SyncEnding → A → SyncEnding → Type 0
EndedSo asked endings one ending = (place : ℕ) × HoldsAt (λ other. other ≡ one) asked place × HoldsAt (λ told. told ≡ ending) endings place

abbrev pub IsDone : SyncEnding → Type 0
IsDone ending = is_done_by ending ≡ true

-- where this stands in the list the ending is one by which it is durable
abbrev pub IsDoneSo : {A : Type 0} → List A → List SyncEnding → A → Type 0
IsDoneSo asked endings one = (ending : SyncEnding) × EndedSo asked endings one ending × IsDone ending

-- the path of a folder whose names are synced
abbrev pub directory_text : List ℕ → Directory → List ℕ
directory_text library (Objects kind first) = listed_text library kind first
directory_text library (OfKind kind) = under library (kind_folder kind)
