-- Several files and directories that are asked for one after another, and how much the index tells them to have. Our own.
use Rattle.std.specs.Prelude.{ℕ, List, Option, None, Some, sum_by}
use Rattle.std.specs.FinMap as map
use Rattle.ids.specs.declared.key.Kind.TheVariants.{Fs}
use Rattle.library_state.specs.declared.call.Act.{Act}
use Rattle.library_state.specs.declared.call.Act.TheVariants as act
use Rattle.library_state.specs.declared.call.Call.{Call}
use Rattle.object_store.specs.StoreView.{Index}

-- a file or directory is asked for
abbrev pub fs_get : List ℕ → Act
fs_get id = act.Get (record { kind = Fs; id = id })

abbrev pub fs_call : Option (List ℕ) → List ℕ → Call
fs_call secret id = record { secret = secret; act = fs_get id }

-- a size that is known, or no byte
abbrev pub size_or_none : Option ℕ → ℕ
size_or_none None = 0
size_or_none (Some size) = size

-- how many bytes the index knows the file or directory of this id to have
abbrev pub size_of : Index → List ℕ → ℕ
size_of index id = size_or_none (map.get index (record { kind = Fs; id = id }))

-- and all of these together, each as often as it is named
abbrev pub sizes_of : Index → List (List ℕ) → ℕ
sizes_of index ids = sum_by (size_of index) ids
