-- For private clauses: the changes between two lists of entries in the order of their paths, met from the front.
use Rattle.std.specs.Prelude.{List, [], ◌∷◌, ◌++◌, if◌then◌else◌}
use Rattle.std.specs.declared.cmp.Ordering.{Ordering}
use Rattle.std.specs.declared.cmp.Ordering.TheVariants.{Less, Equal, Greater}
use Rattle.tree_model.specs.Path.{PathV, path_cmp}
use Rattle.folder_side.specs.declared.scan_report.Seen.{Seen}
use Rattle.local_index.specs.ScanChanges.{differs}
use Rattle.local_index.specs.declared.scan_changes.Change.{Change}
use Rattle.local_index.specs.declared.scan_changes.ChangeKind.TheVariants.{Added, Changed, Gone}
use Rattle.local_index.specs.declared.index.Known.{Known}

abbrev pub added : PathV × Seen → Change
added entry = record { path = entry.0; kind = Added }

abbrev pub gone : PathV × Known → Change
gone entry = record { path = entry.0; kind = Gone }

abbrev pub changed : PathV × Seen → PathV × Known → List Change
changed entry other = if differs entry.1 other.1 then (record { path = entry.0; kind = Changed } ∷ []) else []

abbrev pub all_gone : List (PathV × Known) → List Change
all_gone [] = []
all_gone (f ∷ fs) = gone f ∷ all_gone fs

-- what the lesser of two first entries gives, before what is behind it
abbrev pub by_first : Ordering → PathV × Seen → PathV × Known → List Change → List Change → List Change → List Change
by_first Less e f less equal greater = added e ∷ less
by_first Equal e f less equal greater = changed e f ++ equal
by_first Greater e f less equal greater = gone f ∷ greater

-- an entry that was seen, before all behind it
abbrev pub merged_first : PathV × Seen → (List (PathV × Known) → List Change) → List (PathV × Known) → List Change
merged_first e behind [] = added e ∷ behind []
merged_first e behind (f ∷ fs) = by_first (path_cmp e.0 f.0) e f (behind (f ∷ fs)) (behind fs) (merged_first e behind fs)

abbrev pub merged : List (PathV × Seen) → List (PathV × Known) → List Change
merged [] fs = all_gone fs
merged (e ∷ es) fs = merged_first e (merged es) fs
