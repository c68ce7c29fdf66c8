-- What a scan finds of a folder's contents. Our own. Read IsScan.
use Rattle.std.specs.Prelude.{◌≡◌, ℕ, ◌+◌, ◌<◌, ◌≤◌, Bool, true, false, if◌then◌else◌, List, length, map, nat_lt, Option, Some, None, option_and_then, count_by, ⊤}
use Rattle.std.specs.List.{filter_map}
use Rattle.std.specs.FinMap as map
use Rattle.sha1.specs.Sha1.{sha1}
use Rattle.tree_model.specs.Path.{PathV}
use Rattle.block_chunker.specs.declared.cuts.Cuts.{Cuts}
use Rattle.block_chunker.specs.ChunkBoundaries.{chunks_of}
use Rattle.folder_side.specs.declared.holding.Holding.{Holding}
use Rattle.folder_side.specs.declared.holding.Holding.TheVariants.{Dir, File, Other}
use Rattle.folder_side.specs.declared.scan_report.Seen.{Seen}
use Rattle.folder_side.specs.declared.scan_report.Seen.TheVariants as seen
use Rattle.folder_side.specs.declared.scan_report.Scan.{Scan}
use Rattle.folder_side.specs.declared.error.ScanFault.{ScanFault}
use Rattle.folder_side.specs.declared.error.ScanFault.TheVariants as fault
use Rattle.folder_side.specs.Folder.{Contents, at, is_other}
use Rattle.tree_model.specs.declared.limits.TheConstants.{MAX_NAMES, MAX_PATHS}
use Rattle.folder_side.specs.declared.file_reader.TheConstants.{MAX_FILE}

-- the names of a file's chunks
abbrev pub block_names : Cuts → List ℕ → List (List ℕ)
block_names cuts bytes = map sha1 (chunks_of cuts bytes)

abbrev pub seen_of : Cuts → Holding → Option Seen
seen_of cuts Dir = Some seen.Dir
seen_of cuts (File bytes) = Some (seen.File (block_names cuts bytes) (length bytes))
seen_of cuts Other = None

abbrev pub skipped_path : PathV × Holding → Option PathV
skipped_path entry = if is_other entry.1 then Some entry.0 else None

abbrev pub nameless_path : PathV × ℕ → Option PathV
nameless_path entry = if nat_lt 0 entry.1 then Some entry.0 else None

-- every file by its chunks, every directory, the paths of other entries, and the directories with nameless ones
pub record IsScan (cuts : Cuts) (c : Contents) (scan : Scan) : Type 0 where
  pub paths : (path : PathV) → map.get scan.paths path ≡ option_and_then (seen_of cuts) (at c path)
  pub skipped : scan.skipped ≡ filter_map skipped_path (map.entries c.paths)
  pub nameless : scan.nameless ≡ filter_map nameless_path (map.entries c.nameless)

-- ---- the limits of a scan: 100 names a path, 1,000,000 files and directories, 256 GiB a file

abbrev pub is_visible : Holding → Bool
is_visible Dir = true
is_visible (File bytes) = true
is_visible Other = false

abbrev pub visible_count : Contents → ℕ
visible_count c = count_by (λ entry. is_visible entry.1) (map.entries c.paths)

pub record IsWithinLimits (c : Contents) : Type 0 where
  pub deep : (path : PathV) (holding : Holding) → at c path ≡ Some holding → is_visible holding ≡ true → length path ≤ MAX_NAMES
  pub many : visible_count c ≤ MAX_PATHS
  pub big : (path : PathV) (bytes : List ℕ) → at c path ≡ Some (File bytes) → length bytes ≤ MAX_FILE

-- a refusal is true of the folder; a failure and want of memory say nothing of it
abbrev pub IsPastLimit : Contents → ScanFault → Type 0
IsPastLimit c fault.Folder = ⊤
IsPastLimit c (fault.TooDeep path) = (holding : Holding) × (at c path ≡ Some holding) × (is_visible holding ≡ true) × (MAX_NAMES < length path)
IsPastLimit c (fault.TooMany count) = (count ≡ MAX_PATHS + 1) × (MAX_PATHS < visible_count c)
IsPastLimit c (fault.TooBig path) = (bytes : List ℕ) × (at c path ≡ Some (File bytes)) × (MAX_FILE < length bytes)
IsPastLimit c fault.NoMemory = ⊤

abbrev pub is_scan_failure : ScanFault → Bool
is_scan_failure fault.Folder = true
is_scan_failure (fault.TooDeep path) = false
is_scan_failure (fault.TooMany count) = false
is_scan_failure (fault.TooBig path) = false
is_scan_failure fault.NoMemory = false
