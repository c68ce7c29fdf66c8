-- What a scan has found so far, for private clauses. Read AreOf, then Knows and HasScanned.
use Rattle.std.specs.Prelude.{◌≡◌, ℕ, ◌≤◌, Bool, true, false, List, length, nat_lt, Option, Some, None, IsSome, is_some, option_and_then, Result, Ok, Err}
use Rattle.std.specs.FinMap as map
use Rattle.tree_model.specs.Path.{PathV}
use Rattle.tree_model.specs.DirectorySurvival.{is_within, is_under}
use Rattle.block_chunker.specs.declared.cuts.Cuts.{Cuts}
use Rattle.folder_side.specs.declared.error.ScanFault.{ScanFault}
use Rattle.folder_side.specs.declared.findings.Findings.{Findings}
use Rattle.folder_side.specs.declared.holding.Holding.{Holding}
use Rattle.folder_side.specs.declared.holding.Holding.TheVariants.{File}
use Rattle.folder_side.specs.declared.scan_report.Scan.{Scan}
use Rattle.folder_side.specs.declared.scan_report.Seen.{Seen}
use Rattle.folder_side.specs.Folder.{Contents, at, nameless_at, is_other}
use Rattle.folder_side.specs.ScanReport.{seen_of, IsPastLimit}
use Rattle.folder_side.specs.declared.file_reader.TheConstants.{MAX_FILE}
use Rattle.tree_model.specs.declared.limits.TheConstants.{MAX_NAMES}

-- what a scan is to see at a path
abbrev pub seen_at : Cuts → Contents → PathV → Option Seen
seen_at cuts c path = option_and_then (seen_of cuts) (at c path)

-- whether it is to skip the path
abbrev pub skips : Option Holding → Bool
skips None = false
skips (Some holding) = is_other holding

abbrev pub is_skipped : Contents → PathV → Bool
is_skipped c path = skips (at c path)

abbrev pub has_nameless : Contents → PathV → Bool
has_nameless c dir = nat_lt 0 (nameless_at c dir)

-- a file at the path has no more bytes than a file may have
abbrev pub IsSmall : Contents → PathV → Type 0
IsSmall c path = (bytes : List ℕ) → at c path ≡ Some (File bytes) → length bytes ≤ MAX_FILE

-- what was found is so, and within the limits of a path and a file
pub record AreOf (cuts : Cuts) (c : Contents) (found : Findings) : Type 0 where
  pub seen : (path : PathV) → IsSome (map.get found.paths path) → map.get found.paths path ≡ seen_at cuts c path
  pub skipped : (path : PathV) → IsSome (map.get found.skipped path) → is_skipped c path ≡ true
  pub nameless : (dir : PathV) → IsSome (map.get found.nameless dir) → has_nameless c dir ≡ true
  pub deep : (path : PathV) → IsSome (map.get found.paths path) → length path ≤ MAX_NAMES
  pub big : (path : PathV) → IsSome (map.get found.paths path) → IsSmall c path

-- all is found that is to be found of an entry at a path
pub record Knows (cuts : Cuts) (c : Contents) (found : Findings) (path : PathV) : Type 0 where
  pub seen : map.get found.paths path ≡ seen_at cuts c path
  pub skipped : is_some (map.get found.skipped path) ≡ is_skipped c path

-- it is found whether a directory has nameless entries
abbrev pub KnowsNameless : Contents → Findings → PathV → Type 0
KnowsNameless c found dir = is_some (map.get found.nameless dir) ≡ has_nameless c dir

-- more is found, and nothing is lost
pub record Grows (cuts : Cuts) (c : Contents) (old new : Findings) : Type 0 where
  pub are_of : AreOf cuts c new
  pub entries : (path : PathV) → Knows cuts c old path → Knows cuts c new path
  pub nameless : (dir : PathV) → KnowsNameless c old dir → KnowsNameless c new dir

-- all is found of the entry
pub record HasTaken (cuts : Cuts) (c : Contents) (path : PathV) (old new : Findings) : Type 0 where
  pub grows : Grows cuts c old new
  pub known : Knows cuts c new path

-- all is found at a path and under it
pub record KnowsWithin (cuts : Cuts) (c : Contents) (found : Findings) (path : PathV) : Type 0 where
  pub entries : (q : PathV) → is_within path q ≡ true → Knows cuts c found q
  pub nameless : (q : PathV) → is_within path q ≡ true → KnowsNameless c found q

-- all is found of the entry and of what lies under it
pub record HasTakenItem (cuts : Cuts) (c : Contents) (path : PathV) (old new : Findings) : Type 0 where
  pub grows : Grows cuts c old new
  pub known : KnowsWithin cuts c new path

-- all is found that lies under a directory
pub record HasScanned (cuts : Cuts) (c : Contents) (dir : PathV) (old new : Findings) : Type 0 where
  pub grows : Grows cuts c old new
  pub under : (path : PathV) → is_under dir path ≡ true → Knows cuts c new path
  pub nameless : (path : PathV) → is_within dir path ≡ true → KnowsNameless c new path

-- the report of what was found
pub record Reports (found : Findings) (scan : Scan) : Type 0 where
  pub paths : scan.paths ≡ found.paths
  pub skipped : scan.skipped ≡ map.keys found.skipped
  pub nameless : scan.nameless ≡ map.keys found.nameless

-- success leaves what is wanted, and a refusal is true of the folder
abbrev pub Gives : {T : Type 0} → Contents → Type 0 → Result T ScanFault → Type 0
Gives c wanted (Ok x) = wanted
Gives c wanted (Err fault) = IsPastLimit c fault
