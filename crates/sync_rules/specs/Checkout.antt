-- What a checkout does to a folder, as a list of steps, and where it may stop. Our own. Read Step and run first, then IsPlan and
-- MayHold.
use Rattle.std.specs.Prelude.{ℕ, ◌≡◌, ◌&&◌, ◌||◌, not, Bool, true, false, All, List, [], ◌∷◌, ◌++◌, map, Option, None, Some, IsSome, Result, Ok, Err, if◌then◌else◌, ⊤}
use Rattle.std.specs.FinMap as fin
use Rattle.std.specs.List.{IsDistinct, list_any}
use Rattle.std.specs.Ordering.{eq_by_cmp}
use Rattle.std.specs.Str.{bytes_eq}
use Rattle.tree_model.specs.DirectorySurvival.{is_under, is_within}
use Rattle.tree_model.specs.Path.{PathV, path_cmp}
use Rattle.tree_model.specs.Tree.{Tree}
use Rattle.tree_model.specs.declared.node.FileVersion.{FileVersion}
use Rattle.tree_model.specs.declared.node.Node.{Node}
use Rattle.tree_model.specs.declared.node.Node.TheVariants as node
use Rattle.block_chunker.specs.declared.cuts.Cuts.{Cuts}
use Rattle.local_index.specs.declared.index.Known.{Known}
use Rattle.local_index.specs.declared.index.Known.TheVariants as known
use Rattle.object_graph.specs.declared.entry.Entry.{Entry}
use Rattle.object_graph.specs.declared.entry.Entry.TheVariants as entry
use Rattle.sync_rules.specs.Offer.{own_of}
use Rattle.folder_side.specs.Folder.{Contents, at, is_other, with_dir, with_file, without}
use Rattle.folder_side.specs.WorkingTree.{held_at, is_stuck, plain_at}
use Rattle.folder_side.specs.declared.holding.Holding.{Holding}
use Rattle.folder_side.specs.declared.holding.Holding.TheVariants.{Dir, File, Other}

-- ---- steps

-- a path is removed, a directory is made, or a file with these bytes is moved there
pub data Step : Type 0 where
  Removed : PathV → Step
  Made : PathV → Step
  Wrote : PathV → List ℕ → Step

abbrev pub do_step : Step → Contents → Contents
do_step (Removed path) = without path
do_step (Made path) = with_dir path
do_step (Wrote path bytes) = with_file path bytes

abbrev pub run : List Step → Contents → Contents
run [] c = c
run (step ∷ steps) c = run steps (do_step step c)

-- a front of the steps leads there
pub data Front : List Step → Contents → Contents → Type 0 where
  stopped : (steps : List Step) (c : Contents) → Front steps c c
  went : (step : Step) (steps : List Step) (c d : Contents) → Front steps (do_step step c) d → Front (step ∷ steps) c d

-- ---- the plan

-- what is held at a path need not go before what the tree has there comes: it is of the same kind
abbrev pub keeps : Option Node → Option Holding → Bool
keeps (Some node.Dir) (Some Dir) = true
keeps (Some (node.File file)) (Some (File bytes)) = true
keeps _ _ = false

-- what is not removed though the tree has nothing there: what is no file and no directory, and a stuck directory
abbrev pub is_kept_apart : Bool → Option Holding → Bool
is_kept_apart stuck None = true
is_kept_apart stuck (Some Dir) = stuck
is_kept_apart stuck (Some (File bytes)) = false
is_kept_apart stuck (Some Other) = true

abbrev pub is_doomed : Tree → Contents → PathV → Bool
is_doomed tree c path = not (keeps (fin.get tree path) (at c path)) && not (is_kept_apart (is_stuck c path) (at c path))

-- what is written at a path of the tree. A directory that is there stays, and so does a file that is left alone
abbrev pub write_at : (alone : Bool) → PathV → Node → Option Holding → List Step
write_at alone path node.Dir (Some Dir) = []
write_at alone path node.Dir _ = Made path ∷ []
write_at alone path (node.File file) (Some (File bytes)) = if alone then [] else Wrote path file.bytes ∷ []
write_at alone path (node.File file) _ = Wrote path file.bytes ∷ []

abbrev pub writes_of : (alone : PathV → Bool) → Contents → List (PathV × Node) → List Step
writes_of alone c [] = []
writes_of alone c (entry ∷ entries) = write_at (alone entry.0) entry.0 entry.1 (at c entry.0) ++ writes_of alone c entries

-- no path stands before one that is under it
abbrev pub IsDeepestFirst : List PathV → Type 0
IsDeepestFirst [] = ⊤
IsDeepestFirst (path ∷ paths) = All (λ later. is_under path later ≡ false) paths × IsDeepestFirst paths

abbrev pub is_one_of : List PathV → PathV → Bool
is_one_of paths path = list_any (λ other. eq_by_cmp path_cmp path other) paths

-- removals first, deepest first, of all that is doomed, each path once, and nothing else; then what is written, in byte order of
-- path. Only a file that has its bytes already is left alone
pub record IsPlan (tree : Tree) (c : Contents) (alone : PathV → Bool) (steps : List Step) : Type 0 where
  pub doomed : List PathV
  pub is : steps ≡ map Removed doomed ++ writes_of alone c (fin.entries tree)
  pub deepest : IsDeepestFirst doomed
  pub once : IsDistinct (eq_by_cmp path_cmp) doomed
  pub all : (path : PathV) → is_one_of doomed path ≡ is_doomed tree c path
  pub alike : (path : PathV) (file : FileVersion) (bytes : List ℕ) → fin.get tree path ≡ Some (node.File file) → at c path ≡ Some (File bytes)
      → alone path ≡ true → file.bytes ≡ bytes

-- ---- which files are left alone

-- what has this own id is the head's file of that id: as the index tells where it did not change, else because it was pushed so
abbrev pub known_has : (own : List ℕ) → Known → (id : List ℕ) → (pushed : Bool) → Bool
known_has own known.Dir id pushed = pushed && bytes_eq own id
known_has own (known.File its was size mode mtime modifier) id pushed = if bytes_eq was own then bytes_eq its id else (pushed && bytes_eq own id)

abbrev pub own_has : (own : List ℕ) → Option Known → (id : List ℕ) → (pushed : Bool) → Bool
own_has own None id pushed = pushed && bytes_eq own id
own_has own (Some k) id pushed = known_has own k id pushed

-- the same of what the folder, the index and the head's tree have at a path
abbrev pub is_alone : Cuts → Option Holding → Option Known → Option Entry → (pushed : Bool) → Bool
is_alone cuts (Some (File bytes)) was (Some (entry.File id mode mtime modifier size)) pushed = own_has (own_of cuts bytes) was id pushed
is_alone cuts _ was _ pushed = false

-- ---- where it may stop

-- a path holds its old contents, those of the tree, or nothing, where the tree has nothing or another kind there
pub data MayHold (tree : Tree) (old new : Contents) (path : PathV) : Type 0 where
  kept : at new path ≡ at old path → MayHold tree old new path
  reached : IsSome (plain_at tree path) → held_at new path ≡ plain_at tree path → MayHold tree old new path
  cleared : at new path ≡ None → keeps (fin.get tree path) (at old path) ≡ false → MayHold tree old new path

-- the steps were done, or a front of them
abbrev pub DoesFrom : {T E : Type 0} → List Step → Contents → Option Contents → Result T E → Type 0
DoesFrom steps c new (Ok done) = new ≡ Some (run steps c)
DoesFrom steps c new (Err fault) = (d : Contents) × (new ≡ Some d) × Front steps c d

-- ---- what is in the way

abbrev pub is_file : Node → Bool
is_file node.Dir = false
is_file (node.File file) = true

-- a path of the tree is blocked: it has a file where the folder has a directory that can't be removed, or the folder has at it or
-- above it an entry that is neither a file nor a directory
abbrev pub is_blocked : Contents → PathV × Node → Bool
is_blocked c entry =
    (is_file entry.1 && is_stuck c entry.0) || list_any (λ held. is_other held.1 && is_within held.0 entry.0) (fin.entries c.paths)

-- the first that is, in byte order of path
abbrev pub first_blocked : Contents → List (PathV × Node) → Option PathV
first_blocked c [] = None
first_blocked c (entry ∷ entries) = if is_blocked c entry then Some entry.0 else first_blocked c entries
