-- What a folder in memory tells of its calls. Our own. Read calls_of.
use Rattle.std.specs.Prelude.{List, map}
use Rattle.tree_model.specs.Path.{PathV}
use Rattle.folder_side.specs.Calls.{Call, Compared, Looked, MadeDir, Moved, Opened, Read, Removed, SpareAdded, SpareCleared, SpareSynced}
use Rattle.folder_tests.specs.declared.made.Made.{Made}
use Rattle.folder_tests.specs.declared.made.Made.TheVariants as made

-- a call that was noted of a path
abbrev pub call_of : PathV → Made → Call
call_of path (made.Looked kind) = Looked path kind
call_of path (made.Opened there) = Opened path there
call_of path (made.Read place bytes) = Read path place bytes
call_of path (made.Compared same) = Compared path same
call_of path made.SpareCleared = SpareCleared
call_of path (made.SpareAdded count) = SpareAdded count
call_of path made.SpareSynced = SpareSynced
call_of path made.Moved = Moved path
call_of path made.MadeDir = MadeDir path
call_of path made.Removed = Removed path

-- those that were noted, in their order
abbrev pub calls_of : List (PathV × Made) → List Call
calls_of noted = map (λ (one : PathV × Made). call_of one.0 one.1) noted
