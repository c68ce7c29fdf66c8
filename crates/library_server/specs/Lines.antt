-- The fault that is printed where a command was not done. Our own. Read fault_of_not_brought first, and the words of
-- each fault in server_words.
use Rattle.std.specs.Prelude.{Bool, true, false}
use Rattle.depot.specs.declared.error.MakeFault.{MakeFault}
use Rattle.depot.specs.declared.error.MakeFault.TheVariants as make
use Rattle.depot.specs.declared.error.StartFault.{StartFault}
use Rattle.depot.specs.declared.error.StartFault.TheVariants as start
use Rattle.depot.specs.declared.error.TokenFault.{TokenFault}
use Rattle.depot.specs.declared.error.TokenFault.TheVariants as token
use Rattle.library_state.specs.declared.state_fault.StateKey.TheVariants as state
use Rattle.object_graph.specs.declared.fault.TreeFault.{TreeFault}
use Rattle.object_graph.specs.declared.fault.TreeFault.TheVariants as tree
use Rattle.object_store.specs.declared.error.StoreFault.{StoreFault}
use Rattle.object_store.specs.declared.error.StoreFault.TheVariants as store
use Rattle.object_store.specs.declared.shelf.ShelfFailed.{ShelfFailed}
use Rattle.object_store.specs.declared.shelf.ShelfFailed.TheVariants as shelf
use Rattle.server_words.specs.declared.fault.Fault.{Fault}
use Rattle.server_words.specs.declared.fault.Fault.TheVariants as fault
use Rattle.library_server.specs.declared.not_done.NotAdded.{NotAdded}
use Rattle.library_server.specs.declared.not_done.NotAdded.TheVariants as added
use Rattle.library_server.specs.declared.not_done.NotMade.{NotMade}
use Rattle.library_server.specs.declared.not_done.NotMade.TheVariants as made
use Rattle.library_server.specs.declared.not_done.NotBrought.{NotBrought}
use Rattle.library_server.specs.declared.not_done.NotBrought.TheVariants as opened
use Rattle.library_server.specs.declared.not_done.NotStarted.{NotStarted}
use Rattle.library_server.specs.declared.not_done.NotStarted.TheVariants as unstarted

abbrev pub fault_of_shelf : ShelfFailed → Fault
fault_of_shelf shelf.Shelf = fault.Store
fault_of_shelf shelf.NoMemory = fault.NoMemory

-- of what is damaged the wanted id is told
abbrev pub fault_of_store : StoreFault → Fault
fault_of_store (store.Taken id) = fault.Taken id
fault_of_store (store.Wrong got) = fault.Damaged got
fault_of_store (store.Damaged want got) = fault.Damaged want
fault_of_store store.Shelf = fault.Store
fault_of_store store.NoMemory = fault.NoMemory

-- a text on the new library's shelf is a library that exists
abbrev pub fault_of_make : MakeFault → Fault
fault_of_make make.HasState = fault.LibraryExists
fault_of_make (make.Store why) = fault_of_store why

abbrev pub fault_of_tree : TreeFault → Fault
fault_of_tree (tree.Incomplete key) = fault.Incomplete key
fault_of_tree (tree.Unreadable key) = fault.Unreadable key
fault_of_tree (tree.WrongKind id) = fault.WrongKind id
fault_of_tree (tree.WrongSize id) = fault.WrongSize id
fault_of_tree (tree.TooDeep path) = fault.TooDeep
fault_of_tree (tree.TooMany paths) = fault.TooMany

abbrev pub fault_of_start : StartFault → Fault
fault_of_start start.NoState = fault.NoState
fault_of_start (start.BadState key) = fault.BadState key
fault_of_start start.Worn = fault.Worn
fault_of_start (start.Walk why) = fault_of_tree why
fault_of_start (start.Store why) = fault_of_store why

abbrev pub fault_of_token : TokenFault → Fault
fault_of_token token.SecretTaken = fault.SecretTaken
fault_of_token token.Full = fault.TokensFull
fault_of_token (token.Store why) = fault_of_store why

-- of another library's state text the check of the library's id is told
abbrev pub fault_of_not_started : NotStarted → Fault
fault_of_not_started (unstarted.Fault why) = fault_of_start why
fault_of_not_started unstarted.Other = fault.BadState state.Lib

-- why a library was not made, was not opened, and why a token was not added, as it is printed
abbrev pub fault_of_not_made : NotMade → Fault
fault_of_not_made (made.Storage failed) = fault_of_shelf failed
fault_of_not_made made.Exists = fault.LibraryExists
fault_of_not_made (made.Refused why) = fault_of_make why

abbrev pub fault_of_not_brought : NotBrought → Fault
fault_of_not_brought (opened.Storage failed) = fault_of_shelf failed
fault_of_not_brought opened.Absent = fault.NoLibrary
fault_of_not_brought (opened.Refused why) = fault_of_not_started why
fault_of_not_brought (opened.Unmade why) = fault_of_not_made why

abbrev pub fault_of_not_added : NotAdded → Fault
fault_of_not_added (added.Unbrought why) = fault_of_not_brought why
fault_of_not_added (added.Refused why) = fault_of_token why

-- the faults of the storage: it failed, or what it gave is damaged
abbrev pub is_storage_fault : Fault → Bool
is_storage_fault fault.Store = true
is_storage_fault (fault.Damaged id) = true
is_storage_fault other = false
