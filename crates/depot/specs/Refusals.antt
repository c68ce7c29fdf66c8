-- Which refusal a fault is. Our own.
use Rattle.std.specs.Prelude.{Result, Ok, Err, ⊤}
use Rattle.library_state.specs.declared.refusal.Refusal.{Refusal}
use Rattle.library_state.specs.declared.refusal.Refusal.TheVariants as refusal
use Rattle.library_state.specs.declared.reply.Reply.{Reply}
use Rattle.library_state.specs.declared.reply.Reply.TheVariants as reply
use Rattle.object_store.specs.declared.error.StoreFault.{StoreFault}
use Rattle.object_store.specs.declared.error.StoreFault.TheVariants as store
use Rattle.tree_merge.specs.declared.merging.MergeFault.{MergeFault}
use Rattle.tree_merge.specs.declared.merging.MergeFault.TheVariants as merge
use Rattle.tree_walk.specs.declared.fault.WalkFault.{WalkFault}
use Rattle.tree_walk.specs.declared.fault.WalkFault.TheVariants as walk

-- the refusal that a fault of the store is
abbrev pub store_refusal : StoreFault → Refusal
store_refusal (store.Taken id) = refusal.Taken id
store_refusal (store.Wrong id) = refusal.Wrong id
store_refusal (store.Damaged want got) = refusal.Damaged want got
store_refusal store.Shelf = refusal.Store
store_refusal store.NoMemory = refusal.NoMemory

-- the refusal that a fault of a reading is
abbrev pub walk_refusal : WalkFault → Refusal
walk_refusal (walk.Incomplete key) = refusal.Incomplete key
walk_refusal (walk.Unreadable key) = refusal.Unreadable key
walk_refusal (walk.WrongKind id) = refusal.WrongKind id
walk_refusal (walk.WrongSize id) = refusal.WrongSize id
walk_refusal (walk.TooDeep path) = refusal.TooDeep path
walk_refusal (walk.TooMany paths) = refusal.TooMany paths
walk_refusal (walk.Store fault) = store_refusal fault

-- the refusal that a fault of a merge is
abbrev pub merge_refusal : MergeFault → Refusal
merge_refusal (merge.TooLong path size) = refusal.TooLong path size
merge_refusal (merge.TooMany paths) = refusal.TooMany paths
merge_refusal (merge.Taken id) = refusal.Taken id
merge_refusal (merge.Walk fault) = walk_refusal fault

-- the answer, or the refusal that the store's fault is
abbrev pub answer_of : Reply → Result ⊤ StoreFault → Reply
answer_of said (Ok done) = said
answer_of said (Err fault) = reply.Refused (store_refusal fault)
