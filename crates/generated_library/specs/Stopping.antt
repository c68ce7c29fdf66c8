-- Why a filling stops, and the collection with which one ends. Our own. Read EndsFor, then WasRefused and IsOfOneName; and WasCollected.
use Rattle.std.specs.Prelude.{◌≡◌, ◌⊎◌, ℕ, Bool, List, Option, Some, pos, ⊤}
use Rattle.library_state.specs.declared.call.Act.{Act}
use Rattle.library_state.specs.declared.call.Act.TheVariants as act
use Rattle.library_state.specs.declared.call.Op.TheVariants as op
use Rattle.library_state.specs.declared.refusal.Refusal.{Refusal}
use Rattle.library_state.specs.declared.reply.Reply.{Reply}
use Rattle.library_state.specs.declared.reply.Reply.TheVariants as reply
use Rattle.object_store.specs.Shelf.{Contents}
use Rattle.object_store.specs.declared.shelf.Slot.{Slot}
use Rattle.sync_calls.specs.Asking.{AsksSo}
use Rattle.sync_calls.specs.Collecting.{CollectsSo}
use Rattle.sync_calls.specs.Hall.{PassOf, drawn_by, shown_by}
use Rattle.sync_calls.specs.Operations.{Line}
use Rattle.sync_calls.specs.Shown.{Shown}
use Rattle.sync_calls.specs.declared.asking.Answer.{Answer}
use Rattle.sync_calls.specs.declared.collecting.Collected.TheVariants as collected
use Rattle.tree_merge.specs.TreeBuilding.{IsClash}
use Rattle.tree_merge.specs.declared.tree_builder.BuildFault.{BuildFault}
use Rattle.tree_merge.specs.declared.tree_builder.BuildFault.TheVariants as unmade
use Rattle.generated_library.specs.Filled.{entries_of, pushed_files}
use Rattle.generated_library.specs.Generated.{files_from}
use Rattle.generated_library.specs.Leading.{call_of}
use Rattle.generated_library.specs.declared.asking.NotFilled.{NotFilled}
use Rattle.generated_library.specs.declared.asking.NotFilled.TheVariants as not_filled

-- a filling asks this: that objects will be put, a put, an update, or that no history is to be kept
abbrev pub IsOfFilling : Act → Type 0
IsOfFilling (act.Check op.Upload) = ⊤
IsOfFilling (act.Put key bytes) = ⊤
IsOfFilling (act.Update id) = ⊤
IsOfFilling (act.Limit days) = days ≡ pos 0
IsOfFilling other = ⊥

-- a step stops for this reply, which is a refusal
abbrev pub IsRefusalOf : Reply → NotFilled → Type 0
IsRefusalOf r (not_filled.Refused why) = r ≡ reply.Refused why
IsRefusalOf r (not_filled.Taken id) = ⊥
IsRefusalOf r not_filled.NoMemory = ⊥

-- or for what directories couldn't be made for
abbrev pub StopsAsBuilt : BuildFault → NotFilled → Type 0
StopsAsBuilt (unmade.Taken id) why = why ≡ not_filled.Taken id
StopsAsBuilt unmade.NoMemory why = why ≡ not_filled.NoMemory

-- two directories of the tree of a push, the first or the second, have this name, or one has, and it is forty zeros
abbrev pub IsOfOneName : (count number moment : ℕ) → List ℕ → Type 0
IsOfOneName count number moment id = (is_second : Bool) × IsClash (entries_of moment (pushed_files is_second 0 (files_from count number))) id

module _ {S : Type 0} (contents : S → Option Contents) (may_give : S → Slot → Option (List ℕ) → Type 0) (texts faults : S → ℕ) (lib secret : List ℕ) where
  -- this was asked of the hall through a pass, which is so since it was answered so
  pub record WasAsked (moment : ℕ) (a : Act) (answer : Answer) (pass : PassOf S) : Type 0 where
    pub us : List (Shown S)
    pub lines : List Line
    pub asks : AsksSo contents may_give texts faults us lib (call_of (Some secret) a) moment answer lines (shown_by pass) (drawn_by pass)

  -- a call of a filling was refused so
  pub record WasRefused (moment : ℕ) (why : Refusal) (pass : PassOf S) : Type 0 where
    pub a : Act
    pub kind : IsOfFilling a
    pub answer : Answer
    pub asked : WasAsked moment a answer pass
    pub is : answer.reply ≡ reply.Refused why

  -- a collection was refused so
  pub record WasNotCollected (shows : ℕ → Type 0) (why : Refusal) (pass : PassOf S) : Type 0 where
    pub us : List (Shown S)
    pub lines : List Line
    pub collects : CollectsSo contents may_give texts faults shows us lib (Some secret) (collected.Refused why) lines (shown_by pass) (drawn_by pass)

  -- or it was done, and told that so many objects left
  pub record WasCollected (shows : ℕ → Type 0) (removed : ℕ) (pass : PassOf S) : Type 0 where
    pub us : List (Shown S)
    pub lines : List Line
    pub number : ℕ
    pub turns : ℕ
    pub collects : CollectsSo contents may_give texts faults shows us lib (Some secret) (collected.Done number removed turns) lines (shown_by pass) (drawn_by pass)

  -- a step stops for the last thing that was asked, at this moment; or for a clash of names, which these are
  abbrev pub StopsWhere : (List ℕ → Type 0) → ℕ → PassOf S → NotFilled → Type 0
  StopsWhere clashes moment pass (not_filled.Refused why) = WasRefused moment why pass
  StopsWhere clashes moment pass (not_filled.Taken id) = clashes id
  StopsWhere clashes moment pass not_filled.NoMemory = ⊤

  -- one that makes no directory stops for no clash
  abbrev pub StopsFor : ℕ → PassOf S → NotFilled → Type 0
  StopsFor moment pass why = StopsWhere (λ id. ⊥) moment pass why

  -- so does a whole filling of so many files, from this number on, at a moment that the clock shows
  abbrev pub EndsFor : (count number : ℕ) → (ℕ → Type 0) → PassOf S → NotFilled → Type 0
  EndsFor count number shows pass (not_filled.Refused why) = ((moment : ℕ) × shows moment × WasRefused moment why pass) ⊎ WasNotCollected shows why pass
  EndsFor count number shows pass (not_filled.Taken id) = (moment : ℕ) × shows moment × IsOfOneName count number moment id
  EndsFor count number shows pass not_filled.NoMemory = ⊤
