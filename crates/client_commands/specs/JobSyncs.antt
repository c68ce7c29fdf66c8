-- The sync of a job: its folder with the library of its index, over a dial of the desk. Our own. Read SyncsOver, then WorksSo. Read first:
-- SyncedAs of `sync_daemon`, SpellsAll of `remote_calls`.
use Rattle.std.specs.Prelude.{◌≡◌, ℕ, Bool, true, false, IsTrue, List, [], ◌∷◌, ◌++◌, Option, Some, Result, Err}
use Rattle.std.specs.List.{list_any}
use Rattle.folder_side.specs.Folder.{Contents, items_in}
use Rattle.folder_side.specs.declared.folder.Item.{Item}
use Rattle.folder_side.specs.declared.folder.ItemKind.{ItemKind}
use Rattle.folder_side.specs.declared.folder.ItemKind.TheVariants as kind
use Rattle.http_front.specs.Dial.{DialsOnly}
use Rattle.local_index.specs.declared.index.Index.{Index}
use Rattle.remote_calls.specs.Sends.{Sent}
use Rattle.remote_calls.specs.Spelling.{SpellsAll}
use Rattle.sync_daemon.specs.Syncing.{SyncedAs}
use Rattle.sync_rules.specs.declared.fault.SyncFault.{SyncFault}
use Rattle.sync_rules.specs.declared.synced.Synced.{Synced}
use Rattle.client_words.specs.declared.fault.Fault.{Fault}
use Rattle.client_words.specs.declared.fault.Fault.TheVariants as fault
use Rattle.client_words.specs.declared.job.Job.{Job}
use Rattle.client_desk.specs.Desk.{SameElsewhere}
use Rattle.client_desk.specs.KeptTexts.{is_free}
use Rattle.client_commands.specs.SyncFaults.{told_of}
use Rattle.client_commands.specs.Views.{DeskView, DialView}
use Rattle.client_commands.specs.declared.wanted.Wanted.{Wanted}
use Rattle.client_commands.specs.declared.wanted.Wanted.TheVariants.{Any, Empty}

-- ---- an empty folder, which `download` wants: one without a file and a directory in the folder itself, and so anywhere

abbrev pub is_visible_kind : ItemKind → Bool
is_visible_kind kind.File = true
is_visible_kind kind.Dir = true
is_visible_kind kind.Other = false

abbrev pub is_visible : Item → Bool
is_visible item = is_visible_kind item.kind

abbrev pub has_entry : Contents → Bool
has_entry c = list_any is_visible (items_in c [])

-- a full folder is refused where an empty one is wanted
abbrev pub is_unwanted : Wanted → Contents → Bool
is_unwanted Empty c = has_entry c
is_unwanted Any c = false

-- no sync was begun: the index and the folder are as they were, and no dial was asked for
pub record BeginsNone {N : Type 0} (i j : Index) (told now : Option Contents) (dials back : List N) : Type 0 where
  pub index : j ≡ i
  pub folder : now ≡ told
  pub same_dials : back ≡ dials

module _ {N : Type 0} (links : N → DialView) (shows : ℕ → Type 0) where
  -- a folder was synced over one dial, which went back with links that spell what was sent, to the host of the job alone, and was asked for
  -- no port but the job's
  pub record SyncsOver (job : Job) (i j : Index) (told now : Option Contents) (dials back : List N) (result : Result Synced Fault) : Type 0 where
    pub done : Result Synced SyncFault
    pub sends : List Sent
    pub dial : N
    pub synced : SyncedAs job.secret job.user shows told now i j [] sends done
    pub spelled : SpellsAll job.host [] (links dial).back sends
    pub dialled : DialsOnly job.host job.port [] (links dial).dialled
    pub back_is : back ≡ dials ++ dial ∷ []
    pub is : result ≡ told_of done

  -- the folder could not be opened or looked at; or it is full where an empty one is wanted; or it was synced
  pub data WorksBy (wanted : Wanted) (job : Job) (i j : Index) (told now : Option Contents) (dials back : List N) (result : Result Synced Fault) : Type 0 where
    failed : (e : Fault) → IsTrue (is_free e) → result ≡ Err e → BeginsNone i j told now dials back → WorksBy wanted job i j told now dials back result
    full : result ≡ Err fault.FolderNotEmpty → wanted ≡ Empty → ((c : Contents) → told ≡ Some c → has_entry c ≡ true) → BeginsNone i j told now dials back
        → WorksBy wanted job i j told now dials back result
    synced : SyncsOver job i j told now dials back result → ((c : Contents) → told ≡ Some c → is_unwanted wanted c ≡ false)
        → WorksBy wanted job i j told now dials back result

  -- a job's folder at the desk was asked for and went back, and no other was changed
  pub record WorksSo (wanted : Wanted) (job : Job) (i j : Index) (old new : DeskView N) (result : Result Synced Fault) : Type 0 where
    pub works : WorksBy wanted job i j (old.holds job.dir) (new.holds job.dir) old.dials new.dials result
    pub others : SameElsewhere old.holds new.holds job.dir
