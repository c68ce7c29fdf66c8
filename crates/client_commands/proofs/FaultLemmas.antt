-- What the faults of one sync tell of the counts of folders and of links. The key lemmas are folder_told, never_scanned and link_listed.
use Rattle.std.proofs.Common.{◌≡◌, ℕ, true, List, [], Option, Err, refl, subst, ◌∙◌}
use Rattle.std.specs.Bool.{MatchBool}
use Rattle.folder_side.specs.Folder.{Contents}
use Rattle.folder_side.specs.declared.error.ScanFault.TheVariants as scan
use Rattle.local_index.specs.declared.index.Index.{Index}
use Rattle.remote_calls.specs.Sends.{Sent}
use Rattle.remote_calls.specs.declared.error.RemoteFault.TheVariants as remote
use Rattle.sync_daemon.specs.Syncing.{SyncedAs}
use Rattle.sync_rules.specs.Causes.{is_folder_fault}
use Rattle.sync_rules.specs.declared.fault.SyncFault.{SyncFault}
use Rattle.sync_rules.specs.declared.fault.SyncFault.TheVariants as sync
use Rattle.client_words.specs.declared.fault.Fault.TheVariants as fault
use Rattle.client_desk.specs.KeptTexts.{is_of_folder}
use Rattle.client_commands.specs.SentFaults.{has_link_fault}
use Rattle.client_commands.specs.SyncFaults.{fault_of_sync}
use Rattle.client_commands.proofs.SentLemmas.{last_fault}

-- a sync's own word for a folder that failed is told as one, and no other; a scan's never comes
pub folder_told : (P Q : Type 0) (f : SyncFault) → (f ≡ sync.Scan scan.Folder → ⊥) → MatchBool (is_folder_fault f) P Q → MatchBool (is_of_folder (fault_of_sync f)) P Q
folder_told P Q sync.Folder never h = h
folder_told P Q (sync.Remote remote.Link) never h = h
folder_told P Q (sync.Remote (remote.BadReply at)) never h = h
folder_told P Q (sync.Remote (remote.Cut size)) never h = h
folder_told P Q (sync.Remote (remote.TooLarge size)) never h = h
folder_told P Q (sync.Remote remote.NoMemory) never h = h
folder_told P Q (sync.Refused refusal) never h = h
folder_told P Q (sync.Damaged want got) never h = h
folder_told P Q (sync.BadTree why) never h = h
folder_told P Q (sync.Changed path) never h = h
folder_told P Q (sync.Blocked path) never h = h
folder_told P Q sync.NotEmpty never h = h
folder_told P Q (sync.Scan scan.Folder) never h = absurd (never refl)
folder_told P Q (sync.Scan (scan.TooDeep path)) never h = h
folder_told P Q (sync.Scan (scan.TooMany count)) never h = h
folder_told P Q (sync.Scan (scan.TooBig path)) never h = h
folder_told P Q (sync.Scan scan.NoMemory) never h = h
folder_told P Q (sync.Stale now) never h = h
folder_told P Q sync.NoMemory never h = h

module _ (secret user : List ℕ) (shows : ℕ → Type 0) (told now : Option Contents) (i j : Index) (sends : List Sent) where
  pub never_scanned : (f : SyncFault) → SyncedAs secret user shows told now i j [] sends (Err f) → f ≡ sync.Scan scan.Folder → ⊥
  never_scanned f done is = (subst (λ f. SyncedAs secret user shows told now i j [] sends (Err f)) is done).ends.1.0

  -- a link that failed is the last of the sends
  pub link_listed : (f : SyncFault) → SyncedAs secret user shows told now i j [] sends (Err f) → fault_of_sync f ≡ fault.Link → has_link_fault sends ≡ true
  link_listed sync.Folder done is = cc
  link_listed (sync.Remote remote.Link) done is =
      let last = done.ends.1 in
      last_fault last.1.0 sends last.0 (done.grown ∙ last.1.1)
  link_listed (sync.Remote (remote.BadReply at)) done is = cc
  link_listed (sync.Remote (remote.Cut size)) done is = cc
  link_listed (sync.Remote (remote.TooLarge size)) done is = cc
  link_listed (sync.Remote remote.NoMemory) done is = cc
  link_listed (sync.Refused refusal) done is = cc
  link_listed (sync.Damaged want got) done is = cc
  link_listed (sync.BadTree why) done is = cc
  link_listed (sync.Changed path) done is = cc
  link_listed (sync.Blocked path) done is = cc
  link_listed sync.NotEmpty done is = cc
  link_listed (sync.Scan scan.Folder) done is = cc
  link_listed (sync.Scan (scan.TooDeep path)) done is = cc
  link_listed (sync.Scan (scan.TooMany count)) done is = cc
  link_listed (sync.Scan (scan.TooBig path)) done is = cc
  link_listed (sync.Scan scan.NoMemory) done is = cc
  link_listed (sync.Stale now) done is = cc
  link_listed sync.NoMemory done is = cc
