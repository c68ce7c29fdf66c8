-- What a sync asks about and sends is of the commit that it makes of the folder, also in a round that ends early. Our own. Read IsOfFolder,
-- then SendsOffered.
use Rattle.std.specs.Prelude.{ℕ, ◌≡◌, true, List, [], ◌∷◌, ◌++◌, ⊤}
use Rattle.block_chunker.specs.declared.cuts.Cuts.{Cuts}
use Rattle.folder_side.specs.Folder.{Contents}
use Rattle.folder_side.specs.ScanReport.{IsScan}
use Rattle.folder_side.specs.declared.scan_report.Scan.{Scan}
use Rattle.local_index.specs.declared.index.Index.{Index}
use Rattle.remote_calls.specs.Sends.{Sent}
use Rattle.sync_rules.specs.Named.{is_upload, last_round}
use Rattle.tree_fetch.specs.declared.asker.Asker.{Asker}
use Rattle.tree_push.specs.Pushing.{NamesOffered}

-- each key that was asked about or sent in a round is of the one commit that the folder offers in it: of an object of its tree, of an object
-- or a block of a file of the folder that is new or changed, or the commit's own
pub record IsOfFolder (asker : Asker) (user : List ℕ) (shows : ℕ → Type 0) (cuts : Cuts) (c : Contents) (i : Index) (round : List Sent) : Type 0 where
  pub moment : ℕ
  pub shown : shows moment
  pub parent : List ℕ
  pub scan : Scan
  pub scanned : IsScan cuts c scan
  pub offered : NamesOffered (record { lib = asker.lib; secret = asker.secret }) user moment parent i scan round

-- so it is up to each order that sends something, or asks what is to be sent; `before` was sent before these
abbrev pub SendsOffered : (asker : Asker) → (user : List ℕ) → (shows : ℕ → Type 0) → Cuts → Contents → Index → (before : List Sent) → List Sent → Type 0
SendsOffered asker user shows cuts c i before [] = ⊤
SendsOffered asker user shows cuts c i before (sent ∷ more) =
    (is_upload sent.0.what ≡ true → IsOfFolder asker user shows cuts c i (last_round (before ++ sent ∷ []) [])) × SendsOffered asker user shows cuts c i (before ++ sent ∷ []) more
