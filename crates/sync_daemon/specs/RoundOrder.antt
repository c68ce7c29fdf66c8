-- In which order the steps of a round come, beside the stages of `sync_rules`: the head is asked for once, and what ends a sync without
-- an order is found behind the checks. Our own. Read AsksSo and IsSoInRound.
use Rattle.std.specs.Prelude.{ℕ, ◌≡◌, ◌⊎◌, Bool, true, false, is_some, All, List, [], ◌∷◌, Option, None, ⊤}
use Rattle.block_chunker.specs.declared.cuts.Cuts.{Cuts}
use Rattle.folder_side.specs.Folder.{Contents}
use Rattle.local_index.specs.declared.index.Index.{Index}
use Rattle.http_front.specs.declared.order.What.{What}
use Rattle.http_front.specs.declared.order.What.TheVariants as what
use Rattle.remote_calls.specs.Sends.{Sent}
use Rattle.sync_rules.specs.Causes.{IsSoHere}
use Rattle.sync_rules.specs.Named.{asked_after, is_check, is_upload, last_round}
use Rattle.sync_rules.specs.Orders.{OrdersSo, Stage, stage_after}
use Rattle.sync_rules.specs.Orders.Stage.{Begins, Reads, Uploads}
use Rattle.sync_rules.specs.declared.fault.SyncFault.{SyncFault}
use Rattle.sync_rules.specs.declared.fault.SyncFault.TheVariants as fault

-- in which stage some orders leave a sync
abbrev pub stage_from : Stage → List Sent → Stage
stage_from stage [] = stage
stage_from stage (sent ∷ more) = stage_from (stage_after sent.0.what sent.1 stage) more

-- ---- the head

abbrev pub is_head : What → Bool
is_head (what.Head tag) = true
is_head _ = false

-- the head is asked for once a round; and where the index has a base, not before something is uploaded in it. `asked` is the head that
-- was asked in the round so far
pub record HeadsAt (base asked : Option (List ℕ)) (order : What) : Type 0 where
  pub once : is_head order ≡ true → asked ≡ None
  pub unneeded : is_upload order ≡ true → is_some base ≡ true → asked ≡ None

abbrev pub HeadsOnce : (base asked : Option (List ℕ)) → List Sent → Type 0
HeadsOnce base asked [] = ⊤
HeadsOnce base asked (sent ∷ more) = HeadsAt base asked sent.0.what × HeadsOnce base (asked_after sent.0.what sent.1 asked) more

-- the orders of a sync, among them one question for the head in each round
pub record AsksSo (lib secret user : List ℕ) (shows : ℕ → Type 0) (base : Option (List ℕ)) (more : List Sent) : Type 0 where
  pub orders : OrdersSo lib secret user shows base more
  pub heads : HeadsOnce base None more

-- ---- what is found without an order

abbrev pub IsCheck : Sent → Type 0
IsCheck sent = is_check sent.0.what ≡ true

-- the checks of this round went well, and nothing else was sent in it
abbrev pub IsBehindChecks : List Sent → Type 0
IsBehindChecks more = ((stage_from Begins more ≡ Uploads) ⊎ (stage_from Begins more ≡ Reads)) × All IsCheck (last_round more [])

-- a limit of a scan is told behind the checks, and that an upload is denied where a download is allowed
abbrev pub IsFoundAt : List Sent → SyncFault → Type 0
IsFoundAt more (fault.Scan why) = IsBehindChecks more
IsFoundAt more (fault.Refused why) = stage_from Begins more ≡ Reads
IsFoundAt more f = ⊤

-- what else has to be so where no order is the cause of a fault
abbrev pub IsSoInRound : Cuts → Option Contents → Index → List Sent → SyncFault → Type 0
IsSoInRound cuts told index more f = IsSoHere cuts told index more f × IsFoundAt more f
