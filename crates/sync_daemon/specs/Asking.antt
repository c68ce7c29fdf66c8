-- What the orders of a round come to that ask for no object: the checks, and the head. Our own. Read ChecksSo and HeadSo first.
use Rattle.std.specs.Prelude.{ℕ, ◌≡◌, ◌⊎◌, Bool, true, false, List, [], ◌∷◌, ◌++◌, Option, None, Some, Result, Ok, Err, ⊤}
use Rattle.library_state.specs.declared.call.Op.TheVariants as op
use Rattle.library_state.specs.declared.refusal.Refusal.{Refusal}
use Rattle.library_state.specs.declared.refusal.Refusal.TheVariants as refusal
use Rattle.library_state.specs.declared.reply.Reply.{Reply}
use Rattle.library_state.specs.declared.reply.Reply.TheVariants as reply
use Rattle.library_state.specs.declared.tag.Tag.{Tag}
use Rattle.http_front.specs.declared.order.What.{What}
use Rattle.http_front.specs.declared.order.What.TheVariants as what
use Rattle.http_front.specs.declared.outcome.Outcome.{Outcome}
use Rattle.http_front.specs.declared.outcome.Outcome.TheVariants.{Plain, Refused}
use Rattle.remote_calls.specs.Sends.{Sent}
use Rattle.sync_rules.specs.Causes.{IsRefusedBy}
use Rattle.sync_rules.specs.declared.fault.SyncFault.{SyncFault}
use Rattle.sync_rules.specs.declared.fault.SyncFault.TheVariants as fault
use Rattle.tree_fetch.specs.Asking.{FailsSo, order_of}
use Rattle.tree_fetch.specs.declared.asker.Asker.{Asker}

-- ---- what an outcome tells

-- of a check: that it is allowed, or a refusal
abbrev pub RepliesChecked : Reply → Type 0
RepliesChecked reply.Checked = ⊤
RepliesChecked (reply.Refused why) = ⊤
RepliesChecked _ = ⊥

abbrev pub GivesChecked : Outcome → Type 0
GivesChecked (Plain told tag) = RepliesChecked told
GivesChecked (Refused why) = ⊤
GivesChecked _ = ⊥

abbrev pub TellsChecked : Outcome → Result ⊤ Refusal → Type 0
TellsChecked outcome (Ok done) = (tag : Tag) × (outcome ≡ Plain reply.Checked tag)
TellsChecked outcome (Err why) = IsRefusedBy (Ok outcome) why

abbrev pub ChecksIn : Reply → Result ⊤ Refusal → Type 0
ChecksIn told (Ok done) = told ≡ reply.Checked
ChecksIn told (Err why) = told ≡ reply.Refused why

-- of the head: its id, or a refusal
abbrev pub RepliesHead : Reply → Type 0
RepliesHead (reply.HeadIs id) = ⊤
RepliesHead (reply.Refused why) = ⊤
RepliesHead _ = ⊥

abbrev pub GivesHead : Outcome → Type 0
GivesHead (Plain told tag) = RepliesHead told
GivesHead (Refused why) = ⊤
GivesHead _ = ⊥

abbrev pub TellsHead : Outcome → Result (List ℕ) Refusal → Type 0
TellsHead outcome (Ok id) = (tag : Tag) × (outcome ≡ Plain (reply.HeadIs id) tag)
TellsHead outcome (Err why) = IsRefusedBy (Ok outcome) why

abbrev pub HeadIn : Reply → Result (List ℕ) Refusal → Type 0
HeadIn told (Ok id) = told ≡ reply.HeadIs id
HeadIn told (Err why) = told ≡ reply.Refused why

-- ---- one order

abbrev pub is_denied : Refusal → Bool
is_denied refusal.Denied = true
is_denied _ = false

-- the order is allowed
abbrev pub IsAllowed : Asker → What → List Sent → List Sent → Type 0
IsAllowed asker asked old new = (tag : Tag) × (new ≡ old ++ (order_of asker asked, Ok (Plain reply.Checked tag)) ∷ [])

-- an upload is denied
abbrev pub Denies : Asker → List Sent → List Sent → Type 0
Denies asker old new = (outcome : Outcome) × (new ≡ old ++ (order_of asker (what.Check op.Upload), Ok outcome) ∷ []) × IsRefusedBy (Ok outcome) refusal.Denied

-- where an order fails, it isn't that it is denied
abbrev pub IsOther : SyncFault → Type 0
IsOther (fault.Refused why) = is_denied why ≡ false
IsOther f = ⊤

-- an upload is allowed; or it is denied, and a download allowed; or one of both orders failed
abbrev pub ChecksSo : Asker → List Sent → List Sent → Result Bool SyncFault → Type 0
ChecksSo asker old new (Ok true) = IsAllowed asker (what.Check op.Upload) old new
ChecksSo asker old new (Ok false) = (mid : List Sent) × Denies asker old mid × IsAllowed asker (what.Check op.Download) mid new
ChecksSo asker old new (Err f) = (FailsSo old new (order_of asker (what.Check op.Upload)) f × IsOther f)
    ⊎ ((mid : List Sent) × Denies asker old mid × FailsSo mid new (order_of asker (what.Check op.Download)) f)

-- a download is allowed, or the order failed
abbrev pub DownloadSo : Asker → List Sent → List Sent → Result Bool SyncFault → Type 0
DownloadSo asker old new (Ok may) = (may ≡ false) × IsAllowed asker (what.Check op.Download) old new
DownloadSo asker old new (Err f) = FailsSo old new (order_of asker (what.Check op.Download)) f

-- the library stands at this commit
abbrev pub HeadSo : Asker → List Sent → List Sent → Result (List ℕ) SyncFault → Type 0
HeadSo asker old new (Ok id) = (tag : Tag) × (new ≡ old ++ (order_of asker (what.Head None), Ok (Plain (reply.HeadIs id) tag)) ∷ [])
HeadSo asker old new (Err f) = FailsSo old new (order_of asker (what.Head None)) f

-- the head that was asked for, or else it is asked for now
abbrev pub HeadOf : Asker → (asked : Option (List ℕ)) → List Sent → List Sent → Result (List ℕ) SyncFault → Type 0
HeadOf asker None old new result = HeadSo asker old new result
HeadOf asker (Some head) old new result = (result ≡ Ok head) × (new ≡ old)
