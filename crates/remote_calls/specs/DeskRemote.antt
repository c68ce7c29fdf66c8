-- A library in memory as a remote: what it answers, at which moment, and which orders are to fail. Our own. Read DeskView
-- first, then DeskAnswers, and DesksOver, at the end.
use Rattle.std.specs.Prelude.{ℕ, ◌≡◌, ◌≢◌, ◌<◌, Bool, true, false, List, [], ◌∷◌, Option, Some, Ok, Err, ⊤, refl}
use Rattle.std.specs.Coded.{Coded, code_by, coded×, coded_list, coded_result, coded_ℕ}
use Rattle.ids.specs.FaultCount.{counted, is_due}
use Rattle.http_front.specs.contracts.order.Order as order_contracts
use Rattle.http_front.specs.contracts.outcome.Outcome as outcome_contracts
use Rattle.http_front.specs.declared.order.Order.{Order}
use Rattle.http_front.specs.declared.outcome.Outcome.{Outcome}
use Rattle.library_state.specs.declared.call.Call.{Call}
use Rattle.library_state.specs.declared.refusal.Refusal.TheVariants as refusal
use Rattle.library_state.specs.declared.reply.Reply.{Reply}
use Rattle.library_state.specs.declared.reply.Reply.TheVariants as reply
use Rattle.library_state.specs.declared.tag.Tag.{Tag}
use Rattle.collection_turns.specs.Turns.{CollectsBy, itself, notes_nothing}
use Rattle.depot.specs.Answering.{Serves, permits}
use Rattle.depot.specs.DepotView.{DepotView, IsGood, depot_code}
use Rattle.depot.specs.FirstGet.{fs_get, sizes_of}
use Rattle.depot.specs.Giving.{GivesBy, MayLay}
use Rattle.library_rules.specs.Calls.{token_of}
use Rattle.object_store.specs.MemoryShelf.{MemoryShelfState, memory_shelf_code}
use Rattle.object_store.specs.Shelf.{Contents, lies_in}
use Rattle.object_store.specs.declared.shelf.Slot.{Slot}
use Rattle.worker_server.specs.Calls.{HostRules, ServesOrder, rules_at}
use Rattle.worker_server.specs.declared.host.Answer.{Answer}
use Rattle.worker_server.specs.declared.host.Collected.{Collected}
use Rattle.remote_calls.specs.Sends.{Ending, IsTooLarge, Sent, size_told}
use Rattle.remote_calls.specs.contracts.error.RemoteFault as fault_contracts
use Rattle.remote_calls.specs.declared.error.RemoteFault.TheVariants as fault

-- the library, which orders are to fail, how many were taken so far, up to 2 ^ 64 - 1, the count of faults, and the list of
-- sends
pub record DeskView : Type 0 where
  pub depot : DepotView MemoryShelfState
  pub fails : List ℕ
  pub count : ℕ
  pub faults : ℕ
  pub sends : List Sent

-- it is stored as its fields
abbrev pub desk_code : Coded DeskView
desk_code = code_by (DepotView MemoryShelfState × (List ℕ × (ℕ × (ℕ × List Sent))))
    (coded× (depot_code memory_shelf_code) (coded× (coded_list coded_ℕ) (coded× coded_ℕ (coded× coded_ℕ
    (coded_list (coded× order_contracts.the_row.coded (coded_result outcome_contracts.the_row.coded fault_contracts.the_row.coded)))))))
    (λ desk. (desk.depot, (desk.fails, (desk.count, (desk.faults, desk.sends)))))
    (λ t. record { depot = t.0; fails = t.1.0; count = t.1.1.0; faults = t.1.1.1.0; sends = t.1.1.1.1 }) (λ _. refl)

-- the library replied: by the rules where its shelf tells what it holds, and over every shelf with its cause; one who may not
-- ask is denied whatever the shelf does; what is left stands for a library; and the shelf may give no more than before, but what
-- the call may lay onto it
pub record DeskReplies {S : Type 0} (contents : S → Option Contents) (may_give : S → Slot → Option (List ℕ) → Type 0) (texts faults : S → ℕ)
    (old : DepotView S) (call : Call) (moment : ℕ) (r : Reply) (new : DepotView S) : Type 0 where
  pub serves : Serves contents may_give texts faults old call moment r new
  pub denied : permits (token_of old.state.tokens call.secret) call.act ≡ false → r ≡ reply.Refused refusal.Denied
  pub good : IsGood contents faults new
  pub gives : GivesBy (MayLay old.state.lib call.act) (may_give old.store.shelf) (may_give new.store.shelf)

-- a call on a library, at a moment: the library that is there replies, and its answer tells the state of its opening and no place
-- in a history; there is no other
pub record DeskAnswers {S : Type 0} (contents : S → Option Contents) (may_give : S → Slot → Option (List ℕ) → Type 0) (texts faults : S → ℕ)
    (old : DepotView S) (lib : List ℕ) (call : Call) (moment : ℕ) (answer : Answer) (lines : List ⊤) (new : DepotView S) : Type 0 where
  pub here : lib ≡ old.state.lib → DeskReplies contents may_give texts faults old call moment answer.reply new
  pub elsewhere : lib ≢ old.state.lib → (answer.reply ≡ reply.Refused refusal.NoLibrary) × (new ≡ old)
  pub opening : answer.opening ≡ old.state.opening
  pub place : answer.place ≡ 0
  pub no_lines : lines ≡ []

-- the library is asked, one who may ask asks it for these files and directories, and its index knows them to have together
-- more than so many bytes
abbrev pub AsksTooMuch : {S : Type 0} → DepotView S → List ℕ → Option (List ℕ) → List (List ℕ) → ℕ → Type 0
AsksTooMuch depot lib secret [] most = ⊥
AsksTooMuch depot lib secret (id ∷ ids) most =
    (lib ≡ depot.state.lib) × (permits (token_of depot.state.tokens secret) (fs_get id) ≡ true) × (most < sizes_of depot.store.index (id ∷ ids))

-- where it is asked for too much, the answer to the first of them is want of memory, and the library is as it was
abbrev pub DeskSpares : {S : Type 0} → DepotView S → List ℕ → Option (List ℕ) → List (List ℕ) → ℕ → Answer → List ⊤ → DepotView S → Type 0
DeskSpares old lib secret ids most answer lines new = AsksTooMuch old lib secret ids most → (answer.reply ≡ reply.Refused refusal.NoMemory) × (new ≡ old)

-- a collection that is asked for is taken to its end or a refusal, turn after turn, by one who may; or one who may not is denied; and
-- there is no other library
pub record DeskCollects {S : Type 0} (contents : S → Option Contents) (may_give : S → Slot → Option (List ℕ) → Type 0) (texts faults : S → ℕ) (shows : ℕ → Type 0)
    (old : DepotView S) (lib : List ℕ) (secret : Option (List ℕ)) (ends : Collected) (lines : List ⊤) (new : DepotView S) : Type 0 where
  pub collects : CollectsBy itself notes_nothing contents may_give texts faults shows old lib secret ends new
  pub no_lines : lines ≡ []

-- a look tells nothing, since no count of changes is kept
abbrev pub DeskLooks : {S : Type 0} → DepotView S → List ℕ → Option (List ℕ) → Tag → Bool → List ⊤ → DepotView S → Type 0
DeskLooks old lib secret tag same lines new = (same ≡ false) × (lines ≡ []) × (new ≡ old)

-- the moment of an order is the number of orders that were taken before
abbrev pub IsAt : ℕ → ℕ → Type 0
IsAt count moment = moment ≡ count

-- ---- the shelf in memory, as its trait shows it

abbrev pub told_contents : MemoryShelfState → Option Contents
told_contents shelf = Some shelf.contents

abbrev pub gives_told : MemoryShelfState → Slot → Option (List ℕ) → Type 0
gives_told shelf slot given = given ≡ lies_in shelf.contents slot

abbrev pub texts_of : MemoryShelfState → ℕ
texts_of shelf = shelf.texts

abbrev pub faults_of : MemoryShelfState → ℕ
faults_of shelf = shelf.faults

-- the rules of a library in memory, which is asked at this moment
abbrev pub desk_rules : ℕ → HostRules (DepotView MemoryShelfState) ⊤
desk_rules moment = rules_at (IsAt moment) (DeskAnswers told_contents gives_told texts_of faults_of) DeskSpares (DeskCollects told_contents gives_told texts_of faults_of) DeskLooks

-- ---- a send

-- an order that is taken: one more is counted, and nothing else changes but the library and the count of faults
pub record Takes (old new : DeskView) : Type 0 where
  pub fails : new.fails ≡ old.fails
  pub count : new.count ≡ counted old.count

-- what a send does: an order that is too large isn't taken, and neither is one that there was no memory to copy; one that is
-- to fail is taken, and nothing is asked; every other is answered by the library
pub data DesksOver (order : Order) (old new : DeskView) (ending : Ending) : Type 0 where
  too_large : IsTooLarge order → ending ≡ Err (fault.TooLarge (size_told order)) → new ≡ record old { sends = new.sends } → DesksOver order old new ending
  no_room : ending ≡ Err fault.NoMemory → is_due old.fails old.count ≡ false → new ≡ record old { sends = new.sends } → DesksOver order old new ending
  failed : ending ≡ Err fault.Link → is_due old.fails old.count ≡ true → Takes old new → new.depot ≡ old.depot
      → new.faults ≡ counted old.faults → DesksOver order old new ending
  answered : (outcome : Outcome) → ending ≡ Ok outcome → is_due old.fails old.count ≡ false → Takes old new → new.faults ≡ old.faults → (lines : List ⊤)
      → ServesOrder (desk_rules old.count) old.depot order outcome lines new.depot → DesksOver order old new ending
