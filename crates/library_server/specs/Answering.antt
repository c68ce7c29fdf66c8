-- What the library that is served alone answers to a call. Our own. Read AnswersOn first, then SparesOn and LooksOn.
use Rattle.std.specs.Prelude.{◌≡◌, ◌≢◌, ◌⊎◌, ◌<◌, ℕ, Bool, true, false, List, [], ◌∷◌, Option, Some, ⊤}
use Rattle.ids.specs.Key.{Objects}
use Rattle.ids.specs.declared.key.Key.{Key}
use Rattle.depot.specs.Answering.{permits}
use Rattle.depot.specs.Damage.{IsCaused, IsCausedReply, OrNothing}
use Rattle.depot.specs.DepotView.{DepotView}
use Rattle.depot.specs.FirstGet.{fs_get, sizes_of}
use Rattle.depot.specs.Story.{IsAnswered}
use Rattle.http_front.specs.declared.outcome.Outcome.{Outcome}
use Rattle.http_front.specs.declared.outcome.Outcome.TheVariants as outcome
use Rattle.library_rules.specs.Calls.{token_of}
use Rattle.library_state.specs.declared.call.Call.{Call}
use Rattle.library_state.specs.declared.refusal.Refusal.{Refusal}
use Rattle.library_state.specs.declared.refusal.Refusal.TheVariants as refusal
use Rattle.library_state.specs.declared.reply.Reply.{Reply}
use Rattle.library_state.specs.declared.reply.Reply.TheVariants as reply
use Rattle.library_state.specs.declared.tag.Tag.{Tag}
use Rattle.object_store.specs.Shelf.{Contents}
use Rattle.object_store.specs.Store.{HasNames, IsDamage}
use Rattle.object_store.specs.StoreView.{objects_of}
use Rattle.object_store.specs.declared.shelf.Slot.{Slot}
use Rattle.worker_server.specs.Calls.{Told, call_asked, collection_asked, look_asked, tag_of}
use Rattle.worker_server.specs.declared.host.Answer.{Answer}
use Rattle.worker_server.specs.declared.host.Collected.{Collected}
use Rattle.worker_server.specs.declared.host.Collected.TheVariants as collected
use Rattle.library_server.specs.Counting.{IsCounted, OpenedView, is_current, tag_at}

-- ---- the cause of damage

abbrev pub IsCausedEnd : (Slot → Option (List ℕ) → Type 0) → Collected → Type 0
IsCausedEnd gives (collected.Refused why) = IsCaused gives why
IsCausedEnd gives (collected.Done number removed) = ⊤

-- what may be given after a collection that was asked for and ended so: nothing for any key too, unless no turn took a step, which
-- is so where it was denied or spent, and of another library
abbrev pub after_collection : Collected → (Slot → Option (List ℕ) → Type 0) → Slot → Option (List ℕ) → Type 0
after_collection (collected.Refused refusal.Denied) gives = gives
after_collection (collected.Refused refusal.Spent) gives = gives
after_collection (collected.Refused refusal.NoLibrary) gives = gives
after_collection (collected.Refused other) gives = OrNothing gives
after_collection (collected.Done number removed) gives = OrNothing gives

-- the same of the reply to each of some calls; since a collection was taken, whose objects left, nothing may be given for any key
abbrev pub AreCaused : (Slot → Option (List ℕ) → Type 0) → List (Told ⊤) → Type 0
AreCaused gives [] = ⊤
AreCaused gives (call_asked lib call answer operations ∷ calls) = IsCausedReply gives answer.reply × AreCaused gives calls
AreCaused gives (collection_asked lib secret ends operations ∷ calls) = IsCausedEnd (OrNothing gives) ends × AreCaused (after_collection ends gives) calls
AreCaused gives (look_asked lib secret tag same operations ∷ calls) = AreCaused gives calls

-- ---- storage that never fails

-- a refusal by the storage: it failed, or what it gave is damaged
abbrev pub is_of_storage : Refusal → Bool
is_of_storage refusal.Store = true
is_of_storage (refusal.Damaged want got) = true
is_of_storage other = false

abbrev pub is_storage_reply : Reply → Bool
is_storage_reply (reply.Refused why) = is_of_storage why
is_storage_reply other = false

-- no shelf of this kind ever counted a fault, so none of their calls fails
abbrev pub NeverFails : {S : Type 0} → (S → ℕ) → Type 0
NeverFails {S} faults = (shelf : S) → faults shelf ≡ 0

-- each object of the library lies under its own name, and its shelf tells so
abbrev pub NamesIn : {S : Type 0} → (S → Option Contents) → DepotView S → Type 0
NamesIn contents depot = (objects : Objects) × (objects_of contents depot.store ≡ Some objects) × HasNames objects

-- ---- all of it

-- a call on a library, asked at a moment: the library that is served answers it, and there is no other. It keeps no record
-- of operations. The answer has the tag of the state that it leaves, and of no state where there is no such library. Where the
-- storage never fails and objects lie under their own names, no answer is a refusal by the storage, and so they lie afterwards
pub record AnswersOn {S : Type 0} (contents : S → Option Contents) (may_give : S → Slot → Option (List ℕ) → Type 0) (texts faults : S → ℕ)
    (old : OpenedView S) (lib : List ℕ) (call : Call) (moment : ℕ) (answer : Answer) (lines : List ⊤) (new : OpenedView S) : Type 0 where
  pub here : lib ≡ old.depot.state.lib → IsAnswered contents may_give texts faults old.depot call moment answer.reply new.depot
  pub tagged : lib ≡ old.depot.state.lib → tag_of answer ≡ tag_at new
  pub counts : IsCounted contents faults old new
  pub elsewhere : lib ≢ old.depot.state.lib → (answer.reply ≡ reply.Refused refusal.NoLibrary) × (new ≡ old)
  pub untagged : lib ≢ old.depot.state.lib → tag_of answer ≡ record { opening = 0; count = 0 }
  pub steady : NeverFails faults → NamesIn contents old.depot → (is_storage_reply answer.reply ≡ false) × NamesIn contents new.depot
  pub no_lines : lines ≡ []

-- the library is served, one who may ask asks it for these files and directories, and its index knows them to have together
-- more than so many bytes
abbrev pub AsksTooMuch : {S : Type 0} → OpenedView S → List ℕ → Option (List ℕ) → List (List ℕ) → ℕ → Type 0
AsksTooMuch library lib secret [] most = ⊥
AsksTooMuch library lib secret (id ∷ ids) most =
    (lib ≡ library.depot.state.lib) × (permits (token_of library.depot.state.tokens secret) (fs_get id) ≡ true) × (most < sizes_of library.depot.store.index (id ∷ ids))

-- where it is asked for too much, the answer to the first of them is want of memory, and the library is as it was
abbrev pub SparesOn : {S : Type 0} → OpenedView S → List ℕ → Option (List ℕ) → List (List ℕ) → ℕ → Answer → List ⊤ → OpenedView S → Type 0
SparesOn old lib secret ids most answer lines new = AsksTooMuch old lib secret ids most → (answer.reply ≡ reply.Refused refusal.NoMemory) × (new ≡ old)

-- the outcome is want of memory
abbrev pub IsWant : Outcome → Type 0
IsWant (outcome.Plain r tag) = r ≡ reply.Refused refusal.NoMemory
IsWant (outcome.Refused why) = why ≡ refusal.NoMemory
IsWant other = ⊥

-- a look tells whether the library is still in the state of the tag, and leaves it as it is
abbrev pub LooksOn : {S : Type 0} → OpenedView S → List ℕ → Option (List ℕ) → Tag → Bool → List ⊤ → OpenedView S → Type 0
LooksOn old lib secret tag same lines new = (same ≡ is_current old lib secret tag) × (lines ≡ []) × (new ≡ old)
