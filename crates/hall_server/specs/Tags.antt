-- What the tags of a connection with a hall tell: each names one state of one library. Our own. Read IsLeftAt and IsLookedAt, then
-- TagsSo.
use Rattle.std.specs.Prelude.{◌≡◌, ℕ, true, List, [], ◌∷◌, Option, Some, ⊤}
use Rattle.std.specs.List.{slice_get}
use Rattle.library_state.specs.declared.call.Call.{Call}
use Rattle.library_state.specs.declared.tag.Tag.{Tag}
use Rattle.object_store.specs.Shelf.{Contents}
use Rattle.object_store.specs.declared.shelf.Slot.{Slot}
use Rattle.depot.specs.DepotView.{DepotView}
use Rattle.depot.specs.Story.{IsAnswered, IsSame}
use Rattle.sync_calls.specs.Operations.{Line}
use Rattle.sync_calls.specs.Shown.{Shown, lib_of, library_at, opening_of}
use Rattle.worker_server.specs.Calls.{Told, call_asked, collection_asked, look_asked}
use Rattle.worker_server.specs.declared.host.Answer.{Answer}

-- a look found the history of this library at the length that the tag tells, in the opening that it tells
pub record IsLookedAt {S : Type 0} (vs : List (Shown S)) (line : Line) (tag : Tag) : Type 0 where
  pub shown : Shown S
  pub at : slice_get vs line.library ≡ Some shown
  pub opening : opening_of shown ≡ Some tag.opening
  pub place : line.place ≡ tag.count

module _ {S : Type 0} (contents : S → Option Contents) (may_give : S → Slot → Option (List ℕ) → Type 0) (texts faults : S → ℕ) where
  -- a call on this library was answered, and the tag of the answer names what it left: the library that stands in the history at the
  -- place of the tag is, in all that has its place there, the one that the call left
  pub record IsLeftAt (vs : List (Shown S)) (library : ℕ) (call : Call) (moment : ℕ) (answer : Answer) : Type 0 where
    pub shown : Shown S
    pub at : slice_get vs library ≡ Some shown
    pub opening : opening_of shown ≡ Some answer.opening
    pub there : DepotView S
    pub stood : library_at shown answer.place ≡ Some there
    pub before : DepotView S
    pub after : DepotView S
    pub does : IsAnswered contents may_give texts faults before call moment answer.reply after
    pub same : IsSame contents faults there after

  -- so of each call that took a turn, at the library that was asked; and a look tells that a library is still in the state of a tag only so
  abbrev pub TagsSo : List (Shown S) → Told Line → Type 0
  TagsSo vs (call_asked lib call answer lines) = (line : Line) → lines ≡ line ∷ [] → (moment : ℕ) × (left : IsLeftAt vs line.library call moment answer) × (lib_of left.shown ≡ Some lib)
  TagsSo vs (collection_asked lib secret ends lines) = ⊤
  TagsSo vs (look_asked lib secret tag same lines) = same ≡ true → (line : Line) × (lines ≡ line ∷ []) × (looked : IsLookedAt vs line tag) × (lib_of looked.shown ≡ Some lib)
