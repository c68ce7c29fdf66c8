-- The cause of damage that is told on a connection with a hall. Our own. Read AreCausedAt. Read before: IsCaused of `depot`, Told of
-- `worker_server`, Shown of `sync_calls`.
use Rattle.std.specs.Prelude.{ℕ, ◌≡◌, ◌⊎◌, List, [], ◌∷◌, Option, Some, ⊤}
use Rattle.std.specs.List.{slice_get}
use Rattle.library_state.specs.declared.refusal.Refusal.{Refusal}
use Rattle.library_state.specs.declared.refusal.Refusal.TheVariants as refusal
use Rattle.library_state.specs.declared.reply.Reply.{Reply}
use Rattle.library_state.specs.declared.reply.Reply.TheVariants as reply
use Rattle.object_store.specs.declared.shelf.Slot.{Slot}
use Rattle.depot.specs.Damage.{IsCaused, OrGone}
use Rattle.depot.specs.DepotView.{DepotView}
use Rattle.depot.specs.Story.{removed_through}
use Rattle.sync_calls.specs.Operations.{Line}
use Rattle.sync_calls.specs.Shown.{Shown}
use Rattle.worker_server.specs.Calls.{Told, call_asked, collection_asked, look_asked}
use Rattle.worker_server.specs.declared.host.Collected.{Collected}
use Rattle.worker_server.specs.declared.host.Collected.TheVariants as collected

-- a library of this id, of which this is shown, was so as its history began
pub record StartsIn {S : Type 0} (us : List (Shown S)) (lib : List ℕ) (start : DepotView S) : Type 0 where
  pub library : ℕ
  pub shown : Shown S
  pub at : slice_get us library ≡ Some shown
  pub begins : shown.start ≡ Some start
  pub named : start.state.lib ≡ lib

-- a refusal that tells no damage
abbrev pub NoDamage : Refusal → Type 0
NoDamage (refusal.Damaged want got) = ⊥
NoDamage other = ⊤

-- damage that it tells has its cause in what the library of this id might give as its history began, or in that nothing lies under a key
-- that left through the changes that are shown
abbrev pub IsCausedAt : {S : Type 0} → (S → Slot → Option (List ℕ) → Type 0) → List (Shown S) → List ℕ → Refusal → Type 0
IsCausedAt {S} may_give us lib why =
    NoDamage why ⊎ ((start : DepotView S) × (there : StartsIn us lib start) × IsCaused (OrGone (removed_through there.shown.seen) (may_give start.store.shelf)) why)

abbrev pub IsCausedReplyAt : {S : Type 0} → (S → Slot → Option (List ℕ) → Type 0) → List (Shown S) → List ℕ → Reply → Type 0
IsCausedReplyAt may_give us lib (reply.Refused why) = IsCausedAt may_give us lib why
IsCausedReplyAt may_give us lib other = ⊤

abbrev pub IsCausedEndAt : {S : Type 0} → (S → Slot → Option (List ℕ) → Type 0) → List (Shown S) → List ℕ → Collected → Type 0
IsCausedEndAt may_give us lib (collected.Refused why) = IsCausedAt may_give us lib why
IsCausedEndAt may_give us lib (collected.Done number removed) = ⊤

-- so of each reply to a call and each end of a collection
abbrev pub AreCausedAt : {S : Type 0} → (S → Slot → Option (List ℕ) → Type 0) → List (Shown S) → List (Told Line) → Type 0
AreCausedAt may_give us [] = ⊤
AreCausedAt may_give us (call_asked lib call answer lines ∷ calls) = IsCausedReplyAt may_give us lib answer.reply × AreCausedAt may_give us calls
AreCausedAt may_give us (collection_asked lib secret ends lines ∷ calls) = IsCausedEndAt may_give us lib ends × AreCausedAt may_give us calls
AreCausedAt may_give us (look_asked lib secret tag same lines ∷ calls) = AreCausedAt may_give us calls
