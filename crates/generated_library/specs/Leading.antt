-- What calls lead a hall's one library to, where nobody else asks it. Our own. Read IsOwn, IsNow and GoesOn, then Leads; and WasHead.
use Rattle.std.specs.Prelude.{◌≡◌, ◌⊎◌, ℕ, ◌<◌, ◌≤◌, true, List, [], ◌∷◌, length, Option, None, Some, ⊤}
use mathlib.Core.List.{IsPrefix}
use Rattle.depot.specs.DepotView.{DepotView, state_of}
use Rattle.ids.specs.declared.key.Key.{Key}
use Rattle.library_rules.specs.History.{Permits}
use Rattle.library_rules.specs.Changes.{apply}
use Rattle.library_rules.specs.LibraryState.{State, IsSound, head_of, is_stored}
use Rattle.library_rules.specs.declared.entry.Entry.{Entry}
use Rattle.library_rules.specs.declared.entry.Step.TheVariants as step
use Rattle.library_state.specs.declared.call.Act.{Act}
use Rattle.library_state.specs.declared.call.Call.{Call}
use Rattle.library_state.specs.declared.reply.Reply.{Reply}
use Rattle.object_graph.specs.Unchanged.{Keeps}
use Rattle.object_store.specs.Shelf.{Contents}
use Rattle.sync_calls.specs.Shown.{Shown, library_at}
use Rattle.turnstile.specs.Lists.{Has}

-- ---- what a pass shows

-- one library is shown, and each change of it that was seen was made through this pass
pub record IsOwn {S : Type 0} (us : List (Shown S)) : Type 0 where
  pub only : Shown S
  pub is : us ≡ only ∷ []
  pub each : (place : ℕ) → place < length only.seen → Has place only.book

-- the history that was shown of a library stands in front of the one that is shown now
abbrev pub GoesOn : {S : Type 0} → Shown S → Shown S → Type 0
GoesOn u v = (v.start ≡ u.start) × IsPrefix u.seen v.seen

-- at a place of the one library's history that was not shown before, or was the last, this commit was the head
pub record WasHead {S : Type 0} (us vs : List (Shown S)) (id : List ℕ) : Type 0 where
  pub before : Shown S
  pub was : us ≡ before ∷ []
  pub after : Shown S
  pub is : vs ≡ after ∷ []
  pub place : ℕ
  pub since : length before.seen ≤ place
  pub there : DepotView S
  pub stood : library_at after place ≡ Some there
  pub head : head_of there.state.kept ≡ id

module _ {S : Type 0} (contents : S → Option Contents) (faults : S → ℕ) where
  -- one library is shown, and it is this one after all changes that were seen, where its shelf tells what it holds
  pub record IsNow (us : List (Shown S)) (s : State) : Type 0 where
    pub only : Shown S
    pub is : us ≡ only ∷ []
    pub there : DepotView S
    pub stood : library_at only (length only.seen) ≡ Some there
    pub told : state_of contents faults there ≡ Some s
    pub sound : IsSound s

  -- where each change was made through the pass it was so before, and the history goes on; and of a library of this kind it is one now that stands
  -- so to it
  pub record Leads (us vs : List (Shown S)) (P : State → Type 0) (R : State → State → Type 0) : Type 0 where
    pub own : IsOwn vs → IsOwn us
    pub goes : IsOwn vs → (u v : Shown S) → us ≡ u ∷ [] → vs ≡ v ∷ [] → GoesOn u v
    pub to : IsOwn vs → (s : State) → IsNow us s → P s → (t : State) × IsNow vs t × R s t

-- ---- how a library stands to the one of before

-- of any library
abbrev pub Any : State → Type 0
Any s = ⊤

-- a call, by its parts
abbrev pub call_of : Option (List ℕ) → Act → Call
call_of secret a = record { secret = secret; act = a }

-- a call was answered so by the rules
pub record IsAnswered (call : Call) (moment : ℕ) (r : Reply) (s t : State) : Type 0 where
  pub entry : Entry
  pub permits : Permits s entry
  pub is_step : entry.step ≡ step.Asked call
  pub at : entry.moment ≡ moment
  pub answers : entry.reply ≡ r
  pub is : t ≡ apply s entry

-- what is stored of such keys alone came, if anything did
pub record Adds (IsSo : Key → Type 0) (s t : State) : Type 0 where
  pub each : (key : Key) → is_stored t.objects key ≡ true → (is_stored s.objects key ≡ true) ⊎ IsSo key

-- objects came at most; the commits that are kept are the same, and no collection began
pub record Grows (s t : State) : Type 0 where
  pub keeps : Keeps s.objects t.objects
  pub kept : t.state.kept ≡ s.state.kept
  pub idle : s.running ≡ None → t.running ≡ None
