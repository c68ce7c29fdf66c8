-- What a look without a turn tells. Our own. Read GlancesSo, then glance_at.
use Rattle.std.specs.Prelude.{◌≡◌, ℕ, true, false, ◌==◌, ◌&&◌, if◌then◌else◌, List, [], ◌∷◌, Option, Some}
use Rattle.library_state.specs.declared.call.Act.TheVariants as act
use Rattle.library_state.specs.declared.tag.Tag.{Tag}
use Rattle.object_store.specs.Shelf.{Contents}
use Rattle.object_store.specs.declared.shelf.Slot.{Slot}
use Rattle.sync_calls.specs.Asking.{IsAt, IsNowhere}
use Rattle.sync_calls.specs.Door.{admitted}
use Rattle.sync_calls.specs.Operations.{IsLooking, Line, Looked, Moves}
use Rattle.sync_calls.specs.Shown.{Shown, opening_of}
use Rattle.sync_calls.specs.declared.looking.Glance.{Glance}
use Rattle.sync_calls.specs.declared.looking.Glance.TheVariants as glance

-- the tag names this opening of the library, and a history of this length
abbrev pub glance_at : (opening place : ℕ) → Tag → Glance
glance_at opening place tag = if (tag.opening == opening) && (tag.count == place) then glance.Same else glance.Other

module _ {S : Type 0} (contents : S → Option Contents) (may_give : S → Slot → Option (List ℕ) → Type 0) (texts faults : S → ℕ) where
  -- there is no such library; or who asks may not ask for its head; or the length of its history was looked at once, and
  -- compared
  pub data GlancesSo (us : List (Shown S)) (lib : List ℕ) (secret : Option (List ℕ)) (tag : Tag) (found : Glance) (lines : List Line) (vs : List (Shown S)) : Type 0 where
    nowhere : IsNowhere us lib → found ≡ glance.NoLibrary → lines ≡ [] → vs ≡ us → GlancesSo us lib secret tag found lines vs
    denied : (library : ℕ) (u : Shown S) → IsAt us lib library u → admitted u.start secret act.Head ≡ false → found ≡ glance.Denied → lines ≡ [] → vs ≡ us
        → GlancesSo us lib secret tag found lines vs
    looked : (line : Line) (u : Shown S) → IsAt us lib line.library u → admitted u.start secret act.Head ≡ true → lines ≡ line ∷ [] → line.deed ≡ Looked
        → Moves contents may_give texts faults us line vs → (opening : ℕ) → opening_of u ≡ Some opening → found ≡ glance_at opening line.place tag
        → GlancesSo us lib secret tag found lines vs

-- the same of one library, for private clauses
pub data GlancesOne {S : Type 0} (u : Shown S) (secret : Option (List ℕ)) (tag : Tag) (found : Glance) (v : Shown S) : Type 0 where
  denied : admitted u.start secret act.Head ≡ false → found ≡ glance.Denied → v ≡ u → GlancesOne u secret tag found v
  looked : admitted u.start secret act.Head ≡ true → (place : ℕ) → IsLooking u place v → (opening : ℕ) → opening_of u ≡ Some opening
      → found ≡ glance_at opening place tag → GlancesOne u secret tag found v
