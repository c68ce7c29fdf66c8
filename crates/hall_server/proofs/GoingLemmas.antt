-- What a call and a look leave in a pass: one operation, or none; and how a history began, which no operation changes. The key lemmas are
-- asks_goes, glances_goes, goes_append, done_start and done_grows.
use Rattle.std.proofs.Common.{◌≡◌, ◌⊎◌, inl, inr, ℕ, zero, suc, Bool, List, [], ◌∷◌, ◌++◌, Option, Some, ap, ap₂, false, if◌then◌else◌, refl, subst, sym, true, ◌∙◌}
use Rattle.std.specs.List.{slice_get}
use mathlib.Core.List.{IsPrefix}
use Rattle.std.specs.Prelude.{slice_set}
use Rattle.library_state.specs.declared.call.Call.{Call}
use Rattle.library_state.specs.declared.tag.Tag.{Tag}
use Rattle.object_store.specs.Shelf.{Contents}
use Rattle.object_store.specs.declared.shelf.Slot.{Slot}
use Rattle.depot.specs.DepotView.{DepotView}
use Rattle.depot.specs.declared.story.Change.{Change}
use Rattle.turnstile.proofs.ListsLemmas.{prefix_refl}
use Rattle.sync_calls.specs.Asking.{AsksSo}
use Rattle.sync_calls.specs.Looking.{GlancesSo}
use Rattle.sync_calls.specs.Operations.{Called, Deed, IsDone, Line, Lines, Looked, Moves, TookTurn}
use Rattle.sync_calls.specs.Shown.{Shown}
use Rattle.sync_calls.specs.declared.asking.Answer.{Answer as HallAnswer}
use Rattle.sync_calls.specs.declared.looking.Glance.{Glance}
use Rattle.hall_server.specs.Serving.{Goes as GoesOn, is_over, without_over}

pub from_some : {A : Type 0} (a b : A) → Some a ≡ Some b → a ≡ b
from_some a b e = cc

-- what stands in a list in which one was set: that one, or what stood there
pub set_back : {A : Type 0} (xs : List A) (i : ℕ) (a : A) (j : ℕ) (b : A) → slice_get (slice_set xs i a) j ≡ Some b → ((j ≡ i) × (b ≡ a)) ⊎ (slice_get xs j ≡ Some b)
set_back [] i a j b is = inr is
set_back (x ∷ xs) zero a zero b is = inl (refl, from_some b a (sym is))
set_back (x ∷ xs) zero a (suc j) b is = inr is
set_back (x ∷ xs) (suc i) a zero b is = inr is
set_back (x ∷ xs) (suc i) a (suc j) b is =
    elim (set_back xs i a j b is) [
      | inl here ↦ inl (ap suc here.0, here.1)
      | inr there ↦ inr there
    ]

-- what stood there stands there still, or was what the one was set for
pub set_there : {A : Type 0} (xs : List A) (i : ℕ) (a b : A) (j : ℕ) (c : A) → slice_get xs i ≡ Some b → slice_get xs j ≡ Some c
    → ((c ≡ b) × (slice_get (slice_set xs i a) j ≡ Some a)) ⊎ (slice_get (slice_set xs i a) j ≡ Some c)
set_there [] i a b j c was is = inr is
set_there (x ∷ xs) zero a b zero c was is = inl (from_some c b (sym is ∙ was), refl)
set_there (x ∷ xs) zero a b (suc j) c was is = inr is
set_there (x ∷ xs) (suc i) a b zero c was is = inr is
set_there (x ∷ xs) (suc i) a b (suc j) c was is = set_there xs i a b j c was is

-- at the place that was set stands what was set
pub set_at : {A : Type 0} (xs : List A) (i : ℕ) (a b : A) → slice_get xs i ≡ Some b → slice_get (slice_set xs i a) i ≡ Some a
set_at [] i a b was = cc
set_at (x ∷ xs) zero a b was = refl
set_at (x ∷ xs) (suc i) a b was = set_at xs i a b was

-- one that was done, where it is an operation
abbrev pub kept : Line → Bool → List Line
kept line over = if over then [] else line ∷ []

-- the operations among what was done, and then more
pub without_append : (first more : List Line) → without_over (first ++ more) ≡ without_over first ++ without_over more
without_append [] more = refl
without_append (line ∷ lines) more = by (is_over line.deed) (without_append lines more)
  where
    by : (c : Bool) → without_over (lines ++ more) ≡ without_over lines ++ without_over more
        → (if c then without_over (lines ++ more) else line ∷ without_over (lines ++ more)) ≡ (if c then without_over lines else line ∷ without_over lines) ++ without_over more
    by true same = same
    by false same = ap (λ (xs : List Line). line ∷ xs) same

module _ {S : Type 0} (contents : S → Option Contents) (may_give : S → Slot → Option (List ℕ) → Type 0) (texts faults : S → ℕ) where
  -- all that was done, and then more
  pub all_append : (us mid vs : List (Shown S)) (first more : List Line) → Lines contents may_give texts faults us first mid → Lines contents may_give texts faults mid more vs
      → Lines contents may_give texts faults us (first ++ more) vs
  all_append us mid vs [] more is also = subst (λ (ws : List (Shown S)). Lines contents may_give texts faults ws more vs) is also
  all_append us mid vs (line ∷ lines) more (next, moves, rest) also = (next, moves, all_append next mid vs lines more rest also)

  -- what is shown of the libraries goes on so
  abbrev Goes : List (Shown S) → List Line → List (Shown S) → Type 0
  Goes us lines vs = GoesOn contents may_give texts faults us lines vs

  -- some operations, and then more
  pub goes_append : (us mid vs : List (Shown S)) (first more : List Line) → Goes us first mid → Goes mid more vs → Goes us (first ++ more) vs
  goes_append us mid vs first more is also = record {
    all = is.all ++ also.all;
    leads = all_append us mid vs is.all also.all is.leads also.leads;
    told = ap₂ (λ (xs ys : List Line). xs ++ ys) is.told also.told ∙ sym (without_append is.all also.all);
  }

  pub goes_none : (us vs : List (Shown S)) (lines : List Line) → lines ≡ [] → vs ≡ us → Goes us lines vs
  goes_none us vs lines empty same = record { all = []; leads = same; told = empty }

  goes_one : (us vs : List (Shown S)) (lines : List Line) (line : Line) → lines ≡ line ∷ [] → Moves contents may_give texts faults us line vs → is_over line.deed ≡ false → Goes us lines vs
  goes_one us vs lines line is moves quiet = record {
    all = line ∷ [];
    leads = (vs, moves, refl);
    told = is ∙ sym (ap (kept line) quiet);
  }

  pub asks_goes : (us : List (Shown S)) (lib : List ℕ) (call : Call) (moment : ℕ) (answer : HallAnswer) (lines : List Line) (vs : List (Shown S)) (draws : List ℕ)
      → AsksSo contents may_give texts faults us lib call moment answer lines vs draws → Goes us lines vs
  asks_goes us lib call moment answer lines vs draws (AsksSo.nowhere away told_is empty same) = goes_none us vs lines empty same
  asks_goes us lib call moment answer lines vs draws (AsksSo.denied library u at not_may told_is empty same) = goes_none us vs lines empty same
  asks_goes us lib call moment answer lines vs draws (AsksSo.spent library u at may last told_is empty same) = goes_none us vs lines empty same
  asks_goes us lib call moment answer lines vs draws (AsksSo.took library u at may drawn drew fits turn) =
      goes_one us vs lines (record { library = library; place = turn.place; deed = Called call moment answer.reply }) turn.one
      (record { before = u; was = at.at; after = turn.after; is = turn.is; done = turn.done }) refl

  pub glances_goes : (us : List (Shown S)) (lib : List ℕ) (secret : Option (List ℕ)) (tag : Tag) (found : Glance) (lines : List Line) (vs : List (Shown S))
      → GlancesSo contents may_give texts faults us lib secret tag found lines vs → Goes us lines vs
  glances_goes us lib secret tag found lines vs (GlancesSo.nowhere away is empty same) = goes_none us vs lines empty same
  glances_goes us lib secret tag found lines vs (GlancesSo.denied library u at not_may is empty same) = goes_none us vs lines empty same
  glances_goes us lib secret tag found lines vs (GlancesSo.looked line u at may is deed_is moves opening opens found_is) = goes_one us vs lines line is moves (ap is_over deed_is)

  -- ---- how a history began

  pub done_start : (u : Shown S) (place : ℕ) (deed : Deed) (v : Shown S) → IsDone contents may_give texts faults u place deed v → v.start ≡ u.start
  done_start u place Looked v looks = ap (λ (w : Shown S). w.start) looks.same
  done_start u place (Called call moment r) v (inl reads) = ap (λ (w : Shown S). w.start) reads.same
  done_start u place (Called call moment r) v (inr changes) = ap (λ (w : Shown S). w.start) changes.same
  done_start u place (TookTurn goal moment most taken) v (inl reads) = ap (λ (w : Shown S). w.start) reads.same
  done_start u place (TookTurn goal moment most taken) v (inr changes) = ap (λ (w : Shown S). w.start) changes.same

  -- and it only goes on
  pub done_grows : (u : Shown S) (place : ℕ) (deed : Deed) (v : Shown S) → IsDone contents may_give texts faults u place deed v → IsPrefix u.seen v.seen
  done_grows u place Looked v looks = subst (λ (l : List (Change (DepotView S))). IsPrefix u.seen l) (sym (ap (λ (w : Shown S). w.seen) looks.same)) (prefix_refl u.seen)
  done_grows u place (Called call moment r) v (inl reads) = reads.grows
  done_grows u place (Called call moment r) v (inr changes) = changes.grows
  done_grows u place (TookTurn goal moment most taken) v (inl reads) = reads.grows
  done_grows u place (TookTurn goal moment most taken) v (inr changes) = changes.grows
