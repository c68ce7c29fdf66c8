-- A connection with several libraries on which no collection is asked for lets no key go. The key lemma is no_key_left.
use Rattle.std.proofs.Common.{◌≡◌, ◌⊎◌, inl, inr, ℕ, zero, suc, ◌<◌, List, [], ◌∷◌, ◌++◌, length, Option, Some, ap, ap₂, arith, refl, subst, sym}
use Rattle.std.specs.List.{slice_get}
use Rattle.std.specs.Prelude.{slice_set}
use Rattle.std.proofs.lemmas.Option.{get_or_from_slice_get, slice_get_within}
use mathlib.Core.List.{IsPrefix}
use Rattle.ids.specs.declared.key.Key.{Key}
use Rattle.depot.specs.DepotView.{DepotView}
use Rattle.depot.specs.Story.{removed_of, removed_through}
use Rattle.depot.specs.declared.story.Change.{Change}
use Rattle.depot.specs.declared.story.Made.{Made}
use Rattle.depot.specs.declared.story.Made.TheVariants as made
use Rattle.library_state.specs.declared.call.Call.{Call}
use Rattle.library_state.specs.declared.reply.Reply.{Reply}
use Rattle.library_state.specs.declared.tag.Tag.{Tag}
use Rattle.object_store.specs.Shelf.{Contents}
use Rattle.object_store.specs.declared.shelf.Slot.{Slot}
use Rattle.turnstile.specs.Lists.{Has}
use Rattle.turnstile.proofs.ListsLemmas.{Has-append}
use Rattle.sync_calls.specs.Asking.{AsksSo}
use Rattle.sync_calls.specs.Hall.{shown_by}
use Rattle.sync_calls.specs.Looking.{GlancesSo}
use Rattle.sync_calls.specs.Operations.{Called, Deed, IsDone, IsMadeBy, Line}
use Rattle.sync_calls.specs.Shown.{Shown}
use Rattle.sync_calls.specs.declared.asking.Answer.{Answer as HallAnswer}
use Rattle.sync_calls.specs.declared.looking.Glance.{Glance}
use Rattle.worker_server.specs.Calls.{Ran, Told, call_asked, collection_asked, look_asked}
use Rattle.hall_server.specs.Serving.{HallShown, hall_rules, hall_shown}
use Rattle.hall_server.proofs.GoingLemmas.{from_some, set_back}
use Rattle.hall_server.proofs.LaterLemmas.{none_some}
use Rattle.link_ears.specs.Ear.{LinkView}
use Rattle.library_server.specs.HallConnections.{HasNoCollection, ServesHall}
use Rattle.library_server.proofs.HallWholeLemmas.{lines_back, new_at}

-- ---- lists

front_at : {A : Type 0} (xs ys : List A) (p : ℕ) (a : A) → slice_get xs p ≡ Some a → slice_get (xs ++ ys) p ≡ Some a
front_at [] ys p a is = absurd (none_some a is)
front_at (x ∷ xs) ys zero a is = is
front_at (x ∷ xs) ys (suc p) a is = front_at xs ys p a is

later_at : {A : Type 0} (xs ys : List A) → IsPrefix xs ys → (p : ℕ) (a : A) → slice_get xs p ≡ Some a → slice_get ys p ≡ Some a
later_at {A} xs ys front p a is = subst (λ (l : List A). slice_get l p ≡ Some a) front.1 (front_at xs front.0 p a is)

-- where no change lets a key go, none goes through all of them
none_through : {V : Type 0} (cs : List (Change V)) → ((p : ℕ) → p < length cs → (c : Change V) × (slice_get cs p ≡ Some c) × (removed_of c.made ≡ [])) → removed_through cs ≡ []
none_through [] each = refl
none_through {V} (c ∷ cs) each =
    let first = each 0 (omega arith) in
    let here : removed_of c.made ≡ [] = subst (λ (d : Change V). removed_of d.made ≡ []) (sym (from_some c first.0 first.1)) first.2 in
    ap₂ (λ (xs ys : List Key). xs ++ ys) here (none_through cs (λ p below. each (suc p) (omega (arith, below))))

module _ {S : Type 0} (contents : S → Option Contents) (may_give : S → Slot → Option (List ℕ) → Type 0) (texts faults : S → ℕ) where
  -- each change in the book is one by which no key left
  abbrev OwnLeave : Shown S → Type 0
  OwnLeave w = (p : ℕ) → Has p w.book → (c : Change (DepotView S)) × (slice_get w.seen p ≡ Some c) × (removed_of c.made ≡ [])

  did_leave : (u : Shown S) (place : ℕ) (call : Call) (moment : ℕ) (r : Reply) (v : Shown S) → IsDone contents may_give texts faults u place (Called call moment r) v → OwnLeave u → OwnLeave v
  did_leave u place call moment r v (inl reads) own p has =
      let was = own p (subst (λ (b : List ℕ). Has p b) (ap (λ (w : Shown S). w.book) reads.same) has) in
      (was.0, later_at u.seen v.seen reads.grows p was.0 was.1, was.2)
  did_leave u place call moment r v (inr changes) own p has =
      by (Has-append p u.book (place ∷ []) (subst (λ (b : List ℕ). Has p b) (ap (λ (w : Shown S). w.book) changes.same) has))
    where
      none_by : (m : Made) (at : ℕ) → IsMadeBy m at (Called call moment r) → removed_of m ≡ []
      none_by (made.Asked asked said) at is = refl
      none_by (made.Turned goal most taken) at is = absurd is

      by : Has p u.book ⊎ Has p (place ∷ []) → (c : Change (DepotView S)) × (slice_get v.seen p ≡ Some c) × (removed_of c.made ≡ [])
      by (inl old) = let was = own p old in (was.0, later_at u.seen v.seen changes.grows p was.0 was.1, was.2)
      by (inr (inl here)) =
          (changes.change, subst (λ (n : ℕ). slice_get v.seen n ≡ Some changes.change) (sym here) changes.at, none_by changes.change.made changes.change.moment changes.made)
      by (inr (inr none)) = absurd none

  abbrev AllLeave : List (Shown S) → Type 0
  AllLeave vs = (j : ℕ) (w : Shown S) → slice_get vs j ≡ Some w → OwnLeave w

  set_leave : (us : List (Shown S)) (library : ℕ) (u after : Shown S) (vs : List (Shown S)) → slice_get us library ≡ Some u → vs ≡ slice_set us library after → (OwnLeave u → OwnLeave after)
      → AllLeave us → AllLeave vs
  set_leave us library u after vs was is goes own j w at =
      elim (set_back us library after j w (subst (λ (ws : List (Shown S)). slice_get ws j ≡ Some w) is at)) [
        | inl here ↦ subst (λ (x : Shown S). OwnLeave x) (sym here.1) (goes (own library u was))
        | inr there ↦ own j w there
      ]

  asks_leave : (us : List (Shown S)) (lib : List ℕ) (call : Call) (moment : ℕ) (given : HallAnswer) (lines : List Line) (vs : List (Shown S)) (draws : List ℕ)
      → AsksSo contents may_give texts faults us lib call moment given lines vs draws → AllLeave us → AllLeave vs
  asks_leave us lib call moment given lines vs draws (AsksSo.nowhere away told_is empty same) own = subst (λ (ws : List (Shown S)). AllLeave ws) (sym same) own
  asks_leave us lib call moment given lines vs draws (AsksSo.denied library u at not_may told_is empty same) own = subst (λ (ws : List (Shown S)). AllLeave ws) (sym same) own
  asks_leave us lib call moment given lines vs draws (AsksSo.spent library u at may drew told_is empty same) own = subst (λ (ws : List (Shown S)). AllLeave ws) (sym same) own
  asks_leave us lib call moment given lines vs draws (AsksSo.took library u at may drawn drew fits taken) own =
      set_leave us library u taken.after vs at.at taken.is (did_leave u taken.place call moment given.reply taken.after taken.done) own

  glances_leave : (us : List (Shown S)) (lib : List ℕ) (secret : Option (List ℕ)) (tag : Tag) (found : Glance) (lines : List Line) (vs : List (Shown S))
      → GlancesSo contents may_give texts faults us lib secret tag found lines vs → AllLeave us → AllLeave vs
  glances_leave us lib secret tag found lines vs (GlancesSo.nowhere away is empty same) own = subst (λ (ws : List (Shown S)). AllLeave ws) (sym same) own
  glances_leave us lib secret tag found lines vs (GlancesSo.denied library u at not_may is empty same) own = subst (λ (ws : List (Shown S)). AllLeave ws) (sym same) own
  glances_leave us lib secret tag found lines vs (GlancesSo.looked line u at may is deed_is moves opening opens found_is) own =
      let looks = subst (λ (d : Deed). IsDone contents may_give texts faults moves.before line.place d moves.after) deed_is moves.done in
      set_leave us line.library moves.before moves.after vs moves.was moves.is (λ before. subst (λ (x : Shown S). OwnLeave x) (sym looks.same) before) own

  module _ (shows : ℕ → Type 0) where
    ran_leave : (u : HallShown S) (calls : List (Told Line)) (v : HallShown S) → Ran (hall_rules contents may_give texts faults shows) u calls v → HasNoCollection calls → AllLeave u.libraries
        → AllLeave v.libraries
    ran_leave u [] v same none own = subst (λ (w : HallShown S). AllLeave w.libraries) (sym same) own
    ran_leave u (call_asked lib call answer lines ∷ ts) v (mid, (moment, shown, (given, asks, stays, is)), more) none own =
        ran_leave mid ts v more none (asks_leave u.libraries lib call moment given lines mid.libraries mid.drawn asks own)
    ran_leave u (collection_asked lib secret ends lines ∷ ts) v (mid, first, more) none own = absurd none
    ran_leave u (look_asked lib secret tag same lines ∷ ts) v (mid, (found, glances, stays, is), more) none own =
        ran_leave mid ts v more none (glances_leave u.libraries lib secret tag found lines mid.libraries glances own)

    pub no_key_left : (depots afters : List (DepotView S)) (before now : LinkView) (status : ℕ) (serves : ServesHall contents may_give texts faults shows depots afters before now status)
        → (calls : List (Told Line)) → Ran (hall_rules contents may_give texts faults shows) (hall_shown serves.pass) calls serves.last → HasNoCollection calls → (library : ℕ) (shown : Shown S) → slice_get serves.last.libraries library ≡ Some shown → removed_through shown.seen ≡ []
    no_key_left depots afters before now status serves calls ran none library shown at =
        let goes = serves.ran.2 in
        let back = lines_back contents may_give texts faults (shown_by serves.pass) goes.all serves.last.libraries goes.leads library shown at in
        let own = new_at depots library back.0 (subst (λ (ws : List (Shown S)). slice_get ws library ≡ Some back.0) serves.begins.shows back.1) in
        let comes = serves.each.1 library shown own.0 own.0 (slice_get_within depots library own.0 own.1) in
        let same = get_or_from_slice_get serves.last.libraries library shown shown at in
        none_through shown.seen (λ p below.
        ran_leave (hall_shown serves.pass) calls serves.last ran none begins library shown at p
        (subst (λ (w : Shown S). Has p w.book) same (comes.1 p (subst (λ (w : Shown S). p < length w.seen) (sym same) below))))
      where
        begins : AllLeave (shown_by serves.pass)
        begins j w there =
            let new = new_at depots j w (subst (λ (ws : List (Shown S)). slice_get ws j ≡ Some w) serves.begins.shows there) in
            subst (λ (x : Shown S). OwnLeave x) new.2 (λ p has. absurd has)
