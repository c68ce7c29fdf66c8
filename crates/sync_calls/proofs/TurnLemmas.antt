-- What one turn leaves of what a pass shows. The key lemmas are reads_so, changes_so, comes_same, comes_changed, knows_read and
-- knows_changed.
use Rattle.std.proofs.Common.{◌≡◌, ℕ, ⊎_elim, List, [], ◌∷◌, ◌++◌, length, length-append, take, refl, sym, ◌∙◌, ap, subst, subst₂, arith, true, Option, Some}
use Rattle.std.specs.List.{slice_get}
use Rattle.std.proofs.lemmas.List.{take-append-le, take_all}
use Rattle.ids.specs.declared.key.Key.{Key}
use Rattle.library_state.specs.declared.call.Call.{Call}
use Rattle.library_state.specs.declared.reply.Reply.{Reply}
use Rattle.object_store.specs.Shelf.{Contents}
use Rattle.object_store.specs.declared.shelf.Slot.{Slot}
use Rattle.object_graph.specs.Traversal.{is_in}
use Rattle.depot.specs.CollectionTurns.{removed_in}
use Rattle.depot.specs.DepotView.{DepotView}
use Rattle.depot.specs.Giving.{GivesBy, IsLaid}
use Rattle.depot.specs.Story.{ComesBy, answered, turned, IsAnswered, IsMadeAs, IsOther, IsSame, IsTurned, LeadsTo, Links, MadeBy, RanBy, removed_of, removed_through}
use Rattle.depot.specs.declared.story.Change.{Change}
use Rattle.depot.specs.declared.story.Made.{Made}
use Rattle.depot.specs.declared.story.Made.TheVariants as made
use Rattle.depot.specs.declared.turn.Turn.{Turn}
use Rattle.depot.proofs.GivingLemmas.{wider_by}
use Rattle.depot.proofs.StoryLemmas.{among_none, answered_lays, comes_on, laid_more, ran_on, ran_same, removed_last, removed_on, turned_lays, turned_same}
use Rattle.turnstile.specs.Lists.{Has, IsOnce}
use Rattle.turnstile.proofs.ListsLemmas.{Has-append, IsOnce-append, prefix_length, prefix_trans}
use Rattle.sync_calls.specs.Operations.{Called, Deed, Does, IsChanging, IsMadeBy, IsNew, IsReading, Looked, TookTurn}
use Rattle.sync_calls.specs.ServedTurn.{CatchesUp, IsEntryOf}
use Rattle.sync_calls.specs.Shown.{Knows, Shown, library_after, library_at}
use Rattle.sync_calls.proofs.ShownLemmas.{IsLast, after_front, at_end, last_at, leads_on, leads_same}

-- what was seen before a place at which nothing more is
seen_whole : {V : Type 0} (seen : List V) (place : ℕ) → place ≡ length seen → take place seen ≡ seen
seen_whole seen place is = ap (λ (n : ℕ). take n seen) is ∙ take_all (length seen) seen (omega arith)

-- and before the last change
seen_before : {V : Type 0} (seen : List V) (change : V) (place : ℕ) → place ≡ length seen → take place (seen ++ change ∷ []) ≡ seen
seen_before seen change place is =
    ap (λ (n : ℕ). take n (seen ++ change ∷ [])) is ∙ take-append-le (length seen) seen (change ∷ []) (omega arith) ∙ take_all (length seen) seen (omega arith)

-- what is shown once a change more is seen, with its place in the book
abbrev pub with_change : {S : Type 0} → Shown S → Change (DepotView S) → ℕ → Shown S
with_change w change place = record w { seen = w.seen ++ change ∷ []; book = w.book ++ place ∷ [] }

module _ {S : Type 0} (u w : Shown S) (up : CatchesUp u w) where
  new_place : (place : ℕ) → place ≡ length w.seen → IsNew u place
  new_place place is =
      let longer = prefix_length u.seen w.seen up.grows in
      let looked = up.looked in
      (omega arith, omega arith)

  start_stays : w.start ≡ u.start
  start_stays = ap (λ (v : Shown S). v.start) up.same

  book_stays : w.book ≡ u.book
  book_stays = ap (λ (v : Shown S). v.book) up.same

module _ {S : Type 0} (contents : S → Option Contents) (may_give : S → Slot → Option (List ℕ) → Type 0) (texts faults : S → ℕ) where
  -- the deed that a change is leads from the library before it to the one after it
  made_by : (m : Made) (at : ℕ) (deed : Deed) (before after x y : DepotView S) → IsMadeBy m at deed → before ≡ x → after ≡ y → Does contents may_give texts faults x deed y
      → MadeBy contents may_give texts faults m before at after
  made_by (made.Asked c s) at (Called call moment r) before after x y is from to does =
      subst (λ (b : DepotView S). IsAnswered contents may_give texts faults b c.value at s.value after) (sym from)
      (subst (λ (a : DepotView S). IsAnswered contents may_give texts faults x c.value at s.value a) (sym to)
      (subst (λ (k : Call). IsAnswered contents may_give texts faults x k at s.value y) (sym is.0)
      (subst (λ (k : Reply). IsAnswered contents may_give texts faults x call at k y) (sym is.1)
      (subst (λ (k : ℕ). IsAnswered contents may_give texts faults x call k r y) (sym is.2) does))))
  made_by (made.Turned goal most taken) at (TookTurn g moment m turn) before after x y is from to does =
      subst (λ (b : DepotView S). IsTurned contents may_give texts faults b goal at most taken.value after) (sym from)
      (subst (λ (a : DepotView S). IsTurned contents may_give texts faults x goal at most taken.value a) (sym to)
      (subst (λ (k : Option ℕ). IsTurned contents may_give texts faults x k at most taken.value y) (sym is.0)
      (subst (λ (k : ℕ). IsTurned contents may_give texts faults x g at k taken.value y) (sym is.1)
      (subst (λ (k : Turn). IsTurned contents may_give texts faults x g at m k y) (sym is.2)
      (subst (λ (k : ℕ). IsTurned contents may_give texts faults x g k m turn y) (sym is.3) does)))))
  made_by (made.Asked c s) at (TookTurn g moment m turn) before after x y is from to does = absurd is
  made_by (made.Asked c s) at Looked before after x y is from to does = absurd is
  made_by (made.Turned goal most taken) at (Called call moment r) before after x y is from to does = absurd is
  made_by (made.Turned goal most taken) at Looked before after x y is from to does = absurd is

  pub linked : (change : Change (DepotView S)) (deed : Deed) (x y : DepotView S) → IsEntryOf x deed y change → Does contents may_give texts faults x deed y → IsOther contents faults x y
      → Links contents may_give texts faults change
  linked change deed x y entry does other = record {
    by = made_by change.made change.moment deed change.before.value change.after.value x y entry.made entry.from entry.to does;
    other = subst (λ (b : DepotView S). IsOther contents faults b change.after.value) (sym entry.from) (subst (λ (a : DepotView S). IsOther contents faults x a) (sym entry.to) other);
  }

  -- the library at the place where a turn is taken
  pub stood_at : (w : Shown S) (start x : DepotView S) (place : ℕ) → w.start ≡ Some start → (last : IsLast contents may_give texts faults (Some start) w.seen x) → place ≡ length w.seen
      → library_at w place ≡ Some last.there
  stood_at w start x place begins last is =
      ap (λ n. library_after w.start w.seen n) is ∙ (ap (λ (o : Option (DepotView S)). library_after o w.seen (length w.seen)) begins ∙ last.stood)

  -- a deed that left the library as it was
  pub reads_so : (u w : Shown S) (start x y : DepotView S) (place : ℕ) (deed : Deed) → CatchesUp u w → w.start ≡ Some start → ComesBy contents may_give texts faults start w.seen x
      → place ≡ length w.seen → Does contents may_give texts faults x deed y → IsSame contents faults x y → IsReading contents may_give texts faults u place deed w
  reads_so u w start x y place deed up begins comes is does stays =
      let last = last_at contents may_give texts faults start w.seen x comes.leads in
      record {
        new = new_place u w up place is;
        grows = up.grows;
        whole = is;
        same = up.same;
        reads = record {
          there = last.there;
          stood = stood_at w start x place begins last is;
          before = x;
          same = last.same;
          gives = record {
            start = start;
            began = begins;
            gives = subst (λ (cs : List (Change (DepotView S))). GivesBy (IsLaid start.state.lib (removed_through cs)) (may_give start.store.shelf) (may_give x.store.shelf)) (sym (seen_whole w.seen place is)) comes.gives;
          };
          after = y;
          does = does;
          stays = stays;
        };
      }

  -- it was done on the library of the turn
  pub reads_on : (u w : Shown S) (start x y : DepotView S) (place : ℕ) (deed : Deed) (up : CatchesUp u w) (begins : w.start ≡ Some start) (comes : ComesBy contents may_give texts faults start w.seen x)
      (is : place ≡ length w.seen) (does : Does contents may_give texts faults x deed y) (stays : IsSame contents faults x y)
      → (reads_so u w start x y place deed up begins comes is does stays).reads.before ≡ x
  unfolding reads_so
  reads_on u w start x y place deed up begins comes is does stays = refl

  -- a deed that made a change
  pub changes_so : (u w : Shown S) (start x y : DepotView S) (place : ℕ) (deed : Deed) (change : Change (DepotView S)) → CatchesUp u w → w.start ≡ Some start
      → ComesBy contents may_give texts faults start w.seen x → place ≡ length w.seen → IsEntryOf x deed y change → Does contents may_give texts faults x deed y → IsOther contents faults x y
      → IsChanging contents may_give texts faults u place deed (with_change w change place)
  changes_so u w start x y place deed change up begins comes is entry does other =
      let last = last_at contents may_give texts faults start w.seen x comes.leads in
      let added = length-append w.seen (change ∷ []) in
      record {
        new = new_place u w up place is;
        grows = prefix_trans u.seen w.seen (w.seen ++ change ∷ []) up.grows (change ∷ [], refl);
        whole = omega arith;
        same = ap (λ (z : Shown S). with_change z change place) up.same;
        change = change;
        at = ap (λ n. slice_get (w.seen ++ change ∷ []) n) is ∙ at_end w.seen change;
        made = entry.made;
        there = last.there;
        stood = ap (λ n. library_after w.start (w.seen ++ change ∷ []) n) is ∙ (after_front w.start w.seen (change ∷ [])
            ∙ (ap (λ (o : Option (DepotView S)). library_after o w.seen (length w.seen)) begins ∙ last.stood));
        follows = subst (λ (b : DepotView S). IsSame contents faults last.there b) (sym entry.from) last.same;
        gives = record {
          start = start;
          began = begins;
          gives = subst₂ (λ (cs : List (Change (DepotView S))) (b : DepotView S). GivesBy (IsLaid start.state.lib (removed_through cs)) (may_give start.store.shelf) (may_give b.store.shelf))
              (sym (seen_before w.seen change place is)) (sym entry.from) comes.gives;
        };
        links = linked change deed x y entry does other;
      }

  -- which is the one that was published
  pub changes_by : (u w : Shown S) (start x y : DepotView S) (place : ℕ) (deed : Deed) (change : Change (DepotView S)) (up : CatchesUp u w) (begins : w.start ≡ Some start)
      (comes : ComesBy contents may_give texts faults start w.seen x) (is : place ≡ length w.seen) (entry : IsEntryOf x deed y change) (does : Does contents may_give texts faults x deed y)
      (other : IsOther contents faults x y) → (changes_so u w start x y place deed change up begins comes is entry does other).change ≡ change
  unfolding changes_so
  changes_by u w start x y place deed change up begins comes is entry does other = refl

  pub leads_changed : (start x y : DepotView S) (seen : List (Change (DepotView S))) (deed : Deed) (change : Change (DepotView S)) → LeadsTo contents may_give texts faults start seen x
      → IsEntryOf x deed y change → Does contents may_give texts faults x deed y → IsOther contents faults x y → LeadsTo contents may_give texts faults start (seen ++ change ∷ []) y
  leads_changed start x y seen deed change leads entry does other =
      leads_on contents may_give texts faults start seen x change y leads entry.from (linked change deed x y entry does other) entry.to

  -- what a deed may lay that left the library as it was: by it no key leaves
  lays_same : (deed : Deed) (x y : DepotView S) (keys : List Key) → Does contents may_give texts faults x deed y → IsSame contents faults x y
      → GivesBy (IsLaid x.state.lib keys) (may_give x.store.shelf) (may_give y.store.shelf)
  lays_same (Called call moment r) x y keys does same =
      wider_by (laid_more x.state.lib [] keys (among_none keys)) (answered_lays contents may_give texts faults x call moment r y does)
  lays_same (TookTurn goal moment most taken) x y keys does same =
      let none = turned_same contents may_give texts faults x goal moment most taken y does same in
      wider_by (laid_more x.state.lib (removed_in taken) keys (λ key there. among_none keys key (subst (λ (ks : List Key). is_in ks key ≡ true) none there)))
      (turned_lays contents may_give texts faults x goal moment most taken y does)
  lays_same Looked x y keys does same = absurd does

  -- or that made a change, the last one
  lays_changed : (m : Made) (at : ℕ) (deed : Deed) (x y : DepotView S) (seen : List (Change (DepotView S))) (change : Change (DepotView S)) → m ≡ change.made → IsMadeBy m at deed
      → Does contents may_give texts faults x deed y → GivesBy (IsLaid x.state.lib (removed_through (seen ++ change ∷ []))) (may_give x.store.shelf) (may_give y.store.shelf)
  lays_changed m at (Called call moment r) x y seen change same is does =
      wider_by (laid_more x.state.lib [] (removed_through (seen ++ change ∷ [])) (among_none (removed_through (seen ++ change ∷ [])))) (answered_lays contents may_give texts faults x call moment r y does)
  lays_changed (made.Turned goal most taken) at (TookTurn g moment n turn) x y seen change same is does =
      wider_by (laid_more x.state.lib (removed_in turn) (removed_through (seen ++ change ∷ [])) (λ key there.
      removed_last seen change key (subst (λ (k : Made). is_in (removed_of k) key ≡ true) same (subst (λ (t : Turn). is_in (removed_in t) key ≡ true) (sym is.2) there))))
      (turned_lays contents may_give texts faults x g moment n turn y does)
  lays_changed (made.Asked c s) at (TookTurn g moment n turn) x y seen change same is does = absurd is
  lays_changed m at Looked x y seen change same is does = absurd does

  -- it is done behind all that was done before, which it left as it was
  does_run : (deed : Deed) (start x y : DepotView S) (seen : List (Change (DepotView S))) → RanBy contents may_give texts faults start seen x → Does contents may_give texts faults x deed y
      → IsSame contents faults x y → RanBy contents may_give texts faults start seen y
  does_run (Called call moment r) start x y seen ran does same = ran_same contents may_give texts faults start seen x (answered call moment r) y ran tt does same
  does_run (TookTurn goal moment most taken) start x y seen ran does same = ran_same contents may_give texts faults start seen x (turned goal moment most taken) y ran tt does same
  does_run Looked start x y seen ran does same = absurd does

  -- or changed
  made_run : (m : Made) (at : ℕ) (deed : Deed) (start x y : DepotView S) (seen : List (Change (DepotView S))) (change : Change (DepotView S)) → m ≡ change.made → at ≡ change.moment
      → IsMadeBy m at deed → RanBy contents may_give texts faults start seen x → Does contents may_give texts faults x deed y → change.before.value ≡ x → change.after.value ≡ y
      → RanBy contents may_give texts faults start (seen ++ change ∷ []) y
  made_run (made.Asked c s) at (Called call moment r) start x y seen change same when is ran does from to =
      ran_on contents may_give texts faults start seen x (answered call moment r) y change ran does from
      (subst (λ (k : Made). IsMadeAs k change.moment (answered call moment r)) same (is.0, is.1, sym when ∙ is.2)) to
  made_run (made.Turned goal most taken) at (TookTurn g moment n turn) start x y seen change same when is ran does from to =
      ran_on contents may_give texts faults start seen x (turned g moment n turn) y change ran does from
      (subst (λ (k : Made). IsMadeAs k change.moment (turned g moment n turn)) same (is.0, is.1, is.2, sym when ∙ is.3)) to
  made_run (made.Asked c s) at (TookTurn g moment n turn) start x y seen change same when is ran does from to = absurd is
  made_run (made.Asked c s) at Looked start x y seen change same when is ran does from to = absurd is
  made_run (made.Turned goal most taken) at (Called call moment r) start x y seen change same when is ran does from to = absurd is
  made_run (made.Turned goal most taken) at Looked start x y seen change same when is ran does from to = absurd is

  -- the library as a turn leaves it comes of the one that began
  pub comes_same : (start x y : DepotView S) (seen : List (Change (DepotView S))) (deed : Deed) → ComesBy contents may_give texts faults start seen x → IsSame contents faults x y
      → Does contents may_give texts faults x deed y → ComesBy contents may_give texts faults start seen y
  comes_same start x y seen deed comes same does =
      comes_on contents may_give texts faults start seen x seen y comes (leads_same contents may_give texts faults start seen x y comes.leads same) (lays_same deed x y (removed_through seen) does same)
      (does_run deed start x y seen comes.ran does same) (λ key there. there)

  pub comes_changed : (start x y : DepotView S) (seen : List (Change (DepotView S))) (deed : Deed) (change : Change (DepotView S)) → ComesBy contents may_give texts faults start seen x
      → IsEntryOf x deed y change → Does contents may_give texts faults x deed y → IsOther contents faults x y → ComesBy contents may_give texts faults start (seen ++ change ∷ []) y
  comes_changed start x y seen deed change comes entry does other =
      comes_on contents may_give texts faults start seen x (seen ++ change ∷ []) y comes (leads_changed start x y seen deed change comes.leads entry does other)
      (lays_changed change.made change.moment deed x y seen change refl entry.made does)
      (made_run change.made change.moment deed start x y seen change refl refl entry.made comes.ran does entry.from entry.to) (removed_on seen (change ∷ []))

  -- what the pass knows then
  pub knows_read : (u w : Shown S) (start y : DepotView S) → CatchesUp u w → w.start ≡ Some start → LeadsTo contents may_give texts faults start w.seen y
      → Knows contents may_give texts faults u → Knows contents may_give texts faults w
  knows_read u w start y up begins leads knows = record {
    start = start;
    begins = begins;
    last = y;
    leads = leads;
    once = subst IsOnce (sym (book_stays u w up)) knows.once;
    below = λ p has.
        let short = knows.below p (subst (λ b. Has p b) (book_stays u w up) has) in
        let longer = prefix_length u.seen w.seen up.grows in
        omega arith;
  }

  pub knows_changed : (w : Shown S) (start y : DepotView S) (place : ℕ) (change : Change (DepotView S)) → w.start ≡ Some start
      → LeadsTo contents may_give texts faults start (w.seen ++ change ∷ []) y → place ≡ length w.seen → Knows contents may_give texts faults w
      → Knows contents may_give texts faults (with_change w change place)
  knows_changed w start y place change begins leads is knows =
      let added = length-append w.seen (change ∷ []) in
      record {
        start = start;
        begins = begins;
        last = y;
        leads = leads;
        once = IsOnce-append w.book (place ∷ []) knows.once ((λ h. h), tt)
            (λ p has here. ⊎_elim (λ (same : p ≡ place). let short = knows.below p has in absurd (omega arith)) (λ none. absurd none) here);
        below = λ p has. ⊎_elim
            (λ old. let short = knows.below p old in omega arith)
            (λ here. ⊎_elim (λ (same : p ≡ place). omega arith) (λ none. absurd none) here)
            (Has-append p w.book (place ∷ []) has);
      }
