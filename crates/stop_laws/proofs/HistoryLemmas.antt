-- A history of which the changes are told, with all that was done between them: what its text is open to is what a change was refused, and
-- which commits stay kept; and while no fault is counted no object comes to lie there that the store doesn't hold. The key lemmas are refused_at,
-- retains_all, kept_behind and none_strays.
use Rattle.std.proofs.Common.{◌≡◌, inl, inr, ℕ, ◌<◌, ◌≤◌, ◌+◌, ◌-◌, ◌^◌, true, false, true≢false, List, [], ◌∷◌, ◌++◌, append_assoc, refl, sym, ap, ◌∙◌, subst, arith, Option}
use Rattle.std.specs.Prelude.{min}
use Rattle.std.specs.List.{AllByRecursion}
use Rattle.std.proofs.lemmas.List.{same_from_push}
use Rattle.ids.specs.FaultCount.{Rose}
use Rattle.library_rules.specs.LibraryState.{is_kept}
use Rattle.library_state.specs.declared.refusal.Refusal.{Refusal}
use Rattle.library_state.specs.declared.refusal.Refusal.TheVariants as refusal
use Rattle.library_state.specs.declared.reply.Reply.{Reply}
use Rattle.library_state.specs.declared.reply.Reply.TheVariants as reply
use Rattle.library_state.specs.declared.state.LibState.{LibState}
use Rattle.object_store.specs.Shelf.{Contents}
use Rattle.object_store.specs.StoreView.{AddsNoStray, HasNoStray}
use Rattle.object_store.specs.declared.shelf.Slot.{Slot}
use Rattle.depot.specs.CollectionTurns.{CountsTurn}
use Rattle.depot.specs.DepotView.{DepotView}
use Rattle.depot.specs.ObjectCalls.{Counts, is_counted}
use Rattle.depot.specs.Story.{AreChangesOf, Done, answered, turned, given_token, IsAsked, IsDoneSo, IsMadeAs, IsSame, Runs}
use Rattle.depot.specs.declared.story.Change.{Change}
use Rattle.depot.specs.declared.story.Made.{Made}
use Rattle.depot.specs.declared.story.Made.TheVariants as made
use Rattle.depot.specs.declared.turn.Turn.{Turn}
use Rattle.depot.specs.declared.turn.Turn.TheVariants as turn
use Rattle.stop_laws.specs.Stops.{AllKeep, IsOpen, KeepsCommit, Retains, WasRefused, WouldMake}
use Rattle.stop_laws.proofs.RunLemmas.{done_keeps, would_keeps}

-- ---- counts of faults

-- what stayed below the greatest number didn't rise
none_above : (most before now : ℕ) → now ≡ before → now < most → min (before + 1) most ≤ now → ⊥
none_above most before now same less rose = omega (arith, same, less, rose)

no_rise : (before now : ℕ) → now ≡ before → now < 2 ^ 64 - 1 → Rose before now → ⊥
no_rise before now same less rose = none_above (2 ^ 64 - 1) before now same less rose

-- a count grows in no other way than by a fault
same_grows : (before now : ℕ) → now ≡ before → before ≤ now
same_grows before now same = omega (arith, same)

call_grows : (r : Reply) (before now : ℕ) → Counts before now r → before ≤ now
call_grows (reply.Refused refusal.Store) before now counts = counts.0
call_grows (reply.Refused other) before now counts = same_grows before now counts
call_grows other before now counts = same_grows before now counts

turn_grows : (t : Turn) (before now : ℕ) → CountsTurn before now t → before ≤ now
turn_grows (turn.Refused refusal.Store keys) before now counts = counts.0
turn_grows (turn.Refused other keys) before now counts = same_grows before now counts
turn_grows other before now counts = same_grows before now counts

below_before : (before now : ℕ) → before ≤ now → now < 2 ^ 64 - 1 → before < 2 ^ 64 - 1
below_before before now grows less = below (2 ^ 64 - 1) before now grows less
  where
    below : (most before now : ℕ) → before ≤ now → now < most → before < most
    below most before now grows less = omega (arith, grows, less)

-- two steps up
grows_on : (a b c : ℕ) → a ≤ b → b ≤ c → a ≤ c
grows_on a b c up on = omega (arith, up, on)

-- what ends where it began stayed there
stays_between : (start between now : ℕ) → start ≤ between → between ≤ now → now ≡ start → between ≡ start
stays_between start between now up on same = omega (arith, up, on, same)

-- no failure of the shelf is told where no fault was counted
uncounted : (r : Reply) (before now : ℕ) → Counts before now r → now ≡ before → now < 2 ^ 64 - 1 → is_counted r ≡ false
uncounted (reply.Refused refusal.Store) before now counts same less = absurd (no_rise before now same less counts.1)
uncounted (reply.Refused other) before now counts same less = refl
uncounted other before now counts same less = refl

-- ---- lists that grow at their end

-- a list is none, or one with a last item
data Ending {A : Type 0} (xs : List A) : Type 0 where
  none : xs ≡ [] → Ending xs
  last : (front : List A) (x : A) → xs ≡ front ++ x ∷ [] → Ending xs

ending : {A : Type 0} (xs : List A) → Ending xs
ending [] = none refl
ending {A} (x ∷ xs) = by (ending xs)
  where
    by : Ending xs → Ending (x ∷ xs)
    by (none is) = last [] x (ap (λ (ys : List A). x ∷ ys) is)
    by (last front y is) = last (x ∷ front) y (ap (λ (ys : List A). x ∷ ys) is)

no_list : {A : Type 0} (xs ys : List A) (x : A) → [] ≡ xs ++ x ∷ ys → ⊥
no_list [] ys x e = cc
no_list (y ∷ xs) ys x e = cc

-- what holds of a list holds of its front, and of its last item
all_front : {A : Type 0} (P : A → Type 0) (xs : List A) (x : A) → AllByRecursion P (xs ++ x ∷ []) → AllByRecursion P xs × P x
all_front P [] x all = (tt, all.0)
all_front P (y ∷ xs) x all = let rest = all_front P xs x all.1 in ((all.0, rest.0), rest.1)

module _ {S : Type 0} (contents : S → Option Contents) (may_give : S → Slot → Option (List ℕ) → Type 0) (texts faults : S → ℕ) where
  -- ---- what was done last

  -- where it would have made another state, as the shelf failed, the count rose
  refused_rose : (old : DepotView S) (done : Done) (new : DepotView S) (next : LibState) → IsAsked done → IsDoneSo contents may_give texts faults old done new
      → WouldMake contents may_give texts faults old done next → Rose (faults old.store.shelf) (faults new.store.shelf)
  refused_rose old (answered call moment said) new next asked did would =
      let counts : Counts (faults old.store.shelf) (faults new.store.shelf) (reply.Refused refusal.Store)
      = subst (λ (r : Reply). Counts (faults old.store.shelf) (faults new.store.shelf) r) would.failed did.serves.count in
      counts.1
  refused_rose old (turned goal moment at_most taken) new next asked did would =
      let counts : CountsTurn (faults old.store.shelf) (faults new.store.shelf) (turn.Refused refusal.Store [])
      = subst (λ (t : Turn). CountsTurn (faults old.store.shelf) (faults new.store.shelf) t) would.0 did.takes.count in
      counts.1
  refused_rose old (given_token user secret right result) new next asked did would = absurd asked

  -- the count before it is no greater
  done_grows : (old : DepotView S) (done : Done) (new : DepotView S) (m : Change (DepotView S)) → IsMadeAs m.made m.moment done → IsDoneSo contents may_give texts faults old done new
      → faults old.store.shelf ≤ faults new.store.shelf
  done_grows old (answered call moment said) new m is did = call_grows said (faults old.store.shelf) (faults new.store.shelf) did.serves.count
  done_grows old (turned goal moment at_most taken) new m is did = turn_grows taken (faults old.store.shelf) (faults new.store.shelf) did.takes.count
  done_grows old (given_token user secret right result) new m is did = absurd (no_token m.made m.moment is)
    where
      no_token : (c : Made) (at : ℕ) → IsMadeAs c at (given_token user secret right result) → ⊥
      no_token (made.Asked call said) at is = is
      no_token (made.Turned goal most taken) at is = is

  -- what changed nothing is no begin, and no begin that the shelf refused
  same_keeps : (old : DepotView S) (done : Done) (new : DepotView S) (commit : List ℕ) → IsAsked done → IsDoneSo contents may_give texts faults old done new → IsSame contents faults old new
      → faults new.store.shelf < 2 ^ 64 - 1 → KeepsCommit contents may_give texts faults old done commit
  same_keeps old (answered call moment said) new commit asked did same less = tt
  same_keeps old (turned goal moment at_most (turn.Began number)) new commit asked did same less =
      let raised : old.state.collection + 1 ≡ old.state.collection = ap (λ (s : LibState). s.collection) (sym did.takes.left ∙ same.state) in
      absurd (omega (arith, raised))
  same_keeps old (turned goal moment at_most (turn.Marked count)) new commit asked did same less = tt
  same_keeps old (turned goal moment at_most (turn.Swept keys)) new commit asked did same less = tt
  same_keeps old (turned goal moment at_most (turn.Ended number)) new commit asked did same less = tt
  same_keeps old (turned goal moment at_most (turn.Over number)) new commit asked did same less = tt
  same_keeps old (turned goal moment at_most (turn.Refused why keys)) new commit asked did same less = λ stored idle.
      let counts : CountsTurn (faults old.store.shelf) (faults new.store.shelf) (turn.Refused refusal.Store keys)
      = subst (λ (w : Refusal). CountsTurn (faults old.store.shelf) (faults new.store.shelf) (turn.Refused w keys)) stored did.takes.count in
      absurd (no_rise (faults old.store.shelf) (faults new.store.shelf) same.count less counts.1)
  same_keeps old (given_token user secret right result) new commit asked did same less = absurd asked

  -- ---- all that was done

  -- what one change keeps
  abbrev Keeps : List ℕ → Change (DepotView S) → Type 0
  Keeps commit change = (done : Done) → IsMadeAs change.made change.moment done → KeepsCommit contents may_give texts faults change.before.value done commit

  -- a change more stands behind the one that was refused
  refused_more : (before changes : List (Change (DepotView S))) (change : Change (DepotView S)) (next : LibState) → changes ≡ before ++ change ∷ []
      → WasRefused contents may_give texts faults before next → WasRefused contents may_give texts faults changes next
  refused_more before changes change next is refused = record {
    before = refused.before;
    change = refused.change;
    later = refused.later ++ change ∷ [];
    cut = is ∙ ap (λ (cs : List (Change (DepotView S))). cs ++ change ∷ []) refused.cut ∙ append_assoc refused.before (refused.change ∷ refused.later) (change ∷ []);
    done = refused.done;
    made = refused.made;
    would = refused.would;
  }

  pub refused_at : (start : DepotView S) (dones : List Done) (now : DepotView S) (runs : Runs contents may_give texts faults start dones now) (changes : List (Change (DepotView S)))
      → AreChangesOf contents may_give texts faults start dones now runs changes → faults now.store.shelf < 2 ^ 64 - 1 → (next : LibState)
      → IsOpen contents may_give texts faults start dones now runs next → WasRefused contents may_give texts faults changes next
  refused_at start [] now runs changes are less next opens = absurd opens
  refused_at start (done ∷ earlier) now runs changes (inl (asked, same, rest)) less next (inl would) =
      absurd (no_rise (faults runs.0.store.shelf) (faults now.store.shelf) same.count less (refused_rose runs.0 done now next asked runs.2 would))
  refused_at start (done ∷ earlier) now runs changes (inl (asked, same, rest)) less next (inr still) =
      refused_at start earlier runs.0 runs.1 changes rest (subst (λ n. n < 2 ^ 64 - 1) same.count less) next still.2
  refused_at start (done ∷ earlier) now runs changes (inr (before, one, rest)) less next (inl would) = record {
    before = before;
    change = one.change;
    later = [];
    cut = one.is;
    done = done;
    made = one.made;
    would = subst (λ (d : DepotView S). WouldMake contents may_give texts faults d done next) (sym one.from) would;
  }
  refused_at start (done ∷ earlier) now runs changes (inr (before, one, rest)) less next (inr still) =
      refused_more before changes one.change next one.is
      (refused_at start earlier runs.0 runs.1 before rest (below_before (faults runs.0.store.shelf) (faults now.store.shelf) (done_grows runs.0 done now one.change one.made runs.2) less) next still.2)

  -- a change keeps what all of them keep
  change_keeps : (change : Change (DepotView S)) (old : DepotView S) (done : Done) (commit : List ℕ) → change.before.value ≡ old → IsMadeAs change.made change.moment done
      → ((d : Done) → IsMadeAs change.made change.moment d → KeepsCommit contents may_give texts faults change.before.value d commit) → KeepsCommit contents may_give texts faults old done commit
  change_keeps change old done commit from is each = subst (λ (d : DepotView S). KeepsCommit contents may_give texts faults d done commit) from (each done is)

  pub retains_all : (start : DepotView S) (dones : List Done) (now : DepotView S) (runs : Runs contents may_give texts faults start dones now) (changes : List (Change (DepotView S))) (commit : List ℕ)
      → AreChangesOf contents may_give texts faults start dones now runs changes → faults now.store.shelf < 2 ^ 64 - 1 → AllKeep contents may_give texts faults changes commit
      → Retains contents may_give texts faults start dones now runs commit
  retains_all start [] now runs changes commit are less keep = tt
  retains_all start (done ∷ earlier) now runs changes commit (inl (asked, same, rest)) less keep =
      (retains_all start earlier runs.0 runs.1 changes commit rest (subst (λ n. n < 2 ^ 64 - 1) same.count less) keep, same_keeps runs.0 done now commit asked runs.2 same less)
  retains_all start (done ∷ earlier) now runs changes commit (inr (before, one, rest)) less keep =
      let each = all_front (Keeps commit) before one.change (subst (λ (cs : List (Change (DepotView S))). AllKeep contents may_give texts faults cs commit) one.is keep) in (
        retains_all start earlier runs.0 runs.1 before commit rest (below_before (faults runs.0.store.shelf) (faults now.store.shelf) (done_grows runs.0 done now one.change one.made runs.2) less) each.0,
        change_keeps one.change runs.0 done commit one.from one.made each.1,
      )

  -- ---- from a change on

  -- kept in the library, and in each state to which its open text is open
  abbrev IsKeptIn : (start : DepotView S) (dones : List Done) (now : DepotView S) → Runs contents may_give texts faults start dones now → List ℕ → Type 0
  IsKeptIn start dones now runs commit = (is_kept now.state.kept commit ≡ true)
      × (now.unsettled ≡ true → (next : LibState) → IsOpen contents may_give texts faults start dones now runs next → is_kept next.kept commit ≡ true)

  pub kept_behind : (start : DepotView S) (dones : List Done) (now : DepotView S) (runs : Runs contents may_give texts faults start dones now) (changes : List (Change (DepotView S)))
      → AreChangesOf contents may_give texts faults start dones now runs changes → faults now.store.shelf < 2 ^ 64 - 1
      → (front : List (Change (DepotView S))) (change : Change (DepotView S)) (later : List (Change (DepotView S))) (commit : List ℕ) → changes ≡ front ++ change ∷ later
      → change.after.value.unsettled ≡ false → is_kept change.after.value.state.kept commit ≡ true → AllKeep contents may_give texts faults later commit → IsKeptIn start dones now runs commit
  kept_behind start [] now runs changes are less front change later commit cut settled kept keep = absurd (no_list front later change (sym are ∙ cut))
  kept_behind start (done ∷ earlier) now runs changes (inl (asked, same, rest)) less front change later commit cut settled kept keep = by
      (kept_behind start earlier runs.0 runs.1 changes rest (subst (λ n. n < 2 ^ 64 - 1) same.count less) front change later commit cut settled kept keep)
    where
      by : IsKeptIn start earlier runs.0 runs.1 commit → IsKeptIn start (done ∷ earlier) now runs commit
      by before = (ap (λ (st : LibState). is_kept st.kept commit) same.state ∙ before.0, λ still next opens. each next opens)
        where
          each : (next : LibState) → IsOpen contents may_give texts faults start (done ∷ earlier) now runs next → is_kept next.kept commit ≡ true
          each next (inl would) = absurd (no_rise (faults runs.0.store.shelf) (faults now.store.shelf) same.count less (refused_rose runs.0 done now next asked runs.2 would))
          each next (inr still) = before.1 still.0 next still.2
  kept_behind start (done ∷ earlier) now runs changes (inr (before, one, rest)) less front change later commit cut settled kept keep = by
      (kept_behind start earlier runs.0 runs.1 before rest (below_before (faults runs.0.store.shelf) (faults now.store.shelf) (done_grows runs.0 done now one.change one.made runs.2) less) front change)
      (ending later)
    where
      goes : IsKeptIn start earlier runs.0 runs.1 commit → KeepsCommit contents may_give texts faults runs.0 done commit
          → (next : LibState) → IsOpen contents may_give texts faults start (done ∷ earlier) now runs next → is_kept next.kept commit ≡ true
      goes was keeps next (inl would) = would_keeps contents may_give texts faults runs.0 done next commit would was.0 keeps
      goes was keeps next (inr still) = was.1 still.0 next still.2

      by : ((some : List (Change (DepotView S))) (id : List ℕ) → before ≡ front ++ change ∷ some → change.after.value.unsettled ≡ false → is_kept change.after.value.state.kept id ≡ true
          → AllKeep contents may_give texts faults some id → IsKeptIn start earlier runs.0 runs.1 id) → Ending later → IsKeptIn start (done ∷ earlier) now runs commit
      by again (none is) =
          let same : one.change ≡ change
          = (same_from_push before front one.change change (sym one.is ∙ cut ∙ ap (λ (cs : List (Change (DepotView S))). front ++ change ∷ cs) is)).1 in
          let after : change.after.value ≡ now = ap (λ (c : Change (DepotView S)). c.after.value) (sym same) ∙ one.to in (
            subst (λ (d : DepotView S). is_kept d.state.kept commit ≡ true) after kept,
            λ still next opens. absurd (true≢false (sym still ∙ ap (λ (d : DepotView S). d.unsettled) (sym after) ∙ settled)),
          )
      by again (last some final is) =
          let long : changes ≡ (front ++ change ∷ some) ++ final ∷ []
          = cut ∙ ap (λ (cs : List (Change (DepotView S))). front ++ change ∷ cs) is ∙ sym (append_assoc front (change ∷ some) (final ∷ [])) in
          let parts = same_from_push before (front ++ change ∷ some) one.change final (sym one.is ∙ long) in
          let each = all_front (Keeps commit) some final (subst (λ (cs : List (Change (DepotView S))). AllKeep contents may_give texts faults cs commit) is keep) in
          let keeps : KeepsCommit contents may_give texts faults runs.0 done commit
          = change_keeps one.change runs.0 done commit one.from one.made
          (subst (λ (c : Change (DepotView S)). (d : Done) → IsMadeAs c.made c.moment d → KeepsCommit contents may_give texts faults c.before.value d commit) (sym parts.1) each.1) in
          let was = again some commit parts.0 settled kept each.0 in
          (done_keeps contents may_give texts faults runs.0 done now commit runs.2 was.0 keeps, λ still next opens. goes was keeps next opens)

  -- ---- while no fault is counted

  -- what made a change is no token
  made_asked : (c : Made) (at : ℕ) (done : Done) → IsMadeAs c at done → IsAsked done
  made_asked c at (answered call moment said) is = tt
  made_asked c at (turned goal moment at_most taken) is = tt
  made_asked (made.Asked call said) at (given_token user secret right result) is = is
  made_asked (made.Turned goal most taken) at (given_token user secret right result) is = is

  -- what is done brings no object that the store doesn't hold
  adds_none : (old : DepotView S) (done : Done) (new : DepotView S) → IsAsked done → IsDoneSo contents may_give texts faults old done new
      → faults new.store.shelf ≡ faults old.store.shelf → faults new.store.shelf < 2 ^ 64 - 1 → AddsNoStray contents old.store new.store
  adds_none old (answered call moment said) new asked did same less =
      did.serves.lying (uncounted said (faults old.store.shelf) (faults new.store.shelf) did.serves.count same less)
  adds_none old (turned goal moment at_most (turn.Refused refusal.Store keys)) new asked did same less =
      let counts : CountsTurn (faults old.store.shelf) (faults new.store.shelf) (turn.Refused refusal.Store keys) = did.takes.count in
      absurd (no_rise (faults old.store.shelf) (faults new.store.shelf) same less counts.1)
  adds_none old (turned goal moment at_most (turn.Refused other keys)) new asked did same less = did.takes.lying
  adds_none old (turned goal moment at_most other) new asked did same less = did.takes.lying
  adds_none old (given_token user secret right result) new asked did same less = absurd asked

  -- the count as a history began is no greater
  run_grows : (start : DepotView S) (dones : List Done) (now : DepotView S) (runs : Runs contents may_give texts faults start dones now) (changes : List (Change (DepotView S)))
      → AreChangesOf contents may_give texts faults start dones now runs changes → faults start.store.shelf ≤ faults now.store.shelf
  run_grows start [] now runs changes are = same_grows (faults start.store.shelf) (faults now.store.shelf) (ap (λ (d : DepotView S). faults d.store.shelf) runs)
  run_grows start (done ∷ earlier) now runs changes (inl (asked, same, rest)) =
      grows_on (faults start.store.shelf) (faults runs.0.store.shelf) (faults now.store.shelf) (run_grows start earlier runs.0 runs.1 changes rest)
      (same_grows (faults runs.0.store.shelf) (faults now.store.shelf) same.count)
  run_grows start (done ∷ earlier) now runs changes (inr (before, one, rest)) =
      grows_on (faults start.store.shelf) (faults runs.0.store.shelf) (faults now.store.shelf) (run_grows start earlier runs.0 runs.1 before rest)
      (done_grows runs.0 done now one.change one.made runs.2)

  pub none_strays : (start : DepotView S) (dones : List Done) (now : DepotView S) (runs : Runs contents may_give texts faults start dones now) (changes : List (Change (DepotView S)))
      → AreChangesOf contents may_give texts faults start dones now runs changes → HasNoStray contents start.store → faults now.store.shelf < 2 ^ 64 - 1
      → faults now.store.shelf ≡ faults start.store.shelf → HasNoStray contents now.store
  none_strays start [] now runs changes are clean less stays = subst (λ (d : DepotView S). HasNoStray contents d.store) (sym runs) clean
  none_strays start (done ∷ earlier) now runs changes (inl (asked, same, rest)) clean less stays =
      let was : HasNoStray contents runs.0.store
      = none_strays start earlier runs.0 runs.1 changes rest clean (subst (λ n. n < 2 ^ 64 - 1) same.count less) (sym same.count ∙ stays) in
      λ key stray. was key (adds_none runs.0 done now asked runs.2 same.count less key stray)
  none_strays start (done ∷ earlier) now runs changes (inr (before, one, rest)) clean less stays =
      let grew : faults runs.0.store.shelf ≤ faults now.store.shelf = done_grows runs.0 done now one.change one.made runs.2 in
      let stood : faults runs.0.store.shelf ≡ faults start.store.shelf
      = stays_between (faults start.store.shelf) (faults runs.0.store.shelf) (faults now.store.shelf) (run_grows start earlier runs.0 runs.1 before rest) grew stays in
      let was : HasNoStray contents runs.0.store
      = none_strays start earlier runs.0 runs.1 before rest clean (below_before (faults runs.0.store.shelf) (faults now.store.shelf) grew less) stood in
      λ key stray. was key (adds_none runs.0 done now (made_asked one.change.made one.change.moment done one.made) runs.2 (stays ∙ sym stood) less key stray)
