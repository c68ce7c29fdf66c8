-- A collection over storage that never fails, and objects under their own names. The key lemmas are turn_names, turns_whole and
-- collects_on.
use Rattle.std.proofs.Common.{◌≡◌, ℕ, Bool, true, false, cond, List, [], ◌∷◌, refl, sym, ap, ◌∙◌, subst, true≢false, Option, None, Some, option_map}
use Rattle.std.specs.Prelude.{IsFalse}
use Rattle.std.specs.FinMap as map
use Rattle.std.specs.List.{AllByRecursion}
use Rattle.std.specs.Str.{bytes_eq}
use Rattle.std.proofs.lemmas.Slice.Eq.{bytes_eq-Decides}
use Rattle.collection_turns.specs.Turns.{CollectsBy}
use Rattle.ids.proofs.BasicLemmas.{AllByRecursion-middle}
use Rattle.ids.specs.Key.{Objects}
use Rattle.ids.specs.declared.key.Key.{Key}
use Rattle.ids.proofs.KeyOrderLemmas.{key_cmp_total}
use Rattle.depot.specs.CollectionTurns.{TakesTurn, TurnSo, permits_collection}
use Rattle.depot.specs.DepotView.{DepotView, running_library}
use Rattle.depot.specs.ObjectCalls.{Counts}
use Rattle.depot.specs.declared.turn.Turn.{Turn}
use Rattle.depot.specs.declared.turn.Turn.TheVariants.{Began, Marked, Swept, Ended, Over, Refused}
use Rattle.library_rules.specs.Calls.{token_of}
use Rattle.library_rules.specs.Changes.{apply, with_added, without}
use Rattle.library_rules.specs.History.{Permits, StepPermits}
use Rattle.library_rules.specs.LibraryState.{State}
use Rattle.library_rules.specs.declared.entry.Entry.{Entry}
use Rattle.library_rules.specs.declared.entry.Step.TheVariants as step
use Rattle.library_rules.proofs.StepLawLemmas.{by_refused, by_turn}
use Rattle.library_rules.proofs.StepLemmas.{objects_after}
use Rattle.library_state.specs.declared.refusal.Refusal.{Refusal}
use Rattle.library_state.specs.declared.refusal.Refusal.TheVariants as refusal
use Rattle.library_state.specs.declared.reply.Reply.TheVariants as reply
use Rattle.object_graph.proofs.KeyLemmas.{same_key}
use Rattle.object_store.specs.Shelf.{Contents}
use Rattle.object_store.specs.Store.{HasNames, has_other_name}
use Rattle.object_store.specs.declared.shelf.Slot.{Slot}
use Rattle.worker_server.specs.declared.host.Collected.{Collected}
use Rattle.worker_server.specs.declared.host.Collected.TheVariants as collected
use Rattle.library_server.specs.Answering.{NamesIn, NeverFails, is_of_storage}
use Rattle.library_server.specs.Collecting.{CollectsOn, EndsAs, TellsTurns, TurnsOn, ended, endless, is_storage_end, library_of, most_in_turn, number_running, told_removed}
use Rattle.library_server.specs.Counting.{IsCounted, OpenedView}
use Rattle.library_server.proofs.WholeLemmas.{names_of, refusal_whole}

-- ---- what a step of a collection leaves

names_removed : (objects : Objects) (key : Key) → HasNames objects → HasNames (map.remove objects key)
names_removed objects key names q bytes is = by (same_key q key) (sym (map.get-remove key_cmp_total objects key q) ∙ is)
  where
    by : (b : Bool) → cond b None (map.get objects q) ≡ Some bytes → IsFalse (has_other_name q bytes)
    by true e = cc e
    by false e = names q bytes e

names_without : (objects : Objects) (keys : List Key) → HasNames objects → HasNames (without objects keys)
names_without objects [] names = names
names_without objects (key ∷ keys) names = names_without (map.remove objects key) keys (names_removed objects key names)

-- where an entry added nothing
names_left : (s : State) (e : Entry) → e.added ≡ [] → HasNames s.objects → HasNames (apply s e).objects
names_left s e none names =
    subst HasNames (sym (objects_after s e ∙ ap (λ added. without (with_added s.objects added) e.removed) none)) (names_without s.objects e.removed names)

names_began : (s : State) → HasNames s.objects → (e : Entry) → Permits s e → e.step ≡ step.Began → HasNames (apply s e).objects
names_began s names e permits at = let begins : StepPermits s e step.Began = subst (StepPermits s e) at permits in names_left s e begins.adds names

names_swept : (s : State) → HasNames s.objects → (e : Entry) → Permits s e → e.step ≡ step.Swept → HasNames (apply s e).objects
names_swept s names e permits at = let sweeps : StepPermits s e step.Swept = subst (StepPermits s e) at permits in names_left s e sweeps.1 names

names_ended : (s : State) → HasNames s.objects → (e : Entry) → Permits s e → e.step ≡ step.Ended → HasNames (apply s e).objects
names_ended s names e permits at = let ends : StepPermits s e step.Ended = subst (StepPermits s e) at permits in names_left s e ends.adds names

abbrev Named : State → Type 0
Named s = HasNames s.objects

pub turn_names : (s : State) (goal : Option ℕ) (moment at_most : ℕ) (turn : Turn) (t : State) (es : List Entry) → TurnSo s goal moment at_most turn t es → HasNames s.objects → HasNames t.objects
turn_names s goal moment at_most (Began number) t es (idle, next, takes) names = by_turn s step.Began moment reply.Checked [] t es Named takes (names_began s names)
turn_names s goal moment at_most (Marked count) t es (some, few, takes) names = by_turn s step.Swept moment reply.Checked [] t es Named takes (names_swept s names)
turn_names s goal moment at_most (Swept keys) t es (some, few, takes) names = by_turn s step.Swept moment reply.Checked keys t es Named takes (names_swept s names)
turn_names s goal moment at_most (Ended number) t es (is, clean, takes) names = by_turn s step.Ended moment reply.Checked [] t es Named takes (names_ended s names)
turn_names s goal moment at_most (Over number) t es (missed, same, none) names = subst Named (sym same) names
turn_names s goal moment at_most (Refused why keys) t es (few, takes) names = by_refused s moment why keys t es Named takes (names_swept s names)

-- ---- turns

abbrev pub is_storage_turn : Turn → Bool
is_storage_turn (Refused why keys) = is_of_storage why
is_storage_turn other = false

module _ {S : Type 0} (contents : S → Option Contents) (may_give : S → Slot → Option (List ℕ) → Type 0) (texts faults : S → ℕ) (shows : ℕ → Type 0) (steady : NeverFails faults) where
  pub turn_whole : (u : DepotView S) (goal : Option ℕ) (moment at_most : ℕ) (turn : Turn) (v : DepotView S) → TakesTurn contents may_give texts faults u goal moment at_most turn v → NamesIn contents u
      → (is_storage_turn turn ≡ false) × NamesIn contents v
  turn_whole u goal moment at_most turn v takes names =
      let s : State = running_library u.state u.running (faults u.store.shelf) names.0 in
      let tells = takes.told s (ap (option_map (running_library u.state u.running (faults u.store.shelf))) names.1) in
      (by turn takes, names_of contents faults v tells.state tells.left (turn_names s goal moment at_most turn tells.state tells.entries tells.turns names.2))
    where
      by : (t : Turn) → TakesTurn contents may_give texts faults u goal moment at_most t v → is_storage_turn t ≡ false
      by (Refused why keys) taken =
          refusal_whole names.0 why names.2
          (subst (λ n. Counts 0 n (reply.Refused why)) (steady v.store.shelf) (subst (λ n. Counts n (faults v.store.shelf) (reply.Refused why)) (steady u.store.shelf) taken.count)) (taken.damage names.0 names.1)
      by other taken = refl

  turns_whole : (u : OpenedView S) (goal : Option ℕ) (turns : List Turn) (v : OpenedView S) → TurnsOn contents may_give texts faults shows u goal turns v → NamesIn contents u.depot
      → AllByRecursion (λ turn. is_storage_turn turn ≡ false) turns × NamesIn contents v.depot
  turns_whole u goal [] v same names = (tt, subst (λ (w : OpenedView S). NamesIn contents w.depot) (sym same) names)
  turns_whole u goal (turn ∷ turns) v (moment, mid, shown, takes, good, counts, more) names =
      let first = turn_whole u.depot goal moment most_in_turn turn mid.depot takes names in
      let rest = turns_whole mid (number_running mid.depot) turns v more first.1 in
      ((first.0, rest.0), rest.1)

  end_whole : (turns : List Turn) (ends : Collected) → TellsTurns turns ends → AllByRecursion (λ turn. is_storage_turn turn ≡ false) turns → is_storage_end ends ≡ false
  end_whole turns ends (endless goes long is) all = ap is_storage_end is
  end_whole turns ends (ended before last is goes tells) all =
      by last (AllByRecursion-middle (λ turn. is_storage_turn turn ≡ false) before last [] (subst (AllByRecursion (λ turn. is_storage_turn turn ≡ false)) is all)) tells
    where
      by : (turn : Turn) → is_storage_turn turn ≡ false → EndsAs turn (told_removed turns) ends → is_storage_end ends ≡ false
      by (Began number) whole told = absurd told
      by (Marked count) whole told = absurd told
      by (Swept keys) whole told = absurd told
      by (Ended number) whole told = ap is_storage_end told
      by (Over number) whole told = absurd told
      by (Refused why keys) whole told = ap is_storage_end told ∙ whole

-- ---- all of a collection that is asked for

module _ {S : Type 0} (contents : S → Option Contents) (may_give : S → Slot → Option (List ℕ) → Type 0) (texts faults : S → ℕ) (shows : ℕ → Type 0)
    (old : OpenedView S) (lib : List ℕ) (secret : Option (List ℕ)) (ends : Collected) (new : OpenedView S)
    (collects : CollectsBy library_of (IsCounted contents faults) contents may_give texts faults shows old lib secret ends new) where
  -- one that is refused before its first turn
  refused_whole : (why : Refusal) → is_of_storage why ≡ false → (ends ≡ collected.Refused why) × (new ≡ old) → NamesIn contents old.depot
      → (is_storage_end ends ≡ false) × NamesIn contents new.depot
  refused_whole why whole (is, same) names = (ap is_storage_end is ∙ whole, subst (λ (w : OpenedView S). NamesIn contents w.depot) (sym same) names)

  collects_whole : NeverFails faults → NamesIn contents old.depot → (is_storage_end ends ≡ false) × NamesIn contents new.depot
  collects_whole steady names = by (bytes_eq lib old.depot.state.lib) (permits_collection (token_of old.depot.state.tokens secret)) refl refl
    where
      by : (here may : Bool) → bytes_eq lib old.depot.state.lib ≡ here → permits_collection (token_of old.depot.state.tokens secret) ≡ may
          → (is_storage_end ends ≡ false) × NamesIn contents new.depot
      by true true same is =
          let takes = collects.here ((bytes_eq-Decides lib old.depot.state.lib).0 same) is in
          let all = turns_whole contents may_give texts faults shows steady old None takes.0 new takes.1 names in
          (end_whole contents may_give texts faults shows steady takes.0 ends takes.2 all.0, all.1)
      by true false same is = refused_whole refusal.Denied refl (collects.denied ((bytes_eq-Decides lib old.depot.state.lib).0 same) is) names
      by false may other is =
          refused_whole refusal.NoLibrary refl (collects.elsewhere (λ same. true≢false (sym ((bytes_eq-Decides lib old.depot.state.lib).1 same) ∙ other))) names

  pub collects_on : CollectsOn contents may_give texts faults shows old lib secret ends [] new
  collects_on = record { here = collects.here; denied = collects.denied; elsewhere = collects.elsewhere; steady = collects_whole; no_lines = refl }
