-- Changes of a library that are counted. The key lemmas are counted, kept_back, same_then and later_ran.
use Rattle.std.proofs.Common.{◌≡◌, ℕ, ◌+◌, ◌≤◌, ◌<◌, Bool, true, false, true≢false, List, [], ◌∷◌, min, refl, sym, ap, ap₂, ◌∙◌, subst, arith, Option, None}
use Rattle.std.specs.Prelude.{⊤}
use Rattle.std.specs.Str.{bytes_eq}
use Rattle.std.proofs.lemmas.Bool.{and_parts, eqb-true, ltb-true}
use Rattle.std.proofs.lemmas.Slice.Eq.{bytes_eq-Decides}
use Rattle.depot.specs.CollectionTurns.{permits_collection}
use Rattle.depot.specs.DepotView.{DepotView}
use Rattle.depot.specs.Story.{IsOther, IsSame, same_itself}
use Rattle.depot.specs.declared.turn.Turn.{Turn}
use Rattle.library_rules.specs.Calls.{token_of}
use Rattle.library_state.specs.declared.tag.Tag.{Tag}
use Rattle.object_store.specs.Shelf.{Contents}
use Rattle.object_store.specs.declared.shelf.Slot.{Slot}
use Rattle.worker_server.specs.Calls.{AnsweredSo, Ran, Told, call_asked, collection_asked, look_asked, rules_at}
use Rattle.library_server.specs.Answering.{AnswersOn, LooksOn, SparesOn}
use Rattle.library_server.specs.Collecting.{CollectsOn, TurnsOn, number_running}
use Rattle.library_server.specs.Counting.{IsCounted, OpenedView, changed, count_after, is_current, last_count, tag_at, unchanged}

module _ {S : Type 0} (contents : S → Option Contents) (faults : S → ℕ) where
  -- ---- one call or turn, which tells whether it changed the library

  pub counted : (old : OpenedView S) (after : DepotView S) (b : Bool) (count : ℕ) → (b ≡ false → IsSame contents faults old.depot after) → (b ≡ true → IsOther contents faults old.depot after)
      → count ≡ count_after old.changes b → IsCounted contents faults old (record { depot = after; changes = count })
  counted old after false count same other is = unchanged (same refl) is
  counted old after true count same other is = changed (other refl) is

  -- one that left it as it was isn't counted
  pub kept_back : (old : OpenedView S) (after : DepotView S) (b : Bool) (count : ℕ) → after ≡ old.depot → (b ≡ true → IsOther contents faults old.depot after)
      → count ≡ count_after old.changes b → ◌≡◌ {A = OpenedView S} (record { depot = after; changes = count }) old
  kept_back old after false count as_it_was other is = by as_it_was is
    where
      opened_by : DepotView S → ℕ → OpenedView S
      opened_by d n = record { depot = d; changes = n }

      by : after ≡ old.depot → count ≡ old.changes → ◌≡◌ {A = OpenedView S} (record { depot = after; changes = count }) old
      by one two = ap₂ opened_by one two
  kept_back old after true count as_it_was other is =
      absurd ((other refl).any (subst (λ (d : DepotView S). IsSame contents faults old.depot d) (sym as_it_was) (same_itself contents faults old.depot)))

  -- what is as it was is counted as that
  pub none_counted : (old : OpenedView S) → IsCounted contents faults old old
  none_counted old = unchanged (same_itself contents faults old.depot) refl

  -- ---- one after another

  pub same_then : (x y z : DepotView S) → IsSame contents faults x y → IsSame contents faults y z → IsSame contents faults x z
  same_then x y z first second = record {
    state = second.state ∙ first.state;
    running = second.running ∙ first.running;
    count = second.count ∙ first.count;
    keys = λ key. second.keys key ∙ first.keys key;
    objects = λ held told. second.objects held (first.objects held told);
  }

  -- the count didn't fall, stays within its bound, and is another wherever the library is, below the bound
  pub record IsLater (old new : OpenedView S) : Type 0 where
    pub grows : old.changes ≤ new.changes
    pub bound : new.changes ≤ last_count
    pub same : old.changes < last_count → new.changes ≡ old.changes → IsSame contents faults old.depot new.depot

  later_none : (u v : OpenedView S) → u.changes ≤ last_count → v ≡ u → IsLater u v
  later_none u v bound is =
      subst (IsLater u) (sym is) (record { grows = omega arith; bound = bound; same = λ below equal. same_itself contents faults u.depot })

  later_counted : (u v : OpenedView S) → u.changes ≤ last_count → IsCounted contents faults u v → IsLater u v
  later_counted u v bound (unchanged same is) = record { grows = omega (arith, is); bound = omega (arith, is, bound); same = λ below equal. same }
  later_counted u v bound (changed other is) = record {
    grows = omega (arith, is, bound);
    bound = omega (arith, is);
    same = λ below equal. absurd (more below equal);
  }
    where
      more : u.changes < last_count → v.changes ≡ u.changes → ⊥
      more below equal = omega (arith, is, below, equal)

  later_then : (u m v : OpenedView S) → IsLater u m → IsLater m v → IsLater u v
  later_then u m v first second = record {
    grows = let a = first.grows in let b = second.grows in omega (arith, a, b);
    bound = second.bound;
    same = λ below equal.
        let a = first.grows in
        let b = second.grows in
        let still : m.changes ≡ u.changes = omega (arith, a, b, equal) in
        same_then u.depot m.depot v.depot (first.same below still) (second.same (omega (arith, still, below)) (omega (arith, still, equal)));
  }

module _ {S : Type 0} (contents : S → Option Contents) (may_give : S → Slot → Option (List ℕ) → Type 0) (texts faults : S → ℕ) (shows : ℕ → Type 0) where
  later_turns : (u : OpenedView S) (goal : Option ℕ) (turns : List Turn) (v : OpenedView S) → u.changes ≤ last_count → TurnsOn contents may_give texts faults shows u goal turns v
      → IsLater contents faults u v
  later_turns u goal [] v bound same = later_none contents faults u v bound same
  later_turns u goal (turn ∷ turns) v bound (moment, mid, shown, takes, good, counts, more) =
      let first = later_counted contents faults u mid bound counts in
      later_then contents faults u mid v first (later_turns mid (number_running mid.depot) turns v first.bound more)

  -- a call on the library, or on another, which isn't there; a collection, or a look
  later_told : (u : OpenedView S) (t : Told ⊤) (v : OpenedView S) → u.changes ≤ last_count
      → AnsweredSo (rules_at shows (AnswersOn contents may_give texts faults) SparesOn (CollectsOn contents may_give texts faults) LooksOn) u t v → IsLater contents faults u v
  later_told u (call_asked lib call answer operations) v bound (moment, shown, answers) = later_counted contents faults u v bound answers.counts
  later_told u (collection_asked lib secret ends operations) v bound collects = by (bytes_eq lib u.depot.state.lib) (permits_collection (token_of u.depot.state.tokens secret)) refl refl
    where
      by : (here may : Bool) → bytes_eq lib u.depot.state.lib ≡ here → permits_collection (token_of u.depot.state.tokens secret) ≡ may → IsLater contents faults u v
      by true true same is = let takes = collects.here ((bytes_eq-Decides lib u.depot.state.lib).0 same) is in later_turns u None takes.0 v bound takes.1
      by true false same is = later_none contents faults u v bound (collects.denied ((bytes_eq-Decides lib u.depot.state.lib).0 same) is).1
      by false may other is =
          later_none contents faults u v bound (collects.elsewhere (λ same. true≢false (sym ((bytes_eq-Decides lib u.depot.state.lib).1 same) ∙ other))).1
  later_told u (look_asked lib secret tag same operations) v bound looked = later_none contents faults u v bound looked.2

  pub later_ran : (u : OpenedView S) (ts : List (Told ⊤)) (v : OpenedView S) → u.changes ≤ last_count
      → Ran (rules_at shows (AnswersOn contents may_give texts faults) SparesOn (CollectsOn contents may_give texts faults) LooksOn) u ts v → IsLater contents faults u v
  later_ran u [] v bound same = later_none contents faults u v bound same
  later_ran u (t ∷ ts) v bound (mid, told, more) =
      let first = later_told u t mid bound told in
      later_then contents faults u mid v first (later_ran mid ts v first.bound more)

  -- so a tag tells one state
  pub tag_same : (u : OpenedView S) (ts : List (Told ⊤)) (v : OpenedView S) → u.changes < last_count
      → Ran (rules_at shows (AnswersOn contents may_give texts faults) SparesOn (CollectsOn contents may_give texts faults) LooksOn) u ts v
      → tag_at v ≡ tag_at u → IsSame contents faults u.depot v.depot
  tag_same u ts v below ran same = (later_ran u ts v (omega (arith, below)) ran).same below (ap (λ (t : Tag). t.count) same)

  pub look_same : (u : OpenedView S) (ts : List (Told ⊤)) (v : OpenedView S) (lib : List ℕ) (secret : Option (List ℕ)) → u.changes ≤ last_count
      → Ran (rules_at shows (AnswersOn contents may_give texts faults) SparesOn (CollectsOn contents may_give texts faults) LooksOn) u ts v
      → is_current v lib secret (tag_at u) ≡ true → IsSame contents faults u.depot v.depot
  look_same u ts v lib secret bound ran current =
      let named = (and_parts _ _ current).1 in
      let opened = (and_parts _ _ named).1 in
      let counted_so = and_parts _ _ opened in
      let below = (and_parts _ _ counted_so.1).0 in
      (later_ran u ts v bound ran).same (ltb-true _ _ below) (sym (eqb-true _ _ counted_so.0))
