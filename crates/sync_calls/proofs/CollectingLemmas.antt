-- Turns that a pass takes one after another at one library, and how they end. The key lemmas are none_taken, one_more, ends_there,
-- collects_lift and lines_taken.
use Rattle.std.proofs.Common.{◌≡◌, ℕ, zero, suc, ◌+◌, ◌≤◌, ◌<◌, true, List, [], ◌∷◌, ◌++◌, length, length-append, refl, sym, ◌∙◌, ap, subst, arith, Option, None, Some}
use Rattle.std.specs.Prelude.{slice_set}
use Rattle.std.specs.List.{slice_get}
use Rattle.std.proofs.lemmas.List.Sums.{sum_by-append}
use Rattle.std.proofs.lemmas.Option.{slice_get_within}
use mathlib.Core.List.{IsPrefix}
use Rattle.ids.specs.declared.key.Key.{Key}
use Rattle.library_state.specs.declared.refusal.Refusal.{Refusal}
use Rattle.library_state.specs.declared.refusal.Refusal.TheVariants as refusal
use Rattle.object_store.specs.Shelf.{Contents}
use Rattle.object_store.specs.declared.shelf.Slot.{Slot}
use Rattle.depot.specs.CollectionTurns.{removed_in}
use Rattle.depot.specs.declared.turn.Turn.{Turn}
use Rattle.depot.specs.declared.turn.Turn.TheVariants as turn
use Rattle.turnstile.proofs.ListsLemmas.{prefix_length, prefix_refl, prefix_trans}
use Rattle.turnstile.specs.Rule.{most_turns}
use Rattle.sync_calls.specs.Asking.{IsAt}
use Rattle.sync_calls.specs.Collecting.{CollectsOne, CollectsSo, EndsAfter, EndsAs, EndsSo, IsEndSeen, IsNextGoal, IsTaken, OneTurn, TurnsOn, TurnsOnce, first_place, goes_on, left_by, lines_of, next_goal, told}
use Rattle.sync_calls.specs.Collecting.CollectsOne.{denied as one_denied, went as one_went}
use Rattle.sync_calls.specs.Collecting.CollectsSo.{denied, went}
use Rattle.sync_calls.specs.Collecting.EndsSo.{ended, over, spent}
use Rattle.sync_calls.specs.Collecting.TurnsOnce.{took as once_took, spent as once_spent}
use Rattle.sync_calls.specs.CollectTurn.{RunsAt}
use Rattle.sync_calls.specs.Operations.{Line, Lines}
use Rattle.sync_calls.specs.Shown.{Knows, Shown}
use Rattle.sync_calls.specs.declared.collecting.Collected.{Collected}
use Rattle.sync_calls.specs.declared.collecting.Collected.TheVariants as collected
use Rattle.sync_calls.specs.declared.collecting.SoFar.{SoFar}
use Rattle.sync_calls.specs.declared.collecting.Step.TheVariants as step
use Rattle.sync_calls.proofs.OverLemmas.{did, ended_here, ended_since, over_goal, over_there}
use Rattle.sync_calls.proofs.RoomLemmas.{get_set, set_again}

-- ---- numbers

left_push : (turns : List OneTurn) (one : OneTurn) → left_by (turns ++ one ∷ []) ≡ left_by turns + length (removed_in one.turn)
left_push turns one =
    let both = sum_by-append (λ (t : OneTurn). length (removed_in t.turn)) turns (one ∷ []) in
    let last : left_by (one ∷ []) ≡ 0 + length (removed_in one.turn) = refl in
    omega (arith, both, last)

-- ---- several turns

module _ {S : Type 0} (contents : S → Option Contents) (may_give : S → Slot → Option (List ℕ) → Type 0) (texts faults : S → ℕ) (shows : ℕ → Type 0) where
  taken_aimed : (u : Shown S) (a b : Option ℕ) (one : OneTurn) (v : Shown S) → b ≡ a → IsTaken contents may_give texts faults shows u b one v → IsTaken contents may_give texts faults shows u a one v
  taken_aimed u a b one v same taken = subst (λ (g : Option ℕ). IsTaken contents may_give texts faults shows u g one v) same taken

  -- one turn more
  turns_push : (u : Shown S) (goal : Option ℕ) (turns : List OneTurn) (w : Shown S) (last : Option ℕ) (one : OneTurn) (v : Shown S) (next : Option ℕ)
      → TurnsOn contents may_give texts faults shows u goal turns w last → IsTaken contents may_give texts faults shows w last one v → goes_on one.turn ≡ true
      → IsNextGoal contents may_give texts faults shows last v next → TurnsOn contents may_give texts faults shows u goal (turns ++ one ∷ []) v next
  turns_push u goal [] w last one v next (same, is) taken goes follows = (
    v,
    next,
    subst (λ (x : Shown S). IsTaken contents may_give texts faults shows x goal one v) same (taken_aimed w goal last one v is taken),
    goes,
    subst (λ (g : Option ℕ). IsNextGoal contents may_give texts faults shows g v next) is follows,
    (refl, refl),
  )
  turns_push u goal (t ∷ turns) w last one v next (x, then, first, first_goes, first_next, rest) taken goes follows =
      (x, then, first, first_goes, first_next, turns_push x then turns w last one v next rest taken goes follows)

  -- what is seen grows
  pub turns_grow : (u : Shown S) (goal : Option ℕ) (turns : List OneTurn) (v : Shown S) (last : Option ℕ) → TurnsOn contents may_give texts faults shows u goal turns v last
      → (v.start ≡ u.start) × IsPrefix u.seen v.seen
  turns_grow u goal [] v last (same, is) = (ap (λ (w : Shown S). w.start) same, subst (λ (w : Shown S). IsPrefix u.seen w.seen) (sym same) (prefix_refl u.seen))
  turns_grow u goal (t ∷ turns) v last (w, next, taken, goes, follows, rest) =
      let one = did contents may_give texts faults shows u goal t w taken in
      let more = turns_grow w next turns v last rest in
      (more.0 ∙ one.start, prefix_trans u.seen w.seen v.seen one.grows more.1)

  -- a goal stays
  keeps_goal : (u : Shown S) (number : ℕ) (turns : List OneTurn) (v : Shown S) (last : Option ℕ) → TurnsOn contents may_give texts faults shows u (Some number) turns v last → last ≡ Some number
  keeps_goal u number [] v last (same, is) = is
  keeps_goal u number (t ∷ turns) v last (w, next, taken, goes, follows, rest) =
      keeps_goal w number turns v last (subst (λ (g : Option ℕ). TurnsOn contents may_give texts faults shows w g turns v last) follows rest)

  -- the first of the turns isn't behind one that follows them
  first_below : (u : Shown S) (goal : Option ℕ) (turns : List OneTurn) (w : Shown S) (last : Option ℕ) (one : OneTurn) → TurnsOn contents may_give texts faults shows u goal turns w last
      → length w.seen ≤ one.place → first_place (turns ++ one ∷ []) ≤ one.place
  first_below u goal [] w last one on new = omega arith
  first_below u goal (t ∷ turns) w last one (x, next, taken, goes, follows, rest) new =
      let low = (did contents may_give texts faults shows u goal t x taken).below in
      let longer = prefix_length x.seen w.seen (turns_grow x next turns w last rest).1 in
      omega arith

  -- where a collection is gone on with, it ran as one of the turns had ended
  pub record RanSince (from : ℕ) (u : Shown S) (number : ℕ) (v : Shown S) : Type 0 where
    pub mid : Shown S
    pub runs : RunsAt mid (Some number)
    pub start : mid.start ≡ v.start
    pub grows : IsPrefix mid.seen v.seen
    pub after : IsPrefix u.seen mid.seen
    pub behind : from ≤ length mid.seen

  ran_since : (u : Shown S) (turns : List OneTurn) (v : Shown S) (number : ℕ) → TurnsOn contents may_give texts faults shows u None turns v (Some number) → RanSince (first_place turns) u number v
  ran_since u [] v number (same, is) = absurd (cc)
  ran_since u (t ∷ turns) v number (w, next, taken, goes, runs, rest) = by (λ on. ran_since w turns v number on) next runs rest
    where
      by : (TurnsOn contents may_give texts faults shows w None turns v (Some number) → RanSince (first_place turns) w number v) → (g : Option ℕ) → RunsAt w g
          → TurnsOn contents may_give texts faults shows w g turns v (Some number) → RanSince t.place u number v
      by again None none on =
          let one = did contents may_give texts faults shows u None t w taken in
          let deeper = again on in
          let low = one.below in
          let longer = prefix_length w.seen deeper.mid.seen deeper.after in
          record { mid = deeper.mid; runs = deeper.runs; start = deeper.start; grows = deeper.grows; after = prefix_trans u.seen w.seen deeper.mid.seen one.grows deeper.after; behind = omega arith }
      by again (Some n) there on =
          let one = did contents may_give texts faults shows u None t w taken in
          let more = turns_grow w (Some n) turns v (Some number) on in
          let same : Some number ≡ Some n = keeps_goal w n turns v (Some number) on in
          record { mid = w; runs = subst (λ (g : Option ℕ). RunsAt w g) (sym same) there; start = sym more.0; grows = more.1; after = one.grows; behind = one.below }

  -- ---- the turns so far

  pub record IsCollecting (u : Shown S) (so_far : SoFar) (w : Shown S) : Type 0 where
    pub turns : List OneTurn
    pub on : TurnsOn contents may_give texts faults shows u None turns w so_far.goal
    pub left : so_far.removed ≡ told (left_by turns)
    pub count : so_far.turns ≡ told (length turns)

  pub none_taken : (u : Shown S) (so_far : SoFar) → so_far.goal ≡ None → so_far.removed ≡ 0 → so_far.turns ≡ 0 → IsCollecting u so_far u
  none_taken u so_far goal removed turns = record { turns = []; on = (refl, goal); left = removed; count = turns }

  next_is : (last running next : Option ℕ) (v : Shown S) → next ≡ next_goal last running → RunsAt v running → IsNextGoal contents may_give texts faults shows last v next
  next_is None running next v is runs = subst (λ (g : Option ℕ). RunsAt v g) (sym is) runs
  next_is (Some number) running next v is runs = is

  -- another follows
  pub one_more : (u w v : Shown S) (so_far more : SoFar) (drawn : ℕ) → IsCollecting u so_far w → TurnsOnce contents may_give texts faults shows w so_far (step.Goes more) v drawn → IsCollecting u more v
  one_more u w v so_far more drawn collecting (once_took one running taken runs less (goes, goal, removed, turns)) =
      let size = length-append collecting.turns (one ∷ []) in
      let left = left_push collecting.turns one in
      let before = collecting.left in
      let count = collecting.count in
      record {
        turns = collecting.turns ++ one ∷ [];
        on = turns_push u None collecting.turns w so_far.goal one v more.goal collecting.on taken goes (next_is so_far.goal running more.goal v goal runs);
        left = omega (arith, removed, before, left);
        count = omega (arith, turns, count, size);
      }
  one_more u w v so_far more drawn collecting (once_spent is same follows) = absurd (cc)

  -- ---- the end

  -- all that is told of it
  abbrev pub EndsWell : Shown S → Collected → Shown S → ℕ → Type 0
  EndsWell u ends v drawn = (turns : List OneTurn) × EndsSo contents may_give texts faults shows u ends turns v drawn × IsEndSeen turns ends v

  module _ (u w v : Shown S) (so_far : SoFar) (drawn : ℕ) (collecting : IsCollecting u so_far w) (knows : Knows contents may_give texts faults v) where
    spent_there : (ends : Collected) → drawn ≡ most_turns → v ≡ w → ends ≡ collected.Refused refusal.Spent → EndsWell u ends v drawn
    spent_there ends is same told_so = (
      collecting.turns,
      spent so_far.goal (subst (λ (x : Shown S). TurnsOn contents may_give texts faults shows u None collecting.turns x so_far.goal) (sym same) collecting.on) is told_so,
      subst (λ e. IsEndSeen collecting.turns e v) (sym told_so) tt,
    )

    module _ (one : OneTurn) (taken : IsTaken contents may_give texts faults shows w so_far.goal one v) (less : drawn < most_turns) where
      last_there : (ends : Collected) → EndsAs one.turn (left_by (collecting.turns ++ one ∷ [])) (length (collecting.turns ++ one ∷ [])) ends
          → IsEndSeen (collecting.turns ++ one ∷ []) ends v → EndsWell u ends v drawn
      last_there ends tells seen = (collecting.turns ++ one ∷ [], ended collecting.turns so_far.goal w one collecting.on taken less refl tells, seen)

      refused_there : (why : Refusal) (keys : List Key) (ends : Collected) → one.turn ≡ turn.Refused why keys → ends ≡ collected.Refused why → EndsWell u ends v drawn
      refused_there why keys ends is told_so =
          last_there ends
          (subst (λ (t : Turn). EndsAs t (left_by (collecting.turns ++ one ∷ [])) (length (collecting.turns ++ one ∷ [])) ends) (sym is) told_so)
          (subst (λ e. IsEndSeen (collecting.turns ++ one ∷ []) e v) (sym told_so) tt)

      ended_there : (number : ℕ) (ends : Collected) → one.turn ≡ turn.Ended number → ends ≡ collected.Done number so_far.removed (told (so_far.turns + 1)) → EndsWell u ends v drawn
      ended_there number ends is told_so =
          let size = length-append collecting.turns (one ∷ []) in
          let left = left_push collecting.turns one in
          let none : length (removed_in one.turn) ≡ 0 = ap (λ (t : Turn). length (removed_in t)) is in
          let before = collecting.left in
          let count = collecting.count in
          let as_left : so_far.removed ≡ told (left_by (collecting.turns ++ one ∷ [])) = omega (arith, before, left, none) in
          let as_count : told (so_far.turns + 1) ≡ told (length (collecting.turns ++ one ∷ [])) = omega (arith, count, size) in
          let new = (did contents may_give texts faults shows w so_far.goal one v taken).new in
          last_there ends
          (subst (λ (t : Turn). EndsAs t (left_by (collecting.turns ++ one ∷ [])) (length (collecting.turns ++ one ∷ [])) ends) (sym is)
          (told_so ∙ (ap (λ n. collected.Done number n (told (so_far.turns + 1))) as_left ∙ ap (λ n. collected.Done number (told (left_by (collecting.turns ++ one ∷ []))) n) as_count)))
          (subst (λ e. IsEndSeen (collecting.turns ++ one ∷ []) e v) (sym told_so)
          (ended_here contents may_give texts faults shows w so_far.goal one v taken number is (first_place (collecting.turns ++ one ∷ []))
          (first_below u None collecting.turns w so_far.goal one collecting.on new)))

      over_there_too : (number : ℕ) (ends : Collected) → one.turn ≡ turn.Over number → ends ≡ collected.Done number so_far.removed (told (so_far.turns + 1)) → EndsWell u ends v drawn
      over_there_too number ends is told_so =
          let aimed : so_far.goal ≡ Some number = over_goal contents may_give texts faults shows w so_far.goal one v taken number is in
          let on : TurnsOn contents may_give texts faults shows u None collecting.turns w (Some number)
          = subst (λ (g : Option ℕ). TurnsOn contents may_give texts faults shows u None collecting.turns w g) aimed collecting.on in
          let ran = ran_since u collecting.turns w number on in
          let one_did = did contents may_give texts faults shows w so_far.goal one v taken in
          let stops = over_there contents may_give texts faults shows w so_far.goal one v taken number is in
          let before = collecting.left in
          let count = collecting.count in
          let as_count : told (so_far.turns + 1) ≡ told (length collecting.turns + 1) = omega (arith, count) in (
            collecting.turns,
            over number w one on (taken_aimed w (Some number) so_far.goal one v aimed taken) less is
                (told_so ∙ (ap (λ n. collected.Done number n (told (so_far.turns + 1))) before ∙ ap (λ n. collected.Done number (told (left_by collecting.turns)) n) as_count)),
            subst (λ e. IsEndSeen collecting.turns e v) (sym told_so)
                (ended_since contents may_give texts faults ran.mid v number (first_place collecting.turns) ran.runs (ran.start ∙ sym one_did.start)
                (prefix_trans ran.mid.seen w.seen v.seen ran.grows one_did.grows) knows stops.there stops.stood stops.stops ran.behind),
          )

      by_turn : (t : Turn) (ends : Collected) → one.turn ≡ t → EndsAfter t so_far ends → EndsWell u ends v drawn
      by_turn (turn.Began number) ends is told_so = absurd told_so
      by_turn (turn.Marked count) ends is told_so = absurd told_so
      by_turn (turn.Swept keys) ends is told_so = absurd told_so
      by_turn (turn.Ended number) ends is told_so = ended_there number ends is told_so
      by_turn (turn.Over number) ends is told_so = over_there_too number ends is told_so
      by_turn (turn.Refused why keys) ends is told_so = refused_there why keys ends is told_so

    pub ends_there : (ends : Collected) → TurnsOnce contents may_give texts faults shows w so_far (step.Ends ends) v drawn → EndsWell u ends v drawn
    ends_there ends (once_took one running taken runs less steps) = by_turn one taken less one.turn ends refl steps
    ends_there ends (once_spent is same follows) = spent_there ends is same (ends_same follows)
      where
        ends_same : {a b : Collected} → step.Ends a ≡ step.Ends b → a ≡ b
        ends_same e = cc

  -- ---- of all libraries

  -- what was done at one library, told of all
  pub collects_lift : (us : List (Shown S)) (draws : List ℕ) (lib : List ℕ) (library : ℕ) (u v : Shown S) (drawn : ℕ) (secret : Option (List ℕ)) (ends : Collected) → IsAt us lib library u
      → library < length draws → CollectsOne contents may_give texts faults shows u secret ends v drawn
      → (lines : List Line) × CollectsSo contents may_give texts faults shows us lib secret ends lines (slice_set us library v) (slice_set draws library drawn)
  collects_lift us draws lib library u v drawn secret ends at below (one_denied may is same) =
      ([], denied library u at may is refl (set_again us library u v at.at same))
  collects_lift us draws lib library u v drawn secret ends at below (one_went may turns so seen) =
      (lines_of library turns, went library u at may turns v drawn so seen (get_set draws library drawn below) refl refl)

  -- the turns are operations on it, one after another
  set_twice : {A : Type 0} (xs : List A) (i : ℕ) (a b : A) → slice_set (slice_set xs i a) i b ≡ slice_set xs i b
  set_twice [] i a b = refl
  set_twice (x ∷ xs) zero a b = refl
  set_twice (x ∷ xs) (suc i) a b = ap (λ l. x ∷ l) (set_twice xs i a b)

  pub lines_taken : (us : List (Shown S)) (library : ℕ) (u : Shown S) (goal : Option ℕ) (turns : List OneTurn) (v : Shown S) (last : Option ℕ) → slice_get us library ≡ Some u
      → TurnsOn contents may_give texts faults shows u goal turns v last → Lines contents may_give texts faults us (lines_of library turns) (slice_set us library v)
  lines_taken us library u goal [] v last at (same, is) = set_again us library u v at same
  lines_taken us library u goal (t ∷ turns) v last at (w, next, taken, goes, follows, rest) =
      let within = slice_get_within us library u at in (
        slice_set us library w,
        record { before = u; was = at; after = w; is = refl; done = taken.done },
        subst (λ vs. Lines contents may_give texts faults (slice_set us library w) (lines_of library turns) vs) (set_twice us library w v)
            (lines_taken (slice_set us library w) library w next turns v last (get_set us library w within) rest),
      )
