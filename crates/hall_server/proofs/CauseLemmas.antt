-- The cause of damage that is told on a connection with a hall: the library that was asked might give it as its history began, or
-- nothing lies under a key that left. The key lemma is caused_ran.
use Rattle.std.proofs.Common.{◌≡◌, ◌⊎◌, inl, inr, ℕ, true, false, List, [], ◌∷◌, take, Option, None, Some, option_map, ap, subst, sym, ◌∙◌}
use Rattle.std.specs.Prelude.{slice_set}
use mathlib.Core.List.{IsPrefix}
use Rattle.ids.specs.declared.key.Key.{Key}
use Rattle.library_rules.specs.Calls.{decided}
use Rattle.library_state.specs.declared.call.Call.{Call}
use Rattle.library_state.specs.declared.refusal.Refusal.{Refusal}
use Rattle.library_state.specs.declared.refusal.Refusal.TheVariants as refusal
use Rattle.library_state.specs.declared.reply.Reply.{Reply}
use Rattle.library_state.specs.declared.reply.Reply.TheVariants as reply
use Rattle.object_graph.specs.Traversal.{is_in}
use Rattle.object_store.specs.Shelf.{Contents}
use Rattle.object_store.specs.Store.{has_other_name}
use Rattle.object_store.specs.declared.shelf.Slot.{Slot}
use Rattle.object_store.specs.declared.shelf.Slot.TheVariants.{Object}
use Rattle.depot.proofs.DamageLemmas.{Harmless, IsCausedTurn, answer_caused, decided_undamaged, harmless_then, no_text, reply_back, same_key, turn_caused, turn_leaves}
use Rattle.depot.proofs.GivingLemmas.{wider_by}
use Rattle.depot.proofs.StoryLemmas.{among_none, laid_more, removed_at, removed_front, removed_on, turned_same}
use Rattle.depot.specs.CollectionTurns.{removed_in}
use Rattle.depot.specs.Damage.{IsCaused, IsCausedReply, OrGone}
use Rattle.depot.specs.DepotView.{DepotView}
use Rattle.depot.specs.Giving.{GivesBy, IsLaid}
use Rattle.depot.specs.Story.{IsAnswered, IsTurned, MadeBy, removed_of, removed_through}
use Rattle.depot.specs.declared.story.Change.{Change}
use Rattle.depot.specs.declared.story.Made.{Made}
use Rattle.depot.specs.declared.story.Made.TheVariants as made
use Rattle.depot.specs.declared.turn.Turn.{Turn}
use Rattle.depot.specs.declared.turn.Turn.TheVariants as turn
use Rattle.sync_calls.specs.Asking.{AsksSo, IsAt}
use Rattle.sync_calls.specs.Collecting.{CollectsSo, EndsAs, EndsSo, OneTurn, deed_of}
use Rattle.sync_calls.specs.Operations.{Called, GivesSince, IsDone, IsMadeBy, Line, Lines, Moves, TookTurn}
use Rattle.sync_calls.specs.Shown.{Shown}
use Rattle.sync_calls.specs.declared.asking.Answer.{Answer as HallAnswer}
use Rattle.sync_calls.specs.declared.collecting.Collected.{Collected as HallCollected}
use Rattle.sync_calls.proofs.CollectingLemmas.{turns_grow}
use Rattle.worker_server.specs.Calls.{Ran, Told, call_asked, collection_asked, look_asked}
use Rattle.worker_server.specs.declared.host.Answer.{Answer}
use Rattle.worker_server.specs.declared.host.Collected.{Collected}
use Rattle.worker_server.specs.declared.host.Collected.TheVariants as collected
use Rattle.hall_server.specs.Causes.{AreCausedAt, IsCausedAt, IsCausedEndAt, IsCausedReplyAt, StartsIn}
use Rattle.hall_server.specs.Serving.{HallShown, hall_rules, host_end}
use Rattle.hall_server.proofs.GoingLemmas.{done_grows, done_start, from_some, set_at, set_there}
use Rattle.hall_server.proofs.RanLemmas.{ran_goes}

-- what was laid since is no damage: of its own name, or nothing under a key that left
laid_all : (start now : Slot → Option (List ℕ) → Type 0) (lib : List ℕ) (keys : List Key) → GivesBy (IsLaid lib keys) start now → Harmless (OrGone keys start) now
laid_all start now lib keys gives key given is = by (gives (Object key) given is)
  where
    by : start (Object key) given ⊎ IsLaid lib keys (Object key) given → OrGone keys start (Object key) given ⊎ ((bytes : List ℕ) × (given ≡ Some bytes) × (has_other_name key bytes ≡ false))
    by (inl was) = inl (inl was)
    by (inr (inl text)) = absurd (no_text key text.at)
    by (inr (inr (inl (other, bytes, named, object)))) = inr (bytes, object.is, subst (λ k. has_other_name k bytes ≡ false) (sym (same_key key other object.at)) object.named)
    by (inr (inr (inr gone))) = inl (inr gone)

-- what has its cause in fewer keys that left has it in more
damage_more : (keys more : List Key) (gives : Slot → Option (List ℕ) → Type 0) → ((key : Key) → is_in keys key ≡ true → is_in more key ≡ true) → (why : Refusal)
    → IsCaused (OrGone keys gives) why → IsCaused (OrGone more gives) why
damage_more keys more gives among (refusal.Damaged want got) (other, key, damage) = (other, key, record { given = damage.given; gives = wider damage.gives; named = damage.named; other = damage.other })
  where
    wider : OrGone keys gives (Object key) damage.given → OrGone more gives (Object key) damage.given
    wider (inl was) = inl was
    wider (inr gone) = inr (gone.0, among gone.0 gone.1, gone.2, gone.3)
damage_more keys more gives among other is = tt

module _ {S : Type 0} (contents : S → Option Contents) (may_give : S → Slot → Option (List ℕ) → Type 0) (texts faults : S → ℕ) where
  -- ---- how a history began, and which keys left since

  -- a library stands there later too, and keys that left stay those that left
  record StaysIn (vs : List (Shown S)) (lib : List ℕ) (start : DepotView S) (keys : List Key) : Type 0 where
    pub there : StartsIn vs lib start
    pub among : (key : Key) → is_in keys key ≡ true → is_in (removed_through there.shown.seen) key ≡ true

  removed_before : (xs ys : List (Change (DepotView S))) → IsPrefix xs ys → (key : Key) → is_in (removed_through xs) key ≡ true → is_in (removed_through ys) key ≡ true
  removed_before xs ys front key there = subst (λ (l : List (Change (DepotView S))). is_in (removed_through l) key ≡ true) front.1 (removed_on xs front.0 key there)

  moved_on : (us : List (Shown S)) (line : Line) (vs : List (Shown S)) (lib : List ℕ) (start : DepotView S) → Moves contents may_give texts faults us line vs → (there : StartsIn us lib start)
      → StaysIn vs lib start (removed_through there.shown.seen)
  moved_on us line vs lib start moves there =
      subst (λ (ws : List (Shown S)). StaysIn ws lib start (removed_through there.shown.seen)) (sym moves.is)
      (elim (set_there us line.library moves.after moves.before there.library there.shown moves.was there.at) [
        | inl here ↦ record {
          there = record {
            library = there.library;
            shown = moves.after;
            at = here.1;
            begins = done_start contents may_give texts faults moves.before line.place line.deed moves.after moves.done ∙ sym (ap (λ (w : Shown S). w.start) here.0) ∙ there.begins;
            named = there.named;
          };
          among = λ key left. removed_before moves.before.seen moves.after.seen (done_grows contents may_give texts faults moves.before line.place line.deed moves.after moves.done) key
              (subst (λ (w : Shown S). is_in (removed_through w.seen) key ≡ true) here.0 left);
        }
        | inr at ↦ record {
          there = record { library = there.library; shown = there.shown; at = at; begins = there.begins; named = there.named };
          among = λ key left. left;
        }
      ])

  starts_on : (us : List (Shown S)) (lines : List Line) (vs : List (Shown S)) (lib : List ℕ) (start : DepotView S) → Lines contents may_give texts faults us lines vs → (there : StartsIn us lib start)
      → StaysIn vs lib start (removed_through there.shown.seen)
  starts_on us [] vs lib start same there =
      subst (λ (ws : List (Shown S)). StaysIn ws lib start (removed_through there.shown.seen)) (sym same) (record { there = there; among = λ key left. left })
  starts_on us (line ∷ lines) vs lib start (mid, moves, rest) there =
      let next = moved_on us line mid lib start moves there in
      let last = starts_on mid lines vs lib start rest next.there in
      record { there = last.there; among = λ key left. last.among key (next.among key left) }

  -- so what has its cause in one view has it in a later one
  caused_on : (us : List (Shown S)) (lines : List Line) (vs : List (Shown S)) (lib : List ℕ) (why : Refusal) → Lines contents may_give texts faults us lines vs → IsCausedAt may_give us lib why
      → IsCausedAt may_give vs lib why
  caused_on us lines vs lib why leads (inl none) = inl none
  caused_on us lines vs lib why leads (inr (start, there, is)) =
      let last = starts_on us lines vs lib start leads there in
      inr (start, last.there, damage_more (removed_through there.shown.seen) (removed_through last.there.shown.seen) (may_give start.store.shelf) last.among why is)

  replies_on : (us : List (Shown S)) (lines : List Line) (vs : List (Shown S)) (lib : List ℕ) (r : Reply) → Lines contents may_give texts faults us lines vs → IsCausedReplyAt may_give us lib r
      → IsCausedReplyAt may_give vs lib r
  replies_on us lines vs lib (reply.Refused why) leads is = caused_on us lines vs lib why leads is
  replies_on us lines vs lib other leads is = tt

  ends_on : (us : List (Shown S)) (lines : List Line) (vs : List (Shown S)) (lib : List ℕ) (ends : Collected) → Lines contents may_give texts faults us lines vs → IsCausedEndAt may_give us lib ends
      → IsCausedEndAt may_give vs lib ends
  ends_on us lines vs lib (collected.Refused why) leads is = caused_on us lines vs lib why leads is
  ends_on us lines vs lib (collected.Done number removed) leads is = tt

  -- ---- one deed

  call_caused : (start before after : DepotView S) (lib : List ℕ) (keys : List Key) (call : Call) (moment : ℕ) (r : Reply)
      → GivesBy (IsLaid lib keys) (may_give start.store.shelf) (may_give before.store.shelf)
      → IsAnswered contents may_give texts faults before call moment r after → IsCausedReply (OrGone keys (may_give start.store.shelf)) r
  call_caused start before after lib keys call moment r gives answered =
      let later = harmless_then (OrGone keys (may_give start.store.shelf)) (may_give before.store.shelf) (may_give after.store.shelf) before.state.lib call.act
      (laid_all (may_give start.store.shelf) (may_give before.store.shelf) lib keys gives) answered.gives in
      reply_back (OrGone keys (may_give start.store.shelf)) (may_give after.store.shelf) later r
      (answer_caused (may_give after.store.shelf) before.store.index call.act (decided before.state call) r (decided_undamaged before.state call) answered.serves.may_come)

  turned_caused : (start before after : DepotView S) (lib : List ℕ) (keys : List Key) (goal : Option ℕ) (moment most : ℕ) (taken : Turn)
      → GivesBy (IsLaid lib keys) (may_give start.store.shelf) (may_give before.store.shelf) → ((key : Key) → is_in (removed_in taken) key ≡ true → is_in keys key ≡ true)
      → IsTurned contents may_give texts faults before goal moment most taken after → IsCausedTurn (OrGone keys (may_give start.store.shelf)) taken
  turned_caused start before after lib keys goal moment most taken gives among turned =
      let later = turn_leaves (may_give start.store.shelf) (may_give before.store.shelf) (may_give after.store.shelf) before.state.lib keys taken among
      (laid_all (may_give start.store.shelf) (may_give before.store.shelf) lib keys gives) turned.takes.gives in
      turn_caused (OrGone keys (may_give start.store.shelf)) (may_give after.store.shelf) later before.store.index before.running before.state.collection goal taken turned.takes.may_come.may

  -- what the shelf may give at a place, by all keys that left until later
  since_all : (v : Shown S) (place : ℕ) (before : DepotView S) (since : GivesSince may_give v place before)
      → GivesBy (IsLaid since.start.state.lib (removed_through v.seen)) (may_give since.start.store.shelf) (may_give before.store.shelf)
  since_all v place before since =
      wider_by (laid_more since.start.state.lib (removed_through (take place v.seen)) (removed_through v.seen) (removed_front place v.seen)) since.gives

  -- a call was done so on a library of which this was shown
  did_call : (u : Shown S) (place : ℕ) (call : Call) (moment : ℕ) (r : Reply) (v : Shown S) → IsDone contents may_give texts faults u place (Called call moment r) v
      → (start : DepotView S) × (v.start ≡ Some start) × IsCausedReply (OrGone (removed_through v.seen) (may_give start.store.shelf)) r
  did_call u place call moment r v (inl reads) =
      let since = reads.reads.gives in (
        since.start,
        since.began,
        call_caused since.start reads.reads.before reads.reads.after since.start.state.lib (removed_through v.seen) call moment r (since_all v place reads.reads.before since) reads.reads.does,
      )
  did_call u place call moment r v (inr changes) =
      let since = changes.gives in (
        since.start,
        since.began,
        by since.start changes.change.before.value changes.change.after.value (since_all v place changes.change.before.value since) changes.change.made changes.change.moment changes.made changes.links.by,
      )
    where
      by : (start before after : DepotView S) → GivesBy (IsLaid start.state.lib (removed_through v.seen)) (may_give start.store.shelf) (may_give before.store.shelf) → (m : Made) (at : ℕ)
          → IsMadeBy m at (Called call moment r) → MadeBy contents may_give texts faults m before at after → IsCausedReply (OrGone (removed_through v.seen) (may_give start.store.shelf)) r
      by start before after gives (made.Asked asked said) at is answered =
          subst (λ (x : Reply). IsCausedReply (OrGone (removed_through v.seen) (may_give start.store.shelf)) x) is.1
          (call_caused start before after start.state.lib (removed_through v.seen) asked.value at said.value gives answered)
      by start before after gives (made.Turned goal most taken) at is answered = absurd is

  did_turn : (u : Shown S) (place : ℕ) (goal : Option ℕ) (moment most : ℕ) (taken : Turn) (v : Shown S) → IsDone contents may_give texts faults u place (TookTurn goal moment most taken) v
      → (start : DepotView S) × (v.start ≡ Some start) × IsCausedTurn (OrGone (removed_through v.seen) (may_give start.store.shelf)) taken
  did_turn u place goal moment most taken v (inl reads) =
      let since = reads.reads.gives in
      let none = turned_same contents may_give texts faults reads.reads.before goal moment most taken reads.reads.after reads.reads.does reads.reads.stays in (
        since.start,
        since.began,
        turned_caused since.start reads.reads.before reads.reads.after since.start.state.lib (removed_through v.seen) goal moment most taken (since_all v place reads.reads.before since)
            (λ key there. among_none (removed_through v.seen) key (subst (λ (ks : List Key). is_in ks key ≡ true) none there)) reads.reads.does,
      )
  did_turn u place goal moment most taken v (inr changes) =
      let since = changes.gives in (
        since.start,
        since.began,
        by since.start changes.change.before.value changes.change.after.value (since_all v place changes.change.before.value since) changes.change.made changes.change.moment changes.made
            (λ key there. removed_at v.seen place changes.change key changes.at there) changes.links.by,
      )
    where
      by : (start before after : DepotView S) → GivesBy (IsLaid start.state.lib (removed_through v.seen)) (may_give start.store.shelf) (may_give before.store.shelf) → (m : Made) (at : ℕ)
          → IsMadeBy m at (TookTurn goal moment most taken) → ((key : Key) → is_in (removed_of m) key ≡ true → is_in (removed_through v.seen) key ≡ true)
          → MadeBy contents may_give texts faults m before at after → IsCausedTurn (OrGone (removed_through v.seen) (may_give start.store.shelf)) taken
      by start before after gives (made.Asked asked said) at is among turned = absurd is
      by start before after gives (made.Turned g m turned_to) at is among turned =
          subst (λ (x : Turn). IsCausedTurn (OrGone (removed_through v.seen) (may_give start.store.shelf)) x) is.2
          (turned_caused start before after start.state.lib (removed_through v.seen) g at m turned_to.value gives among turned)

  -- ---- a call, and a collection

  -- a library of this id stands in what is shown after one was set
  begins_at : (us : List (Shown S)) (lib : List ℕ) (library : ℕ) (u v : Shown S) (start : DepotView S) → IsAt us lib library u → v.start ≡ u.start → v.start ≡ Some start
      → StartsIn (slice_set us library v) lib start
  begins_at us lib library u v start at same begins = record {
    library = library;
    shown = v;
    at = set_at us library v u at.at;
    begins = begins;
    named = from_some _ _ (sym (ap (option_map (λ (depot : DepotView S). depot.state.lib)) (sym same ∙ begins)) ∙ at.named);
  }

  reply_at : (us : List (Shown S)) (lib : List ℕ) (start : DepotView S) (r : Reply) (there : StartsIn us lib start)
      → IsCausedReply (OrGone (removed_through there.shown.seen) (may_give start.store.shelf)) r → IsCausedReplyAt may_give us lib r
  reply_at us lib start (reply.Refused why) there is = inr (start, there, is)
  reply_at us lib start other there is = tt

  asks_caused : (us : List (Shown S)) (lib : List ℕ) (call : Call) (moment : ℕ) (given : HallAnswer) (lines : List Line) (vs : List (Shown S)) (draws : List ℕ)
      → AsksSo contents may_give texts faults us lib call moment given lines vs draws → IsCausedReplyAt may_give vs lib given.reply
  unfolding begins_at
  asks_caused us lib call moment given lines vs draws (AsksSo.nowhere away told_is empty same) = subst (λ (a : HallAnswer). IsCausedReplyAt may_give vs lib a.reply) (sym told_is) (inl tt)
  asks_caused us lib call moment given lines vs draws (AsksSo.denied library u at not_may told_is empty same) =
      subst (λ (a : HallAnswer). IsCausedReplyAt may_give vs lib a.reply) (sym told_is) (inl tt)
  asks_caused us lib call moment given lines vs draws (AsksSo.spent library u at may last told_is empty same) =
      subst (λ (a : HallAnswer). IsCausedReplyAt may_give vs lib a.reply) (sym told_is) (inl tt)
  asks_caused us lib call moment given lines vs draws (AsksSo.took library u at may drawn drew fits turn) =
      let did = did_call u turn.place call moment given.reply turn.after turn.done in
      let start_stays = done_start contents may_give texts faults u turn.place (Called call moment given.reply) turn.after turn.done in
      subst (λ (ws : List (Shown S)). IsCausedReplyAt may_give ws lib given.reply) (sym turn.is)
      (reply_at (slice_set us library turn.after) lib did.0 given.reply (begins_at us lib library u turn.after did.0 at start_stays did.1) did.2)

  turn_ends : (us : List (Shown S)) (lib : List ℕ) (start : DepotView S) (last : Turn) (left taken : ℕ) (ends : HallCollected) (there : StartsIn us lib start)
      → IsCausedTurn (OrGone (removed_through there.shown.seen) (may_give start.store.shelf)) last → EndsAs last left taken ends → IsCausedEndAt may_give us lib (host_end ends)
  turn_ends us lib start (turn.Ended number) left taken ends there caused tells = subst (λ (e : HallCollected). IsCausedEndAt may_give us lib (host_end e)) (sym tells) tt
  turn_ends us lib start (turn.Refused why keys) left taken ends there caused tells =
      subst (λ (e : HallCollected). IsCausedEndAt may_give us lib (host_end e)) (sym tells) (inr (start, there, caused.0))
  turn_ends us lib start other left taken ends there caused tells = absurd tells

  module _ (shows : ℕ → Type 0) where
    ends_caused : (us : List (Shown S)) (lib : List ℕ) (library : ℕ) (u v : Shown S) (ends : HallCollected) (turns : List OneTurn) (drawn : ℕ) → IsAt us lib library u
        → EndsSo contents may_give texts faults shows u ends turns v drawn → IsCausedEndAt may_give (slice_set us library v) lib (host_end ends)
    unfolding begins_at
    ends_caused us lib library u v ends turns drawn at (EndsSo.ended before goal w last on taken unspent are tells) =
        let did = did_turn w last.place last.goal last.moment _ last.turn v taken.done in
        let start_stays = done_start contents may_give texts faults w last.place (deed_of last) v taken.done ∙ (turns_grow contents may_give texts faults shows u None before w goal on).0 in
        turn_ends (slice_set us library v) lib did.0 last.turn _ _ ends (begins_at us lib library u v did.0 at start_stays did.1) did.2 tells
    ends_caused us lib library u v ends turns drawn at (EndsSo.over number w last on taken unspent is tells) =
        subst (λ (e : HallCollected). IsCausedEndAt may_give (slice_set us library v) lib (host_end e)) (sym tells) tt
    ends_caused us lib library u v ends turns drawn at (EndsSo.spent goal on last tells) =
        subst (λ (e : HallCollected). IsCausedEndAt may_give (slice_set us library v) lib (host_end e)) (sym tells) (inl tt)

    collects_caused : (us : List (Shown S)) (lib : List ℕ) (secret : Option (List ℕ)) (ends : HallCollected) (lines : List Line) (vs : List (Shown S)) (draws : List ℕ)
        → CollectsSo contents may_give texts faults shows us lib secret ends lines vs draws → IsCausedEndAt may_give vs lib (host_end ends)
    collects_caused us lib secret ends lines vs draws (CollectsSo.nowhere away is empty same) = subst (λ (e : HallCollected). IsCausedEndAt may_give vs lib (host_end e)) (sym is) (inl tt)
    collects_caused us lib secret ends lines vs draws (CollectsSo.denied library u at not_may is empty same) =
        subst (λ (e : HallCollected). IsCausedEndAt may_give vs lib (host_end e)) (sym is) (inl tt)
    collects_caused us lib secret ends lines vs draws (CollectsSo.went library u at may turns v drawn so seen drew lines_are is) =
        subst (λ (ws : List (Shown S)). IsCausedEndAt may_give ws lib (host_end ends)) (sym is) (ends_caused us lib library u v ends turns drawn at so)

    -- ---- all of a connection

    pub caused_ran : (u : HallShown S) (calls : List (Told Line)) (v : HallShown S) → Ran (hall_rules contents may_give texts faults shows) u calls v → AreCausedAt may_give v.libraries calls
    caused_ran u [] v same = tt
    caused_ran u (call_asked lib call answer lines ∷ ts) v (mid, (moment, shown, (given, asks, stays, is)), more) =
        let rest = ran_goes contents may_give texts faults shows mid ts v more in (
          subst (λ (a : Answer). IsCausedReplyAt may_give v.libraries lib a.reply) (sym is)
              (replies_on mid.libraries rest.all v.libraries lib given.reply rest.leads (asks_caused u.libraries lib call moment given lines mid.libraries mid.drawn asks)),
          caused_ran mid ts v more,
        )
    caused_ran u (collection_asked lib secret ends lines ∷ ts) v (mid, (end, collects, stays, is), more) =
        let rest = ran_goes contents may_give texts faults shows mid ts v more in (
          subst (λ (e : Collected). IsCausedEndAt may_give v.libraries lib e) (sym is)
              (ends_on mid.libraries rest.all v.libraries lib (host_end end) rest.leads (collects_caused u.libraries lib secret end lines mid.libraries mid.drawn collects)),
          caused_ran mid ts v more,
        )
    caused_ran u (look_asked lib secret tag same lines ∷ ts) v (mid, looked, more) = caused_ran mid ts v more
