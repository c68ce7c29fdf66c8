-- Whether a call or a turn changed a library, by its figures. The key lemmas are table_count, seen_at, seen_none, stays_same,
-- is_other, turn_same and turn_other.
use Rattle.std.proofs.Common.{◌≡◌, ◌≢◌, inl, inr, ℕ, ◌+◌, ◌≤◌, ◌||◌, Bool, true, false, cond, if◌then◌else◌, is_some, List, [], ◌∷◌, ◌++◌, length, slice_index_or, arith, refl, sym, ap, ap₂, ◌∙◌, subst, true≢false, Option, None, Some, option_map}
use Rattle.std.specs.Prelude.{⊤}
use Rattle.std.specs.FinMap as map
use Rattle.std.specs.FinSet as set
use Rattle.std.specs.Str.{bytes_eq}
use Rattle.std.proofs.lemmas.Bool.{or_left}
use Rattle.std.proofs.lemmas.List.{length-append}
use Rattle.ids.specs.Key.{Objects, key_cmp}
use Rattle.ids.specs.declared.key.Key.{Key}
use Rattle.ids.proofs.KeyOrderLemmas.{key_cmp_exact, key_cmp_total}
use Rattle.object_graph.specs.Traversal.{is_in}
use Rattle.library_rules.specs.Calls.{token_of}
use Rattle.library_rules.specs.Changes.{apply, head_in, is_refused, next_by, put_new, seen_by, with_added, with_install, with_last, without}
use Rattle.library_rules.specs.History.{StepPermits}
use Rattle.library_rules.specs.LibraryState.{Running, State, is_kept, is_stored}
use Rattle.library_rules.specs.Turns.{IsRefusedTurn}
use Rattle.library_rules.specs.declared.entry.Step.TheVariants as step
use Rattle.library_rules.specs.declared.entry.Stored.{Stored}
use Rattle.library_rules.proofs.StepLemmas.{objects_after}
use Rattle.library_state.specs.declared.call.Act.{Act}
use Rattle.library_state.specs.declared.call.Act.TheVariants as act
use Rattle.library_state.specs.declared.call.Call.{Call}
use Rattle.library_state.specs.declared.call.Op.TheVariants as op
use Rattle.library_state.specs.declared.reply.Reply.{Reply}
use Rattle.library_state.specs.declared.state.LibState.{LibState}
use Rattle.library_state.specs.declared.token.Token.{Token}
use Rattle.collector.proofs.CountedLemmas.{fewer_fit}
use Rattle.object_store.specs.Shelf.{Contents}
use Rattle.object_store.specs.StoreView.{Index, objects_of}
use Rattle.object_store.specs.declared.shelf.Slot.{Slot}
use Rattle.depot.specs.Answering.{AnswersBySome, next_state, state_after}
use Rattle.depot.specs.Changing.{IsPlaceOf}
use Rattle.depot.specs.CollectionTurns.{IsRunning, MayTurn, TurnsBySome, removed_in, running_after_turn, state_after_turn}
use Rattle.depot.specs.DepotView.{DepotView, fresh_in, running_library, state_of}
use Rattle.depot.specs.FreshKeys.{GoesOn, RunsOn, came}
use Rattle.depot.specs.Held.{IndexSo}
use Rattle.depot.specs.Story.{IsOther, IsSame}
use Rattle.depot.specs.Telling.{AreFigures, CountsFresh, HasCount, checked_secret, is_step, last_seen}
use Rattle.depot.specs.declared.telling.Figures.{Figures}
use Rattle.depot.specs.declared.turn.Turn.{Turn}
use Rattle.depot.specs.declared.turn.Turn.TheVariants as turn
use Rattle.depot.proofs.CollectionLemmas.{fresh_has}
use Rattle.depot.proofs.PlaceLemmas.{place_token}
use Rattle.depot.proofs.SizeLemmas.{all_there, index_stays, same_len, taken_stays}
use Rattle.depot.proofs.ToldLemmas.{MappedAt, mapped_at}

-- ---- sets by their size

-- what a table holds is counted by it
pub table_count : (table : map.FinMap key_cmp ⊤) (fresh : set.FinSet key_cmp) (count : ℕ) → fresh ≡ fresh_in table → count ≡ map.len table → HasCount fresh count
table_count table fresh count same is = record { table = table; same = same; size = sym is }

has_key : {keys : set.FinSet key_cmp} {count : ℕ} (has : HasCount keys count) (key : Key) → set.contains keys key ≡ is_some (map.get has.table key)
has_key has key = ap (λ (keys : set.FinSet key_cmp). set.contains keys key) has.same ∙ fresh_has has.table key

-- of two sets of as many keys one of which the other holds both are one
same_keys : {a b : set.FinSet key_cmp} {count : ℕ} → HasCount a count → HasCount b count → ((key : Key) → set.contains a key ≡ true → set.contains b key ≡ true) → b ≡ a
same_keys {a} {b} first second more = set.same_set key_cmp_total key_cmp_exact b a (λ key. by key (set.contains b key) refl)
  where
    held : (key : Key) → is_some (map.get first.table key) ≡ true → is_some (map.get second.table key) ≡ true
    held key has = sym (has_key second key) ∙ more key (has_key first key ∙ has)

    by : (key : Key) (c : Bool) → set.contains b key ≡ c → set.contains b key ≡ set.contains a key
    by key true is = is ∙ sym (has_key first key ∙ all_there first.table second.table held (first.size ∙ sym second.size) key (sym (has_key second key) ∙ is))
    by key false is = is ∙ sym (lacks (set.contains a key) refl)
      where
        lacks : (c : Bool) → set.contains a key ≡ c → set.contains a key ≡ false
        lacks true has = absurd (true≢false (sym (more key has) ∙ is))
        lacks false has = has

-- a set has one count
one_count : {keys : set.FinSet key_cmp} {m n : ℕ} → HasCount keys m → HasCount keys n → m ≡ n
one_count {keys} {m} {n} first second =
    let up : map.len first.table ≤ map.len second.table = fewer_fit first.table second.table (λ key has. sym (has_key second key) ∙ has_key first key ∙ has) in
    let down : map.len second.table ≤ map.len first.table = fewer_fit second.table first.table (λ key has. sym (has_key first key) ∙ has_key second key ∙ has) in
    let one = first.size in
    let two = second.size in
    omega (arith, up, down, one, two)

pub one_fresh : (running : Option Running) (m n : ℕ) → CountsFresh running m → CountsFresh running n → m ≡ n
one_fresh None m n first second = first ∙ sym second
one_fresh (Some running) m n first second = one_count first second

-- a collection that goes on with as many fresh keys is as it was
runs_stay : (old new : Index) (told : List Key) (a b : Option Running) → RunsOn old new told a b → (count : ℕ) → CountsFresh a count → CountsFresh b count → b ≡ a
runs_stay old new told None b is count first second = is
runs_stay old new told (Some before) b (after, is, goes) count first second =
    is ∙ ap Some (same_running goes (same_keys first (subst (λ o. CountsFresh o count) is second) (λ key has. goes.fresh key ∙ or_left (set.contains before.fresh key) (came old new key || is_in told key) has)))
  where
    same_running : {before after : Running} {old new : Index} {told : List Key} → GoesOn old new told before after → after.fresh ≡ before.fresh → after ≡ before
    same_running goes fresh = λ i. record { fresh = fresh i; stored = goes.stored i; turned = goes.turned i }

-- ---- the state

-- the token at the place is that of the secret
pub seen_at : (tokens : List Token) (secret : Option (List ℕ)) (digits : List ℕ) (place : ℕ) (d : Token) → secret ≡ Some digits → IsPlaceOf tokens digits place
    → last_seen tokens secret ≡ Some (slice_index_or tokens place d).last
seen_at tokens secret digits place d shown at =
    ap (last_seen tokens) shown ∙ ap (option_map (λ (token : Token). token.last)) (place_token tokens digits place d at)

pub seen_none : (tokens : List Token) (secret : Option (List ℕ)) (digits : List ℕ) → secret ≡ Some digits → token_of tokens (Some digits) ≡ None → last_seen tokens secret ≡ None
seen_none tokens secret digits shown none = ap (last_seen tokens) shown ∙ ap (option_map (λ (token : Token). token.last)) none

some_number : {a b : ℕ} → Some a ≡ Some b → a ≡ b
some_number e = cc

-- a token that saw the same collection is as it was
last_stays : (secret : List ℕ) (collection : ℕ) (tokens : List Token) → last_seen (with_last secret collection tokens) (Some secret) ≡ last_seen tokens (Some secret)
    → with_last secret collection tokens ≡ tokens
last_stays secret collection [] seen = refl
last_stays secret collection (t ∷ tokens) seen = by (last_stays secret collection tokens) (bytes_eq secret t.secret) refl seen
  where
    by : (last_seen (with_last secret collection tokens) (Some secret) ≡ last_seen tokens (Some secret) → with_last secret collection tokens ≡ tokens) → (c : Bool) → bytes_eq secret t.secret ≡ c
        → last_seen (if c then record t { last = collection } ∷ tokens else t ∷ with_last secret collection tokens) (Some secret) ≡ last_seen (t ∷ tokens) (Some secret)
        → (if c then record t { last = collection } ∷ tokens else t ∷ with_last secret collection tokens) ≡ t ∷ tokens
    by rest true own seen =
        let first : last_seen (record t { last = collection } ∷ tokens) (Some secret) ≡ Some collection
        = ap (λ b. option_map (λ (token : Token). token.last) (cond b (Some (record t { last = collection })) (token_of tokens (Some secret)))) own in
        let second : last_seen (t ∷ tokens) (Some secret) ≡ Some t.last
        = ap (λ b. option_map (λ (token : Token). token.last) (cond b (Some t) (token_of tokens (Some secret)))) own in
        ap (λ n. record t { last = n } ∷ tokens) (some_number (sym first ∙ seen ∙ second))
    by rest false other seen =
        let first : last_seen (t ∷ with_last secret collection tokens) (Some secret) ≡ last_seen (with_last secret collection tokens) (Some secret)
        = ap (λ b. option_map (λ (token : Token). token.last) (cond b (Some t) (token_of (with_last secret collection tokens) (Some secret)))) other in
        let second : last_seen (t ∷ tokens) (Some secret) ≡ last_seen tokens (Some secret)
        = ap (λ b. option_map (λ (token : Token). token.last) (cond b (Some t) (token_of tokens (Some secret)))) other in
        ap (λ ts. t ∷ ts) (rest (sym first ∙ seen ∙ second))

seen_stays : (secret : Option (List ℕ)) (collection : ℕ) (tokens : List Token) → last_seen (seen_by secret collection tokens) secret ≡ last_seen tokens secret
    → seen_by secret collection tokens ≡ tokens
seen_stays None collection tokens seen = refl
seen_stays (Some secret) collection tokens seen = last_stays secret collection tokens seen

-- an act that leaves the figures leaves the state
next_stays : (state : LibState) (secret : Option (List ℕ)) (moment : ℕ) (a : Act) (r : Reply) (new : LibState) → new ≡ next_by state secret moment a r → length new.kept ≡ length state.kept
    → new.days ≡ state.days → last_seen new.tokens (checked_secret a secret) ≡ last_seen state.tokens (checked_secret a secret) → new ≡ state
next_stays state secret moment (act.Check op.Upload) r new is kept days seen =
    is ∙ ap (λ tokens. record state { tokens = tokens })
    (seen_stays secret state.collection state.tokens (ap (λ (s : LibState). last_seen s.tokens secret) (sym is) ∙ seen))
next_stays state secret moment (act.Check op.Download) r new is kept days seen = is
next_stays state secret moment act.Head r new is kept days seen = is
next_stays state secret moment (act.Get key) r new is kept days seen = is
next_stays state secret moment (act.Put key bytes) r new is kept days seen = is
next_stays state secret moment (act.Missing k ids) r new is kept days seen = is
next_stays state secret moment (act.Update pushed) r new is kept days seen = by (is_kept state.kept pushed) is
  where
    longer : (head : List ℕ) → new ≡ with_install head pushed moment state → ⊥
    longer head e =
        let one = length-append state.kept (record { head = head; pushed = pushed; at = moment } ∷ []) in
        let same : length (state.kept ++ record { head = head; pushed = pushed; at = moment } ∷ []) ≡ length state.kept = ap (λ (s : LibState). length s.kept) (sym e) ∙ kept in
        omega (arith, one, same)

    by : (c : Bool) → new ≡ (if c then state else with_install (head_in r pushed) pushed moment state) → new ≡ state
    by true e = e
    by false e = absurd (longer (head_in r pushed) e)
next_stays state secret moment (act.Limit days) r new is kept same seen = is ∙ ap (λ n. record state { days = n }) (ap (λ (s : LibState). s.days) (sym is) ∙ same)
next_stays state secret moment (act.Ids server client) r new is kept days seen = is

-- so does a call
state_stays : (state : LibState) (call : Call) (moment : ℕ) (r : Reply) (new : LibState) → new ≡ state_after state call moment r → length new.kept ≡ length state.kept
    → new.days ≡ state.days → last_seen new.tokens (checked_secret call.act call.secret) ≡ last_seen state.tokens (checked_secret call.act call.secret) → new ≡ state
state_stays state call moment r new is kept days seen = by (is_refused r) is
  where
    by : (c : Bool) → new ≡ (if c then state else next_state state call moment r) → new ≡ state
    by true e = e
    by false e = next_stays state call.secret moment call.act r new e kept days seen

-- ---- objects

-- objects that are put are no fewer
put_more : (objects : Objects) (x : Stored) → map.len objects ≤ map.len (put_new objects x)
put_more objects x = by (is_stored objects x.key) refl
  where
    by : (c : Bool) → is_stored objects x.key ≡ c → map.len objects ≤ map.len (if c then objects else map.insert objects x.key x.bytes)
    by true there = omega arith
    by false absent =
        let size : map.len (map.insert objects x.key x.bytes) ≡ map.len objects + 1
        = map.len-insert key_cmp_total objects x.key x.bytes ∙ ap (λ b. cond b (map.len objects) (map.len objects + 1)) absent in
        omega (arith, size)

as_many : (objects : Objects) (x : Stored) → map.len (put_new objects x) ≤ map.len objects → put_new objects x ≡ objects
as_many objects x = by (is_stored objects x.key) refl
  where
    by : (c : Bool) → is_stored objects x.key ≡ c → map.len (if c then objects else map.insert objects x.key x.bytes) ≤ map.len objects
        → (if c then objects else map.insert objects x.key x.bytes) ≡ objects
    by true there no_more = refl
    by false absent no_more =
        let size : map.len (map.insert objects x.key x.bytes) ≡ map.len objects + 1
        = map.len-insert key_cmp_total objects x.key x.bytes ∙ ap (λ b. cond b (map.len objects) (map.len objects + 1)) absent in
        absurd (omega (arith, size, no_more))

added_more : (objects : Objects) (added : List Stored) → map.len objects ≤ map.len (with_added objects added)
added_more objects [] = omega arith
added_more objects (x ∷ added) =
    let one = put_more objects x in
    let more = added_more (put_new objects x) added in
    omega (arith, one, more)

-- as many objects as before are those of before
added_stays : (objects : Objects) (added : List Stored) → map.len (with_added objects added) ≡ map.len objects → with_added objects added ≡ objects
added_stays objects [] same = refl
added_stays objects (x ∷ added) same =
    let more = added_more (put_new objects x) added in
    let put : put_new objects x ≡ objects = as_many objects x (omega (arith, more, same)) in
    added_stays (put_new objects x) added (same ∙ ap map.len (sym put)) ∙ put

some_state : {s t : State} → Some s ≡ Some t → s ≡ t
some_state e = cc

-- of a call where the library is told
answered_objects : (s : State) (call : Call) (moment : ℕ) (r : Reply) (t : State) → AnswersBySome s call moment r (Some t) → map.len t.objects ≡ map.len s.objects
    → t.objects ≡ s.objects
answered_objects s call moment r t ([], answers) same = ap (λ (u : State). u.objects) (some_state answers.left ∙ answers.step.0)
answered_objects s call moment r t (e ∷ [], answers) same =
    let permits : StepPermits s e (step.Asked call) = subst (StepPermits s e) answers.step.is_step answers.step.permitted.permits in
    let is : t ≡ apply s e = some_state answers.left ∙ sym answers.step.state in
    let objects : t.objects ≡ with_added s.objects e.added = ap (λ (u : State). u.objects) is ∙ objects_after s e ∙ ap (without (with_added s.objects e.added)) permits.1 in
    objects ∙ added_stays s.objects e.added (ap map.len (sym objects) ∙ same)
answered_objects s call moment r t (e ∷ f ∷ es, answers) same = absurd answers.step

-- of a turn that is no step
turned_objects : (s : State) (goal : Option ℕ) (moment at_most : ℕ) (taken : Turn) (t : State) → TurnsBySome s goal moment at_most taken (Some t) → is_step taken ≡ false
    → length (removed_in taken) ≡ 0 → t.objects ≡ s.objects
turned_objects s goal moment at_most (turn.Began number) t by none removed = absurd (true≢false none)
turned_objects s goal moment at_most (turn.Marked count) t by none removed = absurd (true≢false none)
turned_objects s goal moment at_most (turn.Swept keys) t by none removed = absurd (true≢false none)
turned_objects s goal moment at_most (turn.Ended number) t by none removed = absurd (true≢false none)
turned_objects s goal moment at_most (turn.Over number) t by none removed = ap (λ (u : State). u.objects) (some_state by.left ∙ by.turns.1)
turned_objects s goal moment at_most (turn.Refused why keys) t by none removed = refused by.turns.1
  where
    no_key : (keys : List Key) → length keys ≡ 0 → keys ≡ []
    no_key [] e = refl
    no_key (k ∷ keys) e = absurd (omega (arith, e))

    refused : IsRefusedTurn s moment why keys by.state by.entries → t.objects ≡ s.objects
    refused (inl takes) =
        let permits : StepPermits s takes.entry step.Swept = subst (StepPermits s takes.entry) takes.enters.is_step takes.enters.permitted.permits in
        ap (λ (u : State). u.objects) (some_state by.left ∙ sym takes.enters.state) ∙ objects_after s takes.entry
        ∙ ap₂ (λ added gone. without (with_added s.objects added) gone) permits.1 (takes.removes ∙ no_key keys removed)
    refused (inr none) = ap (λ (u : State). u.objects) (some_state by.left ∙ none.1.same)

-- ---- all of it

-- a collection that has one turn more isn't as it was
counted_apart : (running : Option Running) → running ≢ None → option_map {T = Running} (λ (r : Running). record r { turned = r.turned + 1 }) running ≡ running → ⊥
counted_apart None runs same = runs refl
counted_apart (Some running) runs same =
    let one : running.turned + 1 ≡ running.turned = ap turned_of same in
    omega (arith, one)
  where
    turned_of : Option Running → ℕ
    turned_of None = 0
    turned_of (Some running) = running.turned

module _ {S : Type 0} (contents : S → Option Contents) (faults : S → ℕ) (old new : DepotView S) where
  -- two libraries that are told as one state have all parts alike
  record AreAlike : Type 0 where
    was : Objects
    now : Objects
    told_was : objects_of contents old.store ≡ Some was
    told_now : objects_of contents new.store ≡ Some now
    one : running_library new.state new.running (faults new.store.shelf) now ≡ running_library old.state old.running (faults old.store.shelf) was

  alike_told : (s : State) → state_of contents faults old ≡ Some s → state_of contents faults new ≡ Some s → AreAlike
  alike_told s is also =
      let a : MappedAt (running_library old.state old.running (faults old.store.shelf)) (objects_of contents old.store) s = mapped_at _ _ _ is in
      let b : MappedAt (running_library new.state new.running (faults new.store.shelf)) (objects_of contents new.store) s = mapped_at _ _ _ also in
      record { was = a.value; now = b.value; told_was = a.is; told_now = b.is; one = b.gives ∙ sym a.gives }

  -- where state or collection are others, so is the library
  parts_apart : (new.state ≡ old.state → new.running ≡ old.running → ⊥) → IsOther contents faults old new
  parts_apart apart = record {
    told = λ s is also.
        let alike = alike_told s is also in
        apart (ap (λ (u : State). u.state) alike.one) (ap (λ (u : State). u.running) alike.one);
    any = λ same. apart same.state same.running;
  }

  -- a step of a collection leaves another library
  pub turn_other : (index : Index) (give : Slot → Option (List ℕ) → Type 0) (goal : Option ℕ) (moment : ℕ) (taken : Turn) → MayTurn index give old.running old.state.collection goal taken
      → new.state ≡ state_after_turn old.state moment taken → new.running ≡ running_after_turn (map.len old.store.index) old.running taken → is_step taken ≡ true
      → IsOther contents faults old new
  turn_other index give goal moment (turn.Began number) may left runs step = parts_apart (λ state running.
      let one : old.state.collection + 1 ≡ old.state.collection = ap (λ (s : LibState). s.collection) (sym left ∙ state) in
      omega (arith, one))
  turn_other index give goal moment (turn.Marked count) may left runs step = parts_apart (λ state running. counted_apart old.running may (sym runs ∙ running))
  turn_other index give goal moment (turn.Swept keys) may left runs step = parts_apart (λ state running. counted_apart old.running may (sym runs ∙ running))
  turn_other index give goal moment (turn.Ended number) may left runs step = parts_apart (λ state running. subst (λ o. IsRunning o old.state.collection number) (sym running ∙ runs) may)
  turn_other index give goal moment (turn.Over number) may left runs step = absurd (true≢false (sym step))
  turn_other index give goal moment (turn.Refused why keys) may left runs step = absurd (true≢false (sym step))

  module _ (secret : Option (List ℕ)) (before after : Figures) (was : AreFigures (faults old.store.shelf) (map.len old.store.index) secret old.state old.running before)
      (now : AreFigures (faults new.store.shelf) (map.len new.store.index) secret new.state new.running after)
      (was_size : (held : Objects) → objects_of contents old.store ≡ Some held → map.len old.store.index ≡ map.len held)
      (now_size : (held : Objects) → objects_of contents new.store ≡ Some held → map.len new.store.index ≡ map.len held) where
    alike : new.state ≡ old.state → new.running ≡ old.running → faults new.store.shelf ≡ faults old.store.shelf → map.len new.store.index ≡ map.len old.store.index → before ≡ after
    alike state running count size =
        let same_faults : before.faults ≡ after.faults = was.of_faults ∙ sym count ∙ sym now.of_faults in
        let same_objects : before.objects ≡ after.objects = was.of_objects ∙ sym size ∙ sym now.of_objects in
        let same_updates : before.updates ≡ after.updates = was.of_updates ∙ ap (λ (s : LibState). length s.kept) (sym state) ∙ sym now.of_updates in
        let same_days : before.days ≡ after.days = was.of_days ∙ ap (λ (s : LibState). s.days) (sym state) ∙ sym now.of_days in
        let same_last : before.last ≡ after.last = was.of_last ∙ ap (λ (s : LibState). last_seen s.tokens secret) (sym state) ∙ sym now.of_last in
        let same_fresh : before.fresh ≡ after.fresh = one_fresh old.running before.fresh after.fresh was.of_fresh (subst (λ o. CountsFresh o after.fresh) running now.of_fresh) in
        λ i. record { faults = same_faults i; objects = same_objects i; updates = same_updates i; days = same_days i; last = same_last i; fresh = same_fresh i }

    -- where a figure is another, so is the library
    pub is_other : before ≢ after → IsOther contents faults old new
    is_other apart = record {
      told = λ s is also.
          let same = alike_told s is also in
          let objects : same.now ≡ same.was = ap (λ (u : State). u.objects) same.one in
          apart (alike (ap (λ (u : State). u.state) same.one) (ap (λ (u : State). u.running) same.one) (ap (λ (u : State). u.faults) same.one)
          (now_size same.now same.told_now ∙ ap map.len objects ∙ sym (was_size same.was same.told_was)));
      any = λ same. apart (alike same.state same.running same.count (same_len new.store.index old.store.index same.keys));
    }

    -- where all are the same, the index is as large, and objects that a state tells are as many
    module _ (same : before ≡ after) where
      same_size : map.len new.store.index ≡ map.len old.store.index
      same_size = sym now.of_objects ∙ ap (λ (f : Figures). f.objects) (sym same) ∙ was.of_objects

      same_count : faults new.store.shelf ≡ faults old.store.shelf
      same_count = sym now.of_faults ∙ ap (λ (f : Figures). f.faults) (sym same) ∙ was.of_faults

      -- the objects are told to be those of before
      kept_objects : ((s t : State) → state_of contents faults old ≡ Some s → state_of contents faults new ≡ Some t → map.len t.objects ≡ map.len s.objects → t.objects ≡ s.objects)
          → ((s : State) → state_of contents faults old ≡ Some s → (t : State) × (state_of contents faults new ≡ Some t))
          → (held : Objects) → objects_of contents old.store ≡ Some held → objects_of contents new.store ≡ Some held
      kept_objects stay leaves held is =
          let s : State = running_library old.state old.running (faults old.store.shelf) held in
          let told : state_of contents faults old ≡ Some s = ap (option_map (running_library old.state old.running (faults old.store.shelf))) is in
          let t : State = (leaves s told).0 in
          let at : MappedAt (running_library new.state new.running (faults new.store.shelf)) (objects_of contents new.store) t = mapped_at _ _ _ (leaves s told).1 in
          let own : at.value ≡ t.objects = ap (λ (u : State). u.objects) at.gives in
          let size : map.len t.objects ≡ map.len s.objects = ap map.len (sym own) ∙ sym (now_size at.value at.is) ∙ same_size ∙ was_size held is in
          at.is ∙ ap Some (own ∙ stay s t told (leaves s told).1 size)

      -- after a call the library is the same
      pub stays_same : (call : Call) (moment : ℕ) (r : Reply) → secret ≡ checked_secret call.act call.secret
          → ((s : State) → state_of contents faults old ≡ Some s → AnswersBySome s call moment r (state_of contents faults new)) → new.state ≡ state_after old.state call moment r
          → (told : List Key) → RunsOn old.store.index new.store.index told old.running new.running → IndexSo call.act r old.store.index new.store.index → IsSame contents faults old new
      stays_same call moment r asked answers left told runs index = record {
        state = state_stays old.state call moment r new.state left (sym now.of_updates ∙ ap (λ (f : Figures). f.updates) (sym same) ∙ was.of_updates)
            (sym now.of_days ∙ ap (λ (f : Figures). f.days) (sym same) ∙ was.of_days)
            (subst (λ o. last_seen new.state.tokens o ≡ last_seen old.state.tokens o) asked (sym now.of_last ∙ ap (λ (f : Figures). f.last) (sym same) ∙ was.of_last));
        running = runs_stay old.store.index new.store.index told old.running new.running runs before.fresh was.of_fresh
            (subst (CountsFresh new.running) (ap (λ (f : Figures). f.fresh) (sym same)) now.of_fresh);
        count = same_count;
        keys = index_stays call.act r old.store.index new.store.index index same_size;
        objects = kept_objects (λ s t is also size. answered_objects s call moment r t (subst (AnswersBySome s call moment r) also (answers s is)) size)
            (λ s is. ((answers s is).1.state, (answers s is).1.left));
      }

      -- so it is after a turn that is no step
      pub turn_same : (goal : Option ℕ) (moment at_most : ℕ) (taken : Turn)
          → ((s : State) → state_of contents faults old ≡ Some s → TurnsBySome s goal moment at_most taken (state_of contents faults new)) → new.state ≡ state_after_turn old.state moment taken
          → new.running ≡ running_after_turn (map.len old.store.index) old.running taken → map.len new.store.index + length (removed_in taken) ≡ map.len old.store.index
          → ((key : Key) → map.get new.store.index key ≡ (if is_in (removed_in taken) key then None else map.get old.store.index key)) → is_step taken ≡ false → IsSame contents faults old new
      turn_same goal moment at_most taken turns left runs number holds none = record {
        state = left ∙ still_state taken none;
        running = runs ∙ still_running taken none;
        count = same_count;
        keys = taken_stays (removed_in taken) old.store.index new.store.index (omega (arith, number, same_size)) holds;
        objects = kept_objects (λ s t is also size. turned_objects s goal moment at_most taken t (subst (TurnsBySome s goal moment at_most taken) also (turns s is)) none (omega (arith, number, same_size)))
            (λ s is. ((turns s is).state, (turns s is).left));
      }
        where
          still_state : (taken : Turn) → is_step taken ≡ false → state_after_turn old.state moment taken ≡ old.state
          still_state (turn.Began number) none = absurd (true≢false none)
          still_state (turn.Marked count) none = refl
          still_state (turn.Swept keys) none = refl
          still_state (turn.Ended number) none = refl
          still_state (turn.Over number) none = refl
          still_state (turn.Refused why keys) none = refl

          still_running : (taken : Turn) → is_step taken ≡ false → running_after_turn (map.len old.store.index) old.running taken ≡ old.running
          still_running (turn.Began number) none = absurd (true≢false none)
          still_running (turn.Marked count) none = absurd (true≢false none)
          still_running (turn.Swept keys) none = absurd (true≢false none)
          still_running (turn.Ended number) none = absurd (true≢false none)
          still_running (turn.Over number) none = refl
          still_running (turn.Refused why keys) none = refl
