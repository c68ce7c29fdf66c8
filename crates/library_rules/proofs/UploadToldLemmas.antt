-- What was answered as stored, or not listed as absent, is safe. The key lemmas are put_is_safe and asked_is_safe.
use Rattle.std.proofs.Common.{◌≡◌, ◌⊎◌, inl, inr, ℕ, Bool, true, false, cond, List, [], ◌∷◌, ◌++◌, not, filter, Option, None, Some, option_map, refl, sym, ap, subst, ◌∙◌}
use Rattle.std.specs.FinSet as set
use Rattle.std.specs.List.{list_any}
use Rattle.std.proofs.lemmas.Bool.{and_from, or_cases, or_left, or_right}
use Rattle.ids.specs.declared.key.Key.{Key}
use Rattle.ids.specs.declared.key.Kind.{Kind}
use Rattle.library_state.specs.declared.call.Act.{Act}
use Rattle.library_state.specs.declared.call.Act.TheVariants as act
use Rattle.library_state.specs.declared.call.Call.{Call}
use Rattle.library_state.specs.declared.refusal.Refusal.{Refusal}
use Rattle.library_state.specs.declared.reply.Reply.{Reply}
use Rattle.library_state.specs.declared.reply.Reply.TheVariants as reply
use Rattle.library_state.specs.declared.token.Token.{Token}
use Rattle.object_graph.specs.Objects.{same_id, is_nil}
use Rattle.object_graph.specs.Traversal.{is_in, distinct_from}
use Rattle.object_graph.proofs.KeyLemmas.{same_key, same_key-true, same_key-itself, in_distinct}
use Rattle.library_rules.specs.Answered.{Fails}
use Rattle.library_rules.specs.Calls.{Due, Denies, Says, Stores, Installs, Merges, keys_of, ids_of, first_refusal, put_refusals, put_due, absent, token_of, may, token_due, due}
use Rattle.library_rules.specs.Changes.{with_added, without, keys_added, fresher, told_by, stored_keys, moved, act_changes, step_changes, apply}
use Rattle.library_rules.specs.History.{StepPermits, Permits}
use Rattle.library_rules.specs.LibraryState.{State, Running, is_stored, is_needed}
use Rattle.library_rules.specs.Permitted.{DuePermits}
use Rattle.library_rules.specs.Uploads.{is_shielded, is_safe}
use Rattle.library_rules.specs.declared.entry.Entry.{Entry}
use Rattle.library_rules.specs.declared.entry.Step.{Step}
use Rattle.library_rules.specs.declared.entry.Step.TheVariants as step
use Rattle.library_rules.specs.declared.entry.Stored.{Stored}
use Rattle.library_rules.proofs.KeepingLemmas.{added_stored}
use Rattle.library_rules.proofs.MemberLemmas.{same_id-true, same_id-itself, in_all, apart}
use Rattle.library_rules.proofs.StepLemmas.{objects_after}
use Rattle.library_rules.proofs.CallsLemmas.{put_due-is, taken, put_by}
use Rattle.object_graph.proofs.ReachingLemmas.{in_first}

-- ---- fresh, where a collection runs

abbrev IsTold : Key → Option Running → Type 0
IsTold key None = Unit {0}
IsTold key (Some running) = set.contains running.fresh key ≡ true

told_now : (key : Key) (keys : List Key) (run : Option Running) → is_in keys key ≡ true → IsTold key (option_map (fresher keys) run)
told_now key keys None e = tt
told_now key keys (Some running) e = in_all keys running.fresh key ∙ or_left (is_in keys key) (set.contains running.fresh key) e

still_told : (key : Key) (keys : List Key) (run : Option Running) → IsTold key run → IsTold key (option_map (fresher keys) run)
still_told key keys None e = tt
still_told key keys (Some running) e = in_all keys running.fresh key ∙ or_right (is_in keys key) (set.contains running.fresh key) e

told_shielded : (s : State) (key : Key) (run : Option Running) → IsTold key run → is_shielded s run key ≡ true
told_shielded s key None e = refl
told_shielded s key (Some running) e = or_right (is_needed s.objects s.state.kept key) (set.contains running.fresh key) e

safe_by : (s : State) (key : Key) → is_stored s.objects key ≡ true → IsTold key s.running → is_safe s key ≡ true
safe_by s key stored told = and_from (is_stored s.objects key) (is_shielded s s.running key) stored (told_shielded s key s.running told)

-- ---- what a put's answer tells of what was due

abbrev TellsStored : State → Entry → Key → List ℕ → Bool → Due → Type 0
TellsStored s e key bytes new Denies = ⊥
TellsStored s e key bytes new (Says r) = (r ≡ reply.Stored new) × (e.added ≡ [])
TellsStored s e key bytes new (Stores x) = (new ≡ true) × (e.added ≡ x ∷ [])
TellsStored s e key bytes new (Installs pushed) = ⊥
TellsStored s e key bytes new (Merges user base pushed) = ⊥

module _ (s : State) (e : Entry) (key : Key) (bytes : List ℕ) (new : Bool) (answers : e.reply ≡ reply.Stored new) where
  no_fault : Fails s e → ⊥
  no_fault fails = let said = fails.reply in cc

  tells_stored : (d : Due) → DuePermits s e d → TellsStored s e key bytes new d
  tells_stored Denies p = elim p.0 [ inl plain ↦ let said = plain.reply in cc | inr plain ↦ let said = plain.reply in cc ]
  tells_stored (Says r) p = elim p.0 as (λ _. (r ≡ reply.Stored new) × (e.added ≡ [])) [ inl plain ↦ (sym plain.reply ∙ answers, p.1) | inr fails ↦ absurd (no_fault fails) ]
  tells_stored (Stores x) p = elim p as (λ _. (new ≡ true) × (e.added ≡ x ∷ [])) [
    | inl plain ↦ let said = plain.0.reply in let same : new ≡ true = cc in (same, plain.1)
    | inr fails ↦ absurd (no_fault fails.0)
  ]
  tells_stored (Installs pushed) p = elim p.0 [ inl plain ↦ let said = plain.reply in cc | inr fails ↦ no_fault fails ]
  tells_stored (Merges user base pushed) p = elim p [ inl is ↦ let said = is.says.reply in cc | inr other ↦ let said = other.reply in cc ]

  -- the object was stored already, or is now
  abbrev Put : Type 0
  Put = ((new ≡ false) × (e.added ≡ []) × (is_stored s.objects key ≡ true)) ⊎ (e.added ≡ record { key = key; bytes = bytes } ∷ [])

  by_stored : (b : Bool) → is_stored s.objects key ≡ b → TellsStored s e key bytes new (cond b (Says (reply.Stored false)) (Stores (record { key = key; bytes = bytes }))) → Put
  by_stored true is told = let said = told.0 in let same : new ≡ false = cc in inl (same, told.1, is)
  by_stored false is told = inr told.1

  by_refusal : (o : Option Refusal) → TellsStored s e key bytes new (put_by s key bytes o) → Put
  by_refusal (Some why) told = let said = told.0 in cc
  by_refusal None told = by_stored (is_stored s.objects key) refl told

  by_right : (token : Token) (b : Bool) → TellsStored s e key bytes new (cond b (put_due s key bytes) Denies) → Put
  by_right token true told =
      by_refusal (first_refusal (put_refusals s.state.lib key.kind key bytes ++ taken s key bytes ∷ [])) (subst (TellsStored s e key bytes new) (put_due-is s key bytes) told)
  by_right token false told = absurd told

  by_token : (o : Option Token) → TellsStored s e key bytes new (token_due s (act.Put key bytes) o) → Put
  by_token None told = absurd told
  by_token (Some token) told = by_right token (may token (act.Put key bytes)) told

-- ---- the state after it

put_running : (secret : Option (List ℕ)) (moment : ℕ) (key : Key) (bytes : List ℕ) (new : Bool) (s : State)
    → (act_changes secret moment (act.Put key bytes) (reply.Stored new) s).running ≡ option_map (fresher (told_by key (reply.Stored new))) s.running
put_running secret moment key bytes new s = refl

running_after : (s : State) (e : Entry) (call : Call) (a : Act) (r : Reply) (run : Option Running) → e.step ≡ step.Asked call → call.act ≡ a → e.reply ≡ r
    → (step_changes e.moment (step.Asked (record call { act = a })) r (moved s e.added e.removed)).running ≡ run → (apply s e).running ≡ run
running_after s e call a r run asked acts answers is =
    let m = moved s e.added e.removed in
    let P : Act → Type 0 = λ x. (step_changes e.moment (step.Asked (record call { act = x })) r m).running ≡ run in
    let Q : Reply → Type 0 = λ x. (step_changes e.moment (step.Asked call) x m).running ≡ run in
    let R : Step → Type 0 = λ st. (step_changes e.moment st e.reply m).running ≡ run in
    subst R (sym asked) (subst Q (sym answers) (subst P (sym acts) is))

objects_of_call : (s : State) (e : Entry) (added : List Stored) → e.added ≡ added → e.removed ≡ [] → (apply s e).objects ≡ with_added s.objects added
objects_of_call s e added adds removes =
    objects_after s e ∙ ap (λ removed. without (with_added s.objects e.added) removed) removes ∙ ap (with_added s.objects) adds

put_told : (s : State) (e : Entry) (call : Call) (key : Key) (bytes : List ℕ) (new : Bool) → e.step ≡ step.Asked call → call.act ≡ act.Put key bytes → e.reply ≡ reply.Stored new
    → (apply s e).running ≡ option_map (fresher (told_by key (reply.Stored new))) (option_map (fresher (keys_added e.added)) s.running)
put_told s e call key bytes new asked acts answers =
    running_after s e call (act.Put key bytes) (reply.Stored new) (option_map (fresher (told_by key (reply.Stored new))) (option_map (fresher (keys_added e.added)) s.running)) asked acts answers refl

-- an answer that an object is stored leaves its key safe
pub put_is_safe : (s : State) (e : Entry) (call : Call) (key : Key) (bytes : List ℕ) (new : Bool) → Permits s e → e.step ≡ step.Asked call → call.act ≡ act.Put key bytes → e.reply ≡ reply.Stored new
    → is_safe (apply s e) key ≡ true
put_is_safe s e call key bytes new permits asked acts answers =
    let asked_permits : StepPermits s e (step.Asked call) = subst (StepPermits s e) asked permits in
    let P : Act → Type 0 = λ a. TellsStored s e key bytes new (token_due s a (token_of s.state.tokens call.secret)) in
    let told = tells_stored s e key bytes new answers (due s call) asked_permits.0 in
    let put = by_token s e key bytes new answers (token_of s.state.tokens call.secret) (subst P acts told) in
    let running = put_told s e call key bytes new asked acts answers in
    let T : Option Running → Type 0 = λ run. IsTold key run in
    elim put as (λ _. is_safe (apply s e) key ≡ true) [
      | inl before ↦
          let stored : is_stored (apply s e).objects key ≡ true = ap (λ A. is_stored A key) (objects_of_call s e [] before.1 asked_permits.1) ∙ before.2 in
          let keys : is_in (told_by key (reply.Stored new)) key ≡ true = ap (λ b. is_in (told_by key (reply.Stored b)) key) before.0 ∙ in_first key [] in
          safe_by (apply s e) key stored (subst T (sym running) (told_now key (told_by key (reply.Stored new)) (option_map (fresher (keys_added e.added)) s.running) keys))
      | inr adds ↦
          let x : Stored = record { key = key; bytes = bytes } in
          let stored : is_stored (apply s e).objects key ≡ true = ap (λ A. is_stored A key) (objects_of_call s e (x ∷ []) adds asked_permits.1) ∙ added_stored s.objects (x ∷ []) key (in_first key []) in
          let keys : is_in (keys_added e.added) key ≡ true = ap (λ added. is_in (keys_added added) key) adds ∙ in_first key [] in
          safe_by (apply s e) key stored (subst T (sym running) (still_told key (told_by key (reply.Stored new)) (option_map (fresher (keys_added e.added)) s.running) (told_now key (keys_added e.added) s.running keys)))
    ]

-- ---- what was asked for

-- an id that isn't forty zeros gives its key
asked_key : (k : Kind) (ids : List (List ℕ)) (id : List ℕ) → list_any (same_id id) ids ≡ true → is_nil id ≡ false → is_in (keys_of k ids) (record { kind = k; id = id }) ≡ true
asked_key k [] id e other = cc
asked_key k (x ∷ ids) id e other =
    elim (or_cases (same_id id x) (list_any (same_id id) ids) e) as (λ _. is_in (keys_of k (x ∷ ids)) (record { kind = k; id = id }) ≡ true) [
      | inl here ↦ at_first x (same_id-true id x here) (is_nil x) refl
      | inr later ↦ at_later x (is_nil x) (asked_key k ids id later other)
    ]
  where
    at_first : (x : List ℕ) → id ≡ x → (b : Bool) → is_nil x ≡ b → is_in (cond b (keys_of k ids) (record { kind = k; id = x } ∷ keys_of k ids)) (record { kind = k; id = id }) ≡ true
    at_first x same true is = absurd (apart (is_nil x) is (subst (λ i. is_nil i ≡ false) same other))
    at_first x same false is =
        let P : List ℕ → Type 0 = λ i. is_in (record { kind = k; id = i } ∷ keys_of k ids) (record { kind = k; id = id }) ≡ true in
        subst P same (in_first (record { kind = k; id = id }) (keys_of k ids))

    at_later : (x : List ℕ) (b : Bool) → is_in (keys_of k ids) (record { kind = k; id = id }) ≡ true → is_in (cond b (keys_of k ids) (record { kind = k; id = x } ∷ keys_of k ids)) (record { kind = k; id = id }) ≡ true
    at_later x true there = there
    at_later x false there = or_right (same_key (record { kind = k; id = id }) (record { kind = k; id = x })) (is_in (keys_of k ids) (record { kind = k; id = id })) there

kept_by_filter : (P : Key → Bool) (keys : List Key) (key : Key) → is_in keys key ≡ true → P key ≡ true → is_in (filter P keys) key ≡ true
kept_by_filter P [] key e p = e
kept_by_filter P (k ∷ keys) key e p =
    elim (or_cases (same_key key k) (is_in keys key) e) as (λ _. is_in (filter P (k ∷ keys)) key ≡ true) [
      | inl here ↦
          let same : key ≡ k = same_key-true key k here in
          let Q : Bool → Type 0 = λ b. is_in (cond b (k ∷ filter P keys) (filter P keys)) key ≡ true in
          subst Q (sym (subst (λ x. P x ≡ true) same p)) (or_left (same_key key k) (is_in (filter P keys) key) here)
      | inr later ↦ at_later k (P k) (kept_by_filter P keys key later p)
    ]
  where
    at_later : (k : Key) (b : Bool) → is_in (filter P keys) key ≡ true → is_in (cond b (k ∷ filter P keys) (filter P keys)) key ≡ true
    at_later k true there = or_right (same_key key k) (is_in (filter P keys) key) there
    at_later k false there = there

-- ---- what a missing's answer tells of what was due

abbrev TellsAbsent : State → Entry → List (List ℕ) → Due → Type 0
TellsAbsent s e ids Denies = ⊥
TellsAbsent s e ids (Says r) = (r ≡ reply.Absent ids) × (e.added ≡ [])
TellsAbsent s e ids (Stores x) = ⊥
TellsAbsent s e ids (Installs pushed) = ⊥
TellsAbsent s e ids (Merges user base pushed) = ⊥

module _ (s : State) (e : Entry) (ids : List (List ℕ)) (answers : e.reply ≡ reply.Absent ids) where
  no_absent_fault : Fails s e → ⊥
  no_absent_fault fails = let said = fails.reply in cc

  tells_absent : (d : Due) → DuePermits s e d → TellsAbsent s e ids d
  tells_absent Denies p = elim p.0 [ inl plain ↦ let said = plain.reply in cc | inr plain ↦ let said = plain.reply in cc ]
  tells_absent (Says r) p = elim p.0 as (λ _. (r ≡ reply.Absent ids) × (e.added ≡ [])) [
    | inl plain ↦ (sym plain.reply ∙ answers, p.1)
    | inr fails ↦ absurd (no_absent_fault fails)
  ]
  tells_absent (Stores x) p = elim p [ inl plain ↦ let said = plain.0.reply in cc | inr fails ↦ no_absent_fault fails.0 ]
  tells_absent (Installs pushed) p = elim p.0 [ inl plain ↦ let said = plain.reply in cc | inr fails ↦ no_absent_fault fails ]
  tells_absent (Merges user base pushed) p = elim p [ inl is ↦ let said = is.says.reply in cc | inr other ↦ let said = other.reply in cc ]

  absent_right : (k : Kind) (asked_ids : List (List ℕ)) (b : Bool) → TellsAbsent s e ids (cond b (Says (reply.Absent (absent s k asked_ids))) Denies) → (absent s k asked_ids ≡ ids) × (e.added ≡ [])
  absent_right k asked_ids true told = let said = told.0 in let same : absent s k asked_ids ≡ ids = cc in (same, told.1)
  absent_right k asked_ids false told = absurd told

  absent_token : (k : Kind) (asked_ids : List (List ℕ)) (o : Option Token) → TellsAbsent s e ids (token_due s (act.Missing k asked_ids) o) → (absent s k asked_ids ≡ ids) × (e.added ≡ [])
  absent_token k asked_ids None told = absurd told
  absent_token k asked_ids (Some token) told = absent_right k asked_ids (may token (act.Missing k asked_ids)) told

-- ---- what isn't listed is stored

id_listed : (keys : List Key) (key : Key) → is_in keys key ≡ true → list_any (same_id key.id) (ids_of keys) ≡ true
id_listed [] key e = e
id_listed (x ∷ keys) key e = elim (or_cases (same_key key x) (is_in keys key) e) as (λ _. list_any (same_id key.id) (ids_of (x ∷ keys)) ≡ true) [
  | inl here ↦
      let same : key ≡ x = same_key-true key x here in
      or_left (same_id key.id x.id) (list_any (same_id key.id) (ids_of keys)) (subst (λ (y : Key). same_id key.id y.id ≡ true) same (same_id-itself key.id))
  | inr later ↦ or_right (same_id key.id x.id) (list_any (same_id key.id) (ids_of keys)) (id_listed keys key later)
]

unlisted_stored : (s : State) (k : Kind) (ids : List (List ℕ)) (key : Key) → is_in (keys_of k ids) key ≡ true → list_any (same_id key.id) (absent s k ids) ≡ false → is_stored s.objects key ≡ true
unlisted_stored s k ids key among unlisted = by (is_stored s.objects key) refl
  where
    by : (b : Bool) → is_stored s.objects key ≡ b → b ≡ true
    by true is = refl
    by false is =
        let gone = filter (λ x. not (is_stored s.objects x)) (keys_of k ids) in
        let there : is_in gone key ≡ true = kept_by_filter (λ x. not (is_stored s.objects x)) (keys_of k ids) key among (ap not is) in
        absurd (apart (list_any (same_id key.id) (absent s k ids)) (id_listed (distinct_from [] gone) key (in_distinct gone key ∙ there)) unlisted)

-- an answer of what is absent leaves each key safe that was asked for and isn't listed
pub asked_is_safe : (s : State) (e : Entry) (call : Call) (k : Kind) (ids listed : List (List ℕ)) → Permits s e → e.step ≡ step.Asked call → call.act ≡ act.Missing k ids → e.reply ≡ reply.Absent listed
    → (id : List ℕ) → list_any (same_id id) ids ≡ true → is_nil id ≡ false → list_any (same_id id) listed ≡ false → is_safe (apply s e) (record { kind = k; id = id }) ≡ true
asked_is_safe s e call k ids listed permits asked acts answers id among other unlisted =
    let key : Key = record { kind = k; id = id } in
    let asked_permits : StepPermits s e (step.Asked call) = subst (StepPermits s e) asked permits in
    let P : Act → Type 0 = λ a. TellsAbsent s e listed (token_due s a (token_of s.state.tokens call.secret)) in
    let lists = absent_token s e listed answers k ids (token_of s.state.tokens call.secret) (subst P acts (tells_absent s e listed answers (due s call) asked_permits.0)) in
    let stored = unlisted_stored s k ids key (asked_key k ids id among other) (ap (list_any (same_id id)) lists.0 ∙ unlisted) in
    let adds = lists.1 in
    let m = moved s e.added e.removed in
    let grown : m.objects ≡ s.objects = ap (λ removed. without (with_added s.objects e.added) removed) asked_permits.1 ∙ ap (with_added s.objects) adds in
    let now : is_stored m.objects key ≡ true = ap (λ A. is_stored A key) grown ∙ stored in
    let told = stored_keys m.objects (keys_of k ids) in
    let keys : is_in told key ≡ true = kept_by_filter (is_stored m.objects) (keys_of k ids) key (asked_key k ids id among other) now in
    let running = running_after s e call (act.Missing k ids) (reply.Absent listed) (option_map (fresher told) m.running) asked acts answers refl in
    let T : Option Running → Type 0 = λ run. IsTold key run in
    let after : is_stored (apply s e).objects key ≡ true = ap (λ A. is_stored A key) (objects_of_call s e [] adds asked_permits.1) ∙ stored in
    safe_by (apply s e) key after (subst T (sym running) (told_now key told m.running keys))
