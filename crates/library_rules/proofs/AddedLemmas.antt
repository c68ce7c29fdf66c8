-- What a call stores wasn't stored before. The key lemmas are added_gone, stored_with and came_with.
use Rattle.std.proofs.Common.{◌≡◌, ◌⊎◌, inl, inr, ℕ, Bool, true, false, not, ◌&&◌, if◌then◌else◌, cond, List, [], ◌∷◌, refl, sym, ap, ◌∙◌, subst, true≢false, Option, None, Some, is_some}
use Rattle.std.specs.Prelude.{⊤}
use Rattle.std.specs.FinMap as map
use Rattle.std.specs.List.{AllByRecursion, Contains}
use Rattle.std.proofs.lemmas.Bool.{false_from_ne_true, or_cases, or_left, or_right}
use Rattle.std.proofs.lemmas.List.Elements.{All-contains, All-from_recursion}
use Rattle.ids.specs.Key.{Objects}
use Rattle.ids.specs.declared.key.Key.{Key}
use Rattle.ids.proofs.KeyOrderLemmas.{key_cmp_total}
use Rattle.library_state.specs.declared.call.Act.{Act}
use Rattle.library_state.specs.declared.call.Act.TheVariants as act
use Rattle.library_state.specs.declared.call.Call.{Call}
use Rattle.library_state.specs.declared.refusal.Refusal.{Refusal}
use Rattle.library_state.specs.declared.refusal.Refusal.TheVariants as refusal
use Rattle.library_state.specs.declared.reply.Reply.{Reply}
use Rattle.library_state.specs.declared.reply.Reply.TheVariants as reply
use Rattle.library_state.specs.declared.token.Token.{Token}
use Rattle.object_graph.specs.Objects.{same_id}
use Rattle.object_graph.specs.Traversal.{is_in, walk_commit}
use Rattle.object_graph.specs.declared.fault.TreeFault.{TreeFault}
use Rattle.object_graph.proofs.KeyLemmas.{same_key, same_key-itself, same_key-true}
use Rattle.library_rules.specs.Calls.{Due, Denies, Says, Stores, Installs, Merges, act_by_objects, act_decided, base_due, by_state, complete_due, due, may, other_bytes, put_by_objects, token_due, token_of}
use Rattle.library_rules.specs.Changes.{keys_added, put_new, with_added, without}
use Rattle.library_rules.specs.History.{Permits, StepPermits, StepSo}
use Rattle.library_rules.specs.LibraryState.{State, head_of, is_stored}
use Rattle.library_rules.specs.MergeBase.{Based, Base, NoBase, base_of}
use Rattle.library_rules.specs.MergeCommit.{Partly}
use Rattle.library_rules.specs.Permitted.{DuePermits, MergeFails}
use Rattle.library_rules.specs.declared.entry.Entry.{Entry}
use Rattle.library_rules.specs.declared.entry.Step.TheVariants as step
use Rattle.library_rules.specs.declared.entry.Stored.{Stored}
use Rattle.library_rules.proofs.BesideStepLemmas.{keys_in}
use Rattle.library_rules.proofs.KeepingLemmas.{added_stored}
use Rattle.library_rules.proofs.StepLemmas.{objects_after}

module _ (s : State) where
  -- ---- what is due to be stored isn't stored

  abbrev NewIn : Due → Type 0
  NewIn Denies = ⊤
  NewIn (Says r) = ⊤
  NewIn (Stores x) = is_stored s.objects x.key ≡ false
  NewIn (Installs pushed) = ⊤
  NewIn (Merges user base pushed) = ⊤

  new_by : (o : Option Reply) (d : Due) → NewIn d → NewIn (by_state o d)
  new_by None d new = new
  new_by (Some said) d new = tt

  new_put : (key : Key) (bytes : List ℕ) → NewIn (put_by_objects s key bytes)
  new_put key bytes = by (other_bytes (map.get s.objects key) bytes) (is_stored s.objects key) refl
    where
      by : (other there : Bool) → is_stored s.objects key ≡ there
          → NewIn (if other then Says (reply.Refused (refusal.Taken key.id)) else if there then Says (reply.Stored false) else Stores (record { key = key; bytes = bytes }))
      by true there is = tt
      by false true is = tt
      by false false is = is

  new_complete : (user base pushed : List ℕ) (o : Option TreeFault) → NewIn (complete_due s user base pushed o)
  new_complete user base pushed (Some fault) = tt
  new_complete user base pushed None = by (same_id base (head_of s.state.kept))
    where
      by : (b : Bool) → NewIn (if b then Installs pushed else Merges user base pushed)
      by true = tt
      by false = tt

  new_based : (user pushed : List ℕ) (b : Based) → NewIn (base_due s user pushed b)
  new_based user pushed (NoBase why) = tt
  new_based user pushed (Base base) = new_complete user base pushed (walk_commit s.objects pushed).fault

  new_act : (token : Token) (a : Act) → NewIn (act_by_objects s token a)
  new_act token (act.Check o) = tt
  new_act token act.Head = tt
  new_act token (act.Get key) = tt
  new_act token (act.Put key bytes) = new_put key bytes
  new_act token (act.Missing k ids) = tt
  new_act token (act.Update commit) = new_based token.user commit (base_of s commit)
  new_act token (act.Limit days) = tt
  new_act token (act.Ids server client) = tt

  new_due : (call : Call) → NewIn (due s call)
  new_due call = by (token_of s.state.tokens call.secret)
    where
      by_right : (token : Token) (b : Bool) → NewIn (if b then by_state (act_decided s.state token call.act) (act_by_objects s token call.act) else Denies)
      by_right token true = new_by (act_decided s.state token call.act) (act_by_objects s token call.act) (new_act token call.act)
      by_right token false = tt

      by : (o : Option Token) → NewIn (token_due s call.act o)
      by None = tt
      by (Some token) = by_right token (may token call.act)

  -- ---- and so it is with what comes

  abbrev Gone : List Stored → Type 0
  Gone added = (key : Key) → is_in (keys_added added) key ≡ true → is_stored s.objects key ≡ false

  none_gone : (added : List Stored) → added ≡ [] → Gone added
  none_gone added none key among = absurd (true≢false (sym among ∙ ap (λ (xs : List Stored). is_in (keys_added xs) key) none))

  all_gone : (added : List Stored) → AllByRecursion (λ x. is_stored s.objects x.key ≡ false) added → Gone added
  all_gone [] all key among = absurd (true≢false (sym among))
  all_gone (x ∷ added) all key among = by (all_gone added all.1 key) (or_cases (same_key key x.key) (is_in (keys_added added) key) among)
    where
      by : (is_in (keys_added added) key ≡ true → is_stored s.objects key ≡ false) → (same_key key x.key ≡ true) ⊎ (is_in (keys_added added) key ≡ true) → is_stored s.objects key ≡ false
      by later (inl same) = subst (λ k. is_stored s.objects k ≡ false) (sym (same_key-true key x.key same)) all.0
      by later (inr among) = later among

  part_gone : (all part : List Stored) → AllByRecursion (λ x. is_stored s.objects x.key ≡ false) all → AllByRecursion (Contains all) part → AllByRecursion (λ x. is_stored s.objects x.key ≡ false) part
  part_gone all [] gone within = tt
  part_gone all (x ∷ part) gone within =
      (All-contains (λ (y : Stored). is_stored s.objects y.key ≡ false) all x (All-from_recursion (λ (y : Stored). is_stored s.objects y.key ≡ false) all gone) within.0, part_gone all part gone within.1)

  module _ (e : Entry) where
    left_gone : (user base pushed : List ℕ) → (e.added ≡ []) ⊎ Partly s e.moment user base pushed e.added → Gone e.added
    left_gone user base pushed (inl none) = none_gone e.added none
    left_gone user base pushed (inr partly) = all_gone e.added (part_gone partly.all e.added partly.would.were_gone partly.part)

    fails_gone : (user base pushed : List ℕ) (why : Refusal) → MergeFails s e user base pushed why → Gone e.added
    fails_gone user base pushed (refusal.TooLong path size) is = none_gone e.added is.0
    fails_gone user base pushed (refusal.TooMany paths) is = none_gone e.added is.0
    fails_gone user base pushed (refusal.Taken id) is = none_gone e.added is.0
    fails_gone user base pushed other cause = left_gone user base pushed cause.1

    due_gone : (d : Due) → NewIn d → DuePermits s e d → Gone e.added
    due_gone Denies new (said, none) = none_gone e.added none
    due_gone (Says r) new (said, none) = none_gone e.added none
    due_gone (Stores x) new (inl (says, added)) = subst Gone (sym added) (all_gone (x ∷ []) (new, tt))
    due_gone (Stores x) new (inr (fails, none)) = none_gone e.added none
    due_gone (Installs pushed) new (said, none) = none_gone e.added none
    due_gone (Merges user base pushed) new (inl merged) = all_gone e.added merged.made.were_gone
    due_gone (Merges user base pushed) new (inr refuses) = fails_gone user base pushed refuses.why refuses.cause

    pub added_gone : (call : Call) → e.step ≡ step.Asked call → Permits s e → Gone e.added
    added_gone call asked permits =
        let asked_permits : StepPermits s e (step.Asked call) = subst (StepPermits s e) asked permits in
        due_gone (due s call) (new_due call) asked_permits.0

-- ---- what is stored then

put_cases : (A : Objects) (x : Stored) (key : Key) → is_stored (put_new A x) key ≡ true → (is_stored A key ≡ true) ⊎ (key ≡ x.key)
put_cases A x key is = by (is_stored A x.key) refl is
  where
    new : (same : Bool) → same_key key x.key ≡ same → is_some (cond same (Some x.bytes) (map.get A key)) ≡ true → (is_stored A key ≡ true) ⊎ (key ≡ x.key)
    new true same is = inr (same_key-true key x.key same)
    new false other is = inl is

    by : (b : Bool) → is_stored A x.key ≡ b → is_stored (if b then A else map.insert A x.key x.bytes) key ≡ true → (is_stored A key ≡ true) ⊎ (key ≡ x.key)
    by true there is = inl is
    by false gone is = new (same_key key x.key) refl (ap is_some (sym (map.get-insert key_cmp_total A x.key x.bytes key)) ∙ is)

pub stored_cases : (A : Objects) (added : List Stored) (key : Key) → is_stored (with_added A added) key ≡ true → (is_stored A key ≡ true) ⊎ (is_in (keys_added added) key ≡ true)
stored_cases A [] key is = inl is
stored_cases A (x ∷ added) key is = by (stored_cases (put_new A x) added key is)
  where
    first : (is_stored A key ≡ true) ⊎ (key ≡ x.key) → (is_stored A key ≡ true) ⊎ (is_in (keys_added (x ∷ added)) key ≡ true)
    first (inl there) = inl there
    first (inr same) = inr (or_left (same_key key x.key) (is_in (keys_added added) key) (ap (λ k. same_key key k) (sym same) ∙ same_key-itself key))

    by : (is_stored (put_new A x) key ≡ true) ⊎ (is_in (keys_added added) key ≡ true) → (is_stored A key ≡ true) ⊎ (is_in (keys_added (x ∷ added)) key ≡ true)
    by (inl there) = first (put_cases A x key there)
    by (inr later) = inr (or_right (same_key key x.key) (is_in (keys_added added) key) later)

-- the keys of what a call stored are those under which something is stored and nothing was
pub came_with : (s : State) (call : Call) (moment : ℕ) (r : Reply) (t : State) (es : List Entry) → StepSo s (step.Asked call) moment r t es → (key : Key)
    → is_in (keys_in es) key ≡ (is_stored t.objects key && not (is_stored s.objects key))
came_with s call moment r t [] (same, read) key =
    never (is_stored s.objects key) ∙ ap (λ (u : State). is_stored u.objects key && not (is_stored s.objects key)) (sym same)
  where
    never : (b : Bool) → false ≡ (b && not b)
    never true = refl
    never false = refl
came_with s call moment r t (e ∷ []) enters key =
    by (is_in (keys_added e.added) key) (is_stored s.objects key) refl refl
    ∙ ap (λ (o : Objects). is_stored o key && not (is_stored s.objects key)) (sym now)
  where
    removes : e.removed ≡ []
    removes = (subst (StepPermits s e) enters.is_step enters.permitted.permits).1

    now : t.objects ≡ with_added s.objects e.added
    now = ap (λ (u : State). u.objects) (sym enters.state) ∙ objects_after s e ∙ ap (without (with_added s.objects e.added)) removes

    none_came : is_in (keys_added e.added) key ≡ false → is_stored s.objects key ≡ false → is_stored (with_added s.objects e.added) key ≡ false
    none_came not_in gone = false_from_ne_true (is_stored (with_added s.objects e.added) key) (λ is. either (stored_cases s.objects e.added key is))
      where
        either : (is_stored s.objects key ≡ true) ⊎ (is_in (keys_added e.added) key ≡ true) → ⊥
        either (inl there) = true≢false (sym there ∙ gone)
        either (inr among) = true≢false (sym among ∙ not_in)

    by : (among there : Bool) → is_in (keys_added e.added) key ≡ among → is_stored s.objects key ≡ there → is_in (keys_added e.added) key ≡ (is_stored (with_added s.objects e.added) key && not (is_stored s.objects key))
    by true true is there = absurd (true≢false (sym there ∙ added_gone s e call enters.is_step enters.permitted.permits key is))
    by true false is gone =
        is ∙ sym (ap (λ b. is_stored (with_added s.objects e.added) key && not b) gone ∙ ap (λ b. b && true) (added_stored s.objects e.added key is))
    by false true is there =
        is ∙ sym (ap (λ b. is_stored (with_added s.objects e.added) key && not b) there ∙ never (is_stored (with_added s.objects e.added) key))
      where
        never : (b : Bool) → (b && false) ≡ false
        never true = refl
        never false = refl
    by false false is gone = is ∙ sym (ap (λ b. b && not (is_stored s.objects key)) (none_came is gone))
came_with s call moment r t (e ∷ f ∷ es) none key = absurd none
