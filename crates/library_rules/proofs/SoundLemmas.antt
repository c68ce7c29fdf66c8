-- What keeps a state sound, layer by layer. The key lemmas are sound_moved, sound_act, sound_begun and sound_swept.
use Rattle.std.proofs.Common.{◌≡◌, ◌⊎◌, inl, inr, ℕ, ◌+◌, ◌≤◌, ◌<◌, ℤ, Bool, true, false, if◌then◌else◌, cond, List, [], ◌∷◌, ◌++◌, length, refl, sym, ap, ◌∙◌, subst, true≢false, arith, Option, None, Some, option_map, le_refl}
use Rattle.std.specs.FinMap as map
use Rattle.std.specs.FinSet as set
use Rattle.std.specs.List.{AllByRecursion, IsDistinct}
use Rattle.std.specs.Prelude.{⊤, map as map_list}
use Rattle.std.specs.Str.{bytes_eq}
use Rattle.ids.specs.Key.{Objects, key_cmp}
use Rattle.ids.specs.declared.key.Key.{Key}
use Rattle.library_state.specs.Retention.{kept_for}
use Rattle.library_state.specs.declared.call.Act.{Act}
use Rattle.library_state.specs.declared.call.Act.TheVariants as act
use Rattle.library_state.specs.declared.call.Op.TheVariants as op
use Rattle.library_state.specs.declared.history.Install.{Install}
use Rattle.library_state.specs.declared.reply.Reply.{Reply}
use Rattle.library_state.specs.declared.token.Token.{Token}
use Rattle.object_graph.specs.Traversal.{IsComplete, is_in}
use Rattle.object_graph.proofs.KeyLemmas.{same_key, same_key-true}
use Rattle.library_rules.specs.Calls.{keys_of}
use Rattle.library_rules.specs.Changes.{with_added, without, keys_added, fresher, moved, with_last, seen_by, told_by, stored_keys, head_in, with_install, act_changes, begun, turn_counted, swept, ended, counted}
use Rattle.library_rules.specs.LibraryState.{State, Running, is_kept, is_stored, is_needed, is_fresh, AreKept, AreTokens, AreNumbers, IsSound, last_number, is_day_count}
use Rattle.library_rules.specs.declared.entry.Stored.{Stored}
use Rattle.library_rules.proofs.KeepingLemmas.{added_stored, still_stored, agrees_moved, still_complete}
use Rattle.library_rules.proofs.KeptHistoryLemmas.{cut_kept, cut_some, installed_cases}
use Rattle.library_rules.proofs.MemberLemmas.{apart, in_all}
use Rattle.std.proofs.lemmas.Bool.{or_cases, false_from_ne_true}
use Rattle.std.proofs.lemmas.List.{length-map}
use Rattle.ids.proofs.BasicLemmas.{pushed_is_some}

-- ---- kept commits and fresh keys

pub fresh_cases : (keys : List Key) (running : Option Running) (key : Key) → is_fresh (option_map (fresher keys) running) key ≡ true
    → (is_in keys key ≡ true) ⊎ (is_fresh running key ≡ true)
fresh_cases keys None key e = absurd (true≢false (sym e))
fresh_cases keys (Some r) key e = or_cases (is_in keys key) (set.contains r.fresh key) (sym (in_all keys r.fresh key) ∙ e)

pub fresh_counted : (b : Bool) (running : Option Running) (key : Key) → is_fresh (option_map (turn_counted b) running) key ≡ is_fresh running key
fresh_counted b None key = refl
fresh_counted b (Some r) key = refl

module _ (A : Objects) (kept : List Install) (running : Option Running) (are : AreKept A kept running) where
  pub kept_moved : (added : List Stored) (removed : List Key)
      → ((key : Key) → is_in removed key ≡ true → is_needed A kept key ≡ false)
      → ((key : Key) → is_in removed key ≡ true → is_fresh running key ≡ false)
      → (added ≡ []) ⊎ (removed ≡ [])
      → AreKept (without (with_added A added) removed) kept (option_map (fresher (keys_added added)) running)
  kept_moved added removed unneeded not_fresh one = record {
    some_kept = are.some_kept;
    complete = λ id is_one. still_complete A (without (with_added A added) removed) id
        (agrees_moved A kept added removed id is_one (are.complete id is_one) unneeded one) (are.complete id is_one);
    fresh_stored = λ key e. fresh key (fresh_cases (keys_added added) running key e);
  }
    where
      came : (key : Key) → is_in (keys_added added) key ≡ true → (added ≡ []) ⊎ (removed ≡ []) → is_stored (without (with_added A added) removed) key ≡ true
      came key e (inl none) = absurd (true≢false (sym (subst (λ xs. is_in (keys_added xs) key ≡ true) none e)))
      came key e (inr none) = subst (λ keys. is_stored (without (with_added A added) keys) key ≡ true) (sym none) (added_stored A added key e)

      fresh : (key : Key) → (is_in (keys_added added) key ≡ true) ⊎ (is_fresh running key ≡ true) → is_stored (without (with_added A added) removed) key ≡ true
      fresh key (inl new) = came key new one
      fresh key (inr old) = still_stored A added removed key (are.fresh_stored key old)
          (false_from_ne_true (is_in removed key) (λ gone. apart (is_fresh running key) old (not_fresh key gone)))

  pub kept_told : (keys : List Key) → ((key : Key) → is_in keys key ≡ true → is_stored A key ≡ true) → AreKept A kept (option_map (fresher keys) running)
  kept_told keys stored = record { some_kept = are.some_kept; complete = are.complete; fresh_stored = λ key e. by key (fresh_cases keys running key e) }
    where
      by : (key : Key) → (is_in keys key ≡ true) ⊎ (is_fresh running key ≡ true) → is_stored A key ≡ true
      by key (inl told) = stored key told
      by key (inr old) = are.fresh_stored key old

  pub kept_installed : (head pushed : List ℕ) (moment : ℕ) → IsComplete A head → IsComplete A pushed
      → AreKept A (kept ++ record { head = head; pushed = pushed; at = moment } ∷ []) running
  kept_installed head pushed moment head_is pushed_is = record {
    some_kept = pushed_is_some kept (record { head = head; pushed = pushed; at = moment });
    complete = λ id e. by id (installed_cases kept head pushed moment id e);
    fresh_stored = are.fresh_stored;
  }
    where
      by : (id : List ℕ) → (is_kept kept id ≡ true) ⊎ ((id ≡ head) ⊎ (id ≡ pushed)) → IsComplete A id
      by id (inl old) = are.complete id old
      by id (inr (inl same)) = subst (IsComplete A) (sym same) head_is
      by id (inr (inr same)) = subst (IsComplete A) (sym same) pushed_is

  pub kept_begun : (days : ℤ) (moment stored : ℕ) → AreKept A (kept_for days moment kept) (Some (record { fresh = set.empty; stored = stored; turned = 0 }))
  kept_begun days moment stored = record {
    some_kept = cut_some days moment kept are.some_kept;
    complete = λ id e. are.complete id (cut_kept days moment kept id e);
    fresh_stored = λ key e. absurd (apart (set.contains set.empty key) e (set.contains-empty key_cmp key));
  }

  pub kept_swept : (b : Bool) → AreKept A kept (option_map (turn_counted b) running)
  kept_swept b = record { some_kept = are.some_kept; complete = are.complete; fresh_stored = λ key e. are.fresh_stored key (sym (fresh_counted b running key) ∙ e) }

  pub kept_ended : AreKept A kept None
  kept_ended = record { some_kept = are.some_kept; complete = are.complete; fresh_stored = λ key e. absurd (true≢false (sym e)) }

-- ---- tokens

module _ (secret : List ℕ) (n : ℕ) where
  -- what doesn't look at the collection that a token saw last
  map_last : {A : Type 0} (f : Token → A) → ((t : Token) → f (record t { last = n }) ≡ f t) → (tokens : List Token) → map_list f (with_last secret n tokens) ≡ map_list f tokens
  map_last f same [] = refl
  map_last f same (t ∷ tokens) = by (bytes_eq secret t.secret) (map_last f same tokens)
    where
      by : (b : Bool) → map_list f (with_last secret n tokens) ≡ map_list f tokens
          → map_list f (if b then record t { last = n } ∷ tokens else t ∷ with_last secret n tokens) ≡ f t ∷ map_list f tokens
      by true rest = ap (λ told. told ∷ map_list f tokens) (same t)
      by false rest = ap (λ all. f t ∷ all) rest

  length_last : (tokens : List Token) → length (with_last secret n tokens) ≡ length tokens
  length_last tokens = sym (length-map (with_last secret n tokens) (λ token. token.user)) ∙ ap length (map_last (λ token. token.user) (λ t. refl) tokens) ∙ length-map tokens (λ token. token.user)

  lasts_last : (tokens : List Token) → AllByRecursion (λ (t : Token). t.last ≤ n) tokens → AllByRecursion (λ (t : Token). t.last ≤ n) (with_last secret n tokens)
  lasts_last [] all = tt
  lasts_last (t ∷ tokens) all = by (bytes_eq secret t.secret) (lasts_last tokens all.1)
    where
      by : (b : Bool) → AllByRecursion (λ (t : Token). t.last ≤ n) (with_last secret n tokens)
          → AllByRecursion (λ (t : Token). t.last ≤ n) (if b then record t { last = n } ∷ tokens else t ∷ with_last secret n tokens)
      by true rest = (le_refl n, all.1)
      by false rest = (all.0, rest)

pub tokens_seen : (secret : Option (List ℕ)) (n : ℕ) (tokens : List Token) → AreTokens tokens n → AreTokens (seen_by secret n tokens) n
tokens_seen None n tokens are = are
tokens_seen (Some secret) n tokens are = record {
  secrets = subst (IsDistinct bytes_eq) (sym (map_last secret n (λ token. token.secret) (λ t. refl) tokens)) are.secrets;
  few = subst (λ k. k ≤ 1000) (sym (length_last secret n tokens)) are.few;
  lasts = lasts_last secret n tokens are.lasts;
  users = subst (AllByRecursion (λ user. (1 ≤ length user) × (length user ≤ 255))) (sym (map_last secret n (λ token. token.user) (λ t. refl) tokens)) are.users;
}

lasts_more : (n : ℕ) (tokens : List Token) → AllByRecursion (λ (t : Token). t.last ≤ n) tokens → AllByRecursion (λ (t : Token). t.last ≤ n + 1) tokens
lasts_more n [] all = tt
lasts_more n (t ∷ tokens) all = (more t.last all.0, lasts_more n tokens all.1)
  where
    more : (k : ℕ) → k ≤ n → k ≤ n + 1
    more k le = omega arith

pub tokens_begun : (n : ℕ) (tokens : List Token) → AreTokens tokens n → AreTokens tokens (n + 1)
tokens_begun n tokens are = record { secrets = are.secrets; few = are.few; lasts = lasts_more n tokens are.lasts; users = are.users }

pub next_number : (n : ℕ) → n < last_number → n + 1 ≤ last_number
next_number n less = omega arith

pub numbers_begun : (collection opening : ℕ) (days : ℤ) (name : List ℕ) → collection < last_number → AreNumbers collection opening days name → AreNumbers (collection + 1) opening days name
numbers_begun collection opening days name less are = record {
  collections = next_number collection less;
  opened = are.opened;
  openings = are.openings;
  day_count = are.day_count;
  name_size = are.name_size;
}

pub numbers_limited : (collection opening : ℕ) (days new : ℤ) (name : List ℕ) → is_day_count new ≡ true → AreNumbers collection opening days name → AreNumbers collection opening new name
numbers_limited collection opening days new name fits are = record {
  collections = are.collections;
  opened = are.opened;
  openings = are.openings;
  day_count = fits;
  name_size = are.name_size;
}

-- ---- states

pub sound_moved : (s : State) (added : List Stored) (removed : List Key)
    → ((key : Key) → is_in removed key ≡ true → is_needed s.objects s.state.kept key ≡ false)
    → ((key : Key) → is_in removed key ≡ true → is_fresh s.running key ≡ false)
    → (added ≡ []) ⊎ (removed ≡ []) → IsSound s → IsSound (moved s added removed)
sound_moved s added removed unneeded not_fresh one sound = record {
  kept = kept_moved s.objects s.state.kept s.running sound.kept added removed unneeded not_fresh one;
  tokens = sound.tokens;
  numbers = sound.numbers;
}

pub sound_told : (s : State) (keys : List Key) → ((key : Key) → is_in keys key ≡ true → is_stored s.objects key ≡ true) → IsSound s → IsSound (record s { running = option_map (fresher keys) s.running })
sound_told s keys stored sound = record { kept = kept_told s.objects s.state.kept s.running sound.kept keys stored; tokens = sound.tokens; numbers = sound.numbers }

pub sound_checked : (s : State) (secret : Option (List ℕ)) → IsSound s → IsSound (record s { state = record s.state { tokens = seen_by secret s.state.collection s.state.tokens } })
sound_checked s secret sound = record { kept = sound.kept; tokens = tokens_seen secret s.state.collection s.state.tokens sound.tokens; numbers = sound.numbers }

pub sound_installed : (s : State) (head pushed : List ℕ) (moment : ℕ) → IsComplete s.objects head → IsComplete s.objects pushed → IsSound s
    → IsSound (record s { state = with_install head pushed moment s.state })
sound_installed s head pushed moment head_is pushed_is sound = record {
  kept = kept_installed s.objects s.state.kept s.running sound.kept head pushed moment head_is pushed_is;
  tokens = sound.tokens;
  numbers = sound.numbers;
}

pub sound_begun : (s : State) (moment : ℕ) → s.state.collection < last_number → IsSound s → IsSound (begun moment s)
sound_begun s moment less sound = record {
  kept = kept_begun s.objects s.state.kept s.running sound.kept s.state.days moment (map.len s.objects);
  tokens = tokens_begun s.state.collection s.state.tokens sound.tokens;
  numbers = numbers_begun s.state.collection s.state.opening s.state.days s.state.name less sound.numbers;
}

pub sound_swept : (s : State) (refused : Bool) → IsSound s → IsSound (swept refused s)
sound_swept s refused sound = record { kept = kept_swept s.objects s.state.kept s.running sound.kept refused; tokens = sound.tokens; numbers = sound.numbers }

pub sound_ended : (s : State) → IsSound s → IsSound (ended s)
sound_ended s sound = record { kept = kept_ended s.objects s.state.kept s.running sound.kept; tokens = sound.tokens; numbers = sound.numbers }

pub sound_counted : (s : State) (faults : ℕ) → IsSound s → IsSound (counted faults s)
sound_counted s faults sound = record { kept = sound.kept; tokens = sound.tokens; numbers = sound.numbers }

-- ---- what a call changes

-- what the reply of a call says that isn't refused: keys told present are stored, new kept commits are complete, and
-- a number of days is within its limits
abbrev pub Bears : State → Act → Reply → Type 0
Bears m (act.Check o) r = ⊤
Bears m act.Head r = ⊤
Bears m (act.Get key) r = ⊤
Bears m (act.Put key bytes) r = (k : Key) → is_in (told_by key r) k ≡ true → is_stored m.objects k ≡ true
Bears m (act.Missing k ids) r = ⊤
Bears m (act.Update pushed) r = is_kept m.state.kept pushed ≡ false → IsComplete m.objects (head_in r pushed) × IsComplete m.objects pushed
Bears m (act.Limit days) r = is_day_count days ≡ true
Bears m (act.Ids server client) r = ⊤

pub stored_in_keys : (A : Objects) (keys : List Key) (key : Key) → is_in (stored_keys A keys) key ≡ true → is_stored A key ≡ true
stored_in_keys A [] key e = absurd (true≢false (sym e))
stored_in_keys A (k ∷ keys) key e = by (is_stored A k) refl (λ h. stored_in_keys A keys key h) e
  where
    one : is_stored A k ≡ true → (is_in (stored_keys A keys) key ≡ true → is_stored A key ≡ true)
        → (same_key key k ≡ true) ⊎ (is_in (stored_keys A keys) key ≡ true) → is_stored A key ≡ true
    one is rest (inl same) = subst (λ q. is_stored A q ≡ true) (sym (same_key-true key k same)) is
    one is rest (inr other) = rest other

    by : (b : Bool) → is_stored A k ≡ b → (is_in (stored_keys A keys) key ≡ true → is_stored A key ≡ true)
        → is_in (cond b (k ∷ stored_keys A keys) (stored_keys A keys)) key ≡ true → is_stored A key ≡ true
    by true is rest e = one is rest (or_cases (same_key key k) (is_in (stored_keys A keys) key) e)
    by false is rest e = rest e

pub sound_act : (secret : Option (List ℕ)) (moment : ℕ) (a : Act) (r : Reply) (m : State) → Bears m a r → IsSound m → IsSound (act_changes secret moment a r m)
sound_act secret moment (act.Check op.Upload) r m bears sound = sound_checked m secret sound
sound_act secret moment (act.Check op.Download) r m bears sound = sound
sound_act secret moment act.Head r m bears sound = sound
sound_act secret moment (act.Get key) r m bears sound = sound
sound_act secret moment (act.Put key bytes) r m bears sound = sound_told m (told_by key r) bears sound
sound_act secret moment (act.Missing k ids) r m bears sound = sound_told m (stored_keys m.objects (keys_of k ids)) (stored_in_keys m.objects (keys_of k ids)) sound
sound_act secret moment (act.Update pushed) r m bears sound = by (is_kept m.state.kept pushed) refl
  where
    by : (b : Bool) → is_kept m.state.kept pushed ≡ b → IsSound (record m { state = if b then m.state else with_install (head_in r pushed) pushed moment m.state })
    by true is = sound
    by false is = sound_installed m (head_in r pushed) pushed moment (bears is).0 (bears is).1 sound
sound_act secret moment (act.Limit days) r m bears sound = record {
  kept = sound.kept;
  tokens = sound.tokens;
  numbers = numbers_limited m.state.collection m.state.opening m.state.days days m.state.name bears sound.numbers;
}
sound_act secret moment (act.Ids server client) r m bears sound = sound
