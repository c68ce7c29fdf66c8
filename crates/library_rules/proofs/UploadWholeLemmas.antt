-- The completeness of uploads over a history. The key lemmas are safe_between, up_to_date_between and upload_holds.
use Rattle.std.proofs.Common.{◌≡◌, ◌≢◌, ℕ, zero, suc, ◌≤◌, Bool, true, false, cond, List, [], ◌∷◌, Option, None, Some, refl, arith}
use Rattle.std.specs.List.{AllByRecursion, find}
use Rattle.std.specs.Str.{bytes_eq}
use Rattle.ids.specs.declared.key.Key.{Key}
use Rattle.library_state.specs.declared.call.Act.{Act}
use Rattle.library_state.specs.declared.call.Act.TheVariants as act
use Rattle.library_state.specs.declared.call.Call.{Call}
use Rattle.library_state.specs.declared.call.Op.TheVariants as op
use Rattle.library_state.specs.declared.refusal.Refusal.{Refusal}
use Rattle.library_state.specs.declared.reply.Reply.{Reply}
use Rattle.library_state.specs.declared.reply.Reply.TheVariants as reply
use Rattle.library_state.specs.declared.state.LibState.{LibState}
use Rattle.library_state.specs.declared.token.Token.{Token}
use Rattle.object_graph.specs.Objects.{commit_key}
use Rattle.object_graph.specs.Traversal.{walk_commit}
use Rattle.library_rules.specs.Changes.{with_last, seen_by, is_refused, with_install, head_in, moved, act_changes, step_changes, apply}
use Rattle.library_rules.specs.History.{Permits, Legal, after}
use Rattle.library_rules.specs.LateUpdates.{IsLate, IsUpToDate, NoneBegins, WasSafe, WasUploaded}
use Rattle.library_rules.specs.LibraryState.{State, IsSound, is_kept}
use Rattle.library_rules.specs.MergeBase.{chain_of}
use Rattle.library_rules.specs.Uploads.{is_safe, IsUploaded}
use Rattle.library_rules.specs.declared.entry.Entry.{Entry}
use Rattle.library_rules.specs.declared.entry.Step.{Step}
use Rattle.library_rules.specs.declared.entry.Step.TheVariants as step
use Rattle.library_rules.proofs.StepLemmas.{sound_apply}
use Rattle.library_rules.proofs.UploadLateLemmas.{not_late}
use Rattle.library_rules.proofs.UploadSafeLemmas.{stays_safe}

-- ---- places

first_none : (e : Entry) (es : List Entry) (to : ℕ) → NoneBegins (e ∷ es) 0 (suc to) → NoneBegins es 0 to
first_none e es to none = record { each = λ n f least below is. none.each (suc n) f (omega arith) (omega arith) is }

later_none : (e : Entry) (es : List Entry) (from to : ℕ) → NoneBegins (e ∷ es) (suc from) (suc to) → NoneBegins es from to
later_none e es from to none = record { each = λ n f least below is. none.each (suc n) f (omega arith) (omega arith) is }

first_other : (e : Entry) (es : List Entry) (to : ℕ) → NoneBegins (e ∷ es) 0 (suc to) → e.step ≢ step.Began
first_other e es to none = none.each 0 e (omega arith) (omega arith) refl

-- ---- safe keys

safe_along : (s : State) (es : List Entry) (to : ℕ) (key : Key) → Legal s es → IsSound s → NoneBegins es 0 to → is_safe s key ≡ true → is_safe (after s es to) key ≡ true
safe_along s es zero key legal sound none safe = safe
safe_along s [] (suc to) key legal sound none safe = safe
safe_along s (e ∷ es) (suc to) key legal sound none safe =
    safe_along (apply s e) es to key legal.1 (sound_apply s e legal.0.permits sound) (first_none e es to none)
    (stays_safe s e sound legal.0.permits (first_other e es to none) key safe)

pub safe_between : (s : State) (es : List Entry) (from to : ℕ) (key : Key) → Legal s es → IsSound s → from ≤ to → NoneBegins es from to → is_safe (after s es from) key ≡ true → is_safe (after s es to) key ≡ true
safe_between s es zero to key legal sound order none safe = safe_along s es to key legal sound none safe
safe_between s es (suc from) zero key legal sound order none safe = absurd (omega arith)
safe_between s [] (suc from) (suc to) key legal sound order none safe = safe
safe_between s (e ∷ es) (suc from) (suc to) key legal sound order none safe =
    safe_between (apply s e) es from to key legal.1 (sound_apply s e legal.0.permits sound) (omega arith) (later_none e es from to none) safe

-- ---- a token stays up to date

-- a token that is found, and saw the collection
record Seen (collection : ℕ) (o : Option Token) : Type 0 where
  token : Token
  known : o ≡ Some token
  seen : token.last ≡ collection

-- the token that is found in a changed list
abbrev found_in : (x : List ℕ) → List Token → Option Token
found_in x tokens = find (λ token. bytes_eq x token.secret) tokens

seen_first : (x : List ℕ) (c : ℕ) (t : Token) (ts : List Token) (d : Bool) → Seen c (cond d (Some t) (found_in x ts)) → Seen c (cond d (Some (record t { last = c })) (found_in x ts))
seen_first x c t ts true before = record { token = record t { last = c }; known = refl; seen = refl }
seen_first x c t ts false before = before

seen_later : (x y : List ℕ) (c : ℕ) (t : Token) (ts : List Token) (d : Bool) → Seen c (cond d (Some t) (found_in x ts)) → (Seen c (found_in x ts) → Seen c (found_in x (with_last y c ts))) → Seen c (cond d (Some t) (found_in x (with_last y c ts)))
seen_later x y c t ts true before later = before
seen_later x y c t ts false before later = later before

last_kept : (x y : List ℕ) (c : ℕ) (tokens : List Token) → Seen c (found_in x tokens) → Seen c (found_in x (with_last y c tokens))
last_kept x y c [] before = before
last_kept x y c (t ∷ ts) before = by (bytes_eq y t.secret) (last_kept x y c ts)
  where
    by : (b : Bool) → (Seen c (found_in x ts) → Seen c (found_in x (with_last y c ts))) → Seen c (found_in x (cond b (record t { last = c } ∷ ts) (t ∷ with_last y c ts)))
    by true later = seen_first x c t ts (bytes_eq x t.secret) before
    by false later = seen_later x y c t ts (bytes_eq x t.secret) before later

up_to_date_seen : (by : Option (List ℕ)) (c : ℕ) (tokens : List Token) (secret : Option (List ℕ)) → IsUpToDate tokens c secret → IsUpToDate (seen_by by c tokens) c secret
up_to_date_seen None c tokens secret is = is
up_to_date_seen (Some y) c tokens None is = let known = is.known in cc
up_to_date_seen (Some y) c tokens (Some x) is =
    let before : Seen c (found_in x tokens) = record { token = is.token; known = is.known; seen = is.seen } in
    let now = last_kept x y c tokens before in
    record { token = now.token; known = now.known; seen = now.seen }

-- the same of a state
abbrev pub UpToDateAt : State → Option (List ℕ) → Type 0
UpToDateAt s secret = IsUpToDate s.state.tokens s.state.collection secret

up_to_date_either : (secret : Option (List ℕ)) (b : Bool) (x y : State) → UpToDateAt x secret → UpToDateAt y secret → UpToDateAt (cond b x y) secret
up_to_date_either secret true x y p q = p
up_to_date_either secret false x y p q = q

up_to_date_next : (secret : Option (List ℕ)) (b : Bool) (x y : LibState) → IsUpToDate x.tokens x.collection secret → IsUpToDate y.tokens y.collection secret
    → IsUpToDate (cond b x y).tokens (cond b x y).collection secret
up_to_date_next secret true x y p q = p
up_to_date_next secret false x y p q = q

up_to_date_act : (by : Option (List ℕ)) (moment : ℕ) (a : Act) (r : Reply) (s : State) (secret : Option (List ℕ)) → UpToDateAt s secret → UpToDateAt (act_changes by moment a r s) secret
up_to_date_act by moment (act.Check op.Upload) r s secret is = up_to_date_seen by s.state.collection s.state.tokens secret is
up_to_date_act by moment (act.Check op.Download) r s secret is = is
up_to_date_act by moment act.Head r s secret is = is
up_to_date_act by moment (act.Get key) r s secret is = is
up_to_date_act by moment (act.Put key bytes) r s secret is = is
up_to_date_act by moment (act.Missing k ids) r s secret is = is
up_to_date_act by moment (act.Update pushed) r s secret is = up_to_date_next secret (is_kept s.state.kept pushed) s.state (with_install (head_in r pushed) pushed moment s.state) is is
up_to_date_act by moment (act.Limit days) r s secret is = is
up_to_date_act by moment (act.Ids server client) r s secret is = is

up_to_date_changes : (moment : ℕ) (st : Step) (r : Reply) (s : State) (secret : Option (List ℕ)) → st ≢ step.Began → UpToDateAt s secret → UpToDateAt (step_changes moment st r s) secret
up_to_date_changes moment (step.Asked call) r s secret other is = up_to_date_either secret (is_refused r) s (act_changes call.secret moment call.act r s) is (up_to_date_act call.secret moment call.act r s secret is)
up_to_date_changes moment step.Began r s secret other is = absurd (other refl)
up_to_date_changes moment step.Swept r s secret other is = is
up_to_date_changes moment step.Ended r s secret other is = is

up_to_date_after : (s : State) (e : Entry) (secret : Option (List ℕ)) → e.step ≢ step.Began → UpToDateAt s secret → UpToDateAt (apply s e) secret
up_to_date_after s e secret other is = up_to_date_changes e.moment e.step e.reply (moved s e.added e.removed) secret other is

up_to_date_along : (s : State) (es : List Entry) (to : ℕ) (secret : Option (List ℕ)) → NoneBegins es 0 to → UpToDateAt s secret → UpToDateAt (after s es to) secret
up_to_date_along s es zero secret none is = is
up_to_date_along s [] (suc to) secret none is = is
up_to_date_along s (e ∷ es) (suc to) secret none is =
    up_to_date_along (apply s e) es to secret (first_none e es to none) (up_to_date_after s e secret (first_other e es to none) is)

pub up_to_date_between : (s : State) (es : List Entry) (from to : ℕ) (secret : Option (List ℕ)) → from ≤ to → NoneBegins es from to → UpToDateAt (after s es from) secret → UpToDateAt (after s es to) secret
up_to_date_between s es zero to secret order none is = up_to_date_along s es to secret none is
up_to_date_between s es (suc from) zero secret order none is = absurd (omega arith)
up_to_date_between s [] (suc from) (suc to) secret order none is = is
up_to_date_between s (e ∷ es) (suc from) (suc to) secret order none is = up_to_date_between (apply s e) es from to secret (omega arith) (later_none e es from to none) is

-- ---- the whole

none_from : (es : List Entry) (from to more : ℕ) → NoneBegins es from to → from ≤ more → NoneBegins es more to
none_from es from to more none later = record { each = λ n f least below is. none.each n f (omega arith) below is }

module _ (start : State) (es : List Entry) (from to : ℕ) (legal : Legal start es) (sound : IsSound start) (none : NoneBegins es from to) where
  was_safe : (key : Key) → WasSafe start es from to key → is_safe (after start es to) key ≡ true
  was_safe key was = safe_between start es was.place to key legal sound was.most (none_from es from to was.place none was.least) was.safe

  all_keys : (keys : List Key) → AllByRecursion (WasSafe start es from to) keys → AllByRecursion (λ key. is_safe (after start es to) key ≡ true) keys
  all_keys [] all = tt
  all_keys (key ∷ keys) all = (was_safe key all.0, all_keys keys all.1)

  all_ids : (ids : List (List ℕ)) → AllByRecursion (λ id. WasSafe start es from to (commit_key id)) ids → AllByRecursion (λ id. is_safe (after start es to) (commit_key id) ≡ true) ids
  all_ids [] all = tt
  all_ids (id ∷ ids) all = (was_safe (commit_key id) all.0, all_ids ids all.1)

  pub still_uploaded : (pushed : List ℕ) → WasUploaded start es from to pushed → IsUploaded (after start es to) pushed
  still_uploaded pushed was = record {
    visited = all_keys (walk_commit (after start es to).objects pushed).visits was.visited;
    chain = all_ids (chain_of (after start es to) pushed) was.chain;
  }

-- since the upload was checked no collection began, and each key was safe at some time
pub upload_holds : (start : State) (es : List Entry) (from to : ℕ) → Legal start es → IsSound start → from ≤ to → NoneBegins es from to
    → (call : Call) (pushed : List ℕ) → IsUpToDate (after start es from).state.tokens (after start es from).state.collection call.secret → WasUploaded start es from to pushed
    → (e : Entry) → e.step ≡ step.Asked call → call.act ≡ act.Update pushed → Permits (after start es to) e → (why : Refusal) → IsLate why → e.reply ≢ reply.Refused why
upload_holds start es from to legal sound order none call pushed checked was e asked updates permits why late =
    let now = up_to_date_between start es from to call.secret order none checked in
    not_late (after start es to) e call now.token pushed permits asked updates now.known now.seen (still_uploaded start es from to legal sound none pushed was) why late
