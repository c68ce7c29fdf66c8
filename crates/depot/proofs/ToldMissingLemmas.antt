-- What the index knows is never answered as missing. The key lemma is known_not_missing.
use Rattle.std.proofs.Common.{◌≡◌, ◌⊎◌, inl, inr, ◌||◌, not, ℕ, Bool, true, false, cond, filter, if◌then◌else◌, List, [], ◌∷◌, refl, sym, ap, ◌∙◌, subst, true≢false, Option, None, Some, is_some, IsTrue, nat_lt}
use Rattle.std.specs.FinMap as map
use Rattle.std.specs.List.{list_any}
use Rattle.ids.specs.declared.key.Key.{Key}
use Rattle.ids.specs.declared.key.Kind.{Kind}
use Rattle.library_rules.specs.Calls.{ids_of, keys_of, may, token_of}
use Rattle.library_rules.specs.LibraryState.{head_of, is_kept}
use Rattle.library_rules.proofs.MemberLemmas.{same_id-true}
use Rattle.library_state.specs.declared.call.Act.{Act}
use Rattle.library_state.specs.declared.call.Act.TheVariants as act
use Rattle.library_state.specs.declared.call.Call.{Call}
use Rattle.library_state.specs.declared.refusal.Refusal.TheVariants as refusal
use Rattle.library_state.specs.declared.reply.Reply.{Reply}
use Rattle.library_state.specs.declared.reply.Reply.TheVariants as reply
use Rattle.library_state.specs.declared.state.LibState.{LibState}
use Rattle.library_state.specs.declared.token.Token.{Token}
use Rattle.object_graph.specs.Objects.{commit_key, is_nil, same_id}
use Rattle.object_graph.specs.Traversal.{distinct_from, is_in}
use Rattle.object_store.specs.StoreView.{Index}
use Rattle.object_store.specs.declared.shelf.Slot.{Slot}
use Rattle.depot.specs.Answering.{MayAnswer, decided, is_free_reply, token_decided}
use Rattle.depot.specs.Held.{TellsMissing, absent, got, lacking, needed, needed_by}

module _ (index : Index) where
  -- ---- ids that are told absent

  abbrev Tells : Kind → List ℕ → List Key → List (List ℕ) → Type 0
  Tells k id met ids = list_any (same_id id) (ids_of (distinct_from met (lacking index (keys_of k ids)))) ≡ true

  told_step : (k : Kind) (id : List ℕ) (met : List Key) (other : List ℕ) (ids : List (List ℕ))
      → ((met : List Key) → Tells k id met ids → is_some (map.get index (record { kind = k; id = id })) ≡ false)
      → Tells k id met (other ∷ ids) → is_some (map.get index (record { kind = k; id = id })) ≡ false
  told_step k id met other ids rest tells = first (is_nil other) tells
    where
      key : Key
      key = record { kind = k; id = other }

      fourth : (same : Bool) → same_id id other ≡ same → is_some (map.get index key) ≡ false
          → (same || list_any (same_id id) (ids_of (distinct_from (key ∷ met) (lacking index (keys_of k ids))))) ≡ true → is_some (map.get index (record { kind = k; id = id })) ≡ false
      fourth true same lacks e = subst (λ (x : List ℕ). is_some (map.get index (record { kind = k; id = x })) ≡ false) (sym (same_id-true id other same)) lacks
      fourth false same lacks e = rest (key ∷ met) e

      third : (known : Bool) → is_some (map.get index key) ≡ false
          → list_any (same_id id) (ids_of (if known then distinct_from met (lacking index (keys_of k ids)) else key ∷ distinct_from (key ∷ met) (lacking index (keys_of k ids)))) ≡ true
          → is_some (map.get index (record { kind = k; id = id })) ≡ false
      third true lacks e = rest met e
      third false lacks e = fourth (same_id id other) refl lacks e

      second : (there : Bool) → is_some (map.get index key) ≡ there
          → list_any (same_id id) (ids_of (distinct_from met (cond (not there) (key ∷ lacking index (keys_of k ids)) (lacking index (keys_of k ids))))) ≡ true
          → is_some (map.get index (record { kind = k; id = id })) ≡ false
      second true is e = rest met e
      second false is e = third (is_in met key) is e

      first : (nil : Bool) → list_any (same_id id) (ids_of (distinct_from met (filter (λ (q : Key). not (is_some (map.get index q))) (if nil then keys_of k ids else key ∷ keys_of k ids)))) ≡ true
          → is_some (map.get index (record { kind = k; id = id })) ≡ false
      first true e = rest met e
      first false e = second (is_some (map.get index key)) refl e

  told_lacks : (k : Kind) (id : List ℕ) (ids : List (List ℕ)) (met : List Key) → Tells k id met ids → is_some (map.get index (record { kind = k; id = id })) ≡ false
  told_lacks k id [] met tells = absurd (true≢false (sym tells))
  told_lacks k id (other ∷ ids) met tells = told_step k id met other ids (told_lacks k id ids) tells

  -- ---- answers, of one who may ask and of any

  module _ (may_give : Slot → Option (List ℕ) → Type 0) (s : LibState) (key : Key) where
    abbrev Lacks : Type 0
    Lacks = is_some (map.get index key) ≡ false

    -- what the state decides is neither this answer nor a failure
    decides_other : (said r : Reply) → is_free_reply r ≡ false → (r ≡ said → ⊥) → (r ≡ said) ⊎ IsTrue (is_free_reply r) → ⊥
    decides_other said r free other (inl is) = other is
    decides_other said r free other (inr is) = true≢false (sym is ∙ free)

    absent_denied : reply.Refused (refusal.NoObject key) ≡ reply.Refused refusal.Denied → ⊥
    absent_denied e = cc

    incomplete_denied : reply.Refused (refusal.Incomplete key) ≡ reply.Refused refusal.Denied → ⊥
    incomplete_denied e = cc

    found_denied : (found : List (List ℕ)) → reply.Absent found ≡ reply.Refused refusal.Denied → ⊥
    found_denied found e = cc

    incomplete_updated : (id : List ℕ) → reply.Refused (refusal.Incomplete key) ≡ reply.Updated id → ⊥
    incomplete_updated id e = cc

    incomplete_stale : (last collection : ℕ) → reply.Refused (refusal.Incomplete key) ≡ reply.Refused (refusal.Stale last collection) → ⊥
    incomplete_stale last collection e = cc

    incomplete_lacking : (other : Key) → reply.Refused (refusal.Incomplete key) ≡ reply.Refused (refusal.NoObject other) → ⊥
    incomplete_lacking other e = cc

    got_lacks : (o : Option Token) → MayAnswer index may_give (act.Get key) (token_decided s (act.Get key) o) (reply.Refused (refusal.NoObject key)) → Lacks
    got_lacks None answers = absurd (decides_other (reply.Refused refusal.Denied) (reply.Refused (refusal.NoObject key)) refl absent_denied answers)
    got_lacks (Some token) answers = by (may token (act.Get key)) answers
      where
        by : (b : Bool) → MayAnswer index may_give (act.Get key) (if b then None else Some (reply.Refused refusal.Denied)) (reply.Refused (refusal.NoObject key)) → Lacks
        by true is = is.1
        by false is = absurd (decides_other (reply.Refused refusal.Denied) (reply.Refused (refusal.NoObject key)) refl absent_denied is)

    absent_lacks : (ids found : List (List ℕ)) → list_any (same_id key.id) found ≡ true → (o : Option Token)
        → MayAnswer index may_give (act.Missing key.kind ids) (token_decided s (act.Missing key.kind ids) o) (reply.Absent found) → Lacks
    absent_lacks ids found told None answers = absurd (decides_other (reply.Refused refusal.Denied) (reply.Absent found) refl (found_denied found) answers)
    absent_lacks ids found told (Some token) answers = by (may token (act.Missing key.kind ids)) answers
      where
        by : (b : Bool) → MayAnswer index may_give (act.Missing key.kind ids) (if b then None else Some (reply.Refused refusal.Denied)) (reply.Absent found) → Lacks
        by true is = told_lacks key.kind key.id ids [] (ap (λ (ids : List (List ℕ)). list_any (same_id key.id) ids) (sym is) ∙ told)
        by false is = absurd (decides_other (reply.Refused refusal.Denied) (reply.Absent found) refl (found_denied found) is)

    needed_lacks : (pushed : List ℕ) (o : Option Token)
        → MayAnswer index may_give (act.Update pushed) (token_decided s (act.Update pushed) o) (reply.Refused (refusal.Incomplete key)) → Lacks
    needed_lacks pushed None answers = absurd (decides_other (reply.Refused refusal.Denied) (reply.Refused (refusal.Incomplete key)) refl incomplete_denied answers)
    needed_lacks pushed (Some token) answers = by (may token (act.Update pushed)) (is_kept s.kept pushed) (nat_lt token.last s.collection) answers
      where
        by : (b kept stale : Bool) → MayAnswer index may_give (act.Update pushed)
            (if b then if kept then Some (reply.Updated (head_of s.kept)) else if stale then Some (reply.Refused (refusal.Stale token.last s.collection)) else None
            else Some (reply.Refused refusal.Denied)) (reply.Refused (refusal.Incomplete key)) → Lacks
        by true true stale is = absurd (decides_other (reply.Updated (head_of s.kept)) (reply.Refused (refusal.Incomplete key)) refl (incomplete_updated (head_of s.kept)) is)
        by true false true is =
            absurd (decides_other (reply.Refused (refusal.Stale token.last s.collection)) (reply.Refused (refusal.Incomplete key)) refl (incomplete_stale token.last s.collection) is)
        by true false false is = is
        by false kept stale is = absurd (decides_other (reply.Refused refusal.Denied) (reply.Refused (refusal.Incomplete key)) refl incomplete_denied is)

    listed_lacks : (server : List ℕ) (client : Option (List ℕ)) (o : Option Token)
        → MayAnswer index may_give (act.Ids server client) (token_decided s (act.Ids server client) o) (reply.Refused (refusal.Incomplete key)) → Lacks
    listed_lacks server client None answers = absurd (decides_other (reply.Refused refusal.Denied) (reply.Refused (refusal.Incomplete key)) refl incomplete_denied answers)
    listed_lacks server client (Some token) answers = by (may token (act.Ids server client)) (is_kept s.kept server) answers
      where
        by : (b kept : Bool) → MayAnswer index may_give (act.Ids server client)
            (if b then if kept then None else Some (reply.Refused (refusal.NoObject (commit_key server))) else Some (reply.Refused refusal.Denied)) (reply.Refused (refusal.Incomplete key)) → Lacks
        by true true is = is
        by true false is = absurd (decides_other (reply.Refused (refusal.NoObject (commit_key server))) (reply.Refused (refusal.Incomplete key)) refl (incomplete_lacking (commit_key server)) is)
        by false kept is = absurd (decides_other (reply.Refused refusal.Denied) (reply.Refused (refusal.Incomplete key)) refl incomplete_denied is)

    at_act : (call : Call) (r : Reply) → MayAnswer index may_give call.act (decided s call) r → (a : Act) {said : Reply} → call.act ≡ a → r ≡ said
        → MayAnswer index may_give a (token_decided s a (token_of s.tokens call.secret)) said
    at_act call r answers a {said} asks says =
        subst (λ (q : Reply). MayAnswer index may_give a (token_decided s a (token_of s.tokens call.secret)) q) says
        (subst (λ (b : Act). MayAnswer index may_give b (token_decided s b (token_of s.tokens call.secret)) r) asks answers)

    -- a key that an answer tells missing is one that the index lacks
    pub known_not_missing : (call : Call) (r : Reply) → MayAnswer index may_give call.act (decided s call) r → TellsMissing key call.act r → Lacks
    known_not_missing call r answers (got asks says) = got_lacks (token_of s.tokens call.secret) (at_act call r answers (act.Get key) asks says)
    known_not_missing call r answers (absent ids found asks says told) = absent_lacks ids found told (token_of s.tokens call.secret) (at_act call r answers (act.Missing key.kind ids) asks says)
    known_not_missing call r answers (needed pushed asks says) = needed_lacks pushed (token_of s.tokens call.secret) (at_act call r answers (act.Update pushed) asks says)
    known_not_missing call r answers (needed_by server client asks says) = listed_lacks server client (token_of s.tokens call.secret) (at_act call r answers (act.Ids server client) asks says)
