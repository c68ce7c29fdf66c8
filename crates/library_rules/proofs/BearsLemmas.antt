-- What the reply of a permitted call says that isn't refused. The key lemma is bears.
use Rattle.std.proofs.Common.{◌≡◌, ◌⊎◌, inl, inr, ℕ, nat_lt, ℤ, Bool, true, false, if◌then◌else◌, List, [], ◌∷◌, ◌++◌, refl, sym, ap, subst, true≢false, Option, None, Some}
use Rattle.ids.specs.declared.key.Key.{Key}
use Rattle.library_state.specs.declared.call.Act.{Act}
use Rattle.library_state.specs.declared.call.Act.TheVariants as act
use Rattle.library_state.specs.declared.call.Call.{Call}
use Rattle.library_state.specs.declared.refusal.Refusal.{Refusal}
use Rattle.library_state.specs.declared.refusal.Refusal.TheVariants as refusal
use Rattle.library_state.specs.declared.reply.Reply.{Reply}
use Rattle.library_state.specs.declared.reply.Reply.TheVariants as reply
use Rattle.library_state.specs.declared.token.Token.{Token}
use Rattle.object_graph.specs.Objects.{same_id}
use Rattle.object_graph.specs.Traversal.{walk_commit, is_in, needs, IsComplete}
use Rattle.object_graph.specs.Unchanged.{AgreeOn}
use Rattle.object_graph.specs.declared.fault.TreeFault.{TreeFault}
use Rattle.object_graph.proofs.KeyLemmas.{same_key, same_key-true}
use Rattle.library_rules.specs.Answered.{Plain, Fails, OrFails}
use Rattle.library_rules.specs.Calls.{Denies, Says, Stores, Installs, Merges, may, first_refusal, put_refusals, complete_due, base_due, update_due, act_due, token_due, due, token_of}
use Rattle.library_rules.specs.Changes.{with_added, without, moved, is_refused, told_by, head_in}
use Rattle.library_rules.specs.LibraryState.{State, head_of, is_kept, is_stored, is_day_count}
use Rattle.library_rules.specs.MergeBase.{Based, Base, NoBase, base_of, refusal_of}
use Rattle.library_rules.specs.Permitted.{DuePermits}
use Rattle.library_rules.specs.declared.entry.Entry.{Entry}
use Rattle.library_rules.proofs.KeepingLemmas.{grown, still_stored, still_complete, agrees_grown}
use Rattle.library_rules.proofs.MemberLemmas.{apart}
use Rattle.library_rules.proofs.SoundLemmas.{Bears}
use Rattle.library_rules.proofs.CallsLemmas.{update_due-is, put_due-is, taken, put_by}
use Rattle.std.proofs.lemmas.Bool.{or_cases}

pub refused_not : (r : Reply) (why : Refusal) → r ≡ reply.Refused why → is_refused r ≡ false → ⊥
refused_not r why is goes = apart (is_refused r) (ap is_refused is) goes

-- an entry of a call that isn't refused
module _ (s : State) (e : Entry) (goes : is_refused e.reply ≡ false) (none : e.removed ≡ []) where
  pub or_says : (r : Reply) → OrFails s e (Plain s e r) → e.reply ≡ r
  or_says r p = elim (p.0) [ inl plain ↦ plain.reply | inr fails ↦ absurd (refused_not e.reply fails.why fails.reply goes) ]

  pub not_refused : (why : Refusal) → OrFails s e (Plain s e (reply.Refused why)) → ⊥
  not_refused why p = refused_not e.reply why (or_says (reply.Refused why) p) goes

  nothing_left : (key : Key) → is_in e.removed key ≡ false
  nothing_left key = subst (λ keys. is_in keys key ≡ false) (sym none) refl

  complete_then : (id : List ℕ) → IsComplete s.objects id → IsComplete (without (with_added s.objects e.added) e.removed) id
  complete_then id complete =
      still_complete s.objects (without (with_added s.objects e.added) e.removed) id
      (subst (λ keys. AgreeOn (needs s.objects id) s.objects (without (with_added s.objects e.added) keys)) (sym none)
      (agrees_grown s.objects (with_added s.objects e.added) id complete (grown s.objects e.added)))
      complete

  bears_put : (key : Key) (bytes : List ℕ) (o : Option Refusal) → DuePermits s e (put_by s key bytes o)
      → (k : Key) → is_in (told_by key e.reply) k ≡ true → is_stored (without (with_added s.objects e.added) e.removed) k ≡ true
  bears_put key bytes (Some why) p k told = absurd (not_refused why p)
  bears_put key bytes None p k told = by (is_stored s.objects key) refl p
    where
      same : is_stored s.objects key ≡ true → (same_key k key ≡ true) ⊎ (false ≡ true) → is_stored (without (with_added s.objects e.added) e.removed) k ≡ true
      same is (inl one) =
          subst (λ q. is_stored (without (with_added s.objects e.added) e.removed) q ≡ true) (sym (same_key-true k key one))
          (still_stored s.objects e.added e.removed key is (nothing_left key))
      same is (inr never) = absurd (true≢false (sym never))

      new : (Plain s e (reply.Stored true) × (e.added ≡ record { key = key; bytes = bytes } ∷ [])) ⊎ (Fails s e × (e.added ≡ []))
          → is_stored (without (with_added s.objects e.added) e.removed) k ≡ true
      new (inl put) = absurd (true≢false (sym (subst (λ r. is_in (told_by key r) k ≡ true) put.0.reply told)))
      new (inr fails) = absurd (refused_not e.reply fails.0.why fails.0.reply goes)

      by : (b : Bool) → is_stored s.objects key ≡ b → DuePermits s e (if b then Says (reply.Stored false) else Stores (record { key = key; bytes = bytes }))
          → is_stored (without (with_added s.objects e.added) e.removed) k ≡ true
      by true is p = same is (or_cases (same_key k key) false (subst (λ r. is_in (told_by key r) k ≡ true) (or_says (reply.Stored false) p) told))
      by false is p = new p

  abbrev Becomes : List ℕ → Type 0
  Becomes pushed = IsComplete (without (with_added s.objects e.added) e.removed) (head_in e.reply pushed) × IsComplete (without (with_added s.objects e.added) e.removed) pushed

  bears_complete : (user base pushed : List ℕ) (o : Option TreeFault) → (walk_commit s.objects pushed).fault ≡ o
      → DuePermits s e (complete_due s user base pushed o) → Becomes pushed
  bears_complete user base pushed (Some fault) is p = absurd (not_refused (refusal_of fault) p)
  bears_complete user base pushed None is p = by (same_id base (head_of s.state.kept)) p
    where
      old : IsComplete (without (with_added s.objects e.added) e.removed) pushed
      old = complete_then pushed is

      head_is : (new : List ℕ) → e.reply ≡ reply.Updated new → IsComplete (without (with_added s.objects e.added) e.removed) new
          → IsComplete (without (with_added s.objects e.added) e.removed) (head_in e.reply pushed)
      head_is new says complete = subst (λ r. IsComplete (without (with_added s.objects e.added) e.removed) (head_in r pushed)) (sym says) complete

      by : (b : Bool) → DuePermits s e (if b then Installs pushed else Merges user base pushed) → Becomes pushed
      by true p = (head_is pushed (or_says (reply.Updated pushed) p) old, old)
      by false p = elim p [
        | inl merged ↦ (
          head_is merged.new merged.says.reply
              (subst (λ keys. IsComplete (without (with_added s.objects e.added) keys) merged.new) (sym none) merged.made.complete),
          old,
        )
        | inr not_merged ↦ absurd (refused_not e.reply not_merged.why not_merged.reply goes)
      ]

  bears_base : (user pushed : List ℕ) (b : Based) → DuePermits s e (base_due s user pushed b) → Becomes pushed
  bears_base user pushed (NoBase why) p = absurd (not_refused why p)
  bears_base user pushed (Base base) p = bears_complete user base pushed (walk_commit s.objects pushed).fault refl p

  bears_update : (token : Token) (pushed : List ℕ) → DuePermits s e (update_due s token pushed) → is_kept s.state.kept pushed ≡ false → Becomes pushed
  bears_update token pushed p new = by (is_kept s.state.kept pushed) refl (subst (DuePermits s e) (update_due-is s token pushed) p)
    where
      fresh : (b : Bool) → DuePermits s e (if b then Says (reply.Refused (refusal.Stale token.last s.state.collection)) else base_due s token.user pushed (base_of s pushed)) → Becomes pushed
      fresh true p = absurd (not_refused (refusal.Stale token.last s.state.collection) p)
      fresh false p = bears_base token.user pushed (base_of s pushed) p

      by : (b : Bool) → is_kept s.state.kept pushed ≡ b
          → DuePermits s e (if b then Says (reply.Updated (head_of s.state.kept))
          else if nat_lt token.last s.state.collection then Says (reply.Refused (refusal.Stale token.last s.state.collection)) else base_due s token.user pushed (base_of s pushed))
          → Becomes pushed
      by true is p = absurd (apart (is_kept s.state.kept pushed) is new)
      by false is p = fresh (nat_lt token.last s.state.collection) p

  bears_limit : (days : ℤ) → DuePermits s e (Says (if is_day_count days then reply.Limited else reply.Refused (refusal.BadDays days))) → is_day_count days ≡ true
  bears_limit days p = by (is_day_count days) refl p
    where
      by : (b : Bool) → is_day_count days ≡ b → DuePermits s e (Says (if b then reply.Limited else reply.Refused (refusal.BadDays days))) → is_day_count days ≡ true
      by true is p = is
      by false is p = absurd (not_refused (refusal.BadDays days) p)

  bears_act : (token : Token) (a : Act) → DuePermits s e (act_due s token a) → Bears (moved s e.added e.removed) a e.reply
  bears_act token (act.Check o) p = tt
  bears_act token act.Head p = tt
  bears_act token (act.Get key) p = tt
  bears_act token (act.Put key bytes) p = bears_put key bytes (first_refusal (put_refusals s.state.lib key.kind key bytes ++ taken s key bytes ∷ []))
      (subst (DuePermits s e) (put_due-is s key bytes) p)
  bears_act token (act.Missing k ids) p = tt
  bears_act token (act.Update pushed) p = bears_update token pushed p
  bears_act token (act.Limit days) p = bears_limit days p
  bears_act token (act.Ids server client) p = tt

  not_denied : DuePermits s e Denies → ⊥
  not_denied p = elim (p.0) [
    | inl plain ↦ refused_not e.reply refusal.Denied plain.reply goes
    | inr plain ↦ refused_not e.reply refusal.NoMemory plain.reply goes
  ]

  -- a call that isn't refused was asked by one whose right is enough
  pub record Allowed (a : Act) (o : Option Token) : Type 0 where
    pub token : Token
    pub is : o ≡ Some token
    pub permits : DuePermits s e (act_due s token a)

  pub allowed : (a : Act) (o : Option Token) → DuePermits s e (token_due s a o) → Allowed a o
  allowed a None p = absurd (not_denied p)
  allowed a (Some token) p = by (may token a) p
    where
      by : (b : Bool) → DuePermits s e (if b then act_due s token a else Denies) → Allowed a (Some token)
      by true p = record { token = token; is = refl; permits = p }
      by false p = absurd (not_denied p)

  pub bears : (call : Call) → DuePermits s e (due s call) → Bears (moved s e.added e.removed) call.act e.reply
  bears call p = let who = allowed call.act (token_of s.state.tokens call.secret) p in bears_act who.token call.act who.permits
