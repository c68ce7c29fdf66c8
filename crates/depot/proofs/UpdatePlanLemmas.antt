-- What is planned, case by case. The key lemmas are due_known, due_stale, due_unknown, due_of, unknown_fault, forwards and merges_due.
use Rattle.std.proofs.Common.{◌≡◌, ◌≢◌, ◌⊎◌, inl, inr, ℕ, Bool, true, false, if◌then◌else◌, cond, nat_lt, List, [], ◌∷◌, ◌++◌, length, refl, sym, ap, ◌∙◌, subst, true≢false, Option, None, Some, is_some, Result, Ok, Err}
use Rattle.std.specs.FinMap as map
use Rattle.std.specs.List.{AllByRecursion, IsDistinct}
use Rattle.std.specs.Ordering.{eq_by_cmp}
use Rattle.ids.specs.Key.{Objects, key_cmp}
use Rattle.ids.specs.declared.key.Key.{Key}
use Rattle.ids.proofs.KeyOrderLemmas.{key_cmp_total}
use Rattle.library_rules.specs.Calls.{Due, Denies, Says, Stores, Installs, Merges, act_due, base_due, complete_due, due, may, token_due, token_of, update_due}
use Rattle.library_rules.specs.Changes.{keys_added, put_new}
use Rattle.library_rules.specs.LibraryState.{IsSound, State, head_of, is_kept, is_stored}
use Rattle.library_rules.specs.MergeBase.{Based, Base, NoBase, base_of}
use Rattle.library_rules.specs.declared.entry.Stored.{Stored}
use Rattle.library_rules.proofs.HeadsLemmas.{base_kept}
use Rattle.library_rules.proofs.HeadTreeLemmas.{head_kept}
use Rattle.library_state.specs.declared.call.Act.TheVariants as act
use Rattle.library_state.specs.declared.call.Call.{Call}
use Rattle.library_state.specs.declared.refusal.Refusal.{Refusal}
use Rattle.library_state.specs.declared.refusal.Refusal.TheVariants as refusal
use Rattle.library_state.specs.declared.reply.Reply.TheVariants as reply
use Rattle.library_state.specs.declared.state.LibState.{LibState}
use Rattle.library_state.specs.declared.token.Token.{Token}
use Rattle.object_graph.specs.Objects.{same_id}
use Rattle.object_graph.specs.Traversal.{IsComplete, walk_commit}
use Rattle.object_graph.specs.declared.fault.TreeFault.{TreeFault}
use Rattle.object_graph.proofs.KeyLemmas.{same_key, same_key-itself, same_key-true}
use Rattle.object_store.specs.Store.{first_refusal, name_refusal, put_refusal, stored_refusal}
use Rattle.object_store.specs.StoreView.{Index}
use Rattle.object_store.specs.declared.shelf.Slot.{Slot as ShelfSlot}
use Rattle.depot.specs.Answering.{MayAnswer, act_decided, decided, permits, token_decided, update_decided}
use Rattle.depot.specs.DepotView.{library}
use Rattle.depot.specs.ObjectCalls.{IsToldRefusal}
use Rattle.depot.specs.UpdateBase.{FindsSo}
use Rattle.depot.specs.UpdateInstall.{ArePuttable}
use Rattle.depot.specs.UpdateMerge.{AreComplete}
use Rattle.depot.specs.Plan.{AreNamed, HasNames, listed, objects_in, own_object}
use Rattle.depot.specs.UpdatePlan.{DecidesCall, DecidesSo, IsPlan, IsPlanFault, MergesSo, PlansDue, PlansSo}
use Rattle.depot.specs.declared.update_base.Found.{Found}
use Rattle.depot.specs.declared.plan.Plan.{Plan}
use Rattle.depot.proofs.UpdateBaseLemmas.{told_after_base}
use Rattle.library_rules.proofs.CallsLemmas.{update_due-is}

-- ---- by the state alone

module _ (s : State) (token : Token) (pushed : List ℕ) where
  pub due_known : is_kept s.state.kept pushed ≡ true → update_due s token pushed ≡ Says (reply.Updated (head_of s.state.kept))
  due_known kept =
      update_due-is s token pushed
      ∙ ap (λ b. if b then Says (reply.Updated (head_of s.state.kept)) else if nat_lt token.last s.state.collection then Says (reply.Refused (refusal.Stale token.last s.state.collection)) else base_due s token.user pushed (base_of s pushed)) kept

  pub due_stale : is_kept s.state.kept pushed ≡ false → nat_lt token.last s.state.collection ≡ true → update_due s token pushed ≡ Says (reply.Refused (refusal.Stale token.last s.state.collection))
  due_stale new stale =
      update_due-is s token pushed
      ∙ ap (λ b. if b then Says (reply.Updated (head_of s.state.kept)) else if nat_lt token.last s.state.collection then Says (reply.Refused (refusal.Stale token.last s.state.collection)) else base_due s token.user pushed (base_of s pushed)) new
      ∙ ap (λ b. if b then Says (reply.Refused (refusal.Stale token.last s.state.collection)) else base_due s token.user pushed (base_of s pushed)) stale

  pub due_unknown : is_kept s.state.kept pushed ≡ false → nat_lt token.last s.state.collection ≡ false → update_due s token pushed ≡ base_due s token.user pushed (base_of s pushed)
  due_unknown new fresh =
      update_due-is s token pushed
      ∙ ap (λ b. if b then Says (reply.Updated (head_of s.state.kept)) else if nat_lt token.last s.state.collection then Says (reply.Refused (refusal.Stale token.last s.state.collection)) else base_due s token.user pushed (base_of s pushed)) new
      ∙ ap (λ b. if b then Says (reply.Refused (refusal.Stale token.last s.state.collection)) else base_due s token.user pushed (base_of s pushed)) fresh

module _ (state : LibState) (token : Token) (pushed : List ℕ) where
  pub decided_known : is_kept state.kept pushed ≡ true → update_decided state token pushed ≡ Some (reply.Updated (head_of state.kept))
  decided_known kept =
      ap (λ b. if b then Some (reply.Updated (head_of state.kept)) else if nat_lt token.last state.collection then Some (reply.Refused (refusal.Stale token.last state.collection)) else None) kept

  pub decided_stale : is_kept state.kept pushed ≡ false → nat_lt token.last state.collection ≡ true → update_decided state token pushed ≡ Some (reply.Refused (refusal.Stale token.last state.collection))
  decided_stale new stale =
      ap (λ b. if b then Some (reply.Updated (head_of state.kept)) else if nat_lt token.last state.collection then Some (reply.Refused (refusal.Stale token.last state.collection)) else None) new
      ∙ ap (λ b. if b then Some (reply.Refused (refusal.Stale token.last state.collection)) else None) stale

  pub decided_unknown : is_kept state.kept pushed ≡ false → nat_lt token.last state.collection ≡ false → update_decided state token pushed ≡ None
  decided_unknown new fresh =
      ap (λ b. if b then Some (reply.Updated (head_of state.kept)) else if nat_lt token.last state.collection then Some (reply.Refused (refusal.Stale token.last state.collection)) else None) new
      ∙ ap (λ b. if b then Some (reply.Refused (refusal.Stale token.last state.collection)) else None) fresh

-- ---- a call of the token that was found

module _ (call : Call) (pushed : List ℕ) (secret : Option (List ℕ)) (token : Token) (asks : call.secret ≡ secret) (updates : call.act ≡ act.Update pushed) where
  may_update : (o : Option Token) → o ≡ Some token → permits o (act.Update pushed) ≡ true → may token (act.Update pushed) ≡ true
  may_update o is right = subst (λ p. permits p (act.Update pushed) ≡ true) is right

  pub due_of : (s : State) → token_of s.state.tokens secret ≡ Some token → permits (token_of s.state.tokens secret) (act.Update pushed) ≡ true → due s call ≡ update_due s token pushed
  due_of s found right =
      ap (λ a. token_due s a (token_of s.state.tokens call.secret)) updates
      ∙ ap (λ secret. token_due s (act.Update pushed) (token_of s.state.tokens secret)) asks
      ∙ ap (token_due s (act.Update pushed)) found
      ∙ ap (λ b. if b then act_due s token (act.Update pushed) else Denies) (may_update (token_of s.state.tokens secret) found right)

  pub decided_of : (state : LibState) → token_of state.tokens secret ≡ Some token → permits (token_of state.tokens secret) (act.Update pushed) ≡ true
      → decided state call ≡ update_decided state token pushed
  decided_of state found right =
      ap (λ a. token_decided state a (token_of state.tokens call.secret)) updates
      ∙ ap (λ secret. token_decided state (act.Update pushed) (token_of state.tokens secret)) asks
      ∙ ap (token_decided state (act.Update pushed)) found
      ∙ ap (λ b. if b then act_decided state token (act.Update pushed) else Some (reply.Refused refusal.Denied)) (may_update (token_of state.tokens secret) found right)

-- what the state decides of an update of the token it decides of the call
pub decides_call : (state : LibState) (call : Call) (token : Token) (pushed : List ℕ) (index : Index) (may_give : ShelfSlot → Option (List ℕ) → Type 0)
    → decided state call ≡ update_decided state token pushed → (r : Result (Option Plan) Refusal) → DecidesSo state token pushed index may_give r
    → DecidesCall state call pushed index may_give r
decides_call state call token pushed index may_give same (Ok None) so = (so.0, same ∙ so.1)
decides_call state call token pushed index may_give same (Ok (Some plan)) so = (so.0, same ∙ so.1, so.2)
decides_call state call token pushed index may_give same (Err why) so =
    subst (λ o. MayAnswer index may_give (act.Update pushed) o (reply.Refused why)) (sym same) so

-- ---- the merge base

module _ (s : State) (moment : ℕ) (user pushed : List ℕ) where
  -- there is none, or the store failed
  pub unknown_fault : (based : Based) (why : Refusal) → (based ≡ NoBase why) ⊎ IsToldRefusal s.objects why → IsPlanFault s moment (base_due s user pushed based) why
  unknown_fault based why (inl none) = subst (λ b. IsPlanFault s moment (base_due s user pushed b) why) (sym none) (inl refl)
  unknown_fault (NoBase other) why (inr told) = inr told
  unknown_fault (Base base) why (inr told) = told_after_base s moment user pushed base (walk_commit s.objects pushed).fault why told

  pub known_base : (based : Based) (base : List ℕ) (result : Result Plan Refusal) → based ≡ Base base
      → PlansDue s moment (complete_due s user base pushed (walk_commit s.objects pushed).fault) result → PlansDue s moment (base_due s user pushed based) result
  known_base based base result is plans = subst (λ b. PlansDue s moment (base_due s user pushed b) result) (sym is) plans

-- ---- over a merge base

no_length : {A : Type 0} (xs : List A) → length xs ≡ 0 → xs ≡ []
no_length [] e = refl
no_length (x ∷ xs) e = cc

pub no_entries : map.entries (map.empty {X = List ℕ} {R = key_cmp}) ≡ []
no_entries = no_length (map.entries (map.empty {X = List ℕ} {R = key_cmp})) (sym (map.len-entries (map.empty {X = List ℕ} {R = key_cmp})) ∙ map.len-empty key_cmp (List ℕ))

nothing_listed : (dirs : map.FinMap key_cmp (List ℕ)) (head : List ℕ) → dirs ≡ map.empty → objects_in (record { head = head; dirs = dirs; text = None }) ≡ []
nothing_listed dirs head is =
    ap (λ d. objects_in (record { head = head; dirs = d; text = None })) is
    ∙ ap (λ entries. listed entries ++ own_object head None) no_entries

pub none_named : (dirs : map.FinMap key_cmp (List ℕ)) (head : List ℕ) → dirs ≡ map.empty → HasNames (record { head = head; dirs = dirs; text = None })
none_named dirs head is = subst AreNamed (sym (nothing_listed dirs head is)) tt

module _ (s : State) (moment : ℕ) (user base pushed : List ℕ) (o : Option TreeFault) (none : o ≡ None) where
  complete_is : (b : Bool) → same_id base (head_of s.state.kept) ≡ b → complete_due s user base pushed o ≡ (if b then Installs pushed else Merges user base pushed)
  complete_is b same =
      ap (complete_due s user base pushed) none ∙ ap (λ c. if c then Installs pushed else Merges user base pushed) same

  pub forwards : (dirs : map.FinMap key_cmp (List ℕ)) → same_id base (head_of s.state.kept) ≡ true → dirs ≡ map.empty
      → IsPlan s moment (complete_due s user base pushed o) (record { head = pushed; dirs = dirs; text = None })
  forwards dirs same is =
      subst (λ d. IsPlan s moment d (record { head = pushed; dirs = dirs; text = None })) (sym (complete_is true same)) (refl, nothing_listed dirs pushed is)

  merges : (result : Result Plan Refusal) → MergesSo s moment user base pushed result → PlansDue s moment (Merges user base pushed) result
  merges (Ok plan) so = so
  merges (Err why) so = so

  pub merges_due : (result : Result Plan Refusal) → same_id base (head_of s.state.kept) ≡ false → MergesSo s moment user base pushed result
      → PlansDue s moment (complete_due s user base pushed o) result
  merges_due result other so = subst (λ d. PlansDue s moment d result) (sym (complete_is false other)) (merges result so)

-- ---- what is complete

pub are_complete : (state : LibState) (objects : Objects) (base pushed : List ℕ) → IsSound (library state 0 objects) → state.kept ≢ [] → is_kept state.kept base ≡ true
    → IsComplete objects pushed → AreComplete objects base (head_of state.kept) pushed
are_complete state objects base pushed sound some kept complete = record {
  base_complete = sound.kept.complete base kept;
  head_complete = sound.kept.complete (head_of state.kept) (head_kept state.kept some);
  pushed_complete = complete;
}

pub base_is_kept : (state : LibState) (objects : Objects) (pushed base : List ℕ) → base_of (library state 0 objects) pushed ≡ Base base → is_kept state.kept base ≡ true
base_is_kept state objects pushed base found = base_kept (library state 0 objects) pushed base found

-- ---- what was found, at what it is

pub found_at : (objects : Objects) (based : Based) (seen at : Found) → seen ≡ at → FindsSo objects based (Ok seen) → FindsSo objects based (Ok at)
found_at objects based seen at is finds = subst (λ f. FindsSo objects based (Ok f)) is finds

pub plans_at : (s : State) (moment : ℕ) (pushed : List ℕ) (d : Due) (seen at : Option Plan) → seen ≡ at → PlansSo s moment pushed d (Ok seen) → PlansSo s moment pushed d (Ok at)
plans_at s moment pushed d seen at is plans = subst (λ p. PlansSo s moment pushed d (Ok p)) is plans

pub decides_at : (state : LibState) (call : Call) (pushed : List ℕ) (index : Index) (may_give : ShelfSlot → Option (List ℕ) → Type 0) (seen at : Option Plan) → seen ≡ at
    → DecidesCall state call pushed index may_give (Ok seen) → DecidesCall state call pushed index may_give (Ok at)
decides_at state call pushed index may_give seen at is decides = subst (λ p. DecidesCall state call pushed index may_give (Ok p)) is decides

-- ---- each object of a plan can be put

one_puttable : (A : Objects) (x : Stored) → name_refusal x.key x.bytes ≡ None → is_stored A x.key ≡ false → put_refusal A x.key x.bytes ≡ None
one_puttable A x named absent =
    ap (λ n. first_refusal n (stored_refusal x.key x.bytes (map.get A x.key))) named ∙ by (map.get A x.key) absent
  where
    by : (o : Option (List ℕ)) → is_some o ≡ false → stored_refusal x.key x.bytes o ≡ None
    by None e = refl
    by (Some bytes) e = absurd (true≢false e)

gone_after : (A : Objects) (x : Stored) (key : Key) → is_stored A key ≡ false → same_key key x.key ≡ false → is_stored (put_new A x) key ≡ false
gone_after A x key absent other = by (is_stored A x.key)
  where
    by : (b : Bool) → is_stored (if b then A else map.insert A x.key x.bytes) key ≡ false
    by true = absent
    by false = ap is_some (map.get-insert key_cmp_total A x.key x.bytes key) ∙ ap (λ b. is_some (cond b (Some x.bytes) (map.get A key))) other ∙ absent

flipped : (a b : Key) → same_key a b ≡ false → same_key b a ≡ false
flipped a b other = by (same_key b a) refl
  where
    by : (c : Bool) → same_key b a ≡ c → same_key b a ≡ false
    by true e = absurd (true≢false (sym (subst (λ k. same_key a k ≡ true) (sym (same_key-true b a e)) (same_key-itself a)) ∙ other))
    by false e = e

pub all_gone_after : (A : Objects) (x : Stored) (ys : List Stored) → AllByRecursion (λ (y : Stored). is_stored A y.key ≡ false) ys
    → AllByRecursion (λ key. same_key x.key key ≡ false) (keys_added ys) → AllByRecursion (λ (y : Stored). is_stored (put_new A x) y.key ≡ false) ys
all_gone_after A x [] gone apart = tt
all_gone_after A x (y ∷ ys) gone apart = (gone_after A x y.key gone.0 (flipped x.key y.key apart.0), all_gone_after A x ys gone.1 apart.1)

puttable_all : (A : Objects) (added : List Stored) → AreNamed added → AllByRecursion (λ (x : Stored). is_stored A x.key ≡ false) added → IsDistinct (eq_by_cmp key_cmp) (keys_added added)
    → ArePuttable A added
unfolding IsDistinct
puttable_all A [] named gone once = tt
puttable_all A (x ∷ added) named gone once = (one_puttable A x named.0.0 gone.0, puttable_all (put_new A x) added named.1 (all_gone_after A x added gone.1 once.0) once.1)

pub plan_puttable : (s : State) (moment : ℕ) (d : Due) (plan : Plan) → IsPlan s moment d plan → HasNames plan → ArePuttable s.objects (objects_in plan)
plan_puttable s moment Denies plan is named = absurd is
plan_puttable s moment (Says r) plan is named = absurd is
plan_puttable s moment (Stores x) plan is named = absurd is
plan_puttable s moment (Installs pushed) plan is named = subst (ArePuttable s.objects) (sym is.1) tt
plan_puttable s moment (Merges user base pushed) plan is named = puttable_all s.objects (objects_in plan) named is.were_gone is.once
