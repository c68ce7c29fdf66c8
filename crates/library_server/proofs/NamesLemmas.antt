-- A permitted answer keeps objects under their own names. The key lemmas are names_stepped and
-- names_new.
use Rattle.std.proofs.Common.{◌≡◌, ◌⊎◌, inl, inr, ℕ, Bool, true, false, cond, not, ◌&&◌, List, [], ◌∷◌, ◌++◌, Option, None, Some, refl, sym, ap, subst, ◌∙◌}
use Rattle.std.specs.Prelude.{⊤}
use Rattle.std.proofs.lemmas.List.Elements.{All-contains, All-from_recursion}
use Rattle.std.specs.Bool.{then_some}
use Rattle.std.specs.Cmp.Lexicographic.{nat_list_eq_equiv}
use Rattle.std.specs.FinMap as map
use Rattle.std.specs.List.{AllByRecursion, Contains}
use Rattle.std.specs.Ordering.{eq_by_cmp}
use Rattle.sha1.specs.Sha1.{sha1}
use Rattle.ids.specs.Key.{Objects, key_cmp}
use Rattle.ids.proofs.KeyOrderLemmas.{key_cmp_total}
use Rattle.ids.specs.declared.key.Key.{Key}
use Rattle.ids.specs.declared.key.Kind.{Kind}
use Rattle.ids.specs.declared.key.Kind.TheVariants.{Commit, Fs, Block}
use Rattle.library_rules.proofs.MemberLemmas.{same_id-true}
use Rattle.library_rules.proofs.StepLemmas.{objects_after}
use Rattle.library_rules.specs.Calls.{Due, Denies, Says, Stores, Installs, Merges, act_due, base_due, complete_due, due, first_refusal, listed, may, other_name, put_due, put_refusals, token_due, token_of, update_due, by_state, update_decided, ids_decided}
use Rattle.library_rules.specs.Changes.{apply, put_new, with_added, without}
use Rattle.library_rules.specs.History.{Permits, StepPermits, StepSo}
use Rattle.library_rules.specs.LibraryState.{State, head_of, is_stored}
use Rattle.library_rules.specs.MergeBase.{Base, Based, NoBase, base_of}
use Rattle.library_rules.specs.MergeCommit.{IsMade, Partly}
use Rattle.library_rules.specs.Permitted.{DuePermits, MergeFails}
use Rattle.library_rules.specs.declared.entry.Entry.{Entry}
use Rattle.library_rules.specs.declared.entry.Step.TheVariants as step
use Rattle.library_rules.specs.declared.entry.Stored.{Stored}
use Rattle.library_state.specs.declared.call.Act.{Act}
use Rattle.library_state.specs.declared.call.Act.TheVariants as act
use Rattle.library_state.specs.declared.call.Call.{Call}
use Rattle.library_state.specs.declared.refusal.Refusal.{Refusal}
use Rattle.library_state.specs.declared.refusal.Refusal.TheVariants as refusal
use Rattle.library_state.specs.declared.reply.Reply.{Reply}
use Rattle.library_state.specs.declared.reply.Reply.TheVariants as reply
use Rattle.library_state.specs.declared.token.Token.{Token}
use Rattle.object_graph.specs.Objects.{same_id}
use Rattle.object_graph.specs.Traversal.{walk_commit}
use Rattle.object_graph.specs.declared.fault.TreeFault.{TreeFault}
use Rattle.object_store.proofs.MapLemmas.{tied_key}
use Rattle.object_store.specs.Store.{HasNames, has_other_name, is_named_by_bytes, same_bytes}
use Rattle.library_rules.proofs.CallsLemmas.{put_due-is, taken, put_by}

-- ---- one object

abbrev pub IsNamed : Stored → Type 0
IsNamed x = has_other_name x.key x.bytes ≡ false

itself : (bytes : List ℕ) → same_bytes bytes bytes ≡ true
itself bytes = nat_list_eq_equiv.refl bytes

own_hash : (k : Kind) (id bytes : List ℕ) → sha1 bytes ≡ id → (is_named_by_bytes k && not (same_bytes (sha1 bytes) id)) ≡ false
own_hash Commit id bytes e = refl
own_hash Fs id bytes e = ap (λ i. not (same_bytes (sha1 bytes) i)) (sym e) ∙ ap not (itself (sha1 bytes))
own_hash Block id bytes e = ap (λ i. not (same_bytes (sha1 bytes) i)) (sym e) ∙ ap not (itself (sha1 bytes))

pub names_put : (objects : Objects) (key : Key) (bytes : List ℕ) → HasNames objects → has_other_name key bytes ≡ false → HasNames (map.insert objects key bytes)
names_put objects key bytes names whole q found e =
    by (eq_by_cmp key_cmp q key) refl (sym (map.get-insert key_cmp_total objects key bytes q) ∙ e)
  where
    by : (b : Bool) → eq_by_cmp key_cmp q key ≡ b → cond b (Some bytes) (map.get objects q) ≡ Some found → has_other_name q found ≡ false
    by true t e = let same : bytes ≡ found = cc in (λ i. has_other_name (tied_key q key t i) (sym same i)) ∙ whole
    by false t e = names q found e

pub names_new : (objects : Objects) (x : Stored) → HasNames objects → IsNamed x → HasNames (put_new objects x)
names_new objects x names whole = by (is_stored objects x.key)
  where
    by : (b : Bool) → HasNames (cond b objects (map.insert objects x.key x.bytes))
    by true = names
    by false = names_put objects x.key x.bytes names whole

names_added : (objects : Objects) (added : List Stored) → HasNames objects → AllByRecursion IsNamed added → HasNames (with_added objects added)
names_added objects [] names all = names
names_added objects (x ∷ added) names all = names_added (put_new objects x) added (names_new objects x names all.0) all.1

-- ---- what a merge makes

made_named : (s : State) (moment : ℕ) (user pushed root : List ℕ) (conflict : Bool) (x : Stored) → IsMade s moment user pushed root conflict x → IsNamed x
made_named s moment user pushed root conflict x (inl dir) =
    subst (λ k. has_other_name k x.bytes ≡ false) (sym dir.named) (own_hash Fs (sha1 x.bytes) x.bytes refl)
made_named s moment user pushed root conflict x (inr commit) = subst (λ k. has_other_name k x.bytes ≡ false) (sym commit.named) refl

all_named : (s : State) (moment : ℕ) (user pushed root : List ℕ) (conflict : Bool) (added : List Stored)
    → AllByRecursion (IsMade s moment user pushed root conflict) added → AllByRecursion IsNamed added
all_named s moment user pushed root conflict [] all = tt
all_named s moment user pushed root conflict (x ∷ added) all =
    (made_named s moment user pushed root conflict x all.0, all_named s moment user pushed root conflict added all.1)

some_named : (all added : List Stored) → AllByRecursion IsNamed all → AllByRecursion (Contains all) added → AllByRecursion IsNamed added
some_named all [] named part = tt
some_named all (x ∷ added) named part = (All-contains IsNamed all x (All-from_recursion IsNamed all named) part.0, some_named all added named part.1)

part_named : (s : State) (moment : ℕ) (user base pushed : List ℕ) (added : List Stored) → Partly s moment user base pushed added → AllByRecursion IsNamed added
part_named s moment user base pushed added is =
    some_named is.all added (all_named s moment user pushed is.would.root is.would.conflict is.all is.would.named) is.part

none_named : (added : List Stored) → added ≡ [] → AllByRecursion IsNamed added
none_named added none = subst (AllByRecursion IsNamed) (sym none) tt

module _ (s : State) (e : Entry) where
  left_named : (user base pushed : List ℕ) → (e.added ≡ []) ⊎ Partly s e.moment user base pushed e.added → AllByRecursion IsNamed e.added
  left_named user base pushed (inl none) = none_named e.added none
  left_named user base pushed (inr part) = part_named s e.moment user base pushed e.added part

  fails_named : (user base pushed : List ℕ) (why : Refusal) → MergeFails s e user base pushed why → AllByRecursion IsNamed e.added
  fails_named user base pushed (refusal.TooLong path size) f = none_named e.added f.0
  fails_named user base pushed (refusal.TooMany paths) f = none_named e.added f.0
  fails_named user base pushed (refusal.Taken id) f = none_named e.added f.0
  fails_named user base pushed other f = left_named user base pushed f.1

  -- ---- what a call is due

  abbrev IsNamedDue : Due → Type 0
  IsNamedDue Denies = ⊤
  IsNamedDue (Says r) = ⊤
  IsNamedDue (Stores x) = IsNamed x
  IsNamedDue (Installs pushed) = ⊤
  IsNamedDue (Merges user base pushed) = ⊤

  added_named : (d : Due) → IsNamedDue d → DuePermits s e d → AllByRecursion IsNamed e.added
  added_named Denies named p = none_named e.added p.1
  added_named (Says r) named p = none_named e.added p.1
  added_named (Stores x) named p = elim p [
    | inl put ↦ subst (AllByRecursion IsNamed) (sym put.1) (named, tt)
    | inr fails ↦ none_named e.added fails.1
  ]
  added_named (Installs pushed) named p = none_named e.added p.1
  added_named (Merges user base pushed) named p = elim p [
    | inl merged ↦ all_named s e.moment user pushed merged.made.root merged.made.conflict e.added merged.made.named
    | inr other ↦ fails_named user base pushed other.why other.cause
  ]

  by_stored : (key : Key) (bytes : List ℕ) (b : Bool) → has_other_name key bytes ≡ false
      → IsNamedDue (cond b (Says (reply.Stored false)) (Stores (record { key = key; bytes = bytes })))
  by_stored key bytes true named = tt
  by_stored key bytes false named = named

  by_refusal : (key : Key) (bytes : List ℕ) (o : Option Refusal) → (o ≡ None → has_other_name key bytes ≡ false) → IsNamedDue (put_by s key bytes o)
  by_refusal key bytes (Some why) named = tt
  by_refusal key bytes None named = by_stored key bytes (is_stored s.objects key) (named refl)

  first_none : (o : Option Refusal) (rest : List (Option Refusal)) → first_refusal (o ∷ rest) ≡ None → o ≡ None
  first_none None rest e = refl
  first_none (Some why) rest e = e

  not_some : (b : Bool) (why : Refusal) → then_some (not b) why ≡ None → b ≡ true
  not_some true why e = refl
  not_some false why e = cc

  own_named : (k : Kind) (key : Key) (bytes : List ℕ) → other_name key bytes ≡ None → (is_named_by_bytes k && not (same_bytes (sha1 bytes) key.id)) ≡ false
  own_named k key bytes e =
      own_hash k key.id bytes (same_id-true (sha1 bytes) key.id (not_some (same_id (sha1 bytes) key.id) (refusal.Wrong (sha1 bytes)) e))

  unrefused : (k : Kind) (key : Key) (bytes : List ℕ) (rest : List (Option Refusal)) → first_refusal (put_refusals s.state.lib k key bytes ++ rest) ≡ None
      → (is_named_by_bytes k && not (same_bytes (sha1 bytes) key.id)) ≡ false
  unrefused Commit key bytes rest e = refl
  unrefused Fs key bytes rest e = own_named Fs key bytes (first_none (other_name key bytes) _ e)
  unrefused Block key bytes rest e = own_named Block key bytes (first_none (other_name key bytes) _ e)

  put_named : (key : Key) (bytes : List ℕ) → IsNamedDue (put_due s key bytes)
  put_named key bytes =
      subst IsNamedDue (sym (put_due-is s key bytes))
      (by_refusal key bytes (first_refusal (put_refusals s.state.lib key.kind key bytes ++ taken s key bytes ∷ [])) (λ e. unrefused key.kind key bytes (taken s key bytes ∷ []) e))

  state_named : (o : Option Reply) (later : Due) → IsNamedDue later → IsNamedDue (by_state o later)
  state_named (Some r) later named = tt
  state_named None later named = named

  complete_named : (user base pushed : List ℕ) (o : Option TreeFault) → IsNamedDue (complete_due s user base pushed o)
  complete_named user base pushed (Some fault) = tt
  complete_named user base pushed None = by (same_id base (head_of s.state.kept))
    where
      by : (b : Bool) → IsNamedDue (cond b (Installs pushed) (Merges user base pushed))
      by true = tt
      by false = tt

  base_named : (user pushed : List ℕ) (b : Based) → IsNamedDue (base_due s user pushed b)
  base_named user pushed (NoBase why) = tt
  base_named user pushed (Base base) = complete_named user base pushed (walk_commit s.objects pushed).fault

  update_named : (token : Token) (pushed : List ℕ) → IsNamedDue (update_due s token pushed)
  update_named token pushed =
      state_named (update_decided s.state token pushed) (base_due s token.user pushed (base_of s pushed)) (base_named token.user pushed (base_of s pushed))

  act_named : (token : Token) (a : Act) → IsNamedDue (act_due s token a)
  act_named token (act.Check o) = tt
  act_named token act.Head = tt
  act_named token (act.Get key) = tt
  act_named token (act.Put key bytes) = put_named key bytes
  act_named token (act.Missing k ids) = tt
  act_named token (act.Update commit) = update_named token commit
  act_named token (act.Limit days) = tt
  act_named token (act.Ids server client) = state_named (ids_decided s.state.kept server) (Says (listed s server client)) tt

  token_named : (a : Act) (o : Option Token) → IsNamedDue (token_due s a o)
  token_named a None = tt
  token_named a (Some token) = by (may token a)
    where
      by : (b : Bool) → IsNamedDue (cond b (act_due s token a) Denies)
      by true = act_named token a
      by false = tt

  -- ---- an entry of a call

  names_entered : (call : Call) → e.step ≡ step.Asked call → Permits s e → HasNames s.objects → HasNames (apply s e).objects
  names_entered call is p names =
      let asked : StepPermits s e (step.Asked call) = subst (StepPermits s e) is p in
      subst HasNames (sym (objects_after s e ∙ ap (without (with_added s.objects e.added)) asked.1))
      (names_added s.objects e.added names (added_named (due s call) (token_named call.act (token_of s.state.tokens call.secret)) asked.0))

-- what a call leaves
pub names_stepped : (s : State) (call : Call) (moment : ℕ) (r : Reply) (t : State) (es : List Entry) → StepSo s (step.Asked call) moment r t es
    → HasNames s.objects → HasNames t.objects
names_stepped s call moment r t [] is names = subst (λ (z : State). HasNames z.objects) (sym is.0) names
names_stepped s call moment r t (e ∷ []) is names = subst (λ (z : State). HasNames z.objects) is.state (names_entered s e call is.is_step is.permitted.permits names)
names_stepped s call moment r t (e ∷ f ∷ es) is names = absurd is
