-- What the calls of a push leave that aren't refused. The key lemmas are put_leaves, check_leaves, update_leaves and limit_leaves.
use Rattle.std.proofs.Common.{◌≡◌, ◌≢◌, ◌⊎◌, inl, inr, ◌||◌, ℕ, ℤ, Bool, true, false, not, cond, if◌then◌else◌, List, [], ◌∷◌, ◌++◌, refl, sym, ap, ap₂, ◌∙◌, subst, true≢false, Option, None, Some, is_some, Ok, Err, nat_lt}
use Rattle.std.specs.Prelude.{⊤}
use Rattle.std.specs.Bool.{then_some}
use Rattle.std.specs.FinMap as map
use Rattle.std.specs.Str.{bytes_eq}
use Rattle.commit_objects.specs.Commit.{commit_of}
use Rattle.commit_objects.specs.declared.commit.Commit.{Commit}
use Rattle.ids.specs.Key.{Objects}
use Rattle.ids.specs.ObjectId.{nil}
use Rattle.ids.specs.declared.key.Key.{Key}
use Rattle.ids.proofs.KeyOrderLemmas.{key_cmp_total}
use Rattle.ids.proofs.BasicLemmas.{pushed_is_some}
use Rattle.library_state.specs.declared.call.Act.{Act}
use Rattle.library_state.specs.declared.call.Act.TheVariants as act
use Rattle.library_state.specs.declared.call.Call.{Call}
use Rattle.library_state.specs.declared.call.Op.TheVariants as op
use Rattle.library_state.specs.declared.history.Install.{Install}
use Rattle.library_state.specs.declared.refusal.Refusal.{Refusal}
use Rattle.library_state.specs.declared.refusal.Refusal.TheVariants as refusal
use Rattle.library_state.specs.declared.reply.Reply.{Reply}
use Rattle.library_state.specs.declared.reply.Reply.TheVariants as reply
use Rattle.library_state.specs.declared.token.Token.{Token}
use Rattle.object_graph.specs.Objects.{commit_at, commit_in, commit_key, is_nil, of_name}
use Rattle.object_graph.specs.Traversal.{is_in, walk_commit}
use Rattle.object_graph.specs.Unchanged.{Keeps}
use Rattle.object_graph.specs.declared.fault.TreeFault.{TreeFault}
use Rattle.object_graph.specs.declared.fault.TreeFault.TheVariants as fault
use Rattle.object_graph.proofs.KeyLemmas.{in_pushed, same_key-itself}
use Rattle.library_rules.specs.Answered.{Fails}
use Rattle.library_rules.specs.Calls.{Denies, Due, Installs, Merges, Says, Stores, base_due, complete_due, due, first_refusal, may, other_bytes, put_due, put_refusals, token_due, token_of, update_due}
use Rattle.library_rules.specs.Changes.{act_changes, apply, counted, head_in, is_refused, moved, put_new, step_changes, with_added, without}
use Rattle.library_rules.specs.History.{Permits, StepPermits}
use Rattle.library_rules.specs.LibraryState.{State, head_of, is_kept, is_stored}
use Rattle.library_rules.specs.MergeBase.{Base, Based, base_from, base_of, by_commit, by_parent}
use Rattle.library_rules.specs.Permitted.{DuePermits}
use Rattle.library_rules.specs.declared.entry.Entry.{Entry}
use Rattle.library_rules.specs.declared.entry.Step.{Step}
use Rattle.library_rules.specs.declared.entry.Step.TheVariants as step
use Rattle.library_rules.specs.declared.entry.Stored.{Stored}
use Rattle.library_rules.proofs.AddedLemmas.{stored_cases}
use Rattle.library_rules.proofs.BearsLemmas.{refused_not}
use Rattle.library_rules.proofs.BesideStepLemmas.{rest_after}
use Rattle.library_rules.proofs.CallsLemmas.{put_by, put_due-is, taken, update_due-is}
use Rattle.library_rules.proofs.HeadTreeLemmas.{head_kept}
use Rattle.library_rules.proofs.HeadsLemmas.{head_push}
use Rattle.library_rules.proofs.KeepingLemmas.{grown}
use Rattle.library_rules.proofs.MemberLemmas.{same_id-itself}
use Rattle.library_rules.proofs.StepLemmas.{objects_after}
use Rattle.std.proofs.lemmas.Slice.Eq.{bytes_eq-Decides}
use Rattle.generated_library.specs.Leading.{Adds, Grows, IsAnswered, call_of}
use Rattle.generated_library.specs.Filled.{update_of}

-- ---- an entry that isn't refused

-- what was due of it, and what came
abbrev pub GoesSo : Entry → Due → Type 0
GoesSo e Denies = ⊥
GoesSo e (Says r) = (e.reply ≡ r) × (e.added ≡ [])
GoesSo e (Stores x) = e.added ≡ x ∷ []
GoesSo e (Installs pushed) = (e.reply ≡ reply.Updated pushed) × (e.added ≡ [])
GoesSo e (Merges user base pushed) = ⊤

module _ (s : State) (e : Entry) (goes : is_refused e.reply ≡ false) where
  no_fault : Fails s e → ⊥
  no_fault fails = refused_not e.reply fails.why fails.reply goes

  goes_so : (d : Due) → DuePermits s e d → GoesSo e d
  goes_so Denies p = elim p.0 [ inl plain ↦ refused_not e.reply refusal.Denied plain.reply goes | inr plain ↦ refused_not e.reply refusal.NoMemory plain.reply goes ]
  goes_so (Says r) p = elim p.0 as (λ _. (e.reply ≡ r) × (e.added ≡ [])) [ inl plain ↦ (plain.reply, p.1) | inr fails ↦ absurd (no_fault fails) ]
  goes_so (Stores x) p = elim p as (λ _. e.added ≡ x ∷ []) [ inl plain ↦ plain.1 | inr fails ↦ absurd (no_fault fails.0) ]
  goes_so (Installs pushed) p = elim p.0 as (λ _. (e.reply ≡ reply.Updated pushed) × (e.added ≡ [])) [ inl plain ↦ (plain.reply, p.1) | inr fails ↦ absurd (no_fault fails) ]
  goes_so (Merges user base pushed) p = tt

  said_not : (why : Refusal) → GoesSo e (Says (reply.Refused why)) → ⊥
  said_not why said = refused_not e.reply why said.0 goes

  asked_apply : (call : Call) → e.step ≡ step.Asked call → apply s e ≡ counted e.faults (act_changes call.secret e.moment call.act e.reply (moved s e.added e.removed))
  asked_apply call is =
      ap (λ (st : Step). counted e.faults (step_changes e.moment st e.reply (moved s e.added e.removed))) is
      ∙ ap (λ (b : Bool). counted e.faults (if b then moved s e.added e.removed else act_changes call.secret e.moment call.act e.reply (moved s e.added e.removed))) goes

  module _ (call : Call) (is : e.step ≡ step.Asked call) (permits : Permits s e) where
    asked_permits : StepPermits s e (step.Asked call)
    asked_permits = subst (StepPermits s e) is permits

    due_goes : GoesSo e (due s call)
    due_goes = goes_so (due s call) asked_permits.0

    objects_now : (added : List Stored) → e.added ≡ added → (apply s e).objects ≡ with_added s.objects added
    objects_now added adds =
        objects_after s e ∙ (ap (λ removed. without (with_added s.objects e.added) removed) asked_permits.1 ∙ ap (with_added s.objects) adds)

    keeps_now : Keeps s.objects (apply s e).objects
    keeps_now = subst (Keeps s.objects) (sym (objects_now e.added refl)) (grown s.objects e.added)

    idle_now : s.running ≡ None → (apply s e).running ≡ None
    idle_now idle = rest_after s e call is idle

-- ---- a put

none_refused : (whys : List (Option Refusal)) (o : Option Refusal) → first_refusal (whys ++ o ∷ []) ≡ None → o ≡ None
none_refused [] None none = refl
none_refused [] (Some why) none = cc
none_refused (None ∷ whys) o none = none_refused whys o none
none_refused (Some why ∷ whys) o none = cc

not_taken : (a b : Bool) (why : Refusal) → then_some (a || b) why ≡ None → (a ≡ false) × (b ≡ false)
not_taken true b why none = cc
not_taken false true why none = cc
not_taken false false why none = (refl, refl)

module _ (s : State) (e : Entry) (key : Key) (bytes : List ℕ) where
  -- it was stored already, or is now
  abbrev IsThere : Type 0
  IsThere = (is_nil key.id ≡ false) × (((e.added ≡ []) × (map.get s.objects key ≡ Some bytes)) ⊎ ((e.added ≡ record { key = key; bytes = bytes } ∷ []) × (is_stored s.objects key ≡ false)))

  held_there : (o : Option (List ℕ)) → is_some o ≡ true → other_bytes o bytes ≡ false → o ≡ Some bytes
  held_there None stored same = absurd (true≢false (sym stored))
  held_there (Some there) stored same = ap Some ((bytes_eq-Decides there bytes).0 (by (bytes_eq there bytes) same))
    where
      by : (b : Bool) → not b ≡ false → b ≡ true
      by true is = refl
      by false is = absurd (true≢false is)

  by_stored : is_nil key.id ≡ false → other_bytes (map.get s.objects key) bytes ≡ false → (b : Bool) → is_stored s.objects key ≡ b
      → GoesSo e (cond b (Says (reply.Stored false)) (Stores (record { key = key; bytes = bytes }))) → IsThere
  by_stored some same true is told = (some, inl (told.1, held_there (map.get s.objects key) is same))
  by_stored some same false is told = (some, inr (told, is))

  by_refusal : is_refused e.reply ≡ false → (whys : List (Option Refusal)) → (o : Option Refusal) → first_refusal (whys ++ taken s key bytes ∷ []) ≡ o → GoesSo e (put_by s key bytes o) → IsThere
  by_refusal goes whys (Some why) is told = absurd (said_not s e goes why told)
  by_refusal goes whys None is told =
      let free = not_taken (is_nil key.id) (other_bytes (map.get s.objects key) bytes) (refusal.Taken key.id) (none_refused whys (taken s key bytes) is) in
      by_stored free.0 free.1 (is_stored s.objects key) refl told

  by_right : is_refused e.reply ≡ false → (token : Token) (b : Bool) → GoesSo e (cond b (put_due s key bytes) Denies) → IsThere
  by_right goes token true told =
      let whys = put_refusals s.state.lib key.kind key bytes in
      by_refusal goes whys (first_refusal (whys ++ taken s key bytes ∷ [])) refl (subst (GoesSo e) (put_due-is s key bytes) told)
  by_right goes token false told = absurd told

  by_token : is_refused e.reply ≡ false → (o : Option Token) → GoesSo e (token_due s (act.Put key bytes) o) → IsThere
  by_token goes None told = absurd told
  by_token goes (Some token) told = by_right goes token (may token (act.Put key bytes)) told

module _ (secret : Option (List ℕ)) (moment : ℕ) (s t : State) (r : Reply) (goes : is_refused r ≡ false) where
  entry_goes : (e : Entry) → e.reply ≡ r → is_refused e.reply ≡ false
  entry_goes e is = ap is_refused is ∙ goes

  -- nothing came, or that one
  none_more : (key : Key) → t.objects ≡ s.objects → Adds (λ (k : Key). k ≡ key) s t
  none_more key same = record { each = λ k there. inl (subst (λ (A : Objects). is_stored A k ≡ true) same there) }

  one_more : (key : Key) (x : Stored) → x.key ≡ key → t.objects ≡ with_added s.objects (x ∷ []) → Adds (λ (k : Key). k ≡ key) s t
  one_more key x own one = record { each = λ k there. by k (stored_cases s.objects (x ∷ []) k (subst (λ (A : Objects). is_stored A k ≡ true) one there)) }
    where
      by : (k : Key) → (is_stored s.objects k ≡ true) ⊎ (is_in (x.key ∷ []) k ≡ true) → (is_stored s.objects k ≡ true) ⊎ (k ≡ key)
      by k (inl old) = inl old
      by k (inr new) = elim (in_pushed [] x.key k new) as (λ _. (is_stored s.objects k ≡ true) ⊎ (k ≡ key)) [ inl none ↦ absurd (true≢false (sym none)) | inr same ↦ inr (same ∙ own) ]

  -- the object that was put is there, under a name that isn't forty zeros, and nothing else is otherwise
  pub put_leaves : (key : Key) (bytes : List ℕ) → IsAnswered (call_of secret (act.Put key bytes)) moment r s t
      → Grows s t × (map.get t.objects key ≡ Some bytes) × (key.id ≢ nil) × Adds (λ (k : Key). k ≡ key) s t
  put_leaves key bytes answered =
      let e = answered.entry in
      let call = call_of secret (act.Put key bytes) in
      let goes_on = entry_goes e answered.answers in
      let there = by_token s e key bytes goes_on (token_of s.state.tokens secret) (due_goes s e goes_on call answered.is_step answered.permits) in
      let now : map.get (apply s e).objects key ≡ Some bytes =
      elim there.1 as (λ _. map.get (apply s e).objects key ≡ Some bytes) [
        | inl was ↦ ap (λ (A : Objects). map.get A key) (objects_now s e goes_on call answered.is_step answered.permits [] was.0) ∙ was.1
        | inr new ↦ ap (λ (A : Objects). map.get A key) (objects_now s e goes_on call answered.is_step answered.permits (record { key = key; bytes = bytes } ∷ []) new.0) ∙ put_there new.1
      ] in
      let only : Adds (λ (k : Key). k ≡ key) s t =
      elim there.1 as (λ _. Adds (λ (k : Key). k ≡ key) s t) [
        | inl was ↦ none_more key (ap (λ (u : State). u.objects) answered.is ∙ objects_now s e goes_on call answered.is_step answered.permits [] was.0)
        | inr new ↦ one_more key (record { key = key; bytes = bytes }) refl
            (ap (λ (u : State). u.objects) answered.is ∙ objects_now s e goes_on call answered.is_step answered.permits (record { key = key; bytes = bytes } ∷ []) new.0)
      ] in (
        record {
          keeps = subst (λ (u : State). Keeps s.objects u.objects) (sym answered.is) (keeps_now s e goes_on call answered.is_step answered.permits);
          kept = ap (λ (u : State). u.state.kept) (answered.is ∙ asked_apply s e goes_on call answered.is_step);
          idle = λ idle. ap (λ (u : State). u.running) answered.is ∙ idle_now s e goes_on call answered.is_step answered.permits idle;
        },
        ap (λ (u : State). map.get u.objects key) answered.is ∙ now,
        λ is. true≢false (sym (ap is_nil is ∙ same_id-itself nil) ∙ there.0),
        only,
      )
    where
      put_there : is_stored s.objects key ≡ false → map.get (put_new s.objects (record { key = key; bytes = bytes })) key ≡ Some bytes
      put_there lacks =
          ap (λ (b : Bool). map.get (if b then s.objects else map.insert s.objects key bytes) key) lacks
          ∙ (map.get-insert key_cmp_total s.objects key bytes key ∙ ap (λ (b : Bool). cond b (Some bytes) (map.get s.objects key)) (same_key-itself key))

  -- ---- an upload check, and a limit

  none_came : (a : Act) (e : Entry) (said : Reply) → is_refused e.reply ≡ false → ((token : Token) → token_due s a (Some token) ≡ cond (may token a) (Says said) Denies)
      → (o : Option Token) → GoesSo e (token_due s a o) → e.added ≡ []
  none_came a e said goes_on says None told = absurd told
  none_came a e said goes_on says (Some token) told = by (may token a) (subst (GoesSo e) (says token) told)
    where
      by : (b : Bool) → GoesSo e (cond b (Says said) Denies) → e.added ≡ []
      by true told = told.1
      by false told = absurd told

  pub check_leaves : IsAnswered (call_of secret (act.Check op.Upload)) moment r s t → Grows s t × (t.objects ≡ s.objects)
  check_leaves answered =
      let e = answered.entry in
      let call = call_of secret (act.Check op.Upload) in
      let goes_on = entry_goes e answered.answers in
      let none = none_came (act.Check op.Upload) e reply.Checked goes_on (λ token. refl) (token_of s.state.tokens secret) (due_goes s e goes_on call answered.is_step answered.permits) in (
        record {
          keeps = subst (λ (u : State). Keeps s.objects u.objects) (sym answered.is) (keeps_now s e goes_on call answered.is_step answered.permits);
          kept = ap (λ (u : State). u.state.kept) (answered.is ∙ asked_apply s e goes_on call answered.is_step);
          idle = λ idle. ap (λ (u : State). u.running) answered.is ∙ idle_now s e goes_on call answered.is_step answered.permits idle;
        },
        ap (λ (u : State). u.objects) answered.is ∙ objects_now s e goes_on call answered.is_step answered.permits [] none,
      )

  -- history is kept for so many days, and no object comes
  pub limit_leaves : (days : ℤ) → IsAnswered (call_of secret (act.Limit days)) moment r s t → Grows s t × (t.state.days ≡ days) × (t.objects ≡ s.objects)
  limit_leaves days answered =
      let e = answered.entry in
      let call = call_of secret (act.Limit days) in
      let goes_on = entry_goes e answered.answers in
      let none = none_came (act.Limit days) e _ goes_on (λ token. refl) (token_of s.state.tokens secret) (due_goes s e goes_on call answered.is_step answered.permits) in (
        record {
          keeps = subst (λ (u : State). Keeps s.objects u.objects) (sym answered.is) (keeps_now s e goes_on call answered.is_step answered.permits);
          kept = ap (λ (u : State). u.state.kept) (answered.is ∙ asked_apply s e goes_on call answered.is_step);
          idle = λ idle. ap (λ (u : State). u.running) answered.is ∙ idle_now s e goes_on call answered.is_step answered.permits idle;
        },
        ap (λ (u : State). u.state.days) (answered.is ∙ asked_apply s e goes_on call answered.is_step),
        ap (λ (u : State). u.objects) answered.is ∙ objects_now s e goes_on call answered.is_step answered.permits [] none,
      )

-- ---- an update

-- over the head
base_is : (s : State) (pushed head : List ℕ) (commit : Commit) → is_kept s.state.kept pushed ≡ false → commit_at s.objects pushed ≡ Ok commit → commit.parent ≡ Some head
    → is_kept s.state.kept head ≡ true → base_of s pushed ≡ Base head
unfolding base_from
base_is s pushed head commit unknown at over known =
    ap (λ (b : Bool). if b then Base pushed else by_commit (base_from s 127 1) 0 (commit_at s.objects pushed)) unknown
    ∙ (ap (by_commit (base_from s 127 1) 0) at
    ∙ (ap (by_parent (base_from s 127 1) 0) over
    ∙ ap (λ (b : Bool). if b then Base head else by_commit (base_from s 126 2) 1 (commit_at s.objects head)) known))

module _ (s : State) (e : Entry) (goes : is_refused e.reply ≡ false) (pushed : List ℕ) where
  -- the commit was kept already, or it is the head now
  abbrev IsTaken : Type 0
  IsTaken = (e.added ≡ []) × (((is_kept s.state.kept pushed ≡ true) × (e.reply ≡ reply.Updated (head_of s.state.kept))) ⊎ ((is_kept s.state.kept pushed ≡ false) × (e.reply ≡ reply.Updated pushed)))

  by_fault : is_kept s.state.kept pushed ≡ false → (user : List ℕ) (fault : Option TreeFault) → GoesSo e (complete_due s user (head_of s.state.kept) pushed fault) → IsTaken
  by_fault unknown user (Some fault) told = absurd (said_not s e goes _ told)
  by_fault unknown user None told =
      let is : GoesSo e (Installs pushed) =
      subst (λ (b : Bool). GoesSo e (cond b (Installs pushed) (Merges user (head_of s.state.kept) pushed))) (same_id-itself (head_of s.state.kept)) told in
      (is.1, inr (unknown, is.0))

  by_base : is_kept s.state.kept pushed ≡ false → base_of s pushed ≡ Base (head_of s.state.kept) → (user : List ℕ) → GoesSo e (base_due s user pushed (base_of s pushed)) → IsTaken
  by_base unknown base user told =
      by_fault unknown user (walk_commit s.objects pushed).fault (subst (λ (b : Based). GoesSo e (base_due s user pushed b)) base told)

  by_stale : is_kept s.state.kept pushed ≡ false → base_of s pushed ≡ Base (head_of s.state.kept) → (token : Token) (b : Bool)
      → GoesSo e (cond b (Says (reply.Refused (refusal.Stale token.last s.state.collection))) (base_due s token.user pushed (base_of s pushed))) → IsTaken
  by_stale unknown base token true told = absurd (said_not s e goes _ told)
  by_stale unknown base token false told = by_base unknown base token.user told

  by_known : (is_kept s.state.kept pushed ≡ false → base_of s pushed ≡ Base (head_of s.state.kept)) → (token : Token) (b : Bool) → is_kept s.state.kept pushed ≡ b
      → GoesSo e (cond b (Says (reply.Updated (head_of s.state.kept))) (cond (nat_lt token.last s.state.collection) (Says (reply.Refused (refusal.Stale token.last s.state.collection))) (base_due s token.user pushed (base_of s pushed))))
      → IsTaken
  by_known base token true is told = (told.1, inl (is, told.0))
  by_known base token false is told = by_stale is (base is) token (nat_lt token.last s.state.collection) told

  taken_by : (is_kept s.state.kept pushed ≡ false → base_of s pushed ≡ Base (head_of s.state.kept)) → (o : Option Token) → GoesSo e (token_due s (act.Update pushed) o) → IsTaken
  taken_by base None told = absurd told
  taken_by base (Some token) told = by_may (may token (act.Update pushed)) told
    where
      by_may : (b : Bool) → GoesSo e (cond b (update_due s token pushed) Denies) → IsTaken
      by_may true told = by_known base token (is_kept s.state.kept pushed) refl (subst (GoesSo e) (update_due-is s token pushed) told)
      by_may false told = absurd told

-- an update that tells the commit as the head, which is over the head: it is the head, by this update unless it was the head before, and no
-- object comes
pub update_leaves : (secret : Option (List ℕ)) (moment : ℕ) (s t : State) (pushed : List ℕ) (commit : Commit)
    → IsAnswered (call_of secret (act.Update pushed)) moment (reply.Updated pushed) s t → s.state.kept ≢ []
    → commit_at s.objects pushed ≡ Ok commit → commit.parent ≡ Some (head_of s.state.kept)
    → (t.objects ≡ s.objects) × (head_of t.state.kept ≡ pushed) × (head_of s.state.kept ≢ pushed → t.state.kept ≡ s.state.kept ++ update_of pushed moment ∷ [])
    × (t.state.kept ≢ []) × (s.running ≡ None → t.running ≡ None)
update_leaves secret moment s t pushed commit answered some at over =
    let e = answered.entry in
    let call = call_of secret (act.Update pushed) in
    let goes : is_refused e.reply ≡ false = ap is_refused answered.answers in
    let base : is_kept s.state.kept pushed ≡ false → base_of s pushed ≡ Base (head_of s.state.kept) = λ unknown. base_is s pushed (head_of s.state.kept) commit unknown at over (head_kept s.state.kept some) in
    let taken = taken_by s e goes pushed base (token_of s.state.tokens secret) (due_goes s e goes call answered.is_step answered.permits) in
    let now = answered.is ∙ asked_apply s e goes call answered.is_step in
    let kept : t.state.kept ≡ (if is_kept s.state.kept pushed then s.state else record s.state { kept = s.state.kept ++ record { head = head_in e.reply pushed; pushed = pushed; at = e.moment } ∷ [] }).kept =
    ap (λ (u : State). u.state.kept) now in (
      ap (λ (u : State). u.objects) answered.is ∙ objects_now s e goes call answered.is_step answered.permits [] taken.0,
      ap head_of kept ∙ by_head e answered.answers (is_kept s.state.kept pushed) refl taken.1,
      λ other. kept ∙ by_kept e answered.answers answered.at other (is_kept s.state.kept pushed) refl taken.1,
      subst (λ (installs : List Install). installs ≢ []) (sym kept) (still_some e (is_kept s.state.kept pushed)),
      λ idle. ap (λ (u : State). u.running) answered.is ∙ idle_now s e goes call answered.is_step answered.permits idle,
    )
  where
    updated : (a b : List ℕ) → reply.Updated a ≡ reply.Updated b → a ≡ b
    updated a b is = cc

    by_head : (e : Entry) → e.reply ≡ reply.Updated pushed → (b : Bool) → is_kept s.state.kept pushed ≡ b
        → ((is_kept s.state.kept pushed ≡ true) × (e.reply ≡ reply.Updated (head_of s.state.kept))) ⊎ ((is_kept s.state.kept pushed ≡ false) × (e.reply ≡ reply.Updated pushed))
        → head_of (if b then s.state else record s.state { kept = s.state.kept ++ record { head = head_in e.reply pushed; pushed = pushed; at = e.moment } ∷ [] }).kept ≡ pushed
    by_head e said true is (inl (known, head)) = updated (head_of s.state.kept) pushed (sym head ∙ said)
    by_head e said true is (inr (unknown, head)) = absurd (true≢false (sym is ∙ unknown))
    by_head e said false is how =
        head_push s.state.kept (record { head = head_in e.reply pushed; pushed = pushed; at = e.moment }) ∙ ap (λ (r : Reply). head_in r pushed) said

    by_kept : (e : Entry) → e.reply ≡ reply.Updated pushed → e.moment ≡ moment → head_of s.state.kept ≢ pushed → (b : Bool) → is_kept s.state.kept pushed ≡ b
        → ((is_kept s.state.kept pushed ≡ true) × (e.reply ≡ reply.Updated (head_of s.state.kept))) ⊎ ((is_kept s.state.kept pushed ≡ false) × (e.reply ≡ reply.Updated pushed))
        → (if b then s.state else record s.state { kept = s.state.kept ++ record { head = head_in e.reply pushed; pushed = pushed; at = e.moment } ∷ [] }).kept
        ≡ s.state.kept ++ update_of pushed moment ∷ []
    by_kept e said at other true is (inl (known, head)) = absurd (other (updated (head_of s.state.kept) pushed (sym head ∙ said)))
    by_kept e said at other true is (inr (unknown, head)) = absurd (true≢false (sym is ∙ unknown))
    by_kept e said at other false is how =
        ap₂ (λ (r : Reply) (n : ℕ). s.state.kept ++ record { head = head_in r pushed; pushed = pushed; at = n } ∷ []) said at

    still_some : (e : Entry) (b : Bool) → (if b then s.state else record s.state { kept = s.state.kept ++ record { head = head_in e.reply pushed; pushed = pushed; at = e.moment } ∷ [] }).kept ≢ []
    still_some e true = some
    still_some e false = pushed_is_some s.state.kept (record { head = head_in e.reply pushed; pushed = pushed; at = e.moment })

-- ---- a commit that was put

pub commit_put : (objects : Objects) (commit : Commit) (bytes : List ℕ) → map.get objects (commit_key commit.id) ≡ Some bytes → commit_of bytes ≡ Ok commit → commit_at objects commit.id ≡ Ok commit
commit_put objects commit bytes there reads =
    ap (commit_in commit.id) there ∙ (ap (of_name commit.id) reads ∙ ap (λ (b : Bool). if b then Ok commit else Err (fault.Unreadable (commit_key commit.id))) (same_id-itself commit.id))
