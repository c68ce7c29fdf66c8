-- What a call leaves, by what it is due. The key lemmas are due_is, denied_answers, says_answers, fault_answers and
-- stores_answers.
use borrow.Author.Tests.{eqb-true}
use Rattle.std.proofs.Common.{◌≡◌, ◌≢◌, inl, inr, ℕ, ◌≤◌, Bool, true, false, not, ◌&&◌, if◌then◌else◌, nat_eq, eq-eqb, List, [], ◌∷◌, refl, sym, ap, ◌∙◌, subst, true≢false, Option, None, Some, option_map}
use Rattle.std.specs.Bool.{MatchBool}
use Rattle.std.specs.FinMap as map
use Rattle.sha1.specs.Sha1.{sha1}
use Rattle.ids.specs.FaultCount.{Rose}
use Rattle.ids.specs.Key.{Objects}
use Rattle.ids.specs.declared.key.Key.{Key}
use Rattle.library_rules.specs.Answered.{Fails, IsFault as IsFaultOf}
use Rattle.library_rules.specs.Calls.{Due, Denies, Says, Stores, Installs, Merges, act_due, due, keys_of, may, token_due, token_of}
use Rattle.library_rules.specs.Changes.{act_changes, apply, counted, fresher, is_refused, moved, put_new, step_changes, stored_keys, told_by}
use Rattle.library_rules.specs.History.{Permits, lone}
use Rattle.library_rules.specs.LibraryState.{State, is_stored}
use Rattle.library_rules.specs.Permitted.{DuePermits, MergeFails}
use Rattle.library_rules.specs.declared.entry.Entry.{Entry}
use Rattle.library_rules.specs.declared.entry.Step.TheVariants as step
use Rattle.library_rules.specs.declared.entry.Stored.{Stored}
use Rattle.library_rules.proofs.ChangedLemmas.{faults_change, objects_change}
use Rattle.library_rules.proofs.MemberLemmas.{same_id-itself}
use Rattle.library_rules.proofs.RefusedLemmas.{refused_stays}
use Rattle.library_rules.proofs.UnmovedLemmas.{lone_apply, moved_nothing, refused_reads}
use Rattle.library_state.specs.declared.call.Act.{Act}
use Rattle.library_state.specs.declared.call.Act.TheVariants as act
use Rattle.library_state.specs.declared.call.Call.{Call}
use Rattle.library_state.specs.declared.call.Op.TheVariants as op
use Rattle.library_state.specs.declared.refusal.Refusal.{Refusal}
use Rattle.library_state.specs.declared.refusal.Refusal.TheVariants as refusal
use Rattle.library_state.specs.declared.reply.Reply.{Reply}
use Rattle.library_state.specs.declared.reply.Reply.TheVariants as reply
use Rattle.library_state.specs.declared.token.Token.{Token}
use Rattle.object_store.specs.Store.{IsDamage, IsOther, damage_at, damage_of, has_other_name, is_named_by_bytes, same_bytes}
use Rattle.object_store.specs.declared.shelf.Slot.{Slot}
use Rattle.object_store.specs.declared.error.StoreFault.TheVariants as store
use Rattle.object_graph.proofs.KeyLemmas.{same_key, same_key-itself}
use Rattle.depot.specs.Answering.{AnswersBySome, permits}
use Rattle.depot.specs.ObjectCalls.{Counts, IsFault, IsToldRefusal, SaysOr, is_counted, is_of_store}
use Rattle.library_rules.proofs.CallsLemmas.{put_by}
use Rattle.std.proofs.lemmas.Bool.{or_left}

-- ---- what a call is due

-- of one who may
pub due_is : (s : State) (call : Call) (token : Token) → token_of s.state.tokens call.secret ≡ Some token → may token call.act ≡ true → due s call ≡ act_due s token call.act
due_is s call token known right =
    ap (token_due s call.act) known ∙ ap (λ b. if b then act_due s token call.act else Denies) right

-- of one who may not
pub due_denies : (s : State) (call : Call) → permits (token_of s.state.tokens call.secret) call.act ≡ false → due s call ≡ Denies
due_denies s call lacks = by (token_of s.state.tokens call.secret) lacks
  where
    by : (o : Option Token) → permits o call.act ≡ false → token_due s call.act o ≡ Denies
    by None e = refl
    by (Some token) e = ap (λ b. if b then act_due s token call.act else Denies) e

-- ---- reads

read_answers : (s : State) (call : Call) (moment : ℕ) (r : Reply) → Permits s (lone s (step.Asked call) moment r) → apply s (lone s (step.Asked call) moment r) ≡ s
    → AnswersBySome s call moment r (Some s)
read_answers s call moment r permitted stays = ([], record { state = s; left = refl; step = (refl, record { permits = permitted; stays = stays }) })

pub denied_answers : (s : State) (call : Call) (moment : ℕ) → due s call ≡ Denies → AnswersBySome s call moment (reply.Refused refusal.Denied) (Some s)
denied_answers s call moment is =
    read_answers s call moment (reply.Refused refusal.Denied)
    (subst (DuePermits s (lone s (step.Asked call) moment (reply.Refused refusal.Denied))) (sym is) (inl (record { reply = refl; faults = refl }), refl), refl)
    (refused_reads s call moment (reply.Refused refusal.Denied) refl)

-- an answer that changes nothing
pub says_answers : (s : State) (call : Call) (moment : ℕ) (r : Reply) → due s call ≡ Says r → step_changes moment (step.Asked call) r s ≡ s → AnswersBySome s call moment r (Some s)
says_answers s call moment r is stays =
    read_answers s call moment r
    (subst (DuePermits s (lone s (step.Asked call) moment r)) (sym is) (inl (record { reply = refl; faults = refl }), refl), refl)
    (lone_apply s (step.Asked call) moment r ∙ stays)

-- where no collection runs these acts change nothing but objects
abbrev pub is_quiet : Act → Bool
is_quiet (act.Check op.Upload) = false
is_quiet (act.Check op.Download) = true
is_quiet act.Head = true
is_quiet (act.Get key) = true
is_quiet (act.Put key bytes) = true
is_quiet (act.Missing k ids) = true
is_quiet (act.Update pushed) = false
is_quiet (act.Limit days) = false
is_quiet (act.Ids server client) = true

none_told : (s : State) (keys : List Key) → s.running ≡ None → record s { running = option_map (fresher keys) s.running } ≡ s
none_told s keys idle = ap (λ o. record s { running = option_map (fresher keys) o }) idle ∙ ap (λ o. record s { running = o }) (sym idle)

quiet_act : (s : State) (secret : Option (List ℕ)) (moment : ℕ) (a : Act) (r : Reply) → is_quiet a ≡ true → s.running ≡ None → act_changes secret moment a r s ≡ s
quiet_act s secret moment (act.Check op.Upload) r quiet idle = absurd (true≢false (sym quiet))
quiet_act s secret moment (act.Check op.Download) r quiet idle = refl
quiet_act s secret moment act.Head r quiet idle = refl
quiet_act s secret moment (act.Get key) r quiet idle = refl
quiet_act s secret moment (act.Put key bytes) r quiet idle = none_told s (told_by key r) idle
quiet_act s secret moment (act.Missing k ids) r quiet idle = none_told s (stored_keys s.objects (keys_of k ids)) idle
quiet_act s secret moment (act.Update pushed) r quiet idle = absurd (true≢false (sym quiet))
quiet_act s secret moment (act.Limit days) r quiet idle = absurd (true≢false (sym quiet))
quiet_act s secret moment (act.Ids server client) r quiet idle = refl

pub quiet_step : (s : State) (call : Call) (moment : ℕ) (r : Reply) → is_quiet call.act ≡ true → s.running ≡ None → step_changes moment (step.Asked call) r s ≡ s
quiet_step s call moment r quiet idle = by (is_refused r)
  where
    by : (b : Bool) → (if b then s else act_changes call.secret moment call.act r s) ≡ s
    by true = refl
    by false = quiet_act s call.secret moment call.act r quiet idle

-- ---- faults

-- what is damaged isn't what was wanted
pub damage_differs : (objects : Objects) (key : Key) (want : List ℕ) (got : Option (List ℕ)) → damage_at objects key ≡ Some (store.Damaged want got) → got ≢ Some want
damage_differs objects key want got is same = by (map.get objects key) is
  where
    named : (a b : Bool) → b ≡ true → (a && not b) ≡ true → ⊥
    named true true b e = true≢false (sym e)
    named true false b e = true≢false (sym b)
    named false c b e = true≢false (sym e)

    at : (stored : List ℕ) (other : Bool) → has_other_name key stored ≡ other → (if other then Some (store.Damaged key.id (Some (sha1 stored))) else None) ≡ Some (store.Damaged want got) → ⊥
    at stored true other e =
        let own : key.id ≡ want = cc in
        let told : Some (sha1 stored) ≡ got = cc in
        let name : sha1 stored ≡ key.id = some_same (told ∙ same) ∙ sym own in
        named (is_named_by_bytes key.kind) (same_bytes (sha1 stored) key.id) (ap (same_bytes (sha1 stored)) (sym name) ∙ same_id-itself (sha1 stored)) other
      where
        some_same : {x y : List ℕ} → Some x ≡ Some y → x ≡ y
        some_same e = cc
    at stored false other e = cc

    by : (o : Option (List ℕ)) → damage_of key o ≡ Some (store.Damaged want got) → ⊥
    by None e = cc
    by (Some stored) e = at stored (has_other_name key stored) refl e

pub fault_of : (s : State) (e : Entry) (why : Refusal) → IsToldRefusal s.objects why → Counts s.faults e.faults (reply.Refused why) → IsFaultOf s e why
fault_of s e refusal.NoMemory is counts = counts
fault_of s e (refusal.Damaged want got) is counts = (counts, damage_differs s.objects is.0 want got is.1)
fault_of s e refusal.Store is counts = counts.1
fault_of s e other is counts = absurd is

merge_fault : (s : State) (e : Entry) (user base pushed : List ℕ) (why : Refusal) → IsFaultOf s e why → e.added ≡ [] → MergeFails s e user base pushed why
merge_fault s e user base pushed (refusal.TooLong path size) fault none = absurd fault
merge_fault s e user base pushed (refusal.TooMany paths) fault none = absurd fault
merge_fault s e user base pushed (refusal.Taken id) fault none = absurd fault
merge_fault s e user base pushed other fault none = (fault, inl none)

fails_permits : (s : State) (e : Entry) (d : Due) → d ≢ Denies → Fails s e → e.added ≡ [] → DuePermits s e d
fails_permits s e Denies not fails none = absurd (not refl)
fails_permits s e (Says r) not fails none = (inr fails, none)
fails_permits s e (Stores x) not fails none = inr (fails, none)
fails_permits s e (Installs pushed) not fails none = (inr fails, none)
fails_permits s e (Merges user base pushed) not fails none =
    inr (record { why = fails.why; reply = fails.reply; cause = merge_fault s e user base pushed fails.why fails.fault none })

module _ (s : State) (call : Call) (moment : ℕ) (may_do : due s call ≢ Denies) where
  faulty : Refusal → ℕ → Entry
  faulty why now = record (lone s (step.Asked call) moment (reply.Refused why)) { faults = now }

  faulty_permits : (why : Refusal) (now : ℕ) → IsToldRefusal s.objects why → Counts s.faults now (reply.Refused why) → Permits s (faulty why now)
  unfolding faulty
  faulty_permits why now is counts =
      (fails_permits s (faulty why now) (due s call) may_do (record { why = why; reply = refl; fault = fault_of s (faulty why now) why is counts }) refl, refl)

  faulty_apply : (why : Refusal) (now : ℕ) → IsToldRefusal s.objects why → Counts s.faults now (reply.Refused why) → apply s (faulty why now) ≡ counted now s
  unfolding faulty
  faulty_apply why now is counts = refused_stays s (faulty why now) call (faulty_permits why now is counts) refl refl ∙ ap (counted now) (moved_nothing s)

  -- a fault in the place of what is due: a read, unless the count rose
  pub fault_answers : (r : Reply) (now : ℕ) → IsFault s.objects r → Counts s.faults now r → AnswersBySome s call moment r (Some (counted now s))
  unfolding faulty
  fault_answers (reply.Refused why) now is counts = by (nat_eq now s.faults) refl
    where
      by : (b : Bool) → nat_eq now s.faults ≡ b → AnswersBySome s call moment (reply.Refused why) (Some (counted now s))
      by true same =
          let equal : now ≡ s.faults = eqb-true now s.faults same in (
            [],
            record {
              state = counted now s;
              left = refl;
              step = (
                ap (λ n. counted n s) equal,
                record {
                  permits = subst (λ n. Permits s (faulty why n)) equal (faulty_permits why now is counts);
                  stays = refused_reads s call moment (reply.Refused why) refl;
                },
              );
            },
          )
      by false other =
          let apart : now ≢ s.faults = λ e. true≢false (sym (eq-eqb now s.faults e) ∙ other) in (
            faulty why now ∷ [],
            record {
              state = counted now s;
              left = refl;
              step = record {
                permitted = record { permits = faulty_permits why now is counts; changes = faults_change s (faulty why now) apart };
                is_step = refl;
                at = refl;
                answers = refl;
                state = faulty_apply why now is counts;
              };
            },
          )
  fault_answers other now is counts = absurd is

-- ---- an object more

pub stores_new : (s : State) (key : Key) (bytes : List ℕ) (x : Stored) (o : Option Refusal) → put_by s key bytes o ≡ Stores x
    → (is_stored s.objects key ≡ false) × (record { key = key; bytes = bytes } ≡ x)
stores_new s key bytes x (Some why) e = cc
stores_new s key bytes x None e = by (is_stored s.objects key) refl e
  where
    by : (b : Bool) → is_stored s.objects key ≡ b → (if b then Says (reply.Stored false) else Stores (record { key = key; bytes = bytes })) ≡ Stores x
        → (is_stored s.objects key ≡ false) × (record { key = key; bytes = bytes } ≡ x)
    by true there e = cc
    by false absent e = (absent, cc)

pub stores_answers : (s : State) (call : Call) (moment : ℕ) (key : Key) (bytes : List ℕ) → call.act ≡ act.Put key bytes → s.running ≡ None
    → due s call ≡ Stores (record { key = key; bytes = bytes }) → is_stored s.objects key ≡ false
    → AnswersBySome s call moment (reply.Stored true) (Some (record s { objects = put_new s.objects (record { key = key; bytes = bytes }) }))
stores_answers s call moment key bytes acts idle is absent = (
  e ∷ [],
  record {
    state = record s { objects = put_new s.objects x };
    left = refl;
    step = record {
      permitted = record {
        permits = (subst (DuePermits s e) (sym is) (inl (record { reply = refl; faults = refl }, refl)), refl);
        changes = objects_change s e key absent (or_left (same_key key key) false (same_key-itself key)) refl;
      };
      is_step = refl;
      at = refl;
      answers = refl;
      state = after;
    };
  },
)
  where
    x : Stored
    x = record { key = key; bytes = bytes }

    e : Entry
    e = record (lone s (step.Asked call) moment (reply.Stored true)) { added = record { key = key; bytes = bytes } ∷ [] }

    after : apply s e ≡ record s { objects = put_new s.objects x }
    after =
        ap (λ a. counted s.faults (act_changes call.secret moment a (reply.Stored true) (moved s (x ∷ []) []))) acts
        ∙ ap (λ o. record s { objects = put_new s.objects x; running = option_map (fresher []) (option_map (fresher (key ∷ [])) o) }) idle
        ∙ ap (λ o. record s { objects = put_new s.objects x; running = o }) (sym idle)

-- ---- what was done

counted_fault : (objects : Objects) (r : Reply) → is_counted r ≡ true → IsFault objects r
counted_fault objects (reply.Refused why) e = by why e
  where
    by : (w : Refusal) → is_of_store w ≡ true → IsToldRefusal objects w
    by refusal.Store e = tt
    by other e = absurd (true≢false (sym e))
counted_fault objects other e = absurd (true≢false (sym e))

-- an answer that is due, or a fault, of a call that changes nothing
pub said_answers : (s : State) (call : Call) (moment : ℕ) (said r : Reply) (now : ℕ) → due s call ≡ Says said → step_changes moment (step.Asked call) said s ≡ s
    → SaysOr s.objects said r → Counts s.faults now r → AnswersBySome s call moment r (Some (counted now s))
said_answers s call moment said r now is stays (inr fault) counts = fault_answers s call moment (λ e. says_not_denied (sym is ∙ e)) r now fault counts
  where
    says_not_denied : Says said ≡ Denies → ⊥
    says_not_denied e = cc
said_answers s call moment said r now is stays (inl same) counts = by (is_counted r) refl
  where
    says_not_denied : Says said ≡ Denies → ⊥
    says_not_denied e = cc

    plain : (b : Bool) → b ≡ false → MatchBool b ((s.faults ≤ now) × Rose s.faults now) (now ≡ s.faults) → now ≡ s.faults
    plain true e counts = absurd (true≢false e)
    plain false e counts = counts

    by : (b : Bool) → is_counted r ≡ b → AnswersBySome s call moment r (Some (counted now s))
    by true e = fault_answers s call moment (λ d. says_not_denied (sym is ∙ d)) r now (counted_fault s.objects r e) counts
    by false e =
        subst (λ n. AnswersBySome s call moment r (Some (counted n s))) (sym (plain (is_counted r) e counts))
        (subst (λ q. AnswersBySome s call moment q (Some s)) (sym same) (says_answers s call moment said is stays))

-- ---- damage over any shelf

-- bytes of another name have another SHA-1
pub name_differs : (key : Key) (bytes : List ℕ) → has_other_name key bytes ≡ true → sha1 bytes ≢ key.id
name_differs key bytes other same = by (is_named_by_bytes key.kind) (same_bytes (sha1 bytes) key.id) other (ap (same_bytes (sha1 bytes)) (sym same) ∙ same_id-itself (sha1 bytes))
  where
    by : (a b : Bool) → (a && not b) ≡ true → b ≡ true → ⊥
    by true true other is = true≢false (sym other)
    by true false other is = true≢false (sym is)
    by false b other is = true≢false (sym other)

-- what a shelf may give is another object than was wanted
pub damage_other : (may_give : Slot → Option (List ℕ) → Type 0) (key : Key) (want : List ℕ) (got : Option (List ℕ)) → IsDamage may_give key want got → got ≢ Some want
damage_other may_give key want got is same = by is.given is.other
  where
    by : (o : Option (List ℕ)) → IsOther key o got → ⊥
    by None none = cc
    by (Some bytes) both =
        let name : sha1 bytes ≡ want = cc in
        name_differs key bytes both.0 (name ∙ is.named)
