-- Steps that leave a state as it was. The key lemmas are lone_apply, refused_reads, all_told_again and checked_again.
use Rattle.std.proofs.Common.{◌≡◌, ◌||◌, ℕ, Bool, true, false, if◌then◌else◌, List, [], ◌∷◌, refl, sym, ap, ◌∙◌, Option, None, Some, option_map}
use Rattle.std.specs.FinSet as set
use Rattle.std.specs.Str.{bytes_eq}
use Rattle.ids.specs.Key.{key_cmp}
use Rattle.ids.specs.declared.key.Key.{Key}
use Rattle.ids.proofs.KeyOrderLemmas.{key_cmp_total, key_cmp_exact}
use Rattle.library_state.specs.declared.call.Call.{Call}
use Rattle.library_state.specs.declared.reply.Reply.{Reply}
use Rattle.library_state.specs.declared.token.Token.{Token}
use Rattle.object_graph.specs.Traversal.{is_in}
use Rattle.library_rules.specs.Calls.{token_of}
use Rattle.library_rules.specs.Changes.{add_all, fresher, moved, is_refused, with_last, act_changes, step_changes, counted, apply}
use Rattle.library_rules.specs.History.{lone}
use Rattle.library_rules.specs.LibraryState.{State, Running}
use Rattle.library_rules.specs.declared.entry.Step.{Step}
use Rattle.library_rules.specs.declared.entry.Step.TheVariants as step
use Rattle.library_rules.proofs.MemberLemmas.{in_all}
use Rattle.library_rules.proofs.RefusedLemmas.{step_refused}

with_none_more : (running : Option Running) → option_map (fresher []) running ≡ running
with_none_more None = refl
with_none_more (Some r) = refl

pub moved_nothing : (s : State) → moved s [] [] ≡ s
moved_nothing s = ap (λ o. record s { running = o }) (with_none_more s.running)

pub step_faults : (moment : ℕ) (st : Step) (r : Reply) (m : State) → (step_changes moment st r m).faults ≡ m.faults
step_faults moment (step.Asked call) r m = by (is_refused r)
  where
    by : (b : Bool) → (if b then m else act_changes call.secret moment call.act r m).faults ≡ m.faults
    by true = refl
    by false = refl
step_faults moment step.Began r m = refl
step_faults moment step.Swept r m = refl
step_faults moment step.Ended r m = refl

-- the state after a step that moves no object and counts no fault
pub lone_apply : (s : State) (st : Step) (moment : ℕ) (r : Reply) → apply s (lone s st moment r) ≡ step_changes moment st r s
lone_apply s st moment r =
    ap (λ m. counted s.faults (step_changes moment st r m)) (moved_nothing s)
    ∙ ap (λ faults. counted faults (step_changes moment st r s)) (sym (step_faults moment st r s))

-- a refused call that counts no fault is a read
pub refused_reads : (s : State) (call : Call) (moment : ℕ) (r : Reply) → is_refused r ≡ true → apply s (lone s (step.Asked call) moment r) ≡ s
refused_reads s call moment r refused = lone_apply s (step.Asked call) moment r ∙ step_refused moment (step.Asked call) call r s refl refused

-- ---- what was told is told again

add_again : (keys : List Key) (fresh : set.FinSet key_cmp) → ((key : Key) → is_in keys key ≡ true → set.contains fresh key ≡ true) → add_all keys fresh ≡ fresh
add_again keys fresh there = set.same_set key_cmp_total key_cmp_exact (add_all keys fresh) fresh (λ key. in_all keys fresh key ∙ by key (is_in keys key) refl)
  where
    by : (key : Key) (b : Bool) → is_in keys key ≡ b → (b || set.contains fresh key) ≡ set.contains fresh key
    by key true is = sym (there key is)
    by key false is = refl

pub all_told_again : (s : State) (keys : List Key) → ((key : Key) → is_in keys key ≡ true → (running : Running) → s.running ≡ Some running → set.contains running.fresh key ≡ true)
    → option_map (fresher keys) s.running ≡ s.running
all_told_again s keys there = by s.running refl
  where
    by : (o : Option Running) → s.running ≡ o → option_map (fresher keys) o ≡ o
    by None is = refl
    by (Some r) is = ap (λ fresh. Some (record r { fresh = fresh })) (add_again keys r.fresh (λ key e. there key e r is))

-- ---- a token that saw this collection already

record_last : (t : Token) (n : ℕ) → t.last ≡ n → record t { last = n } ≡ t
record_last t n is = ap (λ k. record t { last = k }) (sym is)

pub seen_again : (secret : List ℕ) (n : ℕ) (tokens : List Token) (t : Token) → token_of tokens (Some secret) ≡ Some t → t.last ≡ n → with_last secret n tokens ≡ tokens
seen_again secret n [] t found is = refl
seen_again secret n (x ∷ tokens) t found is = by (bytes_eq secret x.secret) found (λ h. seen_again secret n tokens t h is)
  where
    by : (b : Bool) → (if b then Some x else token_of tokens (Some secret)) ≡ Some t → (token_of tokens (Some secret) ≡ Some t → with_last secret n tokens ≡ tokens)
        → (if b then record x { last = n } ∷ tokens else x ∷ with_last secret n tokens) ≡ x ∷ tokens
    by true found rest =
        let same : x ≡ t = cc in
        ap (λ y. y ∷ tokens) (record_last x n (ap (λ (y : Token). y.last) same ∙ is))
    by false found rest = ap (λ ts. x ∷ ts) (rest found)
