-- What a head update keeps from the collection, step by step. The key lemmas are needs_pushed, root_due, complete_roots,
-- needed_one, needed_two, lists_head, stored_read, made_read, made_by_text and reads_made.
use Rattle.std.proofs.Common.{◌≡◌, ◌≤◌, inl, inr, ℕ, Bool, true, false, if◌then◌else◌, is_some, List, [], ◌∷◌, ◌++◌, length, refl, sym, ap, ◌∙◌, subst, subst₂, true≢false, IsTrue, Option, None, Some, option_map, Result, Ok, Err}
use Rattle.std.specs.Prelude.{IfErr, IfOk}
use Rattle.std.specs.Bool.{MatchBool}
use Rattle.std.specs.FinMap as map
use Rattle.std.proofs.lemmas.Bool.{or_cases, or_left, or_right}
use Rattle.ids.specs.FaultCount.{FailsBy, Rose}
use Rattle.ids.specs.Key.{Objects}
use Rattle.ids.specs.declared.key.Key.{Key}
use Rattle.commit_objects.specs.declared.commit.Commit.{Commit}
use Rattle.object_graph.specs.Objects.{commit_at, commit_in, commit_key}
use Rattle.object_graph.specs.Traversal.{IsComplete, IsCompleteRoot, is_in}
use Rattle.object_graph.specs.declared.fault.TreeFault.{TreeFault}
use Rattle.object_graph.proofs.CommitLemmas.{commit_root}
use Rattle.object_graph.proofs.KeyLemmas.{in_append, in_last, in_pushed}
use Rattle.object_store.specs.Shelf.{Contents}
use Rattle.object_store.specs.StoreView.{Index, StoreView}
use Rattle.object_store.specs.declared.error.StoreFault.TheVariants as store
use Rattle.object_store.specs.declared.shelf.Slot.{Slot}
use Rattle.tree_walk.specs.Reading.{AnswersRead, CausedBy, IsCause, IsDue, Reads, is_counted}
use Rattle.tree_walk.specs.declared.fault.WalkFault.{WalkFault}
use Rattle.tree_walk.specs.declared.fault.WalkFault.TheVariants.{Incomplete, Unreadable, WrongKind, WrongSize, TooDeep, TooMany, Store}
use Rattle.collector.specs.Naming.{is_of_bytes}
use Rattle.collector.specs.Comparing.{AreComplete, ListsUnshared, is_below}
use Rattle.depot.specs.Shields.{AreWhole, ListsBoth, ListsNeeded, MayLack, NeedsBeside, plan_root, root_at, root_in, with_plan}
use Rattle.depot.specs.declared.plan.Plan.{Plan}
use Rattle.depot.proofs.ShieldLemmas.{lists_both, lists_one, plan_get, root_complete}

pub if_ok : {T E : Type 0} {P Q : T → Type 0} (r : Result T E) → ((value : T) → P value → Q value) → IfOk r P → IfOk r Q
if_ok (Ok value) more is = more value is
if_ok (Err fault) more is = tt

-- ---- one commit

-- what its root needs, and its own key behind it
pub needs_pushed : (objects all : Objects) (before commit root : List ℕ) (keys pushed : List Key) → ListsUnshared objects all before root keys
    → pushed ≡ keys ++ commit_key commit ∷ [] → NeedsBeside objects all before commit root pushed
needs_pushed objects all before commit root keys pushed lists are = record {
  own = ap (λ (ks : List Key). is_in ks (commit_key commit)) are ∙ in_last keys (commit_key commit);
  needed = λ key among. elim (in_pushed keys (commit_key commit) key (ap (λ (ks : List Key). is_in ks key) (sym are) ∙ among)) [
    | inl there ↦ inr (lists.needed key there)
    | inr own ↦ inl own
  ];
  each = λ key below. elim (or_cases (is_in keys key) (is_below objects before key) (lists.each key below)) [
    | inl there ↦ or_left (is_in pushed key) (is_below objects before key)
        (ap (λ (ks : List Key). is_in ks key) are ∙ in_append keys (commit_key commit ∷ []) key ∙ or_left (is_in keys key) (is_in (commit_key commit ∷ []) key) there)
    | inr older ↦ or_right (is_in pushed key) (is_below objects before key) older
  ];
}

-- ---- roots

pub root_commit : (r : Result Commit TreeFault) (root : List ℕ) → root_in r ≡ Ok root → (commit : Commit) × (r ≡ Ok commit) × (commit.root ≡ root)
root_commit (Ok commit) root e = (commit, refl, same commit.root root e)
  where
    same : (x y : List ℕ) → ◌≡◌ {A = Result (List ℕ) TreeFault} (Ok x) (Ok y) → x ≡ y
    same x y e = cc
root_commit (Err fault) root e = cc

-- of a complete commit only the store can fail
pub root_due : (objects A : Objects) (id : List ℕ) (fault : WalkFault) → IsComplete A id → AnswersRead {T = List ℕ} objects (root_at A id) (Err fault) → IsDue objects None fault
root_due objects A id fault complete due = by (commit_at A id) (commit_root A id complete).0 (commit_root A id complete).1 due
  where
    by : (r : Result Commit TreeFault) (commit : Commit) → r ≡ Ok commit → AnswersRead {T = List ℕ} objects (root_in r) (Err fault) → IsDue objects None fault
    by (Ok other) commit e is = is
    by (Err why) commit e is = cc e

-- and its root is read
pub root_there : (A : Objects) (id : List ℕ) → IsComplete A id → (root : List ℕ) × (root_at A id ≡ Ok root)
root_there A id complete = let own = commit_root A id complete in (own.0.root, ap root_in own.1)

complete_root : (A : Objects) (id root : List ℕ) → IsComplete A id → root_at A id ≡ Ok root → IsCompleteRoot A root
complete_root A id root complete is =
    let one = root_commit (commit_at A id) root is in
    subst (λ (r : List ℕ). IsCompleteRoot A r) one.2 (root_complete A id one.0 complete one.1)

pub complete_roots : (objects all : Objects) (before id older root : List ℕ) → IsComplete objects before → IsComplete all id → root_at objects before ≡ Ok older → root_at all id ≡ Ok root
    → AreComplete objects all older root
complete_roots objects all before id older root whole complete is_older is_root = record {
  older = complete_root objects before older whole is_older;
  newer = complete_root all id root complete is_root;
}

module _ (objects : Objects) (before : List ℕ) (plan : Plan) (pushed older root : List ℕ) (keys : List Key) (whole : AreWhole objects before plan pushed)
    (is_older : root_at objects before ≡ Ok older) (is_root : root_at objects pushed ≡ Ok root) (of_pushed : NeedsBeside objects objects older pushed root keys) where
  old : (commit : Commit) × (commit_at objects before ≡ Ok commit) × (commit.root ≡ older)
  old = root_commit (commit_at objects before) older is_older

  new : (commit : Commit) × (commit_at objects pushed ≡ Ok commit) × (commit.root ≡ root)
  new = root_commit (commit_at objects pushed) root is_root

  own : NeedsBeside objects objects old.0.root pushed new.0.root keys
  own = subst₂ (λ (o : List ℕ) (r : List ℕ). NeedsBeside objects objects o pushed r keys) (sym old.2) (sym new.2) of_pushed

  -- the pushed commit is the head
  pub needed_one : plan.head ≡ pushed → ListsNeeded objects before plan pushed keys
  needed_one is_head = lists_one objects before plan pushed whole old.0 new.0 old.1 new.1 keys own is_head

  -- the head is another one
  pub needed_two : (head_root : List ℕ) (all : List Key) → plan_root objects plan ≡ Ok head_root → ListsBoth objects plan older head_root keys all → ListsNeeded objects before plan pushed all
  needed_two head_root all is_head both =
      let head = root_commit (commit_at (with_plan objects plan) plan.head) head_root is_head in
      subst (λ (ks : List Key). ListsNeeded objects before plan pushed ks) (sym both.are)
      (lists_both objects before plan pushed whole old.0 new.0 old.1 new.1 keys own head.0 head.1 both.more
      (subst₂ (λ (o : List ℕ) (r : List ℕ). NeedsBeside objects (with_plan objects plan) o plan.head r both.more) (sym old.2) (sym head.2) both.needs))

-- ---- the head that a plan makes

-- where it is stored it is as it is stored
pub plan_stored : (objects : Objects) (plan : Plan) (size : ℕ) → Some size ≡ option_map length (map.get objects (commit_key plan.head)) → root_at objects plan.head ≡ plan_root objects plan
plan_stored objects plan size there =
    sym (ap (λ (o : Option (List ℕ)). root_in (commit_in plan.head o)) (plan_get objects plan ∙ by (map.get objects (commit_key plan.head)) there))
  where
    by : (o : Option (List ℕ)) → Some size ≡ option_map length o
        → (if is_some o then o else if is_some (map.get plan.dirs (commit_key plan.head)) then map.get plan.dirs (commit_key plan.head) else plan.text) ≡ o
    by None e = cc
    by (Some bytes) e = refl

-- and else it is of the directories, or the text that is made
pub plan_unstored : (objects : Objects) (plan : Plan) (dirs : Option (List ℕ)) → None ≡ option_map length (map.get objects (commit_key plan.head)) → map.get plan.dirs (commit_key plan.head) ≡ dirs
    → plan_root objects plan ≡ root_in (commit_in plan.head (if is_some dirs then dirs else plan.text))
plan_unstored objects plan dirs gone is =
    ap (λ (o : Option (List ℕ)). root_in (commit_in plan.head o))
    (plan_get objects plan ∙ by (map.get objects (commit_key plan.head)) gone ∙ ap (λ (o : Option (List ℕ)). if is_some o then o else plan.text) is)
  where
    by : (o : Option (List ℕ)) → None ≡ option_map length o
        → (if is_some o then o else if is_some (map.get plan.dirs (commit_key plan.head)) then map.get plan.dirs (commit_key plan.head) else plan.text)
        ≡ (if is_some (map.get plan.dirs (commit_key plan.head)) then map.get plan.dirs (commit_key plan.head) else plan.text)
    by None e = refl
    by (Some bytes) e = cc

-- a root that can be read is read, unless the store fails
pub read_due : (objects : Objects) (r : Result (List ℕ) TreeFault) (root : List ℕ) (fault : WalkFault) → r ≡ Ok root → AnswersRead {T = List ℕ} objects r (Err fault)
    → IsDue objects None fault
read_due objects (Ok other) root fault e is = is
read_due objects (Err why) root fault e is = cc e

pub same_root : (r : Result (List ℕ) TreeFault) (a b : List ℕ) → r ≡ Ok a → r ≡ Ok b → a ≡ b
same_root r a b e f = cc

pub lists_head : (objects : Objects) (plan : Plan) (older root read : List ℕ) (before more all : List Key) → plan_root objects plan ≡ Ok root → plan_root objects plan ≡ Ok read
    → all ≡ before ++ more → NeedsBeside objects (with_plan objects plan) older plan.head read more → ListsBoth objects plan older root before all
lists_head objects plan older root read before more all is reads are needs = record {
  more = more;
  are = are;
  needs =
      subst (λ (r : List ℕ). NeedsBeside objects (with_plan objects plan) older plan.head r more) (same_root (plan_root objects plan) read root reads is) needs;
}

pub as_complete : (objects : Objects) (plan : Plan) (older root read : List ℕ) → plan_root objects plan ≡ Ok root → plan_root objects plan ≡ Ok read
    → AreComplete objects (with_plan objects plan) older root → AreComplete objects (with_plan objects plan) older read
as_complete objects plan older root read is reads complete =
    subst (λ (r : List ℕ). AreComplete objects (with_plan objects plan) older r) (same_root (plan_root objects plan) root read is reads) complete

-- the commit that a plan makes, by the bytes of its root
pub made_read : (objects : Objects) (plan : Plan) (dirs : Option (List ℕ)) (r : Result (List ℕ) WalkFault) → None ≡ option_map length (map.get objects (commit_key plan.head))
    → dirs ≡ map.get plan.dirs (commit_key plan.head) → AnswersRead objects (root_in (commit_in plan.head (if is_some dirs then dirs else plan.text))) r → AnswersRead objects (plan_root objects plan) r
made_read objects plan dirs r gone is due =
    subst (λ (root : Result (List ℕ) TreeFault). AnswersRead objects root r) (sym (plan_unstored objects plan dirs gone (sym is))) due

pub made_by_text : (objects : Objects) (plan : Plan) (text : Option (List ℕ)) (r : Result (List ℕ) WalkFault) → None ≡ option_map length (map.get objects (commit_key plan.head))
    → None ≡ map.get plan.dirs (commit_key plan.head) → plan.text ≡ text → AnswersRead objects (root_in (commit_in plan.head text)) r → AnswersRead objects (plan_root objects plan) r
made_by_text objects plan text r gone is has due =
    made_read objects plan None r gone is (subst (λ (o : Option (List ℕ)). AnswersRead objects (root_in (commit_in plan.head o)) r) (sym has) due)

pub stored_read : (objects : Objects) (plan : Plan) (size : ℕ) (r : Result (List ℕ) WalkFault) → Some size ≡ option_map length (map.get objects (commit_key plan.head))
    → AnswersRead objects (root_at objects plan.head) r → AnswersRead objects (plan_root objects plan) r
stored_read objects plan size r there due = subst (λ (root : Result (List ℕ) TreeFault). AnswersRead objects root r) (plan_stored objects plan size there) due

-- the fault of a head that isn't stored has its cause, and is no failure of the shelf
lack_uncounted : (head : List ℕ) (fault : WalkFault) → MayLack head fault → is_counted fault ≡ false
lack_uncounted head (Incomplete key) is = refl
lack_uncounted head (Unreadable key) is = refl
lack_uncounted head (Store (store.Taken id)) is = refl
lack_uncounted head (Store (store.Wrong id)) is = refl
lack_uncounted head (Store (store.Damaged want got)) is = refl
lack_uncounted head (Store store.Shelf) is = cc
lack_uncounted head (Store store.NoMemory) is = refl
lack_uncounted head (WrongKind id) is = refl
lack_uncounted head (WrongSize id) is = refl
lack_uncounted head (TooDeep path) is = refl
lack_uncounted head (TooMany paths) is = refl

lack_cause : (index : Index) (may_give : Slot → Option (List ℕ) → Type 0) (head : List ℕ) (fault : WalkFault) → map.get index (commit_key head) ≡ None → MayLack head fault
    → IsCause index may_give fault
lack_cause index may_give head (Incomplete key) none is = ap (map.get index) is ∙ none
lack_cause index may_give head (Unreadable key) none is = tt
lack_cause index may_give head (Store (store.Taken id)) none is = absurd (true≢false (sym is))
lack_cause index may_give head (Store (store.Wrong id)) none is = absurd (true≢false (sym is))
lack_cause index may_give head (Store (store.Damaged want got)) none is = absurd (true≢false (sym is))
lack_cause index may_give head (Store store.Shelf) none is = tt
lack_cause index may_give head (Store store.NoMemory) none is = tt
lack_cause index may_give head (WrongKind id) none is = absurd is
lack_cause index may_give head (WrongSize id) none is = absurd is
lack_cause index may_give head (TooDeep path) none is = absurd is
lack_cause index may_give head (TooMany paths) none is = absurd is

-- bytes that are at hand lack no head
pub lacks_bytes : (head : List ℕ) (fault : WalkFault) → IsTrue (is_of_bytes fault) → MayLack head fault
lacks_bytes head (Unreadable key) is = tt
lacks_bytes head (Store fault) is = is
lacks_bytes head (Incomplete key) is = absurd (true≢false (sym is))
lacks_bytes head (WrongKind id) is = absurd (true≢false (sym is))
lacks_bytes head (WrongSize id) is = absurd (true≢false (sym is))
lacks_bytes head (TooDeep path) is = absurd (true≢false (sym is))
lacks_bytes head (TooMany paths) is = absurd (true≢false (sym is))

pub all_lack : {T : Type 0} (head : List ℕ) (r : Result T WalkFault) → IfErr r (λ fault. IsTrue (is_of_bytes fault)) → IfErr r (MayLack head)
all_lack head (Ok value) is = tt
all_lack head (Err fault) is = lacks_bytes head fault is

module _ {S : Type 0} {contents : S → Option Contents} {may_give : S → Slot → Option (List ℕ) → Type 0} {texts faults : S → ℕ} where
  pub reads_made : {T : Type 0} (store : StoreView S) (head : List ℕ) (result : Result T WalkFault) → map.get store.index (commit_key head) ≡ None → IfErr result (MayLack head)
      → Reads contents may_give texts faults store store result
  reads_made {T = T} store head result none free = record {
    kept = record { index = refl; shelf = refl; objects = refl };
    shelf = record { gives = λ slot given is. is; written = refl };
    cause = cause result free;
    count = count result free;
  }
    where
      cause : (r : Result T WalkFault) → IfErr r (MayLack head) → CausedBy store.index (may_give store.shelf) r
      cause (Ok value) is = tt
      cause (Err fault) is = lack_cause store.index (may_give store.shelf) head fault none is

      uncounted : (n : ℕ) (b : Bool) → b ≡ false → MatchBool b ((n ≤ n) × Rose n n) (n ≡ n)
      uncounted n true e = cc e
      uncounted n false e = refl

      count : (r : Result T WalkFault) → IfErr r (MayLack head) → FailsBy is_counted (faults store.shelf) (faults store.shelf) r
      count (Ok value) is = refl
      count (Err fault) is = uncounted (faults store.shelf) (is_counted fault) (lack_uncounted head fault is)

-- ---- a commit that was read

pub commit_root_read : (objects : Objects) (r : Result Commit TreeFault) (commit : Commit) (root : List ℕ) → AnswersRead objects r (Ok commit) → root ≡ commit.root
    → AnswersRead objects (root_in r) (Ok root)
commit_root_read objects (Ok other) commit root is same = same ∙ ap (λ (c : Commit). c.root) is
commit_root_read objects (Err why) commit root is same = absurd is

pub commit_root_unread : (objects : Objects) (r : Result Commit TreeFault) (fault : WalkFault) → AnswersRead {T = Commit} objects r (Err fault)
    → AnswersRead {T = List ℕ} objects (root_in r) (Err fault)
commit_root_unread objects (Ok other) fault is = is
commit_root_unread objects (Err why) fault is = is
