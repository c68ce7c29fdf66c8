-- What a head update keeps from the collection that runs. The key lemmas are plan_made, plan_get, none_made, needs_parts, lists_both and
-- lists_one.
use Rattle.std.proofs.Common.{◌≡◌, ◌⊎◌, inl, inr, ◌||◌, ℕ, Bool, true, false, if◌then◌else◌, cond, List, [], ◌∷◌, ◌++◌, refl, sym, ap, ◌∙◌, subst, true≢false, Option, None, Some, is_some, Result, Ok}
use Rattle.std.specs.FinMap as map
use Rattle.std.proofs.lemmas.Bool.{or_cases, or_left, or_right}
use Rattle.ids.specs.Key.{Objects, key_cmp}
use Rattle.ids.specs.declared.key.Key.{Key}
use Rattle.ids.specs.declared.key.Kind.TheVariants as kind
use Rattle.ids.proofs.KeyOrderLemmas.{key_cmp_total}
use Rattle.commit_objects.specs.declared.commit.Commit.{Commit}
use Rattle.library_rules.specs.Changes.{with_added}
use Rattle.library_rules.specs.LibraryState.{is_stored}
use Rattle.library_rules.proofs.HistoryLemmas.{commit_visited}
use Rattle.library_rules.proofs.KeepingLemmas.{agrees_grown, grown, keeps_itself, same_needs}
use Rattle.object_graph.specs.Objects.{commit_at, commit_key}
use Rattle.object_graph.specs.Reached.{named, named_by_commit, own_keys}
use Rattle.object_graph.specs.Traversal.{IsComplete, IsCompleteRoot, is_in, needs, walk_commit}
use Rattle.object_graph.specs.declared.fault.TreeFault.{TreeFault}
use Rattle.object_graph.proofs.CommitLemmas.{commit_root}
use Rattle.object_graph.proofs.KeyLemmas.{in_append, in_distinct, same_key, same_key-itself, same_key-true}
use Rattle.object_graph.proofs.ReachingLemmas.{commit_closes, commit_within, root_closes, root_has, root_within}
use Rattle.collector.specs.Comparing.{AreWithMade, is_below}
use Rattle.collector.specs.Marks.{needed_by}
use Rattle.collector.proofs.MadeLemmas.{get-with_made}
use Rattle.depot.specs.Plan.{listed, objects_in, own_object}
use Rattle.depot.specs.Shields.{AreWhole, ListsNeeded, NeedsBeside, with_plan}
use Rattle.depot.specs.declared.plan.Plan.{Plan}
use Rattle.depot.proofs.UpdateInstallLemmas.{added_append}

-- ---- what is stored with what a plan makes

-- the commit that is made is no file and no directory
pub plan_made : (objects : Objects) (plan : Plan) → AreWithMade objects plan.dirs (with_plan objects plan)
plan_made objects plan = record { keeps = grown objects (objects_in plan); fs = λ key is. ap (λ (o : Objects). map.get o key) (added_append objects (listed (map.entries plan.dirs)) (own_object plan.head plan.text)) ∙ by plan.text key is }
  where
    dirs : Objects
    dirs = with_added objects (listed (map.entries plan.dirs))

    kinds : (key : Key) → key.kind ≡ kind.Fs → key ≡ commit_key plan.head → ⊥
    kinds key is same = let e : kind.Fs ≡ kind.Commit = sym is ∙ ap (λ (k : Key). k.kind) same in cc

    put_other : (text : List ℕ) (key : Key) → key.kind ≡ kind.Fs → (b : Bool) → is_stored dirs (commit_key plan.head) ≡ b
        → map.get (if b then dirs else map.insert dirs (commit_key plan.head) text) key ≡ map.get dirs key
    put_other text key is true there = refl
    put_other text key is false gone = map.get-insert key_cmp_total dirs (commit_key plan.head) text key ∙ other (same_key key (commit_key plan.head)) refl
      where
        other : (b : Bool) → same_key key (commit_key plan.head) ≡ b → cond b (Some text) (map.get dirs key) ≡ map.get dirs key
        other true same = absurd (kinds key is (same_key-true key (commit_key plan.head) same))
        other false differs = refl

    by : (o : Option (List ℕ)) (key : Key) → key.kind ≡ kind.Fs → map.get (with_added dirs (own_object plan.head o)) key ≡ map.get dirs key
    by None key is = refl
    by (Some text) key is = put_other text key is (is_stored dirs (commit_key plan.head)) refl

-- the head's commit is what is stored, or else of the directories, or else its text
pub plan_get : (objects : Objects) (plan : Plan) → map.get (with_plan objects plan) (commit_key plan.head)
    ≡ (if is_some (map.get objects (commit_key plan.head)) then map.get objects (commit_key plan.head)
    else if is_some (map.get plan.dirs (commit_key plan.head)) then map.get plan.dirs (commit_key plan.head) else plan.text)
plan_get objects plan =
    ap (λ (o : Objects). map.get o key) (added_append objects (listed (map.entries plan.dirs)) (own_object plan.head plan.text))
    ∙ by plan.text ∙ ap (λ o. if is_some o then o else plan.text) (get-with_made objects plan.dirs key)
    ∙ nested (map.get objects key) (map.get plan.dirs key) plan.text
  where
    key : Key
    key = commit_key plan.head

    dirs : Objects
    dirs = with_added objects (listed (map.entries plan.dirs))

    nested : (a b c : Option (List ℕ)) → (if is_some (if is_some a then a else b) then (if is_some a then a else b) else c) ≡ (if is_some a then a else if is_some b then b else c)
    nested (Some x) b c = refl
    nested None (Some y) c = refl
    nested None None c = refl

    put : (text : List ℕ) (b : Bool) → is_some (map.get dirs (commit_key plan.head)) ≡ b
        → map.get (if b then dirs else map.insert dirs (commit_key plan.head) text) (commit_key plan.head) ≡ (if is_some (map.get dirs (commit_key plan.head)) then map.get dirs (commit_key plan.head) else Some text)
    put text true there = sym (ap (λ b. if b then map.get dirs (commit_key plan.head) else Some text) there)
    put text false gone =
        map.get-insert key_cmp_total dirs (commit_key plan.head) text (commit_key plan.head)
        ∙ ap (λ b. cond b (Some text) (map.get dirs (commit_key plan.head))) (same_key-itself (commit_key plan.head))
        ∙ sym (ap (λ b. if b then map.get dirs (commit_key plan.head) else Some text) gone)

    none : (o : Option (List ℕ)) → o ≡ (if is_some o then o else None)
    none None = refl
    none (Some x) = refl

    by : (o : Option (List ℕ)) → map.get (with_added dirs (own_object plan.head o)) (commit_key plan.head) ≡ (if is_some (map.get dirs (commit_key plan.head)) then map.get dirs (commit_key plan.head) else o)
    by None = none (map.get dirs (commit_key plan.head))
    by (Some text) = put text (is_some (map.get dirs (commit_key plan.head))) refl

-- what is stored alone, where nothing is made
pub none_made : (objects : Objects) (made : map.FinMap key_cmp (List ℕ)) → made ≡ map.empty → AreWithMade objects made objects
none_made objects made none = record { keeps = keeps_itself objects; fs = λ key is. sym (get-with_made objects made key ∙ nothing key (is_some (map.get objects key)) refl) }
  where
    absent : (key : Key) → map.get made key ≡ None
    absent key = ap (λ m. map.get m key) none ∙ map.get-empty key_cmp key

    nothing : (key : Key) (b : Bool) → is_some (map.get objects key) ≡ b → (if is_some (map.get objects key) then map.get objects key else map.get made key) ≡ map.get objects key
    nothing key true there = ap (λ c. if c then map.get objects key else map.get made key) there
    nothing key false gone = ap (λ c. if c then map.get objects key else map.get made key) gone ∙ absent key ∙ sym (empty (map.get objects key) gone)
      where
        empty : (o : Option (List ℕ)) → is_some o ≡ false → o ≡ None
        empty None e = refl
        empty (Some bytes) e = absurd (true≢false e)

-- ---- what a commit needs: its own key, and what is below its root

module _ (A : Objects) (id : List ℕ) (commit : Commit) (complete : IsComplete A id) (read : commit_at A id ≡ Ok commit) where
  pub root_complete : IsCompleteRoot A commit.root
  root_complete =
      let own = commit_root A id complete in
      subst (λ (c : Commit). IsCompleteRoot A c.root) (one (commit_at A id) own.0 commit own.1 read) own.2
    where
      one : (r : Result Commit TreeFault) (a b : Commit) → r ≡ Ok a → r ≡ Ok b → a ≡ b
      one r a b e f = cc

  names_root : (key : Key) → is_in (named A (commit_key id)) key ≡ is_in (own_keys commit.root) key
  names_root key = ap (λ (r : Result Commit TreeFault). is_in (named_by_commit r) key) read

  pub needs_parts : (key : Key) → is_in (needs A id) key ≡ true → (key ≡ commit_key id) ⊎ (is_below A commit.root key ≡ true)
  needs_parts key needed =
      commit_within A (λ k. (k ≡ commit_key id) ⊎ (is_below A commit.root k ≡ true)) closed id (inl refl) key (sym (in_distinct (walk_commit A id).visits key) ∙ needed)
    where
      closed : (above k : Key) → (above ≡ commit_key id) ⊎ (is_below A commit.root above ≡ true) → is_in (named A above) k ≡ true → (k ≡ commit_key id) ⊎ (is_below A commit.root k ≡ true)
      closed above k (inl own) naming = inr (root_has A commit.root root_complete k (sym (names_root k) ∙ ap (λ a. is_in (named A a) k) (sym own) ∙ naming))
      closed above k (inr below) naming = inr (root_closes A commit.root root_complete above k below naming)

  visited_own : is_in (walk_commit A id).visits (commit_key id) ≡ true
  visited_own = sym (in_distinct (walk_commit A id).visits (commit_key id)) ∙ commit_visited A id

  pub below_needed : (key : Key) → is_below A commit.root key ≡ true → is_in (needs A id) key ≡ true
  below_needed key below =
      in_distinct (walk_commit A id).visits key
      ∙ root_within A (λ k. is_in (walk_commit A id).visits k ≡ true) (λ above k is naming. commit_closes A id complete above k is naming) commit.root
      (λ k own. commit_closes A id complete (commit_key id) k visited_own (names_root k ∙ own)) key below

  -- what was listed of it is needed, and what it needs was listed, or is below the older root
  module _ (objects : Objects) (before : List ℕ) (keys : List Key) (lists : NeedsBeside objects A before id commit.root keys) where
    pub listed_needed : (key : Key) → is_in keys key ≡ true → is_in (needs A id) key ≡ true
    listed_needed key among = by (lists.needed key among)
      where
        by : (key ≡ commit_key id) ⊎ (is_below A commit.root key ≡ true) → is_in (needs A id) key ≡ true
        by (inl own) = ap (is_in (needs A id)) own ∙ commit_visited A id
        by (inr below) = below_needed key below

    pub needed_listed : (key : Key) → is_in (needs A id) key ≡ true → (is_in keys key ≡ true) ⊎ (is_below objects before key ≡ true)
    needed_listed key needed = by (needs_parts key needed)
      where
        by : (key ≡ commit_key id) ⊎ (is_below A commit.root key ≡ true) → (is_in keys key ≡ true) ⊎ (is_below objects before key ≡ true)
        by (inl own) = inl (ap (is_in keys) own ∙ lists.own)
        by (inr below) = or_cases (is_in keys key) (is_below objects before key) (lists.each key below)

-- ---- both commits

module _ (objects : Objects) (before : List ℕ) (plan : Plan) (pushed : List ℕ) (whole : AreWhole objects before plan pushed) (old new : Commit)
    (reads_old : commit_at objects before ≡ Ok old) (reads_pushed : commit_at objects pushed ≡ Ok new) (pushed_keys : List Key) (of_pushed : NeedsBeside objects objects old.root pushed new.root pushed_keys) where
  -- the pushed commit needs the same with what is made
  same_pushed : needs (with_plan objects plan) pushed ≡ needs objects pushed
  same_pushed = same_needs objects (with_plan objects plan) pushed (agrees_grown objects (with_plan objects plan) pushed whole.pushed_one (grown objects (objects_in plan)))

  old_needs : (key : Key) → is_below objects old.root key ≡ true → needed_by objects (before ∷ []) key ≡ true
  old_needs key below = or_left (is_in (needs objects before) key) false (below_needed objects before old whole.older reads_old key below)

  from_pushed : (key : Key) → is_in (needs (with_plan objects plan) pushed) key ≡ true → (is_in pushed_keys key ≡ true) ⊎ (needed_by objects (before ∷ []) key ≡ true)
  from_pushed key needed = by (needed_listed objects pushed new whole.pushed_one reads_pushed objects old.root pushed_keys of_pushed key (ap (λ keys. is_in keys key) (sym same_pushed) ∙ needed))
    where
      by : (is_in pushed_keys key ≡ true) ⊎ (is_below objects old.root key ≡ true) → (is_in pushed_keys key ≡ true) ⊎ (needed_by objects (before ∷ []) key ≡ true)
      by (inl among) = inl among
      by (inr below) = inr (old_needs key below)

  to_pushed : (key : Key) → is_in pushed_keys key ≡ true → is_in (needs (with_plan objects plan) pushed) key ≡ true
  to_pushed key among = ap (λ keys. is_in keys key) same_pushed ∙ listed_needed objects pushed new whole.pushed_one reads_pushed objects old.root pushed_keys of_pushed key among

  only : (a b : Bool) → (a || (b || false)) ≡ true → (a ≡ true) ⊎ (b ≡ true)
  only true b e = inl refl
  only false true e = inr refl
  only false false e = absurd (true≢false (sym e))

  -- the pushed commit is the head
  pub lists_one : plan.head ≡ pushed → ListsNeeded objects before plan pushed pushed_keys
  lists_one is_head = record {
    needed = λ key among. or_right (is_in (needs (with_plan objects plan) plan.head) key) (is_in (needs (with_plan objects plan) pushed) key || false)
        (or_left (is_in (needs (with_plan objects plan) pushed) key) false (to_pushed key among));
    each = λ key needed. joined key (from_pushed key (same key (only (is_in (needs (with_plan objects plan) plan.head) key) (is_in (needs (with_plan objects plan) pushed) key) needed)));
  }
    where
      same : (key : Key) → (is_in (needs (with_plan objects plan) plan.head) key ≡ true) ⊎ (is_in (needs (with_plan objects plan) pushed) key ≡ true) → is_in (needs (with_plan objects plan) pushed) key ≡ true
      same key (inl of_head) = subst (λ id. is_in (needs (with_plan objects plan) id) key ≡ true) is_head of_head
      same key (inr is) = is

      joined : (key : Key) → (is_in pushed_keys key ≡ true) ⊎ (needed_by objects (before ∷ []) key ≡ true) → (is_in pushed_keys key || needed_by objects (before ∷ []) key) ≡ true
      joined key (inl among) = or_left (is_in pushed_keys key) (needed_by objects (before ∷ []) key) among
      joined key (inr older) = or_right (is_in pushed_keys key) (needed_by objects (before ∷ []) key) older

  -- the head is made, or another stored commit
  pub lists_both : (head : Commit) → commit_at (with_plan objects plan) plan.head ≡ Ok head → (head_keys : List Key) → NeedsBeside objects (with_plan objects plan) old.root plan.head head.root head_keys
      → ListsNeeded objects before plan pushed (pushed_keys ++ head_keys)
  lists_both head reads_head head_keys of_head = record {
    needed = λ key among. needed key (or_cases (is_in pushed_keys key) (is_in head_keys key) (sym (in_append pushed_keys head_keys key) ∙ among));
    each = λ key is. each key (only (is_in (needs (with_plan objects plan) plan.head) key) (is_in (needs (with_plan objects plan) pushed) key) is);
  }
    where
      needed : (key : Key) → (is_in pushed_keys key ≡ true) ⊎ (is_in head_keys key ≡ true) → needed_by (with_plan objects plan) (plan.head ∷ pushed ∷ []) key ≡ true
      needed key (inl among) = or_right (is_in (needs (with_plan objects plan) plan.head) key) (is_in (needs (with_plan objects plan) pushed) key || false)
          (or_left (is_in (needs (with_plan objects plan) pushed) key) false (to_pushed key among))
      needed key (inr among) = or_left (is_in (needs (with_plan objects plan) plan.head) key) (is_in (needs (with_plan objects plan) pushed) key || false)
          (listed_needed (with_plan objects plan) plan.head head whole.head reads_head objects old.root head_keys of_head key among)

      in_both : (key : Key) → (is_in pushed_keys key || is_in head_keys key) ≡ true → (is_in (pushed_keys ++ head_keys) key || needed_by objects (before ∷ []) key) ≡ true
      in_both key among = or_left (is_in (pushed_keys ++ head_keys) key) (needed_by objects (before ∷ []) key) (in_append pushed_keys head_keys key ∙ among)

      old_one : (key : Key) → needed_by objects (before ∷ []) key ≡ true → (is_in (pushed_keys ++ head_keys) key || needed_by objects (before ∷ []) key) ≡ true
      old_one key older = or_right (is_in (pushed_keys ++ head_keys) key) (needed_by objects (before ∷ []) key) older

      of_pushed_one : (key : Key) → (is_in pushed_keys key ≡ true) ⊎ (needed_by objects (before ∷ []) key ≡ true) → (is_in (pushed_keys ++ head_keys) key || needed_by objects (before ∷ []) key) ≡ true
      of_pushed_one key (inl among) = in_both key (or_left (is_in pushed_keys key) (is_in head_keys key) among)
      of_pushed_one key (inr older) = old_one key older

      of_head_one : (key : Key) → (is_in head_keys key ≡ true) ⊎ (is_below objects old.root key ≡ true) → (is_in (pushed_keys ++ head_keys) key || needed_by objects (before ∷ []) key) ≡ true
      of_head_one key (inl among) = in_both key (or_right (is_in pushed_keys key) (is_in head_keys key) among)
      of_head_one key (inr below) = old_one key (old_needs key below)

      each : (key : Key) → (is_in (needs (with_plan objects plan) plan.head) key ≡ true) ⊎ (is_in (needs (with_plan objects plan) pushed) key ≡ true)
          → (is_in (pushed_keys ++ head_keys) key || needed_by objects (before ∷ []) key) ≡ true
      each key (inl of_head_needs) = of_head_one key (needed_listed (with_plan objects plan) plan.head head whole.head reads_head objects old.root head_keys of_head key of_head_needs)
      each key (inr of_pushed_needs) = of_pushed_one key (from_pushed key of_pushed_needs)
