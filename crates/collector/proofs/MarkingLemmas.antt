-- Objects marked one after another, over any shelf. The key lemmas are one_more, marks_next, waits_met, good_next, good_met,
-- has_marked_one, has_marked_then, tells_done, tells_all and the ways out with a fault.
use Rattle.std.proofs.Common.{◌≡◌, ◌≢◌, ◌==◌, ◌&&◌, ◌||◌, ◌≤◌, ◌+◌, ℕ, zero, suc, Bool, true, false, cond, if◌then◌else◌, not, is_some, arith, List, [], ◌∷◌, ◌++◌, length, refl, sym, ap, ap₂, ◌∙◌, subst, subst₂, append-nil, append_assoc, true≢false, Option, None, Some, Result, Ok, Err}
use Rattle.std.specs.Prelude.{⊤, IfErr, IfOk, IsErr}
use Rattle.std.specs.FinMap as map
use Rattle.std.specs.List.{IsDistinct}
use Rattle.std.specs.Ordering.{eq_by_cmp}
use Rattle.std.proofs.lemmas.Bool.{eqb-true, false_from_ne_true}
use Rattle.std.proofs.lemmas.List.{length_push}
use Rattle.ids.specs.Key.{Objects, key_cmp}
use Rattle.ids.specs.declared.key.Key.{Key}
use Rattle.ids.proofs.KeyOrderLemmas.{key_cmp_total}
use Rattle.object_graph.specs.Reached.{named}
use Rattle.object_graph.specs.Traversal.{distinct_from, is_in, walk_commit}
use Rattle.object_graph.specs.declared.fault.TreeFault.{TreeFault}
use Rattle.object_graph.proofs.KeyLemmas.{in_append, same_key}
use Rattle.object_store.specs.Shelf.{Contents}
use Rattle.object_store.specs.StoreView.{Index, StoreView}
use Rattle.object_store.specs.declared.shelf.Slot.{Slot}
use Rattle.tree_walk.specs.Files.{first_due}
use Rattle.tree_walk.specs.Reading.{AnswersRead, IsCause, IsDue, Reads}
use Rattle.tree_walk.specs.declared.fault.WalkFault.{WalkFault}
use Rattle.tree_walk.specs.declared.fault.WalkFault.TheVariants.{Incomplete, Unreadable, WrongKind, WrongSize, TooDeep, TooMany, Store}
use Rattle.tree_walk.proofs.StepsLemmas.{due_anywhere}
use Rattle.collector.specs.Marking.{FailsToMark, HasMarked, IsDamageOfNeeded, IsDamageRead, IsMarkFault, MarksMany, MarksOne, MarksUpTo, TellsMarked, WaitsWith, first_fault, is_of_store, named_first}
use Rattle.collector.specs.Marks.{AreCompleteCommits, AreMarks, Candidates, IsExact, MarksView, is_candidate, phase_of}
use Rattle.collector.specs.declared.marks.Phase.TheVariants.{Marking, Sweeping, Over}
use Rattle.collector.specs.Naming.{names_at}
use Rattle.collector.specs.Worklist.{MeetsFront, Opens, WorklistView, all_met, first_of}
use Rattle.collector.proofs.LeadingLemmas.{commits_many, damage_needed, exact_many, fails_by_store, fails_in_store, not_marked}
use Rattle.collector.proofs.WorklistLemmas.{first_is, once_met}

-- ---- the marks, by their parts

abbrev pub marks_of : List (List ℕ) → (marked pending : List Key) → Candidates → MarksView
marks_of commits marked pending candidates = record { commits = commits; marked = marked; pending = pending; candidates = candidates }

-- ---- what is due

pub is_marking : (m : MarksView) → (length m.pending == 0) ≡ false → Marking ≡ phase_of m
is_marking m e = sym (ap (λ (b : Bool). if b then (if map.len m.candidates == 0 then Over else Sweeping) else Marking) e)

pub is_over : (m : MarksView) → (length m.pending == 0) ≡ true → map.len m.candidates ≡ 0 → Over ≡ phase_of m
is_over m e f =
    sym (ap (λ (b : Bool). if b then (if map.len m.candidates == 0 then Over else Sweeping) else Marking) e
    ∙ ap (λ (n : ℕ). if n == 0 then Over else Sweeping) f)

pub is_sweeping : (m : MarksView) → (length m.pending == 0) ≡ true → map.len m.candidates ≢ 0 → Sweeping ≡ phase_of m
is_sweeping m e f =
    sym (ap (λ (b : Bool). if b then (if map.len m.candidates == 0 then Over else Sweeping) else Marking) e
    ∙ ap (λ (b : Bool). if b then Over else Sweeping) (false_from_ne_true (map.len m.candidates == 0) (λ is. f (eqb-true (map.len m.candidates) 0 is))))

-- ---- the step on the list and the candidates

head_same : (a b : Key) (xs ys : List Key) → a ∷ xs ≡ b ∷ ys → a ≡ b
head_same a b xs ys e = cc

tail_same : (a b : Key) (xs ys : List Key) → a ∷ xs ≡ b ∷ ys → xs ≡ ys
tail_same a b xs ys e = cc

-- the key that waited first was opened, after these names were met
pub record Steps (names : List Key) (key : Key) (work opened : WorklistView) : Type 0 where
  pub rest : List Key
  pub first : work.waiting ≡ key ∷ rest
  pub marked : opened.opened ≡ work.opened ++ key ∷ []
  pub pending : opened.waiting ≡ rest ++ distinct_from (work.opened ++ work.waiting) names

pub steps_on : (names : List Key) (key : Key) (work met opened : WorklistView) → Some key ≡ first_of work.waiting
    → met ≡ record work { waiting = work.waiting ++ distinct_from (all_met work) names } → Opens met opened → Steps names key work opened
steps_on names key work met opened is meets opens = record {
  rest = one.0;
  first = one.1;
  marked = opens.opened ∙ ap₂ (λ (ks : List Key) (k : Key). ks ++ k ∷ []) (ap (λ (w : WorklistView). w.opened) meets) own;
  pending = opens.waiting ∙ back;
}
  where
    one : (rest : List Key) × (work.waiting ≡ key ∷ rest)
    one = first_is work.waiting key is

    same : opens.key ∷ opens.rest ≡ key ∷ (one.0 ++ distinct_from (all_met work) names)
    same =
        sym opens.first ∙ ap (λ (w : WorklistView). w.waiting) meets
        ∙ ap (λ (ks : List Key). ks ++ distinct_from (all_met work) names) one.1

    own : opens.key ≡ key
    own = head_same opens.key key opens.rest (one.0 ++ distinct_from (all_met work) names) same

    back : opens.rest ≡ one.0 ++ distinct_from (all_met work) names
    back = tail_same opens.key key opens.rest (one.0 ++ distinct_from (all_met work) names) same

pub marks_next : (objects : Objects) (commits : List (List ℕ)) (names : List Key) (key : Key) (work opened : WorklistView) (candidates after : Candidates)
    → Steps names key work opened → names ≡ named objects key → after ≡ map.remove candidates key
    → MarksOne objects (marks_of commits work.opened work.waiting candidates) (marks_of commits opened.opened opened.waiting after)
marks_next objects commits names key work opened candidates after steps named_are gone = record {
  key = key;
  rest = steps.rest;
  first = steps.first;
  commits = refl;
  marked = steps.marked;
  pending = steps.pending ∙ ap (λ (ks : List Key). steps.rest ++ distinct_from (work.opened ++ work.waiting) ks) named_are;
  candidates = gone;
}

pub good_next : (commits : List (List ℕ)) (names : List Key) (key : Key) (work opened : WorklistView) (candidates after : Candidates)
    → Steps names key work opened → after ≡ map.remove candidates key → AreMarks (marks_of commits work.opened work.waiting candidates)
    → AreMarks (marks_of commits opened.opened opened.waiting after)
good_next commits names key work opened candidates after steps gone good = record {
  once =
      subst₂ (λ (marked : List Key) (pending : List Key). IsDistinct (eq_by_cmp key_cmp) (marked ++ pending)) (sym steps.marked) (sym steps.pending)
      (subst (IsDistinct (eq_by_cmp key_cmp)) (sym (regroup work.opened steps.rest (distinct_from (work.opened ++ work.waiting) names)))
      (subst (λ (ks : List Key). IsDistinct (eq_by_cmp key_cmp) ((work.opened ++ ks) ++ distinct_from (work.opened ++ work.waiting) names)) steps.first
      (once_met (work.opened ++ work.waiting) names good.once)));
  apart = λ q there.
      by q (same_key q key) refl (sym (ap is_some (ap (λ (c : Candidates). map.get c q) gone ∙ map.get-remove key_cmp_total candidates key q)) ∙ there);
}
  where
    regroup : (marked rest found : List Key) → (marked ++ key ∷ []) ++ (rest ++ found) ≡ (marked ++ key ∷ rest) ++ found
    regroup marked rest found = append_assoc marked (key ∷ []) (rest ++ found) ∙ sym (append_assoc marked (key ∷ rest) found)

    by : (q : Key) (b : Bool) → same_key q key ≡ b → is_some (cond b None (map.get candidates q)) ≡ true → is_in opened.opened q ≡ false
    by q true same e = absurd (true≢false (sym e))
    by q false other e = ap (λ (ks : List Key). is_in ks q) steps.marked ∙ not_marked work.opened key q (good.apart q e) other

-- the first ones of some keys were met
pub good_met : (commits : List (List ℕ)) (names : List Key) (work met : WorklistView) (candidates : Candidates) → MeetsFront names work met
    → AreMarks (marks_of commits work.opened work.waiting candidates) → AreMarks (marks_of commits met.opened met.waiting candidates)
good_met commits names work met candidates meets good = record {
  once =
      subst₂ (λ (marked : List Key) (pending : List Key). IsDistinct (eq_by_cmp key_cmp) (marked ++ pending)) (sym meets.opened) (sym meets.waiting)
      (subst (IsDistinct (eq_by_cmp key_cmp)) (append_assoc work.opened work.waiting (distinct_from (all_met work) meets.front))
      (once_met (work.opened ++ work.waiting) meets.front good.once));
  apart = λ q there. ap (λ (ks : List Key). is_in ks q) meets.opened ∙ good.apart q there;
}

pub waits_met : (objects : Objects) (commits : List (List ℕ)) (names : List Key) (key : Key) (work met : WorklistView) (candidates : Candidates)
    → Some key ≡ first_of work.waiting → names ≡ named objects key → MeetsFront names work met
    → WaitsWith objects (marks_of commits work.opened work.waiting candidates) (marks_of commits met.opened met.waiting candidates)
waits_met objects commits names key work met candidates is named_are meets = record {
  front = meets.front;
  rest = meets.rest;
  parts = ap (named_first objects) (first_is work.waiting key is).1 ∙ sym named_are ∙ meets.parts;
  commits = refl;
  marked = meets.opened;
  pending = meets.waiting;
  candidates = refl;
}

pub waits_none : (objects : Objects) (m : MarksView) → WaitsWith objects m m
waits_none objects m = record {
  front = [];
  rest = named_first objects m.pending;
  parts = refl;
  commits = refl;
  marked = refl;
  pending = sym (append-nil m.pending);
  candidates = refl;
}

pub fails_to_mark : (objects : Objects) (commits : List (List ℕ)) (marked pending : List Key) (candidates : Candidates) (key : Key) (fault : WalkFault) → Some key ≡ first_of pending
    → AnswersRead {T = List Key} objects (names_at objects key) (Err fault) → IsDamageRead objects key fault → FailsToMark objects (marks_of commits marked pending candidates) fault
fails_to_mark objects commits marked pending candidates key fault is due damage =
    let one = first_is pending key is in record { key = key; rest = one.0; first = one.1; due = due; damage = damage }

pub size_next : (names : List Key) (key : Key) (work opened : WorklistView) → Steps names key work opened → length opened.opened ≡ length work.opened + 1
size_next names key work opened steps = ap length steps.marked ∙ length_push work.opened key

-- ---- where objects are told

pub none_marked : (objects : Objects) (m : MarksView) → MarksMany objects m m 0
none_marked objects m = refl

pub one_more : (objects : Objects) (old next new : MarksView) (count : ℕ) → MarksMany objects old next count → MarksOne objects next new → MarksMany objects old new (count + 1)
one_more objects old next new count marks one =
    let on : suc count ≡ count + 1 = omega arith in
    subst (λ (n : ℕ). MarksMany objects old new n) on (next, marks, one)

pub up_to : (objects : Objects) (old next new : MarksView) (count : ℕ) → MarksMany objects old next count → WaitsWith objects next new → MarksUpTo objects old new
up_to objects old next new count marks waits = record { count = count; next = next; before = marks; waits = waits }

-- ---- over any shelf

and_true : (b : Bool) → b ≡ (b && true)
and_true true = refl
and_true false = refl

both_out : (a x y : Bool) → ((a && not x) && not y) ≡ (a && not (x || y))
both_out true true y = refl
both_out true false y = refl
both_out false x y = refl

out_one : (s : Bool) (o : Option ⊤) → is_some (cond s None o) ≡ (is_some o && not (s || false))
out_one true None = refl
out_one true (Some tt) = refl
out_one false o = and_true (is_some o)

pub has_marked_none : (m : MarksView) → HasMarked m m
has_marked_none m = record { more = []; commits = refl; marked = sym (append-nil m.marked); candidates = λ key. and_true (is_candidate m key) }

-- one key was marked, and left the candidates
pub has_marked_one : (old new : MarksView) (key : Key) → new.commits ≡ old.commits → new.marked ≡ old.marked ++ key ∷ [] → new.candidates ≡ map.remove old.candidates key
    → HasMarked old new
has_marked_one old new key commits marked candidates = record {
  more = key ∷ [];
  commits = commits;
  marked = marked;
  candidates = λ q.
      ap is_some (ap (λ (c : Candidates). map.get c q) candidates ∙ map.get-remove key_cmp_total old.candidates key q) ∙ out_one (same_key q key) (map.get old.candidates q);
}

pub has_marked_then : (old next new : MarksView) → HasMarked old next → HasMarked next new → HasMarked old new
has_marked_then old next new one two = record {
  more = one.more ++ two.more;
  commits = two.commits ∙ one.commits;
  marked = two.marked ∙ ap (λ (ks : List Key). ks ++ two.more) one.marked ∙ append_assoc old.marked one.more two.more;
  candidates = λ key.
      two.candidates key ∙ ap (λ (b : Bool). b && not (is_in two.more key)) (one.candidates key)
      ∙ both_out (is_candidate old key) (is_in one.more key) (is_in two.more key) ∙ ap (λ (b : Bool). is_candidate old key && not b) (sym (in_append one.more two.more key));
}

-- only what waits is changed
pub has_marked_same : (old new : MarksView) → new.commits ≡ old.commits → new.marked ≡ old.marked → new.candidates ≡ old.candidates → HasMarked old new
has_marked_same old new commits marked candidates = record {
  more = [];
  commits = commits;
  marked = marked ∙ sym (append-nil old.marked);
  candidates = λ key. ap (λ (c : Candidates). is_some (map.get c key)) candidates ∙ and_true (is_candidate old key);
}

-- ---- how many

-- one more was marked
pub size_more : (old next new : MarksView) (count : ℕ) → length next.marked ≡ length old.marked + count → length new.marked ≡ length next.marked + 1
    → length new.marked ≡ length old.marked + (count + 1)
size_more old next new count size one = omega (arith, size, one)

-- nothing waits any more, before as many were marked as were asked for
pub tells_done : (at_most : ℕ) (old new : MarksView) (count : ℕ) → length new.marked ≡ length old.marked + count → count ≤ at_most
    → (count ≡ 0 → new.pending ≡ old.pending) → new.pending ≡ [] → TellsMarked at_most old new count
tells_done at_most old new count size few first none = record { size = size; few = few; some = λ some. by count refl some; all = λ less. none }
  where
    by : (n : ℕ) → count ≡ n → old.pending ≢ [] → 1 ≤ count
    by zero is some = absurd (some (sym (first is) ∙ none))
    by (suc n) is some = omega (arith, is)

-- as many were marked as were asked for
pub tells_all : (at_most : ℕ) (old new : MarksView) → 1 ≤ at_most → length new.marked ≡ length old.marked + at_most → TellsMarked at_most old new at_most
tells_all at_most old new one size = record {
  size = size;
  few = omega arith;
  some = λ some. one;
  all = λ less. let no : ⊥ = omega (arith, less) in absurd no;
}

-- ---- the ways out with a fault

-- a fault of the store may come in any place
pub store_due : {T : Type 0} (objects : Objects) (r : Result T TreeFault) (due : Option TreeFault) (fault : WalkFault) → is_of_store fault ≡ true
    → AnswersRead {T = T} objects r (Err fault) → IsDue objects due fault
store_due objects r due (Incomplete key) is read = absurd (true≢false (sym is))
store_due objects r due (Unreadable key) is read = absurd (true≢false (sym is))
store_due objects r due (WrongKind id) is read = absurd (true≢false (sym is))
store_due objects r due (WrongSize id) is read = absurd (true≢false (sym is))
store_due objects r due (TooDeep path) is read = absurd (true≢false (sym is))
store_due objects r due (TooMany paths) is read = absurd (true≢false (sym is))
store_due objects (Ok value) due (Store fault) is read = read
store_due objects (Err why) due (Store fault) is read = read

-- of another one a commit has a fault
pub some_fault : (objects : Objects) (old next new : MarksView) (count : ℕ) (fault : WalkFault) → MarksMany objects old next count → WaitsWith objects next new
    → IsExact objects old → FailsToMark objects next fault → is_of_store fault ≡ false → first_fault objects new.commits ≢ None
some_fault objects old next new count fault marks waits exact fails other none =
    true≢false
    (sym (fails_by_store objects next fault (ap (first_fault objects) (sym waits.commits) ∙ none) (exact_many objects old next count marks exact) fails) ∙ other)

-- where the commits are complete that can't come
pub none_fails : (objects : Objects) (old next : MarksView) (count : ℕ) (fault : WalkFault) → MarksMany objects old next count → IsExact objects old
    → AreCompleteCommits objects old.commits → FailsToMark objects next fault → is_of_store fault ≡ false → ⊥
none_fails objects old next count fault marks exact complete fails other =
    true≢false
    (sym (fails_in_store objects next fault (subst (AreCompleteCommits objects) (sym (commits_many objects old next count marks)) complete) (exact_many objects old next count marks exact) fails)
    ∙ other)

-- and damage that is told is that of an object which they need
pub needed_damage : (objects : Objects) (old next : MarksView) (count : ℕ) (fault : WalkFault) → MarksMany objects old next count → IsExact objects old
    → AreCompleteCommits objects old.commits → FailsToMark objects next fault → IsDamageOfNeeded objects old.commits fault
needed_damage objects old next count fault marks exact complete fails =
    let same : next.commits ≡ old.commits = commits_many objects old next count marks in
    subst (λ (commits : List (List ℕ)). IsDamageOfNeeded objects commits fault) same
    (damage_needed objects next fault (subst (AreCompleteCommits objects) (sym same) complete) (exact_many objects old next count marks exact) fails)

-- the commits are those for which it began
pub same_commits : (objects : Objects) (old next new : MarksView) (count : ℕ) → MarksMany objects old next count → WaitsWith objects next new → new.commits ≡ old.commits
same_commits objects old next new count marks waits = waits.commits ∙ commits_many objects old next count marks

-- an answer that is an error promises nothing of a value
pub no_value : {T E : Type 0} (P : T → Type 0) (r : Result T E) → IsErr r → IfOk r P
no_value P (Ok value) is = absurd (true≢false (sym is))
no_value P (Err fault) is = tt

pub as_commits : {T : Type 0} (objects : Objects) (one other : List (List ℕ)) (r : Result T WalkFault) → one ≡ other → IfErr r (IsMarkFault objects one)
    → IfErr r (IsMarkFault objects other)
as_commits objects one other r same is = subst (λ (commits : List (List ℕ)). IfErr r (IsMarkFault objects commits)) same is

module _ {S : Type 0} {contents : S → Option Contents} {may_give : S → Slot → Option (List ℕ) → Type 0} {texts faults : S → ℕ} where
  -- a fault is one of any reading
  pub reads_fails : {T U : Type 0} {old new : StoreView S} (fault : WalkFault) → Reads {T = T} contents may_give texts faults old new (Err fault)
      → Reads {T = U} contents may_give texts faults old new (Err fault)
  reads_fails fault reads = record { kept = reads.kept; shelf = reads.shelf; cause = reads.cause; count = reads.count }

  -- one that isn't of the store left the count as it was
  pub reads_uncounted : {T : Type 0} {old new : StoreView S} (fault : WalkFault) → is_of_store fault ≡ false → Reads {T = T} contents may_give texts faults old new (Err fault)
      → Reads {T = ⊤} contents may_give texts faults old new (Ok tt)
  reads_uncounted (Incomplete key) is reads = record { kept = reads.kept; shelf = reads.shelf; cause = tt; count = reads.count }
  reads_uncounted (Unreadable key) is reads = record { kept = reads.kept; shelf = reads.shelf; cause = tt; count = reads.count }
  reads_uncounted (WrongKind id) is reads = record { kept = reads.kept; shelf = reads.shelf; cause = tt; count = reads.count }
  reads_uncounted (WrongSize id) is reads = record { kept = reads.kept; shelf = reads.shelf; cause = tt; count = reads.count }
  reads_uncounted (TooDeep path) is reads = record { kept = reads.kept; shelf = reads.shelf; cause = tt; count = reads.count }
  reads_uncounted (TooMany paths) is reads = record { kept = reads.kept; shelf = reads.shelf; cause = tt; count = reads.count }
  reads_uncounted (Store fault) is reads = absurd (true≢false is)

  -- a fault that was met before, after reading that changed nothing
  pub reads_met : {T : Type 0} {old new : StoreView S} (fault : WalkFault) → is_of_store fault ≡ false → IsCause old.index (may_give old.shelf) fault
      → Reads {T = ⊤} contents may_give texts faults old new (Ok tt) → Reads {T = T} contents may_give texts faults old new (Err fault)
  reads_met {old = old} {new = new} (Incomplete key) is cause reads = record {
    kept = reads.kept;
    shelf = reads.shelf;
    cause = ap (λ (index : Index). map.get index key) reads.kept.index ∙ cause;
    count = reads.count;
  }
  reads_met (Unreadable key) is cause reads = record { kept = reads.kept; shelf = reads.shelf; cause = tt; count = reads.count }
  reads_met (WrongKind id) is cause reads = record { kept = reads.kept; shelf = reads.shelf; cause = tt; count = reads.count }
  reads_met (WrongSize id) is cause reads = record { kept = reads.kept; shelf = reads.shelf; cause = tt; count = reads.count }
  reads_met (TooDeep path) is cause reads = record { kept = reads.kept; shelf = reads.shelf; cause = tt; count = reads.count }
  reads_met (TooMany paths) is cause reads = record { kept = reads.kept; shelf = reads.shelf; cause = tt; count = reads.count }
  reads_met (Store fault) is cause reads = absurd (true≢false is)

-- ---- the commits, one after another

-- the fault of one stops, and none goes on
pub fault_stops : (objects : Objects) (commit : List ℕ) (commits : List (List ℕ)) (fault : WalkFault) → IsDue objects (walk_commit objects commit).fault fault
    → IsDue objects (first_fault objects (commit ∷ commits)) fault
fault_stops objects commit commits fault is = by (walk_commit objects commit).fault is
  where
    by : (due : Option TreeFault) → IsDue objects due fault → IsDue objects (first_due due (first_fault objects commits)) fault
    by None due = due_anywhere objects (first_fault objects commits) fault due
    by (Some why) due = due

pub fault_goes_on : (objects : Objects) (commit : List ℕ) (commits : List (List ℕ)) → (walk_commit objects commit).fault ≡ None
    → first_fault objects (commit ∷ commits) ≡ first_fault objects commits
fault_goes_on objects commit commits none = ap (λ (due : Option TreeFault). first_due due (first_fault objects commits)) none
