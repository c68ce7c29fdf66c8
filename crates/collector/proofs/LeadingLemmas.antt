-- The marks lead to what is needed, and to nothing else. The key lemmas are begins, begins_exact, first_good, fewer_good,
-- leads_many, exact_many,
-- leads_up_to, exact_up_to, good_many, all_marked, fails_by_store, fails_in_store and damage_needed.
use Rattle.std.proofs.Common.{◌≡◌, ◌||◌, ◌⊎◌, inl, inr, ℕ, zero, suc, Bool, true, false, cond, is_some, List, [], ◌∷◌, ◌++◌, map as map_list, refl, sym, ap, ap₂, ◌∙◌, subst, subst₂, append_assoc, true≢false, Option, None, Some, Result, Ok, Err}
use Rattle.std.specs.FinMap as map
use Rattle.std.specs.List.{IsDistinct, list_any}
use Rattle.std.specs.Ordering.{eq_by_cmp}
use Rattle.std.proofs.lemmas.Bool.{or_cases, or_left, or_parts, or_right}
use Rattle.ids.specs.Key.{Objects, key_cmp}
use Rattle.ids.specs.declared.key.Key.{Key}
use Rattle.ids.proofs.KeyOrderLemmas.{key_cmp_total}
use Rattle.object_graph.specs.Objects.{commit_key, same_id}
use Rattle.object_graph.specs.Reached.{ReachedFrom, pends, names, named}
use Rattle.object_graph.specs.Traversal.{IsComplete, distinct_from, is_in, needs, walk_commit}
use Rattle.object_graph.specs.declared.fault.TreeFault.{TreeFault}
use Rattle.object_graph.proofs.KeyLemmas.{Within, in_append, in_distinct, in_distinct_from, in_last, in_pushed, same_key, same_key-itself, same_key-true}
use Rattle.object_graph.proofs.ReachingLemmas.{commit_closes, in_first, reached_within, visited_reached}
use Rattle.object_store.specs.StoreView.{Index}
use Rattle.object_store.specs.declared.error.StoreFault.TheVariants as store
use Rattle.library_rules.proofs.MemberLemmas.{any_found, same_id-itself, same_id-true}
use Rattle.tree_walk.specs.Files.{first_due}
use Rattle.tree_walk.specs.Reading.{AnswersRead, IsDue}
use Rattle.tree_walk.specs.declared.fault.WalkFault.{WalkFault}
use Rattle.tree_walk.specs.declared.fault.WalkFault.TheVariants.{Incomplete, Unreadable, WrongKind, WrongSize, TooDeep, TooMany, Store}
use Rattle.collector.specs.Marking.{FailsToMark, IsDamageOfNeeded, IsDamageRead, MarksMany, MarksOne, MarksUpTo, WaitsWith, first_fault, is_of_store, named_first}
use Rattle.collector.specs.Marks.{AreCompleteCommits, AreFirst, AreMarks, Candidates, IsExact, Leads, MarksView, is_candidate, needed_by}
use Rattle.collector.specs.Naming.{names_at}
use Rattle.collector.proofs.NamingLemmas.{can_be_read}
use Rattle.collector.proofs.WorklistLemmas.{once_met}

-- ---- commits

-- where a test passes in a list of ids it passes at one of them
pub any_of : (P : List ℕ → Bool) (ids : List (List ℕ)) → list_any P ids ≡ true → (id : List ℕ) × (list_any (same_id id) ids ≡ true) × (P id ≡ true)
any_of P [] e = absurd (true≢false (sym e))
any_of P (x ∷ ids) e = elim (or_cases (P x) (list_any P ids) e) [
  | inl here ↦ (x, or_left (same_id x x) (list_any (same_id x) ids) (same_id-itself x), here)
  | inr there ↦ let rest = any_of P ids there in (rest.0, or_right (same_id rest.0 x) (list_any (same_id rest.0) ids) rest.1, rest.2)
]

pub in_commits : (commits : List (List ℕ)) (c : List ℕ) → list_any (same_id c) commits ≡ true → is_in (map_list commit_key commits) (commit_key c) ≡ true
in_commits [] c e = absurd (true≢false (sym e))
in_commits (x ∷ commits) c e = elim (or_cases (same_id c x) (list_any (same_id c) commits) e) [
  | inl here ↦ or_left (same_key (commit_key c) (commit_key x)) (is_in (map_list commit_key commits) (commit_key c))
      (subst (λ (y : List ℕ). same_key (commit_key c) (commit_key y) ≡ true) (same_id-true c x here) (same_key-itself (commit_key c)))
  | inr there ↦ or_right (same_key (commit_key c) (commit_key x)) (is_in (map_list commit_key commits) (commit_key c)) (in_commits commits c there)
]

of_commits : (commits : List (List ℕ)) (key : Key) → is_in (map_list commit_key commits) key ≡ true
    → (c : List ℕ) × (list_any (same_id c) commits ≡ true) × (key ≡ commit_key c)
of_commits [] key e = absurd (true≢false (sym e))
of_commits (x ∷ commits) key e = elim (or_cases (same_key key (commit_key x)) (is_in (map_list commit_key commits) key) e) [
  | inl here ↦ (x, or_left (same_id x x) (list_any (same_id x) commits) (same_id-itself x), same_key-true key (commit_key x) here)
  | inr there ↦ let rest = of_commits commits key there in (rest.0, or_right (same_id rest.0 x) (list_any (same_id rest.0) commits) rest.1, rest.2)
]

-- a complete commit needs itself
own_needed : (objects : Objects) (c : List ℕ) → IsComplete objects c → is_in (needs objects c) (commit_key c) ≡ true
own_needed objects c complete =
    in_distinct (walk_commit objects c).visits (commit_key c) ∙ reached_within objects c complete (commit_key c) (pends (commit_key c) (in_first (commit_key c) []))

-- what a needed key names is needed
pub named_needed : (objects : Objects) (commits : List (List ℕ)) (above key : Key) → AreCompleteCommits objects commits → needed_by objects commits above ≡ true
    → is_in (named objects above) key ≡ true → needed_by objects commits key ≡ true
named_needed objects commits above key complete needed naming =
    let one = any_of (λ commit. is_in (needs objects commit) above) commits needed in
    any_found (λ commit. is_in (needs objects commit) key) commits one.0 one.1
    (in_distinct (walk_commit objects one.0).visits key
    ∙ commit_closes objects one.0 (complete one.0 one.1) above key (sym (in_distinct (walk_commit objects one.0).visits above) ∙ one.2) naming)

-- the first fault of commits is none only where they are complete
pub complete_commits : (objects : Objects) (commits : List (List ℕ)) → first_fault objects commits ≡ None → AreCompleteCommits objects commits
complete_commits objects [] none commit e = absurd (true≢false (sym e))
complete_commits objects (x ∷ commits) none commit e = by (walk_commit objects x).fault refl none (or_cases (same_id commit x) (list_any (same_id commit) commits) e) (λ later. complete_commits objects commits later)
  where
    by : (o : Option TreeFault) → (walk_commit objects x).fault ≡ o → first_due o (first_fault objects commits) ≡ None
        → (same_id commit x ≡ true) ⊎ (list_any (same_id commit) commits ≡ true)
        → (first_fault objects commits ≡ None → AreCompleteCommits objects commits) → IsComplete objects commit
    by None is later (inl here) rest = subst (λ (c : List ℕ). (walk_commit objects c).fault ≡ None) (sym (same_id-true commit x here)) is
    by None is later (inr there) rest = rest later commit there
    by (Some fault) is later which rest = cc later

-- ---- what is reached

reached_more : (objects : Objects) (marked pending more : List Key) → Within pending more → (key : Key) → ReachedFrom objects marked pending key → ReachedFrom objects marked more key
reached_more objects marked pending more within _ (pends key is) = pends key (within.there key is)
reached_more objects marked pending more within _ (names above key from is free) = names above key (reached_more objects marked pending more within above from) is free

-- nothing is reached from nothing
none_reached : (objects : Objects) (marked : List Key) (key : Key) → ReachedFrom objects marked [] key → ⊥
none_reached objects marked _ (pends key is) = true≢false (sym is)
none_reached objects marked _ (names above key from is free) = none_reached objects marked above from

-- ---- the begin

-- at the begin all that commits need is reached from the commits, and the commits are needed
pub begins : (objects : Objects) (index : Index) (commits : List (List ℕ)) (m : MarksView) → AreFirst index commits m → Leads objects m
begins objects index commits m first = record {
  each = λ key needed free.
      let one = any_of (λ commit. is_in (needs objects commit) key) m.commits needed in
      subst (λ (marked : List Key). ReachedFrom objects marked m.pending key) (sym first.marked)
      (reached_more objects [] (commit_key one.0 ∷ []) m.pending (waits one.0 one.1) key
      (visited_reached objects one.0 key (sym (in_distinct (walk_commit objects one.0).visits key) ∙ one.2)));
}
  where
    waits : (c : List ℕ) → list_any (same_id c) m.commits ≡ true → Within (commit_key c ∷ []) m.pending
    waits c is = record {
      there = λ key e. elim (in_pushed [] (commit_key c) key e) [
        | inl none ↦ absurd (true≢false (sym none))
        | inr same ↦ ap (is_in m.pending) same ∙ ap (λ (ks : List Key). is_in ks (commit_key c)) first.pending ∙ in_distinct (map_list commit_key commits) (commit_key c)
            ∙ in_commits commits c (ap (λ (cs : List (List ℕ)). list_any (same_id c) cs) (sym first.commits) ∙ is)
      ];
    }

pub begins_exact : (objects : Objects) (index : Index) (commits : List (List ℕ)) (m : MarksView) → AreFirst index commits m → IsExact objects m
begins_exact objects index commits m first = record {
  each = λ complete key met.
      let waits : is_in m.pending key ≡ true = ap (λ (ks : List Key). is_in (ks ++ m.pending) key) (sym first.marked) ∙ met in
      let listed : is_in (map_list commit_key commits) key ≡ true = sym (ap (λ (ks : List Key). is_in ks key) first.pending ∙ in_distinct (map_list commit_key commits) key) ∙ waits in
      let one = of_commits commits key listed in
      let own : list_any (same_id one.0) m.commits ≡ true = ap (λ (cs : List (List ℕ)). list_any (same_id one.0) cs) first.commits ∙ one.1 in
      any_found (λ commit. is_in (needs objects commit) key) m.commits one.0 own
      (subst (λ (k : Key). is_in (needs objects one.0) k ≡ true) (sym one.2) (own_needed objects one.0 (complete one.0 own)));
}

-- the marks that begin are good
none_once : IsDistinct (eq_by_cmp key_cmp) []
unfolding IsDistinct
none_once = tt

pub first_good : (index : Index) (commits : List (List ℕ)) (m : MarksView) → AreFirst index commits m → AreMarks m
first_good index commits m first = record {
  once =
      subst₂ (λ (marked : List Key) (pending : List Key). IsDistinct (eq_by_cmp key_cmp) (marked ++ pending)) (sym first.marked) (sym first.pending)
      (once_met [] (map_list commit_key commits) none_once);
  apart = λ key there. ap (λ (ks : List Key). is_in ks key) first.marked;
}

-- with fewer candidates they stay good
pub fewer_good : (old new : MarksView) → new.marked ≡ old.marked → new.pending ≡ old.pending
    → ((key : Key) → is_candidate new key ≡ true → is_candidate old key ≡ true) → AreMarks old → AreMarks new
fewer_good old new marked pending fewer good = record {
  once =
      subst₂ (λ (marked : List Key) (pending : List Key). IsDistinct (eq_by_cmp key_cmp) (marked ++ pending)) (sym marked) (sym pending) good.once;
  apart = λ key there. ap (λ (ks : List Key). is_in ks key) marked ∙ good.apart key (fewer key there);
}

-- ---- one object marked

widen : (x s r : Bool) → (x || (s || false)) ≡ true → (x || (s || r)) ≡ true
widen true s r e = refl
widen false true r e = refl
widen false false r e = absurd (true≢false (sym e))

pub not_marked : (marked : List Key) (m q : Key) → is_in marked q ≡ false → same_key q m ≡ false → is_in (marked ++ m ∷ []) q ≡ false
not_marked marked m q free other = in_append marked (m ∷ []) q ∙ ap₂ (λ (a : Bool) (b : Bool). a || (b || false)) free other

-- what of these names wasn't met
abbrev found_of : Objects → (marked rest : List Key) → Key → List Key
found_of objects marked rest m = distinct_from (marked ++ m ∷ rest) (named objects m)

-- what waits after the first that waited was marked
abbrev on_from : Objects → (marked rest : List Key) → Key → List Key
on_from objects marked rest m = rest ++ found_of objects marked rest m

-- what it names waits, unless it was marked
named_on : (objects : Objects) (marked rest : List Key) (m q : Key) → is_in (named objects m) q ≡ true → is_in marked q ≡ false → same_key q m ≡ false
    → is_in (on_from objects marked rest m) q ≡ true
named_on objects marked rest m q naming free other =
    let all : (is_in (marked ++ m ∷ rest) q || is_in (found_of objects marked rest m) q) ≡ true
    = in_distinct_from (marked ++ m ∷ rest) (named objects m) q ∙ or_right (is_in (marked ++ m ∷ rest) q) (is_in (named objects m) q) naming in
    let same : is_in (marked ++ m ∷ rest) q ≡ is_in rest q = in_append marked (m ∷ rest) q ∙ ap₂ (λ (a : Bool) (b : Bool). a || (b || is_in rest q)) free other in
    in_append rest (found_of objects marked rest m) q ∙ ap (λ (b : Bool). b || is_in (found_of objects marked rest m) q) (sym same) ∙ all

-- what was reached is reached still, but for the key that was marked
passed : (objects : Objects) (marked rest : List Key) (m q : Key) → ReachedFrom objects marked (m ∷ rest) q
    → (q ≡ m) ⊎ ReachedFrom objects (marked ++ m ∷ []) (on_from objects marked rest m) q
passed objects marked rest m _ (pends q is) = elim (or_cases (same_key q m) (is_in rest q) is) [
  | inl own ↦ inl (same_key-true q m own)
  | inr there ↦ inr (pends q (in_append rest (found_of objects marked rest m) q ∙ or_left (is_in rest q) (is_in (found_of objects marked rest m) q) there))
]
passed objects marked rest m _ (names above q from is free) = by (same_key q m) refl (passed objects marked rest m above from)
  where
    by : (b : Bool) → same_key q m ≡ b → (above ≡ m) ⊎ ReachedFrom objects (marked ++ m ∷ []) (on_from objects marked rest m) above
        → (q ≡ m) ⊎ ReachedFrom objects (marked ++ m ∷ []) (on_from objects marked rest m) q
    by true same reached = inl (same_key-true q m same)
    by false other (inr reached) = inr (names above q reached is (not_marked marked m q free other))
    by false other (inl own) = inr (pends q (named_on objects marked rest m q (subst (λ (k : Key). is_in (named objects k) q ≡ true) own is) free other))

-- what waits then, by the marks themselves
on_is : (objects : Objects) (old new : MarksView) (marks : MarksOne objects old new) → on_from objects old.marked marks.rest marks.key ≡ new.pending
on_is objects old new marks = ap (λ (ks : List Key). marks.rest ++ distinct_from (old.marked ++ ks) (named objects marks.key)) (sym marks.first) ∙ sym marks.pending

pub leads_on : (objects : Objects) (old new : MarksView) → MarksOne objects old new → Leads objects old → Leads objects new
leads_on objects old new marks leads = record {
  each = λ q needed free.
      let apart : is_in (old.marked ++ marks.key ∷ []) q ≡ false = ap (λ (ks : List Key). is_in ks q) (sym marks.marked) ∙ free in
      let parts = or_parts (is_in old.marked q) (is_in (marks.key ∷ []) q) (sym (in_append old.marked (marks.key ∷ []) q) ∙ apart) in
      let from : ReachedFrom objects old.marked (marks.key ∷ marks.rest) q
      = subst (λ (ks : List Key). ReachedFrom objects old.marked ks q) marks.first (leads.each q (ap (λ (cs : List (List ℕ)). needed_by objects cs q) (sym marks.commits) ∙ needed) parts.0) in
      on_new q apart (passed objects old.marked marks.rest marks.key q from);
}
  where
    on_new : (q : Key) → is_in (old.marked ++ marks.key ∷ []) q ≡ false
        → (q ≡ marks.key) ⊎ ReachedFrom objects (old.marked ++ marks.key ∷ []) (on_from objects old.marked marks.rest marks.key) q → ReachedFrom objects new.marked new.pending q
    on_new q apart (inl own) =
        absurd (true≢false (sym (in_last old.marked marks.key) ∙ subst (λ (k : Key). is_in (old.marked ++ marks.key ∷ []) k ≡ false) own apart))
    on_new q apart (inr reached) = subst₂ (λ (marked : List Key) (pending : List Key). ReachedFrom objects marked pending q) (sym marks.marked) (on_is objects old new marks) reached

-- what is met then was met before, or is named by the key that was marked
met_before : (objects : Objects) (marked rest : List Key) (m q : Key) → is_in ((marked ++ m ∷ []) ++ on_from objects marked rest m) q ≡ true
    → (is_in (marked ++ m ∷ rest) q ≡ true) ⊎ (is_in (named objects m) q ≡ true)
met_before objects marked rest m q met = elim (or_cases (is_in (marked ++ m ∷ []) q) (is_in (on_from objects marked rest m) q) (sym (in_append (marked ++ m ∷ []) (on_from objects marked rest m) q) ∙ met)) [
  | inl front ↦ inl (in_append marked (m ∷ rest) q ∙ widen (is_in marked q) (same_key q m) (is_in rest q) (sym (in_append marked (m ∷ []) q) ∙ front))
  | inr back ↦ elim (or_cases (is_in rest q) (is_in (found_of objects marked rest m) q) (sym (in_append rest (found_of objects marked rest m) q) ∙ back)) [
    | inl there ↦ inl (in_append marked (m ∷ rest) q ∙ or_right (is_in marked q) (same_key q m || is_in rest q) (or_right (same_key q m) (is_in rest q) there))
    | inr found ↦ or_cases (is_in (marked ++ m ∷ rest) q) (is_in (named objects m) q)
        (sym (in_distinct_from (marked ++ m ∷ rest) (named objects m) q) ∙ or_right (is_in (marked ++ m ∷ rest) q) (is_in (found_of objects marked rest m) q) found)
  ]
]

pub exact_on : (objects : Objects) (old new : MarksView) → MarksOne objects old new → IsExact objects old → IsExact objects new
exact_on objects old new marks exact = record {
  each = λ complete q met.
      let before : AreCompleteCommits objects old.commits = subst (λ (cs : List (List ℕ)). AreCompleteCommits objects cs) marks.commits complete in
      let there : is_in ((old.marked ++ marks.key ∷ []) ++ on_from objects old.marked marks.rest marks.key) q ≡ true
      = subst₂ (λ (marked : List Key) (pending : List Key). is_in (marked ++ pending) q ≡ true) marks.marked (sym (on_is objects old new marks)) met in
      ap (λ (cs : List (List ℕ)). needed_by objects cs q) marks.commits ∙ on_old q before (met_before objects old.marked marks.rest marks.key q there);
}
  where
    was_met : (q : Key) → is_in (old.marked ++ marks.key ∷ marks.rest) q ≡ true → is_in (old.marked ++ old.pending) q ≡ true
    was_met q is = ap (λ (ks : List Key). is_in (old.marked ++ ks) q) marks.first ∙ is

    own_met : is_in (old.marked ++ marks.key ∷ marks.rest) marks.key ≡ true
    own_met = in_append old.marked (marks.key ∷ marks.rest) marks.key ∙ or_right (is_in old.marked marks.key) (is_in (marks.key ∷ marks.rest) marks.key) (in_first marks.key marks.rest)

    on_old : (q : Key) → AreCompleteCommits objects old.commits → (is_in (old.marked ++ marks.key ∷ marks.rest) q ≡ true) ⊎ (is_in (named objects marks.key) q ≡ true)
        → needed_by objects old.commits q ≡ true
    on_old q before (inl met) = exact.each before q (was_met q met)
    on_old q before (inr naming) = named_needed objects old.commits marks.key q before (exact.each before marks.key (was_met marks.key own_met)) naming

pub marked_good : (objects : Objects) (old new : MarksView) → MarksOne objects old new → AreMarks old → AreMarks new
marked_good objects old new marks good = record {
  once =
      subst₂ (λ (marked : List Key) (pending : List Key). IsDistinct (eq_by_cmp key_cmp) (marked ++ pending)) (sym marks.marked) (on_is objects old new marks)
      (subst (IsDistinct (eq_by_cmp key_cmp)) (sym (regroup old.marked marks.rest (found_of objects old.marked marks.rest marks.key)))
      (once_met (old.marked ++ marks.key ∷ marks.rest) (named objects marks.key) (subst (λ (ks : List Key). IsDistinct (eq_by_cmp key_cmp) (old.marked ++ ks)) marks.first good.once)));
  apart = λ q there.
      by q (same_key q marks.key) refl
      (sym (ap is_some (ap (λ (c : Candidates). map.get c q) marks.candidates ∙ map.get-remove key_cmp_total old.candidates marks.key q)) ∙ there);
}
  where
    regroup : (marked rest found : List Key) → (marked ++ marks.key ∷ []) ++ (rest ++ found) ≡ (marked ++ marks.key ∷ rest) ++ found
    regroup marked rest found = append_assoc marked (marks.key ∷ []) (rest ++ found) ∙ sym (append_assoc marked (marks.key ∷ rest) found)

    by : (q : Key) (b : Bool) → same_key q marks.key ≡ b → is_some (cond b None (map.get old.candidates q)) ≡ true → is_in new.marked q ≡ false
    by q true same e = absurd (true≢false (sym e))
    by q false other e = ap (λ (ks : List Key). is_in ks q) marks.marked ∙ not_marked old.marked marks.key q (good.apart q e) other

-- ---- more waits

pub leads_wait : (objects : Objects) (old new : MarksView) → WaitsWith objects old new → Leads objects old → Leads objects new
leads_wait objects old new waits leads = record {
  each = λ q needed free.
      subst (λ (marked : List Key). ReachedFrom objects marked new.pending q) (sym waits.marked)
      (reached_more objects old.marked old.pending new.pending more q
      (leads.each q (ap (λ (cs : List (List ℕ)). needed_by objects cs q) (sym waits.commits) ∙ needed) (ap (λ (ks : List Key). is_in ks q) (sym waits.marked) ∙ free)));
}
  where
    more : Within old.pending new.pending
    more = record {
      there = λ key is.
          ap (λ (ks : List Key). is_in ks key) waits.pending ∙ in_append old.pending (distinct_from (old.marked ++ old.pending) waits.front) key
          ∙ or_left (is_in old.pending key) (is_in (distinct_from (old.marked ++ old.pending) waits.front) key) is;
    }

-- what the first that waits names
of_first : (objects : Objects) (pending : List Key) (q : Key) → is_in (named_first objects pending) q ≡ true
    → (above : Key) × (is_in pending above ≡ true) × (is_in (named objects above) q ≡ true)
of_first objects [] q e = absurd (true≢false (sym e))
of_first objects (k ∷ pending) q e = (k, in_first k pending, e)

pub exact_wait : (objects : Objects) (old new : MarksView) → WaitsWith objects old new → IsExact objects old → IsExact objects new
exact_wait objects old new waits exact = record {
  each = λ complete q met.
      let before : AreCompleteCommits objects old.commits = subst (λ (cs : List (List ℕ)). AreCompleteCommits objects cs) waits.commits complete in
      let there : is_in ((old.marked ++ old.pending) ++ distinct_from (old.marked ++ old.pending) waits.front) q ≡ true
      = ap (λ (ks : List Key). is_in ks q) (append_assoc old.marked old.pending (distinct_from (old.marked ++ old.pending) waits.front))
      ∙ subst₂ (λ (marked : List Key) (pending : List Key). is_in (marked ++ pending) q ≡ true) waits.marked waits.pending met in
      let all : (is_in (old.marked ++ old.pending) q || is_in waits.front q) ≡ true
      = sym (in_append (old.marked ++ old.pending) (distinct_from (old.marked ++ old.pending) waits.front) q ∙ in_distinct_from (old.marked ++ old.pending) waits.front q) ∙ there in
      ap (λ (cs : List (List ℕ)). needed_by objects cs q) waits.commits ∙ on_old q before (or_cases (is_in (old.marked ++ old.pending) q) (is_in waits.front q) all);
}
  where
    on_old : (q : Key) → AreCompleteCommits objects old.commits → (is_in (old.marked ++ old.pending) q ≡ true) ⊎ (is_in waits.front q ≡ true) → needed_by objects old.commits q ≡ true
    on_old q before (inl met) = exact.each before q met
    on_old q before (inr front) =
        let first = of_first objects old.pending q
        (ap (λ (ks : List Key). is_in ks q) waits.parts ∙ in_append waits.front waits.rest q ∙ or_left (is_in waits.front q) (is_in waits.rest q) front) in
        named_needed objects old.commits first.0 q before
        (exact.each before first.0 (in_append old.marked old.pending first.0 ∙ or_right (is_in old.marked first.0) (is_in old.pending first.0) first.1)) first.2

pub wait_good : (objects : Objects) (old new : MarksView) → WaitsWith objects old new → AreMarks old → AreMarks new
wait_good objects old new waits good = record {
  once =
      subst₂ (λ (marked : List Key) (pending : List Key). IsDistinct (eq_by_cmp key_cmp) (marked ++ pending)) (sym waits.marked) (sym waits.pending)
      (subst (IsDistinct (eq_by_cmp key_cmp)) (append_assoc old.marked old.pending (distinct_from (old.marked ++ old.pending) waits.front))
      (once_met (old.marked ++ old.pending) waits.front good.once));
  apart = λ q there. ap (λ (ks : List Key). is_in ks q) waits.marked ∙ good.apart q (ap (λ (c : Candidates). is_some (map.get c q)) (sym waits.candidates) ∙ there);
}

-- ---- many, one after another, and those up to a fault

pub leads_many : (objects : Objects) (old new : MarksView) (count : ℕ) → MarksMany objects old new count → Leads objects old → Leads objects new
leads_many objects old new zero marks leads = subst (λ (m : MarksView). Leads objects m) (sym marks) leads
leads_many objects old new (suc count) marks leads = leads_on objects marks.0 new marks.2 (leads_many objects old marks.0 count marks.1 leads)

pub exact_many : (objects : Objects) (old new : MarksView) (count : ℕ) → MarksMany objects old new count → IsExact objects old → IsExact objects new
exact_many objects old new zero marks exact = subst (λ (m : MarksView). IsExact objects m) (sym marks) exact
exact_many objects old new (suc count) marks exact = exact_on objects marks.0 new marks.2 (exact_many objects old marks.0 count marks.1 exact)

pub good_many : (objects : Objects) (old new : MarksView) (count : ℕ) → MarksMany objects old new count → AreMarks old → AreMarks new
good_many objects old new zero marks good = subst AreMarks (sym marks) good
good_many objects old new (suc count) marks good = marked_good objects marks.0 new marks.2 (good_many objects old marks.0 count marks.1 good)

pub commits_many : (objects : Objects) (old new : MarksView) (count : ℕ) → MarksMany objects old new count → new.commits ≡ old.commits
commits_many objects old new zero marks = ap (λ (m : MarksView). m.commits) marks
commits_many objects old new (suc count) marks = marks.2.commits ∙ commits_many objects old marks.0 count marks.1

pub leads_up_to : (objects : Objects) (old new : MarksView) → MarksUpTo objects old new → Leads objects old → Leads objects new
leads_up_to objects old new marks leads = leads_wait objects marks.next new marks.waits (leads_many objects old marks.next marks.count marks.before leads)

pub exact_up_to : (objects : Objects) (old new : MarksView) → MarksUpTo objects old new → IsExact objects old → IsExact objects new
exact_up_to objects old new marks exact = exact_wait objects marks.next new marks.waits (exact_many objects old marks.next marks.count marks.before exact)

-- ---- the end, and faults

-- where nothing waits, all that is needed is marked
pub all_marked : (objects : Objects) (m : MarksView) → Leads objects m → m.pending ≡ [] → (key : Key) → needed_by objects m.commits key ≡ true
    → is_in m.marked key ≡ true
all_marked objects m leads none key needed = by (is_in m.marked key) refl
  where
    by : (b : Bool) → is_in m.marked key ≡ b → is_in m.marked key ≡ true
    by true is = is
    by false free = absurd (none_reached objects m.marked key (subst (λ (pending : List Key). ReachedFrom objects m.marked pending key) none (leads.each key needed free)))

store_alone : (objects : Objects) (fault : WalkFault) → IsDue objects None fault → is_of_store fault ≡ true
store_alone objects (Incomplete key) due = cc due
store_alone objects (Unreadable key) due = cc due
store_alone objects (WrongKind id) due = cc due
store_alone objects (WrongSize id) due = cc due
store_alone objects (TooDeep path) due = cc due
store_alone objects (TooMany paths) due = cc due
store_alone objects (Store fault) due = refl

read_alone : (objects : Objects) (r : Result (List Key) TreeFault) (keys : List Key) (fault : WalkFault) → r ≡ Ok keys → AnswersRead {T = List Key} objects r (Err fault)
    → is_of_store fault ≡ true
read_alone objects (Ok other) keys fault e due = store_alone objects fault due
read_alone objects (Err why) keys fault e due = cc e

-- where the commits are complete they need the object that can't be marked
fails_needed : (objects : Objects) (m : MarksView) (fault : WalkFault) → AreCompleteCommits objects m.commits → IsExact objects m → (fails : FailsToMark objects m fault)
    → needed_by objects m.commits fails.key ≡ true
fails_needed objects m fault complete exact fails =
    exact.each complete fails.key
    (in_append m.marked m.pending fails.key
    ∙ or_right (is_in m.marked fails.key) (is_in m.pending fails.key) (ap (λ (ks : List Key). is_in ks fails.key) fails.first ∙ in_first fails.key fails.rest))

-- so only the store can fail
pub fails_in_store : (objects : Objects) (m : MarksView) (fault : WalkFault) → AreCompleteCommits objects m.commits → IsExact objects m
    → FailsToMark objects m fault → is_of_store fault ≡ true
fails_in_store objects m fault complete exact fails =
    let one = any_of (λ commit. is_in (needs objects commit) fails.key) m.commits (fails_needed objects m fault complete exact fails) in
    read_alone objects (names_at objects fails.key) (named objects fails.key) fault (can_be_read objects one.0 fails.key (complete one.0 one.1) one.2) fails.due

pub fails_by_store : (objects : Objects) (m : MarksView) (fault : WalkFault) → first_fault objects m.commits ≡ None → IsExact objects m
    → FailsToMark objects m fault → is_of_store fault ≡ true
fails_by_store objects m fault none exact fails = fails_in_store objects m fault (complete_commits objects m.commits none) exact fails

-- and damage is that of an object which they need
pub damage_needed : (objects : Objects) (m : MarksView) (fault : WalkFault) → AreCompleteCommits objects m.commits → IsExact objects m
    → FailsToMark objects m fault → IsDamageOfNeeded objects m.commits fault
damage_needed objects m fault complete exact fails = by fault fails.damage
  where
    by : (f : WalkFault) → IsDamageRead objects fails.key f → IsDamageOfNeeded objects m.commits f
    by (Store (store.Damaged want got)) is = (fails.key, is.0, fails_needed objects m fault complete exact fails, is.1)
    by other is = tt
