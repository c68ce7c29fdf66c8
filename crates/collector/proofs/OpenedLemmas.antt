-- What marking opens, over any shelf. The key lemmas are opens_none, opens_waiting, opens_one, opens_first, opens_then,
-- first_then, first_done, have_first, have_same, given_wider,
-- have_more, whole_in; and of single objects reads_block, reads_kind, reads_named and damage_read;
-- and distinct_parts.
use Rattle.std.proofs.Common.{◌≡◌, ◌≢◌, ◌||◌, ◌⊎◌, ◌≤◌, inl, inr, ℕ, zero, suc, arith, Bool, true, false, is_some, List, [], ◌∷◌, ◌++◌, map as map_list, refl, sym, ap, ap₂, ◌∙◌, subst, append_assoc, true≢false, Option, Some, option_map, Result, Ok, Err}
use Rattle.std.specs.Prelude.{IfErr, IfOk}
use Rattle.std.specs.FinMap as map
use Rattle.std.specs.List.{AllByRecursion, IsDistinct, list_any}
use Rattle.std.proofs.lemmas.Bool.{or_cases, or_left, or_right}
use Rattle.ids.specs.Key.{Objects}
use Rattle.ids.specs.declared.key.Key.{Key}
use Rattle.ids.specs.declared.key.Kind.{Kind}
use Rattle.ids.specs.declared.key.Kind.TheVariants as kind
use Rattle.object_graph.specs.Objects.{commit_key, same_id}
use Rattle.object_graph.specs.Traversal.{distinct_from, is_in}
use Rattle.object_graph.proofs.KeyLemmas.{in_append, in_distinct, in_distinct_from, in_pushed, same_key, same_key-itself, same_key-true}
use Rattle.object_store.specs.Shelf.{Contents, GivesNoMore}
use Rattle.object_store.specs.Store.{IsWhole}
use Rattle.object_store.specs.StoreView.{Index, indexed}
use Rattle.object_store.specs.declared.error.StoreFault.TheVariants as store
use Rattle.object_store.specs.declared.shelf.Slot.{Slot}
use Rattle.object_store.specs.declared.shelf.Slot.TheVariants.{Object}
use Rattle.object_store.proofs.RefusalLemmas.{given-stored, whole-due}
use Rattle.tree_walk.specs.Reading.{AnswersRead, IsDamageAt}
use Rattle.tree_walk.specs.declared.fault.WalkFault.{WalkFault}
use Rattle.tree_walk.specs.declared.fault.WalkFault.TheVariants as walk
use Rattle.tree_walk.proofs.ReadsLemmas.{read_ok}
use Rattle.collector.specs.Marking.{IsDamageRead}
use Rattle.collector.specs.Marks.{AreFirst, HasTheSameMarks, MarksView}
use Rattle.collector.specs.Naming.{names_at, names_in, names_of}
use Rattle.collector.specs.Opened.{Gives, HaveOpened, IsOpened, IsRead, IsWholeIn, OpensFirst, OpensMore, ReadsAs, ReadsNames, anything}
use Rattle.collector.proofs.LeadingLemmas.{in_commits}
use Rattle.collector.proofs.NamingLemmas.{names_named}

-- ---- one object

-- by bytes of a kind that is read
pub reads_kind : (gives : Gives) (key : Key) (k : Kind) (r : Result (List Key) WalkFault) → key.kind ≡ k → k ≢ kind.Block → IfOk r (λ names. ReadsAs gives key names)
    → IfOk r (λ names. ReadsNames gives key.kind key names)
reads_kind gives key k (Err fault) is read reads = tt
reads_kind gives key k (Ok names) is read reads = subst (λ (k : Kind). ReadsNames gives k key names) (sym is) (by k read)
  where
    by : (k : Kind) → k ≢ kind.Block → ReadsNames gives k key names
    by kind.Commit other = reads
    by kind.Fs other = reads
    by kind.Block other = absurd (other refl)

pub reads_block : (gives : Gives) (key : Key) (names : List Key) → key.kind ≡ kind.Block → names ≡ [] → ReadsNames gives key.kind key names
reads_block gives key names is none = subst (λ (k : Kind). ReadsNames gives k key names) (sym is) none

-- what was given and is read names what it names
pub reads_named : (gives : Gives) (key : Key) (bytes : List ℕ) (r : Result (List Key) WalkFault) → IsWhole gives key (Some bytes)
    → ((objects : Objects) → AnswersRead objects (names_of key bytes) r) → IfOk r (λ names. ReadsAs gives key names)
reads_named gives key bytes (Err fault) whole due = tt
reads_named gives key bytes (Ok names) whole due = record {
  bytes = bytes;
  given = whole.0;
  own = whole.1;
  read = read_ok map.empty (names_of key bytes) names (due map.empty);
}

pub if_any : {P : Type 0} {T E : Type 0} (r : Result T E) → P → IfOk r (λ value. P)
if_any (Ok value) p = p
if_any (Err fault) p = tt

-- damage is told of what is read, and that is no block
pub damage_read : {T : Type 0} (objects : Objects) (key : Key) (k : Kind) (r : Result T WalkFault) → key.kind ≡ k → k ≢ kind.Block → IfErr r (IsDamageAt objects key)
    → IfErr r (IsDamageRead objects key)
damage_read objects key k (Ok value) is read at = tt
damage_read objects key k (Err fault) is read at = by fault at
  where
    by : (f : WalkFault) → IsDamageAt objects key f → IsDamageRead objects key f
    by (walk.Store (store.Damaged want got)) here = (here, λ block. read (sym is ∙ block))
    by other here = tt

-- ---- a longer list of what was met, and a shelf that might give more

pub given_wider : (before now : Gives) → ((slot : Slot) (given : Option (List ℕ)) → now slot given → before slot given) → (k : Kind) (key : Key) (names : List Key) → ReadsNames now k key names
    → ReadsNames before k key names
given_wider before now wider kind.Commit key names reads = record { bytes = reads.bytes; given = wider (Object key) (Some reads.bytes) reads.given; own = reads.own; read = reads.read }
given_wider before now wider kind.Fs key names reads = record { bytes = reads.bytes; given = wider (Object key) (Some reads.bytes) reads.given; own = reads.own; read = reads.read }
given_wider before now wider kind.Block key names none = none

pub read_wider : (before now : Gives) (met more : List Key) (key : Key) → ((slot : Slot) (given : Option (List ℕ)) → now slot given → before slot given)
    → ((k : Key) → is_in met k ≡ true → is_in more k ≡ true) → IsRead now met key → IsRead before more key
read_wider before now met more key wider among read = record {
  names = read.names;
  reads = given_wider before now wider key.kind key read.names read.reads;
  each = λ name is. among name (read.each name is);
}

opened_wider : (index other : Index) (before now : Gives) (met more : List Key) (key : Key) → other ≡ index → GivesNoMore before now
    → ((k : Key) → is_in met k ≡ true → is_in more k ≡ true) → IsOpened other now met key → IsOpened index before more key
opened_wider index other before now met more key same wider among opened = record {
  known = ap (λ (i : Index). is_some (map.get i key)) (sym same) ∙ opened.known;
  read = read_wider before now met more key wider among opened.read;
}

-- ---- steps of marking

module _ (index : Index) (gives : Gives) where
  -- nothing is marked
  pub opens_waiting : (old new : MarksView) (more : List Key) → new.marked ≡ old.marked → new.pending ≡ old.pending ++ more → OpensMore index gives old new
  opens_waiting old new more marked pending = record {
    stays = λ key is.
        ap₂ (λ (ks : List Key) (ps : List Key). is_in (ks ++ ps) key) marked pending
        ∙ ap (λ (ks : List Key). is_in ks key) (sym (append_assoc old.marked old.pending more)) ∙ in_append (old.marked ++ old.pending) more key
        ∙ or_left (is_in (old.marked ++ old.pending) key) (is_in more key) is;
    opened = λ key now before. absurd (true≢false (sym now ∙ ap (λ (ks : List Key). is_in ks key) marked ∙ before));
  }

  pub opens_none : (m : MarksView) → OpensMore index gives m m
  opens_none m = record { stays = λ key is. is; opened = λ key now before. absurd (true≢false (sym now ∙ before)) }

  -- the object that waits first is marked, and what it names was met
  module _ (old new : MarksView) (key : Key) (rest names : List Key) (first : old.pending ≡ key ∷ rest) (marked : new.marked ≡ old.marked ++ key ∷ [])
      (pending : new.pending ≡ rest ++ distinct_from (old.marked ++ old.pending) names) (known : is_some (map.get index key) ≡ true) (reads : ReadsNames gives key.kind key names) where
    abbrev found : List Key
    found = distinct_from (old.marked ++ old.pending) names

    regroup : (before behind more : List Key) → (before ++ key ∷ []) ++ (behind ++ more) ≡ (before ++ key ∷ behind) ++ more
    regroup before behind more = append_assoc before (key ∷ []) (behind ++ more) ∙ sym (append_assoc before (key ∷ behind) more)

    all_then : new.marked ++ new.pending ≡ (old.marked ++ old.pending) ++ found
    all_then =
        ap₂ (λ (ks : List Key) (ps : List Key). ks ++ ps) marked pending ∙ regroup old.marked rest found
        ∙ ap (λ (ps : List Key). (old.marked ++ ps) ++ found) (sym first)

    met_is : (q : Key) → is_in (new.marked ++ new.pending) q ≡ (is_in (old.marked ++ old.pending) q || is_in found q)
    met_is q = ap (λ (ks : List Key). is_in ks q) all_then ∙ in_append (old.marked ++ old.pending) found q

    first_opened : IsOpened index gives (new.marked ++ new.pending) key
    first_opened = record {
      known = known;
      read = record {
        names = names;
        reads = reads;
        each = λ name is. met_is name ∙ in_distinct_from (old.marked ++ old.pending) names name ∙ or_right (is_in (old.marked ++ old.pending) name) (is_in names name) is;
      };
    }

    pub opens_one : OpensMore index gives old new
    opens_one = record {
      stays = λ q is. met_is q ∙ or_left (is_in (old.marked ++ old.pending) q) (is_in found q) is;
      opened = λ q now before. by q before (in_pushed old.marked key q (sym (ap (λ (ks : List Key). is_in ks q) marked) ∙ now));
    }
      where
        by : (q : Key) → is_in old.marked q ≡ false → (is_in old.marked q ≡ true) ⊎ (q ≡ key) → IsOpened index gives (new.marked ++ new.pending) q
        by q before (inl was) = absurd (true≢false (sym was ∙ before))
        by q before (inr same) = subst (IsOpened index gives (new.marked ++ new.pending)) (sym same) first_opened

    pub opens_first : OpensFirst index gives old new
    opens_first = record { first = λ k behind is. subst (IsOpened index gives (new.marked ++ new.pending)) (head_same key k rest behind (sym first ∙ is)) first_opened }
      where
        head_same : (a b : Key) (xs ys : List Key) → a ∷ xs ≡ b ∷ ys → a ≡ b
        head_same a b xs ys e = cc

  -- one step after another
  pub opens_then : (other : Index) (later : Gives) (old next new : MarksView) → other ≡ index → GivesNoMore gives later → OpensMore index gives old next → OpensMore other later next new
      → OpensMore index gives old new
  opens_then other later old next new same wider one two = record {
    stays = λ key is. two.stays key (one.stays key is);
    opened = λ key now before. by key now before (is_in next.marked key) refl;
  }
    where
      by : (key : Key) → is_in new.marked key ≡ true → is_in old.marked key ≡ false → (b : Bool) → is_in next.marked key ≡ b → IsOpened index gives (new.marked ++ new.pending) key
      by key now before true was = opened_wider index index gives gives (next.marked ++ next.pending) (new.marked ++ new.pending) key refl (λ slot given is. is) two.stays (one.opened key was before)
      by key now before false free = opened_wider index other gives later (new.marked ++ new.pending) (new.marked ++ new.pending) key same wider (λ k is. is) (two.opened key now free)

  -- the first of all was opened by the first step, and stays so
  pub first_then : (other : Index) (later : Gives) (old next new : MarksView) (count : ℕ) → other ≡ index → GivesNoMore gives later → (count ≡ 0 → next.pending ≡ old.pending)
      → (1 ≤ count → OpensFirst index gives old next) → OpensFirst other later next new → OpensMore other later next new → OpensFirst index gives old new
  first_then other later old next new zero same wider begins began one two = record {
    first = λ key rest is. opened_wider index other gives later (new.marked ++ new.pending) (new.marked ++ new.pending) key same wider (λ k is. is) (one.first key rest (begins refl ∙ is));
  }
  first_then other later old next new (suc count) same wider begins began one two = record {
    first = λ key rest is.
        opened_wider index index gives gives (next.marked ++ next.pending) (new.marked ++ new.pending) key refl (λ slot given is. is) two.stays ((began (omega arith)).first key rest is);
  }

  pub first_done : (old now : MarksView) (count : ℕ) → (count ≡ 0 → now.pending ≡ old.pending) → now.pending ≡ [] → (1 ≤ count → OpensFirst index gives old now) → OpensFirst index gives old now
  first_done old now zero begins none began = record { first = λ key rest is. absurd (nothing key rest (sym none ∙ begins refl ∙ is)) }
    where
      nothing : (key : Key) (rest : List Key) → [] ≡ key ∷ rest → ⊥
      nothing key rest e = cc
  first_done old now (suc count) begins none began = began (omega arith)

  -- ---- what was opened from the begin on

  pub have_more : (old new : MarksView) → HaveOpened old → OpensMore index gives old new → new.commits ≡ old.commits → HaveOpened new
  have_more old new have opens same = record {
    commits = λ commit is. opens.stays (commit_key commit) (have.commits commit (sym (ap (λ (cs : List (List ℕ)). list_any (same_id commit) cs) same) ∙ is));
    read = λ key now. by key now (is_in old.marked key) refl;
  }
    where
      by : (key : Key) → is_in new.marked key ≡ true → (b : Bool) → is_in old.marked key ≡ b → IsRead anything (new.marked ++ new.pending) key
      by key now true was = read_wider anything anything (old.marked ++ old.pending) (new.marked ++ new.pending) key (λ slot given is. is) opens.stays (have.read key was)
      by key now false free =
          read_wider anything gives (new.marked ++ new.pending) (new.marked ++ new.pending) key (λ slot given is. tt) (λ k is. is) (opens.opened key now free).read

pub have_first : (index : Index) (commits : List (List ℕ)) (m : MarksView) → AreFirst index commits m → HaveOpened m
have_first index commits m first = record {
  commits = λ commit is.
      ap₂ (λ (ks : List Key) (ps : List Key). is_in (ks ++ ps) (commit_key commit)) first.marked first.pending
      ∙ in_distinct (map_list commit_key commits) (commit_key commit)
      ∙ in_commits commits commit (sym (ap (λ (cs : List (List ℕ)). list_any (same_id commit) cs) first.commits) ∙ is);
  read = λ key now. absurd (true≢false (sym now ∙ ap (λ (ks : List Key). is_in ks key) first.marked));
}

pub have_same : (old new : MarksView) → HasTheSameMarks old new → HaveOpened old → HaveOpened new
have_same old new same have = record {
  commits = λ commit is. met (commit_key commit) (have.commits commit (sym (ap (λ (cs : List (List ℕ)). list_any (same_id commit) cs) same.commits) ∙ is));
  read = λ key now.
      read_wider anything anything (old.marked ++ old.pending) (new.marked ++ new.pending) key (λ slot given is. is) met
      (have.read key (sym (ap (λ (ks : List Key). is_in ks key) same.marked) ∙ now));
}
  where
    met : (key : Key) → is_in (old.marked ++ old.pending) key ≡ true → is_in (new.marked ++ new.pending) key ≡ true
    met key is = ap₂ (λ (ks : List Key) (ps : List Key). is_in (ks ++ ps) key) same.marked same.pending ∙ is

-- ---- where objects are told

pub whole_in : (known : Option Contents) (index : Index) (objects : Objects) (gives : Gives) (met : List Key) (key : Key)
    → ((held : Contents) (given : Option (List ℕ)) → known ≡ Some held → gives (Object key) given → given ≡ map.get held.objects key)
    → option_map (indexed index) known ≡ Some objects → key.kind ≢ kind.Block
    → IsOpened index gives met key → IsWholeIn objects key
whole_in known index objects gives met key tells told other opened = by key.kind refl opened.read.reads
  where
    as_read : ReadsAs gives key opened.read.names → IsWholeIn objects key
    as_read reads =
        let held : Some reads.bytes ≡ map.get objects key = given-stored known index objects key told opened.known gives tells (Some reads.bytes) reads.given in
        let names : names_at objects key ≡ Ok opened.read.names = ap (names_in key) (sym held) ∙ reads.read in
        record {
          reads = names ∙ ap Ok (sym (names_named objects key opened.read.names names));
          undamaged = whole-due key reads.bytes (map.get objects key) held reads.own;
        }

    by : (k : Kind) → key.kind ≡ k → ReadsNames gives k key opened.read.names → IsWholeIn objects key
    by kind.Commit is reads = as_read reads
    by kind.Fs is reads = as_read reads
    by kind.Block is none = absurd (other is)

-- ---- keys each once, in two parts

-- each part has each key once, and none is in both
pub record AreParts (xs ys : List Key) : Type 0 where
  pub front : IsDistinct same_key xs
  pub back : IsDistinct same_key ys
  pub apart : (key : Key) → is_in ys key ≡ true → is_in xs key ≡ false

front_all : (P : Key → Type 0) (xs ys : List Key) → AllByRecursion P (xs ++ ys) → AllByRecursion P xs
front_all P [] ys all = tt
front_all P (x ∷ xs) ys all = (all.0, front_all P xs ys all.1)

back_at : (P : Key → Type 0) (xs ys : List Key) → AllByRecursion P (xs ++ ys) → (key : Key) → is_in ys key ≡ true → P key
back_at P (x ∷ xs) ys all key there = back_at P xs ys all.1 key there
back_at P [] [] all key there = absurd (true≢false (sym there))
back_at P [] (y ∷ ys) all key there = elim (or_cases (same_key key y) (is_in ys key) there) [
  | inl own ↦ subst P (sym (same_key-true key y own)) all.0
  | inr behind ↦ back_at P [] ys all.1 key behind
]

pub distinct_parts : (xs ys : List Key) → IsDistinct same_key (xs ++ ys) → AreParts xs ys
unfolding IsDistinct
distinct_parts [] ys once = record { front = tt; back = once; apart = λ key there. refl }
distinct_parts (x ∷ xs) ys once =
    let rest : AreParts xs ys = distinct_parts xs ys once.1 in
    record {
      front = (front_all (λ y. same_key x y ≡ false) xs ys once.0, rest.front);
      back = rest.back;
      apart = λ key there. ap₂ (λ (a : Bool) (b : Bool). a || b) (other key (same_key key x) refl (back_at (λ y. same_key x y ≡ false) xs ys once.0 key there)) (rest.apart key there);
    }
  where
    other : (key : Key) (b : Bool) → same_key key x ≡ b → same_key x key ≡ false → same_key key x ≡ false
    other key false is free = is
    other key true is free = absurd (true≢false (sym (ap (λ (k : Key). same_key x k) (same_key-true key x is) ∙ same_key-itself x) ∙ free))
