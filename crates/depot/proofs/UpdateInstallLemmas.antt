-- Objects that are put one after another, and what a plan leaves behind. The key lemmas are stores_then, puttable_front,
-- puttable_back, one_stored, may_refuse_put, free_put and puts_then.
use Rattle.std.proofs.Common.{◌≡◌, ◌⊎◌, inl, inr, ℕ, Bool, true, false, if◌then◌else◌, true≢false, List, [], ◌∷◌, ◌++◌, append_assoc, append-nil, refl, sym, ap, ◌∙◌, subst, Option, None, Some, IsTrue, Result, Ok, Err}
use Rattle.std.specs.Prelude.{⊤, IfOk}
use Rattle.sha1.specs.Sha1.{sha1}
use Rattle.ids.specs.Key.{Objects}
use Rattle.ids.specs.ObjectId.{nil}
use Rattle.ids.specs.declared.key.Key.{Key}
use Rattle.library_rules.specs.Changes.{keys_added, put_new, with_added}
use Rattle.library_rules.specs.declared.entry.Stored.{Stored}
use Rattle.library_state.specs.declared.state.LibState.{LibState}
use Rattle.object_graph.specs.Objects.{is_nil}
use Rattle.object_store.specs.Store.{CountsShelf, IsPutFault, has_other_name, is_free, name_refusal, put_refusal, same_bytes}
use Rattle.object_store.specs.Shelf.{Contents}
use Rattle.object_store.specs.StoreView.{Index, StoreView, objects_of, with_object}
use Rattle.object_store.specs.declared.error.StoreFault.{StoreFault}
use Rattle.object_store.specs.declared.error.StoreFault.TheVariants.{Taken, Wrong, Damaged, Shelf, NoMemory}
use Rattle.object_store.specs.declared.shelf.Slot.{Slot as ShelfSlot}
use Rattle.depot.specs.Answering.{MayRefuseUpdate}
use Rattle.depot.specs.Held.{KnowsAll}
use Rattle.depot.specs.UpdateInstall.{ArePuttable, ArePuttableIn, Held, IsCarriedOut, LeftBehind, PutsSo, StoresPart, StoresSo, unsure, with_all}
use Rattle.depot.specs.Plan.{AreNamed}
use Rattle.depot.specs.Writing.{IsWritten, LeftBy, SettlesSo, Slot, Writes, again, leaves_open, nothing, open_next, open_present, settled, RewritesSo}
use Rattle.depot.proofs.AnsweringLemmas.{damage_other}
use Rattle.depot.proofs.GivingLemmas.{then_by}
use Rattle.depot.proofs.HeldLemmas.{knows_nothing, knows_then, more_nothing, more_stops, more_then}
use Rattle.depot.proofs.StrayLemmas.{strays_then}
use Rattle.depot.specs.Refusals.{store_refusal}
use Rattle.depot.proofs.WritingLemmas.{stored_as_put}

-- ---- lists of objects

pub added_append : (o : Objects) (a b : List Stored) → with_added o (a ++ b) ≡ with_added (with_added o a) b
added_append o [] b = refl
added_append o (x ∷ a) b = added_append (put_new o x) a b

pub all_append : (known : Option Objects) (a b : List Stored) → with_all (a ++ b) known ≡ with_all b (with_all a known)
all_append None a b = refl
all_append (Some o) a b = ap Some (added_append o a b)

pub all_nothing : (known : Option Objects) → with_all [] known ≡ known
all_nothing None = refl
all_nothing (Some o) = refl

pub named_front : (a b : List Stored) → AreNamed (a ++ b) → AreNamed a
named_front [] b named = tt
named_front (x ∷ a) b named = (named.0, named_front a b named.1)

pub named_back : (a b : List Stored) → AreNamed (a ++ b) → AreNamed b
named_back [] b named = named
named_back (x ∷ a) b named = named_back a b named.1

front_puttable : (o : Objects) (a b : List Stored) → ArePuttable o (a ++ b) → ArePuttable o a
front_puttable o [] b are = tt
front_puttable o (x ∷ a) b are = (are.0, front_puttable (put_new o x) a b are.1)

back_puttable : (o : Objects) (a b : List Stored) → ArePuttable o (a ++ b) → ArePuttable (with_added o a) b
back_puttable o [] b are = are
back_puttable o (x ∷ a) b are = back_puttable (put_new o x) a b are.1

pub puttable_front : (known : Option Objects) (a b : List Stored) → ArePuttableIn known (a ++ b) → ArePuttableIn known a
puttable_front known a b are = λ o told. front_puttable o a b (are o told)

pub puttable_back : (known mid : Option Objects) (a b : List Stored) → ArePuttableIn known (a ++ b) → mid ≡ with_all a known → ArePuttableIn mid b
puttable_back None mid a b are same = λ o told. let none : None ≡ Some o = sym same ∙ told in cc
puttable_back (Some known) mid a b are same = λ o told.
    let is : with_added known a ≡ o = some_same (sym same ∙ told) in
    subst (λ m. ArePuttable m b) is (back_puttable known a b (are known refl))
  where
    some_same : {x y : Objects} → Some x ≡ Some y → x ≡ y
    some_same e = cc

-- ---- what is stored

pub stores_stops : (old : Option Objects) (a b : List Stored) (new : Option Objects) → StoresPart old a new → StoresPart old (a ++ b) new
stores_stops old a b new part = record {
  part = part.part;
  front = (part.front.0 ++ b, ap (λ xs. xs ++ b) part.front.1 ∙ append_assoc part.part part.front.0 b);
  objects = part.objects;
}

pub stores_then : (old mid new : Option Objects) (a b : List Stored) (result : Result ⊤ StoreFault) → mid ≡ with_all a old → StoresSo mid b new result → StoresSo old (a ++ b) new result
stores_then old mid new a b (Ok done) first second = second ∙ ap (with_all b) first ∙ sym (all_append old a b)
stores_then old mid new a b (Err fault) first second = record {
  part = a ++ second.part;
  front = (second.front.0, ap (λ xs. a ++ xs) second.front.1 ∙ sym (append_assoc a second.part second.front.0));
  objects = second.objects ∙ ap (with_all second.part) first ∙ sym (all_append old a second.part);
}

-- ---- one object

pub one_stored : (known : Option Objects) (key : Key) (bytes : List ℕ) → ArePuttableIn known (record { key = key; bytes = bytes } ∷ [])
    → with_object known key bytes ≡ with_all (record { key = key; bytes = bytes } ∷ []) known
one_stored known key bytes are = stored_as_put known key bytes (λ o told. (are o told).0)

pub none_stored : (old new : Option Objects) (all : List Stored) → new ≡ old → StoresPart old all new
none_stored old new all same = record { part = []; front = (all, refl); objects = same ∙ sym (all_nothing old) }

other_not : (a b : Bool) (x y : StoreFault) → (if a then Some x else if b then Some y else None) ≡ None → a ≡ true → ⊥
other_not true b x y e is = cc
other_not false b x y e is = true≢false (sym is)

-- why an object isn't put that no name forbids
pub may_refuse_put : (index : Index) (may_give : ShelfSlot → Option (List ℕ) → Type 0) (key : Key) (bytes : List ℕ) (fault : StoreFault) → name_refusal key bytes ≡ None
    → IsPutFault may_give key bytes fault → MayRefuseUpdate index may_give (store_refusal fault)
may_refuse_put index may_give key bytes (Taken id) named (at, inl zeros) = inl (ap is_nil at ∙ zeros)
may_refuse_put index may_give key bytes (Taken id) named (at, inr other) = inr (inr (record { key = key; named = at; bytes = bytes; other = other }))
may_refuse_put index may_give key bytes (Wrong id) named cause =
    absurd (other_not (has_other_name key bytes) (same_bytes key.id nil) (Wrong (sha1 bytes)) (Taken key.id) named cause.1)
may_refuse_put index may_give key bytes (Damaged want got) named cause = (damage_other may_give key want got cause, key, cause)
may_refuse_put index may_give key bytes Shelf named cause = tt
may_refuse_put index may_give key bytes NoMemory named cause = tt

pub free_put : (o : Objects) (key : Key) (bytes : List ℕ) (fault : StoreFault) → put_refusal o key bytes ≡ None → (put_refusal o key bytes ≡ Some fault) ⊎ IsTrue (is_free fault)
    → IsTrue (is_free fault)
free_put o key bytes fault none (inl due) = let e : None ≡ Some fault = sym none ∙ due in cc
free_put o key bytes fault none (inr free) = free

-- a free fault may refuse an update
pub free_refuses : (index : Index) (may_give : ShelfSlot → Option (List ℕ) → Type 0) (fault : StoreFault) → IsTrue (is_free fault) → MayRefuseUpdate index may_give (store_refusal fault)
free_refuses index may_give (Taken id) free = absurd (true≢false (sym free))
free_refuses index may_give (Wrong id) free = absurd (true≢false (sym free))
free_refuses index may_give (Damaged want got) free = absurd (true≢false (sym free))
free_refuses index may_give Shelf free = tt
free_refuses index may_give NoMemory free = tt

-- ---- the text

-- a text that wasn't settled
pub settle_left : (unsettled still : Bool) (present next : LibState) (old new : Slot) (fault : StoreFault) → still ≡ unsettled → SettlesSo unsettled present old new (Err fault)
    → LeftBy fault unsettled present next old still new
settle_left false still present next old new fault same so = let e : Err fault ≡ Ok tt = so.1 in cc
settle_left true still present next old new (Taken id) same so = absurd so
settle_left true still present next old new (Wrong id) same so = absurd so
settle_left true still present next old new (Damaged want got) same so = absurd so
settle_left true still present next old new Shelf same (inl is) = nothing same is
settle_left true still present next old new Shelf same (inr is) = again same refl is.text
settle_left true still present next old new NoMemory same so = inl (same, so)

-- the slot once it was settled
pub settled_slot : (unsettled : Bool) (present : LibState) (old new : Slot) → SettlesSo unsettled present old new (Ok tt) → new ≡ settled unsettled present old
settled_slot true present old new so = so.text
settled_slot false present old new so = so.0

-- a text that was written after it was settled
pub noted : (unsettled still : Bool) (present next : LibState) (old mid new : Slot) (result : Result ⊤ StoreFault) → mid ≡ settled unsettled present old → still ≡ leaves_open result
    → Writes next mid new result → RewritesSo unsettled present next old still new result
noted unsettled still present next old mid new (Ok done) first left so = (left, subst (λ s. IsWritten next s new) first so)
noted unsettled still present next old mid new (Err (Taken id)) first left so = absurd so
noted unsettled still present next old mid new (Err (Wrong id)) first left so = absurd so
noted unsettled still present next old mid new (Err (Damaged want got)) first left so = absurd so
noted unsettled still present next old mid new (Err Shelf) first left (inl is) = open_present left (is ∙ first)
noted unsettled still present next old mid new (Err Shelf) first left (inr is) = open_next left (subst (λ s. IsWritten next s new) first is)
noted unsettled still present next old mid new (Err NoMemory) first left so = inr (left, so ∙ first)

-- ---- objects of a table

module _ {S : Type 0} {contents : S → Option Contents} {may_give : S → ShelfSlot → Option (List ℕ) → Type 0} {texts faults : S → ℕ} where
  -- objects, and then others
  pub puts_then : {old mid new : StoreView S} (a b : List Stored) (result : Result ⊤ StoreFault) → PutsSo contents may_give texts faults a old mid (Ok tt)
      → PutsSo contents may_give texts faults b mid new result → PutsSo contents may_give texts faults (a ++ b) old new result
  puts_then {old = old} {mid = mid} {new = new} a b result first second = record {
    objects = stores_then (objects_of contents old) (objects_of contents mid) (objects_of contents new) a b result first.objects second.objects;
    slot = second.slot ∙ first.slot;
    free = λ known told. second.free (with_added known a) (first.objects ∙ ap (with_all a) told);
    cause = second.cause;
    lying = strays_then contents old mid new result first.lying second.lying;
    written = second.written ∙ first.written;
    gives = then_by first.gives second.gives;
    count = subst (λ n. CountsShelf {T = ⊤} n (faults new.shelf) result) first.count second.count;
    held = more_then a b old.index mid.index new.index first.held second.held;
    known = both result second.known;
  }
    where
      both : (r : Result ⊤ StoreFault) → IfOk r (λ done. KnowsAll (keys_added b) new.index) → IfOk r (λ done. KnowsAll (keys_added (a ++ b)) new.index)
      both (Ok done) all = knows_then a b mid.index new.index first.known second.held all
      both (Err fault) none = tt

  -- a failure before others were put
  pub puts_stops : {old new : StoreView S} (a b : List Stored) (fault : StoreFault) → PutsSo contents may_give texts faults a old new (Err fault)
      → PutsSo contents may_give texts faults (a ++ b) old new (Err fault)
  puts_stops {old = old} {new = new} a b fault puts = record {
    objects = stores_stops (objects_of contents old) a b (objects_of contents new) puts.objects;
    slot = puts.slot;
    free = puts.free;
    cause = puts.cause;
    lying = puts.lying;
    written = puts.written;
    gives = puts.gives;
    count = puts.count;
    held = more_stops a b old.index new.index puts.held;
    known = tt;
  }

  pub puts_nothing : (old : StoreView S) → PutsSo contents may_give texts faults [] old old (Ok tt)
  puts_nothing old = record {
    objects = sym (all_nothing (objects_of contents old));
    slot = refl;
    free = λ known told. tt;
    cause = tt;
    lying = λ key stray. stray;
    written = refl;
    gives = λ slot given is. inl is;
    count = refl;
    held = more_nothing old.index;
    known = knows_nothing old.index;
  }

-- some of the objects were put, and the others can be
pub record IsPutting {S : Type 0} (contents : S → Option Contents) (may_give : S → ShelfSlot → Option (List ℕ) → Type 0) (texts faults : S → ℕ) (all : List Stored) (old : StoreView S)
    (left : List Stored) (now : StoreView S) : Type 0 where
  pub done : List Stored
  pub split : done ++ left ≡ all
  pub puts : PutsSo contents may_give texts faults done old now (Ok tt)
  pub named : AreNamed left
  pub ready : ArePuttableIn (objects_of contents now) left

module _ {S : Type 0} {contents : S → Option Contents} {may_give : S → ShelfSlot → Option (List ℕ) → Type 0} {texts faults : S → ℕ} {all : List Stored} {old : StoreView S} where
  pub putting_start : AreNamed all → ArePuttableIn (objects_of contents old) all → IsPutting contents may_give texts faults all old all old
  putting_start named ready = record { done = []; split = refl; puts = puts_nothing old; named = named; ready = ready }

  pub putting_next : {now new : StoreView S} (left : List Stored) (x : Stored) → IsPutting contents may_give texts faults all old (x ∷ left) now
      → PutsSo contents may_give texts faults (x ∷ []) now new (Ok tt) → IsPutting contents may_give texts faults all old left new
  putting_next {now = now} {new = new} left x is put = record {
    done = is.done ++ x ∷ [];
    split = append_assoc is.done (x ∷ []) left ∙ is.split;
    puts = puts_then is.done (x ∷ []) (Ok tt) is.puts put;
    named = is.named.1;
    ready = puttable_back (objects_of contents now) (objects_of contents new) (x ∷ []) left is.ready put.objects;
  }

  pub putting_end : {now : StoreView S} → IsPutting contents may_give texts faults all old [] now → PutsSo contents may_give texts faults all old now (Ok tt)
  putting_end {now} is = subst (λ done. PutsSo contents may_give texts faults done old now (Ok tt)) (sym (append-nil is.done) ∙ is.split) is.puts

  pub putting_stop : {now new : StoreView S} (left : List Stored) (x : Stored) (fault : StoreFault) → IsPutting contents may_give texts faults all old (x ∷ left) now
      → PutsSo contents may_give texts faults (x ∷ []) now new (Err fault) → PutsSo contents may_give texts faults all old new (Err fault)
  putting_stop {now = now} {new = new} left x fault is put =
      subst (λ added. PutsSo contents may_give texts faults added old new (Err fault)) (append_assoc is.done (x ∷ []) left ∙ is.split)
      (puts_stops (is.done ++ x ∷ []) left fault (puts_then is.done (x ∷ []) (Err fault) is.puts put))

-- ---- all of it

pub left_unsure : (fault : StoreFault) (unsettled still : Bool) (present mid next : LibState) (all : List Stored) (old new : Held) (slot : Slot) → IsTrue (is_free fault)
    → new.objects ≡ with_all all old.objects → mid ≡ present → slot ≡ old.slot → LeftBy fault unsettled mid next slot still new.slot → LeftBehind fault unsettled present next all old still new
left_unsure fault unsettled still present mid next all old new slot free stored same kept left =
    unsure free stored (subst (λ (state : LibState). LeftBy fault unsettled state next old.slot still new.slot) same (subst (λ (s : Slot). LeftBy fault unsettled mid next s still new.slot) kept left))

pub carried_out : (unsettled still : Bool) (present mid next : LibState) (all : List Stored) (old new : Held) (slot : Slot) → new.objects ≡ with_all all old.objects → mid ≡ present → slot ≡ old.slot
    → RewritesSo unsettled mid next slot still new.slot (Ok tt) → IsCarriedOut unsettled present next all old still new
carried_out unsettled still present mid next all old new slot stored same kept text = record {
  objects = stored;
  settles = text.0;
  text = subst (λ s. IsWritten next s new.slot) (ap (λ state. settled unsettled state slot) same ∙ ap (settled unsettled present) kept) text.1;
}
