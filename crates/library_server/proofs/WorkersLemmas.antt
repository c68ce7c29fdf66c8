-- The workers of a port: each has its pass and its ear, and all are joined. The key lemmas are seated_at, all_seated,
-- each_one, close_all, tally_more, all_within, turned_all, seated_more, unseated_more and led_to.
use Rattle.std.proofs.Common.{◌≡◌, ℕ, ◌+◌, ◌-◌, ◌^◌, ◌<◌, ◌||◌, All, Bool, List, [], ◌∷◌, ◌++◌, length, append_assoc, append-nil, reverse, Option, arith, refl, rules, subst, sym, ap, ◌∙◌}
use Rattle.std.specs.Prelude.{map as map_list, min, slice_index_or, sum_by}
use Rattle.std.specs.List.{list_any}
use Rattle.std.proofs.lemmas.List.{get_or-map, length-map, map-append, nil_from_length, reverse-append, reverse-reverse}
use Rattle.std.proofs.lemmas.List.Elements.{All-get_or, All-head, All-tail, All-weaker}
use Rattle.std.proofs.lemmas.List.Folds.{list_any-append}
use Rattle.std.proofs.lemmas.List.Sums.{sum_by-cons, sum_by_push}
use Rattle.depot.specs.DepotView.{DepotView}
use Rattle.hall_workers.proofs.WorkingLemmas.{in_turn_keeps}
use Rattle.hall_workers.specs.Serves.{ServesLink}
use Rattle.hall_workers.specs.Workers.{WorkerView, Works, worker_seen}
use Rattle.hall_workers.specs.declared.worker.Worker.{Worker}
use Rattle.link_ears.specs.Ear.{EarRules}
use Rattle.object_store.specs.Shelf.{Contents}
use Rattle.object_store.specs.declared.shelf.Slot.{Slot}
use Rattle.sync_calls.specs.Closing.{AreClosed}
use Rattle.sync_calls.specs.Hall.{AreWithin, PassOf, drawn_by, shares_of, shown_by}
use Rattle.sync_calls.specs.Making.{new_shown}
use Rattle.sync_calls.specs.Shown.{LibraryPass, Shown, all_shown}
use Rattle.worker_server.specs.declared.served.Served.{Served}
use Rattle.library_server.specs.HallConnections.{AreLedTo}
use Rattle.library_server.specs.Port.{AreJoinOf, AreSeated, ReadNoMore, is_ear_fault, is_want, new_worker, tallied, tally_of}
use Rattle.library_server.specs.declared.workers.Tally.{Tally}
use Rattle.library_server.proofs.HallEndLemmas.{led_by}

-- ---- seated

module _ {P E L : Type 0} (rules : EarRules E L) where
  seen_as : (pass p : P) (ear e : E) (served : List Served) → pass ≡ p → ear ≡ e → served ≡ [] → ◌≡◌ {A = WorkerView P L}
      (record { pass = pass; tells = rules.tells ear; back = rules.back ear; faults = rules.faults ear; served = served }) (new_worker rules p e)
  seen_as pass p ear e served is-pass is-ear none = rw (is-pass, is-ear, none) refl

  -- a worker that has its seat served nothing yet
  pub seated_at : (passes : List P) (ears : List E) (workers : List (Worker P E)) → AreSeated passes ears workers → (i : ℕ) (p : P) (e : E) (w : Worker P E) → i < length workers
      → worker_seen rules.tells rules.back rules.faults (slice_index_or workers i w) ≡ new_worker rules (slice_index_or passes i p) (slice_index_or ears i e)
  seated_at passes ears workers seated i p e w below =
      let x = slice_index_or workers i w in
      seen_as x.pass (slice_index_or passes i p) x.ear (slice_index_or ears i e) x.served.items
      (sym (get_or-map (λ (y : Worker P E). y.pass) workers i w p below) ∙ ap (λ (ps : List P). slice_index_or ps i p) seated.pass_is)
      (sym (get_or-map (λ (y : Worker P E). y.ear) workers i w e below) ∙ ap (λ (es : List E). slice_index_or es i e) seated.ear_is)
      (All-get_or (λ (y : Worker P E). y.served.items ≡ []) workers i w below seated.none)

-- what holds of all passes holds of the workers'
pub all_seated : {P E : Type 0} (Q : P → Type 0) (passes : List P) (ears : List E) (workers : List (Worker P E)) → AreSeated passes ears workers → All Q passes → All (λ w. Q w.pass) workers
all_seated {P} {E} Q passes ears workers seated all k d below =
    subst Q (ap (λ (ps : List P). slice_index_or ps k d.pass) (sym seated.pass_is) ∙ get_or-map (λ (y : Worker P E). y.pass) workers k d d.pass below)
    (all k d.pass (subst (λ (n : ℕ). k < n) (sym (length-map workers (λ (y : Worker P E). y.pass)) ∙ ap length seated.pass_is) below))

pub seated_size : {P E : Type 0} (passes : List P) (ears : List E) (workers : List (Worker P E)) → AreSeated passes ears workers → (length workers ≡ length passes) × (length workers ≡ length ears)
seated_size {P} {E} passes ears workers seated = (
  sym (length-map workers (λ (y : Worker P E). y.pass)) ∙ ap length seated.pass_is,
  sym (length-map workers (λ (y : Worker P E). y.ear)) ∙ ap length seated.ear_is,
)

-- ---- how many passes they stand for

-- one each
pub sum_of_ones : {A : Type 0} (f : A → ℕ) (xs : List A) → All (λ x. f x ≡ 1) xs → sum_by f xs ≡ length xs
sum_of_ones f [] all = refl
sum_of_ones f (x ∷ xs) all =
    let one = All-head (λ y. f y ≡ 1) x xs all in
    let more = sum_of_ones f xs (All-tail (λ y. f y ≡ 1) x xs all) in
    let both = sum_by-cons f x xs in
    omega (arith, one, more, both)

module _ {S E L : Type 0} (contents : S → Option Contents) (may_give : S → Slot → Option (List ℕ) → Type 0) (texts faults : S → ℕ) (rules : EarRules E L) (shows : ℕ → Type 0) where
  -- a worker's pass stands for as many passes as it did
  keeps_share : (old new : WorkerView (PassOf S) L) → Works (ServesLink contents may_give texts faults shows) rules.seen old new → shares_of new.pass ≡ shares_of old.pass
  keeps_share old new works =
      in_turn_keeps (ServesLink contents may_give texts faults shows) rules.seen (λ u v. shares_of v ≡ shares_of u) (λ u. refl) (λ u mid v first rest. rest ∙ first)
      (λ u v before now how by. by.size.0) old.pass new.pass works.had works.through

  -- so each of them stands for one, where it did
  pub each_one : (workers ends : List (Worker (PassOf S) E)) → length ends ≡ length workers → All (λ w. shares_of w.pass ≡ 1) workers
      → ((i : ℕ) (d : Worker (PassOf S) E) → i < length workers
      → Works (ServesLink contents may_give texts faults shows) rules.seen (worker_seen rules.tells rules.back rules.faults (slice_index_or workers i d))
      (worker_seen rules.tells rules.back rules.faults (slice_index_or ends i d))) → All (λ w. shares_of w.pass ≡ 1) ends
  each_one workers ends size ones works k d below =
      let within : k < length workers = subst (λ (n : ℕ). k < n) size below in
      keeps_share (worker_seen rules.tells rules.back rules.faults (slice_index_or workers k d)) (worker_seen rules.tells rules.back rules.faults (slice_index_or ends k d)) (works k d within)
      ∙ ones k d within

-- the pass into which all were joined stands for all
pub close_all : {S E : Type 0} (ends : List (Worker (PassOf S) E)) (now before made made_before count : ℕ) → All (λ w. shares_of w.pass ≡ 1) ends → length ends ≡ count
    → now ≡ before + sum_by (λ w. shares_of w.pass) ends → before ≡ 1 → made ≡ made_before → made_before ≡ count + 1 → now ≡ made
close_all {S} {E} ends now before made made_before count ones size sum one same all =
    let total = sum_of_ones (λ (w : Worker (PassOf S) E). shares_of w.pass) ends ones in
    omega (arith, size, sum, one, same, all, total)

-- ---- the numbers that were read of the locks

-- where the pass that joins all read of no more turns than were taken, no worker did
pub all_within : {S E : Type 0} (ends : List (Worker (PassOf S) E)) (last : PassOf S) → All (λ w. ReadNoMore (drawn_by w.pass) (drawn_by last)) ends → AreWithin (drawn_by last) (shown_by last)
    → All (λ w. AreWithin (drawn_by w.pass) (shown_by last)) ends
all_within {S} {E} ends last read within =
    All-weaker (λ (w : Worker (PassOf S) E). ReadNoMore (drawn_by w.pass) (drawn_by last)) (λ (w : Worker (PassOf S) E). AreWithin (drawn_by w.pass) (shown_by last))
    (λ w so library n u at shown.
    let more = so library n at in
    let less = within library more.0 u more.1 shown in
    let least = more.2 in
    omega (arith, least, less)) ends read

-- ---- the tally

pub tally_more : {P E : Type 0} (workers : List (Worker P E)) (w : Worker P E) → tallied (tally_of workers) w.ending (length w.served.items) ≡ tally_of (workers ++ w ∷ [])
tally_more {P} {E} workers w =
    the_tally
    (any_push (λ (y : Worker P E). is_ear_fault y.ending) workers w) (any_push (λ (y : Worker P E). is_want y.ending) workers w)
    (capped (sum_by (λ (y : Worker P E). length y.served.items) workers) (length w.served.items) (sum_by (λ (y : Worker P E). length y.served.items) (workers ++ w ∷ [])) (2 ^ 64 - 1)
    (sum_by_push (λ (y : Worker P E). length y.served.items) workers w))
  where
    any_push : {A : Type 0} (p : A → Bool) (xs : List A) (x : A) → (list_any p xs || p x) ≡ list_any p (xs ++ x ∷ [])
    any_push p xs x = sym (list_any-append p xs (x ∷ []) ∙ ap (λ (b : Bool). list_any p xs || b) (any_one p x))
      where
        any_one : {A : Type 0} (p : A → Bool) (x : A) → list_any p (x ∷ []) ≡ p x
        any_one p x = grind rules

    capped : (a b c most : ℕ) → c ≡ a + b → min (min a most + b) most ≡ min c most
    capped a b c most is = omega (arith, is)

    the_tally : {f g w v : Bool} {n m : ℕ} → f ≡ g → w ≡ v → n ≡ m → ◌≡◌ {A = Tally} (record { failed = f; wanting = w; served = n }) (record { failed = g; wanting = v; served = m })
    the_tally a b c = cc (a, b, c)

-- ---- taken from the end of what was turned round

-- what is left of a list that was turned round, without its last
reverse_pop : {A : Type 0} (old front : List A) (x : A) → old ≡ front ++ x ∷ [] → reverse old ≡ x ∷ reverse front
reverse_pop old front x pop = ap reverse pop ∙ reverse-append front (x ∷ [])

pub unseated_more : {A : Type 0} (done old front all : List A) (x : A) → old ≡ front ++ x ∷ [] → done ++ reverse old ≡ all → (done ++ x ∷ []) ++ reverse front ≡ all
unseated_more {A} done old front all x pop is =
    append_assoc done (x ∷ []) (reverse front) ∙ (ap (λ (l : List A). done ++ l) (sym (reverse_pop old front x pop)) ∙ is)

-- all of it was taken
pub turned_all : {A : Type 0} (done left old start : List A) → length left ≡ 0 → old ≡ reverse start → done ++ reverse left ≡ reverse old → done ≡ start
turned_all {A} done left old start none turned is =
    sym (append-nil done) ∙ (ap (λ (l : List A). done ++ reverse l) (sym (nil_from_length left none)) ∙ (is ∙ (ap reverse turned ∙ reverse-reverse start)))

-- the same of what is made of each
pub seated_more : {A B : Type 0} (f : A → B) (done : List A) (a : A) (old front all : List B) → old ≡ front ++ f a ∷ [] → map_list f done ++ reverse old ≡ all
    → map_list f (done ++ a ∷ []) ++ reverse front ≡ all
seated_more {A} {B} f done a old front all pop is =
    ap (λ (l : List B). l ++ reverse front) (map-append f done (a ∷ [])) ∙ unseated_more (map_list f done) old front all (f a) pop is

-- ---- the libraries that come out

module _ {S : Type 0} (contents : S → Option Contents) (may_give : S → Slot → Option (List ℕ) → Type 0) (texts faults : S → ℕ) where
  pub led_to : (depots afters : List (DepotView S)) (all : List (List (Shown S))) (passes : List (LibraryPass S)) → AreJoinOf (map_list new_shown depots) all (all_shown passes)
      → AreClosed contents may_give texts faults passes afters → AreLedTo contents may_give texts faults depots (all_shown passes) afters
  led_to depots afters all passes joined closed =
      led_by contents may_give texts faults depots afters (map_list new_shown depots) passes refl
      (joined.0, λ i v u below. (joined.1 i u u v below).start)
      closed
