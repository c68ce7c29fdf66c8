-- Passes of workers that are joined into one, one after another. The key lemmas are books_once, joined_shown,
-- join_none, join_more, joined_drawn and read_on.
use Rattle.std.proofs.Common.{◌≡◌, ℕ, ◌<◌, Bool, true, false, append_assoc, append-nil, arith, List, [], ◌∷◌, ◌++◌, length, if◌then◌else◌, nat_lt, Option, Some, refl, sym, ap, subst, ◌∙◌}
use Rattle.std.specs.Prelude.{map as map_list, slice_index_or}
use Rattle.std.proofs.lemmas.List.{get_or_default, length-map, map-append}
use Rattle.std.proofs.lemmas.List.Elements.{All-cons, All-nil, All-push, All-weaker}
use Rattle.std.proofs.lemmas.List.Sums.{sum_by_push}
use Rattle.std.proofs.lemmas.Option.{slice_get_within}
use Rattle.std.specs.List.{slice_get}
use mathlib.Core.List.{IsPrefix}
use Rattle.object_store.specs.Shelf.{Contents}
use Rattle.object_store.specs.declared.shelf.Slot.{Slot}
use Rattle.sync_calls.proofs.RoomLemmas.{get_map}
use Rattle.sync_calls.specs.Hall.{AreReady, HallOf, PassOf, passes_in, rooms_of, shown_by}
use Rattle.sync_calls.specs.Joining.{AreJoined, IsJoined}
use Rattle.sync_calls.specs.Shown.{LibraryPass, Shown, all_shown, shown_of}
use Rattle.turnstile.specs.Lists.{IsOnce, longer, shorter}
use Rattle.turnstile.specs.PassView.{drawn_of}
use Rattle.turnstile.proofs.ListsLemmas.{prefix_refl, prefix_trans}
use Rattle.library_server.specs.Port.{AreJoinOf, IsJoinOf, ReadNoMore, books_of}
use Rattle.library_server.proofs.HallEndLemmas.{pass_at}

-- both of two histories begin the longer one
begins_both : {A : Type 0} (xs ys zs : List A) → zs ≡ longer xs ys → IsPrefix (shorter xs ys) zs → IsPrefix xs zs × IsPrefix ys zs
begins_both {A} xs ys zs is begins = by (nat_lt (length xs) (length ys)) is begins
  where
    by : (b : Bool) → zs ≡ (if b then ys else xs) → IsPrefix (if b then xs else ys) zs → IsPrefix xs zs × IsPrefix ys zs
    by true is begins = (begins, subst (λ (w : List A). IsPrefix ys w) (sym is) (prefix_refl ys))
    by false is begins = (subst (λ (w : List A). IsPrefix xs w) (sym is) (prefix_refl xs), begins)

module _ {S : Type 0} where
  books_more : (us : List (Shown S)) (u : Shown S) → books_of (us ++ u ∷ []) ≡ books_of us ++ u.book
  books_more [] u = append-nil u.book
  books_more (x ∷ us) u = ap (λ (ys : List ℕ). x.book ++ ys) (books_more us u) ∙ sym (append_assoc x.book (books_of us) u.book)

  pub is_join_none : (v : Shown S) → IsOnce v.book → IsJoinOf v [] v
  is_join_none v once = record {
    start = refl;
    seen = All-cons (λ u. IsPrefix u.seen v.seen) v [] (prefix_refl v.seen) (All-nil (λ u. IsPrefix u.seen v.seen));
    book = sym (append-nil v.book);
    once = once;
    turns = omega arith;
  }

  -- one more
  pub is_join_more : (v w u x : Shown S) (us : List (Shown S)) → IsJoinOf v us w → IsJoined w u x → IsJoinOf v (us ++ u ∷ []) x
  is_join_more v w u x us before more =
      let both = begins_both w.seen u.seen x.seen more.seen more.begins in
      record {
        start = more.start ∙ before.start;
        seen = All-push (λ y. IsPrefix y.seen x.seen) (v ∷ us) u
            (All-weaker (λ y. IsPrefix y.seen w.seen) (λ y. IsPrefix y.seen x.seen) (λ y first. prefix_trans y.seen w.seen x.seen first both.0) (v ∷ us) before.seen)
            both.1;
        book = more.book ∙ (ap (λ (ys : List ℕ). ys ++ u.book) before.book ∙ (append_assoc v.book (books_of us) u.book ∙ ap (λ (ys : List ℕ). v.book ++ ys) (sym (books_more us u))));
        once = more.once;
        turns =
            let one = more.turns in
            let all = before.turns in
            let sum = sum_by_push (λ (y : Shown S). y.turns) us u in
            omega (arith, one, all, sum);
      }

  -- so of each library
  pub join_none : (vs : List (Shown S)) → ((i : ℕ) (v : Shown S) → i < length vs → IsOnce (slice_index_or vs i v).book) → AreJoinOf vs [] vs
  join_none vs once = (
    refl,
    λ i v u w below. subst (λ (x : Shown S). IsJoinOf (slice_index_or vs i v) [] x) (get_or_default vs i v w below) (is_join_none (slice_index_or vs i v) (once i v below)),
  )

  pub join_more : (vs : List (Shown S)) (all : List (List (Shown S))) (ws us xs : List (Shown S)) → AreJoinOf vs all ws
      → (length xs ≡ length ws) × ((i : ℕ) (w u x : Shown S) → i < length ws → IsJoined (slice_index_or ws i w) (slice_index_or us i u) (slice_index_or xs i x))
      → AreJoinOf vs (all ++ us ∷ []) xs
  join_more vs all ws us xs before more = (
    more.0 ∙ before.0,
    λ i v u x below.
        subst (λ (ys : List (Shown S)). IsJoinOf (slice_index_or vs i v) ys (slice_index_or xs i x)) (sym (map-append (λ (zs : List (Shown S)). slice_index_or zs i u) all (us ∷ [])))
        (is_join_more (slice_index_or vs i v) (slice_index_or ws i u) (slice_index_or us i u) (slice_index_or xs i x) (map_list (λ (zs : List (Shown S)). slice_index_or zs i u) all)
        (before.1 i v u u below) (more.1 i u u x (subst (λ (n : ℕ). i < n) (sym before.0) below))),
  )

-- ---- passes of a hall

one_of : {A : Type 0} (xs : List A) (i : ℕ) → i < length xs → A
one_of [] i below = absurd (omega (arith, below))
one_of (x ∷ xs) i below = x

-- a pass that is ready has each place of its books once
pub books_once : {S : Type 0} (contents : S → Option Contents) (may_give : S → Slot → Option (List ℕ) → Type 0) (texts faults : S → ℕ) (hall : HallOf S) (pass : PassOf S)
    → AreReady contents may_give texts faults hall pass → (i : ℕ) (v : Shown S) → i < length (shown_by pass) → IsOnce (slice_index_or (shown_by pass) i v).book
books_once {S} contents may_give texts faults hall pass ready i v below =
    let within : i < length (passes_in pass) = subst (λ (n : ℕ). i < n) (length-map (passes_in pass) shown_of) below in
    let at = pass_at (passes_in pass) i v within in
    let passes = pass.passes.ok.0 in
    let rooms = hall.rooms.ok.0 in
    let size = ready.size in
    let room = one_of (rooms_of hall) i (omega arith) in
    subst (λ (w : Shown S). IsOnce w.book) (sym at.2) (subst (λ (p : LibraryPass S). IsOnce (shown_of p).book) at.1 (ready.each i room at.0 (omega arith)).knows.once)

-- what is shown of passes that were joined is joined
pub joined_shown : {S : Type 0} (into from now : List (LibraryPass S)) → length from ≡ length into → AreJoined into from now
    → (length (all_shown now) ≡ length (all_shown into))
    × ((i : ℕ) (w u x : Shown S) → i < length (all_shown into) → IsJoined (slice_index_or (all_shown into) i w) (slice_index_or (all_shown from) i u) (slice_index_or (all_shown now) i x))
joined_shown {S} into from now size joined = (
  length-map now shown_of ∙ (joined.0 ∙ sym (length-map into shown_of)),
  λ i w u x below. one i w u x (subst (λ (n : ℕ). i < n) (length-map into shown_of) below),
)
  where
    one : (i : ℕ) (w u x : Shown S) → i < length into → IsJoined (slice_index_or (all_shown into) i w) (slice_index_or (all_shown from) i u) (slice_index_or (all_shown now) i x)
    one i w u x below =
        let a = pass_at into i w below in
        let b = pass_at from i u (subst (λ (n : ℕ). i < n) (sym size) below) in
        let c = pass_at now i x (subst (λ (n : ℕ). i < n) (sym joined.0) below) in
        subst (λ (v : Shown S). IsJoined v (slice_index_or (all_shown from) i u) (slice_index_or (all_shown now) i x)) (ap shown_of a.1 ∙ sym a.2)
        (subst (λ (v : Shown S). IsJoined (shown_of (slice_index_or into i a.0)) v (slice_index_or (all_shown now) i x)) (ap shown_of b.1 ∙ sym b.2)
        (subst (λ (v : Shown S). IsJoined (shown_of (slice_index_or into i a.0)) (shown_of (slice_index_or from i b.0)) v) (ap shown_of c.1 ∙ sym c.2) (joined.1 i a.0 b.0 c.0 below).0))

-- ---- the numbers that were read of the locks

-- what stands at a place of these numbers
number_at : {S : Type 0} (passes : List (LibraryPass S)) (library n : ℕ) → slice_get (map_list drawn_of passes) library ≡ Some n
    → (p : LibraryPass S) × (library < length passes) × (n ≡ drawn_of (slice_index_or passes library p))
number_at {S} passes library n at =
    let inside = slice_get_within (map_list drawn_of passes) library n at in
    let size = length-map passes drawn_of in
    let below : library < length passes = omega (arith, inside, size) in
    let p = one_of passes library below in
    (p, below, same_some n (drawn_of (slice_index_or passes library p)) (sym at ∙ get_map drawn_of passes library p below))
  where
    same_some : (a b : ℕ) → Some a ≡ Some b → a ≡ b
    same_some a b e = cc

-- of passes that were joined no less was read than of each
pub joined_drawn : {S : Type 0} (into from now : List (LibraryPass S)) → length from ≡ length into → AreJoined into from now
    → ReadNoMore (map_list drawn_of into) (map_list drawn_of now) × ReadNoMore (map_list drawn_of from) (map_list drawn_of now)
joined_drawn {S} into from now size joined = (
  λ library n at.
      let one = number_at into library n at in
      let below : library < length into = one.1 in
      let within : library < length now = subst (λ (m : ℕ). library < m) (sym joined.0) below in
      let most = (joined.1 library one.0 one.0 one.0 below).1 in
      let is = one.2 in
      (drawn_of (slice_index_or now library one.0), get_map drawn_of now library one.0 within, omega (arith, most, is)),
  λ library n at.
      let one = number_at from library n at in
      let below : library < length into = subst (λ (m : ℕ). library < m) size one.1 in
      let within : library < length now = subst (λ (m : ℕ). library < m) (sym joined.0) below in
      let most = (joined.1 library one.0 one.0 one.0 below).1 in
      let is = one.2 in
      (drawn_of (slice_index_or now library one.0), get_map drawn_of now library one.0 within, omega (arith, most, is)),
)

pub read_on : (xs ys zs : List ℕ) → ReadNoMore xs ys → ReadNoMore ys zs → ReadNoMore xs zs
read_on xs ys zs first second library n at =
    let one = first library n at in
    let two = second library one.0 one.1 in
    let least = one.2 in
    let more = two.2 in
    (two.0, two.1, omega (arith, least, more))
