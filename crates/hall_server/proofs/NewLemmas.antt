-- The place of each operation of a connection isn't before what was seen as the connection began. The key lemma is new_ran.
use Rattle.std.proofs.Common.{◌≡◌, ◌≤◌, inl, inr, ℕ, Bool, true, false, if◌then◌else◌, List, [], ◌∷◌, length, Option, Some, ap, arith, subst, sym, ◌∙◌}
use Rattle.std.specs.List.{AllByRecursion, slice_get}
use Rattle.object_store.specs.Shelf.{Contents}
use Rattle.object_store.specs.declared.shelf.Slot.{Slot}
use Rattle.turnstile.proofs.ListsLemmas.{prefix_length}
use Rattle.sync_calls.specs.Operations.{Called, Deed, IsDone, IsNew, Line, Lines, Looked, Moves, TookTurn}
use Rattle.sync_calls.specs.Shown.{Shown}
use Rattle.worker_server.specs.Calls.{Ran, Told, operations_of}
use Rattle.hall_server.specs.Serving.{HallShown, IsNewIn, hall_rules, is_over, without_over}
use Rattle.hall_server.proofs.GoingLemmas.{from_some, set_there}
use Rattle.hall_server.proofs.RanLemmas.{ran_goes}

-- as much was seen and looked at
record HasSeen {S : Type 0} (u v : Shown S) : Type 0 where
  pub seen : length u.seen ≤ length v.seen
  pub looked : u.looked ≤ v.looked

seen_itself : {S : Type 0} (u : Shown S) → HasSeen u u
seen_itself u = record { seen = omega arith; looked = omega arith }

-- what holds of all that was done holds of the operations among it
without_all : (P : Line → Type 0) (lines : List Line) → AllByRecursion P lines → AllByRecursion P (without_over lines)
without_all P [] all = tt
without_all P (line ∷ lines) all = by (is_over line.deed) all.0 (without_all P lines all.1)
  where
    by : (c : Bool) → P line → AllByRecursion P (without_over lines) → AllByRecursion P (if c then without_over lines else line ∷ without_over lines)
    by true here rest = rest
    by false here rest = (here, rest)

module _ {S : Type 0} (contents : S → Option Contents) (may_give : S → Slot → Option (List ℕ) → Type 0) (texts faults : S → ℕ) where
  done_seen : (u : Shown S) (place : ℕ) (deed : Deed) (v : Shown S) → IsDone contents may_give texts faults u place deed v → HasSeen u v
  done_seen u place Looked v looks = subst (λ (w : Shown S). HasSeen u w) (sym looks.same) (record { seen = omega arith; looked = looks.new.1 })
  done_seen u place (Called call moment r) v (inl reads) = record { seen = prefix_length u.seen v.seen reads.grows; looked = omega (arith, ap (λ (w : Shown S). w.looked) reads.same) }
  done_seen u place (Called call moment r) v (inr changes) = record { seen = prefix_length u.seen v.seen changes.grows; looked = omega (arith, ap (λ (w : Shown S). w.looked) changes.same) }
  done_seen u place (TookTurn goal moment most taken) v (inl reads) = record { seen = prefix_length u.seen v.seen reads.grows; looked = omega (arith, ap (λ (w : Shown S). w.looked) reads.same) }
  done_seen u place (TookTurn goal moment most taken) v (inr changes) = record { seen = prefix_length u.seen v.seen changes.grows; looked = omega (arith, ap (λ (w : Shown S). w.looked) changes.same) }

  done_new : (u : Shown S) (place : ℕ) (deed : Deed) (v : Shown S) → IsDone contents may_give texts faults u place deed v → IsNew u place
  done_new u place Looked v looks = looks.new
  done_new u place (Called call moment r) v (inl reads) = reads.new
  done_new u place (Called call moment r) v (inr changes) = changes.new
  done_new u place (TookTurn goal moment most taken) v (inl reads) = reads.new
  done_new u place (TookTurn goal moment most taken) v (inr changes) = changes.new

  -- what is shown of each library goes on
  moved_seen : (us : List (Shown S)) (line : Line) (vs : List (Shown S)) → Moves contents may_give texts faults us line vs → (j : ℕ) (u : Shown S) → slice_get us j ≡ Some u
      → (v : Shown S) × (slice_get vs j ≡ Some v) × HasSeen u v
  moved_seen us line vs moves j u at =
      subst (λ (ws : List (Shown S)). (v : Shown S) × (slice_get ws j ≡ Some v) × HasSeen u v) (sym moves.is)
      (elim (set_there us line.library moves.after moves.before j u moves.was at) [
        | inl here ↦ (moves.after, here.1, subst (λ (w : Shown S). HasSeen w moves.after) (sym here.0) (done_seen moves.before line.place line.deed moves.after moves.done))
        | inr there ↦ (u, there, seen_itself u)
      ])

  -- so what is new later was new before
  new_before : (us mid : List (Shown S)) (lines : List Line) → ((j : ℕ) (u : Shown S) → slice_get us j ≡ Some u → (v : Shown S) × (slice_get mid j ≡ Some v) × HasSeen u v)
      → AllByRecursion (IsNewIn mid) lines → AllByRecursion (IsNewIn us) lines
  new_before us mid [] goes all = tt
  new_before us mid (line ∷ lines) goes all = (
    (λ u at.
        let later = goes line.library u at in
        let new = all.0 later.0 later.1 in
        (omega (arith, later.2.seen, new.0), omega (arith, later.2.looked, new.1))),
    new_before us mid lines goes all.1,
  )

  all_new : (us : List (Shown S)) (lines : List Line) (vs : List (Shown S)) → Lines contents may_give texts faults us lines vs → AllByRecursion (IsNewIn us) lines
  all_new us [] vs same = tt
  all_new us (line ∷ lines) vs (mid, moves, rest) = (
    (λ u at. subst (λ (w : Shown S). IsNew w line.place) (from_some moves.before u (sym moves.was ∙ at)) (done_new moves.before line.place line.deed moves.after moves.done)),
    new_before us mid lines (moved_seen us line mid moves) (all_new mid lines vs rest),
  )

  pub new_ran : (shows : ℕ → Type 0) (u : HallShown S) (calls : List (Told Line)) (v : HallShown S) → Ran (hall_rules contents may_give texts faults shows) u calls v
      → AllByRecursion (IsNewIn u.libraries) (operations_of calls)
  new_ran shows u calls v ran =
      let goes = ran_goes contents may_give texts faults shows u calls v ran in
      subst (λ (lines : List Line). AllByRecursion (IsNewIn u.libraries) lines) (sym goes.told)
      (without_all (IsNewIn u.libraries) goes.all (all_new u.libraries goes.all v.libraries goes.leads))
