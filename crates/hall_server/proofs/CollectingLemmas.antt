-- A collection that was asked of a hall leaves operations, in their order: its turns, but for one that only told that the collection
-- is over. The key lemma is collects_goes.
use Rattle.std.proofs.Common.{◌≡◌, ℕ, ◌<◌, Bool, true, false, if◌then◌else◌, List, [], ◌∷◌, ◌++◌, length, Option, None, Some, ap, ap₂, append-nil, refl, subst, sym, ◌∙◌}
use Rattle.std.specs.Prelude.{slice_set}
use Rattle.std.specs.List.{slice_get}
use Rattle.std.proofs.lemmas.Bool.{false≢true}
use Rattle.std.proofs.lemmas.List.{map-append, set-set}
use Rattle.std.proofs.lemmas.Option.{slice_get_within}
use Rattle.depot.specs.declared.turn.Turn.{Turn}
use Rattle.depot.specs.declared.turn.Turn.TheVariants as turn
use Rattle.object_store.specs.Shelf.{Contents}
use Rattle.object_store.specs.declared.shelf.Slot.{Slot}
use Rattle.sync_calls.specs.Collecting.{CollectsSo, EndsAs, EndsSo, IsTaken, OneTurn, TurnsOn, goes_on, line_of, lines_of}
use Rattle.sync_calls.specs.Operations.{Line, Lines}
use Rattle.sync_calls.specs.Shown.{Shown}
use Rattle.sync_calls.specs.declared.collecting.Collected.{Collected as HallCollected}
use Rattle.sync_calls.proofs.CollectingLemmas.{lines_taken}
use Rattle.sync_calls.proofs.RoomLemmas.{get_set}
use Rattle.worker_server.specs.declared.host.Collected.{Collected}
use Rattle.hall_server.specs.Serving.{CollectsAt, Goes, HallShown, is_over_turn, without_over}
use Rattle.hall_server.proofs.GoingLemmas.{all_append, kept, without_append}

-- a turn after which another follows isn't over, and neither is the last one of a collection that is told
no_over : (t : Turn) → goes_on t ≡ true → is_over_turn t ≡ false
no_over (turn.Over number) goes = absurd (false≢true goes)
no_over other goes = refl

no_over_last : (t : Turn) (left taken : ℕ) (ends : HallCollected) → EndsAs t left taken ends → is_over_turn t ≡ false
no_over_last (turn.Over number) left taken ends is = absurd is
no_over_last other left taken ends is = refl

module _ {S : Type 0} (contents : S → Option Contents) (may_give : S → Slot → Option (List ℕ) → Type 0) (texts faults : S → ℕ) (shows : ℕ → Type 0) (library : ℕ) where
  abbrev On : Shown S → Option ℕ → List OneTurn → Shown S → Option ℕ → Type 0
  On u goal turns v last = TurnsOn contents may_give texts faults shows u goal turns v last

  abbrev Took : Shown S → Option ℕ → OneTurn → Shown S → Type 0
  Took u goal one v = IsTaken contents may_give texts faults shows u goal one v

  -- turns that go on are all told
  quiet : (u : Shown S) (goal : Option ℕ) (turns : List OneTurn) (v : Shown S) (last : Option ℕ) → On u goal turns v last
      → without_over (lines_of library turns) ≡ lines_of library turns
  quiet u goal [] v last on = refl
  quiet u goal (t ∷ turns) v last (w, next, taken, goes, follows, rest) =
      ap₂ (λ (c : Bool) (ls : List Line). if c then ls else line_of library t ∷ ls) (no_over t.turn goes) (quiet w next turns v last rest)

  -- one turn more
  last_taken : (us : List (Shown S)) (w v : Shown S) (goal : Option ℕ) (one : OneTurn) → library < length us → Took w goal one v
      → Lines contents may_give texts faults (slice_set us library w) (line_of library one ∷ []) (slice_set us library v)
  last_taken us w v goal one within taken = (
    slice_set (slice_set us library w) library v,
    record { before = w; was = get_set us library w within; after = v; is = refl; done = taken.done },
    sym (set-set us library w v),
  )

  all_taken : (us : List (Shown S)) (u w v : Shown S) (goal : Option ℕ) (turns : List OneTurn) (one : OneTurn) → slice_get us library ≡ Some u
      → On u None turns w goal → Took w goal one v
      → Lines contents may_give texts faults us (lines_of library turns ++ line_of library one ∷ []) (slice_set us library v)
  all_taken us u w v goal turns one at on taken =
      all_append contents may_give texts faults us (slice_set us library w) (slice_set us library v) (lines_of library turns) (line_of library one ∷ [])
      (lines_taken contents may_give texts faults shows us library u None turns w goal at on)
      (last_taken us w v goal one (slice_get_within us library u at) taken)

  ends_goes : (us : List (Shown S)) (u v : Shown S) (ends : HallCollected) (turns : List OneTurn) (drawn : ℕ) → slice_get us library ≡ Some u
      → EndsSo contents may_give texts faults shows u ends turns v drawn → Goes contents may_give texts faults us (lines_of library turns) (slice_set us library v)
  ends_goes us u v ends turns drawn at (EndsSo.ended before goal w last on taken unspent are tells) =
      let lines_are : lines_of library turns ≡ lines_of library before ++ line_of library last ∷ [] =
      ap (lines_of library) are ∙ map-append (line_of library) before (last ∷ []) in
      let one : without_over (line_of library last ∷ []) ≡ line_of library last ∷ [] =
      ap (kept (line_of library last)) (no_over_last last.turn _ _ ends tells) in
      record {
        all = lines_of library before ++ line_of library last ∷ [];
        leads = all_taken us u w v goal before last at on taken;
        told =
            lines_are
            ∙ sym (without_append (lines_of library before) (line_of library last ∷ [])
            ∙ ap₂ (λ (xs ys : List Line). xs ++ ys) (quiet u None before w goal on) one);
      }
  ends_goes us u v ends turns drawn at (EndsSo.over number w last on taken unspent is tells) =
      let none : without_over (line_of library last ∷ []) ≡ [] =
      ap (kept (line_of library last)) (ap is_over_turn is) in
      record {
        all = lines_of library turns ++ line_of library last ∷ [];
        leads = all_taken us u w v (Some number) turns last at on taken;
        told =
            sym (without_append (lines_of library turns) (line_of library last ∷ [])
            ∙ ap₂ (λ (xs ys : List Line). xs ++ ys) (quiet u None turns w (Some number) on) none
            ∙ append-nil (lines_of library turns));
      }
  ends_goes us u v ends turns drawn at (EndsSo.spent goal on last tells) = record {
    all = lines_of library turns;
    leads = lines_taken contents may_give texts faults shows us library u None turns v goal at on;
    told = sym (quiet u None turns v goal on);
  }

module _ {S : Type 0} (contents : S → Option Contents) (may_give : S → Slot → Option (List ℕ) → Type 0) (texts faults : S → ℕ) (shows : ℕ → Type 0) where
  by_goes : (us : List (Shown S)) (lib : List ℕ) (secret : Option (List ℕ)) (end : HallCollected) (lines : List Line) (vs : List (Shown S)) (draws : List ℕ)
      → CollectsSo contents may_give texts faults shows us lib secret end lines vs draws → Goes contents may_give texts faults us lines vs
  by_goes us lib secret end lines vs draws (CollectsSo.nowhere away is empty same) = record { all = []; leads = same; told = empty }
  by_goes us lib secret end lines vs draws (CollectsSo.denied library u at not_may is empty same) = record { all = []; leads = same; told = empty }
  by_goes us lib secret end lines vs draws (CollectsSo.went library u at may turns v drawn ends seen drew lines_are is) =
      subst (λ (ws : List (Shown S)). Goes contents may_give texts faults us lines ws) (sym is)
      (subst (λ (ls : List Line). Goes contents may_give texts faults us ls (slice_set us library v)) (sym lines_are)
      (ends_goes contents may_give texts faults shows library us u v end turns drawn at.at ends))

  pub collects_goes : (u : HallShown S) (lib : List ℕ) (secret : Option (List ℕ)) (ends : Collected) (lines : List Line) (v : HallShown S)
      → CollectsAt contents may_give texts faults shows u lib secret ends lines v → Goes contents may_give texts faults u.libraries lines v.libraries
  collects_goes u lib secret ends lines v (end, collects, stays, is) = by_goes u.libraries lib secret end lines v.libraries v.drawn collects
