-- Copies that are told behind a directory. The key lemmas are copies_told, over_popped and over_empty.
use Rattle.std.proofs.Common.{◌≡◌, ◌&&◌, Bool, true, false, cond, if◌then◌else◌, [], ◌∷◌, ◌++◌, refl, sym, ap, ap₂, ◌∙◌, append-nil, Option, None, Some, option_map, true≢false}
use Rattle.std.specs.FinMap as map
use Rattle.std.specs.Option.{option_or}
use Rattle.tree_model.specs.Path.{PathV, path_cmp}
use Rattle.tree_model.specs.DirectorySurvival.{is_under, is_within}
use Rattle.tree_model.specs.MergeParts.{beyond}
use Rattle.tree_model.proofs.BehindLemmas.{beyond_behind}
use Rattle.tree_model.proofs.BelowLemmas.{name_itself, under_of, under_within, within_is, within_of}
use Rattle.tree_model.proofs.ListedLemmas.{same_path, same_path-itself, same_path-true}
use Rattle.tree_merge.specs.ConflictNaming.{Places}
use Rattle.tree_merge.specs.WorkSoFar.{copies_behind, copies_over}
use Rattle.tree_merge.proofs.DoneNameLemmas.{told_below}
use Rattle.tree_merge.proofs.TableLemmas.{get-popped, get-put}

-- what is told at or below a directory is told below it, if nothing is told of the directory itself
pub copies_told : (d : PathV) (f : PathV → Option PathV) → f [] ≡ None → (q : PathV) → copies_behind d f q ≡ told_below d (λ r. option_map (λ p. d ++ p) (f r)) q
copies_told d f root q = by (is_within d q) refl
  where
    moved : PathV → Option PathV
    moved r = option_map (λ p. d ++ p) (f r)

    no_under : (p : PathV) → is_under p p ≡ false
    no_under [] = refl
    no_under (k ∷ p) = ap (λ b. b && is_under p p) (name_itself k) ∙ no_under p

    out : is_within d q ≡ false → (b : Bool) → is_under d q ≡ b → is_under d q ≡ false
    out apart false is = is
    out apart true is = absurd (true≢false (sym (under_within d q is) ∙ apart))

    at : (r : PathV) → q ≡ d ++ r → moved (beyond d q) ≡ (if is_under d q then moved (beyond d q) else None)
    at [] is =
        ap moved (ap (beyond d) is ∙ beyond_behind d []) ∙ ap (option_map (λ p. d ++ p)) root
        ∙ sym (ap (λ (b : Bool). if b then moved (beyond d q) else None) (ap (is_under d) (is ∙ append-nil d) ∙ no_under d))
    at (k ∷ r) is = sym (ap (λ (b : Bool). if b then moved (beyond d q) else None) (ap (is_under d) is ∙ under_of d k r))

    by : (b : Bool) → is_within d q ≡ b → (if is_within d q then moved (beyond d q) else None) ≡ (if is_under d q then moved (beyond d q) else None)
    by true is = ap (λ (b : Bool). if b then moved (beyond d q) else None) is ∙ (let rest = within_is d q is in at rest.0 rest.1)
    by false is =
        ap (λ (b : Bool). if b then moved (beyond d q) else None) is
        ∙ sym (ap (λ (b : Bool). if b then moved (beyond d q) else None) (out is (is_under d q) refl))

-- ---- copies that are told one by one

-- one of them was told: what is to be told at each path is the same
pub over_popped : (d : PathV) (rest after told next : Places) (left place : PathV) → map.get rest left ≡ Some place → after ≡ map.remove rest left → next ≡ map.insert told (d ++ left) (d ++ place)
    → (q : PathV) → copies_over d after next q ≡ copies_over d rest told q
over_popped d rest after told next left place there taken put q = by (is_within d q) refl
  where
    behind : (Places) → Option PathV
    behind m = option_map (λ p. d ++ p) (map.get m (beyond d q))

    next_at : map.get next q ≡ cond (same_path q (d ++ left)) (Some (d ++ place)) (map.get told q)
    next_at = ap (λ (m : Places). map.get m q) put ∙ get-put told (d ++ left) (d ++ place) q

    after_at : map.get after (beyond d q) ≡ cond (same_path (beyond d q) left) None (map.get rest (beyond d q))
    after_at = get-popped rest after (left, place) taken (beyond d q)

    -- at another path nothing changes
    other : (r : PathV) → q ≡ d ++ r → same_path q (d ++ left) ≡ false → (b : Bool) → same_path (beyond d q) left ≡ b → behind after ≡ behind rest
    other r is apart false off = ap (option_map (λ p. d ++ p)) (after_at ∙ ap (λ (b : Bool). cond b None (map.get rest (beyond d q))) off)
    other r is apart true tie =
        let own : r ≡ left = sym (ap (beyond d) is ∙ beyond_behind d r) ∙ same_path-true (beyond d q) left tie in
        absurd (true≢false (sym (ap (λ p. same_path p (d ++ left)) (is ∙ ap (λ p. d ++ p) own) ∙ same_path-itself (d ++ left)) ∙ apart))

    within : (r : PathV) → q ≡ d ++ r → (b : Bool) → same_path q (d ++ left) ≡ b → option_or (behind after) (map.get next q) ≡ option_or (behind rest) (map.get told q)
    within r is true tie =
        let here : q ≡ d ++ left = same_path-true q (d ++ left) tie in
        let beyond_is : beyond d q ≡ left = ap (beyond d) here ∙ beyond_behind d left in
        let gone : behind after ≡ None = ap (option_map (λ p. d ++ p)) (after_at ∙ ap (λ (b : Bool). cond b None (map.get rest (beyond d q))) (ap (λ p. same_path p left) beyond_is ∙ same_path-itself left)) in
        let stood : behind rest ≡ Some (d ++ place) = ap (λ r. option_map (λ p. d ++ p) (map.get rest r)) beyond_is ∙ ap (option_map (λ p. d ++ p)) there in
        ap₂ option_or gone (next_at ∙ ap (λ (b : Bool). cond b (Some (d ++ place)) (map.get told q)) tie) ∙ sym (ap (λ (o : Option PathV). option_or o (map.get told q)) stood)
    within r is false apart =
        ap₂ option_or (other r is apart (same_path (beyond d q) left) refl) (next_at ∙ ap (λ (b : Bool). cond b (Some (d ++ place)) (map.get told q)) apart)

    by : (b : Bool) → is_within d q ≡ b → option_or (if is_within d q then behind after else None) (map.get next q) ≡ option_or (if is_within d q then behind rest else None) (map.get told q)
    by true is =
        let rest_of = within_is d q is in
        ap (λ (b : Bool). option_or (if b then behind after else None) (map.get next q)) is ∙ within rest_of.0 rest_of.1 (same_path q (d ++ left)) refl
        ∙ sym (ap (λ (b : Bool). option_or (if b then behind rest else None) (map.get told q)) is)
    by false is =
        ap (λ (b : Bool). option_or (if b then behind after else None) (map.get next q)) is
        ∙ next_at ∙ ap (λ (b : Bool). cond b (Some (d ++ place)) (map.get told q)) (apart (same_path q (d ++ left)) refl)
        ∙ sym (ap (λ (b : Bool). option_or (if b then behind rest else None) (map.get told q)) is)
      where
        apart : (b : Bool) → same_path q (d ++ left) ≡ b → same_path q (d ++ left) ≡ false
        apart false off = off
        apart true tie = absurd (true≢false (sym (ap (is_within d) (same_path-true q (d ++ left) tie) ∙ within_of d left) ∙ is))

-- all were told
pub over_empty : (d : PathV) (rest told : Places) → rest ≡ map.empty → (q : PathV) → copies_over d rest told q ≡ map.get told q
over_empty d rest told none q = by (is_within d q)
  where
    by : (b : Bool) → option_or (if b then option_map (λ p. d ++ p) (map.get rest (beyond d q)) else None) (map.get told q) ≡ map.get told q
    by true = ap (λ (o : Option PathV). option_or (option_map (λ p. d ++ p) o) (map.get told q)) (ap (λ (m : Places). map.get m (beyond d q)) none ∙ map.get-empty path_cmp (beyond d q))
    by false = refl
