-- Steps of loops: what is written, one after another, and the ids with which it was. The key lemmas are made_next, made_end, owns_next and
-- owns_end.
use Rattle.std.proofs.Common.{◌≡◌, ◌<◌, ◌≤◌, ◌+◌, ℕ, List, [], ◌∷◌, ◌++◌, length, drop, get_or, sym, ap, subst, ◌∙◌, append_assoc, append-nil}
use Rattle.ids.specs.Key.{Objects}
use Rattle.tree_walk.proofs.ReadsLemmas.{nothing_left}
use Rattle.tree_walk.proofs.StepsLemmas.{next_entry}
use Rattle.tree_checkout.specs.declared.planning.Due.{Due}
use Rattle.tree_checkout.specs.declared.steps.Write.{Write}
use Rattle.sync_daemon.specs.Bringing.{AreMade, AreOwns, IsWriteOf, left_own, node_own, with_owns}

-- what is made so far, with what is made of the rest, is all of it
abbrev pub MadeLeft : Objects → List Due → ℕ → List Write → Type 0
MadeLeft held dues i writes = (rest : List Write) → AreMade held (drop i dues) rest → AreMade held dues (writes ++ rest)

pub made_begins : (held : Objects) (dues : List Due) (writes : List Write) → writes ≡ [] → MadeLeft held dues 0 writes
made_begins held dues writes none rest made = subst (λ (w : List Write). AreMade held dues (w ++ rest)) (sym none) made

pub made_next : (held : Objects) (dues : List Due) (i : ℕ) (d : Due) (writes : List Write) (w : Write) → i < length dues → d ≡ get_or dues i d → IsWriteOf held d w → MadeLeft held dues i writes
    → MadeLeft held dues (i + 1) (writes ++ w ∷ [])
made_next held dues i d writes w within is one left rest made =
    subst (AreMade held dues) (sym (append_assoc writes (w ∷ []) rest))
    (left (w ∷ rest) (subst (λ (ds : List Due). AreMade held ds (w ∷ rest)) (sym (next_entry dues i d within is)) (one, made)))

pub made_end : (held : Objects) (dues : List Due) (i : ℕ) (writes : List Write) → length dues ≤ i → MadeLeft held dues i writes → AreMade held dues writes
made_end held dues i writes past left =
    subst (AreMade held dues) (append-nil writes) (left [] (subst (λ (ds : List Due). AreMade held ds []) (sym (nothing_left dues i past)) tt))

-- ids kept so far, with those of the rest, are all
pub owns_next : (whole now new : AreOwns) (writes : List Write) (i : ℕ) (w : Write) (left rest : List (List ℕ)) → i < length writes → w ≡ get_or writes i w
    → with_owns now (drop i writes) left ≡ whole → new ≡ node_own now w.path w.node left → rest ≡ left_own w.node left → with_owns new (drop (i + 1) writes) rest ≡ whole
owns_next whole now new writes i w left rest within is so kept ends =
    (λ j. with_owns (kept j) (drop (i + 1) writes) (ends j)) ∙ ap (λ (ws : List Write). with_owns now ws left) (sym (next_entry writes i w within is)) ∙ so

pub owns_end : (whole now : AreOwns) (writes : List Write) (i : ℕ) (left : List (List ℕ)) → length writes ≤ i → with_owns now (drop i writes) left ≡ whole → now ≡ whole
owns_end whole now writes i left past so = ap (λ (ws : List Write). with_owns now ws left) (sym (nothing_left writes i past)) ∙ so
