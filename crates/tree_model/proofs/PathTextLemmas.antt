-- Texts of paths: how a text grows by a name, and that texts are ordered as their paths.
-- The key lemmas are path_text-push and path_cmp-text.
use Rattle.std.proofs.Common.{◌≡◌, ℕ, ◌+◌, ◌<◌, ◌≢◌, Bool, true, false, if◌then◌else◌, List, [], ◌∷◌, ◌++◌, length, take, get_or, nat_lt, refl, sym, ap, ap₂, ◌∙◌, subst, append_assoc, append-nil, nat_cmp, Less, Equal, Greater, Ordering, arith, lt-ltb}
use Rattle.std.proofs.lemmas.List.{take_more, length-take-le}
use Rattle.std.specs.List.{AllByRecursion, concat}
use Rattle.std.specs.Ordering.{ordering_then}
use Rattle.std.specs.Cmp.{tied_itself}
use Rattle.std.specs.Cmp.Lexicographic.{slice_cmp, nat_list_cmp_total}
use Rattle.std.specs.FinMap.{nat_cmp-IsAntisymmetric}
use Rattle.tree_model.specs.Name.{IsName}
use Rattle.tree_model.specs.Path.{PathV, IsPath, path_text, slashed, has_more, segments, path_cmp}
use Rattle.tree_model.specs.PathOrder.{paths_exact}
use Rattle.tree_model.proofs.NameLemmas.{IsName-some, IsName-no_slash}

-- a name as it follows others in a text
abbrev pub behind : Bool → List ℕ → List ℕ
behind follows name = if follows then 47 ∷ name else name

pub path_text-push : (p : PathV) (name : List ℕ) → path_text (p ++ name ∷ []) ≡ path_text p ++ behind (has_more p) name
path_text-push [] name = refl
path_text-push (x ∷ []) name = refl
path_text-push (x ∷ y ∷ p) name =
    ap (λ rest. x ++ 47 ∷ rest) (path_text-push (y ∷ p) name) ∙ sym (append_assoc x (47 ∷ path_text (y ∷ p)) (47 ∷ name))

has_more-length : (p : PathV) → has_more p ≡ nat_lt 0 (length p)
has_more-length [] = refl
has_more-length (x ∷ p) = sym (lt-ltb 0 (length (x ∷ p)) (omega arith))

-- one turn of a loop over the names
pub path_text-take : (names : PathV) (place : ℕ) (name bytes : List ℕ) → place < length names → name ≡ get_or names place name
    → bytes ≡ path_text (take place names) → bytes ++ behind (nat_lt 0 place) name ≡ path_text (take (place + 1) names)
path_text-take names place name bytes below is so_far =
    let front : PathV = take place names in
    let long : length front ≡ place = length-take-le place names (omega arith) in
    let test : has_more front ≡ nat_lt 0 place = has_more-length front ∙ ap (nat_lt 0) long in
    let more : take (place + 1) names ≡ front ++ name ∷ [] = take_more names place name below ∙ ap (λ n. front ++ n ∷ []) (sym is) in
    ap₂ (λ (bs : List ℕ) (b : Bool). bs ++ behind b name) so_far (sym test) ∙ sym (path_text-push front name) ∙ ap path_text (sym more)

-- ---- the order of texts

-- a list that is empty unless the flag is set: what may stand behind a piece
abbrev pub EmptyUnless : Bool → List ℕ → Type 0
EmptyUnless more rest = more ≡ false → rest ≡ []

abbrev HasNoSlash : List ℕ → Type 0
HasNoSlash name = AllByRecursion (λ b. b ≢ 47) name

then_assoc : (r s t : Ordering) → ordering_then r (ordering_then s t) ≡ ordering_then (ordering_then r s) t
then_assoc Less s t = refl
then_assoc Equal s t = refl
then_assoc Greater s t = refl

-- where two bytes differ, what stands behind them isn't looked at
apart : (x y : ℕ) (o p : Ordering) → x ≢ y → ordering_then (nat_cmp x y) o ≡ ordering_then (nat_cmp x y) p
apart x y o p differ = by (nat_cmp x y) refl
  where
    by : (r : Ordering) → nat_cmp x y ≡ r → ordering_then r o ≡ ordering_then r p
    by Less is = refl
    by Equal is = absurd (differ (nat_cmp-IsAntisymmetric x y is))
    by Greater is = refl

-- two pieces with texts behind them compare as the pieces, and then as the texts
pub pieces_first : (x y : List ℕ) (m n : Bool) (u v : List ℕ) → HasNoSlash x → HasNoSlash y → EmptyUnless m u → EmptyUnless n v
    → slice_cmp nat_cmp (slashed x m ++ u) (slashed y n ++ v) ≡ ordering_then (slice_cmp nat_cmp (slashed x m) (slashed y n)) (slice_cmp nat_cmp u v)
pieces_first [] [] true true u v p q h k = refl
pieces_first [] [] true false u v p q h k = subst (λ w. slice_cmp nat_cmp (47 ∷ u) w ≡ Greater) (sym (k refl)) refl
pieces_first [] [] false true u v p q h k = subst (λ w. slice_cmp nat_cmp w (47 ∷ v) ≡ Less) (sym (h refl)) refl
pieces_first [] [] false false u v p q h k = refl
pieces_first (a ∷ x) [] m true u v p q h k =
    apart a 47 (slice_cmp nat_cmp (slashed x m ++ u) v) (ordering_then (slice_cmp nat_cmp (slashed x m) []) (slice_cmp nat_cmp u v)) p.0
    ∙ then_assoc (nat_cmp a 47) (slice_cmp nat_cmp (slashed x m) []) (slice_cmp nat_cmp u v)
pieces_first (a ∷ x) [] m false u v p q h k = subst (λ w. slice_cmp nat_cmp (a ∷ (slashed x m ++ u)) w ≡ Greater) (sym (k refl)) refl
pieces_first [] (b ∷ y) true n u v p q h k =
    apart 47 b (slice_cmp nat_cmp u (slashed y n ++ v)) (ordering_then (slice_cmp nat_cmp [] (slashed y n)) (slice_cmp nat_cmp u v)) (λ e. q.0 (sym e))
    ∙ then_assoc (nat_cmp 47 b) (slice_cmp nat_cmp [] (slashed y n)) (slice_cmp nat_cmp u v)
pieces_first [] (b ∷ y) false n u v p q h k = subst (λ w. slice_cmp nat_cmp w (b ∷ (slashed y n ++ v)) ≡ Less) (sym (h refl)) refl
pieces_first (a ∷ x) (b ∷ y) m n u v p q h k =
    ap (ordering_then (nat_cmp a b)) (pieces_first x y m n u v p.1 q.1 h k)
    ∙ then_assoc (nat_cmp a b) (slice_cmp nat_cmp (slashed x m) (slashed y n)) (slice_cmp nat_cmp u v)

no_more : (p : PathV) → EmptyUnless (has_more p) (concat (segments p))
no_more [] e = refl
no_more (x ∷ p) e = cc

-- a name with a byte, and without a slash
abbrev IsPiece : List ℕ → Type 0
IsPiece name = (name ≢ []) × HasNoSlash name

none_before : (name : List ℕ) (m : Bool) (rest : List ℕ) → name ≢ [] → Less ≡ slice_cmp nat_cmp [] (slashed name m ++ rest)
none_before [] m rest some = absurd (some refl)
none_before (b ∷ name) m rest some = refl

none_behind : (name : List ℕ) (m : Bool) (rest : List ℕ) → name ≢ [] → Greater ≡ slice_cmp nat_cmp (slashed name m ++ rest) []
none_behind [] m rest some = absurd (some refl)
none_behind (b ∷ name) m rest some = refl

concat_order : (p q : PathV) → AllByRecursion IsPiece p → AllByRecursion IsPiece q
    → path_cmp p q ≡ slice_cmp nat_cmp (concat (segments p)) (concat (segments q))
concat_order [] [] h k = refl
concat_order [] (y ∷ q) h k = none_before y (has_more q) (concat (segments q)) k.0.0
concat_order (x ∷ p) [] h k = none_behind x (has_more p) (concat (segments p)) h.0.0
concat_order (x ∷ p) (y ∷ q) h k =
    ap (ordering_then (slice_cmp nat_cmp (slashed x (has_more p)) (slashed y (has_more q)))) (concat_order p q h.1 k.1)
    ∙ sym (pieces_first x y (has_more p) (has_more q) (concat (segments p)) (concat (segments q)) h.0.1 k.0.1 (no_more p) (no_more q))

path_text-segments : (p : PathV) → path_text p ≡ concat (segments p)
path_text-segments [] = refl
path_text-segments (x ∷ []) = sym (append-nil (x ++ []) ∙ append-nil x)
path_text-segments (x ∷ y ∷ p) = ap (λ rest. x ++ 47 ∷ rest) (path_text-segments (y ∷ p)) ∙ sym (append_assoc x (47 ∷ []) (concat (segments (y ∷ p))))

pieces : (p : PathV) → AllByRecursion IsName p → AllByRecursion IsPiece p
pieces [] h = tt
pieces (x ∷ p) h = ((IsName-some x h.0, IsName-no_slash x h.0), pieces p h.1)

-- paths stand in the byte order of their texts
pub path_cmp-text : (p q : PathV) → IsPath p → IsPath q → path_cmp p q ≡ slice_cmp nat_cmp (path_text p) (path_text q)
path_cmp-text p q h k =
    concat_order p q (pieces p h.named) (pieces q k.named)
    ∙ sym (ap₂ (slice_cmp nat_cmp) (path_text-segments p) (path_text-segments q))

-- and two paths have two texts
pub path_text-apart : (p q : PathV) → IsPath p → IsPath q → path_text p ≡ path_text q → p ≡ q
path_text-apart p q h k e =
    paths_exact p q (path_cmp-text p q h k ∙ ap (slice_cmp nat_cmp (path_text p)) (sym e) ∙ tied_itself nat_list_cmp_total (path_text p))
