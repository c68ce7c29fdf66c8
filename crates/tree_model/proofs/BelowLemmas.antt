-- Paths below a directory. The key lemmas are under_is, within_is and dir_above.
use Rattle.std.proofs.Common.{◌≡◌, ◌≢◌, ℕ, ◌&&◌, true, List, [], ◌∷◌, ◌++◌, nat_eq, refl, sym, ap, ◌∙◌, subst, append_assoc, Option, Some, None, IsSome, suc, ◌-◌, ◌==◌, length, take, arith, eqb-true}
use Rattle.std.specs.Cmp.Lexicographic.{pointwise, bytes_decides}
use Rattle.std.specs.FinMap as map
use Rattle.tree_model.specs.declared.node.Node.{Node}
use Rattle.std.specs.List.{AllByRecursion}
use Rattle.ids.proofs.BasicLemmas.{pushed_is_some}
use Rattle.std.proofs.lemmas.Bool.{and_parts}
use Rattle.tree_model.specs.Name.{IsName}
use Rattle.tree_model.specs.Path.{PathV, IsPath, parent_of, last_name}
use Rattle.tree_model.specs.Tree.{Tree, IsTree, has_dir, is_dir}
use Rattle.tree_model.specs.DirectorySurvival.{is_within, is_under}

pub name_itself : (n : List ℕ) → pointwise nat_eq n n ≡ true
name_itself n = (bytes_decides n n).1 refl

pub within_is : (d q : PathV) → is_within d q ≡ true → (r : PathV) × (q ≡ d ++ r)
within_is [] q e = (q, refl)
within_is (n ∷ d) [] e = cc
within_is (n ∷ d) (m ∷ q) e =
    let parts = and_parts (pointwise nat_eq n m) (is_within d q) e in
    let below = within_is d q parts.1 in
    (below.0, λ i. sym ((bytes_decides n m).0 parts.0) i ∷ below.1 i)

pub within_of : (d r : PathV) → is_within d (d ++ r) ≡ true
within_of [] r = refl
within_of (n ∷ d) r = ap (λ b. b && is_within d (d ++ r)) (name_itself n) ∙ within_of d r

pub record IsBelow (d q : PathV) : Type 0 where
  pub name : List ℕ
  pub rest : PathV
  pub is : q ≡ d ++ name ∷ rest

pub under_is : (d q : PathV) → is_under d q ≡ true → IsBelow d q
under_is [] [] e = cc
under_is [] (m ∷ q) e = record { name = m; rest = q; is = refl }
under_is (n ∷ d) [] e = cc
under_is (n ∷ d) (m ∷ q) e =
    let parts = and_parts (pointwise nat_eq n m) (is_under d q) e in
    let below = under_is d q parts.1 in
    record { name = below.name; rest = below.rest; is = λ i. sym ((bytes_decides n m).0 parts.0) i ∷ below.is i }

pub under_of : (d : PathV) (n : List ℕ) (r : PathV) → is_under d (d ++ n ∷ r) ≡ true
under_of [] n r = refl
under_of (m ∷ d) n r = ap (λ b. b && is_under d (d ++ n ∷ r)) (name_itself m) ∙ under_of d n r

-- what is within, from below
pub within_under : (d q r : PathV) → is_under d q ≡ true → is_within q r ≡ true → is_under d r ≡ true
within_under d q r under within =
    let below = under_is d q under in
    let rest = within_is q r within in
    let whole : r ≡ d ++ below.name ∷ (below.rest ++ rest.0) =
    rest.1 ∙ ap (λ p. p ++ rest.0) below.is ∙ append_assoc d (below.name ∷ below.rest) rest.0 in
    subst (λ p. is_under d p ≡ true) (sym whole) (under_of d below.name (below.rest ++ rest.0))

pub under_within : (d r : PathV) → is_under d r ≡ true → is_within d r ≡ true
under_within d r under =
    let below = under_is d r under in
    subst (λ p. is_within d p ≡ true) (sym below.is) (within_of d (below.name ∷ below.rest))

pub under_under : (d q r : PathV) → is_under d q ≡ true → is_under q r ≡ true → is_under d r ≡ true
under_under d q r one two = within_under d q r one (under_within q r two)

pub some_of_dir : (o : Option Node) → is_dir o ≡ true → IsSome o
some_of_dir None e = cc
some_of_dir (Some node) e = refl

-- what has a path below it is a directory
pub dir_above_by : (t : Tree) → IsTree t → (d : PathV) (n : List ℕ) (r : PathV) → d ≢ [] → IsSome (map.get t (d ++ n ∷ r)) → has_dir t d ≡ true
dir_above_by t tree d n [] other there = tree.in_dirs d n other there
dir_above_by t tree d n (m ∷ r) other there =
    let split : (d ++ n ∷ []) ++ m ∷ r ≡ d ++ n ∷ m ∷ r = append_assoc d (n ∷ []) (m ∷ r) in
    let next : has_dir t (d ++ n ∷ []) ≡ true =
    dir_above_by t tree (d ++ n ∷ []) m r (pushed_is_some d n) (subst (λ p. IsSome (map.get t p)) (sym split) there) in
    tree.in_dirs d n other (some_of_dir (map.get t (d ++ n ∷ [])) next)

pub dir_above : (t : Tree) → IsTree t → (d q : PathV) → d ≢ [] → is_under d q ≡ true → IsSome (map.get t q) → has_dir t d ≡ true
dir_above t tree d q other under there =
    let below = under_is d q under in
    dir_above_by t tree d below.name below.rest other (subst (λ p. IsSome (map.get t p)) below.is there)

-- a path is its directory's with its last name
pub parent_last : (p : PathV) → p ≢ [] → p ≡ parent_of p ++ last_name p ∷ []
parent_last [] other = absurd (other refl)
parent_last (n ∷ []) other = refl
parent_last (n ∷ m ∷ p) other = ap (λ q. n ∷ q) (parent_last (m ∷ p) (λ e. cc))

pub parent_push : (d : PathV) (n : List ℕ) → parent_of (d ++ n ∷ []) ≡ d
parent_push [] n = refl
parent_push (m ∷ []) n = refl
parent_push (m ∷ k ∷ d) n = ap (λ q. m ∷ q) (parent_push (k ∷ d) n)

pub last_push : (d : PathV) (n : List ℕ) → last_name (d ++ n ∷ []) ≡ n
last_push [] n = refl
last_push (m ∷ []) n = refl
last_push (m ∷ k ∷ d) n = last_push (k ∷ d) n

pub parent_empty : (p : PathV) → (length p == 0) ≡ true → p ≡ parent_of p
parent_empty [] e = refl
parent_empty (n ∷ p) e = let none : suc (length p) ≡ 0 = eqb-true (suc (length p)) 0 e in absurd (omega arith)

pub parent_take : (p : PathV) → take (length p - 1) p ≡ parent_of p
parent_take [] = refl
parent_take (n ∷ []) = refl
parent_take (n ∷ m ∷ p) =
    let one : suc (suc (length p)) - 1 ≡ suc (length p) = omega arith in
    let two : length p ≡ suc (length p) - 1 = omega arith in
    ap (λ k. take k (n ∷ m ∷ p)) one ∙ ap (λ k. n ∷ take k (m ∷ p)) two ∙ ap (λ q. n ∷ q) (parent_take (m ∷ p))

all_parent : (p : PathV) → AllByRecursion IsName p → AllByRecursion IsName (parent_of p)
all_parent [] h = tt
all_parent (n ∷ []) h = tt
all_parent (n ∷ m ∷ p) h = (h.0, all_parent (m ∷ p) h.1)

pub IsPath-parent : (p : PathV) → IsPath p → IsPath (parent_of p)
IsPath-parent p h = record { named = all_parent p h.named }
