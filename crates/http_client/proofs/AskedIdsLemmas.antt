-- The table of the ids that were asked for. The key lemmas are knows_more and knows_nothing.
use Rattle.std.proofs.Common.{◌≡◌, ◌||◌, ℕ, ◌<◌, Bool, true, false, cond, is_some, List, [], ◌∷◌, ◌++◌, length, get_or, take, refl, sym, ap, ◌∙◌, Option, Some, ◌+◌, take-suc, add-one}
use Rattle.std.specs.Prelude.{⊤}
use Rattle.std.specs.Cmp.{Equal-is, tied_itself}
use Rattle.std.specs.FinMap as map
use Rattle.std.specs.Str.{bytes_eq}
use Rattle.std.specs.Ordering.{eq_by_cmp, is_eq}
use Rattle.std.proofs.lemmas.Bool.{false≢true}
use Rattle.std.proofs.lemmas.Slice.Eq.{bytes_eq-Decides}
use Rattle.std.proofs.Math.Bool.{or_assoc}
use Rattle.ids.specs.Key.{key_cmp}
use Rattle.ids.specs.declared.key.Key.{Key}
use Rattle.ids.proofs.BasicLemmas.{same_from_bytes_eq}
use Rattle.ids.proofs.KeyOrderLemmas.{key_cmp_exact, key_cmp_total}
use Rattle.http_client.specs.AskedIds.{KnowsIds, block_key}
use Rattle.http_client.specs.OrderOutcome.{is_among}

pub knows_nothing : (known : map.FinMap key_cmp ⊤) → known ≡ map.empty → KnowsIds [] known
knows_nothing known is id = ap (λ (m : map.FinMap key_cmp ⊤). is_some (map.get m (block_key id))) is ∙ ap is_some (map.get-empty key_cmp (block_key id))

-- two keys of the table tie where the ids are one
same_id : (a b : List ℕ) → eq_by_cmp key_cmp (block_key b) (block_key a) ≡ bytes_eq a b
same_id a b = by (eq_by_cmp key_cmp (block_key b) (block_key a)) refl (bytes_eq a b) refl
  where
    by : (s : Bool) → eq_by_cmp key_cmp (block_key b) (block_key a) ≡ s → (t : Bool) → bytes_eq a b ≡ t → s ≡ t
    by true s true t = refl
    by false s false t = refl
    by true s false t =
        let keys : block_key b ≡ block_key a = key_cmp_exact (block_key b) (block_key a) ((Equal-is (key_cmp (block_key b) (block_key a))).0 s) in
        let ids : b ≡ a = ap (λ (k : Key). k.id) keys in
        absurd (false≢true (sym t ∙ (bytes_eq-Decides a b).1 (sym ids)))
    by false s true t =
        let ids : a ≡ b = same_from_bytes_eq a b t in
        let tied : eq_by_cmp key_cmp (block_key b) (block_key b) ≡ true = ap is_eq (tied_itself key_cmp_total (block_key b)) in
        absurd (false≢true (sym s ∙ ap (λ id. eq_by_cmp key_cmp (block_key b) (block_key id)) ids ∙ tied))

among_append : (xs ys : List (List ℕ)) (id : List ℕ) → is_among (xs ++ ys) id ≡ (is_among xs id || is_among ys id)
among_append [] ys id = refl
among_append (x ∷ xs) ys id = ap (λ b. bytes_eq x id || b) (among_append xs ys id) ∙ sym (or_assoc (bytes_eq x id) (is_among xs id) (is_among ys id))

-- one id more is known
pub knows_more : (asked : List (List ℕ)) (known : map.FinMap key_cmp ⊤) (id : List ℕ) → KnowsIds asked known
    → KnowsIds (asked ++ id ∷ []) (map.insert known (block_key id) tt)
knows_more asked known id knows q =
    ap is_some (map.get-insert key_cmp_total known (block_key id) tt (block_key q))
    ∙ ap (λ b. is_some (cond b (Some tt) (map.get known (block_key q)))) (same_id id q)
    ∙ by (bytes_eq id q) (map.get known (block_key q)) (is_among asked q) (knows q)
    ∙ sym (among_append asked (id ∷ []) q)
  where
    by : (b : Bool) (o : Option ⊤) (c : Bool) → is_some o ≡ c → is_some (cond b (Some tt) o) ≡ (c || (b || false))
    by true o true is = refl
    by true o false is = refl
    by false o true is = is
    by false o false is = is

-- the ids up to a place, and the one at the place
pub next_id : (ids : List (List ℕ)) (i : ℕ) (id : List ℕ) → i < length ids → id ≡ get_or ids i id → take (i + 1) ids ≡ take i ids ++ id ∷ []
next_id ids i id within is = rw (add-one, take-suc ids i id) (ap (λ x. take i ids ++ x ∷ []) (sym is))
