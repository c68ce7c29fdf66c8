-- Keys that are taken out of candidates, one after another. The key lemmas are out_none and out_next.
use Rattle.std.proofs.Common.{◌≡◌, ◌+◌, ◌<◌, ◌&&◌, ◌||◌, ℕ, Bool, true, false, cond, not, is_some, List, [], ◌∷◌, ◌++◌, length, take, get_or, Option, None, refl, sym, ap, ◌∙◌}
use Rattle.std.specs.Prelude.{⊤}
use Rattle.std.specs.FinMap as map
use Rattle.std.proofs.lemmas.List.{take_more}
use Rattle.ids.specs.declared.key.Key.{Key}
use Rattle.ids.proofs.KeyOrderLemmas.{key_cmp_total}
use Rattle.object_graph.specs.Traversal.{is_in}
use Rattle.object_graph.proofs.KeyLemmas.{in_append, same_key}
use Rattle.collector.specs.Marks.{Candidates}
use Rattle.collector.specs.Sweeping.{is_listed}

and_true : (b : Bool) → b ≡ (b && true)
and_true true = refl
and_true false = refl

out_one : (s : Bool) (o : Option ⊤) (b : Bool) (c : Bool) → is_some o ≡ (b && not c) → is_some (cond s None o) ≡ (b && not (c || (s || false)))
out_one true o true true e = refl
out_one true o true false e = refl
out_one true o false c e = refl
out_one false o b true e = e
out_one false o b false e = e

pub out_none : (candidates : Candidates) (key : Key) → is_listed candidates key ≡ (is_listed candidates key && not (is_in [] key))
out_none candidates key = and_true (is_listed candidates key)

-- one key more is taken out
pub out_next : (first before after : Candidates) (keys : List Key) (i : ℕ) (key : Key) → i < length keys → key ≡ get_or keys i key → after ≡ map.remove before key
    → ((q : Key) → is_listed before q ≡ (is_listed first q && not (is_in (take i keys) q)))
    → (q : Key) → is_listed after q ≡ (is_listed first q && not (is_in (take (i + 1) keys) q))
out_next first before after keys i key more is gone so_far q =
    ap is_some (ap (λ (c : Candidates). map.get c q) gone ∙ map.get-remove key_cmp_total before key q)
    ∙ out_one (same_key q key) (map.get before q) (is_listed first q) (is_in (take i keys) q) (so_far q)
    ∙ ap (λ (b : Bool). is_listed first q && not b)
    (sym (ap (λ (ks : List Key). is_in ks q) (take_more keys i key more ∙ ap (λ (k : Key). take i keys ++ k ∷ []) (sym is)) ∙ in_append (take i keys) (key ∷ []) q))
