-- Keys that are noted. The key lemmas are notes_none, notes_join, noting_start, noting_more and noting_end.
use Rattle.std.proofs.Common.{◌≡◌, ◌||◌, ℕ, Bool, true, false, cond, List, [], ◌∷◌, ◌++◌, map, Option, Some, is_some, refl, sym, ap, ◌∙◌}
use Rattle.std.proofs.Math.Bool.{or-false, or_assoc}
use Rattle.std.specs.Prelude.{⊤}
use Rattle.std.specs.FinMap as fin
use Rattle.std.proofs.lemmas.Grind.{flat_map-append}
use Rattle.ids.specs.declared.key.Key.{Key}
use Rattle.ids.specs.declared.key.Kind.{Kind}
use Rattle.ids.proofs.KeyOrderLemmas.{key_cmp_total}
use Rattle.object_graph.specs.Traversal.{is_in}
use Rattle.object_graph.proofs.KeyLemmas.{in_append, same_key}
use Rattle.remote_calls.specs.Sends.{Sent}
use Rattle.sync_rules.specs.Named.{keys_lacked, lacked_by}
use Rattle.tree_push.specs.Asking.{key_of}
use Rattle.tree_push.specs.Lacking.{Keys, NotesLacked, has_key}

pub notes_none : (was : Keys) → NotesLacked was was []
notes_none was key = sym (or-false (has_key was key))

pub lacked_append : (first later : List Sent) → keys_lacked (first ++ later) ≡ keys_lacked first ++ keys_lacked later
lacked_append first later = flat_map-append (λ (sent : Sent). lacked_by sent.0.what sent.1) first later

pub notes_join : (was is then : Keys) (first later : List Sent) → NotesLacked was is first → NotesLacked is then later → NotesLacked was then (first ++ later)
notes_join was is then first later one two key =
    two key ∙ ap (λ (b : Bool). b || is_in (keys_lacked later) key) (one key) ∙ or_assoc (has_key was key) (is_in (keys_lacked first) key) (is_in (keys_lacked later) key)
    ∙ ap (λ (b : Bool). has_key was key || b) (sym (in_append (keys_lacked first) (keys_lacked later) key))
    ∙ ap (λ (keys : List Key). has_key was key || is_in keys key) (sym (lacked_append first later))

-- ---- one id after another

abbrev pub IsNoting : Kind → (ids rest : List (List ℕ)) → (was now : Keys) → Type 0
IsNoting kind ids rest was now = (key : Key) → (has_key now key || is_in (map (key_of kind) rest) key) ≡ (has_key was key || is_in (map (key_of kind) ids) key)

pub noting_start : (kind : Kind) (ids : List (List ℕ)) (was : Keys) → IsNoting kind ids ids was was
noting_start kind ids was key = refl

pub noted_one : (now new : Keys) (one key : Key) → new ≡ fin.insert now one tt → has_key new key ≡ (same_key key one || has_key now key)
noted_one now new one key more = ap (λ (m : Keys). has_key m key) more ∙ ap is_some (fin.get-insert key_cmp_total now one tt key) ∙ by (same_key key one) (fin.get now key)
  where
    by : (b : Bool) (o : Option ⊤) → is_some (cond b (Some tt) o) ≡ (b || is_some o)
    by true o = refl
    by false o = refl

pub noting_more : (kind : Kind) (ids rest : List (List ℕ)) (id : List ℕ) (was now new : Keys) → IsNoting kind ids (id ∷ rest) was now → new ≡ fin.insert now (key_of kind id) tt
    → IsNoting kind ids rest was new
noting_more kind ids rest id was now new is more key =
    ap (λ (b : Bool). b || is_in (map (key_of kind) rest) key) (noted_one now new (key_of kind id) key more)
    ∙ turned (same_key key (key_of kind id)) (has_key now key) (is_in (map (key_of kind) rest) key) ∙ is key
  where
    turned : (a b d : Bool) → ((a || b) || d) ≡ (b || (a || d))
    turned true true d = refl
    turned true false d = refl
    turned false b d = refl

pub noting_end : (kind : Kind) (ids : List (List ℕ)) (was now : Keys) → IsNoting kind ids [] was now → (key : Key) → has_key now key ≡ (has_key was key || is_in (map (key_of kind) ids) key)
noting_end kind ids was now is key = sym (or-false (has_key now key)) ∙ is key
