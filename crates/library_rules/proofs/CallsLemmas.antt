-- What a call is due, as one list of cases. The key lemmas are update_due-is and put_due-is.
use Rattle.std.proofs.Common.{◌≡◌, ℕ, nat_lt, Bool, true, false, ◌||◌, if◌then◌else◌, List, [], ◌∷◌, ◌++◌, refl, Option, None, Some}
use Rattle.std.specs.Prelude.{option_map}
use Rattle.std.specs.Bool.{then_some}
use Rattle.std.specs.FinMap as map
use Rattle.ids.specs.declared.key.Key.{Key}
use Rattle.library_state.specs.declared.refusal.Refusal.{Refusal}
use Rattle.library_state.specs.declared.refusal.Refusal.TheVariants as refusal
use Rattle.library_state.specs.declared.reply.Reply.{Reply}
use Rattle.library_state.specs.declared.reply.Reply.TheVariants as reply
use Rattle.library_state.specs.declared.token.Token.{Token}
use Rattle.object_graph.specs.Objects.{is_nil}
use Rattle.library_rules.specs.Calls.{Due, Says, Stores, base_due, by_state, first_refusal, other_bytes, put_due, put_refusals, said_by, update_due}
use Rattle.library_rules.specs.LibraryState.{State, head_of, is_kept, is_stored}
use Rattle.library_rules.specs.MergeBase.{base_of}

-- what the state decides is said first
pub said_due : (o : Option Reply) (r : Reply) → by_state o (Says r) ≡ Says (said_by o r)
said_due (Some said) r = refl
said_due None r = refl

module _ (s : State) where
  -- ---- updates

  -- an update of a kept commit, a stale one, and any other
  abbrev pub update_cases : Token → List ℕ → Due
  update_cases token pushed =
      if is_kept s.state.kept pushed then Says (reply.Updated (head_of s.state.kept))
      else if nat_lt token.last s.state.collection then Says (reply.Refused (refusal.Stale token.last s.state.collection))
      else base_due s token.user pushed (base_of s pushed)

  pub update_due-is : (token : Token) (pushed : List ℕ) → update_due s token pushed ≡ update_cases token pushed
  update_due-is token pushed = by (is_kept s.state.kept pushed) (nat_lt token.last s.state.collection)
    where
      by : (kept stale : Bool)
          → by_state (if kept then Some (reply.Updated (head_of s.state.kept)) else if stale then Some (reply.Refused (refusal.Stale token.last s.state.collection)) else None)
          (base_due s token.user pushed (base_of s pushed))
          ≡ (if kept then Says (reply.Updated (head_of s.state.kept)) else if stale then Says (reply.Refused (refusal.Stale token.last s.state.collection))
          else base_due s token.user pushed (base_of s pushed))
      by true stale = refl
      by false true = refl
      by false false = refl

  -- ---- puts

  -- other bytes are stored under the key, or it has forty zeros
  abbrev pub taken : Key → List ℕ → Option Refusal
  taken key bytes = then_some (is_nil key.id || other_bytes (map.get s.objects key) bytes) (refusal.Taken key.id)

  -- an object that isn't refused is stored, or was stored already
  abbrev pub put_by : Key → List ℕ → Option Refusal → Due
  put_by key bytes (Some why) = Says (reply.Refused why)
  put_by key bytes None = if is_stored s.objects key then Says (reply.Stored false) else Stores (record { key = key; bytes = bytes })

  -- the objects decide after all refusals of the state
  pub put_after : (key : Key) (bytes : List ℕ) (zeros other : Bool) (whys : List (Option Refusal))
      → by_state (option_map reply.Refused (first_refusal (whys ++ then_some zeros (refusal.Taken key.id) ∷ [])))
      (if other then Says (reply.Refused (refusal.Taken key.id)) else if is_stored s.objects key then Says (reply.Stored false) else Stores (record { key = key; bytes = bytes }))
      ≡ put_by key bytes (first_refusal (whys ++ then_some (zeros || other) (refusal.Taken key.id) ∷ []))
  put_after key bytes true other [] = refl
  put_after key bytes false true [] = refl
  put_after key bytes false false [] = refl
  put_after key bytes zeros other (None ∷ whys) = put_after key bytes zeros other whys
  put_after key bytes zeros other (Some why ∷ whys) = refl

  pub put_due-is : (key : Key) (bytes : List ℕ) → put_due s key bytes ≡ put_by key bytes (first_refusal (put_refusals s.state.lib key.kind key bytes ++ taken key bytes ∷ []))
  put_due-is key bytes = put_after key bytes (is_nil key.id) (other_bytes (map.get s.objects key) bytes) (put_refusals s.state.lib key.kind key bytes)
