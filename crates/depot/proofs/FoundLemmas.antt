-- The reply to a get, by what the store answers to it. The key lemmas are found_said, found_may, found_damage, found_counts and
-- judged_as.
use Rattle.std.proofs.Common.{◌≡◌, inl, inr, ℕ, ◌≤◌, Bool, true, false, if◌then◌else◌, List, Option, None, Some, Result, Ok, Err, is_some, ap, refl, subst, sym}
use Rattle.std.specs.Prelude.{IfErr, IfOk}
use Rattle.std.specs.Bool.{MatchBool}
use Rattle.std.specs.FinMap as map
use Rattle.sha1.specs.Sha1.{sha1}
use Rattle.ids.specs.FaultCount.{Rose}
use Rattle.ids.specs.Key.{Objects}
use Rattle.ids.specs.Outcome.{RefusesAs}
use Rattle.ids.specs.declared.key.Key.{Key}
use Rattle.library_rules.specs.Calls.{got}
use Rattle.library_state.specs.declared.reply.Reply.TheVariants as reply
use Rattle.object_store.specs.Store.{CountsShelf, IsGetFault, IsOfStored, IsWhole, damage_at, has_other_name, is_free, judged_found}
use Rattle.object_store.specs.StoreView.{Index}
use Rattle.object_store.specs.declared.error.StoreFault.{StoreFault}
use Rattle.object_store.specs.declared.error.StoreFault.TheVariants.{Damaged}
use Rattle.object_store.specs.declared.shelf.Slot.{Slot}
use Rattle.depot.specs.Answering.{MayGet}
use Rattle.depot.specs.ObjectCalls.{Counts, IsToldDamage, SaysOr}
use Rattle.depot.specs.Refusals.{store_refusal}
use Rattle.depot.specs.Unjudged.{judged_bytes, reply_found}
use Rattle.depot.proofs.ObjectCallLemmas.{get_damage, get_fault, get_may}
use Rattle.depot.proofs.RefusalsLemmas.{counted_same}

-- bytes are judged as the store judges them
pub judged_as : (key : Key) (bytes : List ℕ) → judged_bytes key bytes ≡ reply_found key (judged_found key (Ok (Some bytes)))
judged_as key bytes = by (has_other_name key bytes)
  where
    by : (b : Bool) → (if b then reply.Refused (store_refusal (Damaged key.id (Some (sha1 bytes)))) else reply.Got bytes)
        ≡ reply_found key (if b then Err (Damaged key.id (Some (sha1 bytes))) else Ok (Some bytes))
    by true = refl
    by false = refl

pub found_said : (objects : Objects) (key : Key) (r : Result (Option (List ℕ)) StoreFault) → IfOk r (λ found. found ≡ map.get objects key) → RefusesAs is_free r (damage_at objects key)
    → SaysOr objects (got key (map.get objects key)) (reply_found key r)
found_said objects key (Ok None) found refused = inl (ap (got key) found)
found_said objects key (Ok (Some bytes)) found refused = inl (ap (got key) found)
found_said objects key (Err fault) found refused = inr (get_fault objects key fault refused)

pub found_may : (index : Index) (may_give : Slot → Option (List ℕ) → Type 0) (key : Key) (r : Result (Option (List ℕ)) StoreFault)
    → IfOk r (λ found. is_some found ≡ is_some (map.get index key)) → IfOk r (IsWhole may_give key) → IfErr r (IsGetFault may_give key) → IfErr r (IsOfStored (map.get index key) key)
    → MayGet index may_give key (reply_found key r)
found_may index may_give key (Ok None) told whole fault stored = (refl, sym told)
found_may index may_give key (Ok (Some bytes)) told whole fault stored = (sym told, whole)
found_may index may_give key (Err why) told whole fault stored = get_may index may_give key why fault stored

pub found_damage : (objects : Objects) (key : Key) (r : Result (Option (List ℕ)) StoreFault) → RefusesAs is_free r (damage_at objects key) → IsToldDamage objects (reply_found key r)
found_damage objects key (Ok None) refused = tt
found_damage objects key (Ok (Some bytes)) refused = tt
found_damage objects key (Err why) refused = get_damage objects key why refused

pub found_counts : (before now : ℕ) (key : Key) (r : Result (Option (List ℕ)) StoreFault) → CountsShelf before now r → Counts before now (reply_found key r)
found_counts before now key (Ok None) counts = counts
found_counts before now key (Ok (Some bytes)) counts = counts
found_counts before now key (Err why) counts = subst (λ b. MatchBool b ((before ≤ now) × Rose before now) (now ≡ before)) (counted_same why) counts
