-- What the calls on objects answer and leave. Our own. Read SaysOr and DoneSo first.
use Rattle.std.specs.Prelude.{◌≡◌, ◌⊎◌, ℕ, ◌≤◌, Bool, true, false, List, [], ◌∷◌, Option, Some, option_map, IfSome, ⊤}
use Rattle.std.specs.Bool.{MatchBool, then_some}
use Rattle.sha1.specs.Sha1.{sha1}
use Rattle.ids.specs.FaultCount.{Rose}
use Rattle.ids.specs.Key.{Objects}
use Rattle.ids.specs.declared.key.Key.{Key}
use Rattle.library_rules.specs.Calls.{Due, Denies, Says, Stores, Installs, Merges, by_state, first_refusal, put_by_objects}
use Rattle.library_rules.specs.Changes.{put_new}
use Rattle.library_rules.specs.LibraryState.{State}
use Rattle.library_state.specs.declared.call.Act.{Act}
use Rattle.library_state.specs.declared.call.Act.TheVariants as act
use Rattle.library_state.specs.declared.refusal.Refusal.{Refusal}
use Rattle.library_state.specs.declared.refusal.Refusal.TheVariants as refusal
use Rattle.library_state.specs.declared.reply.Reply.{Reply}
use Rattle.library_state.specs.declared.reply.Reply.TheVariants as reply
use Rattle.object_graph.specs.Objects.{is_nil}
use Rattle.object_store.specs.Store.{damage_at, has_other_name}
use Rattle.object_store.specs.declared.error.StoreFault.TheVariants as store

-- ---- faults

-- over told objects a fault may come for a failure of the shelf, for want of memory, and for an object that is damaged
abbrev pub IsToldRefusal : Objects → Refusal → Type 0
IsToldRefusal objects refusal.Store = ⊤
IsToldRefusal objects refusal.NoMemory = ⊤
IsToldRefusal objects (refusal.Damaged want got) = (key : Key) × (damage_at objects key ≡ Some (store.Damaged want got))
IsToldRefusal objects other = ⊥

-- the answer is a refusal by such a fault
abbrev pub IsFault : Objects → Reply → Type 0
IsFault objects (reply.Refused why) = IsToldRefusal objects why
IsFault objects other = ⊥

-- damage is told only of an object that is damaged
abbrev pub IsToldDamageOf : Objects → Refusal → Type 0
IsToldDamageOf objects (refusal.Damaged want got) = (key : Key) × (damage_at objects key ≡ Some (store.Damaged want got))
IsToldDamageOf objects other = ⊤

abbrev pub IsToldDamage : Objects → Reply → Type 0
IsToldDamage objects (reply.Refused why) = IsToldDamageOf objects why
IsToldDamage objects other = ⊤

-- the refusal by a failure that the shelf counts
abbrev pub is_of_store : Refusal → Bool
is_of_store refusal.Store = true
is_of_store other = false

abbrev pub is_counted : Reply → Bool
is_counted (reply.Refused why) = is_of_store why
is_counted other = false

-- a call is refused by a failure of the shelf only where the count rose, and else the count stays
abbrev pub Counts : ℕ → ℕ → Reply → Type 0
Counts before now r = MatchBool (is_counted r) ((before ≤ now) × Rose before now) (now ≡ before)

-- ---- answers

-- the answer is this one, or a fault
abbrev pub SaysOr : Objects → Reply → Reply → Type 0
SaysOr objects said r = (r ≡ said) ⊎ IsFault objects r

-- what is due is done: an answer, and the objects stay; or an object more; or a fault, and the objects stay
abbrev pub DoneSo : Objects → Due → Reply → Option Objects → Type 0
DoneSo objects (Says said) r after = SaysOr objects said r × (after ≡ Some objects)
DoneSo objects (Stores x) r after = ((r ≡ reply.Stored true) × (after ≡ Some (put_new objects x))) ⊎ (IsFault objects r × (after ≡ Some objects))
DoneSo objects Denies r after = ⊥
DoneSo objects (Installs pushed) r after = ⊥
DoneSo objects (Merges user base pushed) r after = ⊥

-- the refusal of an object that isn't under its own name
abbrev pub own_name : Key → List ℕ → Option Refusal
own_name key bytes = then_some (has_other_name key bytes) (refusal.Wrong (sha1 bytes))

-- what the state decides of a put of which only the name and what is stored are still to be looked at
abbrev pub store_decided : Key → List ℕ → Option Reply
store_decided key bytes = option_map reply.Refused (first_refusal (own_name key bytes ∷ then_some (is_nil key.id) (refusal.Taken key.id) ∷ []))

-- what a put is due of which only the name and what is stored are still to be looked at
abbrev pub store_due : State → Key → List ℕ → Due
store_due s key bytes = by_state (store_decided key bytes) (put_by_objects s key bytes)

-- ---- what is told with a call that is handed over

-- the SHA-1 of what is put
abbrev pub IsNameOf : Act → List ℕ → Type 0
IsNameOf (act.Put key bytes) name = name ≡ sha1 bytes
IsNameOf other name = ⊤

-- the name that is told, if one is, is that
abbrev pub TellsName : Act → Option (List ℕ) → Type 0
TellsName a name = IfSome name (IsNameOf a)
