-- The refusals that a library may give, by their cause, are those that an order can have. The key lemmas are said_can, free_can,
-- get_can, put_can, tree_refused, update_can and list_can.
use Rattle.std.proofs.Common.{◌≡◌, ℕ, true, false, IsTrue, List, Option, refl, sym, subst, ◌⊎◌, inl, inr}
use Rattle.std.proofs.lemmas.Bool.{false≢true, or_left}
use Rattle.ids.specs.declared.key.Key.{Key}
use Rattle.library_state.specs.declared.refusal.Refusal.{Refusal}
use Rattle.library_state.specs.declared.refusal.Refusal.TheVariants as refusal
use Rattle.library_state.specs.declared.reply.Reply.{Reply}
use Rattle.library_state.specs.declared.reply.Reply.TheVariants as reply
use Rattle.object_store.specs.StoreView.{Index}
use Rattle.object_store.specs.declared.shelf.Slot.{Slot}
use Rattle.depot.specs.Answering.{MayFail, MayFailAt, MayGet, MayList, MayPut, MayRefuseGet, MayRefusePut, MayRefuseTree, MayRefuseUpdate, MayUpdate, is_free_refusal, is_free_reply}
use Rattle.http_front.specs.declared.order.What.{What}
use Rattle.http_front.specs.declared.order.What.TheVariants as what
use Rattle.http_client.specs.OrderOutcome.{asks_library, can_refuse, seeks, stores, walks}
use Rattle.remote_calls.specs.OrderReply.{MayReply, gives_objects}

-- ---- refusals, by their cause

-- want of memory and a failure of the storage may come to whatever asks a library
pub free_can : (w : What) (why : Refusal) → asks_library w ≡ true → IsTrue (is_free_refusal why) → can_refuse w why ≡ true
free_can w refusal.Store asks is = asks
free_can w refusal.NoMemory asks is = refl
free_can w other asks is = absurd (false≢true is)

pub free_reply_can : (w : What) (r : Reply) → asks_library w ≡ true → IsTrue (is_free_reply r) → MayReply w r
free_reply_can w (reply.Refused why) asks is = free_can w why asks is
free_reply_can w other asks is = absurd (false≢true is)

-- what the state decides, or what is free
pub said_can : (w : What) (r said : Reply) → asks_library w ≡ true → MayReply w said → (r ≡ said) ⊎ IsTrue (is_free_reply r) → MayReply w r
said_can w r said asks can (inl same) = subst (MayReply w) (sym same) can
said_can w r said asks can (inr free) = free_reply_can w r asks free

module _ (index : Index) (gives : Slot → Option (List ℕ) → Type 0) where
  fail_can : (w : What) (why : Refusal) → asks_library w ≡ true → MayFail gives why → can_refuse w why ≡ true
  fail_can w (refusal.Damaged want got) asks is = asks
  fail_can w refusal.Store asks is = asks
  fail_can w refusal.NoMemory asks is = refl
  fail_can w other asks is = absurd is

  fail_at_can : (w : What) (key : Key) (why : Refusal) → asks_library w ≡ true → MayFailAt index gives key why → can_refuse w why ≡ true
  fail_at_can w key (refusal.Damaged want got) asks is = asks
  fail_at_can w key refusal.Store asks is = asks
  fail_at_can w key refusal.NoMemory asks is = refl
  fail_at_can w key other asks is = absurd is

  -- ---- objects

  get_refused : (w : What) (key : Key) (why : Refusal) → asks_library w ≡ true → seeks w ≡ true → MayRefuseGet index gives key why → can_refuse w why ≡ true
  get_refused w key (refusal.NoObject other) asks seeks_it is = seeks_it
  get_refused w key other asks seeks_it is = fail_at_can w key other asks is

  pub get_can : (w : What) (key : Key) (r : Reply) → asks_library w ≡ true → seeks w ≡ true → gives_objects w ≡ true → MayGet index gives key r → MayReply w r
  get_can w key (reply.Got bytes) asks seeks_it gives_it is = gives_it
  get_can w key (reply.Refused why) asks seeks_it gives_it is = get_refused w key why asks seeks_it is
  get_can w key other asks seeks_it gives_it is = absurd is

  put_refused : (w : What) (key : Key) (bytes : List ℕ) (why : Refusal) → asks_library w ≡ true → stores w ≡ true → MayRefusePut index gives key bytes why → can_refuse w why ≡ true
  put_refused w key bytes (refusal.NoObject other) asks stores_it is = fail_at_can w key (refusal.NoObject other) asks is
  put_refused w key bytes (refusal.Taken id) asks stores_it is = or_left (stores w) _ stores_it
  put_refused w key bytes other asks stores_it is = fail_at_can w key other asks is

  pub put_can : (w : What) (key : Key) (bytes : List ℕ) (r : Reply) → asks_library w ≡ true → stores w ≡ true → MayPut index gives key bytes r → MayReply w r
  put_can w key bytes (reply.Stored true) asks stores_it is = stores_it
  put_can w key bytes (reply.Stored false) asks stores_it is = stores_it
  put_can w key bytes (reply.Refused why) asks stores_it is = put_refused w key bytes why asks stores_it is
  put_can w key bytes other asks stores_it is = absurd is

  -- ---- trees

  pub tree_refused : (w : What) (why : Refusal) → asks_library w ≡ true → walks w ≡ true → MayRefuseTree index gives why → can_refuse w why ≡ true
  tree_refused w (refusal.NoObject other) asks walks_it is = fail_can w (refusal.NoObject other) asks is
  tree_refused w (refusal.Incomplete missing) asks walks_it is = walks_it
  tree_refused w (refusal.Unreadable bad) asks walks_it is = walks_it
  tree_refused w (refusal.WrongKind id) asks walks_it is = walks_it
  tree_refused w (refusal.WrongSize id) asks walks_it is = walks_it
  tree_refused w (refusal.TooDeep path) asks walks_it is = walks_it
  tree_refused w (refusal.TooMany count) asks walks_it is = walks_it
  tree_refused w other asks walks_it is = fail_can w other asks is

  update_refused : (commit : List ℕ) (why : Refusal) → MayRefuseUpdate index gives why → can_refuse (what.Update commit) why ≡ true
  update_refused commit (refusal.NoObject other) is = tree_refused (what.Update commit) (refusal.NoObject other) refl refl is
  update_refused commit (refusal.Taken id) is = refl
  update_refused commit (refusal.Unrelated count) is = refl
  update_refused commit (refusal.TooLong path size) is = refl
  update_refused commit other is = tree_refused (what.Update commit) other refl refl is

  pub update_can : (commit : List ℕ) (r : Reply) → MayUpdate index gives r → MayReply (what.Update commit) r
  update_can commit (reply.Updated id) is = refl
  update_can commit (reply.Refused why) is = update_refused commit why is
  update_can commit other is = absurd is

  pub list_can : (server : List ℕ) (client : Option (List ℕ)) (r : Reply) → MayList index gives r → MayReply (what.Ids server client) r
  list_can server client (reply.Listed ids) is = refl
  list_can server client (reply.Refused why) is = tree_refused (what.Ids server client) why refl refl is
  list_can server client other is = absurd is
