-- What comes of a commit that is put and of an update, by the reply. The key lemmas are put_told, order_failed, take_told and
-- then_updates.
use Rattle.std.proofs.Common.{inl, inr, ℕ, List, Result, Ok, Err, refl, sym, ap, subst}
use Rattle.std.specs.Prelude.{⊤}
use Rattle.library_state.specs.declared.refusal.Refusal.{Refusal}
use Rattle.library_state.specs.declared.refusal.Refusal.TheVariants as refusal
use Rattle.library_state.specs.declared.reply.Reply.{Reply}
use Rattle.library_state.specs.declared.reply.Reply.TheVariants as reply
use Rattle.http_front.specs.declared.order.What.{What}
use Rattle.http_front.specs.declared.order.What.TheVariants as what
use Rattle.object_graph.specs.Objects.{commit_key}
use Rattle.remote_calls.specs.Sends.{Sent}
use Rattle.sync_rules.specs.declared.fault.SyncFault.{SyncFault}
use Rattle.tree_push.specs.Asking.{AsksSo, StoresSo}
use Rattle.tree_push.specs.Standing.{Fails, PutsCommit, PutsThenUpdates, RefusesSo, TakesSo, UpdatesSo, is_late}
use Rattle.tree_push.specs.declared.asking.Library.{Library}
use Rattle.tree_push.specs.declared.standing.Pushed.{Pushed}
use Rattle.tree_push.proofs.EndingLemmas.{upload_ends}

module _ (library : Library) where
  -- an order that had no outcome, or for which memory was wanting
  pub order_failed : (asked : What) (old new : List Sent) (f : SyncFault) → AsksSo library asked old new (Err f) → Fails library asked old new f
  order_failed asked old new f (inl none) = inl none
  order_failed asked old new f (inr (why, grown, is)) =
      subst (λ (g : SyncFault). Fails library asked old new g) (sym is) (inr (Err why, grown, refl))

  pub update_failed : (id : List ℕ) (old new : List Sent) (f : SyncFault) → AsksSo library (what.Update id) old new (Err f) → UpdatesSo library id old new (Err f)
  update_failed id old new f (inl none) = (inl none, ap is_late none.0)
  update_failed id old new f (inr (why, grown, is)) =
      subst (λ (g : SyncFault). UpdatesSo library id old new (Err g)) (sym is) (inr (Err why, grown, refl), refl)

  pub put_told : (id text : List ℕ) (old new : List Sent) (r : Reply) (result : Result ⊤ SyncFault) → AsksSo library (what.Put (commit_key id) text) old new (Ok r) → StoresSo r result
      → PutsCommit library id text old new result
  put_told id text old new (reply.Stored is_new) result sent stores =
      subst (λ (s : Result ⊤ SyncFault). PutsCommit library id text old new s) (sym stores) (sent.0, reply.Stored is_new, sent.1, sent.2, tt)
  put_told id text old new (reply.Refused why) result sent stores =
      subst (λ (s : Result ⊤ SyncFault). PutsCommit library id text old new s) (sym stores)
      (inr (sent.0, sent.1, (sent.2, upload_ends (what.Put (commit_key id) text) refl refl why sent.3)))
  put_told id text old new other result sent stores = absurd stores

  refuse_told : (id : List ℕ) (old new : List Sent) (why : Refusal) (result : Result Pushed SyncFault) → AsksSo library (what.Update id) old new (Ok (reply.Refused why)) → RefusesSo why result
      → UpdatesSo library id old new result
  refuse_told id old new (refusal.Stale last now) result sent refuses =
      subst (λ (s : Result Pushed SyncFault). UpdatesSo library id old new s) (sym refuses) (sent.0, reply.Refused (refusal.Stale last now), sent.1, sent.2, (last, refl))
  refuse_told id old new other result sent refuses =
      subst (λ (s : Result Pushed SyncFault). UpdatesSo library id old new s) (sym refuses) (inr (sent.0, sent.1, (sent.2, refl)), refl)

  pub take_told : (id : List ℕ) (old new : List Sent) (r : Reply) (result : Result Pushed SyncFault) → AsksSo library (what.Update id) old new (Ok r) → TakesSo id r result
      → UpdatesSo library id old new result
  take_told id old new (reply.Updated head) result sent takes =
      subst (λ (s : Result Pushed SyncFault). UpdatesSo library id old new s) (sym takes) (sent.0, reply.Updated head, sent.1, sent.2, (refl, refl))
  take_told id old new (reply.Refused why) result sent takes = refuse_told id old new why result sent takes
  take_told id old new other result sent takes = absurd takes

  pub then_updates : (id text : List ℕ) (old mid new : List Sent) (result : Result Pushed SyncFault) → PutsCommit {T = ⊤} library id text old mid (Ok tt) → UpdatesSo library id mid new result
      → PutsThenUpdates library id text old new result
  then_updates id text old mid new (Ok pushed) puts updates = (mid, puts, updates)
  then_updates id text old mid new (Err f) puts updates = inr (mid, puts, updates)
