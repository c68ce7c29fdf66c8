-- What is sent to put a commit and to ask a library to stand at it, as a list. The key lemma is stands_by.
use Rattle.std.proofs.Common.{◌≡◌, ◌⊎◌, inl, inr, ℕ, false, List, [], ◌∷◌, ◌++◌, Result, Ok, Err, refl, sym, ap, ◌∙◌, append_assoc}
use Rattle.std.proofs.lemmas.List.{append-nil}
use Rattle.std.specs.Prelude.{⊤}
use Rattle.http_front.specs.declared.order.What.TheVariants as what
use Rattle.library_state.specs.declared.reply.Reply.{Reply}
use Rattle.object_graph.specs.Objects.{commit_key}
use Rattle.remote_calls.specs.Sends.{Ending, Sent}
use Rattle.sync_rules.specs.declared.fault.SyncFault.{SyncFault}
use Rattle.sync_rules.specs.declared.fault.SyncFault.TheVariants as fault
use Rattle.tree_push.specs.Asking.{EndsBy, Replies, order_for}
use Rattle.tree_push.specs.Standing.{IsOwnCommit, IsStored, PutsCommit, PutsThenUpdates, StandsSo, TellsPushed, UpdatesSo, is_late}
use Rattle.tree_push.specs.declared.asking.Library.{Library}
use Rattle.tree_push.specs.declared.standing.Pushed.{Pushed}

module _ (library : Library) where
  abbrev pub put_of : (id text : List ℕ) → Ending → Sent
  put_of id text ending = (order_for library (what.Put (commit_key id) text), ending)

  abbrev pub update_of : (id : List ℕ) → Ending → Sent
  update_of id ending = (order_for library (what.Update id), ending)

  -- what came of an update
  abbrev pub EndsUpdate : (id : List ℕ) → Ending → Result Pushed SyncFault → Type 0
  EndsUpdate id ending (Ok pushed) = (r : Reply) × Replies ending r × TellsPushed id pushed r
  EndsUpdate id ending (Err f) = EndsBy (what.Update id) ending f × (is_late f ≡ false)

  -- what came of a commit that was put, and nothing sent behind it: it was refused, or memory was wanting
  abbrev pub EndsPut : (id text : List ℕ) → Ending → Result Pushed SyncFault → Type 0
  EndsPut id text ending (Ok pushed) = ⊥
  EndsPut id text ending (Err f) = EndsBy (what.Put (commit_key id) text) ending f ⊎ ((f ≡ fault.NoMemory) × ((r : Reply) × Replies ending r × IsStored r))

  module _ (root parent user : List ℕ) (moment : ℕ) (later : List Sent) (result : Result Pushed SyncFault) where
    -- a commit was put, and that was all
    pub record OnlyPuts : Type 0 where
      pub id : List ℕ
      pub text : List ℕ
      pub own : IsOwnCommit library root parent user moment id text
      pub ending : Ending
      pub is : later ≡ put_of id text ending ∷ []
      pub ends : EndsPut id text ending result

    -- a commit was put, and the library asked to stand at it
    pub record Updates : Type 0 where
      pub id : List ℕ
      pub text : List ℕ
      pub own : IsOwnCommit library root parent user moment id text
      pub ending : Ending
      pub told : Reply
      pub replied : Replies ending told
      pub stored : IsStored told
      pub last : Ending
      pub is : later ≡ put_of id text ending ∷ update_of id last ∷ []
      pub ends : EndsUpdate id last result

    abbrev pub StandsBy : Type 0
    StandsBy = ((later ≡ []) × (result ≡ Err fault.NoMemory)) ⊎ (OnlyPuts ⊎ Updates)

  pub record Stood (root parent user : List ℕ) (moment : ℕ) (old new : List Sent) (result : Result Pushed SyncFault) : Type 0 where
    pub later : List Sent
    pub grown : new ≡ old ++ later
    pub stands : StandsBy root parent user moment later result

  module _ (root parent user : List ℕ) (moment : ℕ) (id text : List ℕ) (own : IsOwnCommit library root parent user moment id text) (old : List Sent) where
    updated : (mid new : List Sent) (put : PutsCommit {T = ⊤} library id text old mid (Ok tt)) → (result : Result Pushed SyncFault) → UpdatesSo library id mid new result
        → Stood root parent user moment old new result
    updated mid new put (Ok pushed) updates = record {
      later = put_of id text put.0 ∷ update_of id updates.0 ∷ [];
      grown = updates.2 ∙ ap (λ (sends : List Sent). sends ++ update_of id updates.0 ∷ []) put.2 ∙ append_assoc old (put_of id text put.0 ∷ []) (update_of id updates.0 ∷ []);
      stands = inr (inr (record {
        id = id;
        text = text;
        own = own;
        ending = put.0;
        told = put.1;
        replied = put.3;
        stored = put.4;
        last = updates.0;
        is = refl;
        ends = (updates.1, updates.3, updates.4);
      }));
    }
    updated mid new put (Err f) (inl none, late) = record {
      later = put_of id text put.0 ∷ [];
      grown = none.1 ∙ put.2;
      stands = inr (inl (record { id = id; text = text; own = own; ending = put.0; is = refl; ends = inr (none.0, (put.1, put.3, put.4)) }));
    }
    updated mid new put (Err f) (inr one, late) = record {
      later = put_of id text put.0 ∷ update_of id one.0 ∷ [];
      grown = one.1 ∙ ap (λ (sends : List Sent). sends ++ update_of id one.0 ∷ []) put.2 ∙ append_assoc old (put_of id text put.0 ∷ []) (update_of id one.0 ∷ []);
      stands = inr (inr (record {
        id = id;
        text = text;
        own = own;
        ending = put.0;
        told = put.1;
        replied = put.3;
        stored = put.4;
        last = one.0;
        is = refl;
        ends = (one.2, late);
      }));
    }

    put_or_updated : (new : List Sent) (result : Result Pushed SyncFault) → PutsThenUpdates library id text old new result → Stood root parent user moment old new result
    put_or_updated new (Ok pushed) both = updated both.0 new both.1 (Ok pushed) both.2
    put_or_updated new (Err f) (inr both) = updated both.0 new both.1 (Err f) both.2
    put_or_updated new (Err f) (inl (inl none)) = record {
      later = [];
      grown = none.1 ∙ sym (append-nil old);
      stands = inl (refl, ap Err none.0);
    }
    put_or_updated new (Err f) (inl (inr one)) = record {
      later = put_of id text one.0 ∷ [];
      grown = one.1;
      stands = inr (inl (record { id = id; text = text; own = own; ending = one.0; is = refl; ends = inl one.2 }));
    }

  pub stands_by : (root parent user : List ℕ) (moment : ℕ) (old new : List Sent) (result : Result Pushed SyncFault) → StandsSo library root parent user moment old new result
      → Stood root parent user moment old new result
  stands_by root parent user moment old new result (inl none) = record { later = []; grown = none.1 ∙ sym (append-nil old); stands = inl (refl, none.0) }
  stands_by root parent user moment old new result (inr (id, text, own, both)) = put_or_updated root parent user moment id text own old new result both
