-- The sends for blocks. The key lemmas are gets_told, gets_failed, got_append, got_front, all_got_stops, stops_behind, stops_more and
-- joined_append.
use Rattle.std.proofs.Common.{◌≡◌, ℕ, suc, true, false, List, [], ◌∷◌, ◌++◌, length, Result, Ok, Err, refl, sym, ap, subst, ◌∙◌, inl, inr, append_assoc, true≢false}
use Rattle.http_client.specs.OrderOutcome.{CanHave, can_refuse}
use Rattle.http_front.specs.declared.order.What.TheVariants as what
use Rattle.http_front.specs.declared.outcome.Outcome.{Outcome}
use Rattle.http_front.specs.declared.outcome.Outcome.TheVariants.{Plain, Refused}
use Rattle.library_state.specs.declared.reply.Reply.TheVariants as reply
use Rattle.library_state.specs.declared.tag.Tag.{Tag}
use Rattle.library_state.specs.declared.refusal.Refusal.{Refusal}
use Rattle.library_state.specs.declared.refusal.Refusal.TheVariants as refusal
use Rattle.object_graph.specs.Objects.{block_key}
use Rattle.remote_calls.specs.Sends.{Ending, Sent, SendsOne}
use Rattle.remote_calls.specs.declared.error.RemoteFault.{RemoteFault}
use Rattle.remote_calls.specs.declared.error.RemoteFault.TheVariants as remote
use Rattle.sync_rules.specs.Causes.{ends_sync, is_folder_fault}
use Rattle.sync_rules.specs.declared.fault.SyncFault.{SyncFault}
use Rattle.sync_rules.specs.declared.fault.SyncFault.TheVariants as fault
use Rattle.tree_checkout.specs.BlockGets.{AreGot, GetsSo, GotFront, IsToldBy, Stops, TellsSo, block_order, bytes_in, is_quiet, joined_in, remote_fault}
use Rattle.tree_checkout.specs.declared.block_gets.Source.{Source}

-- ---- one block

-- a refusal that a block's order can have ends a sync
refusal_ends : (id : List ℕ) (why : Refusal) → can_refuse (what.Get (block_key id)) why ≡ true → ends_sync (what.Get (block_key id)) why ≡ true
refusal_ends id (refusal.Stale last now) can = absurd (true≢false (sym can))
refusal_ends id other can = refl

module _ (source : Source) (id : List ℕ) (old new : List Sent) where
  refused : (ending : Ending) (why : Refusal) → new ≡ old ++ (block_order source id, ending) ∷ [] → IsToldBy source id (block_order source id, ending) (fault.Refused why)
      → (result : Result (List ℕ) SyncFault) → result ≡ Err (fault.Refused why) → GetsSo source id old new result
  refused ending why grown told result is =
      subst (λ (r : Result (List ℕ) SyncFault). GetsSo source id old new r) (sym is) (inr ((block_order source id, ending), grown, told))

  checked : (bytes : List ℕ) (tag : Tag) → new ≡ old ++ (block_order source id, Ok (Plain (reply.Got bytes) tag)) ∷ []
      → (result : Result (List ℕ) SyncFault) → TellsSo id (Plain (reply.Got bytes) tag) result → GetsSo source id old new result
  checked bytes tag grown (Ok given) tells = record {
    sent = (block_order source id, Ok (Plain (reply.Got bytes) tag));
    grown = grown;
    got = record { asked = refl; comes = tells.1 };
    gives = tells.0;
  }
  checked bytes tag grown (Err (fault.Damaged want got)) tells =
      inr ((block_order source id, Ok (Plain (reply.Got bytes) tag)), grown, (tells.0, tells.2, bytes, tag, refl, tells.1))
  checked bytes tag grown (Err other) tells = absurd tells

  pub gets_told : (outcome : Outcome) → CanHave (what.Get (block_key id)) outcome → new ≡ old ++ (block_order source id, Ok outcome) ∷ []
      → (result : Result (List ℕ) SyncFault) → TellsSo id outcome result → GetsSo source id old new result
  gets_told (Plain (reply.Got bytes) tag) can grown result tells = checked bytes tag grown result tells
  gets_told (Plain (reply.Refused why) tag) can grown result tells =
      refused (Ok (Plain (reply.Refused why) tag)) why grown (refl, refl, refusal_ends id why can) result tells
  gets_told (Refused why) can grown result tells = refused (Ok (Refused why)) why grown (refl, refl, refusal_ends id why can) result tells
  gets_told other can grown result tells = absurd tells

  pub gets_failed : (why : RemoteFault) → SendsOne old new (block_order source id) (Err why) → (f : SyncFault) → f ≡ remote_fault why
      → GetsSo source id old new (Err f)
  gets_failed remote.NoMemory listed f is = inl (is, listed)
  gets_failed other listed f is =
      subst (λ (g : SyncFault). GetsSo source id old new (Err g)) (sym is) (inr ((block_order source id, Err other), listed, refl))

-- a fault that a send tells isn't one of the folder
pub told_by_send : (source : Source) (id : List ℕ) (sent : Sent) (f : SyncFault) → IsToldBy source id sent f → is_folder_fault f ≡ false
told_by_send source id sent fault.Folder told = absurd told
told_by_send source id sent other told = refl

pub gets_no_folder : (source : Source) (id : List ℕ) (old new : List Sent) (f : SyncFault) → GetsSo source id old new (Err f) → is_folder_fault f ≡ false
gets_no_folder source id old new f (inl none) = ap is_folder_fault none.0
gets_no_folder source id old new f (inr one) = told_by_send source id one.0 f one.2

-- ---- blocks, one after another

pub joined_append : (first later : List Sent) → joined_in (first ++ later) ≡ joined_in first ++ joined_in later
joined_append [] later = refl
joined_append (sent ∷ first) later = ap (λ bytes. bytes_in sent.1 ++ bytes) (joined_append first later) ∙ sym (append_assoc (bytes_in sent.1) (joined_in first) (joined_in later))

pub got_append : (source : Source) (front ids : List (List ℕ)) (first later : List Sent) → AreGot source front first → AreGot source ids later
    → AreGot source (front ++ ids) (first ++ later)
got_append source [] ids [] later mine others = others
got_append source [] ids (sent ∷ first) later mine others = absurd mine
got_append source (id ∷ front) ids [] later mine others = absurd mine
got_append source (id ∷ front) ids (sent ∷ first) later mine others = (mine.0, got_append source front ids first later mine.1 others)

pub got_length : (source : Source) (ids : List (List ℕ)) (more : List Sent) → AreGot source ids more → length more ≡ length ids
got_length source [] [] are = refl
got_length source [] (sent ∷ more) are = absurd are
got_length source (id ∷ ids) [] are = absurd are
got_length source (id ∷ ids) (sent ∷ more) are = ap suc (got_length source ids more are.1)

pub stops_behind : (source : Source) (f : SyncFault) (front ids : List (List ℕ)) (first more : List Sent) → AreGot source front first → Stops source more ids f
    → Stops source (first ++ more) (front ++ ids) f
stops_behind source f [] ids [] more are stops = stops
stops_behind source f [] ids (sent ∷ first) more are stops = absurd are
stops_behind source f (id ∷ front) ids [] more are stops = absurd are
stops_behind source f (id ∷ front) ids (sent ∷ first) more are stops = inl (are.0, stops_behind source f front ids first more are.1 stops)

pub stops_more : (source : Source) (f : SyncFault) (ids others : List (List ℕ)) (more : List Sent) → Stops source more ids f → Stops source more (ids ++ others) f
stops_more source f ids others [] stops = stops
stops_more source f [] others (sent ∷ more) stops = absurd stops
stops_more source f (id ∷ ids) others (sent ∷ more) (inl on) = inl (on.0, stops_more source f ids others more on.1)
stops_more source f (id ∷ ids) others (sent ∷ more) (inr ends) = inr ends

-- all were got, and then something else failed
pub all_got_stops : (source : Source) (f : SyncFault) (ids : List (List ℕ)) (more : List Sent) → AreGot source ids more → is_quiet f ≡ true → Stops source more ids f
all_got_stops source f [] [] are quiet = quiet
all_got_stops source f [] (sent ∷ more) are quiet = absurd are
all_got_stops source f (id ∷ ids) [] are quiet = absurd are
all_got_stops source f (id ∷ ids) (sent ∷ more) are quiet = inl (are.0, all_got_stops source f ids more are.1 quiet)

-- a fault that a send tells isn't one that none tells
quiet_untold : (source : Source) (id : List ℕ) (sent : Sent) (f : SyncFault) → is_quiet f ≡ true → IsToldBy source id sent f → ⊥
quiet_untold source id sent (fault.Remote why) quiet told = true≢false (sym quiet)
quiet_untold source id sent (fault.Refused why) quiet told = true≢false (sym quiet)
quiet_untold source id sent (fault.Damaged want got) quiet told = true≢false (sym quiet)
quiet_untold source id sent other quiet told = told

-- where no send tells the fault, all that was asked for was got
pub got_front : (source : Source) (f : SyncFault) → is_quiet f ≡ true → (more : List Sent) (ids : List (List ℕ)) → Stops source more ids f → GotFront source ids more
got_front source f quiet [] ids stops = record { front = []; others = ids; split = refl; came = tt }
got_front source f quiet (sent ∷ more) [] stops = absurd stops
got_front source f quiet (sent ∷ more) (id ∷ ids) (inl on) =
    let behind = got_front source f quiet more ids on.1 in
    record { front = id ∷ behind.front; others = behind.others; split = ap (λ all. id ∷ all) behind.split; came = (on.0, behind.came) }
got_front source f quiet (sent ∷ more) (id ∷ ids) (inr ends) = absurd (quiet_untold source id sent f quiet ends.0)
