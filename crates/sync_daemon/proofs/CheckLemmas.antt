-- What the checks of a round leave, gone well or failed. The key lemmas are checks_go, checks_fail, fails_so and scan_fails.
use Rattle.std.proofs.Common.{◌≡◌, ◌≤◌, ◌⊎◌, ℕ, Bool, true, false, not, ◌||◌, All, List, [], ◌∷◌, ◌++◌, Option, None, Some, Ok, Err, refl, sym, ap, subst, ◌∙◌, append_assoc, inl, inr, true≢false}
use Rattle.std.proofs.lemmas.List.Elements.{All-cons, All-nil, Contains-push, Contains-append_left}
use Rattle.ids.specs.declared.key.Key.{Key}
use Rattle.block_chunker.specs.declared.cuts.Cuts.{Cuts}
use Rattle.folder_side.specs.Folder.{Contents}
use Rattle.folder_side.specs.ScanReport.{IsWithinLimits}
use Rattle.http_client.specs.OrderOutcome.{can_refuse, is_update}
use Rattle.http_front.specs.declared.order.What.{What}
use Rattle.http_front.specs.declared.order.What.TheVariants as what
use Rattle.http_front.specs.declared.outcome.Outcome.{Outcome}
use Rattle.http_front.specs.declared.outcome.Outcome.TheVariants.{Plain, Refused}
use Rattle.library_state.specs.declared.call.Op.TheVariants as op
use Rattle.library_state.specs.declared.refusal.Refusal.{Refusal}
use Rattle.library_state.specs.declared.refusal.Refusal.TheVariants as refusal
use Rattle.library_state.specs.declared.reply.Reply.TheVariants as reply
use Rattle.library_state.specs.declared.tag.Tag.{Tag}
use Rattle.local_index.specs.declared.index.Index.{Index}
use Rattle.remote_calls.specs.Sends.{Ending, Sent}
use Rattle.sync_rules.specs.Causes.{IsRefusedBy, ends_sync, goes_on, is_stale, is_too_long}
use Rattle.sync_rules.specs.Named.{IsNamedSo, asked_by, asked_head, gets_tree, is_block, is_check, is_upload, keys_lacked, keys_named, keys_put, last_round}
use Rattle.sync_rules.specs.Orders.{AsksFew, IsNeeded, Stage, is_sync_what, may_send, stage_after}
use Rattle.sync_rules.specs.Orders.Stage.{Begins, Denies as WasDenied, Reads, Uploads}
use Rattle.sync_rules.specs.declared.fault.SyncFault.{SyncFault}
use Rattle.sync_rules.specs.declared.fault.SyncFault.TheVariants as fault
use Rattle.tree_fetch.specs.Asking.{FailsSo, order_of}
use Rattle.tree_fetch.specs.declared.asker.Asker.{Asker}
use Rattle.sync_daemon.specs.RoundOrder.{IsCheck, is_head}
use Rattle.sync_daemon.specs.Asking.{ChecksSo, IsOther, is_denied}
use Rattle.sync_daemon.specs.Going.{Going, Refuses, Spares, Stops, Sync}
use Rattle.sync_daemon.specs.Rounds.{IsChecked, IsFresh, sync_of}
use Rattle.sync_daemon.proofs.GoingLemmas.{IsQuiet, fails_here, fails_one, found_by_get, goes_one, refused_not_well, spares_more}
use Rattle.sync_daemon.proofs.JoinLemmas.{asked_then, round_then}

-- ---- an order that uploads nothing

-- one of a round that asks for nothing of a tree
pub record IsPlainOrder (first : List Sent) (stage : Stage) (asked : What) : Type 0 where
  pub of_sync : is_sync_what asked ≡ true
  pub few : AsksFew asked
  pub none : is_upload asked ≡ false
  pub flat : gets_tree asked ≡ false
  pub may : may_send stage asked ≡ true
  pub needed : All (IsNeeded first) (asked_by asked)
  pub small : All (λ (key : Key). is_block key.kind ≡ false) (asked_by asked)
  pub short : (why : Refusal) → is_too_long asked why ≡ false
  pub once : is_head asked ≡ true → asked_head first None ≡ None

pub plain_check : (first : List Sent) (stage : Stage) → may_send stage (what.Check op.Upload) ≡ true → IsPlainOrder first stage (what.Check op.Upload)
plain_check first stage may = record {
  of_sync = refl;
  few = tt;
  none = refl;
  flat = refl;
  may = may;
  needed = All-nil (IsNeeded first);
  small = All-nil (λ (key : Key). is_block key.kind ≡ false);
  short = λ why. refl;
  once = λ is. absurd (true≢false (sym is));
}

pub plain_download : (first : List Sent) (stage : Stage) → may_send stage (what.Check op.Download) ≡ true → IsPlainOrder first stage (what.Check op.Download)
plain_download first stage may = record {
  of_sync = refl;
  few = tt;
  none = refl;
  flat = refl;
  may = may;
  needed = All-nil (IsNeeded first);
  small = All-nil (λ (key : Key). is_block key.kind ≡ false);
  short = λ why. refl;
  once = λ is. absurd (true≢false (sym is));
}

pub plain_head : (first : List Sent) (stage : Stage) → may_send stage (what.Head None) ≡ true → asked_head first None ≡ None → IsPlainOrder first stage (what.Head None)
plain_head first stage may unasked = record {
  of_sync = refl;
  few = tt;
  none = refl;
  flat = refl;
  may = may;
  needed = All-nil (IsNeeded first);
  small = All-nil (λ (key : Key). is_block key.kind ≡ false);
  short = λ why. refl;
  once = λ is. unasked;
}

module _ (asker : Asker) (user : List ℕ) (shows : ℕ → Type 0) (cuts : Cuts) (told : Option Contents) (index : Index) where
  pub quiet_of : (first : List Sent) (stage : Stage) (asked : What) (ending : Ending) → IsPlainOrder first stage asked → is_stale ending ≡ false
      → IsQuiet (sync_of asker user shows cuts told index) first stage (order_of asker asked, ending)
  quiet_of first stage asked ending plain timely = record {
    asks = (refl, refl, plain.of_sync, plain.few);
    none = plain.none;
    flat = plain.flat;
    may = plain.may;
    needed = plain.needed;
    timely = timely;
    small = plain.small;
    once = plain.once;
  }

-- ---- an order that fails

-- an update alone may come too late
timely_refusal : (asked : What) (outcome : Outcome) (why : Refusal) → IsRefusedBy (Ok outcome) why → can_refuse asked why ≡ true → is_update asked ≡ false → is_stale (Ok outcome) ≡ false
timely_refusal asked (Plain (reply.Refused (refusal.Stale last now)) tag) why is can none =
    absurd (true≢false (sym (subst (λ (x : Refusal). can_refuse asked x ≡ true) (sym is) can) ∙ none))
timely_refusal asked (Refused (refusal.Stale last now)) why is can none = absurd (true≢false (sym (subst (λ (x : Refusal). can_refuse asked x ≡ true) (sym is) can) ∙ none))
timely_refusal asked (Plain (reply.Refused _) tag) why is can none = refl
timely_refusal asked (Refused _) why is can none = refl
timely_refusal asked _ why is can none = absurd is

not_update : (asked : What) → is_upload asked ≡ false → is_update asked ≡ false
not_update (what.Update commit) none = absurd (true≢false none)
not_update _ none = refl

module _ (asker : Asker) (user : List ℕ) (shows : ℕ → Type 0) (cuts : Cuts) (told : Option Contents) (index : Index) (start first : List Sent) (stage : Stage) (late : ℕ)
    (going : Going (sync_of asker user shows cuts told index) first stage late) (few : late ≤ 2) where
  abbrev here : Sync
  here = sync_of asker user shows cuts told index

  pub short_of_memory : Refuses here first fault.NoMemory
  short_of_memory = fails_here here first stage late going fault.NoMemory few tt (λ c is. (tt, inl (tt, going.unbegun)))

  -- an order of a round failed: it is the last, and its ending tells the fault
  pub fails_so : (asked : What) → IsPlainOrder first stage asked → (old new : List Sent) (f : SyncFault) → old ≡ start ++ first → FailsSo old new (order_of asker asked) f
      → ((why : Refusal) → f ≡ fault.Refused why → ends_sync asked why ≡ true) → ((c : Contents) → told ≡ Some c → (is_check asked ≡ true) ⊎ IsWithinLimits c) → Stops here start new f
  fails_so asked plain old new (fault.Remote g) begun grown ends scanned = (
    first ++ (order_of asker asked, Err g) ∷ [],
    grown ∙ ap (λ (sends : List Sent). sends ++ (order_of asker asked, Err g) ∷ []) begun ∙ append_assoc start first ((order_of asker asked, Err g) ∷ []),
    fails_one here first stage late (order_of asker asked, Err g) going (quiet_of asker user shows cuts told index first stage asked (Err g) plain refl) (fault.Remote g) few refl refl tt
        (order_of asker asked, (first, refl)) (λ none. none) (λ c is. (scanned c is, tt)),
  )
  fails_so asked plain old new (fault.Refused why) begun (outcome, grown, refused, can) ends scanned =
      let sent : Sent = (order_of asker asked, Ok outcome) in
      let timely : is_stale (Ok outcome) ≡ false = timely_refusal asked outcome why refused can (not_update asked plain.none) in (
        first ++ sent ∷ [],
        grown ∙ ap (λ (sends : List Sent). sends ++ sent ∷ []) begun ∙ append_assoc start first (sent ∷ []),
        fails_one here first stage late sent going (quiet_of asker user shows cuts told index first stage asked (Ok outcome) plain timely) (fault.Refused why) few refl refl tt
            (inl (order_of asker asked, Ok outcome, (first, refl), refused, ends why refl)) (λ none. none)
            (λ c is. (scanned c is, λ went. absurd (refused_not_well first sent why refused (ends why refl) (plain.short why) went))),
      )
  fails_so asked plain old new fault.NoMemory begun same ends scanned = (first, same ∙ begun, short_of_memory)
  fails_so asked plain old new _ begun never ends scanned = absurd never

-- ---- the checks

-- no check is refused so that a sync would go on, but that an upload is denied
ends_download : (why : Refusal) → can_refuse (what.Check op.Download) why ≡ true → ends_sync (what.Check op.Download) why ≡ true
ends_download (refusal.Stale last now) can = absurd (true≢false (sym can))
ends_download _ can = refl

ends_upload : (why : Refusal) → can_refuse (what.Check op.Upload) why ≡ true → is_denied why ≡ false → ends_sync (what.Check op.Upload) why ≡ true
ends_upload (refusal.Stale last now) can other = absurd (true≢false (sym can))
ends_upload refusal.Denied can other = absurd (true≢false other)
ends_upload _ can other = refl

can_of : (old new : List Sent) (asked : What) (asker : Asker) (f : SyncFault) (why : Refusal) → FailsSo old new (order_of asker asked) f → f ≡ fault.Refused why → can_refuse asked why ≡ true
can_of old new asked asker f why fails is =
    let told : FailsSo old new (order_of asker asked) (fault.Refused why) = subst (FailsSo old new (order_of asker asked)) is fails in told.3

other_of : (f : SyncFault) (why : Refusal) → IsOther f → f ≡ fault.Refused why → is_denied why ≡ false
other_of f why other is = subst IsOther is other

-- an order that tells that it is denied
denied_well : (outcome : Outcome) → IsRefusedBy (Ok outcome) refusal.Denied → goes_on (what.Check op.Upload) (Ok outcome) ≡ true
denied_well (Plain (reply.Refused r) tag) is = ap (λ (x : Refusal). not (ends_sync (what.Check op.Upload) x) || is_too_long (what.Check op.Upload) x) is
denied_well (Refused r) is = ap (λ (x : Refusal). not (ends_sync (what.Check op.Upload) x) || is_too_long (what.Check op.Upload) x) is
denied_well _ is = absurd is

denied_timely : (outcome : Outcome) → IsRefusedBy (Ok outcome) refusal.Denied → is_stale (Ok outcome) ≡ false
denied_timely outcome is = timely_refusal (what.Check op.Upload) outcome refusal.Denied is refl refl

denied_stage : (outcome : Outcome) (stage : Stage) → IsRefusedBy (Ok outcome) refusal.Denied → stage_after (what.Check op.Upload) (Ok outcome) stage ≡ WasDenied
denied_stage (Plain (reply.Refused r) tag) stage is = refl
denied_stage (Refused r) stage is = refl
denied_stage _ stage is = absurd is

-- in a round that just began, nothing was named
fresh_of : (more round : List Sent) → last_round more [] ≡ round → keys_named round ≡ [] → keys_lacked round ≡ [] → keys_put round ≡ [] → IsFresh more
fresh_of more round is named lacked put = record {
  named = ap keys_named is ∙ named;
  lacked = ap keys_lacked is ∙ lacked;
  put = ap keys_put is ∙ put;
}

module _ (asker : Asker) (user : List ℕ) (shows : ℕ → Type 0) (cuts : Cuts) (told : Option Contents) (index : Index) (start first : List Sent) (late : ℕ)
    (going : Going (sync_of asker user shows cuts told index) first Begins late) (few : late ≤ 2) where
  abbrev this : Sync
  this = sync_of asker user shows cuts told index

  abbrev check : Ending → Sent
  check ending = (order_of asker (what.Check op.Upload), ending)

  abbrev download : Ending → Sent
  download ending = (order_of asker (what.Check op.Download), ending)

  allowed_goes : (tag : Tag) → Going this (first ++ check (Ok (Plain reply.Checked tag)) ∷ []) Uploads late
  allowed_goes tag =
      goes_one this first Begins late (check (Ok (Plain reply.Checked tag))) going
      (quiet_of asker user shows cuts told index first Begins (what.Check op.Upload) (Ok (Plain reply.Checked tag)) (plain_check first Begins refl) refl)
      (refl, All-nil IsNamedSo)
      (λ c is. record { scanned = inl refl; found = λ none has. found_by_get first (check (Ok (Plain reply.Checked tag))) refl; had = []; is_had = tt })

  denied_goes : (outcome : Outcome) → IsRefusedBy (Ok outcome) refusal.Denied → Going this (first ++ check (Ok outcome) ∷ []) WasDenied late
  denied_goes outcome is =
      subst (λ (stage : Stage). Going this (first ++ check (Ok outcome) ∷ []) stage late) (denied_stage outcome Begins is)
      (goes_one this first Begins late (check (Ok outcome)) going
      (quiet_of asker user shows cuts told index first Begins (what.Check op.Upload) (Ok outcome) (plain_check first Begins refl) (denied_timely outcome is))
      (denied_well outcome is, All-nil IsNamedSo)
      (λ c told_so. record { scanned = inl refl; found = λ none has. found_by_get first (check (Ok outcome)) refl; had = []; is_had = tt }))

  reads_goes : (outcome : Outcome) → IsRefusedBy (Ok outcome) refusal.Denied → (tag : Tag)
      → Going this ((first ++ check (Ok outcome) ∷ []) ++ download (Ok (Plain reply.Checked tag)) ∷ []) Reads late
  reads_goes outcome is tag =
      let before : List Sent = first ++ check (Ok outcome) ∷ [] in
      goes_one this before WasDenied late (download (Ok (Plain reply.Checked tag))) (denied_goes outcome is)
      (quiet_of asker user shows cuts told index before WasDenied (what.Check op.Download) (Ok (Plain reply.Checked tag)) (plain_download before WasDenied refl) refl)
      (refl, All-nil IsNamedSo)
      (λ c told_so. record { scanned = inl refl; found = λ none has. found_by_get before (download (Ok (Plain reply.Checked tag))) refl; had = []; is_had = tt })

  -- they went well
  pub checks_go : (old new : List Sent) (may : Bool) → old ≡ start ++ first → Spares this first → ChecksSo asker old new (Ok may)
      → (more : List Sent) × (new ≡ start ++ more) × IsChecked this more late may
  checks_go old new true begun spares (tag, grown) =
      let sent : Sent = check (Ok (Plain reply.Checked tag)) in
      let going_on : Going this (first ++ sent ∷ []) Uploads late = allowed_goes tag in (
        first ++ sent ∷ [],
        grown ∙ ap (λ (sends : List Sent). sends ++ sent ∷ []) begun ∙ append_assoc start first (sent ∷ []),
        record {
          stage = Uploads;
          going = going_on;
          few = few;
          may_upload = refl;
          fresh = fresh_of (first ++ sent ∷ []) [] (round_then [] first (sent ∷ [])) refl refl refl;
          unasked = asked_then None first (sent ∷ []);
          spares = spares_more this first sent spares refl;
          behind = (inl going_on.reached, subst (All IsCheck) (sym (round_then [] first (sent ∷ []))) (All-nil IsCheck));
        },
      )
  checks_go old new false begun spares (mid, (outcome, denied, is), (tag, grown)) =
      let sent : Sent = check (Ok outcome) in
      let later : Sent = download (Ok (Plain reply.Checked tag)) in
      let before : List Sent = first ++ sent ∷ [] in
      let to_mid : mid ≡ start ++ before = denied ∙ ap (λ (sends : List Sent). sends ++ sent ∷ []) begun ∙ append_assoc start first (sent ∷ []) in
      let of_round : last_round (before ++ later ∷ []) [] ≡ later ∷ [] = round_then [] before (later ∷ []) ∙ ap (last_round (later ∷ [])) (round_then [] first (sent ∷ [])) in
      let going_on : Going this (before ++ later ∷ []) Reads late = reads_goes outcome is tag in (
        before ++ later ∷ [],
        grown ∙ ap (λ (sends : List Sent). sends ++ later ∷ []) to_mid ∙ append_assoc start before (later ∷ []),
        record {
          stage = Reads;
          going = going_on;
          few = few;
          may_upload = (refl, (sent.0, sent.1, Contains-append_left before (later ∷ []) sent (Contains-push first sent), refl, is));
          fresh = fresh_of (before ++ later ∷ []) (later ∷ []) of_round refl refl refl;
          unasked = asked_then None before (later ∷ []) ∙ ap (asked_head (later ∷ [])) (asked_then None first (sent ∷ []));
          spares = spares_more this before later (spares_more this first sent spares refl) refl;
          behind = (inr going_on.reached, subst (All IsCheck) (sym of_round) (All-cons IsCheck later [] refl (All-nil IsCheck)));
        },
      )

  -- one of them failed
  pub checks_fail : (old new : List Sent) (f : SyncFault) → old ≡ start ++ first → ChecksSo asker old new (Err f) → Stops this start new f
  checks_fail old new f begun (inl both) =
      fails_so asker user shows cuts told index start first Begins late going few (what.Check op.Upload) (plain_check first Begins refl) old new f begun both.0
      (λ why is. ends_upload why (can_of old new (what.Check op.Upload) asker f why both.0 is) (other_of f why both.1 is)) (λ c told_so. inl refl)
  checks_fail old new f begun (inr (mid, (outcome, denied, is), fails)) =
      let sent : Sent = check (Ok outcome) in
      let before : List Sent = first ++ sent ∷ [] in
      let to_mid : mid ≡ start ++ before = denied ∙ ap (λ (sends : List Sent). sends ++ sent ∷ []) begun ∙ append_assoc start first (sent ∷ []) in
      fails_so asker user shows cuts told index start before WasDenied late (denied_goes outcome is) few (what.Check op.Download) (plain_download before WasDenied refl) mid new f to_mid fails
      (λ why same. ends_download why (can_of mid new (what.Check op.Download) asker f why fails same)) (λ c told_so. inl refl)
