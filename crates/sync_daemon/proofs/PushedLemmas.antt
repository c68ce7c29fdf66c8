-- A round in which what changed was pushed. The key lemmas are push_goes, push_late and push_fails.
use Rattle.std.proofs.Common.{◌≡◌, ◌≤◌, ◌+◌, ℕ, Bool, true, false, if◌then◌else◌, All, List, [], ◌∷◌, ◌++◌, map, length, Option, None, Some, is_some, Result, Ok, Err, refl, sym, ap, subst, ◌∙◌, append_assoc, append-nil, inl, inr, true≢false, arith, ◌⊎◌}
use Rattle.std.specs.Option.{option_or}
use Rattle.std.specs.List.{cons_option, filter_map, flat_map}
use Rattle.std.proofs.lemmas.Grind.{flat_map-append}
use Rattle.std.proofs.lemmas.List.{map-append}
use Rattle.std.proofs.lemmas.List.Elements.{All-append, All-cons, All-head, All-nil, All-tail}
use Rattle.ids.specs.Key.{Objects}
use Rattle.ids.specs.declared.key.Key.{Key}
use Rattle.block_chunker.specs.declared.cuts.Cuts.{Cuts}
use Rattle.folder_side.specs.Folder.{Contents}
use Rattle.folder_side.specs.declared.scan_report.Scan.{Scan}
use Rattle.http_front.specs.declared.order.What.{What}
use Rattle.http_front.specs.declared.order.What.TheVariants as what
use Rattle.http_front.specs.declared.outcome.Outcome.TheVariants.{Plain, Refused}
use Rattle.library_state.specs.declared.refusal.Refusal.{Refusal}
use Rattle.library_state.specs.declared.refusal.Refusal.TheVariants as refusal
use Rattle.library_state.specs.declared.reply.Reply.TheVariants as reply
use Rattle.local_index.specs.declared.index.Index.{Index}
use Rattle.object_graph.specs.Objects.{commit_key}
use Rattle.object_graph.specs.Reached.{ReachedFrom}
use Rattle.object_graph.specs.Traversal.{is_in}
use Rattle.remote_calls.specs.Sends.{Ending, Sent}
use Rattle.sync_rules.specs.Causes.{CausedBy, FindsSome, HasPath, IsRefusedBy, WentWell, is_stale, stale_count}
use Rattle.sync_rules.specs.Named.{IsHad, IsHadFor, Named, asked_by, asked_head, got_by, head_after, if_named, is_block, keys_asked, keys_named, last_head, last_round, named_by, names_in}
use Rattle.sync_rules.specs.Offer.{IsOffer}
use Rattle.sync_rules.specs.OneSync.{ComesInOrder, GoesInOrder, HasNotBegun, NeedsNoTree}
use Rattle.sync_rules.specs.Orders.{GoesInRounds, Stage, stage_after}
use Rattle.sync_rules.specs.Orders.Stage.{Begins, Stands, Uploads}
use Rattle.sync_rules.specs.Uploads.{IsUploadOf, OffersAt, OffersEach, UploadsSo}
use Rattle.sync_rules.specs.declared.fault.SyncFault.{SyncFault}
use Rattle.sync_rules.specs.declared.fault.SyncFault.TheVariants as fault
use Rattle.sync_rules.proofs.OverLemmas.{over_later}
use Rattle.sync_rules.proofs.WentLemmas.{went_then}
use Rattle.tree_walk.specs.declared.fault.WalkFault.TheVariants as walk
use Rattle.tree_fetch.specs.declared.asker.Asker.{Asker}
use Rattle.tree_push.specs.ChangedOwns.{AreChangedOwns, Owns}
use Rattle.tree_push.specs.Pushing.{EndsPush, HoldsOffer, IsPushFault, OffersOnce, PushesSo, is_change, PutsChanged, NamesOffered}
use Rattle.tree_push.specs.declared.standing.Pushed.{Pushed}
use Rattle.tree_push.specs.declared.standing.Pushed.TheVariants.{Installed, Late}
use Rattle.tree_push.proofs.HeldOfferLemmas.{held_then}
use Rattle.sync_daemon.specs.RoundOrder.{AsksSo, IsSoInRound, stage_from}
use Rattle.sync_daemon.specs.Going.{Going, GoingOver, Refuses, Spares, Sync}
use Rattle.sync_daemon.specs.Rounds.{EndsLate, IsAskedFor, IsJoined, IsPushed, IsSeen, IsSettled, TellsChange, sync_of}
use Rattle.sync_daemon.specs.SentKeys.{SendsOffered}
use Rattle.sync_daemon.specs.declared.round.Settled.{Settled}
use Rattle.sync_daemon.proofs.GoingLemmas.{had_then, late_then}
use Rattle.sync_daemon.proofs.JoinLemmas.{asked_then, empty_then, head_then, offers_then, orders_then, pushes_then, round_then, some_then, stage_then}
use Rattle.sync_daemon.proofs.PushLemmas.{IsUploading, asked_same, asks_nothing, empty_more, empty_on, found_on, push_follows, pushes_on, round_same, some_on, stage_until}
use Rattle.sync_daemon.proofs.RoundLemmas.{differs_of, not_head}
use Rattle.sync_daemon.proofs.SettleLemmas.{caused_then}
use Rattle.sync_daemon.proofs.SentPushLemmas.{push_sends}
use Rattle.sync_daemon.proofs.UnpushedLemmas.{round_puts}

-- ---- one order that came too late

stale_of : (ending : Ending) (last count : ℕ) → IsRefusedBy ending (refusal.Stale last count) → is_stale ending ≡ true
stale_of (Ok (Plain (reply.Refused r) tag)) last count is = ap (λ (x : Refusal). is_stale (Ok (Plain (reply.Refused x) tag))) is
stale_of (Ok (Refused r)) last count is = ap (λ (x : Refusal). is_stale (Ok (Refused x))) is
stale_of _ last count is = absurd is

one_late : (sent : Sent) → is_stale sent.1 ≡ true → stale_count (sent ∷ []) ≡ 1
one_late sent late = ap (λ (b : Bool). length (cons_option (if b then Some sent else None) [])) late

-- an update names nothing
update_names : (sent : Sent) (id : List ℕ) → sent.0.what ≡ what.Update id → names_in sent ≡ []
update_names sent id is = ap (λ (w : What). filter_map if_named (named_by w ++ got_by w sent.1)) is

option_some : (base x y : Option (List ℕ)) → is_some base ≡ true → option_or base x ≡ option_or base y
option_some None x y is = cc
option_some (Some b) x y is = refl

named_then : (first more : List Sent) → keys_named (first ++ more) ≡ keys_named first ++ keys_named more
named_then first more =
    ap (map (λ (named : Named). named.0)) (flat_map-append (λ (sent : Sent). named_by sent.0.what) first more)
    ∙ map-append (λ (named : Named). named.0) (flat_map (λ (sent : Sent). named_by sent.0.what) first) (flat_map (λ (sent : Sent). named_by sent.0.what) more)

all_first : {X : Type 0} (P : X → Type 0) (xs ys : List X) → All P (xs ++ ys) → All P xs
all_first P [] ys all = All-nil P
all_first P (x ∷ xs) ys all = All-cons P x xs (All-head P x (xs ++ ys) all) (all_first P xs ys (All-tail P x (xs ++ ys) all))

module _ (asker : Asker) (user : List ℕ) (shows : ℕ → Type 0) (cuts : Cuts) (told : Option Contents) (index : Index) (start first : List Sent) (late : ℕ) (report : Scan)
    (asked : Option (List ℕ)) (joined : IsJoined (sync_of asker user shows cuts told index) first late true asked) (seen : (c : Contents) → told ≡ Some c → IsSeen cuts c report)
    (changed : TellsChange report index true) (parent : List ℕ) (parent_is : option_or index.base asked ≡ Some parent) (moment : ℕ) (shown : shows moment) (more : List Sent)
    (result : Result Pushed SyncFault) (pushes : PushesSo (record { lib = asker.lib; secret = asker.secret }) user moment parent told cuts index report more result)
    (needs : (more ≡ []) ⊎ NamesOffered (record { lib = asker.lib; secret = asker.secret }) user moment parent index report more) where
  abbrev this : Sync
  this = sync_of asker user shows cuts told index

  at_uploads : stage_from Begins first ≡ Uploads
  at_uploads = joined.going.reached ∙ joined.may_upload

  parent_asked : option_or index.base (asked_head first None) ≡ Some parent
  parent_asked = by asked joined.asked_for parent_is
    where
      by : (o : Option (List ℕ)) → IsAskedFor index.base o first → option_or index.base o ≡ Some parent → option_or index.base (asked_head first None) ≡ Some parent
      by None (based, unasked) is = option_some index.base (asked_head first None) None based ∙ is
      by (Some head) (none, of_round, named) is = ap (option_or index.base) of_round ∙ is

  parent_at : (done : List Sent) → All IsUploading done → Some parent ≡ option_or index.base (asked_head (first ++ done) None)
  parent_at done ups = sym (ap (option_or index.base) (asked_then None first done ∙ asked_same (asked_head first None) done ups) ∙ parent_asked)

  -- no head was asked where the index has a base
  unasked : is_some index.base ≡ true → asked_head first None ≡ None
  unasked = by asked joined.asked_for
    where
      by : (o : Option (List ℕ)) → IsAskedFor index.base o first → is_some index.base ≡ true → asked_head first None ≡ None
      by None (based, none) has = none
      by (Some head) (none, of_round, named) has = absurd (true≢false (sym has ∙ ap is_some none))

  orders : AsksSo asker.lib asker.secret user shows index.base (first ++ more)
  orders = orders_then asker.lib asker.secret user shows index.base first more joined.going.orders
      (push_follows asker.lib asker.secret user shows moment shown index.base parent first more parent_asked unasked at_uploads joined.fresh.lacked joined.fresh.put
      pushes.asks pushes.uploads pushes.made pushes.puts pushes.rounds)

  unbegun : All (λ (key : Key). is_block key.kind ≡ false) (keys_asked (first ++ more))
  unbegun =
      subst (All (λ (key : Key). is_block key.kind ≡ false))
      (sym (flat_map-append (λ (sent : Sent). asked_by sent.0.what) first more ∙ ap (λ (keys : List Key). keys_asked first ++ keys) (asks_nothing more pushes.uploads) ∙ append-nil (keys_asked first))) joined.going.unbegun

  spares : Spares this (first ++ more)
  spares = λ based. flat_map-append (λ (sent : Sent). asked_by sent.0.what) first more ∙ (λ i. joined.spares based i ++ asks_nothing more pushes.uploads i)

  -- ---- over a folder that tells what it holds

  module _ (c : Contents) (is : told ≡ Some c) where
    was : GoingOver this c first
    was = joined.going.over c is

    once : OffersOnce cuts c index user moment parent more
    once = pushes.offers c is (seen c is).formed (seen c is).scanned

    upload_of : (done : List Sent) (id : List ℕ) → All IsUploading done → (objects : Objects) → IsUploadOf objects index done id → IsUploadOf objects index (last_round (first ++ done) []) id
    upload_of done id ups objects of =
        let same : keys_named (last_round (first ++ done) []) ≡ keys_named done =
        ap keys_named (round_then [] first done ∙ round_same (last_round first []) done ups) ∙ named_then (last_round first []) done
        ∙ ap (λ (keys : List Key). keys ++ keys_named done) joined.fresh.named in
        record {
          needed = subst (All (λ (key : Key). ReachedFrom objects [] (commit_key id ∷ []) key)) (sym same) of.needed;
          whole = λ key reached. ap (λ (keys : List Key). is_in keys key) same ∙ of.whole key reached;
        }

    offer_at : (done : List Sent) (sent : Sent) (rest : List Sent) → more ≡ done ++ sent ∷ rest → All IsUploading done → (w : What) → sent.0.what ≡ w
        → OffersAt cuts c index user shows (first ++ done) w
    offer_at done sent rest split ups (what.Update id) asks =
        let here = once done sent rest id split asks in (
          was.had ++ here.0,
          had_then first done was.had here.0 was.is_had here.1,
          λ objects base over.
              let both = here.2 objects base (over_later objects cuts c index base was.had here.0 over) in (
                moment,
                shown,
                subst (λ (p : Option (List ℕ)). IsOffer objects cuts c index moment user p id) (parent_at done ups) both.0,
                upload_of done id ups objects both.1,
              ),
        )
    offer_at done sent rest split ups _ asks = tt

    offers_from : (done rest : List Sent) → more ≡ done ++ rest → All IsUploading done → All IsUploading rest → OffersEach cuts c index user shows (first ++ done) rest
    offers_from done [] split ups more_ups = tt
    offers_from done (sent ∷ rest) split ups more_ups = (
      offer_at done sent rest split ups sent.0.what refl,
      subst (λ (before : List Sent). OffersEach cuts c index user shows before rest) (sym (append_assoc first done (sent ∷ [])))
          (offers_from (done ++ sent ∷ []) rest (split ∙ sym (append_assoc done (sent ∷ []) rest))
          (All-append IsUploading done (sent ∷ []) ups (All-cons IsUploading sent [] (All-head IsUploading sent rest more_ups) (All-nil IsUploading)))
          (All-tail IsUploading sent rest more_ups)),
    )

    offers_all : OffersEach cuts c index user shows first more
    offers_all = subst (λ (before : List Sent). OffersEach cuts c index user shows before more) (append-nil first) (offers_from [] more refl (All-nil IsUploading) pushes.uploads)

    uploads_over : UploadsSo cuts c index user (first ++ more) shows
    uploads_over = record {
      changed = λ same. absurd (differs_of cuts c report (seen c is) index changed same);
      joins = λ none has. empty_then [] first more (was.uploads.joins none has) (empty_on first more pushes.uploads (joined.joins c is none has));
      offers = offers_then cuts c index user shows [] first more was.uploads.offers offers_all;
    }

    sends_over : SendsOffered asker user shows cuts c index [] (first ++ more)
    sends_over = push_sends asker user shows cuts c index first joined.fresh moment shown parent report (seen c is).scanned more pushes.uploads needs was.sends

    order_over : GoesInOrder cuts c index (first ++ more)
    order_over = record {
      scanned = inr (seen c is).within;
      found = λ none has. some_then [] first more (was.order.found none has) (some_on first more pushes.uploads (was.found none has));
      pushed = pushes_then cuts c index [] first more was.order.pushed (pushes_on cuts c index first more pushes.uploads);
    }

    found_over : index.base ≡ None → HasPath c → FindsSome (first ++ more) → ⊥
    found_over none has = found_on first more pushes.uploads (was.found none has)

  -- ---- it was taken, or came too late

  module _ (done : List Sent) (sent : Sent) (id : List ℕ) (split : more ≡ done ++ sent ∷ []) (asks : sent.0.what ≡ what.Update id) (went : All WentWell more) where
    had_of : (c : Contents) → told ≡ Some c → (had : List (Key × List ℕ)) × IsHad (first ++ more) had
    had_of c is =
        let here = once c is done sent [] id split asks in
        let same : flat_map names_in more ≡ flat_map names_in done =
        ap (flat_map names_in) split ∙ flat_map-append names_in done (sent ∷ []) ∙ ap (λ (names : List Named). flat_map names_in done ++ (names ++ [])) (update_names sent id asks)
        ∙ append-nil (flat_map names_in done) in
        let mine : IsHad more here.0 = subst (λ (names : List Named). IsHadFor names here.0) (sym same) here.1 in
        ((was c is).had ++ here.0, had_then first more (was c is).had here.0 (was c is).is_had mine)

    until : stage_from Uploads done ≡ Uploads
    until = stage_until done sent (subst (All IsUploading) split pushes.uploads) (subst (GoesInRounds Uploads) split pushes.rounds)

    ends_at : stage_from Begins (first ++ more) ≡ stage_after sent.0.what sent.1 Uploads
    ends_at =
        stage_then Begins first more ∙ ap (λ (stage : Stage). stage_from stage more) at_uploads ∙ ap (stage_from Uploads) split ∙ stage_then Uploads done (sent ∷ [])
        ∙ ap (stage_after sent.0.what sent.1) until

    going_on : (stage : Stage) (count : ℕ) → stage_after sent.0.what sent.1 Uploads ≡ stage → stale_count more ≡ count → Going this (first ++ more) stage (late + count)
    going_on stage count at lates = record {
      orders = orders;
      went = All-append WentWell first more joined.going.went went;
      reached = ends_at ∙ at;
      lates = late_then first more ∙ (λ i. joined.going.lates i + lates i);
      unbegun = unbegun;
      over = λ c is.
          let had : (had : List (Key × List ℕ)) × IsHad (first ++ more) had = had_of c is in
          record { uploads = uploads_over c is; order = order_over c is; found = found_over c is; sends = sends_over c is; had = had.0; is_had = had.1 };
    }

    all_split : first ++ more ≡ (first ++ done) ++ sent ∷ []
    all_split = ap (λ (sends : List Sent). first ++ sends) split ∙ sym (append_assoc first done (sent ∷ []))

  -- ---- what a round comes to

  abbrev pushed_to : Owns → List ℕ → List ℕ → Settled
  pushed_to owns commit head = record { scan = report; owns = owns; head = head; pushed = Some commit; moment = moment; differs = false }

  pub push_goes : (owns : Owns) → AreChangedOwns index.entries report.paths owns → (commit head : List ℕ) → EndsPush more (Ok (Installed commit head)) → HoldsOffer (record { lib = asker.lib; secret = asker.secret }) user moment parent index report more commit × PutsChanged index report more
      → IsSettled this (first ++ more) (pushed_to owns commit head)
  unfolding was had_of
  push_goes owns are commit head (went, done, order, tag, split, asks, none) held =
      let sent : Sent = (order, Ok (Plain (reply.Updated head) tag)) in
      let whole : first ++ more ≡ (first ++ done) ++ sent ∷ [] = all_split done sent commit split asks went in
      let of_round : last_round (first ++ more) [] ≡ last_round first [] ++ more = round_then [] first more ∙ round_same (last_round first []) more pushes.uploads in
      let ups : All IsUploading done = all_first IsUploading done (sent ∷ []) (subst (All IsUploading) split pushes.uploads) in
      record {
        stage = Stands;
        late = late + 0;
        going = going_on done sent commit split asks went Stands 0 (ap (λ (w : What). stage_after w (Ok (Plain (reply.Updated head) tag)) Uploads) asks) none;
        few = let few : late ≤ 2 = joined.few in omega (arith, few);
        may_get = λ w get. get;
        named = ap (λ (sends : List Sent). last_head sends None) whole ∙ head_then None (first ++ done) (sent ∷ [])
            ∙ ap (λ (w : What). head_after w (Ok (Plain (reply.Updated head) tag)) (last_head (first ++ done) None)) asks;
        spares = spares;
        shown = shown;
        owns = are;
        pushed_as = λ id is.
            let both : Some commit ≡ Some id = is in
            let one : commit ≡ id = cc in
            subst (λ (other : List ℕ). IsPushed this (first ++ more) (pushed_to owns commit head) other) one (record {
              ends = (first ++ done, sent, whole, asks);
              parent = parent;
              offer = held_then (record { lib = asker.lib; secret = asker.secret }) user moment parent index report first more commit held.0;
              round = subst (λ (sends : List Sent). HoldsOffer (record { lib = asker.lib; secret = asker.secret }) user moment parent index report sends commit) (sym of_round)
                  (held_then (record { lib = asker.lib; secret = asker.secret }) user moment parent index report (last_round first []) more commit held.0);
              put = round_puts index report first more joined.fresh of_round held.1;
            });
        seen = seen;
        agrees = λ c is none_pushed same. absurd (true≢false (ap is_some none_pushed));
        differs = λ apart. absurd (true≢false (sym apart));
        offered = λ c is.
            let here = once c is done sent [] commit split asks in
            let had : (had : List (Key × List ℕ)) × IsHad (first ++ more) had = had_of done sent commit split asks went c is in (
              (was c is).had ++ here.0,
              had.1,
              λ objects base over. (
                differs_of cuts c report (seen c is) index changed,
                subst (λ (p : Option (List ℕ)). IsOffer objects cuts c index moment user p commit) (parent_at more pushes.uploads)
                    (here.2 objects base (over_later objects cuts c index base (was c is).had here.0 over)).0,
              ),
            );
        behind = λ c is none has before other same. not_head (first ++ done) sent (λ e. let clash : what.Update commit ≡ what.Head None = sym asks ∙ e in cc) before other (sym whole ∙ same);
      }

  pub push_late : (count : ℕ) → EndsPush more (Ok (Late count)) → Going this (first ++ more) Begins (late + 1) × Spares this (first ++ more) × EndsLate (first ++ more) count
  push_late count (went, done, order, ending, id, last, split, asks, refused, none) =
      let sent : Sent = (order, ending) in
      let stale : is_stale ending ≡ true = stale_of ending last count refused in
      let sum : stale_count more ≡ stale_count done + stale_count (sent ∷ []) = ap stale_count split ∙ late_then done (sent ∷ []) in
      let once_more : stale_count (sent ∷ []) ≡ 1 = one_late sent stale in
      let total : stale_count more ≡ 1 = omega (arith, sum, once_more, none) in (
        going_on done sent id split asks went Begins 1
            (ap (λ (w : What). stage_after w ending Uploads) asks ∙ ap (λ (b : Bool). if b then Begins else Stands) stale) total,
        spares,
        (first ++ done, sent, last, all_split done sent id split asks went, refused),
      )

  -- ---- it stopped

  begun_none : (f : SyncFault) → CausedBy IsPushFault more f → HasNotBegun (first ++ more) f
  begun_none (fault.BadTree (walk.WrongSize id)) (inl never) = never
  begun_none (fault.BadTree (walk.WrongSize id)) (inr (went, never)) = never
  begun_none (fault.BadTree _) cause = unbegun
  begun_none _ cause = unbegun

  tree_none : (f : SyncFault) → CausedBy IsPushFault more f → NeedsNoTree f
  tree_none (fault.Blocked path) cause = cause
  tree_none _ cause = tt

  comes : (c : Contents) → told ≡ Some c → (f : SyncFault) → CausedBy IsPushFault more f → ComesInOrder c index (first ++ more) f
  comes c is (fault.Scan why) cause = absurd cause
  comes c is (fault.Refused r) cause = λ went. ((seen c is).within, λ none has. empty_more first more pushes.uploads (joined.joins c is none has))
  comes c is fault.NotEmpty cause = tt
  comes c is fault.NoMemory cause = tt
  comes c is (fault.Remote g) cause = tt
  comes c is (fault.Damaged want got) cause = tt
  comes c is _ cause = found_over c is

  -- over a folder that tells what it holds no change is told
  abbrev IfNoChange : SyncFault → Type 0
  IfNoChange f = (c : Contents) → told ≡ Some c → is_change f ≡ false

  so_here : (f : SyncFault) → IfNoChange f → IsPushFault f → IsSoInRound cuts told index (first ++ more) f
  so_here fault.Folder none is = (tt, tt)
  so_here (fault.Changed path) none is = ((λ c told_so. true≢false (none c told_so)), tt)
  so_here _ none is = absurd is

  pub push_fails : (f : SyncFault) → EndsPush more (Err f) → IfNoChange f → Refuses this (first ++ more) f
  push_fails f (goes, cause, own, none) no_change = record {
    orders = orders;
    ends = (
      went_then first more joined.going.went goes,
      caused_then (IsSoInRound cuts told index (first ++ more)) first more f cause none (so_here f no_change),
      (λ other. All-append WentWell first more joined.going.went (own other)),
      (λ early.
          let sum : stale_count (first ++ more) ≡ stale_count first + stale_count more = late_then first more in
          let lates : stale_count first ≡ late = joined.going.lates in
          let few : late ≤ 2 = joined.few in
          omega (arith, sum, lates, none, few)),
    );
    over = λ c is. record {
      uploads = uploads_over c is;
      sends = sends_over c is;
      order = order_over c is;
      comes = comes c is f cause;
      cause = inl (tree_none f cause, begun_none f cause);
    };
  }
