-- A push in the words of a sync, from what was uploaded and how the library was asked to stand. The key lemmas are push_none, push_stopped,
-- push_stood, last_update and no_change_of.
use Rattle.std.proofs.Common.{◌≡◌, ◌||◌, inl, inr, ℕ, Bool, true, false, All, List, [], ◌∷◌, ◌++◌, Option, None, Some, Result, Ok, Err, refl, sym, ap, ◌∙◌, subst, append_assoc, true≢false}
use Rattle.std.proofs.lemmas.Bool.{or_left, or_right}
use Rattle.std.proofs.lemmas.List.{append-nil}
use Rattle.std.proofs.lemmas.List.Elements.{All-append, All-cons, All-nil}
use Rattle.std.specs.Prelude.{⊤, IfErr}
use Rattle.std.specs.List.{AllByRecursion}
use Rattle.ids.specs.declared.key.Key.{Key}
use Rattle.block_chunker.specs.declared.cuts.Cuts.{Cuts}
use Rattle.folder_side.specs.Folder.{Contents, IsFolder}
use Rattle.folder_side.specs.ScanReport.{IsScan}
use Rattle.folder_side.specs.declared.scan_report.Scan.{Scan}
use Rattle.http_front.specs.declared.order.What.{What}
use Rattle.http_front.specs.declared.order.What.TheVariants as what
use Rattle.http_front.specs.declared.outcome.Outcome.TheVariants as outcome
use Rattle.library_state.specs.declared.refusal.Refusal.TheVariants as refusal
use Rattle.library_state.specs.declared.reply.Reply.{Reply}
use Rattle.library_state.specs.declared.reply.Reply.TheVariants as reply
use Rattle.library_state.specs.declared.tag.Tag.{Tag}
use Rattle.local_index.specs.declared.index.Index.{Index}
use Rattle.object_graph.specs.Objects.{commit_key}
use Rattle.object_graph.specs.Traversal.{is_in}
use Rattle.object_graph.proofs.KeyLemmas.{in_append, same_key, same_key-itself}
use Rattle.remote_calls.specs.Sends.{Ending, Sent}
use Rattle.sync_rules.specs.Causes.{WentWell, is_stale, stale_count}
use Rattle.sync_rules.specs.Named.{IsNamedSo, is_upload, keys_lacked, keys_put, lacked_by}
use Rattle.sync_rules.specs.Orders.{GoesInRounds, IsLacked, IsSyncCommit, IsSyncOrder, MadeSo, PutsLacked}
use Rattle.sync_rules.specs.Orders.Stage.{Uploads}
use Rattle.sync_rules.specs.declared.fault.SyncFault.{SyncFault}
use Rattle.sync_rules.specs.declared.fault.SyncFault.TheVariants as fault
use Rattle.sync_rules.proofs.WentLemmas.{goes_well, went_then}
use Rattle.tree_push.specs.Asking.{ArePuts, IsOrderFault, IsSend, Replies, is_put, order_for}
use Rattle.tree_push.specs.BlockUpload.{IsNoChange, NotChanged}
use Rattle.tree_push.specs.Pushing.{EndsPush, HoldsOffer, HoldsSo, OffersOnce, PushesSo, PutsChanged, StandAsSeen, is_change}
use Rattle.tree_push.specs.Standing.{IsOwnCommit, IsStored, offered_commit}
use Rattle.tree_push.specs.Upload.{SeesFolder, UploadsAll, UploadsSo, OfWanted}
use Rattle.tree_push.specs.declared.asking.Library.{Library}
use Rattle.tree_push.specs.declared.standing.Pushed.{Pushed}
use Rattle.tree_push.specs.declared.standing.Pushed.TheVariants.{Installed, Late}
use Rattle.tree_push.specs.declared.wanted.Wanted.{Wanted}
use Rattle.tree_push.proofs.BlockUploadLemmas.{order_no_change}
use Rattle.tree_push.proofs.NotedLemmas.{lacked_append}
use Rattle.tree_push.proofs.PutsLemmas.{put_append}
use Rattle.tree_push.proofs.RoundLemmas.{IsOrdered, TellsLast, asks_all, caused_by, ends_fresh, fresh_append, fresh_more, lacked_then, last_told, made_first, no_update, ordered_sends, ordered_stops, ordered_went, replied_fresh, replied_well, replies_refused, rounds_first, sends_fresh, sends_well, stands_put, stops_fresh, stops_well, uploads_all}
use Rattle.tree_push.proofs.TraceLemmas.{all_append}
use Rattle.tree_push.proofs.StoodLemmas.{EndsPut, EndsUpdate, StandsBy, put_of, update_of}

none_split : (first : List Sent) (sent : Sent) (later : List Sent) → [] ≡ first ++ sent ∷ later → ⊥
none_split [] sent later is = absurd (cc)
none_split (x ∷ first) sent later is = absurd (cc)

-- ---- no update stands among the orders of an upload

abbrev pub NoUpdate : Sent → Type 0
NoUpdate sent = (id : List ℕ) → sent.0.what ≡ what.Update id → ⊥

pub no_updates : (library : Library) (more : List Sent) → AllByRecursion (IsOrdered library) more → AllByRecursion NoUpdate more
no_updates library [] are = tt
no_updates library (sent ∷ more) are = ((λ id is. no_update sent.0.what id are.0.uploads is), no_updates library more are.1)

pub none_updates : (more : List Sent) → AllByRecursion NoUpdate more → (first : List Sent) (sent : Sent) (later : List Sent) (id : List ℕ) → more ≡ first ++ sent ∷ later → sent.0.what ≡ what.Update id → ⊥
none_updates [] are first sent later id is update = none_split first sent later is
none_updates (x ∷ more) are [] sent later id is update = let same : x ≡ sent = cc in are.0 id (ap (λ (s : Sent). s.0.what) same ∙ update)
none_updates (x ∷ more) are (y ∷ first) sent later id is update = let rest : more ≡ first ++ sent ∷ later = cc in none_updates more are.1 first sent later id rest update

-- an update behind orders that are none stands where it stands
pub record IsThere (xs first : List Sent) (u sent : Sent) : Type 0 where
  pub before : first ≡ xs
  pub same : sent ≡ u

pub last_update : (xs : List Sent) (u : Sent) → AllByRecursion NoUpdate xs → (first : List Sent) (sent : Sent) (later : List Sent) (id : List ℕ) → xs ++ u ∷ [] ≡ first ++ sent ∷ later
    → sent.0.what ≡ what.Update id → IsThere xs first u sent
last_update [] u are [] sent later id is update = let same : sent ≡ u = cc in record { before = refl; same = same }
last_update [] u are (y ∷ first) sent later id is update = let rest : [] ≡ first ++ sent ∷ later = cc in absurd (none_split first sent later rest)
last_update (x ∷ xs) u are [] sent later id is update = let same : x ≡ sent = cc in absurd (are.0 id (ap (λ (s : Sent). s.0.what) same ∙ update))
last_update (x ∷ xs) u are (y ∷ first) sent later id is update =
    let rest : xs ++ u ∷ [] ≡ first ++ sent ∷ later = cc in
    let head : x ≡ y = cc in
    let found = last_update xs u are.1 first sent later id rest update in
    record { before = ap (λ (s : Sent). s ∷ first) (sym head) ∙ ap (λ (l : List Sent). x ∷ l) found.before; same = found.same }

no_change : (f : SyncFault) → IsNoChange f → is_change f ≡ false
no_change (fault.Changed path) is = absurd is
no_change _ is = refl

-- ---- nothing was sent

module _ (library : Library) (user : List ℕ) (moment : ℕ) (parent : List ℕ) (told : Option Contents) (cuts : Cuts) (index : Index) (scan : Scan) where
  pub push_none : PushesSo library user moment parent told cuts index scan [] (Err fault.NoMemory)
  push_none = record {
    asks = All-nil (IsSyncOrder library.lib library.secret);
    uploads = All-nil (λ (sent : Sent). is_upload sent.0.what ≡ true);
    made = tt;
    puts = tt;
    rounds = tt;
    ends = (tt, tt, (λ other. All-nil WentWell), refl);
    holds = tt;
    offers = λ c is folder seen first sent later id at update. absurd (none_split first sent later at);
    looks = λ c is first sent later id at update. absurd (none_split first sent later at);
    no_change = λ c is folder seen within. refl;
  }

  -- ---- the upload stopped

  pub push_stopped : (wanted : Wanted) (old new : List Sent) (f : SyncFault) (up : UploadsSo library wanted old new (Err f))
      → ((c : Contents) → told ≡ Some c → SeesFolder cuts c scan.paths → NotChanged {T = ⊤} (Err f)) → PushesSo library user moment parent told cuts index scan up.more (Err f)
  push_stopped wanted old new f up cause =
      let are = ordered_stops library (OfWanted wanted) f up.more up.ends in
      let last = last_told library (OfWanted wanted) f up.more up.ends in
      record {
        asks = asks_all library up.more are;
        uploads = uploads_all library up.more are;
        made = subst (λ (more : List Sent). MadeSo library.lib user (λ other. other ≡ moment) (Some parent) None what.Version more) (append-nil up.more)
            (made_first library.lib user (λ other. other ≡ moment) (Some parent) None library up.more [] are (λ before. tt) what.Version);
        puts = up.puts;
        rounds = subst (λ (more : List Sent). GoesInRounds Uploads more) (append-nil up.more) (rounds_first library up.more [] are tt);
        ends = (stops_well library (OfWanted wanted) f up.more up.ends, caused_by f up.more last, (λ other. ordered_went f up.more other last), stops_fresh library (OfWanted wanted) f up.more up.ends);
        holds = tt;
        offers = λ c is folder seen first sent later id at update. absurd (none_updates up.more (no_updates library up.more are) first sent later id at update);
        looks = λ c is first sent later id at update. absurd (none_updates up.more (no_updates library up.more are) first sent later id at update);
        no_change = λ c is folder seen within. no_change f (cause c is seen.paths);
      }

  -- ---- the commit

  module _ (root id text : List ℕ) (own : IsOwnCommit library root parent user moment id text) where
    sync_commit : IsSyncCommit library.lib user (λ other. other ≡ moment) (Some parent) id text
    sync_commit = record {
      root = root;
      moment = moment;
      shown = refl;
      based = refl;
      commit = offered_commit library root parent user moment;
      is = refl;
      named = sym own.named;
      spelled = own.spelled;
      reads = own.reads;
    }

    made_put : (ending : Ending) (before : What) → MadeSo library.lib user (λ other. other ≡ moment) (Some parent) None before (put_of library id text ending ∷ [])
    made_put ending before = (stands_put library.lib user (λ other. other ≡ moment) (Some parent) before (commit_key id) text, sync_commit, tt)

    made_both : (ending last : Ending) (before : What) → MadeSo library.lib user (λ other. other ≡ moment) (Some parent) None before (put_of library id text ending ∷ update_of library id last ∷ [])
    made_both ending last before =
        (stands_put library.lib user (λ other. other ≡ moment) (Some parent) before (commit_key id) text, sync_commit, ((refl, sync_commit), tt, tt))

  asks_put : (id text : List ℕ) (ending : Ending) → IsSyncOrder library.lib library.secret (put_of library id text ending)
  asks_put id text ending = (refl, refl, refl, tt)

  asks_update : (id : List ℕ) (ending : Ending) → IsSyncOrder library.lib library.secret (update_of library id ending)
  asks_update id ending = (refl, refl, refl, tt)

  -- a commit may be put at any time
  puts_put : (round : List Sent) (id text : List ℕ) (ending : Ending) (later : List Sent) → PutsLacked (round ++ put_of library id text ending ∷ []) later
      → PutsLacked round (put_of library id text ending ∷ later)
  puts_put round id text ending later puts = (All-cons (IsLacked round) (commit_key id) [] tt (All-nil (IsLacked round)), puts)

  module _ (wanted : Wanted) (more : List Sent) (went : AllByRecursion (IsSend library (OfWanted wanted)) more) (all : UploadsAll library wanted more) (lacks : PutsLacked [] more) where
    are : AllByRecursion (IsOrdered library) more
    are = ordered_sends library (OfWanted wanted) more went

    -- orders that put tell nothing of what is lacking
    puts_lack : (third : List Sent) → ArePuts third → keys_lacked third ≡ []
    puts_lack [] puts = refl
    puts_lack (sent ∷ third) puts = by sent.0.what puts.0 (puts_lack third puts.1)
      where
        by : (asked : What) → is_put asked ≡ true → keys_lacked third ≡ [] → lacked_by asked sent.1 ++ keys_lacked third ≡ []
        by (what.Put key bytes) put none = none
        by (what.PutFs rows) put none = none
        by _ put none = absurd (true≢false (sym put))

    -- all that was lacking was put before the update
    pub all_put : (id text : List ℕ) (ending : Ending) (key : Key) → is_in (keys_lacked (more ++ put_of library id text ending ∷ [])) key ≡ true
        → is_in (keys_put (more ++ put_of library id text ending ∷ [])) key ≡ true
    all_put id text ending key there =
        let asked = all.first ++ all.second in
        let in_more : keys_lacked (more ++ put_of library id text ending ∷ []) ≡ keys_lacked asked
        = lacked_append more (put_of library id text ending ∷ []) ∙ append-nil (keys_lacked more) ∙ ap keys_lacked all.is ∙ lacked_append asked all.third
        ∙ ap (λ (keys : List Key). keys_lacked asked ++ keys) (puts_lack all.third all.puts) ∙ append-nil (keys_lacked asked) in
        let put : is_in (keys_put all.third) key ≡ true = all.lacked key ∙ ap (λ (keys : List Key). is_in keys key) (sym in_more) ∙ there in
        ap (λ (keys : List Key). is_in keys key) (put_append more (put_of library id text ending ∷ [])) ∙ in_append (keys_put more) (commit_key id ∷ []) key
        ∙ or_left (is_in (keys_put more) key) (is_in (commit_key id ∷ []) key)
        (ap (λ (sends : List Sent). is_in (keys_put sends) key) all.is ∙ ap (λ (keys : List Key). is_in keys key) (put_append asked all.third) ∙ in_append (keys_put asked) (keys_put all.third) key
        ∙ or_right (is_in (keys_put asked) key) (is_in (keys_put all.third) key) put)

    all_of : (P : Key → Type 0) (keys : List Key) → ((key : Key) → is_in keys key ≡ true → P key) → All P keys
    all_of P [] so = All-nil P
    all_of P (key ∷ keys) so =
        All-cons P key keys (so key (ap (λ (b : Bool). b || is_in keys key) (same_key-itself key)))
        (all_of P keys (λ other there. so other (or_right (same_key other key) (is_in keys other) there)))

    puts_both : (id text : List ℕ) (ending last : Ending) → PutsLacked more (put_of library id text ending ∷ update_of library id last ∷ [])
    puts_both id text ending last =
        let round = more ++ put_of library id text ending ∷ [] in
        puts_put more id text ending (update_of library id last ∷ []) (all_of (λ key. is_in (keys_put round) key ≡ true) (keys_lacked round) (all_put id text ending), tt)

    well : All WentWell more
    well = sends_well library (OfWanted wanted) more went

    put_well : (id text : List ℕ) (ending : Ending) (r : Reply) → Replies ending r → IsStored r → WentWell (put_of library id text ending)
    put_well id text ending (reply.Stored is_new) replied stored =
        replied_well (what.Put (commit_key id) text) (order_for library (what.Put (commit_key id) text)) (reply.Stored is_new) ending refl refl replied refl
    put_well id text ending _ replied stored = absurd stored

    stored_fresh : (ending : Ending) (r : Reply) → Replies ending r → IsStored r → is_stale ending ≡ false
    stored_fresh ending (reply.Stored is_new) replied stored = replied_fresh (reply.Stored is_new) ending replied refl
    stored_fresh ending _ replied stored = absurd stored

    -- ---- how it ends

    ends_put : (id text : List ℕ) (ending : Ending) (result : Result Pushed SyncFault) → EndsPut library id text ending result → EndsPush (more ++ put_of library id text ending ∷ []) result
    ends_put id text ending (Ok pushed) ends = absurd ends
    ends_put id text ending (Err f) (inl ends) =
        let last : TellsLast f (more ++ put_of library id text ending ∷ []) = record { before = more; sent = put_of library id text ending; ends = refl; told = ends } in (
          went_then more (put_of library id text ending ∷ []) well tt,
          caused_by f (more ++ put_of library id text ending ∷ []) (inr last),
          (λ other. ordered_went f (more ++ put_of library id text ending ∷ []) other (inr last)),
          fresh_append more (put_of library id text ending ∷ []) (sends_fresh library (OfWanted wanted) more went)
              (fresh_more (put_of library id text ending) [] (ends_fresh (what.Put (commit_key id) text) ending f ends) refl),
        )
    ends_put id text ending (Err f) (inr none) =
        subst (λ (g : SyncFault). EndsPush (more ++ put_of library id text ending ∷ []) (Err g)) (sym none.0) (
          went_then more (put_of library id text ending ∷ []) well tt,
          tt,
          (λ other. absurd (true≢false other)),
          fresh_append more (put_of library id text ending ∷ []) (sends_fresh library (OfWanted wanted) more went)
              (fresh_more (put_of library id text ending) [] (stored_fresh ending none.1.0 none.1.1 none.1.2) refl),
        )

    told_updated : (last : Ending) (head : List ℕ) → Replies last (reply.Updated head) → (tag : Tag) × (last ≡ Ok (outcome.Plain (reply.Updated head) tag))
    told_updated (Ok (outcome.Plain told tag)) head replied = (tag, ap (λ (t : Reply). Ok (outcome.Plain t tag)) (sym replied))
    told_updated (Ok (outcome.Refused why)) head replied = absurd (cc)
    told_updated _ head replied = absurd replied

    late_well : (id : List ℕ) (last : Ending) (before now : ℕ) → Replies last (reply.Refused (refusal.Stale before now)) → WentWell (update_of library id last)
    late_well id (Ok (outcome.Plain told tag)) before now replied =
        subst (λ (t : Reply). WentWell (update_of library id (Ok (outcome.Plain t tag)))) replied (refl, All-nil IsNamedSo)
    late_well id (Ok (outcome.Refused why)) before now replied =
        let same : refusal.Stale before now ≡ why = cc in subst (λ w. WentWell (update_of library id (Ok (outcome.Refused w)))) same (refl, All-nil IsNamedSo)
    late_well id _ before now replied = absurd replied

    module _ (id text : List ℕ) (ending last : Ending) (r : Reply) (replied : Replies ending r) (stored : IsStored r) where
      abbrev put : Sent
      put = put_of library id text ending

      abbrev whole : List Sent
      whole = more ++ put ∷ update_of library id last ∷ []

      abbrev front : List Sent
      front = more ++ put ∷ []

      front_fresh : stale_count front ≡ 0
      front_fresh = fresh_append more (put ∷ []) (sends_fresh library (OfWanted wanted) more went) (fresh_more put [] (stored_fresh ending r replied stored) refl)

      all_well : WentWell (update_of library id last) → All WentWell whole
      all_well updates =
          All-append WentWell more (put ∷ update_of library id last ∷ []) well
          (All-cons WentWell put (update_of library id last ∷ []) (put_well id text ending r replied stored) (All-cons WentWell (update_of library id last) [] updates (All-nil WentWell)))

      split : whole ≡ front ++ update_of library id last ∷ []
      split = sym (append_assoc more (put ∷ []) (update_of library id last ∷ []))

      ends_update : (result : Result Pushed SyncFault) → EndsUpdate library id last result → EndsPush whole result
      ends_update (Ok (Installed commit head)) (told, tells, is) =
          let updated : Replies last (reply.Updated head) = subst (λ (t : Reply). Replies last t) is.1 tells in
          let ended = told_updated last head updated in (
            all_well (replied_well (what.Update id) (order_for library (what.Update id)) (reply.Updated head) last refl refl updated refl),
            front,
            order_for library (what.Update id),
            ended.0,
            split ∙ ap (λ (e : Ending). front ++ (order_for library (what.Update id), e) ∷ []) ended.1,
            ap what.Update (sym is.0),
            ap stale_count split
                ∙ fresh_append front (update_of library id last ∷ []) front_fresh
                (fresh_more (update_of library id last) [] (ap is_stale ended.1) refl),
          )
      ends_update (Ok (Late now)) (told, tells, is) =
          let late : Replies last (reply.Refused (refusal.Stale is.0 now)) = subst (λ (t : Reply). Replies last t) is.1 tells in (
            all_well (late_well id last is.0 now late),
            front,
            order_for library (what.Update id),
            last,
            id,
            is.0,
            split,
            refl,
            replies_refused last (refusal.Stale is.0 now) late,
            front_fresh,
          )
      ends_update (Err f) ends =
          let tells : TellsLast f whole = record { before = front; sent = update_of library id last; ends = split; told = ends.0 } in (
            went_then more (put ∷ update_of library id last ∷ []) well (put_well id text ending r replied stored, tt),
            caused_by f whole (inr tells),
            (λ other. ordered_went f whole other (inr tells)),
            ap stale_count split
                ∙ fresh_append front (update_of library id last ∷ []) front_fresh (fresh_more (update_of library id last) [] (ends_fresh (what.Update id) last f ends.0) refl),
          )

    -- ---- at what it stands

    holds_by : (sends : List Sent) (id : List ℕ) (last : Ending) (result : Result Pushed SyncFault) → EndsUpdate library id last result
        → HoldsOffer library user moment parent index scan sends id × PutsChanged index scan sends → HoldsSo library user moment parent index scan sends result
    holds_by sends id last (Ok (Installed commit head)) (told, tells, is) holds = (subst (HoldsOffer library user moment parent index scan sends) (sym is.0) holds.0, holds.1)
    holds_by sends id last (Ok (Late now)) ends holds = tt
    holds_by sends id last (Err f) ends holds = tt

    holds_none : (sends : List Sent) (id text : List ℕ) (ending : Ending) (result : Result Pushed SyncFault) → EndsPut library id text ending result
        → HoldsSo library user moment parent index scan sends result
    holds_none sends id text ending (Ok pushed) ends = absurd ends
    holds_none sends id text ending (Err f) ends = tt

    -- ---- all of it

    abbrev IsNotChanged : Result Pushed SyncFault → Type 0
    IsNotChanged result = IfErr result (λ f. is_change f ≡ false)

    pub push_stood : (root : List ℕ) (later : List Sent) (result : Result Pushed SyncFault) → StandsBy library root parent user moment later result
        → ((id text : List ℕ) (ending last : Ending) → IsOwnCommit library root parent user moment id text → later ≡ put_of library id text ending ∷ update_of library id last ∷ []
        → (c : Contents) → told ≡ Some c → IsFolder c → IsScan cuts c scan → OffersOnce cuts c index user moment parent (more ++ later))
        → ((id text : List ℕ) (ending last : Ending) → IsOwnCommit library root parent user moment id text → later ≡ put_of library id text ending ∷ update_of library id last ∷ []
        → HoldsOffer library user moment parent index scan (more ++ later) id × PutsChanged index scan (more ++ later))
        → ((c : Contents) → told ≡ Some c → StandAsSeen cuts c index scan) → IsNotChanged result
        → PushesSo library user moment parent told cuts index scan (more ++ later) result
    push_stood root later result (inl none) offers held stand quiet =
        subst (λ (l : List Sent). PushesSo library user moment parent told cuts index scan (more ++ l) result) (sym none.0)
        (subst (λ (l : List Sent). PushesSo library user moment parent told cuts index scan l result) (sym (append-nil more))
        (subst (λ (r : Result Pushed SyncFault). PushesSo library user moment parent told cuts index scan more r) (sym none.1) (record {
          asks = asks_all library more are;
          uploads = uploads_all library more are;
          made = subst (λ (l : List Sent). MadeSo library.lib user (λ other. other ≡ moment) (Some parent) None what.Version l) (append-nil more)
              (made_first library.lib user (λ other. other ≡ moment) (Some parent) None library more [] are (λ before. tt) what.Version);
          puts = lacks;
          rounds = subst (λ (l : List Sent). GoesInRounds Uploads l) (append-nil more) (rounds_first library more [] are tt);
          ends = (goes_well more well, tt, (λ other. absurd (true≢false other)), sends_fresh library (OfWanted wanted) more went);
          holds = tt;
          offers = λ c is folder seen first sent after id at update. absurd (none_updates more (no_updates library more are) first sent after id at update);
          looks = λ c is first sent after id at update. stand c is;
          no_change = λ c is folder seen within. refl;
        })))
    push_stood root later result (inr (inl only)) offers held stand quiet =
        let put = put_of library only.id only.text only.ending in
        subst (λ (l : List Sent). PushesSo library user moment parent told cuts index scan (more ++ l) result) (sym only.is) (record {
          asks = All-append (IsSyncOrder library.lib library.secret) more (put ∷ []) (asks_all library more are)
              (All-cons (IsSyncOrder library.lib library.secret) put [] (asks_put only.id only.text only.ending) (All-nil (IsSyncOrder library.lib library.secret)));
          uploads = All-append (λ (sent : Sent). is_upload sent.0.what ≡ true) more (put ∷ []) (uploads_all library more are)
              (All-cons (λ (sent : Sent). is_upload sent.0.what ≡ true) put [] refl (All-nil (λ (sent : Sent). is_upload sent.0.what ≡ true)));
          made = made_first library.lib user (λ other. other ≡ moment) (Some parent) None library more (put ∷ []) are (made_put root only.id only.text only.own only.ending) what.Version;
          puts = lacked_then library [] more (put ∷ []) are lacks (puts_put more only.id only.text only.ending [] tt);
          rounds = rounds_first library more (put ∷ []) are (refl, tt);
          ends = ends_put only.id only.text only.ending result only.ends;
          holds = holds_none (more ++ put ∷ []) only.id only.text only.ending result only.ends;
          offers = λ c is folder seen first sent after id at update.
              absurd (none_updates (more ++ put ∷ []) (no_updates_put only.id only.text only.ending) first sent after id at update);
          looks = λ c is first sent after id at update. stand c is;
          no_change = λ c is folder seen within. quiet;
        })
      where
        no_updates_put : (id text : List ℕ) (ending : Ending) → AllByRecursion NoUpdate (more ++ put_of library id text ending ∷ [])
        no_updates_put id text ending =
            all_append NoUpdate more (put_of library id text ending ∷ []) (no_updates library more are) ((λ other is. absurd (cc)), tt)
    push_stood root later result (inr (inr both)) offers held stand quiet =
        let put = put_of library both.id both.text both.ending in
        let update = update_of library both.id both.last in
        record {
          asks = subst (λ (l : List Sent). All (IsSyncOrder library.lib library.secret) (more ++ l)) (sym both.is)
              (All-append (IsSyncOrder library.lib library.secret) more (put ∷ update ∷ []) (asks_all library more are)
              (All-cons (IsSyncOrder library.lib library.secret) put (update ∷ []) (asks_put both.id both.text both.ending)
              (All-cons (IsSyncOrder library.lib library.secret) update [] (asks_update both.id both.last) (All-nil (IsSyncOrder library.lib library.secret)))));
          uploads = subst (λ (l : List Sent). All (λ (sent : Sent). is_upload sent.0.what ≡ true) (more ++ l)) (sym both.is)
              (All-append (λ (sent : Sent). is_upload sent.0.what ≡ true) more (put ∷ update ∷ []) (uploads_all library more are)
              (All-cons (λ (sent : Sent). is_upload sent.0.what ≡ true) put (update ∷ []) refl
              (All-cons (λ (sent : Sent). is_upload sent.0.what ≡ true) update [] refl (All-nil (λ (sent : Sent). is_upload sent.0.what ≡ true)))));
          made = subst (λ (l : List Sent). MadeSo library.lib user (λ other. other ≡ moment) (Some parent) None what.Version (more ++ l)) (sym both.is)
              (made_first library.lib user (λ other. other ≡ moment) (Some parent) None library more (put ∷ update ∷ []) are (made_both root both.id both.text both.own both.ending both.last) what.Version);
          puts = subst (λ (l : List Sent). PutsLacked [] (more ++ l)) (sym both.is)
              (lacked_then library [] more (put ∷ update ∷ []) are lacks (puts_both both.id both.text both.ending both.last));
          rounds = subst (λ (l : List Sent). GoesInRounds Uploads (more ++ l)) (sym both.is) (rounds_first library more (put ∷ update ∷ []) are (refl, (refl, tt)));
          ends = subst (λ (l : List Sent). EndsPush (more ++ l) result) (sym both.is) (ends_update both.id both.text both.ending both.last both.told both.replied both.stored result both.ends);
          holds = holds_by (more ++ later) both.id both.last result both.ends (held both.id both.text both.ending both.last both.own both.is);
          offers = λ c is folder seen. offers both.id both.text both.ending both.last both.own both.is c is folder seen;
          looks = λ c is first sent after id at update. stand c is;
          no_change = λ c is folder seen within. quiet;
        }

-- a fault of an order tells no change
pub no_change_of : (result : Result Pushed SyncFault) → IfErr result IsOrderFault → IfErr result (λ f. is_change f ≡ false)
no_change_of (Ok pushed) is = tt
no_change_of (Err f) is = no_change f (order_no_change f is)
