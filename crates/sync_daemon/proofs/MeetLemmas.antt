-- What the scan and the first meeting with a library leave. The key lemmas are scan_fails, join_goes and join_fails.
use Rattle.std.proofs.Common.{◌≡◌, ◌≤◌, ◌<◌, ◌⊎◌, ◌&&◌, ℕ, Bool, true, false, not, if◌then◌else◌, All, List, [], ◌∷◌, ◌++◌, map, length, Option, None, Some, is_ok, option_map, Result, Ok, Err, refl, sym, ap, subst, ◌∙◌, append_assoc, append-nil, inl, inr, true≢false, arith}
use Rattle.std.specs.Cmp.Lexicographic.{bytes_decides}
use Rattle.std.specs.List.{cons_option, filter_map, flat_map}
use Rattle.std.proofs.lemmas.Grind.{flat_map-append}
use Rattle.std.proofs.lemmas.List.Elements.{All-cons, All-nil, Contains-append_left}
use Rattle.ids.specs.ObjectId.{nil}
use Rattle.ids.specs.declared.key.Key.{Key}
use Rattle.tree_model.specs.declared.limits.TheConstants.{MAX_NAMES, MAX_PATHS}
use Rattle.block_chunker.specs.declared.cuts.Cuts.{Cuts}
use Rattle.commit_objects.specs.Commit.{commit_of}
use Rattle.commit_objects.specs.declared.commit.Commit.{Commit}
use Rattle.commit_objects.specs.declared.fault.BadCommit.{BadCommit}
use Rattle.folder_side.specs.Folder.{Contents}
use Rattle.folder_side.specs.ScanReport.{IsPastLimit, IsWithinLimits}
use Rattle.folder_side.specs.declared.error.ScanFault.{ScanFault}
use Rattle.folder_side.specs.declared.error.ScanFault.TheVariants as scan
use Rattle.http_front.specs.declared.order.What.{What}
use Rattle.http_front.specs.declared.order.What.TheVariants as what
use Rattle.http_front.specs.declared.outcome.Outcome.TheVariants.{Plain}
use Rattle.library_state.specs.declared.reply.Reply.TheVariants as reply
use Rattle.library_state.specs.declared.tag.Tag.{Tag}
use Rattle.local_index.specs.declared.index.Index.{Index}
use Rattle.object_graph.specs.Objects.{commit_in, commit_key, of_name, same_id}
use Rattle.object_graph.specs.Reached.{ReachedFrom}
use Rattle.tree_walk.specs.declared.fault.WalkFault.{WalkFault}
use Rattle.tree_walk.specs.declared.fault.WalkFault.TheVariants as walk
use Rattle.library_state.specs.declared.refusal.Refusal.{Refusal}
use Rattle.library_state.specs.declared.refusal.Refusal.TheVariants as refusal
use Rattle.http_client.specs.OrderOutcome.{can_refuse}
use Rattle.object_graph.specs.declared.fault.TreeFault.{TreeFault}
use Rattle.object_graph.specs.declared.fault.TreeFault.TheVariants as tree
use Rattle.object_graph.proofs.ReachingLemmas.{in_first}
use Rattle.remote_calls.specs.Sends.{Ending, Sent}
use Rattle.sync_rules.specs.Causes.{CausedBy, FindsSome, HasPath, ends_sync}
use Rattle.sync_rules.specs.Named.{IsHadFor, IsNamedSo, asked_head, begins_round, has_name, if_named, is_block, is_check, is_upload, keys_lacked, keys_named, keys_put, lacked_by, last_head, last_round, named_by, put_by}
use Rattle.sync_rules.specs.Orders.{IsNeeded, Stage, may_send}
use Rattle.sync_rules.specs.declared.fault.SyncFault.{SyncFault}
use Rattle.sync_rules.specs.declared.fault.SyncFault.TheVariants as fault
use Rattle.tree_fetch.specs.Asking.{FailsSo, order_of}
use Rattle.tree_fetch.specs.Fetching.{CommitFails}
use Rattle.tree_fetch.specs.declared.asker.Asker.{Asker}
use Rattle.sync_daemon.specs.RoundOrder.{IsBehindChecks, IsSoInRound}
use Rattle.sync_daemon.specs.Going.{Going, Refuses, Stops, Sync}
use Rattle.sync_daemon.specs.Rounds.{IsFresh, IsScanFault, MayUpload, sync_of}
use Rattle.sync_daemon.proofs.CheckLemmas.{IsPlainOrder, fails_so, plain_head, quiet_of}
use Rattle.sync_daemon.proofs.GoingLemmas.{fails_here, fails_one, found_by_get, goes_one, last_then, last_with}
use Rattle.sync_daemon.proofs.JoinLemmas.{round_then}

-- ---- a scan that failed

not_less : (m n : ℕ) → m < n → n ≤ m → ⊥
not_less m n less most = omega (arith, less, most)

past_within : (c : Contents) (why : ScanFault) → IsWithinLimits c → IsPastLimit c why → (why ≡ scan.Folder → ⊥) → (why ≡ scan.NoMemory → ⊥) → ⊥
past_within c scan.Folder within past no_folder no_memory = no_folder refl
past_within c (scan.TooDeep path) within (holding, is, visible, long) no_folder no_memory = not_less MAX_NAMES (length path) long (within.deep path holding is visible)
past_within c (scan.TooMany count) within (is, many) no_folder no_memory = not_less MAX_PATHS _ many within.many
past_within c (scan.TooBig path) within (bytes, is, big) no_folder no_memory = not_less _ (length bytes) big (within.big path bytes is)
past_within c scan.NoMemory within past no_folder no_memory = no_memory refl

module _ (s : Sync) (more : List Sent) (stage : Stage) (late : ℕ) (going : Going s more stage late) (few : late ≤ 2) (behind : IsBehindChecks more) where
  scan_ends : (why : ScanFault) → ((c : Contents) → s.told ≡ Some c → IsPastLimit c why) → (why ≡ scan.Folder → ⊥) → (why ≡ scan.NoMemory → ⊥)
      → CausedBy (IsSoInRound s.cuts s.told s.index more) more (fault.Scan why) → Refuses s more (fault.Scan why)
  scan_ends why past no_folder no_memory cause =
      fails_here s more stage late going (fault.Scan why) few cause
      (λ c told. (checks_alone c (past c told) (going.over c told).order.scanned, inl (tt, going.unbegun)))
    where
      checks_alone : (c : Contents) → IsPastLimit c why → (All (λ (sent : Sent). is_check sent.0.what ≡ true) more ⊎ IsWithinLimits c)
          → All (λ (sent : Sent). is_check sent.0.what ≡ true) more
      checks_alone c beyond (inl checks) = checks
      checks_alone c beyond (inr within) = absurd (past_within c why within beyond no_folder no_memory)

  abbrev scan_of : SyncFault → ScanFault
  scan_of (fault.Scan why) = why
  scan_of _ = scan.Folder

  pub scan_fails : (f : SyncFault) → IsScanFault s.told f → Refuses s more f
  scan_fails fault.Folder is = fails_here s more stage late going fault.Folder few (tt, tt) (λ c told. ((going.over c told).found, inl (tt, going.unbegun)))
  scan_fails fault.NoMemory is = fails_here s more stage late going fault.NoMemory few tt (λ c told. (tt, inl (tt, going.unbegun)))
  scan_fails (fault.Scan scan.Folder) is = absurd is
  scan_fails (fault.Scan scan.NoMemory) is = absurd is
  scan_fails (fault.Scan (scan.TooDeep path)) is = scan_ends (scan.TooDeep path) is (λ e. cc) (λ e. cc) (is, behind)
  scan_fails (fault.Scan (scan.TooMany count)) is = scan_ends (scan.TooMany count) is (λ e. cc) (λ e. cc) (is, behind)
  scan_fails (fault.Scan (scan.TooBig path)) is = scan_ends (scan.TooBig path) is (λ e. cc) (λ e. cc) (is, behind)
  scan_fails _ is = absurd is

-- ---- the head, and its commit

-- in a round nothing is named by such an order
pub fresh_more : (more : List Sent) (sent : Sent) → IsFresh more → begins_round sent.0.what ≡ false → named_by sent.0.what ≡ [] → lacked_by sent.0.what sent.1 ≡ [] → put_by sent.0.what ≡ []
    → IsFresh (more ++ sent ∷ [])
fresh_more more sent fresh stays named lacked put =
    let round : List Sent = last_round more [] in
    let is : last_round (more ++ sent ∷ []) [] ≡ round ++ sent ∷ [] =
    round_then [] more (sent ∷ []) ∙ ap (λ (b : Bool). if b then [] else round ++ sent ∷ []) stays in record {
      named = ap keys_named is ∙ ap (map (λ x. x.0)) (flat_map-append (λ (other : Sent). named_by other.0.what) round (sent ∷ [])
          ∙ ap (λ xs. flat_map (λ (other : Sent). named_by other.0.what) round ++ (xs ++ [])) named ∙ append-nil (flat_map (λ (other : Sent). named_by other.0.what) round)) ∙ fresh.named;
      lacked = ap keys_lacked is ∙ flat_map-append (λ (other : Sent). lacked_by other.0.what other.1) round (sent ∷ [])
          ∙ ap (λ xs. keys_lacked round ++ (xs ++ [])) lacked ∙ append-nil (keys_lacked round) ∙ fresh.lacked;
      put = ap keys_put is ∙ flat_map-append (λ (other : Sent). put_by other.0.what) round (sent ∷ [])
          ∙ ap (λ xs. keys_put round ++ (xs ++ [])) put ∙ append-nil (keys_put round) ∙ fresh.put;
    }

-- ---- what was got last

abbrev got_bytes : Option Sent → Option (List ℕ)
got_bytes (Some (order, Ok (Plain (reply.Got bytes) tag))) = Some bytes
got_bytes _ = None

-- bytes that are read as the commit of a name spell it
pub spelled : (id bytes : List ℕ) (commit : Commit) (read : Result Commit BadCommit) → of_name id read ≡ Ok commit → read ≡ Ok commit
spelled id bytes commit (Ok other) is = by (same_id other.id id) is
  where
    by : (b : Bool) → (if b then Ok other else Err (tree.Unreadable (commit_key id))) ≡ Ok commit → ◌≡◌ {A = Result Commit BadCommit} (Ok other) (Ok commit)
    by true e = cc
    by false e = cc
spelled id bytes commit (Err bad) is = cc

-- and it bears that name
pub named_so : (id bytes : List ℕ) (commit : Commit) → commit_in id (Some bytes) ≡ Ok commit → commit.id ≡ id
named_so id bytes commit is = read (commit_of bytes) is
  where
    by : (other : Commit) (b : Bool) → same_id other.id id ≡ b → (if b then Ok other else Err (tree.Unreadable (commit_key id))) ≡ Ok commit → commit.id ≡ id
    by other true same e = let one : other ≡ commit = cc in ap (λ (x : Commit). x.id) (sym one) ∙ (bytes_decides other.id id).0 same
    by other false apart e = cc

    read : (r : Result Commit BadCommit) → of_name id r ≡ Ok commit → commit.id ≡ id
    read (Ok other) e = by other (same_id other.id id) refl e
    read (Err bad) e = cc

-- a commit whose root is forty zeros is no tree that was found
pub none_there : (first : List Sent) (sent : Sent) (bytes : List ℕ) (tag : Tag) (head : List ℕ) (commit : Commit) → sent.1 ≡ Ok (Plain (reply.Got bytes) tag)
    → commit_in head (Some bytes) ≡ Ok commit → commit.root ≡ nil → FindsSome (first ++ sent ∷ []) → ⊥
none_there first sent bytes tag head commit came spells none some =
    let last : Option Sent = Some (some.got, Ok (Plain (reply.Got some.bytes) some.later)) in
    let ends : last_with None (first ++ sent ∷ []) ≡ last =
    ap (last_with None) some.is
    ∙ last_then None some.before ((some.asked, Ok (Plain (reply.HeadIs some.head) some.tag)) ∷ (some.got, Ok (Plain (reply.Got some.bytes) some.later)) ∷ []) in
    let mine : Some sent ≡ last = sym (last_then None first (sent ∷ [])) ∙ ends in
    let same : Some bytes ≡ Some some.bytes = sym (ap (λ (e : Ending). got_bytes (Some (sent.0, e))) came) ∙ ap got_bytes mine in
    let here : commit_of bytes ≡ Ok commit = spelled head bytes commit (commit_of bytes) spells in
    let equal : bytes ≡ some.bytes = cc in
    let other : ◌≡◌ {A = Result Commit BadCommit} (Ok commit) (Ok some.commit) = sym here ∙ ap commit_of equal ∙ some.spells in
    let one : commit ≡ some.commit = cc in
    some.some (ap (λ (x : Commit). x.root) (sym one) ∙ none)

-- bytes that are read as no commit of a name spell none
none_spelled : (id bytes : List ℕ) (why : TreeFault) → commit_in id (Some bytes) ≡ Err why → (commit : Commit) → commit_of bytes ≡ Ok commit → commit.id ≡ id → ⊥
none_spelled id bytes why is commit spells named =
    let read : of_name id (Ok commit) ≡ Err why = ap (of_name id) (sym spells) ∙ is in
    let same : same_id commit.id id ≡ true = (bytes_decides commit.id id).1 named in
    let whole : (if true then Ok commit else Err (tree.Unreadable (commit_key id))) ≡ Err why =
    ap (λ (b : Bool). if b then Ok commit else Err (tree.Unreadable (commit_key id))) (sym same) ∙ read in
    cc

abbrev id_of : Option What → List ℕ
id_of (Some (what.Get key)) = key.id
id_of _ = []

-- what can't be read as a commit is no tree that was found
pub none_read : (first : List Sent) (sent : Sent) (bytes : List ℕ) (tag : Tag) (head : List ℕ) (why : TreeFault) → sent.0.what ≡ what.Get (commit_key head)
    → sent.1 ≡ Ok (Plain (reply.Got bytes) tag) → commit_in head (Some bytes) ≡ Err why → (last_head first None ≡ Some (head, None)) → FindsSome (first ++ sent ∷ []) → ⊥
none_read first sent bytes tag head why asked came bad named some =
    let last : Option Sent = Some (some.got, Ok (Plain (reply.Got some.bytes) some.later)) in
    let ends : last_with None (first ++ sent ∷ []) ≡ last =
    ap (last_with None) some.is
    ∙ last_then None some.before ((some.asked, Ok (Plain (reply.HeadIs some.head) some.tag)) ∷ (some.got, Ok (Plain (reply.Got some.bytes) some.later)) ∷ []) in
    let mine : Some sent ≡ last = sym (last_then None first (sent ∷ [])) ∙ ends in
    let same : Some bytes ≡ Some some.bytes = sym (ap (λ (e : Ending). got_bytes (Some (sent.0, e))) came) ∙ ap got_bytes mine in
    let key : Some (what.Get (commit_key head)) ≡ Some (what.Get (commit_key some.head)) =
    ap Some (sym asked) ∙ ap (option_map (λ (other : Sent). other.0.what)) mine ∙ ap Some some.gets in
    let equal : bytes ≡ some.bytes = cc in
    let id : head ≡ some.head = ap id_of key in
    none_spelled head bytes why bad some.commit (ap commit_of equal ∙ some.spells) (some.named ∙ sym id)

-- ---- where nothing was synced yet

-- neither checks nor uploads, it may be sent whether one may upload or not
pub can_ask : (may : Bool) (stage : Stage) (more : List Sent) → MayUpload may stage more → (asked : What) → is_check asked ≡ false → is_upload asked ≡ false → may_send stage asked ≡ true
can_ask true stage more is asked check upload = subst (λ (at : Stage). may_send at asked ≡ true) (sym is) (ap not check)
can_ask false stage more is asked check upload =
    subst (λ (at : Stage). may_send at asked ≡ true) (sym is.0) (λ i. both (check i) (upload i))
  where
    both : Bool → Bool → Bool
    both a b = not a && not b

pub may_more : (may : Bool) (stage : Stage) (first later : List Sent) → MayUpload may stage first → MayUpload may stage (first ++ later)
may_more true stage first later is = is
may_more false stage first later (at, (order, ending, there, asked, refused)) = (at, (order, ending, Contains-append_left first later (order, ending) there, asked, refused))

-- one object that came under its name
had_named : (key : Key) (bytes : List ℕ) → has_name key bytes ≡ true → IsHadFor (filter_map if_named ((key, Some bytes) ∷ [])) ((key, bytes) ∷ [])
had_named key bytes named = subst (λ (b : Bool). IsHadFor (cons_option (if b then Some (key, Some bytes) else None) []) ((key, bytes) ∷ [])) (sym named) (refl, tt)

pub plain_commit : (first : List Sent) (stage : Stage) (head : List ℕ) (pushed : Option (List ℕ)) → may_send stage (what.Get (commit_key head)) ≡ true → last_head first None ≡ Some (head, pushed)
    → IsPlainOrder first stage (what.Get (commit_key head))
plain_commit first stage head pushed may named = record {
  of_sync = refl;
  few = tt;
  none = refl;
  flat = refl;
  may = may;
  needed = All-cons (IsNeeded first) (commit_key head) []
      (record { head = head; pushed = pushed; named = named; reached = λ objects has. ReachedFrom.pends (commit_key head) (in_first (commit_key head) []) }) (All-nil (IsNeeded first));
  small = All-cons (λ (key : Key). is_block key.kind ≡ false) (commit_key head) [] refl (All-nil (λ (key : Key). is_block key.kind ≡ false));
  short = λ why. refl;
  once = λ is. absurd (true≢false (sym is));
}

ends_head : (why : Refusal) → can_refuse (what.Head None) why ≡ true → ends_sync (what.Head None) why ≡ true
ends_head (refusal.Stale last now) can = absurd (true≢false (sym can))
ends_head _ can = refl

ends_get : (key : Key) (why : Refusal) → can_refuse (what.Get key) why ≡ true → ends_sync (what.Get key) why ≡ true
ends_get key (refusal.Stale last now) can = absurd (true≢false (sym can))
ends_get key _ can = refl

pub head_ends : (asker : Asker) (old new : List Sent) (f : SyncFault) → FailsSo old new (order_of asker (what.Head None)) f → (why : Refusal) → f ≡ fault.Refused why → ends_sync (what.Head None) why ≡ true
head_ends asker old new f fails why is =
    let told : FailsSo old new (order_of asker (what.Head None)) (fault.Refused why) = subst (FailsSo old new (order_of asker (what.Head None))) is fails in ends_head why told.3

pub get_ends : (asker : Asker) (key : Key) (old new : List Sent) (f : SyncFault) → FailsSo old new (order_of asker (what.Get key)) f → (why : Refusal) → f ≡ fault.Refused why
    → ends_sync (what.Get key) why ≡ true
get_ends asker key old new f fails why is =
    let told : FailsSo old new (order_of asker (what.Get key)) (fault.Refused why) = subst (FailsSo old new (order_of asker (what.Get key))) is fails in ends_get key why told.3

module _ (asker : Asker) (user : List ℕ) (shows : ℕ → Type 0) (cuts : Cuts) (told : Option Contents) (index : Index) (start first : List Sent) (stage : Stage) (late : ℕ)
    (going : Going (sync_of asker user shows cuts told index) first stage late) (few : late ≤ 2) (within : (c : Contents) → told ≡ Some c → IsWithinLimits c) where
  abbrev this : Sync
  this = sync_of asker user shows cuts told index

  abbrev head_sent : (id : List ℕ) → Tag → Sent
  head_sent id tag = (order_of asker (what.Head None), Ok (Plain (reply.HeadIs id) tag))

  abbrev got_sent : (id bytes : List ℕ) → Tag → Sent
  got_sent id bytes tag = (order_of asker (what.Get (commit_key id)), Ok (Plain (reply.Got bytes) tag))

  pub head_goes : (id : List ℕ) (tag : Tag) → may_send stage (what.Head None) ≡ true → asked_head first None ≡ None → Going this (first ++ head_sent id tag ∷ []) stage late
  head_goes id tag may unasked =
      goes_one this first stage late (head_sent id tag) going
      (quiet_of asker user shows cuts told index first stage (what.Head None) (Ok (Plain (reply.HeadIs id) tag)) (plain_head first stage may unasked) refl)
      (refl, All-nil IsNamedSo)
      (λ c is. record { scanned = inr (within c is); found = λ none has. found_by_get first (head_sent id tag) refl; had = []; is_had = tt })

  -- a commit that came under its name; that nothing is found by it is a premise
  pub commit_goes : (id bytes : List ℕ) (tag : Tag) (commit : Commit) (pushed : Option (List ℕ)) → may_send stage (what.Get (commit_key id)) ≡ true → last_head first None ≡ Some (id, pushed)
      → commit_in id (Some bytes) ≡ Ok commit
      → ((c : Contents) → told ≡ Some c → index.base ≡ None → HasPath c → FindsSome (first ++ got_sent id bytes tag ∷ []) → ⊥)
      → Going this (first ++ got_sent id bytes tag ∷ []) stage late
  commit_goes id bytes tag commit pushed may named spells none =
      let is_named : has_name (commit_key id) bytes ≡ true = ap is_ok spells in
      goes_one this first stage late (got_sent id bytes tag) going
      (quiet_of asker user shows cuts told index first stage (what.Get (commit_key id)) (Ok (Plain (reply.Got bytes) tag)) (plain_commit first stage id pushed may named) refl)
      (refl, All-cons IsNamedSo (commit_key id, Some bytes) [] is_named (All-nil IsNamedSo))
      (λ c is. record {
        scanned = inr (within c is);
        found = none c is;
        had = (commit_key id, bytes) ∷ [];
        is_had = subst (λ names. IsHadFor names ((commit_key id, bytes) ∷ [])) (sym (append-nil (filter_map if_named ((commit_key id, Some bytes) ∷ []))))
            (had_named (commit_key id) bytes is_named);
      })

  -- an order for a commit failed, or its bytes are none of that name
  pub commit_fails : (id : List ℕ) (pushed : Option (List ℕ)) → may_send stage (what.Get (commit_key id)) ≡ true → last_head first None ≡ Some (id, pushed)
      → ((c : Contents) → told ≡ Some c → index.base ≡ None → HasPath c → (bytes : List ℕ) (tag : Tag) (why : TreeFault) → commit_in id (Some bytes) ≡ Err why
      → FindsSome (first ++ got_sent id bytes tag ∷ []) → ⊥)
      → (old new : List Sent) (f : SyncFault) → old ≡ start ++ first → CommitFails asker old new id f → Stops this start new f
  commit_fails id pushed may named none old new f begun (inl fails) =
      fails_so asker user shows cuts told index start first stage late going few (what.Get (commit_key id)) (plain_commit first stage id pushed may named) old new f begun fails
      (get_ends asker (commit_key id) old new f fails) (λ c is. inr (within c is))
  commit_fails id pushed may named none old new (fault.BadTree why) begun (inr (bytes, tag, grown, bad)) =
      let sent : Sent = got_sent id bytes tag in (
        first ++ sent ∷ [],
        grown ∙ ap (λ (sends : List Sent). sends ++ sent ∷ []) begun ∙ append_assoc start first (sent ∷ []),
        subst (λ (w : WalkFault). Refuses this (first ++ sent ∷ []) (fault.BadTree w)) (sym bad.0)
            (fails_one this first stage late sent going
            (quiet_of asker user shows cuts told index first stage (what.Get (commit_key id)) (Ok (Plain (reply.Got bytes) tag)) (plain_commit first stage id pushed may named) refl)
            (fault.BadTree (walk.Unreadable (commit_key id))) few refl refl tt
            (inl (order_of asker (what.Get (commit_key id)), bytes, tag, (first, refl), refl, refl, none_spelled id bytes (tree.Unreadable (commit_key id)) bad.1)) (λ all. all)
            (λ c is. (inr (within c is), λ base has. none c is base has bytes tag (tree.Unreadable (commit_key id)) bad.1))),
      )
  commit_fails id pushed may named none old new fault.NoMemory begun (inr (bytes, tag, grown, bad)) =
      let sent : Sent = got_sent id bytes tag in (
        first ++ sent ∷ [],
        grown ∙ ap (λ (sends : List Sent). sends ++ sent ∷ []) begun ∙ append_assoc start first (sent ∷ []),
        fails_one this first stage late sent going
            (quiet_of asker user shows cuts told index first stage (what.Get (commit_key id)) (Ok (Plain (reply.Got bytes) tag)) (plain_commit first stage id pushed may named) refl)
            fault.NoMemory few refl refl tt tt (λ all. all) (λ c is. (inr (within c is), tt)),
      )
  commit_fails id pushed may named none old new _ begun (inr (bytes, tag, grown, bad)) = absurd bad
