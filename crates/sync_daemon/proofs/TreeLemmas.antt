-- The tree of the head, fetched or not. The key lemmas are needed_commit, needed_below and gets_of.
use Rattle.std.proofs.Common.{◌≡◌, ℕ, Bool, true, false, All, List, [], ◌∷◌, ◌++◌, map, length, if◌then◌else◌, Option, None, Some, Ok, refl, sym, ap, subst, ◌∙◌, append_assoc, append-nil, true≢false}
use Rattle.std.specs.List.{cons_option, filter_map}
use Rattle.std.proofs.lemmas.List.Elements.{All-append, All-cons, All-head, All-nil, All-tail, All-weaker}
use Rattle.ids.specs.Key.{Objects}
use Rattle.ids.specs.declared.key.Key.{Key}
use Rattle.ids.specs.declared.key.Kind.{Kind}
use Rattle.ids.specs.declared.key.Kind.TheVariants as kind
use Rattle.commit_objects.specs.declared.commit.Commit.{Commit}
use Rattle.http_client.specs.OrderOutcome.{is_commit}
use Rattle.http_front.specs.declared.order.What.{What}
use Rattle.http_front.specs.declared.order.What.TheVariants as what
use Rattle.object_graph.specs.Objects.{commit_at, commit_key, fs_key}
use Rattle.object_graph.specs.Reached.{ReachedFrom, named_by_commit, own_keys}
use Rattle.object_graph.specs.Traversal.{is_in}
use Rattle.object_graph.proofs.ReachingLemmas.{in_first}
use Rattle.remote_calls.specs.Sends.{Sent}
use Rattle.sync_rules.specs.Causes.{is_stale, stale_count}
use Rattle.sync_rules.specs.Named.{HasGot, asked_by, is_block, is_get, keys_asked, last_head}
use Rattle.sync_rules.specs.Orders.{GetsNeeded, IsNeeded, IsSyncOrder}
use Rattle.sync_rules.proofs.GotLemmas.{got_first, got_later}
use Rattle.tree_fetch.specs.Fetching.{GetsReached, IsFetch, IsReached, fetches}
use Rattle.tree_fetch.specs.declared.asker.Asker.{Asker}
use Rattle.sync_daemon.proofs.GetLemmas.{IsGetting}

-- ---- what the fetch of a tree sends

gets_by : (asked : What) → fetches asked ≡ true → is_get asked ≡ true
gets_by (what.Get key) is = refl
gets_by (what.GetFs []) is = refl
gets_by (what.GetFs (id ∷ ids)) is = refl
gets_by _ is = absurd (true≢false (sym is))

pub gets_of : (asker : Asker) (more : List Sent) → All (IsFetch asker) more → All IsGetting more
gets_of asker more all = All-weaker (IsFetch asker) IsGetting (λ sent is. gets_by sent.0.what is.1) more all

pub asks_of : (asker : Asker) (more : List Sent) → All (IsFetch asker) more → All (IsSyncOrder asker.lib asker.secret) more
asks_of asker more all = All-weaker (IsFetch asker) (IsSyncOrder asker.lib asker.secret) (λ sent is. is.0) more all

-- and none comes too late
timely_from : (more : List Sent) → All (λ (sent : Sent). is_stale sent.1 ≡ false) more → stale_count more ≡ 0
timely_from [] all = refl
timely_from (sent ∷ more) all =
    let first : is_stale sent.1 ≡ false = All-head (λ (other : Sent). is_stale other.1 ≡ false) sent more all in
    ap (λ (b : Bool). length (cons_option (if b then Some sent else None) (filter_map (λ (other : Sent). if is_stale other.1 then Some other else None) more))) first
    ∙ timely_from more (All-tail (λ (other : Sent). is_stale other.1 ≡ false) sent more all)

pub timely_of : (asker : Asker) (more : List Sent) → All (IsFetch asker) more → stale_count more ≡ 0
timely_of asker more all = timely_from more (All-weaker (IsFetch asker) (λ (sent : Sent). is_stale sent.1 ≡ false) (λ sent is. is.2) more all)

abbrev IsSmall : Key → Type 0
IsSmall key = is_block key.kind ≡ false

small_kind : (of : Kind) → is_commit of ≡ true → is_block of ≡ false
small_kind kind.Commit is = refl
small_kind kind.Fs is = refl
small_kind kind.Block is = absurd (true≢false (sym is))

small_ids : (ids : List (List ℕ)) → All IsSmall (map fs_key ids)
small_ids [] = All-nil IsSmall
small_ids (id ∷ ids) = All-cons IsSmall (fs_key id) (map fs_key ids) refl (small_ids ids)

small_by : (asked : What) → fetches asked ≡ true → All IsSmall (asked_by asked)
small_by (what.Get key) is = All-cons IsSmall key [] (small_kind key.kind is) (All-nil IsSmall)
small_by (what.GetFs []) is = All-nil IsSmall
small_by (what.GetFs (id ∷ ids)) is = small_ids (id ∷ ids)
small_by _ is = absurd (true≢false (sym is))

pub small_of : (asker : Asker) (more : List Sent) → All (IsFetch asker) more → All IsSmall (keys_asked more)
small_of asker [] all = All-nil IsSmall
small_of asker (sent ∷ more) all =
    All-append IsSmall (asked_by sent.0.what) (keys_asked more) (small_by sent.0.what (All-head (IsFetch asker) sent more all).1) (small_of asker more (All-tail (IsFetch asker) sent more all))

-- ---- what is reached from a root is reached from its commit

module _ (objects : Objects) (head : List ℕ) (commit : Commit) (stored : commit_at objects head ≡ Ok commit) where
  pub lifted : (key : Key) → ReachedFrom objects [] (own_keys commit.root) key → ReachedFrom objects [] (commit_key head ∷ []) key
  lifted _ (ReachedFrom.pends key is) =
      ReachedFrom.names (commit_key head) key (ReachedFrom.pends (commit_key head) (in_first (commit_key head) []))
      (ap (λ read. is_in (named_by_commit read) key) stored ∙ is) refl
  lifted _ (ReachedFrom.names above key reached is free) = ReachedFrom.names above key (lifted above reached) is free

-- ---- it is needed by the head

module _ (first : List Sent) (head : List ℕ) (pushed : Option (List ℕ)) (names : (sends : List Sent) → All IsGetting sends → last_head (first ++ sends) None ≡ Some (head, pushed)) where
  -- what is reached from some keys is, where these are reached from the head
  needed_from : (from : List Key) → ((objects : Objects) → HasGot objects first → (key : Key) → ReachedFrom objects [] from key → ReachedFrom objects [] (commit_key head ∷ []) key)
      → (done more : List Sent) → All IsGetting done → All IsGetting more → GetsReached from done more → GetsNeeded (first ++ done) more
  needed_from from lifts done [] before gets below = tt
  needed_from from lifts done (sent ∷ more) before gets below = (
    All-weaker (IsReached from done) (IsNeeded (first ++ done))
        (λ key reached. record {
          head = head;
          pushed = pushed;
          named = names done before;
          reached = λ objects has. lifts objects (got_first objects first done has) key (reached objects (got_later objects first done has));
        }) (asked_by sent.0.what) below.0,
    subst (λ (b : List Sent). GetsNeeded b more) (sym (append_assoc first done (sent ∷ [])))
        (needed_from from lifts (done ++ sent ∷ []) more
        (All-append IsGetting done (sent ∷ []) before (All-cons IsGetting sent [] (All-head IsGetting sent more gets) (All-nil IsGetting))) (All-tail IsGetting sent more gets) below.1),
  )

  -- the commit of the head
  pub needed_commit : (more : List Sent) → All IsGetting more → GetsReached (commit_key head ∷ []) [] more → GetsNeeded first more
  needed_commit more gets below =
      subst (λ (b : List Sent). GetsNeeded b more) (append-nil first) (needed_from (commit_key head ∷ []) (λ objects has key reached. reached) [] more (All-nil IsGetting) gets below)

  -- and, where that was got, its tree
  pub needed_below : (commit : Commit) → ((objects : Objects) → HasGot objects first → commit_at objects head ≡ Ok commit) → (more : List Sent) → All IsGetting more
      → GetsReached (own_keys commit.root) [] more → GetsNeeded first more
  needed_below commit stored more gets below =
      subst (λ (b : List Sent). GetsNeeded b more) (append-nil first)
      (needed_from (own_keys commit.root) (λ objects has key reached. lifted objects head commit (stored objects has) key reached) [] more (All-nil IsGetting) gets below)
