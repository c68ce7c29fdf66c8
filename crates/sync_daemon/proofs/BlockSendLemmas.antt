-- What a checkout sends: orders for blocks. The key lemmas are asked_got, asked_stopped, gets_blocks, asks_blocks and needed_blocks; how
-- many steps of a kind it has: removed_count and written_count.
use Rattle.std.proofs.Common.{◌≡◌, ◌+◌, ℕ, suc, Bool, if◌then◌else◌, All, List, [], ◌∷◌, ◌++◌, map, length, Option, None, Some, refl, sym, ap, subst, ◌∙◌, append_assoc, inl, inr, length-append, arith}
use Rattle.std.specs.List.{filter_map}
use Rattle.std.proofs.lemmas.List.Elements.{All-append, All-cons, All-head, All-nil, All-tail, All-weaker, filter_map-append}
use Rattle.ids.specs.Key.{Objects}
use Rattle.tree_model.specs.Path.{PathV}
use Rattle.block_chunker.specs.declared.cuts.Cuts.{Cuts}
use Rattle.http_front.specs.declared.order.Order.{Order}
use Rattle.object_graph.specs.Objects.{block_key, commit_key}
use Rattle.object_graph.specs.Reached.{ReachedFrom}
use Rattle.remote_calls.specs.Sends.{Sent}
use Rattle.sync_rules.specs.Checkout.{Step}
use Rattle.sync_rules.specs.Named.{HasGot, asked_by, is_get, last_head}
use Rattle.sync_rules.specs.Orders.{AsksFew, GetsNeeded, IsNeeded, IsSyncOrder, is_sync_what}
use Rattle.sync_rules.specs.Synced.{count_of, removed_by, written_by}
use Rattle.sync_rules.specs.declared.fault.SyncFault.{SyncFault}
use Rattle.sync_rules.specs.declared.fault.SyncFault.TheVariants as fault
use Rattle.sync_rules.proofs.GotLemmas.{got_first}
use Rattle.tree_checkout.specs.BlockGets.{AreGot, IsToldBy, Stops, block_order}
use Rattle.tree_checkout.specs.CheckingOut.{checkout_steps}
use Rattle.tree_checkout.specs.Steps.{made_step, node_owns, owns_of, write_step}
use Rattle.tree_checkout.specs.declared.block_gets.Source.{Source}
use Rattle.tree_checkout.specs.declared.steps.Write.{Write}
use Rattle.tree_checkout.specs.declared.steps.WriteNode.{WriteNode}
use Rattle.tree_checkout.specs.declared.steps.WriteNode.TheVariants as write
use Rattle.sync_daemon.proofs.GetLemmas.{IsGetting}

-- ---- orders

module _ (source : Source) where
  -- an order for a block of which this is so
  abbrev pub IsBlockAsk : (List ℕ → Type 0) → Sent → Type 0
  IsBlockAsk of sent = (id : List ℕ) × (sent.0 ≡ block_order source id) × of id

  module _ (of : List ℕ → Type 0) where
    pub asked_got : (ids : List (List ℕ)) (more : List Sent) → All of ids → AreGot source ids more → All (IsBlockAsk of) more
    asked_got [] [] all got = All-nil (IsBlockAsk of)
    asked_got [] (sent ∷ more) all got = absurd got
    asked_got (id ∷ ids) [] all got = absurd got
    asked_got (id ∷ ids) (sent ∷ more) all got =
        All-cons (IsBlockAsk of) sent more (id, got.0.asked, All-head of id ids all) (asked_got ids more (All-tail of id ids all) got.1)

    told_order : (id : List ℕ) (sent : Sent) (f : SyncFault) → IsToldBy source id sent f → sent.0 ≡ block_order source id
    told_order id sent (fault.Remote why) told = ap (λ (s : Sent). s.0) told
    told_order id sent (fault.Refused why) told = told.0
    told_order id sent (fault.Damaged want got) told = ap (λ (s : Sent). s.0) told.4
    told_order id sent _ told = absurd told

    pub asked_stopped : (f : SyncFault) (more : List Sent) (ids : List (List ℕ)) → All of ids → Stops source more ids f → All (IsBlockAsk of) more
    asked_stopped f [] ids all stops = All-nil (IsBlockAsk of)
    asked_stopped f (sent ∷ more) [] all stops = absurd stops
    asked_stopped f (sent ∷ more) (id ∷ ids) all (inl on) =
        All-cons (IsBlockAsk of) sent more (id, on.0.asked, All-head of id ids all) (asked_stopped f more ids (All-tail of id ids all) on.1)
    asked_stopped f (sent ∷ more) (id ∷ ids) all (inr (told, last)) =
        subst (λ (rest : List Sent). All (IsBlockAsk of) (sent ∷ rest)) (sym last)
        (All-cons (IsBlockAsk of) sent [] (id, told_order id sent f told, All-head of id ids all) (All-nil (IsBlockAsk of)))

    gets_one : (sent : Sent) → IsBlockAsk of sent → IsGetting sent
    gets_one sent is = ap (λ (o : Order). is_get o.what) is.1

    pub gets_blocks : (more : List Sent) → All (IsBlockAsk of) more → All IsGetting more
    gets_blocks more all = All-weaker (IsBlockAsk of) IsGetting gets_one more all

    asks_one : (sent : Sent) → IsBlockAsk of sent → IsSyncOrder source.lib source.secret sent
    asks_one sent is = (
      ap (λ (o : Order). o.lib) is.1,
      ap (λ (o : Order). o.secret) is.1,
      ap (λ (o : Order). is_sync_what o.what) is.1,
      subst (λ (o : Order). AsksFew o.what) (sym is.1) tt,
    )

    pub asks_blocks : (more : List Sent) → All (IsBlockAsk of) more → All (IsSyncOrder source.lib source.secret) more
    asks_blocks more all = All-weaker (IsBlockAsk of) (IsSyncOrder source.lib source.secret) asks_one more all

  -- what they ask for is needed by the head
  module _ (first : List Sent) (head : List ℕ) (pushed : Option (List ℕ)) (names : (sends : List Sent) → All IsGetting sends → last_head (first ++ sends) None ≡ Some (head, pushed)) where
    abbrev pub IsOfHead : List ℕ → Type 0
    IsOfHead id = (objects : Objects) → HasGot objects first → ReachedFrom objects [] (commit_key head ∷ []) (block_key id)

    needed_one : (done : List Sent) → All IsGetting done → (sent : Sent) → IsBlockAsk IsOfHead sent → All (IsNeeded (first ++ done)) (asked_by sent.0.what)
    needed_one done before sent is =
        subst (λ (o : Order). All (IsNeeded (first ++ done)) (asked_by o.what)) (sym is.1)
        (All-cons (IsNeeded (first ++ done)) (block_key is.0) []
        (record { head = head; pushed = pushed; named = names done before; reached = λ objects has. is.2 objects (got_first objects first done has) })
        (All-nil (IsNeeded (first ++ done))))

    pub needed_blocks : (done more : List Sent) → All IsGetting done → All (IsBlockAsk IsOfHead) more → GetsNeeded (first ++ done) more
    needed_blocks done [] before all = tt
    needed_blocks done (sent ∷ more) before all = (
      needed_one done before sent (All-head (IsBlockAsk IsOfHead) sent more all),
      subst (λ (b : List Sent). GetsNeeded b more) (sym (append_assoc first done (sent ∷ [])))
          (needed_blocks (done ++ sent ∷ []) more
          (All-append IsGetting done (sent ∷ []) before (All-cons IsGetting sent [] (gets_one IsOfHead sent (All-head (IsBlockAsk IsOfHead) sent more all)) (All-nil IsGetting)))
          (All-tail (IsBlockAsk IsOfHead) sent more all)),
    )

-- ---- steps of a kind

count_then : (test : Step → Bool) (first later : List Step) → count_of test (first ++ later) ≡ count_of test first + count_of test later
count_then test first later =
    ap length (filter_map-append (λ (step : Step). if test step then Some step else None) first later)
    ∙ length-append (filter_map (λ (step : Step). if test step then Some step else None) first) (filter_map (λ (step : Step). if test step then Some step else None) later)

removed_all : (doomed : List PathV) → count_of removed_by (map Step.Removed doomed) ≡ length doomed
removed_all [] = refl
removed_all (path ∷ doomed) = ap suc (removed_all doomed)

written_none : (doomed : List PathV) → count_of written_by (map Step.Removed doomed) ≡ 0
written_none [] = refl
written_none (path ∷ doomed) = written_none doomed

removed_none : (objects : Objects) (writes : List Write) → count_of removed_by (map (write_step objects) writes) ≡ 0
removed_none objects [] = refl
removed_none objects (w ∷ writes) = by w.node (removed_none objects writes)
  where
    by : (node : WriteNode) → count_of removed_by (map (write_step objects) writes) ≡ 0 → count_of removed_by (made_step objects w.path node ∷ map (write_step objects) writes) ≡ 0
    by write.Dir more = more
    by (write.File file) more = more

written_all : (cuts : Cuts) (objects : Objects) (writes : List Write) → count_of written_by (map (write_step objects) writes) ≡ length (owns_of cuts objects writes)
written_all cuts objects [] = refl
written_all cuts objects (w ∷ writes) = by w.node (written_all cuts objects writes)
  where
    by : (node : WriteNode) → count_of written_by (map (write_step objects) writes) ≡ length (owns_of cuts objects writes)
        → count_of written_by (made_step objects w.path node ∷ map (write_step objects) writes) ≡ length (node_owns cuts objects node ++ owns_of cuts objects writes)
    by write.Dir more = more
    by (write.File file) more = ap suc more

pub removed_count : (objects : Objects) (doomed : List PathV) (writes : List Write) → count_of removed_by (checkout_steps objects doomed writes) ≡ length doomed
removed_count objects doomed writes =
    let sum : count_of removed_by (checkout_steps objects doomed writes) ≡ count_of removed_by (map Step.Removed doomed) + count_of removed_by (map (write_step objects) writes) =
    count_then removed_by (map Step.Removed doomed) (map (write_step objects) writes) in
    let all : count_of removed_by (map Step.Removed doomed) ≡ length doomed = removed_all doomed in
    let none : count_of removed_by (map (write_step objects) writes) ≡ 0 = removed_none objects writes in
    omega (arith, sum, all, none)

pub written_count : (cuts : Cuts) (objects : Objects) (doomed : List PathV) (writes : List Write)
    → count_of written_by (checkout_steps objects doomed writes) ≡ length (owns_of cuts objects writes)
written_count cuts objects doomed writes =
    let sum : count_of written_by (checkout_steps objects doomed writes) ≡ count_of written_by (map Step.Removed doomed) + count_of written_by (map (write_step objects) writes) =
    count_then written_by (map Step.Removed doomed) (map (write_step objects) writes) in
    let none : count_of written_by (map Step.Removed doomed) ≡ 0 = written_none doomed in
    let all : count_of written_by (map (write_step objects) writes) ≡ length (owns_of cuts objects writes) = written_all cuts objects writes in
    omega (arith, sum, none, all)
