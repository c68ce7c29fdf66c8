-- A sync whose checkout stopped. The key lemmas are plan_halts, none_halts and stopped_finishes.
use Rattle.std.proofs.Common.{◌≡◌, ◌≢◌, ◌≤◌, ◌⊎◌, ◌+◌, ℕ, Bool, true, false, All, List, [], ◌∷◌, ◌++◌, Option, None, Some, is_some, Err, refl, sym, ap, subst, ◌∙◌, append_assoc, append-nil, inl, inr, true≢false, arith}
use Rattle.std.specs.FinMap as fin
use Rattle.std.specs.List.{Contains}
use Rattle.std.proofs.lemmas.List.Elements.{All-append, All-contains, All-nil, Contains-push}
use Rattle.ids.specs.Key.{Objects}
use Rattle.ids.specs.declared.key.Key.{Key}
use Rattle.tree_model.specs.Path.{PathV}
use Rattle.tree_model.specs.Tree.{Tree}
use Rattle.block_chunker.specs.declared.cuts.Cuts.{Cuts}
use Rattle.commit_objects.specs.declared.commit.Commit.{Commit}
use Rattle.folder_side.specs.Folder.{Contents, at}
use Rattle.folder_side.specs.declared.holding.Holding.TheVariants as holding
use Rattle.http_front.specs.declared.order.Order.{Order}
use Rattle.http_front.specs.declared.order.What.{What}
use Rattle.http_front.specs.declared.order.What.TheVariants as what
use Rattle.local_index.specs.declared.index.Index.{Index}
use Rattle.object_graph.specs.Objects.{entry_below}
use Rattle.remote_calls.specs.Sends.{Ending, Sent}
use Rattle.sync_rules.specs.Causes.{CausedBy, CausedOver, FindsSome, HasPath, WentWell, is_too_long, stale_count}
use Rattle.sync_rules.specs.Checkout.{Front, IsPlan, Step, is_alone, run}
use Rattle.sync_rules.specs.Named.{HasAll, HasGot, asked_head}
use Rattle.sync_rules.specs.Offer.{IsOfferOf}
use Rattle.sync_rules.specs.OneSync.{ComesInOrder, GoesUnpushed}
use Rattle.sync_rules.specs.Orders.{GetsNeeded, IsSyncOrder}
use Rattle.sync_rules.specs.Premises.{Over}
use Rattle.sync_rules.specs.Synced.{IsHeadTree, IsSized, IsStopped}
use Rattle.sync_rules.specs.declared.fault.SyncFault.{SyncFault}
use Rattle.sync_rules.specs.declared.fault.SyncFault.TheVariants as fault
use Rattle.sync_rules.proofs.GotLemmas.{got_first, got_later, has_got}
use Rattle.sync_rules.proofs.OverLemmas.{has_later, over_first}
use Rattle.sync_rules.proofs.PlanLemmas.{plan_holds}
use Rattle.sync_rules.proofs.WentLemmas.{went_then}
use Rattle.tree_walk.specs.declared.fault.WalkFault.TheVariants as walk
use Rattle.tree_checkout.specs.BlockGets.{Stops, block_order, had_of, is_quiet}
use Rattle.tree_checkout.specs.CheckingOut.{AreOf, IsNodeOf, IsObjectOf, StopsOut, checkout_steps}
use Rattle.tree_checkout.specs.Planning.{AreAlike, StandsFor, alone_at}
use Rattle.tree_checkout.specs.Steps.{IsWrongIn, blocks_due}
use Rattle.tree_checkout.specs.declared.planning.Plan.{Plan}
use Rattle.tree_checkout.specs.declared.steps.Write.{Write}
use Rattle.tree_checkout.specs.Writing.{is_change}
use Rattle.tree_checkout.proofs.AskLemmas.{asked_within, missized, written_sized}
use Rattle.tree_checkout.proofs.CauseLemmas.{caused_stop, has_of_stopped, ordered_went, stopped_fresh, stopped_well}
use Rattle.tree_checkout.proofs.CheckingOutLemmas.{stopped_from}
use Rattle.tree_checkout.proofs.HadLemmas.{stopped_had}
use Rattle.tree_fetch.specs.declared.asker.Asker.{Asker}
use Rattle.tree_fetch.specs.declared.tree.FetchedTree.{FetchedTree}
use Rattle.sync_daemon.specs.Bringing.{AreMade, IsDone, IsPlanned, IsUnplanned, MayChange, is_pushed, source_of}
use Rattle.sync_daemon.specs.Finishing.{Finishes}
use Rattle.sync_daemon.specs.RoundOrder.{IsSoInRound}
use Rattle.sync_daemon.specs.Going.{GoingOver, Refuses, Sync}
use Rattle.sync_daemon.specs.Rounds.{sync_of}
use Rattle.sync_daemon.specs.declared.round.Settled.{Settled}
use Rattle.sync_daemon.proofs.BlockSendLemmas.{IsBlockAsk, asked_stopped, asks_blocks, gets_blocks, needed_blocks}
use Rattle.sync_daemon.proofs.CheckedOutLemmas.{asked_then_written, none_blocked, plan_is, pushed_so}
use Rattle.sync_daemon.proofs.CheckoutFaultLemmas.{IsOfCheckout, caused_behind, never_late, of_checkout, some_value}
use Rattle.sync_daemon.proofs.GetLemmas.{IsGetting, asked_gets, found_over_gets, order_gets, orders_gets, uploads_gets, sends_gets}
use Rattle.sync_daemon.proofs.GoingLemmas.{fails_here, had_then, late_then, refused_not_well}
use Rattle.sync_daemon.proofs.GotTreeLemmas.{HasTree, IsOfHead, blocks_of_head}
use Rattle.sync_daemon.proofs.HeadTreeLemmas.{alone_alike, is_tree_of, tree_for}
use Rattle.sync_daemon.proofs.JoinLemmas.{asked_then}
use Rattle.sync_daemon.proofs.ReadingLemmas.{names}
use Rattle.sync_daemon.proofs.SkippedLemmas.{front_skipped}
use Rattle.sync_daemon.proofs.UnpushedLemmas.{front_touched}
use Rattle.sync_daemon.proofs.StepFileLemmas.{file_from, front_of, nameless_kept, wrong_tree}
use Rattle.sync_daemon.proofs.GoesUnpushedLemmas.{goes_unpushed, loses_none}
use Rattle.sync_daemon.proofs.WrittenLemmas.{AreIn, all_planned, made_for, made_objects, made_of}

module _ (asker : Asker) (user : List ℕ) (shows : ℕ → Type 0) (cuts : Cuts) (told : Option Contents) (index : Index) (before : List Sent) (settled : Settled) (commit : Commit)
    (tree : FetchedTree) (got : HasTree (sync_of asker user shows cuts told index) before settled commit tree) where
  abbrev this : Sync
  this = sync_of asker user shows cuts told index

  -- ---- no plan

  pub none_halts : Refuses this before fault.NoMemory
  none_halts = fails_here this before got.reading.stage got.reading.late got.reading.going fault.NoMemory got.reading.few tt (λ c is. (tt, inl (tt, got.reading.going.unbegun)))

  -- the head has this tree, over objects that have what was had
  abbrev pub heads_at : (objects : Objects) → HasGot objects before → IsHeadTree objects before (tree_for objects tree.entries).0
  heads_at objects has = record {
    head = settled.head;
    pushed = settled.pushed;
    named = got.reading.named;
    commit = commit;
    stored = got.stored objects has;
    is_tree = is_tree_of objects commit.root tree.entries (tree_for objects tree.entries).0 (got.entries objects has) (tree_for objects tree.entries).1;
  }

  pub plan_halts : ((c : Contents) → told ≡ Some c → GoesUnpushed cuts c index before) → (f : SyncFault) → IsUnplanned settled.scan index tree.entries (is_pushed settled.pushed) f → Refuses this before f
  plan_halts goes (fault.Blocked path) un =
      fails_here this before got.reading.stage got.reading.late got.reading.going (fault.Blocked path) got.reading.few (tt, tt)
      (λ c is.
      let was : GoingOver this c before = got.reading.going.over c is in (
        was.found,
        inr (
          goes c is,
          was.had,
          was.is_had,
          λ objects base over.
              let has : HasGot objects before = has_got objects before was.had was.is_had over.has_all in (
                (
                  (tree_for objects tree.entries).0,
                  heads_at objects has,
                  got.whole objects has,
                  un.1 cuts c (got.reading.seen c is).scanned objects (tree_for objects tree.entries).0 (tree_for objects tree.entries).1,
                ),
                got.reading.going.unbegun,
              ),
        ),
      ))
  plan_halts goes fault.NoMemory un = none_halts
  plan_halts goes _ un = absurd un.0

  -- ---- the checkout stopped

  module _ (plan : Plan) (writes : List Write) (planned : IsPlanned settled.scan index tree.entries (is_pushed settled.pushed) plan) (made : AreMade tree.objects plan.writes writes)
      (old new : List Sent) (now : Option Contents) (f : SyncFault) (stops : StopsOut (source_of asker) plan.doomed writes settled.scan cuts old new told now f)
      (unchanged : (c : Contents) → told ≡ Some c → is_change f ≡ false) (apart : IsDone settled index → ⊥)
      (may : MayChange settled.differs settled.scan.paths index.entries tree.entries) where
    abbrev more : List Sent
    more = stops.more

    abbrev Asks : List ℕ → Type 0
    Asks = IsOfHead this before settled commit tree got

    due_in : AreIn tree.entries plan.writes
    due_in = all_planned tree.entries settled.scan index (is_pushed settled.pushed) plan.writes planned.written

    asks : All (IsBlockAsk (source_of asker) Asks) more
    asks = asked_stopped (source_of asker) Asks f more (blocks_due writes) (blocks_of_head this before settled commit tree got plan.writes writes due_in made) stops.stops

    gets : All IsGetting more
    gets = gets_blocks (source_of asker) Asks more asks

    syncs : All (IsSyncOrder asker.lib asker.secret) more
    syncs = asks_blocks (source_of asker) Asks more asks

    needed : GetsNeeded before more
    needed =
        subst (λ (b : List Sent). GetsNeeded b more) (append-nil before)
        (needed_blocks (source_of asker) before settled.head settled.pushed (names this before settled got.reading) [] more (All-nil IsGetting) asks)

    -- over objects that have what was got before it
    root_writes : (objects : Objects) → HasGot objects before → AreOf objects commit.root writes
    root_writes objects has =
        made_of objects commit.root tree.entries (got.entries objects has) plan.writes writes due_in (made_for tree.objects objects (got.kept objects has) plan.writes writes made)

    so_here : (g : SyncFault) → IsWrongIn (source_of asker) writes more g → Stops (source_of asker) more (blocks_due writes) g → ((c : Contents) → told ≡ Some c → is_change g ≡ false)
        → is_quiet g ≡ true → IsSoInRound cuts told index (before ++ more) g
    so_here fault.Folder wrong stop none quiet = (tt, tt)
    so_here fault.NoMemory wrong stop none quiet = (tt, tt)
    so_here (fault.Changed path) wrong stop none quiet = ((λ c is. true≢false (none c is)), tt)
    so_here (fault.BadTree (walk.WrongSize id)) wrong stop none quiet = (
      (
        settled.head,
        settled.pushed,
        names this before settled got.reading more gets,
        λ objects has.
            let first : HasGot objects before = got_first objects before more has in (
              commit,
              got.stored objects first,
              wrong_tree tree.objects objects (got.kept objects first) commit.root plan.writes writes made (root_writes objects first) id
                  (missized (source_of asker) writes more id objects wrong
                  (has_of_stopped objects (source_of asker) (fault.BadTree (walk.WrongSize id)) more (blocks_due writes) stop (got_later objects before more has))),
            ),
      ),
      tt,
    )
    so_here _ wrong stop none quiet = absurd (true≢false (sym quiet))

    own_cause : CausedBy (IsSoInRound cuts told index (before ++ more)) more f
    own_cause = caused_stop (IsSoInRound cuts told index (before ++ more)) (source_of asker) more (blocks_due writes) f stops.stops (so_here f stops.wrong stops.stops unchanged)

    of : IsOfCheckout f
    of = of_checkout asker f more (blocks_due writes) stops.stops

    -- each order is for a block
    block_order_of : (order : Order) (ending : Ending) → Contains more (order, ending) → (id : List ℕ) × (order ≡ block_order (source_of asker) id)
    block_order_of order ending there = let is = All-contains (IsBlockAsk (source_of asker) Asks) more (order, ending) asks there in (is.0, is.1)

    abbrev is_upload_check : What → Bool
    is_upload_check (what.Check asked) = true
    is_upload_check _ = false

    comes_by : (c : Contents) (g : SyncFault) → IsOfCheckout g → CausedBy (IsSoInRound cuts told index (before ++ more)) more g
        → (index.base ≡ None → HasPath c → FindsSome (before ++ more) → ⊥) → ComesInOrder c index (before ++ more) g
    comes_by c (fault.Refused r) is (inl (order, ending, (front, same), refused, ends)) none = λ went.
        let asked = block_order_of order ending (subst (λ (sends : List Sent). Contains sends (order, ending)) (sym same) (Contains-push front (order, ending))) in
        let whole : before ++ more ≡ (before ++ front) ++ (order, ending) ∷ [] =
        ap (λ (sends : List Sent). before ++ sends) same ∙ sym (append_assoc before front ((order, ending) ∷ [])) in
        absurd (refused_not_well (before ++ front) (order, ending) r refused ends (ap (λ (o : Order). is_too_long o.what r) asked.1) (subst (All WentWell) whole went))
    comes_by c (fault.Refused r) is (inr (denied, (order, ending, there, checks, refused), all, so)) none =
        let asked = block_order_of order ending there in
        absurd (true≢false (sym (ap is_upload_check checks) ∙ ap (λ (o : Order). is_upload_check o.what) asked.1))
    comes_by c fault.NoMemory is cause none = tt
    comes_by c (fault.Remote why) is cause none = tt
    comes_by c (fault.Damaged want given) is cause none = tt
    comes_by c fault.Folder is cause none = none
    comes_by c (fault.Changed path) is cause none = none
    comes_by c (fault.BadTree why) is cause none = none
    comes_by c _ is cause none = absurd is

    caused_over : (objects : Objects) (c : Contents) (g : SyncFault) → IsOfCheckout g → CausedOver objects c (before ++ more) g
    caused_over objects c (fault.Blocked path) is = absurd is
    caused_over objects c _ is = tt

    module _ (c : Contents) (is : told ≡ Some c) where
      abbrev had_before : List (Key × List ℕ)
      had_before = (got.reading.offered c is).0

      abbrev holds_now : (d : Contents) × (now ≡ Some d)
      holds_now = some_value now (stops.tells c is)

      module _ (objects : Objects) (base : Tree) (all : Over objects cuts c index base (had_before ++ had_of more)) where
        over_before : Over objects cuts c index base had_before
        over_before = over_first objects cuts c index base had_before (had_of more) all

        has_more : HasAll objects (had_of more)
        has_more = has_later objects had_before (had_of more) all.has_all

        has_before : HasGot objects before
        has_before = has_got objects before had_before (got.reading.offered c is).1 over_before.has_all

        offer : IsOfferOf objects cuts c index got.reading.moment user (asked_head before None) settled.pushed
        offer = (got.reading.offered c is).2 objects base over_before

        alike : (t : Tree) → StandsFor objects tree.entries t → AreAlike c (alone_at cuts c index tree.entries (is_pushed settled.pushed)) t
        alike t stands =
            alone_alike objects cuts c index base had_before over_before (got.reading.seen c is).formed got.reading.moment user (is_pushed settled.pushed)
            (pushed_so objects cuts c index got.reading.moment user (asked_head before None) settled.pushed offer) tree.entries t stands

        abbrev steps : List Step
        steps = checkout_steps objects plan.doomed writes

        the_plan : IsPlan (tree_for objects tree.entries).0 c
            (λ path. is_alone cuts (at c path) (fin.get index.entries path) (entry_below objects path commit.root) (is_some settled.pushed)) steps
        the_plan =
            plan_is objects cuts c settled.scan (got.reading.seen c is).scanned index settled.pushed tree.objects tree.entries (got.kept objects has_before) commit.root
            (got.entries objects has_before) plan writes planned made alike

        left_by : now ≡ Some (run (checkout_steps objects stops.gone stops.done) c)
        left_by = stops.left c is objects has_more

        holds : holds_now.0 ≡ run (checkout_steps objects stops.gone stops.done) c
        holds = let same : Some holds_now.0 ≡ Some (run (checkout_steps objects stops.gone stops.done) c) = sym holds_now.1 ∙ left_by in cc

        front : Front steps c holds_now.0
        front =
            let from = stopped_from (source_of asker) plan.doomed writes settled.scan cuts old new told told now f stops c is objects has_more in
            let same : Some from.0 ≡ Some holds_now.0 = sym from.1 ∙ holds_now.1 in
            let equal : from.0 ≡ holds_now.0 = cc in
            subst (Front steps c) equal from.2

        sized_there : (path : PathV) (bytes : List ℕ) → at holds_now.0 path ≡ Some (holding.File bytes) → at c path ≢ Some (holding.File bytes) → IsSized objects commit.root path bytes
        sized_there path bytes there other = by (file_from (checkout_steps objects stops.gone stops.done) c path bytes (ap (λ (d : Contents). at d path) (sym holds) ∙ there))
          where
            by : (at c path ≡ Some (holding.File bytes)) ⊎ Contains (checkout_steps objects stops.gone stops.done) (Step.Wrote path bytes) → IsSized objects commit.root path bytes
            by (inl was) = absurd (other was)
            by (inr written) =
                written_sized objects commit.root stops.gone stops.done
                (front_of (λ (w : Write). IsNodeOf objects commit.root w.path w.node) writes stops.done stops.rest stops.written (root_writes objects has_before))
                (front_of (λ (w : Write). IsObjectOf objects w.node) writes stops.done stops.rest stops.written
                (made_objects tree.objects objects (got.kept objects has_before) plan.writes writes made))
                (stops.sized objects has_more) path bytes written

        stopped : IsStopped objects cuts c holds_now.0 index user (before ++ more) shows
        stopped = record {
          tree = (tree_for objects tree.entries).0;
          heads = record {
            head = settled.head;
            pushed = settled.pushed;
            named = names this before settled got.reading more gets;
            commit = commit;
            stored = got.stored objects has_before;
            is_tree = is_tree_of objects commit.root tree.entries (tree_for objects tree.entries).0 (got.entries objects has_before) (tree_for objects tree.entries).1;
          };
          moment = got.reading.moment;
          shown = got.reading.shown;
          offered = subst (λ (o : Option (List ℕ)). IsOfferOf objects cuts c index got.reading.moment user o settled.pushed)
              (sym (asked_then None before more ∙ asked_gets (asked_head before None) more gets)) offer;
          whole = got.whole objects has_before;
          free = none_blocked objects cuts c settled.scan (got.reading.seen c is).scanned index settled.pushed tree.objects tree.entries (got.kept objects has_before) commit.root
              (got.entries objects has_before) plan writes planned made alike;
          steps = steps;
          is_plan = the_plan;
          went = front;
          asked = asked_then_written objects commit.root steps before more got.reading.going.unbegun
              (asked_within objects commit.root (source_of asker) plan.doomed writes more f (root_writes objects has_before) stops.stops);
          holds = λ path.
              plan_holds (tree_for objects tree.entries).0 c
              (λ other. is_alone cuts (at c other) (fin.get index.entries other) (entry_below objects other commit.root) (is_some settled.pushed)) path holds_now.0 steps the_plan front;
          sized = sized_there;
          nameless = ap (λ (d : Contents). d.nameless) holds ∙ nameless_kept (checkout_steps objects stops.gone stops.done) c;
        }

    pub stopped_finishes : Finishes this now index (before ++ more) (Err f)
    stopped_finishes = record {
      orders = orders_gets this before more got.reading.stage got.reading.late got.reading.going gets got.reading.may_get syncs needed;
      ends = (
        went_then before more got.reading.going.went (stopped_well (source_of asker) f more (blocks_due writes) stops.stops),
        caused_behind (IsSoInRound cuts told index (before ++ more)) before more f of got.reading.going.went own_cause,
        (λ other. All-append WentWell before more got.reading.going.went (ordered_went (source_of asker) f more (blocks_due writes) stops.stops other)),
        (λ early.
            let sum : stale_count (before ++ more) ≡ stale_count before + stale_count more = late_then before more in
            let lates : stale_count before ≡ got.reading.late = got.reading.going.lates in
            let none : stale_count more ≡ 0 = stopped_fresh (source_of asker) f more (blocks_due writes) stops.stops in
            let few : got.reading.late ≤ 2 = got.reading.few in
            omega (arith, sum, lates, none, few)),
      );
      leaves = refl;
      skipped = λ c d first later path is.
          front_skipped tree.objects cuts c settled.scan plan (planned.looks cuts c (got.reading.seen c first).scanned (got.reading.seen c first).within) writes made told now first stops.gone
          stops.kept stops.done stops.rest stops.removed stops.written stops.others d later path is;
      keeps = record {
        tells = stops.tells;
        loses = λ c d first held. inr (loses_none asker user shows cuts told index before settled commit tree got apart may more gets c first);
        touches = λ c d first held.
            inr (front_touched asker cuts c index settled (got.reading.seen c first).scanned got.rounds got.mid before more got.named commit got.got tree got.fetched plan writes planned made told now d
            first held stops.gone stops.kept stops.done stops.rest stops.removed stops.written stops.others);
      };
      sends = λ c is.
          sends_gets this before more got.reading.stage got.reading.late got.reading.going gets got.reading.may_get syncs needed c (got.reading.going.over c is).sends;
      over = λ c is.
          let was : GoingOver this c before = got.reading.going.over c is in (
            (holds_now c is).0,
            (holds_now c is).1,
            uploads_gets this before more got.reading.stage got.reading.late got.reading.going gets got.reading.may_get syncs needed c was.uploads,
            order_gets this before more got.reading.stage got.reading.late got.reading.going gets got.reading.may_get syncs needed c was (got.reading.over c is),
            comes_by c f of own_cause
                (found_over_gets this before more got.reading.stage got.reading.late got.reading.going gets got.reading.may_get syncs needed c was (got.reading.over c is)),
            (λ early. absurd (never_late f of early)),
            inr (
              goes_unpushed asker user shows cuts told index before settled commit tree got apart may more gets c is,
              had_before c is ++ had_of more,
              had_then before more (had_before c is) (had_of more) (got.reading.offered c is).1 (stopped_had (source_of asker) more (blocks_due writes) f stops.stops),
              λ objects base all. (caused_over objects c f of, inr (stopped c is objects base all)),
            ),
          );
    }
