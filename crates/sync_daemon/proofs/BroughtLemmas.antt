-- A sync whose checkout was done. The key lemma is brought_finishes.
use Rattle.std.proofs.Common.{◌≡◌, ◌≤◌, ◌+◌, ℕ, Bool, All, List, [], ◌++◌, length, Option, None, Some, is_some, Ok, refl, sym, ap, subst, ◌∙◌, append-nil, inl, inr, arith}
use Rattle.std.specs.FinMap as fin
use Rattle.std.proofs.lemmas.List.Elements.{All-append, All-nil}
use Rattle.ids.specs.Key.{Objects}
use Rattle.ids.specs.declared.key.Key.{Key}
use Rattle.tree_model.specs.Path.{PathV}
use Rattle.tree_model.specs.Tree.{Tree}
use Rattle.block_chunker.specs.declared.cuts.Cuts.{Cuts}
use Rattle.commit_objects.specs.declared.commit.Commit.{Commit}
use Rattle.folder_side.specs.Folder.{Contents, at}
use Rattle.folder_side.specs.WorkingTree.{HoldsLeft}
use Rattle.local_index.specs.declared.index.Index.{Index}
use Rattle.object_graph.specs.Objects.{AreEntriesOf, entry_below}
use Rattle.remote_calls.specs.Sends.{Sent}
use Rattle.sync_rules.specs.Causes.{WentWell, stale_count}
use Rattle.sync_rules.specs.Checkout.{IsPlan, Step, is_alone, run}
use Rattle.sync_rules.specs.Named.{HasAll, HasGot, asked_head, last_head}
use Rattle.sync_rules.specs.Offer.{IsOfferOf}
use Rattle.sync_rules.specs.OneSync.{KnowsHead}
use Rattle.sync_rules.specs.Orders.{GetsNeeded, IsSyncOrder}
use Rattle.sync_rules.specs.Premises.{Over}
use Rattle.sync_rules.specs.Synced.{IsSynced}
use Rattle.sync_rules.proofs.GotLemmas.{got_first, has_got}
use Rattle.sync_rules.proofs.OverLemmas.{has_later, over_first}
use Rattle.sync_rules.proofs.PlanLemmas.{plan_leaves}
use Rattle.tree_checkout.specs.BlockGets.{had_of}
use Rattle.tree_checkout.specs.CheckingOut.{AreFor, AreOf, checkout_steps}
use Rattle.tree_checkout.specs.Planning.{AreAlike, StandsFor, alone_at}
use Rattle.tree_checkout.specs.Steps.{blocks_due, owns_of}
use Rattle.tree_checkout.specs.declared.planning.Plan.{Plan}
use Rattle.tree_checkout.specs.declared.steps.Write.{Write}
use Rattle.tree_checkout.proofs.AskLemmas.{asked_all}
use Rattle.tree_checkout.proofs.CauseLemmas.{all_went, got_fresh}
use Rattle.tree_checkout.proofs.HadLemmas.{got_had}
use Rattle.tree_fetch.specs.declared.asker.Asker.{Asker}
use Rattle.tree_fetch.specs.declared.tree.FetchedTree.{FetchedTree}
use Rattle.tree_push.proofs.OfferedContentLemmas.{seen_folder}
use Rattle.sync_daemon.specs.Bringing.{AreMade, Changes, IsDone, IsOwnHead, IsPlanned, KnowsAs, MayChange, index_of, is_pushed, source_of, synced_of, with_owns}
use Rattle.sync_daemon.specs.Finishing.{Finishes}
use Rattle.sync_daemon.specs.Going.{GoingOver, Sync}
use Rattle.sync_daemon.specs.Rounds.{sync_of}
use Rattle.sync_daemon.specs.declared.bringing.Done.{Done}
use Rattle.sync_daemon.specs.declared.round.Settled.{Settled}
use Rattle.sync_daemon.proofs.BlockSendLemmas.{IsBlockAsk, asked_got, asks_blocks, gets_blocks, needed_blocks, removed_count, written_count}
use Rattle.sync_daemon.proofs.CheckedOutLemmas.{asked_then_written, conflict_told, for_these, held_is, none_blocked, of_root, plan_is, pushed_so, sizes_right}
use Rattle.sync_daemon.proofs.CheckoutFaultLemmas.{some_value}
use Rattle.sync_daemon.proofs.GetLemmas.{IsGetting, asked_gets, order_gets, orders_gets, uploads_gets, sends_gets}
use Rattle.sync_daemon.proofs.GoingLemmas.{had_then, late_then}
use Rattle.sync_daemon.proofs.GotTreeLemmas.{HasTree, IsOfHead, blocks_of_head}
use Rattle.sync_daemon.proofs.HeadTreeLemmas.{alone_alike, is_tree_of, tree_for}
use Rattle.sync_daemon.proofs.JoinLemmas.{asked_then}
use Rattle.sync_daemon.proofs.NewIndexLemmas.{index_names, index_stands, knows_root, knows_sizes}
use Rattle.sync_daemon.proofs.ReadingLemmas.{names}
use Rattle.sync_daemon.proofs.SkippedLemmas.{all_skipped}
use Rattle.sync_daemon.proofs.GoesUnpushedLemmas.{goes_unpushed, loses_none}
use Rattle.sync_daemon.proofs.UnpushedLemmas.{all_touched}
use Rattle.sync_daemon.proofs.WrittenLemmas.{AreIn, all_planned}

module _ (asker : Asker) (user : List ℕ) (shows : ℕ → Type 0) (cuts : Cuts) (told : Option Contents) (index : Index) (before : List Sent) (settled : Settled) (commit : Commit)
    (tree : FetchedTree) (got : HasTree (sync_of asker user shows cuts told index) before settled commit tree) (apart : IsDone settled index → ⊥) (other : IsOwnHead settled index → ⊥)
    (plan : Plan) (writes : List Write) (planned : IsPlanned settled.scan index tree.entries (is_pushed settled.pushed) plan) (made : AreMade tree.objects plan.writes writes)
    (old new : List Sent) (now : Option Contents) (done : Done) (changes : Changes asker cuts settled.scan tree.entries plan writes old new told now done)
    (may : MayChange settled.differs settled.scan.paths index.entries tree.entries) where
  abbrev this : Sync
  this = sync_of asker user shows cuts told index

  abbrev more : List Sent
  more = changes.out.more

  abbrev later : Index
  later = index_of index settled done

  abbrev Asks : List ℕ → Type 0
  Asks = IsOfHead this before settled commit tree got

  due_in : AreIn tree.entries plan.writes
  due_in = all_planned tree.entries settled.scan index (is_pushed settled.pushed) plan.writes planned.written

  asks : All (IsBlockAsk (source_of asker) Asks) more
  asks = asked_got (source_of asker) Asks (blocks_due writes) more (blocks_of_head this before settled commit tree got plan.writes writes due_in made) changes.out.got

  gets : All IsGetting more
  gets = gets_blocks (source_of asker) Asks more asks

  syncs : All (IsSyncOrder asker.lib asker.secret) more
  syncs = asks_blocks (source_of asker) Asks more asks

  needed : GetsNeeded before more
  needed =
      subst (λ (b : List Sent). GetsNeeded b more) (append-nil before)
      (needed_blocks (source_of asker) before settled.head settled.pushed (names this before settled got.reading) [] more (All-nil IsGetting) asks)

  ends_named : last_head (before ++ more) None ≡ Some (settled.head, settled.pushed)
  ends_named = names this before settled got.reading more gets

  -- ---- over any folder

  knows_head : (objects : Objects) → HasGot objects (before ++ more) → KnowsHead objects later (synced_of settled commit done)
  knows_head objects has =
      let first : HasGot objects before = got_first objects before more has in record {
        commit = commit;
        stored = got.stored objects first;
        conflict = conflict_told settled.pushed settled.head commit;
        knows = knows_root objects commit.root settled.scan (with_owns fin.empty writes changes.owns) tree.entries (got.entries objects first) later changes.knows;
        sizes = knows_sizes objects commit.root settled.scan (with_owns fin.empty writes changes.owns) tree.entries (got.entries objects first) later changes.knows;
      }

  -- ---- over a folder that tells what it holds

  module _ (c : Contents) (is : told ≡ Some c) where
    abbrev had_before : List (Key × List ℕ)
    had_before = (got.reading.offered c is).0

    abbrev holds_now : (d : Contents) × (now ≡ Some d)
    holds_now = some_value now (changes.out.tells c is)

    module _ (objects : Objects) (base : Tree) (all : Over objects cuts c index base (had_before ++ had_of more)) where
      over_before : Over objects cuts c index base had_before
      over_before = over_first objects cuts c index base had_before (had_of more) all

      has_more : HasAll objects (had_of more)
      has_more = has_later objects had_before (had_of more) all.has_all

      has_before : HasGot objects before
      has_before = has_got objects before had_before (got.reading.offered c is).1 over_before.has_all

      are : AreEntriesOf objects commit.root tree.entries
      are = got.entries objects has_before

      offer : IsOfferOf objects cuts c index got.reading.moment user (asked_head before None) settled.pushed
      offer = (got.reading.offered c is).2 objects base over_before

      alike : (t : Tree) → StandsFor objects tree.entries t → AreAlike c (alone_at cuts c index tree.entries (is_pushed settled.pushed)) t
      alike t stands =
          alone_alike objects cuts c index base had_before over_before (got.reading.seen c is).formed got.reading.moment user (is_pushed settled.pushed)
          (pushed_so objects cuts c index got.reading.moment user (asked_head before None) settled.pushed offer) tree.entries t stands

      abbrev head_is : Tree
      head_is = (tree_for objects tree.entries).0

      stands : StandsFor objects tree.entries head_is
      stands = (tree_for objects tree.entries).1

      for : AreFor objects plan.writes writes
      for = for_these objects cuts c settled.scan (got.reading.seen c is).scanned index settled.pushed tree.objects tree.entries (got.kept objects has_before) commit.root are plan writes planned made alike

      root_writes : AreOf objects commit.root writes
      root_writes =
          of_root objects cuts c settled.scan (got.reading.seen c is).scanned index settled.pushed tree.objects tree.entries (got.kept objects has_before) commit.root are plan writes planned made
          alike

      abbrev steps : List Step
      steps = checkout_steps objects plan.doomed writes

      abbrev left_alone : PathV → Bool
      left_alone path = is_alone cuts (at c path) (fin.get index.entries path) (entry_below objects path commit.root) (is_some settled.pushed)

      the_plan : IsPlan head_is c left_alone steps
      the_plan =
          plan_is objects cuts c settled.scan (got.reading.seen c is).scanned index settled.pushed tree.objects tree.entries (got.kept objects has_before) commit.root are plan writes planned made
          alike

      holds : holds_now.0 ≡ run steps c
      holds = let same : Some holds_now.0 ≡ Some (run steps c) = sym holds_now.1 ∙ changes.out.left c is objects has_more in cc

      owns_are : changes.owns ≡ owns_of cuts objects writes
      owns_are = changes.out.owned objects has_more

      known : KnowsAs settled.scan (with_owns fin.empty writes (owns_of cuts objects writes)) tree.entries later.entries
      known = subst (λ (owns : List (List ℕ)). KnowsAs settled.scan (with_owns fin.empty writes owns) tree.entries later.entries) owns_are changes.knows

      synced : IsSynced objects cuts c holds_now.0 index later head_is got.reading.moment user (before ++ more) (synced_of settled commit done)
      synced = record {
        named = ends_named;
        pushed = subst (λ (o : Option (List ℕ)). IsOfferOf objects cuts c index got.reading.moment user o settled.pushed)
            (sym (asked_then None before more ∙ asked_gets (asked_head before None) more gets)) offer;
        commit = commit;
        stored = got.stored objects has_before;
        is_tree = is_tree_of objects commit.root tree.entries head_is are stands;
        left = subst (HoldsLeft head_is c) (sym holds) (plan_leaves head_is c left_alone steps the_plan);
        stands = index_stands objects cuts c settled.scan (got.reading.seen c is).scanned index (is_pushed settled.pushed) tree.entries head_is stands (alike head_is stands) plan.writes writes
            planned.written due_in for later known;
        names = index_names objects settled.scan (with_owns fin.empty writes (owns_of cuts objects writes)) tree.entries head_is stands later known;
        knows = knows_root objects commit.root settled.scan (with_owns fin.empty writes changes.owns) tree.entries are later changes.knows;
        sizes = inr (knows_sizes objects commit.root settled.scan (with_owns fin.empty writes changes.owns) tree.entries are later changes.knows);
        base = refl;
        lib = refl;
        conflict = conflict_told settled.pushed settled.head commit;
        steps = steps;
        is_plan = the_plan;
        done = holds;
        spared = λ none based. absurd (apart (none, based));
        unfetched = λ same. absurd (other (same, seen_folder objects cuts c index base had_before over_before settled.scan (got.reading.seen c is).formed (got.reading.seen c is).scanned));
        asked = asked_then_written objects commit.root steps before more got.reading.going.unbegun
            (asked_all objects commit.root (source_of asker) plan.doomed writes more root_writes changes.out.got);
        whole = inr (inl (
          got.whole objects has_before,
          none_blocked objects cuts c settled.scan (got.reading.seen c is).scanned index settled.pushed tree.objects tree.entries (got.kept objects has_before) commit.root are plan writes planned made
              alike,
        ));
        sized = sizes_right objects cuts c settled.scan (got.reading.seen c is).scanned index settled.pushed tree.objects tree.entries (got.kept objects has_before) commit.root are plan writes planned
            made alike (changes.out.sized objects has_more);
        removed = changes.removed ∙ sym (removed_count objects plan.doomed writes);
        written = changes.written ∙ ap length owns_are ∙ sym (written_count cuts objects plan.doomed writes);
        skipped = (got.reading.seen c is).scanned.skipped;
        held = changes.held
            ∙ held_is objects cuts c settled.scan (got.reading.seen c is).scanned index settled.pushed tree.objects tree.entries (got.kept objects has_before) commit.root are plan writes planned made
            alike;
      }

  pub brought_finishes : Finishes this now later (before ++ more) (Ok (synced_of settled commit done))
  brought_finishes = record {
    orders = orders_gets this before more got.reading.stage got.reading.late got.reading.going gets got.reading.may_get syncs needed;
    ends = (
      All-append WentWell before more got.reading.going.went (all_went (source_of asker) (blocks_due writes) more changes.out.got),
      (let sum : stale_count (before ++ more) ≡ stale_count before + stale_count more = late_then before more in
          let lates : stale_count before ≡ got.reading.late = got.reading.going.lates in
          let none : stale_count more ≡ 0 = got_fresh (source_of asker) (blocks_due writes) more changes.out.got in
          let few : got.reading.late ≤ 2 = got.reading.few in
          omega (arith, sum, lates, none, few)),
      ends_named,
    );
    leaves = (refl, refl, inr (inl knows_head));
    skipped = λ c d first later path is.
        all_skipped tree.objects cuts c settled.scan plan (planned.looks cuts c (got.reading.seen c first).scanned (got.reading.seen c first).within) writes made told now first changes.out.others d
        later path is;
    keeps = record {
      tells = changes.out.tells;
      loses = λ c d first held. inr (loses_none asker user shows cuts told index before settled commit tree got apart may more gets c first);
      touches = λ c d first held.
          inr (all_touched asker cuts c index settled (got.reading.seen c first).scanned got.rounds got.mid before more got.named commit got.got tree got.fetched plan writes planned made told now d first
          held changes.out.others);
    };
    sends = λ c is.
        sends_gets this before more got.reading.stage got.reading.late got.reading.going gets got.reading.may_get syncs needed c (got.reading.going.over c is).sends;
    over = λ c is.
        let was : GoingOver this c before = got.reading.going.over c is in (
          (holds_now c is).0,
          (holds_now c is).1,
          uploads_gets this before more got.reading.stage got.reading.late got.reading.going gets got.reading.may_get syncs needed c was.uploads,
          order_gets this before more got.reading.stage got.reading.late got.reading.going gets got.reading.may_get syncs needed c was (got.reading.over c is),
          goes_unpushed asker user shows cuts told index before settled commit tree got apart may more gets c is,
          had_before c is ++ had_of more,
          had_then before more (had_before c is) (had_of more) (got.reading.offered c is).1 (got_had (source_of asker) (blocks_due writes) more changes.out.got),
          λ objects base all. ((tree_for objects tree.entries).0, got.reading.moment, got.reading.shown, synced c is objects base all),
        );
  }
