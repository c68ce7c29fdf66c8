-- What is so of a folder in which nothing was pushed: it agrees with its index, or a checkout that was interrupted left it so, or one who
-- may only read changed it, and the sync is refused. The key lemmas are may_same, may_where, interrupted_so,
-- goes_unpushed, loses_none, goes_here and changed_refuses.
use Rattle.std.proofs.Common.{◌≡◌, ◌≢◌, ◌⊎◌, ◌↔◌, IsTrue, ℕ, Bool, true, false, All, List, [], ◌++◌, Option, None, Some, is_some, refl, sym, ap, subst, ◌∙◌, append-nil, inl, inr, true≢false}
use Rattle.std.specs.FinMap as fin
use Rattle.std.proofs.lemmas.List.Elements.{All-nil}
use Rattle.ids.specs.Key.{Objects}
use Rattle.block_chunker.specs.declared.cuts.Cuts.{Cuts}
use Rattle.commit_objects.specs.declared.commit.Commit.{Commit}
use Rattle.folder_side.specs.Folder.{Contents}
use Rattle.library_state.specs.declared.refusal.Refusal.TheVariants as refusal
use Rattle.local_index.specs.declared.index.Index.{Index}
use Rattle.remote_calls.specs.Sends.{Sent}
use Rattle.sync_rules.specs.Causes.{DeniesUpload}
use Rattle.sync_rules.specs.InterruptedCheckout.{IsInterrupted, IsLeftByCheckout, is_left}
use Rattle.sync_rules.specs.Named.{Head, HasGot}
use Rattle.sync_rules.specs.Offer.{Agrees}
use Rattle.sync_rules.specs.OneSync.{GoesUnpushed}
use Rattle.sync_rules.specs.declared.fault.SyncFault.TheVariants as fault
use Rattle.sync_rules.proofs.GotLemmas.{got_first}
use Rattle.tree_fetch.specs.declared.asker.Asker.{Asker}
use Rattle.tree_fetch.specs.declared.tree.FetchedTree.{FetchedTree}
use Rattle.tree_push.specs.OfferedEntries.{KnownPaths, SeenPaths}
use Rattle.sync_daemon.specs.Bringing.{IsDone, MayChange}
use Rattle.sync_daemon.specs.Going.{Refuses, Sync}
use Rattle.sync_daemon.specs.InterruptedCheckout.{EntryPaths, IsSeenLeft}
use Rattle.sync_daemon.specs.Rounds.{Differs, sync_of}
use Rattle.sync_daemon.specs.Unpushed.{IsKnownOrTaken, ReadsOn}
use Rattle.sync_daemon.specs.declared.round.Settled.{Settled}
use Rattle.sync_daemon.proofs.GetLemmas.{IsGetting, denies_then}
use Rattle.sync_daemon.proofs.GoingLemmas.{fails_here}
use Rattle.sync_daemon.proofs.GotTreeLemmas.{HasTree}
use Rattle.sync_daemon.proofs.ReadingLemmas.{headed, names, pushed_in}
use Rattle.sync_daemon.proofs.UnpushedLemmas.{kept_later}

-- whether a folder may be changed
pub may_same : (differs : Bool) (seens : SeenPaths) (knowns : KnownPaths) (entries : EntryPaths) → differs ≡ false → IsTrue true ↔ MayChange differs seens knowns entries
may_same differs seens knowns entries same = ((λ is apart. absurd (true≢false (sym apart ∙ same))), (λ may. refl))

pub may_where : (differs : Bool) (seens : SeenPaths) (knowns : KnownPaths) (entries : EntryPaths) → differs ≡ true → (b : Bool) → IsTrue b ↔ IsSeenLeft seens knowns entries
    → IsTrue b ↔ MayChange differs seens knowns entries
may_where differs seens knowns entries apart b test = ((λ is other. test.0 is), (λ may. test.1 (may apart)))

abbrev head_in : Option Head → List ℕ
head_in None = []
head_in (Some (head, pushed)) = head

base_of : (o : Option (List ℕ)) → is_some o ≡ true → (base : List ℕ) × (o ≡ Some base)
base_of None some = absurd (true≢false (sym some))
base_of (Some base) some = (base, refl)

module _ (asker : Asker) (user : List ℕ) (shows : ℕ → Type 0) (cuts : Cuts) (told : Option Contents) (index : Index) (before : List Sent) (settled : Settled) (commit : Commit)
    (tree : FetchedTree) (got : HasTree (sync_of asker user shows cuts told index) before settled commit tree) where
  abbrev this : Sync
  this = sync_of asker user shows cuts told index

  module _ (c : Contents) (is : told ≡ Some c) (objects : Objects) (has : HasGot objects before) where
    -- what was seen is what the folder holds, and the entries that were got are the tree's
    left_by : IsSeenLeft settled.scan.paths index.entries tree.entries → IsLeftByCheckout objects cuts c index commit.root
    left_by left path =
        (λ i. is_left (sym ((got.reading.seen c is).scanned.paths path) i) (fin.get index.entries path) (sym (got.entries objects has path) i)) ∙ left path

    seen_by : IsLeftByCheckout objects cuts c index commit.root → IsSeenLeft settled.scan.paths index.entries tree.entries
    seen_by left path = (λ i. is_left ((got.reading.seen c is).scanned.paths path i) (fin.get index.entries path) (got.entries objects has path i)) ∙ left path

  -- ---- it goes on

  module _ (apart : IsDone settled index → ⊥) (may : MayChange settled.differs settled.scan.paths index.entries tree.entries) where
    pub interrupted_so : (more : List Sent) → (c : Contents) → told ≡ Some c → settled.differs ≡ true → IsInterrupted cuts c index (before ++ more) settled.head
    interrupted_so more c is differs =
        let reader : Differs this before settled = got.reading.differs differs in
        let based = base_of index.base reader.based in record {
          base = based.0;
          based = based.1;
          apart = λ one. apart (reader.unpushed, based.1 ∙ ap (λ (id : List ℕ). Some id) one);
          left = λ objects has.
              let first : HasGot objects before = got_first objects before more has in
              (commit, got.stored objects first, left_by c is objects first (may differs));
        }

    pub goes_unpushed : (more : List Sent) → All IsGetting more → (c : Contents) → told ≡ Some c → GoesUnpushed cuts c index (before ++ more)
    goes_unpushed more gets c is head named = by settled.differs refl
      where
        same : headed settled.head settled.pushed ≡ headed head None
        same = sym (names this before settled got.reading more gets) ∙ named

        unpushed : settled.pushed ≡ None
        unpushed = ap pushed_in same

        by : (b : Bool) → settled.differs ≡ b → Agrees cuts c index ⊎ (DeniesUpload (before ++ more) × IsInterrupted cuts c index (before ++ more) head)
        by false agrees = inl (got.reading.agrees c is unpushed agrees)
        by true differs = inr (
          denies_then before more (got.reading.differs differs).denies,
          subst (λ (id : List ℕ). IsInterrupted cuts c index (before ++ more) id) (ap head_in same) (interrupted_so more c is differs),
        )

    -- what it held is known or was taken in, or a checkout left it so
    pub loses_none : (more : List Sent) → All IsGetting more → (c : Contents) → told ≡ Some c
        → IsKnownOrTaken (record { lib = asker.lib; secret = asker.secret }) user shows cuts c index (before ++ more)
        ⊎ ReadsOn (record { lib = asker.lib; secret = asker.secret }) cuts c index (before ++ more)
    loses_none more gets c is = by settled.differs refl
      where
        by : (b : Bool) → settled.differs ≡ b
            → IsKnownOrTaken (record { lib = asker.lib; secret = asker.secret }) user shows cuts c index (before ++ more)
            ⊎ ReadsOn (record { lib = asker.lib; secret = asker.secret }) cuts c index (before ++ more)
        by false same = inl (kept_later (record { lib = asker.lib; secret = asker.secret }) user shows cuts c index before more (got.reading.kept c is same))
        by true differs =
            let reader : Differs this before settled = got.reading.differs differs in
            let based = base_of index.base reader.based in
            inr (record {
              rounds = got.rounds;
              mid = got.mid;
              got = before;
              later = more;
              sent = refl;
              head = settled.head;
              named = got.named ∙ ap (headed settled.head) reader.unpushed;
              last = names this before settled got.reading more gets ∙ ap (headed settled.head) reader.unpushed;
              denies = denies_then before more reader.denies;
              commit = commit;
              fetched = got.got;
              tree = tree;
              whole = got.fetched;
              base = based.0;
              based = based.1;
              apart = λ one. apart (reader.unpushed, based.1 ∙ ap (λ (id : List ℕ). Some id) one);
              left = λ path.
                  (λ i. is_left (sym ((got.reading.seen c is).scanned.paths path) i) (fin.get index.entries path) (fin.get tree.entries path)) ∙ may differs path;
            })

    pub goes_here : (c : Contents) → told ≡ Some c → GoesUnpushed cuts c index before
    goes_here c is = subst (λ (sends : List Sent). GoesUnpushed cuts c index sends) (append-nil before) (goes_unpushed [] (All-nil IsGetting) c is)

  -- ---- it is refused

  pub changed_refuses : (MayChange settled.differs settled.scan.paths index.entries tree.entries → ⊥) → Refuses this before (fault.Refused refusal.Denied)
  changed_refuses never = by settled.differs refl
    where
      unlike : (differs : settled.differs ≡ true) → (c : Contents) → told ≡ Some c → (objects : Objects) → HasGot objects before → IsLeftByCheckout objects cuts c index commit.root → ⊥
      unlike differs c is objects has left = never (λ same. seen_by c is objects has left)

      by : (b : Bool) → settled.differs ≡ b → Refuses this before (fault.Refused refusal.Denied)
      by false same = absurd (never (λ differs. absurd (true≢false (sym differs ∙ same))))
      by true differs =
          let reader : Differs this before settled = got.reading.differs differs in
          fails_here this before got.reading.stage got.reading.late got.reading.going (fault.Refused refusal.Denied) got.reading.few
          (inr (
            refl,
            reader.denies,
            got.reading.going.went,
            (
              (λ c is. (
                reader.other c is,
                inr (
                  settled.head,
                  got.reading.named ∙ ap (headed settled.head) reader.unpushed,
                  inr (λ objects has. (commit, got.stored objects has, unlike differs c is objects has)),
                ),
              )),
              reader.reads,
            ),
          ))
          (λ c is. ((λ went. ((got.reading.seen c is).within, λ none has. absurd (true≢false (sym reader.based ∙ ap is_some none)))), inl (tt, got.reading.going.unbegun)))
