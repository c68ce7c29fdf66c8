-- A sync that is settled goes on by what asks for the head's commit and tree, or is refused by it. The key lemmas are reading_begins,
-- reading_goes, stopped_refuses and wrong_refuses.
use Rattle.std.proofs.Common.{◌≡◌, ◌≤◌, ◌⊎◌, ℕ, Bool, true, false, All, List, [], ◌∷◌, ◌++◌, length, Option, None, Some, Ok, Err, refl, sym, ap, subst, ◌∙◌, append_assoc, append-nil, inl, inr, true≢false, arith}
use Rattle.std.specs.Prelude.{⊤}
use Rattle.std.specs.List.{Contains, flat_map}
use Rattle.std.proofs.lemmas.Grind.{flat_map-append}
use Rattle.std.proofs.lemmas.List.Elements.{All-append, All-head, All-tail, Contains-append_right}
use Rattle.ids.specs.Key.{Objects}
use Rattle.ids.specs.declared.key.Key.{Key}
use Rattle.tree_model.specs.Tree.{Tree}
use Rattle.block_chunker.specs.declared.cuts.Cuts.{Cuts}
use Rattle.commit_objects.specs.declared.commit.Commit.{Commit}
use Rattle.folder_side.specs.Folder.{Contents}
use Rattle.http_front.specs.declared.order.Order.{Order}
use Rattle.http_front.specs.declared.order.What.{What}
use Rattle.http_front.specs.declared.order.What.TheVariants as what
use Rattle.http_front.specs.declared.outcome.Outcome.TheVariants.{Plain}
use Rattle.library_state.specs.declared.refusal.Refusal.{Refusal}
use Rattle.library_state.specs.declared.refusal.Refusal.TheVariants as refusal
use Rattle.library_state.specs.declared.reply.Reply.TheVariants as reply
use Rattle.local_index.specs.declared.index.Index.{Index}
use Rattle.object_graph.specs.Objects.{commit_at}
use Rattle.object_graph.specs.Reached.{own_keys}
use Rattle.remote_calls.specs.Sends.{Ending, Sent}
use Rattle.sync_rules.specs.Causes.{CausedBy, DeniesUpload, FindsSome, HasPath, IsBadTree, IsLast, IsSoHere, IsWrongTree, WentWell, is_of_order, is_too_long, stale_count}
use Rattle.sync_rules.specs.Named.{HasGot, Head, IsHad, Named, asked_by, asked_head, got_in, is_block, is_get, keys_asked, last_head}
use Rattle.sync_rules.specs.Offer.{Agrees, IsOfferOf}
use Rattle.sync_rules.specs.OneSync.{ComesInOrder, HasNotBegun, NeedsNoTree}
use Rattle.sync_rules.specs.Orders.{GetsNeeded, IsSyncOrder, Stage, may_send}
use Rattle.sync_rules.specs.Orders.Stage.{Begins, Reads}
use Rattle.sync_rules.specs.Premises.{Over}
use Rattle.sync_rules.specs.declared.fault.SyncFault.{SyncFault}
use Rattle.sync_rules.specs.declared.fault.SyncFault.TheVariants as fault
use Rattle.sync_rules.proofs.GotLemmas.{got_first, got_later}
use Rattle.sync_rules.proofs.OverLemmas.{over_first}
use Rattle.sync_rules.proofs.WentLemmas.{goes_well}
use Rattle.tree_walk.specs.declared.fault.WalkFault.{WalkFault}
use Rattle.tree_walk.specs.declared.fault.WalkFault.TheVariants as walk
use Rattle.tree_fetch.specs.Fetching.{AsksOne, FindsWrongTree, GetsReached, IsAlone, Stopped}
use Rattle.tree_fetch.specs.declared.asker.Asker.{Asker}
use Rattle.sync_daemon.specs.RoundOrder.{IsSoInRound, stage_from}
use Rattle.sync_daemon.specs.Going.{Going, Stops, Sync}
use Rattle.sync_daemon.specs.Rounds.{Differs, IsSeen, IsSettled, sync_of}
use Rattle.sync_daemon.specs.Unpushed.{IsKnownOrTaken}
use Rattle.sync_daemon.specs.declared.round.Settled.{Settled}
use Rattle.sync_daemon.proofs.GetLemmas.{GetsOver, IsGetting, agrees_then, asked_gets, behind_get, denies_then, fails_gets, found_over_gets, goes_gets, head_gets, stage_gets}
use Rattle.sync_daemon.proofs.GoingLemmas.{had_then, last_then, last_with, refused_not_well}
use Rattle.sync_daemon.proofs.JoinLemmas.{asked_then, head_then, stage_then}
use Rattle.sync_daemon.proofs.TreeLemmas.{asks_of, gets_of, small_of, timely_of}
use Rattle.sync_daemon.proofs.UnpushedLemmas.{kept_later, settled_kept}

-- ---- where a sync stands that asks for the head's objects

abbrev pub IsSmallKey : Key → Type 0
IsSmallKey key = is_block key.kind ≡ false

-- no step of a plan was begun; what was offered, over what was had so far
pub record IsReading (s : Sync) (more : List Sent) (settled : Settled) : Type 0 where
  pub stage : Stage
  pub late : ℕ
  pub going : Going s more stage late
  pub few : late ≤ 2
  pub may_get : (asked : What) → is_get asked ≡ true → may_send stage asked ≡ true
  pub named : last_head more None ≡ Some (settled.head, settled.pushed)
  pub over : (c : Contents) → s.told ≡ Some c → GetsOver s more c
  pub moment : ℕ
  pub shown : s.shows moment
  pub seen : (c : Contents) → s.told ≡ Some c → IsSeen s.cuts c settled.scan
  pub agrees : (c : Contents) → s.told ≡ Some c → settled.pushed ≡ None → settled.differs ≡ false → Agrees s.cuts c s.index
  pub differs : settled.differs ≡ true → Differs s more settled
  pub kept : (c : Contents) → s.told ≡ Some c → settled.differs ≡ false → IsKnownOrTaken (record { lib = s.lib; secret = s.secret }) s.user s.shows s.cuts c s.index more
  pub offered : (c : Contents) → s.told ≡ Some c → (had : List (Key × List ℕ)) × IsHad more had × ((objects : Objects) (base : Tree) → Over objects s.cuts c s.index base had
      → IsOfferOf objects s.cuts c s.index moment s.user (asked_head more None) settled.pushed)

-- a head that was named, and what was pushed for it
abbrev pub headed : List ℕ → Option (List ℕ) → Option Head
headed head pushed = Some (head, pushed)

abbrev pub pushed_in : Option Head → Option (List ℕ)
pushed_in None = None
pushed_in (Some (head, pushed)) = pushed

-- where nothing was pushed the folder agrees with its index, or an upload is denied
agrees_by : (s : Sync) (more : List Sent) (settled : Settled) → IsSettled s more settled → (c : Contents) → s.told ≡ Some c → settled.pushed ≡ None
    → Agrees s.cuts c s.index ⊎ DeniesUpload more
agrees_by s more settled is c told none = by settled.differs refl
  where
    by : (b : Bool) → settled.differs ≡ b → Agrees s.cuts c s.index ⊎ DeniesUpload more
    by false same = inl (is.agrees c told none same)
    by true differs = inr (is.differs differs).denies

-- behind orders that ask for objects it still differs
differs_then : (s : Sync) (first more : List Sent) (settled : Settled) → All IsGetting more → Differs s first settled → Differs s (first ++ more) settled
differs_then s first more settled gets was = record {
  unpushed = was.unpushed;
  based = was.based;
  denies = denies_then first more was.denies;
  reads = stage_then Begins first more ∙ ap (λ (at : Stage). stage_from at more) was.reads ∙ stage_gets Reads more gets;
  other = was.other;
}

pub reading_begins : (s : Sync) (more : List Sent) (settled : Settled) → IsSettled s more settled → IsReading s more settled
reading_begins s more settled is = record {
  stage = is.stage;
  late = is.late;
  going = is.going;
  few = is.few;
  may_get = is.may_get;
  named = is.named;
  over = λ c told. record {
    within = (is.seen c told).within;
    agrees = λ head named. agrees_by s more settled is c told (ap pushed_in (sym is.named ∙ named));
    behind = is.behind c told;
  };
  moment = settled.moment;
  shown = is.shown;
  seen = is.seen;
  agrees = is.agrees;
  differs = is.differs;
  kept = settled_kept s more settled is;
  offered = is.offered;
}

-- no question for the head stands last behind a get
behind_gets : (first more : List Sent) → All IsGetting more → ((before : List Sent) (other : Sent) → first ≡ before ++ other ∷ [] → other.0.what ≡ what.Head None → ⊥)
    → (before : List Sent) (other : Sent) → first ++ more ≡ before ++ other ∷ [] → other.0.what ≡ what.Head None → ⊥
behind_gets first [] gets none before other same is = none before other (sym (append-nil first) ∙ same) is
behind_gets first (sent ∷ more) gets none before other same is =
    behind_gets (first ++ sent ∷ []) more (All-tail IsGetting sent more gets)
    (behind_get first sent (All-head IsGetting sent more gets)) before other (append_assoc first (sent ∷ []) more ∙ same) is

module _ (s : Sync) (first : List Sent) (settled : Settled) (is : IsReading s first settled) where
  pub names : (sends : List Sent) → All IsGetting sends → last_head (first ++ sends) None ≡ Some (settled.head, settled.pushed)
  names sends gets = head_then None first sends ∙ head_gets (last_head first None) sends gets ∙ is.named

  module _ (more : List Sent) (gets : All IsGetting more) (asks : All (IsSyncOrder s.lib s.secret) more) (needed : GetsNeeded first more) where
    pub over_then : (c : Contents) → s.told ≡ Some c → GetsOver s (first ++ more) c
    over_then c told =
        let was : GetsOver s first c = is.over c told in record {
          within = was.within;
          agrees = λ head named. agrees_then s.cuts c s.index first more (was.agrees head (sym (head_then None first more ∙ head_gets (last_head first None) more gets) ∙ named));
          behind = λ none has. behind_gets first more gets (was.behind none has);
        }

    -- what was asked for came
    pub reading_goes : All WentWell more → (stale_count more ≡ 0) → All IsSmallKey (keys_asked more) → (had : List (Key × List ℕ)) → IsHad more had → IsReading s (first ++ more) settled
    reading_goes went timely small had is_had = record {
      stage = is.stage;
      late = is.late;
      going = goes_gets s first more is.stage is.late is.going gets is.may_get asks needed went timely small had is_had is.over;
      few = is.few;
      may_get = is.may_get;
      named = names more gets;
      over = over_then;
      moment = is.moment;
      shown = is.shown;
      seen = is.seen;
      agrees = is.agrees;
      differs = λ apart. differs_then s first more settled gets (is.differs apart);
      kept = λ c told same. kept_later (record { lib = s.lib; secret = s.secret }) s.user s.shows s.cuts c s.index first more (is.kept c told same);
      offered = λ c told.
          let was = is.offered c told in (
            was.0 ++ had,
            had_then first more was.0 had was.1 is_had,
            λ objects base over.
                subst (λ (o : Option (List ℕ)). IsOfferOf objects s.cuts c s.index is.moment s.user o settled.pushed)
                (sym (asked_then None first more ∙ asked_gets (asked_head first None) more gets)) (was.2 objects base (over_first objects s.cuts c s.index base was.0 had over)),
          );
    }

    small_then : All IsSmallKey (keys_asked more) → All IsSmallKey (keys_asked (first ++ more))
    small_then small =
        subst (All IsSmallKey) (sym (flat_map-append (λ (sent : Sent). asked_by sent.0.what) first more))
        (All-append IsSmallKey (keys_asked first) (keys_asked more) is.going.unbegun small)

    found_none : (c : Contents) → s.told ≡ Some c → s.index.base ≡ None → HasPath c → FindsSome (first ++ more) → ⊥
    found_none c told = found_over_gets s first more is.stage is.late is.going gets is.may_get asks needed c (is.going.over c told) (is.over c told)

-- ---- it stops by an order

-- the last order of some is the last of all
last_of : (first more : List Sent) (order : Order) (ending : Ending) → IsLast more order ending → IsLast (first ++ more) order ending
last_of first more order ending (before, same) = (first ++ before, ap (λ (sends : List Sent). first ++ sends) same ∙ sym (append_assoc first before ((order, ending) ∷ [])))

-- the cause of a fault of an order
caused_by : (there : SyncFault → Type 0) (first more : List Sent) (f : SyncFault) → CausedBy (λ g. ⊥) more f → is_of_order f ≡ true → CausedBy there (first ++ more) f
caused_by there first more (fault.Remote g) (order, last) of = (order, last_of first more order (Err g) last)
caused_by there first more (fault.Refused r) (inl (order, ending, last, refused, ends)) of = inl (order, ending, last_of first more order ending last, refused, ends)
caused_by there first more (fault.Refused r) (inr (same, denies, went, never)) of = absurd never
caused_by there first more (fault.Damaged want got) (key, bytes, id, hash, other, kind_is, came) of = (
  key,
  bytes,
  id,
  hash,
  other,
  kind_is,
  subst (λ (all : List Named). Contains all (key, Some bytes)) (sym (flat_map-append got_in first more)) (Contains-append_right (flat_map got_in first) (flat_map got_in more) (key, Some bytes) came),
)
caused_by there first more (fault.BadTree (walk.Unreadable key)) (inl (order, bytes, tag, last, asked, kind_is, spells)) of =
    inl (order, bytes, tag, last_of first more order (Ok (Plain (reply.Got bytes) tag)) last, asked, kind_is, spells)
caused_by there first more (fault.BadTree (walk.Unreadable key)) (inr (went, never)) of = absurd never
caused_by there first more fault.NoMemory cause of = tt
caused_by there first more _ cause of = absurd (true≢false (sym of))

-- a refusal ends a list in which not all went well
abbrev order_in : Option Sent → Option What
order_in None = None
order_in (Some sent) = Some sent.0.what

-- want of memory is told of one object alone
short_of : (more : List Sent) (order : Order) (ending : Ending) (why : Refusal) → IsLast more order ending → IsAlone more (fault.Refused why) → is_too_long order.what why ≡ false
short_of more order ending why (before, same) alone = by order.what refl
  where
    asks_one : IsAlone more (fault.Refused refusal.NoMemory) → AsksOne order.what
    asks_one (other, its, (others, also), one) =
        let ends : Some (order, ending) ≡ Some (other, its) = sym (ap (last_with None) same ∙ last_then None before ((order, ending) ∷ [])) ∙ ap (last_with None) also ∙ last_then None others ((other, its) ∷ []) in
        let asked : Some order.what ≡ Some other.what = ap order_in ends in
        let equal : order.what ≡ other.what = cc in
        subst AsksOne (sym equal) one

    long : (id next : List ℕ) (ids : List (List ℕ)) → order.what ≡ what.GetFs (id ∷ next ∷ ids) → (r : Refusal) → IsAlone more (fault.Refused r)
        → is_too_long (what.GetFs (id ∷ next ∷ ids)) r ≡ false
    long id next ids asked refusal.NoMemory told = let one : length (id ∷ next ∷ ids) ≡ 1 = subst AsksOne asked (asks_one told) in let no : ⊥ = omega (arith, one) in absurd no
    long id next ids asked _ told = refl

    by : (w : What) → order.what ≡ w → is_too_long w why ≡ false
    by (what.GetFs []) asked = refl
    by (what.GetFs (id ∷ [])) asked = refl
    by (what.GetFs (id ∷ next ∷ ids)) asked = long id next ids asked why alone
    by _ asked = refl

-- what a fetch tells of a tree
abbrev pub IsTold : WalkFault → Type 0
IsTold (walk.WrongSize id) = ⊥
IsTold (walk.Store why) = ⊥
IsTold _ = ⊤

module _ (asker : Asker) (user : List ℕ) (shows : ℕ → Type 0) (cuts : Cuts) (told : Option Contents) (index : Index) (start first : List Sent) (settled : Settled)
    (is : IsReading (sync_of asker user shows cuts told index) first settled) where
  abbrev this : Sync
  this = sync_of asker user shows cuts told index

  no_tree : (f : SyncFault) → is_of_order f ≡ true → NeedsNoTree f
  no_tree (fault.Blocked path) of = absurd (true≢false (sym of))
  no_tree _ of = tt

  none_begun : (whole : List Sent) (f : SyncFault) → is_of_order f ≡ true → All IsSmallKey (keys_asked whole) → HasNotBegun whole f
  none_begun whole (fault.BadTree (walk.WrongSize id)) of small = absurd (true≢false (sym of))
  none_begun whole (fault.BadTree _) of small = small
  none_begun whole _ of small = small

  comes : (c : Contents) → told ≡ Some c → (more : List Sent) (f : SyncFault) → is_of_order f ≡ true → CausedBy (λ g. ⊥) more f → IsAlone more f
      → (index.base ≡ None → HasPath c → FindsSome (first ++ more) → ⊥) → ComesInOrder c index (first ++ more) f
  comes c told_so more (fault.Scan why) of cause alone none = absurd (true≢false (sym of))
  comes c told_so more (fault.Refused r) of (inl (order, ending, (before, same), refused, ends)) alone none = λ went.
      let whole : first ++ more ≡ (first ++ before) ++ (order, ending) ∷ [] =
      ap (λ (sends : List Sent). first ++ sends) same ∙ sym (append_assoc first before ((order, ending) ∷ [])) in
      absurd (refused_not_well (first ++ before) (order, ending) r refused ends (short_of more order ending r (before, same) alone) (subst (All WentWell) whole went))
  comes c told_so more (fault.Refused r) of (inr (same, denies, went, never)) alone none = absurd never
  comes c told_so more fault.NotEmpty of cause alone none = tt
  comes c told_so more fault.NoMemory of cause alone none = tt
  comes c told_so more (fault.Remote g) of cause alone none = tt
  comes c told_so more (fault.Damaged want got) of cause alone none = tt
  comes c told_so more _ of cause alone none = none

  pub stopped_refuses : (from : List Key) (old new : List Sent) (f : SyncFault) → old ≡ start ++ first → Stopped asker from old new f
      → ((more : List Sent) → All IsGetting more → GetsReached from [] more → GetsNeeded first more) → Stops this start new f
  stopped_refuses from old new f begun stop needs =
      let more : List Sent = stop.more in
      let gets : All IsGetting more = gets_of asker more stop.asked in
      let asks : All (IsSyncOrder asker.lib asker.secret) more = asks_of asker more stop.asked in
      let needed : GetsNeeded first more = needs more gets stop.reached in (
        first ++ more,
        stop.sends.grown ∙ ap (λ (sends : List Sent). sends ++ more) begun ∙ append_assoc start first more,
        fails_gets this first more is.stage is.late is.going gets is.may_get asks needed f is.few stop.went
            (λ other. absurd (true≢false (sym stop.of_order ∙ other))) (timely_of asker more stop.asked)
            (caused_by (IsSoInRound cuts told index (first ++ more)) first more f stop.cause stop.of_order) is.over
            (λ c told_so. (
              comes c told_so more f stop.of_order stop.cause stop.alone (found_none this first settled is more gets asks needed c told_so),
              inl (no_tree f stop.of_order, none_begun (first ++ more) f stop.of_order (small_then this first settled is more gets asks needed (small_of asker more stop.asked))),
            )),
      )

  -- ---- the tree is wrong

  -- of the head's commit
  module _ (commit : Commit) (stored : (objects : Objects) → HasGot objects first → commit_at objects settled.head ≡ Ok commit) where
    bad_here : (more : List Sent) → All IsGetting more → (why : WalkFault) → ((objects : Objects) → HasGot objects more → IsWrongTree objects commit.root why) → IsBadTree (first ++ more) why
    bad_here more gets why wrong = (
      settled.head,
      settled.pushed,
      names this first settled is more gets,
      λ objects has. (commit, stored objects (got_first objects first more has), wrong objects (got_later objects first more has)),
    )

    so_here : (more : List Sent) → All IsGetting more → (why : WalkFault) → ((objects : Objects) → HasGot objects more → IsWrongTree objects commit.root why)
        → IsTold why → IsSoHere cuts told index (first ++ more) (fault.BadTree why)
    so_here more gets (walk.Store why) wrong told_so = absurd told_so
    so_here more gets (walk.Incomplete key) wrong told_so = bad_here more gets (walk.Incomplete key) wrong
    so_here more gets (walk.Unreadable key) wrong told_so = bad_here more gets (walk.Unreadable key) wrong
    so_here more gets (walk.WrongKind id) wrong told_so = bad_here more gets (walk.WrongKind id) wrong
    so_here more gets (walk.WrongSize id) wrong told_so = bad_here more gets (walk.WrongSize id) wrong
    so_here more gets (walk.TooDeep path) wrong told_so = bad_here more gets (walk.TooDeep path) wrong
    so_here more gets (walk.TooMany paths) wrong told_so = bad_here more gets (walk.TooMany paths) wrong

    unbegun : (whole : List Sent) (why : WalkFault) → IsTold why → All IsSmallKey (keys_asked whole) → HasNotBegun whole (fault.BadTree why)
    unbegun whole (walk.WrongSize id) told_so small = absurd told_so
    unbegun whole _ told_so small = small

    pub wrong_refuses : (old new : List Sent) (why : WalkFault) → IsTold why → old ≡ start ++ first → FindsWrongTree asker old new commit.root why
        → ((more : List Sent) → All IsGetting more → GetsReached (own_keys commit.root) [] more → GetsNeeded first more)
        → Stops this start new (fault.BadTree why)
    wrong_refuses old new why told_so begun finds needs =
        let more : List Sent = finds.more in
        let gets : All IsGetting more = gets_of asker more finds.asked in
        let asks : All (IsSyncOrder asker.lib asker.secret) more = asks_of asker more finds.asked in
        let needed : GetsNeeded first more = needs more gets finds.reached in (
          first ++ more,
          finds.sends.grown ∙ ap (λ (sends : List Sent). sends ++ more) begun ∙ append_assoc start first more,
          fails_gets this first more is.stage is.late is.going gets is.may_get asks needed (fault.BadTree why) is.few (goes_well more finds.went) (λ other. finds.went)
              (timely_of asker more finds.asked)
              (inr (All-append WentWell first more is.going.went finds.went, (so_here more gets why finds.wrong told_so, tt))) is.over
              (λ c told_is. (
                found_none this first settled is more gets asks needed c told_is,
                inl (tt, unbegun (first ++ more) why told_so (small_then this first settled is more gets asks needed (small_of asker more finds.asked))),
              )),
        )
