-- The head's commit and tree were got. The key lemmas are commit_got, tree_got, tree_halts and blocks_of_head.
use Rattle.std.proofs.Common.{◌≡◌, ℕ, Bool, false, if◌then◌else◌, All, List, [], ◌∷◌, ◌++◌, Option, None, Ok, Err, sym, ap, subst, ◌∙◌, append_assoc, refl, Some}
use Rattle.std.specs.List.{Contains}
use Rattle.std.proofs.lemmas.List.{append_cancel_left}
use Rattle.std.proofs.lemmas.List.Elements.{All-append, All-contains, All-contains_itself, All-nil, All-weaker}
use Rattle.ids.specs.Key.{Objects}
use Rattle.block_chunker.specs.declared.cuts.Cuts.{Cuts}
use Rattle.commit_objects.specs.declared.commit.Commit.{Commit}
use Rattle.folder_side.specs.Folder.{Contents}
use Rattle.http_front.specs.declared.order.What.TheVariants as what
use Rattle.http_front.specs.declared.outcome.Outcome.TheVariants.{Plain}
use Rattle.library_state.specs.declared.reply.Reply.TheVariants as reply
use Rattle.local_index.specs.declared.index.Index.{Index}
use Rattle.object_graph.specs.Objects.{AreEntriesOf, block_key, commit_at, commit_key, fs_key, is_nil}
use Rattle.object_graph.specs.Reached.{ReachedFrom, own_keys}
use Rattle.object_graph.specs.Traversal.{is_in, start as walk_start, walk_root}
use Rattle.object_graph.specs.Unchanged.{Keeps}
use Rattle.object_graph.proofs.ReachingLemmas.{in_first}
use Rattle.remote_calls.specs.Sends.{Sent}
use Rattle.sync_rules.specs.Named.{HasGot, last_head}
use Rattle.sync_rules.specs.declared.fault.SyncFault.{SyncFault}
use Rattle.sync_rules.specs.declared.fault.SyncFault.TheVariants as fault
use Rattle.sync_rules.proofs.GotLemmas.{got_first, got_later}
use Rattle.tree_walk.specs.declared.fault.WalkFault.{WalkFault}
use Rattle.tree_walk.specs.declared.fault.WalkFault.TheVariants as walk
use Rattle.tree_checkout.specs.Steps.{blocks_due, node_blocks}
use Rattle.tree_checkout.specs.declared.planning.Due.{Due}
use Rattle.tree_checkout.specs.declared.planning.DueNode.{DueNode}
use Rattle.tree_checkout.specs.declared.planning.DueNode.TheVariants as due
use Rattle.tree_checkout.specs.declared.steps.Write.{Write}
use Rattle.tree_checkout.specs.declared.steps.WriteNode.{WriteNode}
use Rattle.tree_checkout.specs.declared.steps.WriteNode.TheVariants as write
use Rattle.tree_fetch.specs.Asking.{order_of}
use Rattle.tree_fetch.specs.Fetching.{FetchesCommit, FetchesTree, FindsWrongTree, IsFetchedCommit, IsFetchedTree, Stopped, GotCommit}
use Rattle.tree_fetch.specs.declared.asker.Asker.{Asker}
use Rattle.tree_fetch.specs.declared.tree.FetchedTree.{FetchedTree}
use Rattle.sync_daemon.specs.Bringing.{AreMade, IsMade}
use Rattle.sync_daemon.specs.Going.{Stops, Sync}
use Rattle.sync_daemon.specs.Rounds.{sync_of}
use Rattle.sync_daemon.specs.declared.round.Settled.{Settled}
use Rattle.sync_daemon.proofs.BlockReachLemmas.{reached_blocks, reached_entry}
use Rattle.sync_daemon.proofs.ReadingLemmas.{IsReading, IsTold, names, reading_goes, stopped_refuses, wrong_refuses}
use Rattle.sync_daemon.proofs.TreeLemmas.{asks_of, gets_of, lifted, needed_below, needed_commit, small_of, timely_of}
use Rattle.sync_daemon.proofs.WrittenLemmas.{AreIn, IsNodeIn, made_node}

-- ---- the commit, and then the tree

-- so far, and the commit of the head is known
pub record HasCommit (s : Sync) (more : List Sent) (settled : Settled) (commit : Commit) : Type 0 where
  pub reading : IsReading s more settled
  pub stored : (objects : Objects) → HasGot objects more → commit_at objects settled.head ≡ Ok commit
  pub rounds : List Sent
  pub named : last_head rounds None ≡ Some (settled.head, settled.pushed)
  pub got : GotCommit (record { lib = s.lib; secret = s.secret }) rounds more settled.head commit

-- and its tree
pub record HasTree (s : Sync) (more : List Sent) (settled : Settled) (commit : Commit) (tree : FetchedTree) : Type 0 where
  pub reading : IsReading s more settled
  pub stored : (objects : Objects) → HasGot objects more → commit_at objects settled.head ≡ Ok commit
  pub whole : (objects : Objects) → HasGot objects more → (walk_root false objects commit.root walk_start).fault ≡ None
  pub entries : (objects : Objects) → HasGot objects more → AreEntriesOf objects commit.root tree.entries
  pub kept : (objects : Objects) → HasGot objects more → Keeps tree.objects objects
  pub rounds : List Sent
  pub mid : List Sent
  pub named : last_head rounds None ≡ Some (settled.head, settled.pushed)
  pub got : GotCommit (record { lib = s.lib; secret = s.secret }) rounds mid settled.head commit
  pub fetched : IsFetchedTree (record { lib = s.lib; secret = s.secret }) mid more commit.root tree

module _ (asker : Asker) (user : List ℕ) (shows : ℕ → Type 0) (cuts : Cuts) (told : Option Contents) (index : Index) (start first : List Sent) (settled : Settled) where
  abbrev this : Sync
  this = sync_of asker user shows cuts told index

  module _ (is : IsReading this first settled) where
    pub commit_got : (old mid : List Sent) (commit : Commit) → old ≡ start ++ first → IsFetchedCommit asker old mid settled.head commit → GotCommit asker old mid settled.head commit
        → (more : List Sent) × (mid ≡ start ++ more) × HasCommit this more settled commit
    commit_got old mid commit begun got listed =
        let more : List Sent = got.more in
        let gets = gets_of asker more got.asked in (
          first ++ more,
          got.sends.grown ∙ ap (λ (sends : List Sent). sends ++ more) begun ∙ append_assoc start first more,
          record {
            reading = reading_goes this first settled is more gets (asks_of asker more got.asked)
                (needed_commit first settled.head settled.pushed (names this first settled is) more gets got.reached) got.went (timely_of asker more got.asked) (small_of asker more got.asked)
                got.had got.sends.had_them;
            stored = λ objects has. got.stored objects (got_later objects first more has);
            rounds = first;
            named = is.named;
            got = record {
              bytes = listed.bytes;
              tag = listed.tag;
              is = ap (λ (sends : List Sent). first ++ sends)
                  (append_cancel_left old more ((order_of asker (what.Get (commit_key settled.head)), Ok (Plain (reply.Got listed.bytes) listed.tag)) ∷ []) (sym got.sends.grown ∙ listed.is));
              spells = listed.spells;
            };
          },
        )

    pub commit_halts : (old new : List Sent) (f : SyncFault) → old ≡ start ++ first → FetchesCommit asker old new settled.head (Err f) → Stops this start new f
    commit_halts old new f begun stops =
        stopped_refuses asker user shows cuts told index start first settled is (commit_key settled.head ∷ []) old new f begun stops
        (λ more gets reached. needed_commit first settled.head settled.pushed (names this first settled is) more gets reached)

  module _ (commit : Commit) (has_commit : HasCommit this first settled commit) where
    pub tree_got : (old mid : List Sent) (tree : FetchedTree) → old ≡ start ++ first → IsFetchedTree asker old mid commit.root tree
        → (more : List Sent) × (mid ≡ start ++ more) × HasTree this more settled commit tree
    tree_got old mid tree begun got =
        let more : List Sent = got.more in
        let gets = gets_of asker more got.asked in (
          first ++ more,
          got.sends.grown ∙ ap (λ (sends : List Sent). sends ++ more) begun ∙ append_assoc start first more,
          record {
            reading = reading_goes this first settled has_commit.reading more gets (asks_of asker more got.asked)
                (needed_below first settled.head settled.pushed (names this first settled has_commit.reading) commit has_commit.stored more gets got.reached) got.went
                (timely_of asker more got.asked) (small_of asker more got.asked) got.had got.sends.had_them;
            stored = λ objects has. has_commit.stored objects (got_first objects first more has);
            whole = λ objects has. got.whole objects (got_later objects first more has);
            entries = λ objects has. got.entries objects (got_later objects first more has);
            kept = λ objects has. got.kept objects (got_later objects first more has);
            rounds = has_commit.rounds;
            mid = first;
            named = has_commit.named;
            got = has_commit.got;
            fetched = record {
              more = more;
              had = got.had;
              sends = record { grown = refl; had_them = got.sends.had_them };
              asked = got.asked;
              reached = got.reached;
              went = got.went;
              held = got.held;
              own = got.own;
              came = got.came;
              whole = got.whole;
              entries = got.entries;
              kept = got.kept;
            };
          },
        )

    stopped_here : (old new : List Sent) (f : SyncFault) → old ≡ start ++ first → Stopped asker (own_keys commit.root) old new f → Stops this start new f
    stopped_here old new f begun stops =
        stopped_refuses asker user shows cuts told index start first settled has_commit.reading (own_keys commit.root) old new f begun stops
        (λ more gets reached. needed_below first settled.head settled.pushed (names this first settled has_commit.reading) commit has_commit.stored more gets reached)

    wrong_here : (old new : List Sent) (why : WalkFault) → IsTold why → old ≡ start ++ first
        → FindsWrongTree asker old new commit.root why → Stops this start new (fault.BadTree why)
    wrong_here old new why told_so begun finds =
        wrong_refuses asker user shows cuts told index start first settled has_commit.reading commit has_commit.stored old new why told_so begun finds
        (λ more gets reached. needed_below first settled.head settled.pushed (names this first settled has_commit.reading) commit has_commit.stored more gets reached)

    pub tree_halts : (old new : List Sent) (f : SyncFault) → old ≡ start ++ first → FetchesTree asker old new commit.root (Err f) → Stops this start new f
    tree_halts old new (fault.BadTree (walk.WrongSize id)) begun halts = absurd halts
    tree_halts old new (fault.BadTree (walk.Store why)) begun halts = absurd halts
    tree_halts old new (fault.BadTree (walk.Incomplete key)) begun halts = wrong_here old new (walk.Incomplete key) tt begun halts
    tree_halts old new (fault.BadTree (walk.Unreadable key)) begun halts = wrong_here old new (walk.Unreadable key) tt begun halts
    tree_halts old new (fault.BadTree (walk.WrongKind id)) begun halts = wrong_here old new (walk.WrongKind id) tt begun halts
    tree_halts old new (fault.BadTree (walk.TooDeep path)) begun halts = wrong_here old new (walk.TooDeep path) tt begun halts
    tree_halts old new (fault.BadTree (walk.TooMany paths)) begun halts = wrong_here old new (walk.TooMany paths) tt begun halts
    tree_halts old new f begun halts = stopped_here old new f begun halts

-- ---- the blocks of what is written are the head's

module _ (s : Sync) (more : List Sent) (settled : Settled) (commit : Commit) (tree : FetchedTree) (got : HasTree s more settled commit tree) where
  abbrev pub IsOfHead : List ℕ → Type 0
  IsOfHead id = (objects : Objects) → HasGot objects more → ReachedFrom objects [] (commit_key settled.head ∷ []) (block_key id)

  root_reached : (objects : Objects) → is_nil commit.root ≡ false → ReachedFrom objects [] (own_keys commit.root) (fs_key commit.root)
  root_reached objects apart =
      ReachedFrom.pends (fs_key commit.root) (ap (λ (b : Bool). is_in (if b then [] else fs_key commit.root ∷ []) (fs_key commit.root)) apart ∙ in_first (fs_key commit.root) [])

  node_of_head : (d : Due) (node : WriteNode) → IsNodeIn tree.entries d.path d.node → IsMade tree.objects d.node node → All IsOfHead (node_blocks node)
  node_of_head d node here made = by d.node node here made
    where
      by : (n : DueNode) (w : WriteNode) → IsNodeIn tree.entries d.path n → IsMade tree.objects n w → All IsOfHead (node_blocks w)
      by due.Dir write.Dir there is = All-nil IsOfHead
      by (due.File id) (write.File file) there is =
          let all : (objects : Objects) → HasGot objects more → All (λ (block : List ℕ). ReachedFrom objects [] (own_keys commit.root) (block_key block)) file.object.blocks =
          λ objects has.
          subst (All (λ (block : List ℕ). ReachedFrom objects [] (own_keys commit.root) (block_key block)))
          (made_node tree.objects objects (got.kept objects has) (due.File id) (write.File file) is).1
          (reached_blocks objects (own_keys commit.root) id
          (reached_entry objects (own_keys commit.root) d.path commit.root (root_reached objects) id there.2 there.0 there.3 there.1
          (sym (got.entries objects has d.path) ∙ there.4))) in
          All-weaker (Contains file.object.blocks) IsOfHead
          (λ block held objects has.
          lifted objects settled.head commit (got.stored objects has) (block_key block)
          (All-contains (λ (other : List ℕ). ReachedFrom objects [] (own_keys commit.root) (block_key other)) file.object.blocks block (all objects has) held))
          file.object.blocks (All-contains_itself file.object.blocks)
      by due.Dir (write.File file) there is = absurd is
      by (due.File id) write.Dir there is = absurd is

  pub blocks_of_head : (dues : List Due) (writes : List Write) → AreIn tree.entries dues → AreMade tree.objects dues writes → All IsOfHead (blocks_due writes)
  blocks_of_head [] [] of made = All-nil IsOfHead
  blocks_of_head [] (w ∷ writes) of made = absurd made
  blocks_of_head (d ∷ dues) [] of made = absurd made
  blocks_of_head (d ∷ dues) (w ∷ writes) of made =
      All-append IsOfHead (node_blocks w.node) (blocks_due writes) (node_of_head d w.node of.0 made.0.1) (blocks_of_head dues writes of.1 made.1)
