-- What a sync keeps of a folder, whatever it was sent. The key lemmas are same_unpushed, settled_kept, kept_later, round_puts, front_touched
-- and all_touched.
use Rattle.std.proofs.Common.{◌≡◌, ◌⊎◌, ◌||◌, ℕ, false, is_some, List, [], ◌++◌, map, Option, None, Some, refl, sym, ap, ◌∙◌, append_assoc, append-nil, inl, inr}
use Rattle.std.specs.Ordering.{eq_by_cmp}
use Rattle.std.proofs.lemmas.Bool.{or_parts}
use Rattle.std.proofs.lemmas.List.{map-append}
use Rattle.std.proofs.lemmas.List.Folds.{list_any-append}
use Rattle.ids.specs.declared.key.Key.{Key}
use Rattle.tree_model.specs.Path.{PathV, path_cmp}
use Rattle.block_chunker.specs.declared.cuts.Cuts.{Cuts}
use Rattle.commit_objects.specs.declared.commit.Commit.{Commit}
use Rattle.folder_side.specs.Folder.{Contents}
use Rattle.folder_side.specs.ScanReport.{IsScan}
use Rattle.folder_side.specs.declared.scan_report.Scan.{Scan}
use Rattle.local_index.specs.declared.index.Index.{Index}
use Rattle.remote_calls.specs.Sends.{Sent}
use Rattle.sync_rules.specs.Checkout.{is_one_of}
use Rattle.sync_rules.specs.Named.{keys_lacked, keys_named, keys_put, last_head, last_round}
use Rattle.tree_checkout.specs.Steps.{LeavesOthers, paths_of}
use Rattle.tree_checkout.specs.declared.planning.Due.{Due}
use Rattle.tree_checkout.specs.declared.planning.Plan.{Plan}
use Rattle.tree_checkout.specs.declared.steps.Write.{Write}
use Rattle.tree_checkout.proofs.AskLemmas.{planned_paths}
use Rattle.tree_fetch.specs.Fetching.{GotCommit, IsFetchedTree}
use Rattle.tree_fetch.specs.declared.asker.Asker.{Asker}
use Rattle.tree_fetch.specs.declared.tree.FetchedTree.{FetchedTree}
use Rattle.tree_push.specs.Pushing.{PutsChanged}
use Rattle.tree_push.proofs.ChangedPutLemmas.{puts_later}
use Rattle.tree_push.proofs.NamedKeyLemmas.{named_append}
use Rattle.tree_push.proofs.NotedLemmas.{lacked_append}
use Rattle.tree_push.proofs.PutsLemmas.{put_append}
use Rattle.sync_daemon.specs.Bringing.{AreMade, IsPlanned, is_pushed}
use Rattle.sync_daemon.specs.Going.{Sync}
use Rattle.sync_daemon.specs.Rounds.{IsFresh, IsPushed, IsSettled}
use Rattle.sync_daemon.specs.Unpushed.{IsKnownOrTaken, IsPlannedChange, KeepsUnpushed, doomed_by, dues_by}
use Rattle.sync_daemon.specs.declared.round.Settled.{Settled}
use Rattle.sync_daemon.proofs.SkippedLemmas.{keeps_itself, one_of_front}
use Rattle.sync_daemon.proofs.WrittenLemmas.{made_for}

-- ---- a folder that stays

same_contents : (told : Option Contents) (c d : Contents) → told ≡ Some c → told ≡ Some d → d ≡ c
same_contents told c d first later = let both : Some c ≡ Some d = sym first ∙ later in cc

pub same_unpushed : (asker : Asker) (user : List ℕ) (shows : ℕ → Type 0) (cuts : Cuts) (told : Option Contents) (i : Index) (more : List Sent) → KeepsUnpushed asker user shows cuts told told i more
same_unpushed asker user shows cuts told i more = record {
  tells = λ c is. ap is_some is;
  loses = λ c d first later. inl (same_contents told c d first later);
  touches = λ c d first later. inl (same_contents told c d first later);
}

-- ---- what was pushed is taken in

pub settled_kept : (s : Sync) (more : List Sent) (settled : Settled) → IsSettled s more settled → (c : Contents) → s.told ≡ Some c → settled.differs ≡ false
    → IsKnownOrTaken (record { lib = s.lib; secret = s.secret }) s.user s.shows s.cuts c s.index more
settled_kept s more settled is c told same = by settled.pushed refl
  where
    by : (o : Option (List ℕ)) → settled.pushed ≡ o → IsKnownOrTaken (record { lib = s.lib; secret = s.secret }) s.user s.shows s.cuts c s.index more
    by None none = inl (is.agrees c told none same)
    by (Some id) some =
        let pushed : IsPushed s more settled id = is.pushed_as id some in
        inr (record {
          rounds = more;
          gets = [];
          sent = sym (append-nil more);
          head = settled.head;
          id = id;
          named = is.named ∙ ap (λ (o : Option (List ℕ)). Some (settled.head, o)) some;
          ends = pushed.ends;
          moment = settled.moment;
          shown = is.shown;
          parent = pushed.parent;
          scan = settled.scan;
          scanned = (is.seen c told).scanned;
          offer = pushed.round;
          put = pushed.put;
        })

-- and stays so, whatever is sent behind it
pub kept_later : (asker : Asker) (user : List ℕ) (shows : ℕ → Type 0) (cuts : Cuts) (c : Contents) (i : Index) (first more : List Sent) → IsKnownOrTaken asker user shows cuts c i first
    → IsKnownOrTaken asker user shows cuts c i (first ++ more)
kept_later asker user shows cuts c i first more (inl same) = inl same
kept_later asker user shows cuts c i first more (inr taken) = inr (record {
  rounds = taken.rounds;
  gets = taken.gets ++ more;
  sent = ap (λ (sends : List Sent). sends ++ more) taken.sent ∙ append_assoc taken.rounds taken.gets more;
  head = taken.head;
  id = taken.id;
  named = taken.named;
  ends = taken.ends;
  moment = taken.moment;
  shown = taken.shown;
  parent = taken.parent;
  scan = taken.scan;
  scanned = taken.scanned;
  offer = taken.offer;
  put = taken.put;
})

-- what a push put was put in its round
pub round_puts : (i : Index) (scan : Scan) (first more : List Sent) → IsFresh first → last_round (first ++ more) [] ≡ last_round first [] ++ more → PutsChanged i scan more
    → PutsChanged i scan (last_round (first ++ more) [])
round_puts i scan first more fresh same puts =
    puts_later i scan more (last_round (first ++ more) [])
    (ap keys_named same ∙ named_append (last_round first []) more ∙ ap (λ (keys : List Key). keys ++ keys_named more) fresh.named)
    (ap keys_lacked same ∙ lacked_append (last_round first []) more ∙ ap (λ (keys : List Key). keys ++ keys_lacked more) fresh.lacked)
    (ap keys_put same ∙ put_append (last_round first []) more ∙ ap (λ (keys : List Key). keys ++ keys_put more) fresh.put) puts

-- ---- the paths of a plan

one_of_append : (some others : List PathV) (path : PathV) → is_one_of (some ++ others) path ≡ (is_one_of some path || is_one_of others path)
one_of_append some others path = list_any-append (λ (p : PathV). eq_by_cmp path_cmp path p) some others

-- a path that is none of all is none of a front of both
front_apart : (gone kept : List PathV) (done rest : List Write) (path : PathV) → is_one_of ((gone ++ kept) ++ paths_of (done ++ rest)) path ≡ false
    → is_one_of (gone ++ paths_of done) path ≡ false
front_apart gone kept done rest path none =
    let parts = or_parts (is_one_of (gone ++ kept) path) (is_one_of (paths_of (done ++ rest)) path) (sym (one_of_append (gone ++ kept) (paths_of (done ++ rest)) path) ∙ none) in
    let first : is_one_of gone path ≡ false = one_of_front gone kept path parts.0 in
    let later : is_one_of (paths_of done) path ≡ false =
    one_of_front (paths_of done) (paths_of rest) path (ap (λ (paths : List PathV). is_one_of paths path) (sym (map-append (λ (w : Write). w.path) done rest)) ∙ parts.1) in
    one_of_append gone (paths_of done) path ∙ (λ i. first i || later i)

pushed_some : (o : Option (List ℕ)) → is_pushed o ≡ is_some o
pushed_some None = refl
pushed_some (Some id) = refl

module _ (asker : Asker) (cuts : Cuts) (c : Contents) (i : Index) (settled : Settled) (scanned : IsScan cuts c settled.scan) (rounds mid got later : List Sent)
    (named : last_head rounds None ≡ Some (settled.head, settled.pushed)) (commit : Commit) (fetched : GotCommit asker rounds mid settled.head commit) (tree : FetchedTree)
    (whole : IsFetchedTree asker mid got commit.root tree) (plan : Plan) (writes : List Write) (planned : IsPlanned settled.scan i tree.entries (is_pushed settled.pushed) plan)
    (made : AreMade tree.objects plan.writes writes) where
  -- the paths that are removed and those that are written are those of the plan
  paths_are : doomed_by settled.scan tree.entries ++ dues_by settled.scan i tree.entries (is_some settled.pushed) ≡ plan.doomed ++ paths_of writes
  paths_are =
      (λ j. sym planned.gone j ++ dues_by settled.scan i tree.entries (sym (pushed_some settled.pushed) j))
      ∙ ap (λ (paths : List PathV). plan.doomed ++ paths)
      (ap (map (λ (due : Due). due.path)) (sym planned.written)
      ∙ planned_paths tree.objects plan.writes writes (made_for tree.objects tree.objects (keeps_itself tree.objects) plan.writes writes made))

  -- where a front of a plan was done
  pub front_touched : (told now : Option Contents) (d : Contents) → told ≡ Some c → now ≡ Some d → (gone kept : List PathV) (done rest : List Write) → plan.doomed ≡ gone ++ kept
      → writes ≡ done ++ rest → LeavesOthers (gone ++ paths_of done) told now → IsPlannedChange asker cuts c d i (got ++ later)
  front_touched told now d first held gone kept done rest removed written others = record {
    rounds = rounds;
    mid = mid;
    got = got;
    later = later;
    sent = refl;
    head = settled.head;
    pushed = settled.pushed;
    named = named;
    commit = commit;
    fetched = fetched;
    tree = tree;
    whole = whole;
    scan = settled.scan;
    scanned = scanned;
    others = λ path none.
        others c d first held path
        (front_apart gone kept done rest path
        (ap (λ (paths : List PathV). is_one_of paths path) (sym (paths_are ∙ (λ j. removed j ++ paths_of (written j)))) ∙ none));
  }

  -- and where all of it was
  pub all_touched : (told now : Option Contents) (d : Contents) → told ≡ Some c → now ≡ Some d → LeavesOthers (plan.doomed ++ paths_of writes) told now
      → IsPlannedChange asker cuts c d i (got ++ later)
  all_touched told now d first held others = front_touched told now d first held plan.doomed [] writes [] (sym (append-nil plan.doomed)) (sym (append-nil writes)) others
