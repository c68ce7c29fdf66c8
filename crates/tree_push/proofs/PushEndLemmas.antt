-- What comes of a push at each of its ways out. The key lemmas are owned_stand, stopped_push and stood_push.
use Rattle.std.proofs.Common.{◌≡◌, ℕ, List, [], ◌∷◌, ◌++◌, Option, Some, is_some, option_map, Result, Ok, Err, sym, ap, subst, ◌∙◌, append_assoc}
use Rattle.std.specs.Prelude.{⊤, IfErr}
use Rattle.std.specs.FinMap as fin
use Rattle.ids.specs.Key.{Objects}
use Rattle.tree_model.specs.Path.{PathV}
use Rattle.block_chunker.specs.declared.cuts.Cuts.{Cuts}
use Rattle.object_graph.specs.Objects.{entry_below}
use Rattle.object_graph.specs.Unchanged.{Keeps}
use Rattle.folder_side.specs.Folder.{Contents}
use Rattle.folder_side.specs.declared.scan_report.Scan.{Scan}
use Rattle.folder_side.specs.declared.scan_report.Seen.TheVariants as seen
use Rattle.local_index.specs.OwnIds.{own_id}
use Rattle.local_index.specs.declared.index.Index.{Index}
use Rattle.remote_calls.specs.Sends.{Ending, Sent}
use Rattle.sync_rules.specs.declared.fault.SyncFault.{SyncFault}
use Rattle.tree_push.specs.Asking.{IsOrderFault}
use Rattle.tree_push.specs.BlockUpload.{NotChanged}
use Rattle.tree_push.specs.ChangedOwns.{AreChangedOwns, Owns, changed_own, own_unless}
use Rattle.tree_push.specs.OfferedEntries.{IsSeenFolder, offered_entry}
use Rattle.tree_push.specs.OfferedTree.{IsMadeOf}
use Rattle.tree_push.specs.Pushing.{HoldsOffer, PushesSo, PutsChanged, StandAsSeen}
use Rattle.tree_push.specs.Standing.{StandsSo}
use Rattle.tree_push.specs.Upload.{OwnedStand, SeesFolder, UploadsSo, OfWanted}
use Rattle.tree_push.specs.Wanted.{AreChangedBlocks, AreOwnNamed, HasFiles}
use Rattle.tree_push.specs.declared.asking.Library.{Library}
use Rattle.tree_push.specs.declared.standing.Pushed.{Pushed}
use Rattle.tree_push.specs.declared.wanted.Wanted.{Wanted}
use Rattle.tree_push.proofs.ChangedPutLemmas.{changed_put}
use Rattle.tree_push.proofs.HeldOfferLemmas.{holds_offer}
use Rattle.tree_push.proofs.OfferLemmas.{offers_once}
use Rattle.tree_push.proofs.PushLemmas.{NoUpdate, no_change_of, no_updates, push_stood, push_stopped}
use Rattle.tree_push.proofs.RoundLemmas.{ordered_sends}
use Rattle.tree_push.proofs.StoodLemmas.{put_of, stands_by}
use Rattle.tree_push.proofs.TraceLemmas.{all_append}

-- where each file with an own id is what the folder has, so is each that is new or changed
pub owned_stand : (cuts : Cuts) (c : Contents) (index : Index) (scan : Scan) (owns : Owns) → AreChangedOwns index.entries scan.paths owns → OwnedStand cuts c scan.paths owns
    → StandAsSeen cuts c index scan
owned_stand cuts c index scan owns are stand = λ path blocks size is changed.
    let own : fin.get owns path ≡ Some (own_id blocks size)
    = are path ∙ ap (λ s. changed_own s (fin.get index.entries path)) is ∙ ap (λ kept. own_unless kept (own_id blocks size)) changed in
    sym (stand path (seen.File blocks size) is (ap is_some own))

module _ (library : Library) (user : List ℕ) (moment : ℕ) (parent : List ℕ) (told : Option Contents) (cuts : Cuts) (index : Index) (scan : Scan) where
  -- the list grew by a push's sends
  abbrev pub Pushes : List Sent → List Sent → Result Pushed SyncFault → Type 0
  Pushes old new result = (more : List Sent) × (new ≡ old ++ more) × PushesSo library user moment parent told cuts index scan more result

  pub stopped_push : (wanted : Wanted) (old new : List Sent) (f : SyncFault) → UploadsSo library wanted old new (Err f)
      → ((c : Contents) → told ≡ Some c → SeesFolder cuts c scan.paths → NotChanged {T = ⊤} (Err f)) → Pushes old new (Err f)
  stopped_push wanted old new f up cause = (up.more, up.grown, push_stopped library user moment parent told cuts index scan wanted old new f up cause)

  put_no_update : (id text : List ℕ) (ending : Ending) → NoUpdate (put_of library id text ending)
  put_no_update id text ending other is = absurd (cc)

  pub stood_push : (root : List ℕ) (wanted : Wanted) → HasFiles index.entries scan.paths wanted → AreChangedBlocks index.entries scan.paths wanted → AreOwnNamed wanted.made
      → (IsSeenFolder index.entries scan.paths → (objects : Objects) → Keeps wanted.made objects → (path : PathV)
      → entry_below objects path root ≡ option_map (offered_entry moment user (fin.get index.entries path)) (fin.get scan.paths path))
      → (IsSeenFolder index.entries scan.paths → IsMadeOf moment user index.entries scan.paths root wanted.made) → library.lib ≡ index.lib
      → ((c : Contents) → told ≡ Some c → StandAsSeen cuts c index scan)
      → (old mid new : List Sent) → UploadsSo library wanted old mid (Ok tt) → (result : Result Pushed SyncFault) → StandsSo library root parent user moment mid new result
      → IfErr result IsOrderFault → Pushes old new result
  stood_push root wanted files changed named gives tree lib stand old mid new up result stands orders =
      let stood = stands_by library root parent user moment mid new result stands in
      let are = ordered_sends library (OfWanted wanted) up.more up.ends.0 in (
        up.more ++ stood.later,
        stood.grown ∙ ap (λ (sends : List Sent). sends ++ stood.later) up.grown ∙ append_assoc old up.more stood.later,
        push_stood library user moment parent told cuts index scan wanted up.more up.ends.0 up.ends.1 up.puts root stood.later result stood.stands
            (λ id text ending last own at c is folder seen.
            offers_once library root parent user moment id text own cuts c index scan folder seen wanted files changed named gives tree lib up.more up.ends.1 ending last
            (all_append NoUpdate up.more (put_of library id text ending ∷ []) (no_updates library up.more are) (put_no_update id text ending, tt)) stood.later at)
            (λ id text ending last own at.
            subst (λ (l : List Sent). HoldsOffer library user moment parent index scan (up.more ++ l) id × PutsChanged index scan (up.more ++ l)) (sym at) (
              holds_offer library root parent user moment id text own index scan wanted named gives up.more up.ends.1 ending last,
              changed_put library user moment parent told cuts index scan wanted files up.more up.ends.0 up.ends.1 up.puts id text ending last,
            ))
            stand (no_change_of result orders),
      )
