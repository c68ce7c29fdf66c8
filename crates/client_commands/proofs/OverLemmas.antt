-- A sync over one dial. The key lemmas are over_so, over_kept and opened_so.
use Rattle.std.proofs.Common.{◌≡◌, ◌≤◌, inl, ℕ, true, List, [], ◌∷◌, ◌++◌, Option, Result, Ok, Err, sym, ap, subst, ◌∙◌}
use Rattle.folder_side.specs.Folder.{Contents}
use Rattle.http_front.specs.Dial.{DialsOnly, count_sum}
use Rattle.local_index.specs.declared.index.Index.{Index}
use Rattle.remote_calls.specs.Exchange.{LinkView}
use Rattle.remote_calls.specs.HttpRemote.{HttpPeer, HttpRemoteView, LinksView}
use Rattle.remote_calls.specs.Sends.{Sent}
use Rattle.remote_calls.specs.Spelling.{SpellsAll}
use Rattle.sync_daemon.specs.Syncing.{SyncedAs}
use Rattle.sync_rules.specs.Causes.{FolderRose}
use Rattle.sync_rules.specs.declared.fault.SyncFault.{SyncFault}
use Rattle.sync_rules.specs.declared.synced.Synced.{Synced}
use Rattle.client_words.specs.declared.fault.Fault.{Fault}
use Rattle.client_words.specs.declared.job.Job.{Job}
use Rattle.client_commands.specs.JobSyncs.{SyncsOver}
use Rattle.client_commands.specs.Keeping.{HasNotFallen, NoneFell, OwnKeeps}
use Rattle.client_commands.specs.SentFaults.{has_link_fault}
use Rattle.client_commands.specs.SyncFaults.{fault_of_sync, told_of}
use Rattle.client_commands.specs.Views.{DeskView, DialView, OwnView}
use Rattle.client_commands.proofs.CountLemmas.{not_fallen_same, not_fallen_sum, not_fallen_then, not_fallen_told, rose_back, rose_later}
use Rattle.client_commands.proofs.FaultLemmas.{folder_told, link_listed, never_scanned}
use Rattle.client_commands.proofs.KeepLemmas.{folder_rose}

module _ {N : Type 0} (links : N → DialView) (shows : ℕ → Type 0) (job : Job) (i j : Index) (told now : Option Contents) (made ended : HttpRemoteView) (host : List ℕ) (port : ℕ)
    (start : List LinkView) (asked : List (List ℕ × ℕ)) (first : ℕ) (all : LinksView) (done : Result Synced SyncFault)
    (made_is : made ≡ record { peer = record { host = host; port = port; start = start; dialled = asked; faults = first }; links = all; sends = [] })
    (synced : SyncedAs job.secret job.user shows told now i j made.sends ended.sends done) where
  -- nothing was sent before
  from_none : SyncedAs job.secret job.user shows told now i j [] ended.sends done
  from_none = subst (λ (old : List Sent). SyncedAs job.secret job.user shows told now i j old ended.sends done) (ap (λ (v : HttpRemoteView). v.sends) made_is) synced

  pub over_so : (dials back : List N) (dial : N) (r : Result Synced Fault) → start ≡ [] → asked ≡ [] → host ≡ job.host → port ≡ job.port → ended.peer ≡ made.peer
      → SpellsAll ended.peer.host ended.peer.start (links dial).back ended.sends → DialsOnly ended.peer.host ended.peer.port ended.peer.dialled (links dial).dialled → back ≡ dials ++ dial ∷ [] → r ≡ told_of done → SyncsOver links shows job i j told now dials back r
  over_so dials back dial r none unasked same port_is stays spelled dialled back_is is =
      let peer : ended.peer ≡ record { host = host; port = port; start = start; dialled = asked; faults = first } = stays ∙ ap (λ (v : HttpRemoteView). v.peer) made_is in
      record {
        done = done;
        sends = ended.sends;
        dial = dial;
        synced = from_none;
        spelled = subst (λ (s : List LinkView). SpellsAll job.host s (links dial).back ended.sends) (ap (λ (p : HttpPeer). p.start) peer ∙ none)
            (subst (λ (h : List ℕ). SpellsAll h ended.peer.start (links dial).back ended.sends) (ap (λ (p : HttpPeer). p.host) peer ∙ same) spelled);
        dialled = subst (λ (before : List (List ℕ × ℕ)). DialsOnly job.host job.port before (links dial).dialled) (ap (λ (p : HttpPeer). p.dialled) peer ∙ unasked)
            (subst (λ (n : ℕ). DialsOnly job.host n ended.peer.dialled (links dial).dialled) (ap (λ (p : HttpPeer). p.port) peer ∙ port_is)
            (subst (λ (h : List ℕ). DialsOnly h ended.peer.port ended.peer.dialled (links dial).dialled) (ap (λ (p : HttpPeer). p.host) peer ∙ same) dialled));
        back_is = back_is;
        is = is;
      }

  -- its faults have their counts
  pub over_kept : (own kept : OwnView) (old mid new : DeskView N) (count : ℕ) (r : Result Synced Fault) → FolderRose own.faults kept.faults done
      → (has_link_fault ended.sends ≡ true → 1 ≤ count) → new.has_place ≡ old.has_place → new.folder_faults ≡ old.folder_faults → mid.dial_faults ≡ old.dial_faults
      → new.dial_faults ≡ count_sum mid.dial_faults count → r ≡ told_of done → OwnKeeps own kept old new r
  over_kept own kept old mid new count r rose counted places folders begins sum is = subst (λ (r : Result Synced Fault). OwnKeeps own kept old new r) (sym is) (by done rose from_none)
    where
      dials : HasNotFallen old.dial_faults new.dial_faults
      dials = not_fallen_then old.dial_faults mid.dial_faults new.dial_faults (not_fallen_same old.dial_faults mid.dial_faults begins)
          (not_fallen_sum mid.dial_faults new.dial_faults count sum)

      fell : HasNotFallen own.faults kept.faults → NoneFell own kept old new
      fell own_folder = record { places = places; own_folder = own_folder; folders = not_fallen_same old.folder_faults new.folder_faults folders; dials = dials }

      by : (d : Result Synced SyncFault) → FolderRose own.faults kept.faults d → SyncedAs job.secret job.user shows told now i j [] ended.sends d → OwnKeeps own kept old new (told_of d)
      by (Ok s) rose syncs = record { fell = fell (not_fallen_same own.faults kept.faults rose); rose = tt }
      by (Err f) rose syncs =
          let told_so = folder_told _ _ f (never_scanned job.secret job.user shows told now i j ended.sends f syncs) rose in
          record {
            fell = fell (not_fallen_told _ own.faults kept.faults rose);
            rose = record {
              folder = λ named. inl (folder_rose (fault_of_sync f) own.faults kept.faults told_so named);
              link = λ named.
                  rose_later old.dial_faults mid.dial_faults new.dial_faults (not_fallen_same old.dial_faults mid.dial_faults begins)
                  (rose_back mid.dial_faults new.dial_faults count (counted (link_listed job.secret job.user shows told now i j ended.sends f syncs named)) sum);
            };
          }
