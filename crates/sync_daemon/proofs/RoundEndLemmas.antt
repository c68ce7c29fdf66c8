-- What the last step of a round comes to, and all rounds. The key lemmas are round_pushed, round_stopped, round_here, rounds_begin,
-- rounds_late and rounds_end.
use Rattle.std.proofs.Common.{◌≡◌, ◌≤◌, ◌<◌, ◌+◌, ℕ, Bool, true, false, List, [], ◌++◌, Option, None, Some, is_some, Result, Ok, Err, refl, sym, ap, subst, ◌∙◌, append_assoc, append-nil, inl, inr, true≢false, arith}
use Rattle.std.specs.Option.{option_or}
use Rattle.block_chunker.specs.declared.cuts.Cuts.{Cuts}
use Rattle.folder_side.specs.Folder.{Contents}
use Rattle.folder_side.specs.declared.scan_report.Scan.{Scan}
use Rattle.library_state.specs.declared.refusal.Refusal.TheVariants as refusal
use Rattle.local_index.specs.declared.index.Index.{Index}
use Rattle.remote_calls.specs.Sends.{Sent}
use Rattle.sync_rules.specs.Orders.Stage.{Begins}
use Rattle.sync_rules.specs.declared.fault.SyncFault.{SyncFault}
use Rattle.sync_rules.specs.declared.fault.SyncFault.TheVariants as fault
use Rattle.tree_fetch.specs.declared.asker.Asker.{Asker}
use Rattle.tree_push.specs.ChangedOwns.{AreChangedOwns, Owns}
use Rattle.tree_push.specs.Pushing.{PushesSo, NeedsSo}
use Rattle.tree_push.specs.declared.standing.Pushed.{Pushed}
use Rattle.tree_push.specs.declared.standing.Pushed.TheVariants.{Installed, Late}
use Rattle.sync_daemon.specs.Going.{Going, Spares, Stops, Sync}
use Rattle.sync_daemon.specs.Rounds.{IsInRounds, IsJoined, IsSeen, MayUpload, RoundSo, RoundsSo, TellsChange, pushed_round, sync_of}
use Rattle.sync_daemon.specs.declared.round.Round.{Round}
use Rattle.sync_daemon.specs.declared.round.Round.TheVariants as round
use Rattle.sync_daemon.proofs.CheckLemmas.{short_of_memory}
use Rattle.sync_daemon.proofs.FinishLemmas.{stale_ends}
use Rattle.sync_daemon.proofs.GoingLemmas.{going_begins}
use Rattle.sync_daemon.proofs.PushedLemmas.{push_fails, push_goes, push_late}
use Rattle.sync_daemon.proofs.SettleLemmas.{denied}
use Rattle.sync_daemon.proofs.SentPushLemmas.{needs_of}

none_of : (base : Option (List ℕ)) → is_some base ≡ false → base ≡ None
none_of None unbased = refl
none_of (Some id) unbased = absurd (true≢false unbased)

module _ (asker : Asker) (user : List ℕ) (shows : ℕ → Type 0) (cuts : Cuts) (told : Option Contents) (index : Index) (start first : List Sent) (late : ℕ) (may : Bool) (report : Scan)
    (asked : Option (List ℕ)) (joined : IsJoined (sync_of asker user shows cuts told index) first late may asked) (seen : (c : Contents) → told ≡ Some c → IsSeen cuts c report) where
  abbrev this : Sync
  this = sync_of asker user shows cuts told index

  -- memory was wanting
  pub joined_short : (now : List Sent) → now ≡ start ++ first → Stops this start now fault.NoMemory
  joined_short now begun = (first, begun, short_of_memory asker user shows cuts told index start first joined.stage late joined.going joined.few)

  -- what changed may not be uploaded, and nothing was synced yet
  pub joined_denied : (now : List Sent) → now ≡ start ++ first → may ≡ false → is_some index.base ≡ false → TellsChange report index true → Stops this start now (fault.Refused refusal.Denied)
  joined_denied now begun none unbased changed =
      (first, begun, denied asker user shows cuts told index start first late may report asked joined seen (subst (λ (b : Bool). MayUpload b joined.stage first) none joined.may_upload) (none_of index.base unbased) changed)

  -- it may
  pub joined_may : may ≡ true → IsJoined this first late true asked
  joined_may is = subst (λ (b : Bool). IsJoined this first late b asked) is joined

module _ (asker : Asker) (user : List ℕ) (shows : ℕ → Type 0) (cuts : Cuts) (told : Option Contents) (index : Index) (start first : List Sent) (late : ℕ) (report : Scan)
    (asked : Option (List ℕ)) (joined : IsJoined (sync_of asker user shows cuts told index) first late true asked) (seen : (c : Contents) → told ≡ Some c → IsSeen cuts c report)
    (changed : TellsChange report index true) (parent : List ℕ) (parent_is : option_or index.base asked ≡ Some parent) (moment : ℕ) (shown : shows moment)
    (old new : List Sent) (begun : old ≡ start ++ first) (needs : NeedsSo (record { lib = asker.lib; secret = asker.secret }) user moment parent index report old new) where
  abbrev here : Sync
  here = sync_of asker user shows cuts told index

  -- what a push sent, by its end
  abbrev Pushes : Result Pushed SyncFault → Type 0
  Pushes result = (more : List Sent) × (new ≡ old ++ more) × PushesSo (record { lib = asker.lib; secret = asker.secret }) user moment parent told cuts index report more result

  grown_to : (more : List Sent) → new ≡ old ++ more → new ≡ start ++ (first ++ more)
  grown_to more grown = grown ∙ ap (λ (sends : List Sent). sends ++ more) begun ∙ append_assoc start first more

  pub round_pushed : (owns : Owns) → AreChangedOwns index.entries report.paths owns → (pushed : Pushed) → Pushes (Ok pushed)
      → RoundSo here start new late (Ok (pushed_round report owns moment pushed))
  round_pushed owns are (Installed commit head) (more, grown, pushes) = (
    first ++ more,
    grown_to more grown,
    push_goes asker user shows cuts told index start first late report asked joined seen changed parent parent_is moment shown more (Ok (Installed commit head)) pushes (needs_of (record { lib = asker.lib; secret = asker.secret }) user moment parent index report old new more needs grown) owns are commit head
        pushes.ends pushes.holds,
  )
  round_pushed owns are (Late count) (more, grown, pushes) =
      let went = push_late asker user shows cuts told index start first late report asked joined seen changed parent parent_is moment shown more (Ok (Late count)) pushes (needs_of (record { lib = asker.lib; secret = asker.secret }) user moment parent index report old new more needs grown) count pushes.ends in
      (first ++ more, grown_to more grown, went.0, went.1, went.2)

  pub round_stopped : (f : SyncFault) → Pushes (Err f) → Stops here start new f
  round_stopped f (more, grown, pushes) = (
    first ++ more,
    grown_to more grown,
    push_fails asker user shows cuts told index start first late report asked joined seen changed parent parent_is moment shown more (Err f) pushes (needs_of (record { lib = asker.lib; secret = asker.secret }) user moment parent index report old new more needs grown) f pushes.ends
        (λ c is. pushes.no_change c is (seen c is).formed (seen c is).scanned (seen c is).within),
  )

-- ---- all rounds

-- a round over a folder that tells what it told in the beginning
pub round_here : (asker : Asker) (user : List ℕ) (shows : ℕ → Type 0) (cuts : Cuts) (told now_told : Option Contents) (index : Index) (start now new : List Sent) (late count : ℕ)
    (result : Result Round SyncFault) → now_told ≡ told → late < 3 → IsInRounds (sync_of asker user shows cuts told index) start now late count
    → ((first before : List Sent) (n : ℕ) → now ≡ first ++ before → Going (sync_of asker user shows cuts now_told index) before Begins n → n ≤ 2
    → Spares (sync_of asker user shows cuts now_told index) before → RoundSo (sync_of asker user shows cuts now_told index) first new n result)
    → RoundSo (sync_of asker user shows cuts told index) start new late result
round_here asker user shows cuts told now_told index start now new late count result same less (more, grown, going, spares, ends) one =
    subst
    (λ (t : Option Contents). (first before : List Sent) (n : ℕ) → now ≡ first ++ before → Going (sync_of asker user shows cuts t index) before Begins n → n ≤ 2
    → Spares (sync_of asker user shows cuts t index) before → RoundSo (sync_of asker user shows cuts t index) first new n result)
    same one start more late grown going (omega (arith, less)) spares

pub rounds_begin : (s : Sync) (start : List Sent) (count : ℕ) → IsInRounds s start start 0 count
rounds_begin s start count = ([], sym (append-nil start), going_begins s, (λ based. refl), inl refl)

pub rounds_late : (s : Sync) (start now : List Sent) (late count : ℕ) → RoundSo s start now late (Ok (round.Late count)) → IsInRounds s start now (late + 1) count
rounds_late s start now late count (more, grown, going, spares, ends) = (more, grown, going, spares, inr ends)

pub rounds_end : (s : Sync) (start now : List Sent) (late count : ℕ) → 3 ≤ late → late ≤ 3 → IsInRounds s start now late count → RoundsSo s start now (Err (fault.Stale count))
rounds_end s start now late count least most (more, grown, going, spares, inl none) = let no : ⊥ = omega (arith, least, none) in absurd no
rounds_end s start now late count least most (more, grown, going, spares, inr ends) =
    let three : late ≡ 3 = omega (arith, least, most) in
    (more, grown, stale_ends s more count (subst (λ (n : ℕ). Going s more Begins n) three going) ends)
