-- The end of a round: nothing changed, an upload is denied, or what changed was pushed. The key lemmas are unpushed_goes, unpushed_fails,
-- denied and caused_then.
use Rattle.std.proofs.Common.{◌≡◌, ℕ, Bool, true, false, List, [], ◌∷◌, ◌++◌, Option, None, Some, is_some, Ok, Err, refl, sym, ap, subst, ◌∙◌, append_assoc, inl, inr, true≢false, arith}
use Rattle.std.specs.List.{Contains, flat_map}
use Rattle.std.proofs.lemmas.Grind.{flat_map-append}
use Rattle.std.proofs.lemmas.List.Elements.{Contains-append_right}
use Rattle.block_chunker.specs.declared.cuts.Cuts.{Cuts}
use Rattle.folder_side.specs.Folder.{Contents}
use Rattle.folder_side.specs.declared.scan_report.Scan.{Scan}
use Rattle.http_front.specs.declared.order.Order.{Order}
use Rattle.http_front.specs.declared.order.What.{What}
use Rattle.http_front.specs.declared.order.What.TheVariants as what
use Rattle.http_front.specs.declared.outcome.Outcome.TheVariants.{Plain}
use Rattle.library_state.specs.declared.refusal.Refusal.TheVariants as refusal
use Rattle.library_state.specs.declared.reply.Reply.TheVariants as reply
use Rattle.library_state.specs.declared.tag.Tag.{Tag}
use Rattle.local_index.specs.declared.index.Index.{Index}
use Rattle.remote_calls.specs.Sends.{Ending, Sent}
use Rattle.sync_rules.specs.Causes.{CausedBy, DeniesUpload, HasPath, IsLast, stale_count}
use Rattle.sync_rules.specs.Named.{Named, got_in, is_check, is_get, is_upload, last_head}
use Rattle.sync_rules.specs.Orders.Stage.{Reads}
use Rattle.sync_rules.specs.declared.fault.SyncFault.{SyncFault}
use Rattle.sync_rules.specs.declared.fault.SyncFault.TheVariants as fault
use Rattle.tree_walk.specs.declared.fault.WalkFault.TheVariants as walk
use Rattle.tree_fetch.specs.Asking.{order_of}
use Rattle.tree_fetch.specs.declared.asker.Asker.{Asker}
use Rattle.tree_push.specs.ChangedOwns.{AreChangedOwns, Owns}
use Rattle.tree_push.specs.Pushing.{IsPushFault}
use Rattle.sync_daemon.specs.Asking.{HeadOf}
use Rattle.sync_daemon.specs.Going.{Going, GoingOver, Refuses, Spares, Stops, Sync}
use Rattle.sync_daemon.specs.Rounds.{Differs, IsAskedFor, IsJoined, IsSeen, IsSettled, MayDiffer, MayUpload, TellsChange, sync_of}
use Rattle.sync_daemon.specs.declared.round.Settled.{Settled}
use Rattle.sync_daemon.proofs.CheckLemmas.{fails_so, plain_head}
use Rattle.sync_daemon.proofs.GoingLemmas.{fails_here, spares_more}
use Rattle.sync_daemon.proofs.JoinLemmas.{head_then}
use Rattle.sync_daemon.proofs.MeetLemmas.{can_ask, head_ends, head_goes, may_more}
use Rattle.sync_daemon.proofs.RoundLemmas.{agrees_of, differs_of}

module _ (asker : Asker) (user : List ℕ) (shows : ℕ → Type 0) (cuts : Cuts) (told : Option Contents) (index : Index) (start first : List Sent) (late : ℕ) (may : Bool) (report : Scan)
    (asked : Option (List ℕ)) (joined : IsJoined (sync_of asker user shows cuts told index) first late may asked) (seen : (c : Contents) → told ≡ Some c → IsSeen cuts c report) where
  abbrev this : Sync
  this = sync_of asker user shows cuts told index

  abbrev head_sent : (id : List ℕ) → Tag → Sent
  head_sent id tag = (order_of asker (what.Head None), Ok (Plain (reply.HeadIs id) tag))

  -- ---- nothing is pushed

  abbrev unpushed : Owns → List ℕ → (moment : ℕ) → Bool → Settled
  unpushed owns head moment differs = record { scan = report; owns = owns; head = head; pushed = None; moment = moment; differs = differs }

  -- the folder differs only where an upload is denied
  differs_so : (differs : Bool) → TellsChange report index differs → MayDiffer differs may index.base → (owns : Owns) (id : List ℕ) (now : ℕ) (more : List Sent)
      → Going this more joined.stage late → MayUpload may joined.stage more → differs ≡ true → Differs this more (unpushed owns id now differs)
  differs_so false changed allowed owns id now more going uploads is = absurd (true≢false (sym is))
  differs_so true changed allowed owns id now more going uploads is =
      let reads : (joined.stage ≡ Reads) × DeniesUpload more = subst (λ (b : Bool). MayUpload b joined.stage more) allowed.0 uploads in record {
        unpushed = refl;
        based = allowed.1;
        denies = reads.1;
        reads = going.reached ∙ reads.0;
        other = λ c holds. differs_of cuts c report (seen c holds) index changed;
      }

  -- whatever was sent so far, where the head was named last and nothing was pushed
  settled : (owns : Owns) → AreChangedOwns index.entries report.paths owns → (differs : Bool) → TellsChange report index differs → (more : List Sent) (id : List ℕ) (now : ℕ)
      → (differs ≡ true → Differs this more (unpushed owns id now differs)) → Going this more joined.stage late → shows now → Spares this more → last_head more None ≡ Some (id, None)
      → ((c : Contents) → told ≡ Some c → index.base ≡ None → HasPath c → (before : List Sent) (sent : Sent) → more ≡ before ++ sent ∷ [] → sent.0.what ≡ what.Head None → ⊥)
      → IsSettled this more (unpushed owns id now differs)
  settled owns are differs changed more id now so going shown spares named behind = record {
    stage = joined.stage;
    late = late;
    going = going;
    few = joined.few;
    may_get = λ w get. can_ask may joined.stage first joined.may_upload w (no_check w get) (no_upload w get);
    named = named;
    spares = spares;
    shown = shown;
    owns = are;
    pushed_as = λ other is. absurd (true≢false (sym (ap is_some is)));
    seen = seen;
    agrees = λ c is none same. agrees_of cuts c report (seen c is) index (subst (TellsChange report index) same changed);
    differs = so;
    offered = λ c is.
        let over : GoingOver this c more = going.over c is in
        (over.had, over.is_had, λ objects base all. tt);
    behind = behind;
  }
    where
      no_check : (w : What) → is_get w ≡ true → is_check w ≡ false
      no_check (what.Check op) get = absurd (true≢false (sym get))
      no_check _ get = refl

      no_upload : (w : What) → is_get w ≡ true → is_upload w ≡ false
      no_upload (what.Get key) get = refl
      no_upload (what.GetFs ids) get = refl
      no_upload _ get = absurd (true≢false (sym get))

  pub unpushed_goes : (owns : Owns) → AreChangedOwns index.entries report.paths owns → (differs : Bool) → TellsChange report index differs → MayDiffer differs may index.base
      → (old new : List Sent) (head : List ℕ) (now : ℕ) → old ≡ start ++ first → shows now → HeadOf asker asked old new (Ok head)
      → (more : List Sent) × (new ≡ start ++ more) × IsSettled this more (unpushed owns head now differs)
  unpushed_goes owns are differs changed allowed old new head now begun shown of = by asked joined.asked_for of
    where
      by : (o : Option (List ℕ)) → IsAskedFor index.base o first → HeadOf asker o old new (Ok head) → (more : List Sent) × (new ≡ start ++ more) × IsSettled this more (unpushed owns head now differs)
      by None (based, unasked) (tag, grown) =
          let last : Sent = head_sent head tag in
          let going : Going this (first ++ last ∷ []) joined.stage late =
          head_goes asker user shows cuts told index start first joined.stage late joined.going joined.few (λ c is. (seen c is).within) head tag
          (can_ask may joined.stage first joined.may_upload (what.Head None) refl refl) unasked in (
            first ++ last ∷ [],
            grown ∙ ap (λ (sends : List Sent). sends ++ last ∷ []) begun ∙ append_assoc start first (last ∷ []),
            settled owns are differs changed (first ++ last ∷ []) head now
                (differs_so differs changed allowed owns head now (first ++ last ∷ []) going (may_more may joined.stage first (last ∷ []) joined.may_upload))
                going shown (spares_more this first last joined.spares refl) (head_then None first (last ∷ [])) (λ c is none has. absurd (true≢false (sym based ∙ ap is_some none))),
          )
      by (Some id) (none, of_round, named) (is, stays) =
          let one : head ≡ id = cc in (
            first,
            stays ∙ begun,
            settled owns are differs changed first head now (differs_so differs changed allowed owns head now first joined.going joined.may_upload) joined.going shown joined.spares (named ∙ ap (λ (x : List ℕ). Some (x, None)) (sym one)) joined.behind,
          )

  pub unpushed_fails : (old new : List Sent) (f : SyncFault) → old ≡ start ++ first → HeadOf asker asked old new (Err f) → Stops this start new f
  unpushed_fails old new f begun of = by asked joined.asked_for of
    where
      by : (o : Option (List ℕ)) → IsAskedFor index.base o first → HeadOf asker o old new (Err f) → Stops this start new f
      by None (based, unasked) fails =
          fails_so asker user shows cuts told index start first joined.stage late joined.going joined.few (what.Head None)
          (plain_head first joined.stage (can_ask may joined.stage first joined.may_upload (what.Head None) refl refl) unasked) old new f begun fails (head_ends asker old new f fails)
          (λ c is. inr (seen c is).within)
      by (Some id) was (is, stays) = cc

  -- ---- what changed may not be uploaded

  pub denied : (stage_is : (joined.stage ≡ Reads) × DeniesUpload first) → index.base ≡ None → TellsChange report index true → Refuses this first (fault.Refused refusal.Denied)
  denied stage_is none other =
      fails_here this first joined.stage late joined.going (fault.Refused refusal.Denied) joined.few
      (inr (refl, stage_is.1, joined.going.went, ((λ c is. (differs_of cuts c report (seen c is) index other, inl none)), joined.going.reached ∙ stage_is.0)))
      (λ c is. ((λ went. ((seen c is).within, joined.joins c is)), inl (tt, joined.going.unbegun)))

-- ---- what changed is pushed

-- an order is behind those that were sent before
last_then_is : (first more : List Sent) (order : Order) (ending : Ending) → IsLast more order ending → IsLast (first ++ more) order ending
last_then_is first more order ending (before, is) = (first ++ before, ap (λ (sends : List Sent). first ++ sends) is ∙ sym (append_assoc first before ((order, ending) ∷ [])))

pub caused_then : (there : SyncFault → Type 0) (first more : List Sent) (f : SyncFault) → CausedBy IsPushFault more f → (stale_count more ≡ 0) → (IsPushFault f → there f) → CausedBy there (first ++ more) f
caused_then there first more (fault.Remote g) (order, last) none wider = (order, last_then_is first more order (Err g) last)
caused_then there first more (fault.Refused r) (inl (order, ending, last, refused, ends)) none wider = inl (order, ending, last_then_is first more order ending last, refused, ends)
caused_then there first more (fault.Refused r) (inr (is, denies, went, never)) none wider = absurd never
caused_then there first more (fault.Damaged want got) (key, bytes, id, hash, other, of, came) none wider = (
  key,
  bytes,
  id,
  hash,
  other,
  of,
  subst (λ (all : List Named). Contains all (key, Some bytes)) (sym (flat_map-append got_in first more)) (Contains-append_right (flat_map got_in first) (flat_map got_in more) (key, Some bytes) came),
)
caused_then there first more (fault.Stale count) (order, ending, last, is, refused, three) none wider = let zero_three : 3 ≡ 0 = sym three ∙ none in let no_way : ⊥ = omega (arith, zero_three) in absurd no_way
caused_then there first more fault.NotEmpty (found, never) none wider = absurd never
caused_then there first more (fault.BadTree (walk.Unreadable key)) (inl (order, bytes, tag, last, asked, of, spells)) none wider =
    inl (order, bytes, tag, last_then_is first more order (Ok (Plain (reply.Got bytes) tag)) last, asked, of, spells)
caused_then there first more (fault.BadTree why) (inl never) none wider = absurd never
caused_then there first more (fault.BadTree why) (inr (went, never)) none wider = absurd never
caused_then there first more fault.NoMemory is none wider = tt
caused_then there first more fault.Folder is none wider = wider tt
caused_then there first more (fault.Changed path) is none wider = wider tt
caused_then there first more (fault.Blocked path) is none wider = absurd is
caused_then there first more (fault.Scan why) is none wider = absurd is
