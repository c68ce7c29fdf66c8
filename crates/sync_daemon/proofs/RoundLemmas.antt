-- The steps of a round behind its scan: the first meeting with a library, and the head where nothing changed. The key lemmas are
-- join_goes, join_fails, same_goes, same_fails and denied.
use Rattle.std.proofs.Common.{◌≡◌, ◌==◌, ℕ, Bool, true, false, not, cond, List, [], ◌∷◌, ◌++◌, length, Option, None, Some, is_some, is_ok, option_map, Ok, Err, refl, sym, ap, subst, ◌∙◌, append_assoc, inl, inr, true≢false}
use Rattle.std.specs.FinMap as fin
use Rattle.std.specs.List.{Contains, flat_map}
use Rattle.std.proofs.lemmas.Bool.{eqb-true}
use Rattle.std.proofs.lemmas.Grind.{flat_map-append}
use Rattle.std.proofs.lemmas.List.Elements.{All-cons, All-nil, Contains-append_right, Contains-push}
use Rattle.tree_model.specs.Path.{PathV, path_cmp}
use Rattle.tree_model.proofs.ListedLemmas.{same_path-itself}
use Rattle.block_chunker.specs.declared.cuts.Cuts.{Cuts}
use Rattle.commit_objects.specs.Commit.{commit_of}
use Rattle.folder_side.specs.Folder.{Contents, at}
use Rattle.folder_side.specs.ScanReport.{IsWithinLimits}
use Rattle.folder_side.specs.WorkingTree.{held_at, seen_as}
use Rattle.folder_side.specs.declared.scan_report.Scan.{Scan}
use Rattle.folder_side.specs.declared.scan_report.Seen.{Seen}
use Rattle.folder_side.proofs.VisibleTreeLemmas.{seen-visible}
use Rattle.http_front.specs.declared.order.What.{What}
use Rattle.http_front.specs.declared.order.What.TheVariants as what
use Rattle.http_front.specs.declared.outcome.Outcome.TheVariants.{Plain}
use Rattle.library_state.specs.declared.reply.Reply.TheVariants as reply
use Rattle.library_state.specs.declared.tag.Tag.{Tag}
use Rattle.local_index.specs.ScanChanges.{change_of}
use Rattle.local_index.specs.declared.index.Index.{Index}
use Rattle.object_graph.specs.Objects.{commit_in, commit_key}
use Rattle.object_graph.specs.declared.fault.TreeFault.{TreeFault}
use Rattle.remote_calls.specs.Sends.{Sent}
use Rattle.sync_rules.specs.Causes.{FindsSome, HasPath}
use Rattle.sync_rules.specs.Named.{IsNamedSo, Named, asked_head, got_in, last_head}
use Rattle.sync_rules.specs.Offer.{Agrees}
use Rattle.sync_rules.specs.Orders.{may_send}
use Rattle.sync_rules.specs.declared.fault.SyncFault.{SyncFault}
use Rattle.sync_rules.specs.declared.fault.SyncFault.TheVariants as fault
use Rattle.tree_fetch.specs.Asking.{order_of}
use Rattle.tree_fetch.specs.declared.asker.Asker.{Asker}
use Rattle.sync_daemon.specs.Going.{Going, Stops, Sync}
use Rattle.sync_daemon.specs.Joining.{FailsEmpty, IsGotFor, JoinsAs, has_seen}
use Rattle.sync_daemon.specs.Rounds.{IsChecked, IsFresh, IsJoined, IsSeen, TellsChange, sync_of}
use Rattle.sync_daemon.proofs.CheckLemmas.{fails_so, plain_head, quiet_of}
use Rattle.sync_daemon.proofs.GoingLemmas.{ends_one, last_then, last_with}
use Rattle.sync_daemon.proofs.JoinLemmas.{asked_then, head_then}
use Rattle.sync_daemon.proofs.MeetLemmas.{can_ask, commit_fails, commit_goes, fresh_more, head_ends, head_goes, may_more, named_so, none_read, none_there, plain_commit, spelled}

-- ---- what a scan saw

module _ (cuts : Cuts) (c : Contents) (report : Scan) (seen : IsSeen cuts c report) where
  seen_at : (path : PathV) → fin.get report.paths path ≡ option_map (seen_as cuts) (held_at c path)
  seen_at path = seen.scanned.paths path ∙ seen-visible cuts (at c path)

  none_of : (o : Option Seen) → o ≡ None → is_some o ≡ true → ⊥
  none_of o is some = true≢false (sym some ∙ ap is_some is)

  pub has_path : HasPath c → has_seen report ≡ true
  has_path (path, some) = by (fin.len report.paths == 0) refl
    where
      by : (b : Bool) → (fin.len report.paths == 0) ≡ b → not b ≡ true
      by false apart = refl
      by true is =
          let empty : report.paths ≡ fin.empty = fin.empty_of_len report.paths (eqb-true (fin.len report.paths) 0 is) in
          let none : fin.get report.paths path ≡ None = ap (λ m. fin.get m path) empty ∙ fin.get-empty path_cmp path in
          absurd (none_of (fin.get report.paths path) none (ap is_some (seen_at path) ∙ kept (seen_as cuts) (held_at c path) some))
        where
          kept : {X Y : Type 0} (f : X → Y) (o : Option X) → is_some o ≡ true → is_some (option_map f o) ≡ true
          kept f None is = is
          kept f (Some x) is = refl

  pub sees_path : has_seen report ≡ true → HasPath c
  sees_path is = by (fin.entries report.paths) refl
    where
      by : (es : List (PathV × Seen)) → fin.entries report.paths ≡ es → HasPath c
      by [] none =
          let zero_long : fin.len report.paths ≡ 0 = fin.len-entries report.paths ∙ ap length none in
          absurd (true≢false (sym is ∙ ap (λ (n : ℕ). not (n == 0)) zero_long))
      by (e ∷ es) some = (e.0, first)
        where
          found : fin.get report.paths e.0 ≡ Some e.1
          found = fin.get-entries report.paths e.0 ∙ ap (fin.find path_cmp e.0) some ∙ ap (λ (b : Bool). cond b (Some e.1) (fin.find path_cmp e.0 es)) (same_path-itself e.0)

          back : {X Y : Type 0} (f : X → Y) (o : Option X) → is_some (option_map f o) ≡ true → is_some o ≡ true
          back f None none = none
          back f (Some x) some = refl

          first : is_some (held_at c e.0) ≡ true
          first = back (seen_as cuts) (held_at c e.0) (sym (ap is_some (seen_at e.0)) ∙ ap is_some found)

  pub agrees_of : (index : Index) → TellsChange report index false → Agrees cuts c index
  agrees_of index same path = ap (λ o. change_of o (fin.get index.entries path)) (sym (seen.scanned.paths path)) ∙ same path

  pub differs_of : (index : Index) → TellsChange report index true → Agrees cuts c index → ⊥
  differs_of index other agrees = other (λ path. ap (λ o. change_of o (fin.get index.entries path)) (seen.scanned.paths path) ∙ agrees path)

-- ---- the last order

abbrev what_at : Option Sent → Option What
what_at None = None
what_at (Some sent) = Some sent.0.what

-- what came last isn't the question for the head
pub not_head : (first : List Sent) (last : Sent) → (last.0.what ≡ what.Head None → ⊥) → (before : List Sent) (sent : Sent) → first ++ last ∷ [] ≡ before ++ sent ∷ [] → sent.0.what ≡ what.Head None → ⊥
not_head first last other before sent same is =
    let ends : Some last ≡ Some sent = sym (last_then None first (last ∷ [])) ∙ ap (last_with None) same ∙ last_then None before (sent ∷ []) in
    let asked : Some last.0.what ≡ Some sent.0.what = ap what_at ends in
    other (let equal : last.0.what ≡ sent.0.what = cc in equal ∙ is)

module _ (asker : Asker) (user : List ℕ) (shows : ℕ → Type 0) (cuts : Cuts) (told : Option Contents) (index : Index) (start first : List Sent) (late : ℕ) (may : Bool) (report : Scan)
    (seen : (c : Contents) → told ≡ Some c → IsSeen cuts c report) where
  abbrev this : Sync
  this = sync_of asker user shows cuts told index

  within : (c : Contents) → told ≡ Some c → IsWithinLimits c
  within c is = (seen c is).within

  abbrev head_sent : (id : List ℕ) → Tag → Sent
  head_sent id tag = (order_of asker (what.Head None), Ok (Plain (reply.HeadIs id) tag))

  abbrev got_sent : (id bytes : List ℕ) → Tag → Sent
  got_sent id bytes tag = (order_of asker (what.Get (commit_key id)), Ok (Plain (reply.Got bytes) tag))

  -- ---- the first meeting

  module _ (checked : IsChecked this first late may) where
    asks_head : may_send checked.stage (what.Head None) ≡ true
    asks_head = can_ask may checked.stage first checked.may_upload (what.Head None) refl refl

    gets_commit : (id : List ℕ) → may_send checked.stage (what.Get (commit_key id)) ≡ true
    gets_commit id = can_ask may checked.stage first checked.may_upload (what.Get (commit_key id)) refl refl

    headed : (id : List ℕ) (tag : Tag) → Going this (first ++ head_sent id tag ∷ []) checked.stage late
    headed id tag = head_goes asker user shows cuts told index start first checked.stage late checked.going checked.few within id tag asks_head checked.unasked

    head_named : (id : List ℕ) (tag : Tag) → last_head (first ++ head_sent id tag ∷ []) None ≡ Some (id, None)
    head_named id tag = head_then None first (head_sent id tag ∷ [])

    head_fresh : (id : List ℕ) (tag : Tag) → IsFresh (first ++ head_sent id tag ∷ [])
    head_fresh id tag = fresh_more first (head_sent id tag) checked.fresh refl refl refl refl

    grown_by : (old new : List Sent) (before : List Sent) (sent : Sent) → old ≡ start ++ before → new ≡ old ++ sent ∷ [] → new ≡ start ++ (before ++ sent ∷ [])
    grown_by old new before sent begun grown = grown ∙ ap (λ (sends : List Sent). sends ++ sent ∷ []) begun ∙ append_assoc start before (sent ∷ [])

    pub join_goes : (old new : List Sent) (asked : Option (List ℕ)) → old ≡ start ++ first → JoinsAs asker index.base report old new (Ok asked)
        → (more : List Sent) × (new ≡ start ++ more) × IsJoined this more late may asked
    join_goes old new None begun (based, same) = (
      first,
      same ∙ begun,
      record {
        stage = checked.stage;
        going = checked.going;
        few = checked.few;
        may_upload = checked.may_upload;
        fresh = checked.fresh;
        asked_for = (based, checked.unasked);
        spares = checked.spares;
        joins = λ c is none has. absurd (true≢false (sym based ∙ ap is_some none));
        behind = λ c is none has. absurd (true≢false (sym based ∙ ap is_some none));
      },
    )
    join_goes old new (Some head) begun (none, mid, (tag, grown), got) = by (has_seen report) refl got
      where
        before : List Sent
        before = first ++ head_sent head tag ∷ []

        to_mid : mid ≡ start ++ before
        to_mid = grown_by old mid first (head_sent head tag) begun grown

        by : (b : Bool) → has_seen report ≡ b → IsGotFor b asker mid new head → (more : List Sent) × (new ≡ start ++ more) × IsJoined this more late may (Some head)
        by false empty same = (
          before,
          same ∙ to_mid,
          record {
            stage = checked.stage;
            going = headed head tag;
            few = checked.few;
            may_upload = may_more may checked.stage first (head_sent head tag ∷ []) checked.may_upload;
            fresh = head_fresh head tag;
            asked_for = (none, asked_then None first (head_sent head tag ∷ []), head_named head tag);
            spares = λ has_base. absurd (true≢false (sym has_base ∙ ap is_some none));
            joins = λ c is base has. absurd (true≢false (sym (has_path cuts c report (seen c is) has) ∙ empty));
            behind = λ c is base has. absurd (true≢false (sym (has_path cuts c report (seen c is) has) ∙ empty));
          },
        )
        by true some (commit, is_got, nothing) =
            let last : Sent = got_sent head is_got.bytes is_got.tag in
            let going : Going this (before ++ last ∷ []) checked.stage late =
            commit_goes asker user shows cuts told index start before checked.stage late (headed head tag) checked.few within head is_got.bytes is_got.tag commit None (gets_commit head)
            (head_named head tag) is_got.spells (λ c is base has. none_there before last is_got.bytes is_got.tag head commit refl is_got.spells nothing) in (
              before ++ last ∷ [],
              grown_by mid new before last to_mid is_got.is,
              record {
                stage = checked.stage;
                going = going;
                few = checked.few;
                may_upload = may_more may checked.stage before (last ∷ []) (may_more may checked.stage first (head_sent head tag ∷ []) checked.may_upload);
                fresh = fresh_more before last (head_fresh head tag) refl refl refl refl;
                asked_for = (
                  none,
                  asked_then None before (last ∷ []) ∙ ap (asked_head (last ∷ [])) (asked_then None first (head_sent head tag ∷ [])),
                  head_then None before (last ∷ []) ∙ ap (last_head (last ∷ [])) (head_named head tag),
                );
                spares = λ has_base. absurd (true≢false (sym has_base ∙ ap is_some none));
                joins = λ c is base has. record {
                  head = head;
                  asked = asked_then None before (last ∷ []) ∙ ap (asked_head (last ∷ [])) (asked_then None first (head_sent head tag ∷ []));
                  bytes = is_got.bytes;
                  got = subst (λ (all : List Named). Contains all (commit_key head, Some is_got.bytes)) (sym (flat_map-append got_in before (last ∷ [])))
                      (Contains-append_right (flat_map got_in before) ((commit_key head, Some is_got.bytes) ∷ []) (commit_key head, Some is_got.bytes)
                      (Contains-push [] (commit_key head, Some is_got.bytes)));
                  commit = commit;
                  spells = spelled head is_got.bytes commit (commit_of is_got.bytes) is_got.spells;
                  named = named_so head is_got.bytes commit is_got.spells;
                  none = nothing;
                };
                behind = λ c is base has. not_head before last (λ e. cc);
              },
            )

    -- it was asked for, and failed
    pub join_fails : (old new : List Sent) (f : SyncFault) → old ≡ start ++ first → JoinsAs asker index.base report old new (Err f) → Stops this start new f
    join_fails old new f begun (none, inl fails) =
        fails_so asker user shows cuts told index start first checked.stage late checked.going checked.few (what.Head None) (plain_head first checked.stage asks_head checked.unasked) old new f begun fails
        (head_ends asker old new f fails) (λ c is. inr (within c is))
    join_fails old new f begun (none, inr (mid, head, (tag, grown), some, fails)) = by f fails
      where
        before : List Sent
        before = first ++ head_sent head tag ∷ []

        to_mid : mid ≡ start ++ before
        to_mid = grown_by old mid first (head_sent head tag) begun grown

        unread : (c : Contents) → told ≡ Some c → index.base ≡ None → HasPath c → (bytes : List ℕ) (its : Tag) (why : TreeFault) → commit_in head (Some bytes) ≡ Err why
            → FindsSome (before ++ got_sent head bytes its ∷ []) → ⊥
        unread c is base has bytes its why bad = none_read before (got_sent head bytes its) bytes its head why refl refl bad (head_named head tag)

        by : (g : SyncFault) → FailsEmpty asker mid new head g → Stops this start new g
        by fault.NotEmpty (commit, is_got, nothing) =
            let last : Sent = got_sent head is_got.bytes is_got.tag in
            let found : FindsSome (before ++ last ∷ []) = record {
              before = first;
              asked = order_of asker (what.Head None);
              head = head;
              tag = tag;
              asks = refl;
              got = order_of asker (what.Get (commit_key head));
              bytes = is_got.bytes;
              later = is_got.tag;
              gets = refl;
              is = append_assoc first (head_sent head tag ∷ []) (last ∷ []);
              commit = commit;
              spells = spelled head is_got.bytes commit (commit_of is_got.bytes) is_got.spells;
              named = named_so head is_got.bytes commit is_got.spells;
              some = nothing;
            } in (
              before ++ last ∷ [],
              grown_by mid new before last to_mid is_got.is,
              ends_one this before checked.stage late last (headed head tag)
                  (quiet_of asker user shows cuts told index before checked.stage (what.Get (commit_key head)) (Ok (Plain (reply.Got is_got.bytes) is_got.tag))
                  (plain_commit before checked.stage head None (gets_commit head) (head_named head tag)) refl)
                  fault.NotEmpty checked.few
                  (refl, All-cons IsNamedSo (commit_key head, Some is_got.bytes) [] (ap is_ok is_got.spells) (All-nil IsNamedSo)) tt
                  (found, ((none, λ c is. sees_path cuts c report (seen c is) some), tt)) (λ all. all) (λ c is. (inr (within c is), tt)),
            )
        by g other =
            commit_fails asker user shows cuts told index start before checked.stage late (headed head tag) checked.few within head None (gets_commit head) (head_named head tag) unread mid new g to_mid other
