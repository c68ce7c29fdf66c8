-- Two short syncs meet all clauses. The key lemmas are unchanged_synced, unchanged_syncs, unchanged_orders, unchanged_ends and unchanged_index, and
-- denied_syncs, denied_orders and denied_ends.
use Rattle.std.proofs.Common.{◌≡◌, ◌<◌, ◌≤◌, ℕ, false, All, List, [], ◌∷◌, Option, None, Some, Ok, Err, refl, sym, ap, subst, ◌∙◌, is_some, unwrap_or, inl, inr, true≢false, arith}
use Rattle.std.specs.List.{Contains}
use Rattle.std.proofs.lemmas.List.Elements.{All-contains, All-cons, All-nil}
use Rattle.ids.specs.Key.{Objects}
use Rattle.ids.specs.declared.key.Key.{Key}
use Rattle.tree_model.specs.Tree.{Tree}
use Rattle.block_chunker.specs.declared.cuts.Cuts.{Cuts}
use Rattle.library_state.specs.declared.refusal.Refusal.TheVariants as refusal
use Rattle.library_state.specs.declared.tag.Tag.{Tag}
use Rattle.folder_side.specs.Folder.{Contents}
use Rattle.folder_side.specs.ScanReport.{IsWithinLimits}
use Rattle.local_index.specs.declared.index.Index.{Index}
use Rattle.remote_calls.specs.Sends.{Sent}
use Rattle.sync_rules.specs.Causes.{DeniesUpload, EndsSo, IsSoHere, WentWell}
use Rattle.sync_rules.specs.Checkout.{Step}
use Rattle.sync_rules.specs.InterruptedCheckout.{IsChangedByReader}
use Rattle.sync_rules.specs.Named.{IsNamedSo, is_block, is_upload}
use Rattle.sync_rules.specs.Offer.{Agrees}
use Rattle.sync_rules.specs.OneSync.{LeavesIndex, SyncsSo}
use Rattle.sync_rules.specs.Orders.{IsLacked, IsNeeded, IsSyncOrder, OrdersSo}
use Rattle.sync_rules.specs.Premises.{IsBase, KnowsBase, KnowsRoot, Over}
use Rattle.sync_rules.specs.Synced.{IsOfWritten, IsSynced}
use Rattle.sync_rules.specs.ShortSyncs.{allowed_sent, check_sent, denied_sent, head_sent, none_done, reader_sent, two_sent}
use Rattle.sync_rules.specs.Uploads.{UploadsSo}
use Rattle.sync_rules.specs.declared.fault.SyncFault.{SyncFault}
use Rattle.sync_rules.specs.declared.fault.SyncFault.TheVariants as fault
use Rattle.sync_rules.proofs.AgreedLemmas.{agreed_held, agreed_left, agreed_plan}

pub none_contained : {X : Type 0} (x : X) → Contains [] x → ⊥
none_contained x there = All-contains (λ y. ⊥) [] x (All-nil (λ y. ⊥)) there

module _ (lib secret id : List ℕ) (first later : Tag) where
  both : (P : Sent → Type 0) → P (check_sent lib secret first) → P (head_sent lib secret id later) → All P (two_sent lib secret id first later)
  both P check head =
      All-cons P (check_sent lib secret first) (head_sent lib secret id later ∷ []) check
      (All-cons P (head_sent lib secret id later) [] head (All-nil P))

  -- ---- over every folder

  pub unchanged_orders : (user : List ℕ) (shows : ℕ → Type 0) (base : Option (List ℕ)) → OrdersSo lib secret user shows base (two_sent lib secret id first later)
  unchanged_orders user shows base = record {
    asks = both (IsSyncOrder lib secret) (refl, refl, refl, tt) (refl, refl, refl, tt);
    made = (tt, tt, (tt, tt, tt));
    puts = (All-nil (IsLacked []), (All-nil (IsLacked []), tt));
    rounds = (refl, (refl, tt));
    gets = (All-nil (IsNeeded []), (All-nil (IsNeeded (check_sent lib secret first ∷ [])), tt));
  }

  pub unchanged_ends : (here : SyncFault → Type 0) (c : Contents) → EndsSo here (two_sent lib secret id first later) (Ok (none_done c id))
  unchanged_ends here c =
      let few : 0 ≤ 2 = omega arith in
      (both WentWell (refl, All-nil IsNamedSo) (refl, All-nil IsNamedSo), few, refl)

  pub unchanged_index : (index : Index) (c : Contents) → index.base ≡ Some id → LeavesIndex index index (two_sent lib secret id first later) (Ok (none_done c id))
  unchanged_index index c is = (is, refl, inl (record { pushed = refl; head = is; none = refl; conflict = refl; same = λ path. refl }))

  -- ---- over a folder that tells what it holds

  module _ (cuts : Cuts) (c : Contents) (index : Index) (user : List ℕ) (shows : ℕ → Type 0) (is : index.base ≡ Some id) (agrees : Agrees cuts c index) where
    based : index.base ≡ None → ⊥
    based none = true≢false (sym (ap is_some is) ∙ ap is_some none)

    uploads : UploadsSo cuts c index user (two_sent lib secret id first later) shows
    uploads = record {
      changed = λ same. both (λ (sent : Sent). is_upload sent.0.what ≡ false) refl refl;
      joins = λ none has. absurd (based none);
      offers = (tt, (tt, tt));
    }

    pub unchanged_synced : (objects : Objects) (base : Tree) (moment : ℕ) → Over objects cuts c index base []
        → IsSynced objects cuts c c index index base moment user (two_sent lib secret id first later) (none_done c id)
    unchanged_synced objects base moment over =
        let of_base : IsBase objects (Some id) base = subst (λ (o : Option (List ℕ)). IsBase objects o base) is over.base_is in
        let knows : KnowsRoot objects of_base.0.root index = subst (λ (o : Option (List ℕ)). KnowsBase objects o index) is over.knows of_base.0 of_base.1 in
        record {
          named = refl;
          pushed = tt;
          commit = of_base.0;
          stored = of_base.1;
          is_tree = of_base.2;
          left = agreed_left objects cuts c index base [] over agrees;
          stands = over.stands;
          names = over.names;
          knows = knows;
          sizes = inl (λ path. refl);
          base = is;
          lib = refl;
          conflict = refl;
          steps = [];
          is_plan = agreed_plan objects cuts c index base [] over agrees of_base.0.root knows;
          done = refl;
          spared = λ none head. refl;
          unfetched = λ same. absurd (true≢false (sym (ap is_some same)));
          asked = All-nil (IsOfWritten objects of_base.0.root []);
          whole = inl (refl, is);
          sized = λ path bytes there. absurd (none_contained (Step.Wrote path bytes) there);
          removed = refl;
          written = refl;
          skipped = refl;
          held = agreed_held objects cuts c index base [] over agrees;
        }

    pub unchanged_syncs : (moment : ℕ) → shows moment → IsWithinLimits c
        → SyncsSo cuts c (Some c) index index user (two_sent lib secret id first later) shows (Ok (none_done c id))
    unchanged_syncs moment shown within = (
      c,
      refl,
      uploads,
      record {
        scanned = inr within;
        found = λ none has. absurd (based none);
        pushed = ((λ gets. absurd (true≢false (sym gets))), ((λ gets. absurd (true≢false (sym gets))), tt));
      },
      (λ head named. inl agrees),
      [],
      tt,
      λ objects base over. (base, moment, shown, unchanged_synced objects base moment over),
    )

-- ---- one who may only read, with a changed folder

module _ (lib secret id : List ℕ) (first later last : Tag) where
  abbrev these : List Sent
  these = reader_sent lib secret id first later last

  each_of : (P : Sent → Type 0) → P (denied_sent lib secret first) → P (allowed_sent lib secret later) → P (head_sent lib secret id last) → All P these
  each_of P denied allowed head =
      All-cons P (denied_sent lib secret first) (allowed_sent lib secret later ∷ head_sent lib secret id last ∷ []) denied
      (All-cons P (allowed_sent lib secret later) (head_sent lib secret id last ∷ []) allowed (All-cons P (head_sent lib secret id last) [] head (All-nil P)))

  pub denied_orders : (user : List ℕ) (shows : ℕ → Type 0) (base : Option (List ℕ)) → OrdersSo lib secret user shows base these
  denied_orders user shows base = record {
    asks = each_of (IsSyncOrder lib secret) (refl, refl, refl, tt) (refl, refl, refl, tt) (refl, refl, refl, tt);
    made = (tt, tt, (tt, tt, (tt, tt, tt)));
    puts = (All-nil (IsLacked []), (All-nil (IsLacked []), (All-nil (IsLacked (allowed_sent lib secret later ∷ [])), tt)));
    rounds = (refl, (refl, (refl, tt)));
    gets = (
      All-nil (IsNeeded []),
      (
        All-nil (IsNeeded (denied_sent lib secret first ∷ [])),
        (All-nil (IsNeeded (denied_sent lib secret first ∷ allowed_sent lib secret later ∷ [])), tt),
      ),
    );
  }

  all_well : All WentWell these
  all_well = each_of WentWell (refl, All-nil IsNamedSo) (refl, All-nil IsNamedSo) (refl, All-nil IsNamedSo)

  first_denies : DeniesUpload these
  first_denies =
      let some : 0 < 3 = omega arith in
      ((denied_sent lib secret first).0, (denied_sent lib secret first).1, (0, some, refl), refl, refl)

  module _ (cuts : Cuts) (c : Contents) (index : Index) (is : index.base ≡ Some id) (differs : Agrees cuts c index → ⊥) where
    changed : IsChangedByReader cuts c index these
    changed = (differs, inr (id, refl, inl is))

    pub denied_ends : EndsSo (IsSoHere cuts (Some c) index these) these (Err (fault.Refused refusal.Denied))
    denied_ends =
        let few : 0 ≤ 2 = omega arith in (
          ((refl, All-nil IsNamedSo), ((refl, All-nil IsNamedSo), tt)),
          inr (refl, first_denies, all_well, λ other told. subst (λ (o : Option Contents). IsChangedByReader cuts (unwrap_or o c) index these) told changed),
          (λ other. absurd (true≢false other)),
          (λ early. few),
        )

    pub denied_syncs : (user : List ℕ) (shows : ℕ → Type 0) → IsWithinLimits c
        → SyncsSo cuts c (Some c) index index user these shows (Err (fault.Refused refusal.Denied))
    denied_syncs user shows within =
        let based : index.base ≡ None → ⊥ = λ none. true≢false (sym (ap is_some is) ∙ ap is_some none) in (
          c,
          refl,
          record {
            changed = λ same. absurd (differs same);
            joins = λ none has. absurd (based none);
            offers = (tt, (tt, (tt, tt)));
          },
          record {
            scanned = inr within;
            found = λ none has. absurd (based none);
            pushed = (
              (λ gets. absurd (true≢false (sym gets))),
              ((λ gets. absurd (true≢false (sym gets))), ((λ gets. absurd (true≢false (sym gets))), tt)),
            );
          },
          (λ went. (within, λ none has. absurd (based none))),
          (λ early. refl),
          inl (refl, tt, All-nil (λ (key : Key). is_block key.kind ≡ false)),
        )
