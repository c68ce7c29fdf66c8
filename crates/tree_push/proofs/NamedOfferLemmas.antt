-- All that a push asks about or sends is of what is offered. The key lemmas are needs_none, stopped_needs and stood_needs.
use Rattle.std.proofs.Common.{◌≡◌, ◌⊎◌, inl, inr, ℕ, true, List, [], ◌∷◌, ◌++◌, Result, Ok, Err, refl, sym, ap, ◌∙◌, subst, append_assoc, true≢false}
use Rattle.std.specs.Prelude.{⊤}
use Rattle.std.proofs.lemmas.Bool.{or_cases}
use Rattle.std.proofs.lemmas.List.{append-nil, append_cancel_left}
use Rattle.ids.specs.declared.key.Key.{Key}
use Rattle.object_graph.specs.Objects.{commit_key}
use Rattle.object_graph.specs.Traversal.{is_in}
use Rattle.object_graph.proofs.KeyLemmas.{in_append}
use Rattle.folder_side.specs.declared.scan_report.Scan.{Scan}
use Rattle.local_index.specs.declared.index.Index.{Index}
use Rattle.remote_calls.specs.Sends.{Sent}
use Rattle.sync_rules.specs.Named.{is_of_tree, keys_named, keys_put}
use Rattle.sync_rules.specs.declared.fault.SyncFault.{SyncFault}
use Rattle.tree_push.specs.OfferedEntries.{IsSeenFolder}
use Rattle.tree_push.specs.OfferedTree.{IsMadeOf}
use Rattle.tree_push.specs.Pushing.{IsOfOffer, NeedsSo}
use Rattle.tree_push.specs.SentOnce.{GrowsOnce, SendsOnce, keys_about}
use Rattle.tree_push.specs.Standing.{StandsSo}
use Rattle.tree_push.specs.Upload.{IsWantedKey, UploadsSo}
use Rattle.tree_push.specs.Wanted.{AreChangedBlocks}
use Rattle.tree_push.specs.declared.asking.Library.{Library}
use Rattle.tree_push.specs.declared.standing.Pushed.{Pushed}
use Rattle.tree_push.specs.declared.wanted.Wanted.{Wanted}
use Rattle.tree_push.proofs.NamedKeyLemmas.{in_one, named_append}
use Rattle.tree_push.proofs.UploadOnceLemmas.{commit_alone, nothing_alone, push_once}
use Rattle.tree_push.proofs.StoodLemmas.{StandsBy, stands_by}
use Rattle.tree_push.proofs.WantedSendLemmas.{sends_wanted, stops_wanted}

module _ (library : Library) (user : List ℕ) (moment : ℕ) (parent : List ℕ) (index : Index) (scan : Scan) where
  -- nothing was sent
  pub needs_none : (old : List Sent) → NeedsSo library user moment parent index scan old old
  needs_none old = ([], sym (append-nil old), inl refl)

  module _ (root : List ℕ) (wanted : Wanted) (changed : AreChangedBlocks index.entries scan.paths wanted)
      (tree : IsSeenFolder index.entries scan.paths → IsMadeOf moment user index.entries scan.paths root wanted.made) where
    abbrev Offered : Key → Type 0
    Offered = IsOfOffer library user moment parent index scan root wanted.made

    wanted_offered : (key : Key) → IsWantedKey wanted key → Offered key
    wanted_offered key (inl made) = inl made
    wanted_offered key (inr block) = inr (inl (changed key block))

    -- the part that was uploaded is the same, as it is told
    same_part : (old new more : List Sent) → new ≡ old ++ more → (part : GrowsOnce is_of_tree is_of_tree old new) → part.more ≡ more
    same_part old new more grown part = append_cancel_left old part.more more (sym part.grown ∙ grown)

    pub stopped_needs : (old new : List Sent) (f : SyncFault) → UploadsSo library wanted old new (Err f) → GrowsOnce is_of_tree is_of_tree old new → NeedsSo library user moment parent index scan old new
    stopped_needs old new f up part = (
      up.more,
      up.grown,
      inr (record {
        root = root;
        made = wanted.made;
        tree = tree;
        each = λ key there. wanted_offered key (stops_wanted library wanted f up.more up.ends key there);
        once = subst SendsOnce (same_part old new up.more up.grown part) part.once;
      }),
    )

    -- behind it the commit is sent, once
    commit_once : (first later : List Sent) (result : Result Pushed SyncFault) → SendsOnce first → ((key : Key) → is_in (keys_put first) key ≡ true → is_of_tree key.kind ≡ true)
        → StandsBy library root parent user moment later result → SendsOnce (first ++ later)
    commit_once first later result once kinds (inl none) =
        push_once first later once kinds (ap keys_about none.0) [] (ap keys_put none.0) nothing_alone (λ key there. absurd (true≢false (sym there)))
    commit_once first later result once kinds (inr (inl only)) =
        push_once first later once kinds (ap keys_about only.is) (commit_key only.id ∷ []) (ap keys_put only.is) (commit_alone only.id)
        (λ key there. ap (λ (k : Key). is_of_tree k.kind) (in_one (commit_key only.id) key there))
    commit_once first later result once kinds (inr (inr both)) =
        push_once first later once kinds (ap keys_about both.is) (commit_key both.id ∷ []) (ap keys_put both.is) (commit_alone both.id)
        (λ key there. ap (λ (k : Key). is_of_tree k.kind) (in_one (commit_key both.id) key there))

    -- what is named behind the upload is the commit
    own_named : (later : List Sent) (result : Result Pushed SyncFault) → StandsBy library root parent user moment later result → (key : Key) → is_in (keys_named later) key ≡ true → Offered key
    own_named later result (inl none) key there = absurd (true≢false (sym there ∙ ap (λ (sends : List Sent). is_in (keys_named sends) key) none.0))
    own_named later result (inr (inl only)) key there =
        inr (inr (only.id, only.text, only.own, in_one (commit_key only.id) key (ap (λ (sends : List Sent). is_in (keys_named sends) key) (sym only.is) ∙ there)))
    own_named later result (inr (inr both)) key there =
        inr (inr (both.id, both.text, both.own, in_one (commit_key both.id) key (ap (λ (sends : List Sent). is_in (keys_named sends) key) (sym both.is) ∙ there)))

    pub stood_needs : (old mid new : List Sent) → UploadsSo library wanted old mid (Ok tt) → GrowsOnce is_of_tree is_of_tree old mid → (result : Result Pushed SyncFault) → StandsSo library root parent user moment mid new result
        → NeedsSo library user moment parent index scan old new
    stood_needs old mid new up part result stands =
        let stood = stands_by library root parent user moment mid new result stands in
        let same = same_part old mid up.more up.grown part in (
          up.more ++ stood.later,
          stood.grown ∙ ap (λ (sends : List Sent). sends ++ stood.later) up.grown ∙ append_assoc old up.more stood.later,
          inr (record {
            root = root;
            made = wanted.made;
            tree = tree;
            each = λ key there.
                by stood.later stood.stands key
                (or_cases (is_in (keys_named up.more) key) (is_in (keys_named stood.later) key)
                (sym (in_append (keys_named up.more) (keys_named stood.later) key) ∙ ap (λ (keys : List Key). is_in keys key) (sym (named_append up.more stood.later)) ∙ there));
            once = commit_once up.more stood.later result (subst SendsOnce same part.once)
                (λ key there. part.put key (ap (λ (sends : List Sent). is_in (keys_put sends) key) same ∙ there)) stood.stands;
          }),
        )
      where
        by : (later : List Sent) → StandsBy library root parent user moment later result → (key : Key) → (is_in (keys_named up.more) key ≡ true) ⊎ (is_in (keys_named later) key ≡ true) → Offered key
        by later stands_at key (inl first) = wanted_offered key (sends_wanted library wanted up.more up.ends.0 key first)
        by later stands_at key (inr rest) = own_named later result stands_at key rest
