-- What a push asks about and sends is of the commit that is made. The key lemmas are push_sends and needs_of.
use Rattle.std.proofs.Common.{◌≡◌, ◌⊎◌, inl, inr, ℕ, All, List, [], ◌∷◌, ◌++◌, refl, sym, ap, subst, ◌∙◌, append_assoc, append-nil}
use Rattle.std.proofs.lemmas.List.{append_cancel_left}
use Rattle.std.proofs.lemmas.List.Elements.{All-append, All-cons, All-head, All-nil, All-tail}
use Rattle.ids.specs.declared.key.Key.{Key}
use Rattle.block_chunker.specs.declared.cuts.Cuts.{Cuts}
use Rattle.folder_side.specs.Folder.{Contents}
use Rattle.folder_side.specs.ScanReport.{IsScan}
use Rattle.folder_side.specs.declared.scan_report.Scan.{Scan}
use Rattle.local_index.specs.declared.index.Index.{Index}
use Rattle.object_graph.specs.Traversal.{is_in}
use Rattle.remote_calls.specs.Sends.{Sent}
use Rattle.sync_rules.specs.Named.{keys_named, last_round}
use Rattle.tree_fetch.specs.declared.asker.Asker.{Asker}
use Rattle.tree_push.specs.Pushing.{NamesOffered, NeedsSo}
use Rattle.tree_push.specs.SentOnce.{SendsOnce}
use Rattle.tree_push.specs.declared.asking.Library.{Library}
use Rattle.tree_push.proofs.HeldOfferLemmas.{named_then}
use Rattle.tree_push.proofs.NamedKeyLemmas.{named_append}
use Rattle.tree_push.proofs.SentOnceLemmas.{once_behind, once_in_front}
use Rattle.sync_daemon.specs.Rounds.{IsFresh}
use Rattle.sync_daemon.specs.SentKeys.{SendsOffered}
use Rattle.sync_daemon.proofs.JoinLemmas.{round_then}
use Rattle.sync_daemon.proofs.PushLemmas.{IsUploading, round_same}
use Rattle.sync_daemon.proofs.SentKeyLemmas.{sends_then}

module _ (asker : Asker) (user : List ℕ) (shows : ℕ → Type 0) (cuts : Cuts) (c : Contents) (i : Index) where
  -- a push, behind what was sent in its round before
  module _ (first : List Sent) (fresh : IsFresh first) (moment : ℕ) (shown : shows moment) (parent : List ℕ) (scan : Scan) (scanned : IsScan cuts c scan) where
    abbrev library : Library
    library = record { lib = asker.lib; secret = asker.secret }

    -- what is named in a front of some sends is named in them, and nothing is asked about or sent more often
    front_offered : (more front rest round : List Sent) → more ≡ front ++ rest → keys_named round ≡ keys_named front → SendsOnce round → NamesOffered library user moment parent i scan more
        → NamesOffered library user moment parent i scan round
    front_offered more front rest round split same once is = record {
      root = is.root;
      made = is.made;
      tree = is.tree;
      each = λ key there.
          is.each key
          (ap (λ (sends : List Sent). is_in (keys_named sends) key) split ∙ named_then front rest key (ap (λ (keys : List Key). is_in keys key) (sym same) ∙ there));
      once = once;
    }

    -- the round up to there is what was sent in it before, which names nothing, and the front
    round_is : (front : List Sent) → All IsUploading front → last_round (first ++ front) [] ≡ last_round first [] ++ front
    round_is front ups = round_then [] first front ∙ round_same (last_round first []) front ups

    round_once : (more front rest : List Sent) → more ≡ front ++ rest → All IsUploading front → SendsOnce more → SendsOnce (last_round (first ++ front) [])
    round_once more front rest split ups once =
        subst SendsOnce (sym (round_is front ups)) (once_behind (last_round first []) front fresh.named (once_in_front front rest (subst SendsOnce split once)))

    round_named : (front : List Sent) → All IsUploading front → keys_named (last_round (first ++ front) []) ≡ keys_named front
    round_named front ups =
        ap keys_named (round_is front ups) ∙ named_append (last_round first []) front
        ∙ ap (λ (keys : List Key). keys ++ keys_named front) fresh.named

    sends_from : (more done rest : List Sent) → NamesOffered library user moment parent i scan more → more ≡ done ++ rest → All IsUploading done → All IsUploading rest
        → SendsOffered asker user shows cuts c i (first ++ done) rest
    sends_from more done [] is split ups later = tt
    sends_from more done (sent ∷ rest) is split ups later =
        let here : All IsUploading (done ++ sent ∷ []) =
        All-append IsUploading done (sent ∷ []) ups (All-cons IsUploading sent [] (All-head IsUploading sent rest later) (All-nil IsUploading)) in
        let whole : more ≡ (done ++ sent ∷ []) ++ rest = split ∙ sym (append_assoc done (sent ∷ []) rest) in
        let at : (first ++ done) ++ sent ∷ [] ≡ first ++ (done ++ sent ∷ []) = append_assoc first done (sent ∷ []) in (
          (λ up. record {
            moment = moment;
            shown = shown;
            parent = parent;
            scan = scan;
            scanned = scanned;
            offered = front_offered more (done ++ sent ∷ []) rest (last_round ((first ++ done) ++ sent ∷ []) []) whole
                (ap (λ (sends : List Sent). keys_named (last_round sends [])) at ∙ round_named (done ++ sent ∷ []) here)
                (subst (λ (sends : List Sent). SendsOnce (last_round sends [])) (sym at) (round_once more (done ++ sent ∷ []) rest whole here is.once)) is;
          }),
          subst (λ (before : List Sent). SendsOffered asker user shows cuts c i before rest) (sym at) (sends_from more (done ++ sent ∷ []) rest is whole here (All-tail IsUploading sent rest later)),
        )

    pub push_sends : (more : List Sent) → All IsUploading more → (more ≡ []) ⊎ NamesOffered library user moment parent i scan more → SendsOffered asker user shows cuts c i [] first → SendsOffered asker user shows cuts c i [] (first ++ more)
    push_sends more ups (inl none) is = subst (SendsOffered asker user shows cuts c i []) (sym (ap (λ (sends : List Sent). first ++ sends) none ∙ append-nil first)) is
    push_sends more ups (inr all) is =
        sends_then asker user shows cuts c i [] first more is (subst (λ (before : List Sent). SendsOffered asker user shows cuts c i before more) (append-nil first) (sends_from more [] more all refl (All-nil IsUploading) ups))

-- the same sends, as they are told
pub needs_of : (library : Library) (user : List ℕ) (moment : ℕ) (parent : List ℕ) (i : Index) (scan : Scan) (old new more : List Sent) → NeedsSo library user moment parent i scan old new
    → new ≡ old ++ more → (more ≡ []) ⊎ NamesOffered library user moment parent i scan more
needs_of library user moment parent i scan old new more (other, grown, needs) is =
    subst (λ (sends : List Sent). (sends ≡ []) ⊎ NamesOffered library user moment parent i scan sends) (append_cancel_left old other more (sym grown ∙ is)) needs
