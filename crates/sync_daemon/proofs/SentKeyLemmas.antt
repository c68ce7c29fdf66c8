-- What is asked about and sent is of the commit that is made. The key lemmas are sends_then, sends_none and sends_one.
use Rattle.std.proofs.Common.{◌≡◌, ℕ, true, false, All, List, [], ◌∷◌, ◌++◌, sym, subst, ◌∙◌, append_assoc, append-nil, true≢false}
use Rattle.std.proofs.lemmas.List.Elements.{All-head, All-tail}
use Rattle.block_chunker.specs.declared.cuts.Cuts.{Cuts}
use Rattle.folder_side.specs.Folder.{Contents}
use Rattle.local_index.specs.declared.index.Index.{Index}
use Rattle.remote_calls.specs.Sends.{Sent}
use Rattle.sync_rules.specs.Named.{is_upload}
use Rattle.tree_fetch.specs.declared.asker.Asker.{Asker}
use Rattle.sync_daemon.specs.SentKeys.{SendsOffered}

module _ (asker : Asker) (user : List ℕ) (shows : ℕ → Type 0) (cuts : Cuts) (c : Contents) (i : Index) where
  abbrev Sends : List Sent → List Sent → Type 0
  Sends = SendsOffered asker user shows cuts c i

  pub sends_then : (before first later : List Sent) → Sends before first → Sends (before ++ first) later → Sends before (first ++ later)
  sends_then before [] later is more = subst (λ (b : List Sent). Sends b later) (append-nil before) more
  sends_then before (sent ∷ first) later is more =
      (is.0, sends_then (before ++ sent ∷ []) first later is.1 (subst (λ (b : List Sent). Sends b later) (sym (append_assoc before (sent ∷ []) first)) more))

  -- what sends nothing
  pub sends_none : (before more : List Sent) → All (λ (sent : Sent). is_upload sent.0.what ≡ false) more → Sends before more
  sends_none before [] none = tt
  sends_none before (sent ∷ more) none = (
    (λ up. absurd (true≢false (sym up ∙ All-head (λ (other : Sent). is_upload other.0.what ≡ false) sent more none))),
    sends_none (before ++ sent ∷ []) more (All-tail (λ (other : Sent). is_upload other.0.what ≡ false) sent more none),
  )

  pub sends_one : (first : List Sent) (sent : Sent) → Sends [] first → is_upload sent.0.what ≡ false → Sends [] (first ++ sent ∷ [])
  sends_one first sent is none = sends_then [] first (sent ∷ []) is ((λ up. absurd (true≢false (sym up ∙ none))), tt)
