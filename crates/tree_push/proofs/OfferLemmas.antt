-- A commit at which a library is asked to stand is what the folder offers, over what was named before. The key lemmas are same_holding,
-- commit_read, offer_over and offers_once.
use Rattle.std.proofs.Common.{◌≡◌, ℕ, Bool, if◌then◌else◌, List, [], ◌∷◌, ◌++◌, length, Option, None, Some, option_map, Ok, Err, refl, sym, ap, ◌∙◌, subst, append_assoc}
use Rattle.std.specs.Prelude.{is_ok, option_and_then}
use Rattle.std.specs.Cmp.Lexicographic.{bytes_decides}
use Rattle.std.specs.FinMap as fin
use Rattle.std.specs.List.{AllByRecursion, cons_option, flat_map}
use Rattle.ids.specs.Key.{Objects}
use Rattle.ids.specs.declared.key.Key.{Key}
use Rattle.tree_model.specs.Path.{PathV}
use Rattle.tree_model.specs.Tree.{Tree}
use Rattle.block_chunker.specs.declared.cuts.Cuts.{Cuts}
use Rattle.commit_objects.specs.declared.commit.Commit.{Commit}
use Rattle.object_graph.specs.Objects.{commit_in, commit_key, entry_below, of_name, same_id}
use Rattle.object_graph.specs.Unchanged.{Keeps}
use Rattle.object_graph.specs.declared.fault.TreeFault.TheVariants.{Unreadable}
use Rattle.folder_side.specs.Folder.{Contents, IsFolder, at}
use Rattle.folder_side.specs.ScanReport.{IsScan, seen_of}
use Rattle.folder_side.specs.WorkingTree.{held_of}
use Rattle.folder_side.specs.declared.holding.Holding.{Holding}
use Rattle.folder_side.specs.declared.holding.Holding.TheVariants.{Dir, File, Other}
use Rattle.folder_side.specs.declared.scan_report.Scan.{Scan}
use Rattle.local_index.specs.declared.index.Index.{Index}
use Rattle.local_index.specs.declared.index.Known.{Known}
use Rattle.local_index.specs.declared.index.Known.TheVariants as known
use Rattle.http_front.specs.declared.order.What.TheVariants as what
use Rattle.remote_calls.specs.Sends.{Ending, Sent}
use Rattle.sync_rules.specs.Named.{IsHad, IsHadFor, Named, names_in}
use Rattle.sync_rules.specs.Offer.{IsOffer, entry_of_file, entry_of_holding, own_of}
use Rattle.sync_rules.specs.Premises.{Over}
use Rattle.sync_rules.specs.Uploads.{IsUploadOf}
use Rattle.sync_rules.proofs.OverLemmas.{over_first, over_later}
use Rattle.tree_push.specs.OfferedEntries.{IsSeenFolder, file_entry, offered_entry}
use Rattle.tree_push.specs.OfferedNames.{HasOffered}
use Rattle.tree_push.specs.OfferedTree.{IsMadeOf}
use Rattle.tree_push.specs.Pushing.{OffersOnce}
use Rattle.tree_push.specs.Standing.{IsOwnCommit, offered_commit}
use Rattle.tree_push.specs.Upload.{UploadsAll}
use Rattle.tree_push.specs.Wanted.{AreChangedBlocks, AreOwnNamed, AreSeenBlocks, HasFiles, HasNamed}
use Rattle.tree_push.specs.declared.asking.Library.{Library}
use Rattle.tree_push.specs.declared.wanted.Wanted.{Wanted}
use Rattle.tree_push.proofs.AskedHadLemmas.{asked_had, names_append}
use Rattle.tree_push.proofs.OfferedContentLemmas.{offered_root, seen_folder}
use Rattle.tree_push.proofs.PushLemmas.{NoUpdate, last_update}
use Rattle.tree_push.proofs.ReachLemmas.{upload_of}
use Rattle.tree_push.proofs.StoodLemmas.{put_of, update_of}

-- ---- the entries in the words of an offer

same_entry : (cuts : Cuts) (moment : ℕ) (user : List ℕ) (was : Option Known) (bytes : List ℕ)
    → file_entry moment user was (own_of cuts bytes) (length bytes) ≡ entry_of_file cuts moment user was bytes
same_entry cuts moment user None bytes = refl
same_entry cuts moment user (Some known.Dir) bytes = refl
same_entry cuts moment user (Some (known.File id own size mode mtime modifier)) bytes = refl

pub same_holding : (cuts : Cuts) (moment : ℕ) (user : List ℕ) (was : Option Known) (o : Option Holding)
    → option_map (offered_entry moment user was) (option_and_then (seen_of cuts) o) ≡ option_and_then (entry_of_holding cuts moment user was) o
same_holding cuts moment user was None = refl
same_holding cuts moment user was (Some Dir) = refl
same_holding cuts moment user was (Some Other) = refl
same_holding cuts moment user was (Some (File bytes)) = ap Some (same_entry cuts moment user was bytes)

seen_held : (cuts : Cuts) (o : Option Holding) → option_and_then (seen_of cuts) o ≡ None → option_and_then held_of o ≡ None
seen_held cuts None none = refl
seen_held cuts (Some Dir) none = absurd (cc)
seen_held cuts (Some Other) none = refl
seen_held cuts (Some (File bytes)) none = absurd (cc)

held_seen : (cuts : Cuts) (o : Option Holding) → option_and_then held_of o ≡ None → option_and_then (seen_of cuts) o ≡ None
held_seen cuts None none = refl
held_seen cuts (Some Dir) none = absurd (cc)
held_seen cuts (Some Other) none = refl
held_seen cuts (Some (File bytes)) none = absurd (cc)

-- ---- what was had

had_append : (names others : List Named) (had more : List (Key × List ℕ)) → IsHadFor names had → IsHadFor others more → IsHadFor (names ++ others) (had ++ more)
had_append [] others [] more is also = also
had_append [] others (h ∷ had) more is also = absurd is
had_append (n ∷ names) others [] more is also = absurd is
had_append (n ∷ names) others (h ∷ had) more is also = (is.0, had_append names others had more is.1 also)

module _ (library : Library) (root parent user : List ℕ) (moment : ℕ) (id text : List ℕ) (own : IsOwnCommit library root parent user moment id text) where
  abbrev commit : Commit
  commit = offered_commit library root parent user moment

  pub commit_read : commit_in id (Some text) ≡ Ok commit
  commit_read =
      ap (of_name id) own.reads
      ∙ ap (λ (b : Bool). if b then Ok commit else Err (Unreadable (commit_key id))) (ap (same_id commit.id) own.named ∙ (bytes_decides commit.id commit.id).1 refl)

  put_names : (ending : Ending) → names_in (put_of library id text ending) ≡ (commit_key id, Some text) ∷ []
  put_names ending =
      ap (λ (b : Bool). cons_option (if b then Some (commit_key id, Some text) else None) []) (ap is_ok commit_read)

  put_had : (ending : Ending) → IsHadFor (flat_map names_in (put_of library id text ending ∷ [])) ((commit_key id, text) ∷ [])
  put_had ending = subst (λ (names : List Named). IsHadFor (names ++ []) ((commit_key id, text) ∷ [])) (sym (put_names ending)) (refl, tt)

  module _ (cuts : Cuts) (c : Contents) (index : Index) (scan : Scan) (folder : IsFolder c) (is : IsScan cuts c scan) (wanted : Wanted) (files : HasFiles index.entries scan.paths wanted)
      (changed : AreChangedBlocks index.entries scan.paths wanted) (named : AreOwnNamed wanted.made)
      (gives : IsSeenFolder index.entries scan.paths → (objects : Objects) → Keeps wanted.made objects → (path : PathV)
      → entry_below objects path root ≡ option_map (offered_entry moment user (fin.get index.entries path)) (fin.get scan.paths path))
      (tree : IsSeenFolder index.entries scan.paths → IsMadeOf moment user index.entries scan.paths root wanted.made) (lib : library.lib ≡ index.lib) (more : List Sent)
      (all : UploadsAll library wanted more) where
    seen : AreSeenBlocks scan.paths wanted
    seen key there = (changed key there).block

    has : HasNamed cuts c index wanted more
    has =
        subst (λ (sends : List Sent). HasNamed cuts c index wanted sends) (sym all.is)
        (asked_had cuts c index scan is wanted files seen named library all.first all.second all.third all.objects all.blocks all.puts)

    abbrev had : List (Key × List ℕ)
    had = has.had ++ (commit_key id, text) ∷ []

    front_had : (ending : Ending) → IsHad (more ++ put_of library id text ending ∷ []) had
    front_had ending =
        subst (λ (names : List Named). IsHadFor names had) (sym (names_append more (put_of library id text ending ∷ [])))
        (had_append (flat_map names_in more) (flat_map names_in (put_of library id text ending ∷ [])) has.had ((commit_key id, text) ∷ []) has.is_had (put_had ending))

    module _ (objects : Objects) (base : Tree) (over : Over objects cuts c index base had) where
      first : Over objects cuts c index base has.had
      first = over_first objects cuts c index base has.had ((commit_key id, text) ∷ []) over

      stored : commit_in id (fin.get objects (commit_key id)) ≡ Ok commit
      stored = ap (commit_in id) (over_later objects cuts c index base has.had ((commit_key id, text) ∷ []) over).has_all.0 ∙ commit_read

      can : IsSeenFolder index.entries scan.paths
      can = seen_folder objects cuts c index base has.had first scan folder is

      keeps : Keeps wanted.made objects
      keeps = has.keeps objects base first

      offered : HasOffered objects cuts c index moment user root
      offered path = gives can objects keeps path ∙ ap (option_map (offered_entry moment user (fin.get index.entries path))) (is.paths path)

      is_offer : IsOffer objects cuts c index moment user (Some parent) id
      is_offer = record {
        commit = commit;
        stored = stored;
        lib = lib;
        parent_is = refl;
        no_second = refl;
        by = refl;
        words = refl;
        made_at = refl;
        conflict = refl;
        tree = λ path some. offered_root objects cuts c index base has.had first moment user (has.changed objects base first) root offered path;
        empty = (
          (λ none path. seen_held cuts (at c path) (sym (is.paths path) ∙ (tree can).zeros.0 none path)),
          (λ none. (tree can).zeros.1 (λ path. is.paths path ∙ held_seen cuts (at c path) (none path))),
        );
        entries = λ path some. offered path ∙ same_holding cuts moment user (fin.get index.entries path) (at c path);
      }

    pub offer_over : (ending : Ending) → (others : List (Key × List ℕ)) × IsHad (more ++ put_of library id text ending ∷ []) others × ((objects : Objects) (base : Tree)
        → Over objects cuts c index base others → IsOffer objects cuts c index moment user (Some parent) id × IsUploadOf objects index (more ++ put_of library id text ending ∷ []) id)
    offer_over ending = (
      had,
      front_had ending,
      (λ objects base over. (
        is_offer objects base over,
        upload_of library root parent user moment id text own cuts c index scan is wanted files changed named more all objects base has (first objects base over) (stored objects base over)
            (can objects base over) (tree (can objects base over)) (gives (can objects base over) objects (keeps objects base over)) (keeps objects base over) ending,
      )),
    )

    pub offers_once : (ending last : Ending) → AllByRecursion NoUpdate (more ++ put_of library id text ending ∷ []) → (later : List Sent) → later ≡ put_of library id text ending ∷ update_of library id last ∷ []
        → OffersOnce cuts c index user moment parent (more ++ later)
    offers_once ending last none later at = λ before sent after other split update.
        let front = more ++ put_of library id text ending ∷ [] in
        let joined : front ++ update_of library id last ∷ [] ≡ before ++ sent ∷ after
        = append_assoc more (put_of library id text ending ∷ []) (update_of library id last ∷ []) ∙ ap (λ (l : List Sent). more ++ l) (sym at) ∙ split in
        let there = last_update front (update_of library id last) none before sent after other joined update in
        let same : what.Update id ≡ what.Update other = sym (ap (λ (s : Sent). s.0.what) there.same) ∙ update in
        let one : id ≡ other = cc in
        subst (λ (sends : List Sent). (others : List (Key × List ℕ)) × IsHad sends others × ((objects : Objects) (base : Tree)
        → Over objects cuts c index base others → IsOffer objects cuts c index moment user (Some parent) other × IsUploadOf objects index sends other)) (sym there.before)
        (subst (λ (i : List ℕ). (others : List (Key × List ℕ)) × IsHad front others × ((objects : Objects) (base : Tree)
        → Over objects cuts c index base others → IsOffer objects cuts c index moment user (Some parent) i × IsUploadOf objects index front i)) one (offer_over ending))
