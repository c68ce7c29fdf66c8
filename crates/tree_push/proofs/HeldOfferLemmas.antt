-- Of which texts the commit is at which a library stands, over every folder. The key lemmas are holds_offer and held_then.
use Rattle.std.proofs.Common.{◌≡◌, ℕ, Bool, true, false, cond, List, [], ◌∷◌, ◌++◌, map, Some, is_some, option_map, refl, sym, ap, ◌∙◌, subst}
use Rattle.std.specs.Prelude.{is_ok}
use Rattle.std.proofs.lemmas.Bool.{or_right}
use Rattle.std.specs.FinMap as fin
use Rattle.std.proofs.lemmas.Slice.Eq.{bytes_eq-Decides}
use Rattle.sha1.specs.Sha1.{sha1}
use Rattle.ids.specs.Key.{Objects}
use Rattle.ids.specs.declared.key.Key.{Key}
use Rattle.ids.specs.declared.key.Kind.TheVariants as kind
use Rattle.ids.proofs.KeyOrderLemmas.{key_cmp_total}
use Rattle.tree_model.specs.Path.{PathV}
use Rattle.folder_side.specs.declared.scan_report.Scan.{Scan}
use Rattle.local_index.specs.declared.index.Index.{Index}
use Rattle.object_graph.specs.Objects.{commit_key, entry_below, fs_key}
use Rattle.object_graph.specs.Traversal.{is_in}
use Rattle.object_graph.specs.Unchanged.{Keeps}
use Rattle.object_graph.proofs.KeyLemmas.{in_append, in_last, same_key, same_key-itself, same_key-true, within_front}
use Rattle.remote_calls.specs.Sends.{Ending, Sent}
use Rattle.sync_rules.specs.Named.{AreTextsOf, has_name, keys_named}
use Rattle.tree_push.specs.Asking.{key_of}
use Rattle.tree_push.specs.OfferedEntries.{IsSeenFolder, offered_entry}
use Rattle.tree_push.specs.Pushing.{HoldsOffer}
use Rattle.tree_push.specs.Standing.{IsOwnCommit}
use Rattle.tree_push.specs.Upload.{UploadsAll}
use Rattle.tree_push.specs.Wanted.{AreOwnNamed, ids_in}
use Rattle.tree_push.specs.declared.asking.Library.{Library}
use Rattle.tree_push.specs.declared.wanted.Wanted.{Wanted}
use Rattle.tree_push.proofs.KeyEntryLemmas.{key_listed}
use Rattle.tree_push.proofs.NamedKeyLemmas.{asked_keys, in_keys, named_append}
use Rattle.tree_push.proofs.OfferLemmas.{commit_read}
use Rattle.tree_push.proofs.StoodLemmas.{put_of, update_of}

pub named_then : (first later : List Sent) (key : Key) → is_in (keys_named first) key ≡ true → is_in (keys_named (first ++ later)) key ≡ true
named_then first later key there =
    ap (λ (keys : List Key). is_in keys key) (named_append first later) ∙ (within_front (keys_named first) (keys_named later)).there key there

module _ (library : Library) (root parent user : List ℕ) (moment : ℕ) (id text : List ℕ) (own : IsOwnCommit library root parent user moment id text) (index : Index) (scan : Scan)
    (wanted : Wanted) (named : AreOwnNamed wanted.made)
    (gives : IsSeenFolder index.entries scan.paths → (objects : Objects) → Keeps wanted.made objects → (path : PathV)
    → entry_below objects path root ≡ option_map (offered_entry moment user (fin.get index.entries path)) (fin.get scan.paths path)) (more : List Sent)
    (all : UploadsAll library wanted more) (ending last : Ending) where
  abbrev whole : List Sent
  whole = more ++ put_of library id text ending ∷ update_of library id last ∷ []

  -- the texts that were made, and the commit's
  abbrev texts : Objects
  texts = fin.insert wanted.made (commit_key id) text

  -- a text that was made is named as an object of a file or directory
  made_key : (key : Key) (bytes : List ℕ) → fin.get wanted.made key ≡ Some bytes → key_of kind.Fs key.id ≡ key
  made_key key bytes there = let mine = named key bytes there in ap (λ (k : Key). fs_key k.id) mine ∙ sym mine

  made_asked : (key : Key) (bytes : List ℕ) → fin.get wanted.made key ≡ Some bytes → is_in (keys_named whole) key ≡ true
  made_asked key bytes there =
      let asked : is_in (keys_named all.first) key ≡ true
      = ap (λ (keys : List Key). is_in keys key) (asked_keys library kind.Fs (ids_in (fin.entries wanted.made)) all.first all.objects)
      ∙ subst (λ (k : Key). is_in (map (key_of kind.Fs) (ids_in (fin.entries wanted.made))) k ≡ true) (made_key key bytes there)
      (in_keys kind.Fs (ids_in (fin.entries wanted.made)) key.id (key_listed wanted.made key (ap is_some there))) in
      named_then more (put_of library id text ending ∷ update_of library id last ∷ []) key
      (subst (λ (sends : List Sent). is_in (keys_named sends) key ≡ true) (sym all.is)
      (named_then (all.first ++ all.second) all.third key (named_then all.first all.second key asked)))

  commit_asked : is_in (keys_named whole) (commit_key id) ≡ true
  commit_asked =
      ap (λ (keys : List Key). is_in keys (commit_key id)) (named_append more (put_of library id text ending ∷ update_of library id last ∷ []))
      ∙ in_last (keys_named more) (commit_key id)

  text_at : (P : Key → List ℕ → Type 0) → P (commit_key id) text → ((key : Key) (bytes : List ℕ) → fin.get wanted.made key ≡ Some bytes → P key bytes)
      → (key : Key) (bytes : List ℕ) → fin.get texts key ≡ Some bytes → P key bytes
  text_at P of_commit of_made key bytes there = by (same_key key (commit_key id)) refl (sym (fin.get-insert key_cmp_total wanted.made (commit_key id) text key) ∙ there)
    where
      by : (b : Bool) → same_key key (commit_key id) ≡ b → cond b (Some text) (fin.get wanted.made key) ≡ Some bytes → P key bytes
      by true same is =
          let one : text ≡ bytes = cc in
          subst (λ (k : Key). P k bytes) (sym (same_key-true key (commit_key id) same)) (subst (λ (t : List ℕ). P (commit_key id) t) one of_commit)
      by false apart is = of_made key bytes is

  are_texts : AreTextsOf whole texts
  are_texts = record {
    named = text_at (λ key bytes. is_in (keys_named whole) key ≡ true) commit_asked made_asked;
    own = text_at (λ key bytes. has_name key bytes ≡ true) (ap is_ok (commit_read library root parent user moment id text own))
        (λ key bytes there. subst (λ (k : Key). has_name k bytes ≡ true) (sym (named key bytes there)) ((bytes_eq-Decides (sha1 bytes) (sha1 bytes)).1 refl));
  }

  -- no text that was made lies under the commit's key
  apart : (x : List ℕ) → same_key (fs_key x) (commit_key id) ≡ false
  apart x = refl

  keeps_made : (objects : Objects) → Keeps texts objects → Keeps wanted.made objects
  keeps_made objects keeps = record {
    kept = λ key bytes there.
        keeps.kept key bytes
        (fin.get-insert key_cmp_total wanted.made (commit_key id) text key
        ∙ ap (λ (b : Bool). cond b (Some text) (fin.get wanted.made key)) (ap (λ (k : Key). same_key k (commit_key id)) (named key bytes there) ∙ apart (sha1 bytes)) ∙ there);
  }

  pub holds_offer : HoldsOffer library user moment parent index scan whole id
  holds_offer = record {
    root = root;
    text = text;
    own = own;
    texts = texts;
    are = are_texts;
    commit = fin.get-insert key_cmp_total wanted.made (commit_key id) text (commit_key id)
        ∙ ap (λ (b : Bool). cond b (Some text) (fin.get wanted.made (commit_key id))) (same_key-itself (commit_key id));
    holds = λ seen objects keeps path. gives seen objects (keeps_made objects keeps) path;
  }

-- the same of what was sent before too
pub held_then : (library : Library) (user : List ℕ) (moment : ℕ) (parent : List ℕ) (index : Index) (scan : Scan) (first more : List Sent) (id : List ℕ)
    → HoldsOffer library user moment parent index scan more id → HoldsOffer library user moment parent index scan (first ++ more) id
held_then library user moment parent index scan first more id held = record {
  root = held.root;
  text = held.text;
  own = held.own;
  texts = held.texts;
  are = record {
    named = λ key bytes there.
        ap (λ (keys : List Key). is_in keys key) (named_append first more) ∙ in_append (keys_named first) (keys_named more) key
        ∙ or_right (is_in (keys_named first) key) (is_in (keys_named more) key) (held.are.named key bytes there);
    own = held.are.own;
  };
  commit = held.commit;
  holds = held.holds;
}
