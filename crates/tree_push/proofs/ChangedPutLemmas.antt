-- Each block of what is new or changed was asked about, and what was lacking put. The key lemmas are changed_put and puts_later.
use Rattle.std.proofs.Common.{◌≡◌, ℕ, true, List, [], ◌∷◌, ◌++◌, Option, IsSome, sym, ap, ◌∙◌, subst, append_assoc}
use Rattle.std.proofs.lemmas.List.{append-nil}
use Rattle.std.specs.FinMap as fin
use Rattle.std.specs.List.{AllByRecursion}
use Rattle.ids.specs.declared.key.Key.{Key}
use Rattle.ids.specs.declared.key.Kind.TheVariants as kind
use Rattle.block_chunker.specs.declared.cuts.Cuts.{Cuts}
use Rattle.folder_side.specs.Folder.{Contents}
use Rattle.folder_side.specs.declared.scan_report.Scan.{Scan}
use Rattle.folder_side.specs.declared.scan_report.Seen.TheVariants as seen
use Rattle.local_index.specs.declared.index.Index.{Index}
use Rattle.object_graph.specs.Objects.{block_key}
use Rattle.object_graph.specs.Traversal.{is_in}
use Rattle.remote_calls.specs.Sends.{Ending, Sent}
use Rattle.sync_rules.specs.Named.{keys_lacked, keys_named, keys_put}
use Rattle.sync_rules.specs.Orders.{PutsLacked}
use Rattle.tree_push.specs.Asking.{IsSend}
use Rattle.tree_push.specs.Pushing.{PutsChanged}
use Rattle.tree_push.specs.Upload.{UploadsAll, OfWanted}
use Rattle.tree_push.specs.Wanted.{HasFiles, ids_in}
use Rattle.tree_push.specs.declared.asking.Library.{Library}
use Rattle.tree_push.specs.declared.wanted.Wanted.{Wanted}
use Rattle.tree_push.proofs.HeldOfferLemmas.{named_then}
use Rattle.tree_push.proofs.KeyEntryLemmas.{key_listed}
use Rattle.tree_push.proofs.NamedKeyLemmas.{asked_keys, in_keys, named_append}
use Rattle.tree_push.proofs.NotedLemmas.{lacked_append}
use Rattle.tree_push.proofs.PushLemmas.{all_put}
use Rattle.tree_push.proofs.PutsLemmas.{put_append}
use Rattle.tree_push.proofs.StoodLemmas.{put_of, update_of}
use Rattle.object_graph.proofs.KeyLemmas.{in_append}
use Rattle.std.proofs.lemmas.Bool.{or_right}

module _ (library : Library) (user : List ℕ) (moment : ℕ) (parent : List ℕ) (told : Option Contents) (cuts : Cuts) (index : Index) (scan : Scan) (wanted : Wanted)
    (files : HasFiles index.entries scan.paths wanted) (more : List Sent) (went : AllByRecursion (IsSend library (OfWanted wanted)) more) (all : UploadsAll library wanted more) (lacks : PutsLacked [] more)
    (id text : List ℕ) (ending last : Ending) where
  abbrev front : List Sent
  front = more ++ put_of library id text ending ∷ []

  abbrev whole : List Sent
  whole = more ++ put_of library id text ending ∷ update_of library id last ∷ []

  split : whole ≡ front ++ update_of library id last ∷ []
  split = sym (append_assoc more (put_of library id text ending ∷ []) (update_of library id last ∷ []))

  block_asked : (block : List ℕ) → IsSome (fin.get wanted.blocks (block_key block)) → is_in (keys_named whole) (block_key block) ≡ true
  block_asked block there =
      let asked : is_in (keys_named all.second) (block_key block) ≡ true
      = ap (λ (keys : List Key). is_in keys (block_key block)) (asked_keys library kind.Block (ids_in (fin.entries wanted.blocks)) all.second all.blocks)
      ∙ in_keys kind.Block (ids_in (fin.entries wanted.blocks)) block (key_listed wanted.blocks (block_key block) there) in
      let both : is_in (keys_named (all.first ++ all.second)) (block_key block) ≡ true
      = ap (λ (keys : List Key). is_in keys (block_key block)) (named_append all.first all.second) ∙ in_append (keys_named all.first) (keys_named all.second) (block_key block)
      ∙ or_right (is_in (keys_named all.first) (block_key block)) (is_in (keys_named all.second) (block_key block)) asked in
      named_then more (put_of library id text ending ∷ update_of library id last ∷ []) (block_key block)
      (subst (λ (sends : List Sent). is_in (keys_named sends) (block_key block) ≡ true) (sym all.is) (named_then (all.first ++ all.second) all.third (block_key block) both))

  -- an update tells nothing of what is lacking, and puts nothing
  lacked_same : keys_lacked whole ≡ keys_lacked front
  lacked_same = ap keys_lacked split ∙ lacked_append front (update_of library id last ∷ []) ∙ append-nil (keys_lacked front)

  put_same : keys_put whole ≡ keys_put front
  put_same = ap keys_put split ∙ put_append front (update_of library id last ∷ []) ∙ append-nil (keys_put front)

  pub changed_put : PutsChanged index scan whole
  changed_put = record {
    blocks = λ path names size is changed block there. block_asked block ((files path (seen.File names size) is changed).all block there);
    lacked = λ key there.
        ap (λ (keys : List Key). is_in keys key) put_same
        ∙ all_put library user moment parent told cuts index scan wanted more went all lacks id text ending key (ap (λ (keys : List Key). is_in keys key) (sym lacked_same) ∙ there);
  }

-- the same of other sends that name, are told and put the same
pub puts_later : (index : Index) (scan : Scan) (some other : List Sent) → keys_named other ≡ keys_named some → keys_lacked other ≡ keys_lacked some → keys_put other ≡ keys_put some
    → PutsChanged index scan some → PutsChanged index scan other
puts_later index scan some other named lacked put is = record {
  blocks = λ path names size at changed id there. ap (λ (keys : List Key). is_in keys (block_key id)) named ∙ is.blocks path names size at changed id there;
  lacked = λ key there. ap (λ (keys : List Key). is_in keys key) put ∙ is.lacked key (ap (λ (keys : List Key). is_in keys key) (sym lacked) ∙ there);
}
