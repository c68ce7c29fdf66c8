-- What was asked and put of a folder has its files. The key lemmas are names_append and asked_had.
use Rattle.std.proofs.Common.{◌≡◌, inl, inr, ℕ, List, [], ◌∷◌, ◌++◌, map, Option, None, Some, IsSome, is_some, refl, sym, ap, ◌∙◌, subst, append_assoc}
use Rattle.std.specs.Prelude.{unwrap_or}
use Rattle.std.specs.FinMap as fin
use Rattle.std.specs.List.{AllByRecursion, flat_map}
use Rattle.sha1.specs.Sha1.{sha1}
use Rattle.ids.specs.declared.key.Key.{Key}
use Rattle.ids.specs.declared.key.Kind.{Kind}
use Rattle.ids.specs.declared.key.Kind.TheVariants as kind
use Rattle.tree_model.proofs.MovingLemmas.{In}
use Rattle.block_chunker.specs.declared.cuts.Cuts.{Cuts}
use Rattle.object_graph.specs.Objects.{block_key, fs_key}
use Rattle.folder_side.specs.Folder.{Contents}
use Rattle.folder_side.specs.ScanReport.{IsScan}
use Rattle.folder_side.specs.declared.scan_report.Scan.{Scan}
use Rattle.local_index.specs.declared.index.Index.{Index}
use Rattle.remote_calls.specs.Sends.{Sent}
use Rattle.sync_rules.specs.Named.{Named, names_in}
use Rattle.tree_push.specs.Asking.{ArePuts, AsksIds, key_of}
use Rattle.tree_push.specs.Wanted.{AreOwnNamed, AreSeenBlocks, HasFiles, HasNamed, IsIn, ids_in}
use Rattle.tree_push.specs.declared.asking.Library.{Library}
use Rattle.tree_push.specs.declared.wanted.Wanted.{Wanted}
use Rattle.tree_push.proofs.HadLemmas.{IsKnownName, asked_names, had_of, ids_known, in_first, in_later, is_had, named_alone, put_names}
use Rattle.tree_push.proofs.KeyEntryLemmas.{IsKeyOf, key_listed, listed_key}
use Rattle.tree_push.proofs.KnownBytesLemmas.{bytes_of, known_block}
use Rattle.tree_push.proofs.OfferedHadLemmas.{had_changed, keeps_made}
use Rattle.tree_push.proofs.TraceLemmas.{all_append}

pub names_append : (first later : List Sent) → flat_map names_in (first ++ later) ≡ flat_map names_in first ++ flat_map names_in later
names_append [] later = refl
names_append (sent ∷ first) later =
    ap (λ (names : List Named). names_in sent ++ names) (names_append first later) ∙ sym (append_assoc (names_in sent) (flat_map names_in first) (flat_map names_in later))

alone_in : (kind : Kind) (ids : List (List ℕ)) (id : List ℕ) → IsIn id ids → In (named_alone kind id) (map (named_alone kind) ids)
alone_in kind [] id there = absurd there
alone_in kind (other ∷ ids) id (inl is) = inl (ap (named_alone kind) is)
alone_in kind (other ∷ ids) id (inr there) = inr (alone_in kind ids id there)

all_ids : (P : List ℕ → Type 0) (ids : List (List ℕ)) → ((id : List ℕ) → IsIn id ids → P id) → AllByRecursion P ids
all_ids P [] are = tt
all_ids P (id ∷ ids) are = (are id (inl refl), all_ids P ids (λ other there. are other (inr there)))

module _ (cuts : Cuts) (c : Contents) (index : Index) (scan : Scan) (is : IsScan cuts c scan) (wanted : Wanted) (files : HasFiles index.entries scan.paths wanted)
    (seen : AreSeenBlocks scan.paths wanted) (named : AreOwnNamed wanted.made) (library : Library) (first second third : List Sent)
    (made_asked : AsksIds library kind.Fs (ids_in (fin.entries wanted.made)) first) (blocks_asked : AsksIds library kind.Block (ids_in (fin.entries wanted.blocks)) second)
    (put : ArePuts third) where
  made_names : flat_map names_in first ≡ map (named_alone kind.Fs) (ids_in (fin.entries wanted.made))
  made_names = asked_names library kind.Fs (ids_in (fin.entries wanted.made)) first made_asked

  block_names_are : flat_map names_in second ≡ map (named_alone kind.Block) (ids_in (fin.entries wanted.blocks))
  block_names_are = asked_names library kind.Block (ids_in (fin.entries wanted.blocks)) second blocks_asked

  object_known : (id : List ℕ) → IsIn id (ids_in (fin.entries wanted.made)) → sha1 (bytes_of cuts c wanted.made (key_of kind.Fs id)) ≡ id
  object_known id there = by (listed_key wanted.made id there)
    where
      at : (key : Key) (o : Option (List ℕ)) → fin.get wanted.made key ≡ o → IsSome o → key.id ≡ id → sha1 (unwrap_or (fin.get wanted.made (fs_key id)) []) ≡ id
      at key None none some same = absurd (cc)
      at key (Some t) there some same =
          let own = named key t there in
          let its : sha1 t ≡ id = sym (ap (λ (k : Key). k.id) own) ∙ same in
          let moved : fs_key id ≡ key = ap fs_key (sym its) ∙ sym own in
          ap (λ (k : Key). sha1 (unwrap_or (fin.get wanted.made k) [])) moved ∙ ap (λ (o : Option (List ℕ)). sha1 (unwrap_or o [])) there ∙ its

      by : IsKeyOf wanted.made id → sha1 (unwrap_or (fin.get wanted.made (fs_key id)) []) ≡ id
      by one = at one.key (fin.get wanted.made one.key) refl one.there one.is

  block_known : (id : List ℕ) → IsIn id (ids_in (fin.entries wanted.blocks)) → sha1 (bytes_of cuts c wanted.made (key_of kind.Block id)) ≡ id
  block_known id there =
      let one = listed_key wanted.blocks id there in
      let known = known_block cuts c wanted.made scan is one.key (seen one.key one.there) in
      subst (λ (i : List ℕ). sha1 (bytes_of cuts c wanted.made (block_key i)) ≡ i) one.is known.named

  all_known : AllByRecursion (IsKnownName (bytes_of cuts c wanted.made)) (flat_map names_in ((first ++ second) ++ third))
  all_known =
      subst (λ (names : List Named). AllByRecursion (IsKnownName (bytes_of cuts c wanted.made)) names) (sym (names_append (first ++ second) third))
      (all_append (IsKnownName (bytes_of cuts c wanted.made)) (flat_map names_in (first ++ second)) (flat_map names_in third)
      (subst (λ (names : List Named). AllByRecursion (IsKnownName (bytes_of cuts c wanted.made)) names) (sym (names_append first second))
      (all_append (IsKnownName (bytes_of cuts c wanted.made)) (flat_map names_in first) (flat_map names_in second)
      (subst (λ (names : List Named). AllByRecursion (IsKnownName (bytes_of cuts c wanted.made)) names) (sym made_names)
      (ids_known (bytes_of cuts c wanted.made) kind.Fs (ids_in (fin.entries wanted.made)) (all_ids _ (ids_in (fin.entries wanted.made)) object_known)))
      (subst (λ (names : List Named). AllByRecursion (IsKnownName (bytes_of cuts c wanted.made)) names) (sym block_names_are)
      (ids_known (bytes_of cuts c wanted.made) kind.Block (ids_in (fin.entries wanted.blocks)) (all_ids _ (ids_in (fin.entries wanted.blocks)) block_known)))))
      (put_names (bytes_of cuts c wanted.made) third put))

  -- what is named first, or second, is named
  in_all_first : (n : Named) → In n (flat_map names_in first) → In n (flat_map names_in ((first ++ second) ++ third))
  in_all_first n there =
      subst (λ (names : List Named). In n names) (sym (names_append (first ++ second) third))
      (in_first n (flat_map names_in (first ++ second)) (flat_map names_in third)
      (subst (λ (names : List Named). In n names) (sym (names_append first second)) (in_first n (flat_map names_in first) (flat_map names_in second) there)))

  in_all_second : (n : Named) → In n (flat_map names_in second) → In n (flat_map names_in ((first ++ second) ++ third))
  in_all_second n there =
      subst (λ (names : List Named). In n names) (sym (names_append (first ++ second) third))
      (in_first n (flat_map names_in (first ++ second)) (flat_map names_in third)
      (subst (λ (names : List Named). In n names) (sym (names_append first second)) (in_later n (flat_map names_in first) (flat_map names_in second) there)))

  made_is_named : (key : Key) → IsSome (fin.get wanted.made key) → In (key, None) (flat_map names_in ((first ++ second) ++ third))
  made_is_named key there = in_all_first (key, None) (by (fin.get wanted.made key) refl there)
    where
      by : (o : Option (List ℕ)) → fin.get wanted.made key ≡ o → IsSome o → In (key, None) (flat_map names_in first)
      by None none some = absurd (cc)
      by (Some t) is_there some =
          let own = named key t is_there in
          let moved : fs_key key.id ≡ key = ap (λ (k : Key). fs_key k.id) own ∙ sym own in
          subst (λ (names : List Named). In (key, None) names) (sym made_names)
          (subst (λ (k : Key). In (k, None) (map (named_alone kind.Fs) (ids_in (fin.entries wanted.made)))) moved
          (alone_in kind.Fs (ids_in (fin.entries wanted.made)) key.id (key_listed wanted.made key (ap is_some is_there))))

  block_is_named : (key : Key) → IsSome (fin.get wanted.blocks key) → In (key, None) (flat_map names_in ((first ++ second) ++ third))
  block_is_named key there =
      let one = seen key there in
      let moved : block_key key.id ≡ key = ap (λ (k : Key). block_key k.id) one.is ∙ sym one.is in
      in_all_second (key, None)
      (subst (λ (names : List Named). In (key, None) names) (sym block_names_are)
      (subst (λ (k : Key). In (k, None) (map (named_alone kind.Block) (ids_in (fin.entries wanted.blocks)))) moved
      (alone_in kind.Block (ids_in (fin.entries wanted.blocks)) key.id (key_listed wanted.blocks key there))))

  pub asked_had : HasNamed cuts c index wanted ((first ++ second) ++ third)
  asked_had = record {
    had = had_of (bytes_of cuts c wanted.made) ((first ++ second) ++ third);
    is_had = is_had (bytes_of cuts c wanted.made) ((first ++ second) ++ third) all_known;
    changed = λ objects base over.
        had_changed objects cuts c index base (had_of (bytes_of cuts c wanted.made) ((first ++ second) ++ third)) over scan is wanted files named (flat_map names_in ((first ++ second) ++ third)) refl
        made_is_named block_is_named;
    keeps = λ objects base over.
        keeps_made objects cuts c index base (had_of (bytes_of cuts c wanted.made) ((first ++ second) ++ third)) over scan is wanted files named (flat_map names_in ((first ++ second) ++ third)) refl
        made_is_named block_is_named;
  }
