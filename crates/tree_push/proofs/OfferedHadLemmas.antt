-- Where what is wanted of a folder was named, its files are among the objects. The key lemma is had_changed.
use Rattle.std.proofs.Common.{◌≡◌, inl, inr, ℕ, zero, suc, List, [], ◌∷◌, length, map, Option, None, Some, IsSome, is_some, refl, sym, ap, ◌∙◌, subst, arith, ◌<◌}
use Rattle.std.specs.Prelude.{option_and_then, unwrap_or}
use Rattle.std.specs.FinMap as fin
use Rattle.std.specs.List.{Contains}
use Rattle.sha1.specs.Sha1.{sha1}
use Rattle.ids.specs.Key.{Objects}
use Rattle.ids.specs.declared.key.Key.{Key}
use Rattle.tree_model.specs.Path.{PathV}
use Rattle.tree_model.specs.Tree.{Tree}
use Rattle.tree_model.proofs.MovingLemmas.{In}
use Rattle.block_chunker.specs.ChunkBoundaries.{chunks_of}
use Rattle.block_chunker.specs.declared.cuts.Cuts.{Cuts}
use Rattle.object_graph.specs.Objects.{block_key, fs_key}
use Rattle.object_graph.specs.Unchanged.{Keeps}
use Rattle.folder_side.specs.Folder.{Contents, at}
use Rattle.folder_side.specs.ScanReport.{IsScan, block_names, seen_of}
use Rattle.folder_side.specs.declared.holding.Holding.{Holding}
use Rattle.folder_side.specs.declared.holding.Holding.TheVariants.{File}
use Rattle.folder_side.specs.declared.scan_report.Scan.{Scan}
use Rattle.folder_side.specs.declared.scan_report.Seen.TheVariants as seen
use Rattle.local_index.specs.declared.index.Index.{Index}
use Rattle.sync_rules.specs.Named.{HasAll, Named}
use Rattle.sync_rules.specs.Premises.{InSync, IsPieceOf, Over}
use Rattle.tree_push.specs.OfferedNames.{HasChanged, IsThere}
use Rattle.tree_push.specs.Wanted.{AreOwnNamed, HasFile, HasFiles, HasObject, IsIn, file_text}
use Rattle.tree_push.specs.declared.wanted.Wanted.{Wanted}
use Rattle.tree_push.proofs.HadLemmas.{contains_in, had_for, has_in, in_map}
use Rattle.tree_push.proofs.KnownBytesLemmas.{bytes_of, known_chunk}

in_contains : {X : Type 0} (x : X) (xs : List X) → Contains xs x → In x xs
in_contains x [] there = absurd (none there.0 there.1)
  where
    none : (k : ℕ) → k < 0 → ⊥
    none k less = absurd (omega (arith, less))
in_contains x (y ∷ xs) (zero, less, is) = inl (sym is)
in_contains x (y ∷ xs) (suc k, less, is) = inr (in_contains x xs (k, omega (arith, less), is))

name_in : (x : List ℕ) (xs : List (List ℕ)) → In x xs → IsIn (sha1 x) (map sha1 xs)
name_in x [] there = absurd there
name_in x (y ∷ xs) (inl is) = inl (ap sha1 is)
name_in x (y ∷ xs) (inr there) = inr (name_in x xs there)

module _ (objects : Objects) (cuts : Cuts) (c : Contents) (index : Index) (base : Tree) (had : List (Key × List ℕ)) (over : Over objects cuts c index base had) (scan : Scan) (is : IsScan cuts c scan)
    (wanted : Wanted) (files : HasFiles index.entries scan.paths wanted) (named : AreOwnNamed wanted.made) (names : List Named) (has : had ≡ map (had_for (bytes_of cuts c wanted.made)) names)
    (of_made : (key : Key) → IsSome (fin.get wanted.made key) → In (key, None) names) (of_blocks : (key : Key) → IsSome (fin.get wanted.blocks key) → In (key, None) names) where
  stored_at : (key : Key) → In (key, None) names → fin.get objects key ≡ Some (bytes_of cuts c wanted.made key)
  stored_at key there = has_in (bytes_of cuts c wanted.made) objects names (key, None) (subst (λ (h : List (Key × List ℕ)). HasAll objects h) has over.has_all) there

  in_call : (key : Key) → In (key, None) names → InSync cuts c base had (bytes_of cuts c wanted.made key)
  in_call key there =
      InSync.in_call key
      (subst (λ (h : List (Key × List ℕ)). Contains h (key, bytes_of cuts c wanted.made key)) (sym has)
      (contains_in (key, bytes_of cuts c wanted.made key) (map (had_for (bytes_of cuts c wanted.made)) names) (in_map (had_for (bytes_of cuts c wanted.made)) (key, None) names there)))

  made_there : (key : Key) (bytes : List ℕ) → fin.get wanted.made key ≡ Some bytes → fin.get objects key ≡ Some bytes
  made_there key bytes there =
      let own = named key bytes there in
      let same : bytes_of cuts c wanted.made (fs_key (sha1 bytes)) ≡ bytes
      = ap (λ (o : Option (List ℕ)). unwrap_or o []) (ap (fin.get wanted.made) (sym own) ∙ there) in
      stored_at key (of_made key (ap (λ (o : Option (List ℕ)). is_some o) there)) ∙ ap (λ (k : Key). Some (bytes_of cuts c wanted.made k)) own ∙ ap Some same

  pub keeps_made : Keeps wanted.made objects
  keeps_made = record { kept = made_there }

  object_there : (blocks : List (List ℕ)) (size : ℕ) → HasObject wanted.made blocks size → IsThere objects (InSync cuts c base had) (fs_key (sha1 (file_text blocks size))) (file_text blocks size)
  object_there blocks size has_object = by (fin.get wanted.made (fs_key (sha1 (file_text blocks size)))) refl has_object.there
    where
      by : (o : Option (List ℕ)) → fin.get wanted.made (fs_key (sha1 (file_text blocks size))) ≡ o → IsSome o
          → IsThere objects (InSync cuts c base had) (fs_key (sha1 (file_text blocks size))) (file_text blocks size)
      by None is_none some = absurd (cc)
      by (Some t) there some =
          let same : bytes_of cuts c wanted.made (fs_key (sha1 (file_text blocks size))) ≡ t = ap (λ (o : Option (List ℕ)). unwrap_or o []) there in
          record {
            stored = t;
            there = made_there (fs_key (sha1 (file_text blocks size))) t there;
            clear = subst (λ (x : List ℕ). InSync cuts c base had x) same
                (in_call (fs_key (sha1 (file_text blocks size))) (of_made (fs_key (sha1 (file_text blocks size))) (ap (λ (o : Option (List ℕ)). is_some o) there)));
            named = sym (ap (λ (k : Key). k.id) (named (fs_key (sha1 (file_text blocks size))) t there));
          }

  block_there : (path : PathV) (bytes x : List ℕ) → at c path ≡ Some (File bytes) → Contains (chunks_of cuts bytes) x → HasFile wanted (block_names cuts bytes) (length bytes)
      → IsThere objects (InSync cuts c base had) (block_key (sha1 x)) x
  block_there path bytes x held there file =
      let inside = in_contains x (chunks_of cuts bytes) there in
      let one = known_chunk cuts c wanted.made path bytes x held inside in
      record {
        stored = bytes_of cuts c wanted.made (block_key (sha1 x));
        there = stored_at (block_key (sha1 x)) (of_blocks (block_key (sha1 x)) (file.all (sha1 x) (name_in x (chunks_of cuts bytes) inside)));
        clear = InSync.in_folder one.chunk.path one.chunk.bytes one.chunk.held (IsPieceOf.chunk (contains_in _ _ one.chunk.there));
        named = one.named;
      }

  pub had_changed : HasChanged objects cuts c index base had
  had_changed path bytes held changed =
      let seen_as = is.paths path ∙ ap (λ (o : Option Holding). option_and_then (seen_of cuts) o) held in
      let file : HasFile wanted (block_names cuts bytes) (length bytes) = files path (seen.File (block_names cuts bytes) (length bytes)) seen_as changed in
      record {
        blocks = λ x there. block_there path bytes x held there file;
        object = λ some. object_there (block_names cuts bytes) (length bytes) (file.object some);
        reads = λ some. (file.object some).reads;
      }
