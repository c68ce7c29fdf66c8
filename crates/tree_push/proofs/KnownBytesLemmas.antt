-- The bytes that a folder and what was made of it have for each key that a library is asked about. The key lemmas are known_block and
-- known_object.
use Rattle.std.proofs.Common.{◌≡◌, ◌⊎◌, inl, inr, ℕ, Bool, true, false, cond, if◌then◌else◌, List, [], ◌∷◌, ◌++◌, map, Option, None, Some, refl, sym, ap, ◌∙◌, subst}
use Rattle.std.specs.Prelude.{option_and_then, unwrap_or}
use Rattle.std.specs.FinMap as fin
use Rattle.std.specs.Str.{bytes_eq}
use Rattle.sha1.specs.Sha1.{sha1}
use Rattle.ids.specs.Key.{Objects}
use Rattle.ids.specs.declared.key.Key.{Key}
use Rattle.ids.specs.declared.key.Kind.{Kind}
use Rattle.ids.specs.declared.key.Kind.TheVariants as kind
use Rattle.std.proofs.lemmas.Bool.{false≢true}
use Rattle.std.proofs.lemmas.Slice.Eq.{bytes_eq-Decides}
use Rattle.ids.proofs.BasicLemmas.{same_from_bytes_eq}
use Rattle.tree_model.specs.Path.{PathV, path_cmp}
use Rattle.tree_model.proofs.ListedLemmas.{same_path, same_path-true}
use Rattle.tree_model.proofs.MovingLemmas.{In}
use Rattle.block_chunker.specs.ChunkBoundaries.{chunks_of}
use Rattle.block_chunker.specs.declared.cuts.Cuts.{Cuts}
use Rattle.object_graph.specs.Objects.{block_key, fs_key}
use Rattle.folder_side.specs.Folder.{Contents, at}
use Rattle.folder_side.specs.ScanReport.{IsScan, block_names, seen_of}
use Rattle.folder_side.specs.declared.holding.Holding.{Holding}
use Rattle.folder_side.specs.declared.holding.Holding.TheVariants.{Dir, File, Other}
use Rattle.folder_side.specs.declared.scan_report.Scan.{Scan}
use Rattle.folder_side.specs.declared.scan_report.Seen.TheVariants as seen
use Rattle.folder_side.proofs.SortedEntryLemmas.{Rises-entries, found_of, skip_first}
use Rattle.tree_push.specs.Wanted.{IsIn, IsSeenBlock}
use Rattle.tree_push.proofs.HadLemmas.{in_first, in_later}

-- what is found stands in the list
find_in : (es : List (PathV × Holding)) (q : PathV) (h : Holding) → fin.find path_cmp q es ≡ Some h → In (q, h) es
find_in [] q h is = absurd (cc)
find_in (e ∷ es) q h is = by (same_path q e.0) refl (find_in es q h)
  where
    by : (b : Bool) → same_path q e.0 ≡ b → (fin.find path_cmp q es ≡ Some h → In (q, h) es) → In (q, h) (e ∷ es)
    by true same more =
        let one : e.1 ≡ h = some_one (ap (λ b. cond b (Some e.1) (fin.find path_cmp q es)) (sym same) ∙ is) in
        inl (ap (λ (p : PathV). (p, h)) (same_path-true q e.0 same) ∙ ap (λ (k : Holding). (e.0, k)) (sym one))
      where
        some_one : {x y : Holding} → Some x ≡ Some y → x ≡ y
        some_one e = cc
    by false apart more = inr (more (sym (skip_first q e es apart) ∙ is))

-- ---- chunks by their names

abbrev pub named_chunk : (id : List ℕ) → List (List ℕ) → List ℕ
named_chunk id [] = []
named_chunk id (x ∷ xs) = if bytes_eq (sha1 x) id then x else named_chunk id xs

-- a chunk of that name
record IsNamedChunk (id : List ℕ) (xs : List (List ℕ)) (x : List ℕ) : Type 0 where
  named : sha1 x ≡ id
  there : In x xs

chunk_named : (id : List ℕ) (xs : List (List ℕ)) (x : List ℕ) → In x xs → sha1 x ≡ id → IsNamedChunk id xs (named_chunk id xs)
chunk_named id [] x there is = absurd there
chunk_named id (y ∷ xs) x there is = by (bytes_eq (sha1 y) id) refl there (chunk_named id xs x)
  where
    by : (b : Bool) → bytes_eq (sha1 y) id ≡ b → In x (y ∷ xs) → (In x xs → sha1 x ≡ id → IsNamedChunk id xs (named_chunk id xs))
        → IsNamedChunk id (y ∷ xs) (if bytes_eq (sha1 y) id then y else named_chunk id xs)
    by true same here more = rw same (record { named = same_from_bytes_eq (sha1 y) id same; there = inl refl })
    by false other (inl first) more = absurd (apart (ap sha1 (sym first) ∙ is))
      where
        apart : sha1 y ≡ id → ⊥
        apart e = false≢true (sym other ∙ (bytes_eq-Decides (sha1 y) id).1 e)
    by false other (inr later) more = let found = more later is in rw other (record { named = found.named; there = inr found.there })

module _ (cuts : Cuts) where
  abbrev pub all_chunks : List (PathV × Holding) → List (List ℕ)
  all_chunks [] = []
  all_chunks ((path, Dir) ∷ es) = all_chunks es
  all_chunks ((path, File bytes) ∷ es) = chunks_of cuts bytes ++ all_chunks es
  all_chunks ((path, Other) ∷ es) = all_chunks es

  -- a chunk is one of a file in the list
  record IsChunkIn (es : List (PathV × Holding)) (x : List ℕ) : Type 0 where
    path : PathV
    bytes : List ℕ
    file : In (path, File bytes) es
    there : In x (chunks_of cuts bytes)

  chunk_in : (es : List (PathV × Holding)) (path : PathV) (bytes x : List ℕ) → In (path, File bytes) es → In x (chunks_of cuts bytes) → In x (all_chunks es)
  chunk_in [] path bytes x file there = absurd file
  chunk_in (e ∷ es) path bytes x (inl is) there = subst (λ (f : PathV × Holding). In x (all_chunks (f ∷ es))) is (in_first x (chunks_of cuts bytes) (all_chunks es) there)
  chunk_in ((p, Dir) ∷ es) path bytes x (inr file) there = chunk_in es path bytes x file there
  chunk_in ((p, File other) ∷ es) path bytes x (inr file) there = in_later x (chunks_of cuts other) (all_chunks es) (chunk_in es path bytes x file there)
  chunk_in ((p, Other) ∷ es) path bytes x (inr file) there = chunk_in es path bytes x file there

  later_chunk : (e : PathV × Holding) (es : List (PathV × Holding)) (x : List ℕ) → IsChunkIn es x → IsChunkIn (e ∷ es) x
  later_chunk e es x is = record { path = is.path; bytes = is.bytes; file = inr is.file; there = is.there }

  in_either : (xs ys : List (List ℕ)) (x : List ℕ) → In x (xs ++ ys) → In x xs ⊎ In x ys
  in_either [] ys x there = inr there
  in_either (y ∷ xs) ys x (inl is) = inl (inl is)
  in_either (y ∷ xs) ys x (inr there) = by (in_either xs ys x there)
    where
      by : In x xs ⊎ In x ys → In x (y ∷ xs) ⊎ In x ys
      by (inl first) = inl (inr first)
      by (inr later) = inr later

  chunk_from : (es : List (PathV × Holding)) (x : List ℕ) → In x (all_chunks es) → IsChunkIn es x
  chunk_from [] x there = absurd there
  chunk_from ((p, Dir) ∷ es) x there = later_chunk (p, Dir) es x (chunk_from es x there)
  chunk_from ((p, Other) ∷ es) x there = later_chunk (p, Other) es x (chunk_from es x there)
  chunk_from ((p, File bytes) ∷ es) x there = by (in_either (chunks_of cuts bytes) (all_chunks es) x there) (chunk_from es x)
    where
      by : In x (chunks_of cuts bytes) ⊎ In x (all_chunks es) → (In x (all_chunks es) → IsChunkIn es x) → IsChunkIn ((p, File bytes) ∷ es) x
      by (inl first) more = record { path = p; bytes = bytes; file = inl refl; there = first }
      by (inr later) more = later_chunk (p, File bytes) es x (more later)

  -- ---- what is known for a key

  module _ (c : Contents) (made : Objects) where
    abbrev pub bytes_for : Kind → List ℕ → List ℕ
    bytes_for kind.Commit id = []
    bytes_for kind.Fs id = unwrap_or (fin.get made (fs_key id)) []
    bytes_for kind.Block id = named_chunk id (all_chunks (fin.entries c.paths))

    abbrev pub bytes_of : Key → List ℕ
    bytes_of key = bytes_for key.kind key.id

    -- a chunk of the folder
    pub record IsChunkOf (x : List ℕ) : Type 0 where
      pub path : PathV
      pub bytes : List ℕ
      pub held : at c path ≡ Some (File bytes)
      pub there : In x (chunks_of cuts bytes)

    -- what is known for a block is a chunk of that name
    pub record IsKnownBlock (id : List ℕ) : Type 0 where
      pub named : sha1 (bytes_of (block_key id)) ≡ id
      pub chunk : IsChunkOf (bytes_of (block_key id))

    pub known_chunk : (path : PathV) (bytes x : List ℕ) → at c path ≡ Some (File bytes) → In x (chunks_of cuts bytes) → IsKnownBlock (sha1 x)
    known_chunk path bytes x held there =
        let found = chunk_named (sha1 x) (all_chunks (fin.entries c.paths)) x
        (chunk_in (fin.entries c.paths) path bytes x (find_in (fin.entries c.paths) path (File bytes) (sym (fin.get-entries c.paths path) ∙ held)) there) refl in
        let one = chunk_from (fin.entries c.paths) (bytes_of (block_key (sha1 x))) found.there in
        record {
          named = found.named;
          chunk = record {
            path = one.path;
            bytes = one.bytes;
            held = fin.get-entries c.paths one.path ∙ found_of (fin.entries c.paths) (one.path, File one.bytes) (Rises-entries c.paths) one.file;
            there = one.there;
          };
        }

    in_names : (xs : List (List ℕ)) (id : List ℕ) → IsIn id (map sha1 xs) → (x : List ℕ) × (sha1 x ≡ id) × In x xs
    in_names [] id there = absurd there
    in_names (x ∷ xs) id (inl is) = (x, sym is, inl refl)
    in_names (x ∷ xs) id (inr there) = let more = in_names xs id there in (more.0, more.1, inr more.2)

    -- of each block that was seen, one is known
    pub known_block : (scan : Scan) → IsScan cuts c scan → (key : Key) → IsSeenBlock scan.paths key → IsKnownBlock key.id
    known_block scan is key block = by (at c block.path) refl (sym (is.paths block.path) ∙ block.seen)
      where
        by : (o : Option Holding) → at c block.path ≡ o → option_and_then (seen_of cuts) o ≡ Some (seen.File block.blocks block.size) → IsKnownBlock key.id
        by None held seen_as = absurd (cc)
        by (Some Dir) held seen_as = absurd (cc)
        by (Some Other) held seen_as = absurd (cc)
        by (Some (File bytes)) held seen_as =
            let names : block_names cuts bytes ≡ block.blocks = cc in
            let found = in_names (chunks_of cuts bytes) block.id (subst (λ (ids : List (List ℕ)). IsIn block.id ids) (sym names) block.there) in
            subst (λ (id : List ℕ). IsKnownBlock id) (found.1 ∙ sym (ap (λ (k : Key). k.id) block.is)) (known_chunk block.path bytes found.0 held found.2)
