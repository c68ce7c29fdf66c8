-- The calls of a folder, one after another. The key lemmas are with_more, with_none, glances_then, reads_start, reads_more, reads_end,
-- whole_glances and reads_opened.
use Rattle.std.proofs.Common.{◌≡◌, ℕ, ◌+◌, ◌<◌, ◌≤◌, true, List, [], ◌∷◌, ◌++◌, length, take, drop, map, Option, None, Some, Result, Ok, Err, refl, sym, ap, subst, ◌∙◌, append_assoc, append-nil, length-append, arith}
use Rattle.std.specs.Prelude.{IsTrue}
use Rattle.std.specs.List.{AllByRecursion}
use Rattle.std.proofs.lemmas.List.{length-take-le, take_all, take_at}
use Rattle.std.proofs.Math.Seq.{drop-append_seam, drop-length}
use Rattle.sha1.specs.Sha1.{sha1}
use Rattle.block_chunker.specs.declared.cuts.Cuts.{Cuts}
use Rattle.block_chunker.specs.ChunkBoundaries.{last_chunk}
use Rattle.block_chunker.specs.ChunkerProgress.{Progress, after_piece, finished_by, start_of}
use Rattle.tree_model.specs.Path.{PathV}
use Rattle.folder_side.specs.declared.file_reader.FileRead.{FileRead}
use Rattle.folder_side.specs.declared.file_reader.TheConstants.{MAX_FILE}
use Rattle.folder_side.specs.declared.file_reader.ReadFault.{ReadFault}
use Rattle.folder_side.specs.Calls.{Call, Compared, Glances, Looked, MadeDir, Moved, Opened, Read, ReadsAs, ReadsOn, ReadsToEnd, ReadsWhole, Removed, SpareAdded, SpareCleared, SpareSynced, is_glance, with_calls}
use Rattle.folder_side.specs.FileRead.{IsBehind, ReadsFile}
use Rattle.folder_side.specs.Folder.{IsPart}
use Rattle.folder_side.proofs.FileReadLemmas.{IsBehind-end, IsBehind-more, reading_at}

-- ---- calls after calls

pub with_more : (told : Option (List Call)) (a b : List Call) → with_calls (with_calls told a) b ≡ with_calls told (a ++ b)
with_more None a b = refl
with_more (Some calls) a b = ap Some (append_assoc calls a b)

pub with_none : (told : Option (List Call)) → told ≡ with_calls told []
with_none None = refl
with_none (Some calls) = ap Some (sym (append-nil calls))

-- these calls, and then those
pub grown_more : (old mid new : Option (List Call)) (a b : List Call) → mid ≡ with_calls old a → new ≡ with_calls mid b → new ≡ with_calls old (a ++ b)
grown_more old mid new a b first more = more ∙ ap (λ t. with_calls t b) first ∙ with_more old a b

-- ---- glances

abbrev pub IsGlance : Call → Type 0
IsGlance call = IsTrue (is_glance call)

pub all_append : (P : Call → Type 0) (a b : List Call) → AllByRecursion P a → AllByRecursion P b → AllByRecursion P (a ++ b)
all_append P [] b all more = more
all_append P (call ∷ a) b all more = (all.0, all_append P a b all.1 more)

pub glances_none : (old new : Option (List Call)) → new ≡ with_calls old [] → Glances old new
glances_none old new same = record { more = []; grown = same; glances = tt }

pub glances_then : (old mid new : Option (List Call)) → Glances old mid → Glances mid new → Glances old new
glances_then old mid new first more = record {
  more = first.more ++ more.more;
  grown = grown_more old mid new first.more more.more first.grown more.grown;
  glances = all_append IsGlance first.more more.more first.glances more.glances;
}

pub glances_same : (old new : Option (List Call)) → new ≡ old → Glances old new
glances_same old new same = record { more = []; grown = same ∙ with_none old; glances = tt }

pub glances_one : (call : Call) (old new : Option (List Call)) → IsGlance call → new ≡ with_calls old (call ∷ []) → Glances old new
glances_one call old new is grown = record { more = call ∷ []; grown = grown; glances = (is, tt) }

-- ---- a file that is read

-- from a place on some was read; whatever reads on from there to the end reads all of it
pub record ReadsTo (cuts : Cuts) (path : PathV) (start : ℕ) (before : List ℕ) (old now : Option (List Call)) (chunker : Progress) (names : List (List ℕ)) (place : ℕ) : Type 0 where
  pub more : List Call
  pub sofar : List ℕ
  pub grown : now ≡ with_calls old more
  pub glances : AllByRecursion (λ call. IsTrue (is_glance call)) more
  pub here : place ≡ length (before ++ sofar)
  pub behind : IsBehind cuts (before ++ sofar) (reading_at chunker names place)
  pub on : (reads : List Call) (bytes : List ℕ) → ReadsToEnd path place reads bytes → ReadsToEnd path start (more ++ reads) (sofar ++ bytes)

pub reads_start : (cuts : Cuts) (path : PathV) (place : ℕ) (before : List ℕ) (told : Option (List Call)) (chunker : Progress) (names : List (List ℕ)) → place ≡ length before
    → IsBehind cuts before (reading_at chunker names place) → ReadsTo cuts path place before told told chunker names place
reads_start cuts path place before told chunker names at behind = record {
  more = [];
  sofar = [];
  grown = with_none told;
  glances = tt;
  here = at ∙ ap length (sym (append-nil before));
  behind = subst (λ (bytes : List ℕ). IsBehind cuts bytes (reading_at chunker names place)) (sym (append-nil before)) behind;
  on = λ reads bytes to_end. to_end;
}

-- a piece behind what was there
part_behind : (first piece into : List ℕ) (place count : ℕ) → place ≡ length first → piece ≡ take count into → count ≡ length piece → IsPart (first ++ piece) place count into
part_behind first piece into place count at is size =
    let left : drop place (first ++ piece) ≡ piece = ap (λ n. drop n (first ++ piece)) at ∙ drop-append_seam first piece in
    record {
      same = sym is ∙ sym (take_all count piece (omega (arith, size))) ∙ ap (take count) (sym left);
      inside = omega (arith, size, ap length left);
      ends = (λ none. left ∙ empty piece (omega (arith, size, none)), λ none. size ∙ ap length (sym left ∙ none));
    }
  where
    empty : (xs : List ℕ) → length xs ≡ 0 → xs ≡ []
    empty [] none = refl
    empty (x ∷ xs) none = absurd (omega (arith, none))

-- what was behind a front of a file is behind it in a longer one
behind_longer : (cuts : Cuts) (first piece : List ℕ) (chunker : Progress) (names : List (List ℕ)) (place : ℕ) → place ≡ length first
    → IsBehind cuts first (reading_at chunker names place) → IsBehind cuts (first ++ piece) (reading_at chunker names place)
behind_longer cuts first piece chunker names place at behind =
    let front : take place (first ++ piece) ≡ take place first = take_at first piece place (sym at) ∙ sym (take_all place first (omega (arith, at))) in
    record {
      within = omega (arith, at, length-append first piece);
      begun = behind.begun ∙ ap (λ bytes. after_piece (start_of cuts) bytes) (sym front);
      named = behind.named ∙ ap (λ bytes. map sha1 (finished_by (start_of cuts) bytes)) (sym front);
    }

one_more : (path : PathV) (place count : ℕ) (piece : List ℕ) (reads : List Call) (bytes : List ℕ) → 0 < count → count ≡ length piece
    → ReadsToEnd path (place + count) reads bytes → ReadsToEnd path place (Read path place piece ∷ reads) (piece ++ bytes)
one_more path place count [] reads bytes some size to_end = absurd (omega (arith, some, size))
one_more path place count (b ∷ bs) reads bytes some size to_end =
    (refl, refl, bytes, refl, subst (λ (n : ℕ). ReadsToEnd path (place + n) reads bytes) size to_end)

-- one piece more
pub reads_more : (cuts : Cuts) (path : PathV) (start : ℕ) (before : List ℕ) (old now after : Option (List Call)) (chunker next : Progress) (names all : List (List ℕ)) (place count : ℕ)
    (into : List ℕ) → ReadsTo cuts path start before old now chunker names place → 0 < count → count ≤ length into
    → after ≡ with_calls now (Read path place (take count into) ∷ []) → next ≡ after_piece chunker (take count into)
    → all ≡ names ++ map sha1 (finished_by chunker (take count into)) → ReadsTo cuts path start before old after next all (place + count)
reads_more cuts path start before old now after chunker next names all place count into to some bound grown fed named =
    let piece = take count into in
    let size : count ≡ length piece = sym (length-take-le count into bound) in
    let whole : (before ++ to.sofar) ++ piece ≡ before ++ (to.sofar ++ piece) = append_assoc before to.sofar piece in
    let behind = behind_longer cuts (before ++ to.sofar) piece chunker names place to.here to.behind in
    let part = part_behind (before ++ to.sofar) piece into place count to.here refl size in
    record {
      more = to.more ++ Read path place piece ∷ [];
      sofar = to.sofar ++ piece;
      grown = grown_more old now after to.more (Read path place piece ∷ []) to.grown grown;
      glances = all_append IsGlance to.more (Read path place piece ∷ []) to.glances (refl, tt);
      here = omega (arith, to.here, size, length-append (before ++ to.sofar) piece, ap length whole);
      behind =
          subst (λ (bytes : List ℕ). IsBehind cuts bytes (reading_at next all (place + count))) whole
          (IsBehind-more cuts ((before ++ to.sofar) ++ piece) into place count chunker next names all behind part fed named);
      on = λ reads bytes to_end.
          subst (λ (calls : List Call). ReadsToEnd path start calls ((to.sofar ++ piece) ++ bytes)) (sym (append_assoc to.more (Read path place piece ∷ []) reads))
          (subst (λ (came : List ℕ). ReadsToEnd path start (to.more ++ Read path place piece ∷ reads) came) (sym (append_assoc to.sofar piece bytes))
          (to.on (Read path place piece ∷ reads) (piece ++ bytes) (one_more path place count piece reads bytes some size to_end)));
    }

-- the file has ended
pub reads_end : (cuts : Cuts) (path : PathV) (start : ℕ) (before : List ℕ) (old now after : Option (List Call)) (chunker : Progress) (names : List (List ℕ)) (place count : ℕ)
    (into : List ℕ) (file : FileRead) → ReadsTo cuts path start before old now chunker names place → count ≡ 0 → place ≤ MAX_FILE
    → after ≡ with_calls now (Read path place (take count into) ∷ []) → file.blocks ≡ names ++ map sha1 (last_chunk chunker.begun) → file.size ≡ place
    → ReadsOn cuts path start before old after (Ok file)
reads_end cuts path start before old now after chunker names place count into file to none small grown blocks size =
    let whole = before ++ to.sofar in
    let nothing : take count into ≡ [] = ap (λ n. take n into) none in
    let at_end : drop place whole ≡ [] = ap (λ n. drop n whole) to.here ∙ drop-length whole in
    let part : IsPart whole place count into = record {
      same = nothing ∙ sym (ap (λ n. take n (drop place whole)) none);
      inside = omega (arith, none);
      ends = (λ _. at_end, λ _. none);
    } in
    let all = IsBehind-end cuts whole into place count chunker names file.blocks to.behind part none blocks in
    let came : before ++ (to.sofar ++ []) ≡ whole = ap (λ bytes. before ++ bytes) (append-nil to.sofar) in
    let last : after ≡ with_calls now (Read path place [] ∷ []) = grown ∙ ap (λ bytes. with_calls now (Read path place bytes ∷ [])) nothing in (
      to.more ++ Read path place [] ∷ [],
      to.sofar ++ [],
      grown_more old now after to.more (Read path place [] ∷ []) to.grown last,
      to.on (Read path place [] ∷ []) [] (refl, refl, refl, refl),
      subst (λ (bytes : List ℕ). ReadsFile cuts bytes file) (sym came)
          (record { blocks = all.0; size = size ∙ all.1; small = omega (arith, all.1, small) }),
    )

-- what was read before a fault
pub reads_stop : (cuts : Cuts) (path : PathV) (start : ℕ) (before : List ℕ) (old now after : Option (List Call)) (chunker : Progress) (names : List (List ℕ)) (place : ℕ)
    → ReadsTo cuts path start before old now chunker names place → Glances now after → Glances old after
reads_stop cuts path start before old now after chunker names place to more =
    glances_then old now after (record { more = to.more; grown = to.grown; glances = to.glances }) more

-- it was opened before
pub reads_opened : (cuts : Cuts) (path : PathV) (old mid new : Option (List Call)) (result : Result FileRead ReadFault) → mid ≡ with_calls old (Opened path true ∷ [])
    → ReadsOn cuts path 0 [] mid new result → ReadsAs cuts path old new result
reads_opened cuts path old mid new (Ok file) opened reads = (
  reads.1,
  record { reads = reads.0; grown = grown_more old mid new (Opened path true ∷ []) reads.0 opened reads.2; whole = reads.3 },
  reads.4,
)
reads_opened cuts path old mid new (Err fault) opened glances = glances_then old mid new (glances_one (Opened path true) old mid refl opened) glances

-- ---- a file that was read, as glances

pub reads_glances : (path : PathV) (place : ℕ) (reads : List Call) (bytes : List ℕ) → ReadsToEnd path place reads bytes → AllByRecursion IsGlance reads
reads_glances path place [] bytes whole = tt
reads_glances path place (Read other from [] ∷ more) bytes whole = (refl, subst (λ (calls : List Call). AllByRecursion IsGlance calls) (sym whole.2) tt)
reads_glances path place (Read other from (b ∷ bs) ∷ more) bytes whole = (refl, reads_glances path (place + length (b ∷ bs)) more whole.2 whole.4)
reads_glances path place (Looked other kind ∷ more) bytes whole = absurd whole
reads_glances path place (Opened other there ∷ more) bytes whole = absurd whole
reads_glances path place (Compared other same ∷ more) bytes whole = absurd whole
reads_glances path place (SpareCleared ∷ more) bytes whole = absurd whole
reads_glances path place (SpareAdded count ∷ more) bytes whole = absurd whole
reads_glances path place (SpareSynced ∷ more) bytes whole = absurd whole
reads_glances path place (Moved other ∷ more) bytes whole = absurd whole
reads_glances path place (MadeDir other ∷ more) bytes whole = absurd whole
reads_glances path place (Removed other ∷ more) bytes whole = absurd whole

pub whole_glances : (path : PathV) (bytes : List ℕ) (old new : Option (List Call)) → ReadsWhole path bytes old new → Glances old new
whole_glances path bytes old new whole =
    record { more = Opened path true ∷ whole.reads; grown = whole.grown; glances = (refl, reads_glances path 0 whole.reads bytes whole.whole) }
