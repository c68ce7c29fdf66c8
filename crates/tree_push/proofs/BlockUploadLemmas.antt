-- Chunks that are met with their names in front, and blocks that are put and noted no more. The key lemmas are off_join, off_put,
-- taking_more, taking_stop, taking_last, taking_end, putting_more, putting_next, passed_more, passed_next, passed_end and passed_all.
use Rattle.std.proofs.Common.{◌≡◌, ◌==◌, ◌||◌, ◌+◌, ◌≤◌, inl, inr, ℕ, Bool, true, false, cond, List, [], ◌∷◌, ◌++◌, length, take, drop, map, reverse, Option, None, Some, is_some, Result, Ok, Err, refl, sym, ap, ap₂, ◌∙◌, subst, append_assoc, arith, true≢false}
use Rattle.std.proofs.Math.Seq.{take-add}
use Rattle.std.proofs.lemmas.Bool.{eqb-true}
use Rattle.std.proofs.lemmas.List.{append-nil, append_cancel_left, length-drop, map-append, nil_from_length, reverse-append, take-append-drop, take_all}
use Rattle.std.specs.Prelude.{⊤, ◌&&◌, not, IfErr, option_and_then}
use Rattle.std.specs.Bool.{MatchBool}
use Rattle.std.specs.Option.{option_to_list}
use Rattle.std.specs.FinMap as fin
use Rattle.sha1.specs.Sha1.{sha1}
use Rattle.ids.specs.FaultCount.{FailsBy, Rose}
use Rattle.ids.specs.declared.key.Key.{Key}
use Rattle.ids.proofs.KeyOrderLemmas.{key_cmp_total}
use Rattle.tree_model.specs.Path.{PathV}
use Rattle.block_chunker.specs.declared.cuts.Cuts.{Cuts}
use Rattle.block_chunker.specs.ChunkBoundaries.{begun_after, chunks_of, finished_chunks, last_chunk, unfinished_of}
use Rattle.block_chunker.specs.ChunkerProgress.{Progress, after_piece, finished_by, start_of}
use Rattle.block_chunker.proofs.ChunkListLemmas.{begun_after-append, finished_chunks-append}
use Rattle.folder_side.specs.Folder.{IsPart, PartAt}
use Rattle.folder_side.specs.ScanReport.{seen_of}
use Rattle.folder_side.specs.declared.holding.Holding.{Holding}
use Rattle.folder_side.specs.declared.holding.Holding.TheVariants.{Dir, File, Other}
use Rattle.folder_side.specs.declared.scan_report.Seen.TheVariants as seen
use Rattle.object_graph.specs.Objects.{block_key}
use Rattle.object_graph.specs.Reached.{block_keys}
use Rattle.object_graph.specs.Traversal.{is_in}
use Rattle.object_graph.proofs.KeyLemmas.{in_append, same_key, same_key-true}
use Rattle.remote_calls.specs.Sends.{Sent}
use Rattle.sync_rules.specs.Causes.{is_folder_fault}
use Rattle.sync_rules.specs.Named.{keys_put}
use Rattle.sync_rules.specs.declared.fault.SyncFault.{SyncFault}
use Rattle.sync_rules.specs.declared.fault.SyncFault.TheVariants as fault
use Rattle.tree_push.specs.Asking.{IsOrderFault, Ran, Stopped, Went, is_own, PutsAmong}
use Rattle.tree_push.specs.BlockUpload.{IsChange, IsFileFault, IsNoChange, IsPutFault, IsPutting, IsReadFault, PutsOff}
use Rattle.tree_push.specs.Lacking.{Keys, has_key}
use Rattle.tree_push.specs.Puts.{PutsKeys}
use Rattle.tree_push.specs.declared.asking.Library.{Library}
use Rattle.tree_push.proofs.PutsLemmas.{put_append}
use Rattle.tree_push.proofs.TraceLemmas.{puts_join, ran_none, went_more, went_wide}

-- ---- what is put is noted no more

and_no : (h : Bool) → false ≡ (h && false)
and_no true = refl
and_no false = refl

and_yes : (h : Bool) → h ≡ (h && true)
and_yes true = refl
and_yes false = refl

and_first : (a b : Bool) → (a && b) ≡ true → a ≡ true
and_first true b is = refl
and_first false b is = is

pub block_append : (xs ys : List (List ℕ)) → block_keys (xs ++ ys) ≡ block_keys xs ++ block_keys ys
block_append [] ys = refl
block_append (x ∷ xs) ys = ap (λ (keys : List Key). block_key x ∷ keys) (block_append xs ys)

pub off_none : (old : Keys) → PutsOff [] old old []
off_none old = record { puts = tt; put = λ key. and_no (has_key old key); left = λ key. and_yes (has_key old key) }

-- what is noted still was noted before
pub off_wide : (ids : List (List ℕ)) (old new : Keys) (more : List Sent) → PutsOff ids old new more → (key : Key) → has_key new key ≡ true → has_key old key ≡ true
off_wide ids old new more off key there = and_first (has_key old key) (not (is_in (block_keys ids) key)) (sym (off.left key) ∙ there)

pub off_join : (library : Library) (xs ys : List (List ℕ)) (old mid new : Keys) (first later : List Sent) → PutsOff xs old mid first → PutsOff ys mid new later
    → PutsOff (xs ++ ys) old new (first ++ later)
off_join library xs ys old mid new first later one two = record {
  puts = puts_join library first later one.puts two.puts;
  put = λ key.
      ap (λ (keys : List Key). is_in keys key) (put_append first later) ∙ in_append (keys_put first) (keys_put later) key
      ∙ ap₂ (λ (a b : Bool). a || b) (one.put key) (two.put key ∙ ap (λ (h : Bool). h && is_in (block_keys ys) key) (one.left key))
      ∙ both (has_key old key) (is_in (block_keys xs) key) (is_in (block_keys ys) key)
      ∙ ap (λ (b : Bool). has_key old key && b) (in_both key);
  left = λ key.
      two.left key ∙ ap (λ (h : Bool). h && not (is_in (block_keys ys) key)) (one.left key) ∙ neither (has_key old key) (is_in (block_keys xs) key) (is_in (block_keys ys) key)
      ∙ ap (λ (b : Bool). has_key old key && not b) (in_both key);
}
  where
    in_both : (key : Key) → (is_in (block_keys xs) key || is_in (block_keys ys) key) ≡ is_in (block_keys (xs ++ ys)) key
    in_both key = sym (in_append (block_keys xs) (block_keys ys) key) ∙ ap (λ (keys : List Key). is_in keys key) (sym (block_append xs ys))

    both : (o x y : Bool) → ((o && x) || ((o && not x) && y)) ≡ (o && (x || y))
    both true true y = refl
    both true false y = refl
    both false x y = refl

    neither : (o x y : Bool) → ((o && not x) && not y) ≡ (o && not (x || y))
    neither true true y = refl
    neither true false y = refl
    neither false x y = refl

module _ (old new : Keys) (id : List ℕ) (is : new ≡ fin.remove old (block_key id)) where
  pub removed : (q : Key) → has_key new q ≡ cond (same_key q (block_key id)) false (has_key old q)
  removed q = ap (λ (m : Keys). has_key m q) is ∙ ap is_some (fin.get-remove key_cmp_total old (block_key id) q) ∙ by (same_key q (block_key id)) (fin.get old q)
    where
      by : (b : Bool) (o : Option ⊤) → is_some (cond b None o) ≡ cond b false (is_some o)
      by true o = refl
      by false o = refl

  left_off : (q : Key) → has_key new q ≡ (has_key old q && not (same_key q (block_key id) || false))
  left_off q = removed q ∙ by (same_key q (block_key id)) (has_key old q)
    where
      by : (b h : Bool) → cond b false h ≡ (h && not (b || false))
      by true h = and_no h
      by false h = and_yes h

  -- one that was not noted
  pub off_skipped : fin.get old (block_key id) ≡ None → PutsOff (id ∷ []) old new []
  off_skipped none = record { puts = tt; put = λ q. by q (same_key q (block_key id)) refl; left = left_off }
    where
      by : (q : Key) (b : Bool) → same_key q (block_key id) ≡ b → false ≡ (has_key old q && (b || false))
      by q true same = sym (ap (λ (h : Bool). h && true) (ap (has_key old) (same_key-true q (block_key id) same) ∙ ap is_some none))
      by q false apart = and_no (has_key old q)

  -- one that was
  pub off_put : fin.get old (block_key id) ≡ Some tt → (more : List Sent) → PutsKeys (block_key id ∷ []) more → PutsOff (id ∷ []) old new more
  off_put there more puts = record {
    puts = puts.0;
    put = λ q. ap (λ (keys : List Key). is_in keys q) puts.1 ∙ by q (same_key q (block_key id)) refl;
    left = left_off;
  }
    where
      by : (q : Key) (b : Bool) → same_key q (block_key id) ≡ b → (same_key q (block_key id) || false) ≡ (has_key old q && (same_key q (block_key id) || false))
      by q true same =
          ap (λ (c : Bool). c || false) same ∙ sym (ap₂ (λ (h c : Bool). h && (c || false)) (ap (has_key old) (same_key-true q (block_key id) same) ∙ ap is_some there) same)
      by q false apart = ap (λ (c : Bool). c || false) apart ∙ and_no (has_key old q) ∙ ap (λ (c : Bool). has_key old q && (c || false)) (sym apart)

pub one_noted : (old : Keys) (id : List ℕ) → fin.get old (block_key id) ≡ Some tt → (q : Key) → is_in (block_key id ∷ []) q ≡ true → has_key old q ≡ true
one_noted old id there q is = by (same_key q (block_key id)) refl is
  where
    by : (b : Bool) → same_key q (block_key id) ≡ b → (same_key q (block_key id) || false) ≡ true → has_key old q ≡ true
    by true same e = ap (has_key old) (same_key-true q (block_key id) same) ∙ ap is_some there
    by false apart e = absurd (true≢false (sym e ∙ ap (λ (c : Bool). c || false) apart))

-- ---- blocks, one after another

-- of these names the first were taken, and these are left
pub record IsTaking (library : Library) (names left : List (List ℕ)) (was is : Keys) (old now : List Sent) : Type 0 where
  pub done : List (List ℕ)
  pub split : names ≡ done ++ left
  pub ran : Ran library (PutsAmong (has_key was)) (PutsOff done was is) old now

module _ (library : Library) where
  pub taking_start : (names : List (List ℕ)) (was : Keys) (old : List Sent) → IsTaking library names names was was old old
  taking_start names was old = record { done = []; split = refl; ran = ran_none library (PutsAmong (has_key was)) (PutsOff [] was was) old old refl (off_none was) }

  module _ (names left : List (List ℕ)) (was is : Keys) (old now : List Sent) (taking : IsTaking library names left was is old now) where
    wider : (key : Key) → has_key is key ≡ true → has_key was key ≡ true
    wider key there = off_wide taking.done was is taking.ran.more taking.ran.are key there

    pub taking_went : {T : Type 0} (first : List (List ℕ)) (then : Keys) (new : List Sent) (result : Result T SyncFault) → Went library (PutsAmong (has_key is)) (PutsOff first is then) now new result
        → Went library (PutsAmong (has_key was)) (PutsOff (taking.done ++ first) was then) old new result
    taking_went first then new result went =
        went_more library (PutsAmong (has_key was)) (PutsOff taking.done was is) (PutsOff first is then) (PutsOff (taking.done ++ first) was then) (off_join library taking.done first was is then) old now new result
        taking.ran (went_wide library (has_key is) (has_key was) wider (PutsOff first is then) now new result went)

    pub taking_more : (first rest : List (List ℕ)) (then : Keys) (new : List Sent) → left ≡ first ++ rest → Ran library (PutsAmong (has_key is)) (PutsOff first is then) now new
        → IsTaking library names rest was then old new
    taking_more first rest then new cut ran = record {
      done = taking.done ++ first;
      split = taking.split ∙ ap (λ (l : List (List ℕ)). taking.done ++ l) cut ∙ sym (append_assoc taking.done first rest);
      ran = taking_went {T = ⊤} first then new (Ok tt) ran;
    }

    pub taking_stop : (new : List Sent) (f : SyncFault) → Stopped library (PutsAmong (has_key is)) f now new → Stopped library (PutsAmong (has_key was)) f old new
    taking_stop new f stopped = taking_went {T = ⊤} [] is new (Err f) stopped

    -- all that is left is taken at once
    pub taking_last : {T : Type 0} (then : Keys) (new : List Sent) (result : Result T SyncFault) → Went library (PutsAmong (has_key is)) (PutsOff left is then) now new result
        → Went library (PutsAmong (has_key was)) (PutsOff names was then) old new result
    taking_last then new result went =
        subst (λ (l : List (List ℕ)). Went library (PutsAmong (has_key was)) (PutsOff l was then) old new result) (sym taking.split) (taking_went left then new result went)

    pub taking_end : left ≡ [] → Ran library (PutsAmong (has_key was)) (PutsOff names was is) old now
    taking_end none =
        subst (λ (l : List (List ℕ)). Ran library (PutsAmong (has_key was)) (PutsOff l was is) old now) (sym (taking.split ∙ ap (λ (l : List (List ℕ)). taking.done ++ l) none ∙ append-nil taking.done))
        taking.ran

-- ---- faults

pub change_own : (path : PathV) (f : SyncFault) → IsChange path f → is_own f ≡ true
change_own path f (inl is) = subst (λ (g : SyncFault). is_own g ≡ true) (sym is) refl
change_own path f (inr is) = subst (λ (g : SyncFault). is_own g ≡ true) (sym is) refl

pub change_put : (path : PathV) (f : SyncFault) → IsChange path f → IsPutFault path f
change_put path f (inl is) = subst (IsPutFault path) (sym is) refl
change_put path f (inr is) = subst (IsPutFault path) (sym is) tt

pub order_put : (path : PathV) (f : SyncFault) → IsOrderFault f → IsPutFault path f
order_put path (fault.Remote why) is = tt
order_put path (fault.Refused why) is = tt
order_put path fault.NoMemory is = tt
order_put path other is = absurd is

pub order_no_change : (f : SyncFault) → IsOrderFault f → IsNoChange f
order_no_change (fault.Remote why) is = tt
order_no_change (fault.Refused why) is = tt
order_no_change fault.NoMemory is = tt
order_no_change other is = absurd is

pub file_own : (path : PathV) (f : SyncFault) → IsFileFault path f → is_own f ≡ true
file_own path fault.Folder is = refl
file_own path (fault.Changed other) is = refl
file_own path fault.NoMemory is = refl
file_own path _ is = absurd is

pub file_read : (path : PathV) (f : SyncFault) → IsFileFault path f → IsReadFault path f
file_read path fault.Folder is = tt
file_read path (fault.Changed other) is = is
file_read path fault.NoMemory is = tt
file_read path _ is = absurd is

pub put_read : (path : PathV) (f : SyncFault) → IsPutFault path f → IsReadFault path f
put_read path fault.Folder is = absurd is
put_read path other is = is

pub put_reads : {T : Type 0} (path : PathV) (result : Result T SyncFault) → IfErr result (IsPutFault path) → IfErr result (IsReadFault path)
put_reads path (Ok x) is = tt
put_reads path (Err f) is = put_read path f is

put_no_folder : (path : PathV) (f : SyncFault) → IsPutFault path f → is_folder_fault f ≡ false
put_no_folder path fault.Folder is = absurd is
put_no_folder path other is = refl

-- the folder didn't fail, and its count stayed
pub put_stays : {T : Type 0} (path : PathV) (before now : ℕ) (result : Result T SyncFault) → now ≡ before → IfErr result (IsPutFault path) → FailsBy is_folder_fault before now result
put_stays path before now (Ok x) same is = same
put_stays path before now (Err f) same is = subst (λ (b : Bool). MatchBool b ((before ≤ now) × Rose before now) (now ≡ before)) (sym (put_no_folder path f is)) same

-- ---- chunks with their names in front

pub putting_start : (chunks names : List (List ℕ)) → IsPutting chunks names chunks names
putting_start chunks names = record { met = []; of_chunks = refl; of_names = refl }

pub putting_more : (chunks names more left rest : List (List ℕ)) (x : List ℕ) → IsPutting chunks names (x ∷ more) left → left ≡ sha1 x ∷ rest → IsPutting chunks names more rest
putting_more chunks names more left rest x is first = record {
  met = is.met ++ x ∷ [];
  of_chunks = is.of_chunks ∙ sym (append_assoc is.met (x ∷ []) more);
  of_names =
      is.of_names ∙ ap (λ (l : List (List ℕ)). map sha1 is.met ++ l) first ∙ sym (append_assoc (map sha1 is.met) (sha1 x ∷ []) rest)
      ∙ ap (λ (l : List (List ℕ)). l ++ rest) (sym (map-append sha1 is.met (x ∷ [])));
}

pub putting_end : (chunks names left : List (List ℕ)) → IsPutting chunks names [] left → names ≡ map sha1 chunks ++ left
putting_end chunks names left is = is.of_names ∙ ap (λ (l : List (List ℕ)). map sha1 l ++ left) (sym (is.of_chunks ∙ append-nil is.met))

-- where the names are those of the chunks, the next one is that of the next chunk
pub putting_next : (chunks names more left rest : List (List ℕ)) (x : List ℕ) → IsPutting chunks names (x ∷ more) left → names ≡ map sha1 chunks ++ rest
    → left ≡ sha1 x ∷ (map sha1 more ++ rest)
putting_next chunks names more left rest x is all =
    append_cancel_left (map sha1 is.met) left (sha1 x ∷ (map sha1 more ++ rest))
    (sym is.of_names ∙ all ∙ ap (λ (l : List (List ℕ)). map sha1 l ++ rest) is.of_chunks ∙ ap (λ (l : List (List ℕ)). l ++ rest) (map-append sha1 is.met (x ∷ more))
    ∙ append_assoc (map sha1 is.met) (sha1 x ∷ map sha1 more) rest)

-- ---- a file in the reading

-- the chunker stands behind the first bytes of the file, and the names of the chunks that ended in these are in front
pub record IsPassed (cuts : Cuts) (bytes : List ℕ) (names : List (List ℕ)) (place : ℕ) (chunker : Progress) (left : List (List ℕ)) : Type 0 where
  pub within : place ≤ length bytes
  pub begun : chunker ≡ after_piece (start_of cuts) (take place bytes)
  pub named : names ≡ map sha1 (finished_by (start_of cuts) (take place bytes)) ++ left

pub passed_start : (cuts : Cuts) (bytes : List ℕ) (names : List (List ℕ)) (chunker : Progress) → chunker ≡ start_of cuts → IsPassed cuts bytes names 0 chunker names
unfolding finished_chunks begun_after
passed_start cuts bytes names chunker is = record { within = omega arith; begun = is; named = refl }

module _ (cuts : Cuts) (bytes into : List ℕ) (names : List (List ℕ)) (place count : ℕ) (before : Progress) (left : List (List ℕ)) (is : IsPassed cuts bytes names place before left)
    (part : IsPart bytes place count into) where
  abbrev front : List ℕ
  front = take place bytes

  abbrev piece : List ℕ
  piece = take count (drop place bytes)

  pub passed_more : (after : Progress) (rest : List (List ℕ)) → after ≡ after_piece before (take count into) → left ≡ map sha1 (finished_by before (take count into)) ++ rest
      → IsPassed cuts bytes names (place + count) after rest
  passed_more after rest on first =
      let joined : take (place + count) bytes ≡ front ++ piece = take-add place count bytes in
      record {
        within = omega (arith, is.within, part.inside, length-drop place bytes);
        begun =
            on ∙ ap (after_piece before) part.same ∙ ap (λ (p : Progress). after_piece p piece) is.begun
            ∙ ap (λ (b : List ℕ). record (start_of cuts) { begun = b }) (sym (begun_after-append cuts [] front piece))
            ∙ ap (after_piece (start_of cuts)) (sym joined);
        named =
            is.named ∙ ap (λ (l : List (List ℕ)). map sha1 (finished_by (start_of cuts) front) ++ l) first
            ∙ ap (λ (x : List ℕ). map sha1 (finished_by (start_of cuts) front) ++ (map sha1 (finished_by before x) ++ rest)) part.same
            ∙ ap (λ (p : Progress). map sha1 (finished_by (start_of cuts) front) ++ (map sha1 (finished_by p piece) ++ rest)) is.begun
            ∙ sym (append_assoc (map sha1 (finished_by (start_of cuts) front)) (map sha1 (finished_chunks cuts (begun_after cuts [] front) piece)) rest)
            ∙ ap (λ (l : List (List ℕ)). l ++ rest) (sym (map-append sha1 (finished_by (start_of cuts) front) (finished_chunks cuts (begun_after cuts [] front) piece)))
            ∙ ap (λ (l : List (List ℕ)). map sha1 l ++ rest) (sym (finished_chunks-append cuts [] front piece))
            ∙ ap (λ (x : List ℕ). map sha1 (finished_by (start_of cuts) x) ++ rest) (sym joined);
      }

  -- where the names are those of the file's chunks, those of the chunks that end in the next piece are in front
  pub passed_next : names ≡ map sha1 (chunks_of cuts bytes) → (rest : List (List ℕ)) × (left ≡ map sha1 (finished_by before (take count into)) ++ rest)
  unfolding chunks_of
  passed_next all =
      let behind = drop count (drop place bytes) in
      let begun = begun_after cuts [] front in
      let first = finished_chunks cuts [] front in
      let next = finished_chunks cuts begun piece in
      let then = finished_chunks cuts (begun_after cuts begun piece) behind in
      let last = last_chunk (begun_after cuts [] bytes) in
      let split : bytes ≡ front ++ (piece ++ behind)
      = sym (take-append-drop place bytes) ∙ ap (λ (l : List ℕ). front ++ l) (sym (take-append-drop count (drop place bytes))) in
      let cut : finished_chunks cuts [] bytes ≡ first ++ (next ++ then)
      = ap (finished_chunks cuts []) split ∙ finished_chunks-append cuts [] front (piece ++ behind) ∙ ap (λ (l : List (List ℕ)). first ++ l) (finished_chunks-append cuts begun piece behind) in
      let whole : chunks_of cuts bytes ≡ first ++ (next ++ (then ++ last))
      = ap (λ (l : List (List ℕ)). l ++ last) cut ∙ append_assoc first (next ++ then) last ∙ ap (λ (l : List (List ℕ)). first ++ l) (append_assoc next then last) in
      let same : finished_by before (take count into) ≡ next
      = ap (λ (p : Progress). finished_by p (take count into)) is.begun ∙ ap (λ (x : List ℕ). finished_chunks cuts begun x) part.same in (
        map sha1 (then ++ last),
        append_cancel_left (map sha1 first) left (map sha1 (finished_by before (take count into)) ++ map sha1 (then ++ last))
            (sym is.named ∙ all ∙ ap (map sha1) whole ∙ map-append sha1 first (next ++ (then ++ last)) ∙ ap (λ (l : List (List ℕ)). map sha1 first ++ l) (map-append sha1 next (then ++ last))
            ∙ ap (λ (l : List (List ℕ)). map sha1 first ++ (map sha1 l ++ map sha1 (then ++ last))) (sym same)),
      )

-- at the end of the file the last chunk's name is left
pub passed_end : (cuts : Cuts) (bytes : List ℕ) (names : List (List ℕ)) (place : ℕ) (chunker : Progress) (left : List (List ℕ)) → IsPassed cuts bytes names place chunker left
    → place ≡ length bytes → names ≡ map sha1 (chunks_of cuts bytes) → left ≡ map sha1 (last_chunk chunker.begun)
unfolding chunks_of
passed_end cuts bytes names place chunker left is end all =
    let whole : take place bytes ≡ bytes = take_all place bytes (omega (arith, end)) in
    let first = finished_chunks cuts [] bytes in
    let last = last_chunk (begun_after cuts [] bytes) in
    append_cancel_left (map sha1 first) left (map sha1 (last_chunk chunker.begun))
    (ap (λ (x : List ℕ). map sha1 (finished_chunks cuts [] x) ++ left) (sym whole) ∙ sym is.named ∙ all ∙ map-append sha1 first last
    ∙ ap (λ (x : List ℕ). map sha1 first ++ map sha1 (last_chunk (begun_after cuts [] x))) (sym whole) ∙ ap (λ (p : Progress). map sha1 first ++ map sha1 (last_chunk p.begun)) (sym is.begun))

-- a file that ends here is as it was seen, where the last chunk's name was all that was left
pub passed_all : (cuts : Cuts) (o : Option Holding) (names : List (List ℕ)) (place size : ℕ) (chunker : Progress) (left : List (List ℕ)) (into : List ℕ) → PartAt o place 0 into
    → ((bytes : List ℕ) → o ≡ Some (File bytes) → IsPassed cuts bytes names place chunker left) → left ≡ map sha1 (last_chunk chunker.begun) → place ≡ size
    → Some (seen.File names size) ≡ option_and_then (seen_of cuts) o
unfolding chunks_of
passed_all cuts None names place size chunker left into ends passed last same = absurd ends
passed_all cuts (Some Dir) names place size chunker left into ends passed last same = absurd ends
passed_all cuts (Some Other) names place size chunker left into ends passed last same = absurd ends
passed_all cuts (Some (File bytes)) names place size chunker left into ends passed last same =
    let is = passed bytes refl in
    let none : length (drop place bytes) ≡ 0 = ap length (ends.ends.0 refl) in
    let end : place ≡ length bytes = omega (arith, is.within, none, length-drop place bytes) in
    let whole : take place bytes ≡ bytes = take_all place bytes (omega (arith, end)) in
    let first = finished_chunks cuts [] (take place bytes) in
    let named : names ≡ map sha1 (chunks_of cuts bytes)
    = is.named ∙ ap (λ (l : List (List ℕ)). map sha1 first ++ l) (last ∙ ap (λ (p : Progress). map sha1 (last_chunk p.begun)) is.begun)
    ∙ sym (map-append sha1 first (last_chunk (begun_after cuts [] (take place bytes)))) ∙ ap (λ (x : List ℕ). map sha1 (chunks_of cuts x)) whole in
    ap₂ (λ (n : List (List ℕ)) (s : ℕ). Some (seen.File n s)) named (sym same ∙ end)

-- ---- what is left to put of some chunks

pub one_taken : (left after : List (List ℕ)) (x : List ℕ) → left ≡ after ++ x ∷ [] → reverse left ≡ x ∷ reverse after
one_taken left after x is = ap reverse is ∙ reverse-append after (x ∷ [])

-- ---- the end of a file

pub last_of : {E : Type 0} (told : Result (Option (List ℕ)) E) (last : Option (List ℕ)) (begun : List ℕ) → told ≡ Ok (unfinished_of begun) → told ≡ Ok last → last ≡ unfinished_of begun
last_of told last begun is found = cc

-- nothing is left where the names were those of the chunks
pub none_left : (left rest : List (List ℕ)) (begun : List ℕ) (last : Option (List ℕ)) → last ≡ unfinished_of begun → left ≡ map sha1 (last_chunk begun) → left ≡ map sha1 (option_to_list last) ++ rest
    → (length rest == 0) ≡ false → ⊥
none_left left rest begun last same is parts some =
    let first = map sha1 (last_chunk begun) in
    let none : rest ≡ [] = append_cancel_left first rest [] (ap (λ (o : Option (List ℕ)). map sha1 (option_to_list o) ++ rest) (sym same) ∙ sym parts ∙ is ∙ sym (append-nil first)) in
    true≢false (ap (λ (l : List (List ℕ)). length l == 0) (sym none) ∙ some)

-- the chunks that were met last are all
pub last_all : (left rest : List (List ℕ)) (last : Option (List ℕ)) → left ≡ map sha1 (option_to_list last) ++ rest → (length rest == 0) ≡ true → map sha1 (option_to_list last) ≡ left
last_all left rest last is none =
    sym (is ∙ ap (λ (l : List (List ℕ)). map sha1 (option_to_list last) ++ l) (nil_from_length rest (eqb-true (length rest) 0 none)) ∙ append-nil (map sha1 (option_to_list last)))
