-- Files: what is wrong with them, their sizes and their bytes. The key lemmas are file_walk, sizes_end, joins_end and
-- blocks_of_file.
use Rattle.std.proofs.Common.{◌≡◌, ◌≢◌, ◌≤◌, ◌<◌, ◌+◌, ◌^◌, ◌==◌, ℕ, Bool, true, false, nat_lt, if◌then◌else◌, is_some, List, [], ◌∷◌, ◌++◌, length, refl, sym, ap, ap₂, ◌∙◌, subst, Option, None, Some, Result, Ok, Err, option_map, unwrap_or, arith, length-append, append_assoc, append-nil, eqb-true, eq-eqb, ne_eqb, ltb-false, le-ltb, lt-ltb}
use Rattle.std.specs.FinMap as map
use Rattle.ids.specs.Key.{Objects}
use Rattle.ids.specs.declared.key.Key.{Key}
use Rattle.tree_model.specs.Path.{PathV}
use Rattle.fs_objects.specs.declared.file_object.FileObject.{FileObject}
use Rattle.fs_objects.specs.declared.fs_object.FsObject.{FsObject}
use Rattle.fs_objects.specs.declared.fs_object.FsObject.TheVariants as fs
use Rattle.object_graph.specs.Objects.{block_bytes, block_key, blocks_at, blocks_of, fs_at, fs_key, is_nil, joined}
use Rattle.object_graph.specs.Traversal.{Walk, start, visited, failed, then_walk, then_read, walk_blocks, walk_below, walk_file, walk_file_at, walk_found, walk_object, sized}
use Rattle.object_graph.specs.declared.fault.TreeFault.{TreeFault}
use Rattle.object_graph.specs.declared.fault.TreeFault.TheVariants.{Incomplete, WrongSize}
use Rattle.object_graph.proofs.SchemeLemmas.{goes_on, stands_still}
use Rattle.tree_walk.specs.Files.{added, added_all, as_file, blocks_due, file_at, file_due, first_due, fitting, size_due}
use Rattle.tree_walk.specs.Reading.{AnswersRead, IsDue, stored_at, stored_in}
use Rattle.tree_walk.specs.declared.fault.WalkFault.{WalkFault}
use Rattle.tree_walk.proofs.StepsLemmas.{due_anywhere, due_of, due_unread}

-- ---- what is wrong with a file

pub blocks_walk : (objects : Objects) (ids : List (List ℕ)) (w : Walk) → w.fault ≡ None → (walk_blocks true objects ids w).fault ≡ blocks_due objects ids
blocks_walk objects [] w clear = clear
blocks_walk objects (id ∷ ids) w clear = by (is_some (map.get objects (block_key id))) (blocks_walk objects ids (visited (block_key id) w) clear)
  where
    by : (b : Bool) → (walk_blocks true objects ids (visited (block_key id) w)).fault ≡ blocks_due objects ids
        → (then_walk (if b then visited (block_key id) w else failed (Incomplete (block_key id)) (visited (block_key id) w)) (walk_blocks true objects ids)).fault
        ≡ (if b then blocks_due objects ids else Some (Incomplete (block_key id)))
    by true rest = ap (λ (v : Walk). v.fault) (goes_on (visited (block_key id) w) (walk_blocks true objects ids) clear) ∙ rest
    by false rest = refl

pub file_walk : (objects : Objects) (id : List ℕ) (file : FileObject) (w : Walk) → w.fault ≡ None → (walk_file true objects id file w).fault ≡ file_due objects id file
file_walk objects id file w clear =
    by (walk_blocks true objects file.blocks w) (blocks_due objects file.blocks) (blocks_walk objects file.blocks w clear)
  where
    size : (v : Walk) → v.fault ≡ None → (b : Bool) → (if b then v else failed (WrongSize id) v).fault ≡ (if b then None else Some (WrongSize id))
    size v none true = none
    size v none false = refl

    by : (v : Walk) (o : Option TreeFault) → v.fault ≡ o → (then_walk v (sized true objects id file)).fault ≡ first_due o (size_due objects id file)
    by v None is = ap (λ (u : Walk). u.fault) (goes_on v (sized true objects id file) is) ∙ size v is (file.size == length (joined objects file.blocks))
    by v (Some fault) is = ap (λ (u : Walk). u.fault) (stands_still v (sized true objects id file) fault is) ∙ is

-- what is due of a file that was read
abbrev pub due_read : Objects → List ℕ → Result FileObject TreeFault → Option TreeFault
due_read objects id (Ok file) = file_due objects id file
due_read objects id (Err fault) = Some fault

pub walk_due : (objects : Objects) (id : List ℕ) (w : Walk) → w.fault ≡ None → (walk_file_at objects id w).fault ≡ due_read objects id (file_at objects id)
walk_due objects id w clear = by (is_nil id)
  where
    read : (r : Result FsObject TreeFault) → (then_read r (walk_found true objects (walk_below true objects 100) false [] id) (visited (fs_key id) w)).fault ≡ due_read objects id (as_file id r)
    read (Ok (fs.File file)) = file_walk objects id file (visited (fs_key id) w) clear
    read (Ok (fs.Dir entries)) = refl
    read (Err fault) = refl

    by : (n : Bool) → (if n then w else then_read (fs_at objects id) (walk_found true objects (walk_below true objects 100) false [] id) (visited (fs_key id) w)).fault
        ≡ due_read objects id (if n then Ok (record { blocks = []; size = 0 }) else as_file id (fs_at objects id))
    by true = clear
    by false = read (fs_at objects id)

-- a file is traversed the same at any path
pub file_anywhere : (objects : Objects) (less : ℕ) (path : PathV) (id : List ℕ) (w : Walk) → walk_object true objects (walk_below true objects less) false path id w ≡ walk_file_at objects id w
file_anywhere objects less path id w = by (is_nil id)
  where
    read : (v : Walk) (r : Result FsObject TreeFault) → then_read r (walk_found true objects (walk_below true objects less) false path id) v ≡ then_read r (walk_found true objects (walk_below true objects 100) false [] id) v
    read v (Ok (fs.File file)) = refl
    read v (Ok (fs.Dir entries)) = refl
    read v (Err fault) = refl

    by : (n : Bool) → (if n then w else then_read (fs_at objects id) (walk_found true objects (walk_below true objects less) false path id) (visited (fs_key id) w))
        ≡ (if n then w else then_read (fs_at objects id) (walk_found true objects (walk_below true objects 100) false [] id) (visited (fs_key id) w))
    by true = refl
    by false = read (visited (fs_key id) w) (fs_at objects id)

-- a file that was read, and is whole or not
pub whole_due : (objects : Objects) (id : List ℕ) (file : FileObject) → file_at objects id ≡ Ok file → (walk_file_at objects id start).fault ≡ file_due objects id file
whole_due objects id file read = walk_due objects id start refl ∙ ap (due_read objects id) read

pub file_stops : (objects : Objects) (id : List ℕ) (file : FileObject) (w : Walk) (fault : WalkFault) → w.fault ≡ None → file_at objects id ≡ Ok file → IsDue objects (file_due objects id file) fault
    → IsDue objects (walk_file_at objects id w).fault fault
file_stops objects id file w fault clear read is =
    due_of objects (file_due objects id file) (walk_file_at objects id w).fault (λ due at. walk_due objects id w clear ∙ ap (due_read objects id) read ∙ at) fault is

pub unread_stops : (objects : Objects) (id : List ℕ) (w : Walk) (fault : WalkFault) → w.fault ≡ None → AnswersRead objects (file_at objects id) (Err fault) → IsDue objects (walk_file_at objects id w).fault fault
unread_stops objects id w fault clear is =
    due_unread objects (walk_file_at objects id w).fault (file_at objects id) (λ due at. walk_due objects id w clear ∙ ap (due_read objects id) at) fault is

-- the blocks of a whole file are stored, and its size is that of its bytes
pub no_block_due : (objects : Objects) (id : List ℕ) (file : FileObject) → file_due objects id file ≡ None → blocks_due objects file.blocks ≡ None
no_block_due objects id file none = by (blocks_due objects file.blocks) none
  where
    by : (o : Option TreeFault) → first_due o (size_due objects id file) ≡ None → o ≡ None
    by None none = refl
    by (Some fault) none = none

pub whole_size : (objects : Objects) (id : List ℕ) (file : FileObject) → file_due objects id file ≡ None → file.size ≡ length (joined objects file.blocks)
whole_size objects id file none = eqb-true file.size (length (joined objects file.blocks)) (size (file.size == length (joined objects file.blocks)) (by (blocks_due objects file.blocks) none))
  where
    by : (o : Option TreeFault) → first_due o (size_due objects id file) ≡ None → size_due objects id file ≡ None
    by None none = none
    by (Some fault) none = cc

    size : (b : Bool) → (if b then None else Some (WrongSize id)) ≡ None → b ≡ true
    size true none = refl
    size false none = cc

pub blocks_of_file : (objects : Objects) (id : List ℕ) (file : FileObject) → file_at objects id ≡ Ok file → blocks_at objects id ≡ file.blocks
blocks_of_file objects id file = by (is_nil id)
  where
    read : (r : Result FsObject TreeFault) → as_file id r ≡ Ok file → blocks_of r ≡ file.blocks
    read (Ok (fs.File f)) is = let same : f ≡ file = cc in ap (λ (x : FileObject). x.blocks) same
    read (Ok (fs.Dir entries)) is = cc
    read (Err fault) is = cc

    by : (n : Bool) → (if n then Ok (record { blocks = []; size = 0 }) else as_file id (fs_at objects id)) ≡ Ok file → (if n then [] else blocks_of (fs_at objects id)) ≡ file.blocks
    by true is = let same : record { blocks = []; size = 0 } ≡ file = ok_is is in ap (λ (x : FileObject). x.blocks) same
      where
        ok_is : {x : FileObject} → (let r : Result FileObject TreeFault = Ok x in r) ≡ Ok file → x ≡ file
        ok_is e = cc
    by false is = read (fs_at objects id) is

-- ---- the size of blocks

added-fitting : (n size : ℕ) → added (fitting n) size ≡ fitting (n + size)
added-fitting n size = by (nat_lt n (2 ^ 64)) refl
  where
    by : (b : Bool) → nat_lt n (2 ^ 64) ≡ b → added (if b then Some n else None) size ≡ fitting (n + size)
    by true is = refl
    by false is = ap (λ (c : Bool). if c then Some (n + size) else None) (sym (le-ltb (n + size) (2 ^ 64) large))
      where
        large : 2 ^ 64 ≤ n + size
        large = omega (arith, ltb-false n (2 ^ 64) is)

added_all-fitting : (objects : Objects) (ids : List (List ℕ)) (n : ℕ) → added_all objects (fitting n) ids ≡ fitting (n + length (joined objects ids))
added_all-fitting objects [] n = ap fitting (omega arith)
added_all-fitting objects (id ∷ ids) n =
    ap (λ (t : Option ℕ). added_all objects t ids) (added-fitting n (length (block_bytes objects id)))
    ∙ added_all-fitting objects ids (n + length (block_bytes objects id))
    ∙ ap fitting (omega (arith, length-append (block_bytes objects id) (joined objects ids)))

-- the sizes of the blocks so far, with those of the rest, are those of all
pub record Sizes (objects : Objects) (all rest : List (List ℕ)) (total : Option ℕ) : Type 0 where
  pub due : blocks_due objects rest ≡ blocks_due objects all
  pub sum : added_all objects total rest ≡ added_all objects (Some 0) all

pub sizes_next : (objects : Objects) (all rest : List (List ℕ)) (id : List ℕ) (key : Key) (size : ℕ) (total : Option ℕ) → Sizes objects all (id ∷ rest) total → key ≡ block_key id
    → Some size ≡ option_map length (map.get objects key) → Sizes objects all rest (added total size)
sizes_next objects all rest id key size total sizes at found = by (map.get objects (block_key id)) refl (found ∙ ap (λ k. option_map length (map.get objects k)) at)
  where
    by : (o : Option (List ℕ)) → map.get objects (block_key id) ≡ o → Some size ≡ option_map length o → Sizes objects all rest (added total size)
    by None is found = cc
    by (Some bytes) is found =
        let same : size ≡ length bytes = cc in
        record {
          due = ap (λ (o : Option (List ℕ)). if is_some o then blocks_due objects rest else Some (Incomplete (block_key id))) (sym is) ∙ sizes.due;
          sum = ap (λ n. added_all objects (added total n) rest) (same ∙ ap (λ (o : Option (List ℕ)). length (unwrap_or o [])) (sym is)) ∙ sizes.sum;
        }

pub sizes_missing : (objects : Objects) (all rest : List (List ℕ)) (id : List ℕ) (key : Key) (total : Option ℕ) → Sizes objects all (id ∷ rest) total → key ≡ block_key id
    → None ≡ option_map length (map.get objects key) → blocks_due objects all ≡ Some (Incomplete key)
sizes_missing objects all rest id key total sizes at found = by (map.get objects (block_key id)) refl (found ∙ ap (λ k. option_map length (map.get objects k)) at)
  where
    by : (o : Option (List ℕ)) → map.get objects (block_key id) ≡ o → None ≡ option_map length o → blocks_due objects all ≡ Some (Incomplete key)
    by None is found = sym sizes.due ∙ ap (λ (o : Option (List ℕ)). if is_some o then blocks_due objects rest else Some (Incomplete (block_key id))) is ∙ ap (λ k. Some (Incomplete k)) (sym at)
    by (Some bytes) is found = cc

pub sizes_end : (objects : Objects) (all : List (List ℕ)) (total : Option ℕ) → Sizes objects all [] total → blocks_due objects all ≡ None × total ≡ fitting (length (joined objects all))
sizes_end objects all total sizes = (sym sizes.due, sizes.sum ∙ added_all-fitting objects all 0 ∙ ap fitting (omega arith))

fitting_is : (n m : ℕ) → fitting n ≡ Some m → m ≡ n
fitting_is n m is = by (nat_lt n (2 ^ 64)) is
  where
    by : (b : Bool) → (if b then Some n else None) ≡ Some m → m ≡ n
    by true is = cc
    by false is = cc

-- the size that is told is that of the blocks, or it isn't
pub size_right : (objects : Objects) (id : List ℕ) (file : FileObject) (total : Option ℕ) → blocks_due objects file.blocks ≡ None → total ≡ fitting (length (joined objects file.blocks))
    → total ≡ Some file.size → file_due objects id file ≡ None
size_right objects id file total none is same =
    let equal : file.size ≡ length (joined objects file.blocks) = fitting_is (length (joined objects file.blocks)) file.size (sym is ∙ same) in
    ap₂ (λ (o : Option TreeFault) (b : Bool). first_due o (if b then None else Some (WrongSize id))) none (eq-eqb file.size (length (joined objects file.blocks)) equal)

pub size_wrong : (objects : Objects) (id : List ℕ) (file : FileObject) (total : Option ℕ) → blocks_due objects file.blocks ≡ None → total ≡ fitting (length (joined objects file.blocks))
    → total ≢ Some file.size → file.size < 2 ^ 64 → file_due objects id file ≡ Some (WrongSize id)
size_wrong objects id file total none is other small =
    ap₂ (λ (o : Option TreeFault) (b : Bool). first_due o (if b then None else Some (WrongSize id))) none (ne_eqb file.size (length (joined objects file.blocks)) differs)
  where
    differs : file.size ≢ length (joined objects file.blocks)
    differs same = other (is ∙ ap fitting (sym same) ∙ ap (λ (b : Bool). if b then Some file.size else None) (lt-ltb file.size (2 ^ 64) small))

-- ---- the bytes of blocks

pub record Joins (objects : Objects) (all rest : List (List ℕ)) (bytes : List ℕ) : Type 0 where
  pub due : blocks_due objects rest ≡ blocks_due objects all
  pub joins : bytes ++ joined objects rest ≡ joined objects all

stored_key : (objects : Objects) (key : Key) (bytes : List ℕ) → stored_at objects key ≡ Ok bytes → map.get objects key ≡ Some bytes
stored_key objects key bytes is = by (map.get objects key) is
  where
    by : (o : Option (List ℕ)) → stored_in key o ≡ Ok bytes → o ≡ Some bytes
    by None is = cc
    by (Some given) is = let same : given ≡ bytes = cc in ap Some same

pub joins_next : (objects : Objects) (all rest : List (List ℕ)) (id : List ℕ) (key : Key) (bytes more : List ℕ) → Joins objects all (id ∷ rest) bytes → key ≡ block_key id
    → stored_at objects key ≡ Ok more → Joins objects all rest (bytes ++ more)
joins_next objects all rest id key bytes more joins at read =
    let found : map.get objects (block_key id) ≡ Some more = ap (map.get objects) (sym at) ∙ stored_key objects key more read in
    record {
      due = ap (λ (o : Option (List ℕ)). if is_some o then blocks_due objects rest else Some (Incomplete (block_key id))) (sym found) ∙ joins.due;
      joins = append_assoc bytes more (joined objects rest) ∙ ap (λ (o : Option (List ℕ)). bytes ++ (unwrap_or o [] ++ joined objects rest)) (sym found) ∙ joins.joins;
    }

pub joins_stop : (objects : Objects) (all rest : List (List ℕ)) (id : List ℕ) (key : Key) (bytes : List ℕ) (fault : WalkFault) → Joins objects all (id ∷ rest) bytes → key ≡ block_key id
    → AnswersRead objects (stored_at objects key) (Err fault) → IsDue objects (blocks_due objects all) fault
joins_stop objects all rest id key bytes fault joins at read = by (map.get objects (block_key id)) refl (subst (λ k. AnswersRead objects (stored_at objects k) (Err fault)) at read)
  where
    by : (o : Option (List ℕ)) → map.get objects (block_key id) ≡ o → AnswersRead objects (stored_in (block_key id) o) (Err fault) → IsDue objects (blocks_due objects all) fault
    by None is read =
        due_of objects (Some (Incomplete (block_key id))) (blocks_due objects all)
        (λ due e. sym joins.due ∙ ap (λ (o : Option (List ℕ)). if is_some o then blocks_due objects rest else Some (Incomplete (block_key id))) is ∙ e) fault read
    by (Some given) is read = due_anywhere objects (blocks_due objects all) fault read

pub joins_end : (objects : Objects) (all : List (List ℕ)) (bytes : List ℕ) → Joins objects all [] bytes → blocks_due objects all ≡ None × bytes ≡ joined objects all
joins_end objects all bytes joins = (sym joins.due, sym (append-nil bytes) ∙ joins.joins)
