-- Two files, compared by their blocks, and the bytes of one. The key lemmas are one_list, two_sizes, compared, step_on, step_over and bytes_of_file.
use Rattle.std.proofs.Common.{◌≡◌, ◌≢◌, ◌≤◌, ◌+◌, ◌&&◌, ℕ, Bool, true, false, nat_eq, if◌then◌else◌, is_some, IfSome, List, [], ◌∷◌, ◌++◌, length, refl, sym, ap, ap₂, ◌∙◌, subst, subst₂, Option, None, Some, Result, Ok, Err, arith, length-append, append_assoc, take, drop, min, take-append-drop, length-take, length-drop, drop-drop, drop_of_length-le}
use Rattle.std.specs.FinMap as map
use Rattle.std.specs.Cmp.Lexicographic.{bytes_decides}
use Rattle.ids.specs.Key.{Objects}
use Rattle.fs_objects.specs.declared.file_object.FileObject.{FileObject}
use Rattle.object_graph.specs.Objects.{block_bytes, block_key, contents_of, joined, same_id}
use Rattle.object_graph.specs.Traversal.{Walk, start, walk_file_at}
use Rattle.object_graph.specs.declared.fault.TreeFault.TheVariants.{Incomplete}
use Rattle.object_graph.proofs.SchemeLemmas.{goes_on}
use Rattle.tree_walk.specs.Files.{blocks_due, file_at, file_due, files_due, rest_of, AreReady, Fronts, GoesOn, HaveSameNext}
use Rattle.tree_walk.specs.Reading.{Answers, IsDue}
use Rattle.tree_walk.specs.declared.fault.WalkFault.{WalkFault}
use Rattle.tree_walk.specs.declared.unread.Unread.{Unread}
use Rattle.tree_walk.proofs.FileLemmas.{blocks_of_file, no_block_due, walk_due, whole_due, whole_size}
use Rattle.tree_walk.proofs.StepsLemmas.{due_anywhere, due_first, due_of}

-- ---- two files

pub second_due : (objects : Objects) (left right : List ℕ) → (walk_file_at objects left start).fault ≡ None → files_due objects left right ≡ (walk_file_at objects right start).fault
second_due objects left right none =
    ap (λ (v : Walk). v.fault) (goes_on (walk_file_at objects left start) (walk_file_at objects right) none)
    ∙ walk_due objects right (walk_file_at objects left start) none ∙ sym (walk_due objects right start refl)

pub first_stops : (objects : Objects) (left right : List ℕ) (fault : WalkFault) → IsDue objects (walk_file_at objects left start).fault fault → IsDue objects (files_due objects left right) fault
first_stops objects left right fault is = due_first objects (walk_file_at objects left start) (walk_file_at objects right) fault is

pub second_stops : (objects : Objects) (left right : List ℕ) (fault : WalkFault) → (walk_file_at objects left start).fault ≡ None
    → IsDue objects (walk_file_at objects right start).fault fault → IsDue objects (files_due objects left right) fault
second_stops objects left right fault none is = due_of objects (walk_file_at objects right start).fault (files_due objects left right) (λ due at. second_due objects left right none ∙ at) fault is

pub same_itself : (xs : List ℕ) → same_id xs xs ≡ true
same_itself xs = (bytes_decides xs xs).1 refl

-- bytes of two lengths differ
pub other_lengths : (xs ys : List ℕ) → length xs ≢ length ys → same_id xs ys ≡ false
other_lengths xs ys other = by (same_id xs ys) refl
  where
    by : (b : Bool) → same_id xs ys ≡ b → same_id xs ys ≡ false
    by true is = absurd (other (ap length ((bytes_decides xs ys).0 is)))
    by false is = is

pub contents_are : (objects : Objects) (id : List ℕ) (file : FileObject) → file_at objects id ≡ Ok file → contents_of objects id ≡ joined objects file.blocks
contents_are objects id file read = ap (joined objects) (blocks_of_file objects id file read)

-- ---- fronts of both

same_append : (p q x y : List ℕ) → length p ≡ length q → same_id (p ++ x) (q ++ y) ≡ (same_id p q && same_id x y)
same_append [] [] x y e = refl
same_append [] (b ∷ q) x y e = absurd (omega arith)
same_append (a ∷ p) [] x y e = absurd (omega arith)
same_append (a ∷ p) (b ∷ q) x y e = ap (λ c. nat_eq a b && c) (same_append p q x y (omega arith)) ∙ and_assoc (nat_eq a b) (same_id p q) (same_id x y)
  where
    and_assoc : (a b c : Bool) → (a && (b && c)) ≡ ((a && b) && c)
    and_assoc true b c = refl
    and_assoc false b c = refl

pub fronts_same : (l r x y : List ℕ) (n : ℕ) → n ≡ min (length l) (length r) → take n l ≡ take n r → same_id (drop n l ++ x) (drop n r ++ y) ≡ same_id (l ++ x) (r ++ y)
fronts_same l r x y n is same =
    sym (ap₂ (λ (a b : List ℕ). same_id (a ++ x) (b ++ y)) (sym (take-append-drop n l)) (sym (take-append-drop n r))
    ∙ ap₂ same_id (append_assoc (take n l) (drop n l) x) (append_assoc (take n r) (drop n r) y)
    ∙ same_append (take n l) (take n r) (drop n l ++ x) (drop n r ++ y) (ap length same)
    ∙ ap (λ b. b && same_id (drop n l ++ x) (drop n r ++ y)) (ap (λ xs. same_id (take n l) xs) (sym same) ∙ same_itself (take n l)))

pub fronts_differ : (l r x y : List ℕ) → same_id (take (min (length l) (length r)) l) (take (min (length l) (length r)) r) ≡ false → same_id (l ++ x) (r ++ y) ≡ false
fronts_differ l r x y differ =
    let n : ℕ = min (length l) (length r) in
    let lengths : length (take n l) ≡ length (take n r) = omega (arith, length-take {A = ℕ}) in
    ap₂ (λ (a b : List ℕ). same_id (a ++ x) (b ++ y)) (sym (take-append-drop n l)) (sym (take-append-drop n r))
    ∙ ap₂ same_id (append_assoc (take n l) (drop n l) x) (append_assoc (take n r) (drop n r) y)
    ∙ same_append (take n l) (take n r) (drop n l ++ x) (drop n r ++ y) lengths
    ∙ ap (λ b. b && same_id (drop n l ++ x) (drop n r ++ y)) differ

-- the bytes of a whole file
pub bytes_of_file : (objects : Objects) (id : List ℕ) (file : FileObject) (result : Result (List ℕ) WalkFault) → (walk_file_at objects id start).fault ≡ None → file_at objects id ≡ Ok file
    → Answers objects (blocks_due objects file.blocks) (λ bytes. bytes ≡ joined objects file.blocks) result → Answers objects (walk_file_at objects id start).fault (λ bytes. bytes ≡ contents_of objects id) result
bytes_of_file objects id file (Ok bytes) none read is = (none, is.1 ∙ sym (contents_are objects id file read))
bytes_of_file objects id file (Err fault) none read is =
    due_anywhere objects (walk_file_at objects id start).fault fault
    (subst (λ due. IsDue objects due fault) (no_block_due objects id file (sym (whole_due objects id file read) ∙ none)) is)

-- ---- steps of a comparison

-- the same bytes at the front of both
pub step_on : (objects : Objects) (l r : Unread) (count : ℕ) → AreReady objects l r → Fronts (drop l.place l.block) (drop r.place r.block) (Some count)
    → GoesOn objects l r (record l { place = l.place + count }) (record r { place = r.place + count })
step_on objects l r count ready fronts =
    let x : List ℕ = joined objects l.blocks.now in
    let y : List ℕ = joined objects r.blocks.now in
    let at_left : drop (l.place + count) l.block ≡ drop count (drop l.place l.block) = dropped l.place count l.block in
    let at_right : drop (r.place + count) r.block ≡ drop count (drop r.place r.block) = dropped r.place count r.block in
    let same : same_id (drop (l.place + count) l.block ++ x) (drop (r.place + count) r.block ++ y) ≡ same_id (rest_of objects l) (rest_of objects r) =
    ap₂ (λ (a b : List ℕ). same_id (a ++ x) (b ++ y)) at_left at_right ∙ fronts_same (drop l.place l.block) (drop r.place r.block) x y count fronts.0 fronts.1 in
    let left_less : length (drop count (drop l.place l.block)) + count ≡ length (drop l.place l.block) = omega (arith, length-drop count (drop l.place l.block), fronts.0) in
    let right_less : length (drop count (drop r.place r.block)) + count ≡ length (drop r.place r.block) = omega (arith, length-drop count (drop r.place r.block), fronts.0) in
    let before : length (drop l.place l.block) + length x ≡ length (drop r.place r.block) + length y =
    sym (length-append (drop l.place l.block) x) ∙ ready.bound ∙ length-append (drop r.place r.block) y in
    let after : length (drop count (drop l.place l.block)) + length x ≡ length (drop count (drop r.place r.block)) + length y = omega (arith, left_less, right_less, before) in
    record {
      ready = record {
        left_held = ready.left_held;
        right_held = ready.right_held;
        left_stored = ready.left_stored;
        right_stored = ready.right_stored;
        bound =
            ap (λ a. length (a ++ x)) at_left ∙ length-append (drop count (drop l.place l.block)) x ∙ after
            ∙ sym (length-append (drop count (drop r.place r.block)) y) ∙ ap (λ b. length (b ++ y)) (sym at_right);
      };
      same = same;
    }
  where
    dropped : (p n : ℕ) (xs : List ℕ) → drop (p + n) xs ≡ drop n (drop p xs)
    dropped p n xs = sym (drop-drop n p xs)

pub step_apart : (objects : Objects) (l r : Unread) → Fronts (drop l.place l.block) (drop r.place r.block) None → false ≡ same_id (rest_of objects l) (rest_of objects r)
step_apart objects l r fronts = sym (fronts_differ (drop l.place l.block) (drop r.place r.block) (joined objects l.blocks.now) (joined objects r.blocks.now) fronts)

-- the blocks after one that is stored
stored_after : (objects : Objects) (id : List ℕ) (ids all : List (List ℕ)) → all ≡ id ∷ ids → blocks_due objects all ≡ None → blocks_due objects ids ≡ None
stored_after objects id ids all is none = by (is_some (map.get objects (block_key id))) (ap (blocks_due objects) (sym is) ∙ none)
  where
    by : (b : Bool) → (if b then blocks_due objects ids else Some (Incomplete (block_key id))) ≡ None → blocks_due objects ids ≡ None
    by true none = none
    by false none = cc

-- what is left, where nothing is left in memory
rest_at_end : (objects : Objects) (u : Unread) (id : List ℕ) (ids : List (List ℕ)) → length u.block ≤ u.place → u.blocks.now ≡ id ∷ ids → rest_of objects u ≡ block_bytes objects id ++ joined objects ids
rest_at_end objects u id ids end next = ap₂ (λ (front : List ℕ) (all : List (List ℕ)). front ++ joined objects all) (drop_of_length-le u.block end) next

-- the next block is the same of both, and is passed over
pub step_over : (objects : Objects) (l r later_l later_r : Unread) → AreReady objects l r → HaveSameNext l r later_l.blocks.now later_r.blocks.now
    → later_l.held ≡ l.held → later_l.block ≡ l.block → later_l.place ≡ l.place → later_r.held ≡ r.held → later_r.block ≡ r.block → later_r.place ≡ r.place
    → GoesOn objects l r later_l later_r
step_over objects l r later_l later_r ready next held_l block_l place_l held_r block_r place_r =
    let xs : List ℕ = joined objects later_l.blocks.now in
    let ys : List ℕ = joined objects later_r.blocks.now in
    let own : List ℕ = block_bytes objects next.id in
    let before_l : rest_of objects l ≡ own ++ xs = rest_at_end objects l next.id later_l.blocks.now next.left_end next.left_next in
    let before_r : rest_of objects r ≡ own ++ ys = rest_at_end objects r next.id later_r.blocks.now next.right_end next.right_next in
    let after_l : rest_of objects later_l ≡ xs =
    ap₂ (λ (n : ℕ) (b : List ℕ). drop n b ++ xs) place_l block_l ∙ ap (λ (front : List ℕ). front ++ xs) (drop_of_length-le l.block next.left_end) in
    let after_r : rest_of objects later_r ≡ ys =
    ap₂ (λ (n : ℕ) (b : List ℕ). drop n b ++ ys) place_r block_r ∙ ap (λ (front : List ℕ). front ++ ys) (drop_of_length-le r.block next.right_end) in
    let both : length own + length xs ≡ length own + length ys =
    sym (length-append own xs) ∙ ap length (sym before_l) ∙ ready.bound ∙ ap length before_r ∙ length-append own ys in
    record {
      ready = record {
        left_held = subst₂ (λ (h : Option (List ℕ)) (b : List ℕ). IfSome h (λ id. block_bytes objects id ≡ b)) (sym held_l) (sym block_l) ready.left_held;
        right_held = subst₂ (λ (h : Option (List ℕ)) (b : List ℕ). IfSome h (λ id. block_bytes objects id ≡ b)) (sym held_r) (sym block_r) ready.right_held;
        left_stored = stored_after objects next.id later_l.blocks.now l.blocks.now next.left_next ready.left_stored;
        right_stored = stored_after objects next.id later_r.blocks.now r.blocks.now next.right_next ready.right_stored;
        bound = ap length after_l ∙ omega (arith, both) ∙ ap length (sym after_r);
      };
      same =
          ap₂ same_id after_l after_r
          ∙ sym (ap₂ same_id before_l before_r ∙ same_append own own xs ys refl ∙ ap (λ b. b && same_id xs ys) (same_itself own));
    }

-- ---- two whole files

-- a file that was read whole
pub record IsWhole (objects : Objects) (id : List ℕ) (file : FileObject) : Type 0 where
  pub none : (walk_file_at objects id start).fault ≡ None
  pub read : file_at objects id ≡ Ok file

pub due_of_whole : (objects : Objects) (id : List ℕ) (file : FileObject) → IsWhole objects id file → file_due objects id file ≡ None
due_of_whole objects id file whole = sym (whole_due objects id file whole.read) ∙ whole.none

pub one_list : (objects : Objects) (left right : List ℕ) (l r : FileObject) (xs ys : List (List ℕ)) → IsWhole objects left l → IsWhole objects right r
    → xs ≡ l.blocks → ys ≡ r.blocks → xs ≡ ys
    → files_due objects left right ≡ None × true ≡ same_id (contents_of objects left) (contents_of objects right)
one_list objects left right l r xs ys whole other at_left at_right same = (
  second_due objects left right whole.none ∙ other.none,
  sym ((bytes_decides (contents_of objects left) (contents_of objects right)).1
      (contents_are objects left l whole.read ∙ ap (joined objects) (sym at_left ∙ same ∙ at_right) ∙ sym (contents_are objects right r other.read))),
)

pub two_sizes : (objects : Objects) (left right : List ℕ) (l r : FileObject) → IsWhole objects left l → IsWhole objects right r → l.size ≢ r.size
    → files_due objects left right ≡ None × false ≡ same_id (contents_of objects left) (contents_of objects right)
two_sizes objects left right l r whole other apart = (
  second_due objects left right whole.none ∙ other.none,
  sym (ap₂ same_id (contents_are objects left l whole.read) (contents_are objects right r other.read)
      ∙ other_lengths (joined objects l.blocks) (joined objects r.blocks)
      (λ same. apart (whole_size objects left l (due_of_whole objects left l whole) ∙ same ∙ sym (whole_size objects right r (due_of_whole objects right r other))))),
)

pub blocks_compared : (objects : Objects) (left right : List ℕ) (l r : FileObject) (result : Result Bool WalkFault) → IsWhole objects left l → IsWhole objects right r
    → Answers objects None (λ same. same ≡ same_id (joined objects l.blocks) (joined objects r.blocks)) result
    → Answers objects (files_due objects left right) (λ same. same ≡ same_id (contents_of objects left) (contents_of objects right)) result
blocks_compared objects left right l r (Ok same) whole other is = (
  second_due objects left right whole.none ∙ other.none,
  is.1 ∙ ap₂ same_id (sym (contents_are objects left l whole.read)) (sym (contents_are objects right r other.read)),
)
blocks_compared objects left right l r (Err fault) whole other is = due_anywhere objects (files_due objects left right) fault is

pub compared : (objects : Objects) (left right : List ℕ) (l r : FileObject) (xs ys : List (List ℕ)) (result : Result Bool WalkFault) → IsWhole objects left l → IsWhole objects right r
    → xs ≡ l.blocks → ys ≡ r.blocks → l.size ≡ r.size
    → (blocks_due objects xs ≡ None → blocks_due objects ys ≡ None → length (joined objects xs) ≡ length (joined objects ys) → Answers objects None (λ same. same ≡ same_id (joined objects xs) (joined objects ys)) result)
    → Answers objects (files_due objects left right) (λ same. same ≡ same_id (contents_of objects left) (contents_of objects right)) result
compared objects left right l r xs ys result whole other at_left at_right sizes answers =
    let none_left : blocks_due objects l.blocks ≡ None = no_block_due objects left l (due_of_whole objects left l whole) in
    let none_right : blocks_due objects r.blocks ≡ None = no_block_due objects right r (due_of_whole objects right r other) in
    let lengths : length (joined objects l.blocks) ≡ length (joined objects r.blocks) =
    sym (whole_size objects left l (due_of_whole objects left l whole)) ∙ sizes ∙ whole_size objects right r (due_of_whole objects right r other) in
    let is : Answers objects None (λ same. same ≡ same_id (joined objects xs) (joined objects ys)) result =
    answers (ap (blocks_due objects) at_left ∙ none_left) (ap (blocks_due objects) at_right ∙ none_right)
    (ap (λ ids. length (joined objects ids)) at_left ∙ lengths ∙ ap (λ ids. length (joined objects ids)) (sym at_right)) in
    blocks_compared objects left right l r result whole other
    (subst₂ (λ (us vs : List (List ℕ)). Answers objects None (λ same. same ≡ same_id (joined objects us) (joined objects vs)) result) at_left at_right is)
