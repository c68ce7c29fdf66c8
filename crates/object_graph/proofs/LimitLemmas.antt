-- A traversal without a fault counts at most 1,000,000 paths, and has none from another start or without the blocks. The
-- key lemmas are root_bounded, object_spared and root_spared.
use Rattle.std.proofs.Common.{◌≡◌, ℕ, ◌+◌, ◌≤◌, ◌<◌, ◌==◌, Bool, true, false, if◌then◌else◌, is_some, nat_lt, List, [], ◌∷◌, length, refl, sym, ap, ◌∙◌, subst, Option, None, Some, Result, Ok, Err, ltb-false, ltb-true, arith}
use Rattle.std.specs.FinMap as map
use Rattle.ids.specs.Key.{Objects}
use Rattle.tree_model.specs.Path.{PathV}
use Rattle.tree_model.specs.declared.limits.TheConstants.{MAX_PATHS, MAX_NAMES}
use Rattle.fs_objects.specs.declared.file_object.FileObject.{FileObject}
use Rattle.fs_objects.specs.declared.fs_object.FsObject.{FsObject}
use Rattle.object_graph.specs.Objects.{fs_key, block_key, fs_at, joined}
use Rattle.object_graph.specs.Traversal.{Walk, start, visited, failed, counted, next_by, then_walk, then_read, walk_block, walk_blocks, sized, walk_file, walk_object, walk_below, walk_root}
use Rattle.object_graph.specs.declared.fault.TreeFault.{TreeFault}
use Rattle.object_graph.specs.declared.fault.TreeFault.TheVariants.{Incomplete, WrongSize, TooMany}
use Rattle.object_graph.proofs.SchemeLemmas.{Step, Scheme, along_root, along_object, along_below, none_before, goes_on}

unfoldable pub counted_with : Walk → Bool → Walk
counted_with w b = if b then failed (TooMany (w.paths + 1)) (record w { paths = w.paths + 1 }) else record w { paths = w.paths + 1 }

-- where a path may still be counted
pub counted_none : (w : Walk) → (counted w).fault ≡ None → counted w ≡ record w { paths = w.paths + 1 }
unfolding counted_with
counted_none w = by (nat_lt MAX_PATHS (w.paths + 1))
  where
    by : (b : Bool) → (counted_with w b).fault ≡ None → counted_with w b ≡ record w { paths = w.paths + 1 }
    by true none = cc
    by false none = refl

pub counted_within : (w : Walk) → (counted w).fault ≡ None → w.paths + 1 ≤ MAX_PATHS
unfolding counted_with
counted_within w = by (nat_lt MAX_PATHS (w.paths + 1)) refl
  where
    by : (b : Bool) → nat_lt MAX_PATHS (w.paths + 1) ≡ b → (counted_with w b).fault ≡ None → w.paths + 1 ≤ MAX_PATHS
    by true is none = cc
    by false is none = ltb-false MAX_PATHS (w.paths + 1) is

-- ---- blocks and sizes count no path

pub block_paths : (blocks : Bool) (A : Objects) (id : List ℕ) (w : Walk) → (walk_block blocks A id w).paths ≡ w.paths
block_paths blocks A id w = by (is_some (map.get A (block_key id)))
  where
    by : (b : Bool) → (if b then visited (block_key id) w else failed (Incomplete (block_key id)) (visited (block_key id) w)).paths ≡ w.paths
    by true = refl
    by false = refl

pub next_paths : (w : Walk) (step : Step) → ((v : Walk) → (step v).paths ≡ v.paths) → (then_walk w step).paths ≡ w.paths
next_paths w step same = by w.fault
  where
    by : (o : Option TreeFault) → (next_by o step w).paths ≡ w.paths
    by None = same w
    by (Some fault) = refl

pub blocks_paths : (blocks : Bool) (A : Objects) (ids : List (List ℕ)) (w : Walk) → (walk_blocks blocks A ids w).paths ≡ w.paths
blocks_paths blocks A [] w = refl
blocks_paths blocks A (id ∷ ids) w = next_paths (walk_block blocks A id w) (walk_blocks blocks A ids) (blocks_paths blocks A ids) ∙ block_paths blocks A id w

pub sized_paths : (blocks : Bool) (A : Objects) (id : List ℕ) (file : FileObject) (w : Walk) → (sized blocks A id file w).paths ≡ w.paths
sized_paths blocks A id file w = by (file.size == length (joined A file.blocks))
  where
    by : (b : Bool) → (if b then w else failed (WrongSize id) w).paths ≡ w.paths
    by true = refl
    by false = refl

pub file_paths : (blocks : Bool) (A : Objects) (id : List ℕ) (file : FileObject) (w : Walk) → (walk_file blocks A id file w).paths ≡ w.paths
file_paths true A id file w = next_paths (walk_blocks true A file.blocks w) (sized true A id file) (sized_paths true A id file) ∙ blocks_paths true A file.blocks w
file_paths false A id file w = refl

-- ---- the limit

pub record Bounded (f : Step) : Type 0 where
  pub bounded : (w : Walk) → w.paths ≤ MAX_PATHS → (f w).fault ≡ None → (f w).paths ≤ MAX_PATHS

bounded_same : (f : Step) → ((w : Walk) → (f w).paths ≡ w.paths) → Bounded f
bounded_same f same = record { bounded = λ w few none. subst (λ n. n ≤ MAX_PATHS) (sym (same w)) few }

bounded_after : (f next : Step) → Bounded f → Bounded next → Bounded (λ w. then_walk (f w) next)
bounded_after f next first second = record { bounded = bounded }
  where
    bounded : (w : Walk) → w.paths ≤ MAX_PATHS → (then_walk (f w) next).fault ≡ None → (then_walk (f w) next).paths ≤ MAX_PATHS
    bounded w few none =
        let early = none_before (f w) next none in
        let on = goes_on (f w) next early in
        let late : (next (f w)).fault ≡ None = ap (λ (v : Walk). v.fault) (sym on) ∙ none in
        subst (λ (v : Walk). v.paths ≤ MAX_PATHS) (sym on) (second.bounded (f w) (first.bounded w few early) late)

bounded_counted : Bounded counted
bounded_counted = record { bounded = λ w few none. subst (λ (v : Walk). v.paths ≤ MAX_PATHS) (sym (counted_none w none)) (counted_within w none) }

bounded_object : (A : Objects) (id : List ℕ) (F : FsObject → Step) → ((object : FsObject) → Bounded (F object))
    → Bounded (λ w. then_read (fs_at A id) F (visited (fs_key id) w))
bounded_object A id F h = record { bounded = λ w. by (fs_at A id) (visited (fs_key id) w) }
  where
    by : (r : Result FsObject TreeFault) (w : Walk) → w.paths ≤ MAX_PATHS → (then_read r F w).fault ≡ None → (then_read r F w).paths ≤ MAX_PATHS
    by (Ok object) w few none = (h object).bounded w few none
    by (Err fault) w few none = few

bounds : (blocks : Bool) (A : Objects) → Scheme blocks blocks A A (λ f g. Bounded f)
bounds blocks A = record {
  nothing = bounded_same (λ w. w) (λ w. refl);
  counts = bounded_counted;
  deep = λ path. bounded_same _ (λ w. refl);
  kind = λ id. bounded_same _ (λ w. refl);
  after = λ f g next other first second. bounded_after f next first second;
  file = λ id file. bounded_same _ (file_paths blocks A id file);
  object = λ id F G h. bounded_object A id F h;
}

pub root_bounded : (blocks : Bool) (A : Objects) (id : List ℕ) (w : Walk) → w.paths ≤ MAX_PATHS → (walk_root blocks A id w).fault ≡ None → (walk_root blocks A id w).paths ≤ MAX_PATHS
root_bounded blocks A id = (along_root blocks blocks A A (λ f g. Bounded f) (bounds blocks A) id).bounded

-- ---- from another start, and without the blocks

pub counted_fits : (w : Walk) → w.paths + 1 ≤ MAX_PATHS → counted w ≡ record w { paths = w.paths + 1 }
unfolding counted_with
counted_fits w few = by (nat_lt MAX_PATHS (w.paths + 1)) refl
  where
    by : (b : Bool) → nat_lt MAX_PATHS (w.paths + 1) ≡ b → counted_with w b ≡ record w { paths = w.paths + 1 }
    by true is = absurd (too_many (ltb-true MAX_PATHS (w.paths + 1) is))
      where
        too_many : MAX_PATHS < w.paths + 1 → ⊥
        too_many h = omega arith
    by false is = refl

pub counted_over : (w : Walk) → MAX_PATHS < w.paths + 1 → counted w ≡ failed (TooMany (w.paths + 1)) (record w { paths = w.paths + 1 })
unfolding counted_with
counted_over w many = by (nat_lt MAX_PATHS (w.paths + 1)) refl
  where
    by : (b : Bool) → nat_lt MAX_PATHS (w.paths + 1) ≡ b → counted_with w b ≡ failed (TooMany (w.paths + 1)) (record w { paths = w.paths + 1 })
    by true is = refl
    by false is = absurd (too_few (ltb-false MAX_PATHS (w.paths + 1) is))
      where
        too_few : w.paths + 1 ≤ MAX_PATHS → ⊥
        too_few h = omega arith

-- where one step has no fault, the other has none, from a start that has counted so many paths less
pub record Spares (less : ℕ) (f g : Step) : Type 0 where
  pub none : (w v : Walk) → w.paths ≡ v.paths + less → v.fault ≡ None → (f w).fault ≡ None → (g v).fault ≡ None
  pub paths : (w v : Walk) → w.paths ≡ v.paths + less → v.fault ≡ None → (f w).fault ≡ None → (f w).paths ≡ (g v).paths + less

module _ (less : ℕ) where
  spares_nothing : Spares less (λ w. w) (λ w. w)
  spares_nothing = record { none = λ w v same clear ends. clear; paths = λ w v same clear ends. same }

  fewer : (w v : Walk) → w.paths ≡ v.paths + less → (counted w).fault ≡ None → v.paths + 1 ≤ MAX_PATHS
  fewer w v same ends = omega (arith, counted_within w ends)

  spares_counted : Spares less counted counted
  spares_counted = record {
    none = λ w v same clear ends. ap (λ (u : Walk). u.fault) (counted_fits v (fewer w v same ends)) ∙ clear;
    paths = λ w v same clear ends. omega (arith, same, ap (λ (u : Walk). u.paths) (counted_fits v (fewer w v same ends)), ap (λ (u : Walk). u.paths) (counted_none w ends));
  }

  spares_after : (f g next other : Step) → Spares less f g → Spares less next other → Spares less (λ w. then_walk (f w) next) (λ w. then_walk (g w) other)
  spares_after f g next other first second = record { none = none; paths = paths }
    where
      none : (w v : Walk) → w.paths ≡ v.paths + less → v.fault ≡ None → (then_walk (f w) next).fault ≡ None → (then_walk (g v) other).fault ≡ None
      none w v same clear ends =
          let early = none_before (f w) next ends in
          let late : (next (f w)).fault ≡ None = ap (λ (u : Walk). u.fault) (sym (goes_on (f w) next early)) ∙ ends in
          let clear_then = first.none w v same clear early in
          let same_then = first.paths w v same clear early in
          ap (λ (u : Walk). u.fault) (goes_on (g v) other clear_then) ∙ second.none (f w) (g v) same_then clear_then late

      paths : (w v : Walk) → w.paths ≡ v.paths + less → v.fault ≡ None → (then_walk (f w) next).fault ≡ None → (then_walk (f w) next).paths ≡ (then_walk (g v) other).paths + less
      paths w v same clear ends =
          let early = none_before (f w) next ends in
          let late : (next (f w)).fault ≡ None = ap (λ (u : Walk). u.fault) (sym (goes_on (f w) next early)) ∙ ends in
          let clear_then = first.none w v same clear early in
          let same_then = first.paths w v same clear early in
          ap (λ (u : Walk). u.paths) (goes_on (f w) next early) ∙ second.paths (f w) (g v) same_then clear_then late ∙ ap (λ (u : Walk). u.paths + less) (sym (goes_on (g v) other clear_then))

  spares_object : (A : Objects) (id : List ℕ) (F G : FsObject → Step) → ((object : FsObject) → Spares less (F object) (G object))
      → Spares less (λ w. then_read (fs_at A id) F (visited (fs_key id) w)) (λ w. then_read (fs_at A id) G (visited (fs_key id) w))
  spares_object A id F G h = record {
    none = λ w v. none (fs_at A id) (visited (fs_key id) w) (visited (fs_key id) v);
    paths = λ w v. paths (fs_at A id) (visited (fs_key id) w) (visited (fs_key id) v);
  }
    where
      none : (r : Result FsObject TreeFault) (w v : Walk) → w.paths ≡ v.paths + less → v.fault ≡ None → (then_read r F w).fault ≡ None → (then_read r G v).fault ≡ None
      none (Ok object) w v same clear ends = (h object).none w v same clear ends
      none (Err fault) w v same clear ends = cc

      paths : (r : Result FsObject TreeFault) (w v : Walk) → w.paths ≡ v.paths + less → v.fault ≡ None → (then_read r F w).fault ≡ None → (then_read r F w).paths ≡ (then_read r G v).paths + less
      paths (Ok object) w v same clear ends = (h object).paths w v same clear ends
      paths (Err fault) w v same clear ends = same

  -- ---- blocks

  spares_block : (A : Objects) (id : List ℕ) → Spares less (walk_block true A id) (walk_block true A id)
  spares_block A id = record {
    none = λ w v same clear ends. by w v clear (is_some (map.get A (block_key id))) ends;
    paths = λ w v same clear ends. block_paths true A id w ∙ same ∙ ap (λ n. n + less) (sym (block_paths true A id v));
  }
    where
      by : (w v : Walk) → v.fault ≡ None → (b : Bool) → (if b then visited (block_key id) w else failed (Incomplete (block_key id)) (visited (block_key id) w)).fault ≡ None
          → (if b then visited (block_key id) v else failed (Incomplete (block_key id)) (visited (block_key id) v)).fault ≡ None
      by w v clear true ends = clear
      by w v clear false ends = cc

  spares_blocks : (A : Objects) (ids : List (List ℕ)) → Spares less (walk_blocks true A ids) (walk_blocks true A ids)
  spares_blocks A [] = spares_nothing
  spares_blocks A (id ∷ ids) = spares_after (walk_block true A id) (walk_block true A id) (walk_blocks true A ids) (walk_blocks true A ids) (spares_block A id) (spares_blocks A ids)

  spares_sized : (A : Objects) (id : List ℕ) (file : FileObject) → Spares less (sized true A id file) (sized true A id file)
  spares_sized A id file = record {
    none = λ w v same clear ends. by w v clear (file.size == length (joined A file.blocks)) ends;
    paths = λ w v same clear ends. sized_paths true A id file w ∙ same ∙ ap (λ n. n + less) (sym (sized_paths true A id file v));
  }
    where
      by : (w v : Walk) → v.fault ≡ None → (b : Bool) → (if b then w else failed (WrongSize id) w).fault ≡ None → (if b then v else failed (WrongSize id) v).fault ≡ None
      by w v clear true ends = clear
      by w v clear false ends = cc

  spares_file : (A : Objects) (b : Bool) (id : List ℕ) (file : FileObject) → Spares less (walk_file true A id file) (walk_file b A id file)
  spares_file A true id file =
      spares_after (walk_blocks true A file.blocks) (walk_blocks true A file.blocks) (sized true A id file) (sized true A id file) (spares_blocks A file.blocks) (spares_sized A id file)
  spares_file A false id file = record { none = λ w v same clear ends. clear; paths = λ w v same clear ends. file_paths true A id file w ∙ same }

  pub spared : (A : Objects) (b : Bool) → Scheme true b A A (Spares less)
  spared A b = record {
    nothing = spares_nothing;
    counts = spares_counted;
    deep = λ path. record { none = λ w v same clear ends. cc; paths = λ w v same clear ends. same };
    kind = λ id. record { none = λ w v same clear ends. cc; paths = λ w v same clear ends. same };
    after = spares_after;
    file = spares_file A b;
    object = spares_object A;
  }

-- an object that is complete with its blocks, from some start, is so from the first, with them or without
pub object_spared : (A : Objects) (b : Bool) (room : ℕ) (wants : Bool) (path : PathV) (id : List ℕ) (w : Walk)
    → (walk_object true A (walk_below true A room) wants path id w).fault ≡ None → (walk_object b A (walk_below b A room) wants path id start).fault ≡ None
object_spared A b room wants path id w ends =
    (along_object true b A A (Spares w.paths) (spared w.paths A b) (walk_below true A room) (walk_below b A room)
    (along_below true b A A (Spares w.paths) (spared w.paths A b) room) wants path id).none w start (omega arith) refl ends

pub root_spared : (A : Objects) (b : Bool) (id : List ℕ) (w : Walk) → (walk_root true A id w).fault ≡ None → (walk_root b A id start).fault ≡ None
root_spared A b id w ends = object_spared A b MAX_NAMES true [] id w ends

-- and both count the same paths
pub root_same_paths : (A : Objects) (id : List ℕ) → (walk_root true A id start).fault ≡ None → (walk_root true A id start).paths ≡ (walk_root false A id start).paths + 0
root_same_paths A id = (along_root true false A A (Spares 0) (spared 0 A false) id).paths start start refl refl
