-- Two traversals of the same objects from starts that are alike end alike. The key lemmas are object_alike and
-- entries_alike: what was visited before decides neither the fault nor the count.
use Rattle.std.proofs.Common.{◌≡◌, ℕ, ◌+◌, ◌==◌, Bool, true, false, if◌then◌else◌, is_some, nat_lt, List, [], ◌∷◌, ◌++◌, length, refl, ap, ◌∙◌, subst, Option, None, Some, Result, Ok, Err}
use Rattle.std.specs.FinMap as map
use Rattle.ids.specs.Key.{Objects}
use Rattle.ids.specs.declared.key.Key.{Key}
use Rattle.tree_model.specs.Path.{PathV}
use Rattle.tree_model.specs.declared.limits.TheConstants.{MAX_PATHS}
use Rattle.fs_objects.specs.declared.dirent.Dirent.{Dirent}
use Rattle.fs_objects.specs.declared.file_object.FileObject.{FileObject}
use Rattle.fs_objects.specs.declared.fs_object.FsObject.{FsObject}
use Rattle.object_graph.specs.Objects.{fs_key, block_key, fs_at, joined}
use Rattle.object_graph.specs.Traversal.{Walk, visited, failed, counted, next_by, then_walk, then_read, walk_block, walk_blocks, sized, walk_file, walk_entries, walk_object, walk_below}
use Rattle.object_graph.specs.declared.fault.TreeFault.{TreeFault}
use Rattle.object_graph.specs.declared.fault.TreeFault.TheVariants.{Incomplete, WrongKind, WrongSize, TooDeep, TooMany}
use Rattle.object_graph.proofs.LimitLemmas.{counted_with}
use Rattle.object_graph.proofs.SchemeLemmas.{Step, Scheme, along_entries, along_object, along_below}

-- the same count and fault, and visits that are related
pub record Alike (V : List Key → List Key → Type 0) (w v : Walk) : Type 0 where
  pub keys : V w.visits v.visits
  pub paths : w.paths ≡ v.paths
  pub fault : w.fault ≡ v.fault

pub alike_then : {V : List Key → List Key → Type 0} → ((a b c : List Key) → V a b → V b c → V a c) → {u v w : Walk} → Alike V u v → Alike V v w → Alike V u w
alike_then join first second = record { keys = join _ _ _ first.keys second.keys; paths = first.paths ∙ second.paths; fault = first.fault ∙ second.fault }

pub record Respects (V : List Key → List Key → Type 0) (f g : Step) : Type 0 where
  pub respects : (w v : Walk) → Alike V w v → Alike V (f w) (g v)

-- one visit more keeps visits related
abbrev pub Pushes : (List Key → List Key → Type 0) → Type 0
Pushes V = (xs ys : List Key) (key : Key) → V xs ys → V (xs ++ key ∷ []) (ys ++ key ∷ [])

module _ (V : List Key → List Key → Type 0) (push : Pushes V) where
  alike_visited : (key : Key) (w v : Walk) → Alike V w v → Alike V (visited key w) (visited key v)
  alike_visited key w v alike = record { keys = push w.visits v.visits key alike.keys; paths = alike.paths; fault = alike.fault }

  alike_failed : (fault : TreeFault) (w v : Walk) → Alike V w v → Alike V (failed fault w) (failed fault v)
  alike_failed fault w v alike = record { keys = alike.keys; paths = alike.paths; fault = refl }

  alike_nothing : Respects V (λ w. w) (λ w. w)
  alike_nothing = record { respects = λ w v alike. alike }

  alike_counted : Respects V counted counted
  unfolding counted_with
  alike_counted = record { respects = λ w v alike. subst (λ b. Alike V (counted w) (counted_with v b)) (ap (λ n. nat_lt MAX_PATHS (n + 1)) alike.paths) (by w v alike (nat_lt MAX_PATHS (w.paths + 1))) }
    where
      by : (w v : Walk) → Alike V w v → (b : Bool) → Alike V (counted_with w b) (counted_with v b)
      by w v alike true = record { keys = alike.keys; paths = ap (λ n. n + 1) alike.paths; fault = ap (λ n. Some (TooMany (n + 1))) alike.paths }
      by w v alike false = record { keys = alike.keys; paths = ap (λ n. n + 1) alike.paths; fault = alike.fault }

  alike_after : (f g next other : Step) → Respects V f g → Respects V next other → Respects V (λ w. then_walk (f w) next) (λ w. then_walk (g w) other)
  alike_after f g next other first second = record { respects = λ w v alike. by (f w) (g v) (first.respects w v alike) }
    where
      at : (a b : Walk) → Alike V a b → (o : Option TreeFault) → Alike V (next_by o next a) (next_by o other b)
      at a b alike None = second.respects a b alike
      at a b alike (Some fault) = alike

      by : (a b : Walk) → Alike V a b → Alike V (then_walk a next) (then_walk b other)
      by a b alike = subst (λ (o : Option TreeFault). Alike V (then_walk a next) (next_by o other b)) alike.fault (at a b alike a.fault)

  module _ (blocks : Bool) (A : Objects) where
    alike_block : (id : List ℕ) → Respects V (walk_block blocks A id) (walk_block blocks A id)
    alike_block id = record { respects = λ w v alike. by w v alike (is_some (map.get A (block_key id))) }
      where
        by : (w v : Walk) → Alike V w v → (b : Bool) → Alike V (if b then visited (block_key id) w else failed (Incomplete (block_key id)) (visited (block_key id) w))
            (if b then visited (block_key id) v else failed (Incomplete (block_key id)) (visited (block_key id) v))
        by w v alike true = alike_visited (block_key id) w v alike
        by w v alike false = alike_failed (Incomplete (block_key id)) (visited (block_key id) w) (visited (block_key id) v) (alike_visited (block_key id) w v alike)

    pub alike_blocks : (ids : List (List ℕ)) → Respects V (walk_blocks blocks A ids) (walk_blocks blocks A ids)
    alike_blocks [] = alike_nothing
    alike_blocks (id ∷ ids) = alike_after (walk_block blocks A id) (walk_block blocks A id) (walk_blocks blocks A ids) (walk_blocks blocks A ids) (alike_block id) (alike_blocks ids)

    alike_sized : (id : List ℕ) (file : FileObject) → Respects V (sized blocks A id file) (sized blocks A id file)
    alike_sized id file = record { respects = λ w v alike. by w v alike (file.size == length (joined A file.blocks)) }
      where
        by : (w v : Walk) → Alike V w v → (b : Bool) → Alike V (if b then w else failed (WrongSize id) w) (if b then v else failed (WrongSize id) v)
        by w v alike true = alike
        by w v alike false = alike_failed (WrongSize id) w v alike

    pub alike_file : (id : List ℕ) (file : FileObject) → Respects V (walk_file blocks A id file) (walk_file blocks A id file)
    alike_file id file = by blocks
      where
        by : (b : Bool) → Respects V (λ w. if b then then_walk (walk_blocks blocks A file.blocks w) (sized blocks A id file) else w)
            (λ w. if b then then_walk (walk_blocks blocks A file.blocks w) (sized blocks A id file) else w)
        by true = alike_after (walk_blocks blocks A file.blocks) (walk_blocks blocks A file.blocks) (sized blocks A id file) (sized blocks A id file) (alike_blocks file.blocks) (alike_sized id file)
        by false = alike_nothing

    alike_read : (id : List ℕ) (F G : FsObject → Step) → ((object : FsObject) → Respects V (F object) (G object))
        → Respects V (λ w. then_read (fs_at A id) F (visited (fs_key id) w)) (λ w. then_read (fs_at A id) G (visited (fs_key id) w))
    alike_read id F G h = record { respects = λ w v alike. by (fs_at A id) (visited (fs_key id) w) (visited (fs_key id) v) (alike_visited (fs_key id) w v alike) }
      where
        by : (r : Result FsObject TreeFault) (w v : Walk) → Alike V w v → Alike V (then_read r F w) (then_read r G v)
        by (Ok object) w v alike = (h object).respects w v alike
        by (Err fault) w v alike = alike_failed fault w v alike

    pub alikeness : Scheme blocks blocks A A (Respects V)
    alikeness = record {
      nothing = alike_nothing;
      counts = alike_counted;
      deep = λ path. record { respects = alike_failed (TooDeep path) };
      kind = λ id. record { respects = alike_failed (WrongKind id) };
      after = alike_after;
      file = alike_file;
      object = alike_read;
    }

    pub below_alike : (room : ℕ) (wants : Bool) (path : PathV) (id : List ℕ) (w v : Walk) → Alike V w v → Alike V (walk_below blocks A room wants path id w) (walk_below blocks A room wants path id v)
    below_alike room wants path id = (along_below blocks blocks A A (Respects V) alikeness room wants path id).respects

    pub object_alike : (room : ℕ) (wants : Bool) (path : PathV) (id : List ℕ) (w v : Walk) → Alike V w v
        → Alike V (walk_object blocks A (walk_below blocks A room) wants path id w) (walk_object blocks A (walk_below blocks A room) wants path id v)
    object_alike room wants path id =
        (along_object blocks blocks A A (Respects V) alikeness (walk_below blocks A room) (walk_below blocks A room) (along_below blocks blocks A A (Respects V) alikeness room) wants path id).respects

    pub entries_alike : (room : ℕ) (path : PathV) (entries : List Dirent) (w v : Walk) → Alike V w v
        → Alike V (walk_entries blocks A (walk_below blocks A room) path entries w) (walk_entries blocks A (walk_below blocks A room) path entries v)
    entries_alike room path entries =
        (along_entries blocks blocks A A (Respects V) alikeness (walk_below blocks A room) (walk_below blocks A room) (along_below blocks blocks A A (Respects V) alikeness room) path entries).respects
