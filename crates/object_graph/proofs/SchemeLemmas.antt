-- What holds of each step of two traversals side by side holds of the whole traversals. The key lemmas are along_below
-- and along_root: to prove a law of traversals is to give a Scheme.
use Rattle.std.proofs.Common.{◌≡◌, ℕ, zero, suc, Bool, true, false, if◌then◌else◌, List, [], ◌∷◌, ◌++◌, refl, sym, ap, ◌∙◌, Option, None, Some}
use Rattle.ids.specs.Key.{Objects}
use Rattle.tree_model.specs.Path.{PathV}
use Rattle.tree_model.specs.declared.limits.TheConstants.{MAX_NAMES}
use Rattle.fs_objects.specs.Mode.{is_directory_mode}
use Rattle.fs_objects.specs.declared.dirent.Dirent.{Dirent}
use Rattle.fs_objects.specs.declared.file_object.FileObject.{FileObject}
use Rattle.fs_objects.specs.declared.fs_object.FsObject.{FsObject}
use Rattle.fs_objects.specs.declared.fs_object.FsObject.TheVariants as fs
use Rattle.object_graph.specs.Objects.{fs_key, fs_at, is_nil, in_name_order}
use Rattle.object_graph.specs.Traversal.{Walk, Below, visited, failed, counted, next_by, then_walk, then_read, walk_file, walk_entries, walk_found, walk_object, walk_below, walk_root}
use Rattle.object_graph.specs.declared.fault.TreeFault.{TreeFault}
use Rattle.object_graph.specs.declared.fault.TreeFault.TheVariants.{WrongKind, TooDeep}

abbrev pub Step : Type 0
Step = Walk → Walk

-- ---- one step after another

-- a fault that came earlier is there at the end
pub none_before : (w : Walk) (step : Step) → (then_walk w step).fault ≡ None → w.fault ≡ None
none_before w step none = by w.fault refl none
  where
    by : (o : Option TreeFault) → w.fault ≡ o → (next_by o step w).fault ≡ None → w.fault ≡ None
    by None is none = is
    by (Some fault) is none = none

pub goes_on : (w : Walk) (step : Step) → w.fault ≡ None → then_walk w step ≡ step w
goes_on w step none = ap (λ (o : Option TreeFault). next_by o step w) none

pub stands_still : (w : Walk) (step : Step) (fault : TreeFault) → w.fault ≡ Some fault → then_walk w step ≡ w
stands_still w step fault is = ap (λ (o : Option TreeFault). next_by o step w) is

-- the second step's fault, where the whole has none
pub none_after : (w : Walk) (step : Step) → (then_walk w step).fault ≡ None → (step w).fault ≡ None
none_after w step none = ap (λ (v : Walk). v.fault) (sym (goes_on w step (none_before w step none))) ∙ none

-- ---- a relation that each step of two traversals keeps

module _ (a b : Bool) (A B : Objects) (R : Step → Step → Type 0) where
  pub record Scheme : Type 0 where
    pub nothing : R (λ w. w) (λ w. w)
    pub counts : R counted counted
    pub deep : (path : PathV) → R (failed (TooDeep path)) (failed (TooDeep path))
    pub kind : (id : List ℕ) → R (failed (WrongKind id)) (failed (WrongKind id))
    pub after : (f g next other : Step) → R f g → R next other → R (λ w. then_walk (f w) next) (λ w. then_walk (g w) other)
    pub file : (id : List ℕ) (file : FileObject) → R (walk_file a A id file) (walk_file b B id file)
    pub object : (id : List ℕ) (F G : FsObject → Step) → ((object : FsObject) → R (F object) (G object))
        → R (λ w. then_read (fs_at A id) F (visited (fs_key id) w)) (λ w. then_read (fs_at B id) G (visited (fs_key id) w))

  module _ (s : Scheme) where
    abbrev pub Alongside : Below → Below → Type 0
    Alongside below other = (wants : Bool) (path : PathV) (id : List ℕ) → R (below wants path id) (other wants path id)

    pub along_entries : (below other : Below) → Alongside below other → (path : PathV) (entries : List Dirent)
        → R (walk_entries a A below path entries) (walk_entries b B other path entries)
    along_entries below other h path [] = s.nothing
    along_entries below other h path (e ∷ entries) =
        s.after _ _ _ _ (s.after _ _ _ _ s.counts (h (is_directory_mode e.mode) (path ++ e.name ∷ []) e.id)) (along_entries below other h path entries)

    pub along_found : (below other : Below) → Alongside below other → (wants : Bool) (path : PathV) (id : List ℕ) (object : FsObject)
        → R (walk_found a A below wants path id object) (walk_found b B other wants path id object)
    along_found below other h true path id (fs.File file) = s.kind id
    along_found below other h false path id (fs.File file) = s.file id file
    along_found below other h true path id (fs.Dir entries) = along_entries below other h path (in_name_order entries)
    along_found below other h false path id (fs.Dir entries) = s.kind id

    pub along_object : (below other : Below) → Alongside below other → Alongside (walk_object a A below) (walk_object b B other)
    along_object below other h wants path id = by (is_nil id)
      where
        by : (n : Bool) → R (λ w. if n then w else then_read (fs_at A id) (walk_found a A below wants path id) (visited (fs_key id) w))
            (λ w. if n then w else then_read (fs_at B id) (walk_found b B other wants path id) (visited (fs_key id) w))
        by true = s.nothing
        by false = s.object id (walk_found a A below wants path id) (walk_found b B other wants path id) (along_found below other h wants path id)

    pub along_below : (room : ℕ) → Alongside (walk_below a A room) (walk_below b B room)
    unfolding walk_below
    along_below zero wants path id = s.deep path
    along_below (suc room) wants path id = along_object (walk_below a A room) (walk_below b B room) (along_below room) wants path id

    pub along_root : (id : List ℕ) → R (walk_root a A id) (walk_root b B id)
    along_root id = along_object (walk_below a A MAX_NAMES) (walk_below b B MAX_NAMES) (along_below MAX_NAMES) true [] id
