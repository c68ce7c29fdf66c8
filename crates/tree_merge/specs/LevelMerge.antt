-- The merge of the entries of one directory, over what is left below them. Our own. Read MergesLevel, then MakesLevel.
use Rattle.std.specs.Prelude.{◌≡◌, ◌≢◌, ◌⊎◌, ◌↔◌, ◌<◌, ℕ, ◌+◌, min, true, false, if◌then◌else◌, List, [], ◌∷◌, ◌++◌, Option, Some, None, Ok, is_some}
use Rattle.std.specs.FinMap as map
use Rattle.std.specs.List.{sum_by}
use Rattle.std.specs.Option.{option_or}
use Rattle.sha1.specs.Sha1.{sha1}
use Rattle.ids.specs.Key.{Objects}
use Rattle.ids.specs.ObjectId.{nil}
use Rattle.ids.specs.declared.key.Key.{Key}
use Rattle.tree_model.specs.declared.limits.TheConstants.{MAX_PATHS}
use Rattle.tree_model.specs.Path.{PathV, path_cmp}
use Rattle.tree_model.specs.DirectorySurvival.{Sides, stays}
use Rattle.tree_model.specs.MergeParts.{IsFirst, earlier, long_at, told_behind}
use Rattle.conflict_names.specs.Naming.{naming}
use Rattle.fs_objects.specs.FsObject.{fs_of}
use Rattle.fs_objects.specs.Mode.{is_directory_mode}
use Rattle.fs_objects.specs.declared.dirent.Dirent.{Dirent}
use Rattle.fs_objects.specs.declared.fs_object.FsObject.TheVariants as fs
use Rattle.object_graph.specs.Objects.{AreEntriesOf, dirents_at, entry_named, fs_key}
use Rattle.object_graph.specs.Unchanged.{Keeps}
use Rattle.tree_merge.specs.ConflictNaming.{IsNamedTree}
use Rattle.tree_merge.specs.Decision.{AreWholeIn}
use Rattle.tree_merge.specs.HeadDirectory.{FindsOwn}
use Rattle.tree_merge.specs.Sides.{Entries}
use Rattle.tree_merge.specs.TreeBuilding.{AreThere, Given, HasMade, IsDirectoryOf, IsDirectoryText, IsNilMadeOrKept, IsNilOrMade, IsShownPart, directory_id_in, kept_ids}
use Rattle.tree_merge.specs.WorkSoFar.{AreFrom, IsRefusedOther, copies_over, is_refused, long_told}
use Rattle.tree_merge.specs.declared.conflict_copies.Named.{Named}
use Rattle.tree_merge.specs.declared.opening.Kept.{Kept}
use Rattle.tree_merge.specs.declared.tree_builder.BuildFault.{BuildFault}
use Rattle.tree_merge.specs.declared.tree_builder.BuildFault.TheVariants.{NoMemory, Taken}
use Rattle.tree_merge.specs.declared.tree_builder.BuiltTree.{BuiltTree}
use Rattle.tree_merge.specs.declared.work.Stop.TheVariants as why
use Rattle.tree_merge.specs.declared.work.Work.{Work}

-- how many paths are told of the directories that survive
abbrev pub kept_paths : map.FinMap path_cmp Kept → ℕ
kept_paths kept = sum_by (λ entry. entry.1.paths) (map.entries kept)

-- a directory of the tree has this SHA-1, which is forty zeros, or that of another directory of the tree or of one that was made
pub record IsTakenBelow (entries : Entries) (made : Objects) (id : List ℕ) : Type 0 where
  pub bytes : List ℕ
  pub own : id ≡ sha1 bytes
  pub text : IsDirectoryText entries bytes
  pub clash : (id ≡ nil) ⊎ ((other : List ℕ) × (other ≢ bytes) × (((id ≡ sha1 other) × IsDirectoryText entries other) ⊎ (map.get made (fs_key id) ≡ Some other)))

-- each directory that an object lists is forty zeros, was made, or is kept
abbrev pub ListsKnown : (PathV → Option (List ℕ)) → Objects → List ℕ → Type 0
ListsKnown kept made bytes = (dirents : List Dirent) → fs_of bytes ≡ Ok (fs.Dir dirents)
    → (name : List ℕ) (e : Dirent) → entry_named name dirents ≡ Some e → is_directory_mode e.mode ≡ true → IsNilMadeOrKept kept made e.id

-- a directory's object was made, with those that it needs: of any tree of which these are the entries that are shown
pub record IsBuiltFrom (given : Given) (kept : PathV → Option (List ℕ)) (whole : Entries) (old new : Objects) (root : List ℕ) : Type 0 where
  pub value : (objects : Objects) → AreThere given objects → Keeps new objects → AreEntriesOf objects root whole
  pub needed : (id : List ℕ) → HasMade new id → (HasMade old id) ⊎ ((objects : Objects) → Keeps new objects → IsDirectoryOf objects root id)
  pub ids : (dir : PathV) (id : List ℕ) → kept dir ≡ Some id → (objects : Objects) → Keeps new objects → directory_id_in objects (dirents_at objects root) dir ≡ Some id
  pub below : (key : Key) (bytes : List ℕ) → map.get new key ≡ Some bytes → (map.get old key ≡ Some bytes) ⊎ ListsKnown kept new bytes
  pub known : IsNilOrMade new root
  pub empty : (objects : Objects) → AreThere given objects → Keeps new objects → (name : List ℕ) → ((inner : List ℕ) → map.get whole (name ∷ inner ∷ []) ≡ None)
      → (id : List ℕ) → directory_id_in objects (dirents_at objects root) (name ∷ []) ≡ Some id → id ≡ nil
  pub zeros : (root ≡ nil) ↔ ((path : PathV) → map.get whole path ≡ None)

-- a directory is made of its entries, or refuses the merge, by its paths or by its id: of any tree of which these are the entries that are shown
pub record MakesOne (nodes : Entries) (kept : map.FinMap path_cmp Kept) (paths : ℕ) (old new : Work) (id : List ℕ) : Type 0 where
  pub texts : (given : Given) (whole : Entries) → IsShownPart given (kept_ids kept) whole nodes
      → (key : Key) (bytes : List ℕ) → map.get new.made key ≡ Some bytes → (map.get old.made key ≡ Some bytes) ⊎ IsDirectoryText whole bytes
  pub taken : (given : Given) (whole : Entries) → IsShownPart given (kept_ids kept) whole nodes → (i : List ℕ) → new.stop ≡ Some (why.Taken i) → IsTakenBelow whole new.made i
  pub many : new.stop ≡ Some why.Many → MAX_PATHS < paths
  pub built : new.stop ≡ None → (given : Given) (whole : Entries) → IsShownPart given (kept_ids kept) whole nodes → IsBuiltFrom given (kept_ids kept) whole old.made new.made id

-- so it is, unless the merge is refused already, or is so by these paths: then nothing is made
pub record MakesDirectory (nodes : Entries) (kept : map.FinMap path_cmp Kept) (paths : ℕ) (old new : Work) (id : List ℕ) : Type 0 where
  pub long : long_told new.long ≡ long_told old.long
  pub copies : new.copies ≡ old.copies
  pub kept_made : Keeps old.made new.made
  pub large : MAX_PATHS < paths → new.made ≡ old.made
  pub stopped : is_refused old ≡ true → (new.made ≡ old.made) × (new.stop ≡ old.stop)
  pub makes : is_refused old ≡ false → MakesOne nodes kept paths old new id

-- so it is, or the head's own directory is used again
abbrev pub MakesFrom : Option (List ℕ) → Entries → map.FinMap path_cmp Kept → ℕ → (old new : Work) → List ℕ → Type 0
MakesFrom None nodes kept paths old new id = MakesDirectory nodes kept paths old new id
MakesFrom (Some own) nodes kept paths old new id = (id ≡ own) × (new ≡ old)

-- nothing is made of no entries
pub record MakesNothing (nodes : Entries) (old new : Work) : Type 0 where
  pub none : map.len nodes ≡ 0
  pub made : new.made ≡ old.made
  pub long : long_told new.long ≡ long_told old.long
  pub stop : new.stop ≡ old.stop

pub record MakesSome (nodes : Entries) (kept : map.FinMap path_cmp Kept) (own : Option (List ℕ)) (old new : Work) (part : Kept) : Type 0 where
  pub some : map.len nodes ≢ 0
  pub paths : part.paths ≡ min (min (kept_paths kept) 18446744073709551615 + map.len nodes) 18446744073709551615
  pub makes : MakesFrom own nodes kept part.paths old new part.id

abbrev pub MakesIf : Entries → map.FinMap path_cmp Kept → Option (List ℕ) → (old new : Work) → Option Kept → Type 0
MakesIf nodes kept own old new None = MakesNothing nodes old new
MakesIf nodes kept own old new (Some part) = MakesSome nodes kept own old new part

-- the copies of a directory's files are told, and its object is made. `mid` is between the two.
pub record MakesLevel (path : PathV) (named : Named) (kept : map.FinMap path_cmp Kept) (own : Option (List ℕ)) (old new : Work) (part : Option Kept) : Type 0 where
  pub mid : Work
  pub mid_made : mid.made ≡ old.made
  pub mid_long : long_told mid.long ≡ long_told old.long
  pub mid_stop : mid.stop ≡ old.stop
  pub copies : (q : PathV) → map.get new.copies q ≡ copies_over path named.copies old.copies q
  pub makes : MakesIf named.nodes kept own mid new part

-- the head's directory, but none where the merge is known to be refused
abbrev pub head_if : Option (List ℕ) → Work → Option (List ℕ)
head_if head work = if is_refused work then None else head

-- that is done, over the head's own directory where it is right as it stands
pub record MakesNamed (objects : Objects) (path : PathV) (head : Option (List ℕ)) (named : Named) (kept : map.FinMap path_cmp Kept) (old new : Work) (part : Option Kept) : Type 0 where
  pub own : Option (List ℕ)
  pub found : FindsOwn objects (head_if head old) named.nodes kept own
  pub makes : MakesLevel path named kept own old new part

-- a file's name is too long
pub record RefusesName (dir own : PathV) (bytes : ℕ) (old new : Work) : Type 0 where
  pub long : long_told new.long ≡ earlier (long_told old.long) (Some (dir ++ own, bytes))
  pub made : new.made ≡ old.made
  pub stop : new.stop ≡ old.stop

-- what the entries of three directories are merged to, where no conflict name is too long
pub record IsNamedLevel (objects : Objects) (path : PathV) (head : Option (List ℕ)) (level : Sides) (kept : map.FinMap path_cmp Kept) (old new : Work) (part : Option Kept) : Type 0 where
  pub named : Named
  pub told : (more : Objects) → Keeps objects more → IsNamedTree more level named
  pub whole : AreWholeIn objects named.nodes
  pub makes : MakesNamed objects path head named kept old new part

-- the entries of three directories at a path are merged; `level` are they as trees, and `kept` is what is left below them
pub record MergesLevel (objects : Objects) (path : PathV) (head : Option (List ℕ)) (level : Sides) (kept : map.FinMap path_cmp Kept) (old new : Work) (part : Option Kept) : Type 0 where
  pub survives : is_some part ≡ stays level []
  pub long : (f : PathV → Option ℕ) → IsFirst f (long_told old.long) → IsFirst (λ q. option_or (f q) (told_behind path (long_at naming level) q)) (long_told new.long)
  pub named : long_told new.long ≡ None → IsNamedLevel objects path head level kept old new part

-- ---- for private clauses

-- a directory was built and is added, or has other bytes than one that was made
pub record AddsDirectory (built : BuiltTree) (old new : Work) (id : List ℕ) : Type 0 where
  pub long : long_told new.long ≡ long_told old.long
  pub copies : new.copies ≡ old.copies
  pub kept : Keeps old.made new.made
  pub told : AreFrom old.made built.made new.made
  pub taken : (i : List ℕ) → new.stop ≡ Some (why.Taken i) → (old.stop ≡ Some (why.Taken i)) ⊎ IsRefusedOther old.made built.made i
  pub many : new.stop ≡ Some why.Many → old.stop ≡ Some why.Many
  pub added : new.stop ≡ None → (Keeps built.made new.made) × (id ≡ built.root)

abbrev pub RefusesDirectory : BuildFault → (old new : Work) → Type 0
RefusesDirectory (Taken id) old new = new ≡ record old { stop = Some (why.Taken id) }
RefusesDirectory NoMemory old new = ⊥
