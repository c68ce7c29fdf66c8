-- When an object was opened whole: over any shelf its bytes were given under its own name, and read. Our own.
-- Read ReadsAs and IsOpened, then OpensMore and HaveOpened; where objects are told, IsWholeIn.
use Rattle.std.specs.Prelude.{◌≡◌, ℕ, true, false, is_some, IsFalse, List, [], ◌∷◌, ◌++◌, Option, None, Some, Ok, ⊤}
use Rattle.std.specs.FinMap as map
use Rattle.std.specs.List.{list_any}
use Rattle.ids.specs.Key.{Objects}
use Rattle.ids.specs.declared.key.Key.{Key}
use Rattle.ids.specs.declared.key.Kind.{Kind}
use Rattle.ids.specs.declared.key.Kind.TheVariants.{Commit, Fs, Block}
use Rattle.object_graph.specs.Objects.{commit_key, same_id}
use Rattle.object_graph.specs.Reached.{named}
use Rattle.object_graph.specs.Traversal.{is_in}
use Rattle.object_store.specs.Store.{damage_at, has_other_name}
use Rattle.object_store.specs.StoreView.{Index}
use Rattle.object_store.specs.declared.shelf.Slot.{Slot}
use Rattle.object_store.specs.declared.shelf.Slot.TheVariants.{Object}
use Rattle.collector.specs.Marks.{AreMarks, MarksView}
use Rattle.collector.specs.Naming.{names_at, names_of}

-- what a shelf may give
abbrev pub Gives : Type 1
Gives = Slot → Option (List ℕ) → Type 0

-- an object can be read under its own name, from bytes that the shelf may give: a commit is one of this id, and the bytes of a
-- file or a directory have its name. It names these keys
pub record ReadsAs (may_give : Gives) (key : Key) (names : List Key) : Type 0 where
  pub bytes : List ℕ
  pub given : may_give (Object key) (Some bytes)
  pub own : IsFalse (has_other_name key bytes)
  pub read : names_of key bytes ≡ Ok names

-- a block names nothing, and is not read
abbrev pub ReadsNames : Gives → Kind → Key → List Key → Type 0
ReadsNames may_give Commit key names = ReadsAs may_give key names
ReadsNames may_give Fs key names = ReadsAs may_give key names
ReadsNames may_give Block key names = names ≡ []

-- an object was read, unless it is a block, and what it names was met
pub record IsRead (may_give : Gives) (met : List Key) (key : Key) : Type 0 where
  pub names : List Key
  pub reads : ReadsNames may_give key.kind key names
  pub each : (name : Key) → is_in names name ≡ true → is_in met name ≡ true

-- and the store knows it
pub record IsOpened (index : Index) (may_give : Gives) (met : List Key) (key : Key) : Type 0 where
  pub known : is_some (map.get index key) ≡ true
  pub read : IsRead may_give met key

-- what marking opens: nothing that was met is forgotten, and each object that is marked now and wasn't was opened whole. So one
-- that is missing or damaged, or can't be read, is never marked
pub record OpensMore (index : Index) (may_give : Gives) (old new : MarksView) : Type 0 where
  pub stays : (key : Key) → is_in (old.marked ++ old.pending) key ≡ true → is_in (new.marked ++ new.pending) key ≡ true
  pub opened : (key : Key) → is_in new.marked key ≡ true → is_in old.marked key ≡ false → IsOpened index may_give (new.marked ++ new.pending) key

-- the object that waited first was opened
pub record OpensFirst (index : Index) (may_give : Gives) (old new : MarksView) : Type 0 where
  pub first : (key : Key) (rest : List Key) → old.pending ≡ key ∷ rest → IsOpened index may_give (new.marked ++ new.pending) key

-- any bytes
abbrev pub anything : Gives
anything slot given = ⊤

-- the commits were met; and each object that is marked was read from some bytes under its own name, and what it named was met.
-- So where nothing waits, all that they lead to is marked
pub record HaveOpened (marks : MarksView) : Type 0 where
  pub commits : (commit : List ℕ) → list_any (same_id commit) marks.commits ≡ true → is_in (marks.marked ++ marks.pending) (commit_key commit) ≡ true
  pub read : (key : Key) → is_in marks.marked key ≡ true → IsRead anything (marks.marked ++ marks.pending) key

-- what always holds of marks
abbrev pub AreWholeMarks : MarksView → Type 0
AreWholeMarks marks = AreMarks marks × HaveOpened marks

-- where objects are told: the object is stored and can be read, and isn't damaged
pub record IsWholeIn (objects : Objects) (key : Key) : Type 0 where
  pub reads : names_at objects key ≡ Ok (named objects key)
  pub undamaged : damage_at objects key ≡ None
