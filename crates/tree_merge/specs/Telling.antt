-- What a merge is told of the objects that it reads. Our own. Read IsWhole and AnswersWell.
use Rattle.std.specs.Prelude.{◌≡◌, ℕ, List, None, Result}
use Rattle.ids.specs.Key.{Objects}
use Rattle.object_graph.specs.Traversal.{start, walk_file_at}
use Rattle.tree_walk.specs.Reading.{Answers}
use Rattle.tree_walk.specs.declared.fault.WalkFault.{WalkFault}

-- the file of an id is stored with its blocks, and has the size that it tells
abbrev pub IsWhole : Objects → List ℕ → Type 0
IsWhole objects id = (walk_file_at objects id start).fault ≡ None

-- a good value, where nothing is wrong with what is read; a failure of the store may come in its place
abbrev pub AnswersWell : {T : Type 0} → Objects → (T → Type 0) → Result T WalkFault → Type 0
AnswersWell objects good result = Answers objects None good result
