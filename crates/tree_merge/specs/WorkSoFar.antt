-- What a merge has made so far, and what refuses it. Our own. Read long_told, copies_behind and IsRefusedOther.
use Rattle.std.specs.Prelude.{◌≡◌, ◌≢◌, ◌⊎◌, ℕ, ◌||◌, Bool, true, if◌then◌else◌, List, ◌++◌, Option, Some, None, is_some, option_map}
use Rattle.std.specs.Option.{option_or}
use Rattle.std.specs.Ordering.{is_lt}
use Rattle.std.specs.FinMap as map
use Rattle.ids.specs.Key.{Objects}
use Rattle.ids.specs.declared.key.Key.{Key}
use Rattle.tree_model.specs.Path.{PathV, path_cmp}
use Rattle.tree_model.specs.DirectorySurvival.{is_within}
use Rattle.tree_model.specs.MergeParts.{beyond}
use Rattle.tree_merge.specs.ConflictNaming.{Places}
use Rattle.tree_merge.specs.TreeBuilding.{AreNamed, IsCollision}
use Rattle.tree_merge.specs.declared.work.Long.{Long}
use Rattle.tree_merge.specs.declared.work.Stop.TheVariants as why
use Rattle.tree_merge.specs.declared.work.Work.{Work}

-- the file that is written down as too long, with the size of its copy's name
abbrev pub long_told : Option Long → Option (PathV × ℕ)
long_told None = None
long_told (Some long) = Some (long.path, long.bytes)

-- whether a path stands before that of a file, if there is one
abbrev pub comes_first : Option (PathV × ℕ) → PathV → Bool
comes_first None path = true
comes_first (Some first) path = is_lt (path_cmp path first.0)

-- the merge is known to be refused
abbrev pub is_refused : Work → Bool
is_refused work = is_some work.long || is_some work.stop

-- over any shelf, where what was made is named, an id that can't be taken is that of two things
abbrev pub IsCausedIn : (old new : Work) → Type 0
IsCausedIn old new = AreNamed old.made → (id : List ℕ) → new.stop ≡ Some (why.Taken id) → (old.stop ≡ Some (why.Taken id)) ⊎ IsCollision id

-- where copies go that are told behind a directory
abbrev pub copies_behind : PathV → (PathV → Option PathV) → PathV → Option PathV
copies_behind dir copies path = if is_within dir path then option_map (λ place. dir ++ place) (copies (beyond dir path)) else None

-- those of a directory, and those that were told before
abbrev pub copies_over : PathV → (copies before : Places) → PathV → Option PathV
copies_over dir copies before path = option_or (copies_behind dir (map.get copies) path) (map.get before path)

-- ---- objects that are added to others

-- what is there now was there before, or is the object that was to be added
abbrev pub IsFrom : (old : Objects) → Key → List ℕ → (new : Objects) → Type 0
IsFrom old key bytes new = (k : Key) (b : List ℕ) → map.get new k ≡ Some b → (map.get old k ≡ Some b) ⊎ ((k ≡ key) × (b ≡ bytes))

-- so it is of several
abbrev pub AreFrom : (old more new : Objects) → Type 0
AreFrom old more new = (key : Key) (bytes : List ℕ) → map.get new key ≡ Some bytes → (map.get old key ≡ Some bytes) ⊎ (map.get more key ≡ Some bytes)

-- other bytes stand under the key
abbrev pub IsOtherThere : Objects → Key → List ℕ → List ℕ → Type 0
IsOtherThere old key bytes id = (id ≡ key.id) × ((other : List ℕ) × (map.get old key ≡ Some other) × (other ≢ bytes))

-- so do they under one that was to be added
pub record IsRefusedOther (old more : Objects) (id : List ℕ) : Type 0 where
  pub key : Key
  pub bytes : List ℕ
  pub given : map.get more key ≡ Some bytes
  pub other : IsOtherThere old key bytes id
