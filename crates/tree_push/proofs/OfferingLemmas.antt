-- What is wanted beside the directories of a tree. The key lemmas are own_named, changed_block and keeps_then.
use Rattle.std.proofs.Common.{◌≡◌, ◌⊎◌, inl, inr, ℕ, List, Option, None, IsSome, ap, ap₂, ◌∙◌}
use Rattle.std.specs.Prelude.{⊤}
use Rattle.std.specs.FinMap as fin
use Rattle.ids.specs.Key.{Objects, key_cmp}
use Rattle.ids.specs.declared.key.Key.{Key}
use Rattle.ids.specs.declared.key.Kind.{Kind}
use Rattle.object_graph.specs.Unchanged.{Keeps}
use Rattle.tree_merge.specs.TreeBuilding.{AreNamed}
use Rattle.tree_push.specs.OfferedEntries.{KnownPaths, SeenPaths}
use Rattle.tree_push.specs.Wanted.{AreOwnNamed, Blocks, IsChangedBlock}

pub own_named : (made : Objects) → AreNamed made → AreOwnNamed made
own_named made are key bytes is = ap₂ (λ (kind : Kind) (id : List ℕ). record { kind = kind; id = id }) (are key bytes is).is_fs (are key bytes is).is_sha1

-- where nothing was wanted before, what is wanted was added
pub changed_block : (knowns : KnownPaths) (seens : SeenPaths) (blocks : Blocks) → blocks ≡ fin.empty → (key : Key) → IsSome (fin.get blocks key) ⊎ IsChangedBlock knowns seens key
    → IsChangedBlock knowns seens key
changed_block knowns seens blocks none key (inl there) = absurd (by (fin.get blocks key) (ap (λ (m : Blocks). fin.get m key) none ∙ fin.get-empty key_cmp key) there)
  where
    by : (o : Option ⊤) → o ≡ None → IsSome o → ⊥
    by o is some = absurd (cc)
changed_block knowns seens blocks none key (inr block) = block

pub keeps_then : (old mid new : Objects) → Keeps old mid → Keeps mid new → Keeps old new
keeps_then old mid new first later = record { kept = λ key bytes is. later.kept key bytes (first.kept key bytes is) }
