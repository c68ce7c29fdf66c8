use Rattle.std.proofs.Common.{◌≡◌, ℕ, List, [], ◌∷◌, ◌++◌, None, IsSome}
use Rattle.std.specs.FinMap as map
use Rattle.std.specs.List.{IsDistinct}
use Rattle.std.specs.Str.{bytes_eq}
use Rattle.tree_merge.specs.Sides.{Entries}
use Rattle.tree_model.specs.Path.{PathV}
use Rattle.fs_objects.specs.Directory.{names_of}
use Rattle.object_graph.specs.Objects.{entry_named}
use Rattle.tree_merge.specs.TreeBuilding.{Given, AreNamed, IsShownPart, held_at, kept_ids}
use Rattle.tree_merge.proofs.BuiltSoFarLemmas.{BuiltSo}
use Rattle.tree_merge.proofs.DirectoryLemmas.{DirsSo}
use Rattle.tree_merge.proofs.tree_builder.build_over.Given as goal

abbrev pub invariant-loop-path : goal.invariant-loop-path
invariant-loop-path l = record {
  root : map.get l.entries [] ≡ None;
  distinct : (d : PathV) → IsDistinct bytes_eq (names_of (held_at (map.get l.held d)));
  to_do : (d : PathV) (n : List ℕ) → IsSome (map.get l.entries (d ++ n ∷ [])) → entry_named n (held_at (map.get l.held d)) ≡ None;
  named : AreNamed l.made;
  built : (stored : Given) → (whole : Entries) → IsShownPart stored (kept_ids l.fn.kept) whole l.initial.entries
      → BuiltSo stored (kept_ids l.fn.kept) whole l.initial.entries l.entries (λ d. held_at (map.get l.held d)) l.made;
  dirs : (stored : Given) → (whole : Entries) → IsShownPart stored (kept_ids l.fn.kept) whole l.initial.entries
      → DirsSo (kept_ids l.fn.kept) whole (λ d. held_at (map.get l.held d)) l.made;
}

abbrev pub decreases-loop-path : goal.decreases-loop-path
decreases-loop-path l = map.len l.entries
