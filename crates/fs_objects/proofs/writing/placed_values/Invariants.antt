-- The map so far has the values of the entries so far, under their names.
use Rattle.std.proofs.Common.{◌≡◌, [], All, map, take}
use Rattle.fs_objects.specs.Placing.{shown, seen}
use Rattle.fs_objects.specs.Spelling.{placed}
use Rattle.fs_objects.specs.Typed.{IsTyped}
use Rattle.fs_objects.proofs.writing.placed_values.Given as goal

abbrev pub invariant-loop-entry : goal.invariant-loop-entry
invariant-loop-entry l = record {
  value : map seen l.by_name.entries ≡ map shown (placed [] (take l.entry-index l.entries));
  typed : All IsTyped (take l.entry-index l.entries);
}
