-- What is left to read, after the entries so far, gives the whole answer; the set has the names so far.
use Rattle.std.proofs.Common.{All, [], length}
use Rattle.std.specs.List.{IsDistinct}
use Rattle.std.specs.Str.{bytes_eq}
use Rattle.fs_objects.specs.Directory.{entries_after, names_of}
use Rattle.fs_objects.specs.Proper.{IsProperEntry}
use Rattle.fs_objects.specs.Reading.{HasNames}
use Rattle.json_tokens.proofs.RestLemmas.{Reads}
use Rattle.fs_objects.proofs.directory_reading.entries_behind.Given as goal

abbrev pub invariant-items : goal.invariant-items
invariant-items l = record {
  reads : Reads (entries_after []) (entries_after l.entries) l.depth l.initial.reader l.reader;
  names : HasNames l.names.keys l.entries;
  distinct : IsDistinct bytes_eq (names_of l.entries);
  proper : All IsProperEntry l.entries;
}

abbrev pub decreases-items : goal.decreases-items
decreases-items l = length l.reader
