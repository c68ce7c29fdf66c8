-- What was read is the one directory that the bytes are.
use Rattle.std.proofs.Common.{List, subst}
use Rattle.fs_objects.specs.Proper.{IsProper}
use Rattle.fs_objects.specs.FsObject.{fs_of}
use Rattle.fs_objects.specs.declared.dirent.Dirent.{Dirent}
use Rattle.tree_merge.proofs.TableLemmas.{if_ok_more}
use Rattle.generated_library.specs.Directories.{IsTextAt}
use Rattle.generated_library.specs.Generated.{time_of}
use Rattle.generated_library.proofs.DirectoriesLemmas.{read_once}
use Rattle.generated_library.proofs.directories.text_at.Goals as goal

pub written_at-requires : goal.written_at-requires
written_at-requires c = record { proper = subst IsProper c.in-Dir.is c.in-Ok.ensures.proper }

pub returns : goal.returns
returns c = record {
  value = if_ok_more c.written_at.result
      (λ text timed dirents reads. subst (λ (ds : List Dirent). IsTextAt (time_of c.args.moment) ds text)
      (read_once (fs_of c.args.bytes.now) c.in-Ok.object c.in-Dir.directory dirents c.in-Ok.ensures.value c.in-Dir.is reads) timed)
      c.written_at.ensures.value;
}
