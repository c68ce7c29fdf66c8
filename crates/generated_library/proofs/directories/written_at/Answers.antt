-- The same names, and the same order of them.
use Rattle.std.proofs.Common.{◌≡◌, List, ap, map, ◌∙◌}
use Rattle.tree_merge.proofs.TableLemmas.{if_ok_more}
use Rattle.fs_objects.specs.declared.dirent.Dirent.{Dirent}
use Rattle.generated_library.specs.Directories.{entry_at}
use Rattle.generated_library.specs.Generated.{time_of}
use Rattle.generated_library.proofs.DirectoriesLemmas.{distinct_at, text_timed}
use Rattle.generated_library.proofs.directories.written_at.Goals as goal

pub directory_text-requires : goal.directory_text-requires
directory_text-requires c =
    let is : c.from_vec.result ≡ map (entry_at (time_of c.args.moment)) c.directory.inside.entries =
    c.from_vec.ensures.value ∙ (c.in_ok-timed.ensures.value ∙ ap (λ (es : List Dirent). map (entry_at (time_of c.args.moment)) es) c.into_vec.ensures.value) in
    record { ready = distinct_at (time_of c.args.moment) c.directory.inside.entries c.from_vec.result is c.directory.invariant }

pub returns : goal.returns
returns c =
    let is : c.from_vec.result ≡ map (entry_at (time_of c.args.moment)) c.directory.inside.entries =
    c.from_vec.ensures.value ∙ (c.in_ok-timed.ensures.value ∙ ap (λ (es : List Dirent). map (entry_at (time_of c.args.moment)) es) c.into_vec.ensures.value) in
    rw (← c.directory.view_is) record {
      value = if_ok_more c.directory_text.result
          (λ text reads. text_timed (time_of c.args.moment) c.directory.inside.entries c.from_vec.result text is c.directory.invariant (rw c.directory.view_is c.requires.proper) reads)
          c.directory_text.ensures.value;
    }
