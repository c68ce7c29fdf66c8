-- A directory has the id that is asked for, a file is compared in all that is told of it.
use Rattle.std.proofs.Common.{◌≡◌, ◌↔◌, sym, ◌∙◌, subst, true, true≢false}
use Rattle.object_graph.specs.declared.entry.Entry.{Entry}
use Rattle.tree_merge.specs.HeadDirectory.{StandsAs}
use Rattle.tree_merge.proofs.HeadDirectoryLemmas.{dir_is_no_file, dir_stands, file_is_no_dir, file_stands}
use Rattle.tree_merge.proofs.head_directory.stands_as.Goals as goal

pub returns-then-not-is_dir : goal.returns-then-not-is_dir
returns-then-not-is_dir c = record {
  value = (
    (λ t. absurd (true≢false (sym t))),
    (λ stands. absurd
        (file_is_no_dir c.args.dirent.now c.args.own.now (sym c.is_directory_mode-is_dir.ensures.value ∙ c.if-not-is_dir.true)
        (subst (λ (x : Entry). StandsAs c.args.own.now x c.args.dirent.now) c.in-Dir.is stands))),
  );
}

pub returns-else-not-is_dir : goal.returns-else-not-is_dir
returns-else-not-is_dir c = record {
  value =
      subst (λ (x : Entry). (c.are_same.result ≡ true) ↔ StandsAs c.args.own.now x c.args.dirent.now) (sym c.in-Dir.is)
      (dir_stands c.args.dirent.now c.args.own.now c.are_same.result c.are_same.ensures.value (sym c.is_directory_mode-is_dir.ensures.value ∙ c.if-not-is_dir.false));
}

pub returns-then-is_dir : goal.returns-then-is_dir
returns-then-is_dir c = record {
  value = (
    (λ t. absurd (true≢false (sym t))),
    (λ stands. absurd
        (dir_is_no_file c.args.dirent.now c.args.own.now c.in-File.id c.in-File.modifier c.in-File.mode c.in-File.size c.in-File.mtime
        (sym c.is_directory_mode-is_dir.ensures.value ∙ c.if-is_dir.true) (subst (λ (x : Entry). StandsAs c.args.own.now x c.args.dirent.now) c.in-File.is stands))),
  );
}

pub returns-else-is_dir : goal.returns-else-is_dir
returns-else-is_dir c = record {
  value =
      subst (λ (x : Entry). (c.is_same_file.result ≡ true) ↔ StandsAs c.args.own.now x c.args.dirent.now) (sym c.in-File.is)
      (file_stands c.args.dirent.now c.args.own.now c.in-File.id c.in-File.modifier c.in-File.mode c.in-File.size c.in-File.mtime
      (sym c.is_directory_mode-is_dir.ensures.value ∙ c.if-is_dir.false) c.is_same_file.result c.is_same_file.ensures.value);
}
