use Rattle.std.proofs.Common.{sym, ◌∙◌, ap, unwrap_or}
use Rattle.std.specs.List.{list_any}
use Rattle.std.specs.FinMap as map
use Rattle.tree_model.specs.DirectorySurvival.{is_under}
use Rattle.folder_side.specs.Folder.{Contents, nameless_at}
use Rattle.folder_side.proofs.FolderLemmas.{IsEmptyDir-test}
use Rattle.folder_side.proofs.memory_contents.MemoryContents.is_empty_dir.Goals as goal

pub returns-then-nameless-eq0 : goal.returns-then-nameless-eq0
returns-then-nameless-eq0 c = record {
  value = IsEmptyDir-test c.args.self.now c.args.dir.now c.has_under.result
      (ap (λ (x : Contents). nameless_at x c.args.dir.now) (sym c.self.view_is) ∙ ap (λ o. unwrap_or o 0) (sym c.get.ensures.value ∙ sym c.copied.ensures) ∙ sym c.unwrap_or-nameless.ensures ∙ c.if-nameless-eq0.true)
      (c.has_under.ensures.value ∙ ap (λ (x : Contents). list_any (λ entry. is_under c.args.dir.now entry.0) (map.entries x.paths)) c.self.view_is);
}
