use Rattle.std.proofs.Common.{◌≡◌, Some, subst, sym, ◌∙◌}
use Rattle.std.specs.List.{list_any}
use Rattle.folder_side.specs.Folder.{listing_at}
use Rattle.folder_texts.specs.FolderTexts.{is_file_of}
use Rattle.folder_texts.proofs.TextLemmas.{listed-is}
use Rattle.folder_texts.proofs.texts.has_text.Goals as goal

pub returns-in-Ok-clause-value : goal.returns-in-Ok-clause-value
returns-in-Ok-clause-value g c = λ c' t.
    subst (λ items. c.has_file.result ≡ list_any (is_file_of c.args.name.now) items) c.slice.ensures.value c.has_file.ensures.value
    ∙ listed-is c' c.in-Ok.listing c.args.name.now (subst (λ dir. Some c.in-Ok.listing ≡ listing_at c' dir) c.root.ensures.value (c.in-Ok.ensures.listed c' t))
