use Rattle.std.proofs.Common.{◌≡◌, not, rules}
use Rattle.std.specs.Str.{bytes_eq}
use Rattle.std.proofs.lemmas.Fn.{filter_same}
use Rattle.ids.specs.declared.key.Kind.TheVariants.{Commit}
use Rattle.folder_storage.specs.declared.library_folder.CommitSum.{CommitSum}
use Rattle.folder_storage.proofs.LibraryFolderLemmas.{cut-short, notes}
use Rattle.folder_storage.proofs.library_folder.LibraryFolder.note_commit.Goals as goal

pub returns-in_err-push-clause-err : goal.returns-in_err-push-clause-err
returns-in_err-push-clause-err g c =
    let kept = filter_same _ (λ (commit : CommitSum). not (bytes_eq commit.id c.args.key.now.id)) _ (λ x b f' k. search rules) _ _ c.retain.ensures.filtered in
    cut-short c.from_residual.result c.args.key.now.kind c.args.key.now.id c.args.bytes.now c.args.self.now.commits.items c.retain.new.self.items
    c.push.new.self.items kept c.in_err-push.ensures.items

pub returns-in_ok-push-clause-ok : goal.returns-in_ok-push-clause-ok
returns-in_ok-push-clause-ok g c =
    let kept = filter_same _ (λ (commit : CommitSum). not (bytes_eq commit.id c.args.key.now.id)) _ (λ x b f' k. search rules) _ _ c.retain.ensures.filtered in
    let commit : c.args.key.now.kind ≡ Commit = search rules in
    notes c.args.key.now.kind c.args.key.now.id c.args.bytes.now c.of-sum.result c.args.self.now.commits.items c.retain.new.self.items
    c.push.new.self.items commit kept c.of-sum.ensures.value c.in_ok-push.ensures.items
