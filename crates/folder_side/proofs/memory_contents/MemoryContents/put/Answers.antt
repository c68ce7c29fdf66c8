use Rattle.std.proofs.Common.{sym, ◌∙◌, subst, ap}
use Rattle.folder_side.specs.Folder.{Contents, CanStand, at}
use Rattle.folder_side.proofs.FolderLemmas.{IsFolder-with}
use Rattle.folder_side.proofs.memory_contents.MemoryContents.put.Goals as goal

pub invariant_of-self-2 : goal.invariant_of-self-2
invariant_of-self-2 c =
    let whole : Contents = record { paths = c.self.inside.paths; nameless = c.self.inside.nameless } in
    let stands : CanStand whole c.args.path = subst (λ (x : Contents). CanStand x c.args.path) (sym c.self.view_is) c.requires.stands in
    rw c.in_ok-insert.ensures.ok
    (IsFolder-with whole c.args.path c.args.holding c.self.invariant c.requires.path stands (λ e. c.requires.plain (ap (λ (x : Contents). at x c.args.path) (sym c.self.view_is) ∙ e)))
