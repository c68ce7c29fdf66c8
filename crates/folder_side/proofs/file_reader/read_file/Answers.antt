use Rattle.std.proofs.Common.{◌∷◌, ◌∙◌, [], Bool, ℕ, ap, subst, sym}
use Rattle.block_chunker.specs.declared.cuts.Cuts.{Cuts}
use Rattle.folder_side.specs.Calls.{Opened, ReadsOn, with_calls}
use Rattle.folder_side.specs.FileRead.{IsBehind}
use Rattle.folder_side.proofs.CallLemmas.{reads_opened}
use Rattle.folder_side.proofs.file_reader.read_file.Goals as goal

pub returns-in-Err-clause-refused : goal.returns-in-Err-clause-refused
returns-in-Err-clause-refused g c = λ c' bytes told here. c.read_fault.ensures.value bytes

pub returns-clause-traced : goal.returns-clause-traced
returns-clause-traced g c =
    let reading = c.new-reading.result in
    let opened = c.in-Ok-true.ensures.traced ∙ ap (λ (there : Bool). with_calls (g.F.Folder.trace c.args.folder.now) (Opened c.args.file.now there ∷ [])) c.in-Ok-true.field-0-test in
    let behind = subst (λ (cuts : Cuts). IsBehind cuts [] reading) (sym c.new-reading.ensures.stays) (c.new-reading.ensures.value []) in
    let reads = c.read_rest.ensures.traced [] behind c.new-reading.ensures.bound in
    reads_opened c.args.cuts c.args.file.now (g.F.Folder.trace c.args.folder.now) (g.F.Folder.trace c.open_file.new.self) (g.F.Folder.trace c.read_rest.new.folder) c.read_rest.result opened
    (subst (λ (cuts : Cuts). ReadsOn cuts c.args.file.now 0 [] (g.F.Folder.trace c.open_file.new.self) (g.F.Folder.trace c.read_rest.new.folder) c.read_rest.result) c.new-reading.ensures.stays
    (subst (λ (start : ℕ). ReadsOn reading.chunker.cuts c.args.file.now start [] (g.F.Folder.trace c.open_file.new.self) (g.F.Folder.trace c.read_rest.new.folder) c.read_rest.result)
    c.new-reading.ensures.bound reads))
