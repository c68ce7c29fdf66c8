use Rattle.std.proofs.Common.{◌∙◌}
use Rattle.std.proofs.lemmas.Bool.{false≢true}
use Rattle.folder_storage.proofs.DurabilityLemmas.{adds-earlier, mark-stays}
use Rattle.folder_storage.proofs.syncing.LibraryFolderDisk.gather.Goals as goal

pub returns-clause-found : goal.returns-clause-found
returns-clause-found g c =
    adds-earlier c.args.self.now.earlier.near.items c.clear.new.self.earlier.near.items c.args.self.now.earlier.whole.items c.clear.new.self.earlier.whole.items
    c.add_earlier.new.keys.items c.args.self.now.has_earlier c.clear.new.self.has_earlier c.add_earlier.result c.clear.ensures.stays c.add_earlier.ensures.found

pub returns-clause-stays : goal.returns-clause-stays
returns-clause-stays g c = (c.add_earlier.ensures.stays.0 ∙ c.clear.ensures.stays.0, c.add_earlier.ensures.stays.1 ∙ c.clear.ensures.stays.1)

pub returns-clause-err : goal.returns-clause-err
returns-clause-err g c =
    mark-stays c.args.self.now.has_earlier c.clear.new.self.has_earlier c.add_earlier.new.self.has_earlier c.add_earlier.result c.clear.ensures.stays.2 c.add_earlier.ensures.err

pub returns-clause-refused : goal.returns-clause-refused
returns-clause-refused g c = (λ is. absurd (false≢true (c.in_default.ensures.refused.0 is)), λ is. absurd (false≢true (c.in_default.ensures.refused.1 is)))
