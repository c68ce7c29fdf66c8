use Rattle.std.proofs.Common.{subst, sym}
use Rattle.folder_storage.specs.Durability.{In}
use Rattle.folder_storage.proofs.library_folder.LibraryFolder.add_earlier.Goals as goal

pub returns-in-Err-add_all-clause-listed : goal.returns-in-Err-add_all-clause-listed
returns-in-Err-add_all-clause-listed g c key is = c.add_all-2.ensures.listed key (c.add_all.ensures.listed key is)

pub returns-clause-listed : goal.returns-clause-listed
returns-clause-listed g c key is = c.add_all-2.ensures.listed key (c.add_all.ensures.listed key is)

pub returns-clause-found : goal.returns-clause-found
returns-clause-found g c = λ once. (
  (λ key is. c.add_all-2.ensures.listed key (c.in_default.ensures.found key (subst (In key) (sym c.as_slice.ensures.value) is))),
  (λ key is. c.in_default-add_all.ensures.found key (subst (In key) (sym c.as_slice-2.ensures.value) is)),
)
