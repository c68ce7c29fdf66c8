-- The command that makes a library. Our own. Read CreatesSo first.
use Rattle.std.specs.Prelude.{◌≡◌, ℕ, List, Option, Result, Ok, Err}
use Rattle.folder_storage.specs.Ground.{Absent, Standing}
use Rattle.library_server.specs.Making.{RefusesNew, library_of}
use Rattle.library_server.specs.Standing.{StandsAs}
use Rattle.library_server.specs.declared.making.NewLibrary.{NewLibrary}
use Rattle.library_server.specs.declared.not_done.NotMade.{NotMade}

-- over told libraries, as one stood before and stands after: where there was none, the new one is there, with its opening
-- commit of this moment; or none was made
abbrev pub CreatesSo : NewLibrary → ℕ → Standing → Result (List ℕ) NotMade → Option Standing → Type 0
CreatesSo new moment standing (Ok head) after = (standing ≡ Absent) × (count : ℕ) × StandsAs after (library_of new moment count)
CreatesSo new moment standing (Err why) after = RefusesNew new moment standing why after
