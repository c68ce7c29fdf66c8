-- For private clauses: what the types of the program tell of a job. Read IsTyped first.
use Rattle.std.specs.Prelude.{◌≡◌, Some}
use Rattle.uuid.specs.Text.{hyphenated_text, lower}
use Rattle.json_words.specs.IdText.{IsId, library_id_of}
use Rattle.client_words.specs.declared.job.Job.{Job}

-- the ids are read from their texts
pub record IsTyped (job : Job) : Type 0 where
  pub lib : library_id_of (hyphenated_text lower job.lib) ≡ Some job.lib
  pub secret : IsId job.secret
