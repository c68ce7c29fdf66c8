-- What is told of a job that the words ask for. Our own.
use Rattle.std.specs.Prelude.{⊤}
use Rattle.client_words.specs.JobWriting.{IsJob}
use Rattle.client_words.specs.declared.words.Words.{Words}
use Rattle.client_words.specs.declared.words.Words.TheVariants.{Download, Sync}

-- its values have the form of their options: it can stand in a list of jobs, and its host in a request
abbrev pub HasProperJob : Words → Type 0
HasProperJob (Download conf job) = IsJob job
HasProperJob (Sync conf job) = IsJob job
HasProperJob other = ⊤
