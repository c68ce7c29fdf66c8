use Rattle.folder_side.proofs.FileReadLemmas.{IsBehind-start}
use Rattle.folder_side.proofs.file_reader.Reading.new.Goals as goal

pub returns-clause-value : goal.returns-clause-value
returns-clause-value c = λ bytes. IsBehind-start c.args.cuts bytes c.new.result c.new-2.result c.new.ensures.value c.new-2.ensures.value
