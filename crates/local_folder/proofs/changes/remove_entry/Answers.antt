use Rattle.std.proofs.Common.{◌∷◌, ◌++◌, [], inl}
use Rattle.local_folder.specs.Steps.{Removed}
use Rattle.local_folder.proofs.StepLemmas.{does-named}
use Rattle.local_folder.proofs.changes.remove_entry.Goals as goal

pub returns-in-Some-File : goal.returns-in-Some-File
returns-in-Some-File g c = record {
  order = λ path at.
      does-named (λ n. Removed (path ++ n ∷ [])) c.as_str-in-Some-File.result.now c.args.name.now
      (g.C.DirectoryCalls.steps c.args.calls.now) (g.C.DirectoryCalls.steps c.look.new.self) (g.C.DirectoryCalls.steps c.remove_file.new.self)
      c.remove_file.result c.as_str-in-Some-File.ensures.value c.in-Ok.ensures.stays (c.remove_file.ensures.order path at);
}

pub returns-in-Some-Directory : goal.returns-in-Some-Directory
returns-in-Some-Directory g c = record {
  order = λ path at.
      does-named (λ n. Removed (path ++ n ∷ [])) c.as_str-in-Some-Directory.result.now c.args.name.now
      (g.C.DirectoryCalls.steps c.args.calls.now) (g.C.DirectoryCalls.steps c.look.new.self) (g.C.DirectoryCalls.steps c.remove_directory.new.self)
      c.remove_directory.result c.as_str-in-Some-Directory.ensures.value c.in-Ok.ensures.stays (c.remove_directory.ensures.order path at);
}

pub returns-in-Err : goal.returns-in-Err
returns-in-Err g c = record { order = λ path at. inl c.in-Err.ensures.stays }

pub returns-in_default : goal.returns-in_default
returns-in_default g c = record { order = λ path at. inl c.in-Ok.ensures.stays }
