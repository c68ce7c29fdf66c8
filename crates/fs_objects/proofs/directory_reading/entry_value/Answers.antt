-- The item is read as an entry by what is kept of it.
use Rattle.std.proofs.Common.{Result, Ok, Err, IfOk, ap, ◌∙◌}
use Rattle.fs_objects.specs.Directory.{entry_of}
use Rattle.fs_objects.proofs.EntryLemmas.{entry_of-kept}
use Rattle.fs_objects.proofs.directory_reading.entry_value.Goals as goal

if_ok : {A E : Type 0} (P Q : A → Type 0) (r : Result A E) → ((a : A) → P a → Q a) → IfOk r P → IfOk r Q
if_ok P Q (Ok a) then holds = then a holds
if_ok P Q (Err e) then holds = tt

pub returns-clause-ok : goal.returns-clause-ok
returns-clause-ok c = if_ok _ _ c.kept_value.result (λ item is. (is.0, is.1, λ earlier. ap (entry_of earlier) is.2 ∙ entry_of-kept earlier is.0)) c.kept_value.ensures.ok
