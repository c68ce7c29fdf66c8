-- Which error of a conflict name may come in any refusal's place. Our own.
use Rattle.std.specs.Prelude.{Bool, true, false}
use Rattle.conflict_names.specs.declared.naming.ConflictFault.{ConflictFault}
use Rattle.conflict_names.specs.declared.naming.ConflictFault.TheVariants.{TooLong, NoMemory}

abbrev pub is_no_memory : ConflictFault → Bool
is_no_memory (TooLong length) = false
is_no_memory NoMemory = true
