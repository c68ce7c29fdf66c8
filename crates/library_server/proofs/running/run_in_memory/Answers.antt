-- A new place in memory has no library, and no shelf of it ever counts a fault.
use Rattle.std.proofs.Common.{refl}
use Rattle.folder_storage.specs.Ground.{Absent}
use Rattle.folder_storage.specs.MemoryGround.{standings}
use Rattle.library_server.proofs.running.run_in_memory.Goals as goal

pub returns : goal.returns
returns g c =
    let done = (rw c.new-libraries.ensures.value at (rw c.new-libraries.ensures.faults at c.run.ensures.steady)) (λ shelf. refl) (λ folder lib. (Absent, refl, tt)) in
    record {
      runs = (
        record { stands = standings c.run.new.libraries.libraries.items; faults = c.run.new.libraries.faults },
        done.0,
      );
      steady = (
        record { stands = standings c.run.new.libraries.libraries.items; faults = c.run.new.libraries.faults },
        done.0,
        done.1,
      );
    }
