-- The library that was made is the one of memory.
use Rattle.std.proofs.Common.{refl}
use Rattle.folder_storage.specs.Ground.{Absent}
use Rattle.library_server.specs.Starting.{made, memory_library, of_new}
use Rattle.library_server.specs.Making.{library_of}
use Rattle.library_server.proofs.CauseLemmas.{made_gives}
use Rattle.library_server.proofs.starting.make_in_memory.Goals as goal

pub returns-in-Ok-make_library-clause-shown : goal.returns-in-Ok-make_library-clause-shown
returns-in-Ok-make_library-clause-shown g c = λ absent.
    let new = (rw c.in-Ok.ensures.value at c.in-Ok-make_library.ensures.shown) Absent absent in
    (library_of (memory_library c.args.lib) c.now.result new.1, new.2, made tt refl c.now.result new.1 c.now.ensures.value refl)

pub returns-in-Ok-make_library-clause-steady : goal.returns-in-Ok-make_library-clause-steady
returns-in-Ok-make_library-clause-steady g c = λ steady absent. (rw c.in-Ok.ensures.value at c.in-Ok-make_library.ensures.steady) steady Absent absent tt

pub returns-clause-steady : goal.returns-clause-steady
returns-clause-steady g c = λ steady absent. (rw c.in-Ok.ensures.value at c.in-Err-make_library.ensures.steady) steady Absent absent tt

pub returns-in-Ok-make_library-clause-any : goal.returns-in-Ok-make_library-clause-any
returns-in-Ok-make_library-clause-any g c =
    of_new tt c.now.result c.now.ensures.value (rw c.in-Ok.ensures.value at c.in-Ok-make_library.ensures.value).0

pub returns-in-Ok-make_library-clause-gives : goal.returns-in-Ok-make_library-clause-gives
returns-in-Ok-make_library-clause-gives g c =
    made_gives c.args.lib (g.C.Clock.shows c.args.clock.now) c.in-Ok-make_library.depot.state c.now.result c.now.ensures.value (rw c.in-Ok.ensures.value at c.in-Ok-make_library.ensures.value).0
    (rw c.in-Ok.ensures.value at c.in-Ok-make_library.ensures.gives)

pub returns-in-Ok-make_library-clause-others : goal.returns-in-Ok-make_library-clause-others
returns-in-Ok-make_library-clause-others g c = rw c.in-Ok.ensures.value at c.in-Ok-make_library.ensures.others

pub returns-clause-others : goal.returns-clause-others
returns-clause-others g c = rw c.in-Ok.ensures.value at c.in-Err-make_library.ensures.others
