-- The text that was read is that of the library, or another one's.
use Rattle.std.proofs.Common.{inl}
use Rattle.library_server.proofs.StartingLemmas.{faulted, is_other, is_same, other_due}
use Rattle.library_server.proofs.starting.check_named.Goals as goal

pub returns-else-ne-clause-named : goal.returns-else-ne-clause-named
returns-else-ne-clause-named g c = λ status there. record {
  text = c.in-Ok.ensures.value.text;
  found = c.in-Ok.state;
  there = c.in-Ok.ensures.value.told status there;
  reads = c.in-Ok.ensures.value.reads;
  named = is_same _ _ c.if-ne.ensures;
}

pub returns-then-ne-clause-refused : goal.returns-then-ne-clause-refused
returns-then-ne-clause-refused g c = λ objects status there.
    inl (other_due c.args.lib.now objects status c.in-Ok.ensures.value.text c.in-Ok.state (c.in-Ok.ensures.value.told status there) c.in-Ok.ensures.value.reads (is_other _ _ c.if-ne.ensures))

pub returns-then-ne-clause-cause : goal.returns-then-ne-clause-cause
returns-then-ne-clause-cause g c = record { state = c.in-Ok.state; given = c.in-Ok.ensures.any; other = is_other _ _ c.if-ne.ensures }

pub returns-in-Err-clause-refused : goal.returns-in-Err-clause-refused
returns-in-Err-clause-refused g c = λ objects status there. faulted c.args.lib.now objects status c.in-Err.fault c.in-Err.ensures.bad (c.in-Err.ensures.refused objects status there)
