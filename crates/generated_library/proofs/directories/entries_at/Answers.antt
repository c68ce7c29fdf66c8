-- One entry more, from the last one on; at the end all.
use Rattle.std.proofs.Common.{arith}
use Rattle.generated_library.specs.Directories.{entry_at}
use Rattle.generated_library.specs.Generated.{time_of}
use Rattle.generated_library.proofs.DirectoriesLemmas.{timed_all, timed_more}
use Rattle.generated_library.proofs.directories.entries_at.Goals as goal

pub loop-entry-preserved : goal.loop-entry-preserved
loop-entry-preserved c =
    timed_more (entry_at (time_of c.args.moment)) c.loop-entry.left.items c.pop.new.self.items c.loop-entry.timed.items c.push.new.self.items _ c.in-Some.entry c.entry_at.result c.in-Some.ensures.items
    c.entry_at.ensures.value c.in_ok-push.ensures.items c.loop-entry.invariant

pub returns : goal.returns
returns c =
    let ok = c.loop-entry.left.ok.0 in
    let none = c.in_default.ensures.cases in
    record { value = timed_all (entry_at (time_of c.args.moment)) c.loop-entry.left.items c.loop-entry.timed.items c.reverse.new.self.items _ (omega (arith, none)) c.reverse.ensures.items c.loop-entry.invariant }
