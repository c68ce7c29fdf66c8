-- Some members were read, and the parts are theirs.
use Rattle.std.proofs.Common.{length}
use Rattle.serde_json.specs.Data.{Members}
use Rattle.json_tokens.proofs.FrontLemmas.{MembersAfter}
use Rattle.fs_objects.specs.Parts.{AreProper, IsPartsOf, member_depth}
use Rattle.fs_objects.proofs.object_reading.read_members.Given as goal

abbrev pub invariant-members : goal.invariant-members
invariant-members l = record {
  found : Members;
  after : MembersAfter member_depth l.initial.reader found l.reader;
  parts : IsPartsOf found l.parts;
  proper : AreProper l.parts;
}

abbrev pub decreases-members : goal.decreases-members
decreases-members l = length l.reader
