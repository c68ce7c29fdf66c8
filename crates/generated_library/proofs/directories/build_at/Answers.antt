-- The entries are those of the root of before, since directories stand at the top alone.
use Rattle.std.proofs.Common.{ℕ, List, Err, ap, ◌∙◌}
use Rattle.tree_merge.specs.declared.tree_builder.BuildFault.{BuildFault}
use Rattle.generated_library.specs.Generated.{time_of}
use Rattle.generated_library.proofs.DirectoriesLemmas.{root_listed, taken_built, taken_clash, timed_of, timed_root}
use Rattle.generated_library.proofs.TreeLemmas.{flat_sound}
use Rattle.generated_library.proofs.directories.build_at.Goals as goal

pub give_time-requires : goal.give_time-requires
give_time-requires c =
    let dirs = c.in-Ok.ensures.dirs (flat_sound c.args.entries c.requires.entries) in
    record { listed = root_listed c.args.entries c.in-Ok.built.made c.in-Ok.built.root dirs.0 dirs.1 }

pub returns-in-Err-clause-taken : goal.returns-in-Err-clause-taken
returns-in-Err-clause-taken c = taken_built c.args.entries c.in-Err.fault (λ (id : List ℕ) same. c.build.ensures.taken id (c.in-Err.is ∙ ap (λ (f : BuildFault). Err f) same) (flat_sound c.args.entries c.requires.entries))

pub returns-in-Ok-give_time-clause-value : goal.returns-in-Ok-give_time-clause-value
returns-in-Ok-give_time-clause-value c =
    timed_root c.args.moment c.args.entries c.in-Ok.built.made c.give_time.new.made c.in-Ok.built.root c.in-Ok-give_time.root c.requires.entries
    (c.in-Ok.ensures.value (flat_sound c.args.entries c.requires.entries)) c.in-Ok-give_time.ensures.value

pub returns-in-Ok-give_time-clause-needed : goal.returns-in-Ok-give_time-clause-needed
returns-in-Ok-give_time-clause-needed c =
    let sound = flat_sound c.args.entries c.requires.entries in
    timed_of c.args.moment c.args.entries c.in-Ok.built.made c.give_time.new.made c.in-Ok.built.root c.in-Ok-give_time.root c.requires.entries (c.in-Ok.ensures.value sound) c.in-Ok.ensures.stays
    (c.in-Ok.ensures.needed sound) c.in-Ok-give_time.ensures.value

pub returns-in-Err-give_time-clause-taken : goal.returns-in-Err-give_time-clause-taken
returns-in-Err-give_time-clause-taken c =
    taken_clash c.args.entries (time_of c.args.moment) c.in-Ok.built.made c.in-Ok.built.root (c.in-Ok.ensures.dirs (flat_sound c.args.entries c.requires.entries)).0 c.in-Ok.ensures.stays
    c.in-Err-give_time.fault c.in-Err-give_time.ensures.taken
