-- The root is stored, and its object is a directory.
use Rattle.std.proofs.Common.{sym, ◌∙◌}
use Rattle.generated_library.specs.Generated.{time_of}
use Rattle.generated_library.proofs.DirectoriesLemmas.{all_refused, all_replaced, listed_text, some_id, unlisted}
use Rattle.generated_library.proofs.directories.give_time.Goals as goal

pub unreachable-requires : goal.unreachable-requires
unreachable-requires c =
    let listed = c.requires.listed (some_id c.is_nil.result c.args.root c.is_nil.ensures.value c.if-is_nil.false) in
    unlisted c.args.made.now c.args.root listed.0 listed.1 (sym c.remove.ensures.value ∙ c.in_default.is)

pub text_at-requires : goal.text_at-requires
text_at-requires c =
    let listed = c.requires.listed (some_id c.is_nil.result c.args.root c.is_nil.ensures.value c.if-is_nil.false) in
    record { listed = (listed.0, listed_text c.args.made.now c.args.root c.in-Some.before c.slice.result.now listed.0 listed.1 c.in-Some.ensures.value c.slice.ensures.value) }

pub returns-clause-value : goal.returns-clause-value
returns-clause-value c =
    let some = some_id c.is_nil.result c.args.root c.is_nil.ensures.value c.if-is_nil.false in
    let listed = c.requires.listed some in
    let reads = listed_text c.args.made.now c.args.root c.in-Some.before c.slice.result.now listed.0 listed.1 c.in-Some.ensures.value c.slice.ensures.value in
    all_replaced (time_of c.args.moment) c.args.made.now c.remove.new.self c.place.new.made c.args.root c.in-Ok.bytes listed.0 c.place.result some listed.1 (c.in-Ok.ensures.value listed.0 reads) c.remove.ensures.stays
    c.place.ensures.value

pub returns-clause-taken : goal.returns-clause-taken
returns-clause-taken c =
    let listed = c.requires.listed (some_id c.is_nil.result c.args.root c.is_nil.ensures.value c.if-is_nil.false) in
    let reads = listed_text c.args.made.now c.args.root c.in-Some.before c.slice.result.now listed.0 listed.1 c.in-Some.ensures.value c.slice.ensures.value in
    all_refused (time_of c.args.moment) c.args.made.now c.remove.new.self c.args.root c.in-Ok.bytes listed.0 c.place.result listed.1 (c.in-Ok.ensures.value listed.0 reads) c.remove.ensures.stays c.place.ensures.taken
