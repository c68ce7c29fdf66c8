-- The name is the SHA-1 of the bytes.
use Rattle.std.proofs.Common.{List, ℕ, ap, ◌∙◌, inl}
use Rattle.std.specs.FinMap as map
use Rattle.sha1.specs.Sha1.{sha1}
use Rattle.object_graph.specs.Objects.{fs_key}
use Rattle.generated_library.specs.Directories.{is_other}
use Rattle.generated_library.proofs.DirectoriesLemmas.{placed_by, refused_other, some_id}
use Rattle.generated_library.proofs.directories.place.Goals as goal

pub returns-then-is_nil-clause-taken : goal.returns-then-is_nil-clause-taken
returns-then-is_nil-clause-taken c = record { own = c.of-id.ensures.value ∙ ap sha1 c.slice.ensures.value; clash = inl (c.is_nil.ensures.value.0 c.if-is_nil.true) }

pub returns-then-is_other-clause-taken : goal.returns-then-is_other-clause-taken
returns-then-is_other-clause-taken c =
    refused_other c.args.bytes c.args.made.now c.of-id.result c.is_other.result (c.of-id.ensures.value ∙ ap sha1 c.slice.ensures.value)
    (c.is_other.ensures.value ∙ ap (λ (b : List ℕ). is_other b (map.get c.args.made.now (fs_key c.of-id.result))) c.slice-2.ensures.value) c.if-is_other.true

pub returns-in-Ok-clause-value : goal.returns-in-Ok-clause-value
returns-in-Ok-clause-value c =
    placed_by c.args.bytes c.args.made.now c.put.new.self c.of-id.result c.is_other.result (c.of-id.ensures.value ∙ ap sha1 c.slice.ensures.value)
    (some_id c.is_nil.result c.of-id.result c.is_nil.ensures.value c.if-is_nil.false)
    (c.is_other.ensures.value ∙ ap (λ (b : List ℕ). is_other b (map.get c.args.made.now (fs_key c.of-id.result))) c.slice-2.ensures.value) c.if-is_other.false c.in-Ok.ensures.ok
