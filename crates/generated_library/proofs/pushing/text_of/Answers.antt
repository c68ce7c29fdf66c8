-- An object whose block has a name is read back.
use Rattle.std.proofs.Common.{◌≡◌, ◌≢◌, [], ◌∷◌, ap, ◌∙◌, subst, sym, List, ℕ, length, Ok}
use Rattle.std.specs.Prelude.{All}
use Rattle.std.proofs.lemmas.List.Elements.{All-cons, All-nil}
use Rattle.sha1.specs.Sha1.{sha1}
use Rattle.fs_objects.specs.FsObject.{fs_of}
use Rattle.fs_objects.specs.Spelling.{text_of}
use Rattle.fs_objects.specs.declared.fs_object.FsObject.TheVariants as fs
use Rattle.ids.specs.ObjectId.{nil}
use Rattle.generated_library.proofs.pushing.text_of.Goals as goal

pub returns-clause-value : goal.returns-clause-value
returns-clause-value c =
    let named = c.in_ok-blocks.ensures.value ∙ ap (λ (id : List ℕ). id ∷ []) c.of.ensures.value in
    c.in_ok-text.ensures.value ∙ ap (λ (ids : List (List ℕ)). text_of (fs.File (record { blocks = ids; size = length c.args.bytes.now }))) named

pub returns-clause-reads : goal.returns-clause-reads
returns-clause-reads c = λ some.
    let named = c.in_ok-blocks.ensures.value ∙ ap (λ (id : List ℕ). id ∷ []) c.of.ensures.value in
    let proper = subst (λ (ids : List (List ℕ)). All (λ id. id ≢ nil) ids) (sym named) (All-cons (λ (id : List ℕ). id ≢ nil) (sha1 c.args.bytes.now) [] some (All-nil (λ (id : List ℕ). id ≢ nil))) in
    subst (λ (ids : List (List ℕ)). fs_of (text_of (fs.File (record { blocks = ids; size = length c.args.bytes.now }))) ≡ Ok (fs.File (record { blocks = ids; size = length c.args.bytes.now }))) named
    (ap fs_of (sym c.in_ok-text.ensures.value) ∙ c.in_ok-text.ensures.reads_back proper)
