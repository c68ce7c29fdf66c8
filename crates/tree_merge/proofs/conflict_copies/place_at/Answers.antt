use Rattle.std.proofs.Common.{◌≡◌, ◌∙◌, ℤ, w64, ◌<◌, length, ap, subst, sym, refl}
use Rattle.std.specs.Prelude.{FitsSigned}
use Rattle.std.proofs.lemmas.Int.{to_z-of_z}
use mir.Val.{to_z, of_z}
use Rattle.conflict_names.specs.Naming.{naming}
use Rattle.tree_merge.proofs.PlaceLemmas.{placed_at, long_at, long_told}
use Rattle.tree_merge.proofs.conflict_copies.place_at.Goals as goal

-- a number that fits is read back
same_mtime : (z : ℤ) → FitsSigned w64 z → to_z w64 (of_z w64 z) ≡ z
same_mtime z h = to_z-of_z w64 z h

pub returns-in-Ok-clause-value : goal.returns-in-Ok-clause-value
returns-in-Ok-clause-value c =
    placed_at c.args.path.now c.in-Some.dir c.in-Some.name c.args.file.now c.args.number (sym c.in_ok-copy.ensures.value ∙ c.in-Some.ensures.value)
    c.in-Ok.name c.in_ok-child-in-Ok.field-0 (c.in-Ok.ensures.value ∙ ap (λ t. naming c.in-Some.name c.args.file.now.modifier t c.args.number) (same_mtime c.changed.result c.changed.ensures.bound ∙ c.changed.ensures.value)) c.in_ok-child-in-Ok.ensures.value (λ long. c.in-Ok.ensures.too_long (subst (λ t. 255 < length (naming c.in-Some.name c.args.file.now.modifier t c.args.number)) (sym (same_mtime c.changed.result c.changed.ensures.bound ∙ c.changed.ensures.value)) long))

pub returns-in-Err-TooLong-clause-too_long : goal.returns-in-Err-TooLong-clause-too_long
returns-in-Err-TooLong-clause-too_long c of bytes e =
    let told = long_told _ c.in_ok-copy-in-Err-TooLong.field-0 of c.in-Err-TooLong.bytes bytes refl e in
    let at = rw c.in-Err-TooLong.field-0-is at c.in-Err-TooLong.ensures.too_long in
    let long = at.0 c.in-Err-TooLong.bytes refl in
    long_at c.args.path.now c.in-Some.dir c.in-Some.name c.args.file.now c.args.number (sym c.in_ok-copy.ensures.value ∙ c.in-Some.ensures.value)
    c.in_ok-copy-in-Err-TooLong.field-0 of c.in-Err-TooLong.bytes bytes c.in_ok-copy-in-Err-TooLong.ensures.value (long.0 ∙ ap (λ t. length (naming c.in-Some.name c.args.file.now.modifier t c.args.number)) (same_mtime c.changed.result c.changed.ensures.bound ∙ c.changed.ensures.value)) (subst (λ t. 255 < length (naming c.in-Some.name c.args.file.now.modifier t c.args.number)) (same_mtime c.changed.result c.changed.ensures.bound ∙ c.changed.ensures.value) long.1) told.0 told.1
