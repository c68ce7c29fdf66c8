use Rattle.std.proofs.Common.{◌≡◌, ◌≤◌, ◌∙◌, length, IsUtf8, ℕ, ap, sym, subst, arith, FitsSigned, w64, to_z-of_z}
use Rattle.tree_model.specs.Name.{IsName}
use Rattle.conflict_names.specs.Naming.{naming}
use Rattle.conflict_names.proofs.GoodNameLemmas.{naming-good}
use Rattle.conflict_names.proofs.Utf8NameLemmas.{naming-utf8}
use Rattle.conflict_names.proofs.naming.conflict_name.Goals as goal

pub name_of-requires-clause-utf8 : goal.name_of-requires-clause-utf8
name_of-requires-clause-utf8 c =
    let fits : FitsSigned w64 c.args.mtime = c.ranges.mtime in
    let made : c.as_slice.result.now ≡ naming c.as_bytes.result.now c.as_bytes-2.result.now c.args.mtime c.args.k =
    c.as_slice.ensures.value ∙ (simp to_z-of_z at c.in_ok-made.ensures.value) in
    subst IsUtf8 (sym made)
    (naming-utf8 c.as_bytes.result.now c.as_bytes-2.result.now c.args.mtime c.args.k c.as_bytes.ensures.utf8 (subst IsUtf8 (sym c.as_bytes-2.ensures.value) c.as_bytes-2.ensures.utf8))

pub name_of-requires-clause-name : goal.name_of-requires-clause-name
name_of-requires-clause-name c =
    let fits : FitsSigned w64 c.args.mtime = c.ranges.mtime in
    let made : c.as_slice.result.now ≡ naming c.as_bytes.result.now c.as_bytes-2.result.now c.args.mtime c.args.k =
    c.as_slice.ensures.value ∙ (simp to_z-of_z at c.in_ok-made.ensures.value) in
    let name : IsName c.as_bytes.result.now = subst IsName (sym (c.as_bytes.ensures.value ∙ c.as_str-text.ensures.value)) c.as_str-text.ensures.name in
    let short : length (naming c.as_bytes.result.now c.as_bytes-2.result.now c.args.mtime c.args.k) ≤ 255 =
    omega (arith, ap (length {A = ℕ}) made, c.as_slice.ensures.len, c.len.ensures) in
    subst IsName (sym made) (naming-good c.as_bytes.result.now c.as_bytes-2.result.now c.args.mtime c.args.k name short)
