-- What the choice of files gives. The key lemmas are same_file-itself, same_file-sym and the choices by case.
use Rattle.std.proofs.Common.{◌≡◌, ◌&&◌, ◌==◌, Bool, true, false, refl, sym, ap, ap₂, ◌∙◌, subst, nat_eq, Option, Some, None, is_some, eqb-true, eq-eqb}
use Rattle.std.specs.Cmp.Lexicographic.{pointwise, bytes_decides}
use Rattle.std.proofs.lemmas.Bool.{and_parts}
use Rattle.tree_model.specs.declared.node.FileVersion.{FileVersion}
use Rattle.tree_model.specs.FileMerge.{same_version, same_file, choice, choice_by, only, Choice}
use Rattle.tree_model.proofs.BelowLemmas.{name_itself}

pub version_itself : (f : FileVersion) → same_version f f ≡ true
version_itself f = ap₂ ◌&&◌ (name_itself f.bytes) (eq-eqb f.mode f.mode refl)

pub same_file-itself : (o : Option FileVersion) → same_file o o ≡ true
same_file-itself None = refl
same_file-itself (Some f) = version_itself f

version_parts : (f g : FileVersion) → same_version f g ≡ true → (f.bytes ≡ g.bytes) × (f.mode ≡ g.mode)
version_parts f g e =
    let parts = and_parts (pointwise nat_eq f.bytes g.bytes) (f.mode == g.mode) e in
    ((bytes_decides f.bytes g.bytes).0 parts.0, eqb-true f.mode g.mode parts.1)

version_from : (f g : FileVersion) → f.bytes ≡ g.bytes → f.mode ≡ g.mode → same_version f g ≡ true
version_from f g bytes mode = ap₂ ◌&&◌ ((bytes_decides f.bytes g.bytes).1 bytes) (eq-eqb f.mode g.mode mode)

pub same_file-sym : (o p : Option FileVersion) → same_file o p ≡ true → same_file p o ≡ true
same_file-sym None None e = refl
same_file-sym None (Some g) e = cc
same_file-sym (Some f) None e = cc
same_file-sym (Some f) (Some g) e =
    let parts = version_parts f g e in version_from g f (sym parts.0) (sym parts.1)

pub same_file-trans : (o p q : Option FileVersion) → same_file o p ≡ true → same_file p q ≡ true → same_file o q ≡ true
same_file-trans None None q e h = h
same_file-trans None (Some g) q e h = cc
same_file-trans (Some f) None q e h = cc
same_file-trans (Some f) (Some g) None e h = cc
same_file-trans (Some f) (Some g) (Some k) e h =
    let one = version_parts f g e in
    let two = version_parts g k h in
    version_from f k (one.0 ∙ two.0) (one.1 ∙ two.1)

-- same files are both there or both absent
pub same_file-some : (o p : Option FileVersion) → same_file o p ≡ true → is_some o ≡ is_some p
same_file-some None None e = refl
same_file-some None (Some g) e = cc
same_file-some (Some f) None e = cc
same_file-some (Some f) (Some g) e = refl

-- where only head may have changed, the head's file stays
pub choice_head : (b h p : Option FileVersion) → same_file p b ≡ true → choice b h p ≡ only h
choice_head b h p e = by (same_file h p) (same_file h b) refl refl
  where
    by : (r c : Bool) → same_file h p ≡ r → same_file h b ≡ c → choice_by r c (same_file p b) h p ≡ only h
    by true c is also = refl
    by false true is also =
        let same : same_file h p ≡ true = same_file-trans h b p also (same_file-sym p b e) in cc
    by false false is also = ap (λ r. choice_by false false r h p) e

-- what the main file is, up to times and authors, where only pushed may have changed
pub record TakesPushed (h p : Option FileVersion) (c : Choice) : Type 0 where
  pub main : same_file c.main p ≡ true
  pub side : c.side ≡ None

pub choice_pushed : (b h p : Option FileVersion) → same_file h b ≡ true → TakesPushed h p (choice b h p)
choice_pushed b h p e = by (same_file h p) refl
  where
    by : (r : Bool) → same_file h p ≡ r → TakesPushed h p (choice_by r (same_file h b) (same_file p b) h p)
    by true is = record { main = is; side = refl }
    by false is =
        subst (λ (r : Bool). TakesPushed h p (choice_by false r (same_file p b) h p)) (sym e)
        (record { main = same_file-itself p; side = refl })

-- where none of the three has a file, none is chosen
pub choice_none : choice None None None ≡ only None
choice_none = refl
