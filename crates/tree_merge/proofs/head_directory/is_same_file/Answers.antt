-- Where all else is the same, the ids are compared.
use Rattle.std.proofs.Common.{◌≡◌, ℤ, w64, sym, ap, ◌∙◌, true≢false}
use Rattle.std.specs.Prelude.{FitsSigned}
use Rattle.std.proofs.lemmas.Int.{to_z-of_z}
use mir.Val.{to_z, of_z}
use Rattle.std.specs.Cmp.Lexicographic.{bytes_decides}
use Rattle.tree_merge.proofs.head_directory.is_same_file.Goals as goal

-- numbers that fit are the same where what is stored of them is
same_seconds : (x y : ℤ) → FitsSigned w64 x → FitsSigned w64 y → of_z w64 x ≡ of_z w64 y → x ≡ y
same_seconds x y of_x of_y same = sym (to_z-of_z w64 x of_x) ∙ ap (to_z w64) same ∙ to_z-of_z w64 y of_y

pub returns-then-own-wanted : goal.returns-then-own-wanted
returns-then-own-wanted c = record {
  value = (
    (λ t. absurd (true≢false (sym t))),
    (λ same. absurd (c.if-own-wanted.true (ap (of_z w64) (c.seconds-own.ensures.value ∙ same.changed ∙ sym c.seconds-wanted.ensures.value)))),
  );
}

pub returns-then-not-are_equal : goal.returns-then-not-are_equal
returns-then-not-are_equal c = record {
  value = (
    (λ t. absurd (true≢false (sym t))),
    (λ same. absurd
        (true≢false
        (sym ((bytes_decides _ _).1 (c.as_bytes.ensures.value ∙ same.by ∙ sym c.as_bytes-2.ensures.value)) ∙ sym c.are_equal.ensures.value ∙ c.if-not-are_equal.true))),
  );
}

pub returns : goal.returns
returns c = record {
  value = (
    (λ t. record {
      own = (bytes_decides c.args.dirent.now.id c.args.id.now).0 (sym c.are_same.ensures.value ∙ t);
      kind = c.if-dirent-mode.false;
      changed = sym c.seconds-own.ensures.value ∙ same_seconds c.seconds-own.result c.seconds-wanted.result c.seconds-own.ensures.bound c.seconds-wanted.ensures.bound c.if-own-wanted.false ∙ c.seconds-wanted.ensures.value;
      by = sym c.as_bytes.ensures.value ∙ (bytes_decides _ _).0 (sym c.are_equal.ensures.value ∙ c.if-not-are_equal.false) ∙ c.as_bytes-2.ensures.value;
      bytes = c.if-dirent-size.false;
    }),
    (λ same. c.are_same.ensures.value ∙ (bytes_decides c.args.dirent.now.id c.args.id.now).1 same.own),
  );
}
