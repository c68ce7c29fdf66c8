use Rattle.std.proofs.Common.{ap₂, refl, sym, subst, ◌∙◌}
use Rattle.std.specs.Str.{bytes_eq}
use Rattle.tree_merge.specs.TreeBuilding.{AreNamed}
use Rattle.tree_merge.proofs.AddedLemmas.{from_put, other_there, same_there}
use Rattle.tree_merge.proofs.MadeLemmas.{made_here, made_kept, made_named, taken_told}
use Rattle.tree_merge.proofs.work.add_one.Goals as goal

-- the same bytes are there
pub returns-then-are_equal-clause-ok : goal.returns-then-are_equal-clause-ok
returns-then-are_equal-clause-ok c =
    same_there c.args.made.now c.args.key c.args.bytes c.in-Some.other.now c.in-Some.ensures.value
    (ap₂ bytes_eq (sym c.slice.ensures.value) (sym c.slice-in-Some.ensures.value) ∙ sym c.are_equal.ensures.value ∙ c.if-are_equal.true)

-- others are
pub returns-in-Some-clause-taken : goal.returns-in-Some-clause-taken
returns-in-Some-clause-taken c id is =
    other_there c.args.made.now c.args.key c.args.bytes c.in-Some.other.now id (taken_told _ c.args.key.id id refl is) c.in-Some.ensures.value
    (ap₂ bytes_eq (sym c.slice.ensures.value) (sym c.slice-in-Some.ensures.value) ∙ sym c.are_equal.ensures.value ∙ c.if-are_equal.false)

-- it is put
pub returns-in-Ok : goal.returns-in-Ok
returns-in-Ok c = record {
  ok = made_here c.args.made.now c.keep.new.made c.args.key c.args.bytes c.in-Ok.ensures.ok;
  told = from_put c.args.made.now c.keep.new.made c.args.key c.args.bytes c.in-Ok.ensures.ok;
  named = made_named c.args.made.now c.keep.new.made c.args.key c.args.bytes c.in-Ok.ensures.ok c.requires.named;
  stays = made_kept c.args.made.now c.keep.new.made c.args.key c.args.bytes c.in-Ok.ensures.ok (sym c.in-None.ensures.value);
  taken = λ id is. cc is;
}

pub returns-in-Err-clause-named : goal.returns-in-Err-clause-named
returns-in-Err-clause-named c named = subst AreNamed (sym c.in-Err.ensures.err) named
