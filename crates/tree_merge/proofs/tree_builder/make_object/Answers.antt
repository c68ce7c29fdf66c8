use Rattle.std.proofs.Common.{◌≡◌, ◌≢◌, ◌∙◌, sym, ap, refl, true≢false, false, IsTrue, Bool, List, ℕ, inr}
use Rattle.std.specs.FinMap as map
use Rattle.std.specs.Cmp.Lexicographic.{bytes_decides}
use Rattle.std.specs.Str.{bytes_eq}
use Rattle.sha1.specs.Sha1.{sha1}
use Rattle.ids.specs.ObjectId.{nil}
use Rattle.ids.specs.declared.key.Kind.TheVariants.{Fs}
use Rattle.object_graph.specs.Objects.{fs_key}
use Rattle.tree_merge.proofs.MadeLemmas.{made_kept, made_here, made_told, made_named, taken_told}
use Rattle.tree_merge.proofs.tree_builder.make_object.Goals as goal

some_id : (b : Bool) (id : List ℕ) → b ≡ false → (id ≡ nil → IsTrue b) → id ≢ nil
some_id b id e h is = true≢false (sym (h is) ∙ e)

unlike : (a b x y : List ℕ) → x ≡ a → y ≡ b → bytes_eq x y ≡ false → a ≢ b
unlike a b x y same also apart is = true≢false (sym ((bytes_decides x y).1 (same ∙ is ∙ sym also)) ∙ apart)

pub returns-in-Some-clause-taken : goal.returns-in-Some-clause-taken
returns-in-Some-clause-taken c id e =
    let is : id ≡ c.of-id.result = taken_told _ c.of-id.result id refl e in
    record {
      own = is ∙ c.of-id.ensures.value ∙ ap sha1 c.slice.ensures.value;
      clash = inr (
        c.in-Some.other.now,
        unlike c.in-Some.other.now c.args.bytes c.slice-in-Some.result.now c.slice-in-Some-2.result.now c.slice-in-Some.ensures.value c.slice-in-Some-2.ensures.value (sym c.are_equal.ensures.value ∙ c.if-are_equal.false),
        ap (λ i. map.get c.args.made.now (fs_key i)) is ∙ sym c.in-Some.ensures.value,
      );
    }

pub returns-in-Ok-clause-value : goal.returns-in-Ok-clause-value
returns-in-Ok-clause-value c = record {
  there = made_here c.args.made.now c.keep.new.made (record { kind = Fs; id = c.of-id.result }) c.args.bytes c.in-Ok.ensures.ok;
  some = some_id c.is_nil.result c.of-id.result c.if-is_nil.false c.is_nil.ensures.value.1;
}

pub returns-in-Ok-clause-stays : goal.returns-in-Ok-clause-stays
returns-in-Ok-clause-stays c =
    made_kept c.args.made.now c.keep.new.made (record { kind = Fs; id = c.of-id.result }) c.args.bytes c.in-Ok.ensures.ok (sym c.in-None.ensures.value)

pub returns-in-Ok-clause-told : goal.returns-in-Ok-clause-told
returns-in-Ok-clause-told c =
    made_told c.args.made.now c.keep.new.made (record { kind = Fs; id = c.of-id.result }) c.args.bytes c.in-Ok.ensures.ok c.of-id.result refl

pub returns-in-Ok-clause-named : goal.returns-in-Ok-clause-named
returns-in-Ok-clause-named c named =
    made_named c.args.made.now c.keep.new.made (record { kind = Fs; id = c.of-id.result }) c.args.bytes c.in-Ok.ensures.ok
    (record { is_fs = refl; is_sha1 = c.of-id.ensures.value ∙ ap sha1 c.slice.ensures.value; some = some_id c.is_nil.result c.of-id.result c.if-is_nil.false c.is_nil.ensures.value.1 }) named

pub returns-in-Err-clause-named : goal.returns-in-Err-clause-named
returns-in-Err-clause-named c named key bytes there = named key bytes (sym (ap (λ m. map.get m key) c.in-Err.ensures.err) ∙ there)
