use Rattle.std.proofs.Common.{◌≡◌, ◌∙◌, None, subst, sym}
use Rattle.tree_model.specs.Name.{name_fault}
use Rattle.client_desk.specs.KeptTexts.{index_name}
use Rattle.client_desk.proofs.NameTextLemmas.{index_made, index_named}
use Rattle.client_desk.proofs.kept_texts.index_name.Goals as goal

pub name_of-requires : goal.name_of-requires
name_of-requires c =
    let made : c.slice.result.now ≡ index_name c.args.lib.now
    = index_made c.args.lib.now c.new-text.result c.push_str.new.self c.text_of_digits.result.now c.digits-digits.result c.push_str-2.new.self c.slice.result.now c.new-text.ensures.value
    c.in_ok-push_str.ensures.ok c.text_of_digits.ensures.value c.digits-digits.ensures.value c.in_ok-push_str-2.ensures.ok (c.slice.ensures.value ∙ c.in_ok-push_str-3.ensures.ok) in
    record { good = subst (λ text. name_fault text ≡ None) (sym made) (index_named c.args.lib.now) }
