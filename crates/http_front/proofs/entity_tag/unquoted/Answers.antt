use Rattle.std.proofs.Common.{◌∷◌, [], Some}
use Rattle.std.proofs.lemmas.Bool.Decides.{Decides-eqb}
use Rattle.std.proofs.lemmas.Slice.Eq.{strip_prefix_is, strip_suffix_is}
use Rattle.http_front.proofs.TagLemmas.{unquotes}
use Rattle.http_front.proofs.entity_tag.unquoted.Goals as goal

pub returns-in-Some : goal.returns-in-Some
returns-in-Some c =
    let first = strip_prefix_is Decides-eqb c.args.text.now (34 ∷ []) (Some c.in-Some.rest) c.in-Some.ensures.cases in
    let last = strip_suffix_is Decides-eqb c.in-Some.rest.now (34 ∷ []) c.strip_suffix.result c.strip_suffix.ensures.cases in
    unquotes c.args.text.now c.in-Some.rest.now c.strip_suffix.result first last
