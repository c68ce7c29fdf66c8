-- The matches and the refusals that `clap` states for the whole line.
use Rattle.std.proofs.Common.{◌∙◌, ap, map, subst}
use Rattle.std.proofs.lemmas.Result.{IfOk-weaker}
use Rattle.clap.specs.Words.{App, FailsBy, fault_of, is_simple, is_simple_and_free, subcommand_of}
use Rattle.client_words.proofs.MatchLemmas.{is_free_line, is_simple_line}
use Rattle.client_words.proofs.grammar.matches_of.Goals as goal

pub returns : goal.returns
returns c =
    let parse = c.try_get_matches_from in
    let made = c.in_ok-command.ensures.value in
    let words = map (λ word. word.now) c.args.words.now in
    record {
      value = IfOk-weaker parse.result _ _ (λ m h. (h (ap is_simple made ∙ is_simple_line)).1 ∙ ap (λ (app : App). subcommand_of app words) made) parse.ensures.matches;
      refused = subst (λ (app : App). FailsBy (fault_of app words) parse.result) made (parse.ensures.kinds (ap is_simple_and_free made ∙ is_free_line));
    }
