-- What isn't refused for want of memory is refused by a kind that `clap` states.
use Rattle.std.proofs.Common.{◌∙◌, map, sym}
use Rattle.std.proofs.lemmas.Bool.{false≢true}
use Rattle.clap.specs.Words.{fault_of, subcommand_of}
use Rattle.client_words.specs.Grammar.{cli_app}
use Rattle.client_words.proofs.MatchLemmas.{refused_line}
use Rattle.client_words.proofs.word_reading.matched_words.Goals as goal

pub returns-else-is_memory : goal.returns-else-is_memory
returns-else-is_memory c =
    let words = map (λ word. word.now) c.args.words.now in
    record {
      value = sym (refused_line (fault_of cli_app words) (subcommand_of cli_app words) c.in-Err.failed c.in-Err.ensures.refused
          (λ memory. false≢true (sym c.if-is_memory.false ∙ c.is_memory.ensures.value.1 (c.kind.ensures ∙ memory))));
    }
