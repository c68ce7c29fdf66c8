-- What `clap` states of the whole line, in the words of specs/Grammar.antt and specs/WordReading.antt.
use Rattle.std.proofs.Common.{◌≡◌, ℕ, true, List, [], ◌∷◌, Option, codes, refl, inl, inr}
use Rattle.clap.specs.Words.{App, HasKind, Kinds, Row, Text, is_simple, is_simple_and_free, kind_of, with_rule, with_subcommand}
use Rattle.clap.specs.declared.error.Error.{Error}
use Rattle.clap.specs.declared.error.ErrorKind.TheVariants.{OutOfMemory}
use Rattle.clap.proofs.OnLiterals.{clap_on_literals}
use Rattle.client_words.specs.Grammar.{bare_app, cli_app, lone_app, option}
use Rattle.client_words.specs.WordReading.{words_by}
use Rattle.client_words.specs.declared.words.Words.TheVariants.{Usage}

-- the command line is one of those of which clap states the matches and the kinds of refusal
pub is_simple_line : is_simple cli_app ≡ true
unfolding clap_on_literals cli_app
is_simple_line = refl

pub is_free_line : is_simple_and_free cli_app ≡ true
unfolding clap_on_literals cli_app
is_free_line = refl

abbrev pub with_command : App → App → App
with_command line command = with_subcommand line command.top

abbrev plain : List ℕ → App
plain name = lone_app name (codes "cpTe")

-- it is made command by command
pub line_made : with_command (with_command (with_command (with_command (with_command (with_command (with_command bare_app
    (plain (codes "init"))) (plain (codes "list"))) (plain (codes "status")))
    (with_rule (lone_app (codes "download") (codes "cpTelsuk")) (option 119)))
    (with_rule (lone_app (codes "sync") (codes "cpTelsuk")) (option 100)))
    (with_rule (plain (codes "desync")) (option 100))) (with_rule (plain (codes "start")) (option 110)) ≡ cli_app
unfolding cli_app
line_made = refl

-- a line that is refused, but for want of memory, is usage
pub refused_line : (kinds : Kinds) (entered : Option (Text × List Row)) (e : Error) → HasKind kinds e → (kind_of e ≡ OutOfMemory → ⊥)
    → words_by kinds entered ≡ Usage
refused_line [] entered e has other = elim has as (λ _. words_by [] entered ≡ Usage) [
  | inl memory ↦ absurd (other memory)
  | inr among ↦ absurd among
]
refused_line (kind ∷ kinds) entered e has other = refl
