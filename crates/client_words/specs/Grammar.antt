-- The command line as `clap` states it: one command, with options of one letter, each with a value and once at most. Our own.
-- Read commands first, then cli_app.
use Rattle.std.specs.Prelude.{ℕ, List, [], ◌∷◌, Some, true, false, map, codes}
use Rattle.clap.specs.Simple.{new_shape}
use Rattle.clap.specs.Words.{App, Rule, Shape, new_rule}
use Rattle.clap.specs.declared.builder.ArgAction.TheVariants.{Set}

-- each command with the letters of its options
abbrev pub commands : List (List ℕ × List ℕ)
commands =
    (codes "init", codes "cpTe")
    ∷ (codes "list", codes "cpTe")
    ∷ (codes "status", codes "cpTe")
    ∷ (codes "download", codes "cpTelsukw")
    ∷ (codes "sync", codes "cpTelsukd")
    ∷ (codes "desync", codes "cpTed")
    ∷ (codes "start", codes "cpTen")
    ∷ []

-- an option by its letter, with a value
abbrev pub option : ℕ → Rule
option letter = record (new_rule (letter ∷ [])) { short = Some letter; action = Some Set }

abbrev pub command : List ℕ → List ℕ → Shape
command name letters = record (new_shape name) { rules = map option letters }

-- a command on its own
abbrev pub lone_app : List ℕ → List ℕ → App
lone_app name letters = record { top = command name letters; subs = [] }

-- words without the program's name, one of which has to be a command, and no help of `clap`'s own
abbrev pub line_shape : Shape
line_shape = record (new_shape (codes "seaf-cli")) {
  no_binary_name = true;
  disable_help_flag = true;
  disable_help_subcommand = true;
  subcommand_required = true;
}

abbrev pub bare_app : App
bare_app = record { top = line_shape; subs = [] }

-- the whole line
unfoldable pub cli_app : App
cli_app = record { top = record line_shape { is_leaf = false }; subs = map (λ (named : List ℕ × List ℕ). command named.0 named.1) commands }
