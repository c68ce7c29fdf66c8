-- What is shown of a secret, where a program prints it. Our own.
use Rattle.std.specs.Prelude.{ℕ, List, codes}

-- nothing of it: the same text for each
abbrev pub shown_secret : List ℕ
shown_secret = codes "Secret(..)"
