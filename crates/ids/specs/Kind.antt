-- The order of the kinds of objects, and the word for each. Our own.
use Rattle.std.specs.Prelude.{ℕ, List, Option, Some, None, codes, if◌then◌else◌}
use Rattle.std.specs.Str.{bytes_eq}
use Rattle.ids.specs.declared.key.Kind.{Kind}
use Rattle.ids.specs.declared.key.Kind.TheVariants.{Commit, Fs, Block}

-- the place of a kind in the order: commits, then files and directories, then blocks
abbrev pub kind_place : Kind → ℕ
kind_place Commit = 0
kind_place Fs = 1
kind_place Block = 2

-- the word for a kind, in paths, bodies and lines
abbrev pub kind_word : Kind → List ℕ
kind_word Commit = codes "commit"
kind_word Fs = codes "fs"
kind_word Block = codes "block"

-- the kind that a word names
abbrev pub kind_of : List ℕ → Option Kind
kind_of word =
    if bytes_eq word (codes "commit") then Some Commit
    else if bytes_eq word (codes "fs") then Some Fs
    else if bytes_eq word (codes "block") then Some Block
    else None
