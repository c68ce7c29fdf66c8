-- The words of the kinds of objects. The key lemmas are kind_of-word and kind_of-has.
use Rattle.std.proofs.Common.{◌≡◌, ℕ, List, Bool, true, false, if◌then◌else◌, Some, None, codes, refl, ap, ◌∙◌}
use Rattle.std.specs.Str.{bytes_eq}
use Rattle.ids.specs.Kind.{kind_of, kind_word}
use Rattle.ids.specs.declared.key.Kind.{Kind}
use Rattle.ids.specs.declared.key.Kind.TheVariants.{Commit, Fs, Block}
use Rattle.ids.proofs.BasicLemmas.{same_from_bytes_eq, same_from_some}

pub kind_of-word : (kind : Kind) → kind_of (kind_word kind) ≡ Some kind
kind_of-word Commit = refl
kind_of-word Fs = refl
kind_of-word Block = refl

pub kind_of-has : (word : List ℕ) (kind : Kind) → kind_of word ≡ Some kind → word ≡ kind_word kind
kind_of-has word kind e = by (bytes_eq word (codes "commit")) refl e
  where
    third : (b : Bool) → bytes_eq word (codes "block") ≡ b → (if b then Some Block else None) ≡ Some kind → word ≡ kind_word kind
    third true is e = same_from_bytes_eq word (codes "block") is ∙ ap kind_word (same_from_some Block kind e)
    third false is e = absurd (cc)

    second : (b : Bool) → bytes_eq word (codes "fs") ≡ b → (if b then Some Fs else if bytes_eq word (codes "block") then Some Block else None) ≡ Some kind → word ≡ kind_word kind
    second true is e = same_from_bytes_eq word (codes "fs") is ∙ ap kind_word (same_from_some Fs kind e)
    second false is e = third (bytes_eq word (codes "block")) refl e

    by : (b : Bool) → bytes_eq word (codes "commit") ≡ b
        → (if b then Some Commit else if bytes_eq word (codes "fs") then Some Fs else if bytes_eq word (codes "block") then Some Block else None) ≡ Some kind → word ≡ kind_word kind
    by true is e = same_from_bytes_eq word (codes "commit") is ∙ ap kind_word (same_from_some Commit kind e)
    by false is e = second (bytes_eq word (codes "fs")) refl e
