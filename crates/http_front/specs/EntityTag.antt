-- How a tag is written in a field of a head or of a reply (RFC 9110, section 8.8.3). The two numbers are
-- our own: which time the library was opened, and how many changes were made since.
use Rattle.std.specs.Prelude.{List, ℕ, ◌∷◌, [], ◌++◌, codes, decimal}
use Rattle.library_state.specs.declared.tag.Tag.{Tag}

-- a tag in quotes, its numbers in decimal without leading zeros
abbrev pub tag_text : Tag → List ℕ
tag_text tag = codes "\"" ++ decimal tag.opening ++ codes "-" ++ decimal tag.count ++ codes "\""

-- a text in quotes
abbrev pub quoted : List ℕ → List ℕ
quoted text = 34 ∷ (text ++ 34 ∷ [])

-- the numbers of a tag, without the quotes
abbrev pub numbers_text : Tag → List ℕ
numbers_text tag = decimal tag.opening ++ 45 ∷ decimal tag.count
