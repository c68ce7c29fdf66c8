-- The text of a library id: the lower-case hyphenated form of a UUID (RFC 9562). Read Form first.
use Rattle.std.specs.Prelude.{◌==◌, if◌then◌else◌}
use Rattle.uuid.specs.Text.{is_hyphen_place}
use Rattle.ids.specs.Digits.{is_lower_digit}
use Rattle.ids.specs.Form.{Form}

-- groups of 8, 4, 4, 4 and 12 lower-case hexadecimal digits, with hyphens between them
abbrev pub library_form : Form
library_form = record { size = 36; allows = λ k c. if is_hyphen_place k then c == 45 else is_lower_digit c }
