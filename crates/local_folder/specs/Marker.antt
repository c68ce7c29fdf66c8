-- The marker of a folder: the file `.seaf-cli.library` in the folder itself. Our own. Read TellsMarker.
use Rattle.std.specs.Prelude.{◌≡◌, ℕ, List, codes, IsUtf8}
use Rattle.uuid.specs.Text.{hyphenated_text, lower}
use Rattle.ids.specs.Form.{IsOf}
use Rattle.ids.specs.LibraryId.{library_form}
use Rattle.local_folder.specs.declared.marker.Marker.{Marker}
use Rattle.local_folder.specs.declared.marker.Marker.TheVariants.{Bad, Missing, Of}

abbrev pub marker_name : List ℕ
marker_name = codes ".seaf-cli.library"

-- what the bytes of a marker tell: just the text of a library's id, and nothing else is one
abbrev pub TellsMarker : List ℕ → Marker → Type 0
TellsMarker bytes Missing = ⊥
TellsMarker bytes (Of lib) = bytes ≡ hyphenated_text lower lib
TellsMarker bytes Bad = IsUtf8 bytes → IsOf library_form bytes → ⊥
