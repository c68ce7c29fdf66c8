-- What a command prints, and its status. Our own. Read Printed, then Prints.
use Rattle.std.specs.Prelude.{◌≡◌, ◌⊎◌, ℕ, List, Result, Ok, Err}
use Rattle.std.specs.List.{flat_map}
use Rattle.std.specs.Io.KnownBytes.{append_known}
use Rattle.ids.specs.FaultCount.{Rose}
use Rattle.http_front.specs.Link.{GivesFront}
use Rattle.http_front.specs.declared.link.LinkFailed.{LinkFailed}
use Rattle.client_words.specs.Lines.{line_text, status_of}
use Rattle.client_words.specs.declared.fault.Fault.TheVariants as fault
use Rattle.client_words.specs.declared.line.Line.{Line}
use Rattle.client_words.specs.declared.line.Line.TheVariants as line
use Rattle.client_commands.specs.Views.{SinkView}

-- a text, and the status of a command that printed it whole
pub record Printed : Type 0 where
  pub text : List ℕ
  pub status : ℕ

abbrev pub line_printed : Line → Printed
line_printed l = record { text = line_text l; status = status_of l }

-- the lines of a command that was done
abbrev pub lines_printed : List Line → Printed
lines_printed lines = record { text = flat_map line_text lines; status = 0 }

abbrev pub no_memory_printed : Printed
no_memory_printed = line_printed (line.Fault fault.NoMemory)

-- the text was put whole, or the sink's count rose and the status is 1
pub data Puts (printed : Printed) (before now : SinkView) (status : ℕ) : Type 0 where
  whole : now.given ≡ append_known before.given printed.text → now.faults ≡ before.faults → status ≡ printed.status
      → Puts printed before now status
  in_part : GivesFront before.given now.given printed.text → Rose before.faults now.faults → status ≡ 1
      → Puts printed before now status

-- it is printed, or want of memory in its place
abbrev pub Prints : Printed → (before now : SinkView) → ℕ → Type 0
Prints printed before now status = Puts printed before now status ⊎ Puts no_memory_printed before now status

-- the same of a call that hands the sink's fault on
abbrev pub PutsBy : Printed → (before now : SinkView) → Result ℕ LinkFailed → Type 0
PutsBy printed before now (Ok status) = (now.given ≡ append_known before.given printed.text) × (now.faults ≡ before.faults) × (status ≡ printed.status)
PutsBy printed before now (Err failed) = GivesFront before.given now.given printed.text × Rose before.faults now.faults

abbrev pub PrintsBy : Printed → (before now : SinkView) → Result ℕ LinkFailed → Type 0
PrintsBy printed before now result = PutsBy printed before now result ⊎ PutsBy no_memory_printed before now result
