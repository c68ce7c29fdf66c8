-- Texts that are fixed place by place, and how far a text begins one. Our own. Read Form first.
use Rattle.std.specs.Prelude.{◌≡◌, ℕ, ◌<◌, ◌≤◌, Bool, IsTrue, List, ◌++◌, length, slice_index, take}

-- a form: how many characters a good text has, and which characters may stand at a place
pub record Form : Type 0 where
  pub size : ℕ
  pub allows : ℕ → ℕ → Bool

-- the text has the form
pub record IsOf (form : Form) (text : List ℕ) : Type 0 where
  pub whole : length text ≡ form.size
  pub each : (k : ℕ) → k < form.size → IsTrue (form.allows k (slice_index text k))

-- some text of the form begins with this one
abbrev pub Begins : Form → List ℕ → Type 0
Begins form text = (rest : List ℕ) × IsOf form (text ++ rest)

-- how far the text can be gone on to one of the form: n characters, and not more
pub record IsLongestBeginning (form : Form) (text : List ℕ) (n : ℕ) : Type 0 where
  pub within : n ≤ length text
  pub begins : Begins form (take n text)
  pub longest : (m : ℕ) → m ≤ length text → Begins form (take m text) → m ≤ n
