-- What contracts see of a desk, of the client's own folder and of a sink. Our own. Read DeskView, then OwnView.
use Rattle.std.specs.Prelude.{ℕ, Bool, List, Option, map}
use Rattle.folder_side.specs.Folder.{Contents}
use Rattle.remote_calls.specs.Exchange.{LinkView}

-- at which paths there is a place for a folder, what each folder holds where that is told, the dials that came back, and the counts of faults
pub record DeskView (N : Type 0) : Type 0 where
  pub has_place : List ℕ → Bool
  pub holds : List ℕ → Option Contents
  pub dials : List N
  pub folder_faults : ℕ
  pub dial_faults : ℕ

abbrev pub desk_view : {D N : Type 0} → (has_place : D → List ℕ → Bool) → (holds : D → List ℕ → Option Contents) → (dials : D → List N) → (folder_faults dial_faults : D → ℕ) → D → DeskView N
desk_view has_place holds dials folder_faults dial_faults desk = record {
  has_place = has_place desk;
  holds = holds desk;
  dials = dials desk;
  folder_faults = folder_faults desk;
  dial_faults = dial_faults desk;
}

-- a folder that a desk handed out, as the client's own while a command runs: what it holds, and its count of faults
pub record OwnView : Type 0 where
  pub told : Option Contents
  pub faults : ℕ

abbrev pub own_view : {F : Type 0} → (told : F → Option Contents) → (faults : F → ℕ) → F → OwnView
own_view told faults folder = record { told = told folder; faults = faults folder }

pub record SinkView : Type 0 where
  pub given : Option (List ℕ)
  pub faults : ℕ

abbrev pub sink_view : {O : Type 0} → (given : O → Option (List ℕ)) → (faults : O → ℕ) → O → SinkView
sink_view given faults out = record { given = given out; faults = faults out }

-- a dial: the links that came back to it, as they tell of themselves, and which ports of which hosts it was asked for
pub record DialView : Type 0 where
  pub back : List LinkView
  pub dialled : List (List ℕ × ℕ)

abbrev pub dial_view : {N L : Type 0} → (view : L → LinkView) → (back : N → List L) → (dialled : N → List (List ℕ × ℕ)) → N → DialView
dial_view view back dialled dial = record { back = map view (back dial); dialled = dialled dial }
