-- What a desk keeps over a call, and when a fault of a folder, or of a link, is told: by the counts of a desk, and of the client's own folder
-- while that is out, whose count is the desk's once it goes back. Our own. Read DeskKeeps, then OwnKeeps.
use Rattle.std.specs.Prelude.{◌≡◌, ◌≤◌, ◌⊎◌, ◌-◌, ◌^◌, ℕ, Bool, true, false, min, Result, IfErr}
use Rattle.ids.specs.FaultCount.{Rose}
use Rattle.client_words.specs.declared.fault.Fault.{Fault}
use Rattle.client_words.specs.declared.fault.Fault.TheVariants as fault
use Rattle.client_commands.specs.Views.{DeskView, OwnView}

-- the fault of a link, which nothing that the client keeps is the cause of
abbrev pub is_of_link : Fault → Bool
is_of_link fault.Link = true
is_of_link _ = false

-- a count that did not fall. It stops at the greatest number of 64 bits
abbrev pub HasNotFallen : ℕ → ℕ → Type 0
HasNotFallen before now = min before (2 ^ 64 - 1) ≤ now

-- a fault of a folder comes only where the count of the folders rose, and one of a link where that of the dials did
pub record RoseFor {N : Type 0} (old new : DeskView N) (f : Fault) : Type 0 where
  pub folder : f ≡ fault.Folder → Rose old.folder_faults new.folder_faults
  pub link : f ≡ fault.Link → Rose old.dial_faults new.dial_faults

-- there are places for the same folders, no count fell, and a fault that comes by a count comes only where that rose
pub record DeskKeeps {N T : Type 0} (old new : DeskView N) (result : Result T Fault) : Type 0 where
  pub places : new.has_place ≡ old.has_place
  pub folders : HasNotFallen old.folder_faults new.folder_faults
  pub dials : HasNotFallen old.dial_faults new.dial_faults
  pub rose : IfErr result (λ f. RoseFor old new f)

-- the same, while the client's own folder is out
pub record RoseForOwn {N : Type 0} (own kept : OwnView) (old new : DeskView N) (f : Fault) : Type 0 where
  pub folder : f ≡ fault.Folder → Rose own.faults kept.faults ⊎ Rose old.folder_faults new.folder_faults
  pub link : f ≡ fault.Link → Rose old.dial_faults new.dial_faults

-- no count fell, and there are places for the same folders
pub record NoneFell {N : Type 0} (own kept : OwnView) (old new : DeskView N) : Type 0 where
  pub places : new.has_place ≡ old.has_place
  pub own_folder : HasNotFallen own.faults kept.faults
  pub folders : HasNotFallen old.folder_faults new.folder_faults
  pub dials : HasNotFallen old.dial_faults new.dial_faults

pub record OwnKeeps {N T : Type 0} (own kept : OwnView) (old new : DeskView N) (result : Result T Fault) : Type 0 where
  pub fell : NoneFell own kept old new
  pub rose : IfErr result (λ f. RoseForOwn own kept old new f)
