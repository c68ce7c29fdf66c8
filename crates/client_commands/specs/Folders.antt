-- A folder is out from the beginning of a command, or of a sync, to its end. Our own. Read TakesFolder and GivesFolder, then WithFolder,
-- claim_of and ChecksMarker.
use Rattle.std.specs.Prelude.{◌≡◌, ℕ, IsTrue, List, Option, Result, Ok, Err, IfOk, IfErr, nat_lt}
use Rattle.std.specs.FinMap as map
use Rattle.folder_side.specs.Folder.{Contents}
use Rattle.http_front.specs.Dial.{count_sum}
use Rattle.client_words.specs.declared.fault.Fault.{Fault}
use Rattle.client_words.specs.declared.job.Job.{Job}
use Rattle.client_desk.specs.declared.desk.Asking.{Asking}
use Rattle.client_desk.specs.declared.desk.Claim.{Claim}
use Rattle.client_desk.specs.declared.desk.Claim.TheVariants.{Listed}
use Rattle.client_desk.specs.Desk.{SameElsewhere}
use Rattle.client_desk.specs.KeptTexts.{is_free}
use Rattle.local_index.specs.declared.index.Index.{Index}
use Rattle.sync_rules.specs.declared.synced.Synced.{Synced}
use Rattle.client_commands.specs.Keeping.{DeskKeeps}
use Rattle.client_commands.specs.Views.{DeskView, OwnView, own_view}

-- the folder at a path was handed out, with what it held there and no fault counted yet. What is out isn't told of meanwhile
pub record TakesFolder {N : Type 0} (dir : List ℕ) (own : OwnView) (old begun : DeskView N) : Type 0 where
  pub found : IsTrue (old.has_place dir)
  pub places : begun.has_place ≡ old.has_place
  pub told : own.told ≡ old.holds dir
  pub fresh : own.faults ≡ 0
  pub others : SameElsewhere old.holds begun.holds dir
  pub dials : begun.dials ≡ old.dials
  pub folder_faults : begun.folder_faults ≡ old.folder_faults
  pub dial_faults : begun.dial_faults ≡ old.dial_faults

-- it went back
pub record GivesFolder {N : Type 0} (dir : List ℕ) (kept : OwnView) (ended new : DeskView N) : Type 0 where
  pub places : new.has_place ≡ ended.has_place
  pub told : new.holds dir ≡ kept.told
  pub others : SameElsewhere ended.holds new.holds dir
  pub dials : new.dials ≡ ended.dials
  pub folder_faults : new.folder_faults ≡ count_sum ended.folder_faults kept.faults
  pub dial_faults : new.dial_faults ≡ ended.dial_faults

-- it was not handed out, and nothing was changed
pub record LacksFolder {N : Type 0} (old new : DeskView N) (e : Fault) : Type 0 where
  pub free : IsTrue (is_free e)
  pub holds : new.holds ≡ old.holds
  pub dials : new.dials ≡ old.dials

abbrev pub TakesBy : {N F : Type 0} → (told : F → Option Contents) → (faults : F → ℕ) → List ℕ → (old new : DeskView N) → Result F Fault → Type 0
TakesBy told faults dir old new (Ok folder) = TakesFolder dir (own_view told faults folder) old new
TakesBy {F = F} told faults dir old new (Err e) = LacksFolder old new e × DeskKeeps {T = F} old new (Err e)

-- a command has the client's own folder from its beginning to its end: `does` says what is done meanwhile, of what that folder held and then
-- holds, and of the desk
pub record WithOwn {N : Type 0} (conf : List ℕ) (does : (own kept : OwnView) → (old new : DeskView N) → Type 0) (old new : DeskView N) : Type 0 where
  pub own : OwnView
  pub kept : OwnView
  pub begun : DeskView N
  pub ended : DeskView N
  pub takes : TakesFolder conf own old begun
  pub done : does own kept begun ended
  pub gives : GivesFolder conf kept ended new

-- or it could not be opened, and nothing was done
pub data WithFolder {N T : Type 0} (conf : List ℕ) (does : (own kept : OwnView) → (old new : DeskView N) → Result T Fault → Type 0) (old new : DeskView N) (result : Result T Fault) : Type 0 where
  unopened : (e : Fault) → result ≡ Err e → LacksFolder old new e → WithFolder conf does old new result
  opened : WithOwn conf (λ own kept begun ended. does own kept begun ended result) old new → WithFolder conf does old new result

-- ---- what a folder is asked for as, and its marker

-- that of a job of the list: by which command, for its library, and whether its index has a path
abbrev pub claim_of : Job → Index → Asking → Claim
claim_of job index asking = Listed job.lib asking (nat_lt 0 (map.len index.entries))

-- a sync ended well, and is told so where the marker of its folder could be put; else a folder failed, or there was no memory. Nothing that is told of
-- the desk is changed but its count
pub record ChecksMarker {N : Type 0} (s : Synced) (old new : DeskView N) (result : Result Synced Fault) : Type 0 where
  pub holds : new.holds ≡ old.holds
  pub dials : new.dials ≡ old.dials
  pub same : IfOk result (λ t. t ≡ s)
  pub free : IfErr result (λ e. IsTrue (is_free e))
