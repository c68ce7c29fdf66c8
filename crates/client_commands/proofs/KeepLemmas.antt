-- What a desk keeps over the parts of a command, and why a fault came. The key lemmas are folder_rose, fell_none, fell_then, own_kept, folder_kept, kept_after, desk_same, desk_kept, kept_looked, put_kept, put_fault, marker_kept, kept_err, own_err, kept_then,
-- kept_out and still_found.
use Rattle.std.proofs.Common.{◌≡◌, ◌≤◌, inl, inr, ℕ, Bool, false, IsTrue, List, Result, Ok, Err, IfErr, refl, sym, ap, subst, ◌∙◌, true≢false}
use Rattle.std.specs.Prelude.{◌⊎◌, ⊤}
use Rattle.std.specs.Bool.{MatchBool}
use Rattle.ids.specs.FaultCount.{FailsBy, Rose}
use Rattle.folder_side.specs.Folder.{is_folder_fault}
use Rattle.folder_side.specs.ScanReport.{is_scan_failure}
use Rattle.folder_side.specs.declared.error.FolderFault.{FolderFault}
use Rattle.folder_side.specs.declared.error.ScanFault.{ScanFault}
use Rattle.folder_side.specs.declared.error.ScanFault.TheVariants as scan
use Rattle.client_words.specs.declared.fault.Fault.{Fault}
use Rattle.client_words.specs.declared.fault.Fault.TheVariants as fault
use Rattle.client_desk.specs.Commands.{IsDesyncFault, IsInitFault}
use Rattle.client_desk.specs.KeptTexts.{IsIndexFault, IsListFault, fault_of_folder, is_free, is_of_folder}
use Rattle.client_desk.proofs.KeptLemmas.{free_as, told_as}
use Rattle.client_commands.specs.Folders.{GivesFolder, TakesFolder}
use Rattle.client_commands.specs.Keeping.{DeskKeeps, HasNotFallen, NoneFell, OwnKeeps, RoseFor, RoseForOwn, is_of_link}
use Rattle.client_commands.specs.SyncFaults.{fault_of_scan, told_of_scan}
use Rattle.client_commands.specs.Views.{DeskView, OwnView}
use Rattle.client_commands.proofs.CountLemmas.{not_fallen_same, not_fallen_sum, not_fallen_then, not_fallen_told, rose_before, rose_later, rose_out}

-- ---- faults of the client's own folder

pub folder_rose : (e : Fault) (before now : ℕ) → MatchBool (is_of_folder e) ((before ≤ now) × Rose before now) (now ≡ before) → e ≡ fault.Folder → Rose before now
folder_rose e before now told is =
    let there : (before ≤ now) × Rose before now = subst (λ (f : Fault). MatchBool (is_of_folder f) ((before ≤ now) × Rose before now) (now ≡ before)) is told in
    there.1

-- ---- faults that are none of a link

pub free_local : (e : Fault) → IsTrue (is_free e) → is_of_link e ≡ false
free_local fault.Link free = let bad : ⊥ = cc in absurd bad
free_local other free = refl

pub index_local : (e : Fault) → IsIndexFault e → is_of_link e ≡ false
index_local e (inl is) = ap is_of_link is
index_local e (inr free) = free_local e free

pub list_local : (e : Fault) → IsListFault e → is_of_link e ≡ false
list_local e (inl is) = ap is_of_link is
list_local e (inr may) = index_local e may

-- the same of a call that has no other
pub local_by : {T : Type 0} (May : Fault → Type 0) (r : Result T Fault) → ((e : Fault) → May e → is_of_link e ≡ false) → IfErr r May → IfErr r (λ (e : Fault). is_of_link e ≡ false)
local_by May (Ok x) each may = tt
local_by May (Err e) each may = each e may

pub index_may : {T : Type 0} (r : Result T Fault) → IfErr r IsIndexFault → IfErr r (λ (e : Fault). is_of_link e ≡ false)
index_may r may = local_by IsIndexFault r index_local may

pub list_may : {T : Type 0} (r : Result T Fault) → IfErr r IsListFault → IfErr r (λ (e : Fault). is_of_link e ≡ false)
list_may r may = local_by IsListFault r list_local may

pub init_may : (r : Result ⊤ Fault) → IfErr r IsInitFault → IfErr r (λ (e : Fault). is_of_link e ≡ false)
init_may r may = local_by IsInitFault r by may
  where
    by : (e : Fault) → IsInitFault e → is_of_link e ≡ false
    by e (inl is) = ap is_of_link is
    by e (inr free) = free_local e free

pub desync_may : (r : Result (List ℕ) Fault) → IfErr r IsDesyncFault → IfErr r (λ (e : Fault). is_of_link e ≡ false)
desync_may r may = local_by IsDesyncFault r by may
  where
    by : (e : Fault) → IsDesyncFault e → is_of_link e ≡ false
    by e (inl is) = ap is_of_link is
    by e (inr may) = list_local e may

-- the same from a count that was as it is before
pub fails_from : (e : Fault) (before mid now : ℕ) → mid ≡ before → MatchBool (is_of_folder e) ((mid ≤ now) × Rose mid now) (now ≡ mid)
    → MatchBool (is_of_folder e) ((before ≤ now) × Rose before now) (now ≡ before)
fails_from e before mid now same told = subst (λ (n : ℕ). MatchBool (is_of_folder e) ((n ≤ now) × Rose n now) (now ≡ n)) same told

never_link : (e : Fault) → is_of_link e ≡ false → e ≡ fault.Link → ⊥
never_link e other is = true≢false (sym (ap is_of_link is) ∙ other)

-- ---- places

-- there is still a place for what was handed out
pub still_found : (old begun ended : List ℕ → Bool) (dir : List ℕ) → IsTrue (old dir) → begun ≡ old → ended ≡ begun → IsTrue (ended dir)
still_found old begun ended dir found begins goes = subst (λ (p : List ℕ → Bool). IsTrue (p dir)) (sym (goes ∙ begins)) found

-- ---- parts of a command

module _ {N : Type 0} where
  pub fell_none : (own kept : OwnView) (old new : DeskView N) → kept.faults ≡ own.faults → new ≡ old → NoneFell own kept old new
  fell_none own kept old new same_own same = record {
    places = ap (λ (d : DeskView N). d.has_place) same;
    own_folder = not_fallen_same own.faults kept.faults same_own;
    folders = not_fallen_same old.folder_faults new.folder_faults (ap (λ (d : DeskView N). d.folder_faults) same);
    dials = not_fallen_same old.dial_faults new.dial_faults (ap (λ (d : DeskView N). d.dial_faults) same);
  }

  pub fell_then : (a b c : OwnView) (x y z : DeskView N) → NoneFell a b x y → NoneFell b c y z → NoneFell a c x z
  fell_then a b c x y z first later = record {
    places = later.places ∙ first.places;
    own_folder = not_fallen_then a.faults b.faults c.faults first.own_folder later.own_folder;
    folders = not_fallen_then x.folder_faults y.folder_faults z.folder_faults first.folders later.folders;
    dials = not_fallen_then x.dial_faults y.dial_faults z.dial_faults first.dials later.dials;
  }

  -- a call in the client's own folder alone
  pub own_kept : {T : Type 0} (own kept : OwnView) (old new : DeskView N) (r : Result T Fault) → FailsBy is_of_folder own.faults kept.faults r
      → IfErr r (λ (e : Fault). is_of_link e ≡ false) → new ≡ old → OwnKeeps own kept old new r
  own_kept own kept old new (Ok x) told local same = record { fell = fell_none own kept old new told same; rose = tt }
  own_kept own kept old new (Err e) told local same = record {
    fell = record {
      places = ap (λ (d : DeskView N). d.has_place) same;
      own_folder = not_fallen_told (is_of_folder e) own.faults kept.faults told;
      folders = not_fallen_same old.folder_faults new.folder_faults (ap (λ (d : DeskView N). d.folder_faults) same);
      dials = not_fallen_same old.dial_faults new.dial_faults (ap (λ (d : DeskView N). d.dial_faults) same);
    };
    rose = record {
      folder = λ is. inl (folder_rose e own.faults kept.faults told is);
      link = λ is. absurd (never_link e local is);
    };
  }

  -- a call that leaves the client's own folder alone
  pub desk_kept : {T : Type 0} (own kept : OwnView) (old new : DeskView N) (r : Result T Fault) → kept.faults ≡ own.faults → DeskKeeps old new r → OwnKeeps own kept old new r
  desk_kept own kept old new (Ok x) same keeps = record {
    fell = record { places = keeps.places; own_folder = not_fallen_same own.faults kept.faults same; folders = keeps.folders; dials = keeps.dials };
    rose = tt;
  }
  desk_kept own kept old new (Err e) same keeps = record {
    fell = record { places = keeps.places; own_folder = not_fallen_same own.faults kept.faults same; folders = keeps.folders; dials = keeps.dials };
    rose = record { folder = λ is. inr (keeps.rose.folder is); link = keeps.rose.link };
  }

  -- a fault that is handed on
  pub kept_err : {T U : Type 0} (old new : DeskView N) (e : Fault) → DeskKeeps {T = T} old new (Err e) → DeskKeeps {T = U} old new (Err e)
  kept_err old new e keeps = record { places = keeps.places; folders = keeps.folders; dials = keeps.dials; rose = keeps.rose }

  pub own_err : {T U : Type 0} (own kept : OwnView) (old new : DeskView N) (e : Fault) → OwnKeeps {T = T} own kept old new (Err e) → OwnKeeps {T = U} own kept old new (Err e)
  own_err own kept old new e keeps = record { fell = keeps.fell; rose = keeps.rose }

  -- a folder failed, or there was no memory
  pub folder_kept : {T : Type 0} (f : FolderFault) (e : Fault) (own kept : OwnView) (desk : DeskView N) → e ≡ fault_of_folder f
      → MatchBool (is_folder_fault f) ((own.faults ≤ kept.faults) × Rose own.faults kept.faults) (kept.faults ≡ own.faults) → OwnKeeps {T = T} own kept desk desk (Err e)
  folder_kept f e own kept desk is told = own_kept own kept desk desk (Err e) (told_as own.faults kept.faults f e is told) (free_local e (free_as f e is)) refl

  -- a full folder
  pub kept_after : {T : Type 0} (own kept : OwnView) (desk : DeskView N) → kept.faults ≡ own.faults → OwnKeeps {T = T} own kept desk desk (Err fault.FolderNotEmpty)
  kept_after own kept desk same = own_kept own kept desk desk (Err fault.FolderNotEmpty) same refl refl

  -- a fault of neither a folder nor a link, where nothing was done
  pub other_kept : {T : Type 0} (own kept : OwnView) (desk : DeskView N) (e other : Fault) → e ≡ other → is_of_folder other ≡ false → is_of_link other ≡ false → kept.faults ≡ own.faults
      → OwnKeeps {T = T} own kept desk desk (Err e)
  other_kept own kept desk e other is of_folder of_link same = record {
    fell = fell_none own kept desk desk same refl;
    rose = record {
      folder = λ named. absurd (true≢false (sym (ap is_of_folder named) ∙ ap is_of_folder is ∙ of_folder));
      link = λ named. absurd (true≢false (sym (ap is_of_link named) ∙ ap is_of_link is ∙ of_link));
    };
  }

  -- there was no memory for what comes behind
  pub memory_kept : {T : Type 0} (own kept : OwnView) (old new : DeskView N) → NoneFell own kept old new → OwnKeeps {T = T} own kept old new (Err fault.NoMemory)
  memory_kept own kept old new fell = record {
    fell = fell;
    rose = record {
      folder = λ (is : fault.NoMemory ≡ fault.Folder). let bad : ⊥ = cc in absurd bad;
      link = λ (is : fault.NoMemory ≡ fault.Link). let bad : ⊥ = cc in absurd bad;
    };
  }

  -- a scan, whose faults are told as a command's
  pub scan_kept : (own kept : OwnView) (desk : DeskView N) (r : Result Bool ScanFault) → FailsBy is_scan_failure own.faults kept.faults r
      → OwnKeeps own kept desk desk (told_of_scan r)
  scan_kept own kept desk (Ok clean) told = record { fell = fell_none own kept desk desk told refl; rose = tt }
  scan_kept own kept desk (Err why) told = own_kept own kept desk desk (Err (fault_of_scan why)) (by why told) (local why) refl
    where
      by : (why : ScanFault) → MatchBool (is_scan_failure why) ((own.faults ≤ kept.faults) × Rose own.faults kept.faults) (kept.faults ≡ own.faults)
          → MatchBool (is_of_folder (fault_of_scan why)) ((own.faults ≤ kept.faults) × Rose own.faults kept.faults) (kept.faults ≡ own.faults)
      by scan.Folder told = told
      by (scan.TooDeep path) told = told
      by (scan.TooMany count) told = told
      by (scan.TooBig path) told = told
      by scan.NoMemory told = told

      local : (why : ScanFault) → is_of_link (fault_of_scan why) ≡ false
      local scan.Folder = refl
      local (scan.TooDeep path) = refl
      local (scan.TooMany count) = refl
      local (scan.TooBig path) = refl
      local scan.NoMemory = refl

  -- there was no memory, and nothing was done
  pub desk_same : {T : Type 0} (old : DeskView N) → DeskKeeps {T = T} old old (Err fault.NoMemory)
  desk_same old = record {
    places = refl;
    folders = not_fallen_same old.folder_faults old.folder_faults refl;
    dials = not_fallen_same old.dial_faults old.dial_faults refl;
    rose = record {
      folder = λ (is : fault.NoMemory ≡ fault.Folder). let bad : ⊥ = cc in absurd bad;
      link = λ (is : fault.NoMemory ≡ fault.Link). let bad : ⊥ = cc in absurd bad;
    };
  }

  later_for : (a b c : OwnView) (x y z : DeskView N) (e : Fault) → NoneFell a b x y → RoseForOwn b c y z e → RoseForOwn a c x z e
  later_for a b c x y z e first rose = record {
    folder = λ is. by (rose.folder is);
    link = λ is. rose_later x.dial_faults y.dial_faults z.dial_faults first.dials (rose.link is);
  }
    where
      by : Rose b.faults c.faults ⊎ Rose y.folder_faults z.folder_faults → Rose a.faults c.faults ⊎ Rose x.folder_faults z.folder_faults
      by (inl own) = inl (rose_later a.faults b.faults c.faults first.own_folder own)
      by (inr desk) = inr (rose_later x.folder_faults y.folder_faults z.folder_faults first.folders desk)

  -- one part after another
  pub kept_then : {T : Type 0} (a b c : OwnView) (x y z : DeskView N) (r : Result T Fault) → NoneFell a b x y → OwnKeeps b c y z r → OwnKeeps a c x z r
  kept_then a b c x y z (Ok t) first keeps = record { fell = fell_then a b c x y z first keeps.fell; rose = tt }
  kept_then a b c x y z (Err e) first keeps = record { fell = fell_then a b c x y z first keeps.fell; rose = later_for a b c x y z e first keeps.rose }

  -- the client's own folder was looked at before
  pub kept_looked : {T : Type 0} (own mid kept : OwnView) (old new : DeskView N) (r : Result T Fault) → mid.faults ≡ own.faults → OwnKeeps mid kept old new r → OwnKeeps own kept old new r
  kept_looked own mid kept old new r same keeps = kept_then own mid kept old old new r (fell_none own mid old old same refl) keeps

  -- and written after
  pub put_kept : {T : Type 0} (own mid kept : OwnView) (old new : DeskView N) (x : T) → mid.faults ≡ own.faults → DeskKeeps {T = T} old new (Ok x) → kept.faults ≡ mid.faults
      → OwnKeeps {T = T} own kept old new (Ok x)
  put_kept own mid kept old new x first keeps later = desk_kept own kept old new (Ok x) (later ∙ first) keeps

  pub put_fault : {T U : Type 0} (own mid kept : OwnView) (old new : DeskView N) (x : U) (e : Fault) → mid.faults ≡ own.faults → DeskKeeps {T = U} old new (Ok x)
      → MatchBool (is_of_folder e) ((mid.faults ≤ kept.faults) × Rose mid.faults kept.faults) (kept.faults ≡ mid.faults) → IsTrue (is_free e) → OwnKeeps {T = T} own kept old new (Err e)
  put_fault own mid kept old new x e first keeps told free =
      let before : OwnKeeps own mid old new (Ok x) = desk_kept own mid old new (Ok x) first keeps in
      kept_then own mid kept old new new (Err e) before.fell (own_kept mid kept new new (Err e) told (free_local e free) refl)

  -- and the marker put after, or not
  pub marker_kept : {T : Type 0} (own kept : OwnView) (old new later : DeskView N) (x : T) (r : Result T Fault) → OwnKeeps own kept old new (Ok x) → DeskKeeps new later r
      → OwnKeeps own kept old later r
  marker_kept own kept old new later x r keeps then_kept = kept_then own kept kept old new later r keeps.fell (desk_kept kept kept new later r refl then_kept)

  -- ---- a folder that is out meanwhile

  module _ (dir : List ℕ) (own kept : OwnView) (old begun ended new : DeskView N) (takes : TakesFolder dir own old begun) (gives : GivesFolder dir kept ended new) where
    begins_folders : HasNotFallen old.folder_faults begun.folder_faults
    begins_folders = not_fallen_same old.folder_faults begun.folder_faults takes.folder_faults

    begins_dials : HasNotFallen old.dial_faults begun.dial_faults
    begins_dials = not_fallen_same old.dial_faults begun.dial_faults takes.dial_faults

    ends_folders : HasNotFallen ended.folder_faults new.folder_faults
    ends_folders = not_fallen_sum ended.folder_faults new.folder_faults kept.faults gives.folder_faults

    ends_dials : HasNotFallen ended.dial_faults new.dial_faults
    ends_dials = not_fallen_same ended.dial_faults new.dial_faults gives.dial_faults

    rose_for : (e : Fault) → NoneFell own kept begun ended → RoseForOwn own kept begun ended e → RoseFor old new e
    rose_for e fell rose = record {
      folder = λ is. by (rose.folder is);
      link = λ is.
          rose_before old.dial_faults ended.dial_faults new.dial_faults (rose_later old.dial_faults begun.dial_faults ended.dial_faults begins_dials (rose.link is)) ends_dials;
    }
      where
        by : Rose own.faults kept.faults ⊎ Rose begun.folder_faults ended.folder_faults → Rose old.folder_faults new.folder_faults
        by (inl own_rose) =
            rose_later old.folder_faults ended.folder_faults new.folder_faults
            (not_fallen_then old.folder_faults begun.folder_faults ended.folder_faults begins_folders fell.folders)
            (rose_out ended.folder_faults new.folder_faults own.faults kept.faults takes.fresh own_rose gives.folder_faults)
        by (inr desk_rose) =
            rose_before old.folder_faults ended.folder_faults new.folder_faults
            (rose_later old.folder_faults begun.folder_faults ended.folder_faults begins_folders desk_rose) ends_folders

    -- its count is the desk's once it went back
    pub kept_out : {T : Type 0} (r : Result T Fault) → OwnKeeps own kept begun ended r → DeskKeeps old new r
    kept_out r keeps = record {
      places = gives.places ∙ keeps.fell.places ∙ takes.places;
      folders = not_fallen_then old.folder_faults ended.folder_faults new.folder_faults
          (not_fallen_then old.folder_faults begun.folder_faults ended.folder_faults begins_folders keeps.fell.folders) ends_folders;
      dials = not_fallen_then old.dial_faults ended.dial_faults new.dial_faults
          (not_fallen_then old.dial_faults begun.dial_faults ended.dial_faults begins_dials keeps.fell.dials) ends_dials;
      rose = by r keeps;
    }
      where
        by : {T : Type 0} (r : Result T Fault) → OwnKeeps own kept begun ended r → IfErr r (λ (e : Fault). RoseFor old new e)
        by (Ok x) keeps = tt
        by (Err e) keeps = rose_for e keeps.fell keeps.rose
