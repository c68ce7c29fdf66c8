-- A folder goes out and comes back, and what was done meanwhile. The key lemmas are not_taken, begins_none, untaken, unworked,
-- was_full, was_wanted, own_command, with_own, all_same, works_out, was_put, not_put, works_behind, view_same and same_places.
use Rattle.std.proofs.Common.{◌≡◌, ◌≤◌, ℕ, Bool, true, false, List, Option, Some, Result, Ok, Err, refl, sym, ap, subst, ◌∙◌, true≢false}
use Rattle.std.proofs.lemmas.Bool.{false≢true}
use Rattle.std.specs.Prelude.{IfErr}
use Rattle.std.specs.Bool.{MatchBool}
use Rattle.std.specs.Str.{bytes_eq}
use Rattle.std.proofs.lemmas.Slice.Eq.{bytes_eq-Decides}
use Rattle.ids.specs.FaultCount.{Rose}
use Rattle.folder_side.specs.Folder.{Contents, is_folder_fault}
use Rattle.folder_side.specs.declared.error.FolderFault.{FolderFault}
use Rattle.folder_side.specs.declared.error.FolderFault.TheVariants as folder
use Rattle.local_index.specs.declared.index.Index.{Index}
use Rattle.sync_rules.specs.declared.synced.Synced.{Synced}
use Rattle.client_words.specs.declared.fault.Fault.{Fault}
use Rattle.client_words.specs.declared.fault.Fault.TheVariants as fault
use Rattle.client_words.specs.declared.job.Job.{Job}
use Rattle.client_desk.specs.Desk.{SameElsewhere}
use Rattle.client_desk.specs.KeptTexts.{fault_of_folder}
use Rattle.client_desk.proofs.KeptLemmas.{free_as, told_as}
use Rattle.client_commands.specs.Folders.{GivesFolder, LacksFolder, ChecksMarker, TakesFolder, WithFolder, opened}
use Rattle.client_commands.specs.JobSyncs.{BeginsNone, SyncsOver, WorksBy, WorksSo, failed, full, has_entry, is_unwanted, synced}
use Rattle.client_commands.specs.Keeping.{DeskKeeps}
use Rattle.client_commands.specs.Runs.{InOwn}
use Rattle.client_commands.specs.Views.{DeskView, DialView, OwnView}
use Rattle.client_commands.specs.declared.wanted.Wanted.{Wanted}
use Rattle.client_commands.specs.declared.wanted.Wanted.TheVariants.{Any, Empty}
use Rattle.client_commands.proofs.CountLemmas.{not_fallen_same, not_fallen_told}
use Rattle.client_commands.proofs.KeepLemmas.{folder_rose}

-- it was not handed out
pub not_taken : {N F : Type 0} (f : FolderFault) (e : Fault) (old new : DeskView N) → e ≡ fault_of_folder f
    → MatchBool (is_folder_fault f) ((old.folder_faults ≤ new.folder_faults) × Rose old.folder_faults new.folder_faults) (new.folder_faults ≡ old.folder_faults)
    → new.has_place ≡ old.has_place → new.holds ≡ old.holds → new.dials ≡ old.dials → new.dial_faults ≡ old.dial_faults → LacksFolder old new e × DeskKeeps {T = F} old new (Err e)
not_taken f e old new is told places holds dials faults = (
  record { free = free_as f e is; holds = holds; dials = dials },
  record {
    places = places;
    folders = not_fallen_told (is_folder_fault f) old.folder_faults new.folder_faults told;
    dials = not_fallen_same old.dial_faults new.dial_faults faults;
    rose = record {
      folder = folder_rose e old.folder_faults new.folder_faults (told_as old.folder_faults new.folder_faults f e is told);
      link = λ named. absurd (by f (sym is ∙ named));
    };
  },
)
  where
    by : (f : FolderFault) → fault_of_folder f ≡ fault.Link → ⊥
    by folder.Folder same = cc
    by folder.NoMemory same = cc

-- ---- the sync of a job that was not begun, or of which the folder was looked at first

pub begins_none : {N : Type 0} (i : Index) (told now : Option Contents) (dials : List N) → now ≡ told → BeginsNone i i told now dials dials
begins_none i told now dials same = record { index = refl; folder = same; same_dials = refl }

module _ {N : Type 0} (links : N → DialView) (shows : ℕ → Type 0) (wanted : Wanted) (job : Job) (i : Index) where
  pub untaken : (old new : DeskView N) (e : Fault) → LacksFolder old new e → WorksSo links shows wanted job i i old new (Err e)
  untaken old new e lacks = record {
    works = failed e lacks.free refl (record { index = refl; folder = ap (λ (h : List ℕ → Option Contents). h job.dir) lacks.holds; same_dials = lacks.dials });
    others = λ other not. ap (λ (h : List ℕ → Option Contents). h other) lacks.holds;
  }

  pub unworked : (old : DeskView N) → WorksSo links shows wanted job i i old old (Err fault.NoMemory)
  unworked old = record {
    works = failed fault.NoMemory refl refl (record { index = refl; folder = refl; same_dials = refl });
    others = λ other not. refl;
  }

  module _ (told looked : Option Contents) (dials : List N) (unwanted : Bool) (same : looked ≡ told) (is : (c : Contents) → told ≡ Some c → unwanted ≡ is_unwanted wanted c) where
    pub was_full : (wanted ≡ Any → unwanted ≡ false) → unwanted ≡ true → WorksBy links shows wanted job i i told looked dials dials (Err fault.FolderNotEmpty)
    was_full any there = full refl (by wanted any) (λ c held. has wanted c (sym (is c held) ∙ there)) (begins_none i told looked dials same)
      where
        by : (w : Wanted) → (w ≡ Any → unwanted ≡ false) → w ≡ Empty
        by Any any = absurd (true≢false (sym there ∙ any refl))
        by Empty any = refl

        has : (w : Wanted) (c : Contents) → is_unwanted w c ≡ true → has_entry c ≡ true
        has Any c never = absurd (false≢true never)
        has Empty c here = here

    pub was_wanted : (j : Index) (now : Option Contents) (back : List N) (r : Result Synced Fault) → unwanted ≡ false → SyncsOver links shows job i j looked now dials back r
        → WorksBy links shows wanted job i j told now dials back r
    was_wanted j now back r other over =
        synced (subst (λ (o : Option Contents). SyncsOver links shows job i j o now dials back r) same over) (λ c held. sym (is c held) ∙ other)

module _ {N : Type 0} (dir : List ℕ) (own kept : OwnView) (old begun ended new : DeskView N) (takes : TakesFolder dir own old begun) (gives : GivesFolder dir kept ended new) where
  -- a command over the client's own folder
  pub with_own : {T : Type 0} (does : (own kept : OwnView) → (old new : DeskView N) → Result T Fault → Type 0) (r : Result T Fault) → does own kept begun ended r
      → WithFolder dir does old new r
  with_own does r done = opened (record { own = own; kept = kept; begun = begun; ended = ended; takes = takes; done = done; gives = gives })

  -- one that leaves the desk alone
  pub own_command : {T : Type 0} (may : Fault → Type 0) (does : Contents → Option Contents → Result T Fault → Type 0) (r : Result T Fault) → ended ≡ begun → IfErr r may
      → ((c : Contents) → own.told ≡ Some c → does c kept.told r) → WithFolder dir (InOwn may does) old new r
  own_command may does r same only done = with_own (InOwn may does) r (record { desk_stays = same; only = only; does_so = done })

  -- each other folder is as it was, where nothing was done to them
  pub others_same : ended.holds ≡ begun.holds → SameElsewhere old.holds new.holds dir
  others_same keeps other not = gives.others other not ∙ ap (λ (h : List ℕ → Option Contents). h other) keeps ∙ takes.others other not

  -- and all are, where this one is too
  pub all_same : ended.holds ≡ begun.holds → kept.told ≡ own.told → (d : List ℕ) → new.holds d ≡ old.holds d
  all_same keeps same d = by (bytes_eq d dir) refl
    where
      by : (b : Bool) → bytes_eq d dir ≡ b → new.holds d ≡ old.holds d
      by true is =
          let here : d ≡ dir = (bytes_eq-Decides d dir).0 is in
          subst (λ (e : List ℕ). new.holds e ≡ old.holds e) (sym here) (gives.told ∙ same ∙ takes.told)
      by false is = others_same keeps d (λ here. true≢false (sym ((bytes_eq-Decides d dir).1 here) ∙ is))

  -- the sync of a job is done while its folder is out
  pub works_out : (links : N → DialView) (shows : ℕ → Type 0) (wanted : Wanted) (job : Job) (i j : Index) (r : Result Synced Fault) → dir ≡ job.dir
      → ended.holds ≡ begun.holds → WorksBy links shows wanted job i j own.told kept.told begun.dials ended.dials r → WorksSo links shows wanted job i j old new r
  works_out links shows wanted job i j r here keeps works = record {
    works =
        subst (λ (told : Option Contents). WorksBy links shows wanted job i j told (new.holds job.dir) old.dials new.dials r) (takes.told ∙ ap old.holds here)
        (subst (λ (now : Option Contents). WorksBy links shows wanted job i j own.told now old.dials new.dials r) (sym gives.told ∙ ap new.holds here)
        (subst (λ (dials : List N). WorksBy links shows wanted job i j own.told kept.told dials new.dials r) takes.dials
        (subst (λ (back : List N). WorksBy links shows wanted job i j own.told kept.told begun.dials back r) (sym gives.dials) works)));
    others = subst (λ (d : List ℕ). SameElsewhere old.holds new.holds d) here (others_same keeps);
  }

-- ---- the marker of a folder that was synced

-- it was put, if it was to be
pub was_put : {N : Type 0} (s : Synced) (old new : DeskView N) → new.has_place ≡ old.has_place → new.holds ≡ old.holds → new.dials ≡ old.dials → new.dial_faults ≡ old.dial_faults
    → new.folder_faults ≡ old.folder_faults → ChecksMarker s old new (Ok s) × DeskKeeps {T = Synced} old new (Ok s)
was_put s old new places holds dials faults folders = (
  record { holds = holds; dials = dials; same = refl; free = tt },
  record {
    places = places;
    folders = not_fallen_same old.folder_faults new.folder_faults folders;
    dials = not_fallen_same old.dial_faults new.dial_faults faults;
    rose = tt;
  },
)

-- or it could not be
pub not_put : {N : Type 0} (s : Synced) (e : Fault) (old new : DeskView N) → LacksFolder old new e → ChecksMarker s old new (Err e)
not_put s e old new lacks = record { holds = lacks.holds; dials = lacks.dials; same = tt; free = lacks.free }

-- what was done of a job stands
pub works_behind : {N : Type 0} (links : N → DialView) (shows : ℕ → Type 0) (wanted : Wanted) (job : Job) (i j : Index) (old new later : DeskView N) (r : Result Synced Fault) → later.holds ≡ new.holds
    → later.dials ≡ new.dials → WorksSo links shows wanted job i j old new r → WorksSo links shows wanted job i j old later r
works_behind {N} links shows wanted job i j old new later r holds dials works = record {
  works =
      subst (λ (now : Option Contents). WorksBy links shows wanted job i j (old.holds job.dir) now old.dials later.dials r) (sym (ap (λ (h : List ℕ → Option Contents). h job.dir) holds))
      (subst (λ (back : List N). WorksBy links shows wanted job i j (old.holds job.dir) (new.holds job.dir) old.dials back r) (sym dials) works.works);
  others = subst (λ (h : List ℕ → Option Contents). SameElsewhere old.holds h job.dir) (sym holds) works.others;
}

-- a desk of which all that is told stays is the same
pub view_same : {N : Type 0} (old new : DeskView N) → new.has_place ≡ old.has_place → new.holds ≡ old.holds → new.folder_faults ≡ old.folder_faults → new.dials ≡ old.dials
    → new.dial_faults ≡ old.dial_faults → new ≡ old
view_same old new places holds folders dials faults =
    λ i. record { has_place = places i; holds = holds i; dials = dials i; folder_faults = folders i; dial_faults = faults i }

pub same_places : {N : Type 0} (old new : DeskView N) → new ≡ old → new.has_place ≡ old.has_place
same_places {N} old new same = ap (λ (v : DeskView N). v.has_place) same
