-- Whether something was changed, by the list of what was, and the first meeting with a library, by its steps. The key lemmas are
-- tells_change, joined_bare, joined_empty and joined_full.
use Rattle.std.proofs.Common.{◌≡◌, ◌==◌, ℕ, Bool, true, false, not, List, [], ◌∷◌, length, Option, None, Some, is_some, if◌then◌else◌, Ok, Err, refl, sym, ap, subst, ◌∙◌, inr, true≢false}
use Rattle.std.proofs.lemmas.Bool.{eqb-true}
use Rattle.std.proofs.lemmas.List.{nil_from_length}
use Rattle.tree_model.proofs.ListedLemmas.{same_path-itself}
use Rattle.folder_side.specs.declared.scan_report.Scan.{Scan}
use Rattle.local_index.specs.ScanChanges.{AreChanges, told_at}
use Rattle.local_index.specs.declared.index.Index.{Index}
use Rattle.local_index.specs.declared.scan_changes.Change.{Change}
use Rattle.remote_calls.specs.Sends.{Sent}
use Rattle.sync_rules.specs.declared.fault.SyncFault.{SyncFault}
use Rattle.tree_fetch.specs.declared.asker.Asker.{Asker}
use Rattle.sync_daemon.specs.Asking.{HeadSo}
use Rattle.sync_daemon.specs.Joining.{FailsEmpty, GetsEmpty, IsGotFor, JoinsAs, has_seen}
use Rattle.sync_daemon.specs.Rounds.{TellsChange}

first_told : (change : Change) (changes : List Change) → told_at change.path (change ∷ changes) ≡ Some change.kind
first_told change changes = ap (λ (b : Bool). if b then Some change.kind else told_at change.path changes) (same_path-itself change.path)

pub tells_change : (none : Bool) (changes : List Change) (report : Scan) (index : Index) → none ≡ (length changes == 0) → AreChanges report.paths index.entries changes
    → TellsChange report index (not none)
tells_change true changes report index is are = λ path. sym (are.each path) ∙ ap (told_at path) (nil_from_length changes (eqb-true _ 0 (sym is)))
tells_change false [] report index is are = absurd (true≢false (sym is))
tells_change false (change ∷ changes) report index is are = λ none.
    let never : Some change.kind ≡ None = sym (first_told change changes) ∙ are.each change.path ∙ none change.path in
    cc

-- ---- the first meeting

pub none_here : (base : Option (List ℕ)) (b : Bool) → b ≡ is_some base → b ≡ false → base ≡ None
none_here None b is other = refl
none_here (Some id) b is other = absurd (true≢false (sym is ∙ other))

module _ (asker : Asker) (base : Option (List ℕ)) (report : Scan) (old mid new : List Sent) (head : List ℕ) (none : base ≡ None) (told : HeadSo asker old mid (Ok head)) (seen : Bool)
    (is : seen ≡ has_seen report) where
  pub joined_bare : seen ≡ false → new ≡ mid → JoinsAs asker base report old new (Ok (Some head))
  joined_bare bare same = (none, mid, told, subst (λ (b : Bool). IsGotFor b asker mid new head) (sym bare ∙ is) same)

  pub joined_empty : seen ≡ true → GetsEmpty asker mid new head → JoinsAs asker base report old new (Ok (Some head))
  joined_empty full gets = (none, mid, told, subst (λ (b : Bool). IsGotFor b asker mid new head) (sym full ∙ is) gets)

  pub joined_full : (f : SyncFault) → seen ≡ true → FailsEmpty asker mid new head f → JoinsAs asker base report old new (Err f)
  joined_full f full fails = (none, inr (mid, head, told, sym is ∙ full, fails))
