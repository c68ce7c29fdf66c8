-- What is read where nothing is wrong. The key lemmas are well_more, well_of, version_kept and same_found.
use Rattle.std.proofs.Common.{◌≡◌, ◌==◌, ◌&&◌, ℕ, Bool, true, false, List, [], refl, sym, ap, ap₂, ◌∙◌, subst, Option, None, Result, Ok, Err, IfErr, IfOk, OnOk}
use Rattle.std.specs.Cmp.Lexicographic.{bytes_decides}
use Rattle.ids.specs.Key.{Objects}
use Rattle.ids.specs.declared.key.Key.{Key}
use Rattle.tree_model.specs.FileMerge.{same_version}
use Rattle.object_graph.specs.Objects.{contents_of, same_id}
use Rattle.object_graph.specs.Traversal.{start, walk_file_at}
use Rattle.object_graph.specs.Unchanged.{Keeps}
use Rattle.object_graph.specs.declared.fault.TreeFault.{TreeFault}
use Rattle.object_graph.proofs.KeyLemmas.{within_itself}
use Rattle.object_graph.proofs.SameBelowLemmas.{same_contents}
use Rattle.object_graph.proofs.SchemeLemmas.{goes_on}
use Rattle.object_graph.proofs.StoredLemmas.{agree_kept, none_stored, object_stored}
use Rattle.object_store.specs.declared.error.StoreFault.TheVariants.{NoMemory}
use Rattle.tree_walk.specs.Files.{files_due}
use Rattle.tree_walk.specs.Reading.{Answers, IsDue}
use Rattle.tree_walk.specs.declared.fault.WalkFault.{WalkFault}
use Rattle.tree_walk.specs.declared.fault.WalkFault.TheVariants.{Store}
use Rattle.tree_walk.proofs.FileLemmas.{walk_due}
use Rattle.tree_merge.specs.FileEntry.{version_of}
use Rattle.tree_merge.specs.Telling.{AnswersWell, IsWhole}
use Rattle.tree_merge.specs.declared.file_entry.FileEntry.{FileEntry}

-- a better thing of the same value
pub well_more : {T : Type 0} (objects : Objects) (good better : T → Type 0) (result : Result T WalkFault) → ((value : T) → good value → better value)
    → AnswersWell objects good result → AnswersWell objects better result
well_more objects good better (Ok value) more is = (is.0, more value is.1)
well_more objects good better (Err fault) more is = is

pub well_ok : {T : Type 0} (objects : Objects) (good : T → Type 0) (value : T) → AnswersWell objects good (Ok value) → good value
well_ok objects good value is = is.1

-- the same fault of another call
pub well_err : {T U : Type 0} (objects : Objects) (good : T → Type 0) (other : U → Type 0) (fault : WalkFault) → AnswersWell objects good (Err fault) → AnswersWell objects other (Err fault)
well_err objects good other fault is = is

pub well_value : {T : Type 0} (objects : Objects) (good : T → Type 0) (value : T) → good value → AnswersWell objects good (Ok value)
well_value objects good value is = (refl, is)

-- what is good of each thing of a kind, of which there is one
pub well_each : {T X : Type 0} (objects : Objects) (Q : X → Type 0) (good : T → X → Type 0) (result : Result T WalkFault) (one : X) → Q one → ((x : X) → Q x → AnswersWell objects (λ value. good value x) result)
    → AnswersWell objects (λ value. (x : X) → Q x → good value x) result
well_each objects Q good (Ok value) one there all = ((all one there).0, λ x is. (all x is).1)
well_each objects Q good (Err fault) one there all = all one there

-- want of memory alone
pub well_memory : {T : Type 0} (objects : Objects) (good : T → Type 0) (fault : WalkFault) → fault ≡ Store NoMemory → AnswersWell objects good (Err fault)
well_memory objects good fault is = subst (IsDue objects None) (sym is) tt

-- a call that fails for want of memory alone
pub well_made : {T : Type 0} (objects : Objects) (good made : T → Type 0) (result : Result T WalkFault) → IfErr result (λ fault. fault ≡ Store NoMemory) → ((value : T) → made value → good value)
    → IfOk result made → AnswersWell objects good result
well_made objects good made (Ok value) memory more is = (refl, more value is)
well_made objects good made (Err fault) memory more is = well_memory objects good fault memory

-- the same, where two things are told of it
pub well_both : {T : Type 0} (objects : Objects) (good one : T → Type 0) (other : Type 0) (result : Result T WalkFault) → IfErr result (λ fault. fault ≡ Store NoMemory)
    → ((value : T) → one value → other → good value) → IfOk result one → OnOk result other → AnswersWell objects good result
well_both objects good one other (Ok value) memory more is also = (refl, more value is also)
well_both objects good one other (Err fault) memory more is also = well_memory objects good fault memory

-- what was due of two files that are whole is nothing
pub two_whole : (objects : Objects) (left right : List ℕ) → IsWhole objects left → IsWhole objects right → files_due objects left right ≡ None
two_whole objects left right whole other =
    ap (λ w. w.fault) (goes_on (walk_file_at objects left start) (walk_file_at objects right) whole)
    ∙ walk_due objects right (walk_file_at objects left start) whole ∙ sym (walk_due objects right start refl) ∙ other

pub well_of : {T : Type 0} (objects : Objects) (due : Option TreeFault) (good : T → Type 0) (result : Result T WalkFault) → due ≡ None → Answers objects due good result → AnswersWell objects good result
well_of objects due good result none is = subst (λ o. Answers objects o good result) none is

-- ---- files as objects are added

module _ (objects more : Objects) (keeps : Keeps objects more) where
  pub contents_kept : (id : List ℕ) → IsWhole objects id → contents_of more id ≡ contents_of objects id
  contents_kept id whole =
      let visits : List Key = (walk_file_at objects id start).visits in
      same_contents objects more 100 [] id visits (record { from = start; none = whole; within = within_itself visits })
      (agree_kept objects more visits keeps (object_stored objects true 100 false [] id start (none_stored objects) whole))

  pub version_kept : (file : FileEntry) → IsWhole objects file.id → version_of more file ≡ version_of objects file
  version_kept file whole = ap (λ bytes. record { mode = file.mode; mtime = file.mtime; modifier = file.modifier; bytes = bytes }) (contents_kept file.id whole)

  -- ---- two versions

  with_true : (b c : Bool) → c ≡ true → b ≡ (b && c)
  with_true true c is = sym is
  with_true false c is = refl

  with_false : (b c : Bool) → c ≡ false → false ≡ (b && c)
  with_false true c is = sym is
  with_false false c is = refl

  pub same_found : (left right : FileEntry) (same : Bool) → IsWhole objects left.id → IsWhole objects right.id → (left.mode == right.mode) ≡ true
      → same ≡ same_id (contents_of objects left.id) (contents_of objects right.id) → same ≡ same_version (version_of more left) (version_of more right)
  same_found left right same whole other modes is =
      is ∙ sym (ap₂ same_id (contents_kept left.id whole) (contents_kept right.id other))
      ∙ with_true (same_id (contents_of more left.id) (contents_of more right.id)) (left.mode == right.mode) modes

  pub same_ids : (left right : FileEntry) → (left.mode == right.mode) ≡ true → left.id ≡ right.id → true ≡ same_version (version_of more left) (version_of more right)
  same_ids left right modes is =
      sym ((bytes_decides (contents_of more left.id) (contents_of more right.id)).1 (ap (contents_of more) is))
      ∙ with_true (same_id (contents_of more left.id) (contents_of more right.id)) (left.mode == right.mode) modes

  pub other_modes : (left right : FileEntry) → (left.mode == right.mode) ≡ false → false ≡ same_version (version_of more left) (version_of more right)
  other_modes left right modes = with_false (same_id (contents_of more left.id) (contents_of more right.id)) (left.mode == right.mode) modes
