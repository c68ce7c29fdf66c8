-- Which files stand where steps were done, and of which writes an object is wrong. The key lemmas are file_from, nameless_kept, front_of,
-- front_objects and wrong_tree.
use Rattle.std.proofs.Common.{◌≡◌, ◌⊎◌, ℕ, Bool, true, false, cond, if◌then◌else◌, All, List, [], ◌∷◌, ◌++◌, length, Option, None, Some, is_some, Ok, refl, sym, ap, subst, ◌∙◌, inl, inr, true≢false}
use Rattle.std.specs.FinMap as fin
use Rattle.std.specs.List.{AllByRecursion, Contains}
use Rattle.std.proofs.lemmas.List.Elements.{All-cons, All-contains, All-nil, Contains-append_right, Contains-push, Contains-append_left}
use Rattle.ids.specs.Key.{Objects}
use Rattle.tree_model.specs.Path.{PathV}
use Rattle.tree_model.specs.PathOrder.{paths_total}
use Rattle.tree_model.proofs.ListedLemmas.{same_path, same_path-true}
use Rattle.folder_side.specs.Folder.{Contents, at, with_holding, without}
use Rattle.folder_side.specs.declared.holding.Holding.{Holding}
use Rattle.folder_side.specs.declared.holding.Holding.TheVariants.{Dir, File}
use Rattle.fs_objects.specs.declared.file_object.FileObject.{FileObject}
use Rattle.fs_objects.specs.declared.fs_object.FsObject.TheVariants as fs
use Rattle.object_graph.specs.Objects.{entry_below, fs_at, is_nil, joined}
use Rattle.object_graph.specs.Unchanged.{Keeps}
use Rattle.object_graph.specs.declared.entry.Entry.TheVariants as entry
use Rattle.sync_rules.specs.Causes.{IsWrongTree}
use Rattle.sync_rules.specs.Checkout.{Step, do_step, run}
use Rattle.tree_walk.specs.Files.{as_file, file_at}
use Rattle.tree_walk.specs.declared.fault.WalkFault.TheVariants as walk
use Rattle.tree_checkout.specs.CheckingOut.{AreOf, IsMisSized, IsNodeOf}
use Rattle.tree_checkout.specs.declared.planning.Due.{Due}
use Rattle.tree_checkout.specs.declared.planning.DueNode.{DueNode}
use Rattle.tree_checkout.specs.declared.planning.DueNode.TheVariants as due
use Rattle.tree_checkout.specs.declared.steps.Write.{Write}
use Rattle.tree_checkout.specs.declared.steps.WriteNode.{WriteNode}
use Rattle.tree_checkout.specs.declared.steps.WriteNode.TheVariants as write
use Rattle.sync_daemon.specs.Bringing.{AreMade, IsMade}
use Rattle.sync_daemon.proofs.WrittenLemmas.{read_file, there_too}

-- ---- what stands where steps were done

got_without : (path q : PathV) (c : Contents) → at (without path c) q ≡ cond (same_path q path) None (at c q)
got_without path q c = fin.get-remove paths_total c.paths path q

got_with : (path q : PathV) (holding : Holding) (c : Contents) → at (with_holding path holding c) q ≡ cond (same_path q path) (Some holding) (at c q)
got_with path q holding c = fin.get-insert paths_total c.paths path holding q

abbrev bytes_of : Option Holding → List ℕ
bytes_of (Some (File bytes)) = bytes
bytes_of _ = []

abbrev is_file_held : Option Holding → Bool
is_file_held (Some (File bytes)) = true
is_file_held _ = false

-- a step writes a file, or it stood before
step_file : (step : Step) (c : Contents) (q : PathV) (bytes : List ℕ) → at (do_step step c) q ≡ Some (File bytes) → (at c q ≡ Some (File bytes)) ⊎ (step ≡ Step.Wrote q bytes)
step_file (Step.Removed path) c q bytes there = by (same_path q path) (sym (got_without path q c) ∙ there)
  where
    by : (b : Bool) → cond b None (at c q) ≡ Some (File bytes) → (at c q ≡ Some (File bytes)) ⊎ (Step.Removed path ≡ Step.Wrote q bytes)
    by true is = absurd (true≢false (sym (ap is_some is)))
    by false is = inl is
step_file (Step.Made path) c q bytes there = by (same_path q path) (sym (got_with path q Dir c) ∙ there)
  where
    by : (b : Bool) → cond b (Some Dir) (at c q) ≡ Some (File bytes) → (at c q ≡ Some (File bytes)) ⊎ (Step.Made path ≡ Step.Wrote q bytes)
    by true is = absurd (true≢false (sym (ap is_file_held is)))
    by false is = inl is
step_file (Step.Wrote path its) c q bytes there = by (same_path q path) refl (sym (got_with path q (File its) c) ∙ there)
  where
    by : (b : Bool) → same_path q path ≡ b → cond b (Some (File its)) (at c q) ≡ Some (File bytes) → (at c q ≡ Some (File bytes)) ⊎ (Step.Wrote path its ≡ Step.Wrote q bytes)
    by true same is = inr (λ i. Step.Wrote (sym (same_path-true q path same) i) (ap bytes_of is i))
    by false apart is = inl is

-- it is in front, or further behind
contains_first : {X : Type 0} (x : X) (xs : List X) → Contains (x ∷ xs) x
contains_first x xs = Contains-append_left (x ∷ []) xs x (Contains-push [] x)

contains_next : {X : Type 0} (y x : X) (xs : List X) → Contains xs x → Contains (y ∷ xs) x
contains_next y x xs there = Contains-append_right (y ∷ []) xs x there

pub file_from : (steps : List Step) (c : Contents) (q : PathV) (bytes : List ℕ) → at (run steps c) q ≡ Some (File bytes) → (at c q ≡ Some (File bytes)) ⊎ Contains steps (Step.Wrote q bytes)
file_from [] c q bytes there = inl there
file_from (step ∷ steps) c q bytes there = by (file_from steps (do_step step c) q bytes there)
  where
    first : (at c q ≡ Some (File bytes)) ⊎ (step ≡ Step.Wrote q bytes) → (at c q ≡ Some (File bytes)) ⊎ Contains (step ∷ steps) (Step.Wrote q bytes)
    first (inl before) = inl before
    first (inr is) = inr (subst (Contains (step ∷ steps)) is (contains_first step steps))

    by : (at (do_step step c) q ≡ Some (File bytes)) ⊎ Contains steps (Step.Wrote q bytes) → (at c q ≡ Some (File bytes)) ⊎ Contains (step ∷ steps) (Step.Wrote q bytes)
    by (inl held) = first (step_file step c q bytes held)
    by (inr later) = inr (contains_next step (Step.Wrote q bytes) steps later)

one_nameless : (step : Step) (c : Contents) → (do_step step c).nameless ≡ c.nameless
one_nameless (Step.Removed path) c = refl
one_nameless (Step.Made path) c = refl
one_nameless (Step.Wrote path bytes) c = refl

pub nameless_kept : (steps : List Step) (c : Contents) → (run steps c).nameless ≡ c.nameless
nameless_kept [] c = refl
nameless_kept (step ∷ steps) c = nameless_kept steps (do_step step c) ∙ one_nameless step c

-- ---- a front of what is written

pub front_of : {X : Type 0} (P : X → Type 0) (whole done rest : List X) → whole ≡ done ++ rest → AllByRecursion P whole → AllByRecursion P done
front_of {X = X} P whole done rest is all = by done (subst (AllByRecursion P) is all)
  where
    by : (xs : List X) → AllByRecursion P (xs ++ rest) → AllByRecursion P xs
    by [] here = tt
    by (x ∷ xs) here = (here.0, by xs here.1)

all_of : {X : Type 0} (P : X → Type 0) (xs : List X) → AllByRecursion P xs → All P xs
all_of P [] all = All-nil P
all_of P (x ∷ xs) all = All-cons P x xs all.0 (all_of P xs all.1)

-- one of them
pub one_of_all : {X : Type 0} (P : X → Type 0) (xs : List X) (x : X) → AllByRecursion P xs → Contains xs x → P x
one_of_all P xs x all there = All-contains P xs x (all_of P xs all) there

-- ---- a size that is wrong

module _ (held objects : Objects) (keeps : Keeps held objects) where
  -- the object of a file is there, or it is empty
  abbrev IsSound : WriteNode → Type 0
  IsSound write.Dir = Unit {0}
  IsSound (write.File file) = (fs_at objects file.id ≡ Ok (fs.File file.object)) ⊎ (file.object.size ≡ length (joined objects file.object.blocks))

  sound_file : (id : List ℕ) (file : FileObject) → file_at held id ≡ Ok file → (fs_at objects id ≡ Ok (fs.File file)) ⊎ (file.size ≡ length (joined objects file.blocks))
  sound_file id file is = by (is_nil id) is
    where
      by : (b : Bool) → (if b then Ok (record { blocks = []; size = 0 }) else as_file id (fs_at held id)) ≡ Ok file
          → (fs_at objects id ≡ Ok (fs.File file)) ⊎ (file.size ≡ length (joined objects file.blocks))
      by true read =
          let same : record { blocks = []; size = 0 } ≡ file = cc in
          inr (subst (λ (f : FileObject). f.size ≡ length (joined objects f.blocks)) same refl)
      by false read = inl (there_too held objects keeps id file (read_file held objects keeps id (fs_at held id) file read))

  sound_node : (d : DueNode) (node : WriteNode) → IsMade held d node → IsSound node
  sound_node due.Dir write.Dir is = tt
  sound_node (due.File id) (write.File file) is =
      subst (λ (x : List ℕ). (fs_at objects x ≡ Ok (fs.File file.object)) ⊎ (file.object.size ≡ length (joined objects file.object.blocks))) (sym is.0) (sound_file id file.object is.1)
  sound_node due.Dir (write.File file) is = absurd is
  sound_node (due.File id) write.Dir is = absurd is

  all_sound : (dues : List Due) (writes : List Write) → AreMade held dues writes → AllByRecursion (λ (w : Write). IsSound w.node) writes
  all_sound [] [] made = tt
  all_sound [] (w ∷ writes) made = absurd made
  all_sound (d ∷ dues) [] made = absurd made
  all_sound (d ∷ dues) (w ∷ writes) made = (sound_node d.node w.node made.0.1, all_sound dues writes made.1)

  -- a file of the root has another size than its object tells
  pub wrong_tree : (root : List ℕ) (dues : List Due) (writes : List Write) → AreMade held dues writes → AreOf objects root writes → (id : List ℕ) → IsMisSized objects writes id
      → IsWrongTree objects root (walk.WrongSize id)
  wrong_tree root dues writes made of id mis =
      let w : Write = record { path = mis.path; node = write.File mis.file } in
      let file_of : IsNodeOf objects root mis.path (write.File mis.file) = one_of_all (λ (x : Write). IsNodeOf objects root x.path x.node) writes w of mis.there in
      let sound : IsSound (write.File mis.file) = one_of_all (λ (x : Write). IsSound x.node) writes w (all_sound dues writes made) mis.there in (
        mis.path,
        file_of.mode,
        file_of.mtime,
        file_of.modifier,
        file_of.size,
        subst (λ (x : List ℕ). entry_below objects mis.path root
            ≡ Some (entry.File x file_of.mode file_of.mtime file_of.modifier file_of.size)) (sym mis.named) file_of.there,
        mis.file.object,
        subst (λ (x : List ℕ). fs_at objects x ≡ Ok (fs.File mis.file.object)) (sym mis.named) (there sound),
        mis.wrong,
      )
    where
      there : (fs_at objects mis.file.id ≡ Ok (fs.File mis.file.object)) ⊎ (mis.file.object.size ≡ length (joined objects mis.file.object.blocks)) → fs_at objects mis.file.id ≡ Ok (fs.File mis.file.object)
      there (inl is) = is
      there (inr right) = absurd (mis.wrong right)
