-- Blocks are asked for of what is written alone. The key lemmas are asked_within, planned_steps, planned_paths, planned_looks,
-- missized and written_sized.
use Rattle.std.proofs.Common.{◌≡◌, ◌⊎◌, ℕ, ◌+◌, ◌<◌, All, List, [], ◌∷◌, ◌++◌, length, map, Option, refl, sym, ap, ap₂, subst, ◌∙◌, inl, inr, append_assoc, length-append, arith, Some, Result, Ok}
use Rattle.std.specs.List.{AllByRecursion, Contains}
use Rattle.std.proofs.lemmas.List.Elements.{All-append, All-cons, All-contains, All-contains_itself, All-head, All-nil, All-tail, Contains-append_right}
use Rattle.ids.specs.Key.{Objects}
use Rattle.tree_model.specs.Path.{PathV}
use Rattle.block_chunker.specs.declared.cuts.Cuts.{Cuts}
use Rattle.folder_side.specs.Folder.{Contents, at}
use Rattle.folder_side.specs.declared.scan_report.Scan.{Scan}
use Rattle.http_front.specs.declared.order.Order.{Order}
use Rattle.object_graph.specs.Objects.{block_bytes, block_key, entry_below, fs_at, joined}
use Rattle.object_graph.specs.declared.fault.TreeFault.{TreeFault}
use Rattle.fs_objects.specs.declared.fs_object.FsObject.{FsObject}
use Rattle.fs_objects.specs.declared.fs_object.FsObject.TheVariants as fs
use Rattle.object_graph.specs.declared.entry.Entry.TheVariants as entry
use Rattle.object_graph.specs.declared.entry.Entry.{Entry}
use Rattle.remote_calls.specs.Sends.{Sent}
use Rattle.sync_rules.specs.Checkout.{Step}
use Rattle.sync_rules.specs.Named.{HasAll, asked_by, keys_asked}
use Rattle.sync_rules.specs.Synced.{AsksWritten, HasBlock, IsOfWritten, IsSized}
use Rattle.sync_rules.specs.declared.fault.SyncFault.{SyncFault}
use Rattle.sync_rules.specs.declared.fault.SyncFault.TheVariants as fault
use Rattle.tree_checkout.specs.BlockGets.{AreGot, Stops, block_order, had_of, joined_in}
use Rattle.tree_checkout.specs.CheckingOut.{AreFor, AreObjects, AreOf, IsFileOf, IsForNode, IsMisSized, IsNodeOf, IsObjectOf, checkout_steps}
use Rattle.tree_checkout.specs.Planning.{LooksUndone, due_first, due_step, node_step, plan_steps}
use Rattle.tree_checkout.specs.SecondLook.{LooksAs}
use Rattle.tree_checkout.specs.Steps.{AreSized, IsSizedNode, IsWrongFile, LooksUnwritten, blocks_due, made_step, node_blocks, node_first, paths_of, write_step}
use Rattle.tree_checkout.specs.declared.block_gets.Source.{Source}
use Rattle.tree_checkout.specs.declared.planning.Due.{Due}
use Rattle.tree_checkout.specs.declared.planning.DueNode.{DueNode}
use Rattle.tree_checkout.specs.declared.planning.DueNode.TheVariants as due
use Rattle.tree_checkout.specs.declared.planning.Plan.{Plan}
use Rattle.tree_checkout.specs.declared.steps.Write.{Write}
use Rattle.tree_checkout.specs.declared.steps.WriteNode.{WriteNode}
use Rattle.tree_checkout.specs.declared.steps.WriteNode.TheVariants as write
use Rattle.tree_checkout.specs.declared.writing.TreeFile.{TreeFile}
use Rattle.tree_checkout.proofs.GotLemmas.{all_got_stops, got_length}
use Rattle.tree_checkout.proofs.HadLemmas.{has_later_of, joined_got, told_at}

all_both : {X : Type 0} (P : X → Type 0) (first later : List X) → AllByRecursion P first → AllByRecursion P later → AllByRecursion P (first ++ later)
all_both P [] later mine others = others
all_both P (x ∷ first) later mine others = (mine.0, all_both P first later mine.1 others)

-- ---- what is asked for

-- each write's step is one of the checkout's
steps_within : (objects : Objects) (first : List Step) (writes : List Write)
    → AllByRecursion (λ w. Contains (first ++ map (write_step objects) writes) (write_step objects w)) writes
steps_within objects first [] = tt
steps_within objects first (w ∷ writes) = (
  Contains-append_right first (write_step objects w ∷ map (write_step objects) writes) (write_step objects w) (0, omega arith, refl),
  subst (λ (all : List Step). AllByRecursion (λ v. Contains all (write_step objects v)) writes)
      (append_assoc first (write_step objects w ∷ []) (map (write_step objects) writes))
      (steps_within objects (first ++ write_step objects w ∷ []) writes),
)

module _ (objects : Objects) (root : List ℕ) (steps : List Step) where
  -- a block that is asked for is one of what is written
  abbrev IsServed : List ℕ → Type 0
  IsServed id = IsOfWritten objects root steps (block_key id)

  served_blocks : (path : PathV) (file : TreeFile) → Contains steps (Step.Wrote path (joined objects file.object.blocks)) → IsFileOf objects root path file
      → (ids : List (List ℕ)) → All (Contains file.object.blocks) ids → AllByRecursion IsServed ids
  served_blocks path file there of [] all = tt
  served_blocks path file there of (id ∷ ids) all = (
    λ block. (path, joined objects file.object.blocks, there, has),
    served_blocks path file there of ids (All-tail (Contains file.object.blocks) id ids all),
  )
    where
      has : HasBlock objects id (entry_below objects path root)
      has =
          subst (λ (o : Option Entry). HasBlock objects id o) (sym of.there)
          (subst (λ (known : List (List ℕ)). Contains known id) (sym of.blocks) (All-head (Contains file.object.blocks) id ids all))

  served_node : (path : PathV) (node : WriteNode) → Contains steps (made_step objects path node) → IsNodeOf objects root path node → AllByRecursion IsServed (node_blocks node)
  served_node path write.Dir there of = tt
  served_node path (write.File file) there of = served_blocks path file there of file.object.blocks (All-contains_itself file.object.blocks)

  served_due : (writes : List Write) → AllByRecursion (λ w. Contains steps (write_step objects w)) writes → AreOf objects root writes
      → AllByRecursion IsServed (blocks_due writes)
  served_due [] there of = tt
  served_due (w ∷ writes) there of =
      all_both IsServed (node_blocks w.node) (blocks_due writes) (served_node w.path w.node there.0 of.0) (served_due writes there.1 of.1)

  asked_first : (source : Source) (id : List ℕ) (sent : Sent) (more : List Sent) → sent.0 ≡ block_order source id
      → IsServed id → All (IsOfWritten objects root steps) (keys_asked more) → All (IsOfWritten objects root steps) (keys_asked (sent ∷ more))
  asked_first source id sent more asked served others =
      subst (λ (order : Order). All (IsOfWritten objects root steps) (asked_by order.what ++ keys_asked more)) (sym asked)
      (All-cons (IsOfWritten objects root steps) (block_key id) (keys_asked more) served others)

  asked_stopped : (source : Source) (f : SyncFault) (more : List Sent) (ids : List (List ℕ)) → Stops source more ids f → AllByRecursion IsServed ids
      → All (IsOfWritten objects root steps) (keys_asked more)
  asked_stopped source f [] ids stops served = All-nil (IsOfWritten objects root steps)
  asked_stopped source f (sent ∷ more) [] stops served = absurd stops
  asked_stopped source f (sent ∷ more) (id ∷ ids) (inl on) served =
      asked_first source id sent more on.0.asked served.0 (asked_stopped source f more ids on.1 served.1)
  asked_stopped source f (sent ∷ more) (id ∷ ids) (inr ends) served =
      asked_first source id sent more (told_at source id sent f ends.0) served.0
      (subst (λ (rest : List Sent). All (IsOfWritten objects root steps) (keys_asked rest)) (sym ends.1) (All-nil (IsOfWritten objects root steps)))

pub asked_within : (objects : Objects) (root : List ℕ) (source : Source) (doomed : List PathV) (writes : List Write) (more : List Sent) (f : SyncFault)
    → AreOf objects root writes → Stops source more (blocks_due writes) f → AsksWritten objects root (checkout_steps objects doomed writes) more
asked_within objects root source doomed writes more f of stops =
    let steps : List Step = checkout_steps objects doomed writes in
    asked_stopped objects root steps source f more (blocks_due writes) stops (served_due objects root steps writes (steps_within objects (map Step.Removed doomed) writes) of)

pub asked_all : (objects : Objects) (root : List ℕ) (source : Source) (doomed : List PathV) (writes : List Write) (more : List Sent)
    → AreOf objects root writes → AreGot source (blocks_due writes) more → AsksWritten objects root (checkout_steps objects doomed writes) more
asked_all objects root source doomed writes more of got =
    asked_within objects root source doomed writes more fault.NoMemory of (all_got_stops source fault.NoMemory (blocks_due writes) more got refl)

-- ---- what is written for a plan

module _ (objects : Objects) where
  node_same : (p q : PathV) (d : DueNode) (node : WriteNode) → q ≡ p → IsForNode objects d node → node_step objects p d ≡ made_step objects q node
  node_same p q due.Dir write.Dir same for = ap Step.Made (sym same)
  node_same p q (due.File id) (write.File file) same for = ap₂ Step.Wrote (sym same) (ap (joined objects) for.1)
  node_same p q due.Dir (write.File file) same for = absurd for
  node_same p q (due.File id) write.Dir same for = absurd for

  writes_same_steps : (dues : List Due) (writes : List Write) → AreFor objects dues writes → map (due_step objects) dues ≡ map (write_step objects) writes
  writes_same_steps [] [] for = refl
  writes_same_steps [] (w ∷ writes) for = absurd for
  writes_same_steps (d ∷ dues) [] for = absurd for
  writes_same_steps (d ∷ dues) (w ∷ writes) for =
      ap₂ (λ (x : Step) (xs : List Step). x ∷ xs) (node_same d.path w.path d.node w.node for.0 for.1) (writes_same_steps dues writes for.2)

  pub planned_steps : (plan : Plan) (writes : List Write) → AreFor objects plan.writes writes → plan_steps objects plan ≡ checkout_steps objects plan.doomed writes
  planned_steps plan writes for = ap (λ (steps : List Step). map Step.Removed plan.doomed ++ steps) (writes_same_steps plan.writes writes for)

  pub planned_paths : (dues : List Due) (writes : List Write) → AreFor objects dues writes → map (λ (d : Due). d.path) dues ≡ paths_of writes
  planned_paths [] [] for = refl
  planned_paths [] (w ∷ writes) for = absurd for
  planned_paths (d ∷ dues) [] for = absurd for
  planned_paths (d ∷ dues) (w ∷ writes) for = ap₂ (λ (p : PathV) (ps : List PathV). p ∷ ps) (sym for.0) (planned_paths dues writes for.2)

  module _ (cuts : Cuts) (c : Contents) (scan : Scan) where
    node_looks : (p : PathV) (d : DueNode) (node : WriteNode) → IsForNode objects d node → LooksAs cuts (at c p) (due_first scan p d) → LooksAs cuts (at c p) (node_first scan p node)
    node_looks p due.Dir write.Dir for looks = looks
    node_looks p (due.File id) (write.File file) for looks = looks
    node_looks p due.Dir (write.File file) for looks = absurd for
    node_looks p (due.File id) write.Dir for looks = absurd for

    pub planned_looks : (dues : List Due) (writes : List Write) → AreFor objects dues writes → AllByRecursion (LooksUndone cuts c scan) dues
        → AllByRecursion (LooksUnwritten cuts c scan) writes
    planned_looks [] [] for looks = tt
    planned_looks [] (w ∷ writes) for looks = absurd for
    planned_looks (d ∷ dues) [] for looks = absurd for
    planned_looks (d ∷ dues) (w ∷ writes) for looks = (
      subst (λ (p : PathV). LooksAs cuts (at c p) (node_first scan p w.node)) (sym for.0) (node_looks d.path d.node w.node for.1 looks.0),
      planned_looks dues writes for.2 looks.1,
    )

-- ---- a size that is told as wrong

joined_both : (objects : Objects) (first later : List (List ℕ)) → joined objects (first ++ later) ≡ joined objects first ++ joined objects later
joined_both objects [] later = refl
joined_both objects (id ∷ first) later =
    ap (λ (bytes : List ℕ). block_bytes objects id ++ bytes) (joined_both objects first later) ∙ sym (append_assoc (block_bytes objects id) (joined objects first) (joined objects later))

joined_none : (objects : Objects) (ids : List (List ℕ)) → length ids ≡ 0 → length (joined objects ids) ≡ 0
joined_none objects [] none = refl
joined_none objects (id ∷ ids) none = let no : ⊥ = omega arith in absurd no

pub missized : (source : Source) (writes : List Write) (more : List Sent) (id : List ℕ) (objects : Objects) → IsWrongFile source writes more id
    → HasAll objects (had_of more) → IsMisSized objects writes id
missized source writes more id objects is has = record {
  path = is.path;
  file = is.file;
  there =
      subst (λ (all : List Write). Contains all (record { path = is.path; node = write.File is.file })) (sym is.there)
      (Contains-append_right is.done (record { path = is.path; node = write.File is.file } ∷ is.rest) (record { path = is.path; node = write.File is.file }) (0, omega arith, refl));
  named = is.named;
  wrong = λ same. by same is.misfit;
}
  where
    part : HasAll objects (had_of is.later)
    part = has_later_of objects is.earlier is.later (subst (λ (sends : List Sent). HasAll objects (had_of sends)) is.ends has)

    whole : length (joined objects is.file.object.blocks) ≡ length (joined_in is.later) + length (joined objects is.came.others)
    whole =
        ap length
        (ap (joined objects) is.came.split ∙ joined_both objects is.came.front is.came.others
        ∙ ap (λ (bytes : List ℕ). bytes ++ joined objects is.came.others) (joined_got source is.came.front is.later objects is.came.came part))
        ∙ length-append (joined_in is.later) (joined objects is.came.others)

    counted : length is.file.object.blocks ≡ length is.came.front + length is.came.others
    counted = ap length is.came.split ∙ length-append is.came.front is.came.others

    over : (size n m all : ℕ) → size < n → all ≡ n + m → size ≡ all → ⊥
    over size n m all less sum same = omega arith

    under : (size n m all : ℕ) → n < size → m ≡ 0 → all ≡ n + m → size ≡ all → ⊥
    under size n m all less none sum same = omega arith

    none_left : (came front others blocks : ℕ) → came ≡ front → came ≡ blocks → blocks ≡ front + others → others ≡ 0
    none_left came front others blocks e f g = omega arith

    by : is.file.object.size ≡ length (joined objects is.file.object.blocks)
        → (is.file.object.size < length (joined_in is.later)) ⊎ ((length is.later ≡ length is.file.object.blocks) × (length (joined_in is.later) < is.file.object.size)) → ⊥
    by same (inl more_came) =
        over is.file.object.size (length (joined_in is.later)) (length (joined objects is.came.others)) (length (joined objects is.file.object.blocks)) more_came whole same
    by same (inr fewer) =
        under is.file.object.size (length (joined_in is.later)) (length (joined objects is.came.others)) (length (joined objects is.file.object.blocks)) fewer.1
        (joined_none objects is.came.others
        (none_left (length is.later) (length is.came.front) (length is.came.others) (length is.file.object.blocks)
        (got_length source is.came.front is.later is.came.came) fewer.0 counted))
        whole same

-- ---- the size of what is written

module _ (objects : Objects) (root : List ℕ) where
  abbrev SizesRight : Step → Type 0
  SizesRight (Step.Wrote path bytes) = IsSized objects root path bytes
  SizesRight _ = Unit {0}

  abbrev id_there : Option Entry → List ℕ
  id_there (Some (entry.File id mode mtime modifier size)) = id
  id_there _ = []

  abbrev size_there : Result FsObject TreeFault → ℕ
  size_there (Ok (fs.File file)) = file.size
  size_there _ = 0

  node_right : (path : PathV) (node : WriteNode) → IsNodeOf objects root path node → IsObjectOf objects node → IsSizedNode objects node → SizesRight (made_step objects path node)
  node_right path write.Dir of object sized = tt
  node_right path (write.File file) of object sized = λ id modifier mode size mtime other there some is.
      let same : file.id ≡ id = ap id_there (sym of.there ∙ there) in
      let got : fs_at objects id ≡ Ok (fs.File file.object) =
      subst (λ (i : List ℕ). fs_at objects i ≡ Ok (fs.File file.object)) same (object (λ e. some (sym same ∙ e))) in
      ap size_there (sym is ∙ got) ∙ sized

  removed_right : (doomed : List PathV) → All SizesRight (map Step.Removed doomed)
  removed_right [] = All-nil SizesRight
  removed_right (path ∷ doomed) = All-cons SizesRight (Step.Removed path) (map Step.Removed doomed) tt (removed_right doomed)

  writes_right : (writes : List Write) → AreOf objects root writes → AreObjects objects writes → AreSized objects writes → All SizesRight (map (write_step objects) writes)
  writes_right [] of object sized = All-nil SizesRight
  writes_right (w ∷ writes) of object sized =
      All-cons SizesRight (write_step objects w) (map (write_step objects) writes) (node_right w.path w.node of.0 object.0 sized.0) (writes_right writes of.1 object.1 sized.1)

  pub written_sized : (doomed : List PathV) (writes : List Write) → AreOf objects root writes → AreObjects objects writes → AreSized objects writes
      → (path : PathV) (bytes : List ℕ) → Contains (checkout_steps objects doomed writes) (Step.Wrote path bytes) → IsSized objects root path bytes
  written_sized doomed writes of object sized path bytes there =
      All-contains SizesRight (checkout_steps objects doomed writes) (Step.Wrote path bytes)
      (All-append SizesRight (map Step.Removed doomed) (map (write_step objects) writes) (removed_right doomed) (writes_right writes of object sized)) there
