-- What a check finds. The key lemmas are entry_counted, entry_whole, counts_next, counts_stop, counts_end and
-- directory_counted.
use Rattle.std.proofs.Common.{◌≡◌, ◌≤◌, ◌<◌, ◌+◌, ℕ, zero, suc, Bool, true, false, if◌then◌else◌, List, [], ◌∷◌, ◌++◌, length, refl, sym, ap, ap₂, ◌∙◌, subst, None, Some, Result, Ok, Err, arith, length-append}
use Rattle.ids.specs.Key.{Objects}
use Rattle.ids.specs.ObjectId.{nil}
use Rattle.tree_model.specs.Path.{PathV}
use Rattle.fs_objects.specs.Mode.{is_directory_mode}
use Rattle.fs_objects.specs.declared.dirent.Dirent.{Dirent}
use Rattle.fs_objects.specs.declared.file_object.FileObject.{FileObject}
use Rattle.fs_objects.specs.declared.fs_object.FsObject.TheVariants as fs
use Rattle.commit_objects.specs.declared.commit.Commit.{Commit}
use Rattle.object_graph.specs.Listing.{Listed, listed}
use Rattle.object_graph.specs.Objects.{commit_at, commit_key, fs_at, fs_key, in_name_order, is_nil}
use Rattle.object_graph.specs.Traversal.{Walk, start, visited, walk_below, walk_commit, walk_file_at, walk_root}
use Rattle.object_graph.specs.declared.fault.TreeFault.TheVariants.{TooDeep, TooMany, WrongKind}
use Rattle.object_graph.proofs.CountingLemmas.{counts_from, entry_counts, nothing_listed}
use Rattle.tree_walk.specs.Checking.{Found, IsWithin, Measures}
use Rattle.tree_walk.specs.Extent.{deepest, extent_in, extent_of, joined, with_entry}
use Rattle.tree_walk.specs.Listings.{listed_from, listed_one}
use Rattle.tree_walk.specs.Reading.{Answers, IsDue}
use Rattle.tree_walk.specs.Steps.{HasCounted, directory_step, entries_step, entry_step}
use Rattle.tree_walk.specs.declared.extent.Extent.{Extent}
use Rattle.tree_walk.specs.declared.fault.WalkFault.{WalkFault}
use Rattle.tree_walk.proofs.ExtentLemmas.{deepest-append, deepest-entry, length-entry}
use Rattle.tree_walk.proofs.FileLemmas.{file_anywhere, walk_due}
use Rattle.tree_walk.proofs.ListingLemmas.{from-cons, listed-entries}
use Rattle.tree_walk.proofs.StepsLemmas.{Stands, due_of, one_more, one_more_counted, stands_begin, stands_end, stands_next, stands_stop, step_commit, step_deep, step_entries, step_many, step_no_directory, step_object}

-- what was found of one traversal and list is found of the same ones
found_as : (objects : Objects) (w v : Walk) (paths : ℕ) (more other : Listed) (result : Result Extent WalkFault) → v ≡ w → more ≡ other → Found objects w paths more result → Found objects v paths other result
found_as objects w v paths more other (Ok extent) is same found = (subst (λ (u : Walk). HasCounted u (paths + extent.paths)) (sym is) found.0, found.1 ∙ ap extent_in same)
found_as objects w v paths more other (Err fault) is same found = subst (λ (u : Walk). IsDue objects u.fault fault) (sym is) found

extent_as : (one more : Extent) → one.paths ≡ more.paths → one.deep ≡ more.deep → one ≡ more
extent_as one more paths deep = ap₂ (λ (p d : ℕ). record { paths = p; deep = d }) paths deep

-- a walk that counted so many paths
abbrev pub counted : ℕ → Walk
counted paths = record { visits = []; paths = paths; fault = None }

pub has_counted : (paths : ℕ) → HasCounted (counted paths) paths
has_counted paths = record { none = refl; count = refl }

-- ---- one entry

pub entry_many : (objects : Objects) (room paths : ℕ) (path : PathV) (e : Dirent) → 1000000 ≤ paths → (w : Walk) → HasCounted w paths
    → (entry_step true objects room path e w).fault ≡ Some (TooMany (paths + 1))
entry_many objects room paths path e many w has = step_many true objects room path e w (omega (arith, has.count)) ∙ ap (λ n. Some (TooMany (n + 1))) has.count

pub entry_deep : (objects : Objects) (room paths : ℕ) (path own : PathV) (e : Dirent) → room ≡ zero → own ≡ path ++ e.name ∷ [] → paths < 1000000 → (w : Walk) → HasCounted w paths
    → (entry_step true objects room path e w).fault ≡ Some (TooDeep own)
entry_deep objects room paths path own e no_room at few w has = step_deep true objects room path e w no_room has.none (omega (arith, has.count)) ∙ ap (λ p. Some (TooDeep p)) (sym at)

-- a directory
pub entry_counted : (objects : Objects) (room less paths : ℕ) (path : PathV) (e : Dirent) (extent whole : Extent) → room ≡ suc less → paths < 1000000 → is_directory_mode e.mode ≡ true
    → whole ≡ with_entry extent → Measures objects (directory_step true objects less (path ++ e.name ∷ []) e.id) (paths + 1) (listed objects less e.id) (Ok extent)
    → Measures objects (entry_step true objects room path e) paths (listed_one objects room e) (Ok whole)
entry_counted objects room less paths path e extent whole fits few is at measures w has =
    let found = measures (one_more w) (one_more_counted w paths (paths + 1) has refl) in (
      record {
        none = ap (λ (u : Walk). u.fault) step ∙ found.0.none;
        count = ap (λ (u : Walk). u.paths) step ∙ found.0.count ∙ omega (arith, ap (λ (x : Extent). x.paths) at);
      },
      at ∙ ap with_entry found.1 ∙ all,
    )
  where
    step : entry_step true objects room path e w ≡ directory_step true objects less (path ++ e.name ∷ []) e.id (one_more w)
    step = step_object true objects room path less e w true fits is has.none (omega (arith, has.count))

    own : listed_one objects room e ≡ listed_one objects (suc less) e
    own = ap (λ r. listed_one objects r e) fits

    all : with_entry (extent_in (listed objects less e.id)) ≡ extent_in (listed_one objects room e)
    all =
        ap (λ (b : Bool). with_entry (extent_in (if b then listed objects less e.id else []))) (sym is)
        ∙ extent_as _ (extent_in (listed_one objects (suc less) e)) (omega (arith, length-entry (listed objects less) e)) (omega (arith, deepest-entry (listed objects less) e))
        ∙ ap extent_in (sym own)

pub entry_stops : (objects : Objects) (room less paths : ℕ) (path : PathV) (e : Dirent) (fault : WalkFault) → room ≡ suc less → paths < 1000000 → is_directory_mode e.mode ≡ true
    → Measures objects (directory_step true objects less (path ++ e.name ∷ []) e.id) (paths + 1) (listed objects less e.id) (Err fault)
    → Measures objects (entry_step true objects room path e) paths (listed_one objects room e) (Err fault)
entry_stops objects room less paths path e fault fits few is measures w has =
    subst (λ (u : Walk). IsDue objects u.fault fault) (sym (step_object true objects room path less e w true fits is has.none (omega (arith, has.count))))
    (measures (one_more w) (one_more_counted w paths (paths + 1) has refl))

-- a file
file_step : (objects : Objects) (room less paths : ℕ) (path : PathV) (e : Dirent) → room ≡ suc less → paths < 1000000 → is_directory_mode e.mode ≡ false → (w : Walk) → HasCounted w paths
    → entry_step true objects room path e w ≡ walk_file_at objects e.id (one_more w)
file_step objects room less paths path e fits few is w has =
    step_object true objects room path less e w false fits is has.none (omega (arith, has.count)) ∙ file_anywhere objects less (path ++ e.name ∷ []) e.id (one_more w)

-- a file's fault doesn't depend on where it is
file_same : (objects : Objects) (id : List ℕ) (w : Walk) → w.fault ≡ None → (walk_file_at objects id w).fault ≡ (walk_file_at objects id start).fault
file_same objects id w clear = walk_due objects id w clear ∙ sym (walk_due objects id start refl)

pub entry_whole : (objects : Objects) (room less paths : ℕ) (path : PathV) (e : Dirent) (whole : Extent) → room ≡ suc less → paths < 1000000 → is_directory_mode e.mode ≡ false
    → whole ≡ record { paths = 1; deep = 1 } → (walk_file_at objects e.id start).fault ≡ None
    → Measures objects (entry_step true objects room path e) paths (listed_one objects room e) (Ok whole)
unfolding walk_below
entry_whole objects room less paths path e whole fits few is at none w has = (
  record {
    none = ap (λ (u : Walk). u.fault) step ∙ clear;
    count = ap (λ (u : Walk). u.paths) step ∙ count ∙ omega (arith, has.count, ap (λ (x : Extent). x.paths) at);
  },
  at ∙ all,
)
  where
    step : entry_step true objects room path e w ≡ walk_file_at objects e.id (one_more w)
    step = file_step objects room less paths path e fits few is w has

    clear : (walk_file_at objects e.id (one_more w)).fault ≡ None
    clear = file_same objects e.id (one_more w) has.none ∙ none

    count : (walk_file_at objects e.id (one_more w)).paths ≡ w.paths + 1 + 0
    count = entry_counts true objects 100 (counts_from true objects 100) false [] e.id (one_more w) clear

    all : record { paths = 1; deep = 1 } ≡ extent_in (listed_one objects room e)
    all =
        extent_as _ (extent_in (listed_one objects (suc less) e))
        (ap (λ (b : Bool). suc (length (if b then listed objects less e.id else []))) (sym is) ∙ sym (length-entry (listed objects less) e))
        (ap (λ (b : Bool). suc (deepest (if b then listed objects less e.id else []))) (sym is) ∙ sym (deepest-entry (listed objects less) e))
        ∙ ap (λ r. extent_in (listed_one objects r e)) (sym fits)

pub entry_bad : (objects : Objects) (room less paths : ℕ) (path : PathV) (e : Dirent) (fault : WalkFault) → room ≡ suc less → paths < 1000000 → is_directory_mode e.mode ≡ false
    → IsDue objects (walk_file_at objects e.id start).fault fault
    → Measures objects (entry_step true objects room path e) paths (listed_one objects room e) (Err fault)
entry_bad objects room less paths path e fault fits few is due w has =
    due_of objects (walk_file_at objects e.id start).fault (entry_step true objects room path e w).fault
    (λ first at. ap (λ (u : Walk). u.fault) (file_step objects room less paths path e fits few is w has) ∙ file_same objects e.id (one_more w) has.none ∙ at) fault due

-- ---- entries, one after another

-- what was found so far, with what the rest gives, is what all give
pub record Counts (objects : Objects) (room paths : ℕ) (path : PathV) (all rest : List Dirent) (extent : Extent) : Type 0 where
  pub stands : (w : Walk) → HasCounted w paths → Stands true objects room path all rest w (paths + extent.paths)
  pub whole : joined extent (extent_in (listed_from objects room rest)) ≡ extent_in (listed_from objects room all)

joined-assoc : (a b c : Extent) → joined (joined a b) c ≡ joined a (joined b c)
joined-assoc a b c = extent_as _ _ (omega arith) (omega arith)

joined-append : (xs ys : Listed) → joined (extent_in xs) (extent_in ys) ≡ extent_in (xs ++ ys)
joined-append xs ys = extent_as _ (extent_in (xs ++ ys)) (sym (length-append xs ys)) (sym (deepest-append xs ys))

pub counts_begin : (objects : Objects) (room paths : ℕ) (path : PathV) (all : List Dirent) → Counts objects room paths path all all (record { paths = 0; deep = 0 })
counts_begin objects room paths path all = record {
  stands = λ w has. stands_begin true objects room path all w (paths + 0) (record { none = has.none; count = omega (arith, has.count) });
  whole = extent_as _ (extent_in (listed_from objects room all)) (omega arith) (omega arith);
}

-- one entry more is within the limits
pub within_next : (room paths : ℕ) (extent more after : Extent) → IsWithin room paths extent → IsWithin room (paths + extent.paths) more → after ≡ joined extent more → IsWithin room paths after
within_next room paths extent more after within own at =
    subst (IsWithin room paths) (sym at) (record { deep_enough = omega (arith, within.deep_enough, own.deep_enough); few = omega (arith, own.few) })

pub counts_next : (objects : Objects) (room paths : ℕ) (path : PathV) (all rest : List Dirent) (e : Dirent) (extent more after : Extent) → Counts objects room paths path all (e ∷ rest) extent
    → Measures objects (entry_step true objects room path e) (paths + extent.paths) (listed_one objects room e) (Ok more) → after ≡ joined extent more
    → Counts objects room paths path all rest after
counts_next objects room paths path all rest e extent more after counts measures at = record { stands = stands; whole = whole }
  where
    stands : (w : Walk) → HasCounted w paths → Stands true objects room path all rest w (paths + after.paths)
    stands w has =
        let before = counts.stands w has in
        let found = measures before.from before.has in
        let count : (entry_step true objects room path e before.from).paths ≡ paths + after.paths = found.0.count ∙ omega (arith, ap (λ (x : Extent). x.paths) at) in
        stands_next true objects room path all rest e w (paths + extent.paths) (paths + after.paths) before (record { none = found.0.none; count = count })

    own : more ≡ extent_in (listed_one objects room e)
    own = (measures (counted (paths + extent.paths)) (has_counted (paths + extent.paths))).1

    whole : joined after (extent_in (listed_from objects room rest)) ≡ extent_in (listed_from objects room all)
    whole =
        ap (λ (x : Extent). joined x (extent_in (listed_from objects room rest))) at
        ∙ joined-assoc extent more (extent_in (listed_from objects room rest))
        ∙ ap (λ (x : Extent). joined extent (joined x (extent_in (listed_from objects room rest)))) own
        ∙ ap (joined extent) (joined-append (listed_one objects room e) (listed_from objects room rest) ∙ ap extent_in (sym (from-cons objects room e rest)))
        ∙ counts.whole

pub counts_stop : (objects : Objects) (room paths : ℕ) (path : PathV) (all rest : List Dirent) (e : Dirent) (extent : Extent) (fault : WalkFault) → Counts objects room paths path all (e ∷ rest) extent
    → Measures objects (entry_step true objects room path e) (paths + extent.paths) (listed_one objects room e) (Err fault)
    → Measures objects (entries_step true objects room path all) paths (listed_from objects room all) (Err fault)
counts_stop objects room paths path all rest e extent fault counts measures w has =
    let before = counts.stands w has in
    stands_stop true objects room path all rest e w (paths + extent.paths) fault before (measures before.from before.has)

pub counts_end : (objects : Objects) (room paths : ℕ) (path : PathV) (all : List Dirent) (extent : Extent) → Counts objects room paths path all [] extent
    → Measures objects (entries_step true objects room path all) paths (listed_from objects room all) (Ok extent)
counts_end objects room paths path all extent counts w has =
    (stands_end true objects room path all w (paths + extent.paths) (counts.stands w has), ends room ∙ counts.whole)
  where
    ends : (room : ℕ) → extent ≡ joined extent (extent_in (listed_from objects room []))
    ends zero = extent_as extent _ (omega arith) (omega arith)
    ends (suc room) = extent_as extent _ (omega arith) (omega arith)

-- ---- a directory

pub directory_nil : (objects : Objects) (room paths : ℕ) (path : PathV) (id : List ℕ) (extent : Extent) → id ≡ nil → extent ≡ record { paths = 0; deep = 0 }
    → Measures objects (directory_step true objects room path id) paths (listed objects room id) (Ok extent)
directory_nil objects room paths path id extent is at w has =
    subst (λ (x : Extent). Found objects (directory_step true objects room path id w) paths (listed objects room id) (Ok x)) (sym at)
    (subst (λ i. Found objects (directory_step true objects room path i w) paths (listed objects room i) (Ok (record { paths = 0; deep = 0 }))) (sym is)
    (record { none = has.none; count = omega (arith, has.count) }, ap extent_in (sym (nothing_listed true objects room nil refl))))

pub directory_file : (objects : Objects) (room paths : ℕ) (path : PathV) (id : List ℕ) (file : FileObject) → is_nil id ≡ false → fs_at objects id ≡ Ok (fs.File file) → (w : Walk) → HasCounted w paths
    → (directory_step true objects room path id w).fault ≡ Some (WrongKind id)
directory_file objects room paths path id file other read w has = step_no_directory true objects room path id file w other read

pub directory_counted : (objects : Objects) (room paths : ℕ) (path : PathV) (id : List ℕ) (entries sorted : List Dirent) (result : Result Extent WalkFault)
    → is_nil id ≡ false → fs_at objects id ≡ Ok (fs.Dir entries) → sorted ≡ in_name_order entries
    → Measures objects (entries_step true objects room path sorted) paths (listed_from objects room sorted) result
    → Measures objects (directory_step true objects room path id) paths (listed objects room id) result
directory_counted objects room paths path id entries sorted result other read same measures w has =
    found_as objects (entries_step true objects room path sorted (visited (fs_key id) w)) (directory_step true objects room path id w) paths
    (listed_from objects room sorted) (listed objects room id) result
    (step_entries true objects room path id entries sorted w other read same)
    (ap (listed_from objects room) same ∙ sym (listed-entries objects room id entries other read))
    (measures (visited (fs_key id) w) (record { none = has.none; count = has.count }))

-- ---- a commit

pub commit_whole : (objects : Objects) (id : List ℕ) (commit : Commit) (extent : Extent) → commit_at objects id ≡ Ok commit
    → Measures objects (directory_step true objects 100 [] commit.root) 0 (listed objects 100 commit.root) (Ok extent) → (walk_commit objects id).fault ≡ None
commit_whole objects id commit extent read measures =
    ap (λ (w : Walk). w.fault) (step_commit objects id commit read) ∙ (measures (visited (commit_key id) start) (record { none = refl; count = refl })).0.none

pub commit_stops : (objects : Objects) (id : List ℕ) (commit : Commit) (fault : WalkFault) → commit_at objects id ≡ Ok commit
    → Measures objects (directory_step true objects 100 [] commit.root) 0 (listed objects 100 commit.root) (Err fault) → IsDue objects (walk_commit objects id).fault fault
commit_stops objects id commit fault read measures =
    subst (λ (w : Walk). IsDue objects w.fault fault) (sym (step_commit objects id commit read)) (measures (visited (commit_key id) start) (record { none = refl; count = refl }))

-- ---- a root

pub root_measured : (objects : Objects) (id : List ℕ) (result : Result Extent WalkFault) → Measures objects (directory_step true objects 100 [] id) 0 (listed objects 100 id) result
    → Answers objects (walk_root true objects id start).fault (λ extent. extent ≡ extent_of objects id) result
root_measured objects id (Ok extent) measures = let found = measures start (record { none = refl; count = refl }) in (found.0.none, found.1)
root_measured objects id (Err fault) measures = measures start (record { none = refl; count = refl })
