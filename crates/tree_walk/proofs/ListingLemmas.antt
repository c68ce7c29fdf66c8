-- Steps of a traversal that lists what it meets. The key lemmas are entry_too_many, entry_too_deep, entry_directory,
-- entry_file, goes_next, goes_stop, goes_end, directory_entries and root_listed.
use Rattle.std.proofs.Common.{◌≡◌, ◌≤◌, ◌<◌, ◌+◌, ℕ, zero, suc, Bool, true, false, if◌then◌else◌, List, [], ◌∷◌, ◌++◌, length, refl, sym, ap, ap₂, ◌∙◌, subst, None, Some, Result, Ok, Err, arith, length-append, append_assoc, append-nil, subst₂}
use Rattle.std.specs.Prelude.{⊤}
use Rattle.std.specs.FinMap as map
use Rattle.ids.specs.Key.{Objects}
use Rattle.ids.specs.ObjectId.{nil}
use Rattle.tree_model.specs.Path.{PathV, path_cmp}
use Rattle.fs_objects.specs.Mode.{is_directory_mode}
use Rattle.fs_objects.specs.declared.dirent.Dirent.{Dirent}
use Rattle.fs_objects.specs.declared.file_object.FileObject.{FileObject}
use Rattle.fs_objects.specs.declared.fs_object.FsObject.{FsObject}
use Rattle.fs_objects.specs.declared.fs_object.FsObject.TheVariants as fs
use Rattle.object_graph.specs.Listing.{Listed, prefixed, listed_in, listed}
use Rattle.object_graph.specs.Objects.{fs_key, fs_at, is_nil, entries_of, entry_of, in_name_order, dirents_at, AreEntriesOf}
use Rattle.object_graph.specs.Traversal.{Walk, visited, then_read, walk_found, walk_object, walk_below, walk_root, start}
use Rattle.object_graph.specs.declared.entry.Entry.{Entry}
use Rattle.object_graph.specs.declared.fault.TreeFault.{TreeFault}
use Rattle.object_graph.specs.declared.fault.TreeFault.TheVariants.{TooDeep, TooMany, WrongKind}
use Rattle.object_graph.proofs.CountingLemmas.{nothing_listed}
use Rattle.object_graph.proofs.ListingLemmas.{table_entries}
use Rattle.tree_walk.specs.Files.{file_at, as_file}
use Rattle.tree_walk.specs.Listings.{Ends, Lists, rooted, listed_one, listed_from}
use Rattle.tree_walk.specs.Reading.{AnswersRead, IsDue}
use Rattle.tree_walk.specs.Steps.{HasCounted, directory_step, entries_step, entry_step}
use Rattle.tree_walk.specs.declared.fault.WalkFault.{WalkFault}
use Rattle.tree_walk.proofs.StepsLemmas.{Stands, due_unread, one_more, one_more_counted, stands_begin, stands_end, stands_next, stands_stop, step_deep, step_entries, step_many, step_no_directory, step_object, step_unread}

-- the paths put into a table that has some, the first ones last
abbrev pub paths_onto : Listed → map.FinMap path_cmp Entry → map.FinMap path_cmp Entry
paths_onto [] table = table
paths_onto (x ∷ found) table = map.insert (paths_onto found table) x.0 x.1

pub onto_nothing : (found : Listed) → paths_onto found map.empty ≡ map.from_entries found
onto_nothing [] = refl
onto_nothing (x ∷ found) = ap (λ m. map.insert m x.0 x.1) (onto_nothing found)

pub onto_last : (found : Listed) (x : PathV × Entry) (table : map.FinMap path_cmp Entry) → paths_onto (found ++ x ∷ []) table ≡ paths_onto found (map.insert table x.0 x.1)
onto_last [] x table = refl
onto_last (y ∷ found) x table = ap (λ m. map.insert m y.0 y.1) (onto_last found x table)

-- ---- lists of paths

rooted-prefixed : (path : PathV) (name : List ℕ) (found : Listed) → rooted path (prefixed name found) ≡ rooted (path ++ name ∷ []) found
rooted-prefixed path name [] = refl
rooted-prefixed path name (x ∷ found) = ap₂ (λ (p : PathV) (more : Listed). (p, x.1) ∷ more) (sym (append_assoc path (name ∷ []) x.0)) (rooted-prefixed path name found)

rooted-append : (path : PathV) (xs ys : Listed) → rooted path (xs ++ ys) ≡ rooted path xs ++ rooted path ys
rooted-append path [] ys = refl
rooted-append path (x ∷ xs) ys = ap (λ more. (path ++ x.0, x.1) ∷ more) (rooted-append path xs ys)

rooted-root : (xs : Listed) → rooted [] xs ≡ xs
rooted-root [] = refl
rooted-root (x ∷ xs) = ap (λ more. x ∷ more) (rooted-root xs)

pub from-cons : (objects : Objects) (room : ℕ) (e : Dirent) (entries : List Dirent) → listed_from objects room (e ∷ entries) ≡ listed_one objects room e ++ listed_from objects room entries
from-cons objects zero e entries = refl
from-cons objects (suc room) e entries = refl

from-none : (objects : Objects) (room : ℕ) (path : PathV) → [] ≡ rooted path (listed_from objects room [])
from-none objects zero path = refl
from-none objects (suc room) path = refl

-- where a traversal came to, with what was added told in other words
ends_as : (objects : Objects) (w v : Walk) (path own : PathV) (more other old added new : Listed) (result : Result ⊤ WalkFault) → v ≡ w → added ++ rooted own more ≡ old ++ rooted path other
    → Ends objects w own more added new result → Ends objects v path other old new result
ends_as objects w v path own more other old added new (Ok done) is same ends =
    (subst (λ (u : Walk). HasCounted u (length new)) (sym is) ends.0, ends.1 ∙ same)
ends_as objects w v path own more other old added new (Err fault) is same ends = subst (λ (u : Walk). IsDue objects u.fault fault) (sym is) ends

-- ---- one entry

pub entry_too_many : (objects : Objects) (room : ℕ) (path : PathV) (e : Dirent) (old : Listed) → 1000000 ≤ length old → (w : Walk) → HasCounted w (length old)
    → (entry_step false objects room path e w).fault ≡ Some (TooMany (length old + 1))
entry_too_many objects room path e old many w has = step_many false objects room path e w (omega (arith, has.count)) ∙ ap (λ n. Some (TooMany (n + 1))) has.count

pub entry_too_deep : (objects : Objects) (room : ℕ) (path own : PathV) (e : Dirent) (old : Listed) → room ≡ zero → own ≡ path ++ e.name ∷ [] → length old < 1000000
    → (w : Walk) → HasCounted w (length old) → (entry_step false objects room path e w).fault ≡ Some (TooDeep own)
entry_too_deep objects room path own e old no_room at few w has =
    step_deep false objects room path e w no_room has.none (omega (arith, has.count)) ∙ ap (λ p. Some (TooDeep p)) (sym at)

-- an entry at the end of the list
longer : (old added : Listed) (x : PathV × Entry) → added ≡ old ++ x ∷ [] → length added ≡ length old + 1
longer old added x more = ap length more ∙ omega (arith, length-append old (x ∷ []))

pub entry_directory : (objects : Objects) (room less : ℕ) (path own : PathV) (e : Dirent) (old added new : Listed) (result : Result ⊤ WalkFault)
    → room ≡ suc less → own ≡ path ++ e.name ∷ [] → added ≡ old ++ (path ++ e.name ∷ [], entry_of e) ∷ [] → length old < 1000000 → is_directory_mode e.mode ≡ true
    → Lists objects (directory_step false objects less own e.id) own (listed objects less e.id) added new result
    → Lists objects (entry_step false objects room path e) path (listed_one objects room e) old new result
entry_directory objects room less path own e old added new result fits at more few is lists w has =
    ends_as objects (directory_step false objects less own e.id (one_more w)) (entry_step false objects room path e w) path own
    (listed objects less e.id) (listed_one objects room e) old added new result
    (step_object false objects room path less e w true fits is has.none (omega (arith, has.count)) ∙ ap (λ p. directory_step false objects less p e.id (one_more w)) (sym at))
    all (lists (one_more w) (one_more_counted w (length old) (length added) has (longer old added (path ++ e.name ∷ [], entry_of e) more)))
  where
    all : added ++ rooted own (listed objects less e.id) ≡ old ++ rooted path (listed_one objects room e)
    all =
        ap₂ (λ (xs : Listed) (p : PathV). xs ++ rooted p (listed objects less e.id)) more at
        ∙ append_assoc old ((path ++ e.name ∷ [], entry_of e) ∷ []) (rooted (path ++ e.name ∷ []) (listed objects less e.id))
        ∙ ap (λ more. old ++ (path ++ e.name ∷ [], entry_of e) ∷ more) (sym (rooted-prefixed path e.name (listed objects less e.id)))
        ∙ ap (λ b. old ++ rooted path ((e.name ∷ [], entry_of e) ∷ prefixed e.name (if b then listed objects less e.id else []))) (sym is)
        ∙ ap (λ r. old ++ rooted path (listed_one objects r e)) (sym fits)

-- of a file the object alone is looked at
file_counted : (objects : Objects) (less : ℕ) (path : PathV) (id : List ℕ) (file : FileObject) (w : Walk) (paths : ℕ) → file_at objects id ≡ Ok file → HasCounted w paths
    → HasCounted (walk_object false objects (walk_below false objects less) false path id w) paths
file_counted objects less path id file w paths read has = by (is_nil id) read
  where
    found : (r : Result FsObject TreeFault) → as_file id r ≡ Ok file
        → HasCounted (then_read r (walk_found false objects (walk_below false objects less) false path id) (visited (fs_key id) w)) paths
    found (Ok (fs.File file)) is = record { none = has.none; count = has.count }
    found (Ok (fs.Dir entries)) is = cc
    found (Err fault) is = cc

    by : (n : Bool) → (if n then Ok (record { blocks = []; size = 0 }) else as_file id (fs_at objects id)) ≡ Ok file
        → HasCounted (if n then w else then_read (fs_at objects id) (walk_found false objects (walk_below false objects less) false path id) (visited (fs_key id) w)) paths
    by true is = has
    by false is = found (fs_at objects id) is

file_fault : (objects : Objects) (less : ℕ) (path : PathV) (id : List ℕ) (w : Walk) (due : TreeFault) → file_at objects id ≡ Err due
    → (walk_object false objects (walk_below false objects less) false path id w).fault ≡ Some due
file_fault objects less path id w due = by (is_nil id)
  where
    found : (r : Result FsObject TreeFault) → as_file id r ≡ Err due → (then_read r (walk_found false objects (walk_below false objects less) false path id) (visited (fs_key id) w)).fault ≡ Some due
    found (Ok (fs.File file)) is = cc
    found (Ok (fs.Dir entries)) is = let same : WrongKind id ≡ due = cc in ap (λ f. Some f) same
    found (Err fault) is = let same : fault ≡ due = cc in ap (λ f. Some f) same

    by : (n : Bool) → (if n then Ok (record { blocks = []; size = 0 }) else as_file id (fs_at objects id)) ≡ Err due
        → (if n then w else then_read (fs_at objects id) (walk_found false objects (walk_below false objects less) false path id) (visited (fs_key id) w)).fault ≡ Some due
    by true is = cc
    by false is = found (fs_at objects id) is

pub entry_file : (objects : Objects) (room less : ℕ) (path : PathV) (e : Dirent) (old added : Listed) → room ≡ suc less
    → added ≡ old ++ (path ++ e.name ∷ [], entry_of e) ∷ [] → length old < 1000000 → is_directory_mode e.mode ≡ false
    → (file : FileObject) → file_at objects e.id ≡ Ok file
    → Lists {T = ⊤} objects (entry_step false objects room path e) path (listed_one objects room e) old added (Ok tt)
entry_file objects room less path e old added fits more few is file read w has = (
  subst (λ (v : Walk). HasCounted v (length added)) (sym (step_object false objects room path less e w false fits is has.none (omega (arith, has.count))))
      (file_counted objects less (path ++ e.name ∷ []) e.id file (one_more w) (length added) read
      (one_more_counted w (length old) (length added) has (longer old added (path ++ e.name ∷ [], entry_of e) more))),
  more
      ∙ ap (λ b. old ++ rooted path ((e.name ∷ [], entry_of e) ∷ prefixed e.name (if b then listed objects less e.id else []))) (sym is)
      ∙ ap (λ r. old ++ rooted path (listed_one objects r e)) (sym fits),
)

pub entry_bad_file : (objects : Objects) (room less : ℕ) (path : PathV) (e : Dirent) (old : Listed) → room ≡ suc less
    → length old < 1000000 → is_directory_mode e.mode ≡ false
    → (fault : WalkFault) → AnswersRead objects (file_at objects e.id) (Err fault) → (w : Walk) → HasCounted w (length old) → IsDue objects (entry_step false objects room path e w).fault fault
entry_bad_file objects room less path e old fits few is fault read w has =
    due_unread objects (entry_step false objects room path e w).fault (file_at objects e.id)
    (λ due at. ap (λ (v : Walk). v.fault) (step_object false objects room path less e w false fits is has.none (omega (arith, has.count))) ∙ file_fault objects less (path ++ e.name ∷ []) e.id (one_more w) due at) fault read

-- ---- entries, one after another

-- going over the rest gives what going over all gives
pub record GoesOn (objects : Objects) (room : ℕ) (path : PathV) (all rest : List Dirent) (old new : Listed) : Type 0 where
  pub stands : (w : Walk) → HasCounted w (length old) → Stands false objects room path all rest w (length new)
  pub found : new ++ rooted path (listed_from objects room rest) ≡ old ++ rooted path (listed_from objects room all)

pub goes_begin : (objects : Objects) (room : ℕ) (path : PathV) (all : List Dirent) (found : Listed) → GoesOn objects room path all all found found
goes_begin objects room path all found = record { stands = λ w has. stands_begin false objects room path all w (length found) has; found = refl }

pub goes_next : (objects : Objects) (room : ℕ) (path : PathV) (all rest : List Dirent) (e : Dirent) (old mid new : Listed) → GoesOn objects room path all (e ∷ rest) old mid
    → Lists {T = ⊤} objects (entry_step false objects room path e) path (listed_one objects room e) mid new (Ok tt) → GoesOn objects room path all rest old new
goes_next objects room path all rest e old mid new goes lists = record { stands = stands; found = found }
  where
    stands : (w : Walk) → HasCounted w (length old) → Stands false objects room path all rest w (length new)
    stands w has =
        let before = goes.stands w has in
        stands_next false objects room path all rest e w (length mid) (length new) before (lists before.from before.has).0

    -- what was added doesn't depend on the traversal
    more : new ≡ mid ++ rooted path (listed_one objects room e)
    more = (lists (record { visits = []; paths = length mid; fault = None }) (record { none = refl; count = refl })).1

    found : new ++ rooted path (listed_from objects room rest) ≡ old ++ rooted path (listed_from objects room all)
    found =
        ap (λ xs. xs ++ rooted path (listed_from objects room rest)) more
        ∙ append_assoc mid (rooted path (listed_one objects room e)) (rooted path (listed_from objects room rest))
        ∙ ap (λ xs. mid ++ xs) (sym (rooted-append path (listed_one objects room e) (listed_from objects room rest)))
        ∙ ap (λ xs. mid ++ rooted path xs) (sym (from-cons objects room e rest))
        ∙ goes.found

pub goes_stop : (objects : Objects) (room : ℕ) (path : PathV) (all rest : List Dirent) (e : Dirent) (old mid : Listed) → GoesOn objects room path all (e ∷ rest) old mid
    → (fault : WalkFault) → ((w : Walk) → HasCounted w (length mid) → IsDue objects (entry_step false objects room path e w).fault fault)
    → (w : Walk) → HasCounted w (length old) → IsDue objects (entries_step false objects room path all w).fault fault
goes_stop objects room path all rest e old mid goes fault is w has =
    let before = goes.stands w has in
    stands_stop false objects room path all rest e w (length mid) fault before (is before.from before.has)

pub goes_end : (objects : Objects) (room : ℕ) (path : PathV) (all : List Dirent) (old new : Listed) → GoesOn objects room path all [] old new
    → Lists {T = ⊤} objects (entries_step false objects room path all) path (listed_from objects room all) old new (Ok tt)
goes_end objects room path all old new goes w has =
    (stands_end false objects room path all w (length new) (goes.stands w has), sym (append-nil new) ∙ ap (λ xs. new ++ xs) (from-none objects room path) ∙ goes.found)

-- ---- a directory

-- forty zeros
pub nil_directory : (objects : Objects) (room : ℕ) (path : PathV) (id : List ℕ) (old : Listed) → id ≡ nil
    → Lists {T = ⊤} objects (directory_step false objects room path id) path (listed objects room id) old old (Ok tt)
nil_directory objects room path id old is w has =
    subst (λ i. Ends {T = ⊤} objects (directory_step false objects room path i w) path (listed objects room i) old old (Ok tt)) (sym is)
    (has, sym (append-nil old) ∙ ap (λ xs. old ++ rooted path xs) (sym (nothing_listed false objects room nil refl)))

-- an object that can't be read, and a file's
pub directory_unread : (objects : Objects) (room : ℕ) (path : PathV) (id : List ℕ) (old : Listed) (fault : WalkFault) → is_nil id ≡ false → AnswersRead objects (fs_at objects id) (Err fault)
    → (w : Walk) → HasCounted w (length old) → IsDue objects (directory_step false objects room path id w).fault fault
directory_unread objects room path id old fault other is w has = step_unread false objects room path id w fault other is

pub directory_file : (objects : Objects) (room : ℕ) (path : PathV) (id : List ℕ) (old : Listed) (file : FileObject) → is_nil id ≡ false → fs_at objects id ≡ Ok (fs.File file)
    → (w : Walk) → HasCounted w (length old) → (directory_step false objects room path id w).fault ≡ Some (WrongKind id)
directory_file objects room path id old file other read w has = step_no_directory false objects room path id file w other read

-- a directory's entries
pub listed-entries : (objects : Objects) (room : ℕ) (id : List ℕ) (entries : List Dirent) → is_nil id ≡ false → fs_at objects id ≡ Ok (fs.Dir entries)
    → listed objects room id ≡ listed_from objects room (in_name_order entries)
unfolding listed
listed-entries objects room id entries other read = list room
  where
    dirents : dirents_at objects id ≡ entries
    dirents = ap₂ (λ (n : Bool) (r : Result FsObject TreeFault). if n then [] else entries_of r) other read

    list : (room : ℕ) → listed objects room id ≡ listed_from objects room (in_name_order entries)
    list zero = refl
    list (suc room) = ap (λ es. listed_in (listed objects room) (in_name_order es)) dirents

pub directory_entries : (objects : Objects) (room : ℕ) (path : PathV) (id : List ℕ) (entries sorted : List Dirent) (old new : Listed) (result : Result ⊤ WalkFault)
    → is_nil id ≡ false → fs_at objects id ≡ Ok (fs.Dir entries) → sorted ≡ in_name_order entries
    → Lists objects (entries_step false objects room path sorted) path (listed_from objects room sorted) old new result
    → Lists objects (directory_step false objects room path id) path (listed objects room id) old new result
directory_entries objects room path id entries sorted old new result other read same lists w has =
    ends_as objects (entries_step false objects room path sorted (visited (fs_key id) w)) (directory_step false objects room path id w) path path
    (listed_from objects room sorted) (listed objects room id) old old new result
    (step_entries false objects room path id entries sorted w other read same)
    (ap (λ xs. old ++ rooted path xs) (ap (listed_from objects room) same ∙ sym (listed-entries objects room id entries other read)))
    (lists (visited (fs_key id) w) (record { none = has.none; count = has.count }))

-- ---- a root

-- what was found below it, as a table
pub root_listed : (objects : Objects) (root : List ℕ) (path : PathV) (old new : Listed) → path ≡ [] → old ≡ []
    → Lists {T = ⊤} objects (directory_step false objects 100 path root) path (listed objects 100 root) old new (Ok tt)
    → (walk_root false objects root start).fault ≡ None × AreEntriesOf objects root (map.from_entries new)
root_listed objects root path old new at none lists =
    let own = subst₂ (λ (p : PathV) (xs : Listed). Lists {T = ⊤} objects (directory_step false objects 100 p root) p (listed objects 100 root) xs new (Ok tt)) at none lists in
    let ends = own start (record { none = refl; count = refl }) in
    let is : new ≡ listed objects 100 root = ends.1 ∙ rooted-root (listed objects 100 root) in
    (ends.0.none, subst (λ xs. AreEntriesOf objects root (map.from_entries xs)) (sym is) (table_entries false objects root ends.0.none))

-- a fault below it
pub root_fault : (objects : Objects) (root : List ℕ) (path : PathV) (old : Listed) (fault : WalkFault) → path ≡ [] → old ≡ []
    → ((w : Walk) → HasCounted w (length old) → IsDue objects (directory_step false objects 100 path root w).fault fault) → IsDue objects (walk_root false objects root start).fault fault
root_fault objects root path old fault at none is =
    subst (λ p. IsDue objects (directory_step false objects 100 p root start).fault fault) at (is start (record { none = refl; count = ap length (sym none) }))
