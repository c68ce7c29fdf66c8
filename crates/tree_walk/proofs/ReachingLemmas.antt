-- What is reached, each object once, in the order of first visit. The key lemmas are directory_reached, file_reached,
-- entry_directory, entry_file, entries_next and all_reached.
use Rattle.std.proofs.Common.{◌≡◌, ◌⊎◌, inl, inr, ◌==◌, ℕ, zero, suc, Bool, true, false, if◌then◌else◌, List, [], ◌∷◌, ◌++◌, length, refl, sym, ap, ap₂, ◌∙◌, subst, None, Result, Ok, Err}
use Rattle.ids.specs.Key.{Objects}
use Rattle.ids.specs.declared.key.Key.{Key}
use Rattle.ids.specs.declared.key.Kind.{Kind}
use Rattle.ids.specs.declared.key.Kind.TheVariants.{Block}
use Rattle.tree_model.specs.Path.{PathV}
use Rattle.fs_objects.specs.Mode.{is_directory_mode}
use Rattle.fs_objects.specs.declared.dirent.Dirent.{Dirent}
use Rattle.fs_objects.specs.declared.file_object.FileObject.{FileObject}
use Rattle.fs_objects.specs.declared.fs_object.FsObject.{FsObject}
use Rattle.fs_objects.specs.declared.fs_object.FsObject.TheVariants as fs
use Rattle.commit_objects.specs.declared.commit.Commit.{Commit as CommitObject}
use Rattle.object_graph.specs.Objects.{commit_at, commit_key, fs_at, fs_key, in_name_order, is_nil, joined}
use Rattle.object_graph.specs.Reached.{block_keys, entry_keys, named_by_fs, own_keys}
use Rattle.object_graph.specs.Traversal.{IsComplete, Walk, counted, distinct_from, failed, is_in, sized, start, then_read, then_walk, visited, walk_below, walk_blocks, walk_commit, walk_file_at, walk_found, walk_object}
use Rattle.object_graph.specs.declared.fault.TreeFault.{TreeFault}
use Rattle.object_graph.specs.declared.fault.TreeFault.TheVariants.{WrongSize}
use Rattle.object_graph.proofs.BelowLemmas.{grows_found}
use Rattle.object_graph.proofs.KeyLemmas.{in_append, in_last}
use Rattle.object_graph.proofs.LocalityLemmas.{counted-visits}
use Rattle.object_graph.proofs.SchemeLemmas.{Step, goes_on, none_before}
use Rattle.std.proofs.lemmas.Bool.{or_cases, or_left, or_right}
use Rattle.tree_walk.specs.Files.{as_file, file_at}
use Rattle.tree_walk.specs.Reaching.{Grows, IsDone, IsDoneOf, IsReached, IsSeen, MeetsBlocks, Reaches, ReachesSo, chosen, goes_over}
use Rattle.tree_walk.specs.Reading.{IsDue}
use Rattle.tree_walk.specs.Steps.{directory_step, entries_step, entry_step}
use Rattle.tree_walk.specs.Visits.{MetView, finished, nothing_met, with_key_met}
use Rattle.tree_walk.specs.declared.fault.WalkFault.{WalkFault}
use Rattle.tree_walk.proofs.FileLemmas.{file_anywhere}
use Rattle.tree_walk.proofs.StepsLemmas.{step_commit, step_entries, step_on}
use Rattle.tree_walk.proofs.VisitLemmas.{blocks_visits}
use Rattle.tree_walk.proofs.SeenLemmas.{blocks_only, blocks_reached, commit_seen, first_seen, grows_then, own_reached, reached_then, seen_in, stays_done}

module _ (blocks : Bool) (objects : Objects) where
  -- an object that was traversed was visited
  object_visited : (room : ℕ) (wants : Bool) (path : PathV) (id : List ℕ) (object : FsObject) (w : Walk) → is_nil id ≡ false → fs_at objects id ≡ Ok object
      → is_in (walk_object true objects (walk_below true objects room) wants path id w).visits (fs_key id) ≡ true
  object_visited room wants path id object w other read =
      subst (λ (v : Walk). is_in v.visits (fs_key id) ≡ true)
      (sym (ap₂ (λ (n : Bool) (r : Result FsObject TreeFault). if n then w else then_read r (walk_found true objects (walk_below true objects room) wants path id) (visited (fs_key id) w)) other read))
      ((grows_found true objects room wants path id object (visited (fs_key id) w)).there (fs_key id) (in_last w.visits (fs_key id)))

  -- ---- a directory

  pub directory_stops : (room : ℕ) (path : PathV) (id : List ℕ) (entries sorted : List Dirent) (old first : MetView) (fault : WalkFault) (w : Walk)
      → IsSeen blocks objects w.visits old → (directory_step true objects room path id w).fault ≡ None → is_nil id ≡ false → fs_at objects id ≡ Ok (fs.Dir entries)
      → sorted ≡ in_name_order entries → first ≡ with_key_met (fs_key id) old → Reaches blocks objects (entries_step true objects room path sorted) (entry_keys sorted) first (Err fault)
      → IsDue objects None fault
  directory_stops room path id entries sorted old first fault w seen none other read same is reaches =
      reaches (visited (fs_key id) w) (first_seen blocks objects w.visits id old first seen is).seen (ap (λ (v : Walk). v.fault) (sym (step_entries true objects room path id entries sorted w other read same)) ∙ none)

  pub directory_reached : (room : ℕ) (path : PathV) (id : List ℕ) (entries sorted : List Dirent) (old first mid new : MetView) (w : Walk)
      → IsSeen blocks objects w.visits old → (directory_step true objects room path id w).fault ≡ None → is_nil id ≡ false → fs_at objects id ≡ Ok (fs.Dir entries)
      → sorted ≡ in_name_order entries → first ≡ with_key_met (fs_key id) old → Reaches blocks objects (entries_step true objects room path sorted) (entry_keys sorted) first (Ok mid)
      → new ≡ finished (fs_key id) mid → IsReached blocks objects (directory_step true objects room path id w).visits (own_keys id) old new
  directory_reached room path id entries sorted old first mid new w seen none other read same is reaches ends =
      let on = step_entries true objects room path id entries sorted w other read same in
      let before = first_seen blocks objects w.visits id old first seen is in
      let inner = subst (λ (v : Walk). IsReached blocks objects v.visits (entry_keys sorted) first mid) (sym on)
      (reaches (visited (fs_key id) w) before.seen (ap (λ (v : Walk). v.fault) (sym on) ∙ none)) in
      own_reached blocks objects (directory_step true objects room path id w).visits (entry_keys sorted) old mid new id
      (reached_then blocks objects (w.visits ++ fs_key id ∷ []) (directory_step true objects room path id w).visits [] (entry_keys sorted) old first mid before inner)
      (object_visited room true path id (fs.Dir entries) w other read)
      (λ k named_is. inner.there k (subst (λ es. is_in (entry_keys es) k ≡ true) (sym same) (subst (λ r. is_in (named_by_fs r) k ≡ true) read named_is))) ends

  -- ---- an entry

  entry_on : (room less : ℕ) (path : PathV) (e : Dirent) (wants : Bool) (w : Walk) → room ≡ suc less → is_directory_mode e.mode ≡ wants → (entry_step true objects room path e w).fault ≡ None
      → entry_step true objects room path e w ≡ walk_object true objects (walk_below true objects less) wants (path ++ e.name ∷ []) e.id (counted w)
  unfolding walk_below
  entry_on room less path e wants w fits is none =
      let step : Step = walk_below true objects room (is_directory_mode e.mode) (path ++ e.name ∷ []) e.id in
      goes_on (counted w) step (none_before (counted w) step none)
      ∙ ap₂ (λ (r : ℕ) (b : Bool). walk_below true objects r b (path ++ e.name ∷ []) e.id (counted w)) fits is

  entry_as : (room less : ℕ) (path : PathV) (e : Dirent) (wants : Bool) (old : MetView) (result : Result MetView WalkFault) → room ≡ suc less → is_directory_mode e.mode ≡ wants
      → Reaches blocks objects (walk_object true objects (walk_below true objects less) wants (path ++ e.name ∷ []) e.id) (own_keys e.id) old result
      → Reaches blocks objects (entry_step true objects room path e) (own_keys e.id) old result
  entry_as room less path e wants old result fits is reaches w seen none =
      let on = entry_on room less path e wants w fits is none in
      subst (λ (v : Walk). ReachesSo blocks objects v.visits (own_keys e.id) old result) (sym on)
      (reaches (counted w) (subst (λ keys. IsSeen blocks objects keys old) (sym (counted-visits w)) seen) (ap (λ (v : Walk). v.fault) (sym on) ∙ none))

  pub entry_directory : (room less : ℕ) (path : PathV) (e : Dirent) (old : MetView) (result : Result MetView WalkFault) → room ≡ suc less → is_directory_mode e.mode ≡ true
      → Reaches blocks objects (directory_step true objects less (path ++ e.name ∷ []) e.id) (own_keys e.id) old result
      → Reaches blocks objects (entry_step true objects room path e) (own_keys e.id) old result
  entry_directory room less path e old result fits is reaches = entry_as room less path e true old result fits is reaches

  pub entry_file : (room less : ℕ) (path : PathV) (e : Dirent) (old : MetView) (result : Result MetView WalkFault) → room ≡ suc less → is_directory_mode e.mode ≡ false
      → Reaches blocks objects (walk_file_at objects e.id) (own_keys e.id) old result
      → Reaches blocks objects (entry_step true objects room path e) (own_keys e.id) old result
  entry_file room less path e old result fits is reaches =
      entry_as room less path e false old result fits is (λ w seen none.
      let on = file_anywhere objects less (path ++ e.name ∷ []) e.id w in
      subst (λ (v : Walk). ReachesSo blocks objects v.visits (own_keys e.id) old result) (sym on) (reaches w seen (ap (λ (v : Walk). v.fault) (sym on) ∙ none)))

  pub no_room : (room : ℕ) (path : PathV) (e : Dirent) (w : Walk) → room ≡ zero → (entry_step true objects room path e w).fault ≡ None → ⊥
  unfolding walk_below
  no_room room path e w is none =
      let step : Step = walk_below true objects room (is_directory_mode e.mode) (path ++ e.name ∷ []) e.id in
      let on = goes_on (counted w) step (none_before (counted w) step none) in
      let deep = subst (λ (r : ℕ). (walk_below true objects r (is_directory_mode e.mode) (path ++ e.name ∷ []) e.id (counted w)).fault ≡ None) is (ap (λ (v : Walk). v.fault) (sym on) ∙ none) in
      cc deep

  -- ---- a file

  -- one whose traversal has no fault is read as a file, and its blocks are visited behind it
  record IsWalked (id : List ℕ) (w : Walk) : Type 0 where
    file : FileObject
    read : fs_at objects id ≡ Ok (fs.File file)
    visits : (walk_file_at objects id w).visits ≡ (w.visits ++ fs_key id ∷ []) ++ block_keys file.blocks

  sized_visits : (id : List ℕ) (file : FileObject) (w : Walk) → (sized true objects id file w).visits ≡ w.visits
  sized_visits id file w = by (file.size == length (joined objects file.blocks))
    where
      by : (b : Bool) → (if b then w else failed (WrongSize id) w).visits ≡ w.visits
      by true = refl
      by false = refl

  file_walked : (id : List ℕ) (w : Walk) → is_nil id ≡ false → (walk_file_at objects id w).fault ≡ None → IsWalked id w
  file_walked id w other none = by (fs_at objects id) refl (ap (λ (v : Walk). v.fault) (sym same) ∙ none)
    where
      v : Walk
      v = visited (fs_key id) w

      same : walk_file_at objects id w ≡ then_read (fs_at objects id) (walk_found true objects (walk_below true objects 100) false [] id) (visited (fs_key id) w)
      same = ap (λ (n : Bool). if n then w else then_read (fs_at objects id) (walk_found true objects (walk_below true objects 100) false [] id) (visited (fs_key id) w)) other

      by : (r : Result FsObject TreeFault) → fs_at objects id ≡ r → (then_read (fs_at objects id) (walk_found true objects (walk_below true objects 100) false [] id) (visited (fs_key id) w)).fault ≡ None
          → IsWalked id w
      by (Ok (fs.File file)) read clear =
          let from : Walk = visited (fs_key id) w in
          let on = ap (λ (r : Result FsObject TreeFault). then_read r (walk_found true objects (walk_below true objects 100) false [] id) from) read in
          let whole : (then_walk (walk_blocks true objects file.blocks from) (sized true objects id file)).fault ≡ None = ap (λ (u : Walk). u.fault) (sym on) ∙ clear in
          let early = none_before (walk_blocks true objects file.blocks from) (sized true objects id file) whole in
          record {
            file = file;
            read = read;
            visits = ap (λ (u : Walk). u.visits) (same ∙ on ∙ goes_on (walk_blocks true objects file.blocks from) (sized true objects id file) early)
                ∙ sized_visits id file (walk_blocks true objects file.blocks from)
                ∙ blocks_visits objects file.blocks from early;
          }
      by (Ok (fs.Dir entries)) read clear = let e = sym clear ∙ ap (λ (r : Result FsObject TreeFault). (then_read r (walk_found true objects (walk_below true objects 100) false [] id) (visited (fs_key id) w)).fault) read in cc e
      by (Err fault) read clear = let e = sym clear ∙ ap (λ (r : Result FsObject TreeFault). (then_read r (walk_found true objects (walk_below true objects 100) false [] id) (visited (fs_key id) w)).fault) read in cc e

  file_read : (id : List ℕ) (file : FileObject) → is_nil id ≡ false → fs_at objects id ≡ Ok (fs.File file) → file_at objects id ≡ Ok file
  file_read id file other read = ap₂ (λ (n : Bool) (r : Result FsObject TreeFault). if n then Ok (record { blocks = []; size = 0 }) else as_file id r) other read

  pub file_stops : (id : List ℕ) (old : MetView) (fault : WalkFault) (w : Walk) → (walk_file_at objects id w).fault ≡ None → is_nil id ≡ false
      → MeetsBlocks blocks objects id old (Err fault) → IsDue objects None fault
  file_stops id old fault w none other meets =
      let walked = file_walked id w other none in
      meets walked.file (file_read id walked.file other walked.read)

  pub file_reached : (id : List ℕ) (old first mid new : MetView) (w : Walk) → IsSeen blocks objects w.visits old → (walk_file_at objects id w).fault ≡ None → is_nil id ≡ false
      → first ≡ with_key_met (fs_key id) old → MeetsBlocks blocks objects id first (Ok mid) → new ≡ finished (fs_key id) mid
      → IsReached blocks objects (walk_file_at objects id w).visits (own_keys id) old new
  file_reached id old first mid new w seen none other is meets ends =
      let walked = file_walked id w other none in
      let ids : List (List ℕ) = walked.file.blocks in
      let before = first_seen blocks objects w.visits id old first seen is in
      let all : List Key = (w.visits ++ fs_key id ∷ []) ++ block_keys ids in
      let inner = blocks_reached blocks objects ids (w.visits ++ fs_key id ∷ []) first mid before.seen (meets walked.file (file_read id walked.file other walked.read)) in
      let here : is_in all (fs_key id) ≡ true =
      in_append (w.visits ++ fs_key id ∷ []) (block_keys ids) (fs_key id) ∙ or_left (is_in (w.visits ++ fs_key id ∷ []) (fs_key id)) (is_in (block_keys ids) (fs_key id)) (in_last w.visits (fs_key id)) in
      subst (λ keys. IsReached blocks objects keys (own_keys id) old new) (sym walked.visits)
      (own_reached blocks objects all [] old mid new id (reached_then blocks objects (w.visits ++ fs_key id ∷ []) all [] [] old first mid before inner) here
      (λ k named_is. closes all mid ids (w.visits ++ fs_key id ∷ []) refl inner.seen k (subst (λ r. is_in (named_by_fs r) k ≡ true) walked.read named_is)) ends)
    where
      closes : (all : List Key) (mid : MetView) (ids : List (List ℕ)) (front : List Key) → all ≡ front ++ block_keys ids → IsSeen blocks objects all mid
          → (k : Key) → is_in (block_keys ids) k ≡ true → IsDone blocks mid k
      closes all mid ids front at seen k is =
          let kind : k.kind ≡ Block = blocks_only ids k is in
          subst (λ (kind : Kind). IsDoneOf kind blocks mid k) (sym kind) (λ here.
          seen_in blocks objects all mid k seen (ap (goes_over blocks) kind ∙ here) ∙ ap (λ keys. is_in keys k) at ∙ in_append front (block_keys ids) k ∙ or_right (is_in front k) (is_in (block_keys ids) k) is)

  -- ---- entries, one after another

  -- a traversal from which the rest comes to where all come to from `w`; what it saw was met, and what was named is done
  pub record Comes (room : ℕ) (path : PathV) (all rest : List Dirent) (w : Walk) (old new : MetView) : Type 0 where
    pub from : Walk
    pub same : entries_step true objects room path rest from ≡ entries_step true objects room path all w
    pub seen : IsSeen blocks objects from.visits new
    pub grows : Grows old new
    pub there : (key : Key) → is_in (entry_keys all) key ≡ true → IsDone blocks new key ⊎ (is_in (entry_keys rest) key ≡ true)

  none_here : (room : ℕ) (path : PathV) (all rest : List Dirent) (e : Dirent) (w : Walk) (old mid : MetView) (before : Comes room path all (e ∷ rest) w old mid)
      → (entries_step true objects room path all w).fault ≡ None → (entry_step true objects room path e before.from).fault ≡ None
  none_here room path all rest e w old mid before none =
      none_before (entry_step true objects room path e before.from) (entries_step true objects room path rest) (ap (λ (v : Walk). v.fault) before.same ∙ none)

  pub entries_next : (room : ℕ) (path : PathV) (all rest : List Dirent) (e : Dirent) (w : Walk) (old mid new : MetView) → Comes room path all (e ∷ rest) w old mid
      → (entries_step true objects room path all w).fault ≡ None → Reaches blocks objects (entry_step true objects room path e) (own_keys e.id) mid (Ok new) → Comes room path all rest w old new
  entries_next room path all rest e w old mid new before none reaches =
      let clear = none_here room path all rest e w old mid before none in
      let own = reaches before.from before.seen clear in
      record {
        from = entry_step true objects room path e before.from;
        same = sym (step_on true objects room path e rest before.from clear) ∙ before.same;
        seen = own.seen;
        grows = grows_then old mid new before.grows own.grows;
        there = λ key is. elim (before.there key is) [
          | inl had ↦ inl (stays_done blocks mid new own.grows key had)
          | inr waits ↦ elim (or_cases (is_in (own_keys e.id) key) (is_in (entry_keys rest) key) (sym (in_append (own_keys e.id) (entry_keys rest) key) ∙ waits)) [
            | inl its ↦ inl (own.there key its)
            | inr more ↦ inr more
          ]
        ];
      }

  pub entries_stop : (room : ℕ) (path : PathV) (all rest : List Dirent) (e : Dirent) (w : Walk) (old mid : MetView) (fault : WalkFault) → Comes room path all (e ∷ rest) w old mid
      → (entries_step true objects room path all w).fault ≡ None → Reaches blocks objects (entry_step true objects room path e) (own_keys e.id) mid (Err fault) → IsDue objects None fault
  entries_stop room path all rest e w old mid fault before none reaches = reaches before.from before.seen (none_here room path all rest e w old mid before none)

  -- ---- a commit

  pub all_reached : (id : List ℕ) (commit : CommitObject) (none first last : MetView) (keys : List Key) → IsComplete objects id → commit_at objects id ≡ Ok commit
      → none ≡ nothing_met → first ≡ with_key_met (commit_key id) none → Reaches blocks objects (directory_step true objects 100 [] commit.root) (own_keys commit.root) first (Ok last)
      → keys ≡ last.keys → distinct_from [] keys ≡ keys → keys ≡ distinct_from [] (chosen blocks (walk_commit objects id).visits)
  all_reached id commit none first last keys complete read empty is reaches same once =
      let on = step_commit objects id commit read in
      let reached = reaches (visited (commit_key id) start) (commit_seen blocks objects id none first empty is) (ap (λ (w : Walk). w.fault) (sym on) ∙ complete) in
      sym once ∙ ap (distinct_from []) same ∙ sym reached.seen.keys ∙ ap (λ (w : Walk). distinct_from [] (chosen blocks w.visits)) (sym on)

  pub commit_stops : (id : List ℕ) (commit : CommitObject) (none first : MetView) (fault : WalkFault) → IsComplete objects id → commit_at objects id ≡ Ok commit
      → none ≡ nothing_met → first ≡ with_key_met (commit_key id) none → Reaches blocks objects (directory_step true objects 100 [] commit.root) (own_keys commit.root) first (Err fault)
      → IsDue objects None fault
  commit_stops id commit none first fault complete read empty is reaches =
      reaches (visited (commit_key id) start) (commit_seen blocks objects id none first empty is) (ap (λ (w : Walk). w.fault) (sym (step_commit objects id commit read)) ∙ complete)
