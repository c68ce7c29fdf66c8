-- What a traversal visits and what objects name. The key lemmas are object_stays, commit_within, commit_closes,
-- reached_within, root_within, root_closes and root_has.
use Rattle.std.proofs.Common.{◌≡◌, ◌||◌, ◌==◌, ◌⊎◌, ℕ, zero, suc, Bool, true, false, if◌then◌else◌, is_some, List, [], ◌∷◌, ◌++◌, length, refl, sym, ap, ◌∙◌, subst, Option, None, Some, Result, Ok, Err, inl, inr}
use Rattle.std.specs.FinMap as map
use Rattle.ids.specs.Key.{Objects}
use Rattle.ids.specs.declared.key.Key.{Key}
use Rattle.std.proofs.lemmas.Bool.{or_cases, or_right}
use Rattle.tree_model.specs.Path.{PathV}
use Rattle.tree_model.specs.declared.limits.TheConstants.{MAX_NAMES}
use Rattle.fs_objects.specs.Mode.{is_directory_mode}
use Rattle.fs_objects.specs.declared.dirent.Dirent.{Dirent}
use Rattle.fs_objects.specs.declared.file_object.FileObject.{FileObject}
use Rattle.fs_objects.specs.declared.fs_object.FsObject.{FsObject}
use Rattle.fs_objects.specs.declared.fs_object.FsObject.TheVariants as fs
use Rattle.commit_objects.specs.declared.commit.Commit.{Commit}
use Rattle.object_graph.specs.Objects.{block_key, commit_at, commit_key, fs_at, fs_key, in_name_order, is_nil, joined}
use Rattle.object_graph.specs.Reached.{ReachedFrom, pends, names, block_keys, entry_keys, named, named_by_commit, named_by_fs, named_in, own_keys}
use Rattle.object_graph.specs.Traversal.{Below, IsComplete, IsCompleteRoot, Walk, counted, failed, is_in, next_by, sized, start, then_read, then_walk, visited, walk_below, walk_block, walk_blocks, walk_commit, walk_entries, walk_found, walk_object, walk_root}
use Rattle.object_graph.specs.declared.fault.TreeFault.{TreeFault}
use Rattle.object_graph.specs.declared.fault.TreeFault.TheVariants.{Incomplete, WrongSize}
use Rattle.object_graph.proofs.KeyLemmas.{Within, in_append, in_pushed, same_key-itself, within_front, within_itself, within_then}
use Rattle.object_graph.proofs.LocalityLemmas.{counted-visits}
use Rattle.object_graph.proofs.SchemeLemmas.{Step, goes_on, none_before}

pub in_first : (key : Key) (keys : List Key) → is_in (key ∷ keys) key ≡ true
in_first key keys = ap (λ b. b || is_in keys key) (same_key-itself key)

in_parts : (xs ys : List Key) (key : Key) → is_in (xs ++ ys) key ≡ true → (is_in xs key ≡ true) ⊎ (is_in ys key ≡ true)
in_parts xs ys key is = or_cases (is_in xs key) (is_in ys key) (sym (in_append xs ys key) ∙ is)

behind : (xs ys : List Key) → Within ys (xs ++ ys)
behind xs ys = record { there = λ key is. in_append xs ys key ∙ or_right (is_in xs key) (is_in ys key) is }

-- ---- where a set is closed under naming, what each visit of its keys keeps holds of all that is visited

module _ (A : Objects) (P : Key → Type 0) (closed : (above key : Key) → P above → is_in (named A above) key ≡ true → P key) where
  abbrev pub Every : List Key → Type 0
  Every keys = (key : Key) → is_in keys key ≡ true → P key

  module _ (Holds : List Key → Type 0) (push : (key : Key) → P key → (keys : List Key) → Holds keys → Holds (keys ++ key ∷ [])) where
    abbrev pub Stays : Step → Type 0
    Stays step = (w : Walk) → Holds w.visits → Holds (step w).visits

    stays_then : (w : Walk) (step : Step) → Stays step → Holds w.visits → Holds (then_walk w step).visits
    stays_then w step stays all = by w.fault
      where
        by : (o : Option TreeFault) → Holds (next_by o step w).visits
        by None = stays w all
        by (Some fault) = all

    stays_counted : Stays counted
    stays_counted w all = subst Holds (sym (counted-visits w)) all

    stays_block : (id : List ℕ) → P (block_key id) → Stays (walk_block true A id)
    stays_block id has w all = by (is_some (map.get A (block_key id)))
      where
        by : (b : Bool) → Holds (if b then visited (block_key id) w else failed (Incomplete (block_key id)) (visited (block_key id) w)).visits
        by true = push (block_key id) has w.visits all
        by false = push (block_key id) has w.visits all

    stays_blocks : (ids : List (List ℕ)) → Every (block_keys ids) → Stays (walk_blocks true A ids)
    stays_blocks [] has w all = all
    stays_blocks (id ∷ ids) has w all =
        stays_then (walk_block true A id w) (walk_blocks true A ids)
        (stays_blocks ids (λ key is. has key ((behind (block_key id ∷ []) (block_keys ids)).there key is)))
        (stays_block id (has (block_key id) (in_first (block_key id) (block_keys ids))) w all)

    stays_sized : (id : List ℕ) (file : FileObject) → Stays (sized true A id file)
    stays_sized id file w all = by (file.size == length (joined A file.blocks))
      where
        by : (b : Bool) → Holds (if b then w else failed (WrongSize id) w).visits
        by true = all
        by false = all

    -- the traversal of an object that is named
    abbrev StaysBelow : Below → Type 0
    StaysBelow below = (wants : Bool) (path : PathV) (id : List ℕ) → Every (own_keys id) → Stays (below wants path id)

    stays_entries : (below : Below) → StaysBelow below → (path : PathV) (entries : List Dirent) → Every (entry_keys entries) → Stays (walk_entries true A below path entries)
    stays_entries below inner path [] has w all = all
    stays_entries below inner path (e ∷ entries) has w all =
        stays_then (then_walk (counted w) (below (is_directory_mode e.mode) (path ++ e.name ∷ []) e.id)) (walk_entries true A below path entries)
        (stays_entries below inner path entries (λ key is. has key ((behind (own_keys e.id) (entry_keys entries)).there key is)))
        (stays_then (counted w) (below (is_directory_mode e.mode) (path ++ e.name ∷ []) e.id)
        (inner (is_directory_mode e.mode) (path ++ e.name ∷ []) e.id (λ key is. has key ((within_front (own_keys e.id) (entry_keys entries)).there key is)))
        (stays_counted w all))

    stays_found : (below : Below) → StaysBelow below → (wants : Bool) (path : PathV) (id : List ℕ) (object : FsObject) → Every (named_in object)
        → Stays (walk_found true A below wants path id object)
    stays_found below inner true path id (fs.File file) has w all = all
    stays_found below inner false path id (fs.File file) has w all =
        stays_then (walk_blocks true A file.blocks w) (sized true A id file) (stays_sized id file) (stays_blocks file.blocks has w all)
    stays_found below inner true path id (fs.Dir entries) has w all = stays_entries below inner path (in_name_order entries) has w all
    stays_found below inner false path id (fs.Dir entries) has w all = all

    stays_object : (below : Below) → StaysBelow below → StaysBelow (walk_object true A below)
    stays_object below inner wants path id own w all = by (is_nil id) own
      where
        read : (r : Result FsObject TreeFault) → Every (named_by_fs r) → (v : Walk) → Holds v.visits → Holds (then_read r (walk_found true A below wants path id) v).visits
        read (Ok object) has v there = stays_found below inner wants path id object has v there
        read (Err fault) has v there = there

        by : (n : Bool) → Every (if n then [] else fs_key id ∷ [])
            → Holds (if n then w else then_read (fs_at A id) (walk_found true A below wants path id) (visited (fs_key id) w)).visits
        by true has = all
        by false has =
            let here : P (fs_key id) = has (fs_key id) (in_first (fs_key id) []) in
            read (fs_at A id) (λ key is. closed (fs_key id) key here is) (visited (fs_key id) w) (push (fs_key id) here w.visits all)

    stays_below : (room : ℕ) → StaysBelow (walk_below true A room)
    unfolding walk_below
    stays_below zero wants path id own w all = all
    stays_below (suc room) wants path id own w all = stays_object (walk_below true A room) (stays_below room) wants path id own w all

    pub object_stays : (room : ℕ) (wants : Bool) (path : PathV) (id : List ℕ) → Every (own_keys id) → Stays (walk_object true A (walk_below true A room) wants path id)
    object_stays room = stays_object (walk_below true A room) (stays_below room)

    commit_stays : (id : List ℕ) → P (commit_key id) → Holds [] → Holds (walk_commit A id).visits
    unfolding walk_commit
    commit_stays id has nothing = by (commit_at A id) (λ key is. closed (commit_key id) key has is)
      where
        first : Holds (visited (commit_key id) start).visits
        first = push (commit_key id) has [] nothing

        by : (r : Result Commit TreeFault) → Every (named_by_commit r) → Holds (then_read r (λ commit. walk_root true A commit.root) (visited (commit_key id) start)).visits
        by (Ok commit) own = object_stays MAX_NAMES true [] commit.root own (visited (commit_key id) start) first
        by (Err fault) own = first

  -- so all that is visited is of the set
  every_push : (key : Key) → P key → (keys : List Key) → Every keys → Every (keys ++ key ∷ [])
  every_push key has keys all k is = elim (in_pushed keys key k is) [ inl old ↦ all k old | inr own ↦ subst P (sym own) has ]

  pub commit_within : (id : List ℕ) → P (commit_key id) → Every (walk_commit A id).visits
  commit_within id has = commit_stays Every every_push id has (λ key is. cc is)

  pub root_within : (id : List ℕ) → Every (own_keys id) → Every (walk_root true A id start).visits
  root_within id own = object_stays Every every_push MAX_NAMES true [] id own start (λ key is. cc is)

-- ---- what a traversal without a fault visits names nothing else

module _ (A : Objects) where
  -- what was visited since names only what was visited, and these keys were
  record Ran (keys before after : List Key) : Type 0 where
    grows : Within before after
    closes : (above : Key) → is_in after above ≡ true → (is_in before above ≡ true) ⊎ Within (named A above) after
    has : Within keys after

  abbrev Ends : List Key → Step → Type 0
  Ends keys step = (w : Walk) → (step w).fault ≡ None → Ran keys w.visits (step w).visits

  ran_nothing : (visits : List Key) → Ran [] visits visits
  ran_nothing visits = record { grows = within_itself visits; closes = λ above is. inl is; has = record { there = λ key is. cc is } }

  ran_then : (keys more a b c : List Key) → Ran keys a b → Ran more b c → Ran (keys ++ more) a c
  ran_then keys more a b c first second = record {
    grows = within_then first.grows second.grows;
    closes = λ above is.
        elim (second.closes above is) [
          | inl old ↦ elim (first.closes above old) [ inl before ↦ inl before | inr all ↦ inr (within_then all second.grows) ]
          | inr all ↦ inr all
        ];
    has = record {
      there = λ key is.
          elim (in_parts keys more key is) [ inl one ↦ second.grows.there key (first.has.there key one) | inr other ↦ second.has.there key other ];
    };
  }

  ends_then : (keys more : List Key) (f g : Step) → Ends keys f → Ends more g → Ends (keys ++ more) (λ w. then_walk (f w) g)
  ends_then keys more f g first second w none =
      let clear : (f w).fault ≡ None = none_before (f w) g none in
      let on : then_walk (f w) g ≡ g (f w) = goes_on (f w) g clear in
      subst (λ (v : Walk). Ran (keys ++ more) w.visits v.visits) (sym on)
      (ran_then keys more w.visits (f w).visits (g (f w)).visits (first w clear) (second (f w) (ap (λ (v : Walk). v.fault) (sym on) ∙ none)))

  ends_counted : Ends [] counted
  ends_counted w none = subst (λ (keys : List Key). Ran [] w.visits keys) (sym (counted-visits w)) (ran_nothing w.visits)

  -- a key is visited, and what it names as well
  ran_visited : (key : Key) (visits after : List Key) → Ran (named A key) (visits ++ key ∷ []) after → Ran (key ∷ []) visits after
  ran_visited key visits after ran = record {
    grows = within_then (within_front visits (key ∷ [])) ran.grows;
    closes = λ above is.
        elim (ran.closes above is) [
          | inl old ↦ elim (in_pushed visits key above old) [
            | inl before ↦ inl before
            | inr own ↦ inr (subst (λ (k : Key). Within (named A k) after) (sym own) ran.has)
          ]
          | inr all ↦ inr all
        ];
    has = record { there = λ k is. ran.grows.there k ((behind visits (key ∷ [])).there k is) };
  }

  ends_block : (id : List ℕ) → Ends (block_key id ∷ []) (walk_block true A id)
  ends_block id w none = by (is_some (map.get A (block_key id))) none
    where
      by : (b : Bool) → (if b then visited (block_key id) w else failed (Incomplete (block_key id)) (visited (block_key id) w)).fault ≡ None
          → Ran (block_key id ∷ []) w.visits (if b then visited (block_key id) w else failed (Incomplete (block_key id)) (visited (block_key id) w)).visits
      by true none = ran_visited (block_key id) w.visits (w.visits ++ block_key id ∷ []) (ran_nothing (w.visits ++ block_key id ∷ []))
      by false none = cc none

  ends_blocks : (ids : List (List ℕ)) → Ends (block_keys ids) (walk_blocks true A ids)
  ends_blocks [] w none = ran_nothing w.visits
  ends_blocks (id ∷ ids) w none =
      ends_then (block_key id ∷ []) (block_keys ids) (walk_block true A id) (walk_blocks true A ids) (ends_block id) (ends_blocks ids) w none

  -- more keys than these were visited
  ran_fewer : (keys more visits after : List Key) → Within keys more → Ran more visits after → Ran keys visits after
  ran_fewer keys more visits after within ran = record { grows = ran.grows; closes = ran.closes; has = within_then within ran.has }

  ends_sized : (id : List ℕ) (file : FileObject) → Ends [] (sized true A id file)
  ends_sized id file w none = by (file.size == length (joined A file.blocks)) none
    where
      by : (b : Bool) → (if b then w else failed (WrongSize id) w).fault ≡ None → Ran [] w.visits (if b then w else failed (WrongSize id) w).visits
      by true none = ran_nothing w.visits
      by false none = cc none

  abbrev EndsBelow : Below → Type 0
  EndsBelow below = (wants : Bool) (path : PathV) (id : List ℕ) → Ends (own_keys id) (below wants path id)

  ends_entries : (below : Below) → EndsBelow below → (path : PathV) (entries : List Dirent) → Ends (entry_keys entries) (walk_entries true A below path entries)
  ends_entries below inner path [] w none = ran_nothing w.visits
  ends_entries below inner path (e ∷ entries) w none =
      ends_then (own_keys e.id) (entry_keys entries) (λ v. then_walk (counted v) (below (is_directory_mode e.mode) (path ++ e.name ∷ []) e.id)) (walk_entries true A below path entries)
      (ends_then [] (own_keys e.id) counted (below (is_directory_mode e.mode) (path ++ e.name ∷ []) e.id) ends_counted (inner (is_directory_mode e.mode) (path ++ e.name ∷ []) e.id))
      (ends_entries below inner path entries) w none

  ends_found : (below : Below) → EndsBelow below → (wants : Bool) (path : PathV) (id : List ℕ) (object : FsObject) → Ends (named_in object) (walk_found true A below wants path id object)
  ends_found below inner true path id (fs.File file) w none = cc none
  ends_found below inner false path id (fs.File file) w none =
      ran_fewer (block_keys file.blocks) (block_keys file.blocks ++ []) w.visits (then_walk (walk_blocks true A file.blocks w) (sized true A id file)).visits
      (within_front (block_keys file.blocks) [])
      (ends_then (block_keys file.blocks) [] (walk_blocks true A file.blocks) (sized true A id file) (ends_blocks file.blocks) (ends_sized id file) w none)
  ends_found below inner true path id (fs.Dir entries) w none = ends_entries below inner path (in_name_order entries) w none
  ends_found below inner false path id (fs.Dir entries) w none = cc none

  ends_object : (below : Below) → EndsBelow below → EndsBelow (walk_object true A below)
  ends_object below inner wants path id w none = by (is_nil id) none
    where
      read : (r : Result FsObject TreeFault) (v : Walk) → (then_read r (walk_found true A below wants path id) v).fault ≡ None
          → Ran (named_by_fs r) v.visits (then_read r (walk_found true A below wants path id) v).visits
      read (Ok object) v clear = ends_found below inner wants path id object v clear
      read (Err fault) v clear = cc clear

      by : (n : Bool) → (if n then w else then_read (fs_at A id) (walk_found true A below wants path id) (visited (fs_key id) w)).fault ≡ None
          → Ran (if n then [] else fs_key id ∷ []) w.visits (if n then w else then_read (fs_at A id) (walk_found true A below wants path id) (visited (fs_key id) w)).visits
      by true clear = ran_nothing w.visits
      by false clear =
          ran_visited (fs_key id) w.visits (then_read (fs_at A id) (walk_found true A below wants path id) (visited (fs_key id) w)).visits (read (fs_at A id) (visited (fs_key id) w) clear)

  ends_below : (room : ℕ) → EndsBelow (walk_below true A room)
  unfolding walk_below
  ends_below zero wants path id w none = cc none
  ends_below (suc room) wants path id w none = ends_object (walk_below true A room) (ends_below room) wants path id w none

  commit_ran : (id : List ℕ) → IsComplete A id → Ran (commit_key id ∷ []) [] (walk_commit A id).visits
  unfolding walk_commit
  commit_ran id complete = ran_visited (commit_key id) [] (walk_commit A id).visits (by (commit_at A id) complete)
    where
      by : (r : Result Commit TreeFault) → (then_read r (λ commit. walk_root true A commit.root) (visited (commit_key id) start)).fault ≡ None
          → Ran (named_by_commit r) (commit_key id ∷ []) (then_read r (λ commit. walk_root true A commit.root) (visited (commit_key id) start)).visits
      by (Ok commit) none = ends_object (walk_below true A MAX_NAMES) (ends_below MAX_NAMES) true [] commit.root (visited (commit_key id) start) none
      by (Err fault) none = cc none

  pub commit_closes : (id : List ℕ) → IsComplete A id → (above key : Key) → is_in (walk_commit A id).visits above ≡ true → is_in (named A above) key ≡ true
      → is_in (walk_commit A id).visits key ≡ true
  commit_closes id complete above key is named_is = elim ((commit_ran id complete).closes above is) [ inl none ↦ cc none | inr all ↦ all.there key named_is ]

  root_ran : (id : List ℕ) → IsCompleteRoot A id → Ran (own_keys id) [] (walk_root true A id start).visits
  root_ran id complete = ends_object (walk_below true A MAX_NAMES) (ends_below MAX_NAMES) true [] id start complete

  pub root_closes : (id : List ℕ) → IsCompleteRoot A id → (above key : Key) → is_in (walk_root true A id start).visits above ≡ true → is_in (named A above) key ≡ true
      → is_in (walk_root true A id start).visits key ≡ true
  root_closes id complete above key is named_is = elim ((root_ran id complete).closes above is) [ inl none ↦ cc none | inr all ↦ all.there key named_is ]

  pub root_has : (id : List ℕ) → IsCompleteRoot A id → (key : Key) → is_in (own_keys id) key ≡ true → is_in (walk_root true A id start).visits key ≡ true
  root_has id complete key own = (root_ran id complete).has.there key own

  pub reached_within : (id : List ℕ) → IsComplete A id → (key : Key) → ReachedFrom A [] (commit_key id ∷ []) key → is_in (walk_commit A id).visits key ≡ true
  reached_within id complete _ (pends key is) = (commit_ran id complete).has.there key is
  reached_within id complete _ (names above key from named_is free) = commit_closes id complete above key (reached_within id complete above from) named_is

-- what a commit's traversal visits is reached from it
pub visited_reached : (A : Objects) (id : List ℕ) (key : Key) → is_in (walk_commit A id).visits key ≡ true → ReachedFrom A [] (commit_key id ∷ []) key
visited_reached A id key is =
    commit_within A (ReachedFrom A [] (commit_key id ∷ [])) (λ above k from named_is. names above k from named_is refl) id
    (pends (commit_key id) (in_first (commit_key id) [])) key is
