-- A directory that is whole at one place is so at each place where it is within the limits, and what lies below it is the
-- same. The key lemmas are elsewhere, stands_known and becomes_known.
use Rattle.std.proofs.Common.{◌≡◌, ◌≤◌, ◌<◌, ◌+◌, ℕ, zero, suc, max, Bool, true, false, if◌then◌else◌, List, [], ◌∷◌, ◌++◌, length, refl, sym, ap, ap₂, ◌∙◌, subst, None, Result, Ok, Err, arith, length-append}
use Rattle.ids.specs.Key.{Objects}
use Rattle.tree_model.specs.Path.{PathV}
use Rattle.fs_objects.specs.Mode.{is_directory_mode}
use Rattle.fs_objects.specs.declared.dirent.Dirent.{Dirent}
use Rattle.fs_objects.specs.declared.fs_object.FsObject.{FsObject}
use Rattle.fs_objects.specs.declared.fs_object.FsObject.TheVariants as fs
use Rattle.object_graph.specs.Listing.{Listed, prefixed, listed, listed_entry, listed_in}
use Rattle.object_graph.specs.Objects.{dirents_at, entries_of, entry_of, fs_at, fs_key, in_name_order, is_nil}
use Rattle.object_graph.specs.Traversal.{Walk, counted, start, then_read, then_walk, visited, walk_below, walk_found, walk_object}
use Rattle.object_graph.specs.declared.fault.TreeFault.{TreeFault}
use Rattle.object_graph.proofs.CountingLemmas.{counts_below, counts_from, entry_counts, length-prefixed, nothing_listed}
use Rattle.object_graph.proofs.SchemeLemmas.{Step, goes_on, none_before}
use Rattle.tree_walk.specs.Checking.{Found, IsWithin}
use Rattle.tree_walk.specs.Extent.{deepest, extent_in}
use Rattle.tree_walk.specs.KnownTrees.{IsKnownDirectory}
use Rattle.tree_walk.specs.Listings.{listed_from}
use Rattle.tree_walk.specs.Steps.{HasCounted, directory_step, entries_step, entry_step}
use Rattle.tree_walk.specs.declared.extent.Extent.{Extent}
use Rattle.tree_walk.proofs.FileLemmas.{file_anywhere, walk_due}
use Rattle.tree_walk.proofs.ListingLemmas.{listed-entries}
use Rattle.tree_walk.proofs.StepsLemmas.{one_more, step_entries, step_object, step_on}

-- ---- how deep a list goes

pub deepest-append : (xs ys : Listed) → deepest (xs ++ ys) ≡ max (deepest xs) (deepest ys)
deepest-append [] ys = omega arith
deepest-append (x ∷ xs) ys = omega (arith, deepest-append xs ys)

deepest-prefixed : (name : List ℕ) (xs : Listed) → max 1 (deepest (prefixed name xs)) ≡ suc (deepest xs)
deepest-prefixed name [] = omega arith
deepest-prefixed name (x ∷ xs) = omega (arith, deepest-prefixed name xs)

-- what lies below an entry
abbrev pub inner : (List ℕ → Listed) → Dirent → Listed
inner below e = if is_directory_mode e.mode then below e.id else []

pub deepest-entry : (below : List ℕ → Listed) (e : Dirent) → deepest (listed_entry below e) ≡ suc (deepest (inner below e))
deepest-entry below e = deepest-prefixed e.name (inner below e)

pub length-entry : (below : List ℕ → Listed) (e : Dirent) → length (listed_entry below e) ≡ suc (length (inner below e))
length-entry below e = ap suc (length-prefixed e.name (inner below e))

-- entries are in their list, and so are those after the first
pub record Parts (below : List ℕ → Listed) (e : Dirent) (entries : List Dirent) : Type 0 where
  pub deep : deepest (listed_in below (e ∷ entries)) ≡ max (suc (deepest (inner below e))) (deepest (listed_in below entries))
  pub count : length (listed_in below (e ∷ entries)) ≡ suc (length (inner below e)) + length (listed_in below entries)

pub parts : (below : List ℕ → Listed) (e : Dirent) (entries : List Dirent) → Parts below e entries
parts below e entries = record {
  deep = deepest-append (listed_entry below e) (listed_in below entries) ∙ ap (λ n. max n (deepest (listed_in below entries))) (deepest-entry below e);
  count = length-append (listed_entry below e) (listed_in below entries) ∙ ap (λ n. n + length (listed_in below entries)) (length-entry below e);
}

-- ---- at another place

module _ (A : Objects) where
  -- what has no fault somewhere has none at each place within the limits
  abbrev pub Elsewhere : ℕ → Type 0
  Elsewhere room = (path : PathV) (id : List ℕ) (w : Walk) → (directory_step true A room path id w).fault ≡ None
      → (d : ℕ) (other : PathV) (v : Walk) → deepest (listed A room id) ≤ d → v.fault ≡ None → v.paths + length (listed A room id) ≤ 1000000
      → (directory_step true A d other id v).fault ≡ None × (listed A d id ≡ listed A room id)

  abbrev EntriesElsewhere : ℕ → Type 0
  EntriesElsewhere room = (entries : List Dirent) (path : PathV) (w : Walk) → (entries_step true A room path entries w).fault ≡ None
      → (d : ℕ) (other : PathV) (v : Walk) → deepest (listed_from A room entries) ≤ d → v.fault ≡ None → v.paths + length (listed_from A room entries) ≤ 1000000
      → (entries_step true A d other entries v).fault ≡ None × (listed_from A d entries ≡ listed_from A room entries)

  nothing_from : (d : ℕ) → listed_from A d [] ≡ []
  nothing_from zero = refl
  nothing_from (suc d) = refl

  -- a file is whole or not, wherever it is
  file_elsewhere : (room less : ℕ) (path other : PathV) (id : List ℕ) (w v : Walk) → w.fault ≡ None → (walk_object true A (walk_below true A room) false path id w).fault ≡ None → v.fault ≡ None
      → (walk_object true A (walk_below true A less) false other id v).fault ≡ None
  file_elsewhere room less path other id w v early none clear =
      ap (λ (u : Walk). u.fault) (file_anywhere A less other id v) ∙ walk_due A id v clear
      ∙ sym (walk_due A id w early) ∙ ap (λ (u : Walk). u.fault) (sym (file_anywhere A room path id w)) ∙ none

  -- one entry
  entry_elsewhere : (room : ℕ) → Elsewhere room → (path : PathV) (e : Dirent) (w : Walk) → (entry_step true A (suc room) path e w).fault ≡ None
      → (d : ℕ) (other : PathV) (v : Walk) → deepest (inner (listed A room) e) ≤ d → v.fault ≡ None → v.paths + suc (length (inner (listed A room) e)) ≤ 1000000
      → HasCounted (entry_step true A (suc d) other e v) (v.paths + suc (length (inner (listed A room) e))) × (inner (listed A d) e ≡ inner (listed A room) e)
  unfolding walk_below
  entry_elsewhere room all path e w none d other v deep clear few =
      let step : Step = walk_below true A (suc room) (is_directory_mode e.mode) (path ++ e.name ∷ []) e.id in
      let early : (counted w).fault ≡ None = none_before (counted w) step none in
      let own : (step (counted w)).fault ≡ None = ap (λ (u : Walk). u.fault) (sym (goes_on (counted w) step early)) ∙ none in
      by (is_directory_mode e.mode) refl early own deep few
    where
      own_path : PathV
      own_path = path ++ e.name ∷ []

      at : (wants : Bool) → is_directory_mode e.mode ≡ wants → v.paths < 1000000
          → entry_step true A (suc d) other e v ≡ walk_object true A (walk_below true A d) wants (other ++ e.name ∷ []) e.id (one_more v)
      at wants is less = step_object true A (suc d) other d e v wants refl is clear less

      by : (wants : Bool) → is_directory_mode e.mode ≡ wants → (counted w).fault ≡ None
          → (walk_object true A (walk_below true A room) wants (path ++ e.name ∷ []) e.id (counted w)).fault ≡ None
          → deepest (if wants then listed A room e.id else []) ≤ d → v.paths + suc (length (if wants then listed A room e.id else [])) ≤ 1000000
          → HasCounted (entry_step true A (suc d) other e v) (v.paths + suc (length (if wants then listed A room e.id else [])))
          × ((if wants then listed A d e.id else []) ≡ (if wants then listed A room e.id else []))
      by true is early own deep few =
          let there = all (path ++ e.name ∷ []) e.id (counted w) own d (other ++ e.name ∷ []) (one_more v) deep clear (omega (arith, few)) in
          let here = at true is (omega (arith, few)) in
          let count = counts_below true A d (other ++ e.name ∷ []) e.id (one_more v) there.0 in (
            record {
              none = ap (λ (u : Walk). u.fault) here ∙ there.0;
              count = ap (λ (u : Walk). u.paths) here ∙ count ∙ ap (λ xs. v.paths + 1 + length xs) there.1 ∙ omega arith;
            },
            there.1,
          )
      by false is early own deep few =
          let here = at false is (omega (arith, few)) in
          let there = file_elsewhere room d (path ++ e.name ∷ []) (other ++ e.name ∷ []) e.id (counted w) (one_more v) early own clear in
          let count = entry_counts true A d (counts_from true A d) false (other ++ e.name ∷ []) e.id (one_more v) there in (
            record {
              none = ap (λ (u : Walk). u.fault) here ∙ there;
              count = ap (λ (u : Walk). u.paths) here ∙ count ∙ omega arith;
            },
            refl,
          )

  entries_elsewhere : (room : ℕ) → Elsewhere room → EntriesElsewhere (suc room)
  entries_elsewhere room all [] path w none d other v deep clear few = (clear, nothing_from d)
  entries_elsewhere room all (e ∷ entries) path w none zero other v deep clear few = absurd (too_deep (parts (listed A room) e entries).deep deep)
    where
      too_deep : deepest (listed_in (listed A room) (e ∷ entries)) ≡ max (suc (deepest (inner (listed A room) e))) (deepest (listed_in (listed A room) entries))
          → deepest (listed_in (listed A room) (e ∷ entries)) ≤ zero → ⊥
      too_deep is none = omega (arith, is, none)
  entries_elsewhere room all (e ∷ entries) path w none (suc d) other v deep clear few =
      let split = parts (listed A room) e entries in
      let mid : Walk = entry_step true A (suc room) path e w in
      let early : mid.fault ≡ None = none_before mid (entries_step true A (suc room) path entries) none in
      let late : (entries_step true A (suc room) path entries mid).fault ≡ None =
      ap (λ (u : Walk). u.fault) (sym (step_on true A (suc room) path e entries w early)) ∙ none in
      let own_deep : deepest (inner (listed A room) e) ≤ d = omega (arith, split.deep, deep) in
      let own_few : v.paths + suc (length (inner (listed A room) e)) ≤ 1000000 = omega (arith, split.count, few) in
      let first = entry_elsewhere room all path e w early d other v own_deep clear own_few in
      let next : Walk = entry_step true A (suc d) other e v in
      let rest_deep : deepest (listed_in (listed A room) entries) ≤ suc d = omega (arith, split.deep, deep) in
      let rest_few : next.paths + length (listed_in (listed A room) entries) ≤ 1000000 = omega (arith, split.count, few, first.0.count) in
      let rest = entries_elsewhere room all entries path mid late (suc d) other next rest_deep first.0.none rest_few in (
        ap (λ (u : Walk). u.fault) (step_on true A (suc d) other e entries v first.0.none) ∙ rest.0,
        ap₂ (λ (xs ys : Listed). ((e.name ∷ [], entry_of e) ∷ prefixed e.name xs) ++ ys) first.1 rest.1,
      )

  -- no entry has room
  no_room : EntriesElsewhere zero
  unfolding walk_below
  no_room [] path w none d other v deep clear few = (clear, nothing_from d)
  no_room (e ∷ entries) path w none d other v deep clear few = absurd (stuck none)
    where
      stuck : (entries_step true A zero path (e ∷ entries) w).fault ≡ None → ⊥
      stuck none =
          let step : Step = walk_below true A zero (is_directory_mode e.mode) (path ++ e.name ∷ []) e.id in
          let mid : Walk = then_walk (counted w) step in
          let early : mid.fault ≡ None = none_before mid (entries_step true A zero path entries) none in
          let came : (counted w).fault ≡ None = none_before (counted w) step early in
          let ends : (step (counted w)).fault ≡ None = ap (λ (u : Walk). u.fault) (sym (goes_on (counted w) step came)) ∙ early in
          cc ends

  directory_elsewhere : (room : ℕ) → EntriesElsewhere room → Elsewhere room
  directory_elsewhere room all path id w none d other v deep clear few = by (is_nil id) refl (fs_at A id) refl
    where
      Goal : Type 0
      Goal = (directory_step true A d other id v).fault ≡ None × (listed A d id ≡ listed A room id)

      walked : (n : Bool) (r : Result FsObject TreeFault) → is_nil id ≡ n → fs_at A id ≡ r
          → (if n then w else then_read r (walk_found true A (walk_below true A room) true path id) (visited (fs_key id) w)).fault ≡ None
      walked n r is read =
          ap₂ (λ (n : Bool) (r : Result FsObject TreeFault). (if n then w else then_read r (walk_found true A (walk_below true A room) true path id) (visited (fs_key id) w)).fault) (sym is) (sym read) ∙ none

      empty : is_nil id ≡ true → dirents_at A id ≡ []
      empty is = ap (λ (n : Bool). if n then [] else entries_of (fs_at A id)) is

      by : (n : Bool) → is_nil id ≡ n → (r : Result FsObject TreeFault) → fs_at A id ≡ r → (directory_step true A d other id v).fault ≡ None × (listed A d id ≡ listed A room id)
      by true is r read = (
        ap (λ (n : Bool). (if n then v else then_read (fs_at A id) (walk_found true A (walk_below true A d) true other id) (visited (fs_key id) v)).fault) is ∙ clear,
        nothing_listed true A d id (empty is) ∙ sym (nothing_listed true A room id (empty is)),
      )
      by false is (Err fault) read = cc (walked false (Err fault) is read)
      by false is (Ok (fs.File file)) read = cc (walked false (Ok (fs.File file)) is read)
      by false is (Ok (fs.Dir entries)) read =
          let sorted = in_name_order entries in
          let list : listed A room id ≡ listed_from A room sorted = listed-entries A room id entries is read in
          let there = all sorted path (visited (fs_key id) w) (walked false (Ok (fs.Dir entries)) is read) d other (visited (fs_key id) v)
          (subst (λ xs. deepest xs ≤ d) list deep) clear (subst (λ xs. v.paths + length xs ≤ 1000000) list few) in (
            ap (λ (u : Walk). u.fault) (step_entries true A d other id entries sorted v is read refl) ∙ there.0,
            listed-entries A d id entries is read ∙ there.1 ∙ sym list,
          )

  pub elsewhere : (room : ℕ) → Elsewhere room
  elsewhere zero = directory_elsewhere zero no_room
  elsewhere (suc room) = directory_elsewhere (suc room) (entries_elsewhere room (elsewhere room))

  -- a directory that is known, at a place where it is within the limits
  pub stands_known : (room paths : ℕ) (path : PathV) (id : List ℕ) (extent : Extent) → IsKnownDirectory A id extent → IsWithin room paths extent
      → (w : Walk) → HasCounted w paths → Found A (directory_step true A room path id w) paths (listed A room id) (Ok extent)
  stands_known room paths path id extent known within w has =
      let deep : deepest (listed A 100 id) ≤ room = subst (λ (x : Extent). x.deep ≤ room) known.is within.deep_enough in
      let few : paths + length (listed A 100 id) ≤ 1000000 = subst (λ (x : Extent). paths + x.paths ≤ 1000000) known.is within.few in
      let there = elsewhere 100 [] id start known.complete room path w deep has.none (omega (arith, few, has.count)) in (
        record {
          none = there.0;
          count = counts_below true A room path id w there.0 ∙ ap₂ (λ (n : ℕ) (xs : Listed). n + length xs) has.count there.1 ∙ ap (λ (x : Extent). paths + x.paths) (sym known.is);
        },
        known.is ∙ ap extent_in (sym there.1),
      )

  -- a directory that was found whole becomes known
  pub becomes_known : (room paths : ℕ) (path : PathV) (id : List ℕ) (extent : Extent) → room ≤ 100 → IsWithin room paths extent
      → (w : Walk) → Found A (directory_step true A room path id w) paths (listed A room id) (Ok extent) → IsKnownDirectory A id extent
  becomes_known room paths path id extent fits within w found =
      let deep : deepest (listed A room id) ≤ 100 = omega (arith, fits, subst (λ (x : Extent). x.deep ≤ room) found.1 within.deep_enough) in
      let few : 0 + length (listed A room id) ≤ 1000000 = omega (arith, subst (λ (x : Extent). paths + x.paths ≤ 1000000) found.1 within.few) in
      let there = elsewhere room path id w found.0.none 100 [] start deep refl few in
      record { complete = there.0; is = found.1 ∙ ap extent_in (sym there.1) }
