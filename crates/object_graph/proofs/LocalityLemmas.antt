-- A traversal reads only what it visits. The key lemmas are local_root, local_commit and commit_stays.
use Rattle.std.proofs.Common.{◌≡◌, ℕ, ◌+◌, ◌==◌, Bool, true, false, if◌then◌else◌, is_some, nat_lt, List, [], ◌∷◌, ◌++◌, length, refl, sym, ap, ap₂, ◌∙◌, subst, Option, None, Some, Result, Ok, Err, unwrap_or}
use Rattle.std.specs.FinMap as map
use Rattle.ids.specs.Key.{Objects}
use Rattle.ids.specs.declared.key.Key.{Key}
use Rattle.tree_model.specs.declared.limits.TheConstants.{MAX_PATHS}
use Rattle.fs_objects.specs.declared.file_object.FileObject.{FileObject}
use Rattle.fs_objects.specs.declared.fs_object.FsObject.{FsObject}
use Rattle.commit_objects.specs.declared.commit.Commit.{Commit}
use Rattle.object_graph.specs.Objects.{fs_key, block_key, commit_key, fs_at, fs_in, commit_at, commit_in, joined}
use Rattle.object_graph.specs.Traversal.{Walk, start, visited, failed, counted, next_by, then_walk, then_read, walk_block, walk_blocks, sized, walk_file, walk_root, walk_commit, is_in, needs}
use Rattle.object_graph.specs.Unchanged.{AgreeOn}
use Rattle.object_graph.specs.declared.fault.TreeFault.{TreeFault}
use Rattle.object_graph.specs.declared.fault.TreeFault.TheVariants.{Incomplete, WrongSize, TooMany}
use Rattle.object_graph.proofs.KeyLemmas.{Within, within_itself, within_then, within_front, in_last, in_distinct}
use Rattle.object_graph.proofs.SchemeLemmas.{Step, Scheme, along_root, none_before, goes_on}

-- a step adds to the visits, and is the other step wherever the objects agree on what it visits
pub record Follows (A B : Objects) (f g : Step) : Type 0 where
  pub grows : (w : Walk) → Within w.visits (f w).visits
  pub same : (w : Walk) → AgreeOn (f w).visits A B → g w ≡ f w

pub agree_within : {keys more : List Key} {A B : Objects} → Within keys more → AgreeOn more A B → AgreeOn keys A B
agree_within within agree = record { same = λ key e. agree.same key (within.there key e) }

counted_with : Walk → Bool → Walk
counted_with w b = if b then failed (TooMany (w.paths + 1)) (record w { paths = w.paths + 1 }) else record w { paths = w.paths + 1 }

pub counted-visits : (w : Walk) → (counted w).visits ≡ w.visits
unfolding counted_with
counted-visits w = by (nat_lt MAX_PATHS (w.paths + 1))
  where
    by : (b : Bool) → (counted_with w b).visits ≡ w.visits
    by true = refl
    by false = refl

-- a later step keeps what an earlier one visited
pub within_next : (w : Walk) (step : Step) → ((v : Walk) → Within v.visits (step v).visits) → Within w.visits (then_walk w step).visits
within_next w step grows = by w.fault
  where
    by : (o : Option TreeFault) → Within w.visits (next_by o step w).visits
    by None = grows w
    by (Some fault) = within_itself w.visits

pub within_visited : (key : Key) (w : Walk) → Within w.visits (visited key w).visits
within_visited key w = within_front w.visits (key ∷ [])

module _ (A B : Objects) where
  follows_after : (f g next other : Step) → Follows A B f g → Follows A B next other
      → Follows A B (λ w. then_walk (f w) next) (λ w. then_walk (g w) other)
  follows_after f g next other first second = record { grows = grows; same = same }
    where
      grows : (w : Walk) → Within w.visits (then_walk (f w) next).visits
      grows w = within_then (first.grows w) (within_next (f w) next second.grows)

      by : (v : Walk) (o : Option TreeFault) → AgreeOn (next_by o next v).visits A B → next_by o other v ≡ next_by o next v
      by v None agree = second.same v agree
      by v (Some fault) agree = refl

      same : (w : Walk) → AgreeOn (then_walk (f w) next).visits A B → then_walk (g w) other ≡ then_walk (f w) next
      same w agree =
          let is : g w ≡ f w = first.same w (agree_within (within_next (f w) next second.grows) agree) in
          ap (λ (v : Walk). then_walk v other) is ∙ by (f w) (f w).fault agree

  -- a step that reads no object
  follows_plain : (f : Step) → ((w : Walk) → Within w.visits (f w).visits) → Follows A B f f
  follows_plain f grows = record { grows = grows; same = λ w agree. refl }

  -- ---- blocks

  block_with : List ℕ → Walk → Bool → Walk
  block_with id w b = if b then visited (block_key id) w else failed (Incomplete (block_key id)) (visited (block_key id) w)

  block_visits : (blocks : Bool) (O : Objects) (id : List ℕ) (w : Walk) → (walk_block blocks O id w).visits ≡ w.visits ++ block_key id ∷ []
  unfolding block_with
  block_visits blocks O id w = by (is_some (map.get O (block_key id)))
    where
      by : (b : Bool) → (block_with id w b).visits ≡ w.visits ++ block_key id ∷ []
      by true = refl
      by false = refl

  module _ (blocks : Bool) where
    follows_block : (id : List ℕ) → Follows A B (walk_block blocks A id) (walk_block blocks B id)
    unfolding block_with
    follows_block id = record {
      grows = λ w. subst (Within w.visits) (sym (block_visits blocks A id w)) (within_front w.visits (block_key id ∷ []));
      same = λ w agree.
          let here = subst (λ keys. is_in keys (block_key id) ≡ true) (sym (block_visits blocks A id w)) (in_last w.visits (block_key id)) in
          ap (λ (o : Option (List ℕ)). block_with id w (is_some o)) (agree.same (block_key id) here);
    }

    follows_blocks : (ids : List (List ℕ)) → Follows A B (walk_blocks blocks A ids) (walk_blocks blocks B ids)
    follows_blocks [] = follows_plain (λ w. w) (λ w. within_itself w.visits)
    follows_blocks (id ∷ ids) = follows_after (walk_block blocks A id) (walk_block blocks B id) (walk_blocks blocks A ids) (walk_blocks blocks B ids) (follows_block id) (follows_blocks ids)

    -- the bytes of blocks are the same where the objects agree on what their traversal visits
    pub same_joined : (ids : List (List ℕ)) (w : Walk) → (walk_blocks blocks A ids w).fault ≡ None → AgreeOn (walk_blocks blocks A ids w).visits A B → joined B ids ≡ joined A ids
    same_joined [] w none agree = refl
    same_joined (id ∷ ids) w none agree =
        let v : Walk = walk_block blocks A id w in
        let goes : v.fault ≡ None = none_before v (walk_blocks blocks A ids) none in
        let on : then_walk v (walk_blocks blocks A ids) ≡ walk_blocks blocks A ids v = goes_on v (walk_blocks blocks A ids) goes in
        let rest = same_joined ids v (ap (λ (u : Walk). u.fault) (sym on) ∙ none) (subst (λ (u : Walk). AgreeOn u.visits A B) on agree) in
        let here : is_in v.visits (block_key id) ≡ true = subst (λ keys. is_in keys (block_key id) ≡ true) (sym (block_visits blocks A id w)) (in_last w.visits (block_key id)) in
        let there = (within_next v (walk_blocks blocks A ids) (follows_blocks ids).grows).there (block_key id) here in
        ap₂ ◌++◌ (ap (λ o. unwrap_or o []) (agree.same (block_key id) there)) rest

    pub follows_sized : (id : List ℕ) (file : FileObject) (w : Walk) → Within w.visits (sized blocks A id file w).visits
    follows_sized id file w = by (file.size == length (joined A file.blocks))
      where
        by : (b : Bool) → Within w.visits (if b then w else failed (WrongSize id) w).visits
        by true = within_itself w.visits
        by false = within_itself w.visits

    follows_file : (id : List ℕ) (file : FileObject) → Follows A B (walk_file blocks A id file) (walk_file blocks B id file)
    follows_file id file = by blocks
      where
        by : (b : Bool) → Follows A B (λ w. if b then then_walk (walk_blocks blocks A file.blocks w) (sized blocks A id file) else w)
            (λ w. if b then then_walk (walk_blocks blocks B file.blocks w) (sized blocks B id file) else w)
        by false = follows_plain (λ w. w) (λ w. within_itself w.visits)
        by true = record { grows = grows; same = same }
          where
            grows : (w : Walk) → Within w.visits (then_walk (walk_blocks blocks A file.blocks w) (sized blocks A id file)).visits
            grows w = within_then ((follows_blocks file.blocks).grows w) (within_next (walk_blocks blocks A file.blocks w) (sized blocks A id file) (follows_sized id file))

            size_by : (w : Walk) (o : Option TreeFault) → (walk_blocks blocks A file.blocks w).fault ≡ o → AgreeOn (walk_blocks blocks A file.blocks w).visits A B
                → next_by o (sized blocks B id file) (walk_blocks blocks A file.blocks w) ≡ next_by o (sized blocks A id file) (walk_blocks blocks A file.blocks w)
            size_by w None none agree =
                ap (λ bytes. if file.size == length bytes then walk_blocks blocks A file.blocks w else failed (WrongSize id) (walk_blocks blocks A file.blocks w))
                (same_joined file.blocks w none agree)
            size_by w (Some fault) none agree = refl

            same : (w : Walk) → AgreeOn (then_walk (walk_blocks blocks A file.blocks w) (sized blocks A id file)).visits A B
                → then_walk (walk_blocks blocks B file.blocks w) (sized blocks B id file) ≡ then_walk (walk_blocks blocks A file.blocks w) (sized blocks A id file)
            same w agree =
                let v : Walk = walk_blocks blocks A file.blocks w in
                let part : AgreeOn v.visits A B = agree_within (within_next v (sized blocks A id file) (follows_sized id file)) agree in
                ap (λ (u : Walk). then_walk u (sized blocks B id file)) ((follows_blocks file.blocks).same w part) ∙ size_by w v.fault refl part

    -- ---- whole traversals

    follows_object : (id : List ℕ) (F G : FsObject → Step) → ((object : FsObject) → Follows A B (F object) (G object))
        → Follows A B (λ w. then_read (fs_at A id) F (visited (fs_key id) w)) (λ w. then_read (fs_at B id) G (visited (fs_key id) w))
    follows_object id F G h = record { grows = grows; same = same }
      where
        after : (r : Result FsObject TreeFault) (w : Walk) → Within w.visits (then_read r F w).visits
        after (Ok object) w = (h object).grows w
        after (Err fault) w = within_itself w.visits

        grows : (w : Walk) → Within w.visits (then_read (fs_at A id) F (visited (fs_key id) w)).visits
        grows w = within_then (within_visited (fs_key id) w) (after (fs_at A id) (visited (fs_key id) w))

        by : (r : Result FsObject TreeFault) (w : Walk) → AgreeOn (then_read r F w).visits A B → then_read r G w ≡ then_read r F w
        by (Ok object) w agree = (h object).same w agree
        by (Err fault) w agree = refl

        same : (w : Walk) → AgreeOn (then_read (fs_at A id) F (visited (fs_key id) w)).visits A B
            → then_read (fs_at B id) G (visited (fs_key id) w) ≡ then_read (fs_at A id) F (visited (fs_key id) w)
        same w agree =
            let here = (after (fs_at A id) (visited (fs_key id) w)).there (fs_key id) (in_last w.visits (fs_key id)) in
            let read : fs_at B id ≡ fs_at A id = ap (fs_in (fs_key id)) (agree.same (fs_key id) here) in
            ap (λ (r : Result FsObject TreeFault). then_read r G (visited (fs_key id) w)) read ∙ by (fs_at A id) (visited (fs_key id) w) agree

    pub locality : Scheme blocks blocks A B (Follows A B)
    locality = record {
      nothing = follows_plain (λ w. w) (λ w. within_itself w.visits);
      counts = follows_plain counted (λ w. subst (Within w.visits) (sym (counted-visits w)) (within_itself w.visits));
      deep = λ path. follows_plain _ (λ w. within_itself w.visits);
      kind = λ id. follows_plain _ (λ w. within_itself w.visits);
      after = follows_after;
      file = follows_file;
      object = follows_object;
    }

  pub local_root : (blocks : Bool) (id : List ℕ) (w : Walk) → AgreeOn (walk_root blocks A id w).visits A B → walk_root blocks B id w ≡ walk_root blocks A id w
  local_root blocks id w agree = (along_root blocks blocks A B (Follows A B) (locality blocks) id).same w agree

  pub grows_root : (blocks : Bool) (id : List ℕ) (w : Walk) → Within w.visits (walk_root blocks A id w).visits
  grows_root blocks id w = (along_root blocks blocks A B (Follows A B) (locality blocks) id).grows w

  pub local_commit : (id : List ℕ) → AgreeOn (walk_commit A id).visits A B → walk_commit B id ≡ walk_commit A id
  unfolding walk_commit
  local_commit id agree =
      let here = (after (commit_at A id)).there (commit_key id) (in_last [] (commit_key id)) in
      let read : commit_at B id ≡ commit_at A id = ap (commit_in id) (agree.same (commit_key id) here) in
      ap (λ (r : Result Commit TreeFault). then_read r (λ commit. walk_root true B commit.root) (visited (commit_key id) start)) read ∙ by (commit_at A id) agree
    where
      after : (r : Result Commit TreeFault) → Within (visited (commit_key id) start).visits (then_read r (λ commit. walk_root true A commit.root) (visited (commit_key id) start)).visits
      after (Ok commit) = grows_root true commit.root (visited (commit_key id) start)
      after (Err fault) = within_itself (visited (commit_key id) start).visits

      by : (r : Result Commit TreeFault) → AgreeOn (then_read r (λ commit. walk_root true A commit.root) (visited (commit_key id) start)).visits A B
          → then_read r (λ commit. walk_root true B commit.root) (visited (commit_key id) start) ≡ then_read r (λ commit. walk_root true A commit.root) (visited (commit_key id) start)
      by (Ok commit) agree = local_root true commit.root (visited (commit_key id) start) agree
      by (Err fault) agree = refl

-- to agree on what a commit needs is to agree on what its traversal visits
pub agree_needs : (A B : Objects) (id : List ℕ) → AgreeOn (needs A id) A B → AgreeOn (walk_commit A id).visits A B
agree_needs A B id agree = record { same = λ key e. agree.same key (in_distinct (walk_commit A id).visits key ∙ e) }
