-- A region of a merge: those files that stand in some directories below one of them leave as they do in a merge of their own.
-- The key lemmas are conflicts_region, copy_region and merged_region.
use Rattle.std.proofs.Common.{◌≡◌, ◌≢◌, ℕ, zero, suc, ◌+◌, ◌≤◌, ◌||◌, Bool, true, false, cond, if◌then◌else◌, T, List, [], ◌∷◌, ◌++◌, filter, map as map_list, length, refl, sym, ap, ap₂, ◌∙◌, subst, arith, Option, Some, None, option_map, true≢false, ◌⊎◌, inl, inr}
use Rattle.std.proofs.lemmas.Bool.{or_right}
use Rattle.std.proofs.lemmas.List.{length-map}
use Rattle.std.specs.FinMap as map
use Rattle.std.specs.FinMap.Entries.{find-where_key, is_sorted-where_key, same_entries}
use Rattle.std.specs.List.{AllByRecursion}
use Rattle.std.specs.Option.{option_or}
use Rattle.ids.proofs.BasicLemmas.{pushed_is_some}
use Rattle.tree_model.specs.declared.node.FileVersion.{FileVersion}
use Rattle.tree_model.specs.declared.node.Node.{Node}
use Rattle.tree_model.specs.Path.{PathV, last_name, parent_of, path_cmp}
use Rattle.tree_model.specs.PathOrder.{paths_exact, paths_total}
use Rattle.tree_model.specs.DirectorySurvival.{Sides, paths_of_all}
use Rattle.tree_model.specs.ConflictCopies.{Naming, conflict_spot, conflicts, in_trees, is_gone, leaver_at, leavers, least_free, moves, tries}
use Rattle.tree_model.specs.MergeParts.{beyond, copy_at, left_for}
use Rattle.tree_model.specs.ThreeWayMerge.{IsNaming, file_moved, merged, node_at}
use Rattle.tree_model.proofs.BehindLemmas.{behind, beyond_behind, file_behind, found_behind, in_behind, keyed_behind, some_behind, sorted_behind, spot_behind}
use Rattle.tree_model.proofs.BelowLemmas.{parent_push}
use Rattle.tree_model.proofs.CopyLemmas.{enough, get-leavers, leaver_from, spots_apart}
use Rattle.tree_model.proofs.FirstLongNameLemmas.{Copy}
use Rattle.tree_model.proofs.ListedLemmas.{is_in, listed, same_path, same_path-itself, same_path-true}
use Rattle.tree_model.proofs.MergeLemmas.{get-merged}
use Rattle.tree_model.proofs.MovingLemmas.{In, moved_from}
use Rattle.tree_model.proofs.OwnDirectoryLemmas.{moves_own}
use Rattle.tree_model.proofs.SameMovesLemmas.{moves_same}
use Rattle.tree_model.proofs.ShownCountLemmas.{same_behind}

-- a copy, with both its paths behind a directory
abbrev pub copy_behind : PathV → Copy → Copy
copy_behind d m = (file_behind d m.0, d ++ m.1)

-- ---- lists

filter_less : {X : Type 0} (p : X → Bool) (xs : List X) → length (filter p xs) ≤ length xs
filter_less p [] = omega arith
filter_less p (x ∷ xs) = by (p x) (filter_less p xs)
  where
    by : (b : Bool) → length (filter p xs) ≤ length xs → length (cond b (x ∷ filter p xs) (filter p xs)) ≤ suc (length xs)
    by true few = omega (arith, few)
    by false few = omega (arith, few)

-- what is kept of a list has what is found at a key that is kept
find_kept : {X Y : Type 0} (own : PathV → Bool) (key : X → PathV × Y) (kept : X → Bool) (q : PathV) (xs : List X)
    → ((x : X) → In x xs → kept x ≡ own (key x).0) → own q ≡ true → map.find path_cmp q (map_list key (filter kept xs)) ≡ map.find path_cmp q (map_list key xs)
find_kept own key kept q [] each is = refl
find_kept {X} {Y} own key kept q (x ∷ xs) each is = by (kept x) refl (find_kept own key kept q xs (λ y there. each y (inr there)) is)
  where
    rest : Option Y
    rest = map.find path_cmp q (map_list key xs)

    by : (b : Bool) → kept x ≡ b → map.find path_cmp q (map_list key (filter kept xs)) ≡ rest
        → map.find path_cmp q (map_list key (cond b (x ∷ filter kept xs) (filter kept xs))) ≡ cond (same_path q (key x).0) (Some (key x).1) rest
    by true e more = ap (λ (o : Option Y). cond (same_path q (key x).0) (Some (key x).1) o) more
    by false e more = more ∙ apart (same_path q (key x).0) refl
      where
        apart : (c : Bool) → same_path q (key x).0 ≡ c → rest ≡ cond c (Some (key x).1) rest
        apart false tie = refl
        apart true tie =
            absurd (true≢false (sym is ∙ ap own (same_path-true q (key x).0 tie) ∙ sym (each x (inl refl)) ∙ e))

-- nothing is found behind a directory where no key of the list is it
none_behind : {X : Type 0} (d q : PathV) (es : List (PathV × X)) → ((e : PathV × X) → In e es → q ≢ d ++ e.0) → map.find path_cmp q (keyed_behind d es) ≡ None
none_behind d q [] each = refl
none_behind {X} d q (e ∷ es) each = by (same_path q (d ++ e.0)) refl (none_behind d q es (λ f there. each f (inr there)))
  where
    by : (b : Bool) → same_path q (d ++ e.0) ≡ b → map.find path_cmp q (keyed_behind d es) ≡ None → cond b (Some e.1) (map.find path_cmp q (keyed_behind d es)) ≡ None
    by true tie more = absurd (each e (inl refl) (same_path-true q (d ++ e.0) tie))
    by false tie more = more

all_in : {X : Type 0} (P : X → Type 0) (xs : List X) → ((x : X) → In x xs → P x) → AllByRecursion P xs
all_in P [] each = tt
all_in P (x ∷ xs) each = (each x (inl refl), all_in P xs (λ y there. each y (inr there)))

-- ---- moves behind a directory

module _ (naming : Naming) (d : PathV) (used : PathV → Bool) (t : ℕ) where
  abbrev spot : PathV × FileVersion → ℕ → PathV
  spot = conflict_spot naming

  abbrev used_behind : PathV → Bool
  used_behind q = used (d ++ q)

  least_behind : (x : PathV × FileVersion) → x.0 ≢ [] → (taken : List PathV) (u k : ℕ)
      → least_free same_path used spot (behind d taken) (file_behind d x) u k ≡ least_free same_path used_behind spot taken x u k
  least_behind x some taken zero k = refl
  least_behind x some taken (suc u) k =
      ap₂ (λ (b : Bool) (r : ℕ). if b then r else k)
      (ap (is_gone same_path used spot (behind d taken)) (spot_behind naming d x k some) ∙ ap (λ (b : Bool). used (d ++ spot x k) || b) (in_behind d (spot x k) taken))
      (least_behind x some taken u (k + 1))

  moves_behind : (xs : List (PathV × FileVersion)) (taken : List PathV) → AllByRecursion (λ (x : PathV × FileVersion). x.0 ≢ []) xs
      → moves same_path used spot t (behind d taken) (keyed_behind d xs) ≡ map_list (copy_behind d) (moves same_path used_behind spot t taken xs)
  moves_behind [] taken all = refl
  moves_behind (x ∷ xs) taken all =
      let to : PathV = spot x (least_free same_path used_behind spot taken x t 1) in
      let first : spot (file_behind d x) (least_free same_path used spot (behind d taken) (file_behind d x) t 1) ≡ d ++ to =
      ap (spot (file_behind d x)) (least_behind x all.0 taken t 1) ∙ spot_behind naming d x (least_free same_path used_behind spot taken x t 1) all.0 in
      ap (λ (p : PathV). (file_behind d x, p) ∷ moves same_path used spot t (p ∷ behind d taken) (keyed_behind d xs)) first
      ∙ ap (λ (ms : List Copy). (file_behind d x, d ++ to) ∷ ms) (moves_behind xs (to ∷ taken) all.1)

-- ---- a region

-- Three trees have, behind a directory, what three others have in those directories that are their own: the same paths are
-- known, the same files leave, and the same stands there.
pub record IsRegion (s c : Sides) (d : PathV) (own : PathV → Bool) : Type 0 where
  pub rooted : in_trees s [] ≡ false
  pub known : (q : PathV) → q ≢ [] → own (parent_of (d ++ q)) ≡ true → in_trees c q ≡ in_trees s (d ++ q)
  pub some : (q : PathV) → in_trees c q ≡ true → q ≢ []
  pub within : (q : PathV) → in_trees c q ≡ true → own (parent_of (d ++ q)) ≡ true
  pub lies : (q : PathV) → q ≢ [] → own (parent_of q) ≡ true → (r : PathV) × (r ≢ []) × (q ≡ d ++ r)
  pub leaves : (q : PathV) → in_trees c q ≡ true → leaver_at c q ≡ leaver_at s (d ++ q)
  pub stands : (q : PathV) → in_trees c q ≡ true → node_at c q ≡ node_at s (d ++ q)

module _ (naming : Naming) (is_naming : IsNaming naming) (s c : Sides) (d : PathV) (own : PathV → Bool) (region : IsRegion s c d own) where
  abbrev owned : PathV → Bool
  owned q = own (parent_of q)

  abbrev leaving : List (PathV × FileVersion)
  leaving = map.entries (leavers c)

  leaving_some : AllByRecursion (λ (x : PathV × FileVersion). x.0 ≢ []) leaving
  leaving_some = all_in (λ (x : PathV × FileVersion). x.0 ≢ []) leaving (λ x there. region.some x.0 (leaver_from c x there).known)

  -- ---- the files that leave

  found_own : (q : PathV) → map.find path_cmp q (filter (λ (x : PathV × FileVersion). owned x.0) (map.entries (leavers s))) ≡ cond (owned q) (if in_trees s q then leaver_at s q else None) None
  found_own q =
      find-where_key path_cmp owned q (λ x tie. ap owned (sym (paths_exact q x tie))) (map.entries (leavers s))
      ∙ ap (λ (o : Option FileVersion). cond (owned q) o None) (sym (map.get-entries (leavers s) q) ∙ get-leavers s q)

  found_same : (q : PathV) → map.find path_cmp q (filter (λ (x : PathV × FileVersion). owned x.0) (map.entries (leavers s))) ≡ map.find path_cmp q (keyed_behind d leaving)
  found_same q = found_own q ∙ by (owned q) refl
    where
      none : (((e : PathV × FileVersion) → In e leaving → q ≢ d ++ e.0)) → None ≡ map.find path_cmp q (keyed_behind d leaving)
      none each = sym (none_behind d q leaving each)

      same_leaver : (r : PathV) → r ≢ [] → owned (d ++ r) ≡ true → (b : Bool) → in_trees c r ≡ b
          → (if in_trees s (d ++ r) then leaver_at s (d ++ r) else None) ≡ (if in_trees c r then leaver_at c r else None)
      same_leaver r some is true here =
          ap (λ (b : Bool). if b then leaver_at s (d ++ r) else None) (sym (region.known r some is)) ∙ by_known (in_trees c r) here
        where
          by_known : (b : Bool) → b ≡ true → (if b then leaver_at s (d ++ r) else None) ≡ (if b then leaver_at c r else None)
          by_known true e = sym (region.leaves r here)
          by_known false e = refl
      same_leaver r some is false out =
          ap (λ (b : Bool). if b then leaver_at s (d ++ r) else None) (sym (region.known r some is) ∙ out) ∙ sym (ap (λ (b : Bool). if b then leaver_at c r else None) out)

      behind_here : (r : PathV) → r ≢ [] → owned (d ++ r) ≡ true → (if in_trees s (d ++ r) then leaver_at s (d ++ r) else None) ≡ map.find path_cmp (d ++ r) (keyed_behind d leaving)
      behind_here r some is =
          same_leaver r some is (in_trees c r) refl ∙ sym (get-leavers c r) ∙ map.get-entries (leavers c) r ∙ sym (found_behind d r leaving)

      at_root : q ≡ [] → (if in_trees s q then leaver_at s q else None) ≡ map.find path_cmp q (keyed_behind d leaving)
      at_root root =
          ap (λ (b : Bool). if b then leaver_at s q else None) (ap (in_trees s) root ∙ region.rooted)
          ∙ none (λ e there is. some_behind d e.0 (region.some e.0 (leaver_from c e there).known) (sym is ∙ root))

      is_root : (q : PathV) → (q ≡ []) ⊎ (q ≢ [])
      is_root [] = inl refl
      is_root (n ∷ q) = inr (λ e. cc)

      below : q ≢ [] → owned q ≡ true → (if in_trees s q then leaver_at s q else None) ≡ map.find path_cmp q (keyed_behind d leaving)
      below some is =
          let lies = region.lies q some is in
          subst (λ (p : PathV). (if in_trees s p then leaver_at s p else None) ≡ map.find path_cmp p (keyed_behind d leaving)) (sym lies.2)
          (behind_here lies.0 lies.1 (ap owned (sym lies.2) ∙ is))

      by : (b : Bool) → owned q ≡ b → cond b (if in_trees s q then leaver_at s q else None) None ≡ map.find path_cmp q (keyed_behind d leaving)
      by true is = elim (is_root q) [ inl root ↦ at_root root | inr some ↦ below some is ]
      by false out = none (λ e there is. true≢false (sym (region.within e.0 (leaver_from c e there).known) ∙ ap owned (sym is) ∙ out))

  leavers_region : filter (λ (x : PathV × FileVersion). owned x.0) (map.entries (leavers s)) ≡ keyed_behind d leaving
  leavers_region =
      let rising : T (map.is_sorted path_cmp (filter (λ (x : PathV × FileVersion). owned x.0) (map.entries (leavers s)))) =
      is_sorted-where_key path_cmp owned (map.entries (leavers s)) (map.entries_sorted (leavers s)) in
      let also : T (map.is_sorted path_cmp (keyed_behind d leaving)) = subst T (sym (sorted_behind d leaving leaving_some)) (map.entries_sorted (leavers c)) in
      same_entries path_cmp paths_total paths_exact (filter (λ (x : PathV × FileVersion). owned x.0) (map.entries (leavers s))) (keyed_behind d leaving) rising also found_same

  -- ---- their copies

  abbrev stripped : List PathV
  stripped = map_list (beyond d) (paths_of_all s)

  in_stripped : (q : PathV) (ps : List PathV) → is_in (d ++ q) ps ≡ true → is_in q (map_list (beyond d) ps) ≡ true
  in_stripped q [] e = cc
  in_stripped q (p ∷ ps) e = by (same_path (d ++ q) p) refl e (in_stripped q ps)
    where
      by : (b : Bool) → same_path (d ++ q) p ≡ b → (b || is_in (d ++ q) ps) ≡ true → (is_in (d ++ q) ps ≡ true → is_in q (map_list (beyond d) ps) ≡ true)
          → (same_path q (beyond d p) || is_in q (map_list (beyond d) ps)) ≡ true
      by true tie e more =
          let same : beyond d p ≡ q = ap (beyond d) (sym (same_path-true (d ++ q) p tie)) ∙ beyond_behind d q in
          ap (λ (r : PathV). same_path q r || is_in q (map_list (beyond d) ps)) same
          ∙ ap (λ (b : Bool). b || is_in q (map_list (beyond d) ps)) (same_path-itself q)
      by false tie e more = or_right (same_path q (beyond d p)) (is_in q (map_list (beyond d) ps)) (more e)

  known_stripped : (q : PathV) → in_trees s (d ++ q) ≡ true → is_in q stripped ≡ true
  known_stripped q there = in_stripped q (paths_of_all s) (listed s (d ++ q) ∙ there)

  few_leaving : length leaving ≤ length (map.entries (leavers s))
  few_leaving =
      let less = filter_less (λ (x : PathV × FileVersion). owned x.0) (map.entries (leavers s)) in
      let same = ap length leavers_region in
      let own_length : length (keyed_behind d leaving) ≡ length leaving = length-map {B = PathV × FileVersion} leaving (λ e. (d ++ e.0, e.1)) in
      omega (arith, less, same, own_length)

  -- the place of a copy is known in the region as it is in the whole
  same_spot : (x : PathV × FileVersion) → In x leaving → (k : ℕ) → in_trees s (d ++ conflict_spot naming x k) ≡ in_trees c (conflict_spot naming x k)
  same_spot x there k =
      let here = (leaver_from c x there).known in
      let some = region.some x.0 here in
      let place : PathV = conflict_spot naming x k in
      let same_parent : parent_of (d ++ place) ≡ parent_of (d ++ x.0) =
      ap parent_of (sym (spot_behind naming d x k some)) ∙ parent_push (parent_of (d ++ x.0)) (naming (last_name (d ++ x.0)) x.1.modifier x.1.mtime k) in
      sym (region.known place (pushed_is_some (parent_of x.0) (naming (last_name x.0) x.1.modifier x.1.mtime k)) (ap own same_parent ∙ region.within x.0 here))

  pub conflicts_region : filter (λ (m : Copy). owned m.0.0) (conflicts naming s) ≡ map_list (copy_behind d) (conflicts naming c)
  conflicts_region =
      moves_own (in_trees s) (conflict_spot naming) (tries s) owned (λ (x : PathV × FileVersion). owned x.0)
      (λ x k. ap own (parent_push (parent_of x.0) (naming (last_name x.0) x.1.modifier x.1.mtime k)))
      (map.entries (leavers s)) []
      ∙ ap (moves same_path (in_trees s) (conflict_spot naming) (tries s) []) leavers_region
      ∙ moves_behind naming d (in_trees s) (tries s) leaving [] leaving_some
      ∙ ap (map_list (copy_behind d))
      (moves_same (λ q. in_trees s (d ++ q)) (in_trees c) (conflict_spot naming) stripped (paths_of_all c) known_stripped (λ q there. listed c q ∙ there)
      (spots_apart naming is_naming) (tries s) (tries c) leaving [] same_spot enough_s enough_c)
    where
      enough_s : length stripped + 0 + length leaving ≤ tries s
      enough_s =
          let all = enough s in
          let same = length-map (paths_of_all s) (beyond d) in
          omega (arith, all, same, few_leaving)

      enough_c : length (paths_of_all c) + 0 + length leaving ≤ tries c
      enough_c = let all = enough c in omega (arith, all)

  pub copy_region : (q : PathV) → q ≢ [] → owned (d ++ q) ≡ true → copy_at naming s (d ++ q) ≡ option_map (λ (p : PathV). d ++ p) (copy_at naming c q)
  copy_region q some is =
      sym (find_kept owned left_for (λ (m : Copy). owned m.0.0) (d ++ q) (conflicts naming s) (λ m there. refl) is)
      ∙ ap (λ (ms : List Copy). map.find path_cmp (d ++ q) (map_list left_for ms)) conflicts_region
      ∙ each (conflicts naming c)
    where
      each : (ms : List Copy) → map.find path_cmp (d ++ q) (map_list left_for (map_list (copy_behind d) ms)) ≡ option_map (λ (p : PathV). d ++ p) (map.find path_cmp q (map_list left_for ms))
      each [] = refl
      each (m ∷ ms) =
          ap₂ (λ (b : Bool) (o : Option PathV). cond b (Some (d ++ m.1)) o) (same_behind d q m.0.0) (each ms) ∙ pull (same_path q m.0.0)
        where
          pull : (b : Bool) → cond b (Some (d ++ m.1)) (option_map (λ (p : PathV). d ++ p) (map.find path_cmp q (map_list left_for ms)))
              ≡ option_map (λ (p : PathV). d ++ p) (cond b (Some m.1) (map.find path_cmp q (map_list left_for ms)))
          pull true = refl
          pull false = refl

  -- ---- what stands there

  copies_same : (q : PathV) → owned (d ++ q) ≡ true → map.find path_cmp (d ++ q) (map_list file_moved (conflicts naming s)) ≡ map.find path_cmp q (map_list file_moved (conflicts naming c))
  copies_same q is =
      sym (find_kept owned file_moved (λ (m : Copy). owned m.0.0) (d ++ q) (conflicts naming s) (λ m there. ap own (sym (beside m there))) is)
      ∙ ap (λ (ms : List Copy). map.find path_cmp (d ++ q) (map_list file_moved ms)) conflicts_region
      ∙ each (conflicts naming c)
    where
      -- a copy stands in the directory of its file
      beside : (m : Copy) → In m (conflicts naming s) → parent_of m.1 ≡ parent_of m.0.0
      beside m there =
          let from = moved_from (in_trees s) (conflict_spot naming) (tries s) (map.entries (leavers s)) [] m there in
          ap parent_of from.at ∙ parent_push (parent_of m.0.0) (naming (last_name m.0.0) m.0.1.modifier m.0.1.mtime from.number)

      each : (ms : List Copy) → map.find path_cmp (d ++ q) (map_list file_moved (map_list (copy_behind d) ms)) ≡ map.find path_cmp q (map_list file_moved ms)
      each [] = refl
      each (m ∷ ms) = ap₂ (λ (b : Bool) (o : Option Node). cond b (Some (file_moved m).1) o) (same_behind d q m.1) (each ms)

  pub merged_region : (q : PathV) → q ≢ [] → owned (d ++ q) ≡ true → map.get (merged naming c) q ≡ map.get (merged naming s) (d ++ q)
  merged_region q some is =
      get-merged naming c q
      ∙ ap₂ (λ (o r : Option Node). option_or o r) (sym (copies_same q is)) (node (in_trees c q) refl)
      ∙ sym (get-merged naming s (d ++ q))
    where
      node : (b : Bool) → in_trees c q ≡ b → (if in_trees c q then node_at c q else None) ≡ (if in_trees s (d ++ q) then node_at s (d ++ q) else None)
      node true here =
          ap (λ (b : Bool). if b then node_at c q else None) here ∙ region.stands q here
          ∙ sym (ap (λ (b : Bool). if b then node_at s (d ++ q) else None) (sym (region.known q some is) ∙ here))
      node false out =
          ap (λ (b : Bool). if b then node_at c q else None) out
          ∙ sym (ap (λ (b : Bool). if b then node_at s (d ++ q) else None) (sym (region.known q some is) ∙ out))
