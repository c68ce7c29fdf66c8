-- What a scan finds, step by step. The key lemmas are HasTaken-seen, HasTaken-other, note_past_limit, HasScanned-of and IsScan-of.
use Rattle.std.proofs.Common.{◌≡◌, ◌≢◌, ◌⊎◌, inl, inr, ℕ, ◌+◌, ◌<◌, ◌≤◌, Bool, true, false, cond, List, [], ◌∷◌, ◌++◌, length, nat_lt, refl, sym, ap, ◌∙◌, subst, append-nil, Option, Some, None, IsSome, is_some, option_and_then, unwrap_or, true≢false, arith, ltb-true}
use Rattle.std.proofs.lemmas.List.{length-map}
use Rattle.std.specs.List.{AllByRecursion}
use Rattle.std.specs.FinMap as map
use Rattle.tree_model.specs.DirectorySurvival.{is_within, is_under}
use Rattle.tree_model.specs.Path.{PathV}
use Rattle.tree_model.specs.PathOrder.{paths_total}
use Rattle.tree_model.proofs.BelowLemmas.{within_is, under_of}
use Rattle.tree_model.proofs.ListedLemmas.{same_path, same_path-true, same_path-itself}
use Rattle.tree_model.proofs.MovingLemmas.{In}
use Rattle.block_chunker.specs.declared.cuts.Cuts.{Cuts}
use Rattle.folder_side.specs.declared.error.ScanFault.TheVariants as fault
use Rattle.folder_side.specs.declared.findings.Findings.{Findings}
use Rattle.folder_side.specs.declared.folder.Item.{Item}
use Rattle.folder_side.specs.declared.holding.Holding.{Holding}
use Rattle.folder_side.specs.declared.holding.Holding.TheVariants.{Dir, File, Other}
use Rattle.folder_side.specs.declared.scan_report.Scan.{Scan}
use Rattle.folder_side.specs.declared.scan_report.Seen.{Seen}
use Rattle.folder_side.specs.Folder.{Contents, IsFolder, at, nameless_at, is_other, kind_of, items_in}
use Rattle.folder_side.specs.ScanReport.{seen_of, is_visible, visible_count, IsScan, IsWithinLimits, IsPastLimit}
use Rattle.folder_side.specs.Findings.{seen_at, skips, is_skipped, has_nameless, IsSmall, AreOf, Knows, KnowsNameless, Grows, HasTaken, KnowsWithin, HasTakenItem, HasScanned, Reports}
use Rattle.folder_side.proofs.SortedEntryLemmas.{Rises-entries, passes, same_keys, fewer_keys, length_chosen}
use Rattle.folder_side.proofs.ListingLemmas.{item_of_path, above, none_below}
use Rattle.tree_model.specs.declared.limits.TheConstants.{MAX_NAMES, MAX_PATHS}
use Rattle.tree_model.proofs.SettledLemmas.{under_some}

both_same : (a b : Bool) → (a ≡ true → b ≡ true) → b ≡ false → a ≡ b
both_same true b more none = sym (more refl)
both_same false b more none = sym none

module _ (cuts : Cuts) (c : Contents) where
  -- where nothing is to be seen, nothing was
  pub unseen : (found : Findings) (q : PathV) → AreOf cuts c found → seen_at cuts c q ≡ None → map.get found.paths q ≡ seen_at cuts c q
  unseen found q are none = by (map.get found.paths q) refl
    where
      by : (o : Option Seen) → map.get found.paths q ≡ o → map.get found.paths q ≡ seen_at cuts c q
      by None e = e ∙ sym none
      by (Some s) e = are.seen q (ap is_some e)

  pub unskipped : (found : Findings) (q : PathV) → AreOf cuts c found → is_skipped c q ≡ false → is_some (map.get found.skipped q) ≡ is_skipped c q
  unskipped found q are none = both_same (is_some (map.get found.skipped q)) (is_skipped c q) (are.skipped q) none

  pub Knows-none : (found : Findings) (q : PathV) → AreOf cuts c found → at c q ≡ None → Knows cuts c found q
  Knows-none found q are none = record {
    seen = unseen found q are (ap (option_and_then (seen_of cuts)) none);
    skipped = unskipped found q are (ap skips none);
  }

  pub KnowsNameless-none : (found : Findings) (d : PathV) → AreOf cuts c found → has_nameless c d ≡ false → KnowsNameless c found d
  KnowsNameless-none found d are none = both_same (is_some (map.get found.nameless d)) (has_nameless c d) (are.nameless d) none

  pub Grows-itself : (found : Findings) → AreOf cuts c found → Grows cuts c found found
  Grows-itself found are = record { are_of = are; entries = λ q h. h; nameless = λ d h. h }

  pub Grows-on : (a b d : Findings) → Grows cuts c a b → Grows cuts c b d → Grows cuts c a d
  Grows-on a b d g h = record {
    are_of = h.are_of;
    entries = λ q k. h.entries q (g.entries q k);
    nameless = λ q k. h.nameless q (g.nameless q k);
  }

  pub KnowsWithin-on : (a b : Findings) (path : PathV) → Grows cuts c a b → KnowsWithin cuts c a path → KnowsWithin cuts c b path
  KnowsWithin-on a b path g k = record {
    entries = λ q w. g.entries q (k.entries q w);
    nameless = λ q w. g.nameless q (k.nameless q w);
  }

  -- ---- one more entry

  seen_is_not_skipped : (o : Option Holding) (s : Seen) (q : PathV) → at c q ≡ o → option_and_then (seen_of cuts) o ≡ Some s → is_skipped c q ≡ false
  seen_is_not_skipped None s q is e = cc
  seen_is_not_skipped (Some Dir) s q is e = rw is refl
  seen_is_not_skipped (Some (File bytes)) s q is e = rw is refl
  seen_is_not_skipped (Some Other) s q is e = cc

  abbrev pub with_seen : Findings → PathV → Seen → Findings
  with_seen found path seen = record found { paths = map.insert found.paths path seen }

  module _ (old : Findings) (path : PathV) (seen : Seen) (are : AreOf cuts c old) (is : seen_at cuts c path ≡ Some seen) where
    abbrev grown : Findings
    grown = with_seen old path seen

    got : (q : PathV) → map.get (map.insert old.paths path seen) q ≡ cond (same_path q path) (Some seen) (map.get old.paths q)
    got q = map.get-insert paths_total old.paths path seen q

    here : (q : PathV) → same_path q path ≡ true → map.get grown.paths q ≡ seen_at cuts c q
    here q same = got q ∙ ap (λ b. cond b (Some seen) (map.get old.paths q)) same ∙ sym is ∙ ap (seen_at cuts c) (sym (same_path-true q path same))

    there : (q : PathV) → same_path q path ≡ false → map.get grown.paths q ≡ map.get old.paths q
    there q apart = got q ∙ ap (λ b. cond b (Some seen) (map.get old.paths q)) apart

    AreOf-seen : length path ≤ MAX_NAMES → IsSmall c path → AreOf cuts c grown
    AreOf-seen short small = record {
      seen = λ q h. seen_by q h (same_path q path) refl;
      skipped = are.skipped;
      nameless = are.nameless;
      deep = λ q h. deep_by q h (same_path q path) refl;
      big = λ q h. big_by q h (same_path q path) refl;
    }
      where
        seen_by : (q : PathV) → IsSome (map.get grown.paths q) → (b : Bool) → same_path q path ≡ b → map.get grown.paths q ≡ seen_at cuts c q
        seen_by q h true e = here q e
        seen_by q h false e = there q e ∙ are.seen q (ap is_some (sym (there q e)) ∙ h)

        deep_by : (q : PathV) → IsSome (map.get grown.paths q) → (b : Bool) → same_path q path ≡ b → length q ≤ MAX_NAMES
        deep_by q h true e = subst (λ (p : PathV). length p ≤ MAX_NAMES) (sym (same_path-true q path e)) short
        deep_by q h false e = are.deep q (ap is_some (sym (there q e)) ∙ h)

        big_by : (q : PathV) → IsSome (map.get grown.paths q) → (b : Bool) → same_path q path ≡ b → IsSmall c q
        big_by q h true e = subst (IsSmall c) (sym (same_path-true q path e)) small
        big_by q h false e = are.big q (ap is_some (sym (there q e)) ∙ h)

    pub HasTaken-seen : length path ≤ MAX_NAMES → IsSmall c path → HasTaken cuts c path old grown
    HasTaken-seen short small = record {
      grows = record {
        are_of = AreOf-seen short small;
        entries = λ q k. record { seen = seen_by q k (same_path q path) refl; skipped = k.skipped };
        nameless = λ d k. k;
      };
      known = record {
        seen = here path (same_path-itself path);
        skipped = unskipped old path are (seen_is_not_skipped (at c path) seen path refl is);
      };
    }
      where
        seen_by : (q : PathV) → Knows cuts c old q → (b : Bool) → same_path q path ≡ b → map.get grown.paths q ≡ seen_at cuts c q
        seen_by q k true e = here q e
        seen_by q k false e = there q e ∙ k.seen

  -- ---- too many

  visible_seen : (o : Option Holding) → is_some (option_and_then (seen_of cuts) o) ≡ passes is_visible o
  visible_seen None = refl
  visible_seen (Some Dir) = refl
  visible_seen (Some (File bytes)) = refl
  visible_seen (Some Other) = refl

  -- no more was seen than is visible
  pub seen_count : (found : Findings) → AreOf cuts c found → map.len found.paths ≤ visible_count c
  seen_count found are =
      let fewer = fewer_keys is_visible (map.entries c.paths) (Rises-entries c.paths) (map.entries found.paths) (Rises-entries found.paths)
      (λ q h.
      let some : is_some (map.get found.paths q) ≡ true = ap is_some (map.get-entries found.paths q) ∙ h in
      ap (passes is_visible) (sym (map.get-entries c.paths q)) ∙ sym (visible_seen (at c q)) ∙ ap is_some (sym (are.seen q some)) ∙ some) in
      omega (arith, fewer, map.len-entries found.paths, length_chosen is_visible (map.entries c.paths))

  -- all that is visible was seen
  pub all_count : (found : Findings) → ((q : PathV) → map.get found.paths q ≡ seen_at cuts c q) → visible_count c ≡ map.len found.paths
  all_count found all =
      let same = same_keys is_visible (map.entries c.paths) (Rises-entries c.paths) (map.entries found.paths) (Rises-entries found.paths)
      (λ q. ap is_some (sym (map.get-entries found.paths q)) ∙ ap is_some (all q) ∙ visible_seen (at c q) ∙ ap (passes is_visible) (map.get-entries c.paths q)) in
      sym (length_chosen is_visible (map.entries c.paths)) ∙ ap length (sym same) ∙ length-map (map.entries found.paths) (λ e. e.0)
      ∙ sym (map.len-entries found.paths)

  pub note_past_limit : (found : Findings) (path : PathV) (seen : Seen) → AreOf cuts c found → seen_at cuts c path ≡ Some seen → length path ≤ MAX_NAMES → IsSmall c path
      → map.len found.paths ≤ MAX_PATHS → (count : ℕ) → count ≡ map.len (map.insert found.paths path seen) → MAX_PATHS < count → IsPastLimit c (fault.TooMany count)
  note_past_limit found path seen are is short small few count e many =
      let next = HasTaken-seen found path seen are is short small in
      let most = seen_count (with_seen found path seen) next.grows.are_of in
      let grown = map.len-insert paths_total found.paths path seen in
      let one = one_more (map.contains_key found.paths path) (map.len found.paths) in
      (omega (arith, few, e, many, grown, one), omega (arith, e, many, most))
    where
      one_more : (b : Bool) (n : ℕ) → cond b n (n + 1) ≤ n + 1
      one_more true n = omega arith
      one_more false n = omega arith

  -- ---- another entry, and a directory with nameless ones

  pub HasTaken-other : (old : Findings) (path : PathV) (new : Findings) → AreOf cuts c old → at c path ≡ Some Other
      → new.paths ≡ old.paths → new.nameless ≡ old.nameless
      → ((q : PathV) → is_some (map.get new.skipped q) ≡ cond (same_path q path) true (is_some (map.get old.skipped q)))
      → HasTaken cuts c path old new
  HasTaken-other old path new are is paths nameless skipped = record {
    grows = record {
      are_of = record {
        seen = λ q h. ap (λ m. map.get m q) paths ∙ are.seen q (ap (λ m. is_some (map.get m q)) (sym paths) ∙ h);
        skipped = λ q h. skipped_by q h (same_path q path) refl;
        nameless = λ d h. are.nameless d (ap (λ m. is_some (map.get m d)) (sym nameless) ∙ h);
        deep = λ q h. are.deep q (ap (λ m. is_some (map.get m q)) (sym paths) ∙ h);
        big = λ q h. are.big q (ap (λ m. is_some (map.get m q)) (sym paths) ∙ h);
      };
      entries = λ q k. record { seen = ap (λ m. map.get m q) paths ∙ k.seen; skipped = known_by q k (same_path q path) refl };
      nameless = λ d k. ap (λ m. is_some (map.get m d)) nameless ∙ k;
    };
    known = record {
      seen = ap (λ m. map.get m path) paths ∙ unseen old path are (ap (option_and_then (seen_of cuts)) is);
      skipped = skipped path ∙ ap (λ b. cond b true (is_some (map.get old.skipped path))) (same_path-itself path) ∙ sym there;
    };
  }
    where
      there : is_skipped c path ≡ true
      there = rw is refl

      at_path : (q : PathV) → same_path q path ≡ true → is_skipped c q ≡ true
      at_path q e = ap (is_skipped c) (same_path-true q path e) ∙ there

      skipped_by : (q : PathV) → IsSome (map.get new.skipped q) → (b : Bool) → same_path q path ≡ b → is_skipped c q ≡ true
      skipped_by q h true e = at_path q e
      skipped_by q h false e = are.skipped q (sym (skipped q ∙ ap (λ b. cond b true (is_some (map.get old.skipped q))) e) ∙ h)

      known_by : (q : PathV) → Knows cuts c old q → (b : Bool) → same_path q path ≡ b → is_some (map.get new.skipped q) ≡ is_skipped c q
      known_by q k true e = skipped q ∙ ap (λ b. cond b true (is_some (map.get old.skipped q))) e ∙ sym (at_path q e)
      known_by q k false e = skipped q ∙ ap (λ b. cond b true (is_some (map.get old.skipped q))) e ∙ k.skipped

  pub Grows-nameless : (old : Findings) (dir : PathV) (new : Findings) → AreOf cuts c old → has_nameless c dir ≡ true
      → new.paths ≡ old.paths → new.skipped ≡ old.skipped
      → ((q : PathV) → is_some (map.get new.nameless q) ≡ cond (same_path q dir) true (is_some (map.get old.nameless q)))
      → Grows cuts c old new × KnowsNameless c new dir
  Grows-nameless old dir new are is paths skipped nameless = (
    record {
      are_of = record {
        seen = λ q h. ap (λ m. map.get m q) paths ∙ are.seen q (ap (λ m. is_some (map.get m q)) (sym paths) ∙ h);
        skipped = λ q h. are.skipped q (ap (λ m. is_some (map.get m q)) (sym skipped) ∙ h);
        nameless = λ d h. nameless_by d h (same_path d dir) refl;
        deep = λ q h. are.deep q (ap (λ m. is_some (map.get m q)) (sym paths) ∙ h);
        big = λ q h. are.big q (ap (λ m. is_some (map.get m q)) (sym paths) ∙ h);
      };
      entries = λ q k. record { seen = ap (λ m. map.get m q) paths ∙ k.seen; skipped = ap (λ m. is_some (map.get m q)) skipped ∙ k.skipped };
      nameless = λ d k. known_by d k (same_path d dir) refl;
    },
    nameless dir ∙ ap (λ b. cond b true (is_some (map.get old.nameless dir))) (same_path-itself dir) ∙ sym is,
  )
    where
      at_dir : (q : PathV) → same_path q dir ≡ true → has_nameless c q ≡ true
      at_dir q e = ap (has_nameless c) (same_path-true q dir e) ∙ is

      nameless_by : (q : PathV) → IsSome (map.get new.nameless q) → (b : Bool) → same_path q dir ≡ b → has_nameless c q ≡ true
      nameless_by q h true e = at_dir q e
      nameless_by q h false e = are.nameless q (sym (nameless q ∙ ap (λ b. cond b true (is_some (map.get old.nameless q))) e) ∙ h)

      known_by : (q : PathV) → KnowsNameless c old q → (b : Bool) → same_path q dir ≡ b → KnowsNameless c new q
      known_by q k true e = nameless q ∙ ap (λ b. cond b true (is_some (map.get old.nameless q))) e ∙ sym (at_dir q e)
      known_by q k false e = nameless q ∙ ap (λ b. cond b true (is_some (map.get old.nameless q))) e ∙ k

  -- ---- an entry with what lies under it

  pub within_split : (d q : PathV) → is_within d q ≡ true → (q ≡ d) ⊎ (is_under d q ≡ true)
  within_split d q e = by (within_is d q e).0 (within_is d q e).1
    where
      by : (r : PathV) → q ≡ d ++ r → (q ≡ d) ⊎ (is_under d q ≡ true)
      by [] is = inl (is ∙ append-nil d)
      by (n ∷ r) is = inr (subst (λ p. is_under d p ≡ true) (sym is) (under_of d n r))

  -- where there is no directory there are no nameless entries
  no_nameless : IsFolder c → (q : PathV) → q ≢ [] → (at c q ≡ Some Dir → ⊥) → has_nameless c q ≡ false
  no_nameless folder q other no_dir = by (has_nameless c q) refl
    where
      by : (b : Bool) → has_nameless c q ≡ b → has_nameless c q ≡ false
      by true e = absurd (no_dir (folder.nameless_in_dirs q other (ltb-true 0 (nameless_at c q) e)))
      by false e = e

  none_is_no_dir : (q : PathV) → at c q ≡ None → at c q ≡ Some Dir → ⊥
  none_is_no_dir q none is = true≢false (ap is_some (sym is ∙ none))

  -- an entry that is no directory
  pub HasTakenItem-leaf : IsFolder c → (old new : Findings) (path : PathV) → path ≢ [] → (at c path ≡ Some Dir → ⊥) → HasTaken cuts c path old new
      → HasTakenItem cuts c path old new
  HasTakenItem-leaf folder old new path some no_dir taken = record {
    grows = taken.grows;
    known = record {
      entries = λ q w. elim (within_split path q w) [
        | inl same ↦ subst (Knows cuts c new) (sym same) taken.known
        | inr under ↦ Knows-none new q taken.grows.are_of (none_below c folder path some no_dir q under)
      ];
      nameless = λ q w. KnowsNameless-none new q taken.grows.are_of (elim (within_split path q w) [
        | inl same ↦ ap (has_nameless c) same ∙ no_nameless folder path some no_dir
        | inr under ↦ no_nameless folder q (under_some path q under) (none_is_no_dir q (none_below c folder path some no_dir q under))
      ]);
    };
  }

  -- a directory
  pub HasTakenItem-dir : (old mid new : Findings) (path : PathV) → HasTaken cuts c path old mid → HasScanned cuts c path mid new
      → HasTakenItem cuts c path old new
  HasTakenItem-dir old mid new path taken scanned = record {
    grows = Grows-on old mid new taken.grows scanned.grows;
    known = record {
      entries = λ q w. elim (within_split path q w) [
        | inl same ↦ subst (Knows cuts c new) (sym same) (scanned.grows.entries path taken.known)
        | inr under ↦ scanned.under q under
      ];
      nameless = scanned.nameless;
    };
  }

  -- ---- a directory whose items were all taken

  abbrev pub KnowsItem : PathV → Findings → Item → Type 0
  KnowsItem dir found item = KnowsWithin cuts c found (dir ++ item.name ∷ [])

  pub items-on : (a b : Findings) (dir : PathV) (items : List Item) → Grows cuts c a b → AllByRecursion (KnowsItem dir a) items → AllByRecursion (KnowsItem dir b) items
  items-on a b dir [] g all = tt
  items-on a b dir (item ∷ items) g all = (KnowsWithin-on a b (dir ++ item.name ∷ []) g all.0, items-on a b dir items g all.1)

  pub items-push : (found : Findings) (dir : PathV) (items : List Item) (item : Item) → AllByRecursion (KnowsItem dir found) items → KnowsItem dir found item
      → AllByRecursion (KnowsItem dir found) (items ++ item ∷ [])
  items-push found dir [] item all last = (last, tt)
  items-push found dir (first ∷ items) item all last = (all.0, items-push found dir items item all.1 last)

  item_known : (found : Findings) (dir : PathV) (items : List Item) (item : Item) → AllByRecursion (KnowsItem dir found) items → In item items → KnowsItem dir found item
  item_known found dir [] item all there = absurd there
  item_known found dir (first ∷ items) item all (inl same) = subst (KnowsItem dir found) (sym same) all.0
  item_known found dir (first ∷ items) item all (inr there) = item_known found dir items item all.1 there

  pub HasScanned-of : IsFolder c → (old new : Findings) (dir : PathV) → Grows cuts c old new → KnowsNameless c new dir
      → AllByRecursion (KnowsItem dir new) (items_in c dir) → HasScanned cuts c dir old new
  HasScanned-of folder old new dir grows known all = record {
    grows = grows;
    under = λ q u. under_by q u (at c q) refl;
    nameless = λ q w. elim (within_split dir q w) [
      | inl same ↦ subst (KnowsNameless c new) (sym same) known
      | inr under ↦ nameless_by q under (has_nameless c q) refl
    ];
  }
    where
      within : (q : PathV) → is_under dir q ≡ true → IsSome (at c q) → (name : List ℕ) × ((is_within (dir ++ name ∷ []) q ≡ true) × KnowsWithin cuts c new (dir ++ name ∷ []))
      within q u there =
          let up = above c folder dir q u there in
          (up.name, (up.within, item_known new dir (items_in c dir) (record { name = up.name; kind = kind_of up.holding }) all (item_of_path c dir up.name up.holding up.there)))

      under_by : (q : PathV) → is_under dir q ≡ true → (o : Option Holding) → at c q ≡ o → Knows cuts c new q
      under_by q u None e = Knows-none new q grows.are_of e
      under_by q u (Some h) e = let up = within q u (ap is_some e) in up.1.1.entries q up.1.0

      nameless_by : (q : PathV) → is_under dir q ≡ true → (b : Bool) → has_nameless c q ≡ b → KnowsNameless c new q
      nameless_by q u false e = KnowsNameless-none new q grows.are_of e
      nameless_by q u true e =
          let is_dir = folder.nameless_in_dirs q (under_some dir q u) (ltb-true 0 (nameless_at c q) e) in
          let up = within q u (ap is_some is_dir) in
          up.1.1.nameless q up.1.0

  -- ---- a whole folder

  pub scan_knows : IsFolder c → (old new : Findings) → HasScanned cuts c [] old new → (q : PathV) → Knows cuts c new q
  scan_knows folder old new scanned [] = Knows-none new [] scanned.grows.are_of folder.no_root
  scan_knows folder old new scanned (n ∷ q) = scanned.under (n ∷ q) refl

  visible_seen_at : (o : Option Holding) (h : Holding) → o ≡ Some h → is_visible h ≡ true → is_some (option_and_then (seen_of cuts) o) ≡ true
  visible_seen_at o Dir e v = ap (λ o. is_some (option_and_then (seen_of cuts) o)) e
  visible_seen_at o (File bytes) e v = ap (λ o. is_some (option_and_then (seen_of cuts) o)) e
  visible_seen_at o Other e v = absurd (true≢false (sym v))

  pub IsWithinLimits-of : IsFolder c → (old new : Findings) → HasScanned cuts c [] old new → map.len new.paths ≤ MAX_PATHS → IsWithinLimits c
  IsWithinLimits-of folder old new scanned few = record {
    deep = λ q h is v. scanned.grows.are_of.deep q (there q h is v);
    many = omega (arith, all_count new (λ q. (scan_knows folder old new scanned q).seen), few);
    big = λ q bytes is. scanned.grows.are_of.big q (there q (File bytes) is refl) bytes is;
  }
    where
      there : (q : PathV) (h : Holding) → at c q ≡ Some h → is_visible h ≡ true → IsSome (map.get new.paths q)
      there q h is v = ap is_some (scan_knows folder old new scanned q).seen ∙ visible_seen_at (at c q) h is v

  skips_passes : (o : Option Holding) → skips o ≡ passes is_other o
  skips_passes None = refl
  skips_passes (Some h) = refl

  counts_passes : (o : Option ℕ) → nat_lt 0 (unwrap_or o 0) ≡ passes (nat_lt 0) o
  counts_passes None = refl
  counts_passes (Some n) = refl

  pub IsScan-of : IsFolder c → (old new : Findings) → HasScanned cuts c [] old new → (scan : Scan) → Reports new scan → IsScan cuts c scan
  IsScan-of folder old new scanned scan told = record {
    paths = λ q. ap (λ m. map.get m q) told.paths ∙ (scan_knows folder old new scanned q).seen;
    skipped =
        told.skipped
        ∙ same_keys is_other (map.entries c.paths) (Rises-entries c.paths) (map.entries new.skipped) (Rises-entries new.skipped)
        (λ q. ap is_some (sym (map.get-entries new.skipped q)) ∙ (scan_knows folder old new scanned q).skipped ∙ skips_passes (at c q)
        ∙ ap (passes is_other) (map.get-entries c.paths q));
    nameless =
        told.nameless
        ∙ same_keys (nat_lt 0) (map.entries c.nameless) (Rises-entries c.nameless) (map.entries new.nameless) (Rises-entries new.nameless)
        (λ q. ap is_some (sym (map.get-entries new.nameless q)) ∙ scanned.nameless q refl ∙ counts_passes (map.get c.nameless q)
        ∙ ap (passes (nat_lt 0)) (map.get-entries c.nameless q));
  }
