-- The steps of a scan: what its calls give, and where it stands in a directory. The key lemmas are Goes-more, Goes-end, leaf_item and dir_item.
use Rattle.std.proofs.Common.{◌≡◌, inl, inr, ℕ, zero, suc, ◌+◌, ◌<◌, ◌≤◌, Bool, true, false, cond, List, [], ◌∷◌, ◌++◌, length, take, get_or, refl, sym, ap, ◌∙◌, subst, Option, Some, IsSome, is_some, Result, Ok, Err, true≢false, arith}
use Rattle.std.proofs.lemmas.List.{take_more, take_all}
use Rattle.std.specs.List.{AllByRecursion}
use Rattle.std.specs.FinMap as map
use Rattle.tree_model.specs.Path.{PathV, path_cmp}
use Rattle.tree_model.specs.PathOrder.{paths_total}
use Rattle.tree_model.proofs.ListedLemmas.{same_path}
use Rattle.tree_model.proofs.MovingLemmas.{In}
use Rattle.block_chunker.specs.declared.cuts.Cuts.{Cuts}
use Rattle.folder_side.specs.declared.error.ScanFault.{ScanFault}
use Rattle.folder_side.specs.declared.findings.Findings.{Findings}
use Rattle.folder_side.specs.declared.folder.Item.{Item}
use Rattle.folder_side.specs.declared.folder.ItemKind.TheVariants as kind
use Rattle.folder_side.specs.declared.folder.Listing.{Listing}
use Rattle.folder_side.specs.declared.holding.Holding.{Holding}
use Rattle.folder_side.specs.declared.holding.Holding.TheVariants.{Dir, File, Other}
use Rattle.folder_side.specs.Folder.{Contents, IsFolder, at, nameless_at, kind_of, items_in, listing_at}
use Rattle.folder_side.specs.Findings.{AreOf, KnowsNameless, Grows, HasTaken, HasTakenItem, HasScanned, Gives}
use Rattle.folder_side.proofs.ListingLemmas.{item_there, ItemThere, listing_is}
use Rattle.folder_side.proofs.FindingsLemmas.{Grows-on, HasScanned-of, HasTakenItem-dir, HasTakenItem-leaf, items-on, items-push, KnowsItem}
use Rattle.ids.proofs.BasicLemmas.{inner_is_some}

-- ---- small steps

some_cond : {X : Type 0} (b : Bool) (v : X) (o : Option X) → is_some (cond b (Some v) o) ≡ cond b true (is_some o)
some_cond true v o = refl
some_cond false v o = refl

pub is_some-insert : {X : Type 0} (m n : map.FinMap path_cmp X) (k : PathV) (v : X) → n ≡ map.insert m k v
    → (q : PathV) → is_some (map.get n q) ≡ cond (same_path q k) true (is_some (map.get m q))
is_some-insert m n k v e q =
    ap (λ m. is_some (map.get m q)) e ∙ ap is_some (map.get-insert paths_total m k v q) ∙ some_cond (same_path q k) v (map.get m q)

not_in_empty : {X : Type 0} (m : map.FinMap path_cmp X) → m ≡ map.empty → (q : PathV) → IsSome (map.get m q) → ⊥
not_in_empty {X = X} m e q h = true≢false (sym h ∙ ap (λ m. is_some (map.get m q)) e ∙ ap is_some (map.get-empty {X = X} path_cmp q))

pub AreOf-empty : (cuts : Cuts) (c : Contents) (found : Findings) → found.paths ≡ map.empty → found.skipped ≡ map.empty → found.nameless ≡ map.empty
    → AreOf cuts c found
AreOf-empty cuts c found paths skipped nameless = record {
  seen = λ q h. absurd (not_in_empty found.paths paths q h);
  skipped = λ q h. absurd (not_in_empty found.skipped skipped q h);
  nameless = λ d h. absurd (not_in_empty found.nameless nameless d h);
  deep = λ q h. absurd (not_in_empty found.paths paths q h);
  big = λ q h. absurd (not_in_empty found.paths paths q h);
}

-- where a scan of a directory stands
pub record Goes (cuts : Cuts) (c : Contents) (dir : PathV) (items : List Item) (index : ℕ) (old now : Findings) : Type 0 where
  pub grows : Grows cuts c old now
  pub nameless : KnowsNameless c now dir
  pub known : AllByRecursion (KnowsItem cuts c dir now) (take index items)

-- ---- what the calls of a scan give

pub dir_nameless : (c : Contents) (dir : PathV) (listing : Listing) → Some listing ≡ listing_at c dir → listing.nameless ≡ nameless_at c dir
dir_nameless c dir listing e = ap (λ (l : Listing). l.nameless) (listing_is c dir listing e)

pub dir_items : (c : Contents) (dir : PathV) (listing : Listing) → Some listing ≡ listing_at c dir → listing.items ≡ items_in c dir
dir_items c dir listing e = ap (λ (l : Listing). l.items) (listing_is c dir listing e)

in_at : {X : Type 0} (xs : List X) (k : ℕ) (d : X) → k < length xs → In (get_or xs k d) xs
in_at [] k d below = absurd (omega arith)
in_at (x ∷ xs) zero d below = inl refl
in_at (x ∷ xs) (suc k) d below = inr (in_at xs k d (omega arith))

-- the item at a place of a directory's listing
pub item_at : (c : Contents) (dir : PathV) (items : List Item) (index : ℕ) (item : Item) → items ≡ items_in c dir → index < length items
    → item ≡ get_or items index item → ItemThere c dir item
item_at c dir items index item is below at_index =
    let there : In item items = subst (λ (i : Item). In i items) (sym at_index) (in_at items index item below) in
    item_there c dir item (subst (In item) is there)

pub Goes-more : (cuts : Cuts) (c : Contents) (dir : PathV) (items : List Item) (index : ℕ) (item : Item) (old now new : Findings)
    → index < length items → item ≡ get_or items index item → Goes cuts c dir items index old now → HasTakenItem cuts c (dir ++ item.name ∷ []) now new
    → Goes cuts c dir items (index + 1) old new
Goes-more cuts c dir items index item old now new below is goes taken =
    let more : take (index + 1) items ≡ take index items ++ item ∷ [] = take_more items index item below ∙ ap (λ i. take index items ++ i ∷ []) (sym is) in
    record {
      grows = Grows-on cuts c old now new goes.grows taken.grows;
      nameless = taken.grows.nameless dir goes.nameless;
      known = subst (AllByRecursion (KnowsItem cuts c dir new)) (sym more)
          (items-push cuts c new dir (take index items) item (items-on cuts c now new dir (take index items) taken.grows goes.known) taken.known);
    }

pub Goes-end : (cuts : Cuts) (c : Contents) (dir : PathV) (items : List Item) (index : ℕ) (old new : Findings) → IsFolder c → items ≡ items_in c dir
    → length items ≤ index → Goes cuts c dir items index old new → HasScanned cuts c dir old new
Goes-end cuts c dir items index old new folder is over goes =
    HasScanned-of cuts c folder old new dir goes.grows goes.nameless
    (subst (AllByRecursion (KnowsItem cuts c dir new)) (take_all index items over ∙ is) goes.known)

pub kind_other : (h : Holding) → kind_of h ≡ kind.Other → h ≡ Other
kind_other Dir e = cc
kind_other (File bytes) e = cc
kind_other Other e = refl

pub kind_file : (h : Holding) → kind_of h ≡ kind.File → (bytes : List ℕ) × (h ≡ File bytes)
kind_file Dir e = cc
kind_file (File bytes) e = (bytes, refl)
kind_file Other e = cc

pub kind_dir : (h : Holding) → kind_of h ≡ kind.Dir → h ≡ Dir
kind_dir Dir e = refl
kind_dir (File bytes) e = cc
kind_dir Other e = cc

pub other_is_no_dir : (o : Option Holding) → o ≡ Some Other → o ≡ Some Dir → ⊥
other_is_no_dir o e f = let g : Some Other ≡ Some Dir = sym e ∙ f in cc

pub file_is_no_dir : (o : Option Holding) (bytes : List ℕ) → o ≡ Some (File bytes) → o ≡ Some Dir → ⊥
file_is_no_dir o bytes e f = let g : Some (File bytes) ≡ Some Dir = sym e ∙ f in cc

pub leaf_item : {T : Type 0} (cuts : Cuts) (c : Contents) (old new : Findings) (dir : PathV) (name : List ℕ) (path : PathV) → path ≡ dir ++ name ∷ [] → IsFolder c
    → (at c path ≡ Some Dir → ⊥) → (r : Result T ScanFault) → Gives c (HasTaken cuts c path old new) r → Gives c (HasTakenItem cuts c (dir ++ name ∷ []) old new) r
leaf_item cuts c old new dir name path is folder no_dir (Ok x) taken =
    subst (λ (p : PathV). HasTakenItem cuts c p old new) is
    (HasTakenItem-leaf cuts c folder old new path (λ e. inner_is_some dir name [] (sym is ∙ e)) no_dir taken)
leaf_item cuts c old new dir name path is folder no_dir (Err fault) past = past

pub dir_item : {T : Type 0} (cuts : Cuts) (c : Contents) (old mid new : Findings) (dir : PathV) (name : List ℕ) (path : PathV) → path ≡ dir ++ name ∷ []
    → HasTaken cuts c path old mid → (r : Result T ScanFault) → Gives c (IsFolder c × HasScanned cuts c path mid new) r
    → Gives c (HasTakenItem cuts c (dir ++ name ∷ []) old new) r
dir_item cuts c old mid new dir name path is taken (Ok x) scanned =
    subst (λ (p : PathV). HasTakenItem cuts c p old new) is (HasTakenItem-dir cuts c old mid new path taken scanned.1)
dir_item cuts c old mid new dir name path is taken (Err fault) past = past
