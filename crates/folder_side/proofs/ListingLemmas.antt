-- The listings of a folder that tells what it holds. The key lemmas are listing_is, item_there, item_of_path and IsFolder-above.
use Rattle.std.proofs.Common.{◌≡◌, ◌≢◌, inl, inr, ℕ, Bool, true, false, if◌then◌else◌, List, [], ◌∷◌, ◌++◌, nat_eq, refl, sym, ap, ◌∙◌, subst, append_assoc, append-nil, Option, Some, None, IsSome, is_some, option_map}
use Rattle.std.specs.Cmp.Lexicographic.{pointwise, bytes_decides}
use Rattle.std.specs.List.{filter_map, cons_option}
use Rattle.std.specs.FinMap as map
use Rattle.tree_model.specs.DirectorySurvival.{is_within, is_under}
use Rattle.tree_model.specs.Path.{PathV}
use Rattle.tree_model.proofs.BelowLemmas.{name_itself, under_is, within_of}
use Rattle.tree_model.proofs.MovingLemmas.{In, in_found}
use Rattle.folder_side.specs.declared.folder.Item.{Item}
use Rattle.folder_side.specs.declared.folder.Listing.{Listing}
use Rattle.folder_side.specs.declared.holding.Holding.{Holding}
use Rattle.folder_side.specs.declared.holding.Holding.TheVariants.{Dir}
use Rattle.folder_side.specs.Folder.{Contents, IsFolder, at, kind_of, name_in, item_of, items_in, listing_in, listing_at, is_dir_at}
use Rattle.folder_side.proofs.SortedEntryLemmas.{Rises-entries, found_of}
use Rattle.ids.proofs.BasicLemmas.{pushed_is_some}

-- a listing is that of its directory
pub listing_is : (c : Contents) (dir : PathV) (listing : Listing) → Some listing ≡ listing_at c dir → listing ≡ listing_in c dir
listing_is c dir listing e = by (is_dir_at c dir) e
  where
    by : (b : Bool) → Some listing ≡ (if b then Some (listing_in c dir) else None) → listing ≡ listing_in c dir
    by true e = cc
    by false e = cc

-- ---- names in a directory

pub name_in-push : (dir : PathV) (name : List ℕ) → name_in dir (dir ++ name ∷ []) ≡ Some name
name_in-push [] name = refl
name_in-push (d ∷ dir) name = ap (λ b. if b then name_in dir (dir ++ name ∷ []) else None) (name_itself d) ∙ name_in-push dir name

pub name_in-is : (dir path : PathV) (name : List ℕ) → name_in dir path ≡ Some name → path ≡ dir ++ name ∷ []
name_in-is [] [] name e = cc
name_in-is [] (n ∷ []) name e = cc
name_in-is [] (n ∷ m ∷ path) name e = cc
name_in-is (d ∷ dir) [] name e = cc
name_in-is (d ∷ dir) (n ∷ path) name e = by (pointwise nat_eq d n) refl e (name_in-is dir path name)
  where
    by : (b : Bool) → pointwise nat_eq d n ≡ b → (if b then name_in dir path else None) ≡ Some name → (name_in dir path ≡ Some name → path ≡ dir ++ name ∷ [])
        → n ∷ path ≡ d ∷ (dir ++ name ∷ [])
    by true is e more = let rest = more e in λ i. sym ((bytes_decides d n).0 is) i ∷ rest i
    by false is e more = cc

-- ---- what is listed

in_filtered : {X Y : Type 0} (f : X → Option Y) (xs : List X) (x : X) (y : Y) → In x xs → f x ≡ Some y → In y (filter_map f xs)
in_filtered f [] x y there e = absurd there
in_filtered {Y = Y} f (z ∷ xs) x y (inl is) e =
    subst (λ (o : Option Y). In y (cons_option o (filter_map f xs))) (sym (ap f (sym is) ∙ e)) (inl refl)
in_filtered {Y = Y} f (z ∷ xs) x y (inr there) e = behind (f z) (in_filtered f xs x y there e)
  where
    behind : (o : Option Y) → In y (filter_map f xs) → In y (cons_option o (filter_map f xs))
    behind None h = h
    behind (Some w) h = inr h

pub record Filtered {X Y : Type 0} (f : X → Option Y) (xs : List X) (y : Y) : Type 0 where
  pub from : X
  pub there : In from xs
  pub gives : f from ≡ Some y

filtered_from : {X Y : Type 0} (f : X → Option Y) (xs : List X) (y : Y) → In y (filter_map f xs) → Filtered f xs y
filtered_from f [] y there = absurd there
filtered_from {X = X} {Y = Y} f (x ∷ xs) y there = by (f x) refl there (filtered_from f xs y)
  where
    by : (o : Option Y) → f x ≡ o → In y (cons_option o (filter_map f xs)) → (In y (filter_map f xs) → Filtered f xs y) → Filtered f (x ∷ xs) y
    by None is there more =
        let rest = more there in
        record { from = rest.from; there = inr rest.there; gives = rest.gives }
    by (Some z) is (inl same) more = record { from = x; there = inl refl; gives = is ∙ ap Some (sym same) }
    by (Some z) is (inr there) more =
        let rest = more there in
        record { from = rest.from; there = inr rest.there; gives = rest.gives }

-- what an item tells of the folder
pub record ItemThere (c : Contents) (dir : PathV) (item : Item) : Type 0 where
  pub holding : Holding
  pub there : at c (dir ++ item.name ∷ []) ≡ Some holding
  pub kind : item.kind ≡ kind_of holding

pub item_there : (c : Contents) (dir : PathV) (item : Item) → In item (items_in c dir) → ItemThere c dir item
item_there c dir item there =
    let from = filtered_from (item_of dir) (map.entries c.paths) item there in
    named from (name_in dir from.from.0) refl from.gives
  where
    named : (from : Filtered (item_of dir) (map.entries c.paths) item) (o : Option (List ℕ)) → name_in dir from.from.0 ≡ o
        → option_map (λ name. record { name = name; kind = kind_of from.from.1 }) o ≡ Some item → ItemThere c dir item
    named from None is e = cc
    named from (Some name) is e =
        let same : record { name = name; kind = kind_of from.from.1 } ≡ item = cc in
        let path = name_in-is dir from.from.0 name is in
        let found = found_of (map.entries c.paths) from.from (Rises-entries c.paths) from.there in
        record {
          holding = from.from.1;
          there =
              ap (λ n. at c (dir ++ n ∷ [])) (sym (ap (λ (i : Item). i.name) same)) ∙ ap (at c) (sym path)
              ∙ map.get-entries c.paths from.from.0 ∙ found;
          kind = sym (ap (λ (i : Item). i.kind) same);
        }

-- and each entry of a directory is listed
pub item_of_path : (c : Contents) (dir : PathV) (name : List ℕ) (holding : Holding) → at c (dir ++ name ∷ []) ≡ Some holding
    → In (record { name = name; kind = kind_of holding }) (items_in c dir)
item_of_path c dir name holding there =
    let path : PathV = dir ++ name ∷ [] in
    in_filtered (item_of dir) (map.entries c.paths) (path, holding) (record { name = name; kind = kind_of holding })
    (in_found (map.entries c.paths) path holding (sym (map.get-entries c.paths path) ∙ there))
    (ap (option_map (λ name. record { name = name; kind = kind_of holding })) (name_in-push dir name))

-- ---- what lies above

-- what has an entry below it is a directory
pub dir_above : (c : Contents) → IsFolder c → (d : PathV) (n : List ℕ) (r : PathV) → d ≢ [] → IsSome (at c (d ++ n ∷ r)) → at c d ≡ Some Dir
dir_above c folder d n [] other there = folder.in_dirs d n other there
dir_above c folder d n (m ∷ r) other there =
    let split : (d ++ n ∷ []) ++ m ∷ r ≡ d ++ n ∷ m ∷ r = append_assoc d (n ∷ []) (m ∷ r) in
    let next = dir_above c folder (d ++ n ∷ []) m r (pushed_is_some d n) (subst (λ p. IsSome (at c p)) (sym split) there) in
    folder.in_dirs d n other (ap is_some next)

-- an entry under a directory lies within one that the directory lists
pub record Above (c : Contents) (dir path : PathV) : Type 0 where
  pub name : List ℕ
  pub within : is_within (dir ++ name ∷ []) path ≡ true
  pub holding : Holding
  pub there : at c (dir ++ name ∷ []) ≡ Some holding

some_is : {X : Type 0} (o : Option X) → IsSome o → (x : X) × (o ≡ Some x)
some_is None e = cc
some_is (Some x) e = (x, refl)

pub above : (c : Contents) → IsFolder c → (dir path : PathV) → is_under dir path ≡ true → IsSome (at c path) → Above c dir path
above c folder dir path under there =
    let below = under_is dir path under in
    by below.name below.rest below.is
  where
    by : (name : List ℕ) (rest : PathV) → path ≡ dir ++ name ∷ rest → Above c dir path
    by name [] is =
        let found = some_is (at c path) there in
        record { name = name; within = subst (λ p. is_within (dir ++ name ∷ []) p ≡ true) (sym (is ∙ sym (append-nil (dir ++ name ∷ [])))) (within_of (dir ++ name ∷ []) []); holding = found.0; there = ap (at c) (sym is) ∙ found.1 }
    by name (m ∷ rest) is =
        let split : (dir ++ name ∷ []) ++ m ∷ rest ≡ dir ++ name ∷ m ∷ rest = append_assoc dir (name ∷ []) (m ∷ rest) in
        let dir_there = dir_above c folder (dir ++ name ∷ []) m rest (pushed_is_some dir name) (subst (λ p. IsSome (at c p)) (is ∙ sym split) there) in
        record { name = name; within = subst (λ p. is_within (dir ++ name ∷ []) p ≡ true) (split ∙ sym is) (within_of (dir ++ name ∷ []) (m ∷ rest)); holding = Dir; there = dir_there }

-- below what is no directory there is nothing
pub none_below : (c : Contents) → IsFolder c → (d : PathV) → d ≢ [] → (at c d ≡ Some Dir → ⊥) → (q : PathV) → is_under d q ≡ true → at c q ≡ None
none_below c folder d other no_dir q under = by (at c q) refl
  where
    by : (o : Option Holding) → at c q ≡ o → at c q ≡ None
    by None e = e
    by (Some h) e =
        let below = under_is d q under in
        absurd (no_dir (dir_above c folder d below.name below.rest other (subst (λ p. IsSome (at c p)) below.is (ap is_some e))))
