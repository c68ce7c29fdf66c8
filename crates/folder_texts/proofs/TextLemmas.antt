-- A file that is read whole, and one that isn't listed. The key lemmas are read-more, read-end, file-of and no-file.
use Rattle.std.proofs.Common.{◌≡◌, inl, inr, ℕ, ◌+◌, ◌≤◌, Bool, true, false, ◌&&◌, ◌||◌, List, [], ◌∷◌, ◌++◌, length, take, drop, nat_eq, refl, sym, ap, ◌∙◌, arith, subst, Option, Some, None, is_some}
use Rattle.std.specs.Cmp.Lexicographic.{pointwise, bytes_decides}
use Rattle.std.specs.List.{list_any}
use Rattle.std.proofs.lemmas.Bool.{and_parts}
use Rattle.std.proofs.lemmas.List.{length-append, length-drop, length-take-le, take_all}
use Rattle.std.proofs.Math.Seq.{take-add}
use Rattle.tree_model.specs.Path.{PathV}
use Rattle.tree_model.proofs.BelowLemmas.{name_itself}
use Rattle.tree_model.proofs.MovingLemmas.{In}
use Rattle.folder_side.specs.declared.folder.Item.{Item}
use Rattle.folder_side.specs.declared.folder.Listing.{Listing}
use Rattle.folder_side.specs.declared.folder.ItemKind.TheVariants as kind
use Rattle.folder_side.specs.declared.holding.Holding.{Holding}
use Rattle.folder_side.specs.declared.holding.Holding.TheVariants.{Dir, File, Other}
use Rattle.folder_side.specs.Folder.{Contents, IsPart, PartAt, at, items_in, kind_of, listing_at}
use Rattle.folder_side.proofs.ListingLemmas.{item_of_path, item_there, listing_is}
use Rattle.folder_side.specs.MemoryFolder.{bytes_of}
use Rattle.folder_texts.specs.FolderTexts.{is_file, is_file_of, text_at}

-- one piece on
pub read-more : (bytes so into : List ℕ) (count : ℕ) → so ≡ take (length so) bytes → IsPart bytes (length so) count into
    → so ++ take count into ≡ take (length (so ++ take count into)) bytes
read-more bytes so into count behind part =
    let size : length (so ++ take count into) ≡ length so + count =
    length-append so (take count into) ∙ ap (λ n. length so + n) (ap length part.same ∙ length-take-le count (drop (length so) bytes) part.inside) in
    ap (λ s. s ++ take count into) behind ∙ ap (λ s. take (length so) bytes ++ s) part.same
    ∙ sym (take-add (length so) count bytes) ∙ ap (λ n. take n bytes) (sym size)

-- at the end
pub read-end : (bytes so into : List ℕ) (count : ℕ) → so ≡ take (length so) bytes → IsPart bytes (length so) count into → count ≡ 0 → so ≡ bytes
read-end bytes so into count behind part none =
    let over : length bytes ≤ length so = omega (arith, length-drop (length so) bytes, ap length (part.ends.0 none)) in
    behind ∙ take_all (length so) bytes over

-- what was read to its end is the file
pub file-of : (held : Option Holding) (so into : List ℕ) (count : ℕ)
    → ((bytes : List ℕ) → held ≡ Some (File bytes) → so ≡ take (length so) bytes) → PartAt held (length so) count into → count ≡ 0
    → held ≡ Some (File so)
file-of None so into count behind part none = absurd part
file-of (Some Dir) so into count behind part none = absurd part
file-of (Some Other) so into count behind part none = absurd part
file-of (Some (File bytes)) so into count behind part none = ap (λ b. Some (File b)) (sym (read-end bytes so into count (behind bytes refl) part none))

-- what a read says where a file with these bytes is there
pub part-of : (held : Option Holding) (bytes into : List ℕ) (place count : ℕ) → held ≡ Some (File bytes) → PartAt held place count into → IsPart bytes place count into
part-of held bytes into place count is part = subst (λ here. PartAt here place count into) is part

-- ---- listings

any-in : (f : Item → Bool) (xs : List Item) (x : Item) → In x xs → f x ≡ true → list_any f xs ≡ true
any-in f [] x there is = absurd there
any-in f (y ∷ xs) x (inl same) is = by (f y) (ap f (sym same) ∙ is)
  where
    by : (b : Bool) → b ≡ true → (b || list_any f xs) ≡ true
    by true e = refl
    by false e = cc
any-in f (y ∷ xs) x (inr there) is = by (f y) (any-in f xs x there is)
  where
    by : (b : Bool) → list_any f xs ≡ true → (b || list_any f xs) ≡ true
    by true e = refl
    by false e = e

-- no file of the name is listed, and so none is there
pub no-file : (c : Contents) (listing : Listing) (name : List ℕ) → Some listing ≡ listing_at c [] → false ≡ list_any (is_file_of name) listing.items → None ≡ text_at c name
no-file c listing name listed none = by (at c (name ∷ [])) refl
  where
    items : listing.items ≡ items_in c []
    items = ap (λ (l : Listing). l.items) (listing_is c [] listing listed)

    by : (held : Option Holding) → at c (name ∷ []) ≡ held → None ≡ text_at c name
    by None is = sym (ap bytes_of is)
    by (Some Dir) is = sym (ap bytes_of is)
    by (Some Other) is = sym (ap bytes_of is)
    by (Some (File bytes)) is =
        let item : Item = record { name = name; kind = kind.File } in
        let found : list_any (is_file_of name) listing.items ≡ true =
        any-in (is_file_of name) listing.items item (subst (In item) (sym items) (item_of_path c [] name (File bytes) is)) (ap (λ b. b && true) (name_itself name)) in
        cc

-- what was read whole is the text
pub text-of : (c : Contents) (name bytes : List ℕ) → at c (name ∷ []) ≡ Some (File bytes) → Some bytes ≡ text_at c name
text-of c name bytes is = sym (ap bytes_of is)

record FoundItem (f : Item → Bool) (xs : List Item) : Type 0 where
  item : Item
  there : In item xs
  is : f item ≡ true

any-found : (f : Item → Bool) (xs : List Item) → list_any f xs ≡ true → FoundItem f xs
any-found f [] e = cc
any-found f (x ∷ xs) e = by (f x) refl e (any-found f xs)
  where
    by : (b : Bool) → f x ≡ b → (b || list_any f xs) ≡ true → (list_any f xs ≡ true → FoundItem f xs) → FoundItem f (x ∷ xs)
    by true is e more = record { item = x; there = inl refl; is = is }
    by false is e more = let rest = more e in record { item = rest.item; there = inr rest.there; is = rest.is }

-- a file of the name is listed, and so one is there
found-file : (c : Contents) (listing : Listing) (name : List ℕ) → Some listing ≡ listing_at c [] → list_any (is_file_of name) listing.items ≡ true → is_some (text_at c name) ≡ true
found-file c listing name listed e =
    let items : listing.items ≡ items_in c [] = ap (λ (l : Listing). l.items) (listing_is c [] listing listed) in
    let found = any-found (is_file_of name) listing.items e in
    let it = item_there c [] found.item (subst (In found.item) items found.there) in
    let parts = and_parts (pointwise nat_eq found.item.name name) (is_file found.item.kind) found.is in
    let named : found.item.name ≡ name = (bytes_decides found.item.name name).0 parts.0 in
    by it.holding (subst (λ n. at c (n ∷ []) ≡ Some it.holding) named it.there) (subst (λ k. is_file k ≡ true) it.kind parts.1)
  where
    by : (holding : Holding) → at c (name ∷ []) ≡ Some holding → is_file (kind_of holding) ≡ true → is_some (text_at c name) ≡ true
    by Dir is file = cc
    by (File bytes) is file = ap (λ o. is_some (bytes_of o)) is
    by Other is file = cc

-- a file of the name is listed exactly where one is there
pub listed-is : (c : Contents) (listing : Listing) (name : List ℕ) → Some listing ≡ listing_at c [] → list_any (is_file_of name) listing.items ≡ is_some (text_at c name)
listed-is c listing name listed = by (list_any (is_file_of name) listing.items) refl
  where
    by : (b : Bool) → list_any (is_file_of name) listing.items ≡ b → list_any (is_file_of name) listing.items ≡ is_some (text_at c name)
    by false e = e ∙ ap is_some (no-file c listing name listed (sym e))
    by true e = e ∙ sym (found-file c listing name listed e)
