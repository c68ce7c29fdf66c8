-- A request names a call exactly by that call's method and path. The lemmas that callers want are named_by_path and
-- path_names.
use Rattle.std.proofs.Common.{◌≡◌, ℕ, ◌<◌, Bool, true, false, cond, Option, None, Some, List, [], ◌∷◌, length, get_or, codes, nat_eq, refl, sym, ◌∙◌, ap, subst, arith, inl, inr, ◌⊎◌, not, ne_eqb, All}
use Rattle.std.proofs.lemmas.Bool.{eqb-true, false_from_ne_true, true≢false, not-true}
use Rattle.std.proofs.lemmas.List.Sums.{AllPass-from_list_all}
use Rattle.std.specs.List.{list_all}
use Rattle.hex.proofs.HexLemmas.{decode_of-encode_lower}
use Rattle.uuid.proofs.RoundTrips.{parses_hyphenated}
use Rattle.std.proofs.lemmas.List.Elements.{All-from_get_or}
use Rattle.std.proofs.lemmas.List.Splits.{join_with_byte-slice_split, slice_split_at, slice_split_none}
use Rattle.std.specs.Cmp.Lexicographic.{same_text}
use Rattle.std.specs.List.{join_with_byte}
use Rattle.std.specs.Option.{option_and_then}
use Rattle.std.specs.Str.{bytes_eq}
use Rattle.hex.specs.Hex.{encode_lower}
use Rattle.uuid.specs.Text.{hyphenated_text, is_hyphen_place, lower}
use Rattle.ids.specs.declared.key.Key.{Key}
use Rattle.ids.specs.declared.key.Kind.{Kind}
use Rattle.ids.specs.declared.key.Kind.TheVariants.{Commit, Fs, Block}
use Rattle.ids.specs.Digits.{digits_form, is_lower_digit}
use Rattle.ids.specs.Form.{Form, IsOf}
use Rattle.ids.specs.LibraryId.{library_form}
use Rattle.ids.proofs.DigitsLemmas as digits
use Rattle.ids.proofs.LibraryTextLemmas as library
use Rattle.json_words.specs.IdText.{library_id_of, object_id_of}
use Rattle.ids.specs.Kind.{kind_of, kind_word}
use Rattle.ids.proofs.KindLemmas.{kind_of-has}
use Rattle.http_front.specs.Route.{IsCall, IsLibrary, IsNamed, IsPathKind, head_method, head_route, kind_in_path, library_route, method_in, named_route, object_route, pair_route, parts_in, path_in, path_kind, path_route, repo_route, route_of, top_route, under, version_route, word_route}
use Rattle.http_front.specs.Target.{parts, path_of}
use Rattle.http_front.specs.declared.method.Method.{Method}
use Rattle.http_front.specs.declared.method.Method.TheVariants as method
use Rattle.http_front.specs.declared.route.Route.{Route}
use Rattle.http_front.specs.declared.route.Route.TheVariants.{Version, Check, Head, Update, Get, Put, CheckFs, CheckBlocks, PutFs, GetFs, Ids, Limit, Collect}
use Rattle.json_words.proofs.IdLemmas.{has_form-IsOf}
use Rattle.http_front.proofs.NamedIdLemmas.{id_bytes, id_text, if_some, lib_text, library_bytes}

-- ---- what is read is the text of what it names

and_some : {A : Type 0} (f : A → Option Route) (o : Option A) (r : Route) → option_and_then f o ≡ Some r → (x : A) × (o ≡ Some x) × (f x ≡ Some r)
and_some f None r e = let bad : ⊥ = cc in absurd bad
and_some f (Some x) r e = (x, refl, e)

kind_named : (o : Option Kind) (kind : Kind) → option_and_then path_kind o ≡ Some kind → o ≡ Some kind
kind_named None kind e = let bad : ⊥ = cc in absurd bad
kind_named (Some Commit) kind e = e
kind_named (Some Fs) kind e = let bad : ⊥ = cc in absurd bad
kind_named (Some Block) kind e = e

kind_text : (word : List ℕ) (kind : Kind) → kind_in_path word ≡ Some kind → word ≡ kind_word kind
kind_text word kind e = kind_of-has word kind (kind_named (kind_of word) kind e)

-- ---- a kind that a path can name

is_path_kind : (o : Option Kind) (kind : Kind) → option_and_then path_kind o ≡ Some kind → IsPathKind kind
is_path_kind None kind e = let bad : ⊥ = cc in absurd bad
is_path_kind (Some Commit) kind e = let same : Commit ≡ kind = cc in subst IsPathKind same tt
is_path_kind (Some Fs) kind e = let bad : ⊥ = cc in absurd bad
is_path_kind (Some Block) kind e = let same : Block ≡ kind = cc in subst IsPathKind same tt

-- a path's parts that name a call: those of a call
record IsPathOf (m : Method) (q : List (List ℕ)) (route : Route) : Type 0 where
  method_is : m ≡ method_in route
  parts_are : q ≡ parts_in route
  call_is : IsCall route

-- one of several, or the rest of them
picked : (b : Bool) (r : Route) (o : Option Route) (route : Route) → cond b (Some r) o ≡ Some route → ((b ≡ true) × (r ≡ route)) ⊎ (o ≡ Some route)
picked true r o route e = let same : r ≡ route = cc in inl (refl, same)
picked false r o route e = inr e

object_named : (m : Method) (lib : List ℕ) (key : Key) (route : Route) → IsNamed lib key → object_route m lib key ≡ Some route → IsPathOf m (under lib (kind_word key.kind ∷ encode_lower key.id ∷ [])) route
object_named method.Get lib key route named e =
    let same : Get lib key ≡ route = cc in
    subst (λ (r : Route). IsPathOf method.Get (under lib (kind_word key.kind ∷ encode_lower key.id ∷ [])) r) same (record { method_is = refl; parts_are = refl; call_is = named })
object_named method.Put lib key route named e =
    let same : Put lib key ≡ route = cc in
    subst (λ (r : Route). IsPathOf method.Put (under lib (kind_word key.kind ∷ encode_lower key.id ∷ [])) r) same (record { method_is = refl; parts_are = refl; call_is = named })
object_named method.Post lib key route named e = let bad : ⊥ = cc in absurd bad
object_named method.Other lib key route named e = let bad : ⊥ = cc in absurd bad

-- a word that is that of a call
word_is : (m : Method) (lib word own : List ℕ) (r route : Route) → m ≡ method_in r → under lib (own ∷ []) ≡ parts_in r → IsCall r → bytes_eq word own ≡ true → r ≡ route
    → IsPathOf m (under lib (word ∷ [])) route
word_is m lib word own r route asks parts_are call is same =
    subst (λ (q : Route). IsPathOf m (under lib (word ∷ [])) q) same
    (record { method_is = asks; parts_are = ap (λ (w : List ℕ). under lib (w ∷ [])) (same_text word own (sym is)) ∙ parts_are; call_is = call })

word_named : (m : Method) (lib word : List ℕ) (route : Route) → IsLibrary lib → word_route m lib word ≡ Some route → IsPathOf m (under lib (word ∷ [])) route
word_named method.Put lib word route sized e =
    elim (picked (bytes_eq word (codes "history-limit")) (Limit lib) _ route e) [
      | inl is ↦ word_is method.Put lib word (codes "history-limit") (Limit lib) route refl refl sized is.0 is.1
      | inr e ↦ let bad : ⊥ = cc in absurd bad
    ]
word_named method.Other lib word route sized e = let bad : ⊥ = cc in absurd bad
word_named method.Get lib word route sized e =
    elim (picked (bytes_eq word (codes "permission-check")) (Check lib) _ route e) [
      | inl is ↦ word_is method.Get lib word (codes "permission-check") (Check lib) route refl refl sized is.0 is.1
      | inr e ↦ elim (picked (bytes_eq word (codes "fs-id-list")) (Ids lib) _ route e) [
        | inl is ↦ word_is method.Get lib word (codes "fs-id-list") (Ids lib) route refl refl sized is.0 is.1
        | inr e ↦ let bad : ⊥ = cc in absurd bad
      ]
    ]
word_named method.Post lib word route sized e =
    elim (picked (bytes_eq word (codes "check-fs")) (CheckFs lib) _ route e) [
      | inl is ↦ word_is method.Post lib word (codes "check-fs") (CheckFs lib) route refl refl sized is.0 is.1
      | inr e ↦ elim (picked (bytes_eq word (codes "check-blocks")) (CheckBlocks lib) _ route e) [
        | inl is ↦ word_is method.Post lib word (codes "check-blocks") (CheckBlocks lib) route refl refl sized is.0 is.1
        | inr e ↦ elim (picked (bytes_eq word (codes "recv-fs")) (PutFs lib) _ route e) [
          | inl is ↦ word_is method.Post lib word (codes "recv-fs") (PutFs lib) route refl refl sized is.0 is.1
          | inr e ↦ elim (picked (bytes_eq word (codes "pack-fs")) (GetFs lib) _ route e) [
            | inl is ↦ word_is method.Post lib word (codes "pack-fs") (GetFs lib) route refl refl sized is.0 is.1
            | inr e ↦ elim (picked (bytes_eq word (codes "collect")) (Collect lib) _ route e) [
              | inl is ↦ word_is method.Post lib word (codes "collect") (Collect lib) route refl refl sized is.0 is.1
              | inr e ↦ let bad : ⊥ = cc in absurd bad
            ]
          ]
        ]
      ]
    ]

-- ---- the head

abbrev head_parts : List ℕ → List (List ℕ)
head_parts lib = under lib (codes "commit" ∷ codes "HEAD" ∷ [])

head_named : (m : Method) (lib : List ℕ) (route : Route) → IsLibrary lib → head_method m lib ≡ Some route → IsPathOf m (head_parts lib) route
head_named method.Get lib route sized e =
    let same : Head lib ≡ route = cc in
    subst (λ (r : Route). IsPathOf method.Get (head_parts lib) r) same (record { method_is = refl; parts_are = refl; call_is = sized })
head_named method.Put lib route sized e =
    let same : Update lib ≡ route = cc in
    subst (λ (r : Route). IsPathOf method.Put (head_parts lib) r) same (record { method_is = refl; parts_are = refl; call_is = sized })
head_named method.Post lib route sized e = let bad : ⊥ = cc in absurd bad
head_named method.Other lib route sized e = let bad : ⊥ = cc in absurd bad

-- a kind of object and an id
named_is : (m : Method) (lib word text : List ℕ) (route : Route) → IsLibrary lib → named_route m lib word text ≡ Some route → IsPathOf m (under lib (word ∷ text ∷ [])) route
named_is m lib word text route sized e =
    let kind = and_some (λ k. option_and_then (λ id. object_route m lib (record { kind = k; id = id })) (object_id_of text)) (kind_in_path word) route e in
    let id = and_some (λ i. object_route m lib (record { kind = kind.0; id = i })) (object_id_of text) route kind.2 in
    let bytes = id_bytes text id.0 id.1 in
    let named : IsNamed lib (record { kind = kind.0; id = id.0 }) =
    record { lib_is = sized; id_size = bytes.0; id_bytes = bytes.1; kind = is_path_kind (kind_of word) kind.0 kind.1 } in
    let own = object_named m lib (record { kind = kind.0; id = id.0 }) route named id.2 in
    record {
      method_is = own.method_is;
      parts_are = (λ i. under lib (kind_text word kind.0 kind.1 i ∷ id_text text id.0 id.1 i ∷ [])) ∙ own.parts_are;
      call_is = own.call_is;
    }

-- one or the other
either : (b : Bool) (o p : Option Route) (route : Route) → cond b o p ≡ Some route → ((b ≡ true) × (o ≡ Some route)) ⊎ (p ≡ Some route)
either true o p route e = inl (refl, e)
either false o p route e = inr e

pair_named : (m : Method) (lib word text : List ℕ) (route : Route) → IsLibrary lib → pair_route m lib word text ≡ Some route → IsPathOf m (under lib (word ∷ text ∷ [])) route
pair_named m lib word text route sized e =
    elim (either (bytes_eq text (codes "HEAD")) (head_route m lib word) (named_route m lib word text) route e) [
      | inl is ↦
          let commit = if_some (bytes_eq word (codes "commit")) (head_method m lib) route is.1 in
          let own = head_named m lib route sized commit.1 in
          record {
            method_is = own.method_is;
            parts_are = (λ i. under lib (same_text word (codes "commit") (sym commit.0) i ∷ same_text text (codes "HEAD") (sym is.0) i ∷ [])) ∙ own.parts_are;
            call_is = own.call_is;
          }
      | inr e ↦ named_is m lib word text route sized e
    ]

library_path : (m : Method) (name lib : List ℕ) (q : List (List ℕ)) (route : Route) → IsLibrary lib → name ≡ hyphenated_text lower lib → library_route m lib q ≡ Some route
    → IsPathOf m ([] ∷ codes "repo" ∷ name ∷ q) route
library_path m name lib [] route sized is e = let bad : ⊥ = cc in absurd bad
library_path m name lib (word ∷ []) route sized is e =
    subst (λ (n : List ℕ). IsPathOf m ([] ∷ codes "repo" ∷ n ∷ word ∷ []) route) (sym is) (word_named m lib word route sized e)
library_path m name lib (word ∷ text ∷ x ∷ more) route sized is e = let bad : ⊥ = cc in absurd bad
library_path m name lib (word ∷ text ∷ []) route sized is e =
    subst (λ (n : List ℕ). IsPathOf m ([] ∷ codes "repo" ∷ n ∷ word ∷ text ∷ []) route) (sym is) (pair_named m lib word text route sized e)

repo_path : (m : Method) (q : List (List ℕ)) (route : Route) → repo_route m q ≡ Some route → IsPathOf m ([] ∷ codes "repo" ∷ q) route
repo_path m [] route e = let bad : ⊥ = cc in absurd bad
repo_path m (name ∷ rest) route e =
    let lib = and_some (λ l. library_route m l rest) (library_id_of name) route e in
    library_path m name lib.0 rest route (library_bytes name lib.0 lib.1) (lib_text name lib.0 lib.1) lib.2

version_path : (m : Method) (word : List ℕ) (route : Route) → version_route m word ≡ Some route → IsPathOf m ([] ∷ word ∷ []) route
version_path method.Put word route e = let bad : ⊥ = cc in absurd bad
version_path method.Post word route e = let bad : ⊥ = cc in absurd bad
version_path method.Other word route e = let bad : ⊥ = cc in absurd bad
version_path method.Get word route e =
    let is = if_some (bytes_eq word (codes "protocol-version")) (Some Version) route e in
    let same : Version ≡ route = cc (is.1) in
    subst (λ (r : Route). IsPathOf method.Get ([] ∷ word ∷ []) r) same
    (record { method_is = refl; parts_are = ap (λ (w : List ℕ). [] ∷ w ∷ []) (same_text word (codes "protocol-version") (sym is.0)); call_is = tt })

top_path : (m : Method) (q : List (List ℕ)) (route : Route) → top_route m q ≡ Some route → IsPathOf m ([] ∷ q) route
top_path m [] route e = let bad : ⊥ = cc in absurd bad
top_path m (word ∷ []) route e = version_path m word route e
top_path m (word ∷ next ∷ rest) route e =
    let is = if_some (bytes_eq word (codes "repo")) (repo_route m (next ∷ rest)) route e in
    let same : word ≡ codes "repo" = same_text word (codes "repo") (sym is.0) in
    subst (λ (w : List ℕ). IsPathOf m ([] ∷ w ∷ next ∷ rest) route) (sym same) (repo_path m (next ∷ rest) route is.1)

empty_list : (s : List ℕ) → length s ≡ 0 → s ≡ []
empty_list [] e = refl
empty_list (x ∷ s) e = absurd (omega arith)

whole_path : (m : Method) (q : List (List ℕ)) (route : Route) → path_route m q ≡ Some route → IsPathOf m q route
whole_path m [] route e = let bad : ⊥ = cc in absurd bad
whole_path m (front ∷ rest) route e =
    let is = if_some (nat_eq (length front) 0) (top_route m rest) route e in
    let same : front ≡ [] = empty_list front (eqb-true (length front) 0 is.0) in
    subst (λ (w : List ℕ). IsPathOf m (w ∷ rest) route) (sym same) (top_path m rest route is.1)

-- what names a call has its method and its path
pub named_by_path : (m : Method) (target : List ℕ) (route : Route) → route_of m target ≡ Some route → (m ≡ method_in route) × (path_of target ≡ path_in route)
unfolding route_of
named_by_path m target route e =
    let is = whole_path m (parts (path_of target)) route e in
    (is.method_is, sym (join_with_byte-slice_split 47 (path_of target)) ∙ ap (join_with_byte 47) is.parts_are)

-- and is one of the table
pub names_a_call : (m : Method) (target : List ℕ) (route : Route) → route_of m target ≡ Some route → IsCall route
unfolding route_of
names_a_call m target route e = (whole_path m (parts (path_of target)) route e).call_is

-- ---- the text of what is named is read so

no_slash_in : (form : Form) (text : List ℕ) → IsOf form text → ((k : ℕ) → form.allows k 47 ≡ false) → All (λ c. nat_eq c 47 ≡ false) text
no_slash_in form text is never =
    All-from_get_or (λ c. nat_eq c 47 ≡ false) text 0 (λ k l. ne_eqb (get_or text k 0) 47 (λ e.
    let there : form.allows k 47 ≡ true = subst (λ (c : ℕ). form.allows k c ≡ true) e (is.each k (omega (arith, is.whole))) in
    true≢false (sym there ∙ never k)))

never_in_library : (b : Bool) → cond b (nat_eq 47 45) (is_lower_digit 47) ≡ false
never_in_library true = refl
never_in_library false = refl

pub lib_reads : (lib : List ℕ) → length lib ≡ 16 → All (λ byte. byte < 256) lib → library_id_of (hyphenated_text lower lib) ≡ Some lib
unfolding library_id_of
lib_reads lib size bytes = rw (has_form-IsOf library_form (hyphenated_text lower lib) (library.IsOf-hyphenated lib)) (sym (parses_hyphenated lower lib (inl refl) size bytes))

pub id_reads : (id : List ℕ) → length id ≡ 20 → All (λ byte. byte < 256) id → object_id_of (encode_lower id) ≡ Some id
unfolding object_id_of
id_reads id size bytes = rw (has_form-IsOf digits_form (encode_lower id) (digits.IsOf-encode_lower id size bytes), decode_of-encode_lower id (digits.IsBytes-from_All id bytes))

-- ---- parts without a slash, joined by slashes, are cut into the same parts

abbrev IsFree : List ℕ → Type 0
IsFree part = All (λ c. nat_eq c 47 ≡ false) part

abbrev AreFree : List (List ℕ) → Type 0
AreFree [] = Unit {0}
AreFree (part ∷ more) = IsFree part × AreFree more

cut_again : (part : List ℕ) (more : List (List ℕ)) → IsFree part → AreFree more → parts (join_with_byte 47 (part ∷ more)) ≡ part ∷ more
cut_again part [] free all = slice_split_none (λ c. nat_eq c 47) part free
cut_again part (next ∷ more) free all =
    slice_split_at (λ c. nat_eq c 47) part 47 (join_with_byte 47 (next ∷ more)) free refl ∙ ap (λ (ps : List (List ℕ)). part ∷ ps) (cut_again next more all.0 all.1)

-- a word without a slash
free_word : (word : List ℕ) → list_all (λ c. not (nat_eq c 47)) word ≡ true → IsFree word
free_word word h k d below = not-true _ (AllPass-from_list_all (λ c. not (nat_eq c 47)) word h k d below)

free_library : (lib : List ℕ) → IsFree (hyphenated_text lower lib)
free_library lib = no_slash_in library_form (hyphenated_text lower lib) (library.IsOf-hyphenated lib) (λ k. never_in_library (is_hyphen_place k))

free_id : (id : List ℕ) → length id ≡ 20 → All (λ byte. byte < 256) id → IsFree (encode_lower id)
free_id id size bytes = no_slash_in digits_form (encode_lower id) (digits.IsOf-encode_lower id size bytes) (λ k. refl)

free_kind : (kind : Kind) → IsFree (kind_word kind)
free_kind Commit = free_word (codes "commit") refl
free_kind Fs = free_word (codes "fs") refl
free_kind Block = free_word (codes "block") refl

-- what follows `/repo/LIB/` is cut out again
cut_under : (lib : List ℕ) (rest : List (List ℕ)) → AreFree rest → parts (join_with_byte 47 (under lib rest)) ≡ under lib rest
cut_under lib rest free = cut_again [] (codes "repo" ∷ hyphenated_text lower lib ∷ rest) (free_word [] refl) (free_word (codes "repo") refl, (free_library lib, free))

cut_word : (lib word : List ℕ) → list_all (λ c. not (nat_eq c 47)) word ≡ true → parts (join_with_byte 47 (under lib (word ∷ []))) ≡ under lib (word ∷ [])
cut_word lib word h = cut_under lib (word ∷ []) (free_word word h, tt)

cut_head : (lib : List ℕ) → parts (join_with_byte 47 (head_parts lib)) ≡ head_parts lib
cut_head lib = cut_under lib (codes "commit" ∷ codes "HEAD" ∷ []) (free_word (codes "commit") refl, (free_word (codes "HEAD") refl, tt))

cut_object : (lib : List ℕ) (key : Key) → IsNamed lib key → parts (join_with_byte 47 (under lib (kind_word key.kind ∷ encode_lower key.id ∷ []))) ≡ under lib (kind_word key.kind ∷ encode_lower key.id ∷ [])
cut_object lib key is = cut_under lib (kind_word key.kind ∷ encode_lower key.id ∷ []) (free_kind key.kind, (free_id key.id is.id_size is.id_bytes, tt))

-- the library of a path is read
library_named : (m : Method) (lib : List ℕ) (rest : List (List ℕ)) → IsLibrary lib → path_route m (under lib rest) ≡ library_route m lib rest
library_named m lib rest is = rw (lib_reads lib is.size is.bytes)

kind_read : (kind : Kind) → IsPathKind kind → kind_in_path (kind_word kind) ≡ Some kind
kind_read Commit is = refl
kind_read Fs is = absurd is
kind_read Block is = refl

-- no id is written as the head is
no_head : (id : List ℕ) → length id ≡ 20 → All (λ byte. byte < 256) id → bytes_eq (encode_lower id) (codes "HEAD") ≡ false
no_head id size bytes =
    false_from_ne_true (bytes_eq (encode_lower id) (codes "HEAD"))
    (λ is.
    let same : encode_lower id ≡ codes "HEAD" = same_text (encode_lower id) (codes "HEAD") (sym is) in
    let long : length (encode_lower id) ≡ 40 = (digits.IsOf-encode_lower id size bytes).whole in
    let short : length (encode_lower id) ≡ 4 = ap length same in
    absurd (omega (arith, long, short)))

object_read : (m : Method) (lib : List ℕ) (key : Key) → IsNamed lib key → path_route m (under lib (kind_word key.kind ∷ encode_lower key.id ∷ [])) ≡ object_route m lib key
object_read m lib key is =
    library_named m lib (kind_word key.kind ∷ encode_lower key.id ∷ []) is.lib_is
    ∙ (rw (no_head key.id is.id_size is.id_bytes, kind_read key.kind is.kind, id_reads key.id is.id_size is.id_bytes) refl)

-- the own method and path of a call name it, whatever query follows
pub path_names : (target : List ℕ) (route : Route) → IsCall route → path_of target ≡ path_in route → route_of (method_in route) target ≡ Some route
unfolding route_of
path_names target Version is same = ap (path_route method.Get) (ap parts same ∙ cut_again [] (codes "protocol-version" ∷ []) (free_word [] refl) (free_word (codes "protocol-version") refl, tt))
path_names target (Check lib) is same =
    ap (path_route method.Get) (ap parts same ∙ cut_word lib (codes "permission-check") refl) ∙ library_named method.Get lib (codes "permission-check" ∷ []) is
path_names target (Head lib) is same =
    ap (path_route method.Get) (ap parts same ∙ cut_head lib) ∙ library_named method.Get lib (codes "commit" ∷ codes "HEAD" ∷ []) is
path_names target (Update lib) is same =
    ap (path_route method.Put) (ap parts same ∙ cut_head lib) ∙ library_named method.Put lib (codes "commit" ∷ codes "HEAD" ∷ []) is
path_names target (Get lib key) is same = ap (path_route method.Get) (ap parts same ∙ cut_object lib key is) ∙ object_read method.Get lib key is
path_names target (Put lib key) is same = ap (path_route method.Put) (ap parts same ∙ cut_object lib key is) ∙ object_read method.Put lib key is
path_names target (CheckFs lib) is same =
    ap (path_route method.Post) (ap parts same ∙ cut_word lib (codes "check-fs") refl) ∙ library_named method.Post lib (codes "check-fs" ∷ []) is
path_names target (CheckBlocks lib) is same =
    ap (path_route method.Post) (ap parts same ∙ cut_word lib (codes "check-blocks") refl) ∙ library_named method.Post lib (codes "check-blocks" ∷ []) is
path_names target (PutFs lib) is same =
    ap (path_route method.Post) (ap parts same ∙ cut_word lib (codes "recv-fs") refl) ∙ library_named method.Post lib (codes "recv-fs" ∷ []) is
path_names target (GetFs lib) is same =
    ap (path_route method.Post) (ap parts same ∙ cut_word lib (codes "pack-fs") refl) ∙ library_named method.Post lib (codes "pack-fs" ∷ []) is
path_names target (Ids lib) is same =
    ap (path_route method.Get) (ap parts same ∙ cut_word lib (codes "fs-id-list") refl) ∙ library_named method.Get lib (codes "fs-id-list" ∷ []) is
path_names target (Limit lib) is same =
    ap (path_route method.Put) (ap parts same ∙ cut_word lib (codes "history-limit") refl) ∙ library_named method.Put lib (codes "history-limit" ∷ []) is
path_names target (Collect lib) is same =
    ap (path_route method.Post) (ap parts same ∙ cut_word lib (codes "collect") refl) ∙ library_named method.Post lib (codes "collect" ∷ []) is
