-- Files with one own id have one content, where no two contents share a name. The key lemmas are same_own and own_alike.
use Rattle.std.proofs.Common.{◌≡◌, ℕ, zero, suc, ◌*◌, ◌<◌, ◌==◌, ◌||◌, nat_lt, Bool, true, false, All, List, [], ◌∷◌, ◌++◌, codes, drop, take, length, get_or, map, slice_index, if◌then◌else◌, Some, refl, sym, ap, ap₂, ◌∙◌, append_assoc, length-append, arith}
use Rattle.std.specs.Int.{bytes_high_first, byte_at, byte_len, w32}
use Rattle.std.specs.FinMap as fin
use Rattle.std.specs.List.{AllByRecursion, Contains, concat, list_all}
use Rattle.std.specs.Result.{result_ok}
use Rattle.std.proofs.lemmas.Bool.{and_parts, eqb-true}
use Rattle.std.proofs.lemmas.Bool.Decides.{nat_tests}
use Rattle.std.proofs.lemmas.List.{append_cancel_right, drop_at, nil_from_length, take_at}
use Rattle.std.proofs.lemmas.List.Elements.{All-append, All-cons, All-head, All-nil, All-tail}
use Rattle.std.proofs.lemmas.List.Sums.{list_all-from_AllPass}
use Rattle.std.proofs.lemmas.Nat.{mod_below}
use Rattle.hex.specs.Hex.{decode_of, encode_lower}
use Rattle.hex.proofs.HexLemmas.{decode_of-encode_lower}
use Rattle.sha1.specs.Sha1.{digest_bytes, sha1}
use Rattle.json.specs.Print.{escape, escape_byte, quoted}
use Rattle.serde_json.specs.Data.{Members, member, no_members, number, unsigned}
use Rattle.serde_json.specs.View.{items_of}
use Rattle.serde_json.specs.Written.{items_text, members_text}
use Rattle.json_words.specs.IdText.{id_data}
use Rattle.ids.specs.Digits.{digits_form, is_lower_digit}
use Rattle.ids.specs.Form.{IsOf}
use Rattle.ids.specs.ObjectId.{nil}
use Rattle.ids.specs.Key.{Objects}
use Rattle.ids.specs.declared.key.Key.{Key}
use Rattle.ids.proofs.BasicLemmas.{contains_more}
use Rattle.ids.proofs.DigitsLemmas.{AllPass-digits, IsBytes-from_All, IsOf-encode_lower}
use Rattle.tree_model.specs.Path.{PathV}
use Rattle.tree_model.specs.Tree.{Tree}
use Rattle.tree_model.specs.declared.node.FileVersion.{FileVersion}
use Rattle.tree_model.specs.declared.node.Node.TheVariants as node
use Rattle.block_chunker.specs.ChunkBoundaries.{chunks_of}
use Rattle.block_chunker.specs.declared.cuts.Cuts.{Cuts}
use Rattle.block_chunker.proofs.LawLemmas.{AreChunks-chunks_of, concat-AreChunks}
use Rattle.fs_objects.specs.Spelling.{file_with, text_of}
use Rattle.fs_objects.specs.declared.file_object.FileObject.{FileObject}
use Rattle.fs_objects.specs.declared.fs_object.FsObject.TheVariants as fs
use Rattle.folder_side.specs.Folder.{Contents, at}
use Rattle.folder_side.specs.ScanReport.{block_names}
use Rattle.folder_side.specs.declared.holding.Holding.TheVariants.{File}
use Rattle.local_index.specs.declared.index.Index.{Index}
use Rattle.sync_rules.specs.Offer.{own_of}
use Rattle.sync_rules.specs.Premises.{InSync, IsClear, IsPieceOf, Over}

-- ---- a name has twenty bytes

byte_small : (i n : ℕ) → byte_at i n < 256
byte_small zero n = mod_below n 256 (omega arith)
byte_small (suc i) n = mod_below _ 256 (omega arith)

high_small : (k n : ℕ) → All (λ b. b < 256) (bytes_high_first k n)
high_small zero n = All-nil (λ b. b < 256)
high_small (suc k) n = All-cons (λ b. b < 256) (byte_at k n) (bytes_high_first k n) (byte_small k n) (high_small k n)

high_length : (k n : ℕ) → length (bytes_high_first k n) ≡ k
high_length zero n = refl
high_length (suc k) n = ap suc (high_length k n)

digest_small : (h : List ℕ) (n : ℕ) → All (λ b. b < 256) (digest_bytes h n)
unfolding digest_bytes
digest_small h zero = All-nil (λ b. b < 256)
digest_small h (suc n) = All-append (λ b. b < 256) (digest_bytes h n) _ (digest_small h n) (high_small (byte_len w32) _)

digest_length : (h : List ℕ) (n : ℕ) → length (digest_bytes h n) ≡ 4 * n
unfolding digest_bytes
digest_length h zero = refl
digest_length h (suc n) =
    let front = digest_length h n in
    let four : length (bytes_high_first (byte_len w32) (slice_index h n)) ≡ 4 = high_length (byte_len w32) (slice_index h n) in
    let whole = length-append (digest_bytes h n) (bytes_high_first (byte_len w32) (slice_index h n)) in
    omega (arith, front, four, whole)

-- an id of twenty bytes
record IsName (id : List ℕ) : Type 0 where
  small : All (λ b. b < 256) id
  size : length id ≡ 20

sha1_name : (bytes : List ℕ) → IsName (sha1 bytes)
unfolding sha1
sha1_name bytes = record { small = digest_small _ 5; size = digest_length _ 5 }

-- ---- its digits stand in a text as they are

digit_plain : (b : ℕ) → is_lower_digit b ≡ true → escape_byte b ≡ b ∷ []
unfolding escape_byte
digit_plain b is =
    let slash : ((b == 34) || (b == 92)) ≡ false = grind (arith, nat_tests) in
    let eight : (b == 8) ≡ false = grind (arith, nat_tests) in
    let twelve : (b == 12) ≡ false = grind (arith, nat_tests) in
    let ten : (b == 10) ≡ false = grind (arith, nat_tests) in
    let thirteen : (b == 13) ≡ false = grind (arith, nat_tests) in
    let nine : (b == 9) ≡ false = grind (arith, nat_tests) in
    let large : nat_lt b 32 ≡ false = grind (arith, nat_tests) in
    rw (slash, eight, twelve, ten, thirteen, nine, large) refl

digits_plain : (xs : List ℕ) → list_all is_lower_digit xs ≡ true → escape xs ≡ xs
digits_plain [] are = refl
digits_plain (x ∷ xs) are =
    let parts = and_parts (is_lower_digit x) (list_all is_lower_digit xs) are in
    ap₂ (λ (a b : List ℕ). a ++ b) (digit_plain x parts.0) (digits_plain xs parts.1)

name_digits : (id : List ℕ) → IsName id → IsOf digits_form (encode_lower id)
name_digits id is = IsOf-encode_lower id is.size is.small

name_plain : (id : List ℕ) → IsName id → escape (encode_lower id) ≡ encode_lower id
name_plain id is = digits_plain (encode_lower id) (list_all-from_AllPass is_lower_digit (encode_lower id) (AllPass-digits (encode_lower id) (name_digits id is)))

quoted_length : (id : List ℕ) → IsName id → length (quoted (encode_lower id)) ≡ 42
quoted_length id is =
    let plain = ap length (name_plain id is) in
    let whole : length (encode_lower id) ≡ 40 = (name_digits id is).whole in
    let all = length-append (escape (encode_lower id)) (34 ∷ []) in
    omega (arith, plain, whole, all)

some_inj : (x y : List ℕ) → Some x ≡ Some y → x ≡ y
some_inj x y e = cc

-- the name that is quoted
quoted_name : (x y : List ℕ) → IsName x → IsName y → quoted (encode_lower x) ≡ quoted (encode_lower y) → x ≡ y
quoted_name x y is also e =
    let escaped : escape (encode_lower x) ≡ escape (encode_lower y) = append_cancel_right (escape (encode_lower x)) (escape (encode_lower y)) (34 ∷ []) (ap (λ (l : List ℕ). drop 1 l) e) in
    let digits : encode_lower x ≡ encode_lower y = sym (name_plain x is) ∙ escaped ∙ name_plain y also in
    some_inj x y
    (sym (ap result_ok (decode_of-encode_lower x (IsBytes-from_All x is.small))) ∙ ap (λ (text : List ℕ). result_ok (decode_of text)) digits
    ∙ ap result_ok (decode_of-encode_lower y (IsBytes-from_All y also.small)))

-- ---- a list of names in a text

module _ (x y r s : List ℕ) (is : IsName x) (also : IsName y) (e : quoted (encode_lower x) ++ r ≡ quoted (encode_lower y) ++ s) where
  first_same : x ≡ y
  first_same =
      quoted_name x y is also
      (sym (take_at (quoted (encode_lower x)) r 42 (quoted_length x is)) ∙ ap (λ (l : List ℕ). take 42 l) e ∙ take_at (quoted (encode_lower y)) s 42 (quoted_length y also))

  rest_same : r ≡ s
  rest_same =
      sym (drop_at (quoted (encode_lower x)) r 42 (quoted_length x is)) ∙ ap (λ (l : List ℕ). drop 42 l) e ∙ drop_at (quoted (encode_lower y)) s 42 (quoted_length y also)

abbrev names_text : Bool → List (List ℕ) → List ℕ
names_text later ids = items_text later (items_of (map id_data ids))

first_byte : (xs ys : List ℕ) → xs ≡ ys → get_or xs 0 0 ≡ get_or ys 0 0
first_byte xs ys e = ap (λ (l : List ℕ). get_or l 0 0) e

names_same : (later : Bool) (xs ys : List (List ℕ)) → All IsName xs → All IsName ys → (r s : List ℕ) → names_text later xs ++ r ≡ names_text later ys ++ s → xs ≡ ys
names_same later [] [] are also r s e = refl
names_same true [] (y ∷ ys) are also r s e = let first : 93 ≡ 44 = first_byte _ _ e in absurd (omega (arith, first))
names_same false [] (y ∷ ys) are also r s e = let first : 93 ≡ 34 = first_byte _ _ e in absurd (omega (arith, first))
names_same true (x ∷ xs) [] are also r s e = let first : 44 ≡ 93 = first_byte _ _ e in absurd (omega (arith, first))
names_same false (x ∷ xs) [] are also r s e = let first : 34 ≡ 93 = first_byte _ _ e in absurd (omega (arith, first))
names_same true (x ∷ xs) (y ∷ ys) are also r s e =
    next (names_same true xs ys (All-tail IsName x xs are) (All-tail IsName y ys also) r s) (sym (append_assoc (quoted (encode_lower x)) (names_text true xs) r) ∙ ap (λ (l : List ℕ). drop 1 l) e ∙ append_assoc (quoted (encode_lower y)) (names_text true ys) s)
  where
    next : (names_text true xs ++ r ≡ names_text true ys ++ s → xs ≡ ys) → quoted (encode_lower x) ++ (names_text true xs ++ r) ≡ quoted (encode_lower y) ++ (names_text true ys ++ s) → x ∷ xs ≡ y ∷ ys
    next more same =
        ap₂ (λ (z : List ℕ) (zs : List (List ℕ)). z ∷ zs) (first_same x y _ _ (All-head IsName x xs are) (All-head IsName y ys also) same)
        (more (rest_same x y _ _ (All-head IsName x xs are) (All-head IsName y ys also) same))
names_same false (x ∷ xs) (y ∷ ys) are also r s e =
    next (names_same true xs ys (All-tail IsName x xs are) (All-tail IsName y ys also) r s) (sym (append_assoc (quoted (encode_lower x)) (names_text true xs) r) ∙ e ∙ append_assoc (quoted (encode_lower y)) (names_text true ys) s)
  where
    next : (names_text true xs ++ r ≡ names_text true ys ++ s → xs ≡ ys) → quoted (encode_lower x) ++ (names_text true xs ++ r) ≡ quoted (encode_lower y) ++ (names_text true ys ++ s) → x ∷ xs ≡ y ∷ ys
    next more same =
        ap₂ (λ (z : List ℕ) (zs : List (List ℕ)). z ∷ zs) (first_same x y _ _ (All-head IsName x xs are) (All-head IsName y ys also) same)
        (more (rest_same x y _ _ (All-head IsName x xs are) (All-head IsName y ys also) same))

-- what stands behind the blocks in the text of a file
abbrev behind : ℕ → Members
behind size = member (codes "size") (number (unsigned size)) (member (codes "type") (number (unsigned 1)) (member (codes "version") (number (unsigned 1)) no_members))

text_blocks : (f g : FileObject) → All IsName f.blocks → All IsName g.blocks → text_of (fs.File f) ≡ text_of (fs.File g) → f.blocks ≡ g.blocks
unfolding file_with escape_byte
text_blocks f g are also e =
    let cut : names_text false f.blocks ++ members_text true (behind f.size) ≡ names_text false g.blocks ++ members_text true (behind g.size) = ap (λ (l : List ℕ). drop 14 l) e in
    names_same false f.blocks g.blocks are also (members_text true (behind f.size)) (members_text true (behind g.size)) cut

-- ---- the chunks of two files

all_names : (pieces : List (List ℕ)) → All IsName (map sha1 pieces)
all_names [] = All-nil IsName
all_names (piece ∷ pieces) = All-cons IsName (sha1 piece) (map sha1 pieces) (sha1_name piece) (all_names pieces)

module _ (here : List ℕ → Type 0) (clear : IsClear here) where
  all_here : (pieces : List (List ℕ)) → ((piece : List ℕ) → Contains pieces piece → here piece) → AllByRecursion here pieces
  all_here [] is = tt
  all_here (piece ∷ pieces) is = (is piece (0, omega arith, refl), all_here pieces (λ other there. is other (contains_more piece other pieces there)))

  pieces_same : (xs ys : List (List ℕ)) → AllByRecursion here xs → AllByRecursion here ys → map sha1 xs ≡ map sha1 ys → xs ≡ ys
  pieces_same [] [] are also e = refl
  pieces_same [] (y ∷ ys) are also e = absurd (cc)
  pieces_same (x ∷ xs) [] are also e = absurd (cc)
  pieces_same (x ∷ xs) (y ∷ ys) are also e =
      ap₂ (λ (z : List ℕ) (zs : List (List ℕ)). z ∷ zs) (clear.same x y are.0 also.0 (ap (λ (l : List (List ℕ)). get_or l 0 []) e))
      (pieces_same xs ys are.1 also.1 (ap (λ (l : List (List ℕ)). drop 1 l) e))

  module _ (cuts : Cuts) (x y : List ℕ) (of_x : (piece : List ℕ) → IsPieceOf cuts x piece → here piece) (of_y : (piece : List ℕ) → IsPieceOf cuts y piece → here piece) where
    object_same : text_of (fs.File (record { blocks = block_names cuts x; size = length x })) ≡ text_of (fs.File (record { blocks = block_names cuts y; size = length y })) → x ≡ y
    object_same e =
        let names = text_blocks (record { blocks = block_names cuts x; size = length x }) (record { blocks = block_names cuts y; size = length y }) (all_names (chunks_of cuts x)) (all_names (chunks_of cuts y)) e in
        let chunks : chunks_of cuts x ≡ chunks_of cuts y =
        pieces_same (chunks_of cuts x) (chunks_of cuts y) (all_here (chunks_of cuts x) (λ piece there. of_x piece (IsPieceOf.chunk there)))
        (all_here (chunks_of cuts y) (λ piece there. of_y piece (IsPieceOf.chunk there))) names in
        sym (concat-AreChunks cuts (AreChunks-chunks_of cuts x)) ∙ ap (λ (pieces : List (List ℕ)). concat pieces) chunks ∙ concat-AreChunks cuts (AreChunks-chunks_of cuts y)

    pub same_own : own_of cuts x ≡ own_of cuts y → x ≡ y
    same_own e = by (length x == 0) (length y == 0) refl refl e
      where
        by : (a b : Bool) → (length x == 0) ≡ a → (length y == 0) ≡ b
            → (if a then nil else sha1 (text_of (fs.File (record { blocks = block_names cuts x; size = length x }))))
            ≡ (if b then nil else sha1 (text_of (fs.File (record { blocks = block_names cuts y; size = length y })))) → x ≡ y
        by true true none also same = nil_from_length x (eqb-true (length x) 0 none) ∙ sym (nil_from_length y (eqb-true (length y) 0 also))
        by true false none some same = absurd (clear.not_nil _ (of_y _ (IsPieceOf.object refl)) (sym same))
        by false true some none same = absurd (clear.not_nil _ (of_x _ (IsPieceOf.object refl)) same)
        by false false some also same = object_same (clear.same _ _ (of_x _ (IsPieceOf.object refl)) (of_y _ (IsPieceOf.object refl)) same)

-- a file of the folder and one of the index
pub own_alike : (objects : Objects) (cuts : Cuts) (c : Contents) (index : Index) (base : Tree) (had : List (Key × List ℕ)) → Over objects cuts c index base had
    → (path other : PathV) (bytes : List ℕ) (file : FileVersion) → at c path ≡ Some (File bytes) → fin.get base other ≡ Some (node.File file)
    → own_of cuts bytes ≡ own_of cuts file.bytes → bytes ≡ file.bytes
own_alike objects cuts c index base had over path other bytes file here there same =
    same_own (InSync cuts c base had) over.clear cuts bytes file.bytes (λ piece is. InSync.in_folder path bytes here is) (λ piece is. InSync.in_index other file there is) same
