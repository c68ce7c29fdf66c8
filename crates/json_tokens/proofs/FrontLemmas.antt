-- Reading behind an opening bracket, one item or member at a time: what was found so far, and that the tokens that are
-- left give the rest. Such a loop has ItemsAfter or MembersAfter for its invariant. Read these two first.
use Rattle.std.proofs.Common.{◌≡◌, ℕ, ◌-◌, ◌<◌, ◌≤◌, Bool, List, [], ◌∷◌, ◌++◌, length, ◌⊎◌, inl, inr, Bor, Option, Some, None, refl, ap, ◌∙◌, arith}
use Rattle.json.specs.Token.{Token}
use Rattle.json.specs.Reads.{token_of}
use Rattle.json.specs.declared.token.Token as kit
use Rattle.json.specs.declared.token.Token.TheVariants as variant
use Rattle.json.specs.declared.token.Token.TheVariants.{EndObject, EndArray, Key, String, Null, Bad}
use Rattle.json.specs.Json.{value, items, members, parse_map, after_end_array, read_key}
use Rattle.json.proofs.Grammar.{after_end_array-shorter, read_key-shorter, value_is, value-begin_array, value-begin_object}
use Rattle.serde_json.specs.Data.{Num, Data, null, boolean, number, string, array, object, Items, no_items, item, Members, no_members, put}
use Rattle.serde_json.specs.Read.{number_of, of_json, of_items, of_members, converted}
use Rattle.serde_json.specs.View.{items_of}
use Rattle.json_tokens.proofs.ConvertedLemmas.{converted-array, converted-object, item_read, item_refused, items_over, member_read, member_refused, key_refused, members_over}
use Rattle.json_tokens.specs.Front.{FrontIs, NoFront, ItemsAre, NoItems, MembersAre, NoMembers}

-- items, and the rest behind them
abbrev pub before : List Data → Items → Items
before [] rest = rest
before (d ∷ ds) rest = item d (before ds rest)

before-no_items : (ds : List Data) → before ds no_items ≡ items_of ds
before-no_items [] = refl
before-no_items (d ∷ ds) = ap (item d) (before-no_items ds)

before-one_more : (ds : List Data) (d : Data) (rest : Items) → before ds (item d rest) ≡ before (ds ++ d ∷ []) rest
before-one_more [] d rest = refl
before-one_more (e ∷ ds) d rest = ap (item e) (before-one_more ds d rest)

one_more : (ds : List Data) (d : Data) (read : Option (Items × List Token)) → parse_map (before ds) (parse_map (item d) read) ≡ parse_map (before (ds ++ d ∷ [])) read
one_more ds d None = refl
one_more ds d (Some p) = ap (λ all. Some (all, p.1)) (before-one_more ds d p.0)

nothing_before : (read : Option (Items × List Token)) → read ≡ parse_map (before []) read
nothing_before None = refl
nothing_before (Some p) = refl

-- of the array that starts behind its bracket at `start`, the items `done` are read and `left` is left
pub record ItemsAfter (depth : ℕ) (start : List Token) (done : List Data) (left : List Token) : Type 0 where
  pub turns : ℕ
  pub enough : length left ≤ turns
  pub same : converted of_items (items (value depth) (length start) start) ≡ parse_map (before done) (converted of_items (items (value depth) turns left))
  pub within : length left ≤ length start

-- of the object that starts behind its brace at `start`, the members `found` are read and `left` is left
pub record MembersAfter (depth : ℕ) (start : List Token) (found : Members) (left : List Token) : Type 0 where
  pub turns : ℕ
  pub enough : length left ≤ turns
  pub same : converted (λ ms. of_members ms no_members) (members (value depth) (length start) start) ≡ converted (λ ms. of_members ms found) (members (value depth) turns left)
  pub within : length left ≤ length start

module _ (depth : ℕ) (start : List Token) where
  pub ItemsAfter-start : ItemsAfter depth start [] start
  ItemsAfter-start = record {
    turns = length start;
    enough = omega arith;
    same = nothing_before (converted of_items (items (value depth) (length start) start));
    within = omega arith;
  }

  pub MembersAfter-start : MembersAfter depth start no_members start
  MembersAfter-start = record { turns = length start; enough = omega arith; same = refl; within = omega arith }

  module _ (done : List Data) (left : List Token) (after : ItemsAfter depth start done left) where
    -- one more item
    pub ItemsAfter-more : (d : Data) (rest : List Token) → after_end_array left ≡ None → FrontIs depth left d rest → length rest < length left → ItemsAfter depth start (done ++ d ∷ []) rest
    ItemsAfter-more d rest going is shorter = record {
      turns = after.turns - 1;
      enough = omega (arith, after.enough);
      same = after.same ∙ ap (parse_map (before done)) (item_read (value depth) after.turns left rest d (omega (arith, after.enough)) going is)
          ∙ one_more done d (converted of_items (items (value depth) (after.turns - 1) rest));
      within = omega (arith, after.within);
    }

    -- an item that is no value spoils the array
    pub ItemsAfter-bad : after_end_array left ≡ None → NoFront depth left → NoItems depth start
    ItemsAfter-bad going none = after.same ∙ ap (parse_map (before done)) (item_refused (value depth) after.turns left going none)

    -- at the closing bracket the items are all read
    pub ItemsAfter-end : (rest : List Token) → after_end_array left ≡ Some rest → ItemsAre depth start (items_of done) rest
    ItemsAfter-end rest closes = after.same ∙ ap (parse_map (before done)) (items_over (value depth) after.turns left rest after.enough closes)
        ∙ ap (λ ds. Some (ds, rest)) (before-no_items done)

    pub ItemsAfter-shorter : (rest : List Token) → after_end_array left ≡ Some rest → length rest < length start
    ItemsAfter-shorter rest closes = omega (arith, after.within, after_end_array-shorter left rest closes)

  module _ (found : Members) (left : List Token) (after : MembersAfter depth start found left) where
    -- one more member, behind its key
    pub MembersAfter-more : (key : List ℕ) (behind : List Token) (d : Data) (rest : List Token) → read_key left ≡ Some (Some key, behind) → FrontIs depth behind d rest → length rest < length behind
        → MembersAfter depth start (put key d found) rest
    MembersAfter-more key behind d rest named is shorter =
        let lesser = read_key-shorter left (Some key) behind named in
        record {
          turns = after.turns - 1;
          enough = omega (arith, after.enough);
          same = after.same ∙ member_read (value depth) found after.turns key left behind rest d (omega (arith, after.enough)) named is;
          within = omega (arith, after.within);
        }

    -- a member that is no value spoils the object
    pub MembersAfter-bad : (key : List ℕ) (behind : List Token) → read_key left ≡ Some (Some key, behind) → NoFront depth behind → NoMembers depth start
    MembersAfter-bad key behind named none = after.same ∙ member_refused (value depth) found after.turns key left behind named none

    -- and so does what is no key
    pub MembersAfter-no_key : read_key left ≡ None → NoMembers depth start
    MembersAfter-no_key none = after.same ∙ key_refused (value depth) found after.turns left none

    -- at the closing brace the members are all read
    pub MembersAfter-end : (rest : List Token) → read_key left ≡ Some (None, rest) → MembersAre depth start found rest
    MembersAfter-end rest closes = after.same ∙ members_over (value depth) found after.turns left rest after.enough closes

    pub MembersAfter-shorter : (rest : List Token) → read_key left ≡ Some (None, rest) → length rest < length start
    MembersAfter-shorter rest closes = omega (arith, after.within, read_key-shorter left None rest closes)

-- ---- a value by its first token

module _ (depth : ℕ) (rest : List Token) where
  -- an array is its items
  pub FrontIs-array : (ds : Items) (new : List Token) → 0 < depth → ItemsAre (depth - 1) rest ds new → FrontIs depth (Token.begin_array ∷ rest) (array ds) new
  FrontIs-array ds new some are =
      ap (converted of_json) (value-begin_array depth rest some) ∙ converted-array (items (value (depth - 1)) (length rest) rest) ∙ ap (parse_map array) are

  pub NoFront-array : 0 < depth → NoItems (depth - 1) rest → NoFront depth (Token.begin_array ∷ rest)
  NoFront-array some none =
      ap (converted of_json) (value-begin_array depth rest some) ∙ converted-array (items (value (depth - 1)) (length rest) rest) ∙ ap (parse_map array) none

  -- an object is its members
  pub FrontIs-object : (ms : Members) (new : List Token) → 0 < depth → MembersAre (depth - 1) rest ms new → FrontIs depth (Token.begin_object ∷ rest) (object ms) new
  FrontIs-object ms new some are =
      ap (converted of_json) (value-begin_object depth rest some) ∙ converted-object (members (value (depth - 1)) (length rest) rest) ∙ ap (parse_map object) are

  pub NoFront-object : 0 < depth → NoMembers (depth - 1) rest → NoFront depth (Token.begin_object ∷ rest)
  NoFront-object some none =
      ap (converted of_json) (value-begin_object depth rest some) ∙ converted-object (members (value (depth - 1)) (length rest) rest) ∙ ap (parse_map object) none

-- with no level left nothing opens
pub NoFront-too_deep_array : (depth : ℕ) (rest : List Token) → depth ≡ 0 → NoFront depth (Token.begin_array ∷ rest)
unfolding value
NoFront-too_deep_array depth rest none = ap (λ k. converted of_json (value k (Token.begin_array ∷ rest))) none

pub NoFront-too_deep_object : (depth : ℕ) (rest : List Token) → depth ≡ 0 → NoFront depth (Token.begin_object ∷ rest)
unfolding value
NoFront-too_deep_object depth rest none = ap (λ k. converted of_json (value k (Token.begin_object ∷ rest))) none

-- a value that is one token
pub FrontIs-string : (depth : ℕ) (text : List ℕ) (rest : List Token) → FrontIs depth (Token.string text ∷ rest) (string text) rest
FrontIs-string depth text rest = ap (converted of_json) (value_is depth (Token.string text ∷ rest))

pub FrontIs-boolean : (depth : ℕ) (b : Bool) (rest : List Token) → FrontIs depth (Token.boolean b ∷ rest) (boolean b) rest
FrontIs-boolean depth b rest = ap (converted of_json) (value_is depth (Token.boolean b ∷ rest))

pub FrontIs-null : (depth : ℕ) (rest : List Token) → FrontIs depth (Token.null ∷ rest) null rest
FrontIs-null depth rest = ap (converted of_json) (value_is depth (Token.null ∷ rest))

pub FrontIs-number : (depth : ℕ) (text : List ℕ) (n : Num) (rest : List Token) → number_of text ≡ Some n → FrontIs depth (Token.number text ∷ rest) (number n) rest
FrontIs-number depth text n rest reads = ap (converted of_json) (value_is depth (Token.number text ∷ rest)) ∙ rw reads

pub NoFront-number : (depth : ℕ) (text : List ℕ) (rest : List Token) → number_of text ≡ None → NoFront depth (Token.number text ∷ rest)
NoFront-number depth text rest none = ap (converted of_json) (value_is depth (Token.number text ∷ rest)) ∙ rw none

pub NoFront-end : (depth : ℕ) → NoFront depth []
NoFront-end depth = ap (converted of_json) (value_is depth [])

-- the tokens at which no value begins
pub NoFront-end_object : (depth : ℕ) (rest : List Token) → NoFront depth (Token.end_object ∷ rest)
NoFront-end_object depth rest = ap (converted of_json) (value_is depth (Token.end_object ∷ rest))

pub NoFront-end_array : (depth : ℕ) (rest : List Token) → NoFront depth (Token.end_array ∷ rest)
NoFront-end_array depth rest = ap (converted of_json) (value_is depth (Token.end_array ∷ rest))

pub NoFront-key : (depth : ℕ) (key : List ℕ) (rest : List Token) → NoFront depth (Token.key key ∷ rest)
NoFront-key depth key rest = ap (converted of_json) (value_is depth (Token.key key ∷ rest))

pub NoFront-bad : (depth : ℕ) (rest : List Token) → NoFront depth (Token.bad ∷ rest)
NoFront-bad depth rest = ap (converted of_json) (value_is depth (Token.bad ∷ rest))

-- no value begins at a token that closes, at a key or where the text is no JSON
pub NoFront-no_beginning : (depth : ℕ) (first : kit.Token) (rest : List Token)
    → (first ≡ EndObject) ⊎ ((first ≡ EndArray) ⊎ (((key : Bor (List ℕ)) × (first ≡ Key key)) ⊎ (first ≡ Bad))) → NoFront depth (token_of first ∷ rest)
NoFront-no_beginning depth first rest (inl is) = rw is (NoFront-end_object depth rest)
NoFront-no_beginning depth first rest (inr (inl is)) = rw is (NoFront-end_array depth rest)
NoFront-no_beginning depth first rest (inr (inr (inl (key, is)))) = rw is (NoFront-key depth key.now rest)
NoFront-no_beginning depth first rest (inr (inr (inr is))) = rw is (NoFront-bad depth rest)

-- a text, a truth value or null is its token
pub FrontIs-plain : (depth : ℕ) (first : kit.Token) (rest : List Token)
    → ((text : Bor (List ℕ)) × (first ≡ String text)) ⊎ (((b : Bool) × (first ≡ variant.Bool b)) ⊎ (first ≡ Null)) → (d : Data) × FrontIs depth (token_of first ∷ rest) d rest
FrontIs-plain depth first rest (inl (text, is)) = (string text.now, rw is (FrontIs-string depth text.now rest))
FrontIs-plain depth first rest (inr (inl (b, is))) = (boolean b, rw is (FrontIs-boolean depth b rest))
FrontIs-plain depth first rest (inr (inr is)) = (null, rw is (FrontIs-null depth rest))
