-- The text of a state is read as the state. The key lemma is state_of-text_of.
use Rattle.std.proofs.Common.{◌≡◌, ◌≤◌, ◌<◌, ◌^◌, ℕ, ℤ, pos, negsuc, List, codes, [], ◌∷◌, map, true, nat_le, IsUtf8, Ok, refl, arith}
use Rattle.std.proofs.lemmas.Bool.{and_parts, leb-true}
use Rattle.std.proofs.lemmas.List.Elements.{recursion_from_All}
use Rattle.std.specs.List.{AllByRecursion}
use Rattle.ids.proofs.DigitsLemmas.{IsUtf8-encode_lower}
use Rattle.ids.proofs.LibraryTextLemmas.{IsUtf8-hyphenated}
use Rattle.serde_json.specs.Find.{of_integer}
use Rattle.serde_json.specs.View.{items_of}
use Rattle.json_words.proofs.WrittenLemmas.{IsUtf8-are_ascii, IsSpelled, IsSpelledNumber, AreSpelled, json_of-compact_text}
use Rattle.library_state.specs.ProperState.{IsProper, IsProperToken}
use Rattle.library_state.specs.Rights.{right_text}
use Rattle.library_state.specs.StateSpelling.{install_with, install_data, token_with, token_data, state_with, state_data, text_of}
use Rattle.library_state.specs.StateText.{is_day_count, last_number, state_of}
use Rattle.library_state.specs.TypedState.{IsTyped, IsTypedInstall, IsTypedToken}
use Rattle.library_state.specs.declared.history.Install.{Install}
use Rattle.library_state.specs.declared.right.Right.{Right}
use Rattle.library_state.specs.declared.right.Right.TheVariants.{Read, Write, Owner}
use Rattle.library_state.specs.declared.state.LibState.{LibState}
use Rattle.library_state.specs.declared.token.Token.{Token}
use Rattle.library_state.proofs.StateReadBackLemmas.{state_of-state_data}
use Rattle.library_state.proofs.StateTextLemmas.{depth-state_data}

right_utf8 : (right : Right) → IsUtf8 (right_text right)
right_utf8 Read = IsUtf8-are_ascii _ refl
right_utf8 Write = IsUtf8-are_ascii _ refl
right_utf8 Owner = IsUtf8-are_ascii _ refl

-- a number of days is spelled
days_spelled : (days : ℤ) → is_day_count days ≡ true → IsSpelledNumber (of_integer days)
days_spelled (pos n) counts =
    let most : n ≤ 36500 = leb-true n 36500 (and_parts true (nat_le n 36500) counts).1 in
    omega arith
days_spelled (negsuc n) counts =
    let most : n ≤ 0 = leb-true n 0 (and_parts (nat_le n 0) true counts).0 in
    omega arith

installs_spelled : (installs : List Install) → AllByRecursion IsTypedInstall installs → AreSpelled (items_of (map install_data installs))
unfolding install_with
installs_spelled [] typed = tt
installs_spelled (install ∷ installs) typed = (
  (
    IsUtf8-are_ascii (codes "at") refl,
    typed.0.moment,
    refl,
    (
      IsUtf8-are_ascii (codes "head") refl,
      IsUtf8-encode_lower install.head,
      refl,
      (IsUtf8-are_ascii (codes "pushed") refl, IsUtf8-encode_lower install.pushed, refl, tt),
    ),
  ),
  installs_spelled installs typed.1,
)

within : (n most : ℕ) → n ≤ most → most ≤ last_number → n < 2 ^ 64
within n most below least = omega arith

tokens_spelled : (collection : ℕ) (tokens : List Token) → collection ≤ last_number → AllByRecursion IsTypedToken tokens → AllByRecursion (IsProperToken collection) tokens
    → AreSpelled (items_of (map token_data tokens))
unfolding token_with
tokens_spelled collection [] most typed proper = tt
tokens_spelled collection (token ∷ tokens) most typed proper = (
  (
    IsUtf8-are_ascii (codes "last") refl,
    within token.last collection proper.0.last most,
    refl,
    (
      IsUtf8-are_ascii (codes "right") refl,
      right_utf8 token.right,
      refl,
      (
        IsUtf8-are_ascii (codes "secret") refl,
        IsUtf8-encode_lower token.secret,
        refl,
        (IsUtf8-are_ascii (codes "user") refl, typed.0.user, refl, tt),
      ),
    ),
  ),
  tokens_spelled collection tokens most typed.1 proper.1,
)

at_most_last : (n : ℕ) → n ≤ last_number → n < 2 ^ 64
at_most_last n most = omega arith

-- all of a state is spelled
state_spelled : (state : LibState) → IsTyped state → IsProper state → IsSpelled (state_data state)
unfolding state_with
state_spelled state typed proper =
    let installs = installs_spelled state.kept (recursion_from_All IsTypedInstall state.kept typed.kept) in
    let tokens = tokens_spelled state.collection state.tokens proper.collection
    (recursion_from_All IsTypedToken state.tokens typed.tokens)
    (recursion_from_All (IsProperToken state.collection) state.tokens proper.tokens.each) in (
      IsUtf8-are_ascii (codes "collection") refl,
      at_most_last state.collection proper.collection,
      refl,
      (
        IsUtf8-are_ascii (codes "days") refl,
        days_spelled state.days proper.days,
        refl,
        (
          IsUtf8-are_ascii (codes "kept") refl,
          installs,
          refl,
          (
            IsUtf8-are_ascii (codes "lib") refl,
            IsUtf8-hyphenated state.lib,
            refl,
            (
              IsUtf8-are_ascii (codes "name") refl,
              typed.name,
              refl,
              (
                IsUtf8-are_ascii (codes "opening") refl,
                at_most_last state.opening proper.opening,
                refl,
                (
                  IsUtf8-are_ascii (codes "tokens") refl,
                  tokens,
                  refl,
                  (IsUtf8-are_ascii (codes "version") refl, at_most_last 1 (omega arith), refl, tt),
                ),
              ),
            ),
          ),
        ),
      ),
    )

-- the text of a state that is typed and proper is read as the state
pub state_of-text_of : (state : LibState) → IsTyped state → IsProper state → state_of (text_of state) ≡ Ok state
state_of-text_of state typed proper =
    state_of-state_data (text_of state) state
    (json_of-compact_text (state_data state) (state_spelled state typed proper) (depth-state_data state)) typed proper
