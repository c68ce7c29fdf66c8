-- A sound state is written as a proper one, so that its text is read back. The key lemmas are read_not_zeros and sound_is_proper.
use Rattle.std.proofs.Common.{◌≡◌, ◌≢◌, ◌||◌, ℕ, suc, ◌≤◌, Bool, true, false, if◌then◌else◌, List, [], ◌∷◌, length, refl, sym, ◌∙◌, subst, true≢false, arith, Option, None, Some, option_and_then, Result, Ok, Err}
use Rattle.std.proofs.lemmas.List.Elements.{All-from_recursion}
use Rattle.std.specs.Cmp.Lexicographic.{bytes_decides}
use Rattle.std.specs.FinMap as map
use Rattle.std.specs.List.{AllByRecursion}
use Rattle.std.specs.Str.{bytes_eq}
use Rattle.serde_json.specs.Data.{Data}
use Rattle.ids.specs.Key.{Objects}
use Rattle.ids.specs.ObjectId.{nil}
use Rattle.json_words.specs.Check.{◌>>=◌, holds, ok_or}
use Rattle.json_words.specs.Fields.{is_object, number_field, text_field}
use Rattle.json_words.specs.IdText.{object_id_of, unless_nil}
use Rattle.json_words.specs.JsonText.{json_of}
use Rattle.commit_objects.specs.Commit.{commit_of, commit_in as commit_from, stored_id_of, stored_id_at, id_at, library_id_at, parent_at, text_at, conflict_at}
use Rattle.commit_objects.specs.CommitKey.{key_text, at_key}
use Rattle.commit_objects.specs.declared.commit.Commit.{Commit}
use Rattle.commit_objects.specs.declared.fault.BadCommit.{BadCommit}
use Rattle.commit_objects.specs.declared.fault.BadCommit.TheVariants.{NotJson, BadId}
use Rattle.commit_objects.specs.declared.fault.CommitKey.{CommitKey}
use Rattle.commit_objects.specs.declared.fault.CommitKey.TheVariants.{KCommitId, KRootId, KRepoId, KCtime, KParentId, KSecondParentId, KCreator, KCreatorName, KDescription}
use Rattle.library_state.specs.ProperState.{IsProper, IsProperInstall, IsProperToken}
use Rattle.library_state.specs.declared.history.Install.{Install}
use Rattle.library_state.specs.declared.token.Token.{Token}
use Rattle.object_graph.specs.Objects.{commit_at, commit_key, commit_in, of_name, same_id}
use Rattle.object_graph.specs.Traversal.{IsComplete}
use Rattle.object_graph.specs.declared.fault.TreeFault.TheVariants.{Unreadable}
use Rattle.object_graph.proofs.CommitLemmas.{commit_root}
use Rattle.library_rules.specs.LibraryState.{State, is_kept, users_of, IsSound}
use Rattle.library_rules.proofs.MemberLemmas.{same_id-true, same_id-itself}
use Rattle.std.proofs.lemmas.Bool.{or_left, or_right}
use Rattle.ids.proofs.BasicLemmas.{same_from_some}
use Rattle.json_words.proofs.CheckLemmas.{WentOn, went_on}

-- ---- no commit is read that is named by forty zeros

given : {A E : Type 0} (o : Option A) (fault : E) (y : A) → ok_or o fault ≡ Ok y → o ≡ Some y
given (Some x) fault y is = cc
given None fault y is = cc

not_zeros : (o : Option (List ℕ)) (id : List ℕ) → option_and_then unless_nil o ≡ Some id → id ≢ nil
not_zeros None id is = cc
not_zeros (Some x) id is = by (bytes_eq x nil) refl is
  where
    by : (b : Bool) → bytes_eq x nil ≡ b → (if b then None else Some x) ≡ Some id → id ≢ nil
    by true test is = cc
    by false test is = λ zeros. true≢false (sym ((bytes_decides x nil).1 (same_from_some x id is ∙ zeros)) ∙ test)

stored_not_zeros : (key : CommitKey) (d : Data) (id : List ℕ) → stored_id_at key d ≡ Ok id → id ≢ nil
unfolding stored_id_at stored_id_of
stored_not_zeros key d id is =
    let text = went_on (at_key key (text_field (key_text key) d)) _ id is in
    not_zeros (object_id_of text.value) id (given (stored_id_of text.value) (BadId key) id text.goes)

-- a reader's next step, where the first gave a value
onward : {A : Type 0} (first : Result A BadCommit) (next : A → Result Commit BadCommit) (commit : Commit)
    → ((a : A) → first ≡ Ok a → next a ≡ Ok commit → commit.id ≢ nil) → (first >>= next) ≡ Ok commit → commit.id ≢ nil
onward (Ok a) next commit each is = each a refl is
onward (Err bad) next commit each is = cc

read_id : (id : List ℕ) (read commit : Commit) → read.id ≡ id → (let r : Result Commit BadCommit = Ok read in r) ≡ Ok commit → id ≡ commit.id
read_id id read commit is same = cc

from_not_zeros : (d : Data) (commit : Commit) → commit_from d ≡ Ok commit → commit.id ≢ nil
unfolding commit_from
from_not_zeros d commit is =
    onward (stored_id_at KCommitId d) _ commit (λ id gave is.
    onward (id_at KRootId d) _ commit (λ root _ is.
    onward (library_id_at KRepoId d) _ commit (λ lib _ is.
    onward (at_key KCtime (number_field (key_text KCtime) d)) _ commit (λ ctime _ is.
    onward (parent_at KParentId d) _ commit (λ parent _ is.
    onward (parent_at KSecondParentId d) _ commit (λ second _ is.
    onward (text_at KCreator d) _ commit (λ creator _ is.
    onward (text_at KCreatorName d) _ commit (λ creator_name _ is.
    onward (text_at KDescription d) _ commit (λ description _ is.
    onward (conflict_at d) _ commit (λ conflict _ is.
    subst (λ x. x ≢ nil) (read_id id _ commit refl is) (stored_not_zeros KCommitId d id gave)) is) is) is) is) is) is) is) is) is) is

commit_not_zeros : (bytes : List ℕ) (commit : Commit) → commit_of bytes ≡ Ok commit → commit.id ≢ nil
unfolding commit_of
commit_not_zeros bytes commit is =
    let d = went_on (ok_or (json_of bytes) NotJson) _ commit is in
    let object = went_on (holds (is_object d.value) NotJson) _ commit d.goes in
    from_not_zeros d.value commit object.goes

pub read_not_zeros : (A : Objects) (id : List ℕ) (commit : Commit) → commit_at A id ≡ Ok commit → id ≢ nil
read_not_zeros A id commit is = by (map.get A (commit_key id)) is
  where
    named : (c : Commit) → c.id ≢ nil → (b : Bool) → same_id c.id id ≡ b → (if b then Ok c else Err (Unreadable (commit_key id))) ≡ Ok commit → id ≢ nil
    named c some true same is = subst (λ x. x ≢ nil) (same_id-true c.id id same) some
    named c some false same is = cc

    read : (bytes : List ℕ) (r : Result Commit BadCommit) → commit_of bytes ≡ r → of_name id r ≡ Ok commit → id ≢ nil
    read bytes (Ok c) gave is = named c (commit_not_zeros bytes c gave) (same_id c.id id) refl is
    read bytes (Err bad) gave is = cc

    by : (o : Option (List ℕ)) → commit_in id o ≡ Ok commit → id ≢ nil
    by None is = cc
    by (Some bytes) is = read bytes (commit_of bytes) refl is

pub complete_not_zeros : (A : Objects) (id : List ℕ) → IsComplete A id → id ≢ nil
complete_not_zeros A id complete = read_not_zeros A id (commit_root A id complete).0 (commit_root A id complete).1

-- ---- the parts of a state

proper_installs : (installs : List Install) → ((id : List ℕ) → is_kept installs id ≡ true → id ≢ nil) → AllByRecursion IsProperInstall installs
proper_installs [] some = tt
proper_installs (i ∷ installs) some = (
  record {
    head = some i.head (or_left (same_id i.head i.head) (same_id i.head i.pushed || is_kept installs i.head) (same_id-itself i.head));
    pushed = some i.pushed (or_right (same_id i.pushed i.head) (same_id i.pushed i.pushed || is_kept installs i.pushed)
        (or_left (same_id i.pushed i.pushed) (is_kept installs i.pushed) (same_id-itself i.pushed)));
  },
  proper_installs installs (λ id e. some id (or_right (same_id id i.head) (same_id id i.pushed || is_kept installs id) (or_right (same_id id i.pushed) (is_kept installs id) e))),
)

proper_tokens : (collection : ℕ) (tokens : List Token) → AllByRecursion (λ (t : Token). t.last ≤ collection) tokens
    → AllByRecursion (λ user. (1 ≤ length user) × (length user ≤ 255)) (users_of tokens) → AllByRecursion (IsProperToken collection) tokens
proper_tokens collection [] lasts users = tt
proper_tokens collection (t ∷ tokens) lasts users = (record { last = lasts.0; least = users.0.0; most = users.0.1 }, proper_tokens collection tokens lasts.1 users.1)

some_length : {A : Type 0} (xs : List A) → xs ≢ [] → 1 ≤ length xs
some_length [] some = absurd (some refl)
some_length (x ∷ xs) some = at_least (length xs)
  where
    at_least : (k : ℕ) → 1 ≤ suc k
    at_least k = omega arith

pub sound_is_proper : (s : State) → IsSound s → IsProper s.state
sound_is_proper s sound = record {
  collection = sound.numbers.collections;
  days = sound.numbers.day_count;
  some_kept = some_length s.state.kept sound.kept.some_kept;
  kept = All-from_recursion IsProperInstall s.state.kept (proper_installs s.state.kept (λ id e. complete_not_zeros s.objects id (sound.kept.complete id e)));
  name = sound.numbers.name_size;
  opened = sound.numbers.opened;
  opening = sound.numbers.openings;
  tokens = record {
    each = All-from_recursion (IsProperToken s.state.collection) s.state.tokens (proper_tokens s.state.collection s.state.tokens sound.tokens.lasts sound.tokens.users);
    few = sound.tokens.few;
    distinct = sound.tokens.secrets;
  };
}
