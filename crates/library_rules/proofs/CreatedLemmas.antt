-- A new library is sound, and so is one with a token more. The key lemmas are sound_created and sound_with_token.
use Rattle.std.proofs.Common.{◌≡◌, ◌||◌, ◌⊎◌, inl, inr, ℕ, ◌+◌, ◌≤◌, ◌<◌, Bool, true, false, List, [], ◌∷◌, ◌++◌, length, refl, sym, ap, ◌∙◌, subst, true≢false, arith, Result, Ok, zero-le}
use Rattle.std.specs.List.{AllByRecursion, IsDistinct}
use Rattle.std.specs.Str.{bytes_eq}
use Rattle.std.specs.Cmp.Lexicographic.{bytes_decides}
use Rattle.ids.specs.Key.{Objects}
use Rattle.ids.specs.ObjectId.{nil}
use Rattle.commit_objects.specs.declared.commit.Commit.{Commit}
use Rattle.library_state.specs.Tokens.{secrets_of, is_taken}
use Rattle.library_state.specs.declared.right.Right.{Right}
use Rattle.library_state.specs.declared.token.Token.{Token}
use Rattle.object_graph.specs.Objects.{commit_key, commit_at, same_id}
use Rattle.object_graph.specs.Traversal.{start, visited, then_read, walk_root, walk_commit, IsComplete}
use Rattle.object_graph.specs.declared.fault.TreeFault.{TreeFault}
use Rattle.library_rules.specs.Creation.{opening_commit, opening_object, created_at, created, with_token}
use Rattle.library_rules.specs.Changes.{put_new}
use Rattle.library_rules.specs.LibraryState.{State, IsSound, users_of}
use Rattle.library_rules.proofs.KeptHistoryLemmas.{cons_some}
use Rattle.library_rules.proofs.MemberLemmas.{same_id-true}
use Rattle.std.proofs.lemmas.Bool.{or_cases}
use Rattle.ids.proofs.BasicLemmas.{AllByRecursion-push}
use Rattle.std.proofs.lemmas.List.{length_push}

-- a commit with no file is complete once it is stored
pub empty_complete : (A : Objects) (id : List ℕ) (commit : Commit) → commit_at A id ≡ Ok commit → commit.root ≡ nil → IsComplete A id
unfolding walk_commit
empty_complete A id commit read empty =
    ap (λ (r : Result Commit TreeFault). (then_read r (λ c. walk_root true A c.root) (visited (commit_key id) start)).fault) read
    ∙ ap (λ root. (walk_root true A root (visited (commit_key id) start)).fault) empty

module _ (lib name user secret : List ℕ) (moment : ℕ) (objects : Objects) (faults : ℕ) (commit : Commit)
    (read : commit_at (put_new objects (opening_object commit)) commit.id ≡ Ok commit) (empty : commit.root ≡ nil) where
  one_kept : (id : List ℕ) → (same_id id commit.id || (same_id id commit.id || false)) ≡ true → id ≡ commit.id
  one_kept id e = by (or_cases (same_id id commit.id) (same_id id commit.id || false) e)
    where
      last : (same_id id commit.id ≡ true) ⊎ (false ≡ true) → id ≡ commit.id
      last (inl same) = same_id-true id commit.id same
      last (inr never) = absurd (true≢false (sym never))

      by : (same_id id commit.id ≡ true) ⊎ ((same_id id commit.id || false) ≡ true) → id ≡ commit.id
      by (inl same) = same_id-true id commit.id same
      by (inr other) = last (or_cases (same_id id commit.id) false other)

  pub sound_created_at : length name ≤ 255 → 1 ≤ length user → length user ≤ 255 → IsSound (created_at commit lib name user secret moment objects faults)
  unfolding IsDistinct
  sound_created_at name_fits some_user user_fits = record {
    kept = record {
      some_kept = cons_some (record { head = commit.id; pushed = commit.id; at = moment }) [];
      complete = λ id e. subst (IsComplete (put_new objects (opening_object commit))) (sym (one_kept id e))
          (empty_complete (put_new objects (opening_object commit)) commit.id commit read empty);
      fresh_stored = λ key e. absurd (true≢false (sym e));
    };
    tokens = record {
      secrets = (tt, tt);
      few = omega arith;
      lasts = (zero-le, tt);
      users = ((some_user, user_fits), tt);
    };
    numbers = record { collections = omega arith; opened = omega arith; openings = omega arith; day_count = refl; name_size = name_fits };
  }

pub sound_created : (lib name user secret : List ℕ) (moment : ℕ) (objects : Objects) (faults : ℕ)
    → commit_at (put_new objects (opening_object (opening_commit lib user moment))) (opening_commit lib user moment).id ≡ Ok (opening_commit lib user moment)
    → length name ≤ 255 → 1 ≤ length user → length user ≤ 255 → IsSound (created lib name user secret moment objects faults)
sound_created lib name user secret moment objects faults read =
    sound_created_at lib name user secret moment objects faults (opening_commit lib user moment) read refl

-- ---- a token more

secrets_push : (tokens : List Token) (t : Token) → secrets_of (tokens ++ t ∷ []) ≡ secrets_of tokens ++ t.secret ∷ []
secrets_push [] t = refl
secrets_push (x ∷ tokens) t = ap (λ secrets. x.secret ∷ secrets) (secrets_push tokens t)

users_push : (tokens : List Token) (t : Token) → users_of (tokens ++ t ∷ []) ≡ users_of tokens ++ t.user ∷ []
users_push [] t = refl
users_push (x ∷ tokens) t = ap (λ users. x.user ∷ users) (users_push tokens t)

bytes_swap : (a b : List ℕ) → bytes_eq a b ≡ false → bytes_eq b a ≡ false
bytes_swap a b apart = by (bytes_eq b a) refl
  where
    by : (c : Bool) → bytes_eq b a ≡ c → c ≡ false
    by false is = refl
    by true is = absurd (true≢false (sym ((bytes_decides a b).1 (sym ((bytes_decides b a).0 is))) ∙ apart))

-- a secret that none of the tokens has
none_taken : (tokens : List Token) (secret : List ℕ) → is_taken tokens secret ≡ false → AllByRecursion (λ other. bytes_eq other secret ≡ false) (secrets_of tokens)
none_taken [] secret free = tt
none_taken (t ∷ tokens) secret free = by (bytes_eq secret t.secret) refl (λ e. none_taken tokens secret e) free
  where
    by : (b : Bool) → bytes_eq secret t.secret ≡ b
        → (is_taken tokens secret ≡ false → AllByRecursion (λ other. bytes_eq other secret ≡ false) (secrets_of tokens))
        → (b || is_taken tokens secret) ≡ false
        → (bytes_eq t.secret secret ≡ false) × AllByRecursion (λ other. bytes_eq other secret ≡ false) (secrets_of tokens)
    by true is rest e = absurd (true≢false e)
    by false is rest e = (bytes_swap secret t.secret is, rest e)

distinct_push : (secrets : List (List ℕ)) (secret : List ℕ) → IsDistinct bytes_eq secrets → AllByRecursion (λ other. bytes_eq other secret ≡ false) secrets
    → IsDistinct bytes_eq (secrets ++ secret ∷ [])
unfolding IsDistinct
distinct_push [] secret distinct free = (tt, tt)
distinct_push (x ∷ secrets) secret distinct free = (AllByRecursion-push (λ y. bytes_eq x y ≡ false) secrets secret distinct.0 free.0, distinct_push secrets secret distinct.1 free.1)

pub sound_with_token : (s : State) (user secret : List ℕ) (right : Right) → IsSound s → is_taken s.state.tokens secret ≡ false → length s.state.tokens < 1000
    → 1 ≤ length user → length user ≤ 255 → IsSound (with_token user secret right s)
sound_with_token s user secret right sound free room some_user user_fits = record {
  kept = sound.kept;
  tokens = record {
    secrets = subst (IsDistinct bytes_eq) (sym (secrets_push s.state.tokens t))
        (distinct_push (secrets_of s.state.tokens) secret sound.tokens.secrets (none_taken s.state.tokens secret free));
    few = subst (λ k. k ≤ 1000) (sym (length_push s.state.tokens t)) (fits (length s.state.tokens) room);
    lasts = AllByRecursion-push (λ (x : Token). x.last ≤ s.state.collection) s.state.tokens t sound.tokens.lasts zero-le;
    users = subst (AllByRecursion (λ u. (1 ≤ length u) × (length u ≤ 255))) (sym (users_push s.state.tokens t))
        (AllByRecursion-push (λ u. (1 ≤ length u) × (length u ≤ 255)) (users_of s.state.tokens) user sound.tokens.users (some_user, user_fits));
  };
  numbers = sound.numbers;
}
  where
    t : Token
    t = record { secret = secret; user = user; right = right; last = 0 }

    fits : (k : ℕ) → k < 1000 → k + 1 ≤ 1000
    fits k less = omega arith
