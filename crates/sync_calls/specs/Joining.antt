-- What becomes of two passes that are joined. Our own. Read IsJoined, then IsJoinedPass and AreJoined.
use Rattle.std.specs.Prelude.{◌≡◌, ℕ, ◌+◌, ◌<◌, ◌++◌, max, List, length, slice_index_or}
use mathlib.Core.List.{IsPrefix}
use Rattle.turnstile.specs.Lists.{IsOnce, longer, shorter}
use Rattle.turnstile.specs.PassView.{drawn_of}
use Rattle.sync_calls.specs.Shown.{LibraryPass, Shown, shown_of}

-- the longer of both histories is seen, which the shorter one begins; the greater number was looked at, by the looks of both; the
-- book has the places of both, each once; and the turns are those of both
pub record IsJoined {S : Type 0} (u v w : Shown S) : Type 0 where
  pub start : w.start ≡ u.start
  pub seen : w.seen ≡ longer u.seen v.seen
  pub begins : IsPrefix (shorter u.seen v.seen) w.seen
  pub looked : w.looked ≡ max u.looked v.looked
  pub looks : w.looks ≡ u.looks + v.looks
  pub book : w.book ≡ u.book ++ v.book
  pub once : IsOnce w.book
  pub turns : w.turns ≡ u.turns + v.turns

-- so of two passes to one library, and the greater number was read of its lock
abbrev pub IsJoinedPass : {S : Type 0} → LibraryPass S → LibraryPass S → LibraryPass S → Type 0
IsJoinedPass d e f = IsJoined (shown_of d) (shown_of e) (shown_of f) × (drawn_of f ≡ max (drawn_of d) (drawn_of e))

-- so of each library
abbrev pub AreJoined : {S : Type 0} → (into from now : List (LibraryPass S)) → Type 0
AreJoined {S} into from now = (length now ≡ length into)
    × ((i : ℕ) (d e f : LibraryPass S) → i < length into → IsJoinedPass (slice_index_or into i d) (slice_index_or from i e) (slice_index_or now i f))
