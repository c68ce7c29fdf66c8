-- What stands between a link and the reader of requests: the bytes that were taken and not yet
-- used, and then those that the link has left. Read first: Link.
use Rattle.std.specs.Prelude.{ℕ, ◌≡◌, ◌≤◌, ◌⊎◌, List, [], ◌++◌, length, Option}
use Rattle.std.specs.Io.KnownBytes.{append_known, prepend_known}
use Rattle.http_front.specs.Link.{LinkTells, asked_once_more}
use Rattle.http_front.specs.Limits.{piece_limit}

-- what a buffer and its link have to read, where the link tells it
abbrev pub to_read : List ℕ → Option (List ℕ) → Option (List ℕ)
to_read buffer left = prepend_known buffer left

-- a piece came into the buffer, for which the link was asked once; or there was no room for one, and the link is as it was
pub record Fills (buffer now : List ℕ) (old new : LinkTells) : Type 0 where
  pub piece : List ℕ
  pub bound : length piece ≤ piece_limit
  pub grown : now ≡ buffer ++ piece
  pub taken : new.taken ≡ append_known old.taken piece
  pub given : new.given ≡ old.given
  pub asked : ((piece ≡ []) × (new.asked ≡ old.asked)) ⊎ (new.asked ≡ asked_once_more old.asked old.taken old.given)
