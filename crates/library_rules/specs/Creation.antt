-- A new library, and a token more. Our own. Read first_state, then created and with_token.
use Rattle.std.specs.Prelude.{ℕ, negsuc, false, List, [], ◌∷◌, ◌++◌, codes, None}
use Rattle.ids.specs.Key.{Objects}
use Rattle.ids.specs.ObjectId.{nil}
use Rattle.commit_objects.specs.Made.{made}
use Rattle.commit_objects.specs.Spelling.{text_of}
use Rattle.commit_objects.specs.declared.commit.Commit.{Commit}
use Rattle.library_state.specs.declared.right.Right.{Right}
use Rattle.library_state.specs.declared.right.Right.TheVariants.{Owner}
use Rattle.library_state.specs.declared.state.LibState.{LibState}
use Rattle.object_graph.specs.Objects.{commit_key}
use Rattle.library_rules.specs.Changes.{put_new}
use Rattle.library_rules.specs.LibraryState.{State}
use Rattle.library_rules.specs.declared.entry.Stored.{Stored}

-- the first commit of a library: it has no file and no parent
abbrev pub opening_commit : (lib user : List ℕ) → ℕ → Commit
opening_commit lib user moment = made lib nil None None user (codes "Created library") moment false

-- a commit as it is put: its text, under its name
abbrev pub opening_object : Commit → Stored
opening_object commit = record { key = commit_key commit.id; bytes = text_of commit }

-- the state of a new library: its history is one head update, all of it is retained, and one token has every right
abbrev pub first_state : (lib name user secret head : List ℕ) → ℕ → LibState
first_state lib name user secret head moment = record {
  lib = lib;
  name = name;
  kept = record { head = head; pushed = head; at = moment } ∷ [];
  days = negsuc 0;
  collection = 0;
  opening = 1;
  tokens = record { secret = secret; user = user; right = Owner; last = 0 } ∷ [];
}

-- a new library, whose history is the opening commit
abbrev pub created_at : Commit → (lib name user secret : List ℕ) → ℕ → Objects → ℕ → State
created_at commit lib name user secret moment objects faults = record {
  objects = put_new objects (opening_object commit);
  state = first_state lib name user secret commit.id moment;
  running = None;
  faults = faults;
}

-- a new library over what is stored, with its opening commit of this moment
abbrev pub created : (lib name user secret : List ℕ) → ℕ → Objects → ℕ → State
created lib name user secret moment objects faults = created_at (opening_commit lib user moment) lib name user secret moment objects faults

-- the state with one token more, which saw no collection
abbrev pub with_new_token : (user secret : List ℕ) → Right → LibState → LibState
with_new_token user secret right state = record state { tokens = state.tokens ++ record { secret = secret; user = user; right = right; last = 0 } ∷ [] }

-- the library with one token more
abbrev pub with_token : (user secret : List ℕ) → Right → State → State
with_token user secret right s = record s { state = with_new_token user secret right s.state }
