-- What a sync sends: which orders, what it puts, in which rounds, and what it asks for. Our own. Read OrdersSo, at the end,
-- then MadeSo, PutsLacked, GoesInRounds and GetsNeeded. All of it is so over every folder and remote.
use Rattle.std.specs.Prelude.{ℕ, ◌≡◌, ◌≤◌, ◌⊎◌, ◌&&◌, not, Bool, true, false, All, List, [], ◌∷◌, ◌++◌, length, Option, None, Some, IsSome, Ok, if◌then◌else◌, ⊤}
use Rattle.std.specs.Option.{option_or}
use Rattle.sha1.specs.Sha1.{sha1}
use Rattle.ids.specs.Key.{Objects}
use Rattle.ids.specs.declared.key.Key.{Key}
use Rattle.ids.specs.declared.key.Kind.{Kind}
use Rattle.ids.specs.declared.key.Kind.TheVariants as kind
use Rattle.commit_objects.specs.Commit.{commit_of}
use Rattle.commit_objects.specs.Made.{made}
use Rattle.commit_objects.specs.Spelling.{text_of}
use Rattle.commit_objects.specs.declared.commit.Commit.{Commit}
use Rattle.library_state.specs.declared.call.Op.TheVariants as op
use Rattle.library_state.specs.declared.reply.Reply.TheVariants as reply
use Rattle.object_graph.specs.Objects.{commit_key}
use Rattle.object_graph.specs.Reached.{ReachedFrom}
use Rattle.object_graph.specs.Traversal.{is_in}
use Rattle.http_client.specs.RequestText.{body_in}
use Rattle.http_front.specs.declared.order.What.{What}
use Rattle.http_front.specs.declared.order.What.TheVariants as what
use Rattle.http_front.specs.declared.outcome.Outcome.TheVariants.{Plain}
use Rattle.http_front.specs.declared.row.Row.{Row}
use Rattle.remote_calls.specs.Sends.{Ending, Sent}
use Rattle.sync_rules.specs.Causes.{is_stale}
use Rattle.sync_rules.specs.Named.{HasGot, asked_after, asked_by, begins_round, is_check, is_get, is_upload, keys_lacked, keys_put, last_head, put_by, round_after}
use Rattle.sync_rules.specs.Offer.{offer_words}

-- ---- which orders

-- an order of a sync: of its library, with its secret, and nothing but what a sync asks
abbrev pub is_sync_what : What → Bool
is_sync_what (what.Check op) = true
is_sync_what (what.Head None) = true
is_sync_what (what.Get key) = true
is_sync_what (what.GetFs ids) = true
is_sync_what (what.Missing kind ids) = true
is_sync_what (what.Put key bytes) = true
is_sync_what (what.PutFs rows) = true
is_sync_what (what.Update commit) = true
is_sync_what _ = false

-- no list of ids has more than this
abbrev pub most_asked : ℕ
most_asked = 10000

-- files and directories that are put at once have no more bytes in their body than this, or there is one alone
abbrev pub most_bytes : ℕ
most_bytes = 1048576

abbrev pub IsSmall : List Row → Type 0
IsSmall rows = (length (body_in (what.PutFs rows)) ≤ most_bytes) ⊎ (length rows ≡ 1)

abbrev pub AsksFew : What → Type 0
AsksFew (what.GetFs ids) = length ids ≤ most_asked
AsksFew (what.Missing kind ids) = length ids ≤ most_asked
AsksFew (what.PutFs rows) = IsSmall rows
AsksFew _ = ⊤

abbrev pub IsSyncOrder : List ℕ → List ℕ → Sent → Type 0
IsSyncOrder lib secret sent = (sent.0.lib ≡ Some lib) × (sent.0.secret ≡ Some secret) × (is_sync_what sent.0.what ≡ true) × AsksFew sent.0.what

-- what was sent are orders of a sync
abbrev pub AsksAll : (lib secret : List ℕ) → List Sent → List Sent → Type 0
AsksAll lib secret old new = (more : List Sent) × (new ≡ old ++ more) × All (IsSyncOrder lib secret) more

-- ---- what is put

-- the text of a commit that a sync makes: of this library, on this parent, and never on none, by this user, at a moment of the clock,
-- under the name of its text
pub record IsSyncCommit (lib user : List ℕ) (shows : ℕ → Type 0) (parent : Option (List ℕ)) (id bytes : List ℕ) : Type 0 where
  pub root : List ℕ
  pub moment : ℕ
  pub shown : shows moment
  pub based : IsSome parent
  pub commit : Commit
  pub is : commit ≡ made lib root parent None user offer_words moment false
  pub named : commit.id ≡ id
  pub spelled : bytes ≡ text_of commit
  pub reads : commit_of bytes ≡ Ok commit

-- a library is asked to stand at a commit just behind the order that puts it
abbrev pub StandsAtPut : (lib user : List ℕ) → (shows : ℕ → Type 0) → (parent : Option (List ℕ)) → (before asked : What) → Type 0
StandsAtPut lib user shows parent (what.Put key bytes) (what.Update id) = (key ≡ commit_key id) × IsSyncCommit lib user shows parent id bytes
StandsAtPut lib user shows parent before (what.Update id) = ⊥
StandsAtPut lib user shows parent before asked = ⊤

-- what is put has its name, and a commit is one that a sync makes
abbrev pub PutsAs : (lib user : List ℕ) → (shows : ℕ → Type 0) → (parent : Option (List ℕ)) → Kind → (id bytes : List ℕ) → Type 0
PutsAs lib user shows parent kind.Commit id bytes = IsSyncCommit lib user shows parent id bytes
PutsAs lib user shows parent kind.Fs id bytes = sha1 bytes ≡ id
PutsAs lib user shows parent kind.Block id bytes = sha1 bytes ≡ id

abbrev pub IsRowNamed : Row → Type 0
IsRowNamed row = sha1 row.bytes ≡ row.id

abbrev pub PutsSo : (lib user : List ℕ) → (shows : ℕ → Type 0) → (parent : Option (List ℕ)) → What → Type 0
PutsSo lib user shows parent (what.Put key bytes) = PutsAs lib user shows parent key.kind key.id bytes
PutsSo lib user shows parent (what.PutFs rows) = All IsRowNamed rows
PutsSo lib user shows parent asked = ⊤

-- each commit that is put, or that it is asked to stand at, was made so, on the index's base, or on the head that was asked in the
-- round where there was none; `before` is the order before these
abbrev pub MadeSo : (lib user : List ℕ) → (shows : ℕ → Type 0) → (base asked : Option (List ℕ)) → (before : What) → List Sent → Type 0
MadeSo lib user shows base asked before [] = ⊤
MadeSo lib user shows base asked before (sent ∷ more) =
    StandsAtPut lib user shows (option_or base asked) before sent.0.what × PutsSo lib user shows (option_or base asked) sent.0.what
    × MadeSo lib user shows base (asked_after sent.0.what sent.1 asked) sent.0.what more

-- beside commits just what the library told to lack in a round is put in it, all of it before the library is asked to stand at a
-- commit; `round` was sent before these in it. So no sync asks what is lacking and sends nothing of it, or sends what is there
abbrev pub LackedAs : (round : List Sent) → Key → Kind → Type 0
LackedAs round key kind.Commit = ⊤
LackedAs round key kind.Fs = is_in (keys_lacked round) key ≡ true
LackedAs round key kind.Block = is_in (keys_lacked round) key ≡ true

abbrev pub IsLacked : (round : List Sent) → Key → Type 0
IsLacked round key = LackedAs round key key.kind

abbrev pub PutsAt : (round : List Sent) → What → Type 0
PutsAt round (what.Update commit) = All (λ (key : Key). is_in (keys_put round) key ≡ true) (keys_lacked round)
PutsAt round asked = All (IsLacked round) (put_by asked)

abbrev pub PutsLacked : (round : List Sent) → List Sent → Type 0
PutsLacked round [] = ⊤
PutsLacked round (sent ∷ more) = PutsAt round sent.0.what × PutsLacked (round_after round sent) more

-- ---- rounds

-- where a sync stands in its rounds. One may begin: nothing is sent but an upload check. An upload was denied: nothing is sent but
-- the question whether one may download. An upload was allowed. Nothing is uploaded any more. The library stands at what was pushed:
-- nothing is sent but what asks for objects
pub data Stage : Type 0 where
  Begins : Stage
  Denies : Stage
  Uploads : Stage
  Reads : Stage
  Stands : Stage

abbrev pub asks_download : What → Bool
asks_download (what.Check op.Download) = true
asks_download _ = false

abbrev pub may_send : Stage → What → Bool
may_send Begins asked = begins_round asked
may_send Denies asked = asks_download asked
may_send Uploads asked = not (is_check asked)
may_send Reads asked = not (is_check asked) && not (is_upload asked)
may_send Stands asked = is_get asked

-- the first round begins the sync, and each other comes after an update that came too late
abbrev pub stage_after : What → Ending → Stage → Stage
stage_after (what.Check op.Upload) (Ok (Plain reply.Checked tag)) before = Uploads
stage_after (what.Check op.Upload) ending before = Denies
stage_after (what.Check op.Download) ending before = Reads
stage_after (what.Update commit) ending before = if is_stale ending then Begins else Stands
stage_after _ _ before = before

-- each round asks the library to stand at one commit at most, and none follows one at which it stands
abbrev pub GoesInRounds : Stage → List Sent → Type 0
GoesInRounds stage [] = ⊤
GoesInRounds stage (sent ∷ more) = (may_send stage sent.0.what ≡ true) × GoesInRounds (stage_after sent.0.what sent.1 stage) more

-- ---- what is asked for

-- the commit at which the library was told to stand last, or what that needs, over any objects that have what was got before. So a
-- sync gets its head from the top down, and nothing beside it
pub record IsNeeded (before : List Sent) (key : Key) : Type 0 where
  pub head : List ℕ
  pub pushed : Option (List ℕ)
  pub named : last_head before None ≡ Some (head, pushed)
  pub reached : (objects : Objects) → HasGot objects before → ReachedFrom objects [] (commit_key head ∷ []) key

abbrev pub GetsNeeded : (before : List Sent) → List Sent → Type 0
GetsNeeded before [] = ⊤
GetsNeeded before (sent ∷ more) = All (IsNeeded before) (asked_by sent.0.what) × GetsNeeded (before ++ sent ∷ []) more

-- ---- all of it

-- the orders of one sync, over every folder and remote
pub record OrdersSo (lib secret user : List ℕ) (shows : ℕ → Type 0) (base : Option (List ℕ)) (more : List Sent) : Type 0 where
  pub asks : All (IsSyncOrder lib secret) more
  pub made : MadeSo lib user shows base None what.Version more
  pub puts : PutsLacked [] more
  pub rounds : GoesInRounds Begins more
  pub gets : GetsNeeded [] more
