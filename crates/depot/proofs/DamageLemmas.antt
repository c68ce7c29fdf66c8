-- The cause of damage that a library tells: what an answer and a turn of a collection tell of damage, the shelf may give; and what they
-- lay is none. The key lemmas are answer_caused, reply_back, harmless_then, turn_harmless and turn_caused.
use Rattle.std.proofs.Common.{◌≡◌, ◌⊎◌, inl, inr, ℕ, Bool, true, false, true≢false, if◌then◌else◌, List, [], ◌∷◌, ◌++◌, nat_lt, not, Option, None, Some, option_map, Result, Ok, Err, refl, sym, subst, ◌∙◌}
use Rattle.std.specs.Prelude.{IsTrue, ⊤}
use Rattle.std.specs.Bool.{then_some}
use Rattle.sha1.specs.Sha1.{sha1}
use Rattle.ids.specs.declared.key.Key.{Key}
use Rattle.ids.specs.declared.key.Kind.{Kind}
use Rattle.commit_objects.specs.Commit.{commit_of}
use Rattle.commit_objects.specs.declared.commit.Commit.{Commit}
use Rattle.commit_objects.specs.declared.fault.BadCommit.{BadCommit}
use Rattle.fs_objects.specs.FsObject.{fs_of}
use Rattle.fs_objects.specs.declared.fault.BadFs.{BadFs}
use Rattle.fs_objects.specs.declared.fs_object.FsObject.{FsObject}
use Rattle.depot.specs.Answering.{MayAnswer, MayDo, is_free_reply, MayRefuseTree, is_free_refusal}
use Rattle.depot.specs.Giving.{GivesBy, IsGone, IsOfSweep, MayLay}
use Rattle.library_rules.specs.Calls.{act_decided, decided, first_refusal, may, not_commit, not_fs, put_refusals, token_decided, token_of}
use Rattle.library_rules.specs.LibraryState.{head_of, is_day_count, is_kept, Running}
use Rattle.library_state.specs.declared.call.Act.{Act}
use Rattle.library_state.specs.declared.call.Call.{Call}
use Rattle.library_state.specs.declared.refusal.Refusal.{Refusal}
use Rattle.library_state.specs.declared.reply.Reply.{Reply}
use Rattle.library_state.specs.declared.state.LibState.{LibState}
use Rattle.library_state.specs.declared.token.Token.{Token}
use Rattle.object_graph.specs.Objects.{commit_key, is_nil, same_id}
use Rattle.object_graph.specs.Traversal.{is_in}
use Rattle.object_store.specs.Store.{IsDamage, IsOther, has_other_name, name_refusal, same_bytes}
use Rattle.ids.specs.ObjectId.{nil}
use Rattle.object_store.specs.StoreView.{Index}
use Rattle.object_store.specs.declared.shelf.Slot.{Slot}
use Rattle.object_store.specs.declared.shelf.Slot.TheVariants.{Object, Status}
use Rattle.depot.specs.CollectionTurns.{MayLayIn, MayLayRefused, MayTurn, removed_in}
use Rattle.depot.specs.declared.turn.Turn.{Turn}
use Rattle.depot.specs.declared.turn.Turn.TheVariants.{Began, Marked, Swept, Ended, Over, Refused}
use Rattle.ids.specs.declared.key.Kind.TheVariants as kind
use Rattle.library_state.specs.declared.call.Act.TheVariants as act
use Rattle.library_state.specs.declared.call.Op.TheVariants as op
use Rattle.library_state.specs.declared.refusal.Refusal.TheVariants as refusal
use Rattle.library_state.specs.declared.reply.Reply.TheVariants as reply
use Rattle.object_store.specs.declared.error.StoreFault.TheVariants as store
use Rattle.depot.specs.Damage.{IsCaused, IsCausedReply, OrGone, OrNothing}

-- ---- a refusal that the state decides tells of no damage

abbrev NoDamage : Refusal → Type 0
NoDamage (refusal.Damaged want got) = ⊥
NoDamage other = ⊤

abbrev NoneDamaged : Option Refusal → Type 0
NoneDamaged None = ⊤
NoneDamaged (Some why) = NoDamage why

abbrev AllUndamaged : List (Option Refusal) → Type 0
AllUndamaged [] = ⊤
AllUndamaged (o ∷ others) = NoneDamaged o × AllUndamaged others

abbrev SaysNoDamage : Reply → Type 0
SaysNoDamage (reply.Refused why) = NoDamage why
SaysNoDamage other = ⊤

abbrev MaySayNoDamage : Option Reply → Type 0
MaySayNoDamage None = ⊤
MaySayNoDamage (Some said) = SaysNoDamage said

first_undamaged : (whys : List (Option Refusal)) → AllUndamaged whys → NoneDamaged (first_refusal whys)
first_undamaged [] all = tt
first_undamaged (None ∷ others) all = first_undamaged others all.1
first_undamaged (Some why ∷ others) all = all.0

joined_undamaged : (xs ys : List (Option Refusal)) → AllUndamaged xs → AllUndamaged ys → AllUndamaged (xs ++ ys)
joined_undamaged [] ys first second = second
joined_undamaged (x ∷ xs) ys first second = (first.0, joined_undamaged xs ys first.1 second)

where_undamaged : (b : Bool) (why : Refusal) → NoDamage why → NoneDamaged (then_some b why)
where_undamaged true why is = is
where_undamaged false why is = tt

fs_undamaged : (r : Result FsObject BadFs) → NoneDamaged (not_fs r)
fs_undamaged (Ok object) = tt
fs_undamaged (Err bad) = tt

commit_undamaged : (lib id : List ℕ) (r : Result Commit BadCommit) → AllUndamaged (not_commit lib id r)
commit_undamaged lib id (Ok commit) =
    (where_undamaged (not (same_id commit.id id)) (refusal.Wrong commit.id) tt, (where_undamaged (not (same_id commit.lib lib)) (refusal.OtherLibrary commit.lib) tt, tt))
commit_undamaged lib id (Err bad) = (tt, tt)

put_undamaged : (lib : List ℕ) (k : Kind) (key : Key) (bytes : List ℕ) → AllUndamaged (put_refusals lib k key bytes)
put_undamaged lib kind.Block key bytes = (where_undamaged (not (same_id (sha1 bytes) key.id)) (refusal.Wrong (sha1 bytes)) tt, tt)
put_undamaged lib kind.Fs key bytes = (where_undamaged (not (same_id (sha1 bytes) key.id)) (refusal.Wrong (sha1 bytes)) tt, (fs_undamaged (fs_of bytes), tt))
put_undamaged lib kind.Commit key bytes = commit_undamaged lib key.id (commit_of bytes)

refused_undamaged : (o : Option Refusal) → NoneDamaged o → MaySayNoDamage (option_map reply.Refused o)
refused_undamaged None is = tt
refused_undamaged (Some why) is = is

act_undamaged : (state : LibState) (token : Token) (a : Act) → MaySayNoDamage (act_decided state token a)
act_undamaged state token (act.Check o) = tt
act_undamaged state token act.Head = tt
act_undamaged state token (act.Get key) = tt
act_undamaged state token (act.Put key bytes) =
    refused_undamaged (first_refusal (put_refusals state.lib key.kind key bytes ++ then_some (is_nil key.id) (refusal.Taken key.id) ∷ []))
    (first_undamaged (put_refusals state.lib key.kind key bytes ++ then_some (is_nil key.id) (refusal.Taken key.id) ∷ [])
    (joined_undamaged (put_refusals state.lib key.kind key bytes) (then_some (is_nil key.id) (refusal.Taken key.id) ∷ [])
    (put_undamaged state.lib key.kind key bytes) (where_undamaged (is_nil key.id) (refusal.Taken key.id) tt, tt)))
act_undamaged state token (act.Missing k ids) = tt
act_undamaged state token (act.Update commit) = by (is_kept state.kept commit) (nat_lt token.last state.collection)
  where
    by : (kept stale : Bool) → MaySayNoDamage (if kept then Some (reply.Updated (head_of state.kept))
        else if stale then Some (reply.Refused (refusal.Stale token.last state.collection)) else None)
    by true stale = tt
    by false true = tt
    by false false = tt
act_undamaged state token (act.Limit days) = by (is_day_count days)
  where
    by : (fits : Bool) → MaySayNoDamage (Some (if fits then reply.Limited else reply.Refused (refusal.BadDays days)))
    by true = tt
    by false = tt
act_undamaged state token (act.Ids server client) = by (is_kept state.kept server)
  where
    by : (kept : Bool) → MaySayNoDamage (if kept then None else Some (reply.Refused (refusal.NoObject (commit_key server))))
    by true = tt
    by false = tt

pub decided_undamaged : (state : LibState) (call : Call) → MaySayNoDamage (decided state call)
decided_undamaged state call = by (token_of state.tokens call.secret)
  where
    at : (token : Token) (enough : Bool) → MaySayNoDamage (if enough then act_decided state token call.act else Some (reply.Refused refusal.Denied))
    at token true = act_undamaged state token call.act
    at token false = tt

    by : (known : Option Token) → MaySayNoDamage (token_decided state call.act known)
    by None = tt
    by (Some token) = at token (may token call.act)

-- ---- what an answer tells of damage, the shelf may give

module _ (give : Slot → Option (List ℕ) → Type 0) where
  said_caused : (said : Reply) → SaysNoDamage said → IsCausedReply give said
  said_caused (reply.Refused (refusal.Damaged want got)) none = absurd none
  said_caused (reply.Refused other) none = tt
  said_caused other none = tt

  free_caused : (r : Reply) → IsTrue (is_free_reply r) → IsCausedReply give r
  free_caused (reply.Refused (refusal.Damaged want got)) free = absurd (true≢false (sym free))
  free_caused (reply.Refused other) free = tt
  free_caused other free = tt

  pub refused_caused : (index : Index) (a : Act) (why : Refusal) → MayDo index give a (reply.Refused why) → IsCaused give why
  refused_caused index (act.Check o) why is = absurd is
  refused_caused index act.Head why is = absurd is
  refused_caused index (act.Get key) (refusal.Damaged want got) is = (is.0, key, is.2)
  refused_caused index (act.Get key) other is = tt
  refused_caused index (act.Put key bytes) (refusal.Damaged want got) is = (is.0, key, is.2)
  refused_caused index (act.Put key bytes) other is = tt
  refused_caused index (act.Missing k ids) why is = subst (IsCaused give) (sym is) tt
  refused_caused index (act.Update commit) (refusal.Damaged want got) is = is
  refused_caused index (act.Update commit) other is = tt
  refused_caused index (act.Limit days) why is = absurd is
  refused_caused index (act.Ids server client) (refusal.Damaged want got) is = is
  refused_caused index (act.Ids server client) other is = tt

  done_caused : (index : Index) (a : Act) (r : Reply) → MayDo index give a r → IsCausedReply give r
  done_caused index a (reply.Refused why) is = refused_caused index a why is
  done_caused index a other is = tt

  pub answer_caused : (index : Index) (a : Act) (o : Option Reply) (r : Reply) → MaySayNoDamage o → MayAnswer index give a o r → IsCausedReply give r
  answer_caused index a None r none is = done_caused index a r is
  answer_caused index a (Some said) r none (inl same) = subst (IsCausedReply give) (sym same) (said_caused said none)
  answer_caused index a (Some said) r none (inr free) = free_caused r free

-- ---- what is laid under a name that it doesn't contradict is no damage

-- what may be given of an object might be given before, or is bytes under a name that they don't contradict
abbrev pub Harmless : (Slot → Option (List ℕ) → Type 0) → (Slot → Option (List ℕ) → Type 0) → Type 0
Harmless before now = (key : Key) (given : Option (List ℕ)) → now (Object key) given
    → before (Object key) given ⊎ ((bytes : List ℕ) × (given ≡ Some bytes) × (has_other_name key bytes ≡ false))

pub same_key : (a b : Key) → Object a ≡ Object b → a ≡ b
same_key a b e = cc

pub no_text : (key : Key) → Object key ≡ Status → ⊥
no_text key e = cc

own_named : (key : Key) (bytes : List ℕ) → name_refusal key bytes ≡ None → has_other_name key bytes ≡ false
own_named key bytes none = by (has_other_name key bytes) none
  where
    by : (other : Bool) → (if other then Some (store.Wrong (sha1 bytes)) else if same_bytes key.id nil then Some (store.Taken key.id) else None) ≡ None → other ≡ false
    by true e = absurd (cc)
    by false e = refl

-- a commit is named by no bytes
pub commit_harmless : (id bytes : List ℕ) (key : Key) (given : Option (List ℕ)) → Object key ≡ Object (commit_key id) → given ≡ Some bytes
    → (own : List ℕ) × (given ≡ Some own) × (has_other_name key own ≡ false)
commit_harmless id bytes key given at is = (bytes, is, subst (λ k. has_other_name k bytes ≡ false) (sym (same_key key (commit_key id) at)) refl)

laid_harmless : (lib : List ℕ) (a : Act) (key : Key) (given : Option (List ℕ)) → MayLay lib a (Object key) given
    → (bytes : List ℕ) × (given ≡ Some bytes) × (has_other_name key bytes ≡ false)
laid_harmless lib (act.Check op.Download) key given is = absurd is
laid_harmless lib (act.Check op.Upload) key given is = absurd (no_text key is.at)
laid_harmless lib act.Head key given is = absurd is
laid_harmless lib (act.Get other) key given is = absurd is
laid_harmless lib (act.Put other bytes) key given is = (bytes, is.1.is, subst (λ k. has_other_name k bytes ≡ false) (sym (same_key key other is.1.at)) is.1.named)
laid_harmless lib (act.Missing k ids) key given is = absurd is
laid_harmless lib (act.Update commit) key given (inl is) =
    (is.bytes, is.is, subst (λ k. has_other_name k is.bytes ≡ false) (sym (same_key key is.key is.at)) (own_named is.key is.bytes is.named))
laid_harmless lib (act.Update commit) key given (inr is) = absurd (no_text key is.at)
laid_harmless lib (act.Limit days) key given is = absurd (no_text key is.at)
laid_harmless lib (act.Ids server client) key given is = absurd is

pub harmless_then : (before mid now : Slot → Option (List ℕ) → Type 0) (lib : List ℕ) (a : Act) → Harmless before mid → GivesBy (MayLay lib a) mid now → Harmless before now
harmless_then before mid now lib a first second key given is = by (second (Object key) given is)
  where
    by : mid (Object key) given ⊎ MayLay lib a (Object key) given → before (Object key) given ⊎ ((bytes : List ℕ) × (given ≡ Some bytes) × (has_other_name key bytes ≡ false))
    by (inl was) = first key given was
    by (inr laid) = inr (laid_harmless lib a key given laid)

module _ (before now : Slot → Option (List ℕ) → Type 0) (harmless : Harmless before now) where
  damage_back : (key : Key) (want : List ℕ) (got : Option (List ℕ)) → IsDamage now key want got → IsDamage before key want got
  damage_back key want got is = record { given = is.given; gives = by (harmless key is.given is.gives); named = is.named; other = is.other }
    where
      by : before (Object key) is.given ⊎ ((bytes : List ℕ) × (is.given ≡ Some bytes) × (has_other_name key bytes ≡ false)) → before (Object key) is.given
      by (inl gives) = gives
      by (inr own) = absurd (true≢false (sym (subst (λ o. IsOther key o got) own.1 is.other).0 ∙ own.2))

  pub reply_back : (r : Reply) → IsCausedReply now r → IsCausedReply before r
  reply_back (reply.Refused (refusal.Damaged want got)) is = (is.0, is.1, damage_back is.1 want got is.2)
  reply_back (reply.Refused other) is = tt
  reply_back other is = tt

-- since objects left, nothing may be given too
pub nothing_more : (before now : Slot → Option (List ℕ) → Type 0) → Harmless before now → Harmless (OrNothing before) now
nothing_more before now harmless key given is = by (harmless key given is)
  where
    by : before (Object key) given ⊎ ((bytes : List ℕ) × (given ≡ Some bytes) × (has_other_name key bytes ≡ false)) → OrNothing before (Object key) given ⊎ ((bytes : List ℕ) × (given ≡ Some bytes) × (has_other_name key bytes ≡ false))
    by (inl was) = inl (inl was)
    by (inr own) = inr own

-- what a turn lays under a key is nothing
sweep_laid : (lib : List ℕ) (keys : List Key) (key : Key) (given : Option (List ℕ)) → IsOfSweep lib keys (Object key) given → IsGone keys (Object key) given
sweep_laid lib keys key given (inl text) = absurd (no_text key text.at)
sweep_laid lib keys key given (inr gone) = gone

refused_laid : (lib : List ℕ) (why : Refusal) (keys : List Key) (key : Key) (given : Option (List ℕ)) → MayLayRefused lib why keys (Object key) given → IsGone keys (Object key) given
refused_laid lib refusal.Store keys key given laid = sweep_laid lib keys key given laid
refused_laid lib refusal.NoMemory keys key given laid = sweep_laid lib keys key given laid
refused_laid lib other keys key given laid = absurd laid

turn_laid : (lib : List ℕ) (turn : Turn) (key : Key) (given : Option (List ℕ)) → MayLayIn lib turn (Object key) given → IsGone (removed_in turn) (Object key) given
turn_laid lib (Began number) key given laid = absurd (no_text key laid.at)
turn_laid lib (Marked count) key given laid = absurd laid
turn_laid lib (Swept keys) key given laid = sweep_laid lib keys key given laid
turn_laid lib (Ended number) key given laid = absurd laid
turn_laid lib (Over number) key given laid = absurd laid
turn_laid lib (Refused why keys) key given laid = refused_laid lib why keys key given laid

pub turn_harmless : (gives mid now : Slot → Option (List ℕ) → Type 0) (lib : List ℕ) (turn : Turn) → Harmless (OrNothing gives) mid → GivesBy (MayLayIn lib turn) mid now → Harmless (OrNothing gives) now
turn_harmless gives mid now lib turn harmless more key given is = by (more (Object key) given is)
  where
    by : mid (Object key) given ⊎ MayLayIn lib turn (Object key) given → OrNothing gives (Object key) given ⊎ ((bytes : List ℕ) × (given ≡ Some bytes) × (has_other_name key bytes ≡ false))
    by (inl was) = harmless key given was
    by (inr laid) = let gone = turn_laid lib turn key given laid in inl (inr (gone.0, gone.2, gone.3))

-- and so where these keys are told
pub turn_leaves : (gives mid now : Slot → Option (List ℕ) → Type 0) (lib : List ℕ) (keys : List Key) (turn : Turn) → ((key : Key) → is_in (removed_in turn) key ≡ true → is_in keys key ≡ true)
    → Harmless (OrGone keys gives) mid → GivesBy (MayLayIn lib turn) mid now → Harmless (OrGone keys gives) now
turn_leaves gives mid now lib keys turn among harmless more key given is = by (more (Object key) given is)
  where
    by : mid (Object key) given ⊎ MayLayIn lib turn (Object key) given → OrGone keys gives (Object key) given ⊎ ((bytes : List ℕ) × (given ≡ Some bytes) × (has_other_name key bytes ≡ false))
    by (inl was) = harmless key given was
    by (inr laid) = let gone = turn_laid lib turn key given laid in inl (inr (gone.0, among gone.0 gone.1, gone.2, gone.3))

-- a refusal that a turn may have: who asks and which library are looked at before
abbrev pub IsOfTurn : Refusal → Type 0
IsOfTurn refusal.Denied = ⊥
IsOfTurn refusal.NoLibrary = ⊥
IsOfTurn other = ⊤

-- why a turn is refused
abbrev pub IsCausedTurn : (Slot → Option (List ℕ) → Type 0) → Turn → Type 0
IsCausedTurn gives (Refused why keys) = IsCaused gives why × IsOfTurn why
IsCausedTurn gives other = ⊤

free_refusal : (gives : Slot → Option (List ℕ) → Type 0) (why : Refusal) → IsTrue (is_free_refusal why) → IsCaused gives why × IsOfTurn why
free_refusal gives (refusal.Damaged want got) free = absurd (true≢false (sym free))
free_refusal gives refusal.Denied free = absurd (true≢false (sym free))
free_refusal gives refusal.NoLibrary free = absurd (true≢false (sym free))
free_refusal gives other free = (tt, tt)

tree_refusal : (index : Index) (gives : Slot → Option (List ℕ) → Type 0) (why : Refusal) → MayRefuseTree index gives why → IsOfTurn why
tree_refusal index gives refusal.Denied may = may
tree_refusal index gives refusal.NoLibrary may = may
tree_refusal index gives other may = tt

pub turn_caused : (gives now : Slot → Option (List ℕ) → Type 0) → Harmless gives now → (index : Index) (running : Option Running) (collection : ℕ) (goal : Option ℕ) (turn : Turn)
    → MayTurn index now running collection goal turn → IsCausedTurn gives turn
turn_caused gives now harmless index None collection goal (Refused refusal.Spent keys) may = (tt, tt)
turn_caused gives now harmless index None collection goal (Refused why keys) may = free_refusal gives why may
turn_caused gives now harmless index (Some running) collection goal (Refused why keys) may =
    (reply_back gives now harmless (reply.Refused why) (refused_caused now index (act.Ids [] None) why may), tree_refusal index now why may)
turn_caused gives now harmless index running collection goal other may = tt
