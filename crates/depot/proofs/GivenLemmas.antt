-- What a commit that is got is, over any shelf. The key lemma is commit_given.
use Rattle.std.proofs.Common.{◌≡◌, ◌⊎◌, inl, inr, ℕ, Bool, true, false, true≢false, if◌then◌else◌, List, Option, None, Some, sym, subst}
use Rattle.ids.specs.declared.key.Key.{Key}
use Rattle.ids.specs.declared.key.Kind.TheVariants as kinds
use Rattle.library_rules.specs.Calls.{act_decided, may, token_decided, token_of}
use Rattle.library_state.specs.declared.call.Act.{Act}
use Rattle.library_state.specs.declared.call.Act.TheVariants as act
use Rattle.library_state.specs.declared.call.Call.{Call}
use Rattle.library_state.specs.declared.refusal.Refusal.TheVariants as refusal
use Rattle.library_state.specs.declared.reply.Reply.TheVariants as reply
use Rattle.library_state.specs.declared.state.LibState.{LibState}
use Rattle.library_state.specs.declared.token.Token.{Token}
use Rattle.object_graph.specs.Objects.{commit_key}
use Rattle.object_store.specs.Shelf.{Contents}
use Rattle.object_store.specs.StoreView.{Index}
use Rattle.object_store.specs.declared.shelf.Slot.{Slot}
use Rattle.object_store.specs.declared.shelf.Slot.TheVariants.{Object}
use Rattle.depot.specs.Answering.{MayAnswer}
use Rattle.depot.specs.DepotView.{DepotView}
use Rattle.depot.specs.Giving.{IsCommitOf, IsLaid, IsNamedAs, MayLay}
use Rattle.depot.specs.Story.{ComesBy, IsAnswered, removed_through}
use Rattle.depot.specs.declared.story.Change.{Change}
use Rattle.depot.proofs.DamageLemmas.{no_text, same_key}

same_bytes_given : (x y : List ℕ) → Some x ≡ Some y → x ≡ y
same_bytes_given x y e = cc

none_given : (x : List ℕ) → Some x ≡ None → ⊥
none_given x e = cc

not_denied : (bytes : List ℕ) → reply.Got bytes ≡ reply.Refused refusal.Denied → ⊥
not_denied bytes e = cc

-- what is got is given, since a state decides no get but one that is denied
got_given : (index : Index) (give : Slot → Option (List ℕ) → Type 0) (state : LibState) (key : Key) (bytes : List ℕ) (known : Option Token)
    → MayAnswer index give (act.Get key) (token_decided state (act.Get key) known) (reply.Got bytes) → give (Object key) (Some bytes)
got_given index give state key bytes None (inl same) = absurd (not_denied bytes same)
got_given index give state key bytes None (inr free) = absurd (true≢false (sym free))
got_given index give state key bytes (Some token) is = by (may token (act.Get key)) is
  where
    by : (enough : Bool) → MayAnswer index give (act.Get key) (if enough then act_decided state token (act.Get key) else Some (reply.Refused refusal.Denied)) (reply.Got bytes)
        → give (Object key) (Some bytes)
    by true given = given.1.0
    by false (inl same) = absurd (not_denied bytes same)
    by false (inr free) = absurd (true≢false (sym free))

-- what was laid under a commit's key is a commit of that id
laid_commit : (lib : List ℕ) (keys : List Key) (id bytes : List ℕ) → IsLaid lib keys (Object (commit_key id)) (Some bytes) → IsCommitOf id bytes
laid_commit lib keys id bytes (inl text) = absurd (no_text (commit_key id) text.at)
laid_commit lib keys id bytes (inr (inl (key, own, named, object))) =
    let here : commit_key id ≡ key = same_key (commit_key id) key object.at in
    let same : bytes ≡ own = same_bytes_given bytes own object.is in
    subst (λ b. IsCommitOf id b) (sym same) (subst (λ (k : Key). IsNamedAs k.kind k.id own) (sym here) named)
laid_commit lib keys id bytes (inr (inr gone)) = absurd (none_given bytes gone.3)

module _ {S : Type 0} (contents : S → Option Contents) (may_give : S → Slot → Option (List ℕ) → Type 0) (texts faults : S → ℕ) where
  pub commit_given : (start : DepotView S) (changes : List (Change (DepotView S))) (before : DepotView S) (call : Call) (moment : ℕ) (after : DepotView S) (id bytes : List ℕ)
      → ComesBy contents may_give texts faults start changes before → IsAnswered contents may_give texts faults before call moment (reply.Got bytes) after
      → call.act ≡ act.Get (commit_key id) → may_give start.store.shelf (Object (commit_key id)) (Some bytes) ⊎ IsCommitOf id bytes
  commit_given start changes before call moment after id bytes comes answered asks = by (answered.gives (Object (commit_key id)) (Some bytes) given)
    where
      given : may_give after.store.shelf (Object (commit_key id)) (Some bytes)
      given = got_given before.store.index (may_give after.store.shelf) before.state (commit_key id) bytes (token_of before.state.tokens call.secret)
          (subst (λ (a : Act). MayAnswer before.store.index (may_give after.store.shelf) a (token_decided before.state a (token_of before.state.tokens call.secret)) (reply.Got bytes)) asks
          answered.serves.may_come)

      begun : may_give start.store.shelf (Object (commit_key id)) (Some bytes) ⊎ IsLaid start.state.lib (removed_through changes) (Object (commit_key id)) (Some bytes)
          → may_give start.store.shelf (Object (commit_key id)) (Some bytes) ⊎ IsCommitOf id bytes
      begun (inl was) = inl was
      begun (inr laid) = inr (laid_commit start.state.lib (removed_through changes) id bytes laid)

      by : may_give before.store.shelf (Object (commit_key id)) (Some bytes) ⊎ MayLay before.state.lib call.act (Object (commit_key id)) (Some bytes)
          → may_give start.store.shelf (Object (commit_key id)) (Some bytes) ⊎ IsCommitOf id bytes
      by (inl was) = begun (comes.gives (Object (commit_key id)) (Some bytes) was)
      by (inr laid) = absurd (subst (λ (a : Act). MayLay before.state.lib a (Object (commit_key id)) (Some bytes)) asks laid)
