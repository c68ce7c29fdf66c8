-- Each key is asked about once and sent once, by a whole upload and a push. The key lemmas are objects_once, blocks_once, files_once,
-- upload_once and push_once.
use Rattle.std.proofs.Common.{◌≡◌, ◌⊎◌, inl, inr, ℕ, Bool, true, false, List, [], ◌∷◌, ◌++◌, map, Option, None, Some, is_some, refl, sym, ap, ap₂, ◌∙◌, subst, append_assoc, true≢false}
use Rattle.std.proofs.lemmas.Bool.{or_cases}
use Rattle.std.proofs.lemmas.List.{append-nil}
use Rattle.std.specs.FinMap as fin
use Rattle.std.specs.List.{filter}
use Rattle.ids.specs.declared.key.Key.{Key}
use Rattle.ids.specs.declared.key.Kind.{Kind}
use Rattle.ids.specs.declared.key.Kind.TheVariants as kind
use Rattle.tree_model.proofs.MovingLemmas.{In}
use Rattle.object_graph.specs.Objects.{block_key, commit_key, fs_key}
use Rattle.object_graph.specs.Traversal.{is_in}
use Rattle.object_graph.proofs.KeyLemmas.{same_key, same_key-true}
use Rattle.http_front.specs.declared.order.What.{What}
use Rattle.remote_calls.specs.Sends.{Sent}
use Rattle.sync_rules.specs.Named.{is_block, is_of_tree, keys_put}
use Rattle.tree_push.specs.Asking.{Ran, key_of}
use Rattle.tree_push.specs.Lacking.{AsksNoting, Keys, has_key}
use Rattle.tree_push.specs.OfferedEntries.{SeenPaths}
use Rattle.tree_push.specs.SentOnce.{AreOnce, GrowsOnce, SendsFront, SendsOnce, TakesOnce, keys_about}
use Rattle.tree_push.specs.Wanted.{AreOwnNamed, AreSeenBlocks, ids_in}
use Rattle.tree_push.specs.declared.asking.Library.{Library}
use Rattle.tree_push.specs.declared.wanted.Wanted.{Wanted}
use Rattle.tree_push.proofs.KeyEntryLemmas.{entry_there}
use Rattle.tree_push.proofs.PutsLemmas.{put_append}
use Rattle.tree_push.proofs.UploadLemmas.{lacked_asked, noted_lacked}
use Rattle.tree_push.proofs.OnceListLemmas.{filter_passes, in_front, keys_once, once_append, once_filter, once_front, once_none, once_one}
use Rattle.tree_push.proofs.SentOnceLemmas.{about_append, about_either, never, none_behind, put_either}

-- ---- parts of an upload, by the kinds of the keys

abbrev is_fs : Kind → Bool
is_fs kind.Fs = true
is_fs _ = false

abbrev no_kind : Kind → Bool
no_kind k = false

-- these kinds are apart, and all of them are such
record Parts (some others all : Kind → Bool) : Type 0 where
  apart : (k : Kind) → some k ≡ true → others k ≡ false
  left : (k : Kind) → some k ≡ true → all k ≡ true
  right : (k : Kind) → others k ≡ true → all k ≡ true

none_then : (kinds : Kind → Bool) → Parts no_kind kinds kinds
none_then kinds = record { apart = λ k is. absurd (true≢false (sym is)); left = λ k is. absurd (true≢false (sym is)); right = λ k is. is }

then_none : (kinds : Kind → Bool) → Parts kinds no_kind kinds
then_none kinds = record { apart = λ k is. refl; left = λ k is. is; right = λ k is. absurd (true≢false (sym is)) }

fs_apart : (k : Kind) → is_fs k ≡ true → is_block k ≡ false
fs_apart kind.Fs is = refl
fs_apart kind.Commit is = refl
fs_apart kind.Block is = absurd (true≢false (sym is))

block_apart : (k : Kind) → is_block k ≡ true → is_fs k ≡ false
block_apart kind.Block is = refl
block_apart kind.Commit is = refl
block_apart kind.Fs is = absurd (true≢false (sym is))

fs_tree : (k : Kind) → is_fs k ≡ true → is_of_tree k ≡ true
fs_tree kind.Fs is = refl
fs_tree kind.Block is = refl
fs_tree kind.Commit is = absurd (true≢false (sym is))

block_tree : (k : Kind) → is_block k ≡ true → is_of_tree k ≡ true
block_tree kind.Block is = refl
block_tree kind.Fs is = refl
block_tree kind.Commit is = absurd (true≢false (sym is))

fs_then_block : Parts is_fs is_block is_of_tree
fs_then_block = record { apart = fs_apart; left = fs_tree; right = block_tree }

block_then_fs : Parts is_block is_fs is_of_tree
block_then_fs = record { apart = block_apart; left = block_tree; right = fs_tree }

grows_wide : (a p b q : Kind → Bool) → ((k : Kind) → a k ≡ true → b k ≡ true) → ((k : Kind) → p k ≡ true → q k ≡ true) → (old new : List Sent) → GrowsOnce a p old new
    → GrowsOnce b q old new
grows_wide a p b q asks puts old new is = record {
  more = is.more;
  grown = is.grown;
  once = is.once;
  asked = λ key there. asks key.kind (is.asked key there);
  put = λ key there. puts key.kind (is.put key there);
}

grows_then : (a b c p q r : Kind → Bool) → Parts a b c → Parts p q r → (old mid new : List Sent) → GrowsOnce a p old mid → GrowsOnce b q mid new → GrowsOnce c r old new
grows_then a b c p q r asks puts old mid new one two = record {
  more = one.more ++ two.more;
  grown = two.grown ∙ ap (λ (sends : List Sent). sends ++ two.more) one.grown ∙ append_assoc old one.more two.more;
  once = record {
    asked = subst AreOnce (sym (about_append one.more two.more))
        (once_append (keys_about one.more) (keys_about two.more) one.once.asked two.once.asked
        (λ key there. never (is_in (keys_about two.more) key) (λ again. true≢false (sym (two.asked key again) ∙ asks.apart key.kind (one.asked key there)))));
    put = subst AreOnce (sym (put_append one.more two.more))
        (once_append (keys_put one.more) (keys_put two.more) one.once.put two.once.put
        (λ key there. never (is_in (keys_put two.more) key) (λ again. true≢false (sym (two.put key again) ∙ puts.apart key.kind (one.put key there)))));
  };
  asked = λ key there. is_asked key (about_either one.more two.more key there);
  put = λ key there. is_sent key (put_either one.more two.more key there);
}
  where
    is_asked : (key : Key) → (is_in (keys_about one.more) key ≡ true) ⊎ (is_in (keys_about two.more) key ≡ true) → c key.kind ≡ true
    is_asked key (inl first) = asks.left key.kind (one.asked key first)
    is_asked key (inr later) = asks.right key.kind (two.asked key later)

    is_sent : (key : Key) → (is_in (keys_put one.more) key ≡ true) ⊎ (is_in (keys_put two.more) key ≡ true) → r key.kind ≡ true
    is_sent key (inl first) = puts.left key.kind (one.put key first)
    is_sent key (inr later) = puts.right key.kind (two.put key later)

-- no key is in no keys
in_none : (keys : List Key) (key : Key) → keys ≡ [] → is_in keys key ≡ true → ⊥
in_none keys key none there = true≢false (sym there ∙ ap (λ (l : List Key). is_in l key) none)

in_kind : (k : Kind) (ids : List (List ℕ)) (key : Key) → is_in (map (key_of k) ids) key ≡ true → key.kind ≡ k
in_kind k [] key there = absurd (true≢false (sym there))
in_kind k (id ∷ ids) key there = by (or_cases (same_key key (key_of k id)) (is_in (map (key_of k) ids) key) there) (in_kind k ids key)
  where
    by : (same_key key (key_of k id) ≡ true) ⊎ (is_in (map (key_of k) ids) key ≡ true) → (is_in (map (key_of k) ids) key ≡ true → key.kind ≡ k) → key.kind ≡ k
    by (inl same) more = ap (λ (q : Key). q.kind) (same_key-true key (key_of k id) same)
    by (inr rest) more = more rest

asks_part : (k : Kind) (kinds : Kind → Bool) → kinds k ≡ true → (ids : List (List ℕ)) → AreOnce (map (key_of k) ids) → (old new : List Sent)
    → SendsFront (map (key_of k) ids) [] old new → GrowsOnce kinds no_kind old new
asks_part k kinds is ids once old new front =
    let none : keys_put front.more ≡ [] = none_behind (keys_put front.more) front.not_put front.puts in
    record {
      more = front.more;
      grown = front.grown;
      once = record { asked = once_front (keys_about front.more) front.not_asked (subst AreOnce front.asks once); put = subst AreOnce (sym none) once_none };
      asked = λ key there.
          ap kinds
          (in_kind k ids key (ap (λ (keys : List Key). is_in keys key) front.asks ∙ in_front (keys_about front.more) front.not_asked key there))
          ∙ is;
      put = λ key there. absurd (in_none (keys_put front.more) key none there);
    }

takes_part : (was now : Keys) → ((key : Key) → has_key was key ≡ true → is_block key.kind ≡ true) → (old new : List Sent) → TakesOnce was now old new → GrowsOnce no_kind is_block old new
takes_part was now blocks old new takes = record {
  more = takes.more;
  grown = takes.grown;
  once = record { asked = subst AreOnce (sym takes.asks) once_none; put = takes.once };
  asked = λ key there. absurd (in_none (keys_about takes.more) key takes.asks there);
  put = λ key there. blocks key (takes.noted key there);
}

puts_part : (keys : List Key) → AreOnce keys → ((key : Key) → is_in keys key ≡ true → is_fs key.kind ≡ true) → (old new : List Sent) → SendsFront [] keys old new
    → GrowsOnce no_kind is_fs old new
puts_part keys once objects old new front =
    let none : keys_about front.more ≡ [] = none_behind (keys_about front.more) front.not_asked front.asks in
    record {
      more = front.more;
      grown = front.grown;
      once = record { asked = subst AreOnce (sym none) once_none; put = once_front (keys_put front.more) front.not_put (subst AreOnce front.puts once) };
      asked = λ key there. absurd (in_none (keys_about front.more) key none there);
      put = λ key there. objects key (ap (λ (l : List Key). is_in l key) front.puts ∙ in_front (keys_put front.more) front.not_put key there);
    }

-- ---- all of an upload

keys_of_kind : {V : Type 0} (k : Kind) (es : List (Key × V)) → ((e : Key × V) → In e es → e.0 ≡ key_of k e.0.id) → map (key_of k) (ids_in es) ≡ map (λ (e : Key × V). e.0) es
keys_of_kind k [] is = refl
keys_of_kind k (e ∷ es) is = ap₂ (λ (key : Key) (keys : List Key). key ∷ keys) (sym (is e (inl refl))) (keys_of_kind k es (λ other there. is other (inr there)))

module _ (wanted : Wanted) (named : AreOwnNamed wanted.made) (seens : SeenPaths) (seen : AreSeenBlocks seens wanted) where
  abbrev made_ids : List (List ℕ)
  made_ids = ids_in (fin.entries wanted.made)

  abbrev block_ids : List (List ℕ)
  block_ids = ids_in (fin.entries wanted.blocks)

  made_once : AreOnce (map (key_of kind.Fs) made_ids)
  made_once =
      subst AreOnce
      (sym
      (keys_of_kind kind.Fs (fin.entries wanted.made)
      (λ e there. let own = named e.0 e.1 (entry_there wanted.made e there) in own ∙ ap fs_key (sym (ap (λ (q : Key). q.id) own)))))
      (keys_once wanted.made)

  blocks_are_once : AreOnce (map (key_of kind.Block) block_ids)
  blocks_are_once =
      subst AreOnce
      (sym
      (keys_of_kind kind.Block (fin.entries wanted.blocks)
      (λ e there. let own = (seen e.0 (ap is_some (entry_there wanted.blocks e there))).is in own ∙ ap block_key (sym (ap (λ (q : Key). q.id) own)))))
      (keys_once wanted.blocks)

  objects_part : (old new : List Sent) → SendsFront (map (key_of kind.Fs) made_ids) [] old new → GrowsOnce is_fs no_kind old new
  objects_part old new front = asks_part kind.Fs is_fs refl made_ids made_once old new front

  pub objects_once : (old new : List Sent) → SendsFront (map (key_of kind.Fs) made_ids) [] old new → GrowsOnce is_of_tree is_of_tree old new
  objects_once old new front = grows_wide is_fs no_kind is_of_tree is_of_tree fs_tree (none_then is_of_tree).left old new (objects_part old new front)

  module _ (old first second : List Sent) (one : SendsFront (map (key_of kind.Fs) made_ids) [] old first) (two : SendsFront (map (key_of kind.Block) block_ids) [] first second) where
    both_asked : GrowsOnce is_of_tree no_kind old second
    both_asked =
        grows_then is_fs is_block is_of_tree no_kind no_kind no_kind fs_then_block (none_then no_kind) old first second (objects_part old first one)
        (asks_part kind.Block is_block refl block_ids blocks_are_once first second two)

    pub blocks_once : GrowsOnce is_of_tree is_of_tree old second
    blocks_once = grows_wide is_of_tree no_kind is_of_tree is_of_tree (λ k is. is) (none_then is_of_tree).left old second both_asked

    module _ (library : Library) (may : What → Type 0) (empty blocks rest : Keys) (is_empty : empty ≡ fin.empty) (third : List Sent)
        (also : Ran library may (AsksNoting library kind.Block block_ids empty blocks) first second) (takes : TakesOnce blocks rest second third) where
      noted_blocks : (key : Key) → has_key blocks key ≡ true → is_block key.kind ≡ true
      noted_blocks key there =
          let asks : AsksNoting library kind.Block block_ids fin.empty blocks also.more = subst (λ (m : Keys). AsksNoting library kind.Block block_ids m blocks also.more) is_empty also.are in
          let one = lacked_asked library kind.Block block_ids also.more asks.0 key (sym (noted_lacked library kind.Block block_ids blocks also.more asks key) ∙ there) in
          ap (λ (q : Key). is_block q.kind) one.is

      files_put : GrowsOnce is_of_tree is_block old third
      files_put =
          grows_then is_of_tree no_kind is_of_tree no_kind is_block is_block (then_none is_of_tree) (none_then is_block) old second third both_asked
          (takes_part blocks rest noted_blocks second third takes)

      pub files_once : GrowsOnce is_of_tree is_of_tree old third
      files_once = grows_wide is_of_tree is_block is_of_tree is_of_tree (λ k is. is) block_tree old third files_put

      made_fs : (key : Key) → has_key wanted.made key ≡ true → is_fs key.kind ≡ true
      made_fs key there = by (fin.get wanted.made key) refl there
        where
          by : (o : Option (List ℕ)) → fin.get wanted.made key ≡ o → is_some o ≡ true → is_fs key.kind ≡ true
          by None got some = absurd (true≢false (sym some))
          by (Some text) got some = ap (λ (q : Key). is_fs q.kind) (named key text got)

      pub upload_once : (objects : Keys) (new : List Sent) → SendsFront [] (filter (has_key wanted.made) (fin.keys objects)) third new → GrowsOnce is_of_tree is_of_tree old new
      upload_once objects new front =
          grows_then is_of_tree no_kind is_of_tree is_block is_fs is_of_tree (then_none is_of_tree) block_then_fs old third new files_put
          (puts_part (filter (has_key wanted.made) (fin.keys objects)) (once_filter (has_key wanted.made) (fin.keys objects) (keys_once objects))
          (λ key there. made_fs key (filter_passes (has_key wanted.made) (fin.keys objects) key there)) third new front)

-- ---- all of a push

-- the commit is sent behind the upload
pub push_once : (first later : List Sent) → SendsOnce first → ((key : Key) → is_in (keys_put first) key ≡ true → is_of_tree key.kind ≡ true) → keys_about later ≡ [] → (keys : List Key)
    → keys_put later ≡ keys → AreOnce keys → ((key : Key) → is_in keys key ≡ true → is_of_tree key.kind ≡ false) → SendsOnce (first ++ later)
push_once first later once tree none keys are keys_are commits = record {
  asked = subst AreOnce (sym (about_append first later ∙ ap (λ (l : List Key). keys_about first ++ l) none ∙ append-nil (keys_about first))) once.asked;
  put = subst AreOnce (sym (put_append first later ∙ ap (λ (l : List Key). keys_put first ++ l) are))
      (once_append (keys_put first) keys once.put keys_are
      (λ key there. never (is_in keys key) (λ again. true≢false (sym (tree key there) ∙ commits key again))));
}

pub commit_alone : (id : List ℕ) → AreOnce (commit_key id ∷ [])
commit_alone id = once_one (commit_key id)

pub nothing_alone : AreOnce []
nothing_alone = once_none
