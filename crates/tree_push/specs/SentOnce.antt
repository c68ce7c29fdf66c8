-- Each key is asked about once, and sent once. Our own. Read SendsOnce, then SendsFront and TakesOnce.
use Rattle.std.specs.Prelude.{◌≡◌, Bool, true, false, List, [], ◌++◌, map}
use Rattle.std.specs.List.{IsDistinct, flat_map}
use Rattle.std.specs.Ordering.{eq_by_cmp}
use Rattle.ids.specs.Key.{key_cmp}
use Rattle.ids.specs.declared.key.Key.{Key}
use Rattle.ids.specs.declared.key.Kind.{Kind}
use Rattle.object_graph.specs.Traversal.{is_in}
use Rattle.http_front.specs.declared.order.What.{What}
use Rattle.http_front.specs.declared.order.What.TheVariants as what
use Rattle.remote_calls.specs.Sends.{Sent}
use Rattle.sync_rules.specs.Named.{keys_put}
use Rattle.tree_push.specs.Asking.{key_of}
use Rattle.tree_push.specs.Lacking.{Keys, has_key}

-- the keys that an order asks about
abbrev pub about_by : What → List Key
about_by (what.Missing kind ids) = map (key_of kind) ids
about_by _ = []

abbrev pub keys_about : List Sent → List Key
keys_about sends = flat_map (λ (sent : Sent). about_by sent.0.what) sends

-- no key stands twice
abbrev pub AreOnce : List Key → Type 0
AreOnce keys = IsDistinct (eq_by_cmp key_cmp) keys

-- none is asked about twice, and none is sent twice
pub record SendsOnce (sends : List Sent) : Type 0 where
  pub asked : AreOnce (keys_about sends)
  pub put : AreOnce (keys_put sends)

-- ---- of one call, whatever its end

-- the first of these keys are asked about and the first of those sent, in their order, and no others
pub record SendsFront (asked put : List Key) (old new : List Sent) : Type 0 where
  pub more : List Sent
  pub grown : new ≡ old ++ more
  pub not_asked : List Key
  pub asks : asked ≡ keys_about more ++ not_asked
  pub not_put : List Key
  pub puts : put ≡ keys_put more ++ not_put

-- nothing is asked about, and no key is sent twice: each that is sent was noted, and is noted no more; and no other is noted than was before
pub record TakesOnce (was now : Keys) (old new : List Sent) : Type 0 where
  pub more : List Sent
  pub grown : new ≡ old ++ more
  pub asks : keys_about more ≡ []
  pub once : AreOnce (keys_put more)
  pub noted : (key : Key) → is_in (keys_put more) key ≡ true → has_key was key ≡ true
  pub gone : (key : Key) → is_in (keys_put more) key ≡ true → has_key now key ≡ false
  pub fewer : (key : Key) → has_key now key ≡ true → has_key was key ≡ true

-- none is asked about twice, and none is sent twice; these are of such kinds
pub record GrowsOnce (asks puts : Kind → Bool) (old new : List Sent) : Type 0 where
  pub more : List Sent
  pub grown : new ≡ old ++ more
  pub once : SendsOnce more
  pub asked : (key : Key) → is_in (keys_about more) key ≡ true → asks key.kind ≡ true
  pub put : (key : Key) → is_in (keys_put more) key ≡ true → puts key.kind ≡ true
