-- Each key is asked about once and sent once, by one call. The key lemmas are order_front, asking_front, putting_front, takes_then,
-- takes_taken, once_in_front and once_behind.
use Rattle.std.proofs.Common.{◌≡◌, ◌⊎◌, inl, inr, ℕ, Bool, true, false, List, [], ◌∷◌, ◌++◌, map, Some, is_some, cond, Result, Ok, Err, refl, sym, ap, ap₂, ◌∙◌, subst, append_assoc, true≢false}
use Rattle.std.proofs.lemmas.Bool.{or_cases}
use Rattle.std.proofs.lemmas.Grind.{flat_map-append}
use Rattle.std.proofs.lemmas.List.{append-nil, map-append}
use Rattle.std.specs.Prelude.{⊤}
use Rattle.std.specs.FinMap as fin
use Rattle.std.specs.List.{filter}
use Rattle.ids.specs.Key.{Objects}
use Rattle.ids.specs.declared.key.Key.{Key}
use Rattle.ids.specs.declared.key.Kind.{Kind}
use Rattle.library_state.specs.declared.reply.Reply.{Reply}
use Rattle.object_graph.specs.Objects.{block_key}
use Rattle.object_graph.specs.Traversal.{is_in}
use Rattle.object_graph.proofs.KeyLemmas.{in_append, same_key, same_key-itself}
use Rattle.http_front.specs.declared.order.Order.{Order}
use Rattle.http_front.specs.declared.order.What.{What}
use Rattle.http_front.specs.declared.order.What.TheVariants as what
use Rattle.http_front.specs.declared.row.Row.{Row}
use Rattle.remote_calls.specs.Sends.{Sent}
use Rattle.sync_rules.specs.Named.{Named, keys_named, keys_put, named_by, put_by}
use Rattle.sync_rules.specs.declared.fault.SyncFault.{SyncFault}
use Rattle.tree_push.specs.Asking.{ArePuts, AsksIds, AsksSo, PutsAmong, Ran, is_put, key_of, order_for}
use Rattle.tree_push.specs.Lacking.{Keys, has_key}
use Rattle.tree_push.specs.Puts.{row_keys}
use Rattle.tree_push.specs.SentOnce.{AreOnce, SendsFront, SendsOnce, TakesOnce, about_by, keys_about}
use Rattle.tree_push.specs.declared.asking.Library.{Library}
use Rattle.tree_push.proofs.BlockUploadLemmas.{removed}
use Rattle.tree_push.proofs.NamedKeyLemmas.{alone_keys, in_one, one_named, row_keys_of}
use Rattle.tree_push.proofs.PutsLemmas.{IsLeft, put_append}
use Rattle.tree_push.proofs.TraceLemmas.{IsAsking}
use Rattle.tree_push.proofs.OnceListLemmas.{in_front, once_append, once_front, once_none, once_one}

-- ---- what is asked about, and what is put

pub about_append : (first later : List Sent) → keys_about (first ++ later) ≡ keys_about first ++ keys_about later
about_append first later = flat_map-append (λ (sent : Sent). about_by sent.0.what) first later

puts_about : (asked : What) → is_put asked ≡ true → about_by asked ≡ []
puts_about (what.Put key bytes) is = refl
puts_about (what.PutFs rows) is = refl
puts_about _ is = absurd (true≢false (sym is))

puts_ask_none : (more : List Sent) → ArePuts more → keys_about more ≡ []
puts_ask_none [] are = refl
puts_ask_none (sent ∷ more) are = ap₂ (λ (a b : List Key). a ++ b) (puts_about sent.0.what are.0) (puts_ask_none more are.1)

asks_about : (library : Library) (k : Kind) (ids : List (List ℕ)) (more : List Sent) → AsksIds library k ids more → keys_about more ≡ map (key_of k) ids
asks_about library k ids [] none = ap (map (key_of k)) (sym none)
asks_about library k ids (sent ∷ more) asks =
    ap₂ (λ (a b : List Key). a ++ b) (ap (λ (o : Order). about_by o.what) asks.3.asked) (asks_about library k asks.1 more asks.4)
    ∙ sym (map-append (key_of k) asks.0 asks.1) ∙ ap (map (key_of k)) (sym asks.2)

asks_put_none : (library : Library) (k : Kind) (ids : List (List ℕ)) (more : List Sent) → AsksIds library k ids more → keys_put more ≡ []
asks_put_none library k ids [] none = refl
asks_put_none library k ids (sent ∷ more) asks =
    ap₂ (λ (a b : List Key). a ++ b) (ap (λ (o : Order). put_by o.what) asks.3.asked) (asks_put_none library k asks.1 more asks.4)

-- ---- the first of some keys

pub none_behind : (xs ys : List Key) → [] ≡ xs ++ ys → xs ≡ []
none_behind [] ys is = refl
none_behind (x ∷ xs) ys is = absurd (cc)

pub front_none : (asked put : List Key) (sends : List Sent) → SendsFront asked put sends sends
front_none asked put sends = record { more = []; grown = sym (append-nil sends); not_asked = asked; asks = refl; not_put = put; puts = refl }

one_front : (library : Library) (asked : What) (old new : List Sent) (sent : Sent) → sent.0 ≡ order_for library asked → new ≡ old ++ sent ∷ [] → SendsFront (about_by asked) (put_by asked) old new
one_front library asked old new sent is grown = record {
  more = sent ∷ [];
  grown = grown;
  not_asked = [];
  asks = all about_by;
  not_put = [];
  puts = all put_by;
}
  where
    all : (keys : What → List Key) → keys asked ≡ (keys sent.0.what ++ []) ++ []
    all keys =
        sym (append-nil (keys asked)) ∙ sym (append-nil (keys asked ++ []))
        ∙ ap (λ (o : Order). (keys o.what ++ []) ++ []) (sym is)

-- one order asks about all of its keys, or puts them, or isn't sent
pub order_front : (library : Library) (asked : What) (old new : List Sent) (result : Result Reply SyncFault) → AsksSo library asked old new result
    → SendsFront (about_by asked) (put_by asked) old new
order_front library asked old new (Ok r) asks = one_front library asked old new (order_for library asked, asks.0) refl asks.1
order_front library asked old new (Err f) (inl none) =
    subst (SendsFront (about_by asked) (put_by asked) old) (sym none.1) (front_none (about_by asked) (put_by asked) old)
order_front library asked old new (Err f) (inr one) = one_front library asked old new (order_for library asked, Err one.0) refl one.1

pub put_front : (library : Library) (asked : What) (old new : List Sent) (result : Result Reply SyncFault) → is_put asked ≡ true → AsksSo library asked old new result
    → SendsFront [] (put_by asked) old new
put_front library asked old new result puts asks =
    subst (λ (keys : List Key). SendsFront keys (put_by asked) old new) (puts_about asked puts) (order_front library asked old new result asks)

-- behind sends that asked about the first of some keys
front_asks : (asked first rest : List Key) (old mid new more : List Sent) → mid ≡ old ++ more → keys_put more ≡ [] → asked ≡ keys_about more ++ (first ++ rest) → SendsFront first [] mid new
    → SendsFront asked [] old new
front_asks asked first rest old mid new more grown none all then = record {
  more = more ++ then.more;
  grown = then.grown ∙ ap (λ (sends : List Sent). sends ++ then.more) grown ∙ append_assoc old more then.more;
  not_asked = then.not_asked ++ rest;
  asks =
      all ∙ ap (λ (keys : List Key). keys_about more ++ (keys ++ rest)) then.asks
      ∙ ap (λ (keys : List Key). keys_about more ++ keys) (append_assoc (keys_about then.more) then.not_asked rest)
      ∙ sym (append_assoc (keys_about more) (keys_about then.more) (then.not_asked ++ rest))
      ∙ ap (λ (keys : List Key). keys ++ (then.not_asked ++ rest)) (sym (about_append more then.more));
  not_put = [];
  puts = sym (append-nil (keys_put (more ++ then.more)) ∙ put_append more then.more ∙ ap₂ (λ (a b : List Key). a ++ b) none (none_behind (keys_put then.more) then.not_put then.puts));
}

-- behind sends that put the first of some keys
front_puts : (put first rest : List Key) (old mid new more : List Sent) → mid ≡ old ++ more → keys_about more ≡ [] → put ≡ keys_put more ++ (first ++ rest) → SendsFront [] first mid new
    → SendsFront [] put old new
front_puts put first rest old mid new more grown none all then = record {
  more = more ++ then.more;
  grown = then.grown ∙ ap (λ (sends : List Sent). sends ++ then.more) grown ∙ append_assoc old more then.more;
  not_asked = [];
  asks = sym (append-nil (keys_about (more ++ then.more)) ∙ about_append more then.more ∙ ap₂ (λ (a b : List Key). a ++ b) none (none_behind (keys_about then.more) then.not_asked then.asks));
  not_put = then.not_put ++ rest;
  puts =
      all ∙ ap (λ (keys : List Key). keys_put more ++ (keys ++ rest)) then.puts
      ∙ ap (λ (keys : List Key). keys_put more ++ keys) (append_assoc (keys_put then.more) then.not_put rest)
      ∙ sym (append_assoc (keys_put more) (keys_put then.more) (then.not_put ++ rest))
      ∙ ap (λ (keys : List Key). keys ++ (then.not_put ++ rest)) (sym (put_append more then.more));
}

-- lists of ids, one after another
module _ (library : Library) (k : Kind) (ids left : List (List ℕ)) (was is : Keys) (old now : List Sent) (asking : IsAsking library k ids left was is old now) where
  pub asking_front : (first rest : List (List ℕ)) (new : List Sent) → left ≡ first ++ rest → SendsFront (map (key_of k) first) [] now new → SendsFront (map (key_of k) ids) [] old new
  asking_front first rest new cut then =
      let key : List ℕ → Key = key_of k in
      front_asks (map key ids) (map key first) (map key rest) old now new asking.ran.more asking.ran.grown (asks_put_none library k asking.done asking.ran.more asking.ran.are.0)
      (ap (map key) (asking.split ∙ ap (λ (l : List (List ℕ)). asking.done ++ l) cut) ∙ map-append key asking.done (first ++ rest)
      ∙ ap₂ (λ (a b : List Key). a ++ b) (sym (asks_about library k asking.done asking.ran.more asking.ran.are.0)) (map-append key first rest))
      then

  pub asking_whole : left ≡ [] → SendsFront (map (key_of k) ids) [] old now
  asking_whole none = asking_front [] [] now none (front_none [] [] now)

-- objects, one after another
pub putting_front : (library : Library) (made : Objects) (lacking : Keys) (left : List (Key × ⊤)) (rows : List Row) (old mid new : List Sent)
    → Ran library (PutsAmong (has_key lacking)) (IsLeft made (fin.keys lacking) left rows) old mid → SendsFront [] (row_keys rows) mid new
    → SendsFront [] (filter (has_key made) (fin.keys lacking)) old new
putting_front library made lacking left rows old mid new ran then =
    let behind = filter (has_key made) (map (λ (e : Key × ⊤). e.0) left) in
    front_puts (filter (has_key made) (fin.keys lacking)) (row_keys rows) behind old mid new ran.more ran.grown (puts_ask_none ran.more ran.are.0)
    (sym ran.are.1 ∙ append_assoc (keys_put ran.more) (row_keys rows) behind) then

-- ---- blocks that are noted, one after another

pub never : (b : Bool) → (b ≡ true → ⊥) → b ≡ false
never true wrong = absurd (wrong refl)
never false wrong = refl

pub put_either : (first later : List Sent) (key : Key) → is_in (keys_put (first ++ later)) key ≡ true → (is_in (keys_put first) key ≡ true) ⊎ (is_in (keys_put later) key ≡ true)
put_either first later key there =
    or_cases (is_in (keys_put first) key) (is_in (keys_put later) key)
    (sym (in_append (keys_put first) (keys_put later) key) ∙ ap (λ (keys : List Key). is_in keys key) (sym (put_append first later)) ∙ there)

pub about_either : (first later : List Sent) (key : Key) → is_in (keys_about (first ++ later)) key ≡ true → (is_in (keys_about first) key ≡ true) ⊎ (is_in (keys_about later) key ≡ true)
about_either first later key there =
    or_cases (is_in (keys_about first) key) (is_in (keys_about later) key)
    (sym (in_append (keys_about first) (keys_about later) key) ∙ ap (λ (keys : List Key). is_in keys key) (sym (about_append first later)) ∙ there)

pub takes_none : (was : Keys) (sends : List Sent) → TakesOnce was was sends sends
takes_none was sends = record {
  more = [];
  grown = sym (append-nil sends);
  asks = refl;
  once = once_none;
  noted = λ key there. absurd (true≢false (sym there));
  gone = λ key there. absurd (true≢false (sym there));
  fewer = λ key there. there;
}

pub takes_then : (was mid now : Keys) (old at new : List Sent) → TakesOnce was mid old at → TakesOnce mid now at new → TakesOnce was now old new
takes_then was mid now old at new one two = record {
  more = one.more ++ two.more;
  grown = two.grown ∙ ap (λ (sends : List Sent). sends ++ two.more) one.grown ∙ append_assoc old one.more two.more;
  asks = about_append one.more two.more ∙ ap₂ (λ (a b : List Key). a ++ b) one.asks two.asks;
  once = subst AreOnce (sym (put_append one.more two.more)) (once_append (keys_put one.more) (keys_put two.more) one.once two.once not_again);
  noted = λ key there. was_noted key (put_either one.more two.more key there);
  gone = λ key there. is_gone key (put_either one.more two.more key there);
  fewer = λ key there. one.fewer key (two.fewer key there);
}
  where
    not_again : (key : Key) → is_in (keys_put one.more) key ≡ true → is_in (keys_put two.more) key ≡ false
    not_again key there = never (is_in (keys_put two.more) key) (λ again. true≢false (sym (two.noted key again) ∙ one.gone key there))

    was_noted : (key : Key) → (is_in (keys_put one.more) key ≡ true) ⊎ (is_in (keys_put two.more) key ≡ true) → has_key was key ≡ true
    was_noted key (inl first) = one.noted key first
    was_noted key (inr later) = one.fewer key (two.noted key later)

    is_gone : (key : Key) → (is_in (keys_put one.more) key ≡ true) ⊎ (is_in (keys_put two.more) key ≡ true) → has_key now key ≡ false
    is_gone key (inl first) = never (has_key now key) (λ back. true≢false (sym (two.fewer key back) ∙ one.gone key first))
    is_gone key (inr later) = two.gone key later

module _ (old new : Keys) (id : List ℕ) (is : new ≡ fin.remove old (block_key id)) where
  fewer_off : (q : Key) → has_key new q ≡ true → has_key old q ≡ true
  fewer_off q there = by (same_key q (block_key id)) (sym (removed old new id is q) ∙ there)
    where
      by : (b : Bool) → cond b false (has_key old q) ≡ true → has_key old q ≡ true
      by true e = absurd (true≢false (sym e))
      by false e = e

  pub takes_skipped : (sends : List Sent) → TakesOnce old new sends sends
  takes_skipped sends = record {
    more = [];
    grown = sym (append-nil sends);
    asks = refl;
    once = once_none;
    noted = λ key there. absurd (true≢false (sym there));
    gone = λ key there. absurd (true≢false (sym there));
    fewer = fewer_off;
  }

  -- a block that was noted is sent, or its order isn't
  pub takes_taken : fin.get old (block_key id) ≡ Some tt → (before after : List Sent) → SendsFront [] (block_key id ∷ []) before after → TakesOnce old new before after
  takes_taken there before after front = record {
    more = front.more;
    grown = front.grown;
    asks = none_behind (keys_about front.more) front.not_asked front.asks;
    once = once_front (keys_put front.more) front.not_put (subst AreOnce front.puts (once_one (block_key id)));
    noted = λ key put. ap (has_key old) (that key put) ∙ ap is_some there;
    gone = λ key put.
        removed old new id is key
        ∙ ap (λ (b : Bool). cond b false (has_key old key)) (ap (λ (q : Key). same_key q (block_key id)) (that key put) ∙ same_key-itself (block_key id));
    fewer = fewer_off;
  }
    where
      that : (key : Key) → is_in (keys_put front.more) key ≡ true → key ≡ block_key id
      that key put =
          in_one (block_key id) key (ap (λ (keys : List Key). is_in keys key) front.puts ∙ in_front (keys_put front.more) front.not_put key put)

-- ---- a part of some sends

pub once_in_front : (front rest : List Sent) → SendsOnce (front ++ rest) → SendsOnce front
once_in_front front rest all = record {
  asked = once_front (keys_about front) (keys_about rest) (subst AreOnce (about_append front rest) all.asked);
  put = once_front (keys_put front) (keys_put rest) (subst AreOnce (put_append front rest) all.put);
}

none_left : (xs ys : List Key) → xs ++ ys ≡ [] → (xs ≡ []) × (ys ≡ [])
none_left [] ys is = (refl, is)
none_left (x ∷ xs) ys is = absurd (cc)

unnamed_order : (asked : What) → map (λ (n : Named). n.0) (named_by asked) ≡ [] → (about_by asked ≡ []) × (put_by asked ≡ [])
unnamed_order (what.Missing k ids) none = (sym (alone_keys k ids) ∙ none, refl)
unnamed_order (what.PutFs rows) none = (refl, sym (row_keys_of rows) ∙ none)
unnamed_order (what.Put key bytes) none = absurd (cc)
unnamed_order _ none = (refl, refl)

unnamed : (sends : List Sent) → keys_named sends ≡ [] → (keys_about sends ≡ []) × (keys_put sends ≡ [])
unnamed [] none = (refl, refl)
unnamed (sent ∷ more) none =
    let both = none_left (map (λ (n : Named). n.0) (named_by sent.0.what)) (keys_named more) (sym (one_named sent more) ∙ none) in
    let here = unnamed_order sent.0.what both.0 in
    let rest = unnamed more both.1 in
    (ap₂ (λ (a b : List Key). a ++ b) here.0 rest.0, ap₂ (λ (a b : List Key). a ++ b) here.1 rest.1)

-- behind sends that name nothing
pub once_behind : (before more : List Sent) → keys_named before ≡ [] → SendsOnce more → SendsOnce (before ++ more)
once_behind before more none once =
    let both = unnamed before none in
    record {
      asked = subst AreOnce (sym (about_append before more ∙ ap (λ (l : List Key). l ++ keys_about more) both.0)) once.asked;
      put = subst AreOnce (sym (put_append before more ∙ ap (λ (l : List Key). l ++ keys_put more) both.1)) once.put;
    }
