-- What was got, and what was had for all that was named. The key lemmas are has_got and got_has, got_first and got_later.
use Rattle.std.proofs.Common.{◌≡◌, ℕ, Bool, true, false, is_some, if◌then◌else◌, All, List, [], ◌∷◌, ◌++◌, map, Option, None, Some, Ok, Err, refl, sym, ap, subst, ◌∙◌, true≢false}
use Rattle.std.specs.FinMap as fin
use Rattle.std.specs.List.{Contains, cons_option, filter_map, flat_map}
use Rattle.std.proofs.lemmas.Grind.{flat_map-append}
use Rattle.std.proofs.lemmas.List.Elements.{All-append, All-cons, All-contains, All-contains_itself, All-head, All-nil, All-tail, All-weaker, Contains-append_left, Contains-append_right}
use Rattle.ids.specs.Key.{Objects}
use Rattle.ids.specs.declared.key.Key.{Key}
use Rattle.library_state.specs.declared.reply.Reply.TheVariants as reply
use Rattle.http_front.specs.declared.order.What.{What}
use Rattle.http_front.specs.declared.order.What.TheVariants as what
use Rattle.http_front.specs.declared.outcome.Outcome.TheVariants as outcome
use Rattle.http_front.specs.declared.row.Row.{Row}
use Rattle.remote_calls.specs.Sends.{Ending, Sent}
use Rattle.sync_rules.specs.Named.{HasAll, HasGot, IsHad, IsHadFor, Named, got_by, got_in, has_name, if_named, is_get, named_by, names_in, row_named}

-- whether some bytes have this name
abbrev name_test : Key → Option (List ℕ) → Bool
name_test key None = false
name_test key (Some bytes) = has_name key bytes

-- ---- lists of what was got

pub got_first : (objects : Objects) (first later : List Sent) → HasGot objects (first ++ later) → HasGot objects first
got_first objects first later has key bytes there named =
    has key bytes
    (subst (λ (all : List Named). Contains all (key, Some bytes)) (sym (flat_map-append got_in first later))
    (Contains-append_left (flat_map got_in first) (flat_map got_in later) (key, Some bytes) there)) named

pub got_later : (objects : Objects) (first later : List Sent) → HasGot objects (first ++ later) → HasGot objects later
got_later objects first later has key bytes there named =
    has key bytes
    (subst (λ (all : List Named). Contains all (key, Some bytes)) (sym (flat_map-append got_in first later))
    (Contains-append_right (flat_map got_in first) (flat_map got_in later) (key, Some bytes) there)) named

all_right : (P : Named → Type 0) (first later : List Named) → All P (first ++ later) → All P later
all_right P [] later all = all
all_right P (named ∷ first) later all = all_right P first later (All-tail P named (first ++ later) all)

all_left : (P : Named → Type 0) (first later : List Named) → All P (first ++ later) → All P first
all_left P [] later all = All-nil P
all_left P (named ∷ first) later all =
    All-cons P named first (All-head P named (first ++ later) all) (all_left P first later (All-tail P named (first ++ later) all))

-- ---- each has bytes

abbrev IsTold : Named → Type 0
IsTold named = is_some named.1 ≡ true

told_rows : (rows : List Row) → All IsTold (map row_named rows)
told_rows [] = All-nil IsTold
told_rows (row ∷ rows) = All-cons IsTold (row_named row) (map row_named rows) refl (told_rows rows)

told_got : (w : What) (e : Ending) → All IsTold (got_by w e)
told_got (what.Get key) (Ok (outcome.Plain (reply.Got bytes) tag)) = All-cons IsTold (key, Some bytes) [] refl (All-nil IsTold)
told_got (what.Get key) (Ok (outcome.Plain reply.Checked tag)) = All-nil IsTold
told_got (what.Get key) (Ok (outcome.Plain (reply.HeadIs id) tag)) = All-nil IsTold
told_got (what.Get key) (Ok (outcome.Plain (reply.Stored new) tag)) = All-nil IsTold
told_got (what.Get key) (Ok (outcome.Plain (reply.Absent ids) tag)) = All-nil IsTold
told_got (what.Get key) (Ok (outcome.Plain (reply.Updated id) tag)) = All-nil IsTold
told_got (what.Get key) (Ok (outcome.Plain reply.Limited tag)) = All-nil IsTold
told_got (what.Get key) (Ok (outcome.Plain (reply.Listed ids) tag)) = All-nil IsTold
told_got (what.Get key) (Ok (outcome.Plain (reply.Refused why) tag)) = All-nil IsTold
told_got (what.Get key) (Ok outcome.Version) = All-nil IsTold
told_got (what.Get key) (Ok (outcome.Same tag)) = All-nil IsTold
told_got (what.Get key) (Ok (outcome.Packed rows)) = All-nil IsTold
told_got (what.Get key) (Ok (outcome.Collected number removed)) = All-nil IsTold
told_got (what.Get key) (Ok (outcome.Refused why)) = All-nil IsTold
told_got (what.Get key) (Err f) = All-nil IsTold
told_got (what.GetFs ids) (Ok (outcome.Packed rows)) = told_rows rows
told_got (what.GetFs ids) (Ok (outcome.Plain told tag)) = All-nil IsTold
told_got (what.GetFs ids) (Ok outcome.Version) = All-nil IsTold
told_got (what.GetFs ids) (Ok (outcome.Same tag)) = All-nil IsTold
told_got (what.GetFs ids) (Ok (outcome.Collected number removed)) = All-nil IsTold
told_got (what.GetFs ids) (Ok (outcome.Refused why)) = All-nil IsTold
told_got (what.GetFs ids) (Err f) = All-nil IsTold
told_got what.Version e = All-nil IsTold
told_got (what.Check op) e = All-nil IsTold
told_got (what.Head asked) e = All-nil IsTold
told_got (what.Update id) e = All-nil IsTold
told_got (what.Put key bytes) e = All-nil IsTold
told_got (what.Missing kind ids) e = All-nil IsTold
told_got (what.PutFs rows) e = All-nil IsTold
told_got (what.Ids server client) e = All-nil IsTold
told_got (what.Limit days) e = All-nil IsTold
told_got what.Collect e = All-nil IsTold

-- an order that asks for objects names none itself
names_none : (w : What) → is_get w ≡ true → named_by w ≡ []
names_none (what.Get key) get = refl
names_none (what.GetFs ids) get = refl
names_none what.Version get = refl
names_none (what.Check op) get = refl
names_none (what.Head asked) get = refl
names_none (what.Update id) get = refl
names_none (what.Put key bytes) get = absurd (true≢false (sym get))
names_none (what.Missing kind ids) get = absurd (true≢false (sym get))
names_none (what.PutFs rows) get = absurd (true≢false (sym get))
names_none (what.Ids server client) get = refl
names_none (what.Limit days) get = refl
names_none what.Collect get = refl

module _ (objects : Objects) where
  -- what came under its name is stored
  abbrev IsStored : Named → Type 0
  IsStored named = (bytes : List ℕ) → named.1 ≡ Some bytes → has_name named.0 bytes ≡ true → fin.get objects named.0 ≡ Some bytes

  stored_untold : (key : Key) → IsStored (key, None)
  stored_untold key bytes is named = absurd (true≢false (sym (ap is_some is)))

  stored_misnamed : (key : Key) (bytes : List ℕ) → has_name key bytes ≡ false → IsStored (key, Some bytes)
  stored_misnamed key bytes apart other is named = absurd (true≢false (sym named ∙ sym (ap (name_test key) is) ∙ apart))

  stored_named : (key : Key) (bytes : List ℕ) → fin.get objects key ≡ Some bytes → IsStored (key, Some bytes)
  stored_named key bytes got other is named = got ∙ is

  -- ---- from what was had

  -- all of a list is stored, and the rest was had and is stored
  record StoresAll (names rest : List Named) : Type 0 where
    stored : All IsStored names
    others : List (Key × List ℕ)
    had_others : IsHadFor rest others
    has_others : HasAll objects others

  stores_more : (named : Named) (names rest : List Named) → IsStored named → StoresAll names rest → StoresAll (named ∷ names) rest
  stores_more named names rest one all = record {
    stored = All-cons IsStored named names one all.stored;
    others = all.others;
    had_others = all.had_others;
    has_others = all.has_others;
  }

  stores_all : (names rest : List Named) (had : List (Key × List ℕ)) → IsHadFor (filter_map if_named names ++ rest) had → HasAll objects had → StoresAll names rest
  stores_all [] rest had is has = record { stored = All-nil IsStored; others = had; had_others = is; has_others = has }
  stores_all ((key, None) ∷ names) rest [] is has = absurd is
  stores_all ((key, None) ∷ names) rest (one ∷ had) is has = stores_more (key, None) names rest (stored_untold key) (stores_all names rest had is.1 has.1)
  stores_all ((key, Some bytes) ∷ names) rest had is has = by (has_name key bytes) refl had is has (λ others are have. stores_all names rest others are have)
    where
      by : (b : Bool) → has_name key bytes ≡ b → (had : List (Key × List ℕ))
          → IsHadFor (cons_option (if b then Some (key, Some bytes) else None) (filter_map if_named names) ++ rest) had → HasAll objects had
          → ((others : List (Key × List ℕ)) → IsHadFor (filter_map if_named names ++ rest) others → HasAll objects others → StoresAll names rest)
          → StoresAll ((key, Some bytes) ∷ names) rest
      by true named [] is has next = absurd is
      by true named (one ∷ had) is has next =
          stores_more (key, Some bytes) names rest
          (stored_named key bytes (subst (λ (x : Key × List ℕ). fin.get objects x.0 ≡ Some x.1) is.0 has.0)) (next had is.1 has.1)
      by false apart had is has next = stores_more (key, Some bytes) names rest (stored_misnamed key bytes apart) (next had is has)

  all_got : (sends : List Sent) (had : List (Key × List ℕ)) → IsHadFor (flat_map names_in sends) had → HasAll objects had → All IsStored (flat_map got_in sends)
  all_got [] had is has = All-nil IsStored
  all_got (sent ∷ sends) had is has =
      let here : StoresAll (named_by sent.0.what ++ got_in sent) (flat_map names_in sends) = stores_all (named_by sent.0.what ++ got_in sent) (flat_map names_in sends) had is has in
      All-append IsStored (got_in sent) (flat_map got_in sends) (all_right IsStored (named_by sent.0.what) (got_in sent) here.stored)
      (all_got sends here.others here.had_others here.has_others)

  pub has_got : (sends : List Sent) (had : List (Key × List ℕ)) → IsHad sends had → HasAll objects had → HasGot objects sends
  has_got sends had is has key bytes there named = All-contains IsStored (flat_map got_in sends) (key, Some bytes) (all_got sends had is has) there bytes refl named

  -- ---- to what was had, where nothing was named but what was got

  had_stored : (names rest : List Named) (had : List (Key × List ℕ)) → IsHadFor (filter_map if_named names ++ rest) had → All IsStored names → All IsTold names
      → ((others : List (Key × List ℕ)) → IsHadFor rest others → HasAll objects others) → HasAll objects had
  had_stored [] rest had is stored told next = next had is
  had_stored ((key, None) ∷ names) rest had is stored told next = absurd (true≢false (sym (All-head IsTold (key, None) names told)))
  had_stored ((key, Some bytes) ∷ names) rest had is stored told next =
      by (has_name key bytes) refl had is
      (λ others are. had_stored names rest others are (All-tail IsStored (key, Some bytes) names stored) (All-tail IsTold (key, Some bytes) names told) next)
    where
      by : (b : Bool) → has_name key bytes ≡ b → (had : List (Key × List ℕ))
          → IsHadFor (cons_option (if b then Some (key, Some bytes) else None) (filter_map if_named names) ++ rest) had
          → ((others : List (Key × List ℕ)) → IsHadFor (filter_map if_named names ++ rest) others → HasAll objects others) → HasAll objects had
      by true named [] is others = absurd is
      by true named (one ∷ had) is others = (
        subst (λ (x : Key × List ℕ). fin.get objects x.0 ≡ Some x.1) (sym is.0) (All-head IsStored (key, Some bytes) names stored bytes refl named),
        others had is.1,
      )
      by false apart had is others = others had is

  all_had : (sends : List Sent) → All (λ (sent : Sent). is_get sent.0.what ≡ true) sends → (had : List (Key × List ℕ)) → IsHadFor (flat_map names_in sends) had
      → All IsStored (flat_map got_in sends) → HasAll objects had
  all_had [] gets [] is stored = tt
  all_had [] gets (one ∷ had) is stored = absurd is
  all_had (sent ∷ sends) gets had is stored =
      had_stored (got_in sent) (flat_map names_in sends) had
      (subst (λ (mine : List Named). IsHadFor (filter_map if_named (mine ++ got_in sent) ++ flat_map names_in sends) had)
      (names_none sent.0.what (All-head (λ (s : Sent). is_get s.0.what ≡ true) sent sends gets)) is)
      (all_left IsStored (got_in sent) (flat_map got_in sends) stored) (told_got sent.0.what sent.1)
      (λ others are. all_had sends (All-tail (λ (s : Sent). is_get s.0.what ≡ true) sent sends gets) others are (all_right IsStored (got_in sent) (flat_map got_in sends) stored))

  every_stored : (all : List Named) → ((key : Key) (bytes : List ℕ) → Contains all (key, Some bytes) → has_name key bytes ≡ true → fin.get objects key ≡ Some bytes) → All IsStored all
  every_stored all has =
      All-weaker (Contains all) IsStored
      (λ named there bytes is test. has named.0 bytes (subst (λ (o : Option (List ℕ)). Contains all (named.0, o)) is there) test) all (All-contains_itself all)

  pub got_has : (sends : List Sent) (had : List (Key × List ℕ)) → All (λ (sent : Sent). is_get sent.0.what ≡ true) sends → IsHad sends had → HasGot objects sends → HasAll objects had
  got_has sends had gets is has =
      all_had sends gets had is (every_stored (flat_map got_in sends) (λ key bytes there named. has key bytes there named))
